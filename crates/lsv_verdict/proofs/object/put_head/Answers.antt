-- The submit time goes in first, and then the texts.
use Rattle.std.proofs.Common.{◌∙◌, ap}
use Rattle.std.specs.Prelude.{codes}
use Rattle.std.proofs.lemmas.Result.{on_ok_weaker}
use Rattle.serde_json.specs.Data.{Data, put}
use Rattle.serde_json.specs.View.{members_view}
use Rattle.lsv_info.specs.Info.{text_of}
use Rattle.lsv_verdict.specs.Json.{with_text}
use Rattle.lsv_verdict.proofs.object.put_head.Goals as goal

pub returns : goal.returns
returns c =
    let info = c.args.head.now.info in
    let time = c.in_ok-put.ensures.ok ∙ ap (λ (d : Data). put (codes "submit_time") d (members_view c.args.members.now.entries)) c.in_ok-time_json.ensures in
    let one = c.in_ok-put_info.ensures ∙ ap (with_text (codes "command") (text_of info (codes "command"))) time in
    let two = c.in_ok-put_info-2.ensures ∙ ap (with_text (codes "submithost") (text_of info (codes "submithost"))) one in
    on_ok_weaker c.put_info-3.result (λ put. put ∙ ap (with_text (codes "submituser") (text_of info (codes "submituser"))) two) c.put_info-3.ensures
