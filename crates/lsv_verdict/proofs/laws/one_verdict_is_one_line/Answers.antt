use Rattle.std.proofs.Common.{◌≡◌, true}
use Rattle.lsv_event.specs.Controls.{is_uncontrolled}
use Rattle.lsv_event.specs.Events.{IsOneLine}
use Rattle.serde_json.specs.Data.{object}
use Rattle.lsv_verdict.proofs.Calm.{json_one}
use Rattle.lsv_verdict.proofs.OneVerdict.{one_text}
use Rattle.lsv_verdict.proofs.Quiet.{json_quiet}
use Rattle.lsv_verdict.specs.Json.{json_of, members_of}
use Rattle.lsv_verdict.specs.declared.verdict.Verdict.{Verdict}
use Rattle.lsv_verdict.proofs.laws.one_verdict_is_one_line.Goals as goal

json_line : (v : Verdict) → IsOneLine (json_of v)
unfolding json_of
json_line v = json_one (object (members_of v))

json_controls : (v : Verdict) → is_uncontrolled 0 (json_of v) ≡ true
unfolding json_of
json_controls v = json_quiet (object (members_of v))

pub returns-clause-text : goal.returns-clause-text
returns-clause-text c = one_text c.one_event_is_one_line.ensures.visible

pub returns-clause-json : goal.returns-clause-json
returns-clause-json c = json_line

pub returns-clause-controls : goal.returns-clause-controls
returns-clause-controls c = json_controls
