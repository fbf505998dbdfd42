use Rattle.std.proofs.Common.{◌≡◌, ℕ, List, [], ◌∷◌, ◌++◌, ap, ◌∙◌}
use Rattle.std.proofs.lemmas.Result.{IfOk-weaker}
use Rattle.lsv_event.specs.Events.{peer_text}
use Rattle.lsv_event.specs.SudoLine.{exit_parts, joined, line_start}
use Rattle.lsv_event.proofs.sudo_form.exit_line.Goals as goal

pub returns : goal.returns
returns c =
    let begun = c.in_ok-line.ensures in
    let told = c.in_ok-put_exit.ensures _ _ begun in
    let who : c.as_slice.result.now ≡ peer_text c.args.peer = c.as_slice.ensures ∙ c.in_ok-who.ensures in
    IfOk-weaker c.end.result _ _ (λ line is. is ∙ ap (λ (w : List ℕ). line_start c.args.at w ++ joined (exit_parts c.args.log c.args.exit.now) ++ 10 ∷ []) who) (c.end.ensures _ _ told)
