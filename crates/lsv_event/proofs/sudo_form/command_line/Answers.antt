use Rattle.std.proofs.Common.{ℕ, List, [], ◌∷◌, ◌++◌, ap, ◌∙◌}
use Rattle.std.proofs.lemmas.Result.{IfOk-weaker}
use Rattle.lsv_event.specs.SudoLine.{command_parts, joined, line_start, part_unless_empty}
use Rattle.lsv_event.proofs.sudo_form.command_line.Goals as goal

pub returns : goal.returns
returns c =
    let begun = c.in_ok-line.ensures in
    let reasoned = c.in_ok-add_unless_empty.ensures _ _ begun in
    let told = c.in_ok-put_command.ensures _ _ reasoned in
    IfOk-weaker c.end.result _ _ (λ line is. is ∙ ap (λ (who : List ℕ). line_start c.args.head.now.submit who ++ joined (part_unless_empty [] c.args.reason.now ++ command_parts c.args.log c.args.head.now.info) ++ 10 ∷ []) c.user_in.ensures) (c.end.ensures _ _ told)
