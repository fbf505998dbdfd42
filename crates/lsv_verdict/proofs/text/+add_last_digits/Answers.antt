use Rattle.std.proofs.Common.{◌∙◌, ◌++◌, ◌∷◌, ◌+◌, ◌%◌, [], ap, arith, append_assoc}
use Rattle.std.proofs.lemmas.Result.{on_ok_weaker}
use Rattle.lsv_verdict.proofs.Digits.{digits_more, digits_none}
use Rattle.lsv_verdict.proofs.text.+add_last_digits.Goals as goal

pub returns-then-count-eq0 : goal.returns-then-count-eq0
returns-then-count-eq0 t c = digits_none c.args.count c.args.n c.args.line.now c.if-count-eq0.true

pub returns : goal.returns
returns t c =
    let more = digits_more c.args.count c.args.n (omega arith) in
    on_ok_weaker c.add.result (λ put. put ∙ ap (λ line. line ++ (48 + c.args.n % 10) ∷ []) c.in_ok-add_last_digits.ensures ∙ append_assoc c.args.line.now _ _ ∙ ap (λ digits. c.args.line.now ++ digits) more) c.add.ensures.ok
