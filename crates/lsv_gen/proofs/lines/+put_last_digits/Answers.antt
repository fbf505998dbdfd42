use Rattle.std.proofs.Common.{◌∙◌, ◌++◌, ◌∷◌, ◌+◌, ◌%◌, [], ap, arith, append_assoc}
use Rattle.lsv_gen.proofs.Sums.{digits_more, digits_none}
use Rattle.lsv_gen.proofs.lines.+put_last_digits.Goals as goal
use Rattle.std.proofs.lemmas.Result.{on_ok_weaker}

pub returns-then-count-eq0 : goal.returns-then-count-eq0
returns-then-count-eq0 t c = digits_none c.args.count c.args.n c.args.out.now c.if-count-eq0.true

pub returns : goal.returns
returns t c =
    let more = digits_more c.args.count c.args.n (omega arith) in
    on_ok_weaker c.add.result (λ put. put ∙ ap (λ out. out ++ (48 + c.args.n % 10) ∷ []) c.in_ok-put_last_digits.ensures ∙ append_assoc c.args.out.now _ _ ∙ ap (λ digits. c.args.out.now ++ digits) more) c.add.ensures.ok
