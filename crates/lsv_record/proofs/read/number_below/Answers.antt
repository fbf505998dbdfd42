use Rattle.std.proofs.Common.{◌≡◌, arith, sym, ◌∙◌}
use Rattle.std.proofs.lemmas.Fmt.{decimal_injective}
use Rattle.lsv_record.proofs.read.number_below.Goals as goal

pub returns-else-number-limit : goal.returns-else-number-limit
returns-else-number-limit c = λ n small is.
    let same : c.in_ok-number.number ≡ n = decimal_injective c.in_ok-number.number n (omega arith) (omega arith) (sym c.in_ok-number.ensures.1 ∙ is) in
    omega arith
