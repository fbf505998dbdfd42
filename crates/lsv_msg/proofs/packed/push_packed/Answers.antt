use Rattle.std.proofs.Common.{arith}
use Rattle.std.proofs.lemmas.Result.{err_from_is_err_and}
use Rattle.lsv_msg.proofs.Varints.{goes_on, fails, ends}
use Rattle.lsv_msg.proofs.packed.push_packed.Goals as goal

pub returns-in_err-bits : goal.returns-in_err-bits
returns-in_err-bits c =
    let p = err_from_is_err_and c.from_residual.result c.from_residual.ensures.1 in
    rw (p.1, p.2) (fails c.args.text.now c.args.key c.loop-at.at c.in_err-bits.field-0.0 c.loop-at.numbers _ c.loop-at-test.true c.in_err-bits.ensures.exact c.loop-at.invariant.same)

pub loop-at-preserved : goal.loop-at-preserved
loop-at-preserved c = record {
  within = omega (arith, c.in_ok-bits.ensures.forward);
  same = rw c.in_ok-push_number.ensures.ok (goes_on c.args.text.now c.args.key c.loop-at.at c.in_ok-bits.bits c.in_ok-bits.next c.loop-at.numbers _ c.loop-at-test.true c.in_ok-bits.ensures.exact c.loop-at.invariant.same);
}

pub returns : goal.returns
returns c = ends c.args.text.now c.args.key c.loop-at.at c.loop-at.numbers _ c.loop-at-test.false c.loop-at.invariant.same
