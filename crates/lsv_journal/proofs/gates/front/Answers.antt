use Rattle.std.proofs.Common.{arith}
use Rattle.std.proofs.lemmas.Bool.{both_ways}
use Rattle.lsv_journal.proofs.Fronts.{whole_one, whole_all}
use Rattle.lsv_journal.proofs.gates.front.Goals as goal

pub loop-end-preserved : goal.loop-end-preserved
loop-end-preserved c =
    let here = c.is_entry.ensures.0 c.loop-end-test.true in
    (whole_one c.args.size c.loop-end.end c.args.bytes.now c.loop-end.invariant.0 here.0 here.1, omega (arith, here.1))

pub returns-clause-takes : goal.returns-clause-takes
returns-clause-takes c =
    whole_all c.args.size c.loop-end.end c.args.bytes.now c.loop-end.invariant.0 (λ is. both_ways c.is_entry.result c.loop-end-test.false (c.is_entry.ensures.1 is))
