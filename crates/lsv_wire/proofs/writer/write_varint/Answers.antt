use Rattle.std.proofs.Common.{arith}
use Rattle.lsv_wire.proofs.Writing.{IsWriting-more, IsWriting-end}
use Rattle.lsv_wire.proofs.writer.write_varint.Goals as goal

pub loop-rest-preserved : goal.loop-rest-preserved
loop-rest-preserved c = IsWriting-more _ _ _ _ _ _ c.loop-rest.invariant c.ranges.v.fits (omega arith) c.loop-rest-test.true

pub returns-clause-written : goal.returns-clause-written
returns-clause-written c = IsWriting-end _ _ _ _ _ _ c.loop-rest.invariant (omega arith) c.loop-rest-test.false
