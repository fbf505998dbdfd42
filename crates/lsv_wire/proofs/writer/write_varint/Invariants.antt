use Rattle.lsv_wire.proofs.Writing.{IsWriting}
use Rattle.lsv_wire.proofs.writer.write_varint.Given as goal

abbrev pub invariant-loop-rest : goal.invariant-loop-rest
invariant-loop-rest l = IsWriting l.initial.bytes l.at l.v l.bytes l.end l.rest

abbrev pub decreases-loop-rest : goal.decreases-loop-rest
decreases-loop-rest l = l.rest
