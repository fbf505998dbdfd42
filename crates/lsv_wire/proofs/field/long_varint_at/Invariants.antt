use Rattle.lsv_wire.proofs.Varints.{IsReadTo}
use Rattle.lsv_wire.proofs.field.long_varint_at.Given as goal

abbrev pub invariant-loop-i : goal.invariant-loop-i
invariant-loop-i l = IsReadTo l.text l.i l.value
