use Rattle.std.proofs.Common.{◌≡◌, take}
use Rattle.std.specs.List.{flat_map}
use Rattle.std.specs.Int.{w64, cast_unsigned}
use Rattle.lsv_wire.specs.Varint.{varint}
use Rattle.lsv_msg.proofs.put.varints.Given as goal

abbrev pub invariant-loop-n : goal.invariant-loop-n
invariant-loop-n l = l.out ≡ flat_map (λ n. varint (cast_unsigned w64 n)) (take l.n-index l.numbers)
