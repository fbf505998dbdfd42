use Rattle.lsv_record.proofs.Numerals.{SoFar}
use Rattle.lsv_record.proofs.read.digits_in.Given as goal

-- what the digits so far stand for
abbrev pub invariant-loop-byte : goal.invariant-loop-byte
invariant-loop-byte l = SoFar l.text l.byte-index l.number
