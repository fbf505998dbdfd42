use Rattle.std.proofs.Common.{◌++◌, ◌+◌, ◌<◌, ◌^◌, ℕ, List, length, take}
use Rattle.lsv_tally.specs.Reading.{IsAt}
use Rattle.lsv_tally.proofs.reading.Reading.take.Given as goal

-- the bytes so far are taken
abbrev pub invariant-loop-byte : goal.invariant-loop-byte
invariant-loop-byte l = (text : List ℕ) → length text + length l.bytes < 2 ^ 64 → IsAt l.initial.self.lines l.initial.self.line.items text → IsAt l.self.lines l.self.line.items (text ++ take l.byte-index l.bytes)
