use Rattle.std.proofs.Common.{◌≡◌, ◌++◌, take}
use Rattle.lsv_event.specs.Escapes.{escaped}
use Rattle.lsv_event.proofs.escape.put_escaped.Given as goal

-- the bytes before this one are put
abbrev pub invariant-loop-byte : goal.invariant-loop-byte
invariant-loop-byte l = l.out.items ≡ l.initial.out.items ++ escaped (take l.byte-index l.text)
