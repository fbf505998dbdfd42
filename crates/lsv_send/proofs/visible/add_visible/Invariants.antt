use Rattle.std.proofs.Common.{◌≡◌, ◌++◌, drop}
use Rattle.lsv_send.specs.Visible.{visible}
use Rattle.lsv_send.proofs.visible.add_visible.Given as goal

-- what is put and what is left after this byte make the whole
abbrev pub invariant-loop-byte : goal.invariant-loop-byte
invariant-loop-byte l = l.out ++ visible l.before (drop l.byte-index l.text) ≡ l.initial.out ++ visible 0 l.text
