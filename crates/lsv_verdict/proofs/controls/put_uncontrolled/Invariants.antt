use Rattle.std.proofs.Common.{◌≡◌, ◌++◌, drop}
use Rattle.lsv_event.specs.Controls.{uncontrolled}
use Rattle.lsv_verdict.proofs.controls.put_uncontrolled.Given as goal

-- what is put and what is left after this byte make the whole
abbrev pub invariant-loop-byte : goal.invariant-loop-byte
invariant-loop-byte l = l.out.items ++ uncontrolled l.before (drop l.byte-index l.text) ≡ l.initial.out.items ++ uncontrolled 0 l.text
