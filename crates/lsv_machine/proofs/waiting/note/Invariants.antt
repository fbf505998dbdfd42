use Rattle.std.proofs.Common.{◌≡◌, ◌++◌, take, drop}
use Rattle.lsv_machine.specs.Machine.{note}
use Rattle.lsv_machine.proofs.waiting.note.Given as goal

abbrev pub invariant-loop-other : goal.invariant-loop-other
invariant-loop-other l = take l.other-index l.other-items ++ note l.conn (drop l.other-index l.other-items) ≡ note l.conn l.other-items
