use Rattle.std.proofs.Common.{◌≡◌, ◌++◌, take, drop}
use Rattle.lsv_machine.specs.Machine.{insert_once}
use Rattle.lsv_machine.proofs.waiting.insert_once.Given as goal

abbrev pub invariant-loop-place : goal.invariant-loop-place
invariant-loop-place l = take l.place l.other-items ++ insert_once l.number (drop l.place l.other-items) ≡ insert_once l.number l.other-items
