use Rattle.std.proofs.Common.{◌≡◌, length}
use Rattle.sudo_logsrvd.proofs.bays_beside.Given as goal

abbrev pub invariant-loop-place : goal.invariant-loop-place
invariant-loop-place g l = length l.bays.items ≡ l.place
