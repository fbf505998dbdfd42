use Rattle.std.proofs.Common.{◌≡◌, ◌+◌, length}
use Rattle.sudo_logsrvd.proofs.ports.Given as goal

abbrev pub invariant-loop-place : goal.invariant-loop-place
invariant-loop-place l = length l.ports.items + 1 ≡ l.place
