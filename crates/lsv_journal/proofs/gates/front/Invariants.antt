use Rattle.std.proofs.Common.{◌≡◌, ℕ, ◌-◌, ◌<◌, ◌≤◌, true, length}
use Rattle.lsv_journal.specs.Gates.{place, is_whole}
use Rattle.lsv_journal.proofs.gates.front.Given as goal

abbrev pub invariant-loop-end : goal.invariant-loop-end
invariant-loop-end l = ((entries : ℕ) × (l.end ≡ place l.size entries) × ((i : ℕ) → i < entries → is_whole l.size l.bytes i ≡ true)) × (l.end ≤ length l.bytes)

abbrev pub decreases-loop-end : goal.decreases-loop-end
decreases-loop-end l = length l.bytes - l.end
