-- Calls that failed stay counted.
use Rattle.std.proofs.Common.{◌≤◌}
use Rattle.lsvt_rows_replay.proofs.outside.ActsOthersHostile.act.Given as goal

abbrev pub invariant-writes : goal.invariant-writes
invariant-writes g l = l.fn.disk.faults ≤ l.disk.faults
