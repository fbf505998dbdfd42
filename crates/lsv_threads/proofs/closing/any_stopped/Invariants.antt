use Rattle.std.proofs.Common.{◌≡◌, ◌<◌, ℕ, false}
use Rattle.std.specs.Prelude.{slice_index_or}
use Rattle.lsv_threads.proofs.closing.any_stopped.Given as goal

abbrev pub invariant-loop-stopped : goal.invariant-loop-stopped
invariant-loop-stopped l = (w : ℕ) → w < l.stopped-index → slice_index_or l.stops w false ≡ false
