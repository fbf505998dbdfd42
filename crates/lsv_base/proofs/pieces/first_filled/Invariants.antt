use Rattle.std.proofs.Common.{◌≡◌, ◌-◌, length, drop}
use Rattle.lsv_base.specs.MemSource.{from_filled}
use Rattle.lsv_base.proofs.pieces.first_filled.Given as goal

abbrev pub invariant-loop-place : goal.invariant-loop-place
invariant-loop-place l = from_filled (drop l.place l.pieces) ≡ from_filled (drop l.from l.pieces)

abbrev pub decreases-loop-place : goal.decreases-loop-place
decreases-loop-place l = length l.pieces - l.place
