use Rattle.std.proofs.Common.{◌≡◌}
use Rattle.lsv_bundle.specs.declared.shape.Shape.TheVariants.{Log}
use Rattle.lsvt_bench.proofs.flushes.flush_all.Given as goal

-- it is the bundle of a log
abbrev pub invariant-loop-i : goal.invariant-loop-i
invariant-loop-i o l = l.bundle.shape ≡ Log
