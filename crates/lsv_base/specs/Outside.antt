-- What each call of the outside that may fail keeps, and why it failed.
use Rattle.std.specs.Prelude.{ℕ, ◌≤◌}
use Rattle.lsv_defs.specs.Causes.{HasRisen}

-- the count of faults didn't fall, and it rose where the call failed
pub record HasCause (failed : Type 0) (old new : ℕ) : Type 0 where
  pub monotone : old ≤ new
  pub risen : failed → HasRisen old new
