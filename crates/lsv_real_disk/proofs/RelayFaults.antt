-- The faults of a relay's disk are those of its two disks together: a call of one of them has its cause there.
use Rattle.std.proofs.Common.{◌+◌, ◌≡◌, ◌<◌, ◌≤◌, ◌-◌, ℕ, arith}
use Rattle.lsv_defs.specs.Causes.{HasRisen}
use Rattle.lsv_disk.specs.declared.file.FileId.{FileId}
use Rattle.lsv_disk.specs.View.{HasCause, HasOwnCause}
use Rattle.lsv_real_disk.specs.Untold.{untold}

-- a count that rose beside one that stayed
pub first_rose : (before now other : ℕ) → HasRisen before now → HasRisen (before + other) (now + other)
first_rose before now other rose below = let less : before < now = rose (omega (arith, below)) in omega (arith, less)

pub second_rose : (other before now : ℕ) → HasRisen before now → HasRisen (other + before) (other + now)
second_rose other before now rose below = let less : before < now = rose (omega (arith, below)) in omega (arith, less)

-- a call of the disk of the own files
pub own_cause : (f : FileId) (failed : Type 0) (before now other : ℕ) → HasCause f failed (untold before) (untold now) → HasCause f failed (untold (before + other)) (untold (now + other))
own_cause f failed before now other cause = record {
  monotone = λ g. let more : before ≤ now = cause.monotone g in omega (arith, more);
  risen = λ bad. first_rose before now other (cause.risen bad);
}

-- a call of the disk of the other files
pub other_cause : (f : FileId) (failed : Type 0) (own before now : ℕ) → HasCause f failed (untold before) (untold now) → HasCause f failed (untold (own + before)) (untold (own + now))
other_cause f failed own before now cause = record {
  monotone = λ g. let more : before ≤ now = cause.monotone g in omega (arith, more);
  risen = λ bad. second_rose own before now (cause.risen bad);
}

-- the same of a call on several files
pub own_causes : (Own : FileId → Type 0) (failed : Type 0) (before now other : ℕ) → HasOwnCause Own failed (untold before) (untold now) → HasOwnCause Own failed (untold (before + other)) (untold (now + other))
own_causes Own failed before now other cause = record {
  monotone = λ g. let more : before ≤ now = cause.monotone g in omega (arith, more);
  risen = λ bad. let at = cause.risen bad in (at.0, at.1, first_rose before now other at.2);
}

pub other_causes : (Own : FileId → Type 0) (failed : Type 0) (own before now : ℕ) → HasOwnCause Own failed (untold before) (untold now) → HasOwnCause Own failed (untold (own + before)) (untold (own + now))
other_causes Own failed own before now cause = record {
  monotone = λ g. let more : before ≤ now = cause.monotone g in omega (arith, more);
  risen = λ bad. let at = cause.risen bad in (at.0, at.1, second_rose own before now at.2);
}
