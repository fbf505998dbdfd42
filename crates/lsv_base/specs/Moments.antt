-- The moments that a clock in memory has still to tell.
use Rattle.std.specs.Prelude.{List, [], ◌∷◌, IsSome}
use Rattle.lsv_base.specs.declared.time.TimeSpec.{TimeSpec}
use Rattle.lsv_base.specs.Time.{nanos_of}

-- a valid time
abbrev pub IsValid : TimeSpec → Type 0
IsValid t = IsSome (nanos_of t)

-- the moments that are left once the first was told: the last one is told again for good
abbrev pub moments_left : List TimeSpec → List TimeSpec
moments_left [] = []
moments_left (moment ∷ []) = moment ∷ []
moments_left (moment ∷ next ∷ moments) = next ∷ moments
