-- What holds of each line.
use Rattle.std.specs.Prelude.{ℕ, ◌<◌, List, All, Option, Some, None}

-- a digest, if there is one, is of bytes
abbrev pub AreBytes : Option (List ℕ) → Type 0
AreBytes None = Unit {0}
AreBytes (Some digest) = All (λ byte. byte < 256) digest
