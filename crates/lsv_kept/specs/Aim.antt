-- What a relaying aims at.
use Rattle.std.specs.Prelude.{ℕ, List, [], ◌∷◌, ◌++◌}

-- the host that a log goes to, as the settings spell it, and the elapsed time of the log, in nanoseconds
pub record AimView : Type 0 where
  pub host : List ℕ
  pub total : ℕ

-- how a host is named before the identifier: by its text and a line feed
abbrev pub line_of : List ℕ → List ℕ
line_of host = host ++ 10 ∷ []
