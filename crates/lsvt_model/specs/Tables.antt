-- Lists of entries, of which the first with a key counts.
use Rattle.std.specs.Prelude.{Bool, if◌then◌else◌, List, [], ◌∷◌}

-- the value of a key: that of the first entry with it
abbrev pub lookup : {E K V : Type 0} → (K → K → Bool) → (E → K) → (E → V) → V → List E → K → V
lookup eq key value none [] k = none
lookup eq key value none (e ∷ entries) k = if eq k (key e) then value e else lookup eq key value none entries k
