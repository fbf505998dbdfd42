-- The moments that a clock has still to tell, one moment further.
use Rattle.std.proofs.Common.{◌≡◌, ℕ, zero, suc, ◌+◌, ◌<◌, List, [], ◌∷◌, length, drop, refl, arith}
use Rattle.lsv_base.specs.declared.time.TimeSpec.{TimeSpec}
use Rattle.lsv_base.specs.Moments.{moments_left}

-- where a further moment is left, the moments left are those after the first
pub moments_left-drop : (moments : List TimeSpec) (i : ℕ) → i + 1 < length moments → moments_left (drop i moments) ≡ drop (i + 1) moments
moments_left-drop [] i h = absurd (omega arith)
moments_left-drop (m ∷ []) i h = absurd (omega arith)
moments_left-drop (m ∷ n ∷ moments) zero h = refl
moments_left-drop (m ∷ n ∷ moments) (suc i) h = grind (arith, moments_left-drop (n ∷ moments) i (omega arith))
