-- Truth values.
use Rattle.std.proofs.Common.{◌≡◌, ◌⊎◌, ◌||◌, Bool, true, false, refl, inl, inr}

pub true_or : (b : Bool) → (b ≡ false → ⊥) → b ≡ true
true_or true not_so = refl
true_or false not_so = absurd (not_so refl)

pub false_or : (b : Bool) → (b ≡ true → ⊥) → b ≡ false
false_or true not_so = absurd (not_so refl)
false_or false not_so = refl

pub or_here : (b c : Bool) → b ≡ true → (b || c) ≡ true
or_here true c e = refl
or_here false c e = absurd (cc)

pub or_later : (b c : Bool) → c ≡ true → (b || c) ≡ true
or_later true c e = refl
or_later false c e = e

pub or_front : (b c d : Bool) → (c ≡ true → d ≡ true) → (b || c) ≡ true → (b || d) ≡ true
or_front true c d so e = refl
or_front false c d so e = so e

pub true_or_false : (b : Bool) → (b ≡ true) ⊎ (b ≡ false)
true_or_false true = inl refl
true_or_false false = inr refl
