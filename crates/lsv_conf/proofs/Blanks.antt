-- Blanks at the ends of a text.
use Rattle.std.proofs.Common.{◌≡◌, ◌∙◌, ℕ, Bool, true, false, ◌&&◌, List, [], ◌∷◌, ◌++◌, length, ap, refl, cond, arith}
use Rattle.lsv_conf.specs.Texts.{is_blank, is_empty, without_end}

and_true : (a b : Bool) → a ≡ true → b ≡ true → (a && b) ≡ true
and_true a b p q = rw (p, q) refl

is_empty-push : (bytes : List ℕ) (b : ℕ) → is_empty (bytes ++ b ∷ []) ≡ false
is_empty-push [] b = refl
is_empty-push (x ∷ bytes) b = refl

and_false : (a : Bool) → (a && false) ≡ false
and_false true = refl
and_false false = refl

-- a blank at the end is taken off
pub without_end_blank : (bytes : List ℕ) (b : ℕ) → is_blank b ≡ true → without_end (bytes ++ b ∷ []) ≡ without_end bytes
without_end_blank [] b blank = rw blank refl
without_end_blank (x ∷ bytes) b blank = ap (λ rest. cond (is_blank x && is_empty rest) [] (x ∷ rest)) (without_end_blank bytes b blank)

-- another byte at the end stays
pub without_end_other : (bytes : List ℕ) (b : ℕ) → is_blank b ≡ false → without_end (bytes ++ b ∷ []) ≡ bytes ++ b ∷ []
without_end_other [] b other = rw other refl
without_end_other (x ∷ bytes) b other =
    ap (λ rest. cond (is_blank x && is_empty rest) [] (x ∷ rest)) (without_end_other bytes b other)
    ∙ ap (λ t. cond (is_blank x && t) [] (x ∷ (bytes ++ b ∷ []))) (is_empty-push bytes b)
    ∙ ap (λ t. cond t [] (x ∷ (bytes ++ b ∷ []))) (and_false (is_blank x))

pub none_left : (bytes : List ℕ) → length bytes ≡ 0 → bytes ≡ []
none_left [] e = refl
none_left (b ∷ bytes) e = absurd (omega arith)
