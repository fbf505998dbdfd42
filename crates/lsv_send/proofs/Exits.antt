-- What a call answers, and what leaves by a `?`.
use Rattle.std.proofs.Common.{◌≡◌, ◌∙◌, ℕ, true, List, [], ◌∷◌, nat_eq, length, arith, refl, Result, Ok, Err, IfErr, OnOk, OnErr, sym, subst}
use Rattle.std.specs.Prelude.{IsErrAnd}
use Rattle.std.proofs.lemmas.Bool.Decides.{nat_tests}

-- what leaves by a `?` is the callee's fault
pub at_exit : {T E : Type 0} (P : E → Type 0) (r : Result T E) (x : E) → IsErrAnd r (λ y. y ≡ x) → P x → IfErr r P
at_exit P (Ok a) x h p = tt
at_exit P (Err e) x h p = subst P (sym h) p

zero_by : (n : ℕ) → nat_eq n 0 ≡ true → n ≡ 0
zero_by n e = grind (arith, nat_tests)

pub empty_by : {A : Type 0} (xs : List A) → nat_eq (length xs) 0 ≡ true → xs ≡ []
empty_by [] e = refl
empty_by (x ∷ xs) e = let none = zero_by (length (x ∷ xs)) e in absurd (omega (arith, none))

-- by what a call answered
pub on_both : {T E : Type 0} (r : Result T E) (P S Q R : Type 0) → OnOk r P → (S → OnOk r Q) → (P → (S → Q) → R) → OnOk r R
on_both (Ok x) P S Q R p q f = f p q
on_both (Err e) P S Q R p q f = tt

pub if_both : {T E : Type 0} (r : Result T E) (S Q : Type 0) (P R : E → Type 0) → IfErr r P → (S → OnErr r Q) → ((e : E) → r ≡ Err e → P e → (S → Q) → R e) → IfErr r R
if_both (Ok x) S Q P R p q f = tt
if_both (Err e) S Q P R p q f = f e refl p q
