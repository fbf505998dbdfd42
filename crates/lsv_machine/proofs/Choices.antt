-- Two numbers, two connections, an option: which case it is, with the value of its test.
use Rattle.std.proofs.Common.{◌≡◌, ◌≢◌, ℕ, refl, ◌∙◌, ap, subst, arith, Option, Some, None}
use Rattle.std.specs.Prelude.{◌==◌, Bool, true, false}
use Rattle.std.proofs.lemmas.Bool.Decides.{nat_tests}
use Rattle.lsv_session.specs.declared.connection.ConnId.{ConnId}
use Rattle.lsv_machine.specs.Machine.{same}

pub data SameOr (a b : ConnId) : Type 0 where
  alike : a ≡ b → same a b ≡ true → SameOr a b
  apart : a ≢ b → same a b ≡ false → SameOr a b

pub same_refl : (a : ConnId) → same a a ≡ true
same_refl a = grind (arith, nat_tests)

pub same_true : (a b : ConnId) → same a b ≡ true → a ≡ b
same_true a b e =
    let p : a.worker ≡ b.worker = grind (arith, nat_tests) in
    let q : a.seq ≡ b.seq = grind (arith, nat_tests) in
    let on_worker : ℕ → ConnId = λ w. record { worker = w; seq = a.seq } in
    let on_seq : ℕ → ConnId = λ n. record { worker = b.worker; seq = n } in
    ap on_worker p ∙ ap on_seq q

pub same_or : (a b : ConnId) → SameOr a b
same_or a b = go (same a b) refl
  where
    go : (t : Bool) → same a b ≡ t → SameOr a b
    go true e = alike (same_true a b e) e
    go false e = apart (λ p. let f : same a b ≡ true = subst (λ x. same a x ≡ true) p (same_refl a) in cc) e

pub data EqOr (a b : ℕ) : Type 0 where
  equal : a ≡ b → (a == b) ≡ true → EqOr a b
  unequal : a ≢ b → (a == b) ≡ false → EqOr a b

pub eq_or : (a b : ℕ) → EqOr a b
eq_or a b = go (a == b) refl
  where
    go : (t : Bool) → (a == b) ≡ t → EqOr a b
    go true e = equal (grind (arith, nat_tests)) e
    go false e = unequal (grind (arith, nat_tests)) e

pub data SomeOr {A : Type 0} (o : Option A) : Type 0 where
  nothing : o ≡ None → SomeOr o
  just : (x : A) → o ≡ Some x → SomeOr o

pub some_or : {A : Type 0} (o : Option A) → SomeOr o
some_or None = nothing refl
some_or (Some x) = just x refl
