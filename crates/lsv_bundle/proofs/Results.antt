-- What follows of results, from what is known of them.
use Rattle.std.proofs.Common.{Result, Ok, Err, OnOk, OnErr, IfErr, IsErrAnd, IsErrOf, is_err, Bool, true, false, ◌↔◌, ◌≡◌, refl, sym, subst, ap, ◌∙◌}

pub on_ok_both : {T E : Type 0} (r : Result T E) (A B C : Type 0) → (A → B → C) → OnOk r A → OnOk r B → OnOk r C
on_ok_both (Ok x) A B C follows a b = follows a b
on_ok_both (Err e) A B C follows a b = tt

pub on_ok_map : {T E : Type 0} (r : Result T E) (A B : Type 0) → (A → B) → OnOk r A → OnOk r B
on_ok_map (Ok x) A B follows a = follows a
on_ok_map (Err e) A B follows a = tt

-- what holds of a result that is an error
pub on_err_of : {T E : Type 0} (r : Result T E) (P : Type 0) → is_err r ≡ true → OnErr r P → P
on_err_of (Ok x) P e p = absurd (let no : ⊥ = cc in no)
on_err_of (Err x) P e p = p

-- what holds of a result that is none
pub on_ok_of : {T E : Type 0} (r : Result T E) (P : Type 0) → is_err r ≡ false → OnOk r P → P
on_ok_of (Ok x) P e p = p
on_ok_of (Err x) P e p = absurd (let no : ⊥ = cc in no)

-- an error that is handed on
pub if_err_is : {T E : Type 0} (r : Result T E) (e : E) (Q : E → Type 0) → IsErrAnd r (λ x. x ≡ e) → Q e → IfErr r Q
if_err_is (Ok x) e Q is q = absurd is
if_err_is {T} {E} (Err x) e Q is q = subst (λ (y : E). Q y) (sym is) q

pub err_is : {T E : Type 0} (r : Result T E) (e : E) → IsErrAnd r (λ x. x ≡ e) → r ≡ Err e
err_is (Ok x) e is = absurd is
err_is {T} {E} (Err x) e is = ap (λ (y : E). let r : Result T E = Err y in r) is

-- and is that one alone
pub same_fault : {T E : Type 0} (r : Result T E) (e d : E) → IsErrAnd r (λ x. x ≡ e) → r ≡ Err d → e ≡ d
same_fault (Ok x) e d is same = absurd is
same_fault {T} {E} (Err x) e d is same = sym is ∙ (let h : x ≡ d = cc in h)

-- what is refused with this error exactly where this is true, and isn't refused
pub not_refused : {T E : Type 0} (r : Result T E) (e : E) (x : T) (b : Bool) → (IsErrOf r e ↔ (b ≡ true)) → r ≡ Ok x → b ≡ false
not_refused r e x false refused good = refl
not_refused r e x true refused good = absurd (let h : r ≡ Err e = refused.1 refl in let no : ⊥ = cc in no)
