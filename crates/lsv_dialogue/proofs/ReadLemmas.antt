-- What a read comes to, and what a call hands on.
use Rattle.std.proofs.Common.{◌≡◌, ◌≢◌, ◌≤◌, ◌∷◌, List, [], ℕ, length, refl, sym, ◌∙◌, ap, subst, arith, nat_eq, Bool, true, false, Option, Some, None, is_some, Result, Ok, Err, ◌⊎◌, inl, inr}
use Rattle.std.proofs.lemmas.Bool.Decides.{nat_tests}
use Rattle.std.specs.Result.{IfErr, IsErrAnd}
use Rattle.lsv_dialogue.specs.declared.read.Came.{Came}
use Rattle.lsv_dialogue.specs.declared.read.Came.TheVariants as came
use Rattle.lsv_dialogue.specs.Manner.{Manner}
use Rattle.lsv_dialogue.specs.Stands.{Paused}
use Rattle.lsv_dialogue.specs.declared.ends.TheConstants.{MOST_PUT}
use Rattle.lsv_dialogue.specs.declared.ends.Wants.{Wants}
use Rattle.lsv_dialogue.specs.declared.ends.Wants.TheVariants as wants
use Rattle.lsv_dialogue.specs.declared.talk.Talk.{Talk}

-- what leaves by a `?` is the callee's fault
pub at_exit : {T E : Type 0} (P : E → Type 0) (r : Result T E) (x : E) → IsErrAnd r (λ y. y ≡ x) → P x → IfErr r P
at_exit P (Ok a) x h p = tt
at_exit P (Err e) x h p = subst P (sym h) p

-- a read that doesn't wait doesn't wait in vain
pub unwaited : false ≡ true → ⊥
unwaited e = cc

-- a read that came to something else didn't come to that
pub came_else : {E : Type 0} (r : Result Came E) (x y z : Came) → r ≡ Ok x → x ≡ y → (y ≡ z → ⊥) → r ≡ Ok z → ⊥
came_else r x y z is same other e = other (let k : x ≡ z = cc in sym same ∙ k)

-- nothing of a conversation changed but its framer, and that didn't
pub same_talk : (talk talk' : Talk) → talk' ≡ record talk { framer = talk'.framer } → talk'.framer ≡ talk.framer → talk' ≡ talk
same_talk talk talk' is e = is ∙ ap (λ (f : List ℕ). let t : Talk = record talk { framer = f } in t) e

pub empty_of : {A : Type 0} (xs : List A) → length xs ≡ 0 → xs ≡ []
empty_of [] e = refl
empty_of (x ∷ xs) e = absurd (omega (arith, e))

pub empty_by : {A : Type 0} (xs : List A) → nat_eq (length xs) 0 ≡ true → xs ≡ []
empty_by xs e = empty_of xs (zero_by (length xs) e)
  where
    zero_by : (n : ℕ) → nat_eq n 0 ≡ true → n ≡ 0
    zero_by n e = grind (arith, nat_tests)

pub some_by : {A : Type 0} (xs : List A) → nat_eq (length xs) 0 ≡ false → xs ≢ []
some_by xs e is = absurd (let x : nat_eq (length xs) 0 ≡ true = ap (λ l. nat_eq (length l) 0) is in cc)

-- a text that is there, and one that isn't
pub text_none : (o : Option (List ℕ)) → is_some o ≡ false → o ≡ None
text_none None e = refl
text_none (Some text) e = absurd cc

pub some_length : {A : Type 0} (xs : List A) → xs ≢ [] → 1 ≤ length xs
some_length [] some = absurd (some refl)
some_length (x ∷ xs) some = omega arith

-- what is not so isn't so
pub not_true : (b : Bool) → b ≡ false → b ≡ true → ⊥
not_true b off on = let k : false ≡ true = sym off ∙ on in cc

-- a speaker that wants more, or that said nothing yet and wants something, wants something
pub wants_some : (put : ℕ) (wanted : Wants) → (wanted ≡ wants.More) ⊎ ((put ≡ 0) × (wanted ≢ wants.Nothing)) → wanted ≢ wants.Nothing
wants_some put wanted (inl more) = λ none. let k : wants.More ≡ wants.Nothing = sym more ∙ none in cc
wants_some put wanted (inr some) = some.1

pub more_by : (put : ℕ) (wanted : Wants) → (wanted ≡ wants.More) ⊎ ((put ≡ 0) × (wanted ≢ wants.Nothing)) → MOST_PUT ≤ put → wanted ≡ wants.More
more_by put wanted (inl more) full = more
more_by put wanted (inr some) full = absurd (let none = some.0 in omega (arith, none, full))

-- a read failed, or it didn't
pub which_came : {E : Type 0} (r : Result Came E) (x : Came) → r ≡ Ok x → (r ≡ Ok came.Failed → ⊥) ⊎ (r ≡ Ok came.Failed)
which_came r came.More is = inl (λ e. let k : came.More ≡ came.Failed = cc in cc)
which_came r came.Nothing is = inl (λ e. let k : came.Nothing ≡ came.Failed = cc in cc)
which_came r came.End is = inl (λ e. let k : came.End ≡ came.Failed = cc in cc)
which_came r came.Failed is = inr is

-- a speaker that said sixteen messages, and one that may say nothing more
pub paused_full : {S W F : Type 0} (manner : Manner S W F) (put : ℕ) (s : S) → MOST_PUT ≤ put → manner.wants s ≡ wants.More → Paused manner false put s
paused_full manner put s full more = record { wanting = λ none. absurd (let k : wants.More ≡ wants.Nothing = sym more ∙ none in cc); still = λ e. absurd cc; full = λ e. (full, more) }

pub paused_still : {S W F : Type 0} (manner : Manner S W F) (put : ℕ) (s : S) → manner.wants s ≢ wants.Nothing → manner.quiet s → Paused manner true put s
paused_still manner put s wanting quiet = record { wanting = wanting; still = λ e. quiet; full = λ e. absurd cc }
