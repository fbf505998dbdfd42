-- Where the log of a number stands among the open ones.
use Rattle.std.proofs.Common.{◌≡◌, ◌==◌, ◌<◌, ℕ, cond, zero, suc, Bool, true, false, nat_eq, List, [], ◌∷◌, length, get_or, slice_get, position, Option, Some, None, IfSome, refl, sym, ap, ◌∙◌, arith}
use Rattle.std.specs.Bool.{OnTrue}
use Rattle.std.specs.HashMap as hash
use Rattle.std.specs.Map.{keys_of, values_of}
use Rattle.std.proofs.lemmas.Bool.Decides.{nat_tests}
use Rattle.std.proofs.lemmas.List.Quantifiers.{position-Some}
use Rattle.std.proofs.lemmas.Map.Entries.{lookup_from_place}
use Rattle.std.specs.Cmp.{nat_eq_equiv}
use Rattle.indexmap.proofs.CallerLemmas.{updates-with_value_at}
use Rattle.indexmap.specs.IndexMap.{IndexMap, IsUnique, with_value_at}
use Rattle.lsv_keeper.specs.Logs.{with_open}
use Rattle.lsv_keeper.specs.declared.logs.OpenLog.{OpenLog}
use Rattle.lsv_keeper.proofs.Opens.{put_at}

-- what holds where a test passes
on_true : (t : Bool) (P : Type 0) → (t ≡ true → P) → OnTrue t P
on_true true P f = f refl
on_true false P f = tt

-- two numbers that are one by their test
same_number : (a b : ℕ) → nat_eq a b ≡ true → a ≡ b
same_number a b e = grind (arith, nat_tests)

-- the entry at a place, if it has this number
pub has_number : (es : List (ℕ × OpenLog)) (place found log asked : ℕ) (its : OpenLog) → slice_get es place ≡ Some (found, its) → asked ≡ log
    → OnTrue (nat_eq found asked) ((o : OpenLog) × (slice_get es place ≡ Some (log, o)))
has_number es place found log asked its at is = on_true (nat_eq found asked) _ (λ e. (its, at ∙ ap (λ (k : ℕ). Some (k, its)) (same_number found asked e ∙ is)))

-- the entry at the place of a key
at_key : (es : List (ℕ × OpenLog)) (i n d : ℕ) → i < length (keys_of es) → nat_eq n (get_or (keys_of es) i d) ≡ true → (o : OpenLog) × (slice_get es i ≡ Some (n, o))
at_key [] i n d less is = absurd (omega (arith, less))
at_key (e ∷ es) zero n d less is = (e.1, ap (λ (k : ℕ). Some (k, e.1)) (sym (same_number n e.0 is)))
at_key (e ∷ es) (suc i) n d less is = at_key es i n d (omega (arith, less)) is

-- so where a look-up finds it
pub found_at : (es : List (ℕ × OpenLog)) (log asked : ℕ) (r : Option ℕ) → r ≡ position (nat_eq asked) (keys_of es) → asked ≡ log → IfSome r (λ i. (o : OpenLog) × (slice_get es i ≡ Some (log, o)))
found_at es log asked None e is = tt
found_at es log asked (Some i) e is =
    let p = position-Some (nat_eq asked) (keys_of es) i 0 (sym e) in
    let (o, at) = at_key es i asked 0 p.0 p.1 in
    (o, at ∙ ap (λ (k : ℕ). Some (k, o)) is)

some_is : (a b : OpenLog) → Some a ≡ Some b → a ≡ b
some_is a b e = cc

-- the value at its place is its
value_is : (es : List (ℕ × OpenLog)) (i n : ℕ) (o its : OpenLog) → slice_get es i ≡ Some (n, o) → Some its ≡ slice_get (values_of es) i → o ≡ its
value_is [] i n o its at is = absurd (let e : None ≡ Some (n, o) = at in cc)
value_is (e ∷ es) zero n o its at is = let here : Some e ≡ Some (n, o) = at in let same : e ≡ (n, o) = cc in sym (some_is its o (is ∙ ap (λ (x : ℕ × OpenLog). Some x.1) same))
value_is (e ∷ es) (suc i) n o its at is = value_is es i n o its at is

-- so the entry at the place of a number has that value
pub entry_is : (es : List (ℕ × OpenLog)) (i n : ℕ) (its : OpenLog) → (o : OpenLog) × (slice_get es i ≡ Some (n, o)) → Some its ≡ slice_get (values_of es) i → slice_get es i ≡ Some (n, its)
entry_is es i n its (o, at) is = at ∙ ap (λ (x : OpenLog). Some (n, x)) (value_is es i n o its at is)

-- the log of a number in a map
abbrev in_map : {S : Type 0} → IndexMap ℕ OpenLog S → ℕ → Option OpenLog
in_map m n = hash.get nat_eq m n

same_test : (a b : ℕ) → (a == b) ≡ true → a ≡ b
same_test a b e = grind (arith, nat_tests)

module _ {S : Type 0} (m : IndexMap ℕ OpenLog S) (place log : ℕ) (its : OpenLog) (unique : IsUnique nat_eq m) (at : slice_get m.entries place ≡ Some (log, its)) where
  -- it is that of its number
  pub is_open : in_map m log ≡ Some its
  is_open = lookup_from_place nat_eq_equiv m.entries place log its unique at

  -- and what is written there is its
  pub written_at : (after : OpenLog) → in_map (with_value_at m place after) ≡ with_open log (Some after) (in_map m)
  written_at after = put_at (in_map m) (in_map (with_value_at m place after)) log log (Some after) refl (updates-with_value_at m place after nat_eq_equiv unique log its at).0

  stays_there : (n : ℕ) (t : Bool) → (t ≡ true → in_map m n ≡ Some its) → cond t (Some its) (in_map m n) ≡ in_map m n
  stays_there n true f = sym (f refl)
  stays_there n false f = refl

  -- where it is written again as it is, nothing is changed
  pub written_again : in_map (with_value_at m place its) ≡ in_map m
  written_again = written_at its ∙ (λ i n. stays_there n (n == log) (λ e. ap (in_map m) (same_test n log e) ∙ is_open) i)
