-- Words that are text, and words that are identifiers.
use Rattle.std.proofs.Common.{◌≡◌, ◌∙◌, ◌++◌, ◌∷◌, ◌<◌, ℕ, zero, suc, Bool, true, false, List, [], Option, Some, None, Bor, length, map, get_or, option_map, arith, refl, sym, ap}
use Rattle.std.specs.Option.{option_and_then}
use Rattle.std.specs.Str.{IsUtf8, is_utf8}
use Rattle.std.proofs.lemmas.Str.{IsUtf8-from_is_utf8}
use Rattle.lsv_base.specs.LogNo.{log_no_in}
use Rattle.lsv_check_args.specs.Request.{numbers_in}

-- a text is text, as it is computed
pub not_text : (bytes : List ℕ) → (IsUtf8 bytes → ⊥) → false ≡ is_utf8 bytes
not_text bytes none = at (is_utf8 bytes) refl where
  at : (b : Bool) → is_utf8 bytes ≡ b → false ≡ is_utf8 bytes
  at true e = absurd (none (IsUtf8-from_is_utf8 bytes e))
  at false e = sym e

-- none of a number and of none
never : (o : Option ℕ) → option_and_then (λ number. option_map (λ numbers. number ∷ numbers) None) o ≡ None
never None = refl
never (Some number) = refl

-- one identifier more
pub one_more : (ids : List (List ℕ)) (id : List ℕ) (numbers : List ℕ) (number : ℕ) → numbers_in ids ≡ Some numbers → log_no_in id ≡ Some number → numbers_in (ids ++ id ∷ []) ≡ Some (numbers ++ number ∷ [])
one_more [] id numbers number are is =
    let none : [] ≡ numbers = cc in
    ap (option_and_then (λ n. Some (n ∷ []))) is ∙ ap (λ ns. Some (ns ++ number ∷ [])) none
one_more (first ∷ ids) id numbers number are is = by_head (log_no_in first) (numbers_in ids) refl refl are (λ ns e. one_more ids id ns number e is)
  where
    by_head : (head : Option ℕ) (rest : Option (List ℕ)) → log_no_in first ≡ head → numbers_in ids ≡ rest
        → option_and_then (λ n. option_map (λ ns. n ∷ ns) rest) head ≡ Some numbers
        → ((ns : List ℕ) → numbers_in ids ≡ Some ns → numbers_in (ids ++ id ∷ []) ≡ Some (ns ++ number ∷ []))
        → option_and_then (λ n. option_map (λ ns. n ∷ ns) (numbers_in (ids ++ id ∷ []))) (log_no_in first) ≡ Some (numbers ++ number ∷ [])
    by_head None rest at more are tail = absurd (cc)
    by_head (Some n) None at more are tail = absurd (cc)
    by_head (Some n) (Some ns) at more are tail =
        let all : n ∷ ns ≡ numbers = cc in
        ap (option_and_then (λ n. option_map (λ ns. n ∷ ns) (numbers_in (ids ++ id ∷ [])))) at ∙ ap (option_map (λ ns. n ∷ ns)) (tail ns more) ∙ ap (λ l. Some (l ++ number ∷ [])) all

-- one that is none
pub none_at : (ids : List (Bor (List ℕ))) (k : ℕ) (d : Bor (List ℕ)) → k < length ids → log_no_in (get_or ids k d).now ≡ None → numbers_in (map (λ t. t.now) ids) ≡ None
none_at [] k d lt none = absurd (omega (arith, lt))
none_at (id ∷ ids) zero d lt none = ap (option_and_then (λ n. option_map (λ ns. n ∷ ns) (numbers_in (map (λ t. t.now) ids)))) none
none_at (id ∷ ids) (suc k) d lt none =
    ap (λ r. option_and_then (λ n. option_map (λ ns. n ∷ ns) r) (log_no_in id.now)) (none_at ids k d (omega (arith, lt)) none) ∙ never (log_no_in id.now)
