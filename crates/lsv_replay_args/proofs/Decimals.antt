-- What `parse` says of the digits of a number.
use Rattle.std.proofs.Common.{◌≡◌, ◌∙◌, ℕ, zero, suc, ◌-◌, ◌*◌, ◌<◌, ◌≤◌, ◌^◌, Bool, true, false, ◌&&◌, cond, not, List, [], ◌∷◌, length, Some, None, get_or, refl, sym, ap, arith, nat_lt, nat_le, Result, Ok, Err}
use Rattle.std.specs.Char.{is_ascii_digit}
use Rattle.std.specs.Result.{OkIff, result_ok}
use Rattle.std.specs.Str.{IsUtf8, IsAscii, all_ascii_digits}
use Rattle.std.specs.Str.Parse.{ParsesUnsigned, digits_value}
use Rattle.std.proofs.lemmas.Bool.Decides.{nat_tests}
use Rattle.std.proofs.lemmas.Str.{IsUtf8-from_ascii}
use Rattle.std.proofs.lemmas.Str.Ascii.{IsAscii-nil, IsAscii-cons}
use Rattle.std.proofs.lemmas.Str.Parse.{IsNumeralModel, digits_value_short, parse_plain, tells_all_ascii_digits, numerals_by_value}
use Rattle.lsv_replay_args.specs.Texts.{is_empty}
use Rattle.lsv_replay_args.specs.Decimal.{digits_in, fraction_in, is_digits}

own : IsNumeralModel (λ digits. all_ascii_digits digits ≡ true) (digits_value 10)
own = numerals_by_value _ tells_all_ascii_digits

digit_low : (b : ℕ) → is_ascii_digit b ≡ true → b < 128
digit_low b e = grind (arith, nat_tests)

and_left : (a b : Bool) → (a && b) ≡ true → a ≡ true
and_left true b e = refl
and_left false b e = e

and_right : (a b : Bool) → (a && b) ≡ true → b ≡ true
and_right true b e = e
and_right false b e = absurd (cc)

both : (a b : Bool) → a ≡ true → b ≡ true → (a && b) ≡ true
both a b p q = rw (p, q) refl

digits_ascii : (digits : List ℕ) → all_ascii_digits digits ≡ true → IsAscii digits
digits_ascii [] e = IsAscii-nil
digits_ascii (b ∷ digits) e = IsAscii-cons b digits (digit_low b (and_left _ _ e)) (digits_ascii digits (and_right _ _ e))

below : (m n : ℕ) → m < n → nat_lt m n ≡ true
below m n h = grind (arith, nat_tests)

is_below : (m n : ℕ) → nat_lt m n ≡ true → m < n
is_below m n e = grind (arith, nat_tests)

chosen : (t : Bool) (v : ℕ) → t ≡ true → cond t (Some v) None ≡ Some v
chosen t v e = rw e refl

-- a test of digits: there are some, all are digits, and the number is small
abbrev is_small : List ℕ → Bool
is_small digits = is_digits digits && nat_lt (digits_value 10 digits) (2 ^ 64)

not_text_by : (digits : List ℕ) (t : Bool) → is_small digits ≡ t → (IsUtf8 digits → ⊥) → None ≡ cond t (Some (digits_value 10 digits)) None
not_text_by digits true e bad = absurd (bad (IsUtf8-from_ascii digits (digits_ascii digits (and_right (not (is_empty digits)) (all_ascii_digits digits) (and_left (is_digits digits) _ e)))))
not_text_by digits false e bad = refl

-- what isn't text is no number
pub number_not_text : (digits : List ℕ) → (IsUtf8 digits → ⊥) → None ≡ digits_in digits
number_not_text digits bad = not_text_by digits (is_small digits) refl bad

failed_by : {E : Type 0} (digits : List ℕ) (e : E) (t : Bool) → is_small digits ≡ t → OkIff {T = ℕ} (Err e) ((all_ascii_digits digits ≡ true) × (0 < length digits) × (digits_value 10 digits < 2 ^ 64)) (digits_value 10 digits) → 0 < length digits
    → None ≡ cond t (Some (digits_value 10 digits)) None
failed_by digits e true is bad some =
    absurd (bad (and_right (not (is_empty digits)) (all_ascii_digits digits) (and_left (is_digits digits) _ is), some, is_below _ _ (and_right (is_digits digits) _ is)))
failed_by digits e false is bad some = refl

-- what `parse` says of bytes that begin with a digit
pub number_parsed : {E : Type 0} (digits : List ℕ) (r : Result ℕ E) → 0 < length digits → 48 ≤ get_or digits 0 0 → get_or digits 0 0 ≤ 57 → ParsesUnsigned 64 10 digits r → result_ok r ≡ digits_in digits
number_parsed [] r some low high h = absurd (omega arith)
number_parsed {E} (b ∷ digits) (Ok x) some low high h =
    let good = parse_plain own {E = E} 64 (b ∷ digits) (Ok x) h (λ e. absurd (omega arith)) in
    ap (λ k. Some k) good.1 ∙ sym (chosen (is_small (b ∷ digits)) (digits_value 10 (b ∷ digits)) (both (is_digits (b ∷ digits)) (nat_lt (digits_value 10 (b ∷ digits)) (2 ^ 64)) good.0.0 (below _ _ good.0.2)))
number_parsed {E} (b ∷ digits) (Err e) some low high h =
    failed_by (b ∷ digits) e (is_small (b ∷ digits)) refl (parse_plain own {E = E} 64 (b ∷ digits) (Err e) h (λ e. absurd (omega arith))) some

-- ---- the digits after a point

-- so few digits scaled to nine are below a whole one
pub fraction_small : (k v : ℕ) → k ≤ 9 → v < 10 ^ k → v * 10 ^ (9 - k) < 2 ^ 64
fraction_small zero v le lt = omega arith
fraction_small (suc zero) v le lt = omega arith
fraction_small (suc (suc zero)) v le lt = omega arith
fraction_small (suc (suc (suc zero))) v le lt = omega arith
fraction_small (suc (suc (suc (suc zero)))) v le lt = omega arith
fraction_small (suc (suc (suc (suc (suc zero))))) v le lt = omega arith
fraction_small (suc (suc (suc (suc (suc (suc zero)))))) v le lt = omega arith
fraction_small (suc (suc (suc (suc (suc (suc (suc zero))))))) v le lt = omega arith
fraction_small (suc (suc (suc (suc (suc (suc (suc (suc zero)))))))) v le lt = omega arith
fraction_small (suc (suc (suc (suc (suc (suc (suc (suc (suc zero))))))))) v le lt = omega arith
fraction_small (suc (suc (suc (suc (suc (suc (suc (suc (suc (suc k)))))))))) v le lt = absurd (omega arith)

short_value : (digits : List ℕ) → length digits ≤ 9 → is_digits digits ≡ true → digits_value 10 digits < 10 ^ length digits
short_value digits le is = digits_value_short own digits (length digits) (and_right (not (is_empty digits)) (all_ascii_digits digits) is) (omega arith)

short_small : (digits : List ℕ) → length digits ≤ 9 → is_digits digits ≡ true → nat_lt (digits_value 10 digits) (2 ^ 64) ≡ true
short_small digits le is = below (digits_value 10 digits) (2 ^ 64) (omega (arith, digits_value_short own digits 9 (and_right (not (is_empty digits)) (all_ascii_digits digits) is) le))

within : (m n : ℕ) → m ≤ n → nat_le m n ≡ true
within m n h = grind (arith, nat_tests)

none_by : (digits : List ℕ) (t : Bool) → is_digits digits ≡ t → length digits ≤ 9 → None ≡ digits_in digits → None ≡ cond (t && nat_le (length digits) 9) (Some (digits_value 10 digits * 10 ^ (9 - length digits))) None
none_by digits true is le none = absurd (no_some (none ∙ chosen (is_small digits) (digits_value 10 digits) (both (is_digits digits) (nat_lt (digits_value 10 digits) (2 ^ 64)) is (short_small digits le is))))
  where
    no_some : {v : ℕ} → None ≡ Some v → ⊥
    no_some e = cc
none_by digits false is le none = refl

-- a fraction that is no number
pub fraction_none : (digits : List ℕ) → length digits ≤ 9 → None ≡ digits_in digits → None ≡ fraction_in digits
fraction_none digits le none = none_by digits (is_digits digits) refl le none

some_by : (digits : List ℕ) (v : ℕ) (t : Bool) → is_small digits ≡ t → Some v ≡ cond t (Some (digits_value 10 digits)) None → (is_digits digits ≡ true) × (v ≡ digits_value 10 digits)
some_by digits v true is e = (and_left (is_digits digits) (nat_lt (digits_value 10 digits) (2 ^ 64)) is, cc)
some_by digits v false is e = absurd (cc)

-- one that is
pub fraction_some : (digits : List ℕ) (v : ℕ) → length digits ≤ 9 → Some v ≡ digits_in digits → (v < 10 ^ length digits) × (Some (v * 10 ^ (9 - length digits)) ≡ fraction_in digits)
fraction_some digits v le e =
    let is = some_by digits v (is_small digits) refl e in
    let small : v < 10 ^ length digits = omega (arith, is.1, short_value digits le is.0) in (
      small,
      ap (λ (n : ℕ). Some (n * 10 ^ (9 - length digits))) is.1
          ∙ sym (chosen (is_digits digits && nat_le (length digits) 9) (digits_value 10 digits * 10 ^ (9 - length digits)) (both (is_digits digits) (nat_le (length digits) 9) is.0 (within (length digits) 9 le))),
    )
