-- A value that clap takes as a number is one in its range.
use Rattle.std.proofs.Common.{◌≡◌, ◌<◌, ◌≤◌, ◌^◌, ◌&&◌, ℕ, Bool, true, false, cond, List, Some, None, drop, nat_lt, refl, arith}
use Rattle.std.specs.Prelude.{pos, int_le}
use Rattle.std.proofs.Common.{neg_ℤ}
use Rattle.std.specs.Str.Parse.{digits_value, starts_with_minus, without_leading_plus}
use Rattle.std.proofs.lemmas.Bool.Decides.{nat_tests}
use Rattle.std.proofs.lemmas.Int.{ints}
use Rattle.clap.specs.ValueTests.{fits_i64, is_numeral, is_signed_in}
use Rattle.lsv_args.specs.Reading.{number_in}

and_one : (a b : Bool) → (a && b) ≡ true → a ≡ true
and_one true b e = refl
and_one false b e = e

and_two : (a b : Bool) → (a && b) ≡ true → b ≡ true
and_two true b e = e
and_two false b e = absurd (cc)

four : (a b c d : Bool) → (a && (b && (c && d))) ≡ true → (a ≡ true) × (c ≡ true) × (d ≡ true)
four a b c d e = let rest = and_two a (b && (c && d)) e in let last = and_two b (c && d) rest in (and_one a _ e, and_one c d last, and_two c d last)

negative : (low d : ℕ) → 1 ≤ low → int_le (pos low) (neg_ℤ (pos d)) ≡ true → ⊥
negative low d some e = grind (arith, ints)

low_is : (low d : ℕ) → int_le (pos low) (pos d) ≡ true → low ≤ d
low_is low d e = grind (arith, ints)

chosen : (t u : Bool) (d : ℕ) → t ≡ true → u ≡ true → cond (t && u) (Some d) None ≡ Some d
chosen t u d p q = rw (p, q) refl

small : (d : ℕ) → d < 2 ^ 32 → nat_lt d (2 ^ 32) ≡ true
small d h = grind (arith, nat_tests)

by_sign : (low high : ℕ) (t : Bool) (rest digits : List ℕ) → 1 ≤ low → high < 2 ^ 32
    → (is_numeral (cond t rest digits) && (fits_i64 (cond t (neg_ℤ (pos (digits_value 10 (cond t rest digits)))) (pos (digits_value 10 (cond t rest digits))))
    && (int_le (pos low) (cond t (neg_ℤ (pos (digits_value 10 (cond t rest digits)))) (pos (digits_value 10 (cond t rest digits))))
    && int_le (cond t (neg_ℤ (pos (digits_value 10 (cond t rest digits)))) (pos (digits_value 10 (cond t rest digits)))) (pos high)))) ≡ true
    → (n : ℕ) × (cond (is_numeral digits && nat_lt (digits_value 10 digits) (2 ^ 32)) (Some (digits_value 10 digits)) None ≡ Some n) × (low ≤ n) × (n ≤ high)
by_sign low high true rest digits some fits e =
    let n = neg_ℤ (pos (digits_value 10 rest)) in
    absurd (negative low (digits_value 10 rest) some (four (is_numeral rest) (fits_i64 n) (int_le (pos low) n) (int_le n (pos high)) e).1)
by_sign low high false rest digits some fits e =
    let d = digits_value 10 digits in
    let parts = four (is_numeral digits) (fits_i64 (pos d)) (int_le (pos low) (pos d)) (int_le (pos d) (pos high)) e in
    let most : d ≤ high = low_is d high parts.2 in
    (d, chosen (is_numeral digits) (nat_lt d (2 ^ 32)) d parts.0 (small d (omega arith)), low_is low d parts.1, most)

-- a value in a range that has no number below 1
pub number_accepted : (low high : ℕ) (text : List ℕ) → 1 ≤ low → high < 2 ^ 32 → is_signed_in (pos low) (pos high) text ≡ true → (n : ℕ) × (number_in text ≡ Some n) × (low ≤ n) × (n ≤ high)
number_accepted low high text some fits e = by_sign low high (starts_with_minus text) (drop 1 text) (without_leading_plus text) some fits e
