-- Decimal numbers and their digits: each text of digits without a needless zero is the text of one number.
use Rattle.std.proofs.Common.{◌≡◌, ℕ, zero, suc, ◌+◌, ◌-◌, ◌*◌, ◌/◌, ◌%◌, ◌^◌, ◌<◌, ◌≤◌, true, false, List, [], ◌∷◌, ◌++◌, length, take, get_or, arith, refl, sym, ap, ◌∙◌, subst, lit<, add-one, length-append, Option, Some, None}
use Rattle.std.proofs.Math.Nat.{pow-suc, pow-le-pow_right}
use Rattle.std.proofs.lemmas.List.{take_all, take_more}
use Rattle.std.specs.Prelude.{SomeIff}
use Rattle.std.specs.Fmt.{decimal}
use Rattle.lsv_record.specs.Records.{last_digits}
use Rattle.lsv_record.specs.Inner.Spelled.{Reads, IsPlain}
use Rattle.lsv_record.proofs.Digits.{no_digits, more_digits}
use Rattle.std.proofs.lemmas.Fmt.{decimal_digit, decimal_is_IsNumeral, first_decimal, length-decimal-le, decimal_nonempty, decimal-digits_value}
use Rattle.std.specs.Char.{is_ascii_digit, digit_value}
use Rattle.std.specs.Str.Parse.{AllDigits, digits_value}
use Rattle.std.proofs.lemmas.Bool.Decides.{nat_tests}
use Rattle.std.proofs.lemmas.Int.Digits.{digits_value_more, digits_more, digits_push, digits_value_push, digits_value-lt}
use Rattle.std.proofs.lemmas.Str.Parse.{IsNumeralModel, digit_at, numerals_by_value, tells_digits}

-- a decimal digit stands for what it is above 0
pub record IsDecimal (byte : ℕ) : Type 0 where
  pub low : 48 ≤ byte
  pub high : byte ≤ 57
  pub value : digit_value byte ≡ byte - 48

pub decimal_digit_is : (byte : ℕ) → is_ascii_digit byte ≡ true → IsDecimal byte
decimal_digit_is byte h = record { low = grind (arith, nat_tests); high = grind (arith, nat_tests); value = grind (arith, nat_tests) }

pub no_decimal_digit : (byte : ℕ) → is_ascii_digit byte ≡ false → 48 ≤ byte → byte ≤ 57 → ⊥
no_decimal_digit byte h low high = grind (arith, nat_tests)

-- a text with another byte is no text of digits
pub other_byte : (text : List ℕ) (i : ℕ) → i < length text → is_ascii_digit (get_or text i 0) ≡ false → AllDigits 10 text → ⊥
other_byte text i below other digits = let in_range = digit_at text i digits below in no_decimal_digit (get_or text i 0) other (in_range.0) (in_range.1)

-- what the digits so far stand for, one digit on
pub record SoFar (text : List ℕ) (i number : ℕ) : Type 0 where
  pub digits : AllDigits 10 (take i text)
  pub value : number ≡ digits_value 10 (take i text)
  pub small : number < 10 ^ i

pub one_digit_on : (text : List ℕ) (i number : ℕ) → i < length text → is_ascii_digit (get_or text i 0) ≡ true → SoFar text i number → SoFar text (i + 1) (10 * number + (get_or text i 0 - 48))
one_digit_on text i number below digit so_far =
    let is = decimal_digit_is (get_or text i 0) digit in
    let fits : digit_value (get_or text i 0) < 10 = omega arith in
    let value = digits_value_more 10 text i below in
    record {
      digits = digits_more 10 text i below so_far.digits fits;
      value = omega arith;
      small = let power : 10 ^ (i + 1) ≡ 10 ^ i * 10 = ap (λ (k : ℕ). 10 ^ k) (add-one i) ∙ pow-suc 10 i in omega arith;
    }

own : IsNumeralModel (AllDigits 10) (digits_value 10)
own = numerals_by_value (AllDigits 10) tells_digits

zero_is_alone : (n : ℕ) → n < 2 ^ 64 → get_or (decimal n) 0 0 ≡ 48 → length (decimal n) ≡ 1
zero_is_alone zero h first = rw (decimal_digit 0 (lit< tt)) refl
zero_is_alone (suc k) h first = absurd (omega (arith, first_decimal (suc k) (omega arith) h))

pub decimal_is_plain : (n : ℕ) → n < 10 ^ 10 → IsPlain (decimal n)
decimal_is_plain n h =
    let fits : n < 2 ^ 64 = omega arith in
    record { some = decimal_nonempty n fits; few = length-decimal-le 10 n (lit< tt) h fits; zero_alone = zero_is_alone n fits }

pub decimal_digits : (n : ℕ) → n < 10 ^ 10 → AllDigits 10 (decimal n)
decimal_digits n h = let fits : n < 2 ^ 64 = omega arith in (decimal_is_IsNumeral n fits).0.1

-- ten digits stand for less than 10 ^ 10
few_digits : (text : List ℕ) → AllDigits 10 text → length text ≤ 10 → digits_value 10 text < 10 ^ 10
few_digits text digits few =
    let low : digits_value 10 text < 10 ^ length text = digits_value-lt 10 text digits in
    let power : 10 ^ length text ≤ 10 ^ 10 = pow-le-pow_right {n = 10} (lit< tt) {i = length text} {j = 10} few in
    omega arith

pub number_read : (text : List ℕ) (r : Option ℕ) → IsPlain text → SomeIff r (AllDigits 10 text) (digits_value 10 text) → Reads (λ n. n < 10 ^ 10) decimal text r
number_read text (Some n) plain h =
    let small : digits_value 10 text < 10 ^ 10 = few_digits text h.0 plain.few in
    let fits : digits_value 10 text < 2 ^ 64 = omega arith in
    let text_of_value : decimal (digits_value 10 text) ≡ text = decimal-digits_value own text h.0 plain.some plain.zero_alone fits in
    (rw (h.1) small, sym (ap decimal h.1 ∙ text_of_value))
number_read text None plain h = λ n small is. h (subst (AllDigits 10) (sym is) (decimal_digits n small))

pub length-last_digits : (k n : ℕ) → length (last_digits k n) ≡ k
length-last_digits zero n = rw (no_digits n) refl
length-last_digits (suc k) n = rw (more_digits k n) (omega (arith, length-append (last_digits k (n / 10)) ((48 + n % 10) ∷ []), length-last_digits k (n / 10)))

last_digit : (n : ℕ) → digit_value (48 + n % 10) ≡ n % 10
last_digit n = grind (arith, nat_tests)

pub digits-last_digits : (k n : ℕ) → AllDigits 10 (last_digits k n)
digits-last_digits zero n = rw (no_digits n) tt
digits-last_digits (suc k) n =
    let value = last_digit n in
    let below : digit_value (48 + n % 10) < 10 = omega arith in
    rw (more_digits k n) (digits_push 10 (last_digits k (n / 10)) (48 + n % 10) (digits-last_digits k (n / 10)) below)

pub value-last_digits : (k n : ℕ) → n < 10 ^ k → digits_value 10 (last_digits k n) ≡ n
value-last_digits zero n h = rw (no_digits n) (omega arith)
value-last_digits (suc k) n h =
    let power : 10 ^ suc k ≡ 10 ^ k * 10 = pow-suc 10 k in
    let others : digits_value 10 (last_digits k (n / 10)) ≡ n / 10 = value-last_digits k (n / 10) (omega arith) in
    let pushed = digits_value_push 10 (last_digits k (n / 10)) (48 + n % 10) in
    let value = last_digit n in
    rw (more_digits k n) (omega arith)

-- k digits are the last digits of what they stand for
pub last_digits-value : (text : List ℕ) → AllDigits 10 text → (k : ℕ) → k ≤ length text → last_digits k (digits_value 10 (take k text)) ≡ take k text
last_digits-value text digits zero h = no_digits _
last_digits-value text digits (suc k) h =
    let in_range = digit_at text k digits (omega arith) in
    let low : 48 ≤ get_or text k 0 = in_range.0 in
    let high : get_or text k 0 ≤ 57 = in_range.1 in
    let value : digit_value (get_or text k 0) ≡ get_or text k 0 - 48 = grind (arith, nat_tests) in
    let more = digits_value_more 10 text k (omega arith) in
    let front : last_digits k (digits_value 10 (take k text)) ≡ take k text = last_digits-value text digits k (omega arith) in
    let high_part : digits_value 10 (take (k + 1) text) / 10 ≡ digits_value 10 (take k text) = omega arith in
    let low_part : 48 + digits_value 10 (take (k + 1) text) % 10 ≡ get_or text k 0 = omega arith in
    let written : last_digits (suc k) (digits_value 10 (take (k + 1) text)) ≡ take k text ++ get_or text k 0 ∷ [] =
    more_digits k (digits_value 10 (take (k + 1) text)) ∙ rw (high_part, low_part, front) refl in
    subst (λ (j : ℕ). last_digits (suc k) (digits_value 10 (take j text)) ≡ take j text) (add-one k) (written ∙ sym (take_more text k 0 (omega arith)))

pub nanos_read : (text : List ℕ) (r : Option ℕ) → length text ≡ 9 → SomeIff r (AllDigits 10 text) (digits_value 10 text) → Reads (λ n. n < 10 ^ 9) (last_digits 9) text r
nanos_read text (Some n) nine h =
    let all : take 9 text ≡ text = take_all 9 text (omega arith) in
    let low : digits_value 10 text < 10 ^ length text = digits_value-lt 10 text h.0 in
    let small : n < 10 ^ 9 = rw (h.1) (subst (λ (k : ℕ). digits_value 10 text < 10 ^ k) nine low) in
    let back : last_digits 9 (digits_value 10 (take 9 text)) ≡ take 9 text = last_digits-value text h.0 9 (omega arith) in
    let spelled : last_digits 9 (digits_value 10 text) ≡ text = subst (λ (t : List ℕ). last_digits 9 (digits_value 10 t) ≡ t) all back in
    (small, sym (ap (last_digits 9) h.1 ∙ spelled))
nanos_read text None nine h = λ n small is. h (subst (AllDigits 10) (sym is) (digits-last_digits 9 n))
