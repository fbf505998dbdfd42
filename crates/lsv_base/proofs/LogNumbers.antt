-- The log number of a text, as a relation and as it is computed.
use Rattle.std.proofs.Common.{◌≡◌, ℕ, ◌<◌, ◌≤◌, Bool, true, false, cond, List, length, get_or, Option, Some, None, refl, sym, ap, ◌∙◌, arith, eqb, leb}
use Rattle.std.specs.Prelude.{◌&&◌, SomeIff}
use Rattle.std.specs.List.{list_all}
use Rattle.std.proofs.lemmas.Bool.{eqb-true, eq-eqb, leb-true, le-leb, and_from, and_parts, cond-true, cond-false, false_from_ne_true}
use Rattle.std.proofs.lemmas.List.Elements.{All-from_recursion}
use Rattle.std.proofs.lemmas.List.Sums.{AllPass-from_list_all, list_all-from_AllPass}
use Rattle.std.proofs.lemmas.Bool.Decides.{nat_tests}
use Rattle.lsv_base.specs.LogNo.{digit_byte, IsDigit, is_digit, digits_of, number_of, IsLogText, log_no_in}
use Rattle.lsv_base.proofs.Digits.{number_of-digits_of}

digit_is : (byte : ℕ) → is_digit byte ≡ true → IsDigit byte
digit_is byte e = grind (arith, nat_tests)

is_a_digit : (byte : ℕ) → IsDigit byte → is_digit byte ≡ true
is_a_digit byte d = grind (arith, nat_tests)

-- the test of which a log number depends
abbrev is_log_text : List ℕ → Bool
is_log_text text = (eqb (length text) 6 && list_all is_digit text) && leb 1 (number_of text)

passes : (text : List ℕ) → IsLogText text → is_log_text text ≡ true
passes text h =
    and_from _ _ (and_from _ _ (eq-eqb (length text) 6 h.six) (list_all-from_AllPass is_digit text (λ k d below. is_a_digit (get_or text k d) (h.digits k d below)))) (le-leb 1 (number_of text) h.counted)

passed : (text : List ℕ) → is_log_text text ≡ true → IsLogText text
passed text e =
    let parts = and_parts (eqb (length text) 6 && list_all is_digit text) (leb 1 (number_of text)) e in
    let first = and_parts (eqb (length text) 6) (list_all is_digit text) parts.0 in
    record { six = eqb-true (length text) 6 first.0; digits = λ k d below. digit_is (get_or text k d) (AllPass-from_list_all is_digit text first.1 k d below); counted = leb-true 1 (number_of text) parts.1 }

-- what says when a text is a log number's says what is computed
pub as_computed : (text : List ℕ) (n : Option ℕ) → SomeIff n (IsLogText text) (number_of text) → n ≡ log_no_in text
as_computed text None none = sym (cond-false (is_log_text text) (Some (number_of text)) None (false_from_ne_true (is_log_text text) (λ e. none (passed text e))))
as_computed text (Some n) some = ap (λ m. Some m) some.1 ∙ sym (cond-true (is_log_text text) (Some (number_of text)) None (passes text some.0))

digit_byte_is : (digit : ℕ) → digit < 36 → IsDigit (digit_byte digit)
digit_byte_is digit below = grind (arith, nat_tests)

digits_are : (n : ℕ) → 1 ≤ n → n ≤ 2176782335 → IsLogText (digits_of n)
digits_are n first last = record { six = refl; digits = All-from_recursion IsDigit (digits_of n) (digit_byte_is _ (omega arith), (digit_byte_is _ (omega arith), (digit_byte_is _ (omega arith), (digit_byte_is _ (omega arith), (digit_byte_is _ (omega arith), (digit_byte_is _ (omega arith), tt)))))); counted = rw (number_of-digits_of n last) first }

-- the digits of a log number are computed back
pub digits_computed : (n : ℕ) → 1 ≤ n → n ≤ 2176782335 → log_no_in (digits_of n) ≡ Some n
digits_computed n first last =
    cond-true (is_log_text (digits_of n)) (Some (number_of (digits_of n))) None (passes (digits_of n) (digits_are n first last)) ∙ ap (λ m. Some m) (number_of-digits_of n last)

-- only a log number's digits are computed as one
pub computed_only : (text : List ℕ) (n : ℕ) → log_no_in text ≡ Some n → IsLogText text × (n ≡ number_of text)
computed_only text n e = go (is_log_text text) refl e
  where
    go : (b : Bool) → is_log_text text ≡ b → cond b (Some (number_of text)) None ≡ Some n → IsLogText text × (n ≡ number_of text)
    go true is e = (passed text is, cc)
    go false is e = absurd cc
