-- Ports: what `parse` says of digits.
use Rattle.std.proofs.Common.{◌≡◌, ◌∙◌, ℕ, ◌<◌, ◌≤◌, ◌≢◌, ◌^◌, Bool, true, false, ◌&&◌, not, List, [], ◌∷◌, length, get_or, refl, sym, ap, arith, nat_lt, ◌==◌, Result, Ok, Err, is_ok}
use Rattle.std.specs.Char.{is_ascii_digit}
use Rattle.std.specs.Str.{IsUtf8, IsAscii, all_ascii_digits}
use Rattle.std.specs.Str.Parse.{ParsesUnsigned, digits_value}
use Rattle.std.specs.Result.{OkIff}
use Rattle.std.proofs.lemmas.Bool.Decides.{nat_tests}
use Rattle.std.proofs.lemmas.Str.{IsUtf8-from_ascii}
use Rattle.std.proofs.lemmas.Str.Ascii.{IsAscii-nil, IsAscii-cons}
use Rattle.std.proofs.lemmas.Str.Parse.{IsNumeralModel, parse_plain, tells_all_ascii_digits, numerals_by_value}
use Rattle.lsv_conf.specs.Texts.{is_empty}
use Rattle.lsv_conf.specs.Values.{is_port}

own : IsNumeralModel (λ digits. all_ascii_digits digits ≡ true) (digits_value 10)
own = numerals_by_value _ tells_all_ascii_digits

digit_low : (b : ℕ) → is_ascii_digit b ≡ true → b < 128
digit_low b e = grind (arith, nat_tests)

and_left : (a b : Bool) → (a && b) ≡ true → a ≡ true
and_left true b e = refl
and_left false b e = e

and_right : (a b : Bool) → (a && b) ≡ true → b ≡ true
and_right true b e = e
and_right false b e = absurd (cc)

digits_ascii : (digits : List ℕ) → all_ascii_digits digits ≡ true → IsAscii digits
digits_ascii [] e = IsAscii-nil
digits_ascii (b ∷ digits) e = IsAscii-cons b digits (digit_low b (and_left _ _ e)) (digits_ascii digits (and_right _ _ e))

and_none : (a b : Bool) → ((a && false) && b) ≡ false
and_none true b = refl
and_none false b = refl

all_four : (z n a v : Bool) → z ≡ true → n ≡ true → a ≡ true → v ≡ true → (((z && n) && a) && v) ≡ true
all_four z n a v p q r s = rw (p, q, r, s) refl

not_by : (digits : List ℕ) (t : Bool) → all_ascii_digits digits ≡ t → (IsUtf8 digits → ⊥) → is_port digits ≡ false
not_by digits true e bad = absurd (bad (IsUtf8-from_ascii digits (digits_ascii digits e)))
not_by digits false e bad = ap (λ t. ((not (is_empty digits) && not (get_or digits 0 0 == 48)) && t) && nat_lt (digits_value 10 digits) 65536) e ∙ and_none _ _

-- what isn't text is no port
pub port_not_text : (digits : List ℕ) → (IsUtf8 digits → ⊥) → is_port digits ≡ false
port_not_text digits bad = not_by digits (all_ascii_digits digits) refl bad

below : (m n : ℕ) → m < n → nat_lt m n ≡ true
below m n h = grind (arith, nat_tests)

is_below : (m n : ℕ) → nat_lt m n ≡ true → m < n
is_below m n e = grind (arith, nat_tests)

not_zero : (b : ℕ) → 49 ≤ b → not (b == 48) ≡ true
not_zero b h = grind (arith, nat_tests)

port_failed : {E : Type 0} (digits : List ℕ) (e : E) (t : Bool) → is_port digits ≡ t → OkIff {T = ℕ} (Err e) ((all_ascii_digits digits ≡ true) × (0 < length digits) × (digits_value 10 digits < 2 ^ 16)) (digits_value 10 digits) → 0 < length digits → false ≡ is_port digits
port_failed digits e true is bad some = absurd (bad (and_right _ _ (and_left _ _ is), some, is_below _ _ (and_right _ _ is)))
port_failed digits e false is bad some = sym is

-- what `parse` says of bytes that begin with a digit other than 0
pub port_parsed : {E : Type 0} (digits : List ℕ) (r : Result ℕ E) → 0 < length digits → 49 ≤ get_or digits 0 0 → get_or digits 0 0 ≤ 57 → ParsesUnsigned 16 10 digits r → is_ok r ≡ is_port digits
port_parsed [] r some low high h = absurd (omega arith)
port_parsed {E} (b ∷ digits) (Ok x) some low high h =
    let good = parse_plain own {E = E} 16 (b ∷ digits) (Ok x) h (λ e. absurd (omega arith)) in
    sym (all_four true (not (b == 48)) (all_ascii_digits (b ∷ digits)) (nat_lt (digits_value 10 (b ∷ digits)) 65536) refl (not_zero b low) good.0.0 (below _ _ good.0.2))
port_parsed {E} (b ∷ digits) (Err e) some low high h =
    port_failed (b ∷ digits) e (is_port (b ∷ digits)) refl (parse_plain own {E = E} 16 (b ∷ digits) (Err e) h (λ e. absurd (omega arith))) some
