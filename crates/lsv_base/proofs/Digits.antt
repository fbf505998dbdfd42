-- Six digits in base 36 and the number that they stand for.
use Rattle.std.proofs.Common.{◌≡◌, ℕ, ◌+◌, ◌*◌, ◌/◌, ◌%◌, ◌^◌, ◌<◌, ◌≤◌, List, [], ◌∷◌, length, get_or, refl, ap, sym, ◌∙◌, subst, lit<, arith}
use Rattle.std.proofs.lemmas.Bool.Decides.{nat_tests}
use Rattle.std.proofs.lemmas.Slice.Eq.{text_from_reads}
use Rattle.std.proofs.Math.Nat.{div-div-eq-div-mul, pow-le-pow_right}
use Rattle.lsv_base.specs.LogNo.{digit_byte, digit_value, IsDigit, digits_of, number_of, IsLogText}

-- a digit's byte stands for that digit
pub digit_value-digit_byte : (digit : ℕ) → digit_value (digit_byte digit) ≡ digit
digit_value-digit_byte digit = grind (arith, nat_tests)

-- and it is the only byte that does
pub digit_byte-digit_value : (byte : ℕ) → IsDigit byte → digit_byte (digit_value byte) ≡ byte
digit_byte-digit_value byte h = grind (arith, nat_tests)

pub digit_value-lt : (byte : ℕ) → IsDigit byte → digit_value byte < 36
digit_value-lt byte h = grind (arith, nat_tests)

-- the remainders of a number's quotients make up the number
pub number_of-digits_of : (n : ℕ) → n ≤ 2176782335 → number_of (digits_of n) ≡ n
number_of-digits_of n h =
    let second : n / 36 / 36 ≡ n / 1296 = div-div-eq-div-mul n 36 36 in
    let third : n / 1296 / 36 ≡ n / 46656 = div-div-eq-div-mul n 1296 36 in
    let fourth : n / 46656 / 36 ≡ n / 1679616 = div-div-eq-div-mul n 46656 36 in
    let fifth : n / 1679616 / 36 ≡ n / 60466176 = div-div-eq-div-mul n 1679616 36 in
    simp digit_value-digit_byte (omega arith)

-- the last digit and the others come apart again
pub record Apart (n high low : ℕ) : Type 0 where
  pub quotient : n / 36 ≡ high
  pub remainder : n % 36 ≡ low

digits_apart : (high low : ℕ) → low < 36 → Apart (36 * high + low) high low
digits_apart high low h = record { quotient = omega arith; remainder = omega arith }

-- these bytes are the digits of the number that they stand for
abbrev AreRead : ℕ → ℕ → ℕ → ℕ → ℕ → ℕ → Type 0
AreRead a b c d e f =
    let text = a ∷ b ∷ c ∷ d ∷ e ∷ f ∷ [] in (digits_of (number_of text) ≡ text) × (number_of text ≤ 2176782335)

six_digits : (a b c d e f : ℕ) → IsDigit a → IsDigit b → IsDigit c → IsDigit d → IsDigit e → IsDigit f → AreRead a b c d e f
six_digits a b c d e f ha hb hc hd he hf =
    let n1 : ℕ = 36 * 0 + digit_value a in
    let n2 : ℕ = 36 * n1 + digit_value b in
    let n3 : ℕ = 36 * n2 + digit_value c in
    let n4 : ℕ = 36 * n3 + digit_value d in
    let n5 : ℕ = 36 * n4 + digit_value e in
    let n : ℕ = 36 * n5 + digit_value f in
    let ka = digit_value-lt a ha in
    let kb = digit_value-lt b hb in
    let kc = digit_value-lt c hc in
    let kd = digit_value-lt d hd in
    let ke = digit_value-lt e he in
    let kf = digit_value-lt f hf in
    let q1 = digits_apart 0 (digit_value a) ka in
    let q2 = digits_apart n1 (digit_value b) kb in
    let q3 = digits_apart n2 (digit_value c) kc in
    let q4 = digits_apart n3 (digit_value d) kd in
    let q5 = digits_apart n4 (digit_value e) ke in
    let q6 = digits_apart n5 (digit_value f) kf in
    let s2 : n / 1296 ≡ n4 = sym (div-div-eq-div-mul n 36 36) ∙ (ap (λ x. x / 36) q6.quotient ∙ q5.quotient) in
    let s3 : n / 46656 ≡ n3 = sym (div-div-eq-div-mul n 1296 36) ∙ (ap (λ x. x / 36) s2 ∙ q4.quotient) in
    let s4 : n / 1679616 ≡ n2 = sym (div-div-eq-div-mul n 46656 36) ∙ (ap (λ x. x / 36) s3 ∙ q3.quotient) in
    let s5 : n / 60466176 ≡ n1 = sym (div-div-eq-div-mul n 1679616 36) ∙ (ap (λ x. x / 36) s4 ∙ q2.quotient) in
    let da : digit_byte (n / 60466176 % 36) ≡ a =
    ap (λ x. digit_byte (x % 36)) s5 ∙ (ap digit_byte q1.remainder ∙ digit_byte-digit_value a ha) in
    let db : digit_byte (n / 1679616 % 36) ≡ b =
    ap (λ x. digit_byte (x % 36)) s4 ∙ (ap digit_byte q2.remainder ∙ digit_byte-digit_value b hb) in
    let dc : digit_byte (n / 46656 % 36) ≡ c =
    ap (λ x. digit_byte (x % 36)) s3 ∙ (ap digit_byte q3.remainder ∙ digit_byte-digit_value c hc) in
    let dd : digit_byte (n / 1296 % 36) ≡ d =
    ap (λ x. digit_byte (x % 36)) s2 ∙ (ap digit_byte q4.remainder ∙ digit_byte-digit_value d hd) in
    let de : digit_byte (n / 36 % 36) ≡ e =
    ap (λ x. digit_byte (x % 36)) q6.quotient ∙ (ap digit_byte q5.remainder ∙ digit_byte-digit_value e he) in
    let df : digit_byte (n % 36) ≡ f = ap digit_byte q6.remainder ∙ digit_byte-digit_value f hf in
    (cc, omega arith)

six_items : (text : List ℕ) → length text ≡ 6 → text ≡ get_or text 0 0 ∷ get_or text 1 0 ∷ get_or text 2 0 ∷ get_or text 3 0 ∷ get_or text 4 0 ∷ get_or text 5 0 ∷ []
six_items text h =
    text_from_reads text (get_or text 0 0 ∷ get_or text 1 0 ∷ get_or text 2 0 ∷ get_or text 3 0 ∷ get_or text 4 0 ∷ get_or text 5 0 ∷ []) h (refl, (refl, (refl, (refl, (refl, (refl, tt))))))

-- a text of six digits is read as the number that has these digits
pub digits_of-number_of : (text : List ℕ) → IsLogText text → (digits_of (number_of text) ≡ text) × (number_of text ≤ 2176782335)
digits_of-number_of text h =
    let at : (k : ℕ) → k < 6 → IsDigit (get_or text k 0) = λ k below. h.digits k 0 (omega (arith, h.six)) in
    let P : List ℕ → Type 0 = λ xs. (digits_of (number_of xs) ≡ xs) × (number_of xs ≤ 2176782335) in
    subst P (sym (six_items text h.six)) (six_digits _ _ _ _ _ _ (at 0 (lit< tt)) (at 1 (lit< tt)) (at 2 (lit< tt)) (at 3 (lit< tt)) (at 4 (lit< tt)) (at 5 (lit< tt)))

-- what the first digits stand for, of less than six, leaves room for another one
pub power-le : (i : ℕ) → i < 6 → 36 ^ i ≤ 60466176
power-le i h = pow-le-pow_right {n = 36} (lit< tt) {i = i} {j = 5} (omega arith)
