-- Decimal digits: the last ones of a number, and bytes written before what stands.
use Rattle.std.proofs.Common.{◌≡◌, ℕ, zero, suc, ◌+◌, ◌-◌, ◌/◌, ◌%◌, ◌<◌, ◌≤◌, List, [], ◌∷◌, ◌++◌, length, drop, set, append_assoc, arith, ◌*◌, ◌^◌, lit<, length-drop, length-set, lit≤, refl, sym, ap, ◌∙◌}
use Rattle.std.specs.Fmt.{decimal}
use Rattle.std.proofs.lemmas.Fmt.{decimal_digit, decimal_step}
use Rattle.std.proofs.lemmas.List.{drop-drop, drop-set}
use Rattle.lsv_record.specs.Records.{last_digits, seconds, fields_of}

pub no_digits : (n : ℕ) → last_digits 0 n ≡ []
unfolding last_digits
no_digits n = refl

pub more_digits : (k n : ℕ) → last_digits (suc k) n ≡ last_digits k (n / 10) ++ (48 + n % 10) ∷ []
unfolding last_digits
more_digits k n = refl

some_power : (k : ℕ) → 1 ≤ 10 ^ k
some_power zero = lit≤ tt
some_power (suc k) = let h = some_power k in let power : 10 ^ suc k ≡ 10 * 10 ^ k = omega arith in omega arith

-- a number with a one before this many digits
pub one_before : (k n : ℕ) → n < 10 ^ k → 10 ^ k + n < 2 ^ 64 → decimal (10 ^ k + n) ≡ 49 ∷ last_digits k n
one_before zero n h fits =
    let none : n ≡ 0 = omega arith in
    let one : 10 ^ 0 + n ≡ 1 = omega arith in
    rw (one, no_digits n) (decimal_digit 1 (lit< tt))
one_before (suc k) n h fits =
    let power : 10 ^ suc k ≡ 10 * 10 ^ k = omega arith in
    let whole : (10 ^ suc k + n) / 10 ≡ 10 ^ k + n / 10 = omega arith in
    let last : (10 ^ suc k + n) % 10 ≡ n % 10 = omega arith in
    let some : 10 ≤ 10 ^ suc k + n = omega (arith, some_power k) in
    let rest : decimal (10 ^ k + n / 10) ≡ 49 ∷ last_digits k (n / 10) = one_before k (n / 10) (omega arith) (omega arith) in
    decimal_step (10 ^ suc k + n) some fits ∙ rw (whole, last, rest, more_digits k n) refl

-- a byte written before what stands from an offset on
pub written_before : (text : List ℕ) (i at byte : ℕ) → at ≡ i + 1 → i < length text → drop i (set text i byte) ≡ byte ∷ drop at text
written_before text i at byte e below = drop-set text i byte below ∙ ap (λ (k : ℕ). byte ∷ drop k text) (omega arith)

-- a byte written over the first one that stands from an offset on
pub written_over : (text rest : List ℕ) (at old byte : ℕ) → drop at text ≡ old ∷ rest → drop at (set text at byte) ≡ byte ∷ rest
written_over text rest at old byte e =
    let below : at < length text = omega (arith, ap length e, length-drop at text) in
    let behind : drop (at + 1) text ≡ rest = sym (drop-drop 1 at text) ∙ ap (drop 1) e in
    written_before text at (at + 1) byte refl below ∙ ap (λ (t : List ℕ). byte ∷ t) behind

-- the start of a line, written from the space before its rest to its event
pub start_written : (text after digits : List ℕ) (rest point at event delay : ℕ) → 1 ≤ rest → rest ≤ length text
    → drop point after ≡ 46 ∷ last_digits 9 (delay % 1000000000) ++ drop (rest - 1) (set text (rest - 1) 32)
    → point + 10 ≡ rest - 1
    → drop at digits ≡ decimal (delay / 1000000000) ++ drop point after
    → 2 ≤ at → at ≤ length digits
    → drop (at - 2) (set (set digits (at - 1) 32) (at - 2) (48 + event)) ≡ fields_of event delay (drop rest text)
start_written text after digits rest point at event delay some within fraction ten whole two below =
    let space : drop (rest - 1) (set text (rest - 1) 32) ≡ 32 ∷ drop rest text = written_before text (rest - 1) rest 32 (omega arith) (omega arith) in
    let behind : drop at digits ≡ seconds delay ++ 32 ∷ drop rest text =
    whole ∙ (ap (λ (t : List ℕ). decimal (delay / 1000000000) ++ t) (fraction ∙ ap (λ (t : List ℕ). 46 ∷ last_digits 9 (delay % 1000000000) ++ t) space) ∙ sym (append_assoc (decimal (delay / 1000000000)) (46 ∷ last_digits 9 (delay % 1000000000)) (32 ∷ drop rest text))) in
    let first : drop (at - 1) (set digits (at - 1) 32) ≡ 32 ∷ drop at digits = written_before digits (at - 1) at 32 (omega arith) (omega arith) in
    let long : at - 2 < length (set digits (at - 1) 32) = omega (arith, length-set {A = ℕ}) in
    written_before (set digits (at - 1) 32) (at - 2) (at - 1) (48 + event) (omega arith) long ∙ ap (λ (t : List ℕ). (48 + event) ∷ t) (first ∙ ap (λ (t : List ℕ). 32 ∷ t) behind)
