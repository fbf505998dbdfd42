-- How long a line can be.
use Rattle.std.proofs.Common.{◌≡◌, ℕ, ◌+◌, ◌/◌, ◌%◌, ◌^◌, ◌<◌, ◌≤◌, [], ◌∷◌, ◌++◌, length, arith, ap, lit<, length-append}
use Rattle.std.specs.Fmt.{decimal}
use Rattle.std.proofs.lemmas.Fmt.{length-decimal-le}
use Rattle.lsv_record.specs.declared.records.Shaped.{Shaped}
use Rattle.lsv_record.specs.declared.records.Shaped.TheVariants.{Io, Winsize, Suspend}
use Rattle.lsv_record.specs.Records.{last_digits, seconds, text_of, shaped_line, IsGood}
use Rattle.lsv_record.specs.Inner.Spelled.{parts_of, joined}
use Rattle.lsv_record.proofs.Numerals.{length-last_digits}
use Rattle.lsv_record.proofs.Told.{text_is_joined, good_delay}

pub short_number : (n : ℕ) → n < 10 ^ 10 → length (decimal n) ≤ 10
short_number n h = length-decimal-le 10 n (lit< tt) h (omega arith)

-- any number that a line may have
pub long_number : (n : ℕ) → n < 2 ^ 64 → length (decimal n) ≤ 20
long_number n h = length-decimal-le 20 n (lit< tt) (omega arith) h

pub whole_seconds : (delay : ℕ) → delay < 2 ^ 64 → length (decimal (delay / 1000000000)) ≤ 11
whole_seconds delay h = length-decimal-le 11 (delay / 1000000000) (lit< tt) (omega arith) (omega arith)

short_delay : (delay : ℕ) → delay < 2 ^ 63 → length (seconds delay) ≤ 20
short_delay delay h =
    omega (arith, short_number (delay / 1000000000) (omega arith), length-last_digits 9 (delay % 1000000000), length-append (decimal (delay / 1000000000)) (46 ∷ last_digits 9 (delay % 1000000000)))

short_rest : (told : Shaped) → IsGood told → length (parts_of told).rest ≤ 32
short_rest (Io d s n) good = omega (arith, short_number n (omega (arith, good.1)))
short_rest (Winsize d r c) good =
    omega (arith, short_number r (omega (arith, good.1)), short_number c (omega (arith, good.2)), length-append (decimal r) (32 ∷ decimal c))
short_rest (Suspend d s) good = good.1.few

pub short_line : (told : Shaped) → IsGood told → length (shaped_line told) ≤ 56
short_line told good =
    let p = parts_of told in
    let long : length (text_of told) ≡ length (joined p) = ap length (text_is_joined told) in
    let delay : length (seconds p.delay) ≤ 20 = short_delay p.delay (good_delay told good) in
    let rest : length p.rest ≤ 32 = short_rest told good in
    let parts : length (seconds p.delay ++ 32 ∷ p.rest) ≡ length (seconds p.delay) + length (32 ∷ p.rest) = length-append (seconds p.delay) (32 ∷ p.rest) in
    let end : length (shaped_line told) ≡ length (text_of told) + 1 = length-append (text_of told) (10 ∷ []) in
    omega arith
