-- Delays in seconds, with nine digits after the point.
use Rattle.std.proofs.Common.{◌≡◌, ◌≢◌, ℕ, ◌+◌, ◌*◌, ◌/◌, ◌%◌, ◌^◌, ◌<◌, ◌≤◌, List, ◌∷◌, ◌++◌, get_or, None, All, arith, refl, sym, ap, ◌∙◌, subst, lit<}
use Rattle.std.specs.Str.Parse.{AllDigits, digits_value}
use Rattle.std.specs.Fmt.{decimal}
use Rattle.std.proofs.lemmas.List.Elements.{All-cons, All-append, All-from_get_or}
use Rattle.std.proofs.lemmas.Str.Parse.{digit_at}
use Rattle.std.proofs.lemmas.Fmt.{decimal_injective}
use Rattle.lsv_record.specs.Records.{last_digits, seconds}
use Rattle.lsv_record.specs.Inner.Spelled.{Reads}
use Rattle.lsv_record.proofs.Numerals.{decimal_digits, digits-last_digits, value-last_digits}
use Rattle.lsv_record.proofs.Splits.{stands_not, cut_once, avoids}

pub digits_above : (low : ℕ) (text : List ℕ) → low < 48 → AllDigits 10 text → All (λ byte. low < byte) text
digits_above low text h digits = All-from_get_or (λ byte. low < byte) text 0 (λ i below. let in_range = digit_at text i digits below in let least : 48 ≤ get_or text i 0 = in_range.0 in omega arith)

pub decimal_above : (low n : ℕ) → low < 48 → n < 10 ^ 10 → All (λ byte. low < byte) (decimal n)
decimal_above low n h small = digits_above low (decimal n) h (decimal_digits n small)

pub decimal_without : (stop n : ℕ) → stop < 48 → n < 10 ^ 10 → All (λ byte. byte ≢ stop) (decimal n)
decimal_without stop n h small = avoids stop stop (decimal n) (omega arith) (decimal_above stop n h small)

pub seconds_above : (delay : ℕ) → delay < 2 ^ 63 → All (λ byte. 45 < byte) (seconds delay)
seconds_above delay h =
    let whole = decimal_above 45 (delay / 1000000000) (lit< tt) (omega arith) in
    let nine = digits_above 45 (last_digits 9 (delay % 1000000000)) (lit< tt) (digits-last_digits 9 _) in
    All-append (λ byte. 45 < byte) _ _ whole (All-cons (λ byte. 45 < byte) 46 _ (lit< tt) nine)

-- where a text is cut at its point, and is the seconds of a delay
pub record IsCut (delay : ℕ) (whole fraction : List ℕ) : Type 0 where
  pub whole_is : whole ≡ decimal (delay / 1000000000)
  pub fraction_is : fraction ≡ last_digits 9 (delay % 1000000000)

pub seconds_cut : (text whole fraction : List ℕ) (delay : ℕ) → delay < 2 ^ 63 → text ≡ whole ++ 46 ∷ fraction → All (λ byte. byte ≢ 46) whole → text ≡ seconds delay → IsCut delay whole fraction
seconds_cut text whole fraction delay h cut first is =
    let parts = cut_once 46 whole fraction (decimal (delay / 1000000000)) (last_digits 9 (delay % 1000000000)) (sym cut ∙ is) first (decimal_without 46 (delay / 1000000000) (lit< tt) (omega arith)) in
    record { whole_is = parts.0; fraction_is = parts.1 }

pub no_point : (text : List ℕ) → All (λ byte. byte ≢ 46) text → Reads (λ delay. delay < 2 ^ 63) seconds text None
no_point text h = λ delay small is. stands_not 46 (decimal (delay / 1000000000)) (last_digits 9 (delay % 1000000000)) (subst (All (λ byte. byte ≢ 46)) is h)

pub no_whole : (text whole fraction : List ℕ) → text ≡ whole ++ 46 ∷ fraction → All (λ byte. byte ≢ 46) whole → Reads (λ n. n < 10 ^ 10) decimal whole None → Reads (λ delay. delay < 2 ^ 63) seconds text None
no_whole text whole fraction cut first none = λ delay small is. none (delay / 1000000000) (omega arith) (seconds_cut text whole fraction delay small cut first is).whole_is

pub no_fraction : (text whole fraction : List ℕ) → text ≡ whole ++ 46 ∷ fraction → All (λ byte. byte ≢ 46) whole → Reads (λ n. n < 10 ^ 9) (last_digits 9) fraction None → Reads (λ delay. delay < 2 ^ 63) seconds text None
no_fraction text whole fraction cut first none = λ delay small is. none (delay % 1000000000) (omega arith) (seconds_cut text whole fraction delay small cut first is).fraction_is

-- a text of seconds is that of one delay
pub same_delay : (text whole fraction : List ℕ) (a b delay : ℕ) → text ≡ whole ++ 46 ∷ fraction → All (λ byte. byte ≢ 46) whole → a < 10 ^ 10 → whole ≡ decimal a → b < 10 ^ 9 → fraction ≡ last_digits 9 b → delay < 2 ^ 63 → text ≡ seconds delay → delay ≡ a * 1000000000 + b
same_delay text whole fraction a b delay cut first ha wa hb fb small is =
    let parts = seconds_cut text whole fraction delay small cut first is in
    let whole_same : a ≡ delay / 1000000000 = decimal_injective a (delay / 1000000000) (omega arith) (omega arith) (sym wa ∙ parts.whole_is) in
    let fraction_same : last_digits 9 b ≡ last_digits 9 (delay % 1000000000) = sym fb ∙ parts.fraction_is in
    let nine_same : b ≡ delay % 1000000000 = sym (value-last_digits 9 b hb) ∙ ap (digits_value 10) fraction_same ∙ value-last_digits 9 (delay % 1000000000) (omega arith) in
    omega arith

pub too_late : (text whole fraction : List ℕ) (a b : ℕ) → text ≡ whole ++ 46 ∷ fraction → All (λ byte. byte ≢ 46) whole → a < 10 ^ 10 → whole ≡ decimal a → b < 10 ^ 9 → fraction ≡ last_digits 9 b → 2 ^ 63 ≤ a * 1000000000 + b → Reads (λ delay. delay < 2 ^ 63) seconds text None
too_late text whole fraction a b cut first ha wa hb fb late = λ delay small is. let same = same_delay text whole fraction a b delay cut first ha wa hb fb small is in omega arith

pub seconds_injective : (a b : ℕ) → a < 2 ^ 63 → b < 2 ^ 63 → seconds a ≡ seconds b → a ≡ b
seconds_injective a b ha hb e =
    let same = same_delay (seconds a) (decimal (a / 1000000000)) (last_digits 9 (a % 1000000000)) (a / 1000000000) (a % 1000000000) b refl (decimal_without 46 (a / 1000000000) (lit< tt) (omega arith)) (omega arith) refl (omega arith) refl hb e in
    omega arith
