-- What a line tells by its event, its delay and its rest.
use Rattle.std.proofs.Common.{◌≡◌, ◌≢◌, ℕ, ◌+◌, ◌^◌, ◌<◌, List, ◌∷◌, ◌++◌, All, Option, Some, None, arith, refl, sym, ap, ◌∙◌, subst, lit<, lit≤, drop}
use Rattle.std.specs.Fmt.{decimal}
use Rattle.std.specs.Option.{option_map}
use Rattle.lsv_record.specs.declared.records.Stream.{Stream}
use Rattle.lsv_record.specs.declared.records.Stream.TheVariants.{Stdin, Stdout, Stderr, Ttyin, Ttyout}
use Rattle.lsv_record.specs.declared.records.Shaped.{Shaped}
use Rattle.lsv_record.specs.declared.records.Shaped.TheVariants.{Io, Winsize, Suspend}
use Rattle.lsv_record.specs.Records.{seconds, event_of, text_of, IsGood, IsSignal}
use Rattle.lsv_record.specs.Inner.Spelled.{Reads, Parts, joined, parts_of}
use Rattle.lsv_record.proofs.Splits.{stands_not, cut_once, avoids}
use Rattle.lsv_record.proofs.Times.{decimal_without, seconds_above, seconds_injective}

pub stream_below : (s : Stream) → event_of s < 5
stream_below Stdin = lit< tt
stream_below Stdout = lit< tt
stream_below Stderr = lit< tt
stream_below Ttyin = lit< tt
stream_below Ttyout = lit< tt

pub apart : (a b : ℕ) → a ≡ b → a < b → ⊥
apart a b e h = omega arith

abbrev made : ℕ → ℕ → List ℕ → Parts
made event delay rest = record { event = event; delay = delay; rest = rest }

same_parts : (e f d g : ℕ) (r s : List ℕ) → e ≡ f → d ≡ g → r ≡ s → made e d r ≡ made f g s
same_parts e f d g r s he hd hr = cc

-- data of a stream
pub data_read : (stream : Stream) (delay : ℕ) (rest : List ℕ) (r : Option ℕ) → delay < 2 ^ 63 → Reads (λ n. n < 2097153) decimal rest r → Reads IsGood parts_of (record { event = 48 + event_of stream; delay = delay; rest = rest }) (option_map (λ n. Io delay stream n) r)
data_read stream delay rest (Some n) h read =
    ((h, omega arith), ap (λ (t : List ℕ). record { event = 48 + event_of stream; delay = delay; rest = t }) read.1)
data_read stream delay rest None h read = λ told good is. no_data stream delay rest told good is read
  where
    no_data : (stream : Stream) (delay : ℕ) (rest : List ℕ) (told : Shaped) → IsGood told → record { event = 48 + event_of stream; delay = delay; rest = rest } ≡ parts_of told → ((n : ℕ) → n < 2097153 → rest ≡ decimal n → ⊥) → ⊥
    no_data stream delay rest (Io d s n) good is none = none n (omega (arith, good.1)) (ap (λ (p : Parts). p.rest) is)
    no_data stream delay rest (Winsize d r c) good is none = let e : 48 + event_of stream ≡ 53 = ap (λ (p : Parts). p.event) is in omega (arith, stream_below stream)
    no_data stream delay rest (Suspend d s) good is none = let e : 48 + event_of stream ≡ 55 = ap (λ (p : Parts). p.event) is in omega (arith, stream_below stream)

-- no size of the window
pub no_window : (delay : ℕ) (rest : List ℕ) → ((rows cols : ℕ) → rows < 2 ^ 31 → cols < 2 ^ 31 → rest ≡ decimal rows ++ 32 ∷ decimal cols → ⊥) → Reads IsGood parts_of (record { event = 53; delay = delay; rest = rest }) None
no_window delay rest none (Io d s n) good is = let e : 53 ≡ 48 + event_of s = ap (λ (p : Parts). p.event) is in omega (arith, stream_below s)
no_window delay rest none (Winsize d r c) good is = none r c good.1 good.2 (ap (λ (p : Parts). p.rest) is)
no_window delay rest none (Suspend d s) good is = apart 53 55 (ap (λ (p : Parts). p.event) is) (lit< tt)

-- no signal
pub no_signal : (delay : ℕ) (rest : List ℕ) → (IsSignal rest → ⊥) → Reads IsGood parts_of (record { event = 55; delay = delay; rest = rest }) None
no_signal delay rest none (Io d s n) good is = let e : 55 ≡ 48 + event_of s = ap (λ (p : Parts). p.event) is in omega (arith, stream_below s)
no_signal delay rest none (Winsize d r c) good is = apart 53 55 (sym (ap (λ (p : Parts). p.event) is)) (lit< tt)
no_signal delay rest none (Suspend d s) good is = none (subst IsSignal (sym (ap (λ (p : Parts). p.rest) is)) good.1)

-- no event
pub no_event : (event delay : ℕ) (rest : List ℕ) → ((s : Stream) → event ≢ 48 + event_of s) → event ≢ 53 → event ≢ 55 → Reads IsGood parts_of (record { event = event; delay = delay; rest = rest }) None
no_event event delay rest stream window signal (Io d s n) good is = stream s (ap (λ (p : Parts). p.event) is)
no_event event delay rest stream window signal (Winsize d r c) good is = window (ap (λ (p : Parts). p.event) is)
no_event event delay rest stream window signal (Suspend d s) good is = signal (ap (λ (p : Parts). p.event) is)

-- a line is made of its parts in one way
pub no_delay : (line rest : List ℕ) → rest ≡ drop 2 line → All (λ byte. byte ≢ 32) rest → Reads (λ p. p.delay < 2 ^ 63) joined line None
no_delay line rest e without p small is =
    let tail : rest ≡ seconds p.delay ++ 32 ∷ p.rest = e ∙ ap (drop 2) is in
    stands_not 32 (seconds p.delay) p.rest (subst (All (λ byte. byte ≢ 32)) tail without)

pub seconds_once : (a b d : List ℕ) (delay : ℕ) → a ++ 32 ∷ b ≡ seconds delay ++ 32 ∷ d → All (λ byte. byte ≢ 32) a → delay < 2 ^ 63 → (a ≡ seconds delay) × (b ≡ d)
seconds_once a b d delay e first small = cut_once 32 a b (seconds delay) d e first (avoids 45 32 (seconds delay) (lit≤ tt) (seconds_above delay small))

pub bad_delay : (line tail delay rest : List ℕ) → tail ≡ drop 2 line → tail ≡ delay ++ 32 ∷ rest → All (λ byte. byte ≢ 32) delay → Reads (λ d. d < 2 ^ 63) seconds delay None → Reads (λ p. p.delay < 2 ^ 63) joined line None
bad_delay line tail delay rest e cut first none p small is =
    none p.delay small (seconds_once delay rest p.rest p.delay (sym cut ∙ (e ∙ ap (drop 2) is)) first small).0

-- the rest of a window's line without a space, or with another text than a number beside it
pub no_space : (delay : ℕ) (rest : List ℕ) → All (λ byte. byte ≢ 32) rest → Reads IsGood parts_of (record { event = 53; delay = delay; rest = rest }) None
no_space delay rest without = no_window delay rest (λ rows cols hr hc is. stands_not 32 (decimal rows) (decimal cols) (subst (All (λ byte. byte ≢ 32)) is without))

window_cut : (rest a b : List ℕ) (rows cols : ℕ) → rest ≡ a ++ 32 ∷ b → All (λ byte. byte ≢ 32) a → rows < 2 ^ 31 → rest ≡ decimal rows ++ 32 ∷ decimal cols → (a ≡ decimal rows) × (b ≡ decimal cols)
window_cut rest a b rows cols cut first small is = cut_once 32 a b (decimal rows) (decimal cols) (sym cut ∙ is) first (decimal_without 32 rows (lit< tt) (omega arith))

pub no_rows : (delay : ℕ) (rest a b : List ℕ) → rest ≡ a ++ 32 ∷ b → All (λ byte. byte ≢ 32) a → Reads (λ n. n < 2 ^ 31) decimal a None → Reads IsGood parts_of (record { event = 53; delay = delay; rest = rest }) None
no_rows delay rest a b cut first none = no_window delay rest (λ rows cols hr hc is. none rows hr (window_cut rest a b rows cols cut first hr is).0)

pub no_cols : (delay : ℕ) (rest a b : List ℕ) → rest ≡ a ++ 32 ∷ b → All (λ byte. byte ≢ 32) a → Reads (λ n. n < 2 ^ 31) decimal b None → Reads IsGood parts_of (record { event = 53; delay = delay; rest = rest }) None
no_cols delay rest a b cut first none = no_window delay rest (λ rows cols hr hc is. none cols hc (window_cut rest a b rows cols cut first hr is).1)

-- a line's parts are those of one text
pub joined_once : (p q : Parts) → p.delay < 2 ^ 63 → q.delay < 2 ^ 63 → joined p ≡ joined q → p ≡ q
joined_once p q hp hq e =
    let event : p.event ≡ q.event = cc in
    let tail : seconds p.delay ++ 32 ∷ p.rest ≡ seconds q.delay ++ 32 ∷ q.rest = ap (drop 2) e in
    let parts = seconds_once (seconds p.delay) p.rest q.rest q.delay tail (avoids 45 32 (seconds p.delay) (lit≤ tt) (seconds_above p.delay hp)) hq in
    let delay : p.delay ≡ q.delay = seconds_injective p.delay q.delay hp hq parts.0 in
    same_parts p.event q.event p.delay q.delay p.rest q.rest event delay parts.1

pub text_is_joined : (told : Shaped) → text_of told ≡ joined (parts_of told)
text_is_joined (Io d s n) = refl
text_is_joined (Winsize d r c) = refl
text_is_joined (Suspend d s) = refl

pub good_delay : (told : Shaped) → IsGood told → (parts_of told).delay < 2 ^ 63
good_delay (Io d s n) good = good.0
good_delay (Winsize d r c) good = good.0
good_delay (Suspend d s) good = good.0

-- what is told by a line's parts is told by the line
pub told_by_line : (line : List ℕ) (p : Parts) (r : Option Shaped) → p.delay < 2 ^ 63 → line ≡ joined p → Reads IsGood parts_of p r → Reads IsGood text_of line r
told_by_line line p (Some told) small is read = (read.0, is ∙ ap joined read.1 ∙ sym (text_is_joined told))
told_by_line line p None small is read = λ told good same. read told good (joined_once p (parts_of told) small (good_delay told good) (sym is ∙ same ∙ text_is_joined told))

pub no_parts : (line : List ℕ) → Reads (λ p. p.delay < 2 ^ 63) joined line None → Reads IsGood text_of line None
no_parts line none told good is = none (parts_of told) (good_delay told good) (is ∙ text_is_joined told)
