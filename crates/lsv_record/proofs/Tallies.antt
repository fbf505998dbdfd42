-- What lines come to, one line after another, and the records that they tell.
use Rattle.std.proofs.Common.{◌≡◌, ℕ, ◌+◌, ◌<◌, ◌≤◌, List, [], ◌∷◌, ◌++◌, length, take, drop, map, All, sum_by, ◌⊎◌, inl, inr, arith, refl, sym, ap, ◌∙◌, subst, append_assoc, append-nil, length-append, length-drop}
use Rattle.std.proofs.lemmas.Bool.{cases_eq, ne_eqb}
use Rattle.std.proofs.lemmas.List.{drop_at, drop-drop, length-take-le, take-append-drop}
use Rattle.std.proofs.lemmas.List.Concat.{flat_map-append}
use Rattle.std.proofs.lemmas.List.Elements.{All-nil, All-cons, All-head, All-tail}
use Rattle.std.proofs.lemmas.List.Sums.{sum_by-append, sum_by-cons}
use Rattle.lsv_defs.specs.Pieces.{IsPrefix}
use Rattle.lsv_record.specs.declared.laid.Laid.{Laid}
use Rattle.lsv_record.specs.declared.records.Record.{Record}
use Rattle.lsv_record.specs.declared.records.Record.TheVariants as records
use Rattle.lsv_record.specs.declared.records.Shaped.{Shaped}
use Rattle.lsv_record.specs.declared.records.Shaped.TheVariants.{Io, Winsize, Suspend}
use Rattle.lsv_record.specs.declared.records.Stream.{Stream}
use Rattle.lsv_record.specs.declared.records.Stream.TheVariants.{Stdin, Stdout, Stderr, Ttyin, Ttyout}
use Rattle.lsv_record.specs.Layout.{IsLayout, stream_in}
use Rattle.lsv_record.specs.Lines.{IsLineAt, OneBegins, told_delay}
use Rattle.lsv_record.specs.Records.{shaped_line, shape_of, data_in, event_of, delay_of, timing_of, stream_of, elapsed, IsGood, IsValid}
use Rattle.lsv_record.specs.Tally.{Totals, lines_of, told_count, told_data, told_elapsed, totals_of, with_line}
use Rattle.lsv_record.proofs.Once.{first_line, data_length, own_data, second_prefix}
use Rattle.lsv_record.proofs.Readers.{event_once}

abbrev made : (timing count elapsed a b c d e : ℕ) → Totals
made timing count elapsed a b c d e = record { timing = timing; count = count; elapsed = elapsed; data_bytes = a ∷ b ∷ c ∷ d ∷ e ∷ [] }

made_same : (t n p a b c d e u m q f g h i j : ℕ) → t ≡ u → n ≡ m → p ≡ q → a ≡ f → b ≡ g → c ≡ h → d ≡ i → e ≡ j → made t n p a b c d e ≡ made u m q f g h i j
made_same t n p a b c d e u m q f g h i j et en ep ea eb ec ed ee = cc

data_first : (s : Stream) (t : Shaped) (ts : List Shaped) → told_data s (t ∷ ts) ≡ told_count s t + told_data s ts
data_first s t ts = sum_by-cons (told_count s) t ts

time_first : (t : Shaped) (ts : List Shaped) → told_elapsed (t ∷ ts) ≡ told_delay t + told_elapsed ts
time_first t ts = sum_by-cons told_delay t ts

take_none : (xs : List ℕ) → take 0 xs ≡ []
take_none [] = refl
take_none (x ∷ xs) = refl

data_push : (s : Stream) (lines : List Shaped) (told : Shaped) → told_data s (lines ++ told ∷ []) ≡ told_data s lines + told_count s told
data_push s lines told = omega (arith, sum_by-append (told_count s) lines (told ∷ []))

-- totals with what a line tells of each stream
counted : List Shaped → Shaped → Totals
counted lines told = made (length (lines_of lines) + length (shaped_line told)) (length lines + 1) (told_elapsed lines + told_delay told)
    (told_data Stdin lines + told_count Stdin told) (told_data Stdout lines + told_count Stdout told) (told_data Stderr lines + told_count Stderr told) (told_data Ttyin lines + told_count Ttyin told) (told_data Ttyout lines + told_count Ttyout told)

totals_counted : (lines : List Shaped) (told : Shaped) → totals_of (lines ++ told ∷ []) ≡ counted lines told
unfolding counted
totals_counted lines told =
    made_same _ _ _ _ _ _ _ _ _ _ _ _ _ _ _ _
    (omega (arith, ap length (flat_map-append shaped_line lines (told ∷ [])), length-append (lines_of lines) (lines_of (told ∷ [])), length-append (shaped_line told) []))
    (omega (arith, length-append lines (told ∷ [])))
    (omega (arith, sum_by-append told_delay lines (told ∷ [])))
    (data_push Stdin lines told) (data_push Stdout lines told) (data_push Stderr lines told) (data_push Ttyin lines told) (data_push Ttyout lines told)

same_totals : (lines : List Shaped) (told : Shaped) (a b c d e : ℕ) → told_data Stdin lines + told_count Stdin told ≡ a → told_data Stdout lines + told_count Stdout told ≡ b → told_data Stderr lines + told_count Stderr told ≡ c
    → told_data Ttyin lines + told_count Ttyin told ≡ d → told_data Ttyout lines + told_count Ttyout told ≡ e
    → counted lines told ≡ made (length (lines_of lines) + length (shaped_line told)) (length lines + 1) (told_elapsed lines + told_delay told) a b c d e
unfolding counted
same_totals lines told a b c d e ea eb ec ed ee = made_same _ _ _ _ _ _ _ _ _ _ _ _ _ _ _ _ refl refl refl ea eb ec ed ee

counted_line : (lines : List Shaped) (told : Shaped) → counted lines told ≡ with_line (totals_of lines) told
counted_line lines (Io d Stdin n) = same_totals lines (Io d Stdin n) _ _ _ _ _ refl (omega arith) (omega arith) (omega arith) (omega arith)
counted_line lines (Io d Stdout n) = same_totals lines (Io d Stdout n) _ _ _ _ _ (omega arith) refl (omega arith) (omega arith) (omega arith)
counted_line lines (Io d Stderr n) = same_totals lines (Io d Stderr n) _ _ _ _ _ (omega arith) (omega arith) refl (omega arith) (omega arith)
counted_line lines (Io d Ttyin n) = same_totals lines (Io d Ttyin n) _ _ _ _ _ (omega arith) (omega arith) (omega arith) refl (omega arith)
counted_line lines (Io d Ttyout n) = same_totals lines (Io d Ttyout n) _ _ _ _ _ (omega arith) (omega arith) (omega arith) (omega arith) refl
counted_line lines (Winsize d r c) = same_totals lines (Winsize d r c) _ _ _ _ _ (omega arith) (omega arith) (omega arith) (omega arith) (omega arith)
counted_line lines (Suspend d g) = same_totals lines (Suspend d g) _ _ _ _ _ (omega arith) (omega arith) (omega arith) (omega arith) (omega arith)

-- one line more adds what it tells
pub totals_more : (lines : List Shaped) (told : Shaped) → totals_of (lines ++ told ∷ []) ≡ with_line (totals_of lines) told
totals_more lines told = totals_counted lines told ∙ counted_line lines told

pub lines_are_timing : (rs : List Record) → lines_of (map shape_of rs) ≡ timing_of rs
lines_are_timing [] = refl
lines_are_timing (r ∷ rs) = ap (λ t. shaped_line (shape_of r) ++ t) (lines_are_timing rs)

pub lines_tell_data : (s : Stream) (rs : List Record) → told_data s (map shape_of rs) ≡ length (stream_of s rs)
lines_tell_data s [] = refl
lines_tell_data s (r ∷ rs) = omega (arith, data_first s (shape_of r) (map shape_of rs), lines_tell_data s rs, data_length s r, length-append (data_in s r) (stream_of s rs))

delay_told : (r : Record) → told_delay (shape_of r) ≡ delay_of r
delay_told (records.Io d s b) = refl
delay_told (records.Winsize d r c) = refl
delay_told (records.Suspend d g) = refl

pub lines_tell_time : (rs : List Record) → told_elapsed (map shape_of rs) ≡ elapsed rs
lines_tell_time [] = refl
lines_tell_time (r ∷ rs) = omega (arith, time_first (shape_of r) (map shape_of rs), lines_tell_time rs, delay_told r)

-- the lines of one text, as far as two readings of it go
lines_behind : (a b : Shaped) (ls ms : List Shaped) → a ≡ b → OneBegins ls ms → OneBegins (a ∷ ls) (b ∷ ms)
lines_behind a b ls ms same (inl h) = inl (h.0, cc (h.1))
lines_behind a b ls ms same (inr h) = inr (h.0, cc (h.1))

pub lines_once : (text : List ℕ) (ls ms : List Shaped) → All IsGood ls → All IsGood ms → IsPrefix (lines_of ls) text → IsPrefix (lines_of ms) text → OneBegins ls ms
lines_once text [] ms good other f g = inl (ms, refl)
lines_once text (a ∷ ls) [] good other f g = inr (a ∷ ls, refl)
lines_once text (a ∷ ls) (b ∷ ms) good other f g =
    let e : shaped_line a ++ (lines_of ls ++ f.0) ≡ shaped_line b ++ (lines_of ms ++ g.0) = sym (append_assoc (shaped_line a) (lines_of ls) f.0) ∙ (sym f.1 ∙ (g.1 ∙ append_assoc (shaped_line b) (lines_of ms) g.0)) in
    let same = first_line a b (lines_of ls ++ f.0) (lines_of ms ++ g.0) (All-head IsGood a ls good) (All-head IsGood b ms other) e in
    lines_behind a b ls ms same.0 (lines_once (lines_of ls ++ f.0) ls ms (All-tail IsGood a ls good) (All-tail IsGood b ms other) (f.0, refl) (g.0, same.1))

-- after lines with which a text begins stands the next one
pub line_after : (text : List ℕ) (lines : List Shaped) (told : Shaped) (more : List Shaped) → IsGood told → IsPrefix (lines_of (lines ++ told ∷ more)) text → IsLineAt text (length (lines_of lines)) told (length (lines_of (lines ++ told ∷ [])))
line_after text lines told more good f =
    let behind : IsPrefix (lines_of (told ∷ more)) (drop (length (lines_of lines)) text) = second_prefix (lines_of lines) (lines_of (told ∷ more)) text (subst (λ (t : List ℕ). IsPrefix t text) (flat_map-append shaped_line lines (told ∷ more)) f) in
    let spelled : drop (length (lines_of lines)) text ≡ shaped_line told ++ (lines_of more ++ behind.0) = behind.1 ∙ append_assoc (shaped_line told) (lines_of more) behind.0 in
    let next : length (lines_of (lines ++ told ∷ [])) ≡ length (lines_of lines) + length (shaped_line told) = ap (λ (t : Totals). t.timing) (totals_more lines told) in
    let dropped : drop (length (lines_of (lines ++ told ∷ []))) text ≡ lines_of more ++ behind.0 =
    ap (λ (k : ℕ). drop k text) next ∙ (sym (drop-drop (length (shaped_line told)) (length (lines_of lines)) text) ∙ (ap (drop (length (shaped_line told))) spelled ∙ drop_at (shaped_line told) (lines_of more ++ behind.0) (length (shaped_line told)) refl)) in
    record { good = good; spelled = spelled ∙ ap (λ (t : List ℕ). shaped_line told ++ t) (sym dropped); after = next }

-- a text that begins with lines begins with one more where one stands after them
pub lines_grow : (text : List ℕ) (lines : List Shaped) (told : Shaped) (next : ℕ) → IsPrefix (lines_of lines) text → IsLineAt text (length (lines_of lines)) told next → IsPrefix (lines_of (lines ++ told ∷ [])) text
lines_grow text lines told next f line =
    let rest : drop (length (lines_of lines)) text ≡ f.0 = ap (drop (length (lines_of lines))) f.1 ∙ drop_at (lines_of lines) f.0 (length (lines_of lines)) refl in
    let more : lines_of (lines ++ told ∷ []) ≡ lines_of lines ++ shaped_line told = flat_map-append shaped_line lines (told ∷ []) ∙ ap (λ (t : List ℕ). lines_of lines ++ t) (append-nil (shaped_line told)) in
    (drop next text, f.1 ∙ (ap (λ (t : List ℕ). lines_of lines ++ t) (sym rest ∙ line.spelled) ∙ (sym (append_assoc (lines_of lines) (shaped_line told) (drop next text)) ∙ ap (λ (t : List ℕ). t ++ drop next text) (sym more))))

-- the record that a line tells, with the first data of each stream
record_of : Shaped → (Stream → List ℕ) → Record
record_of (Io d s n) X = records.Io d s (take n (X s))
record_of (Winsize d r c) X = records.Winsize d r c
record_of (Suspend d g) X = records.Suspend d g

records_of : List Shaped → (Stream → List ℕ) → List Record
records_of [] X = []
records_of (t ∷ ts) X = record_of t X ∷ records_of ts (λ s. drop (told_count s t) (X s))

own_count : (d : ℕ) (s : Stream) (n : ℕ) → told_count s (Io d s n) ≡ n
own_count d s n = rw (Rattle.std.proofs.Common.eq-eqb (event_of s) (event_of s) refl) refl

shape_told : (t : Shaped) (X : Stream → List ℕ) → ((s : Stream) → told_count s t ≤ length (X s)) → shape_of (record_of t X) ≡ t
unfolding record_of
shape_told (Io d s n) X enough = ap (Io d s) (length-take-le n (X s) (omega (arith, enough s, own_count d s n)))
shape_told (Winsize d r c) X enough = refl
shape_told (Suspend d g) X enough = refl

data_told : (t : Shaped) (X : Stream → List ℕ) (s : Stream) → data_in s (record_of t X) ≡ take (told_count s t) (X s)
unfolding record_of
data_told (Io d u n) X s = by_case (cases_eq (event_of s) (event_of u))
  where
    by_case : (event_of s ≡ event_of u) ⊎ (event_of s ≡ event_of u → ⊥) → data_in s (records.Io d u (take n (X u))) ≡ take (told_count s (Io d u n)) (X s)
    by_case (inl same) = let e : u ≡ s = sym (event_once s u same) in subst (λ (v : Stream). data_in s (records.Io d v (take n (X v))) ≡ take (told_count s (Io d v n)) (X s)) (sym e) (own_data d s (take n (X s)) ∙ ap (λ (k : ℕ). take k (X s)) (sym (own_count d s n)))
    by_case (inr other) = rw (ne_eqb (event_of s) (event_of u) other) (sym (take_none (X s)))
data_told (Winsize d r c) X s = sym (take_none (X s))
data_told (Suspend d g) X s = sym (take_none (X s))

left_over : (t : Shaped) (ts : List Shaped) (X : Stream → List ℕ) → ((s : Stream) → length (X s) ≡ told_data s (t ∷ ts)) → (s : Stream) → length (drop (told_count s t) (X s)) ≡ told_data s ts
left_over t ts X long s = omega (arith, data_first s t ts, length-drop (told_count s t) (X s), long s)

shapes_told : (ts : List Shaped) (X : Stream → List ℕ) → ((s : Stream) → length (X s) ≡ told_data s ts) → map shape_of (records_of ts X) ≡ ts
unfolding records_of
shapes_told [] X long = refl
shapes_told (t ∷ ts) X long =
    let first : shape_of (record_of t X) ≡ t = shape_told t X (λ s. omega (arith, data_first s t ts, long s)) in
    let rest = shapes_told ts (λ s. drop (told_count s t) (X s)) (left_over t ts X long) in
    cc

streams_told : (ts : List Shaped) (X : Stream → List ℕ) → ((s : Stream) → length (X s) ≡ told_data s ts) → (s : Stream) → X s ≡ stream_of s (records_of ts X)
unfolding records_of
streams_told [] X long s = empty (X s) (long s)
  where
    empty : (xs : List ℕ) → length xs ≡ 0 → xs ≡ []
    empty [] e = refl
    empty (x ∷ xs) e = absurd (omega arith)
streams_told (t ∷ ts) X long s =
    let rest : drop (told_count s t) (X s) ≡ stream_of s (records_of ts (λ s. drop (told_count s t) (X s))) = streams_told ts (λ s. drop (told_count s t) (X s)) (left_over t ts X long) s in
    sym (take-append-drop (told_count s t) (X s)) ∙ (ap (λ (xs : List ℕ). xs ++ drop (told_count s t) (X s)) (sym (data_told t X s)) ∙ ap (λ (xs : List ℕ). data_in s (record_of t X) ++ xs) rest)

valid_shapes : (rs : List Record) → All IsGood (map shape_of rs) → All IsValid rs
valid_shapes [] good = All-nil IsValid
valid_shapes (r ∷ rs) good = All-cons IsValid r rs (All-head IsGood (shape_of r) (map shape_of rs) good) (valid_shapes rs (All-tail IsGood (shape_of r) (map shape_of rs) good))

-- Good lines and streams as long as they tell are the layout of records.
pub lines_are_records : (l : Laid) (ts : List Shaped) → All IsGood ts → l.timing ≡ lines_of ts → ((s : Stream) → length (stream_in s l) ≡ told_data s ts) → (rs : List Record) × IsLayout l rs × All IsValid rs × (map shape_of rs ≡ ts)
lines_are_records l ts good timing long =
    let rs = records_of ts (λ s. stream_in s l) in
    let shapes : map shape_of rs ≡ ts = shapes_told ts (λ s. stream_in s l) long in
    (rs, record { timing = timing ∙ (ap lines_of (sym shapes) ∙ lines_are_timing rs); streams = streams_told ts (λ s. stream_in s l) long }, valid_shapes rs (subst (All IsGood) (sym shapes) good), shapes)
