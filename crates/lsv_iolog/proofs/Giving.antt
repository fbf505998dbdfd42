-- The next record of a log, as its committed bytes have it, or what is at fault there.
use Rattle.std.proofs.Common.{◌≡◌, ◌⊎◌, inl, inr, ℕ, zero, suc, cond, nat_eq, ◌+◌, ◌<◌, ◌≤◌, ◌^◌, List, [], ◌∷◌, ◌++◌, length, take, drop, map, get_or, refl, sym, ◌∙◌, ap, subst, arith, append_assoc, append-nil, length-append, length-drop}
use Rattle.std.proofs.lemmas.Bool.{cases_eq, ne_eqb}
use Rattle.std.proofs.lemmas.List.{length-take, drop_at, take-append-drop}
use Rattle.std.proofs.lemmas.List.Elements.{All-cons, All-append, All-nil}
use Rattle.std.proofs.lemmas.List.Sums.{sum_by-append}
use Rattle.lsv_defs.specs.Pieces.{piece, IsPrefix}
use Rattle.lsv_disk.specs.declared.file.Part.{Part}
use Rattle.lsv_disk.specs.declared.file.Part.TheVariants.{Timing}
use Rattle.lsv_disk.specs.declared.file.Part.TheVariants as parts
use Rattle.lsv_disk.specs.Throughout.{OnlyReads}
use Rattle.lsv_disk.specs.View.{DiskView}
use Rattle.lsv_bundle.specs.declared.body.Body.{Body}
use Rattle.lsv_bundle.specs.declared.shape.Shape.TheVariants as shapes
use Rattle.lsv_bundle.specs.declared.view.View.{View}
use Rattle.lsv_bundle.specs.Body.{length_of}
use Rattle.lsv_bundle.specs.Shape.{IsPart}
use Rattle.lsv_record.specs.declared.laid.Laid.{Laid}
use Rattle.lsv_record.specs.declared.records.Record.{Record}
use Rattle.lsv_record.specs.declared.records.Record.TheVariants as records
use Rattle.lsv_record.specs.declared.records.Shaped.{Shaped}
use Rattle.lsv_record.specs.declared.records.Shaped.TheVariants as shapes_of
use Rattle.lsv_record.specs.declared.records.Stream.{Stream}
use Rattle.lsv_record.specs.declared.records.Stream.TheVariants.{Stdin, Stdout, Stderr, Ttyin, Ttyout}
use Rattle.lsv_record.specs.Layout.{Begins, NextLine, stream_in}
use Rattle.lsv_record.specs.Lines.{IsLineAt, IsBadAt, told_delay}
use Rattle.lsv_record.specs.Records as record_texts
use Rattle.lsv_record.specs.Records.{IsGood, IsValid, shape_of, shaped_line, delay_of, data_in, event_of, timing_of, stream_of, elapsed}
use Rattle.lsv_record.specs.Tally.{Totals, lines_of, totals_of, told_count, told_data, with_line}
use Rattle.lsv_record.proofs.Layouts.{stream_of-push, elapsed-push}
use Rattle.lsv_record.proofs.Once.{one_line}
use Rattle.lsv_record.proofs.Tallies.{totals_more, lines_are_timing, lines_tell_data, lines_tell_time, lines_grow}
use Rattle.lsv_iolog.specs.declared.fault.ViewFault.{ViewFault}
use Rattle.lsv_iolog.specs.declared.fault.ViewFault.TheVariants as views
use Rattle.lsv_iolog.specs.Recovered.{part_of, laid_in}
use Rattle.lsv_iolog.specs.Reading.{AreThere, IsWindowOf, GoesOn, LacksData, AllUsed, IsLeftOver, IsStreamFault, IsTimingFault, IsFaultBehind, IsSoundBehind}
use Rattle.lsv_iolog.specs.Inner.Scanning.{text_of, Scan, IsReading, IsBadLine, EachCounted, AllCounted, streams_before}
use Rattle.lsv_iolog.specs.Inner.Judging.{IsBehindLines, AreWhole, HasData, IsWithin, LacksIn, IsEndFault, back_to}
use Rattle.lsv_iolog.proofs.Replaying.{same_laid}
use Rattle.lsv_iolog.proofs.Scans.{text_same}
use Rattle.lsv_iolog.proofs.Viewing.{still_there, text_long}

-- the totals of lines, one by one
data_at : (lines : List Shaped) (s : Stream) → get_or (totals_of lines).data_bytes (event_of s) 0 ≡ told_data s lines
data_at lines Stdin = refl
data_at lines Stdout = refl
data_at lines Stderr = refl
data_at lines Ttyin = refl
data_at lines Ttyout = refl

shapes_length : (rs : List Record) → length (map shape_of rs) ≡ length rs
shapes_length [] = refl
shapes_length (r ∷ rs) = ap suc (shapes_length rs)

shapes_push : (rs : List Record) (r : Record) → map shape_of (rs ++ r ∷ []) ≡ map shape_of rs ++ shape_of r ∷ []
shapes_push [] r = refl
shapes_push (x ∷ rs) r = ap (λ (l : List Shaped). shape_of x ∷ l) (shapes_push rs r)

delay_is : (r : Record) → delay_of r ≡ told_delay (shape_of r)
delay_is (records.Io d s b) = refl
delay_is (records.Winsize d r c) = refl
delay_is (records.Suspend d g) = refl

-- what the totals of records say
pub tally_timing : (tally : Totals) (rs : List Record) → tally ≡ totals_of (map shape_of rs) → tally.timing ≡ length (timing_of rs)
tally_timing tally rs is = ap (λ (t : Totals). t.timing) is ∙ ap length (lines_are_timing rs)

tally_count : (tally : Totals) (rs : List Record) → tally ≡ totals_of (map shape_of rs) → tally.count ≡ length rs
tally_count tally rs is = ap (λ (t : Totals). t.count) is ∙ shapes_length rs

tally_elapsed : (tally : Totals) (rs : List Record) → tally ≡ totals_of (map shape_of rs) → tally.elapsed ≡ elapsed rs
tally_elapsed tally rs is = ap (λ (t : Totals). t.elapsed) is ∙ lines_tell_time rs

tally_data : (tally : Totals) (rs : List Record) (s : Stream) → tally ≡ totals_of (map shape_of rs) → get_or tally.data_bytes (event_of s) 0 ≡ length (stream_of s rs)
tally_data tally rs s is = ap (λ (t : Totals). get_or t.data_bytes (event_of s) 0) is ∙ data_at (map shape_of rs) s ∙ lines_tell_data s rs

-- a line more
tally_more : (tally : Totals) (rs : List Record) (told : Shaped) → tally ≡ totals_of (map shape_of rs) → with_line tally told ≡ totals_of (map shape_of rs ++ told ∷ [])
tally_more tally rs told is = ap (λ (t : Totals). with_line t told) is ∙ sym (totals_more (map shape_of rs) told)

data_more : (tally : Totals) (rs : List Record) (told : Shaped) (s : Stream) → tally ≡ totals_of (map shape_of rs) → get_or (with_line tally told).data_bytes (event_of s) 0 ≡ length (stream_of s rs) + told_count s told
data_more tally rs told s is =
    let e : get_or (with_line tally told).data_bytes (event_of s) 0 ≡ told_data s (map shape_of rs ++ told ∷ []) =
    ap (λ (t : Totals). get_or t.data_bytes (event_of s) 0) (tally_more tally rs told is) ∙ data_at (map shape_of rs ++ told ∷ []) s in
    let a : told_data s (map shape_of rs ++ told ∷ []) ≡ told_data s (map shape_of rs) + told_data s (told ∷ []) = sum_by-append (told_count s) (map shape_of rs) (told ∷ []) in
    let b : told_data s (told ∷ []) ≡ told_count s told = one (told_count s told) in
    let d = lines_tell_data s rs in
    e ∙ a ∙ (let h : told_data s (map shape_of rs) + told_data s (told ∷ []) ≡ length (stream_of s rs) + told_count s told = omega (arith, b, d) in h)
  where
    one : (n : ℕ) → 0 + n ≡ n
    one n = omega arith

-- the bytes of a stream among those of a log's files
stream_text : (bytes : Part → List ℕ) (s : Stream) → stream_in s (laid_in bytes) ≡ bytes (part_of s)
stream_text bytes Stdin = refl
stream_text bytes Stdout = refl
stream_text bytes Stderr = refl
stream_text bytes Ttyin = refl
stream_text bytes Ttyout = refl

of_log : (s : Stream) → IsPart shapes.Log (part_of s)
of_log Stdin = tt
of_log Stdout = tt
of_log Stderr = tt
of_log Ttyin = tt
of_log Ttyout = tt

-- a stream has as many bytes as the entry says
stream_long : (lines : Scan) (rs : List Record) (disk : DiskView) (s : Stream) → IsBehindLines lines rs disk → length (stream_in s (laid_in (text_of lines.view disk))) ≡ length_of lines.view.body (part_of s)
stream_long lines rs disk s is = ap length (stream_text (text_of lines.view disk) s) ∙ text_long lines.view disk (part_of s) (is.there (part_of s) (of_log s))

pub prefix_less : (a b : List ℕ) → IsPrefix a b → length a ≤ length b
prefix_less a b is = let e = ap length is.1 in omega (arith, e, length-append a is.0)

no_rest : (xs : List ℕ) → length xs ≡ 0 → xs ≡ []
no_rest [] none = refl
no_rest (x ∷ xs) none = absurd (let no_ : ⊥ = omega (arith, none) in no_)

-- a prefix that is as long is the whole
prefix_all : (a b : List ℕ) → IsPrefix a b → length b ≡ length a → b ≡ a
prefix_all a b is long =
    let e = ap length is.1 in
    let none : is.0 ≡ [] = no_rest is.0 (omega (arith, e, long, length-append a is.0)) in
    is.1 ∙ ap (λ (xs : List ℕ). a ++ xs) none ∙ append-nil a

-- and one with what stands after it is longer
prefix_more : (a b t : List ℕ) (k : ℕ) → IsPrefix a t → b ≡ take k (drop (length a) t) → IsPrefix (a ++ b) t
prefix_more a b t k is next =
    let rest : drop (length a) t ≡ is.0 = ap (drop (length a)) is.1 ∙ drop_at a is.0 (length a) refl in
    (drop k (drop (length a) t), is.1 ∙ ap (λ (xs : List ℕ). a ++ xs) (sym rest ∙ sym (take-append-drop k (drop (length a) t)) ∙ ap (λ (xs : List ℕ). xs ++ drop k (drop (length a) t)) (sym next)) ∙ sym (append_assoc a b (drop k (drop (length a) t))))

-- reading on changes no window
pub reading_on : (lines : Scan) (old new : DiskView) → OnlyReads old new → IsReading lines old → IsReading lines new
reading_on lines old new reads is = subst (λ (t : List ℕ). IsWindowOf t lines.start lines.window lines.tally.timing) (sym (text_same lines.view old new Timing reads)) is

-- a window serves the line before it too, where that begins in it
pub reading_back : (lines : Scan) (tally : Totals) (disk : DiskView) → (lines.start ≤ tally.timing) × (tally.timing ≤ lines.start + length lines.window) → IsReading lines disk → IsReading (back_to lines tally) disk
reading_back lines tally disk window is = record { bytes = is.bytes; within = is.within; before = window.0; after = window.1 }

-- the files of two views
texts_same : (old new : View) (disk later : DiskView) → new ≡ old → OnlyReads disk later → (part : Part) → text_of new later part ≡ text_of old disk part
texts_same old new disk later view reads part = ap (λ (v : View). text_of v later part) view ∙ text_same old disk later part reads

laid_same : (old new : View) (disk later : DiskView) → new ≡ old → OnlyReads disk later → laid_in (text_of new later) ≡ laid_in (text_of old disk)
laid_same old new disk later view reads = same_laid (text_of new later) (text_of old disk) (λ part own. texts_same old new disk later view reads part)

-- the files that were there still are
files_same : (old new : View) (disk later : DiskView) → new ≡ old → OnlyReads disk later → AreThere old.owner old.body disk.reads → AreThere new.owner new.body later.reads
files_same old new disk later view reads there = subst (λ (v : View). AreThere v.owner v.body later.reads) (sym view) (still_there old.owner old.body disk later reads there)

-- nothing was read
pub behind_same : (old new : Scan) (rs : List Record) (disk later : DiskView) → new.view ≡ old.view → OnlyReads disk later → new.tally ≡ old.tally → IsReading new later → IsBehindLines old rs disk → IsBehindLines new rs later
behind_same old new rs disk later view reads tally window is = record {
  begins = subst (λ (l : Laid). Begins l rs) (sym (laid_same old.view new.view disk later view reads)) is.begins;
  given = tally ∙ is.given;
  there = files_same old.view new.view disk later view reads is.there;
  window = window;
}

-- what the committed bytes have of a record is read from them
pub record IsRecordOf (text : Part → List ℕ) (tally : Totals) (told : Shaped) (r : Record) : Type 0 where
  pub shape : shape_of r ≡ told
  pub bytes : (s : Stream) → data_in s r ≡ piece (text (part_of s)) (get_or tally.data_bytes (event_of s) 0) (told_count s told)

begins_more : (lines : Scan) (rs : List Record) (disk : DiskView) (told : Shaped) (r : Record) (next : ℕ) → IsBehindLines lines rs disk → IsLineAt (text_of lines.view disk Timing) lines.tally.timing told next → IsGood told
    → lines.tally.elapsed + told_delay told < 2 ^ 63 → IsRecordOf (text_of lines.view disk) lines.tally told r → Begins (laid_in (text_of lines.view disk)) (rs ++ r ∷ [])
begins_more lines rs disk told r next is stands good in_time of = record {
  valid = All-append IsValid rs (r ∷ []) is.begins.valid (All-cons IsValid r [] (subst IsGood (sym of.shape) good) (All-nil IsValid));
  time = let a = elapsed-push rs r in let b = delay_is r in let d = ap told_delay of.shape in let e = tally_elapsed lines.tally rs is.given in omega (arith, a, b, d, e, in_time);
  timing = subst (λ (t : List ℕ). IsPrefix t (text_of lines.view disk Timing)) lines_all
      (lines_grow (text_of lines.view disk Timing) (map shape_of rs) told next
      (subst (λ (t : List ℕ). IsPrefix t (text_of lines.view disk Timing)) (sym (lines_are_timing rs)) is.begins.timing)
      (subst (λ (n : ℕ). IsLineAt (text_of lines.view disk Timing) n told next) (ap (λ (t : Totals). t.timing) is.given) stands));
  streams = λ s. subst (λ (t : List ℕ). IsPrefix t (stream_in s (laid_in (text_of lines.view disk)))) (sym (stream_of-push s rs r))
      (prefix_more (stream_of s rs) (data_in s r) (stream_in s (laid_in (text_of lines.view disk))) (told_count s told) (is.begins.streams s)
      (of.bytes s ∙ ap (λ (n : ℕ). piece (text_of lines.view disk (part_of s)) n (told_count s told)) (tally_data lines.tally rs s is.given)
      ∙ ap (λ (t : List ℕ). piece t (length (stream_of s rs)) (told_count s told)) (sym (stream_text (text_of lines.view disk) s))));
} where
  lines_all : lines_of (map shape_of rs ++ told ∷ []) ≡ timing_of (rs ++ r ∷ [])
  lines_all = ap (λ (t : Shaped). lines_of (map shape_of rs ++ t ∷ [])) (sym of.shape) ∙ ap lines_of (sym (shapes_push rs r)) ∙ lines_are_timing (rs ++ r ∷ [])

-- the record stands after the others
pub behind_more : (old new : Scan) (rs : List Record) (disk later : DiskView) (told : Shaped) (r : Record) → new.view ≡ old.view → OnlyReads disk later → new.tally ≡ with_line old.tally told → IsReading new later
    → IsLineAt (text_of old.view disk Timing) old.tally.timing told new.tally.timing → IsGood told → new.tally.elapsed < 2 ^ 63 → IsRecordOf (text_of old.view disk) old.tally told r → IsBehindLines old rs disk → IsBehindLines new (rs ++ r ∷ []) later
behind_more old new rs disk later told r view reads tally window stands good in_time of is = record {
  begins = subst (λ (l : Laid). Begins l (rs ++ r ∷ [])) (sym (laid_same old.view new.view disk later view reads))
      (begins_more old rs disk told r new.tally.timing is stands good (subst (λ (t : Totals). t.elapsed < 2 ^ 63) tally in_time) of);
  given = tally ∙ tally_more old.tally rs told is.given ∙ ap (λ (t : Shaped). totals_of (map shape_of rs ++ t ∷ [])) (sym of.shape) ∙ ap totals_of (sym (shapes_push rs r));
  there = files_same old.view new.view disk later view reads is.there;
  window = window;
}

-- no line stands there, or it comes too late
pub bad_behind : (lines : Scan) (rs : List Record) (disk : DiskView) → IsBehindLines lines rs disk → IsBadLine (text_of lines.view disk Timing) lines.tally → IsTimingFault (laid_in (text_of lines.view disk)) lines.view.body rs
bad_behind lines rs disk is (inl long) = inr (inr (inr long))
bad_behind lines rs disk is (inr (inl bad)) = inl (subst (IsBadAt (text_of lines.view disk Timing)) (tally_timing lines.tally rs is.given) bad)
bad_behind lines rs disk is (inr (inr late)) = inr (inl (
  late.told,
  (late.next, subst (λ (n : ℕ). IsLineAt (text_of lines.view disk Timing) n late.told late.next) (tally_timing lines.tally rs is.given) late.stands),
  λ goes. let e = tally_elapsed lines.tally rs is.given in let a = goes.in_time in let b = late.late in omega (arith, e, a, b),
))

-- the line is within what the entry says exactly where the lines go on as it says
goes_within : (tally : Totals) (body : Body) (rs : List Record) (told : Shaped) → tally ≡ totals_of (map shape_of rs) → GoesOn body rs told → IsWithin body (with_line tally told)
goes_within tally body rs told is goes =
    let a = tally_count tally rs is in let b = tally_elapsed tally rs is in let c = goes.count in let d = goes.time in let e = goes.in_time in
    record { count = omega (arith, a, c); time = omega (arith, b, d); in_time = omega (arith, b, e) }

within_goes : (tally : Totals) (body : Body) (rs : List Record) (told : Shaped) → tally ≡ totals_of (map shape_of rs) → IsWithin body (with_line tally told) → GoesOn body rs told
within_goes tally body rs told is within =
    let a = tally_count tally rs is in let b = tally_elapsed tally rs is in let c = within.count in let d = within.time in let e = within.in_time in
    record { count = omega (arith, a, c); time = omega (arith, b, d); in_time = omega (arith, b, e) }

next_line : (lines : Scan) (rs : List Record) (disk : DiskView) (told : Shaped) (next : ℕ) → IsBehindLines lines rs disk → IsLineAt (text_of lines.view disk Timing) lines.tally.timing told next → NextLine (laid_in (text_of lines.view disk)) rs told
next_line lines rs disk told next is stands = (next, subst (λ (n : ℕ). IsLineAt (text_of lines.view disk Timing) n told next) (tally_timing lines.tally rs is.given) stands)

-- the lines go on otherwise
pub over_behind : (lines : Scan) (rs : List Record) (disk : DiskView) (told : Shaped) (next : ℕ) (after : Totals) → IsBehindLines lines rs disk → IsLineAt (text_of lines.view disk Timing) lines.tally.timing told next
    → after ≡ with_line lines.tally told → (IsWithin lines.view.body after → ⊥) → IsTimingFault (laid_in (text_of lines.view disk)) lines.view.body rs
over_behind lines rs disk told next after is stands more over = inr (inl (
  told,
  next_line lines rs disk told next is stands,
  λ goes. over (subst (IsWithin lines.view.body) (sym more) (goes_within lines.tally lines.view.body rs told is.given goes)),
))

-- the fault of a stream is that of its file
lacks_there : (l : Laid) (body : Body) (rs : List Record) (s : Stream) → LacksData l body rs s → IsFaultBehind l body rs (part_of s)
lacks_there l body rs Stdin lacks = inl lacks
lacks_there l body rs Stdout lacks = inl lacks
lacks_there l body rs Stderr lacks = inl lacks
lacks_there l body rs Ttyin lacks = inl lacks
lacks_there l body rs Ttyout lacks = inl lacks

left_there : (l : Laid) (body : Body) (rs : List Record) (s : Stream) → IsLeftOver l body rs (streams_before s) s → IsFaultBehind l body rs (part_of s)
left_there l body rs Stdin left = inr left
left_there l body rs Stdout left = inr left
left_there l body rs Stderr left = inr left
left_there l body rs Ttyin left = inr left
left_there l body rs Ttyout left = inr left

short_piece : (text : List ℕ) (at k : ℕ) → length (piece text at k) < k → length text < at + k
short_piece text at k short = let a = length-take k (drop at text) in let b = length-drop at text in omega (arith, a, b, short)

-- too few bytes of the stream are committed
pub lacks_behind : (lines : Scan) (rs : List Record) (disk later : DiskView) (told : Shaped) (next : ℕ) (after : Totals) (part : Part) → IsBehindLines lines rs disk → OnlyReads disk later → IsLineAt (text_of lines.view disk Timing) lines.tally.timing told next
    → after ≡ with_line lines.tally told → IsWithin lines.view.body after → LacksIn lines.view lines.tally after told later part → IsFaultBehind (laid_in (text_of lines.view disk)) lines.view.body rs part
lacks_behind lines rs disk later told next after part is reads stands more within lacks =
    subst (IsFaultBehind l lines.view.body rs) (sym lacks.file) (lacks_there l lines.view.body rs s
    (told, next_line lines rs disk told next is stands, within_goes lines.tally lines.view.body rs told is.given (subst (IsWithin lines.view.body) more within), few lacks.few))
  where
    l : Laid
    l = laid_in (text_of lines.view disk)

    s : Stream
    s = lacks.stream

    few : (length_of lines.view.body (part_of s) < get_or after.data_bytes (event_of s) 0) ⊎ (length (piece (text_of lines.view later (part_of s)) (get_or lines.tally.data_bytes (event_of s) 0) (told_count s told)) < told_count s told)
        → length (stream_in s l) < length (stream_of s rs) + told_count s told
    few (inl less) =
        let a = stream_long lines rs disk s is in
        let b = ap (λ (t : Totals). get_or t.data_bytes (event_of s) 0) more ∙ data_more lines.tally rs told s is.given in
        omega (arith, a, b, less)
    few (inr short) =
        let a = short_piece (text_of lines.view later (part_of s)) (get_or lines.tally.data_bytes (event_of s) 0) (told_count s told) short in
        let b = tally_data lines.tally rs s is.given in
        let d = ap length (text_same lines.view disk later (part_of s) reads) in
        let e = ap length (stream_text (text_of lines.view disk) s) in
        omega (arith, a, b, d, e)

-- the lines end there
timing_ends : (lines : Scan) (rs : List Record) (disk : DiskView) → IsBehindLines lines rs disk → lines.tally.timing ≡ length_of lines.view.body Timing → text_of lines.view disk Timing ≡ timing_of rs
timing_ends lines rs disk is end = prefix_all (timing_of rs) (text_of lines.view disk Timing) is.begins.timing (text_long lines.view disk Timing (is.there Timing tt) ∙ sym end ∙ tally_timing lines.tally rs is.given)

all_used : (lines : Scan) (rs : List Record) (disk : DiskView) (ss : List Stream) → IsBehindLines lines rs disk → EachCounted lines.view.body lines.tally ss → AllUsed (laid_in (text_of lines.view disk)) rs ss
all_used lines rs disk [] is each = tt
all_used lines rs disk (s ∷ ss) is each = (stream_long lines rs disk s is ∙ each.0 ∙ tally_data lines.tally rs s is.given, all_used lines rs disk ss is each.1)

apart : (a b : ℕ) → a ≤ b → (b ≡ a → ⊥) → a < b
apart zero zero le other = absurd (other refl)
apart zero (suc b) le other = omega arith
apart (suc a) zero le other = absurd (let no_ : ⊥ = omega (arith, le) in no_)
apart (suc a) (suc b) le other = let h = apart a b (omega (arith, le)) (λ e. other (ap suc e)) in omega (arith, h)

-- they end otherwise than the entry says
pub ends_behind : (lines : Scan) (rs : List Record) (disk : DiskView) (fault : ViewFault) (part : Part) → IsBehindLines lines rs disk → lines.tally.timing ≡ length_of lines.view.body Timing → fault ≡ views.Damaged part
    → IsEndFault lines.view.body lines.tally fault → IsFaultBehind (laid_in (text_of lines.view disk)) lines.view.body rs part
ends_behind lines rs disk fault part is end damaged (inl counts) =
    subst (IsFaultBehind (laid_in (text_of lines.view disk)) lines.view.body rs) (one Timing part (sym counts.0 ∙ damaged))
    (inr (inr (inl (timing_ends lines rs disk is end, λ ends. counts.1 (ends.count ∙ sym (tally_count lines.tally rs is.given)) (ends.time ∙ sym (tally_elapsed lines.tally rs is.given))))))
  where
    one : (a b : Part) → views.Damaged a ≡ views.Damaged b → a ≡ b
    one a b e = cc
ends_behind lines rs disk fault part is end damaged (inr streams) =
    subst (IsFaultBehind l lines.view.body rs) (one (part_of s) part (sym streams.2.1 ∙ damaged))
    (left_there l lines.view.body rs s (record {
      ends = record { timing = timing_ends lines rs disk is end; count = streams.0 ∙ tally_count lines.tally rs is.given; time = streams.1 ∙ tally_elapsed lines.tally rs is.given };
      used = all_used lines rs disk (streams_before s) is streams.2.2.0;
      left = apart (length (stream_of s rs)) (length (stream_in s l)) (prefix_less (stream_of s rs) (stream_in s l) (is.begins.streams s))
          (λ same. streams.2.2.1 (sym (stream_long lines rs disk s is) ∙ same ∙ sym (tally_data lines.tally rs s is.given)));
    }))
  where
    l : Laid
    l = laid_in (text_of lines.view disk)

    s : Stream
    s = streams.2.0

    one : (a b : Part) → views.Damaged a ≡ views.Damaged b → a ≡ b
    one a b e = cc

-- or as it says
pub whole_behind : (lines : Scan) (rs : List Record) (disk : DiskView) → IsBehindLines lines rs disk → lines.tally.timing ≡ length_of lines.view.body Timing → lines.view.body.count ≡ lines.tally.count → lines.view.body.elapsed ≡ lines.tally.elapsed
    → AllCounted lines.view.body lines.tally → AreWhole lines.view rs disk
whole_behind lines rs disk is end count time streams = record {
  layout = record {
    timing = timing_ends lines rs disk is end;
    streams = λ s. prefix_all (stream_of s rs) (stream_in s (laid_in (text_of lines.view disk))) (is.begins.streams s) (stream_long lines rs disk s is ∙ streams s ∙ tally_data lines.tally rs s is.given);
  };
  count = count ∙ tally_count lines.tally rs is.given;
  time = time ∙ tally_elapsed lines.tally rs is.given;
}

-- the timing is at fault alone
pub timing_alone : (e : ViewFault) (part : Part) → e ≡ views.Damaged part → (e ≡ views.Disk) ⊎ (e ≡ views.Damaged Timing) ⊎ (e ≡ views.NoMem) → Timing ≡ part
timing_alone e part is (inl disk) = absurd (let no_ : ⊥ = cc in no_)
timing_alone e part is (inr (inl damaged)) = let h : views.Damaged Timing ≡ views.Damaged part = sym damaged ∙ is in cc
timing_alone e part is (inr (inr mem)) = absurd (let no_ : ⊥ = cc in no_)

-- ---- where a record is given, or the end, nothing is at fault

line_long : (told : Shaped) → 1 ≤ length (shaped_line told)
line_long told = omega (arith, length-append (record_texts.text_of told) (10 ∷ []))

none_left : (xs : List ℕ) → drop (length xs) xs ≡ []
none_left xs = ap (drop (length xs)) (sym (append-nil xs)) ∙ drop_at xs [] (length xs) refl

-- no line stands at the end of a text
no_line_at_end : (text : List ℕ) (at next : ℕ) (told : Shaped) → at ≡ length text → IsLineAt text at told next → ⊥
no_line_at_end text at next told end line =
    let none : [] ≡ shaped_line told ++ drop next text = sym (none_left text) ∙ ap (λ (k : ℕ). drop k text) (sym end) ∙ line.spelled in
    let counts = ap length none in
    omega (arith, counts, length-append (shaped_line told) (drop next text), line_long told)

-- what is at fault is the timing, or a stream
sound_behind : (l : Laid) (body : Body) (rs : List Record) → (IsTimingFault l body rs → ⊥) → ((before : List Stream) (s : Stream) → IsStreamFault l body rs before s → ⊥) → IsSoundBehind l body rs
sound_behind l body rs timing stream Timing f = timing f
sound_behind l body rs timing stream parts.Stdin f = stream [] Stdin f
sound_behind l body rs timing stream parts.Stdout f = stream (Stdin ∷ []) Stdout f
sound_behind l body rs timing stream parts.Stderr f = stream (Stdin ∷ Stdout ∷ []) Stderr f
sound_behind l body rs timing stream parts.Ttyin f = stream (Stdin ∷ Stdout ∷ Stderr ∷ []) Ttyin f
sound_behind l body rs timing stream parts.Ttyout f = stream (Stdin ∷ Stdout ∷ Stderr ∷ Ttyin ∷ []) Ttyout f
sound_behind l body rs timing stream parts.Head f = f
sound_behind l body rs timing stream parts.Exit f = f
sound_behind l body rs timing stream parts.Lines f = f
sound_behind l body rs timing stream parts.Id f = f
sound_behind l body rs timing stream parts.Commit f = f
sound_behind l body rs timing stream parts.Slots f = f

-- the stream of an event
at_event : ℕ → Stream
at_event event = cond (nat_eq event 0) Stdin (cond (nat_eq event 1) Stdout (cond (nat_eq event 2) Stderr (cond (nat_eq event 3) Ttyin Ttyout)))

at_its_event : (s : Stream) → at_event (event_of s) ≡ s
unfolding at_event
at_its_event Stdin = refl
at_its_event Stdout = refl
at_its_event Stderr = refl
at_its_event Ttyin = refl
at_its_event Ttyout = refl

event_once : (s t : Stream) → event_of s ≡ event_of t → s ≡ t
event_once s t e = sym (at_its_event s) ∙ ap at_event e ∙ at_its_event t

-- a line that has its data lacks none
data_there : (body : Body) (after : Totals) (told : Shaped) (s : Stream) → HasData body after told → (told_count s told ≡ 0) ⊎ (get_or after.data_bytes (event_of s) 0 ≤ length_of body (part_of s))
data_there body after (shapes_of.Io delay stream count) s has = of (cases_eq (event_of s) (event_of stream)) where
  of : (event_of s ≡ event_of stream) ⊎ (event_of s ≡ event_of stream → ⊥) → (told_count s (shapes_of.Io delay stream count) ≡ 0) ⊎ (get_or after.data_bytes (event_of s) 0 ≤ length_of body (part_of s))
  of (inl same) = inr (subst (λ (t : Stream). get_or after.data_bytes (event_of t) 0 ≤ length_of body (part_of t)) (sym (event_once s stream same)) has)
  of (inr other) = inl (rw (ne_eqb (event_of s) (event_of stream) other) refl)
data_there body after (shapes_of.Winsize delay rows cols) s has = inl refl
data_there body after (shapes_of.Suspend delay signal) s has = inl refl

module _ (lines : Scan) (rs : List Record) (disk : DiskView) (is : IsBehindLines lines rs disk) (small : length_of lines.view.body Timing ≤ 2 ^ 40) where
  abbrev l_of : Laid
  l_of = laid_in (text_of lines.view disk)

  not_big : 2 ^ 40 < length (text_of lines.view disk Timing) → ⊥
  not_big big = let long = text_long lines.view disk Timing (is.there Timing tt) in omega (arith, long, small, big)

  -- a line stands there, which goes on as the entry says, and its data are there
  module _ (told : Shaped) (next : ℕ) (after : Totals) (stands : IsLineAt (text_of lines.view disk Timing) lines.tally.timing told next) (more : after ≡ with_line lines.tally told)
      (within : IsWithin lines.view.body after) (has : HasData lines.view.body after told) where
    here : NextLine l_of rs told
    here = next_line lines rs disk told next is stands

    goes : GoesOn lines.view.body rs told
    goes = within_goes lines.tally lines.view.body rs told is.given (subst (IsWithin lines.view.body) more within)

    same_told : (other : Shaped) → NextLine l_of rs other → other ≡ told
    same_told other at = (one_line (text_of lines.view disk Timing) (length (timing_of rs)) at.0 here.0 other told at.1 here.1).0

    not_ended : text_of lines.view disk Timing ≡ timing_of rs → ⊥
    not_ended ends = no_line_at_end (text_of lines.view disk Timing) (length (timing_of rs)) here.0 told (ap length (sym ends)) here.1

    timing_goes : IsTimingFault l_of lines.view.body rs → ⊥
    timing_goes (inl bad) = bad.no_line told here.0 here.1
    timing_goes (inr (inl (other, at, stops))) = stops (subst (GoesOn lines.view.body rs) (sym (same_told other at)) goes)
    timing_goes (inr (inr (inl (ends, otherwise)))) = not_ended ends
    timing_goes (inr (inr (inr big))) = not_big big

    few : (s : Stream) → length (stream_in s l_of) < length (stream_of s rs) + told_count s told → (told_count s told ≡ 0) ⊎ (get_or after.data_bytes (event_of s) 0 ≤ length_of lines.view.body (part_of s)) → ⊥
    few s lacks (inl none) = let less = prefix_less (stream_of s rs) (stream_in s l_of) (is.begins.streams s) in omega (arith, lacks, none, less)
    few s lacks (inr enough) =
        let long = stream_long lines rs disk s is in
        let bytes = ap (λ (t : Totals). get_or t.data_bytes (event_of s) 0) more ∙ data_more lines.tally rs told s is.given in
        omega (arith, lacks, enough, long, bytes)

    stream_goes : (before : List Stream) (s : Stream) → IsStreamFault l_of lines.view.body rs before s → ⊥
    stream_goes before s (inl (other, at, on, lacks)) =
        few s (subst (λ (t : Shaped). length (stream_in s l_of) < length (stream_of s rs) + told_count s t) (same_told other at) lacks) (data_there lines.view.body after told s has)
    stream_goes before s (inr over) = not_ended over.ends.timing

    -- so nothing is at fault
    pub going_sound : IsSoundBehind l_of lines.view.body rs
    going_sound = sound_behind l_of lines.view.body rs timing_goes stream_goes

  -- the lines end there, as the entry says
  module _ (end : lines.tally.timing ≡ length_of lines.view.body Timing) (whole : AreWhole lines.view rs disk) where
    at_end : length (timing_of rs) ≡ length (text_of lines.view disk Timing)
    at_end = ap length (sym whole.layout.timing)

    timing_ends_sound : IsTimingFault l_of lines.view.body rs → ⊥
    timing_ends_sound (inl bad) = let before = bad.before_end in omega (arith, before, at_end)
    timing_ends_sound (inr (inl (told, at, stops))) = no_line_at_end (text_of lines.view disk Timing) (length (timing_of rs)) at.0 told at_end at.1
    timing_ends_sound (inr (inr (inl (ends, otherwise)))) = otherwise (record { timing = ends; count = whole.count; time = whole.time })
    timing_ends_sound (inr (inr (inr big))) = not_big big

    stream_ends_sound : (before : List Stream) (s : Stream) → IsStreamFault l_of lines.view.body rs before s → ⊥
    stream_ends_sound before s (inl (told, at, on, lacks)) = no_line_at_end (text_of lines.view disk Timing) (length (timing_of rs)) at.0 told at_end at.1
    stream_ends_sound before s (inr over) = let left = over.left in let same = ap length (whole.layout.streams s) in omega (arith, left, same)

    -- so nothing is at fault
    pub ending_sound : IsSoundBehind l_of lines.view.body rs
    ending_sound = sound_behind l_of lines.view.body rs timing_ends_sound stream_ends_sound
