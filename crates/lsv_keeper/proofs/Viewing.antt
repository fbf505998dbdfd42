-- A log that is there, as a view of it reads: nothing of it is at fault.
use Rattle.std.proofs.Common.{◌≡◌, ◌≤◌, ◌<◌, ◌+◌, ◌^◌, ℕ, List, [], ◌∷◌, ◌++◌, length, take, drop, All, Option, Some, None, refl, sym, ◌∙◌, ap, subst, inl, inr, arith, append-nil, length-append, length-drop}
use Rattle.std.proofs.lemmas.List.{take_at}
use Rattle.lsv_disk.specs.Bytes.{bytes_of}
use Rattle.lsv_disk.specs.Files.{file_of}
use Rattle.lsv_disk.specs.Throughout.{OnlyReads}
use Rattle.lsv_disk.specs.View.{DiskView, Image}
use Rattle.lsv_disk.specs.declared.file.Part.{Part}
use Rattle.lsv_disk.specs.declared.file.Part.TheVariants.{Head, Exit, Timing, Stdin, Stdout, Stderr, Ttyin, Ttyout, Lines, Id, Commit, Slots}
use Rattle.lsv_disk.proofs.Composition.{unchanged_reads}
use Rattle.lsv_bundle.specs.Body.{encoded, length_of}
use Rattle.lsv_bundle.specs.Committed.{HasEntry, HasPrefix, IsFirstShort, IsShort}
use Rattle.lsv_bundle.specs.Shape.{IsPart}
use Rattle.lsv_bundle.specs.declared.body.Body.{Body}
use Rattle.lsv_bundle.specs.declared.shape.Shape.TheVariants as shapes
use Rattle.lsv_bundle.proofs.Laws.{one_body}
use Rattle.lsv_mask.specs.Masking.{Seen}
use Rattle.lsv_record.specs.Layout.{Begins, NextLine, layout_of, stream_in}
use Rattle.lsv_record.specs.Lines.{IsLineAt, told_delay}
use Rattle.lsv_record.specs.Points.{Stored}
use Rattle.lsv_record.specs.Records.{IsValid, data_in, delay_of, elapsed, line_of, shape_of, shaped_line, stream_of, text_of, timing_of}
use Rattle.lsv_record.specs.Tally.{told_count}
use Rattle.lsv_record.specs.declared.laid.Laid.{Laid}
use Rattle.lsv_record.specs.declared.records.Record.{Record}
use Rattle.lsv_record.specs.declared.records.Record.TheVariants as records
use Rattle.lsv_record.specs.declared.records.Shaped.{Shaped}
use Rattle.lsv_record.specs.declared.records.Stream.{Stream}
use Rattle.lsv_record.specs.declared.records.Stream.TheVariants as streams
use Rattle.lsv_record.proofs.Layouts.{elapsed-append, stream_of-append, timing_of-append}
use Rattle.lsv_record.proofs.Once.{data_length, laid_is_read, line_behind, one_line}
use Rattle.lsv_iolog.specs.Damage.{IsViewDamage}
use Rattle.lsv_iolog.specs.Reading.{GoesOn, IsBehind, IsFaultBehind, IsStreamFault, IsTimingFault, ViewState, committed_laid, committed_text}
use Rattle.lsv_iolog.specs.Recovered.{IsHeadText, Replays, owner_of}
use Rattle.lsv_iolog.proofs.Replaying.{one_entry, same_laid}
use Rattle.lsv_keeper.specs.Resuming.{IsViewOf}
use Rattle.lsv_keeper.proofs.Seeing.{Seeing, laid_same}

-- ---- A view of a log that is there

some_is : (a b : List ℕ) → Some a ≡ Some b → a ≡ b
some_is a b e = cc

text_is : (file : Option (List ℕ)) (xs : List ℕ) (k : ℕ) → HasPrefix xs file → length xs ≡ k → take k (bytes_of file) ≡ xs
text_is None xs k has long = absurd has
text_is (Some bytes) xs k (rest, e) long = ap (take k) e ∙ take_at xs rest k long

pub viewed : (n : ℕ) (view : ViewState) (stored : Stored) (old new : DiskView) → view.number ≡ n → HasEntry (owner_of n) view.body old.reads → OnlyReads old new → Replays old.reads n (Some stored) → IsViewOf view stored new
viewed n view stored old new number entry reads is =
    let same : new.reads ≡ old.reads = λ i f. unchanged_reads old new reads.unchanged f i in
    let body : is.entry.body ≡ view.body = one_body is.entry.body view.body is.holds.is_body entry.is_body (some_is (encoded is.entry.body) (encoded view.body) (sym is.holds.last ∙ entry.last)) in
    let text : (part : Part) → IsPart shapes.Log part → committed_text n view.body new part ≡ is.entry.bytes part = λ part own.
    ap (λ (image : Image). take (length_of view.body part) (bytes_of (image (file_of (owner_of n) part)))) same
    ∙ text_is (old.reads (file_of (owner_of n) part)) (is.entry.bytes part) (length_of view.body part) (is.holds.bytes part own) (is.holds.lengths part own ∙ ap (λ (b : Body). length_of b part) body) in
    record {
      layout = ap (λ (k : ℕ). committed_laid k view.body new) number ∙ (same_laid (committed_text n view.body new) is.entry.bytes text ∙ is.is.layout);
      count = ap (λ (b : Body). b.count) (sym body) ∙ is.is.count;
      time = ap (λ (b : Body). b.elapsed) (sym body) ∙ is.is.time;
      valid = is.is.valid;
      in_time = is.is.in_time;
      small = subst (λ (xs : List ℕ). length xs ≤ 2 ^ 40) (sym (ap (λ (k : ℕ). committed_text k view.body new Timing) number ∙ text Timing tt)) is.is.small;
    }

-- ---- No file is short, and the head is one

long_enough : (file : Option (List ℕ)) (xs : List ℕ) (k : ℕ) → HasPrefix xs file → length xs ≡ k → IsShort file k → ⊥
long_enough None xs k has long short = has
long_enough (Some bytes) xs k (rest, e) long short = omega (arith, ap length e, length-append xs rest, long, short)

pub view_whole : (n : ℕ) (part : Part) (stored : Stored) (image : Image) → Replays image n (Some stored) → IsViewDamage n part image → ⊥
view_whole n part stored image is (inr (head, fault)) =
    let both = one_entry n image is.entry fault.entry is.holds fault.holds in
    fault.fault (subst (λ (xs : List ℕ). IsHeadText xs) (sym is.is.head ∙ both.1 Head tt) is.is.is_head)
view_whole n part stored image is (inl damage) =
    let body : is.entry.body ≡ damage.body = one_body is.entry.body damage.body is.holds.is_body damage.entry.is_body (some_is (encoded is.entry.body) (encoded damage.body) (sym is.holds.last ∙ damage.entry.last)) in
    none_short (Head ∷ Exit ∷ Timing ∷ Stdin ∷ Stdout ∷ Stderr ∷ Ttyin ∷ Ttyout ∷ []) (tt, (tt, (tt, (tt, (tt, (tt, (tt, (tt, tt)))))))) (λ p own. ap (λ (b : Body). length_of b p) body) damage.first
  where
    AllOwn : List Part → Type 0
    AllOwn [] = Unit {0}
    AllOwn (p ∷ parts) = IsPart shapes.Log p × AllOwn parts

    none_short : (parts : List Part) → AllOwn parts → ((p : Part) → IsPart shapes.Log p → length_of is.entry.body p ≡ length_of damage.body p) → IsFirstShort (owner_of n) image damage.body.lens parts part → ⊥
    none_short [] own same first = first
    none_short (p ∷ parts) own same (inl (e, short)) = long_enough (image (file_of (owner_of n) p)) (is.entry.bytes p) (length_of damage.body p) (is.holds.bytes p own.0) (is.holds.lengths p own.0 ∙ same p own.0) short
    none_short (p ∷ parts) own same (inr (long, rest)) = none_short parts own.1 same rest

-- ---- Nothing is at fault after its first records

delay_told : (r : Record) → told_delay (shape_of r) ≡ delay_of r
delay_told (records.Io d s b) = refl
delay_told (records.Winsize d r c) = refl
delay_told (records.Suspend d g) = refl

none_at_end : (text : List ℕ) (at : ℕ) (told : Shaped) (next : ℕ) → length text ≤ at → IsLineAt text at told next → ⊥
none_at_end text at told next end line =
    omega (arith, end, ap length line.spelled, length-drop at text, length-append (shaped_line told) (drop next text), length-append (text_of told) (10 ∷ []))

same_stream : (all : List Record) (s : Stream) → stream_in s (layout_of all) ≡ stream_of s all
same_stream all streams.Stdin = refl
same_stream all streams.Stdout = refl
same_stream all streams.Stderr = refl
same_stream all streams.Ttyin = refl
same_stream all streams.Ttyout = refl

-- the lines go on
module _ (all given more : List Record) (r : Record) (body : Body) (valid : All IsValid all) (in_time : elapsed all < 2 ^ 63) (whole : all ≡ given ++ r ∷ more) (count : body.count ≡ length all) (time : body.elapsed ≡ elapsed all)
    (small : length (timing_of all) ≤ 2 ^ 40) where
  line_here : IsLineAt (timing_of all) (length (timing_of given)) (shape_of r) (length (timing_of given) + length (line_of r))
  line_here = line_behind (layout_of all) given r more (subst (Begins (layout_of all)) whole (laid_is_read (layout_of all) all valid in_time (record { timing = refl; streams = same_stream all })).begins)

  same_told : (told : Shaped) → NextLine (layout_of all) given told → told ≡ shape_of r
  same_told told next = (one_line (timing_of all) (length (timing_of given)) next.0 (length (timing_of given) + length (line_of r)) told (shape_of r) next.1 line_here).0

  goes_here : GoesOn body given (shape_of r)
  goes_here =
      let long : length all ≡ length given + length (r ∷ more) = ap length whole ∙ length-append given (r ∷ more) in
      let late : elapsed all ≡ elapsed given + elapsed (r ∷ more) = ap elapsed whole ∙ elapsed-append given (r ∷ more) in
      let told = delay_told r in
      record { count = omega (arith, long, count); time = omega (arith, late, time, told); in_time = omega (arith, late, told, in_time) }

  not_all : timing_of all ≡ timing_of given → ⊥
  not_all e = omega (arith, ap length e, ap length (ap timing_of whole), ap length (timing_of-append given (r ∷ more)), length-append (timing_of given) (timing_of (r ∷ more)), length-append (line_of r) (timing_of more), length-append (text_of (shape_of r)) (10 ∷ []))

  timing_goes : IsTimingFault (layout_of all) body given → ⊥
  timing_goes (inl bad) = bad.no_line (shape_of r) (length (timing_of given) + length (line_of r)) line_here
  timing_goes (inr (inl (told, next, stops))) = stops (subst (GoesOn body given) (sym (same_told told next)) goes_here)
  timing_goes (inr (inr (inl (e, ends)))) = not_all e
  timing_goes (inr (inr (inr big))) = omega (arith, big, small)

  stream_goes : (before : List Stream) (s : Stream) → IsStreamFault (layout_of all) body given before s → ⊥
  stream_goes before s (inl (told, next, goes, lacks)) =
      let is = same_told told next in
      omega (arith, lacks, ap length (same_stream all s ∙ ap (stream_of s) whole), ap length (stream_of-append s given (r ∷ more)), length-append (stream_of s given) (stream_of s (r ∷ more)), length-append (data_in s r) (stream_of s more), data_length s r, ap (told_count s) is)
  stream_goes before s (inr over) = not_all over.ends.timing

-- the lines end
module _ (given : List Record) (body : Body) (count : body.count ≡ length given) (time : body.elapsed ≡ elapsed given) (small : length (timing_of given) ≤ 2 ^ 40) where
  timing_ends : IsTimingFault (layout_of given) body given → ⊥
  timing_ends (inl bad) = omega (arith, bad.before_end)
  timing_ends (inr (inl (told, next, stops))) = none_at_end (timing_of given) (length (timing_of given)) told next.0 (omega arith) next.1
  timing_ends (inr (inr (inl (e, ends)))) = ends (record { timing = refl; count = count; time = time })
  timing_ends (inr (inr (inr big))) = omega (arith, big, small)

  stream_ends : (before : List Stream) (s : Stream) → IsStreamFault (layout_of given) body given before s → ⊥
  stream_ends before s (inl (told, next, goes, lacks)) = none_at_end (timing_of given) (length (timing_of given)) told next.0 (omega arith) next.1
  stream_ends before s (inr over) = omega (arith, over.left, ap length (same_stream given s))

no_fault : (l : Laid) (body : Body) (given : List Record) (part : Part) → (IsTimingFault l body given → ⊥) → ((before : List Stream) (s : Stream) → IsStreamFault l body given before s → ⊥) → IsFaultBehind l body given part → ⊥
no_fault l body given Timing timing stream f = timing f
no_fault l body given Stdin timing stream f = stream [] streams.Stdin f
no_fault l body given Stdout timing stream f = stream (streams.Stdin ∷ []) streams.Stdout f
no_fault l body given Stderr timing stream f = stream (streams.Stdin ∷ streams.Stdout ∷ []) streams.Stderr f
no_fault l body given Ttyin timing stream f = stream (streams.Stdin ∷ streams.Stdout ∷ streams.Stderr ∷ []) streams.Ttyin f
no_fault l body given Ttyout timing stream f = stream (streams.Stdin ∷ streams.Stdout ∷ streams.Stderr ∷ streams.Ttyin ∷ []) streams.Ttyout f
no_fault l body given Head timing stream f = f
no_fault l body given Exit timing stream f = f
no_fault l body given Lines timing stream f = f
no_fault l body given Id timing stream f = f
no_fault l body given Commit timing stream f = f
no_fault l body given Slots timing stream f = f

faultless : (all given more : List Record) (body : Body) (part : Part) → All IsValid all → elapsed all < 2 ^ 63 → all ≡ given ++ more → body.count ≡ length all → body.elapsed ≡ elapsed all → length (timing_of all) ≤ 2 ^ 40
    → IsFaultBehind (layout_of all) body given part → ⊥
faultless all given [] body part valid in_time whole count time small f =
    let same : all ≡ given = whole ∙ append-nil given in
    no_fault (layout_of given) body given part
    (timing_ends given body (count ∙ ap length same) (time ∙ ap elapsed same) (subst (λ (rs : List Record). length (timing_of rs) ≤ 2 ^ 40) same small))
    (stream_ends given body (count ∙ ap length same) (time ∙ ap elapsed same) (subst (λ (rs : List Record). length (timing_of rs) ≤ 2 ^ 40) same small))
    (subst (λ (rs : List Record). IsFaultBehind (layout_of rs) body given part) same f)
faultless all given (r ∷ more) body part valid in_time whole count time small f =
    no_fault (layout_of all) body given part (timing_goes all given more r body valid in_time whole count time small) (stream_goes all given more r body valid in_time whole count time small) f

-- a log that is there isn't damaged where it is read
pub seeing_whole : (told : Type 0) (start view : ViewState) (before mask : Seen) (old now : DiskView) (point left i : ℕ) (part : Part) (stored : Stored) → told → Seeing told start view before mask old now point left i
    → IsViewOf start stored old → IsBehind start [] old
    → ((given : List Record) → IsBehind view given now → IsFaultBehind (committed_laid view.number view.body now) view.body given part) → ⊥
seeing_whole told start view before mask old now point left i part stored t seeing of behind fault =
    let s = seeing.saw t stored of behind in
    let laid : committed_laid view.number view.body now ≡ layout_of stored.records = laid_same start view stored old now seeing.number seeing.body (seeing.reads t) of in
    let same : committed_laid start.number start.body old ≡ layout_of stored.records = of.layout in
    faultless stored.records s.given s.more view.body part of.valid of.in_time s.whole (ap (λ (b : Body). b.count) seeing.body ∙ of.count) (ap (λ (b : Body). b.elapsed) seeing.body ∙ of.time)
    (subst (λ (xs : List ℕ). length xs ≤ 2 ^ 40) (ap (λ (l : Laid). l.timing) same) of.small)
    (subst (λ (l : Laid). IsFaultBehind l view.body s.given part) laid (fault s.given s.behind))
