-- A log that the disk holds isn't damaged.
use Rattle.std.proofs.Common.{◌≡◌, ◌∙◌, ◌++◌, ◌⊎◌, ◌+◌, ◌<◌, ◌≤◌, ◌^◌, inl, inr, ℕ, List, [], ◌∷◌, Option, Some, None, Err, length, length-append, drop, refl, sym, ap, subst, append-nil, slice_index, arith}
use Rattle.std.proofs.lemmas.List.{drop_at}
use Rattle.lsv_disk.specs.declared.file.Owner.{Owner}
use Rattle.lsv_disk.specs.declared.file.Part.{Part}
use Rattle.lsv_disk.specs.declared.file.Part.TheVariants.{Head as HeadPart, Exit, Timing, Stdin, Stdout, Stderr, Ttyin, Ttyout, Lines, Id, Commit, Slots}
use Rattle.lsv_disk.specs.Files.{file_of}
use Rattle.lsv_disk.specs.View.{Image}
use Rattle.lsv_bundle.specs.declared.body.Body.{Body}
use Rattle.lsv_bundle.specs.declared.shape.Shape.TheVariants as shapes
use Rattle.lsv_bundle.specs.Body.{encoded, length_of}
use Rattle.lsv_bundle.specs.Committed.{HasPrefix, IsDamaged, IsFirstShort, IsShort}
use Rattle.lsv_bundle.specs.Shape.{index_of, parts_of}
use Rattle.lsv_bundle.proofs.Laws.{one_body}
use Rattle.lsv_iolog.specs.Damage.{HasFault, IsViewDamage}
use Rattle.lsv_iolog.specs.Reading.{AreThere, GoesOn, IsFaultBehind, IsStreamFault, IsTimingFault, LacksData}
use Rattle.lsv_iolog.specs.Recovered.{HoldsLog, IsHeadText, Replays, owner_of}
use Rattle.lsv_iolog.proofs.Replaying.{one_entry}
use Rattle.lsv_record.specs.declared.laid.Laid.{Laid}
use Rattle.lsv_record.specs.declared.records.Record.{Record}
use Rattle.lsv_record.specs.declared.records.Record.TheVariants as records
use Rattle.lsv_record.specs.declared.records.Shaped.{Shaped}
use Rattle.lsv_record.specs.declared.records.Stream.{Stream}
use Rattle.lsv_record.specs.declared.records.Stream.TheVariants as streams
use Rattle.lsv_record.specs.Layout.{Begins, IsLayout, NextLine, stream_in}
use Rattle.lsv_record.specs.Lines.{IsLineAt, told_delay}
use Rattle.lsv_record.specs.Points.{Stored}
use Rattle.lsv_record.specs.Records.{data_in, delay_of, elapsed, line_of, shape_of, shaped_line, stream_of, text_of, timing_of}
use Rattle.lsv_record.specs.Tally.{told_count}
use Rattle.lsv_record.proofs.Layouts.{elapsed-append, elapsed-push, stream_of-append, stream_of-push, timing_of-append}
use Rattle.lsv_record.proofs.Once.{data_length, line_behind, one_begins, one_line}
use Rattle.lsv_play.specs.declared.options.Options.{Options}
use Rattle.lsv_play.specs.declared.screen.Item.{Item}
use Rattle.lsv_play.specs.Playing.{Plays, laid_at}
use Rattle.lsv_play.specs.declared.fault.PlayFault.TheVariants.{Damaged}
use Rattle.lsv_play.proofs.Stored.{begins_log, is_layout, same_body, some_of_all}

one_some : (o : Option (List ℕ)) (a b : List ℕ) → o ≡ Some a → o ≡ Some b → a ≡ b
one_some o a b one two = cc

-- ---- no file is short

abbrev Each : (Part → Type 0) → List Part → Type 0
Each P [] = Unit {0}
Each P (part ∷ parts) = P part × Each P parts

no_first : (owner : Owner) (image : Image) (lens : List ℕ) (parts : List Part) (part : Part) → Each (λ p. IsShort (image (file_of owner p)) (slice_index lens (index_of p)) → ⊥) parts → IsFirstShort owner image lens parts part → ⊥
no_first owner image lens [] part each short = short
no_first owner image lens (first ∷ parts) part each (inl short) = each.0 short.1
no_first owner image lens (first ∷ parts) part each (inr short) = no_first owner image lens parts part each.1 short.1

pub not_short : (file : Option (List ℕ)) (prefix : List ℕ) (n : ℕ) → HasPrefix prefix file → length prefix ≡ n → IsShort file n → ⊥
not_short None prefix n is same short = is
not_short (Some bytes) prefix n is same short = let whole = ap length is.1 in omega (arith, whole, length-append prefix is.0, same, short)

module _ (n : ℕ) (image : Image) (log : Stored) (holds : HoldsLog n log image) where
  there : AreThere (owner_of n) holds.entry.body image
  there part is = not_short (image (file_of (owner_of n) part)) (holds.entry.bytes part) (length_of holds.entry.body part) (holds.holds.bytes part is) (holds.holds.lengths part is)

  all_there : Each (λ p. IsShort (image (file_of (owner_of n) p)) (slice_index holds.entry.body.lens (index_of p)) → ⊥) (parts_of shapes.Log)
  all_there = (there HeadPart tt, (there Exit tt, (there Timing tt, (there Stdin tt, (there Stdout tt, (there Stderr tt, (there Ttyin tt, (there Ttyout tt, tt))))))))

  not_damaged : (part : Part) → IsDamaged (owner_of n) shapes.Log image part → ⊥
  not_damaged part damaged =
      let body : damaged.body ≡ holds.entry.body =
      one_body damaged.body holds.entry.body damaged.entry.is_body holds.holds.is_body (one_some _ (encoded damaged.body) (encoded holds.entry.body) damaged.entry.last holds.holds.last) in
      no_first (owner_of n) image holds.entry.body.lens (parts_of shapes.Log) part all_there
      (subst (λ (b : Body). IsFirstShort (owner_of n) image b.lens (parts_of shapes.Log) part) body damaged.first)

  not_faulty : HasFault n HeadPart image → ⊥
  not_faulty fault =
      let same = one_entry n image fault.entry holds.entry fault.holds holds.holds in
      fault.fault (subst (λ (text : List ℕ). IsHeadText text) (sym (same.1 HeadPart tt ∙ holds.is.head)) holds.is.is_head)

  -- such a log is opened, as far as its files go
  pub no_view_damage : (part : Part) → IsViewDamage n part image → ⊥
  no_view_damage part (inl damaged) = not_damaged part damaged
  no_view_damage part (inr faulty) = not_faulty faulty.1

-- ---- no record is at fault

line_long : (told : Shaped) → 1 ≤ length (shaped_line told)
line_long told = omega (arith, length-append (text_of told) (10 ∷ []))

none_left : (xs : List ℕ) → drop (length xs) xs ≡ []
none_left xs = ap (drop (length xs)) (sym (append-nil xs)) ∙ drop_at xs [] (length xs) refl

delay_is : (r : Record) → delay_of r ≡ told_delay (shape_of r)
delay_is (records.Io d s b) = refl
delay_is (records.Winsize d rows cols) = refl
delay_is (records.Suspend d signal) = refl

-- no line stands at the end
no_line_at_end : (text : List ℕ) (at next : ℕ) (told : Shaped) → at ≡ length text → IsLineAt text at told next → ⊥
no_line_at_end text at next told end line =
    let none : [] ≡ shaped_line told ++ drop next text = sym (none_left text) ∙ ap (λ (k : ℕ). drop k text) (sym end) ∙ line.spelled in
    let counts = ap length none in
    omega (arith, counts, length-append (shaped_line told) (drop next text), line_long told)

module _ (l : Laid) (body : Body) (all rs : List Record) (laid : IsLayout l all) (begins : Begins l all) (count : body.count ≡ length all) (time : body.elapsed ≡ elapsed all) where
  -- after all records the timing ends
  at_end : all ≡ rs ++ [] → length (timing_of rs) ≡ length l.timing
  at_end is = ap length (ap timing_of (sym (append-nil rs) ∙ sym is) ∙ sym laid.timing)

  -- the line after the first records is the next record's
  next_shape : (r : Record) (more : List Record) (told : Shaped) → all ≡ rs ++ r ∷ more → NextLine l rs told → told ≡ shape_of r
  next_shape r more told is next =
      (one_line l.timing (length (timing_of rs)) next.0 (length (timing_of rs) + length (line_of r)) told (shape_of r) next.1 (line_behind l rs r more (subst (Begins l) is begins))).0

  stream_split : (s : Stream) (r : Record) (more : List Record) → all ≡ rs ++ r ∷ more → length (stream_of s rs) + length (data_in s r) ≤ length (stream_in s l)
  stream_split s r more is =
      let whole = ap length (laid.streams s ∙ ap (stream_of s) is ∙ stream_of-append s rs (r ∷ more)) in
      let next = ap length (stream_of-append s (r ∷ []) more) in
      let one = ap length (stream_of-push s [] r) in
      omega (arith, whole, length-append (stream_of s rs) (stream_of s (r ∷ more)), next, length-append (stream_of s (r ∷ [])) (stream_of s more), one)

  goes_on : (r : Record) (more : List Record) (told : Shaped) → all ≡ rs ++ r ∷ more → told ≡ shape_of r → GoesOn body rs told
  goes_on r more told is same =
      let total = ap elapsed is ∙ elapsed-append rs (r ∷ more) in
      let next = elapsed-append (r ∷ []) more in
      let one = elapsed-push [] r in
      let delay : delay_of r ≡ told_delay told = delay_is r ∙ ap told_delay (sym same) in
      let many = ap length is in
      record {
        count = omega (arith, count, many, length-append rs (r ∷ more));
        time = omega (arith, time, total, next, one, delay);
        in_time = omega (arith, begins.time, total, next, one, delay);
      }

  ends_with : (more : List Record) → all ≡ rs ++ more → l.timing ≡ timing_of rs → all ≡ rs
  ends_with [] is ends = is ∙ append-nil rs
  ends_with (r ∷ more) is ends =
      let whole = ap length (sym ends ∙ laid.timing ∙ ap timing_of is ∙ timing_of-append rs (r ∷ more)) in
      absurd (let no_ : ⊥ = omega (arith, whole, length-append (timing_of rs) (timing_of (r ∷ more)), length-append (line_of r) (timing_of more), line_long (shape_of r)) in no_)

  no_timing_fault : (more : List Record) → all ≡ rs ++ more → length l.timing ≤ 2 ^ 40 → IsTimingFault l body rs → ⊥
  no_timing_fault [] is small (inl bad) = omega (arith, at_end is, bad.before_end)
  no_timing_fault (r ∷ more) is small (inl bad) = bad.no_line (shape_of r) (length (timing_of rs) + length (line_of r)) (line_behind l rs r more (subst (Begins l) is begins))
  no_timing_fault [] is small (inr (inl (told, next, no_))) = no_line_at_end l.timing (length (timing_of rs)) next.0 told (at_end is) next.1
  no_timing_fault (r ∷ more) is small (inr (inl (told, next, no_))) = no_ (goes_on r more told is (next_shape r more told is next))
  no_timing_fault more is small (inr (inr (inl (ends, no_)))) =
      let same = ends_with more is ends in
      no_ (record { timing = ends; count = count ∙ ap length same; time = time ∙ ap elapsed same })
  no_timing_fault more is small (inr (inr (inr big))) = omega (arith, small, big)

  no_lack : (s : Stream) (more : List Record) → all ≡ rs ++ more → LacksData l body rs s → ⊥
  no_lack s [] is (told, next, goes, few) = no_line_at_end l.timing (length (timing_of rs)) next.0 told (at_end is) next.1
  no_lack s (r ∷ more) is (told, next, goes, few) =
      let bytes : length (data_in s r) ≡ told_count s told = data_length s r ∙ ap (told_count s) (sym (next_shape r more told is next)) in
      omega (arith, few, bytes, stream_split s r more is)

  no_stream_fault : (before : List Stream) (s : Stream) (more : List Record) → all ≡ rs ++ more → IsStreamFault l body rs before s → ⊥
  no_stream_fault before s more is (inl lacks) = no_lack s more is lacks
  no_stream_fault before s more is (inr over) =
      let same = ends_with more is over.ends.timing in
      let whole = ap length (laid.streams s ∙ ap (stream_of s) same) in
      omega (arith, over.left, whole)

  no_fault : (part : Part) (more : List Record) → all ≡ rs ++ more → length l.timing ≤ 2 ^ 40 → IsFaultBehind l body rs part → ⊥
  no_fault Timing more is small fault = no_timing_fault more is small fault
  no_fault Stdin more is small fault = no_stream_fault [] streams.Stdin more is fault
  no_fault Stdout more is small fault = no_stream_fault (streams.Stdin ∷ []) streams.Stdout more is fault
  no_fault Stderr more is small fault = no_stream_fault (streams.Stdin ∷ streams.Stdout ∷ []) streams.Stderr more is fault
  no_fault Ttyin more is small fault = no_stream_fault (streams.Stdin ∷ streams.Stdout ∷ streams.Stderr ∷ []) streams.Ttyin more is fault
  no_fault Ttyout more is small fault = no_stream_fault (streams.Stdin ∷ streams.Stdout ∷ streams.Stderr ∷ streams.Ttyin ∷ []) streams.Ttyout more is fault
  no_fault HeadPart more is small fault = fault
  no_fault Exit more is small fault = fault
  no_fault Lines more is small fault = fault
  no_fault Id more is small fault = fault
  no_fault Commit more is small fault = fault
  no_fault Slots more is small fault = fault

-- ---- the law

pub stored_undamaged : (T : Type 0) (o : Options) (n : ℕ) (image : Image) (put : List Item) (log : Stored) (part : Part) → Replays image n (Some log) → Plays {T = T} o n image (Err (Damaged part)) put → ⊥
stored_undamaged T o n image put log part holds (inl (damaged, none)) = no_view_damage n image log holds part damaged
stored_undamaged T o n image put log part holds (inr is) =
    let l : Laid = laid_at n is.body image in
    let before = is.records in
    let laid = is_layout n is.body is.head image log is.opened holds in
    let begins = begins_log n is.body is.head image log is.opened holds in
    let same = same_body n is.body is.head image log is.opened holds in
    let some = some_of_all l log.records before.0 laid begins before.1.begins (one_begins l before.0 log.records before.1.begins begins) in
    let small : length l.timing ≤ 2 ^ 40 = omega (arith, ap length laid.timing, ap (λ (m : Laid). length m.timing) holds.is.layout, holds.is.small) in
    no_fault l is.body log.records before.0 laid begins (ap (λ (b : Body). b.count) same ∙ holds.is.count) (ap (λ (b : Body). b.elapsed) same ∙ holds.is.time) part some.0 some.1 small before.1.fault
