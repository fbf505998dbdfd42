-- The parts of a log are judged in order: the head, the exit, the timing, the streams.
use Rattle.std.proofs.Common.{◌≡◌, ◌≢◌, ◌⊎◌, inl, inr, ℕ, zero, suc, ◌<◌, ◌≤◌, ◌^◌, Ok, List, [], ◌∷◌, All, length, Option, Some, None, refl, sym, ◌∙◌, ap, subst, arith}
use Rattle.std.specs.Prelude.{get_or, map}
use Rattle.lsv_record.specs.declared.records.Record.{Record}
use Rattle.lsv_disk.specs.declared.file.Part.{Part}
use Rattle.lsv_disk.specs.declared.file.Part.TheVariants.{Head, Exit, Timing}
use Rattle.lsv_disk.specs.View.{DiskView}
use Rattle.lsv_bundle.specs.declared.shape.Shape.{Shape}
use Rattle.lsv_bundle.specs.declared.shape.Shape.TheVariants as shapes
use Rattle.lsv_bundle.specs.declared.view.View.{View}
use Rattle.lsv_bundle.specs.Body.{length_of}
use Rattle.lsv_bundle.specs.Shape.{IsPart, on_shape}
use Rattle.lsv_info.specs.declared.times.Head as info
use Rattle.lsv_info.specs.Reading.{head_of}
use Rattle.lsv_record.specs.declared.records.Shaped.{Shaped}
use Rattle.lsv_record.specs.declared.records.Stream.{Stream}
use Rattle.lsv_record.specs.declared.records.Stream.TheVariants as stream
use Rattle.lsv_record.specs.Layout.{stream_in}
use Rattle.lsv_record.specs.Points.{Stored}
use Rattle.lsv_record.specs.Records.{IsGood, event_of, shape_of, elapsed}
use Rattle.lsv_record.specs.Tally.{Totals, totals_of, lines_of, told_data, told_elapsed}
use Rattle.lsv_record.proofs.Layouts.{layout_is_texts}
use Rattle.lsv_record.proofs.Tallies.{lines_are_records, lines_tell_time}
use Rattle.lsv_iolog.specs.Recovered.{part_of, laid_in, IsHeadText, HasExit, IsLog}
use Rattle.lsv_iolog.specs.Damage.{ExitFits, AreLines, StreamFits, AllFit, IsFirstUnfit, IsFault}
use Rattle.lsv_iolog.specs.Inner.Scanning.{text_of, entry_of, IsWholeView, IsScanned, ExitIsWhole, IsCounted, AllCounted, EachCounted, streams_before, IsFirstUncounted}
use Rattle.lsv_iolog.proofs.Replaying.{on_log}
use Rattle.lsv_iolog.proofs.Staging.{stream_part}
use Rattle.lsv_iolog.proofs.Scans.{whole_once}

no_bytes : (xs : List ℕ) → length xs ≡ 0 → xs ≡ []
no_bytes [] none = refl
no_bytes (x ∷ xs) none = absurd (let no_ : ⊥ = omega (arith, none) in no_)

is_three : (k : ℕ) → (k ≡ 3) ⊎ (k ≢ 3)
is_three zero = inr (λ e. cc)
is_three (suc zero) = inr (λ e. cc)
is_three (suc (suc zero)) = inr (λ e. cc)
is_three (suc (suc (suc zero))) = inl refl
is_three (suc (suc (suc (suc k)))) = inr (λ e. let no_ : ⊥ = omega (arith, e) in no_)

module _ (view : View) (disk : DiskView) (shape : view.shape ≡ shapes.Log) where
  pub entry_text : (part : Part) → IsPart shapes.Log part → (entry_of view disk).bytes part ≡ text_of view disk part
  entry_text part is = ap (λ (s : Shape). on_shape s (text_of view disk) part) shape ∙ on_log (text_of view disk) part is

  head_text : (head : info.Head) → head_of (text_of view disk Head) ≡ Ok head → IsHeadText ((entry_of view disk).bytes Head)
  head_text head is = (head, ap head_of (entry_text Head tt) ∙ is)

  -- an exit fits where its length does
  pub exit_fits : IsWholeView view disk → ExitIsWhole view.body → ExitFits (entry_of view disk)
  exit_fits whole fits = elim (is_three view.body.kind) [
    | inl three ↦ (Some (text_of view disk Exit), (three, entry_text Exit tt, λ none. fits.some three (sym (whole Exit tt) ∙ ap length none)))
    | inr other ↦ (None, (other, entry_text Exit tt ∙ no_bytes (text_of view disk Exit) (whole Exit tt ∙ fits.none other)))
  ]

  exit_is_whole : IsWholeView view disk → ExitFits (entry_of view disk) → ExitIsWhole view.body
  exit_is_whole whole fits = of fits.0 fits.1 where
    long : length ((entry_of view disk).bytes Exit) ≡ length_of view.body Exit
    long = ap length (entry_text Exit tt) ∙ whole Exit tt

    of : (o : Option (List ℕ)) → HasExit view.body.kind ((entry_of view disk).bytes Exit) o → ExitIsWhole view.body
    of None has = record { some = λ three. absurd (has.0 three); none = λ other. sym long ∙ ap length has.1 }
    of (Some t) has = record { some = λ three zero_. has.2 (sym has.1 ∙ no_bytes ((entry_of view disk).bytes Exit) (long ∙ zero_)); none = λ other. absurd (other has.0) }

  pub fault_head : (IsHeadText (text_of view disk Head) → ⊥) → IsFault (entry_of view disk) Head
  fault_head no_head is = no_head (is.0, ap head_of (sym (entry_text Head tt)) ∙ is.1)

  pub fault_exit : (head : info.Head) → head_of (text_of view disk Head) ≡ Ok head → IsWholeView view disk → (ExitIsWhole view.body → ⊥) → IsFault (entry_of view disk) Exit
  fault_exit head is whole no_exit = (head_text head is, λ fits. no_exit (exit_is_whole whole fits))

  pub fault_timing : (head : info.Head) → head_of (text_of view disk Head) ≡ Ok head → IsWholeView view disk → ExitIsWhole view.body
      → ((told : List Shaped) → All IsGood told → text_of view disk Timing ≡ lines_of told → told_elapsed told < 2 ^ 63 → length (text_of view disk Timing) ≤ 2 ^ 40 → ⊥) → IsFault (entry_of view disk) Timing
  fault_timing head is whole exit none =
      (head_text head is, exit_fits whole exit, λ lines are. none lines are.good (sym (entry_text Timing tt) ∙ are.text) are.in_time (subst (λ (xs : List ℕ). length xs ≤ 2 ^ 40) (entry_text Timing tt) are.small))

  pub fault_counts : (head : info.Head) (told : List Shaped) (tally : Totals) → head_of (text_of view disk Head) ≡ Ok head → IsWholeView view disk → ExitIsWhole view.body → IsScanned view disk told tally
      → ((view.body.count ≡ tally.count) → (view.body.elapsed ≡ tally.elapsed) → ⊥) → IsFault (entry_of view disk) Timing
  fault_counts head told tally is whole exit scanned other = (
    head_text head is,
    exit_fits whole exit,
    λ lines are.
        let same : lines ≡ told = whole_once (text_of view disk Timing) lines told are.good scanned.good (sym (entry_text Timing tt) ∙ are.text) scanned.text in
        other (are.count ∙ ap length same ∙ sym (ap (λ (t : Totals). t.count) scanned.totals)) (are.time ∙ ap told_elapsed same ∙ sym (ap (λ (t : Totals). t.elapsed) scanned.totals)),
  )

  -- the lines that were scanned are the entry's
  pub are_lines : (told : List Shaped) (tally : Totals) → IsScanned view disk told tally → view.body.count ≡ tally.count → view.body.elapsed ≡ tally.elapsed → IsWholeView view disk → length_of view.body Timing ≤ 2 ^ 40 → AreLines (entry_of view disk) told
  are_lines told tally scanned count time whole small = record {
    good = scanned.good;
    text = entry_text Timing tt ∙ scanned.text;
    count = count ∙ ap (λ (t : Totals). t.count) scanned.totals;
    time = time ∙ ap (λ (t : Totals). t.elapsed) scanned.totals;
    in_time = scanned.in_time;
    small = let e = ap length (entry_text Timing tt) in let w = whole Timing tt in omega (arith, e, w, small);
  }

  stream_data : (told : List Shaped) (s : Stream) → get_or (totals_of told).data_bytes (event_of s) 0 ≡ told_data s told
  stream_data told stream.Stdin = refl
  stream_data told stream.Stdout = refl
  stream_data told stream.Stderr = refl
  stream_data told stream.Ttyin = refl
  stream_data told stream.Ttyout = refl

  counted_fits : (told : List Shaped) (tally : Totals) (s : Stream) → tally ≡ totals_of told → IsWholeView view disk → IsCounted view.body tally s → StreamFits (entry_of view disk) told s
  counted_fits told tally s totals whole counted =
      ap length (entry_text (part_of s) (stream_part s)) ∙ whole (part_of s) (stream_part s) ∙ counted ∙ ap (λ (t : Totals). get_or t.data_bytes (event_of s) 0) totals ∙ stream_data told s

  fits_counted : (told : List Shaped) (tally : Totals) (s : Stream) → tally ≡ totals_of told → IsWholeView view disk → StreamFits (entry_of view disk) told s → IsCounted view.body tally s
  fits_counted told tally s totals whole fits =
      sym (whole (part_of s) (stream_part s)) ∙ sym (ap length (entry_text (part_of s) (stream_part s))) ∙ fits ∙ sym (stream_data told s) ∙ sym (ap (λ (t : Totals). get_or t.data_bytes (event_of s) 0) totals)

  each_fits : (told : List Shaped) (tally : Totals) (ss : List Stream) → tally ≡ totals_of told → IsWholeView view disk → EachCounted view.body tally ss → AllFit (entry_of view disk) told ss
  each_fits told tally [] totals whole each = tt
  each_fits told tally (s ∷ ss) totals whole each = (counted_fits told tally s totals whole each.0, each_fits told tally ss totals whole each.1)

  pub fault_stream : (head : info.Head) (told : List Shaped) (tally : Totals) (s : Stream) → head_of (text_of view disk Head) ≡ Ok head → IsWholeView view disk → ExitIsWhole view.body → IsScanned view disk told tally
      → view.body.count ≡ tally.count → view.body.elapsed ≡ tally.elapsed → length_of view.body Timing ≤ 2 ^ 40 → IsFirstUncounted view.body tally s → IsFault (entry_of view disk) (part_of s)
  fault_stream head told tally s is whole exit scanned count time small first = at s first where
    unfit : (t : Stream) (before : List Stream) → EachCounted view.body tally before → (IsCounted view.body tally t → ⊥) → IsFirstUnfit (entry_of view disk) before t
    unfit t before each other = record {
      head = head_text head is;
      exit = exit_fits whole exit;
      lines = told;
      are = are_lines told tally scanned count time whole small;
      fit = each_fits told tally before scanned.totals whole each;
      unfit = λ fits. other (fits_counted told tally t scanned.totals whole fits);
    }

    at : (t : Stream) → IsFirstUncounted view.body tally t → IsFault (entry_of view disk) (part_of t)
    at stream.Stdin is_first = unfit stream.Stdin [] is_first.0 is_first.1
    at stream.Stdout is_first = unfit stream.Stdout (streams_before stream.Stdout) is_first.0 is_first.1
    at stream.Stderr is_first = unfit stream.Stderr (streams_before stream.Stderr) is_first.0 is_first.1
    at stream.Ttyin is_first = unfit stream.Ttyin (streams_before stream.Ttyin) is_first.0 is_first.1
    at stream.Ttyout is_first = unfit stream.Ttyout (streams_before stream.Ttyout) is_first.0 is_first.1

  -- what was judged sound is a log
  pub judged_log : (head : info.Head) (told : List Shaped) (tally : Totals) → head_of (text_of view disk Head) ≡ Ok head → IsWholeView view disk → ExitIsWhole view.body → IsScanned view disk told tally
      → view.body.count ≡ tally.count → view.body.elapsed ≡ tally.elapsed → length_of view.body Timing ≤ 2 ^ 40 → AllCounted view.body tally
      → (stored : Stored) × IsLog (entry_of view disk) stored × (head_of stored.head ≡ Ok head) × (tally.count ≡ length stored.records) × (tally.elapsed ≡ elapsed stored.records)
  judged_log head told tally is whole exit scanned count time small counted =
      let are = are_lines told tally scanned count time whole small in
      let records = lines_are_records (laid_in (entry_of view disk).bytes) told scanned.good are.text (λ s. stream_long s) in
      let fits = exit_fits whole exit in
      let length_is : length told ≡ length records.0 = ap length (sym records.3) ∙ length_map records.0 in
      let time_is : told_elapsed told ≡ elapsed records.0 = ap told_elapsed (sym records.3) ∙ lines_tell_time records.0 in (
        record { head = (entry_of view disk).bytes Head; records = records.0; exit = fits.0; cuts = view.body.extra },
        record {
          head = refl;
          is_head = head_text head is;
          exit = fits.1;
          valid = records.2;
          layout = (layout_is_texts (laid_in (entry_of view disk).bytes) records.0).0 records.1;
          count = are.count ∙ length_is;
          time = are.time ∙ time_is;
          in_time = subst (λ (n : ℕ). n < 2 ^ 63) time_is scanned.in_time;
          small = are.small;
          cuts = refl;
        },
        ap head_of (entry_text Head tt) ∙ is,
        ap (λ (t : Totals). t.count) scanned.totals ∙ length_is,
        ap (λ (t : Totals). t.elapsed) scanned.totals ∙ time_is,
      )
    where
      stream_long : (s : Stream) → length (stream_in s (laid_in (entry_of view disk).bytes)) ≡ told_data s told
      stream_long stream.Stdin = counted_fits told tally stream.Stdin scanned.totals whole (counted stream.Stdin)
      stream_long stream.Stdout = counted_fits told tally stream.Stdout scanned.totals whole (counted stream.Stdout)
      stream_long stream.Stderr = counted_fits told tally stream.Stderr scanned.totals whole (counted stream.Stderr)
      stream_long stream.Ttyin = counted_fits told tally stream.Ttyin scanned.totals whole (counted stream.Ttyin)
      stream_long stream.Ttyout = counted_fits told tally stream.Ttyout scanned.totals whole (counted stream.Ttyout)

      length_map : (rs : List Record) → length (map shape_of rs) ≡ length rs
      length_map [] = refl
      length_map (r ∷ rs) = ap suc (length_map rs)

-- what was scanned on a disk was scanned on the one before, where the text is the same
pub scanned_at : (view : View) (old now : DiskView) (told : List Shaped) (tally : Totals) → text_of view now Timing ≡ text_of view old Timing → IsScanned view now told tally → IsScanned view old told tally
scanned_at view old now told tally same is = record { good = is.good; text = sym same ∙ is.text; totals = is.totals; in_time = is.in_time }
