-- What a cut leaves is the log cut at its point.
use Rattle.std.proofs.Common.{◌≡◌, ◌≢◌, inl, inr, ℕ, zero, suc, ◌+◌, ◌≤◌, true, false, Result, Ok, Err, OnOk, List, [], ◌∷◌, ◌++◌, All, length, take, drop, Option, Some, None, refl, sym, ◌∙◌, ap, subst, arith, append-nil, length-append}
use Rattle.std.specs.Prelude.{min, get_or, slice_index, unwrap_or, nat_lt, if◌then◌else◌, Bool}
use Rattle.std.proofs.lemmas.Bool.Decides.{nat_tests}
use Rattle.std.proofs.lemmas.List.{take_at, take_all, length-take, take-append-drop}
use Rattle.std.proofs.lemmas.List.Elements.{All-nil, All-cons, All-head, All-tail}
use Rattle.lsv_disk.specs.declared.file.Part.{Part}
use Rattle.lsv_disk.specs.declared.file.Part.TheVariants.{Head, Exit, Timing, Stdin, Stdout, Stderr, Ttyin, Ttyout}
use Rattle.lsv_disk.specs.Bytes.{bytes_of}
use Rattle.lsv_disk.specs.Files.{file_of}
use Rattle.lsv_disk.specs.Throughout.{Throughout, OnlyReads}
use Rattle.lsv_disk.specs.View.{DiskView}
use Rattle.lsv_disk.proofs.Composition.{widened, unchanged_throughout}
use Rattle.lsv_bundle.specs.declared.body.Body.{Body}
use Rattle.lsv_bundle.specs.declared.shape.Shape.{Shape}
use Rattle.lsv_bundle.specs.declared.shape.Shape.TheVariants as shapes
use Rattle.lsv_bundle.specs.Body.{length_of}
use Rattle.lsv_bundle.specs.Committed.{IsBeforeOrAfter, committed, committed_bytes}
use Rattle.lsv_bundle.specs.Represents as bundles
use Rattle.lsv_bundle.specs.Shape.{IsPart, IsWritable, on_shape, eight, index_of, journal_of}
use Rattle.lsv_bundle.specs.Value.{committed_length, NoneStaged}
use Rattle.lsv_record.specs.declared.laid.Laid.{Laid}
use Rattle.lsv_record.specs.declared.records.Record.{Record}
use Rattle.lsv_record.specs.declared.records.Stream.TheVariants as stream
use Rattle.lsv_record.specs.Points.{Stored, cut}
use Rattle.lsv_record.specs.Points as points
use Rattle.lsv_record.specs.Records.{timing_of, stream_of, elapsed, IsValid}
use Rattle.lsv_record.specs.Tally.{Totals}
use Rattle.lsv_record.proofs.Layouts.{timing_of-append, stream_of-append, elapsed-append}
use Rattle.lsv_record.proofs.Tallies.{lines_are_timing, lines_tell_data}
use Rattle.lsv_iolog.specs.Recovered.{IsOfLog, HasExit, IsLog}
use Rattle.lsv_iolog.specs.Later.{IsLater, cut_log, cuts_after, drops}
use Rattle.lsv_iolog.specs.Moments.{IsEither}
use Rattle.lsv_iolog.specs.Value.{IoLogView, LogValue, bare}
use Rattle.lsv_iolog.specs.Represents.{Represents}
use Rattle.lsv_iolog.specs.Inner.Next.{cuts_in}
use Rattle.lsv_iolog.specs.Inner.Invariant.{IsSettled}
use Rattle.lsv_iolog.specs.Inner.Cutting.{IsFound, IsCutTo, length_behind, last_of, body_behind, entry_behind}
use Rattle.lsv_iolog.proofs.Committing.{eight_of}
use Rattle.lsv_iolog.proofs.Cutting.{tally_time, tally_count}
use Rattle.lsv_iolog.proofs.Flushing.{entry_body, entry_bytes, next_moment, no_timing}
use Rattle.lsv_iolog.proofs.Replaying.{on_log}
use Rattle.lsv_iolog.proofs.Representing.{settled_represents, settled_small, log_stays, every_image}
use Rattle.lsv_iolog.proofs.Shortening.{last_is, settled_cut}

-- the first bytes of a longer text
take_first : (a n : ℕ) (xs ys zs : List ℕ) → zs ≡ xs ++ ys → length zs ≤ n → a ≡ length xs → take (min a n) zs ≡ xs
take_first a n xs ys zs split le e =
    let l = length-append xs ys in
    let all = ap length split in
    let m : min a n ≡ length xs = omega (arith, e, all, l, le) in
    ap (λ (k : ℕ). take k zs) m ∙ ap (λ (t : List ℕ). take (length xs) t) split ∙ take_at xs ys (length xs) refl

valid_take : (n : ℕ) (rs : List Record) → All IsValid rs → All IsValid (take n rs)
valid_take zero rs good = All-nil IsValid
valid_take (suc n) [] good = good
valid_take (suc n) (r ∷ rs) good = All-cons IsValid r (take n rs) (All-head IsValid r rs good) (valid_take n rs (All-tail IsValid r rs good))

none_bytes : (k : ℕ) (xs : List ℕ) (o : Option (List ℕ)) → HasExit k xs o → o ≡ None → xs ≡ []
none_bytes k xs None has none = has.1
none_bytes k xs (Some t) has none = absurd (some_none t none) where
  some_none : (y : List ℕ) → Some y ≡ None → ⊥
  some_none y e = cc

-- a represented log of which these lines are found
module _ (log : IoLogView) (value : LogValue) (disk : DiskView) (at : Represents log value disk) (kept : Totals) (point cuts : ℕ) (found : IsFound value.stored.records point (Some kept)) (going : value.stored.exit ≡ None) where
  pub has_body : log.bundle.last ≡ Some at.entry.body
  has_body = entry_body log.bundle disk at.entry at.committed

  same_body : last_of log.bundle ≡ at.entry.body
  same_body = last_is log.bundle at.entry.body has_body

  is_part : (part : Part) → IsPart shapes.Log part → IsPart log.bundle.shape part
  is_part part of = subst (λ (s : Shape). IsPart s part) (sym at.shape) of

  length_is : (part : Part) → IsPart shapes.Log part → length_of (last_of log.bundle) part ≡ committed_length log.bundle part
  length_is part of = ap (λ (b : Body). length_of b part) same_body ∙ at.bundle.lengths at.entry.body has_body part (is_part part of)

  part_le : (part : Part) → IsPart shapes.Log part → length (at.entry.bytes part) ≤ length_of (last_of log.bundle) part
  part_le part of =
      let e = ap length (entry_bytes log.bundle disk at.entry at.shape at.committed part of) in
      let t = length-take (committed_length log.bundle part) (bytes_of (disk.reads (file_of log.bundle.owner part))) in
      let l = length_is part of in
      omega (arith, e, t, l)

  new_bytes : (part : Part) → IsPart shapes.Log part → (entry_behind log.bundle disk kept cuts).bytes part ≡ take (length_behind (last_of log.bundle) kept part) (at.entry.bytes part)
  new_bytes part of =
      ap (λ (s : Shape). on_shape s (λ (p : Part). take (slice_index (eight shapes.Log (length_behind (last_of log.bundle) kept)) (index_of p)) (committed_bytes log.bundle disk p)) part) at.shape
      ∙ on_log (λ (p : Part). take (slice_index (eight shapes.Log (length_behind (last_of log.bundle) kept)) (index_of p)) (committed_bytes log.bundle disk p)) part of
      ∙ ap (λ (n : ℕ). take n (committed_bytes log.bundle disk part)) (eight_of (length_behind (last_of log.bundle) kept) part of)
      ∙ ap (λ (xs : List ℕ). take (length_behind (last_of log.bundle) kept part) xs) (sym (entry_bytes log.bundle disk at.entry at.shape at.committed part of))

  whole_bytes : (part : Part) → IsPart shapes.Log part → length_behind (last_of log.bundle) kept part ≡ length_of (last_of log.bundle) part → (entry_behind log.bundle disk kept cuts).bytes part ≡ at.entry.bytes part
  whole_bytes part of all = new_bytes part of ∙ ap (λ (n : ℕ). take n (at.entry.bytes part)) all ∙ take_all (length_of (last_of log.bundle) part) (at.entry.bytes part) (part_le part of)

  cut_bytes : (part : Part) → IsPart shapes.Log part → (a : ℕ) (xs ys : List ℕ) → length_behind (last_of log.bundle) kept part ≡ min a (length_of (last_of log.bundle) part) → at.entry.bytes part ≡ xs ++ ys → a ≡ length xs → (entry_behind log.bundle disk kept cuts).bytes part ≡ xs
  cut_bytes part of a xs ys is split e =
      new_bytes part of ∙ ap (λ (n : ℕ). take n (at.entry.bytes part)) is ∙ take_first a (length_of (last_of log.bundle) part) xs ys (at.entry.bytes part) split (part_le part of) e

  split : value.stored.records ≡ take kept.count value.stored.records ++ drop kept.count value.stored.records
  split = sym (take-append-drop kept.count value.stored.records)

  timing_split : at.entry.bytes Timing ≡ timing_of (take kept.count value.stored.records) ++ timing_of (drop kept.count value.stored.records)
  timing_split = ap (λ (l : Laid). l.timing) at.is.layout ∙ ap timing_of split ∙ timing_of-append (take kept.count value.stored.records) (drop kept.count value.stored.records)

  timing_is : (entry_behind log.bundle disk kept cuts).bytes Timing ≡ timing_of (take kept.count value.stored.records)
  timing_is = cut_bytes Timing tt kept.timing (timing_of (take kept.count value.stored.records)) (timing_of (drop kept.count value.stored.records)) refl timing_split (ap (λ (t : Totals). t.timing) found.1 ∙ ap length (lines_are_timing (take kept.count value.stored.records)))

  stdin_is : (entry_behind log.bundle disk kept cuts).bytes Stdin ≡ stream_of stream.Stdin (take kept.count value.stored.records)
  stdin_is = cut_bytes Stdin tt (get_or kept.data_bytes 0 0) (stream_of stream.Stdin (take kept.count value.stored.records)) (stream_of stream.Stdin (drop kept.count value.stored.records)) refl
      (ap (λ (l : Laid). l.stdin) at.is.layout ∙ ap (stream_of stream.Stdin) split ∙ stream_of-append stream.Stdin (take kept.count value.stored.records) (drop kept.count value.stored.records))
      (ap (λ (t : Totals). get_or t.data_bytes 0 0) found.1 ∙ lines_tell_data stream.Stdin (take kept.count value.stored.records))

  stdout_is : (entry_behind log.bundle disk kept cuts).bytes Stdout ≡ stream_of stream.Stdout (take kept.count value.stored.records)
  stdout_is = cut_bytes Stdout tt (get_or kept.data_bytes 1 0) (stream_of stream.Stdout (take kept.count value.stored.records)) (stream_of stream.Stdout (drop kept.count value.stored.records)) refl
      (ap (λ (l : Laid). l.stdout) at.is.layout ∙ ap (stream_of stream.Stdout) split ∙ stream_of-append stream.Stdout (take kept.count value.stored.records) (drop kept.count value.stored.records))
      (ap (λ (t : Totals). get_or t.data_bytes 1 0) found.1 ∙ lines_tell_data stream.Stdout (take kept.count value.stored.records))

  stderr_is : (entry_behind log.bundle disk kept cuts).bytes Stderr ≡ stream_of stream.Stderr (take kept.count value.stored.records)
  stderr_is = cut_bytes Stderr tt (get_or kept.data_bytes 2 0) (stream_of stream.Stderr (take kept.count value.stored.records)) (stream_of stream.Stderr (drop kept.count value.stored.records)) refl
      (ap (λ (l : Laid). l.stderr) at.is.layout ∙ ap (stream_of stream.Stderr) split ∙ stream_of-append stream.Stderr (take kept.count value.stored.records) (drop kept.count value.stored.records))
      (ap (λ (t : Totals). get_or t.data_bytes 2 0) found.1 ∙ lines_tell_data stream.Stderr (take kept.count value.stored.records))

  ttyin_is : (entry_behind log.bundle disk kept cuts).bytes Ttyin ≡ stream_of stream.Ttyin (take kept.count value.stored.records)
  ttyin_is = cut_bytes Ttyin tt (get_or kept.data_bytes 3 0) (stream_of stream.Ttyin (take kept.count value.stored.records)) (stream_of stream.Ttyin (drop kept.count value.stored.records)) refl
      (ap (λ (l : Laid). l.ttyin) at.is.layout ∙ ap (stream_of stream.Ttyin) split ∙ stream_of-append stream.Ttyin (take kept.count value.stored.records) (drop kept.count value.stored.records))
      (ap (λ (t : Totals). get_or t.data_bytes 3 0) found.1 ∙ lines_tell_data stream.Ttyin (take kept.count value.stored.records))

  ttyout_is : (entry_behind log.bundle disk kept cuts).bytes Ttyout ≡ stream_of stream.Ttyout (take kept.count value.stored.records)
  ttyout_is = cut_bytes Ttyout tt (get_or kept.data_bytes 4 0) (stream_of stream.Ttyout (take kept.count value.stored.records)) (stream_of stream.Ttyout (drop kept.count value.stored.records)) refl
      (ap (λ (l : Laid). l.ttyout) at.is.layout ∙ ap (stream_of stream.Ttyout) split ∙ stream_of-append stream.Ttyout (take kept.count value.stored.records) (drop kept.count value.stored.records))
      (ap (λ (t : Totals). get_or t.data_bytes 4 0) found.1 ∙ lines_tell_data stream.Ttyout (take kept.count value.stored.records))

  -- the entry of the cut is the log's first records
  first_log : (n : ℕ) → cuts ≡ n → IsLog (entry_behind log.bundle disk kept cuts) (record { head = value.stored.head; records = take kept.count value.stored.records; exit = None; cuts = n })
  first_log n same = record {
    head = whole_bytes Head tt refl ∙ at.is.head;
    is_head = at.is.is_head;
    exit = ((λ e. cc), whole_bytes Exit tt refl ∙ none_bytes at.entry.body.kind (at.entry.bytes Exit) value.stored.exit at.is.exit going);
    valid = valid_take kept.count value.stored.records at.is.valid;
    layout = λ i. record { timing = timing_is i; stdin = stdin_is i; stdout = stdout_is i; stderr = stderr_is i; ttyin = ttyin_is i; ttyout = ttyout_is i };
    count = tally_count kept (take kept.count value.stored.records) found.1;
    time = tally_time kept (take kept.count value.stored.records) found.1;
    in_time =
        let e = ap elapsed split ∙ elapsed-append (take kept.count value.stored.records) (drop kept.count value.stored.records) in
        let t = at.is.in_time in omega (arith, e, t);
    small =
        let e = ap length timing_is in
        let a = ap length timing_split in
        let l = length-append (timing_of (take kept.count value.stored.records)) (timing_of (drop kept.count value.stored.records)) in
        let few = at.is.small in omega (arith, e, a, l, few);
    cuts = same;
  }

  kept_is : points.kept value.stored.records point ≡ kept.count
  kept_is = ap (λ (o : Option ℕ). unwrap_or o (length value.stored.records)) found.0

  pub cut_is : take kept.count value.stored.records ≡ cut value.stored.records point
  cut_is = ap (λ (n : ℕ). take n value.stored.records) (sym kept_is)

  pub cut_entry : cuts ≡ cuts_after value.stored point → IsLog (entry_behind log.bundle disk kept cuts) (cut_log value.stored point)
  cut_entry same =
      subst (λ (s : Stored). IsLog (entry_behind log.bundle disk kept cuts) s)
      (λ i. record { head = value.stored.head; records = cut_is i; exit = sym going i; cuts = cuts_after value.stored point })
      (first_log (cuts_after value.stored point) same)

  pub cuts_are : value.staged ≡ [] → cuts ≡ (if nat_lt kept.count log.count then cuts_in log.bundle.last + 1 else cuts_in log.bundle.last) → cuts ≡ cuts_after value.stored point
  cuts_are none is =
      let last : cuts_in log.bundle.last ≡ value.stored.cuts = ap cuts_in has_body ∙ at.is.cuts in
      let count : log.count ≡ length value.stored.records = at.count ∙ ap (λ (rs : List Record). length (value.stored.records ++ rs)) none ∙ ap length (append-nil value.stored.records) in
      is ∙ ap (λ (n : ℕ). if nat_lt kept.count log.count then n + 1 else n) last
      ∙ ap (λ (n : ℕ). if nat_lt kept.count n then value.stored.cuts + 1 else value.stored.cuts) count
      ∙ ap (λ (n : ℕ). if nat_lt n (length value.stored.records) then value.stored.cuts + 1 else value.stored.cuts) (sym kept_is)

  pub drops_is : value.staged ≡ [] → nat_lt kept.count log.count ≡ drops value.stored point
  drops_is none =
      let count : log.count ≡ length value.stored.records = at.count ∙ ap (λ (rs : List Record). length (value.stored.records ++ rs)) none ∙ ap length (append-nil value.stored.records) in
      ap (λ (n : ℕ). nat_lt kept.count n) count ∙ ap (λ (n : ℕ). nat_lt n (length value.stored.records)) (sym kept_is)

  -- at each moment it is as before or cut
  pub cut_moment : (new : DiskView) → cuts ≡ cuts_after value.stored point
      → Throughout (λ f. f ≡ journal_of log.bundle.owner) (IsBeforeOrAfter log.bundle.owner log.bundle.shape (committed log.bundle disk) (Some (entry_behind log.bundle disk kept cuts))) disk new
      → Throughout (IsOfLog log.number) (IsEither log.number (Some value.stored) (Some (cut_log value.stored point))) disk new
  cut_moment new same run =
      next_moment log.number log.bundle value.stored (cut_log value.stored point) disk new at.entry (entry_behind log.bundle disk kept cuts) at.owner at.shape at.committed at.is (cut_entry same)
      (widened (λ f. f ≡ journal_of log.bundle.owner) (IsWritable log.bundle.owner log.bundle.shape) (IsBeforeOrAfter log.bundle.owner log.bundle.shape (committed log.bundle disk) (Some (entry_behind log.bundle disk kept cuts)))
      (IsBeforeOrAfter log.bundle.owner log.bundle.shape (committed log.bundle disk) (Some (entry_behind log.bundle disk kept cuts))) disk new (λ f of. inr of) (λ image either beside. either) run)

  -- after Ok the cut log is represented
  pub cut_represents : (new : IoLogView) (after : DiskView) → cuts ≡ cuts_after value.stored point → new.number ≡ log.number → new.head ≡ log.head → new.count ≡ kept.count → new.elapsed ≡ kept.elapsed → new.is_broken ≡ false
      → IsCutTo kept cuts log.bundle new.bundle → committed new.bundle after ≡ Some (entry_behind log.bundle disk kept cuts) → bundles.Represents new.bundle after → Represents new (bare (cut_log value.stored point)) after
  cut_represents new after same number head count time whole value_is has represents =
      let settled : IsSettled new.number (body_behind (last_of log.bundle) kept cuts) new.bundle = subst (λ (n : ℕ). IsSettled n (body_behind (last_of log.bundle) kept cuts) new.bundle) (sym number)
      (settled_cut log.number log.bundle new.bundle (eight shapes.Log (length_behind (last_of log.bundle) kept)) kept.count kept.elapsed cuts at.owner at.shape value_is) in
      let long : committed_length new.bundle Timing ≡ min kept.timing (length_of (last_of log.bundle) Timing) = value_is.lengths_are Timing (is_part Timing tt) in
      let l = length_is Timing tt in
      let few = at.small in
      settled_represents new (cut_log value.stored point) (body_behind (last_of log.bundle) kept cuts) after whole settled
      (record { represents = represents; entry = entry_behind log.bundle disk kept cuts; committed = has; is = cut_entry same })
      (settled_small new.number (body_behind (last_of log.bundle) kept cuts) new.bundle settled (omega (arith, long, l, few)))
      (at.head ∙ ap Ok (sym head))
      (count ∙ tally_count kept (take kept.count value.stored.records) found.1 ∙ ap length cut_is)
      (time ∙ tally_time kept (take kept.count value.stored.records) found.1 ∙ ap elapsed cut_is)

-- a cut log is later
pub cut_later : (log : Stored) (point : ℕ) → IsLater log (cut_log log point)
cut_later log point = of (drops log point) refl where
  of : (b : Bool) → drops log point ≡ b → IsLater log (cut_log log point)
  of true is = inl (let e : cuts_after log point ≡ log.cuts + 1 = ap (λ (b : Bool). if b then log.cuts + 1 else log.cuts) is in omega (arith, e))
  of false is = inr (
    ap (λ (b : Bool). if b then log.cuts + 1 else log.cuts) is,
    ([], take_all (points.kept log.records point) log.records (let d : nat_lt (points.kept log.records point) (length log.records) ≡ false = is in grind (arith, nat_tests, d)) ∙ sym (append-nil log.records)),
  )

-- reads leave a log represented, and at each moment as it was
pub read_stays : (log : IoLogView) (value : LogValue) (old new : DiskView) → OnlyReads old new → Represents log value old → Represents log value new
read_stays log value old new reads at = log_stays log value (λ _. ⊥) old new reads.unchanged.elsewhere (λ f of none. none) at

pub read_moment : (log : IoLogView) (value : LogValue) (after : Stored) (old new : DiskView) → OnlyReads old new → Represents log value old → Throughout (IsOfLog log.number) (IsEither log.number (Some value.stored) (Some after)) old new
read_moment log value after old new reads at = unchanged_throughout (IsOfLog log.number) (IsEither log.number (Some value.stored) (Some after)) old new (λ image is. inl (every_image log value old at image is)) reads.unchanged

-- where nothing is staged no record is
pub none_left : (log : IoLogView) (value : LogValue) (disk : DiskView) → Represents log value disk → NoneStaged log.bundle → value.staged ≡ []
none_left log value disk at none = no_timing log value disk at (ap length (none Timing (subst (λ (s : Shape). IsPart s Timing) (sym at.shape) tt)))

pub on_ok_five : {T E : Type 0} (r : Result T E) (A B C D F Q : Type 0) → (A → B → C → D → F → Q) → OnOk r A → OnOk r B → OnOk r C → OnOk r D → OnOk r F → OnOk r Q
on_ok_five (Ok x) A B C D F Q f a b c d e = f a b c d e
on_ok_five (Err y) A B C D F Q f a b c d e = tt

pub some_first : (o : Option ℕ) (n : ℕ) → o ≡ Some n → o ≢ None
some_first o n is none = cc
