-- The lines through the first that ends at a point.
use Rattle.std.proofs.Common.{◌≡◌, ◌≢◌, ◌⊎◌, inl, inr, ℕ, zero, suc, ◌+◌, ◌<◌, ◌≤◌, List, [], ◌∷◌, ◌++◌, All, length, take, drop, map, Option, Some, None, refl, sym, ◌∙◌, ap, subst, arith, append-nil, append_assoc, length-append}
use Rattle.std.proofs.lemmas.Grind.{common_steps}
use Rattle.std.proofs.lemmas.Bool.{cases_lt}
use Rattle.std.proofs.lemmas.List.{map-append, take_at, take-append-le, take-append-drop}
use Rattle.std.proofs.lemmas.List.Elements.{All-head, All-tail}
use Rattle.lsv_disk.specs.declared.file.Part.TheVariants.{Timing}
use Rattle.lsv_disk.specs.declared.file.FileId.{FileId}
use Rattle.lsv_disk.specs.Throughout.{OnlyReads}
use Rattle.lsv_disk.specs.View.{DiskView}
use Rattle.lsv_disk.proofs.Composition.{OnlyNow}
use Rattle.lsv_bundle.specs.declared.view.View.{View}
use Rattle.lsv_record.specs.declared.records.Record.{Record}
use Rattle.lsv_record.specs.declared.records.Shaped.{Shaped}
use Rattle.lsv_record.specs.Lines.{IsLineAt}
use Rattle.lsv_record.specs.Points.{first}
use Rattle.lsv_record.specs.Records.{shape_of, line_of, timing_of, elapsed, IsGood, IsValid}
use Rattle.lsv_record.specs.Tally.{Totals, totals_of, with_line, lines_of}
use Rattle.lsv_record.proofs.Layouts.{elapsed-append, timing_of-append}
use Rattle.lsv_record.proofs.Once.{one_line}
use Rattle.lsv_record.proofs.Points.{first_some, first_there}
use Rattle.lsv_record.proofs.Tallies.{totals_more, lines_are_timing, lines_tell_time, line_after}
use Rattle.lsv_iolog.specs.Inner.Cutting.{IsFound, IsBefore, IsSeeking}
use Rattle.lsv_iolog.specs.Inner.Scanning.{text_of, Scan, IsReading}
use Rattle.lsv_iolog.proofs.Staging.{some_line}
use Rattle.lsv_iolog.proofs.Scans.{line_before_end, scanning_starts, scanning_goes_on, text_same}

-- the first records of two lists, one after another
take_behind : (m : ℕ) (xs ys : List Record) → length xs ≤ m → (more : List Record) × (take m (xs ++ ys) ≡ xs ++ more)
take_behind m [] ys le = (take m ys, refl)
take_behind zero (x ∷ xs) ys le = absurd (let no_ : ⊥ = omega (arith, le) in no_)
take_behind (suc m) (x ∷ xs) ys le = let rest = take_behind m xs ys (omega (arith, le)) in (rest.0, ap (λ (t : List Record). x ∷ t) rest.1)

-- no more time passed in the first records
elapsed_take : (m : ℕ) (xs ys : List Record) → m ≤ length xs → elapsed (take m (xs ++ ys)) ≤ elapsed xs
elapsed_take m xs ys le =
    let a : elapsed xs ≡ elapsed (take m xs) + elapsed (drop m xs) = ap elapsed (sym (take-append-drop m xs)) ∙ elapsed-append (take m xs) (drop m xs) in
    let b : elapsed (take m (xs ++ ys)) ≡ elapsed (take m xs) = ap elapsed (take-append-le m xs ys le) in
    omega (arith, a, b)

elapsed_past : (m : ℕ) (xs ys : List Record) → length xs ≤ m → elapsed xs ≤ elapsed (take m (xs ++ ys))
elapsed_past m xs ys le = let t = take_behind m xs ys le in let e = ap elapsed t.1 ∙ elapsed-append xs t.0 in omega (arith, e)

-- a point at which no record ends has no first one
none_first : (records : List Record) (point : ℕ) → ((n : ℕ) → 1 ≤ n → n ≤ length records → elapsed (take n records) ≢ point) → first records point ≡ None
none_first records point none = of (first records point) refl where
  of : (o : Option ℕ) → first records point ≡ o → first records point ≡ None
  of None e = e
  of (Some n) e = let is = first_some records point n e in absurd (none n is.some is.within is.ends)

-- the time of records by what their lines come to
pub tally_time : (tally : Totals) (behind : List Record) → tally ≡ totals_of (map shape_of behind) → tally.elapsed ≡ elapsed behind
tally_time tally behind totals = ap (λ (t : Totals). t.elapsed) totals ∙ lines_tell_time behind

pub tally_count : (tally : Totals) (behind : List Record) → tally ≡ totals_of (map shape_of behind) → tally.count ≡ length behind
tally_count tally behind totals = let e : tally.count ≡ length (map shape_of behind) = ap (λ (t : Totals). t.count) totals in grind (arith, common_steps, e)

-- the records before the last line end earlier
earlier_ends : (behind rest : List Record) (point time : ℕ) → time ≡ elapsed behind → (behind ≡ []) ⊎ (time < point) → (m : ℕ) → 1 ≤ m → m ≤ length behind → elapsed (take m (behind ++ rest)) < point
earlier_ends behind rest point time is before m some le = elim before [
  | inl none ↦ absurd (let e = ap length none in let no_ : ⊥ = omega (arith, e, some, le) in no_)
  | inr early ↦ let t = elapsed_take m behind rest le in omega (arith, t, early, is)
]

-- at the end none was found
pub seeking_ends : (records : List Record) (point : ℕ) (tally : Totals) → (is : IsBefore records point tally) → length (timing_of records) ≤ tally.timing → first records point ≡ None
seeking_ends records point tally is end = of is.rest is.split where
  of : (rest : List Record) → records ≡ is.behind ++ rest → first records point ≡ None
  of [] split = subst (λ (rs : List Record). first rs point ≡ None) (sym split) (none_first (is.behind ++ []) point (λ n some le e.
      let few : n ≤ length is.behind = let l = ap length (append-nil is.behind) in omega (arith, l, le) in
      let early = earlier_ends is.behind [] point tally.elapsed (tally_time tally is.behind is.totals) is.earlier n some few in
      let no_ : ⊥ = omega (arith, early, e) in no_))
  of (r ∷ rest) split = absurd (
      let timing : tally.timing ≡ length (timing_of is.behind) = ap (λ (t : Totals). t.timing) is.totals ∙ ap length (lines_are_timing is.behind) in
      let all : length (timing_of records) ≡ length (timing_of is.behind) + length (timing_of (r ∷ rest)) = ap (λ (rs : List Record). length (timing_of rs)) split ∙ ap length (timing_of-append is.behind (r ∷ rest)) ∙ length-append (timing_of is.behind) (timing_of (r ∷ rest)) in
      let some = some_line (shape_of r) in
      let one : length (timing_of (r ∷ rest)) ≡ length (line_of r) + length (timing_of rest) = length-append (line_of r) (timing_of rest) in
      let no_ : ⊥ = omega (arith, timing, all, some, one, end) in no_)

-- one line more, of the next record
pub record NextIs (records : List Record) (point : ℕ) (old new : Totals) : Type 0 where
  pub behind : List Record
  pub next : Record
  pub rest : List Record
  pub split : records ≡ behind ++ next ∷ rest
  pub totals : new ≡ totals_of (map shape_of (behind ++ next ∷ []))
  pub old_time : old.elapsed ≡ elapsed behind
  pub new_time : new.elapsed ≡ elapsed (behind ++ next ∷ [])
  pub earlier : (behind ≡ []) ⊎ (old.elapsed < point)

valid_at : (xs : List Record) (r : Record) (ys : List Record) → All IsValid (xs ++ r ∷ ys) → IsValid r
valid_at [] r ys good = All-head IsValid r ys good
valid_at (z ∷ zs) r ys good = valid_at zs r ys (All-tail IsValid z (zs ++ r ∷ ys) good)

pub next_is : (text : List ℕ) (records : List Record) (point : ℕ) (old new : Totals) (line : Shaped) → All IsValid records → text ≡ timing_of records → IsBefore records point old → IsLineAt text old.timing line new.timing → new ≡ with_line old line → NextIs records point old new
next_is text records point old new line valid texts is at more = of is.rest is.split where
  timing_is : old.timing ≡ length (lines_of (map shape_of is.behind))
  timing_is = ap (λ (t : Totals). t.timing) is.totals

  at_lines : IsLineAt text (length (lines_of (map shape_of is.behind))) line new.timing
  at_lines = subst (λ (n : ℕ). IsLineAt text n line new.timing) timing_is at

  of : (rest : List Record) → records ≡ is.behind ++ rest → NextIs records point old new
  of [] split = absurd (
      let before = line_before_end text (length (lines_of (map shape_of is.behind))) new.timing line at_lines in
      let all : length text ≡ length (lines_of (map shape_of is.behind)) = ap length (texts ∙ ap timing_of (split ∙ append-nil is.behind) ∙ sym (lines_are_timing is.behind)) in
      let no_ : ⊥ = omega (arith, before, all) in no_)
  of (r ∷ rest) split =
      let spelled : text ≡ lines_of (map shape_of is.behind ++ shape_of r ∷ map shape_of rest) = texts ∙ ap timing_of split ∙ sym (lines_are_timing (is.behind ++ r ∷ rest)) ∙ ap lines_of (map-append shape_of is.behind (r ∷ rest)) in
      let good : IsGood (shape_of r) = valid_at is.behind r rest (subst (λ (rs : List Record). All IsValid rs) split valid) in
      let stands = line_after text (map shape_of is.behind) (shape_of r) (map shape_of rest) good ([], spelled ∙ sym (append-nil (lines_of (map shape_of is.behind ++ shape_of r ∷ map shape_of rest)))) in
      let same = (one_line text (length (lines_of (map shape_of is.behind))) new.timing (length (lines_of (map shape_of is.behind ++ shape_of r ∷ []))) line (shape_of r) at_lines stands).0 in
      let totals : new ≡ totals_of (map shape_of (is.behind ++ r ∷ [])) =
      more ∙ ap (λ (t : Totals). with_line t line) is.totals ∙ ap (λ (l : Shaped). with_line (totals_of (map shape_of is.behind)) l) same ∙ sym (totals_more (map shape_of is.behind) (shape_of r)) ∙ ap totals_of (sym (map-append shape_of is.behind (r ∷ []))) in
      record {
        behind = is.behind;
        next = r;
        rest = rest;
        split = split;
        totals = totals;
        old_time = tally_time old is.behind is.totals;
        new_time = tally_time new (is.behind ++ r ∷ []) totals;
        earlier = is.earlier;
      }

-- the records as those through the next one, and the others
next_split : (records : List Record) (point : ℕ) (old new : Totals) → (is : NextIs records point old new) → records ≡ (is.behind ++ is.next ∷ []) ++ is.rest
next_split records point old new is = is.split ∙ sym (append_assoc is.behind (is.next ∷ []) is.rest)

next_long : (behind : List Record) (r : Record) → length (behind ++ r ∷ []) ≡ length behind + 1
next_long behind r = length-append behind (r ∷ [])

-- it ends at the point
pub next_found : (records : List Record) (point : ℕ) (old new : Totals) → NextIs records point old new → new.elapsed ≡ point → IsFound records point (Some new)
next_found records point old new is ends =
    let through = is.behind ++ is.next ∷ [] in
    let count : new.count ≡ length through = tally_count new through is.totals in
    let long = next_long is.behind is.next in
    let taken : take (length through) records ≡ through = ap (λ (rs : List Record). take (length through) rs) (next_split records point old new is) ∙ take_at through is.rest (length through) refl in
    let taken_count : take new.count records ≡ through = ap (λ (n : ℕ). take n records) count ∙ taken in
    let all : length records ≡ length through + length is.rest = ap length (next_split records point old new is) ∙ length-append through is.rest in (
      first_there records point new.count (record {
        some = omega (arith, count, long);
        within = omega (arith, count, all);
        ends = ap elapsed taken_count ∙ sym is.new_time ∙ ends;
        least = λ m some less e.
            let few : m ≤ length is.behind = omega (arith, less, count, long) in
            let early = earlier_ends is.behind (is.next ∷ is.rest) point old.elapsed is.old_time is.earlier m some few in
            let same = ap (λ (rs : List Record). elapsed (take m rs)) is.split in
            let no_ : ⊥ = omega (arith, early, same, e) in no_;
      }),
      is.totals ∙ ap (λ (rs : List Record). totals_of (map shape_of rs)) (sym taken_count),
    )

-- it ends past the point
pub next_past : (records : List Record) (point : ℕ) (old new : Totals) → NextIs records point old new → point < new.elapsed → first records point ≡ None
next_past records point old new is past = none_first records point (λ n some le e. of n some e (cases_lt (length is.behind) n)) where
  of : (n : ℕ) → 1 ≤ n → elapsed (take n records) ≡ point → (length is.behind < n) ⊎ (n ≤ length is.behind) → ⊥
  of n some e (inr few) =
      let early = earlier_ends is.behind (is.next ∷ is.rest) point old.elapsed is.old_time is.earlier n some few in
      let same = ap (λ (rs : List Record). elapsed (take n rs)) is.split in
      omega (arith, early, same, e)
  of n some e (inl many) =
      let long = next_long is.behind is.next in
      let late = elapsed_past n (is.behind ++ is.next ∷ []) is.rest (omega (arith, long, many)) in
      let same = ap (λ (rs : List Record). elapsed (take n rs)) (next_split records point old new is) in
      let time = is.new_time in
      omega (arith, late, same, time, e, past)

-- it ends before the point
pub next_before : (records : List Record) (point : ℕ) (old new : Totals) → NextIs records point old new → new.elapsed < point → IsBefore records point new
next_before records point old new is early = record {
  behind = is.behind ++ is.next ∷ [];
  rest = is.rest;
  split = next_split records point old new is;
  totals = is.totals;
  earlier = inr early;
}

-- nothing was read yet
pub seeking_starts : (tells : Type 0) (view : View) (point : ℕ) (disk : DiskView) (scan : Scan) → (tells → OnlyNow disk) → scan ≡ record { view = view; tally = totals_of []; start = 0; window = [] } → IsSeeking tells view point disk disk scan
seeking_starts tells view point disk scan now is = record {
  scanning = scanning_starts tells view disk scan now is;
  before = λ told records valid text. record { behind = []; rest = records; split = refl; totals = ap (λ (s : Scan). s.tally) is; earlier = inl refl };
}

-- the next line of a view that is read for a point
pub seeking_next : (tells : Type 0) (view : View) (point : ℕ) (old now : DiskView) (scan : Scan) (new : Totals) (line : Shaped) → (is : IsSeeking tells view point old now scan) → tells
    → (IsReading scan now → IsLineAt (text_of scan.view now Timing) scan.tally.timing line new.timing) → new ≡ with_line scan.tally line
    → (records : List Record) → All IsValid records → text_of view old Timing ≡ timing_of records → NextIs records point scan.tally new
seeking_next tells view point old now scan new line is told stands more records valid text =
    next_is (text_of view old Timing) records point scan.tally new line valid text (is.before told records valid text)
    (subst (λ (xs : List ℕ). IsLineAt xs scan.tally.timing line new.timing) (ap (λ (v : View). text_of v now Timing) is.scanning.view_is ∙ text_same view old now Timing (is.scanning.reads told)) (stands (is.scanning.reading told)))
    more

-- one line more, which ends before the point
pub seeking_goes_on : (tells : Type 0) (view : View) (point : ℕ) (old now next : DiskView) (scan scan' : Scan) (line : Shaped) → IsSeeking tells view point old now scan
    → (tells → IsReading scan now → IsLineAt (text_of scan.view now Timing) scan.tally.timing line scan'.tally.timing) → IsGood line → scan'.tally ≡ with_line scan.tally line → scan'.view ≡ scan.view
    → (tells → IsReading scan now → IsReading scan' next) → (tells → OnlyReads now next) → ((f : FileId) → now.faults f ≤ next.faults f) → scan'.tally.elapsed < point → IsSeeking tells view point old next scan'
seeking_goes_on tells view point old now next scan scan' line is stands good tally view_same reading reads faults early = record {
  scanning = scanning_goes_on tells view old now next scan scan' line is.scanning stands good tally view_same reading reads faults;
  before = λ told records valid text. next_before records point scan.tally scan'.tally (seeking_next tells view point old now scan scan'.tally line is told (stands told) tally records valid text) early;
}
