-- Lines that are read through windows, one after another.
use Rattle.std.proofs.Common.{◌≡◌, inl, inr, ℕ, ◌+◌, ◌<◌, ◌≤◌, List, [], ◌∷◌, ◌++◌, ◌^◌, All, length, take, drop, append_assoc, append-nil, zero-add, length-append, length-drop, Option, Some, None, IfSome, IfNone, refl, sym, ◌∙◌, ap, subst, arith}
use Rattle.std.proofs.lemmas.List.{length-take}
use Rattle.std.proofs.lemmas.List.Sums.{sum_by-append}
use Rattle.std.proofs.lemmas.List.Elements.{All-nil, All-cons, All-append, All-head, All-tail}
use Rattle.lsv_defs.specs.Pieces.{IsPrefix}
use Rattle.lsv_disk.specs.Bytes.{bytes_of}
use Rattle.lsv_disk.specs.Files.{file_of}
use Rattle.lsv_disk.specs.declared.file.Part.{Part}
use Rattle.lsv_disk.specs.declared.file.Part.TheVariants.{Timing}
use Rattle.lsv_disk.specs.Throughout.{OnlyReads}
use Rattle.lsv_disk.specs.View.{DiskView}
use Rattle.lsv_disk.proofs.Composition.{OnlyNow, started, reads_trans, unchanged_reads}
use Rattle.lsv_disk.specs.declared.file.FileId.{FileId}
use Rattle.lsv_bundle.specs.declared.view.View.{View}
use Rattle.lsv_bundle.specs.Body.{length_of}
use Rattle.lsv_record.specs.declared.records.Shaped.{Shaped}
use Rattle.lsv_record.specs.Lines.{IsLineAt, IsBadAt, told_delay}
use Rattle.lsv_record.specs.Records.{shaped_line, IsGood}
use Rattle.lsv_record.specs.Tally.{Totals, totals_of, with_line, lines_of, told_elapsed}
use Rattle.lsv_record.proofs.Tallies.{totals_more, lines_once, line_after, lines_grow}
use Rattle.lsv_record.proofs.Once.{one_line}
use Rattle.lsv_iolog.specs.Reading.{IsWindowOf}
use Rattle.lsv_iolog.specs.Inner.Scanning.{text_of, Scan, IsInOrder, IsSameWindow, IsReading, IsBadLine, HasScanned, IsScanned, IsScanning}
use Rattle.lsv_iolog.proofs.Windows.{window_none}
use Rattle.lsv_iolog.proofs.Staging.{some_line}

-- what holds of the value that is there
pub if_some_at : {X : Type 0} (o : Option X) (x : X) (P : X → Type 0) → o ≡ Some x → IfSome o P → P x
if_some_at {X} o x P is holds = let h : IfSome (Some x) P = subst (λ (y : Option X). IfSome y P) is holds in h

-- no more bytes of a part are committed than the entry says
pub text_short : (view : View) (disk : DiskView) (part : Part) → length (text_of view disk part) ≤ length_of view.body part
text_short view disk part =
    let e = length-take (length_of view.body part) (bytes_of (disk.reads (file_of view.owner part))) in omega (arith, e)

-- reads change no committed byte
pub text_same : (view : View) (old new : DiskView) (part : Part) → OnlyReads old new → text_of view new part ≡ text_of view old part
text_same view old new part reads = ap (λ (o : Option (List ℕ)). take (length_of view.body part) (bytes_of o)) (unchanged_reads old new reads.unchanged (file_of view.owner part))

-- a line more was read from the window
pub reading_moves : (old new : Scan) (disk : DiskView) (told : Shaped) → new.view ≡ old.view → IsSameWindow old new → new.tally ≡ with_line old.tally told → IsInOrder new → IsReading old disk → IsReading new disk
reading_moves old new disk told view same tally order is =
    subst (λ (v : View). IsWindowOf (text_of v disk Timing) new.start new.window new.tally.timing) (sym view)
    (record {
      bytes = subst (λ (k : ℕ). new.window ≡ take (length new.window) (drop k (text_of old.view disk Timing))) (sym same.start) (subst (λ (xs : List ℕ). xs ≡ take (length xs) (drop old.start (text_of old.view disk Timing))) (sym same.window) is.bytes);
      within = let a = is.within in let b = ap length same.window in let s = same.start in omega (arith, a, b, s);
      before = order.before;
      after = order.after;
    })

-- the bounds of the window, once the line is read
pub window_before : (old new : Scan) → IsInOrder old → IsSameWindow old new → (new.start ≤ old.tally.timing) × (old.tally.timing ≤ new.start + length new.window)
window_before old new order same =
    let b = ap length same.window in let s = same.start in let before = order.before in let after = order.after in
    (omega (arith, s, before), omega (arith, s, b, after))

-- nothing was read
pub reading_stays : (old new : Scan) (disk : DiskView) → new.view ≡ old.view → IsSameWindow old new → new.tally ≡ old.tally → IsReading old disk → IsReading new disk
reading_stays old new disk view same tally is =
    subst (λ (v : View). IsWindowOf (text_of v disk Timing) new.start new.window new.tally.timing) (sym view)
    (subst (λ (k : ℕ). IsWindowOf (text_of old.view disk Timing) k new.window new.tally.timing) (sym same.start)
    (subst (λ (xs : List ℕ). IsWindowOf (text_of old.view disk Timing) old.start xs new.tally.timing) (sym same.window)
    (subst (λ (t : Totals). IsWindowOf (text_of old.view disk Timing) old.start old.window t.timing) (sym tally) is)))

pub none_there : {X : Type 0} (o : Option X) → ((x : X) → o ≡ Some x → ⊥) → o ≡ None
none_there None f = refl
none_there (Some x) f = absurd (f x refl)

pub if_none_at : {X : Type 0} (o : Option X) (P : Type 0) → o ≡ None → IfNone o P → P
if_none_at None P is holds = holds
if_none_at (Some x) P is holds = absurd (let no_ : ⊥ = cc in no_)

-- a text with no shorter beginning is that one
prefix_whole : (p text : List ℕ) → IsPrefix p text → length p ≡ length text → text ≡ p
prefix_whole p text begins long =
    begins.1 ∙ ap (λ (xs : List ℕ). p ++ xs) (no_more begins.0 (let e = ap length begins.1 in omega (arith, e, long, length-append p begins.0))) ∙ append-nil p where
      no_more : (xs : List ℕ) → length xs ≡ 0 → xs ≡ []
      no_more [] none = refl
      no_more (x ∷ xs) none = absurd (let no_ : ⊥ = omega (arith, none) in no_)

-- no line is read yet
pub scan_none : (text : List ℕ) → HasScanned text (totals_of [])
scan_none text = record { told = []; good = All-nil IsGood; begins = (text, refl); totals = refl }

-- and one more is
pub scan_more : (text : List ℕ) (old new : Totals) (line : Shaped) → IsLineAt text old.timing line new.timing → IsGood line → new ≡ with_line old line → HasScanned text old → HasScanned text new
scan_more text old new line at good totals is = record {
  told = is.told ++ line ∷ [];
  good = All-append IsGood is.told (line ∷ []) is.good (All-cons IsGood line [] good (All-nil IsGood));
  begins = lines_grow text is.told line new.timing is.begins (subst (λ (t : Totals). IsLineAt text t.timing line new.timing) is.totals at);
  totals = totals ∙ ap (λ (t : Totals). with_line t line) is.totals ∙ sym (totals_more is.told line);
}

-- all are read where their text is as long
pub scan_whole : (text : List ℕ) (tally : Totals) → (is : HasScanned text tally) → tally.timing ≡ length text → text ≡ lines_of is.told
scan_whole text tally is end = prefix_whole (lines_of is.told) text is.begins (sym (ap (λ (t : Totals). t.timing) is.totals) ∙ end)

lines_of-append : (xs ys : List Shaped) → lines_of (xs ++ ys) ≡ lines_of xs ++ lines_of ys
lines_of-append [] ys = refl
lines_of-append (x ∷ xs) ys = ap (λ (t : List ℕ). shaped_line x ++ t) (lines_of-append xs ys) ∙ sym (append_assoc (shaped_line x) (lines_of xs) (lines_of ys))

told_elapsed-append : (xs ys : List Shaped) → told_elapsed (xs ++ ys) ≡ told_elapsed xs + told_elapsed ys
told_elapsed-append xs ys = sum_by-append told_delay xs ys

told_elapsed-cons : (x : Shaped) (xs : List Shaped) → told_elapsed (x ∷ xs) ≡ told_delay x + told_elapsed xs
told_elapsed-cons x xs = sum_by-append told_delay (x ∷ []) xs ∙ ap (λ (n : ℕ). n + told_elapsed xs) (zero-add (told_delay x))

-- the lines that a whole text has go on after those that were read, where the text does
goes_on : (text : List ℕ) (read whole : List Shaped) → All IsGood read → All IsGood whole → IsPrefix (lines_of read) text → text ≡ lines_of whole → length (lines_of read) < length text
    → (line : Shaped) × ((more : List Shaped) × (whole ≡ read ++ line ∷ more))
goes_on text read whole good all begins is before =
    elim (lines_once text read whole good all begins ([], is ∙ sym (append-nil (lines_of whole)))) [
      | inl more ↦ first more.0 more.1
      | inr less ↦ absurd (none less.0 less.1)
    ]
  where
    first : (more : List Shaped) → whole ≡ read ++ more → (line : Shaped) × ((rest : List Shaped) × (whole ≡ read ++ line ∷ rest))
    first [] e = absurd (let same = ap lines_of (e ∙ append-nil read) in let long = ap length (is ∙ same) in let no_ : ⊥ = omega (arith, long, before) in no_)
    first (line ∷ rest) e = (line, (rest, e))

    none : (more : List Shaped) → read ≡ whole ++ more → ⊥
    none more e =
        let long = ap length (ap lines_of e ∙ lines_of-append whole more) in
        let all_long = ap length is in
        omega (arith, long, all_long, before, length-append (lines_of whole) (lines_of more))

pub line_before_end : (text : List ℕ) (at next : ℕ) (line : Shaped) → IsLineAt text at line next → at < length text
line_before_end text at next line stands =
    let e = ap length stands.spelled in let some = some_line line in let left = length-drop at text in
    omega (arith, e, some, left, length-append (shaped_line line) (drop next text))

-- where the next line is bad no lines are the text, as it may be read
pub scan_bad : (text : List ℕ) (tally : Totals) → HasScanned text tally → IsBadLine text tally → (whole : List Shaped) → All IsGood whole → text ≡ lines_of whole → told_elapsed whole < 2 ^ 63 → length text ≤ 2 ^ 40 → ⊥
scan_bad text tally is bad whole all same in_time few = elim bad [
  | inl long ↦ (let no_ : ⊥ = omega (arith, long, few) in no_)
  | inr other ↦ elim other [
    | inl at ↦ bad_at (subst (λ (t : Totals). IsBadAt text t.timing) is.totals at)
    | inr late ↦ passes (late.told) (late.next) (subst (λ (t : Totals). IsLineAt text t.timing late.told late.next) is.totals late.stands) (subst (λ (t : Totals). 2 ^ 63 ≤ t.elapsed + told_delay late.told) is.totals late.late)
  ]
] where
  stands : (line : Shaped) (more : List Shaped) → whole ≡ is.told ++ line ∷ more → IsLineAt text (length (lines_of is.told)) line (length (lines_of (is.told ++ line ∷ [])))
  stands line more e = line_after text is.told line more (good_in is.told line more (subst (λ (ws : List Shaped). All IsGood ws) e all)) (subst (λ (ws : List Shaped). IsPrefix (lines_of ws) text) e ([], same ∙ sym (append-nil (lines_of whole)))) where
    good_in : (xs : List Shaped) (x : Shaped) (ys : List Shaped) → All IsGood (xs ++ x ∷ ys) → IsGood x
    good_in [] x ys good = (All-head IsGood x ys good)
    good_in (z ∷ zs) x ys good = good_in zs x ys (All-tail IsGood z (zs ++ x ∷ ys) good)

  bad_at : IsBadAt text (length (lines_of is.told)) → ⊥
  bad_at at =
      let next = goes_on text is.told whole is.good all is.begins same at.before_end in
      at.no_line next.0 (length (lines_of (is.told ++ next.0 ∷ []))) (stands next.0 next.1.0 next.1.1)

  passes : (line : Shaped) (n : ℕ) → IsLineAt text (length (lines_of is.told)) line n → 2 ^ 63 ≤ told_elapsed is.told + told_delay line → ⊥
  passes line n at late =
      let next = goes_on text is.told whole is.good all is.begins same (line_before_end text (length (lines_of is.told)) n line at) in
      let one = one_line text (length (lines_of is.told)) n (length (lines_of (is.told ++ next.0 ∷ []))) line next.0 at (stands next.0 next.1.0 next.1.1) in
      let delay : told_delay line ≡ told_delay next.0 = ap told_delay one.0 in
      let time = ap told_elapsed next.1.1 ∙ told_elapsed-append is.told (next.0 ∷ next.1.0) in
      let cons = told_elapsed-cons next.0 next.1.0 in
      omega (arith, delay, time, late, in_time, cons)

-- nothing was read yet
pub reads_nothing : (disk : DiskView) → OnlyNow disk → OnlyReads disk disk
reads_nothing disk now = record { unchanged = started (λ _. ⊥) (λ _. Unit {0}) disk now (λ image is. tt); counts = record { writes = λ f. refl; syncs = λ f. refl } }

pub scanning_starts : (tells : Type 0) (view : View) (disk : DiskView) (scan : Scan) → (tells → OnlyNow disk) → scan ≡ record { view = view; tally = totals_of []; start = 0; window = [] } → IsScanning tells view disk disk scan
scanning_starts tells view disk scan now is = record {
  view_is = ap (λ (s : Scan). s.view) is;
  reads = λ told. reads_nothing disk (now told);
  faults = λ f. omega arith;
  scanned = λ told. subst (λ (s : Scan). HasScanned (text_of view disk Timing) s.tally) (sym is) (scan_none (text_of view disk Timing));
  reading = λ told. subst (λ (s : Scan). IsReading s disk) (sym is) (window_none (text_of view disk Timing) 0 (omega arith));
}

-- and then one line more
pub scanning_goes_on : (tells : Type 0) (view : View) (old now next : DiskView) (scan scan' : Scan) (line : Shaped) → IsScanning tells view old now scan
    → (tells → IsReading scan now → IsLineAt (text_of scan.view now Timing) scan.tally.timing line scan'.tally.timing) → IsGood line → scan'.tally ≡ with_line scan.tally line → scan'.view ≡ scan.view
    → (tells → IsReading scan now → IsReading scan' next) → (tells → OnlyReads now next) → ((f : FileId) → now.faults f ≤ next.faults f) → IsScanning tells view old next scan'
scanning_goes_on tells view old now next scan scan' line is stands good tally view_same reading reads faults = record {
  view_is = view_same ∙ is.view_is;
  reads = λ told. reads_trans old now next (is.reads told) (reads told);
  faults = λ f. omega (arith, is.faults f, faults f);
  scanned = λ told.
      let at : IsLineAt (text_of view old Timing) scan.tally.timing line scan'.tally.timing =
      subst (λ (xs : List ℕ). IsLineAt xs scan.tally.timing line scan'.tally.timing) (ap (λ (v : View). text_of v now Timing) is.view_is ∙ text_same view old now Timing (is.reads told)) (stands told (is.reading told)) in
      scan_more (text_of view old Timing) scan.tally scan'.tally line at good tally (is.scanned told);
  reading = λ told. reading told (is.reading told);
}

-- at the end all lines were read
pub scanning_ends : (tells : Type 0) (view : View) (old now : DiskView) (scan : Scan) (tally : Totals) → tells → IsScanning tells view old now scan → tally ≡ scan.tally → tally.elapsed < 2 ^ 63 → tally.timing ≡ length_of view.body Timing
    → length (text_of view old Timing) ≡ length_of view.body Timing → (lines : List Shaped) × IsScanned view old lines tally
scanning_ends tells view old now scan tally told is same in_time end long =
    let scanned : HasScanned (text_of view old Timing) tally = subst (λ (t : Totals). HasScanned (text_of view old Timing) t) (sym same) (is.scanned told) in (
      scanned.told,
      record {
        good = scanned.good;
        text = scan_whole (text_of view old Timing) tally scanned (end ∙ sym long);
        totals = scanned.totals;
        in_time = subst (λ (t : Totals). t.elapsed < 2 ^ 63) scanned.totals in_time;
      },
    )

-- a text is that of one list of lines
pub whole_once : (text : List ℕ) (a b : List Shaped) → All IsGood a → All IsGood b → text ≡ lines_of a → text ≡ lines_of b → a ≡ b
whole_once text a b good good' is of = elim (lines_once text a b good good' ([], is ∙ sym (append-nil (lines_of a))) ([], of ∙ sym (append-nil (lines_of b)))) [
  | inl more ↦ sym (nothing a b more.0 more.1 (ap length (sym of ∙ is)))
  | inr more ↦ nothing b a more.0 more.1 (ap length (sym is ∙ of))
] where
  nothing : (xs ys : List Shaped) (more : List Shaped) → ys ≡ xs ++ more → length (lines_of ys) ≡ length (lines_of xs) → ys ≡ xs
  nothing xs ys [] e long = e ∙ append-nil xs
  nothing xs ys (line ∷ rest) e long =
      let all = ap length (ap lines_of e ∙ lines_of-append xs (line ∷ rest)) in
      let some = some_line line in
      absurd (let no_ : ⊥ = omega (arith, all, long, some, length-append (lines_of xs) (lines_of (line ∷ rest)), length-append (shaped_line line) (lines_of rest)) in no_)
