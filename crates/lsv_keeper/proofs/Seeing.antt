-- The records of a log, read one by one up to the first that ends at a point.
use Rattle.std.proofs.Common.{◌≡◌, ◌≤◌, ◌<◌, ◌+◌, ◌-◌, ◌^◌, ℕ, suc, List, [], ◌∷◌, ◌++◌, length, take, All, Option, Some, None, refl, sym, ◌∙◌, ap, subst, inl, inr, arith, append_assoc, append-nil, length-append}
use Rattle.std.proofs.lemmas.List.{append_cancel_left}
use Rattle.lsv_defs.specs.Pieces.{IsPrefix}
use Rattle.lsv_disk.specs.Throughout.{OnlyReads}
use Rattle.lsv_disk.specs.Bytes.{bytes_of}
use Rattle.lsv_disk.specs.Files.{file_of}
use Rattle.lsv_disk.specs.View.{DiskView, HasOwnCause, Image}
use Rattle.lsv_disk.specs.declared.file.FileId.{FileId}
use Rattle.lsv_disk.proofs.Composition.{OnlyNow, cause_second, cause_widened, reads_trans, unchanged_reads}
use Rattle.lsv_bundle.specs.Body.{length_of}
use Rattle.lsv_bundle.specs.declared.body.Body.{Body}
use Rattle.lsv_mask.specs.Masking.{Seen, seen}
use Rattle.lsv_record.specs.declared.laid.Laid.{Laid}
use Rattle.lsv_record.specs.declared.records.Record.{Record}
use Rattle.lsv_record.specs.declared.records.Stream.{Stream}
use Rattle.lsv_record.specs.declared.records.Stream.TheVariants.{Stdin, Stdout, Stderr, Ttyin, Ttyout}
use Rattle.lsv_record.specs.Layout.{Begins, IsLayout, layout_of, stream_in}
use Rattle.lsv_record.specs.Points.{Stored, cut, first, one_more}
use Rattle.lsv_record.specs.Records.{IsValid, delay_of, elapsed, line_of, shape_of, stream_of, text_of, timing_of}
use Rattle.lsv_record.proofs.Layouts.{timing_of-append}
use Rattle.lsv_record.proofs.Once.{laid_is_read, one_begins}
use Rattle.lsv_record.proofs.Points.{FirstBy.here, FirstBy.past, FirstBy.later, cut_append, first_by}
use Rattle.lsv_iolog.specs.Reading.{IsBehind, IsWhole, ViewState, committed_laid}
use Rattle.lsv_iolog.specs.Recovered.{IsOfLog, laid_in, owner_of}
use Rattle.lsv_iolog.proofs.Scans.{reads_nothing}
use Rattle.lsv_keeper.specs.Resuming.{IsViewOf}

-- ---- The next record

-- the timing of records is longer with one more
longer : (qs : List Record) (r : Record) → IsPrefix (timing_of (qs ++ r ∷ [])) (timing_of qs) → ⊥
longer qs r (rest, e) = omega (arith, ap length e, length-append (timing_of (qs ++ r ∷ [])) rest, ap length (timing_of-append qs (r ∷ [])), length-append (timing_of qs) (timing_of (r ∷ [])), length-append (line_of r) (timing_of []), length-append (text_of (shape_of r)) (10 ∷ []))

split_next : (qs more rest : List Record) (r : Record) → r ∷ [] ≡ more ++ rest → (more ≡ [] → ⊥) → (left : List Record) × (more ≡ r ∷ left)
split_next qs [] rest r e some = absurd (some refl)
split_next qs (x ∷ more) rest r e some = (more, let same : r ≡ x = cc in ap (λ (y : Record). y ∷ more) (sym same))

-- after the first records of a log stands the next one
pub next_is : (all qs more : List Record) (r : Record) → All IsValid all → elapsed all < 2 ^ 63 → all ≡ qs ++ more → Begins (layout_of all) (qs ++ r ∷ []) → (rest : List Record) × (more ≡ r ∷ rest)
next_is all qs more r valid time whole begins =
    let laid : IsLayout (layout_of all) all = record { timing = refl; streams = λ s. same_stream s } in
    elim (one_begins (layout_of all) (qs ++ r ∷ []) all begins (laid_is_read (layout_of all) all valid time laid).begins) [
      | inl (rest, e) ↦ (rest, append_cancel_left qs more (r ∷ rest) (sym whole ∙ (e ∙ append_assoc qs (r ∷ []) rest)))
      | inr (rest, e) ↦ split_next qs more rest r (append_cancel_left qs (r ∷ []) (more ++ rest) (e ∙ (ap (λ (rs : List Record). rs ++ rest) whole ∙ append_assoc qs more rest)))
          (λ none. longer qs r (subst (λ (rs : List Record). IsPrefix (timing_of (qs ++ r ∷ [])) (timing_of rs)) (whole ∙ (ap (λ (rs : List Record). qs ++ rs) none ∙ append-nil qs)) begins.timing))
    ]
  where
    same_stream : (s : Stream) → stream_in s (layout_of all) ≡ stream_of s all
    same_stream Stdin = refl
    same_stream Stdout = refl
    same_stream Stderr = refl
    same_stream Ttyin = refl
    same_stream Ttyout = refl

-- ---- The first that ends at a point

-- a number of records more, if there is one
abbrev pub add_count : ℕ → Option ℕ → Option ℕ
add_count i None = None
add_count i (Some k) = Some (i + k)

add_none : (o : Option ℕ) → o ≡ add_count 0 o
add_none None = refl
add_none (Some k) = ap Some (let e : k ≡ 0 + k = omega arith in e)

add_one : (i : ℕ) (o : Option ℕ) → add_count i (one_more o) ≡ add_count (i + 1) o
add_one i None = refl
add_one i (Some k) = ap Some (let e : i + suc k ≡ i + 1 + k = omega arith in e)

-- ---- Reading

-- after this many records of the log, with so much time left to the point
pub record Saw (view : ViewState) (before mask : Seen) (stored : Stored) (now : DiskView) (point left i : ℕ) : Type 0 where
  pub given : List Record
  pub more : List Record
  pub whole : stored.records ≡ given ++ more
  pub count : length given ≡ i
  pub behind : IsBehind view given now
  pub masked : (texts : List (List ℕ)) → before ≡ seen texts [] → mask ≡ seen texts given
  pub first : first stored.records point ≡ add_count i (first more left)

-- reading goes on
pub record Seeing (told : Type 0) (start view : ViewState) (before mask : Seen) (old now : DiskView) (point left i : ℕ) : Type 0 where
  pub number : view.number ≡ start.number
  pub body : view.body ≡ start.body
  pub reads : told → OnlyReads old now
  pub monotone : (file : FileId) → old.faults file ≤ now.faults file
  pub saw : told → (stored : Stored) → IsViewOf start stored old → IsBehind start [] old → Saw view before mask stored now point left i

pub seeing_starts : (told : Type 0) (view : ViewState) (mask : Seen) (disk : DiskView) (point : ℕ) → (told → OnlyNow disk) → Seeing told view view mask mask disk disk point point 0
seeing_starts told view mask disk point only_now = record {
  number = refl;
  body = refl;
  reads = λ is. reads_nothing disk (only_now is);
  monotone = λ file. omega arith;
  saw = λ is stored of behind. record { given = []; more = stored.records; whole = refl; count = refl; behind = behind; masked = λ texts e. e; first = add_none (first stored.records point) };
}

-- the committed bytes are the same while nothing is written
pub laid_same : (start view : ViewState) (stored : Stored) (old now : DiskView) → view.number ≡ start.number → view.body ≡ start.body → OnlyReads old now → IsViewOf start stored old
    → committed_laid view.number view.body now ≡ layout_of stored.records
laid_same start view stored old now number body reads of =
    let same : now.reads ≡ old.reads = λ i f. unchanged_reads old now reads.unchanged f i in
    ap (λ (n : ℕ). committed_laid n view.body now) number ∙ (ap (λ (b : Body). committed_laid start.number b now) body ∙ (read_same start.number start.body old now same ∙ of.layout))
  where
    laid_of : ℕ → Body → Image → Laid
    laid_of n b image = laid_in (λ part. take (length_of b part) (bytes_of (image (file_of (owner_of n) part))))

    read_same : (n : ℕ) (b : Body) (one two : DiskView) → two.reads ≡ one.reads → committed_laid n b two ≡ committed_laid n b one
    read_same n b one two same = ap (laid_of n b) same

-- what a record more tells
pub record SawNext (view : ViewState) (before mask : Seen) (stored : Stored) (now : DiskView) (point left i : ℕ) (r : Record) : Type 0 where
  pub given : List Record
  pub more : List Record
  pub whole : stored.records ≡ given ++ r ∷ more
  pub count : length given ≡ i
  pub behind : IsBehind view (given ++ r ∷ []) now
  pub masked : (texts : List (List ℕ)) → before ≡ seen texts [] → mask ≡ seen texts (given ++ r ∷ [])
  pub first : first stored.records point ≡ add_count i (first (r ∷ more) left)

pub saw_next : (told : Type 0) (start view next : ViewState) (before mask mask' : Seen) (old now new : DiskView) (point left i : ℕ) (r : Record) (stored : Stored) → told
    → Seeing told start view before mask old now point left i
    → next.number ≡ view.number → next.body ≡ view.body → OnlyReads now new
    → ((records : List Record) → IsBehind view records now → IsBehind next (records ++ r ∷ []) new)
    → ((texts : List (List ℕ)) (records : List Record) → mask ≡ seen texts records → mask' ≡ seen texts (records ++ r ∷ []))
    → IsViewOf start stored old → IsBehind start [] old → SawNext next before mask' stored new point left i r
saw_next told start view next before mask mask' old now new point left i r stored is seeing number body reads goes sees of behind =
    let s = seeing.saw is stored of behind in
    let at = goes s.given s.behind in
    let laid = laid_same start next stored old new (number ∙ seeing.number) (body ∙ seeing.body) (reads_trans old now new (seeing.reads is) reads) of in
    let (rest, e) = next_is stored.records s.given s.more r of.valid of.in_time s.whole (subst (λ (l : Laid). Begins l (s.given ++ r ∷ [])) laid at.begins) in
    record {
      given = s.given;
      more = rest;
      whole = s.whole ∙ ap (λ (rs : List Record). s.given ++ rs) e;
      count = s.count;
      behind = at;
      masked = λ texts b. sees texts s.given (s.masked texts b);
      first = s.first ∙ ap (λ (rs : List Record). add_count i (first rs left)) e;
    }

-- the record goes on before the point
pub seeing_goes_on : (told : Type 0) (start view next : ViewState) (before mask mask' : Seen) (old now new : DiskView) (point left left' i : ℕ) (r : Record)
    → Seeing told start view before mask old now point left i
    → next.number ≡ view.number → next.body ≡ view.body → (told → OnlyReads now new) → ((file : FileId) → now.faults file ≤ new.faults file)
    → (told → (records : List Record) → IsBehind view records now → IsBehind next (records ++ r ∷ []) new)
    → ((texts : List (List ℕ)) (records : List Record) → mask ≡ seen texts records → mask' ≡ seen texts (records ++ r ∷ []))
    → delay_of r < left → left' ≡ left - delay_of r → Seeing told start next before mask' old new point left' (i + 1)
seeing_goes_on told start view next before mask mask' old now new point left left' i r seeing number body reads up goes sees less is = record {
  number = number ∙ seeing.number;
  body = body ∙ seeing.body;
  reads = λ t. reads_trans old now new (seeing.reads t) (reads t);
  monotone = λ file. (let a = seeing.monotone file in let b = up file in omega arith);
  saw = λ t stored of behind.
      let s = saw_next told start view next before mask mask' old now new point left i r stored t seeing number body (reads t) (goes t) sees of behind in
      record {
        given = s.given ++ r ∷ [];
        more = s.more;
        whole = s.whole ∙ sym (append_assoc s.given (r ∷ []) s.more);
        count = (let a = length-append s.given (r ∷ []) in let b = s.count in omega arith);
        behind = s.behind;
        masked = s.masked;
        first = s.first ∙ (ap (add_count i) (goes_by s.more) ∙ add_one i (first s.more left'));
      };
}
  where
    goes_by : (more : List Record) → first (r ∷ more) left ≡ one_more (first more left')
    goes_by more = elim (first_by r more left) [
      | here e f ↦ absurd (omega arith)
      | past e f ↦ absurd (omega arith)
      | later e f ↦ f ∙ ap (λ (k : ℕ). one_more (first more k)) (sym is)
    ]

-- the record ends at the point
pub seeing_found : (told : Type 0) (start view next : ViewState) (before mask mask' : Seen) (old now new : DiskView) (point left i : ℕ) (r : Record) → told
    → Seeing told start view before mask old now point left i
    → next.number ≡ view.number → next.body ≡ view.body → OnlyReads now new
    → ((records : List Record) → IsBehind view records now → IsBehind next (records ++ r ∷ []) new)
    → ((texts : List (List ℕ)) (records : List Record) → mask ≡ seen texts records → mask' ≡ seen texts (records ++ r ∷ []))
    → delay_of r ≡ left → (texts : List (List ℕ)) (stored : Stored) → before ≡ seen texts [] → IsViewOf start stored old → IsBehind start [] old → mask' ≡ seen texts (cut stored.records point)
seeing_found told start view next before mask mask' old now new point left i r t seeing number body reads goes sees ends texts stored fresh of behind =
    let s = saw_next told start view next before mask mask' old now new point left i r stored t seeing number body reads goes sees of behind in
    let whole : stored.records ≡ (s.given ++ r ∷ []) ++ s.more = s.whole ∙ sym (append_assoc s.given (r ∷ []) s.more) in
    let found : first stored.records point ≡ Some (i + 1) = s.first ∙ ap (add_count i) (at s.more) in
    let left : cut stored.records point ≡ take (i + 1) stored.records = (cut_append stored.records [] point (i + 1) found).0 in
    let count : length (s.given ++ r ∷ []) ≡ i + 1 = (let a = length-append s.given (r ∷ []) in let b = s.count in omega arith) in
    let taken : take (i + 1) stored.records ≡ s.given ++ r ∷ [] =
    ap (λ (rs : List Record). take (i + 1) rs) whole ∙ (ap (λ (k : ℕ). take k ((s.given ++ r ∷ []) ++ s.more)) (sym count) ∙ take_all (s.given ++ r ∷ []) s.more) in
    s.masked texts fresh ∙ ap (seen texts) (sym (left ∙ taken))
  where
    at : (more : List Record) → first (r ∷ more) left ≡ Some 1
    at more = elim (first_by r more left) [ here e f ↦ f | past e f ↦ absurd (omega arith) | later e f ↦ absurd (omega arith) ]

    take_all : (xs ys : List Record) → take (length xs) (xs ++ ys) ≡ xs
    take_all [] ys = refl
    take_all (x ∷ xs) ys = ap (λ (rs : List Record). x ∷ rs) (take_all xs ys)

-- the record ends after the point
pub seeing_past : (told : Type 0) (start view next : ViewState) (before mask mask' : Seen) (old now new : DiskView) (point left i : ℕ) (r : Record) → told
    → Seeing told start view before mask old now point left i
    → next.number ≡ view.number → next.body ≡ view.body → OnlyReads now new
    → ((records : List Record) → IsBehind view records now → IsBehind next (records ++ r ∷ []) new)
    → ((texts : List (List ℕ)) (records : List Record) → mask ≡ seen texts records → mask' ≡ seen texts (records ++ r ∷ []))
    → left < delay_of r → (stored : Stored) → IsViewOf start stored old → IsBehind start [] old → first stored.records point ≡ None
seeing_past told start view next before mask mask' old now new point left i r t seeing number body reads goes sees past_it stored of behind =
    let s = saw_next told start view next before mask mask' old now new point left i r stored t seeing number body reads goes sees of behind in
    s.first ∙ ap (add_count i) (at s.more)
  where
    at : (more : List Record) → first (r ∷ more) left ≡ None
    at more = elim (first_by r more left) [ here e f ↦ absurd (omega arith) | past e f ↦ f | later e f ↦ absurd (omega arith) ]

no_more : (given more all : List Record) → all ≡ given ++ more → length all ≡ length given → more ≡ []
no_more given [] all whole count = refl
no_more given (x ∷ more) all whole count = absurd (omega (arith, ap length whole, length-append given (x ∷ more), count))

-- all records were seen, as many as the log has
pub seeing_all : (told : Type 0) (start view : ViewState) (before mask : Seen) (old now : DiskView) (point left i : ℕ) → told → Seeing told start view before mask old now point left i → start.body.count ≡ i
    → (stored : Stored) → IsViewOf start stored old → IsBehind start [] old → first stored.records point ≡ None
seeing_all told start view before mask old now point left i t seeing all stored of behind =
    let s = seeing.saw t stored of behind in
    let none : s.more ≡ [] = no_more s.given s.more stored.records s.whole (sym of.count ∙ (all ∙ sym s.count)) in
    s.first ∙ ap (λ (rs : List Record). add_count i (first rs left)) none

-- or the view is at the end
pub seeing_end : (told : Type 0) (start view : ViewState) (before mask : Seen) (old now : DiskView) (point left i : ℕ) → told → Seeing told start view before mask old now point left i
    → ((records : List Record) → IsBehind view records now → IsWhole view records now) → (stored : Stored) → IsViewOf start stored old → IsBehind start [] old → first stored.records point ≡ None
seeing_end told start view before mask old now point left i t seeing ends stored of behind =
    let s = seeing.saw t stored of behind in
    let w = ends s.given s.behind in
    let none : s.more ≡ [] = no_more s.given s.more stored.records s.whole (sym of.count ∙ (ap (λ (b : Body). b.count) (sym seeing.body) ∙ w.count)) in
    s.first ∙ ap (λ (rs : List Record). add_count i (first rs left)) none

-- ---- Counts

-- a read that failed is to blame, or nothing is
pub seeing_cause : (told : Type 0) (start view : ViewState) (before mask : Seen) (old now new : DiskView) (point left i : ℕ) (failed inner : Type 0) → Seeing told start view before mask old now point left i → (failed → inner)
    → HasOwnCause (IsOfLog view.number) inner now new → HasOwnCause (IsOfLog start.number) failed old new
seeing_cause told start view before mask old now new point left i failed inner seeing fails cause =
    cause_second (IsOfLog start.number) failed old now new seeing.monotone
    (cause_widened (IsOfLog view.number) (IsOfLog start.number) inner failed now new (λ file own. own ∙ ap owner_of seeing.number) fails cause)

pub seeing_blameless : (told : Type 0) (start view : ViewState) (before mask : Seen) (old now new : DiskView) (point left i : ℕ) (failed : Type 0) → Seeing told start view before mask old now point left i
    → ((file : FileId) → now.faults file ≤ new.faults file) → (failed → ⊥) → HasOwnCause (IsOfLog start.number) failed old new
seeing_blameless told start view before mask old now new point left i failed seeing up none = record {
  monotone = λ file. (let a = seeing.monotone file in let b = up file in omega arith);
  risen = λ is. absurd (none is);
}

pub same_faults : (disk : DiskView) (file : FileId) → disk.faults file ≤ disk.faults file
same_faults disk file = omega arith
