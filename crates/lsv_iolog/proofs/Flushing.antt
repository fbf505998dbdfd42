-- A flush: what it commits, and what stands at each moment.
use Rattle.std.proofs.Common.{◌≡◌, ◌≢◌, inl, inr, ℕ, ◌<◌, ◌≤◌, ◌^◌, false, Result, Ok, Err, OnOk, List, [], ◌∷◌, ◌++◌, length, Option, Some, None, refl, sym, ◌∙◌, ap, subst, arith, All, length-append, append-nil}
use Rattle.std.specs.Prelude.{option_map}
use Rattle.std.proofs.lemmas.List.Elements.{All-append}
use Rattle.std.proofs.lemmas.List.{length-take}
use Rattle.lsv_disk.specs.declared.file.Owner.{Owner}
use Rattle.lsv_disk.specs.declared.file.Part.{Part}
use Rattle.lsv_disk.specs.declared.file.Part.TheVariants.{Head, Exit, Timing, Stdin, Stdout, Stderr, Ttyin, Ttyout}
use Rattle.lsv_disk.specs.Bytes.{bytes_of}
use Rattle.lsv_disk.specs.Files.{file_of}
use Rattle.lsv_disk.specs.Throughout.{Throughout}
use Rattle.lsv_disk.specs.View.{DiskView}
use Rattle.lsv_disk.proofs.Composition.{OnlyNow, started, widened}
use Rattle.lsv_bundle.specs.declared.body.Body.{Body}
use Rattle.lsv_bundle.specs.declared.shape.Shape.{Shape}
use Rattle.lsv_bundle.specs.declared.shape.Shape.TheVariants as shapes
use Rattle.lsv_bundle.specs.Represents as bundles
use Rattle.lsv_bundle.specs.Shape.{IsPart, IsWritable, on_shape}
use Rattle.lsv_bundle.specs.Value.{BundleView, committed_length, staged, next_length, next_body, IsCommitted}
use Rattle.lsv_bundle.specs.Committed.{Committed, IsBeforeOrAfter, committed, committed_bytes, committed_as}
use Rattle.lsv_bundle.proofs.Laws.{writes_owner}
use Rattle.lsv_record.specs.declared.laid.Laid.{Laid}
use Rattle.lsv_record.specs.declared.records.Record.{Record}
use Rattle.lsv_record.specs.declared.records.Stream.TheVariants as stream
use Rattle.lsv_info.specs.Reading.{head_of}
use Rattle.lsv_record.specs.Layout.{layout_of}
use Rattle.lsv_record.specs.Points.{Stored}
use Rattle.lsv_record.specs.Records.{IsValid, elapsed, timing_of, line_of, shape_of}
use Rattle.lsv_record.proofs.Layouts.{timing_of-append, stream_of-append}
use Rattle.lsv_iolog.specs.Recovered.{owner_of, IsOfLog, laid_in, HasExit, IsLog}
use Rattle.lsv_iolog.specs.Later.{IsLater}
use Rattle.lsv_iolog.specs.Moments.{IsEither, IsThereLater}
use Rattle.lsv_iolog.specs.Value.{IoLogView, IsFlushOf, LogValue, all_of, bare, flushed, kind_of, SameCounts}
use Rattle.lsv_iolog.specs.Represents.{Represents}
use Rattle.lsv_iolog.specs.Inner.Invariant.{IsSettled}
use Rattle.lsv_iolog.specs.Inner.Next.{cuts_in, next_entry}
use Rattle.lsv_iolog.proofs.Staging.{some_line}
use Rattle.lsv_iolog.proofs.Committing.{next_bytes, now_bytes, holds_log, settled_next}
use Rattle.lsv_iolog.proofs.Representing.{every_image, settled_represents, settled_small}

-- what is committed, by the last entry
entry_parts : (bytes : Part → List ℕ) (last : Option Body) (entry : Committed) → option_map (λ (body : Body). let c : Committed = record { body = body; bytes = bytes } in c) last ≡ Some entry → (last ≡ Some entry.body) × (bytes ≡ entry.bytes)
entry_parts bytes None entry e = absurd (none_some entry e) where
  none_some : (c : Committed) → None ≡ Some c → ⊥
  none_some c e = cc
entry_parts bytes (Some body) entry e =
    let is : record { body = body; bytes = bytes } ≡ entry = some_same (record { body = body; bytes = bytes }) entry e in
    (ap (λ (c : Committed). Some c.body) is, ap (λ (c : Committed). c.bytes) is) where
      some_same : (c d : Committed) → Some c ≡ Some d → c ≡ d
      some_same c d e = cc

pub entry_body : (b : BundleView) (disk : DiskView) (entry : Committed) → committed b disk ≡ Some entry → b.last ≡ Some entry.body
entry_body b disk entry e = (entry_parts (on_shape b.shape (committed_bytes b disk)) b.last entry e).0

pub entry_bytes : (b : BundleView) (disk : DiskView) (entry : Committed) → b.shape ≡ shapes.Log → committed b disk ≡ Some entry → (part : Part) → IsPart shapes.Log part → entry.bytes part ≡ committed_bytes b disk part
entry_bytes b disk entry shape e part is = ap (λ (bs : Part → List ℕ). bs part) (sym (entry_parts (on_shape b.shape (committed_bytes b disk)) b.last entry e).1) ∙ now_bytes b disk entry.body part shape is

-- the layouts of records and of others after them
two_laid : (e n s : Part → List ℕ) (records more : List Record) → ((part : Part) → IsPart shapes.Log part → n part ≡ e part ++ s part) → laid_in e ≡ layout_of records → laid_in s ≡ layout_of more → laid_in n ≡ layout_of (records ++ more)
two_laid e n s records more next one two = λ i. record {
  timing = (next Timing tt ∙ join (ap (λ (l : Laid). l.timing) one) (ap (λ (l : Laid). l.timing) two) ∙ sym (timing_of-append records more)) i;
  stdin = (next Stdin tt ∙ join (ap (λ (l : Laid). l.stdin) one) (ap (λ (l : Laid). l.stdin) two) ∙ sym (stream_of-append stream.Stdin records more)) i;
  stdout = (next Stdout tt ∙ join (ap (λ (l : Laid). l.stdout) one) (ap (λ (l : Laid). l.stdout) two) ∙ sym (stream_of-append stream.Stdout records more)) i;
  stderr = (next Stderr tt ∙ join (ap (λ (l : Laid). l.stderr) one) (ap (λ (l : Laid). l.stderr) two) ∙ sym (stream_of-append stream.Stderr records more)) i;
  ttyin = (next Ttyin tt ∙ join (ap (λ (l : Laid). l.ttyin) one) (ap (λ (l : Laid). l.ttyin) two) ∙ sym (stream_of-append stream.Ttyin records more)) i;
  ttyout = (next Ttyout tt ∙ join (ap (λ (l : Laid). l.ttyout) one) (ap (λ (l : Laid). l.ttyout) two) ∙ sym (stream_of-append stream.Ttyout records more)) i;
} where
  join : {a b c d : List ℕ} → a ≡ b → c ≡ d → a ++ c ≡ b ++ d
  join {a} {b} {c} {d} x y = ap (λ (t : List ℕ). t ++ c) x ∙ ap (λ (t : List ℕ). b ++ t) y

-- what is committed next is the log with its staged records
pub next_log : (b : BundleView) (disk : DiskView) (entry : Committed) (stored : Stored) (more : List Record) (kind count time : ℕ) (exit : Option (List ℕ)) (text : List ℕ)
    → b.shape ≡ shapes.Log → committed b disk ≡ Some entry → IsLog entry stored → stored.exit ≡ None
    → laid_in (staged b) ≡ layout_of more → staged b Head ≡ [] → staged b Exit ≡ text → HasExit kind text exit → All IsValid more
    → count ≡ length (stored.records ++ more) → time ≡ elapsed (stored.records ++ more) → elapsed (stored.records ++ more) < 2 ^ 63 → next_length b Timing ≤ 2 ^ 40
    → IsLog (committed_as b disk (next_body b kind count time (cuts_in b.last))) (record { head = stored.head; records = stored.records ++ more; exit = exit; cuts = stored.cuts })
next_log b disk entry stored more kind count time exit text shape has is going laid head ends exits valid counts times in_time small =
    let body = next_body b kind count time (cuts_in b.last) in
    let bytes : (part : Part) → IsPart shapes.Log part → (committed_as b disk body).bytes part ≡ entry.bytes part ++ staged b part = λ part of.
    next_bytes b disk body part shape of ∙ ap (λ (xs : List ℕ). xs ++ staged b part) (sym (entry_bytes b disk entry shape has part of)) in
    let no_exit : entry.bytes Exit ≡ [] = none_bytes entry.body.kind (entry.bytes Exit) stored.exit is.exit going in
    record {
      head = bytes Head tt ∙ ap (λ (xs : List ℕ). entry.bytes Head ++ xs) head ∙ append-nil (entry.bytes Head) ∙ is.head;
      is_head = is.is_head;
      exit = subst (λ (xs : List ℕ). HasExit kind xs exit) (sym (bytes Exit tt ∙ ap (λ (xs : List ℕ). xs ++ staged b Exit) no_exit ∙ ends)) exits;
      valid = All-append IsValid stored.records more is.valid valid;
      layout = two_laid entry.bytes (committed_as b disk body).bytes (staged b) stored.records more bytes is.layout laid;
      count = counts;
      time = times;
      in_time = in_time;
      small =
          let e : length ((committed_as b disk body).bytes Timing) ≡ length (committed_bytes b disk Timing ++ staged b Timing) = ap length (next_bytes b disk body Timing shape tt) in
          let few = length-take (committed_length b Timing) (bytes_of (disk.reads (file_of b.owner Timing))) in
          omega (arith, e, few, small, length-append (committed_bytes b disk Timing) (staged b Timing));
      cuts = ap cuts_in (entry_body b disk entry has) ∙ is.cuts;
    }
  where
    none_bytes : (k : ℕ) (xs : List ℕ) (o : Option (List ℕ)) → HasExit k xs o → o ≡ None → xs ≡ []
    none_bytes k xs None has none = has.1
    none_bytes k xs (Some t) has none = absurd (some_none t none) where
      some_none : (y : List ℕ) → Some y ≡ None → ⊥
      some_none y e = cc

-- while the next entry is added, the log is there as before or as after
pub next_moment : (n : ℕ) (b : BundleView) (before after : Stored) (old new : DiskView) (entry next : Committed) → b.owner ≡ owner_of n → b.shape ≡ shapes.Log → committed b old ≡ Some entry → IsLog entry before → IsLog next after
    → Throughout (IsWritable b.owner b.shape) (IsBeforeOrAfter b.owner b.shape (committed b old) (Some next)) old new → Throughout (IsOfLog n) (IsEither n (Some before) (Some after)) old new
next_moment n b before after old new entry next owner shape has is then_is run =
    let there : Throughout (IsWritable (owner_of n) shapes.Log) (IsBeforeOrAfter (owner_of n) shapes.Log (Some entry) (Some next)) old new =
    subst (λ (c : Option Committed). Throughout (IsWritable (owner_of n) shapes.Log) (IsBeforeOrAfter (owner_of n) shapes.Log c (Some next)) old new) has
    (subst (λ (s : Shape). Throughout (IsWritable (owner_of n) s) (IsBeforeOrAfter (owner_of n) s (committed b old) (Some next)) old new) shape
    (subst (λ (o : Owner). Throughout (IsWritable o b.shape) (IsBeforeOrAfter o b.shape (committed b old) (Some next)) old new) owner run)) in
    widened (IsWritable (owner_of n) shapes.Log) (IsOfLog n) (IsBeforeOrAfter (owner_of n) shapes.Log (Some entry) (Some next)) (IsEither n (Some before) (Some after)) old new
    (writes_owner (owner_of n) shapes.Log)
    (λ image either beside. elim either [ inl one ↦ inl (holds_log n entry before image is one) | inr two ↦ inr (holds_log n next after image then_is two) ]) there

-- a state is no later than itself, nor than the one with more records
pub later_same : (log : Stored) → IsLater log log
later_same log = inr (refl, ([], sym (append-nil log.records)))

pub later_more : (before after : Stored) (more : List Record) → after.cuts ≡ before.cuts → after.records ≡ before.records ++ more → IsLater before after
later_more before after more cuts records = inr (cuts, (more, records))

-- so each is later
pub either_later : (n : ℕ) (before after : Stored) (old new : DiskView) → IsLater before after → Throughout (IsOfLog n) (IsEither n (Some before) (Some after)) old new → Throughout (IsOfLog n) (IsThereLater n before) old new
either_later n before after old new later run =
    widened (IsOfLog n) (IsOfLog n) (IsEither n (Some before) (Some after)) (IsThereLater n before) old new (λ f of. of)
    (λ image either beside. elim either [ inl one ↦ (before, one, later_same before) | inr two ↦ (after, two, later) ]) run

-- no moment passed
pub idle_moment : (log : IoLogView) (value : LogValue) (after : Stored) (disk : DiskView) → OnlyNow disk → Represents log value disk → Throughout (IsOfLog log.number) (IsEither log.number (Some value.stored) (Some after)) disk disk
idle_moment log value after disk now at = started (IsOfLog log.number) (IsEither log.number (Some value.stored) (Some after)) disk now (λ image is. inl (every_image log value disk at image is))

-- where something is staged the log isn't complete
pub going_staged : (value : LogValue) → (value.stored.exit ≢ None → value.staged ≡ []) → value.staged ≢ [] → value.stored.exit ≡ None
going_staged value ends some = of value.stored.exit refl where
  some_none : (t : List ℕ) → Some t ≡ None → ⊥
  some_none t e = cc

  of : (o : Option (List ℕ)) → value.stored.exit ≡ o → value.stored.exit ≡ None
  of None is = is
  of (Some t) is = absurd (some (ends (λ none. some_none t (sym is ∙ none))))

-- what an entry of this kind commits of a represented log
pub staged_log : (log : IoLogView) (value : LogValue) (disk : DiskView) (kind : ℕ) → kind ≢ 3 → value.stored.exit ≡ None → (at : Represents log value disk) → IsLog (committed_as log.bundle disk (next_entry log kind)) (flushed value)
staged_log log value disk kind other going at =
    subst (λ (o : Option (List ℕ)). IsLog (committed_as log.bundle disk (next_entry log kind)) (record { head = value.stored.head; records = all_of value; exit = o; cuts = value.stored.cuts })) (sym going)
    (next_log log.bundle disk at.entry value.stored value.staged kind log.count log.elapsed None [] at.shape at.committed at.is going at.staged.layout at.staged.head at.staged.exit (other, refl) at.valid at.count at.time at.in_time at.small)

-- after Ok the log is represented, with nothing staged
pub next_represents : (old new : IoLogView) (value : LogValue) (after : Stored) (kind : ℕ) (before disk : DiskView) → new.is_broken ≡ false → SameCounts old new → old.bundle.owner ≡ owner_of old.number → old.bundle.shape ≡ shapes.Log
    → next_length old.bundle Timing ≤ 2 ^ 40 → head_of value.stored.head ≡ Ok old.head → old.count ≡ length (all_of value) → old.elapsed ≡ elapsed (all_of value)
    → after.head ≡ value.stored.head → after.records ≡ all_of value → IsCommitted (next_entry old kind) (next_length old.bundle) old.bundle new.bundle
    → IsLog (committed_as old.bundle before (next_entry old kind)) after → committed new.bundle disk ≡ Some (committed_as old.bundle before (next_entry old kind)) → bundles.Represents new.bundle disk → Represents new (bare after) disk
next_represents old new value after kind before disk whole counts owner shape small head count time heads records value_is is has represents =
    let settled = settled_next old.number old.bundle new.bundle kind old.count old.elapsed (cuts_in old.bundle.last) owner shape value_is in
    let settled_new : IsSettled new.number (next_entry old kind) new.bundle = subst (λ (n : ℕ). IsSettled n (next_entry old kind) new.bundle) (sym counts.number) settled in
    let few : committed_length new.bundle Timing ≡ next_length old.bundle Timing = value_is.lengths_are Timing (subst (λ (s : Shape). IsPart s Timing) (sym shape) tt) in
    settled_represents new after (next_entry old kind) disk whole settled_new
    (record { represents = represents; entry = committed_as old.bundle before (next_entry old kind); committed = has; is = is })
    (settled_small new.number (next_entry old kind) new.bundle settled_new (omega (arith, few, small)))
    (ap head_of heads ∙ head ∙ ap Ok (sym counts.head))
    (counts.count ∙ count ∙ ap length (sym records))
    (counts.elapsed ∙ time ∙ ap elapsed (sym records))

-- without timing there is no record
no_lines : (rs : List Record) → length (timing_of rs) ≡ 0 → rs ≡ []
no_lines [] none = refl
no_lines (r ∷ rs) none = absurd (let no_ : ⊥ = omega (arith, none, some_line (shape_of r), length-append (line_of r) (timing_of rs)) in no_)

-- where no timing is staged no record is, and where some is some are
pub no_timing : (log : IoLogView) (value : LogValue) (disk : DiskView) → Represents log value disk → length (staged log.bundle Timing) ≡ 0 → value.staged ≡ []
no_timing log value disk at none = no_lines value.staged (ap length (sym (ap (λ (l : Laid). l.timing) at.staged.layout)) ∙ none)

pub some_timing : (log : IoLogView) (value : LogValue) (disk : DiskView) → Represents log value disk → length (staged log.bundle Timing) ≢ 0 → value.staged ≢ []
some_timing log value disk at some none = some (ap length (ap (λ (l : Laid). l.timing) at.staged.layout) ∙ ap (λ (rs : List Record). length (timing_of rs)) none)

-- a value of which nothing is staged is flushed
pub idle_value : (value : LogValue) → value.staged ≡ [] → value ≡ bare (flushed value)
idle_value value none =
    let records : value.stored.records ≡ all_of value = sym (append-nil value.stored.records) ∙ ap (λ (rs : List Record). value.stored.records ++ rs) (sym none) in
    λ i. record { stored = record { head = value.stored.head; records = records i; exit = value.stored.exit; cuts = value.stored.cuts }; staged = none i }

pub on_ok_four : {T E : Type 0} (r : Result T E) (A B C D Q : Type 0) → (A → B → C → D → Q) → OnOk r A → OnOk r B → OnOk r C → OnOk r D → OnOk r Q
on_ok_four (Ok x) A B C D Q f a b c d = f a b c d
on_ok_four (Err e) A B C D Q f a b c d = tt

-- a log of which records are staged is flushed
pub flush_represents : (old new : IoLogView) (value : LogValue) (before disk : DiskView) → SameCounts old new → value.staged ≢ [] → Represents old value before → new.is_broken ≡ false
    → IsCommitted (next_entry old 1) (next_length old.bundle) old.bundle new.bundle → committed new.bundle disk ≡ Some (committed_as old.bundle before (next_entry old 1)) → bundles.Represents new.bundle disk → Represents new (bare (flushed value)) disk
flush_represents old new value before disk counts some at whole value_is has represents =
    next_represents old new value (flushed value) 1 before disk whole counts at.owner at.shape at.small at.head at.count at.time refl refl value_is
    (staged_log old value before 1 (λ e. cc) (going_staged value at.ends some) at) has represents

pub flush_moment : (log : IoLogView) (value : LogValue) (old new : DiskView) → value.staged ≢ [] → Represents log value old
    → Throughout (IsWritable log.bundle.owner log.bundle.shape) (IsBeforeOrAfter log.bundle.owner log.bundle.shape (committed log.bundle old) (Some (committed_as log.bundle old (next_entry log 1)))) old new
    → Throughout (IsOfLog log.number) (IsEither log.number (Some value.stored) (Some (flushed value))) old new
flush_moment log value old new some at run =
    next_moment log.number log.bundle value.stored (flushed value) old new at.entry (committed_as log.bundle old (next_entry log 1)) at.owner at.shape at.committed at.is
    (staged_log log value old 1 (λ e. cc) (going_staged value at.ends some) at) run

pub on_ok_always : {T E : Type 0} (r : Result T E) (P : Type 0) → P → OnOk r P
on_ok_always (Ok x) P p = p
on_ok_always (Err e) P p = tt

-- the kind of the last entry
pub last_kind : (log : IoLogView) (body : Body) → log.bundle.last ≡ Some body → kind_of log ≡ Some body.kind
last_kind log body is = ap (option_map (λ (b : Body). b.kind)) is

none_staged : (xs : List ℕ) → length xs ≡ 0 → xs ≡ []
none_staged [] none = refl
none_staged (x ∷ xs) none = absurd (let no_ : ⊥ = omega (arith, none) in no_)

-- where no line is staged nothing happens
pub idle_kind : (log : IoLogView) → length (staged log.bundle Timing) ≡ 0 → IsFlushOf log log
idle_kind log none = record { some = λ some. absurd (some (none_staged (staged log.bundle Timing) none)); none = λ is. refl }

-- else there is an entry of kind 1
pub flush_kind : (old new : IoLogView) → length (staged old.bundle Timing) ≢ 0 → IsCommitted (next_entry old 1) (next_length old.bundle) old.bundle new.bundle → IsFlushOf old new
flush_kind old new some value = record { some = λ staged_some. last_kind new (next_entry old 1) value.last; none = λ none. absurd (some (ap length none)) }
