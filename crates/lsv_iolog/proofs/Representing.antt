-- How a log stays represented: each crash image holds it, staging commits nothing, and other files don't matter.
use Rattle.std.proofs.Common.{◌≡◌, ℕ, ◌+◌, ◌<◌, ◌≤◌, ◌^◌, false, Ok, List, [], ◌∷◌, ◌++◌, length, Option, Some, None, refl, sym, ◌∙◌, ap, subst, arith, All, append_assoc, length-append, append-nil}
use Rattle.std.proofs.lemmas.List.Elements.{All-cons, All-append, All-nil}
use Rattle.lsv_disk.specs.declared.file.FileId.{FileId}
use Rattle.lsv_disk.specs.declared.file.Owner.{Owner}
use Rattle.lsv_disk.specs.declared.file.Part.{Part}
use Rattle.lsv_disk.specs.declared.file.Part.TheVariants.{Head, Exit, Timing}
use Rattle.lsv_record.specs.declared.laid.Laid.{Laid}
use Rattle.lsv_disk.specs.View.{Image, DiskView, IsCrashImage, Elsewhere}
use Rattle.lsv_bundle.specs.declared.shape.Shape.{Shape}
use Rattle.lsv_bundle.specs.declared.shape.Shape.TheVariants as shapes
use Rattle.lsv_bundle.specs.declared.body.Body.{Body}
use Rattle.lsv_bundle.specs.Shape.{IsPart}
use Rattle.lsv_bundle.specs.Value.{BundleView, staged, next_length, committed_length, NoneStaged}
use Rattle.lsv_info.specs.Reading.{head_of}
use Rattle.lsv_bundle.specs.Committed.{Committed, BundleHolds, committed}
use Rattle.lsv_bundle.proofs.Laws.{represents_holds, owner_represents, owner_committed, staging_represents, staging_committed}
use Rattle.lsv_record.specs.declared.records.Record.{Record}
use Rattle.lsv_record.specs.declared.records.Stream.{Stream}
use Rattle.lsv_record.specs.declared.records.Stream.TheVariants as stream
use Rattle.lsv_record.specs.Layout.{layout_of}
use Rattle.lsv_record.specs.Points.{Stored}
use Rattle.lsv_record.specs.Records.{IsValid, line_of, data_in, delay_of, elapsed, stream_of}
use Rattle.lsv_record.proofs.Layouts.{timing_of-push, stream_of-push, elapsed-push}
use Rattle.lsv_iolog.specs.Recovered.{owner_of, IsOfLog, part_of, laid_in, Replays}
use Rattle.lsv_iolog.specs.Value.{IoLogView, LogValue, with_record, bare}
use Rattle.lsv_iolog.specs.Inner.Invariant.{IsIoLog, IsSettled, HasCommitted}
use Rattle.lsv_iolog.specs.Represents.{HasStaged, Represents, Stages}
use Rattle.lsv_iolog.proofs.Replaying.{one_replay}

-- what holds of an owner and a shape holds of what they are
pub holds_as : (a b : Owner) (s t : Shape) (x y : Option Committed) (image : Image) → a ≡ b → s ≡ t → x ≡ y → BundleHolds a s x image → BundleHolds b t y image
holds_as a b s t x y image e f g holds =
    subst (λ (o : Owner). BundleHolds o t y image) e (subst (λ (z : Shape). BundleHolds a z y image) f (subst (λ (c : Option Committed). BundleHolds a s c image) g holds))

-- each crash image replays what is committed
pub every_image : (log : IoLogView) (value : LogValue) (disk : DiskView) → Represents log value disk → (image : Image) → IsCrashImage disk image → Replays image log.number (Some value.stored)
every_image log value disk at image is =
    let holds = holds_as log.bundle.owner (owner_of log.number) log.bundle.shape shapes.Log (committed log.bundle disk) (Some at.entry) image at.owner at.shape at.committed
    (represents_holds log.bundle disk at.bundle image (λ f own. is f)) in
    record { entry = at.entry; holds = holds; is = at.is }

-- the committed state that an open log stands for is one
pub one_stored : (log : IoLogView) (v w : LogValue) (disk : DiskView) (image : Image) → IsCrashImage disk image → Represents log v disk → Represents log w disk → v.stored ≡ w.stored
one_stored log v w disk image is a b = some_stored v.stored w.stored (one_replay image log.number (Some v.stored) (Some w.stored) (every_image log v disk a image is) (every_image log w disk b image is)) where
  some_stored : (x y : Stored) → Some x ≡ Some y → x ≡ y
  some_stored x y e = cc

-- a log stays represented where calls on the disk touched none of its files
pub log_stays : (log : IoLogView) (value : LogValue) (Touched : FileId → Type 0) (old new : DiskView) → Elsewhere Touched old new → ((f : FileId) → IsOfLog log.number f → Touched f → ⊥) → Represents log value old → Represents log value new
log_stays log value Touched old new elsewhere apart at =
    let other : (f : FileId) → f.owner ≡ log.bundle.owner → Touched f → ⊥ = λ f own touched. apart f (own ∙ at.owner) touched in
    record {
      whole = at.whole;
      owner = at.owner;
      shape = at.shape;
      sound = at.sound;
      bundle = owner_represents log.bundle Touched old new elsewhere other at.bundle;
      entry = at.entry;
      committed = owner_committed log.bundle Touched old new elsewhere other ∙ at.committed;
      is = at.is;
      staged = at.staged;
      valid = at.valid;
      small = at.small;
      ends = at.ends;
      head = at.head;
      count = at.count;
      time = at.time;
      in_time = at.in_time;
    }

-- data of a stream that is staged, by the record
laid_more : (old new : BundleView) (rs : List Record) (r : Record) → laid_in (staged old) ≡ layout_of rs
    → staged new Timing ≡ staged old Timing ++ line_of r
    → ((s : Stream) → staged new (part_of s) ≡ staged old (part_of s) ++ data_in s r)
    → laid_in (staged new) ≡ layout_of (rs ++ r ∷ [])
laid_more old new rs r laid timing streams = λ i. record {
  timing = (timing ∙ ap (λ (t : List ℕ). t ++ line_of r) (ap (λ (l : Laid). l.timing) laid) ∙ sym (timing_of-push rs r)) i;
  stdin = of stream.Stdin (ap (λ (l : Laid). l.stdin) laid) i;
  stdout = of stream.Stdout (ap (λ (l : Laid). l.stdout) laid) i;
  stderr = of stream.Stderr (ap (λ (l : Laid). l.stderr) laid) i;
  ttyin = of stream.Ttyin (ap (λ (l : Laid). l.ttyin) laid) i;
  ttyout = of stream.Ttyout (ap (λ (l : Laid). l.ttyout) laid) i;
} where
  of : (s : Stream) → staged old (part_of s) ≡ stream_of s rs → staged new (part_of s) ≡ stream_of s (rs ++ r ∷ [])
  of s e = streams s ∙ ap (λ (t : List ℕ). t ++ data_in s r) e ∙ sym (stream_of-push s rs r)

all_push : (rs : List Record) (r : Record) → All IsValid rs → IsValid r → All IsValid (rs ++ r ∷ [])
all_push rs r all valid = All-append IsValid rs (r ∷ []) all (All-cons IsValid r [] valid (All-nil IsValid))

-- a record that is staged is represented, and nothing else of it is otherwise
pub stages_represents : (old new : IoLogView) (value : LogValue) (r : Record) (disk : DiskView) → Stages old r new → IsValid r → value.stored.exit ≡ None → Represents old value disk → Represents new (with_record value r) disk
stages_represents old new value r disk stages valid going at = record {
  whole = stages.is_broken ∙ at.whole;
  owner = ap (λ (b : BundleView). b.owner) stages.committed ∙ at.owner ∙ ap owner_of (sym stages.number);
  shape = ap (λ (b : BundleView). b.shape) stages.committed ∙ at.shape;
  sound = ap (λ (b : BundleView). b.is_broken) stages.committed ∙ at.sound;
  bundle = staging_represents old.bundle new.bundle disk stages.committed at.bundle;
  entry = at.entry;
  committed = staging_committed old.bundle new.bundle disk stages.committed ∙ at.committed;
  is = at.is;
  staged = record {
    layout = laid_more old.bundle new.bundle value.staged r at.staged.layout stages.timing stages.streams;
    head = stages.head_bytes ∙ at.staged.head;
    exit = stages.exit_bytes ∙ at.staged.exit;
  };
  valid = all_push value.staged r at.valid valid;
  small = stages.small;
  ends = λ some. absurd (some going);
  head = at.head ∙ ap Ok (sym stages.head);
  count = stages.count ∙ ap (λ (n : ℕ). n + 1) at.count ∙ sym (length_also value.stored.records value.staged r);
  time = stages.elapsed ∙ ap (λ (n : ℕ). n + delay_of r) at.time ∙ sym (elapsed_also value.stored.records value.staged r);
  in_time = subst (λ (n : ℕ). n < 2 ^ 63) (stages.elapsed ∙ ap (λ (n : ℕ). n + delay_of r) at.time ∙ sym (elapsed_also value.stored.records value.staged r)) stages.in_time;
} where
  length_also : (xs ys : List Record) (r : Record) → length (xs ++ (ys ++ r ∷ [])) ≡ length (xs ++ ys) + 1
  length_also xs ys r = omega (arith, length-append {A = Record})

  elapsed_also : (xs ys : List Record) (r : Record) → elapsed (xs ++ (ys ++ r ∷ [])) ≡ elapsed (xs ++ ys) + delay_of r
  elapsed_also xs ys r = ap elapsed (sym (append_assoc xs ys (r ∷ []))) ∙ elapsed-push (xs ++ ys) r

-- nothing is staged of a log's files
none_staged : (b : BundleView) → b.shape ≡ shapes.Log → NoneStaged b → (part : Part) → IsPart shapes.Log part → staged b part ≡ []
none_staged b shape none part is = none part (subst (λ (s : Shape). IsPart s part) (sym shape) is)

pub nothing_staged : (b : BundleView) → b.shape ≡ shapes.Log → NoneStaged b → HasStaged b []
nothing_staged b shape none = record {
  layout = λ i. record {
    timing = none_staged b shape none Timing tt i;
    stdin = none_staged b shape none (part_of stream.Stdin) tt i;
    stdout = none_staged b shape none (part_of stream.Stdout) tt i;
    stderr = none_staged b shape none (part_of stream.Stderr) tt i;
    ttyin = none_staged b shape none (part_of stream.Ttyin) tt i;
    ttyout = none_staged b shape none (part_of stream.Ttyout) tt i;
  };
  head = none_staged b shape none Head tt;
  exit = none_staged b shape none Exit tt;
}

-- a log of which nothing is staged is represented where its files have it committed
pub settled_represents : (log : IoLogView) (stored : Stored) (body : Body) (disk : DiskView) → log.is_broken ≡ false → IsSettled log.number body log.bundle → HasCommitted log.bundle stored disk
    → next_length log.bundle Timing ≤ 2 ^ 40 → head_of stored.head ≡ Ok log.head → log.count ≡ length stored.records → log.elapsed ≡ elapsed stored.records → Represents log (bare stored) disk
settled_represents log stored body disk whole settled has small head count time = record {
  whole = whole;
  owner = settled.files.owner;
  shape = settled.files.shape;
  sound = settled.whole;
  bundle = has.represents;
  entry = has.entry;
  committed = has.committed;
  is = has.is;
  staged = nothing_staged log.bundle settled.files.shape settled.none_staged;
  valid = All-nil IsValid;
  small = small;
  ends = λ some. refl;
  head = head;
  count = count ∙ ap length (sym (append-nil stored.records));
  time = time ∙ ap elapsed (sym (append-nil stored.records));
  in_time = subst (λ (rs : List Record). elapsed rs < 2 ^ 63) (sym (append-nil stored.records)) has.is.in_time;
}

-- nothing is staged, and no more timing is committed than there may be
pub settled_small : (n : ℕ) (body : Body) (b : BundleView) → IsSettled n body b → committed_length b Timing ≤ 2 ^ 40 → next_length b Timing ≤ 2 ^ 40
settled_small n body b settled few =
    subst (λ (xs : List ℕ). committed_length b Timing + length xs ≤ 2 ^ 40) (sym (none_staged b settled.files.shape settled.none_staged Timing tt)) (omega (arith, few))

pub settled_timing : (n : ℕ) (body : Body) (b : BundleView) → IsSettled n body b → staged b Timing ≡ []
settled_timing n body b settled = none_staged b settled.files.shape settled.none_staged Timing tt

-- what is true of every open log is true where its files are settled
pub settled_invariant : (log : IoLogView) (body : Body) → IsSettled log.number body log.bundle → log.elapsed < 2 ^ 63 → log.count ≤ committed_length log.bundle Timing → committed_length log.bundle Timing ≤ 2 ^ 40
    → IsIoLog log × (length (staged log.bundle Timing) ≡ 0)
settled_invariant log body settled time lines few = (
  record {
    files = settled.files;
    whole = λ whole. settled.whole;
    time = time;
    lines = omega (arith, lines);
    small = settled_small log.number body log.bundle settled few;
  },
  ap length (settled_timing log.number body log.bundle settled),
)
