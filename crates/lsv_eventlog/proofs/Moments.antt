-- What crash images hold of an event log while it is flushed.
use Rattle.std.proofs.Common.{◌≡◌, ◌≢◌, ◌⊎◌, inl, inr, ℕ, List, [], ◌∷◌, ◌++◌, Option, Some, None, true, false, refl, sym, ◌∙◌, ap, subst, arith}
use Rattle.std.proofs.lemmas.Bool.{cases_Bool, false≢true}
use Rattle.lsv_disk.specs.declared.file.FileId.{FileId}
use Rattle.lsv_disk.specs.declared.file.Owner.{Owner}
use Rattle.lsv_disk.specs.declared.file.Owner.TheVariants.{Events}
use Rattle.lsv_disk.specs.declared.file.Part.{Part}
use Rattle.lsv_disk.specs.declared.file.Part.TheVariants.{Lines}
use Rattle.lsv_disk.specs.View.{Image, DiskView}
use Rattle.lsv_disk.specs.Throughout.{Throughout}
use Rattle.lsv_disk.proofs.Composition.{OnlyNow, started, widened}
use Rattle.lsv_journal.specs.Last.{IsOwn}
use Rattle.lsv_journal.proofs.Laws.{own_itself}
use Rattle.lsv_bundle.specs.declared.body.Body.{Body}
use Rattle.lsv_bundle.specs.declared.shape.Shape.{Shape}
use Rattle.lsv_bundle.specs.declared.shape.Shape.TheVariants as shapes
use Rattle.lsv_bundle.specs.Shape.{on_shape, journal_of, IsPart, IsWritable, IsOwnFile}
use Rattle.lsv_bundle.specs.Value.{BundleView, IsCommitted, staged}
use Rattle.lsv_bundle.specs.Committed.{Committed, HoldsEntry, IsBeforeOrAfter, committed, committed_bytes, committed_next}
use Rattle.lsv_eventlog.specs.Inner.{IsEventLog}
use Rattle.lsv_eventlog.specs.Moments.{IsEither}
use Rattle.lsv_eventlog.specs.Recovered.{HoldsLines, IsOfEventLog}
use Rattle.lsv_eventlog.specs.Value.{EventLogView, Represents, added_text, committed_text}
use Rattle.lsv_eventlog.proofs.Laws.{bundle_text, committed_is, every_image, on_lines}

-- what a bundle writes is its own
pub writable_own : (owner : Owner) (s : Shape) (file : FileId) → IsWritable owner s file → IsOwnFile owner s file
writable_own owner s file (inl data_file) = inl data_file
writable_own owner s file (inr journal) = inr (subst (λ (f : FileId). IsOwn (journal_of owner) f) (sym journal) (own_itself (journal_of owner)))

-- the lines that the next entry commits
pub next_text : (bundle : BundleView) (disk : DiskView) (kind count elapsed extra : ℕ) → bundle.shape ≡ shapes.Lines
    → (committed_next bundle disk kind count elapsed extra).bytes Lines ≡ committed_bytes bundle disk Lines ++ staged bundle Lines
next_text bundle disk kind count elapsed extra shape =
    ap (λ (s : Shape). on_shape s (λ part. committed_bytes bundle disk part ++ staged bundle part) Lines) shape ∙ on_lines (λ part. committed_bytes bundle disk part ++ staged bundle part)

-- an image that holds the next entry holds these lines
pub after_text : (log : EventLogView) (disk : DiskView) (image : Image) (kind count elapsed extra : ℕ) → IsEventLog log
    → HoldsEntry log.bundle.owner log.bundle.shape (committed_next log.bundle disk kind count elapsed extra) image → HoldsLines image log.lane (committed_text log disk ++ added_text log)
after_text log disk image kind count elapsed extra is holds = inr (
  committed_next log.bundle disk kind count elapsed extra,
  subst (λ (o : Owner). HoldsEntry o shapes.Lines (committed_next log.bundle disk kind count elapsed extra) image) is.owner
      (subst (λ (s : Shape). HoldsEntry log.bundle.owner s (committed_next log.bundle disk kind count elapsed extra) image) is.shape holds),
  next_text log.bundle disk kind count elapsed extra is.shape,
)

-- at each moment of a flush each image holds the lines before, or with those that were added
abbrev pub Flushes : EventLogView → DiskView → DiskView → Type 0
Flushes log old new = Throughout (IsOfEventLog log.lane) (IsEither log.lane (committed_text log old) (committed_text log old ++ added_text log)) old new

pub flushes : (log : EventLogView) (old new : DiskView) (kind count elapsed extra : ℕ) → IsEventLog log
    → Throughout (IsWritable log.bundle.owner log.bundle.shape) (IsBeforeOrAfter log.bundle.owner log.bundle.shape (committed log.bundle old) (Some (committed_next log.bundle old kind count elapsed extra))) old new
    → Flushes log old new
flushes log old new kind count elapsed extra is run =
    widened (IsWritable log.bundle.owner log.bundle.shape) (IsOfEventLog log.lane) _ _ old new own each run
  where
    own : (file : FileId) → IsWritable log.bundle.owner log.bundle.shape file → IsOfEventLog log.lane file
    own file w = subst (λ (s : Shape). IsOwnFile (Events log.lane) s file) is.shape (subst (λ (o : Owner). IsOwnFile o log.bundle.shape file) is.owner (writable_own log.bundle.owner log.bundle.shape file w))

    each : (image : Image) → IsBeforeOrAfter log.bundle.owner log.bundle.shape (committed log.bundle old) (Some (committed_next log.bundle old kind count elapsed extra)) image
        → ((file : FileId) → (IsWritable log.bundle.owner log.bundle.shape file → ⊥) → old.crash_states file (image file)) → IsEither log.lane (committed_text log old) (committed_text log old ++ added_text log) image
    each image (inl before) beside = inl (bundle_text log.lane log.bundle old image is.owner is.shape is.entry before)
    each image (inr after) beside = inr (after_text log old image kind count elapsed extra is after)

-- nothing was done
pub rests : (log : EventLogView) (disk : DiskView) → IsEventLog log → Represents log disk → OnlyNow disk → Flushes log disk disk
rests log disk is at now = started (IsOfEventLog log.lane) _ disk now (λ image left. inl (every_image log disk is at image left))

unit : (t : List ℕ) → t ++ [] ≡ t
unit [] = refl
unit (x ∷ t) = ap (λ (u : List ℕ). x ∷ u) (unit t)

pub with_none : (log : EventLogView) (disk : DiskView) (image : Image) → added_text log ≡ [] → HoldsLines image log.lane (committed_text log disk) → HoldsLines image log.lane (committed_text log disk ++ added_text log)
with_none log disk image none holds = subst (HoldsLines image log.lane) (sym (ap (λ (t : List ℕ). committed_text log disk ++ t) none ∙ unit (committed_text log disk))) holds

-- where no lines were added, the log isn't broken
pub unbroken : (log : EventLogView) → IsEventLog log → log.added ≡ 0 → log.bundle.is_broken ≡ false
unbroken log is none = elim (cases_Bool log.bundle.is_broken) [ inl broken ↦ absurd (let few : ⊥ = omega (arith, is.broken broken) in few) | inr whole ↦ whole ]

same_committed : (a b : Committed) → Some a ≡ Some b → a ≡ b
same_committed a b e = cc

-- what is committed once an entry is
pub committed_of : (bundle : BundleView) (disk : DiskView) (c : Committed) → bundle.last ≢ None → bundle.shape ≡ shapes.Lines → committed bundle disk ≡ Some c → committed_bytes bundle disk Lines ≡ c.bytes Lines
committed_of bundle disk c some shape e =
    let found = committed_is bundle disk some in
    sym (on_lines (committed_bytes bundle disk)) ∙ ap (λ (s : Shape). on_shape s (committed_bytes bundle disk) Lines) (sym shape)
    ∙ ap (λ (b : Part → List ℕ). b Lines) (sym found.2) ∙ ap (λ (d : Committed). d.bytes Lines) (same_committed found.0 c (sym found.1 ∙ e))

pub some_body : (last : Option Body) (body : Body) → last ≡ Some body → last ≢ None
some_body last body is none = absurd (let never : ⊥ = cc in never)

-- then none is added any more
pub none_left : (old : EventLogView) (bundle : BundleView) (body : Body) (lengths : Part → ℕ) → IsEventLog old → IsCommitted body lengths old.bundle bundle → staged bundle Lines ≡ []
none_left old bundle body lengths is new = new.none_staged Lines (subst (λ (s : Shape). IsPart s Lines) (sym (new.shape ∙ is.shape)) refl)

-- once the added lines are committed, it is an event log with none added
pub flushed : (old : EventLogView) (bundle : BundleView) (body : Body) (lengths : Part → ℕ) → IsEventLog old → IsCommitted body lengths old.bundle bundle → IsEventLog (record { lane = old.lane; added = 0; bundle = bundle })
flushed old bundle body lengths is new = record {
  owner = new.owner ∙ is.owner;
  shape = new.shape ∙ is.shape;
  entry = some_body bundle.last body new.last;
  broken = λ e. absurd (false≢true (sym new.whole ∙ e));
  none = λ _. none_left old bundle body lengths is new;
}

-- and these are committed
pub now_committed : (old : EventLogView) (bundle : BundleView) (before disk : DiskView) (kind count elapsed extra : ℕ) (body : Body) (lengths : Part → ℕ) → IsEventLog old → IsCommitted body lengths old.bundle bundle
    → committed bundle disk ≡ Some (committed_next old.bundle before kind count elapsed extra) → committed_bytes bundle disk Lines ≡ committed_text old before ++ added_text old
now_committed old bundle before disk kind count elapsed extra body lengths is new e =
    committed_of bundle disk (committed_next old.bundle before kind count elapsed extra) (some_body bundle.last body new.last) (new.shape ∙ is.shape) e ∙ next_text old.bundle before kind count elapsed extra is.shape
