-- Records that are played one by one, and what is put of them by the end.
use Rattle.std.proofs.Common.{◌≡◌, ◌∙◌, ◌++◌, ◌⊎◌, inl, inr, ℕ, ◌≤◌, List, [], ◌∷◌, None, Result, Ok, Err, IsErrAnd, length, refl, sym, ap, subst, append-nil, append_assoc, arith}
use Rattle.std.proofs.Math.Path.{fun_ext}
use Rattle.lsv_disk.specs.declared.file.FileId.{FileId}
use Rattle.lsv_disk.specs.declared.file.Part.{Part}
use Rattle.lsv_disk.specs.declared.file.Part.TheVariants.{Head as HeadPart}
use Rattle.lsv_disk.specs.Throughout.{OnlyReads}
use Rattle.lsv_base.specs.Outside.{HasCause}
use Rattle.lsv_disk.specs.View.{Image, DiskView, HasOwnCause}
use Rattle.lsv_disk.proofs.Composition.{OnlyNow, reads_trans, unchanged_reads}
use Rattle.lsv_bundle.specs.declared.body.Body.{Body}
use Rattle.lsv_bundle.specs.Committed.{HasEntry}
use Rattle.lsv_info.specs.Reading.{head_of}
use Rattle.lsv_iolog.specs.declared.fault.ViewFault.{ViewFault}
use Rattle.lsv_iolog.specs.declared.fault.ViewFault.TheVariants as views
use Rattle.lsv_iolog.specs.Damage.{IsViewDamage}
use Rattle.lsv_iolog.specs.Faults.{IsNextFault}
use Rattle.lsv_iolog.specs.Reading.{AreThere, ViewState, IsBehind, IsFaultBehind, IsWhole, committed_laid, committed_text, IsSoundBehind}
use Rattle.lsv_iolog.specs.Recovered.{IsOfLog, Replays, owner_of}
use Rattle.lsv_iolog.proofs.Scans.{reads_nothing}
use Rattle.lsv_record.specs.declared.laid.Laid.{Laid}
use Rattle.lsv_record.specs.declared.records.Record.{Record}
use Rattle.lsv_record.specs.Layout.{Begins, IsLayout}
use Rattle.lsv_record.specs.Records.{elapsed}
use Rattle.lsv_play.specs.declared.options.Options.{Options}
use Rattle.lsv_play.specs.declared.screen.Item.{Item}
use Rattle.lsv_play.specs.Items.{IsPart}
use Rattle.lsv_play.specs.Schedule.{items_of, play}
use Rattle.lsv_play.proofs.Parts.{part_behind, part_whole, play_append}
use Rattle.lsv_play.specs.Faults.{of_log}
use Rattle.lsv_play.specs.Playing.{IsNotOpened, IsOpened, Plays, PlaysRecords, laid_at, text_at, AreGiven, IsSoundSoFar}
use Rattle.lsv_play.specs.declared.fault.PlayFault.{PlayFault}
use Rattle.lsv_play.specs.declared.fault.PlayFault.TheVariants as faults

-- a disk that was only read reads as before
pub same_image : (old new : DiskView) → OnlyReads old new → new.reads ≡ old.reads
same_image old new reads = fun_ext (λ f. unchanged_reads old new reads.unchanged f)

pub none_split : (front : List Record) (r : Record) (more : List Record) → [] ≡ front ++ r ∷ more → ⊥
none_split [] r more e = cc
none_split (x ∷ front) r more e = cc

-- a shorter part of records with one more is all of the others, or a shorter part of them
last_or : (rs front : List Record) (r x : Record) (more : List Record) → rs ++ r ∷ [] ≡ front ++ x ∷ more → (front ≡ rs) ⊎ ((rest : List Record) × (rs ≡ front ++ x ∷ rest))
last_or [] [] r x more e = inl refl
last_or [] (y ∷ front) r x more e = absurd (let a : [] ≡ front ++ x ∷ more = cc in none_split front x more a)
last_or (z ∷ rs) [] r x more e = inr (rs, let a : z ≡ x = cc in ap (λ (w : Record). w ∷ rs) a)
last_or (z ∷ rs) (y ∷ front) r x more e =
    let h : z ≡ y = cc in
    let rest : rs ++ r ∷ [] ≡ front ++ x ∷ more = cc in
    elim (last_or rs front r x more rest) [
      | inl p ↦ inl (ap (λ (w : Record). w ∷ front) (sym h) ∙ ap (λ (ws : List Record). z ∷ ws) p)
      | inr p ↦ inr (p.0, ap (λ (w : Record). w ∷ rs) h ∙ ap (λ (ws : List Record). y ∷ ws) p.1)
    ]

-- if after these nothing is at fault, one more may be given
pub sound_push : (l : Laid) (body : Body) (rs : List Record) (r : Record) → IsSoundSoFar l body rs → IsSoundBehind l body rs → IsSoundSoFar l body (rs ++ r ∷ [])
sound_push l body rs r so_far here front x more e = elim (last_or rs front r x more e) [ inl p ↦ subst (IsSoundBehind l body) (sym p) here | inr p ↦ so_far front x p.0 p.1 ]

-- the committed bytes are those of the image at the start
laid_same : (start log : ViewState) (old now : DiskView) → log.number ≡ start.number → log.body ≡ start.body → now.reads ≡ old.reads → committed_laid log.number log.body now ≡ laid_at start.number start.body old.reads
laid_same start log old now number body reads =
    ap (λ (image : Image). laid_at log.number log.body image) reads ∙ ap (λ (n : ℕ). laid_at n log.body old.reads) number ∙ ap (λ (b : Body). laid_at start.number b old.reads) body

-- the records of a view that goes over a log begin its bytes
pub begins_same : (start log : ViewState) (old now : DiskView) (rs : List Record) → log.number ≡ start.number → log.body ≡ start.body → OnlyReads old now → IsBehind log rs now → Begins (laid_at start.number start.body old.reads) rs
begins_same start log old now rs number body reads behind =
    subst (λ (l : Laid). Begins l rs) (laid_same start log old now number body (same_image old now reads)) behind.begins

-- an error is this one
pub err_as : {T : Type 0} (r : Result T PlayFault) (e : PlayFault) → IsErrAnd r (λ x. x ≡ e) → Err e ≡ r
err_as (Ok x) e is = absurd is
err_as (Err d) e is = ap (λ (x : PlayFault). Err x) (sym is)

-- ---- causes

-- a call that failed after calls that let no count fall
pub own_cause : (n m : ℕ) (Failed Cause : Type 0) (old now later : DiskView) → m ≡ n → ((f : FileId) → old.faults f ≤ now.faults f) → HasOwnCause (IsOfLog m) Cause now later → (Failed → Cause) → HasOwnCause (IsOfLog n) Failed old later
own_cause n m Failed Cause old now later same mono cause when = record {
  monotone = λ f. omega (arith, mono f, cause.monotone f);
  risen = λ is. let one = cause.risen (when is) in (one.0, subst (λ (k : ℕ). IsOfLog k one.0) same one.1, λ small. omega (arith, mono one.0, one.2 small));
}

-- calls of which none failed
pub own_none : (n : ℕ) (Failed : Type 0) (old later : DiskView) → ((f : FileId) → old.faults f ≤ later.faults f) → (Failed → ⊥) → HasOwnCause (IsOfLog n) Failed old later
own_none n Failed old later mono never = record { monotone = mono; risen = λ is. absurd (never is) }

pub screen_cause : (Failed Cause : Type 0) (old now later : ℕ) → old ≤ now → HasCause Cause now later → (Failed → Cause) → HasCause Failed old later
screen_cause Failed Cause old now later mono cause when = record {
  monotone = omega (arith, mono, cause.monotone);
  risen = λ is small. omega (arith, mono, cause.risen (when is) small);
}

pub screen_none : (Failed : Type 0) (old later : ℕ) → old ≤ later → (Failed → ⊥) → HasCause Failed old later
screen_none Failed old later mono never = record { monotone = mono; risen = λ is. absurd (never is) }

-- one error is not another
pub err_same : {T : Type 0} (r : Result T PlayFault) (e d : PlayFault) → IsErrAnd r (λ x. x ≡ e) → r ≡ Err d → e ≡ d
err_same (Ok x) e d is same = absurd is
err_same (Err y) e d is same = let at : y ≡ d = cc in sym is ∙ at

pub log_disk : (e : ViewFault) → of_log e ≡ faults.Disk → e ≡ views.Disk
log_disk views.Absent e = absurd (cc)
log_disk (views.Damaged part) e = absurd (cc)
log_disk views.Disk e = refl
log_disk views.NoMem e = absurd (cc)

pub log_screen : (e : ViewFault) → of_log e ≡ faults.Screen → ⊥
log_screen views.Absent e = cc
log_screen (views.Damaged part) e = cc
log_screen views.Disk e = cc
log_screen views.NoMem e = cc

pub no_disk : faults.Screen ≡ faults.Disk → ⊥
no_disk e = cc

pub memory_no_disk : faults.NoMem ≡ faults.Disk → ⊥
memory_no_disk e = cc

pub memory_no_screen : faults.NoMem ≡ faults.Screen → ⊥
memory_no_screen e = cc

pub ok_no_err : {T : Type 0} (r : Result T PlayFault) (x : T) (e : PlayFault) → r ≡ Ok x → r ≡ Err e → ⊥
ok_no_err r x e one two = cc

-- ---- a log

-- a log that is opened is one of its head
pub opened_log : (n : ℕ) (v : ViewState) (old new : DiskView) → v.number ≡ n → OnlyReads old new → HasEntry (owner_of n) v.body old.reads → head_of (committed_text n v.body new HeadPart) ≡ Ok v.head → IsBehind v [] new → IsOpened n v.body v.head old.reads
opened_log n v old new number reads entry head behind = record {
  entry = entry;
  there = subst (λ (image : Image). AreThere (owner_of n) v.body image) (same_image old new reads) (subst (λ (k : ℕ). AreThere (owner_of k) v.body new.reads) number behind.there);
  head_is = ap (λ (image : Image). head_of (text_at n v.body image HeadPart)) (sym (same_image old new reads)) ∙ head;
}

-- and one that isn't opened puts nothing
unopened : (T : Type 0) (n : ℕ) (image : Image) (e : ViewFault) → (e ≡ views.Absent → Replays image n None) → ((part : Part) → e ≡ views.Damaged part → IsViewDamage n part image) → IsNotOpened {T = T} n image (Err (of_log e))
unopened T n image views.Absent absent damaged = absent refl
unopened T n image (views.Damaged part) absent damaged = damaged part refl
unopened T n image views.Disk absent damaged = tt
unopened T n image views.NoMem absent damaged = tt

pub open_fails : {T : Type 0} (o : Options) (n : ℕ) (image : Image) (r : Result T PlayFault) (e : ViewFault) → IsErrAnd r (λ x. x ≡ of_log e) → (e ≡ views.Absent → Replays image n None)
    → ((part : Part) → e ≡ views.Damaged part → IsViewDamage n part image) → Plays o n image r []
open_fails {T} o n image r e err absent damaged = inl (subst (λ (x : Result T PlayFault). IsNotOpened n image x) (err_as r (of_log e) err) (unopened T n image e absent damaged), refl)

-- the records of one that is opened are played
pub opened_plays : {T : Type 0} (o : Options) (n : ℕ) (v : ViewState) (old mid : DiskView) (r : Result T PlayFault) (put : List Item) → v.number ≡ n → OnlyReads old mid → IsOpened n v.body v.head old.reads
    → PlaysRecords o (laid_at v.number v.body mid.reads) v.body r put → Plays o n old.reads r put
opened_plays o n v old mid r put number reads opened plays = inr (record {
  body = v.body;
  head = v.head;
  opened = opened;
  records = subst (λ (l : Laid). PlaysRecords o l v.body r put) (ap (λ (k : ℕ). laid_at k v.body mid.reads) number ∙ ap (λ (image : Image). laid_at n v.body image) (same_image old mid reads)) plays;
})
