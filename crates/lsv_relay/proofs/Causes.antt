-- Why a call of a relay failed.
use Rattle.std.proofs.Common.{◌≡◌, ◌⊎◌, inl, inr, ◌≤◌, ℕ, List, Result, Ok, Err, IfErr, IsErrAnd, IsErrOf, refl, sym, ◌∙◌, ap, subst, None}
use Rattle.std.specs.Prelude.{Bool, true, false}
use Rattle.lsv_bundle.specs.Calls as bundles
use Rattle.lsv_bundle.specs.declared.body.Body.{Body}
use Rattle.lsv_bundle.specs.declared.fault.BundleFault.{BundleFault}
use Rattle.lsv_bundle.specs.declared.fault.BundleFault.TheVariants as kept
use Rattle.lsv_disk.specs.Throughout.{OnlyReads}
use Rattle.lsv_disk.specs.View.{DiskView, HasOwnCause, Image}
use Rattle.lsv_disk.specs.declared.file.FileId.{FileId}
use Rattle.lsv_disk.specs.declared.file.Part.{Part}
use Rattle.lsv_disk.specs.declared.file.Part.TheVariants.{Exit as ExitPart}
use Rattle.lsv_info.specs.Reading.{exit_of}
use Rattle.lsv_info.specs.declared.times.Exit.{Exit}
use Rattle.lsv_iolog.specs.Damage.{IsViewDamage}
use Rattle.lsv_iolog.specs.Faults as logs
use Rattle.lsv_iolog.specs.Reading.{IsFaultBehind, IsWhole, ViewState, committed_laid, committed_text}
use Rattle.lsv_iolog.specs.Recovered.{Replays}
use Rattle.lsv_iolog.specs.declared.fault.ViewFault.{ViewFault}
use Rattle.lsv_iolog.specs.declared.fault.ViewFault.TheVariants as reads
use Rattle.lsv_kept.specs.Faults.{IsCommitFault}
use Rattle.lsv_kept.specs.Kept.{IsOfRelay, IsStateDamage}
use Rattle.lsv_record.specs.Layout.{IsLayout}
use Rattle.lsv_record.specs.declared.laid.Laid.{Laid}
use Rattle.lsv_record.specs.declared.records.Record.{Record}
use Rattle.lsv_transcript.specs.Reading.{HasFaultAfter}
use Rattle.lsv_relay.specs.Complete.{IsComplete, IsIncomplete, IsLogDamage, IsRelayed, IsUnreadable}
use Rattle.lsv_relay.specs.Faults.{IsCauseAt, IsKeepFault, IsLogCause, IsLogFault, IsOpenCause, IsOpenFault, IsReadCause, IsStateFault, IsStepFault, IsUndoneCause, LeavesWhole, of_log, of_state}
use Rattle.lsv_relay.specs.Talks.{HasLog}
use Rattle.lsv_relay.specs.Value.{IsStarted, IsUnbegun, RelayView, is_broken}
use Rattle.lsv_relay.specs.declared.fault.RelayFault.{RelayFault}
use Rattle.lsv_relay.specs.declared.fault.RelayFault.TheVariants as faults
use Rattle.lsv_relay.specs.Inner.{IsSending}
use Rattle.lsv_relay.specs.declared.relay.Place.{Place}
use Rattle.lsv_relay.specs.declared.relay.Place.TheVariants as places
use Rattle.lsv_relay.proofs.Logs.{SameLog, entry_stays, laid_stays, text_stays, whole_stays}
use Rattle.lsv_relay.proofs.Opening.{as_read, err_same}
use Rattle.lsv_relay.proofs.Reading.{same_log}

-- ---- a lower fault

pub log_same : (e f : ViewFault) → of_log e ≡ faults.Log f → e ≡ f
log_same reads.Absent f is = cc (is)
log_same (reads.Damaged part) f is = cc (is)
log_same reads.Disk f is = cc (is)
log_same reads.NoMem f is = absurd (cc (is))

pub not_incomplete : (e : ViewFault) → of_log e ≡ faults.Incomplete → ⊥
not_incomplete reads.Absent is = cc (is)
not_incomplete (reads.Damaged part) is = cc (is)
not_incomplete reads.Disk is = cc (is)
not_incomplete reads.NoMem is = cc (is)

pub state_same : (e f : BundleFault) → of_state e ≡ faults.State f → e ≡ f
state_same kept.Disk f is = cc (is)
state_same kept.Broken f is = cc (is)
state_same (kept.Damaged part) f is = cc (is)
state_same (kept.Full part) f is = cc (is)
state_same kept.NoMem f is = absurd (cc (is))

pub state_no_log : (e : BundleFault) → IsLogFault (of_state e) → e ≡ kept.NoMem
state_no_log kept.Disk is = absurd is
state_no_log kept.Broken is = absurd is
state_no_log (kept.Damaged part) is = absurd is
state_no_log (kept.Full part) is = absurd is
state_no_log kept.NoMem is = refl

-- a fault that was handed on is that of the lower call
pub log_err : {T U : Type 0} (low : Result T ViewFault) (high : Result U RelayFault) (e f : ViewFault) → low ≡ Err e → IsErrAnd high (λ x. x ≡ of_log e) → IsErrOf high (faults.Log f) → IsErrOf low f
log_err {T} {U} low high e f was is at = was ∙ ap (λ (x : ViewFault). let r : Result T ViewFault = Err x in r) (log_same e f (err_same high (of_log e) (faults.Log f) is at))

pub state_err : {T U : Type 0} (low : Result T BundleFault) (high : Result U RelayFault) (e f : BundleFault) → low ≡ Err e → IsErrAnd high (λ x. x ≡ of_state e) → IsErrOf high (faults.State f) → IsErrOf low f
state_err {T} {U} low high e f was is at = was ∙ ap (λ (x : BundleFault). let r : Result T BundleFault = Err x in r) (state_same e f (err_same high (of_state e) (faults.State f) is at))

pub log_own : {T U : Type 0} (Own : FileId → Type 0) (low : Result T ViewFault) (high : Result U RelayFault) (e : ViewFault) (old new : DiskView) → low ≡ Err e → IsErrAnd high (λ x. x ≡ of_log e) → HasOwnCause Own (IsErrOf low reads.Disk) old new → HasOwnCause Own (IsErrOf high (faults.Log reads.Disk)) old new
log_own Own low high e old new was is cause = record { monotone = cause.monotone; risen = λ at. cause.risen (log_err low high e reads.Disk was is at) }

pub state_own : {T U : Type 0} (Own : FileId → Type 0) (low : Result T BundleFault) (high : Result U RelayFault) (e : BundleFault) (old new : DiskView) → low ≡ Err e → IsErrAnd high (λ x. x ≡ of_state e) → HasOwnCause Own (IsErrOf low kept.Disk) old new → HasOwnCause Own (IsErrOf high (faults.State kept.Disk)) old new
state_own Own low high e old new was is cause = record { monotone = cause.monotone; risen = λ at. cause.risen (state_err low high e kept.Disk was is at) }

-- ---- its word

pub next_fault : (e : ViewFault) → logs.IsNextFault e → IsLogFault (of_log e)
next_fault reads.Absent is = absurd is
next_fault (reads.Damaged part) is = tt
next_fault reads.Disk is = tt
next_fault reads.NoMem is = tt

pub view_fault : (e : ViewFault) → IsLogFault (of_log e)
view_fault reads.Absent = tt
view_fault (reads.Damaged part) = tt
view_fault reads.Disk = tt
view_fault reads.NoMem = tt

pub exit_fault : (e : ViewFault) → (e ≡ reads.Disk) ⊎ (e ≡ reads.Damaged ExitPart) ⊎ (e ≡ reads.NoMem) → IsLogFault (of_log e)
exit_fault e (inl is) = subst (λ (x : ViewFault). IsLogFault (of_log x)) (sym is) tt
exit_fault e (inr (inl is)) = subst (λ (x : ViewFault). IsLogFault (of_log x)) (sym is) tt
exit_fault e (inr (inr is)) = subst (λ (x : ViewFault). IsLogFault (of_log x)) (sym is) tt

pub kept_fault : (e : BundleFault) → IsCommitFault e → (e ≡ kept.Broken → ⊥) → IsStateFault (of_state e)
kept_fault kept.Disk is whole = tt
kept_fault kept.Broken is whole = absurd (whole refl)
kept_fault (kept.Damaged part) is whole = absurd is
kept_fault (kept.Full part) is whole = absurd is
kept_fault kept.NoMem is whole = tt

pub log_open_fault : (e : RelayFault) → IsLogFault e → IsOpenFault e
log_open_fault faults.Incomplete is = tt
log_open_fault (faults.Log fault) is = is
log_open_fault (faults.State fault) is = absurd is
log_open_fault faults.NoMem is = tt

pub state_open_fault : (e : BundleFault) → bundles.IsOpenFault e → IsOpenFault (of_state e)
state_open_fault kept.Disk is = tt
state_open_fault kept.Broken is = absurd is
state_open_fault (kept.Damaged part) is = tt
state_open_fault (kept.Full part) is = absurd is
state_open_fault kept.NoMem is = tt

-- ---- why an opening fails

pub log_open_cause : (n : ℕ) (image : Image) (e : RelayFault) → IsLogFault e → (e ≡ faults.Incomplete → IsIncomplete n image) → (e ≡ faults.Log reads.Absent → Replays image n None)
    → ((part : Part) → e ≡ faults.Log (reads.Damaged part) → IsUnreadable n part image) → IsOpenCause n image e
log_open_cause n image faults.Incomplete word incomplete absent damaged = incomplete refl
log_open_cause n image (faults.Log reads.Absent) word incomplete absent damaged = absent refl
log_open_cause n image (faults.Log (reads.Damaged part)) word incomplete absent damaged = damaged part refl
log_open_cause n image (faults.Log reads.Disk) word incomplete absent damaged = tt
log_open_cause n image (faults.Log reads.NoMem) word incomplete absent damaged = absurd word
log_open_cause n image (faults.State fault) word incomplete absent damaged = absurd word
log_open_cause n image faults.NoMem word incomplete absent damaged = tt

pub state_open_cause : (n : ℕ) (image : Image) (e : BundleFault) → bundles.IsOpenFault e → IsComplete n image → ((part : Part) → e ≡ kept.Damaged part → IsStateDamage n part image) → IsOpenCause n image (of_state e)
state_open_cause n image kept.Disk word complete damaged = complete
state_open_cause n image kept.Broken word complete damaged = absurd word
state_open_cause n image (kept.Damaged part) word complete damaged = (complete, damaged part refl)
state_open_cause n image (kept.Full part) word complete damaged = absurd word
state_open_cause n image kept.NoMem word complete damaged = tt

-- of a log that isn't marked
pub log_undone_cause : (n : ℕ) (image : Image) (e : RelayFault) → IsLogFault e → (e ≡ faults.Incomplete → IsIncomplete n image) → (e ≡ faults.Log reads.Absent → Replays image n None)
    → ((part : Part) → e ≡ faults.Log (reads.Damaged part) → IsViewDamage n part image) → IsUndoneCause n image e
log_undone_cause n image faults.Incomplete word incomplete absent damaged = incomplete refl
log_undone_cause n image (faults.Log reads.Absent) word incomplete absent damaged = absent refl
log_undone_cause n image (faults.Log (reads.Damaged part)) word incomplete absent damaged = damaged part refl
log_undone_cause n image (faults.Log reads.Disk) word incomplete absent damaged = tt
log_undone_cause n image (faults.Log reads.NoMem) word incomplete absent damaged = absurd word
log_undone_cause n image (faults.State fault) word incomplete absent damaged = absurd word
log_undone_cause n image faults.NoMem word incomplete absent damaged = tt

pub state_undone_cause : (n : ℕ) (image : Image) (e : BundleFault) → bundles.IsOpenFault e → IsComplete n image → ((part : Part) → e ≡ kept.Damaged part → IsStateDamage n part image) → IsUndoneCause n image (of_state e)
state_undone_cause n image kept.Disk word complete damaged = complete
state_undone_cause n image kept.Broken word complete damaged = absurd word
state_undone_cause n image (kept.Damaged part) word complete damaged = (complete, damaged part refl)
state_undone_cause n image (kept.Full part) word complete damaged = absurd word
state_undone_cause n image kept.NoMem word complete damaged = tt

pub undone_open_cause : (n : ℕ) (image : Image) (e : RelayFault) → IsComplete n image → (IsRelayed n image → ⊥) → IsUndoneCause n image e → IsOpenCause n image e
undone_open_cause n image faults.Incomplete complete unmarked is = is
undone_open_cause n image (faults.Log reads.Absent) complete unmarked is = is
undone_open_cause n image (faults.Log (reads.Damaged part)) complete unmarked is = record { complete = complete; unmarked = unmarked; damage = is }
undone_open_cause n image (faults.Log reads.Disk) complete unmarked is = is
undone_open_cause n image (faults.Log reads.NoMem) complete unmarked is = is
undone_open_cause n image (faults.State kept.Disk) complete unmarked is = is
undone_open_cause n image (faults.State kept.Broken) complete unmarked is = is
undone_open_cause n image (faults.State (kept.Damaged part)) complete unmarked is = is
undone_open_cause n image (faults.State (kept.Full part)) complete unmarked is = is
undone_open_cause n image (faults.State kept.NoMem) complete unmarked is = is
undone_open_cause n image faults.NoMem complete unmarked is = is

-- ---- why reading fails

-- the log's files read the same
pub damage_back : (n : ℕ) (part : Part) (old new : DiskView) → SameLog n old new → IsLogDamage n part new → IsLogDamage n part old
damage_back n part old new same is = record {
  body = is.body;
  entry = entry_stays n new old (λ file own. sym (same file own)) is.body is.entry;
  complete = is.complete;
  fault = elim is.fault [
    | inl behind ↦ inl (subst (λ (l : Laid). HasFaultAfter l is.body part) (laid_stays n old new same is.body) behind)
    | inr none ↦ inr (none.0, λ exit at. none.1 exit (ap exit_of (text_stays n old new same is.body ExitPart) ∙ at))
  ];
}

whole_back : (n : ℕ) (old new : DiskView) → SameLog n old new → (view : ViewState) (records : List Record) → view.number ≡ n → IsWhole view records new → IsWhole view records old
whole_back n old new same view records number whole = whole_stays n new old (λ file own. sym (same file own)) view records number whole

pub read_cause_back : (n : ℕ) (view : ViewState) (records : List Record) (old new : DiskView) → view.number ≡ n → SameLog n old new → (e : RelayFault) → IsReadCause n view records new e → IsReadCause n view records old e
read_cause_back n view records old new number same faults.Incomplete is = is
read_cause_back n view records old new number same (faults.Log reads.Absent) is = is
read_cause_back n view records old new number same (faults.Log (reads.Damaged part)) (inl is) = inl (subst (λ (l : Laid). IsFaultBehind l view.body records part) (laid_stays n old new same view.body) is)
read_cause_back n view records old new number same (faults.Log (reads.Damaged part)) (inr is) =
    inr (is.0, whole_back n old new same view records number is.1, λ exit at. is.2 exit (ap exit_of (text_stays n old new same view.body ExitPart) ∙ at))
read_cause_back n view records old new number same (faults.Log reads.Disk) is = is
read_cause_back n view records old new number same (faults.Log reads.NoMem) is = is
read_cause_back n view records old new number same (faults.State fault) is = is
read_cause_back n view records old new number same faults.NoMem is = is

-- of another value of the view, at the same log
pub whole_of : (view next : ViewState) (records : List Record) (disk : DiskView) → next.number ≡ view.number → next.body ≡ view.body → IsWhole next records disk → IsWhole view records disk
whole_of view next records disk number body whole = record {
  layout = subst (λ (b : Body). IsLayout (committed_laid view.number b disk) records) body (subst (λ (k : ℕ). IsLayout (committed_laid k next.body disk) records) number whole.layout);
  count = ap (λ (b : Body). b.count) (sym body) ∙ whole.count;
  time = ap (λ (b : Body). b.elapsed) (sym body) ∙ whole.time;
}

-- it was only read since
pub log_cause_back : (n : ℕ) (old new : DiskView) → OnlyReads old new → (e : RelayFault) → IsLogCause n new e → IsLogCause n old e
log_cause_back n old new only faults.Incomplete is = as_read (IsIncomplete n) old new only is
log_cause_back n old new only (faults.Log reads.Absent) is = as_read (λ (image : Image). Replays image n None) old new only is
log_cause_back n old new only (faults.Log (reads.Damaged part)) (inl is) = inl (as_read (IsViewDamage n part) old new only is)
log_cause_back n old new only (faults.Log (reads.Damaged part)) (inr is) = inr (damage_back n part old new (same_log n old new only) is)
log_cause_back n old new only (faults.Log reads.Disk) is = tt
log_cause_back n old new only (faults.Log reads.NoMem) is = tt
log_cause_back n old new only (faults.State fault) is = tt
log_cause_back n old new only faults.NoMem is = tt

-- by what an opening says
pub view_cause : (n : ℕ) (disk : DiskView) (e : RelayFault) → (e ≡ faults.Incomplete → IsIncomplete n disk.reads) → (e ≡ faults.Log reads.Absent → Replays disk.reads n None)
    → ((part : Part) → e ≡ faults.Log (reads.Damaged part) → IsViewDamage n part disk.reads) → IsLogCause n disk e
view_cause n disk faults.Incomplete incomplete absent damaged = incomplete refl
view_cause n disk (faults.Log reads.Absent) incomplete absent damaged = absent refl
view_cause n disk (faults.Log (reads.Damaged part)) incomplete absent damaged = inl (damaged part refl)
view_cause n disk (faults.Log reads.Disk) incomplete absent damaged = tt
view_cause n disk (faults.Log reads.NoMem) incomplete absent damaged = tt
view_cause n disk (faults.State fault) incomplete absent damaged = tt
view_cause n disk faults.NoMem incomplete absent damaged = tt

-- by what reading the next record says
pub next_cause : (n : ℕ) (view : ViewState) (records : List Record) (disk : DiskView) (e : ViewFault) → logs.IsNextFault e → ((part : Part) → e ≡ reads.Damaged part → IsFaultBehind (committed_laid n view.body disk) view.body records part) → IsReadCause n view records disk (of_log e)
next_cause n view records disk reads.Absent word damaged = absurd word
next_cause n view records disk (reads.Damaged part) word damaged = inl (damaged part refl)
next_cause n view records disk reads.Disk word damaged = tt
next_cause n view records disk reads.NoMem word damaged = tt

pub exit_cause : (n : ℕ) (view : ViewState) (records : List Record) (disk : DiskView) (e : ViewFault) → (e ≡ reads.Disk) ⊎ (e ≡ reads.Damaged ExitPart) ⊎ (e ≡ reads.NoMem)
    → (e ≡ reads.Damaged ExitPart → IsWhole view records disk × ((exit : Exit) → exit_of (committed_text n view.body disk ExitPart) ≡ Ok exit → ⊥)) → IsReadCause n view records disk (of_log e)
exit_cause n view records disk e (inl is) damaged = subst (λ (x : ViewFault). IsReadCause n view records disk (of_log x)) (sym is) tt
exit_cause n view records disk e (inr (inl is)) damaged = let d = damaged is in subst (λ (x : ViewFault). IsReadCause n view records disk (of_log x)) (sym is) (inr (refl, d.0, d.1))
exit_cause n view records disk e (inr (inr is)) damaged = subst (λ (x : ViewFault). IsReadCause n view records disk (of_log x)) (sym is) tt

-- the exit is none of the log, by another value of the view
pub exit_none : (n : ℕ) (view next : ViewState) (disk : DiskView) → view.number ≡ n → next.number ≡ view.number → next.body ≡ view.body → ((exit : Exit) → exit_of (committed_text next.number next.body disk ExitPart) ≡ Ok exit → ⊥)
    → (exit : Exit) → exit_of (committed_text n view.body disk ExitPart) ≡ Ok exit → ⊥
exit_none n view next disk number same body none exit is =
    none exit (ap (λ (k : ℕ). exit_of (committed_text k next.body disk ExitPart)) (same ∙ number) ∙ (ap (λ (b : Body). exit_of (committed_text n b disk ExitPart)) body ∙ is))

-- by what passing records over says
pub pass_cause : (n : ℕ) (disk : DiskView) (e : ViewFault) → logs.IsNextFault e → ((part : Part) → e ≡ reads.Damaged part → IsLogDamage n part disk) → IsLogCause n disk (of_log e)
pass_cause n disk reads.Absent word damaged = absurd word
pass_cause n disk (reads.Damaged part) word damaged = inr (damaged part refl)
pass_cause n disk reads.Disk word damaged = tt
pass_cause n disk reads.NoMem word damaged = tt

-- a log is complete, and a part of it is at fault
pub damage_of : (n : ℕ) (part : Part) (view : ViewState) (records : List Record) (disk : DiskView) → HasLog n view records disk
    → HasFaultAfter (committed_laid view.number view.body disk) view.body part ⊎ ((part ≡ ExitPart) × ((exit : Exit) → exit_of (committed_text view.number view.body disk ExitPart) ≡ Ok exit → ⊥)) → IsLogDamage n part disk
damage_of n part view records disk log fault = record {
  body = view.body;
  entry = log.entry;
  complete = log.complete;
  fault = subst (λ (k : ℕ). HasFaultAfter (committed_laid k view.body disk) view.body part ⊎ ((part ≡ ExitPart) × ((exit : Exit) → exit_of (committed_text k view.body disk ExitPart) ≡ Ok exit → ⊥))) log.number fault;
}

-- ---- what a step leaves that failed

pub log_step_fault : (old new : RelayView) (e : RelayFault) → IsLogFault e → LeavesWhole old new → IsStepFault old new e
log_step_fault old new faults.Incomplete word leaves = leaves
log_step_fault old new (faults.Log fault) word leaves = (word, leaves)
log_step_fault old new (faults.State fault) word leaves = absurd word
log_step_fault old new faults.NoMem word leaves = tt

pub state_step_fault : (old new : RelayView) (e : RelayFault) → IsStateFault e → is_broken new ≡ true → IsStepFault old new e
state_step_fault old new faults.Incomplete word broken = absurd word
state_step_fault old new (faults.Log fault) word broken = absurd word
state_step_fault old new (faults.State kept.Disk) word broken = broken
state_step_fault old new (faults.State kept.Broken) word broken = absurd word
state_step_fault old new (faults.State (kept.Damaged part)) word broken = absurd word
state_step_fault old new (faults.State (kept.Full part)) word broken = absurd word
state_step_fault old new (faults.State kept.NoMem) word broken = absurd word
state_step_fault old new faults.NoMem word broken = tt

pub state_no_cause : (n : ℕ) (disk : DiskView) (e : RelayFault) → IsStateFault e → IsLogCause n disk e
state_no_cause n disk faults.Incomplete word = absurd word
state_no_cause n disk (faults.Log fault) word = absurd word
state_no_cause n disk (faults.State fault) word = tt
state_no_cause n disk faults.NoMem word = tt

pub no_log_disk : (e : RelayFault) → IsStateFault e → e ≡ faults.Log reads.Disk → ⊥
no_log_disk faults.Incomplete word is = absurd word
no_log_disk (faults.Log fault) word is = absurd word
no_log_disk (faults.State fault) word is = cc
no_log_disk faults.NoMem word is = cc

pub no_state_disk : (e : RelayFault) → IsLogFault e → e ≡ faults.State kept.Disk → ⊥
no_state_disk faults.Incomplete word is = cc
no_state_disk (faults.Log fault) word is = cc
no_state_disk (faults.State fault) word is = absurd word
no_state_disk faults.NoMem word is = cc

-- ---- a fault that is handed on

pub err_is : {T : Type 0} (r : Result T RelayFault) (e : RelayFault) (P : RelayFault → Type 0) → IsErrAnd r (λ x. x ≡ e) → P e → IfErr r P
err_is (Ok x) e P is p = tt
err_is (Err y) e P is p = subst P (sym is) p

pub if_err_both : {T : Type 0} (r : Result T RelayFault) (P Q S : RelayFault → Type 0) → ((e : RelayFault) → P e → Q e → S e) → IfErr r P → IfErr r Q → IfErr r S
if_err_both (Ok x) P Q S step p q = tt
if_err_both (Err e) P Q S step p q = step e p q

-- ---- why a call fails

-- where records are sent
pub sends_cause : (n : ℕ) (p : Place) (disk : DiskView) (fault : RelayFault) → ((view : ViewState) (records : List Record) → p ≡ places.Sends view → HasLog n view records disk → IsReadCause n view records disk fault) → IsSending p → IsCauseAt n p disk fault
sends_cause n places.Idle disk fault why sends = tt
sends_cause n (places.Starts view) disk fault why sends = absurd sends
sends_cause n (places.Sends view) disk fault why sends = λ records log. why view records refl log
sends_cause n places.Over disk fault why sends = tt

-- at the beginning
pub begins_cause : (n : ℕ) (p : Place) (disk : DiskView) (fault : RelayFault) → IsUnbegun p → IsLogCause n disk fault → IsCauseAt n p disk fault
begins_cause n places.Idle disk fault unbegun why = tt
begins_cause n (places.Starts view) disk fault unbegun why = why
begins_cause n (places.Sends view) disk fault unbegun why = absurd unbegun
begins_cause n places.Over disk fault unbegun why = tt

-- nothing of the log came to light where what is kept failed
pub state_cause : (n : ℕ) (p : Place) (disk : DiskView) (fault : RelayFault) → IsStarted p → IsKeepFault fault → IsCauseAt n p disk fault
state_cause n places.Idle disk fault started word = tt
state_cause n (places.Starts view) disk fault started word = absurd started
state_cause n (places.Sends view) disk faults.Incomplete started word = absurd word
state_cause n (places.Sends view) disk (faults.Log fault) started word = absurd word
state_cause n (places.Sends view) disk (faults.State fault) started word = λ records log. tt
state_cause n (places.Sends view) disk faults.NoMem started word = λ records log. tt
state_cause n places.Over disk fault started word = tt

-- the lower call failed so
pub that_err : {T : Type 0} (low : Result T ViewFault) (e f : ViewFault) → low ≡ Err e → e ≡ f → IsErrOf low f
that_err {T} low e f was is = was ∙ ap (λ (x : ViewFault). let r : Result T ViewFault = Err x in r) is

pub that_relay : {T : Type 0} (low : Result T RelayFault) (e f : RelayFault) → low ≡ Err e → e ≡ f → IsErrOf low f
that_relay {T} low e f was is = was ∙ ap (λ (x : RelayFault). let r : Result T RelayFault = Err x in r) is

pub that_kept : {T : Type 0} (low : Result T BundleFault) (e f : BundleFault) → low ≡ Err e → e ≡ f → IsErrOf low f
that_kept {T} low e f was is = was ∙ ap (λ (x : BundleFault). let r : Result T BundleFault = Err x in r) is

-- a whole relay keeps something in vain
pub kept_err : {T U : Type 0} (low : Result T BundleFault) (high : Result U RelayFault) (e : BundleFault) (broken : Bool) → low ≡ Err e → IsErrAnd high (λ x. x ≡ of_state e) → IsCommitFault e → (IsErrOf low kept.Broken → broken ≡ true) → broken ≡ false → IfErr high IsStateFault
kept_err low high e broken was is word was_broken whole =
    err_is high (of_state e) IsStateFault is (kept_fault e word (λ at. let h : true ≡ false = sym (was_broken (that_kept low e kept.Broken was at)) ∙ whole in cc (h)))

pub kept_own : {T U : Type 0} (m n : ℕ) (low : Result T BundleFault) (high : Result U RelayFault) (e : BundleFault) (old new : DiskView) → m ≡ n → low ≡ Err e → IsErrAnd high (λ x. x ≡ of_state e) → HasOwnCause (IsOfRelay m) (IsErrOf low kept.Disk) old new
    → HasOwnCause (IsOfRelay n) (IsErrOf high (faults.State kept.Disk)) old new
kept_own m n low high e old new same was is cause = subst (λ (k : ℕ). HasOwnCause (IsOfRelay k) (IsErrOf high (faults.State kept.Disk)) old new) same (state_own (IsOfRelay m) low high e old new was is cause)

-- ---- opening

pub view_open : (e : BundleFault) → bundles.IsViewFault e → bundles.IsOpenFault e
view_open kept.Disk is = tt
view_open kept.Broken is = absurd is
view_open (kept.Damaged part) is = tt
view_open (kept.Full part) is = absurd is
view_open kept.NoMem is = absurd is

pub check_fault : (e : RelayFault) → (e ≡ faults.Incomplete) ⊎ (e ≡ faults.Log reads.Absent) ⊎ (e ≡ faults.Log reads.Disk) → IsLogFault e
check_fault e (inl is) = subst IsLogFault (sym is) tt
check_fault e (inr (inl is)) = subst IsLogFault (sym is) tt
check_fault e (inr (inr is)) = subst IsLogFault (sym is) tt

check_damaged : (e : RelayFault) (part : Part) (P : Type 0) → (e ≡ faults.Incomplete) ⊎ (e ≡ faults.Log reads.Absent) ⊎ (e ≡ faults.Log reads.Disk) → e ≡ faults.Log (reads.Damaged part) → P
check_damaged e part P (inl is) at = absurd (let h : faults.Incomplete ≡ faults.Log (reads.Damaged part) = sym is ∙ at in cc (h))
check_damaged e part P (inr (inl is)) at = absurd (let h : faults.Log reads.Absent ≡ faults.Log (reads.Damaged part) = sym is ∙ at in cc (h))
check_damaged e part P (inr (inr is)) at = absurd (let h : faults.Log reads.Disk ≡ faults.Log (reads.Damaged part) = sym is ∙ at in cc (h))

pub check_cause : (n : ℕ) (image : Image) (e : RelayFault) → (e ≡ faults.Incomplete) ⊎ (e ≡ faults.Log reads.Absent) ⊎ (e ≡ faults.Log reads.Disk) → (e ≡ faults.Incomplete → IsIncomplete n image) → (e ≡ faults.Log reads.Absent → Replays image n None) → IsOpenCause n image e
check_cause n image e word incomplete absent = log_open_cause n image e (check_fault e word) incomplete absent (λ part at. check_damaged e part (IsUnreadable n part image) word at)

pub any_err : {T : Type 0} (r : Result T RelayFault) (P : RelayFault → Type 0) → ((e : RelayFault) → P e) → IfErr r P
any_err (Ok x) P p = tt
any_err (Err e) P p = p e

state_log : (e : BundleFault) (f : ViewFault) → of_state e ≡ faults.Log f → ⊥
state_log kept.Disk f is = cc (is)
state_log kept.Broken f is = cc (is)
state_log (kept.Damaged part) f is = cc (is)
state_log (kept.Full part) f is = cc (is)
state_log kept.NoMem f is = cc (is)

-- what is kept can't be the log
pub no_log_own : {U : Type 0} (Own : FileId → Type 0) (high : Result U RelayFault) (e : BundleFault) (old new : DiskView) → IsErrAnd high (λ x. x ≡ of_state e) → ((file : FileId) → old.faults file ≤ new.faults file) → HasOwnCause Own (IsErrOf high (faults.Log reads.Disk)) old new
no_log_own Own high e old new is up = record { monotone = up; risen = λ at. absurd (state_log e reads.Disk (err_same high (of_state e) (faults.Log reads.Disk) is at)) }
