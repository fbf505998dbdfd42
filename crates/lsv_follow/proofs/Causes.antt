-- Which fault of a log that is read a fault of following it was.
use Rattle.std.proofs.Common.{◌≡◌, ◌≤◌, ◌⊎◌, arith, inl, inr, subst, ℕ, IfOk, OnOk, Result, Ok, Err, IfErr, IsErrAnd, IsErrOf, OnErr, refl, sym, ◌∙◌, ap}
use Rattle.lsv_disk.specs.View.{DiskView, HasOwnCause, Image}
use Rattle.lsv_disk.specs.declared.file.FileId.{FileId}
use Rattle.lsv_disk.specs.declared.file.Part.{Part}
use Rattle.lsv_iolog.specs.Reading.{HasCuts, ViewState}
use Rattle.lsv_iolog.specs.Recovered.{IsOfLog}
use Rattle.lsv_play.proofs.Played.{own_cause}
use Rattle.lsv_follow.specs.Following.{cuts_seen}
use Rattle.lsv_iolog.specs.declared.fault.ViewFault.{ViewFault}
use Rattle.lsv_iolog.specs.declared.fault.ViewFault.TheVariants as views
use Rattle.lsv_follow.specs.Faults.{of_log}
use Rattle.lsv_follow.specs.declared.fault.FollowFault.{FollowFault}
use Rattle.lsv_follow.specs.declared.fault.FollowFault.TheVariants.{Log}

-- two names of one error
pub same_fault : {T : Type 0} (r : Result T FollowFault) (e d : FollowFault) → IsErrAnd r (λ x. x ≡ e) → IsErrOf r d → e ≡ d
same_fault (Ok x) e d is same = absurd is
same_fault {T} (Err x) e d is same = sym is ∙ (let h : x ≡ d = cc in h)

pub fault_is : {T : Type 0} (e d : FollowFault) → e ≡ d → IsErrOf {T = T} (Err e) d
fault_is {T} e d is = ap (λ (x : FollowFault). let y : Result T FollowFault = Err x in y) is

-- what holds of an error, said of its result
pub if_err_at : {T : Type 0} (r : Result T ViewFault) (e : ViewFault) (P : ViewFault → Type 0) → IsErrAnd r (λ x. x ≡ e) → ((x : ViewFault) → x ≡ e → P x) → IfErr r P
if_err_at (Ok x) e P is holds = absurd is
if_err_at (Err x) e P is holds = holds x is

-- what holds anyway holds at an error
pub on_err : {T E : Type 0} (r : Result T E) (P : Type 0) → P → OnErr r P
on_err (Ok x) P holds = tt
on_err (Err e) P holds = holds

-- a log that is neither absent nor damaged isn't opened by a device call that failed, or for want of memory
pub open_fault : (e : ViewFault) → (e ≡ views.Absent → ⊥) → ((part : Part) → e ≡ views.Damaged part → ⊥) → (e ≡ views.Disk) ⊎ (e ≡ views.NoMem)
open_fault views.Absent there sound = absurd (there refl)
open_fault (views.Damaged part) there sound = absurd (sound part refl)
open_fault views.Disk there sound = inl refl
open_fault views.NoMem there sound = inr refl

-- the part that is damaged is the log's
pub damaged_is : (e : ViewFault) (part : Part) → of_log e ≡ Log (views.Damaged part) → e ≡ views.Damaged part
damaged_is views.Absent part is = cc
damaged_is (views.Damaged other) part is = cc
damaged_is views.Disk part is = cc
damaged_is views.NoMem part is = cc

-- ---- a result that was found before

pub ok_at : {T E : Type 0} (r : Result T E) (x : T) (P : T → Type 0) → r ≡ Ok x → IfOk r P → P x
ok_at {T} {E} r x P is holds = subst (λ (y : Result T E). IfOk y P) is holds

pub on_ok_at : {T E : Type 0} (r : Result T E) (x : T) (P : Type 0) → r ≡ Ok x → OnOk r P → P
on_ok_at {T} {E} r x P is holds = subst (λ (y : Result T E). OnOk y P) is holds

pub if_err_is : {T E : Type 0} (r : Result T E) (e : E) (P : E → Type 0) → r ≡ Err e → IfErr r P → P e
if_err_is {T} {E} r e P is holds = subst (λ (y : Result T E). IfErr y P) is holds

pub err_at : {T : Type 0} (r : Result T FollowFault) (e d : FollowFault) → r ≡ Err e → e ≡ d → IsErrOf r d
err_at {T} r e d is same = subst (λ (y : Result T FollowFault). IsErrOf y d) (sym is) (fault_is {T = T} e d same)

-- ---- causes beside others

-- a call failed after acts of others
pub cause_later : (n m : ℕ) (Failed Cause : Type 0) (old now later : DiskView) → m ≡ n → ((f : FileId) → old.faults f ≤ now.faults f) → HasOwnCause (IsOfLog m) Cause now later → (Failed → Cause) → HasOwnCause (IsOfLog n) Failed old later
cause_later n m Failed Cause old now later same mono cause when = own_cause n m Failed Cause old now later same mono cause when

-- and before some
pub cause_between : (n m : ℕ) (Failed Cause : Type 0) (old now mid later : DiskView) → m ≡ n → ((f : FileId) → old.faults f ≤ now.faults f) → HasOwnCause (IsOfLog m) Cause now mid → ((f : FileId) → mid.faults f ≤ later.faults f) → (Failed → Cause)
    → HasOwnCause (IsOfLog n) Failed old later
cause_between n m Failed Cause old now mid later same mono cause after when =
    let is = own_cause n m Failed Cause old now mid same mono cause when in
    record { monotone = λ f. omega (arith, is.monotone f, after f); risen = λ failed. let one = is.risen failed in (one.0, one.1, λ small. omega (arith, after one.0, one.2 (omega (arith, after one.0, small)))) }

-- a check that went well is one of the log that was opened
pub checked_by : (old new : ViewState) (image : Image) → new.number ≡ old.number → cuts_seen new ≡ cuts_seen old → HasCuts new.number (cuts_seen new) image → HasCuts old.number (cuts_seen old) image
checked_by old new image number cuts has = subst (λ (k : ℕ). HasCuts k (cuts_seen old) image) number (subst (λ (c : ℕ). HasCuts new.number c image) cuts has)
