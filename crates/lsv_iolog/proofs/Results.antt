-- Which fault of a bundle a fault of a log was.
use Rattle.std.proofs.Common.{Bool, true, false, ◌≡◌, ◌≢◌, ◌⊎◌, inl, inr, Result, Ok, Err, IfErr, IsErrAnd, IsErrOf, refl, sym, subst, ◌∙◌, ap}
use Rattle.lsv_disk.specs.declared.file.Part.{Part}
use Rattle.lsv_disk.specs.declared.file.FileId.{FileId}
use Rattle.lsv_disk.specs.View.{DiskView, HasOwnCause}
use Rattle.lsv_disk.proofs.Composition.{cause_widened}
use Rattle.lsv_bundle.specs.declared.fault.BundleFault.{BundleFault}
use Rattle.lsv_bundle.specs.declared.fault.BundleFault.TheVariants as bundles
use Rattle.lsv_iolog.specs.declared.fault.LogFault.{LogFault}
use Rattle.lsv_iolog.specs.declared.fault.LogFault.TheVariants as logs
use Rattle.lsv_iolog.specs.declared.fault.ViewFault.{ViewFault}
use Rattle.lsv_iolog.specs.declared.fault.ViewFault.TheVariants as views
use Rattle.lsv_disk.specs.declared.file.Part.TheVariants.{Timing}
use Rattle.lsv_record.specs.declared.tally.TimingFault.{TimingFault}
use Rattle.lsv_record.specs.declared.tally.TimingFault.TheVariants as timing
use Rattle.lsv_iolog.specs.Faults.{IsNextFault, IsOfFiles, IsOpenFault, fault_of, fault_of_timing, of_view}

-- an error that was made of a bundle's
pub given_fault : {T : Type 0} (r : Result T LogFault) (e : BundleFault) (d : LogFault) → IsErrAnd r (λ x. x ≡ fault_of e) → IsErrOf r d → fault_of e ≡ d
given_fault (Ok x) e d is same = absurd is
given_fault {T} (Err x) e d is same = sym is ∙ (let h : x ≡ d = cc in h)

pub disk_is : (e : BundleFault) → fault_of e ≡ logs.Disk → e ≡ bundles.Disk
disk_is bundles.Disk is = refl
disk_is bundles.Broken is = cc
disk_is (bundles.Damaged part) is = cc
disk_is (bundles.Full part) is = cc
disk_is bundles.NoMem is = cc

pub full_is : (e : BundleFault) (part : Part) → fault_of e ≡ logs.Full part → e ≡ bundles.Full part
full_is bundles.Disk part is = cc
full_is bundles.Broken part is = cc
full_is (bundles.Damaged p) part is = cc
full_is (bundles.Full p) part is = cc
full_is bundles.NoMem part is = cc

pub broken_is : (e : BundleFault) → fault_of e ≡ logs.Broken → e ≡ bundles.Broken
broken_is bundles.Disk is = cc
broken_is bundles.Broken is = refl
broken_is (bundles.Damaged part) is = cc
broken_is (bundles.Full part) is = cc
broken_is bundles.NoMem is = cc

pub damaged_is : (e : BundleFault) (part : Part) → fault_of e ≡ logs.Damaged part → e ≡ bundles.Damaged part
damaged_is bundles.Disk part is = cc
damaged_is bundles.Broken part is = cc
damaged_is (bundles.Damaged p) part is = cc
damaged_is (bundles.Full p) part is = cc
damaged_is bundles.NoMem part is = cc

-- a device's fault that a bundle told is one of the log
pub disk_cause : {T U : Type 0} (Own Wider : FileId → Type 0) (r : Result T LogFault) (e : BundleFault) (old new : DiskView) → ((f : FileId) → Own f → Wider f)
    → IsErrAnd r (λ x. x ≡ fault_of e) → HasOwnCause Own (IsErrOf {T = U} (Err e) bundles.Disk) old new → HasOwnCause Wider (IsErrOf r logs.Disk) old new
disk_cause {T} {U} Own Wider r e old new more is cause =
    cause_widened Own Wider (IsErrOf {T = U} (Err e) bundles.Disk) (IsErrOf r logs.Disk) old new more
    (λ failed. ap (λ (x : BundleFault). let y : Result U BundleFault = Err x in y) (disk_is e (given_fault r e logs.Disk is failed))) cause

-- a whole bundle's flush fails by a device alone
pub flush_fault : (fault : BundleFault) (broken : Bool) → broken ≡ false → (fault ≡ bundles.Disk) ⊎ (fault ≡ bundles.Broken) → (fault ≡ bundles.Broken → broken ≡ true) → fault_of fault ≡ logs.Disk
flush_fault fault broken whole is told = elim is [
  | inl disk ↦ ap fault_of disk
  | inr old ↦ absurd (not_both broken whole (told old))
] where
  not_both : (b : Bool) → b ≡ false → b ≡ true → ⊥
  not_both b no_ yes_ = cc

-- an error that was made of a line's
pub given_timing : {T : Type 0} (r : Result T ViewFault) (e : TimingFault) (d : ViewFault) → IsErrAnd r (λ x. x ≡ fault_of_timing e) → IsErrOf r d → fault_of_timing e ≡ d
given_timing (Ok x) e d is same = absurd is
given_timing {T} (Err x) e d is same = sym is ∙ (let h : x ≡ d = cc in h)

pub timing_is : (e : TimingFault) → fault_of_timing e ≡ views.Damaged Timing → (e ≡ timing.BadLine) ⊎ (e ≡ timing.TooLong)
timing_is timing.BadLine is = inl refl
timing_is timing.TooLong is = inr refl
timing_is timing.NoMem is = absurd (let no_ : ⊥ = cc in no_)

-- a fault that is passed on
pub same_fault : {T F : Type 0} (r : Result T F) (e d : F) → IsErrAnd r (λ x. x ≡ e) → IsErrOf r d → e ≡ d
same_fault (Ok x) e d is same = absurd is
same_fault (Err x) e d is same = sym is ∙ (let h : x ≡ d = cc in h)

-- which part is damaged
pub damaged_part : (a b : Part) → views.Damaged a ≡ views.Damaged b → a ≡ b
damaged_part a b e = cc

pub only_damaged : (e : ViewFault) (there part : Part) → (e ≡ views.Disk) ⊎ (e ≡ views.Damaged there) ⊎ (e ≡ views.NoMem) → e ≡ views.Damaged part → there ≡ part
only_damaged e there part fault is = elim fault [
  | inl disk ↦ absurd (let no_ : ⊥ = cc in no_)
  | inr more ↦ elim more [ inl damaged ↦ damaged_part there part (sym damaged ∙ is) | inr memory ↦ absurd (let no_ : ⊥ = cc in no_) ]
]

-- this holds, and so also where the fault isn't the device's
pub if_err_always : {T : Type 0} (r : Result T LogFault) (P : Type 0) → P → IfErr r (λ e. e ≢ logs.Disk → P)
if_err_always (Ok x) P holds = tt
if_err_always (Err x) P holds = λ other. holds

-- the fault is the device's
pub if_err_disk : {T : Type 0} (r : Result T LogFault) (P : Type 0) (e : BundleFault) → IsErrAnd r (λ x. x ≡ fault_of e) → fault_of e ≡ logs.Disk → IfErr r (λ x. x ≢ logs.Disk → P)
if_err_disk (Ok x) P e is disk = tt
if_err_disk (Err x) P e is disk = λ other. absurd (other (is ∙ disk))

-- ---- faults of a view that become one of the log

-- an error that was made of a view's
pub given_view : {T : Type 0} (r : Result T LogFault) (e : ViewFault) (d : LogFault) → IsErrAnd r (λ x. x ≡ of_view e) → IsErrOf r d → of_view e ≡ d
given_view (Ok x) e d is same = absurd is
given_view {T} (Err x) e d is same = sym is ∙ (let h : x ≡ d = cc in h)

pub view_damaged : (e : ViewFault) (part : Part) → of_view e ≡ logs.Damaged part → e ≡ views.Damaged part
view_damaged views.Absent part is = cc
view_damaged (views.Damaged p) part is = cc
view_damaged views.Disk part is = cc
view_damaged views.NoMem part is = cc

pub view_disk : (e : ViewFault) → of_view e ≡ logs.Disk → e ≡ views.Disk
view_disk views.Absent is = cc
view_disk (views.Damaged p) is = cc
view_disk views.Disk is = refl
view_disk views.NoMem is = cc

pub view_absent : (e : ViewFault) → of_view e ≡ logs.Absent → e ≡ views.Absent
view_absent views.Absent is = refl
view_absent (views.Damaged p) is = cc
view_absent views.Disk is = cc
view_absent views.NoMem is = cc

-- reading answers a log that is there
pub view_there : (e : ViewFault) → IsNextFault e → of_view e ≡ logs.Absent → ⊥
view_there views.Absent next is = next
view_there (views.Damaged p) next is = cc
view_there views.Disk next is = cc
view_there views.NoMem next is = cc

-- each fault of a view is one of opening
pub view_opens : (e : ViewFault) → IsOpenFault (of_view e)
view_opens views.Absent = tt
view_opens (views.Damaged part) = tt
view_opens views.Disk = tt
view_opens views.NoMem = tt

-- a device's fault that a view answered is one of the log
pub view_cause : {T U : Type 0} (Own Wider : FileId → Type 0) (r : Result T LogFault) (e : ViewFault) (old new : DiskView) → ((f : FileId) → Own f → Wider f)
    → IsErrAnd r (λ x. x ≡ of_view e) → HasOwnCause Own (IsErrOf {T = U} (Err e) views.Disk) old new → HasOwnCause Wider (IsErrOf r logs.Disk) old new
view_cause {T} {U} Own Wider r e old new more is cause =
    cause_widened Own Wider (IsErrOf {T = U} (Err e) views.Disk) (IsErrOf r logs.Disk) old new more
    (λ failed. ap (λ (x : ViewFault). let y : Result U ViewFault = Err x in y) (view_disk e (given_view r e logs.Disk is failed))) cause

-- an answer that passes a fault on
pub err_holds : {T F : Type 0} (r : Result T F) (e : F) (P : F → Type 0) → IsErrAnd r (λ x. x ≡ e) → P e → IfErr r P
err_holds (Ok x) e P is holds = tt
err_holds (Err x) e P is holds = subst P (sym is) holds

-- ---- faults of files that are viewed

pub files_disk : (e : BundleFault) (fault : ViewFault) → IsOfFiles e fault → fault ≡ views.Disk → e ≡ bundles.Disk
files_disk bundles.Disk fault is disk = refl
files_disk (bundles.Damaged part) fault is disk = absurd (let no_ : ⊥ = cc in no_)
files_disk bundles.NoMem fault is disk = absurd is
files_disk bundles.Broken fault is disk = absurd is
files_disk (bundles.Full part) fault is disk = absurd is

pub files_damaged : (e : BundleFault) (fault : ViewFault) (part : Part) → IsOfFiles e fault → fault ≡ views.Damaged part → e ≡ bundles.Damaged part
files_damaged bundles.Disk fault part is damaged = absurd (let no_ : ⊥ = cc in no_)
files_damaged (bundles.Damaged p) fault part is damaged = ap (λ (q : Part). bundles.Damaged q) (damaged_part p part (sym is ∙ damaged))
files_damaged bundles.NoMem fault part is damaged = absurd is
files_damaged bundles.Broken fault part is damaged = absurd is
files_damaged (bundles.Full p) fault part is damaged = absurd is

pub files_there : (e : BundleFault) (fault : ViewFault) → IsOfFiles e fault → fault ≡ views.Absent → ⊥
files_there bundles.Disk fault is absent = cc
files_there (bundles.Damaged part) fault is absent = cc
files_there bundles.NoMem fault is absent = is
files_there bundles.Broken fault is absent = is
files_there (bundles.Full part) fault is absent = is
