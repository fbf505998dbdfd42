-- What is said of a number, by what was found.
use Rattle.std.proofs.Common.{◌≡◌, ◌∙◌, ◌⊎◌, ◌↔◌, ◌<◌, ◌≤◌, inl, inr, ℕ, List, Bool, true, false, not, ◌==◌, if◌then◌else◌, Option, Some, None, Result, Err, refl, sym, ap, subst, arith}
use Rattle.lsv_disk.specs.declared.file.FileId.{FileId}
use Rattle.lsv_disk.specs.View.{DiskView, HasOwnCause, Image}
use Rattle.lsv_bundle.specs.declared.body.Body.{Body}
use Rattle.lsv_check_args.specs.declared.request.Form.{Form}
use Rattle.lsv_finding.specs.Checked.{IsFoundAs}
use Rattle.lsv_finding.specs.declared.checked.Checked.{Checked}
use Rattle.lsv_finding.specs.declared.checked.Checked.TheVariants as kept
use Rattle.lsv_finding.specs.declared.checked.CheckFault.{CheckFault}
use Rattle.lsv_finding.specs.declared.checked.CheckFault.TheVariants as faults
use Rattle.lsv_kept.specs.Kept.{IsMarked}
use Rattle.lsv_verdict.specs.Sealed.{IsDigest}
use Rattle.lsv_verdict.specs.Verdicts.{Counts, HasDigest, HasFacts, HasFailed, IsFailed, IsJudged, IsListed, IsLook, IsOfNumbers, IsOwn, IsSoFound, class_found, class_stored, counts_of, unread}
use Rattle.lsv_verdict.specs.declared.judge.Facts.{Facts}
use Rattle.lsv_verdict.specs.declared.judge.Judged.{Judged}
use Rattle.lsv_verdict.specs.declared.judge.Judged.TheVariants as looks
use Rattle.lsv_verdict.specs.declared.verdict.Class.{Class}
use Rattle.lsv_verdict.specs.declared.verdict.Class.TheVariants as classes
use Rattle.lsv_verdict.specs.declared.verdict.Verdict.{Verdict}

stored_class : (body : Body) (P : Class → Type 0) → P classes.Complete → P classes.Incomplete → P (class_stored body)
stored_class body P complete incomplete = by (body.kind == 3) where
  by : (b : Bool) → P (if b then classes.Complete else classes.Incomplete)
  by true = complete
  by false = incomplete

-- what is absent is no log
pub absent_found : (found : Checked) → class_found found ≡ classes.Absent → found ≡ kept.Nowhere
absent_found kept.Nowhere is = refl
absent_found (kept.Unlisted part) is = absurd (let no_ : ⊥ = cc in no_)
absent_found (kept.Closed part) is = absurd (let no_ : ⊥ = cc in no_)
absent_found (kept.Broken head body count time part) is = absurd (let no_ : ⊥ = cc in no_)
absent_found (kept.Sound head body exit) is = absurd (stored_class body (λ (c : Class). c ≡ classes.Absent → ⊥) (λ e. cc) (λ e. cc) is)

-- what isn't absent isn't said to be
pub listed : (whole : Bool) (image : Image) (n : ℕ) (found : Checked) → (class_found found ≡ classes.Absent → ⊥) → IsListed whole image n (Some found)
listed whole image n found there asked is = absurd (there (ap class_found (some_same found kept.Nowhere is))) where
  some_same : (a b : Checked) → Some a ≡ Some b → a ≡ b
  some_same a b e = cc

-- of a number whose files weren't read nothing more is said
no_digest : (b : Bool) (image : Image) (n : ℕ) (class : Class) → (class ≡ classes.Complete → ⊥) → HasDigest b image n class None
no_digest false image n class other = refl
no_digest true image n classes.Complete other = absurd (other refl)
no_digest true image n classes.Incomplete other = refl
no_digest true image n classes.Damaged other = refl
no_digest true image n classes.Unread other = refl
no_digest true image n classes.Absent other = refl

-- nothing is said but that a read failed
pub unread_look : (form : Form) (whole : Bool) (image : Image) (counts : Counts) (n : ℕ) (v : Verdict) → v ≡ unread n → IsFailed image counts n → IsLook form whole image counts n (looks.Said v)
unread_look form whole image counts n v is failed = subst (λ (w : Verdict). IsLook form whole image counts n (looks.Said w)) (sym is) (
  record {
    number = refl;
    found = failed;
    marked = λ e. absurd (let no_ : ⊥ = cc in no_);
    unmarked = λ e. absurd (let no_ : ⊥ = cc in no_);
    digest = no_digest form.digest image n classes.Unread (λ e. cc);
  },
  λ asked e. absurd (let no_ : ⊥ = cc in no_),
)

true_false : (b : Bool) → b ≡ false → b ≡ true → ⊥
true_false b none some = cc

some_false : (relayed : Bool) (P : Type 0) → relayed ≡ false → (P → relayed ≡ true) → P → ⊥
some_false relayed P none is p = true_false relayed none (is p)

-- of a complete log: whether it is relayed, and its digest
pub complete_look : (form : Form) (whole : Bool) (image : Image) (counts : Counts) (n : ℕ) (found : Checked) (o : Option Facts) (facts : Facts) → IsFoundAs image n found → class_found found ≡ classes.Complete → o ≡ Some facts → HasFacts form image n o
    → IsLook form whole image counts n (looks.Said (record { number = n; found = Some found; relayed = facts.relayed; digest = facts.digest }))
complete_look form whole image counts n found o facts is class same facts_are =
    let have : HasFacts form image n (Some facts) = subst (HasFacts form image n) same facts_are in (
      record {
        number = refl;
        found = is;
        marked = λ e. (class, have.0.0 e);
        unmarked = λ complete none m. some_false facts.relayed (IsMarked n image) none have.0.1 m;
        digest = subst (λ (c : Class). HasDigest form.digest image n c facts.digest) (sym class) have.1;
      },
      listed whole image n found (λ absent. let no_ : ⊥ = cc in no_),
    )

-- there are facts
pub some_facts : (form : Form) (image : Image) (n : ℕ) (o : Option Facts) → o ≡ None → HasFacts form image n o → ⊥
some_facts form image n o none facts_are = subst (HasFacts form image n) none facts_are

-- no digest is asked for
pub plain_facts : (form : Form) (image : Image) (n : ℕ) (relayed : Bool) → form.digest ≡ false → (relayed ≡ true) ↔ IsMarked n image → HasFacts form image n (Some (record { relayed = relayed; digest = None }))
plain_facts form image n relayed plain marked = (marked, by form.digest plain) where
  by : (b : Bool) → b ≡ false → HasDigest b image n classes.Complete None
  by false is = refl
  by true is = absurd (let no_ : ⊥ = cc in no_)

-- or one is, and there is one
pub sealed_facts : (form : Form) (image other : Image) (n : ℕ) (relayed : Bool) (o : Option (List ℕ)) (digest : List ℕ) → form.digest ≡ true → other ≡ image → o ≡ Some digest → (relayed ≡ true) ↔ IsMarked n image → HasDigest true other n classes.Complete o
    → HasFacts form image n (Some (record { relayed = relayed; digest = Some digest }))
sealed_facts form image other n relayed o digest asked same some marked sealed = (marked, by form.digest asked) where
  here : HasDigest true image n classes.Complete (Some digest)
  here = subst (λ (i : Image). HasDigest true i n classes.Complete (Some digest)) same (subst (HasDigest true other n classes.Complete) some sealed)

  by : (b : Bool) → b ≡ true → HasDigest b image n classes.Complete (Some digest)
  by true is = here
  by false is = absurd (let no_ : ⊥ = cc in no_)

pub not_false : (b : Bool) → not b ≡ false → b ≡ true
not_false true is = refl
not_false false is = absurd (let no_ : ⊥ = cc in no_)

-- there is a digest
pub some_digest : (image : Image) (n : ℕ) (o : Option (List ℕ)) → o ≡ None → HasDigest true image n classes.Complete o → ⊥
some_digest image n o none sealed = by (subst (HasDigest true image n classes.Complete) none sealed) where
  by : (d : List ℕ) × (None ≡ Some d) × IsDigest image n d → ⊥
  by (d, is, rest) = let no_ : ⊥ = cc in no_

-- ---- more calls, before or after

-- one span of calls within another
pub record IsWithin (inner outer : Counts) : Type 0 where
  pub before : (g : FileId) → outer.before g ≤ inner.before g
  pub now : (g : FileId) → inner.now g ≤ outer.now g

pub failed_wider : (Own : FileId → Type 0) (inner outer : Counts) → IsWithin inner outer → HasFailed Own inner → HasFailed Own outer
failed_wider Own inner outer within (g, own, risen) = (
  g,
  own,
  λ bound.
      let a = within.before g in
      let b = within.now g in
      let r : inner.before g < inner.now g = risen (omega (arith, b, bound)) in omega (arith, a, b, r),
)

is_failed_wider : (image : Image) (inner outer : Counts) (n : ℕ) → IsWithin inner outer → IsFailed image inner n → IsFailed image outer n
is_failed_wider image inner outer n within (inl failed) = inl (failed_wider (IsOwn n) inner outer within failed)
is_failed_wider image inner outer n within (inr (found, failed)) = inr (found, failed_wider IsOfNumbers inner outer within failed)

found_wider : (image : Image) (inner outer : Counts) (n : ℕ) (o : Option Checked) → IsWithin inner outer → IsSoFound image inner n o → IsSoFound image outer n o
found_wider image inner outer n None within found = is_failed_wider image inner outer n within found
found_wider image inner outer n (Some x) within found = found

pub judged_wider : (form : Form) (whole : Bool) (image : Image) (inner outer : Counts) (n : ℕ) (o : Option Verdict) → IsWithin inner outer → IsJudged form whole image inner n o → IsJudged form whole image outer n o
judged_wider form whole image inner outer n None within is = is
judged_wider form whole image inner outer n (Some v) within (is, list) = (
  record { number = is.number; found = found_wider image inner outer n v.found within is.found; marked = is.marked; unmarked = is.unmarked; digest = is.digest },
  list,
)

look_wider : (form : Form) (whole : Bool) (image : Image) (inner outer : Counts) (n : ℕ) (j : Judged) → IsWithin inner outer → IsLook form whole image inner n j → IsLook form whole image outer n j
look_wider form whole image inner outer n (looks.Said v) within is = judged_wider form whole image inner outer n (Some v) within is
look_wider form whole image inner outer n looks.Passed within is = is
look_wider form whole image inner outer n looks.Again within is = is

-- a look after calls that only read
pub look_from : (form : Form) (whole : Bool) (n : ℕ) (old mid new : DiskView) (j : Judged) → mid.reads ≡ old.reads → ((g : FileId) → old.faults g ≤ mid.faults g) → IsLook form whole mid.reads (counts_of mid new) n j → IsLook form whole old.reads (counts_of old new) n j
look_from form whole n old mid new j same fewer is =
    look_wider form whole old.reads (counts_of mid new) (counts_of old new) n j (record { before = fewer; now = λ g. omega arith }) (subst (λ (i : Image). IsLook form whole i (counts_of mid new) n j) same is)

-- a call on the log's own files failed
pub own_failed : (n : ℕ) (old new : DiskView) (Own : FileId → Type 0) (failed : Type 0) → ((g : FileId) → Own g → IsOwn n g) → failed → HasOwnCause Own failed old new → HasFailed (IsOwn n) (counts_of old new)
own_failed n old new Own failed own is cause = let r = cause.risen is in (r.0, own r.0 r.1, r.2)

pub err_disk : (e : CheckFault) → e ≡ faults.Disk → (let r : Result Checked CheckFault = Err e in r) ≡ Err faults.Disk
err_disk e is = ap (λ (x : CheckFault). let r : Result Checked CheckFault = Err x in r) is
