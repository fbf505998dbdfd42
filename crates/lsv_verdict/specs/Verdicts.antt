-- What is said of one number, and by which facts of the disk.
use Rattle.std.specs.Prelude.{◌≡◌, ◌==◌, ◌⊎◌, ◌↔◌, ℕ, ◌-◌, ◌%◌, Bool, true, false, nat_le, max, List, [], ◌∷◌, Option, Some, None, unwrap_or, Result, Ok, Err, if◌then◌else◌}
use Rattle.lsv_disk.specs.declared.file.FileId.{FileId}
use Rattle.lsv_defs.specs.Causes.{HasRisen}
use Rattle.lsv_disk.specs.View.{DiskView, Image}
use Rattle.lsv_bundle.specs.declared.body.Body.{Body}
use Rattle.lsv_finding.specs.Checked.{IsFoundAs}
use Rattle.lsv_finding.specs.declared.checked.Checked.{Checked}
use Rattle.lsv_finding.specs.declared.checked.Checked.TheVariants as kept
use Rattle.lsv_check_args.specs.declared.request.Form.{Form}
use Rattle.lsv_iolog.specs.Recovered.{IsOfLog}
use Rattle.lsv_kept.specs.Kept.{IsMarked, IsOfRelay}
use Rattle.lsv_seq.specs.declared.fault.SeqFault.{SeqFault}
use Rattle.lsv_seq.specs.Drawn.{IsNumbersFile, entry_at, viewed}
use Rattle.lsv_verdict.specs.Sealed.{IsDigest}
use Rattle.lsv_verdict.specs.declared.judge.Facts.{Facts}
use Rattle.lsv_verdict.specs.declared.judge.Judged.{Judged}
use Rattle.lsv_verdict.specs.declared.judge.Judged.TheVariants.{Said, Passed, Again}
use Rattle.lsv_verdict.specs.declared.verdict.Class.{Class}
use Rattle.lsv_verdict.specs.declared.verdict.Class.TheVariants.{Complete, Incomplete, Damaged, Unread, Absent}
use Rattle.lsv_verdict.specs.declared.verdict.Verdict.{Verdict}

-- the kind of a stored log, by its last entry
abbrev pub class_stored : Body → Class
class_stored body = if body.kind == 3 then Complete else Incomplete

-- the kind of what was found
abbrev pub class_found : Checked → Class
class_found kept.Nowhere = Absent
class_found (kept.Unlisted part) = Damaged
class_found (kept.Closed part) = Damaged
class_found (kept.Broken head body count elapsed part) = Damaged
class_found (kept.Sound head body exit) = class_stored body

-- the kind of a verdict
abbrev pub class_in : Option Checked → Class
class_in None = Unread
class_in (Some found) = class_found found

abbrev pub class_of : Verdict → Class
class_of v = class_in v.found

-- ---- Which numbers were drawn

-- what a number file says: 0 and 0 if it has no entry or is damaged
abbrev pub last_in : Result (Option (ℕ × ℕ)) SeqFault → ℕ × ℕ
last_in (Ok found) = unwrap_or found (0, 0)
last_in (Err fault) = (0, 0)

-- the last number that a lane drew, and the count of lanes; both are 0 if its number file has no entry or is damaged
abbrev pub last_of : Image → ℕ → ℕ × ℕ
last_of image lane = last_in (viewed lane (entry_at lane image))

-- how many lanes a store has: at least one
abbrev pub lanes_of : Image → ℕ
lanes_of image = max (last_of image 0).1 1

-- a number is at most the last one of its lane, if there are this many lanes
abbrev pub is_drawn_of : Image → ℕ → ℕ → Bool
is_drawn_of image n lanes = if lanes == 0 then false else nat_le n (last_of image ((n - 1) % lanes)).0

-- the number was drawn by its lane; lane 0's number file says how many lanes there are
abbrev pub is_drawn : Image → ℕ → Bool
is_drawn image n = is_drawn_of image n (last_of image 0).1

-- ---- Which reads failed

-- the counts of faults of each file, before some calls and after them
pub record Counts : Type 0 where
  pub before : FileId → ℕ
  pub now : FileId → ℕ

-- those of a disk before and after some calls
abbrev pub counts_of : DiskView → DiskView → Counts
counts_of old now = record { before = old.faults; now = now.faults }

-- the count of one of these files rose
abbrev pub HasFailed : (FileId → Type 0) → Counts → Type 0
HasFailed Own counts = (g : FileId) × Own g × HasRisen (counts.before g) (counts.now g)

-- a file of a log, or of its relaying
abbrev pub IsOwn : ℕ → FileId → Type 0
IsOwn n file = IsOfLog n file ⊎ IsOfRelay n file

-- a file of the numbers
abbrev pub IsOfNumbers : FileId → Type 0
IsOfNumbers file = (lane : ℕ) × IsNumbersFile lane file

-- a file that the verdict of a number is read from
abbrev pub IsRead : ℕ → FileId → Type 0
IsRead n file = IsOwn n file ⊎ IsOfNumbers file

-- a file that the verdict of some number is read from
abbrev pub IsChecked : FileId → Type 0
IsChecked file = (n : ℕ) × IsRead n file

-- ---- What a verdict says

-- a read failed: of the log's own files, or of the numbers if there is no log
abbrev pub IsFailed : Image → Counts → ℕ → Type 0
IsFailed image counts n = HasFailed (IsOwn n) counts ⊎ (IsFoundAs image n kept.Nowhere × HasFailed IsOfNumbers counts)

-- what was found is so; nothing was only if a read failed
abbrev pub IsSoFound : Image → Counts → ℕ → Option Checked → Type 0
IsSoFound image counts n None = IsFailed image counts n
IsSoFound image counts n (Some found) = IsFoundAs image n found

-- nothing was found, since a read failed
abbrev pub unread : ℕ → Verdict
unread n = record { number = n; found = None; relayed = false; digest = None }

-- the digest is that of the log if digests are asked for and the log is complete; else there is none
abbrev pub HasDigest : Bool → Image → ℕ → Class → Option (List ℕ) → Type 0
HasDigest false image n class digest = digest ≡ None
HasDigest true image n Complete digest = (d : List ℕ) × (digest ≡ Some d) × IsDigest image n d
HasDigest true image n Incomplete digest = digest ≡ None
HasDigest true image n Damaged digest = digest ≡ None
HasDigest true image n Unread digest = digest ≡ None
HasDigest true image n Absent digest = digest ≡ None

-- the verdict of a number is by what this image has, and by these counts of faults
pub record IsVerdict (form : Form) (image : Image) (counts : Counts) (n : ℕ) (v : Verdict) : Type 0 where
  pub number : v.number ≡ n
  pub found : IsSoFound image counts n v.found
  pub marked : v.relayed ≡ true → (class_of v ≡ Complete) × IsMarked n image
  pub unmarked : class_of v ≡ Complete → v.relayed ≡ false → IsMarked n image → ⊥
  pub digest : HasDigest form.digest image n (class_of v) v.digest

-- a number without a log that its lane didn't draw is passed over, if the whole store is checked
pub record IsPassed (whole : Bool) (image : Image) (n : ℕ) : Type 0 where
  pub asked : whole ≡ true
  pub found : IsFoundAs image n kept.Nowhere
  pub undrawn : is_drawn image n ≡ false

-- if the whole store is checked, a number without a log is called absent only if its lane drew it
abbrev pub IsListed : Bool → Image → ℕ → Option Checked → Type 0
IsListed whole image n found = whole ≡ true → found ≡ Some kept.Nowhere → is_drawn image n ≡ true

-- what comes of a number: a verdict, or nothing
abbrev pub IsJudged : Form → Bool → Image → Counts → ℕ → Option Verdict → Type 0
IsJudged form whole image counts n None = IsPassed whole image n
IsJudged form whole image counts n (Some v) = IsVerdict form image counts n v × IsListed whole image n v.found

-- ---- Which verdicts say that a read failed

-- a read failed, by this verdict
abbrev pub IsUnread : Option Verdict → Type 0
IsUnread None = ⊥
IsUnread (Some v) = v.found ≡ None

-- ---- For private clauses

-- a look came to what the image says; over files that nobody changes it comes to something
abbrev pub IsLook : Form → Bool → Image → Counts → ℕ → Judged → Type 0
IsLook form whole image counts n (Said v) = IsJudged form whole image counts n (Some v)
IsLook form whole image counts n Passed = IsJudged form whole image counts n None
IsLook form whole image counts n Again = ⊥

-- a look says that a read failed
abbrev pub IsUnreadLook : Judged → Type 0
IsUnreadLook (Said v) = v.found ≡ None
IsUnreadLook Passed = ⊥
IsUnreadLook Again = ⊥

-- of a complete log these facts are so; over files that nobody changes there are some
abbrev pub HasFacts : Form → Image → ℕ → Option Facts → Type 0
HasFacts form image n None = ⊥
HasFacts form image n (Some facts) = ((facts.relayed ≡ true) ↔ IsMarked n image) × HasDigest form.digest image n Complete facts.digest
