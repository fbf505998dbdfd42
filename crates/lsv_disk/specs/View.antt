-- A disk of many files: what a read gives, and what a crash may leave (POSIX fsync).
-- In a crash the machine stops, by a power cut or a kernel panic; a killed process loses no byte that it wrote.
use Rattle.std.specs.Prelude.{◌≡◌, ◌≢◌, ℕ, ◌+◌, ◌≤◌, List, Option}
use Rattle.lsv_defs.specs.Causes.{HasRisen}
use Rattle.lsv_disk.specs.declared.file.FileId.{FileId}

-- the content of each file
abbrev pub Image : Type 0
Image = FileId → Option (List ℕ)

-- where a store lies: the folder of its logs, and the path of its event log
pub record Places : Type 0 where
  pub logs : List ℕ
  pub events : List ℕ

-- what is known of a disk at a moment
pub record DiskView : Type 1 where
  -- what a read gives
  pub reads : Image
  -- what a crash now may leave of a file, each file for itself
  pub crash_states : FileId → Option (List ℕ) → Type 0
  -- the number of the moment, which the calls count up
  pub moment : ℕ
  -- what a crash at the moment of that number may have left of the whole disk
  pub crash_images_at : ℕ → Image → Type 0
  -- how often calls on a file have failed
  pub faults : FileId → ℕ
  -- how often a file was written by `write_at`, well or not
  pub writes : FileId → ℕ
  -- how often a file was synced
  pub syncs : FileId → ℕ
  -- the places that the disk was given, where it was given some
  pub places : Option Places

-- a crash now may leave this disk
abbrev pub IsCrashImage : DiskView → Image → Type 0
IsCrashImage disk image = (file : FileId) → disk.crash_states file (image file)

-- this content alone may be left
abbrev pub Only : Option (List ℕ) → (Option (List ℕ) → Type 0) → Type 0
Only content outcomes = (c : Option (List ℕ)) → outcomes c → c ≡ content

-- a crash leaves the file as it reads
abbrev pub IsSynced : DiskView → FileId → Type 0
IsSynced disk file = Only (disk.reads file) (disk.crash_states file)

-- each new outcome is an old one after such a step
abbrev pub Follows : (Option (List ℕ) → Option (List ℕ) → Type 0) → (Option (List ℕ) → Type 0) → (Option (List ℕ) → Type 0) → Type 0
Follows step old new = (c : Option (List ℕ)) → new c → (d : Option (List ℕ)) × old d × step d c

-- one call took at most one moment, and what was said of the moments before it stays
pub record Elapses (old new : DiskView) : Type 0 where
  pub later : old.moment ≤ new.moment
  pub one : new.moment ≤ old.moment + 1
  pub past : (k : ℕ) (image : Image) → k ≤ old.moment → new.crash_images_at k image → old.crash_images_at k image
  pub keeps : (k : ℕ) (image : Image) → k ≤ old.moment → old.crash_images_at k image → new.crash_images_at k image

-- all files but the touched ones read as before, and a crash leaves of them what it left before
pub record Elsewhere (Touched : FileId → Type 0) (old new : DiskView) : Type 0 where
  pub same : (file : FileId) → (Touched file → ⊥) → new.reads file ≡ old.reads file
  pub crash : (file : FileId) → (Touched file → ⊥) → (c : Option (List ℕ)) → new.crash_states file c → old.crash_states file c

-- no file reads otherwise, and a crash leaves of each what it left before
pub record Quiet (old new : DiskView) : Type 0 where
  pub same : (file : FileId) → new.reads file ≡ old.reads file
  pub crash : (file : FileId) (c : Option (List ℕ)) → new.crash_states file c → old.crash_states file c

-- no file was written, and none was synced
pub record Uncounted (old new : DiskView) : Type 0 where
  pub writes : (file : FileId) → new.writes file ≡ old.writes file
  pub syncs : (file : FileId) → new.syncs file ≡ old.syncs file

-- one call that changes, writes and syncs no file
pub record OneRead (old new : DiskView) : Type 0 where
  pub quiet : Quiet old new
  pub time : Elapses old new
  pub counts : Uncounted old new
  pub places : new.places ≡ old.places

-- one call that makes this file, or fails to; it touches no other, and writes and syncs none
pub record OneMaking (f : FileId) (old new : DiskView) : Type 0 where
  pub elsewhere : Elsewhere (λ g. g ≡ f) old new
  pub time : Elapses old new
  pub counts : Uncounted old new
  pub places : new.places ≡ old.places

-- a count rose for this file by one at most, and for no other, and fell for none
pub record RoseByOne (f : FileId) (old new : FileId → ℕ) : Type 0 where
  pub never_fell : (g : FileId) → old g ≤ new g
  pub at_most : new f ≤ old f + 1
  pub others : (g : FileId) → g ≢ f → new g ≡ old g

-- one call that touches this file alone, writes it once at most, and syncs none
pub record OneWrite (f : FileId) (old new : DiskView) : Type 0 where
  pub elsewhere : Elsewhere (λ g. g ≡ f) old new
  pub time : Elapses old new
  pub writes : RoseByOne f old.writes new.writes
  pub syncs : (g : FileId) → new.syncs g ≡ old.syncs g
  pub places : new.places ≡ old.places

-- one call that changes and writes no file, and syncs this one at most once
pub record OneSync (f : FileId) (old new : DiskView) : Type 0 where
  pub quiet : Quiet old new
  pub time : Elapses old new
  pub writes : (g : FileId) → new.writes g ≡ old.writes g
  pub syncs : RoseByOne f old.syncs new.syncs
  pub places : new.places ≡ old.places

-- of the files, the moment and the counts nothing is otherwise
pub record IsUntouched (old new : DiskView) : Type 0 where
  pub quiet : Quiet old new
  pub moment : new.moment ≡ old.moment
  pub past : (k : ℕ) (image : Image) → new.crash_images_at k image → old.crash_images_at k image
  pub keeps : (k : ℕ) (image : Image) → old.crash_images_at k image → new.crash_images_at k image
  pub counts : Uncounted old new

-- what a call leaves alone that touches nothing: all, and of a disk that tells nothing the counts of faults
pub record IsLeftAlone (told : Type 0) (old new : DiskView) : Type 0 where
  pub untouched : told → IsUntouched old new
  pub faults : (f : FileId) → new.faults f ≡ old.faults f

-- no count of faults fell, and where the call failed that of this file rose
pub record HasCause (f : FileId) (failed : Type 0) (old new : DiskView) : Type 0 where
  pub monotone : (g : FileId) → old.faults g ≤ new.faults g
  pub risen : failed → HasRisen (old.faults f) (new.faults f)

-- no count of faults fell, and where the call failed that of one of these files rose
pub record HasOwnCause (Own : FileId → Type 0) (failed : Type 0) (old new : DiskView) : Type 0 where
  pub monotone : (g : FileId) → old.faults g ≤ new.faults g
  pub risen : failed → (g : FileId) × Own g × HasRisen (old.faults g) (new.faults g)
