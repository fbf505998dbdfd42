-- What holds at each moment of some calls, for every disk that a crash may leave there.
use Rattle.std.specs.Prelude.{◌≡◌, ℕ, ◌+◌, ◌≤◌}
use Rattle.lsv_disk.specs.declared.file.FileId.{FileId}
use Rattle.lsv_disk.specs.View.{Image, DiskView, Elsewhere, Uncounted}

-- from old to new only these files were touched, and each crash image of each moment from old's on has P
pub record Throughout (Touched : FileId → Type 0) (P : Image → Type 0) (old new : DiskView) : Type 0 where
  pub later : old.moment ≤ new.moment
  pub past : (k : ℕ) (image : Image) → k ≤ old.moment → new.crash_images_at k image → old.crash_images_at k image
  pub keeps : (k : ℕ) (image : Image) → k ≤ old.moment → old.crash_images_at k image → new.crash_images_at k image
  pub elsewhere : Elsewhere Touched old new
  pub each : (k : ℕ) (image : Image) → old.moment ≤ k → k ≤ new.moment → new.crash_images_at k image → P image
  -- the files that aren't touched are at each moment as a crash could leave them before
  pub beside : (k : ℕ) (image : Image) → old.moment ≤ k → k ≤ new.moment → new.crash_images_at k image → (file : FileId) → (Touched file → ⊥) → old.crash_states file (image file)
  pub places : new.places ≡ old.places

-- nothing was touched, at no moment
abbrev pub Unchanged : DiskView → DiskView → Type 0
Unchanged old new = Throughout (λ _. ⊥) (λ _. Unit {0}) old new

-- some calls that change, write and sync no file
pub record OnlyReads (old new : DiskView) : Type 0 where
  pub unchanged : Unchanged old new
  pub counts : Uncounted old new

-- a count rose for each of these files by so much at most, and for no other, and fell for none
pub record RoseAtMost (n : ℕ) (Own : FileId → Type 0) (old new : FileId → ℕ) : Type 0 where
  pub never_fell : (file : FileId) → old file ≤ new file
  pub own : (file : FileId) → Own file → new file ≤ old file + n
  pub others : (file : FileId) → (Own file → ⊥) → new file ≡ old file

-- each of these files was written m times and synced n times at most, and no other was written or synced
pub record CallsAtMost (m n : ℕ) (Own : FileId → Type 0) (old new : DiskView) : Type 0 where
  pub writes : RoseAtMost m Own old.writes new.writes
  pub syncs : RoseAtMost n Own old.syncs new.syncs

-- the one file was written m times at most, each of the others synced n times at most, and no other was written or synced
pub record WritesOneOf (f : FileId) (m n : ℕ) (Own : FileId → Type 0) (old new : DiskView) : Type 0 where
  pub writes : RoseAtMost m (λ g. g ≡ f) old.writes new.writes
  pub syncs : RoseAtMost n Own old.syncs new.syncs

-- the crash images of each moment from old's to new's, taken together, hold this
pub record Jointly (Holds : (Image → Type 0) → Type 0) (old new : DiskView) : Type 0 where
  pub later : old.moment ≤ new.moment
  pub past : (k : ℕ) (image : Image) → k ≤ old.moment → new.crash_images_at k image → old.crash_images_at k image
  pub keeps : (k : ℕ) (image : Image) → k ≤ old.moment → old.crash_images_at k image → new.crash_images_at k image
  pub each : (k : ℕ) → old.moment ≤ k → k ≤ new.moment → Holds (new.crash_images_at k)
