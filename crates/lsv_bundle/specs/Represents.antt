-- The value of a bundle matches a disk that tells its files.
use Rattle.std.specs.Prelude.{◌≡◌, ℕ, ◌+◌, ◌≤◌, false, List, [], ◌∷◌, ◌++◌, length, map, Some, option_map}
use Rattle.lsv_disk.specs.declared.file.FileId.{FileId}
use Rattle.lsv_disk.specs.declared.file.Owner.{Owner}
use Rattle.lsv_disk.specs.declared.file.Part.{Part}
use Rattle.lsv_disk.specs.Files.{file_of}
use Rattle.lsv_disk.specs.View.{DiskView, IsSynced}
use Rattle.lsv_journal.specs.Value as journals
use Rattle.lsv_journal.specs.Represents as represents
use Rattle.lsv_bundle.specs.declared.body.Body.{Body}
use Rattle.lsv_bundle.specs.Shape.{parts_of, IsPart, journal_of}
use Rattle.lsv_bundle.specs.Body.{encoded, length_of, IsBody}
use Rattle.lsv_bundle.specs.Value.{FileView, BundleView, committed_length}
use Rattle.lsv_bundle.specs.Committed.{prefix_at}

-- its data files are its shape's, its journal is its owner's and says what it says, and is not broken where the bundle is not
pub record WellFormed (bundle : BundleView) : Type 0 where
  pub parts : map (λ file. file.part) bundle.files ≡ parts_of bundle.shape
  pub at : journals.file bundle.journal ≡ journal_of bundle.owner
  pub whole : bundle.is_broken ≡ false → journals.is_broken bundle.journal ≡ false
  pub last_body : (body : Body) → bundle.last ≡ Some body → IsBody body
  pub prepared : bundle.is_broken ≡ false → journals.prepared bundle.journal ≡ option_map encoded bundle.prepared
  pub prepared_body : (body : Body) → bundle.prepared ≡ Some body → IsBody body

-- each file of the list has this
abbrev pub Each : (FileView → Type 0) → List FileView → Type 0
Each P [] = Unit {0}
Each P (file ∷ files) = P file × Each P files

-- a crash leaves the file as it reads, and it has at least n bytes
pub record IsDurable (disk : DiskView) (file : FileId) (n : ℕ) : Type 0 where
  pub content : List ℕ
  pub there : disk.reads file ≡ Some content
  pub enough : n ≤ length content
  pub synced : IsSynced disk file

-- a crash leaves the data file as it reads, with its committed bytes
abbrev pub IsDurableFile : Owner → DiskView → FileView → Type 0
IsDurableFile owner disk file = IsDurable disk (file_of owner file.part) file.committed

-- the bundle may be written to: its journal may, and a crash leaves its data files as they read, with what is committed
pub record Represents (bundle : BundleView) (disk : DiskView) : Type 0 where
  pub well_formed : WellFormed bundle
  pub journal : represents.Represents bundle.journal disk
  pub entry : journals.last bundle.journal ≡ option_map encoded bundle.last
  pub files : Each (IsDurableFile bundle.owner disk) bundle.files
  pub lengths : (body : Body) → bundle.last ≡ Some body → (part : Part) → IsPart bundle.shape part → length_of body part ≡ committed_length bundle part

-- a crash leaves after the committed bytes of the file what is staged of it
pub record IsWritten (owner : Owner) (disk : DiskView) (file : FileView) : Type 0 where
  pub durable : IsDurable disk (file_of owner file.part) (file.committed + length file.staged)
  pub extended : prefix_at disk (file_of owner file.part) (file.committed + length file.staged) ≡ prefix_at disk (file_of owner file.part) file.committed ++ file.staged

-- and so of each data file
abbrev pub DataIsWritten : BundleView → DiskView → Type 0
DataIsWritten bundle disk = Each (IsWritten bundle.owner disk) bundle.files
