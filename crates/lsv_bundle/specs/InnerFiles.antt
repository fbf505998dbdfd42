-- Words of proofs alone: data files in a list, while they are written.
use Rattle.std.specs.Prelude.{◌≡◌, ◌≢◌, ◌⊎◌, ℕ, ◌+◌, ◌≤◌, List, [], ◌∷◌, ◌++◌, length, Some}
use Rattle.lsv_disk.specs.declared.file.FileId.{FileId}
use Rattle.lsv_disk.specs.declared.file.Owner.{Owner}
use Rattle.lsv_disk.specs.declared.file.Part.{Part}
use Rattle.lsv_disk.specs.declared.file.Part.TheVariants.{Slots}
use Rattle.lsv_disk.specs.Files.{file_of, IsOneOf, AreDistinct}
use Rattle.lsv_disk.specs.View.{Image, DiskView, IsSynced}
use Rattle.lsv_bundle.specs.declared.shape.Shape.{Shape}
use Rattle.lsv_bundle.specs.Shape.{parts_of}
use Rattle.lsv_bundle.specs.Value.{FileView, BundleView}
use Rattle.lsv_bundle.specs.Committed.{HasPrefix, prefix_at}
use Rattle.lsv_bundle.specs.Represents.{Each}

-- the file is one of these
abbrev pub IsAmong : Owner → List FileView → FileId → Type 0
IsAmong owner [] g = ⊥
IsAmong owner (file ∷ files) g = (g ≡ file_of owner file.part) ⊎ IsAmong owner files g

-- the file is one of these, and something is staged of it
abbrev pub IsStagedAmong : Owner → List FileView → FileId → Type 0
IsStagedAmong owner [] g = ⊥
IsStagedAmong owner (file ∷ files) g = ((g ≡ file_of owner file.part) × (file.staged ≢ [])) ⊎ IsStagedAmong owner files g

-- the parts differ
abbrev pub Differ : List FileView → Type 0
Differ [] = Unit {0}
Differ (file ∷ files) = Each (λ other. other.part ≢ file.part) files × Differ files

-- the committed bytes are in the image as they were read
abbrev pub KeepsPrefix : Owner → DiskView → Image → FileView → Type 0
KeepsPrefix owner old image file = HasPrefix (prefix_at old (file_of owner file.part) file.committed) (image (file_of owner file.part))

-- what was staged reads after the committed bytes, and where nothing was, a crash leaves the file as it reads
pub record IsAppended (owner : Owner) (old new : DiskView) (file : FileView) : Type 0 where
  pub content : List ℕ
  pub there : new.reads (file_of owner file.part) ≡ Some content
  pub enough : file.committed + length file.staged ≤ length content
  pub extended : prefix_at new (file_of owner file.part) (file.committed + length file.staged) ≡ prefix_at old (file_of owner file.part) file.committed ++ file.staged
  pub synced : file.staged ≡ [] → IsSynced new (file_of owner file.part)

-- where something is staged of the file, a crash leaves it as it reads
abbrev pub IsSyncedFile : Owner → DiskView → FileView → Type 0
IsSyncedFile owner disk file = file.staged ≢ [] → IsSynced disk (file_of owner file.part)

-- and it was synced once
abbrev pub IsSyncedOnce : Owner → DiskView → DiskView → FileView → Type 0
IsSyncedOnce owner old new file = file.staged ≢ [] → new.syncs (file_of owner file.part) ≡ old.syncs (file_of owner file.part) + 1

-- the parts of the files that a making makes: the shape's, and the journal's
abbrev pub all_parts_of : Shape → List Part
all_parts_of shape = parts_of shape ++ (Slots ∷ [])

-- each part of the list has this
abbrev pub EachPart : (Part → Type 0) → List Part → Type 0
EachPart P [] = Unit {0}
EachPart P (part ∷ parts) = P part × EachPart P parts

-- a data file once what is staged of it is committed
abbrev pub commit_file : FileView → FileView
commit_file file = record { part = file.part; committed = file.committed + length file.staged; staged = [] }

-- data files of which this many bytes are committed, and nothing is staged
abbrev pub cut_to : List FileView → List ℕ → List FileView
cut_to [] lengths = []
cut_to (file ∷ files) [] = file ∷ files
cut_to (file ∷ files) (n ∷ lengths) = record { part = file.part; committed = n; staged = [] } ∷ cut_to files lengths

-- the bundle with other data files
abbrev pub with_files : BundleView → List FileView → BundleView
with_files bundle files = record {
  owner = bundle.owner;
  shape = bundle.shape;
  last = bundle.last;
  prepared = bundle.prepared;
  files = files;
  is_broken = bundle.is_broken;
  journal = bundle.journal;
}

-- these parts are among those, each once
pub record AreSomeOf (owner : Owner) (some parts : List Part) : Type 0 where
  pub one_of : (file : FileId) → IsOneOf owner some file → IsOneOf owner parts file
  pub distinct : AreDistinct owner some
