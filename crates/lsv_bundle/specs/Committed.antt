-- What an image of the disk holds of a bundle.
use Rattle.std.specs.Prelude.{◌≡◌, ◌⊎◌, ℕ, ◌<◌, List, [], ◌∷◌, ◌++◌, length, slice_index, take, Option, Some, None, option_map}
use Rattle.lsv_defs.specs.Pieces.{IsPrefix}
use Rattle.lsv_disk.specs.declared.file.FileId.{FileId}
use Rattle.lsv_disk.specs.declared.file.Owner.{Owner}
use Rattle.lsv_disk.specs.declared.file.Part.{Part}
use Rattle.lsv_disk.specs.Bytes.{bytes_of}
use Rattle.lsv_disk.specs.Files.{file_of}
use Rattle.lsv_disk.specs.View.{Image, DiskView}
use Rattle.lsv_journal.specs.Last.{LastAt, JournalHolds, IsSomeCrashOf}
use Rattle.lsv_bundle.specs.declared.shape.Shape.{Shape}
use Rattle.lsv_bundle.specs.declared.body.Body.{Body}
use Rattle.lsv_bundle.specs.Shape.{parts_of, IsPart, on_shape, index_of, journal_of, IsOwnFile}
use Rattle.lsv_bundle.specs.Body.{encoded, length_of, IsBody}
use Rattle.lsv_bundle.specs.Value.{BundleView, committed_length, staged, next_body, cut_body}

-- what is committed: what the last entry says, and the bytes of each data file up to its lengths
pub record Committed : Type 0 where
  pub body : Body
  pub bytes : Part → List ℕ

-- the file is there, and begins with these bytes
abbrev pub HasPrefix : List ℕ → Option (List ℕ) → Type 0
HasPrefix prefix None = ⊥
HasPrefix prefix (Some bytes) = IsPrefix prefix bytes

-- each data file begins with its bytes
abbrev pub KeepsBytes : Owner → Shape → (Part → List ℕ) → Image → Type 0
KeepsBytes owner shape bytes image = (part : Part) → IsPart shape part → HasPrefix (bytes part) (image (file_of owner part))

-- of the bundle's own files the image has what a crash may leave now
abbrev pub IsOwnImage : Owner → Shape → DiskView → Image → Type 0
IsOwnImage owner shape disk image = (file : FileId) → IsOwnFile owner shape file → disk.crash_states file (image file)

-- the journal's last entry says this, and the data files have the bytes that were committed with it, as many as it says
pub record HoldsEntry (owner : Owner) (shape : Shape) (entry : Committed) (image : Image) : Type 0 where
  pub is_body : IsBody entry.body
  pub last : JournalHolds 89 (journal_of owner) (Some (encoded entry.body)) image
  pub lengths : (part : Part) → IsPart shape part → length (entry.bytes part) ≡ length_of entry.body part
  pub bytes : KeepsBytes owner shape entry.bytes image

-- this is what the bundle holds; or it has no entry
abbrev pub BundleHolds : Owner → Shape → Option Committed → Image → Type 0
BundleHolds owner shape None image = JournalHolds 89 (journal_of owner) None image
BundleHolds owner shape (Some entry) image = HoldsEntry owner shape entry image

-- it holds the one or the other
abbrev pub IsBeforeOrAfter : Owner → Shape → Option Committed → Option Committed → Image → Type 0
IsBeforeOrAfter owner shape before after image = BundleHolds owner shape before image ⊎ BundleHolds owner shape after image

-- the first bytes of a file
abbrev pub prefix_at : DiskView → FileId → ℕ → List ℕ
prefix_at disk file n = take n (bytes_of (disk.reads file))

-- the committed bytes of a part
abbrev pub committed_bytes : BundleView → DiskView → Part → List ℕ
committed_bytes bundle disk part = prefix_at disk (file_of bundle.owner part) (committed_length bundle part)

-- what is committed on a disk, where the bundle has an entry
abbrev pub committed : BundleView → DiskView → Option Committed
committed bundle disk = option_map (λ body. record { body = body; bytes = on_shape bundle.shape (committed_bytes bundle disk) }) bundle.last

-- what is committed once all that is staged is, with this body
abbrev pub committed_as : BundleView → DiskView → Body → Committed
committed_as bundle disk body = record {
  body = body;
  bytes = on_shape bundle.shape (λ part. committed_bytes bundle disk part ++ staged bundle part);
}

-- what is committed by a flush
abbrev pub committed_next : BundleView → DiskView → ℕ → ℕ → ℕ → ℕ → Committed
committed_next bundle disk kind count elapsed extra = committed_as bundle disk (next_body bundle kind count elapsed extra)

-- what is committed by a cut to these lengths
abbrev pub committed_cut : BundleView → DiskView → List ℕ → ℕ → ℕ → ℕ → Committed
committed_cut bundle disk lengths count elapsed extra = record {
  body = cut_body lengths count elapsed extra;
  bytes = on_shape bundle.shape (λ part. take (slice_index lengths (index_of part)) (committed_bytes bundle disk part));
}

-- it holds what was committed on that disk, and of each data file the bytes that were
pub record KeepsCommitted (bundle : BundleView) (disk : DiskView) (image : Image) : Type 0 where
  pub holds : BundleHolds bundle.owner bundle.shape (committed bundle disk) image
  pub bytes : KeepsBytes bundle.owner bundle.shape (committed_bytes bundle disk) image

-- as a making leaves it: each data file as a crash could leave it before, or empty; the journal with the last entry of some crash image before, or with none
pub record IsBeingMade (owner : Owner) (shape : Shape) (disk : DiskView) (image : Image) : Type 0 where
  pub files : (part : Part) → IsPart shape part → disk.crash_states (file_of owner part) (image (file_of owner part)) ⊎ (image (file_of owner part) ≡ Some [])
  pub journal : IsSomeCrashOf 89 (journal_of owner) disk image ⊎ JournalHolds 89 (journal_of owner) None image

-- the journal's last entry says this
pub record HasEntry (owner : Owner) (body : Body) (image : Image) : Type 0 where
  pub is_body : IsBody body
  pub last : LastAt 89 (journal_of owner) image ≡ Some (encoded body)

-- the file is absent, or has fewer bytes than that
abbrev pub IsShort : Option (List ℕ) → ℕ → Type 0
IsShort None n = Unit {0}
IsShort (Some bytes) n = length bytes < n

-- of these data files this is the first that is absent or shorter than that
abbrev pub IsFirstShort : Owner → Image → List ℕ → List Part → Part → Type 0
IsFirstShort owner image lengths [] part = ⊥
IsFirstShort owner image lengths (first ∷ parts) part =
    ((part ≡ first) × IsShort (image (file_of owner first)) (slice_index lengths (index_of first)))
    ⊎ ((IsShort (image (file_of owner first)) (slice_index lengths (index_of first)) → ⊥) × IsFirstShort owner image lengths parts part)

-- the journal has an entry, and this is the first data file that is absent or shorter than it says
pub record IsDamaged (owner : Owner) (shape : Shape) (image : Image) (part : Part) : Type 0 where
  pub body : Body
  pub entry : HasEntry owner body image
  pub first : IsFirstShort owner image body.lens (parts_of shape) part
