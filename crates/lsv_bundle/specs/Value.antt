-- A bundle's value, as contracts see it.
use Rattle.std.specs.Prelude.{◌≡◌, ◌≢◌, ℕ, ◌+◌, Bool, false, List, [], length, map, slice_index, slice_index_or, Option, Some, None}
use Rattle.lsv_disk.specs.declared.file.FileId.{FileId}
use Rattle.lsv_disk.specs.declared.file.Owner.{Owner}
use Rattle.lsv_disk.specs.declared.file.Part.{Part}
use Rattle.lsv_disk.specs.Files.{file_of}
use Rattle.lsv_journal.specs.declared.journal.Journal.{Journal}
use Rattle.lsv_bundle.specs.declared.shape.Shape.{Shape}
use Rattle.lsv_bundle.specs.declared.body.Body.{Body}
use Rattle.lsv_bundle.specs.Shape.{IsPart, index_of, eight}

-- a data file: how many of its bytes are committed, and what is staged after them
pub record FileView : Type 0 where
  pub part : Part
  pub committed : ℕ
  pub staged : List ℕ

-- a bundle
pub record BundleView : Type 0 where
  pub owner : Owner
  pub shape : Shape
  -- what its last entry says, where it has an entry
  pub last : Option Body
  -- what the entry says that was written and isn't selected yet
  pub prepared : Option Body
  -- its data files, in the order of the eight lengths
  pub files : List FileView
  -- it answered that the disk failed, and wasn't opened again
  pub is_broken : Bool
  pub journal : Journal 89

-- how many bytes of a part are committed
abbrev pub committed_length : BundleView → Part → ℕ
committed_length bundle part = slice_index (map (λ file. file.committed) bundle.files) (index_of part)

-- what is staged of a part
abbrev pub staged : BundleView → Part → List ℕ
staged bundle part = slice_index_or (map (λ file. file.staged) bundle.files) (index_of part) []

-- how many bytes of a part are committed with the next entry
abbrev pub next_length : BundleView → Part → ℕ
next_length bundle part = committed_length bundle part + length (staged bundle part)

-- how many bytes of each data file are committed, in order
abbrev pub lengths_of : BundleView → List ℕ
lengths_of bundle = map (λ file. file.committed) bundle.files

-- what the next entry says
abbrev pub next_body : BundleView → ℕ → ℕ → ℕ → ℕ → Body
next_body bundle kind count elapsed extra = record {
  kind = kind;
  count = count;
  elapsed = elapsed;
  lens = eight bundle.shape (next_length bundle);
  extra = extra;
}

-- what the entry of a cut says
abbrev pub cut_body : List ℕ → ℕ → ℕ → ℕ → Body
cut_body lengths count elapsed extra = record { kind = 2; count = count; elapsed = elapsed; lens = lengths; extra = extra }

-- without what is staged
abbrev pub unstaged : BundleView → BundleView
unstaged bundle = record {
  owner = bundle.owner;
  shape = bundle.shape;
  last = bundle.last;
  prepared = bundle.prepared;
  files = map (λ file. record { part = file.part; committed = file.committed; staged = [] }) bundle.files;
  is_broken = bundle.is_broken;
  journal = bundle.journal;
}

-- a data file of which something is staged
abbrev pub IsStagedFile : BundleView → FileId → Type 0
IsStagedFile bundle file = (part : Part) × IsPart bundle.shape part × (staged bundle part ≢ []) × (file ≡ file_of bundle.owner part)

-- nothing is staged
abbrev pub NoneStaged : BundleView → Type 0
NoneStaged bundle = (part : Part) → IsPart bundle.shape part → staged bundle part ≡ []

-- of this owner and shape, not broken, and with nothing staged nor prepared
pub record IsFresh (owner : Owner) (shape : Shape) (bundle : BundleView) : Type 0 where
  pub owner_is : bundle.owner ≡ owner
  pub shape_is : bundle.shape ≡ shape
  pub whole : bundle.is_broken ≡ false
  pub none_prepared : bundle.prepared ≡ None
  pub none_staged : NoneStaged bundle

-- of the same owner and shape, and what is committed and staged is as it was
pub record IsKept (old new : BundleView) : Type 0 where
  pub owner : new.owner ≡ old.owner
  pub shape : new.shape ≡ old.shape
  pub last : new.last ≡ old.last
  pub files : new.files ≡ old.files

-- it keeps what is committed and staged, and where the call succeeded it is as it was
pub record KeptBy (succeeded : Type 0) (old new : BundleView) : Type 0 where
  pub same : succeeded → new ≡ old
  pub kept : IsKept old new

-- where the call failed what is committed and staged is as it was, and where it was refused nothing was done
pub record KeptAtError {D : Type 0} (failed refused : Type 0) (old new : BundleView) (disk disk_now : D) : Type 0 where
  pub kept : failed → IsKept old new
  pub untouched : refused → (new ≡ old) × (disk_now ≡ disk)

-- these bytes are staged of a part, and all else is as it was
pub record IsStaged (part : Part) (bytes : List ℕ) (old new : BundleView) : Type 0 where
  pub staged_is : staged new part ≡ bytes
  pub others : (other : Part) → IsPart old.shape other → other ≢ part → staged new other ≡ staged old other
  pub same : unstaged new ≡ unstaged old

-- this entry is prepared; what is committed and staged is as it was, and it isn't broken
pub record IsEntryWritten (body : Body) (old new : BundleView) : Type 0 where
  pub prepared_is : new.prepared ≡ Some body
  pub kept : IsKept old new
  pub whole : new.is_broken ≡ false

-- this entry is the last one, with these lengths; nothing is staged nor prepared, and it isn't broken
pub record IsCommitted (body : Body) (lengths : Part → ℕ) (old new : BundleView) : Type 0 where
  pub owner : new.owner ≡ old.owner
  pub shape : new.shape ≡ old.shape
  pub last : new.last ≡ Some body
  pub lengths_are : (part : Part) → IsPart old.shape part → committed_length new part ≡ lengths part
  pub none_staged : NoneStaged new
  pub none_prepared : new.prepared ≡ None
  pub whole : new.is_broken ≡ false

-- an entry is prepared, with the lengths of what is committed and staged now
abbrev pub IsPrepared : BundleView → Type 0
IsPrepared bundle = (body : Body) × (bundle.prepared ≡ Some body) × (body.lens ≡ eight bundle.shape (next_length bundle))
