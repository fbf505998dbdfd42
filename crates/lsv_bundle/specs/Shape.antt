-- Which files a bundle has, and the order of their lengths.
use Rattle.std.specs.Prelude.{ℕ, ◌-◌, List, [], ◌∷◌, ◌++◌, length, map, replicate, ◌⊎◌, ◌≡◌}
use Rattle.lsv_disk.specs.declared.file.FileId.{FileId}
use Rattle.lsv_disk.specs.declared.file.Owner.{Owner}
use Rattle.lsv_disk.specs.declared.file.Part.{Part}
use Rattle.lsv_disk.specs.declared.file.Part.TheVariants.{Head, Exit, Timing, Stdin, Stdout, Stderr, Ttyin, Ttyout, Lines, Id, Commit, Slots}
use Rattle.lsv_disk.specs.Files.{file_of}
use Rattle.lsv_bundle.specs.declared.shape.Shape.{Shape}
use Rattle.lsv_bundle.specs.declared.shape.Shape.TheVariants as shape
use Rattle.lsv_journal.specs.Last.{IsOwn}

-- the data files of a shape, in the order of the eight lengths
abbrev pub parts_of : Shape → List Part
parts_of shape.Log = Head ∷ Exit ∷ Timing ∷ Stdin ∷ Stdout ∷ Stderr ∷ Ttyin ∷ Ttyout ∷ []
parts_of shape.Lines = Lines ∷ []
parts_of shape.Relay = Id ∷ []

-- the shape has this data file
abbrev pub IsPart : Shape → Part → Type 0
IsPart shape.Log Lines = ⊥
IsPart shape.Log Id = ⊥
IsPart shape.Log Commit = ⊥
IsPart shape.Log Slots = ⊥
IsPart shape.Log part = Unit {0}
IsPart shape.Lines part = part ≡ Lines
IsPart shape.Relay part = part ≡ Id

-- these bytes of each data file of the shape, and none of any other file
unfoldable pub on_shape : Shape → (Part → List ℕ) → Part → List ℕ
on_shape shape.Log bytes Lines = []
on_shape shape.Log bytes Id = []
on_shape shape.Log bytes Commit = []
on_shape shape.Log bytes Slots = []
on_shape shape.Log bytes part = bytes part
on_shape shape.Lines bytes Lines = bytes Lines
on_shape shape.Lines bytes part = []
on_shape shape.Relay bytes Id = bytes Id
on_shape shape.Relay bytes part = []

-- where a part's length stands among the eight, the first one at 0
abbrev pub index_of : Part → ℕ
index_of Exit = 1
index_of Timing = 2
index_of Stdin = 3
index_of Stdout = 4
index_of Stderr = 5
index_of Ttyin = 6
index_of Ttyout = 7
index_of part = 0

-- eight lengths, one for each part of the shape, in order; unused ones are 0
abbrev pub eight : Shape → (Part → ℕ) → List ℕ
eight shape lengths = map lengths (parts_of shape) ++ replicate (8 - length (parts_of shape)) 0

-- the name of an owner's journal
abbrev pub journal_of : Owner → FileId
journal_of owner = file_of owner Slots

-- one of the data files of an owner's bundle
abbrev pub IsDataFile : Owner → Shape → FileId → Type 0
IsDataFile owner shape file = (part : Part) × IsPart shape part × (file ≡ file_of owner part)

-- one of the files that an owner's bundle writes: a data file or the journal
abbrev pub IsWritable : Owner → Shape → FileId → Type 0
IsWritable owner shape file = IsDataFile owner shape file ⊎ (file ≡ journal_of owner)

-- one of the files that an owner's bundle is read from: a data file, or one of its journal's
abbrev pub IsOwnFile : Owner → Shape → FileId → Type 0
IsOwnFile owner shape file = IsDataFile owner shape file ⊎ IsOwn (journal_of owner) file
