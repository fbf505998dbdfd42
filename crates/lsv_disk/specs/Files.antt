-- Which files there are: whose, and which of its owner's.
use Rattle.std.specs.Prelude.{◌≡◌, ◌⊎◌, ℕ, Bool, List, [], ◌∷◌, Option, Some}
use Rattle.lsv_disk.specs.declared.file.FileId.{FileId}
use Rattle.lsv_disk.specs.declared.file.Owner.{Owner}
use Rattle.lsv_disk.specs.declared.file.Part.{Part}
use Rattle.lsv_disk.specs.declared.file.Part.TheVariants.{Slots}
use Rattle.lsv_disk.specs.contracts.file.FileIdPartialEq.TheImpl as derived

-- these are one file
abbrev pub same_file : FileId → FileId → Bool
same_file = derived.ghosts.eq

-- the file of an owner's part
abbrev pub file_of : Owner → Part → FileId
file_of owner part = record { owner = owner; part = part }

-- the file is the owner's, and of one of these parts
abbrev pub IsOneOf : Owner → List Part → FileId → Type 0
IsOneOf owner [] file = ⊥
IsOneOf owner (part ∷ parts) file = (file ≡ file_of owner part) ⊎ IsOneOf owner parts file

-- no file stands twice among the owner's of these parts
abbrev pub AreDistinct : Owner → List Part → Type 0
AreDistinct owner [] = Unit {0}
AreDistinct owner (part ∷ parts) = (IsOneOf owner parts (file_of owner part) → ⊥) × AreDistinct owner parts

-- what a new file has: no byte, or where it is a file of slots one byte at most, its gate
abbrev pub IsNew : FileId → Option (List ℕ) → Type 0
IsNew file content = (content ≡ Some []) ⊎ ((file.part ≡ Slots) × (gate : ℕ) × (content ≡ Some (gate ∷ [])))
