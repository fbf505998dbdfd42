-- What an image of the disk holds of an event log: the text of its committed lines.
use Rattle.std.specs.Prelude.{◌≡◌, ◌⊎◌, ℕ, List, [], None}
use Rattle.lsv_disk.specs.declared.file.FileId.{FileId}
use Rattle.lsv_disk.specs.declared.file.Owner.TheVariants.{Events}
use Rattle.lsv_disk.specs.declared.file.Part.TheVariants.{Lines}
use Rattle.lsv_disk.specs.View.{Image}
use Rattle.lsv_bundle.specs.declared.shape.Shape.TheVariants as shapes
use Rattle.lsv_bundle.specs.Committed.{Committed, BundleHolds, HoldsEntry}
use Rattle.lsv_bundle.specs.Shape.{IsOwnFile}

-- the file is one of those of a lane's event log
abbrev pub IsOfEventLog : ℕ → FileId → Type 0
IsOfEventLog lane file = IsOwnFile (Events lane) shapes.Lines file

-- the last entry commits this text; without an entry there is none
abbrev pub HoldsLines : Image → ℕ → List ℕ → Type 0
HoldsLines image lane text =
    (BundleHolds (Events lane) shapes.Lines None image × (text ≡ []))
    ⊎ ((entry : Committed) × HoldsEntry (Events lane) shapes.Lines entry image × (entry.bytes Lines ≡ text))

-- both images have the same files of the event log
abbrev pub SameFiles : ℕ → Image → Image → Type 0
SameFiles lane image other = (file : FileId) → IsOfEventLog lane file → other file ≡ image file
