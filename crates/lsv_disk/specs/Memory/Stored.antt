-- The files that are there, as a disk in memory holds them.
use Rattle.std.specs.Prelude.{◌≡◌, ℕ, List, Option, option_map, unwrap_or}
use Rattle.std.specs.HashMap.{HashMap, get}
use Rattle.std.specs.declared.alloc.Global.{Global}
use Rattle.std.specs.declared.vec.Vec.{Vec}
use Rattle.lsv_disk.specs.declared.file.FileId.{FileId}
use Rattle.lsv_disk.specs.declared.memory.call.Call.{Call}
use Rattle.lsv_disk.specs.declared.memory.places.StorePlaces.{StorePlaces}
use Rattle.lsv_disk.specs.View.{Image, Places}
use Rattle.lsv_disk.specs.Files.{same_file}
use Rattle.lsv_disk.specs.Memory.Calls.{reads_of}

-- the bytes of a file, where it is there
abbrev pub content_of : {S : Type 0} → HashMap FileId (Vec ℕ Global) S → Image
content_of files file = option_map (λ bytes. bytes.items) (get same_file files file)

-- files with this content are what the calls made of them
abbrev pub ReadsAs : Image → List Call → Type 0
ReadsAs content calls = (file : FileId) → content file ≡ reads_of calls file

-- and so the files of a disk in memory
abbrev pub IsResult : {S : Type 0} → HashMap FileId (Vec ℕ Global) S → List Call → Type 0
IsResult files calls = ReadsAs (content_of files) calls

-- the number that is kept for the file, or 0
abbrev pub count_for : {S : Type 0} → HashMap FileId ℕ S → FileId → ℕ
count_for counts file = unwrap_or (get same_file counts file) 0

-- the places that are kept
abbrev pub places_of : Option StorePlaces → Option Places
places_of kept = option_map (λ places. record { logs = places.logs.items; events = places.events.items }) kept
