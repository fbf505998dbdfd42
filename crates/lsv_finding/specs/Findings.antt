-- What is found of one log, as an image of the disk has it.
use Rattle.std.specs.Prelude.{◌≡◌, ◌≢◌, ◌⊎◌, ℕ, List, [], ◌∷◌, length, Bool, nat_lt, find, Option, Some, None, Ok}
use Rattle.lsv_disk.specs.declared.file.Part.{Part}
use Rattle.lsv_disk.specs.declared.file.Part.TheVariants.{Exit as ExitPart, Timing, Stdin, Stdout, Stderr, Ttyin, Ttyout}
use Rattle.lsv_disk.specs.Bytes.{bytes_of}
use Rattle.lsv_disk.specs.Files.{file_of}
use Rattle.lsv_disk.specs.View.{Image}
use Rattle.lsv_bundle.specs.declared.body.Body.{Body}
use Rattle.lsv_bundle.specs.Body.{length_of}
use Rattle.lsv_info.specs.declared.times.Exit.{Exit}
use Rattle.lsv_info.specs.declared.times.Head.{Head}
use Rattle.lsv_info.specs.Reading.{exit_of}
use Rattle.lsv_iolog.specs.Damage.{IsViewDamage}
use Rattle.lsv_iolog.specs.Recovered.{Replays, ReplaysNothing, owner_of}
use Rattle.lsv_play.specs.Playing.{AreBeforeFault, IsOpened, laid_at}
use Rattle.lsv_record.specs.declared.records.Record.{Record}
use Rattle.lsv_record.specs.Points.{Stored}

-- what is found of a log
pub data Finding : Type 0 where
  -- there is no log of this number, and no file of its content has bytes
  Nowhere : Finding
  -- its journal is absent or has no entry, and yet this file of its content has bytes
  Unlisted : Part → Finding
  -- it has an entry and isn't opened: this file is absent or short, or it is the head and no head
  Closed : Part → Finding
  -- it is opened; its committed bytes begin with these records, and after them this part is at fault
  Broken : Head → Body → List Record → Part → Finding
  -- it is a stored log, with what its exit reads as, if it has one that reads
  Sound : Head → Body → Stored → Option Exit → Finding

-- ---- A log without an entry

-- the files of a log's content; its making writes none of them before the first entry, but the head
abbrev pub content_parts : List Part
content_parts = ExitPart ∷ Timing ∷ Stdin ∷ Stdout ∷ Stderr ∷ Ttyin ∷ Ttyout ∷ []

-- this file of the log has bytes
abbrev pub has_bytes : Image → ℕ → Part → Bool
has_bytes image n part = nat_lt 0 (length (bytes_of (image (file_of (owner_of n) part))))

-- the first of these files of the log that has bytes
abbrev pub first_with_bytes : Image → ℕ → List Part → Option Part
first_with_bytes image n parts = find (has_bytes image n) parts

-- ---- A log that is opened

-- a text of an exit is committed exactly if the last entry is that of a complete log
pub record HasExitLength (body : Body) : Type 0 where
  pub some : body.kind ≡ 3 → length_of body ExitPart ≢ 0
  pub none : body.kind ≢ 3 → length_of body ExitPart ≡ 0

-- before any record the exit is at fault, since its length doesn't fit the last entry
pub record IsExitUnfit (body : Body) (records : List Record) (part : Part) : Type 0 where
  pub part_is : part ≡ ExitPart
  pub none : records ≡ []
  pub unfit : HasExitLength body → ⊥

-- after these records of a log with this entry this part is at fault
abbrev pub IsBreak : Image → ℕ → Body → List Record → Part → Type 0
IsBreak image n body records part = IsExitUnfit body records part ⊎ (HasExitLength body × AreBeforeFault (laid_at n body image) body part records)

-- what the exit of a stored log reads as: nothing if there is none, or if its text is that of no exit
abbrev pub ReadsExit : Option (List ℕ) → Option Exit → Type 0
ReadsExit None exit = exit ≡ None
ReadsExit (Some text) (Some exit) = exit_of text ≡ Ok exit
ReadsExit (Some text) None = (exit : Exit) → exit_of text ≡ Ok exit → ⊥

-- ---- All of them

-- this is found of the log of this number
abbrev pub IsFinding : Image → ℕ → Finding → Type 0
IsFinding image n Nowhere = Replays image n None × (first_with_bytes image n content_parts ≡ None)
IsFinding image n (Unlisted part) = Replays image n None × (first_with_bytes image n content_parts ≡ Some part)
IsFinding image n (Closed part) = IsViewDamage n part image
IsFinding image n (Broken head body records part) = IsOpened n body head image × IsBreak image n body records part
IsFinding image n (Sound head body log exit) = IsOpened n body head image × Replays image n (Some log) × ReadsExit log.exit exit

-- what a finding says in the words of recovery: no log, a damaged one, or this stored one
abbrev pub Means : Image → ℕ → Finding → Type 0
Means image n Nowhere = Replays image n None
Means image n (Unlisted part) = Replays image n None
Means image n (Closed part) = ReplaysNothing image n
Means image n (Broken head body records part) = ReplaysNothing image n
Means image n (Sound head body log exit) = Replays image n (Some log)

-- there is no log, by its journal
abbrev pub IsAbsent : Finding → Type 0
IsAbsent Nowhere = Unit {0}
IsAbsent (Unlisted part) = Unit {0}
IsAbsent (Closed part) = ⊥
IsAbsent (Broken head body records part) = ⊥
IsAbsent (Sound head body log exit) = ⊥

-- it has an entry, and isn't stored
abbrev pub IsDamage : Finding → Type 0
IsDamage Nowhere = ⊥
IsDamage (Unlisted part) = ⊥
IsDamage (Closed part) = Unit {0}
IsDamage (Broken head body records part) = Unit {0}
IsDamage (Sound head body log exit) = ⊥

-- this log is stored
abbrev pub IsStored : Stored → Finding → Type 0
IsStored log Nowhere = ⊥
IsStored log (Unlisted part) = ⊥
IsStored log (Closed part) = ⊥
IsStored log (Broken head body records part) = ⊥
IsStored log (Sound head body found exit) = found ≡ log
