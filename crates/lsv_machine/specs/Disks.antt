-- What crash images hold of a log, of the numbers and of the event log: the words in which a keeper says what it leaves.
use Rattle.std.specs.Prelude.{◌≡◌, ◌<◌, ◌⊎◌, ◌++◌, ℕ, List, [], ◌∷◌, Some, Ok}
use Rattle.lsv_disk.specs.Throughout.{Jointly, Throughout}
use Rattle.lsv_disk.specs.View.{DiskView, Image, IsCrashImage}
use Rattle.lsv_disk.specs.declared.file.FileId.{FileId}
use Rattle.lsv_disk.specs.declared.file.Owner.TheVariants.{Events, Log, Numbers}
use Rattle.lsv_request.specs.declared.request.Request.TheVariants.{Restart as AsRestart}
use Rattle.lsv_request.specs.declared.request.Restart.{Restart}
use Rattle.lsv_session.specs.declared.connection.ConnId.{ConnId}
use Rattle.lsv_session.specs.declared.job.Body.{Body}
use Rattle.lsv_machine.specs.Durable.{GoodAt, Reading, Recovered, Within}
use Rattle.lsv_machine.specs.Failures.{Act, AsksFor}
use Rattle.lsv_machine.specs.History.{Ledger, request_in}
use Rattle.lsv_machine.specs.Machine.{IsOfLane, Machine, Settings}
use Rattle.lsv_machine.specs.Turns.{Happened, Happened.Did, Run}

-- a history, and the jobs of the turn that a crash may have cut
pub record Past : Type 0 where
  pub history : List Happened
  pub acts : List Act

-- ---- The files

-- a connection writes the log
abbrev pub IsWritten : Machine → ℕ → Type 0
IsWritten m n = (k : ConnId) × (m.owner n ≡ Some k)

-- a job asks to go on with this log
abbrev pub AsksToResume : Body → ℕ → Type 0
AsksToResume body n = (restart : Restart) × (request_in body ≡ Ok (AsRestart restart)) × (restart.log ≡ n)

-- one of these jobs does
abbrev pub AnyAsksToResume : List Act → ℕ → Type 0
AnyAsksToResume [] n = ⊥
AnyAsksToResume (act ∷ acts) n = AsksToResume act.job.body n ⊎ AnyAsksToResume acts n

-- the files of a lane's store: of its own logs and of other logs that are told, of its numbers, and of its event log
abbrev pub IsOfLaneStore : (lane lanes : ℕ) → (IsToldOf : ℕ → Type 0) → FileId → Type 0
IsOfLaneStore lane lanes IsToldOf file = ((n : ℕ) × (IsOfLane lane lanes n ⊎ IsToldOf n) × (file.owner ≡ Log n)) ⊎ (file.owner ≡ Numbers lane) ⊎ (file.owner ≡ Events lane)

-- no other file was touched, and the store lies where it lay
abbrev pub TouchesStore : (lane lanes : ℕ) → (IsToldOf : ℕ → Type 0) → DiskView → DiskView → Type 0
TouchesStore lane lanes IsToldOf old new = Throughout (IsOfLaneStore lane lanes IsToldOf) (λ image. Unit {0}) old new

-- a job asks to go on with this log, and its judgement by the connection's state lets it through
abbrev pub AsksNow : Machine → Act → ℕ → Type 0
AsksNow m act n = (restart : Restart) × AsksFor (m.states act.job.conn) act.job.body (AsRestart restart) × (restart.log ≡ n)

-- a job of this run asks to go on with this log, and the machine as it is then lets it through
pub record AsksInRun (set : Settings) (start : Machine) (history : List Happened) (n : ℕ) : Type 0 where
  pub before : List Happened
  pub act : Act
  pub after : List Happened
  pub is : history ≡ before ++ Did act ∷ after
  pub mid : Machine
  pub run : Run set start before mid
  pub asks : AsksNow mid act n

-- of other logs than the lane's a job is told these: those that connections write, and the one that it asks to go on with
abbrev pub IsToldBy : Machine → Act → ℕ → Type 0
IsToldBy m act n = IsWritten m n ⊎ AsksNow m act n

-- and a run from this machine: those that connections write, and those that jobs of the run ask to go on with
abbrev pub IsToldIn : Settings → Machine → List Happened → ℕ → Type 0
IsToldIn set m history n = IsWritten m n ⊎ AsksInRun set m history n

-- ---- A log

-- each of these images is good for the ledger
abbrev pub AllGood : Reading → Ledger → ℕ → (Image → Type 0) → Type 0
AllGood r l n images = (image : Image) → images image → GoodAt r l n image

-- each of these images is good for the ledger before a job, or for the one after it
abbrev pub GoodOr : Reading → Ledger → Ledger → ℕ → (Image → Type 0) → Type 0
GoodOr r before after n images = (image : Image) → images image → GoodAt r before n image ⊎ GoodAt r after n image

-- each of these images is within what happened
abbrev pub AllWithin : Reading → Past → ℕ → (Image → Type 0) → Type 0
AllWithin r p n images = (image : Image) → images image → Within r p.history p.acts image n

-- of the log the same is read on two images
pub record SameLog (r : Reading) (n : ℕ) (was image : Image) : Type 0 where
  pub to : (found : Recovered) → r.replays was n found → r.replays image n found
  pub back : (found : Recovered) → r.replays image n found → r.replays was n found

-- each of these images holds of the log what one of those before held
abbrev pub AsBefore : Reading → ℕ → (before images : Image → Type 0) → Type 0
AsBefore r n before images = (image : Image) → images image → (was : Image) × before was × SameLog r n was image

-- a log of which each image holds what one held before, and which reads as it did: nothing but syncs touched it
pub record Rests (r : Reading) (n : ℕ) (old new : DiskView) : Type 0 where
  pub images : AsBefore r n (IsCrashImage old) (IsCrashImage new)
  pub reads : SameLog r n old.reads new.reads

-- ---- Numbers

-- every image tells the last number of the lane, and no image holds a file of a log of the lane above the last number of any image
pub record NumbersFit (r : Reading) (lane lanes : ℕ) (images : Image → Type 0) : Type 0 where
  pub told : (image : Image) → images image → (last : ℕ) × r.drawn image last
  pub none_above : (a b : Image) (last n : ℕ) → images a → images b → r.drawn a last → IsOfLane lane lanes n → last < n → r.bare b n

-- the numbers fit at each moment, and at the end
pub record KeepsNumbers (r : Reading) (lane lanes : ℕ) (old new : DiskView) : Type 0 where
  pub moments : Jointly (NumbersFit r lane lanes) old new
  pub now : NumbersFit r lane lanes (IsCrashImage new)

-- ---- The event log

-- of the event log the same is read on two images
pub record SameLines (r : Reading) (was image : Image) : Type 0 where
  pub to : (text : List ℕ) → r.lines was text → r.lines image text
  pub back : (text : List ℕ) → r.lines image text → r.lines was text

-- the event log of an image holds what that of one of those before held
abbrev pub LinesAs : Reading → (before : Image → Type 0) → Image → Type 0
LinesAs r before image = (was : Image) × before was × SameLines r was image

-- each of these images holds of the event log what one of those before held
abbrev pub LinesAsBefore : Reading → (before images : Image → Type 0) → Type 0
LinesAsBefore r before images = (image : Image) → images image → LinesAs r before image

-- each of these images holds of the event log what one of those before held, or this text
abbrev pub LinesAsBeforeOr : Reading → (before : Image → Type 0) → List ℕ → (Image → Type 0) → Type 0
LinesAsBeforeOr r before text images = (image : Image) → images image → LinesAs r before image ⊎ r.lines image text

-- each image holds of the event log what one held before, at each moment and at the end, and it reads as it did
pub record LinesRest (r : Reading) (old new : DiskView) : Type 0 where
  pub moments : Jointly (LinesAsBefore r (IsCrashImage old)) old new
  pub now : LinesAsBefore r (IsCrashImage old) (IsCrashImage new)
  pub reads : SameLines r old.reads new.reads
