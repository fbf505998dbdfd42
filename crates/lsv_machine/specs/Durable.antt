-- The durable prefix: what an image of the disk may hold of a log after a history.
use Rattle.std.specs.Prelude.{◌≡◌, ◌≤◌, ℕ, false, List, [], ◌++◌, length, take, Option, Some, None}
use Rattle.lsv_disk.specs.View.{Image}
use Rattle.lsv_record.specs.Points.{Stored}
use Rattle.lsv_record.specs.declared.records.Record.{Record}
use Rattle.lsv_machine.specs.Failures.{Act}
use Rattle.lsv_machine.specs.History.{Ledger, ledger}
use Rattle.lsv_machine.specs.Turns.{Happened, all_acted}

-- what is recovered of a log: nothing, where it is absent, or the log as it is stored
abbrev pub Recovered : Type 0
Recovered = Option Stored

-- how images are read: of each log what is recovered, which is neither where the log is damaged, and whether no file of it is there; the last number that was drawn in the lane, 0 where none was;
-- and the text of the lane's event log
pub record Reading : Type 1 where
  pub replays : Image → ℕ → Recovered → Type 0
  pub bare : Image → ℕ → Type 0
  pub drawn : Image → ℕ → Type 0
  pub lines : Image → List ℕ → Type 0
  -- an image is read in one way
  pub one : (image : Image) (n : ℕ) (r s : Recovered) → replays image n r → replays image n s → r ≡ s
  pub one_text : (image : Image) (s t : List ℕ) → lines image s → lines image t → s ≡ t
  pub nothing : (image : Image) (n : ℕ) → bare image n → replays image n None

-- the whole begins with these records
pub record IsPrefix (records whole : List Record) : Type 0 where
  pub rest : List Record
  pub is : records ++ rest ≡ whole

-- an exit that a log holds is the last one of a writer since the last accepted restart, and then all that was shown is there; without one no commit point has answered an exit
abbrev pub ExitIs : Ledger → List Record → Option (List ℕ) → Type 0
ExitIs l records None = l.finished ≡ false
ExitIs l records (Some exit) = (l.exit ≡ Some exit) × (records ≡ l.shown)

-- a log holds what was promised of it: its head is that of its accept, its records are a prefix of those shown, and the promised ones at least
pub record Keeps (l : Ledger) (promised : ℕ) (found : Stored) : Type 0 where
  pub head : found.head ≡ l.head
  pub prefix : IsPrefix found.records l.shown
  pub enough : promised ≤ length found.records
  pub exit : ExitIs l found.records found.exit

-- the same where a number of records is promised; a log whose number wasn't answered is absent, or has no records and no exit
abbrev pub GoodFor : Ledger → Option ℕ → Recovered → Type 0
GoodFor l None None = Unit {0}
GoodFor l None (Some found) = (found.records ≡ []) × (found.exit ≡ None)
GoodFor l (Some promised) None = ⊥
GoodFor l (Some promised) (Some found) = Keeps l promised found

-- what is read of a log is good for what a history says of it
abbrev pub GoodLog : Ledger → Recovered → Type 0
GoodLog l found = GoodFor l l.promised found

-- an image is good for what a history says of log n
pub record GoodAt (r : Reading) (l : Ledger) (n : ℕ) (image : Image) : Type 0 where
  pub found : Recovered
  pub is : r.replays image n found
  pub good : GoodLog l found

-- an image is good for a history and log n
abbrev pub Good : Reading → List Happened → Image → ℕ → Type 0
Good r h image n = GoodAt r (ledger h n) n image

-- an image is good for a history followed by some first of these jobs
pub record Within (r : Reading) (h : List Happened) (acts : List Act) (image : Image) (n : ℕ) : Type 0 where
  pub done : ℕ
  pub some : done ≤ length acts
  pub good : Good r (h ++ all_acted (take done acts)) image n
