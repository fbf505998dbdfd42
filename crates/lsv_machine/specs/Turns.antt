-- The end of a turn: the event lines become lines of the event log, and then the logs that wait have their commit points. What a turn is, and a run.
use Rattle.std.specs.Prelude.{◌≡◌, ◌⊎◌, ℕ, max, Bool, true, false, if◌then◌else◌, List, [], ◌∷◌, ◌++◌, map, Some, None, unwrap_or, Contains}
use Rattle.lsv_disk.specs.declared.file.Owner.{Owner}
use Rattle.lsv_disk.specs.declared.file.Owner.TheVariants.{Log, Events}
use Rattle.lsv_record.specs.Points.{Stored, first}
use Rattle.lsv_record.specs.Records.{elapsed}
use Rattle.lsv_record.specs.declared.records.Record.{Record}
use Rattle.lsv_session.specs.declared.connection.ConnId.{ConnId}
use Rattle.lsv_session.specs.declared.connection.ConnState.TheVariants.{Dead}
use Rattle.lsv_machine.specs.Answers.{Answer, CommitPoint, say}
use Rattle.lsv_machine.specs.Failures.{Act, IsRefused, LeavesLog, LosesTail, Step}
use Rattle.lsv_machine.specs.Machine.{LogState, LogState.There, Machine, Settings, is_dead, leaves, log_of, with_log}

-- the end of a turn: its answers in order, and the owners whose files failed in it
pub record Tail : Type 0 where
  pub answers : List Answer
  pub failed : List Owner

-- the larger of what is promised and the records through the first that ends at a point
abbrev pub raised : ℕ → List Record → ℕ → ℕ
raised promised records point = max promised (unwrap_or (first records point) promised)

-- ---- Event lines

-- the lines of the turn became lines of the event log, or not; the turn has none any more
abbrev pub with_lines : Bool → Machine → Machine
with_lines wrote m = record m { lines = if wrote then m.lines ++ m.fresh else m.lines; fresh = []; noting = [] }

-- a connection whose line was lost is refused, and lets its log go
pub record RefusesOne (failed : List Owner) (k : ConnId) (answers : List Answer) (old new : Machine) : Type 0 where
  pub left : Machine
  pub log : LeavesLog failed (log_of (old.states k)) None old left
  pub told : IsRefused k answers
  pub now : new ≡ leaves k Dead left

-- the same of each of these that isn't dead, one after another
abbrev pub RefusesAll : List Owner → List ConnId → List Answer → Machine → Machine → Type 0
RefusesAll failed [] answers old new = (answers ≡ []) × (new ≡ old)
RefusesAll failed (k ∷ conns) answers old new =
    ((is_dead (old.states k) ≡ true) × RefusesAll failed conns answers old new)
    ⊎ ((is_dead (old.states k) ≡ false) × ((mid : Machine) × (its : List Answer) × (rest : List Answer)
    × (answers ≡ its ++ rest) × RefusesOne failed k its old mid × RefusesAll failed conns rest mid new))

-- the event log failed: the turn's lines are there wholly or not at all, and who had one is refused
pub record LosesLines (set : Settings) (failed : List Owner) (answers : List Answer) (old new : Machine) : Type 0 where
  pub did : Contains failed (Events set.lane)
  pub wrote : Bool
  pub refuses : RefusesAll failed old.noting answers (with_lines wrote old) new

-- the event lines of the turn are flushed: the event log took them, or it failed
abbrev pub FlushesLines : Settings → List Owner → List Answer → Machine → Machine → Type 0
FlushesLines set failed answers old new = ((Contains failed (Events set.lane) → ⊥) × (answers ≡ []) × (new ≡ with_lines true old)) ⊎ LosesLines set failed answers old new

-- ---- Commit points

-- a log that didn't fail: its writer has a commit point at its elapsed time
pub record Commits (failed : List Owner) (n : ℕ) (answers : List Answer) (old new : Machine) : Type 0 where
  pub writer : ConnId
  pub owned : old.owner n ≡ Some writer
  pub stored : Stored
  pub promised : ℕ
  pub was : old.logs n ≡ There stored promised
  pub sound : Contains failed (Log n) → ⊥
  pub told : answers ≡ say writer (CommitPoint (elapsed stored.records)) ∷ []
  pub now : new ≡ with_log n (There stored (raised promised stored.records (elapsed stored.records))) old

-- a log failed, and its writer is refused
pub record FailsFlush (failed : List Owner) (n : ℕ) (answers : List Answer) (old new : Machine) : Type 0 where
  pub writer : ConnId
  pub owned : old.owner n ≡ Some writer
  pub did : Contains failed (Log n)
  pub log : LogState
  pub loses : LosesTail (old.logs n) log
  pub told : IsRefused writer answers
  pub now : new ≡ leaves writer Dead (with_log n log old)

-- one log is flushed
abbrev pub FlushesLog : List Owner → ℕ → List Answer → Machine → Machine → Type 0
FlushesLog failed n answers old new = Commits failed n answers old new ⊎ FailsFlush failed n answers old new

-- these logs are flushed, one after another
abbrev pub FlushesLogs : List Owner → List ℕ → List Answer → Machine → Machine → Type 0
FlushesLogs failed [] answers old new = (answers ≡ []) × (new ≡ old)
FlushesLogs failed (n ∷ numbers) answers old new = (mid : Machine) × (its : List Answer) × (rest : List Answer)
    × (answers ≡ its ++ rest) × FlushesLog failed n its old mid × FlushesLogs failed numbers rest mid new

-- ---- Turns and runs

-- the event lines are flushed, and then the logs that wait; none waits any more
pub record EndOfTurn (set : Settings) (old : Machine) (tail : Tail) (new : Machine) : Type 0 where
  pub mid : Machine
  pub last : Machine
  pub of_lines : List Answer
  pub of_logs : List Answer
  pub answers : tail.answers ≡ of_lines ++ of_logs
  pub lines : FlushesLines set tail.failed of_lines old mid
  pub logs : FlushesLogs tail.failed mid.waiting of_logs mid last
  pub now : new ≡ record last { waiting = [] }

-- what happens: a job, the end of a turn, or that a run with these texts begins, where all that ran before has stopped
pub data Happened : Type 0 where
  Did : Act → Happened
  Tailed : Tail → Happened
  Begins : (texts : List (List ℕ)) → Happened

-- jobs, one after another
abbrev pub all_acted : List Act → List Happened
all_acted acts = map Did acts

-- a turn: its jobs, and its end
abbrev pub turn_of : List Act → Tail → List Happened
turn_of acts tail = all_acted acts ++ Tailed tail ∷ []

-- the machine may do this, one after another, in one run
abbrev pub Run : Settings → Machine → List Happened → Machine → Type 0
Run set old [] new = new ≡ old
Run set old (Did act ∷ rest) new = (mid : Machine) × Step set old act mid × Run set mid rest new
Run set old (Tailed tail ∷ rest) new = (mid : Machine) × EndOfTurn set old tail mid × Run set mid rest new
Run set old (Begins texts ∷ rest) new = ⊥

-- each run of a history begins with these texts
abbrev pub AllBegin : (texts : List (List ℕ)) → List Happened → Type 0
AllBegin texts [] = Unit {0}
AllBegin texts (Did act ∷ history) = AllBegin texts history
AllBegin texts (Tailed tail ∷ history) = AllBegin texts history
AllBegin texts (Begins others ∷ history) = (others ≡ texts) × AllBegin texts history
