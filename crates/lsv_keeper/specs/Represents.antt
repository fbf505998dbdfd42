-- What a keeper and its disk stand for: the session machine of their lane.
use Rattle.std.specs.Prelude.{◌≡◌, ◌≤◌, ◌<◌, ◌⊎◌, ◌+◌, ◌*◌, ℕ, true, false, List, [], ◌∷◌, length, Option, Some, None}
use Rattle.lsv_disk.specs.View.{DiskView}
use Rattle.lsv_eventlog.specs.Inner.{IsEventLog}
use Rattle.lsv_eventlog.specs.Recovered.{HoldsLines}
use Rattle.lsv_eventlog.specs.Value as events
use Rattle.lsv_eventlog.specs.Value.{EventLogView}
use Rattle.lsv_iolog.specs.Recovered.{IsUnmade, Replays}
use Rattle.lsv_iolog.specs.Represents as logs
use Rattle.lsv_iolog.specs.Value.{LogValue, all_of, flushed}
use Rattle.lsv_mask.specs.Masking.{Seen, seen}
use Rattle.lsv_record.specs.Points.{Stored}
use Rattle.lsv_record.specs.declared.records.Record.{Record}
use Rattle.lsv_seq.specs.declared.numbers.Numbers.{Numbers}
use Rattle.lsv_seq.specs.Represents as numbers
use Rattle.lsv_seq.specs.Value.{lane_of, lanes_of, next_of, pending_of}
use Rattle.lsv_session.specs.declared.connection.ConnId.{ConnId}
use Rattle.lsv_machine.specs.Machine.{IsOfLane, LogState.There, Machine}
use Rattle.lsv_machine.specs.Stands.{Sound}
use Rattle.lsv_machine.specs.Starts.{ReadsAs}
use Rattle.lsv_machine.specs.Work.{next_number}
use Rattle.lsv_keeper.specs.declared.logs.OpenLog.{OpenLog}
use Rattle.lsv_keeper.specs.Value.{KeeperView, log_in, sessions_of, settings_of}

-- ---- Logs

-- the mask stands after these records; where there are no texts it covers nothing, and may stand after any
pub record Masks (texts : List (List ℕ)) (mask : Seen) (records : List Record) : Type 0 where
  pub behind : List Record
  pub stands : mask ≡ seen texts behind
  pub these : (behind ≡ records) ⊎ (texts ≡ [])

-- a log that a connection writes is open, matches the disk with its staged records after the committed ones, and its mask stands after all of them, where it covers anything; what the machine promises is committed
pub record Held (v : KeeperView) (disk : DiskView) (m : Machine) (n : ℕ) : Type 0 where
  pub its : OpenLog
  pub here : log_in v n ≡ Some its
  pub value : LogValue
  pub represents : logs.Represents its.log value disk
  pub number : its.log.number ≡ n
  pub going : value.stored.exit ≡ None
  pub mask : Masks v.texts its.mask (all_of value)
  pub promised : ℕ
  pub there : m.logs n ≡ There (flushed value) promised
  pub enough : promised ≤ length value.stored.records

-- a log that nobody writes isn't open, and is as the disk reads
pub record Free (v : KeeperView) (disk : DiskView) (m : Machine) (n : ℕ) : Type 0 where
  pub closed : log_in v n ≡ None
  pub reads : ReadsAs (Replays disk.reads n) (m.logs n)
  pub enough : (stored : Stored) (promised : ℕ) → m.logs n ≡ There stored promised → promised ≤ length stored.records

-- a log, by who writes it
abbrev pub LogIs : KeeperView → DiskView → Machine → ℕ → Option ConnId → Type 0
LogIs v disk m n None = Free v disk m n
LogIs v disk m n (Some k) = Held v disk m n

-- ---- Numbers

-- 1 where a draw failed and its number file wasn't opened again
abbrev pub pending_count : Option ℕ → ℕ
pending_count None = 0
pending_count (Some p) = 1

-- the next number is one that the machine may draw, also where the pending one was written
pub record NumbersAre (lane lanes : ℕ) (drawn : Numbers) (disk : DiskView) (next failed : ℕ) : Type 0 where
  pub lane_is : lane_of drawn ≡ lane
  pub lanes_is : lanes_of drawn ≡ lanes
  pub represents : numbers.Represents drawn disk
  pub passed : ℕ
  pub next_is : next_of drawn ≡ next + passed * lanes
  pub few : passed + pending_count (pending_of drawn) ≤ failed

-- ---- The event log

-- the event log is open, its committed lines are the machine's, and its added ones those of the turn
pub record LinesAre (log : EventLogView) (disk : DiskView) (m : Machine) : Type 0 where
  pub represents : events.Represents log disk
  pub committed : events.committed_text log disk ≡ m.lines
  pub added : events.added_text log ≡ m.fresh

-- an event log that failed is opened again at its next use: no line of the turn is left
pub record LinesLost (m : Machine) : Type 0 where
  pub none_fresh : m.fresh ≡ []
  pub nobody_noted : m.noting ≡ []

-- the event log reads as the machine's, and it is open, or it failed
pub record EventsAre (lane : ℕ) (log : EventLogView) (disk : DiskView) (m : Machine) : Type 0 where
  pub lane_is : log.lane ≡ lane
  pub sound : IsEventLog log
  pub reads : HoldsLines disk.reads lane m.lines
  pub whole : events.is_broken log ≡ false → LinesAre log disk m
  pub broken : events.is_broken log ≡ true → LinesLost m

-- ---- The waiting logs

-- each of these is greater
abbrev pub AllAbove : ℕ → List ℕ → Type 0
AllAbove n [] = Unit {0}
AllAbove n (i ∷ numbers) = (n < i) × AllAbove n numbers

-- each once, and rising
abbrev pub Rising : List ℕ → Type 0
Rising [] = Unit {0}
Rising (n ∷ numbers) = AllAbove n numbers × Rising numbers

-- each of these logs is written
abbrev pub AllOwned : (ℕ → Option ConnId) → List ℕ → Type 0
AllOwned owner [] = Unit {0}
AllOwned owner (n ∷ numbers) = ((k : ConnId) × (owner n ≡ Some k)) × AllOwned owner numbers

-- ---- All of it

-- the keeper and the disk stand for the machine
pub record Represents (v : KeeperView) (disk : DiskView) (m : Machine) : Type 0 where
  pub sound : Sound (settings_of v) m
  pub few_lanes : v.lanes ≤ 8
  pub texts : m.texts ≡ v.texts
  pub states : (k : ConnId) → m.states k ≡ (sessions_of v).states k
  pub owner : (n : ℕ) → m.owner n ≡ (sessions_of v).owner n
  pub waiting : m.waiting ≡ v.waiting
  pub noting : m.noting ≡ v.noting
  pub rising : Rising m.waiting
  pub waits : AllOwned m.owner m.waiting
  pub logs : (n : ℕ) → LogIs v disk m n (m.owner n)
  pub numbers : NumbersAre v.lane v.lanes v.numbers disk (next_number (settings_of v) m) m.failed_draws
  -- of the logs above the last number no file is there, nor does a crash leave one
  pub unmade : (n : ℕ) → IsOfLane v.lane v.lanes n → m.last < n → IsUnmade n disk
  pub events : EventsAre v.lane v.events disk m
