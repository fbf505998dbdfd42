-- A log that a relay's connections bring to an upstream, one after another, each from where an earlier one left it.
use Rattle.std.specs.Prelude.{◌≡◌, ◌==◌, ◌&&◌, ℕ, suc, Bool, List, [], ◌∷◌, ◌++◌, length, Option, Some, None, Contains}
use Rattle.std.specs.List.{list_any}
use Rattle.lsv_info.specs.declared.times.Exit.{Exit}
use Rattle.lsv_info.specs.declared.times.Head.{Head}
use Rattle.lsv_msg.specs.declared.messages.ServerMessage.{ServerMessage}
use Rattle.lsv_msg.specs.declared.messages.ServerMessage.TheVariants as server
use Rattle.lsv_record.specs.Records.{elapsed}
use Rattle.lsv_record.specs.declared.records.Record.{Record}
use Rattle.lsv_session.specs.Transcript.{bodies_of}
use Rattle.lsv_session.specs.declared.connection.ConnId.{ConnId}
use Rattle.lsv_transcript.specs.Transcript.{KeptPlace, all_of, relayed}
use Rattle.lsv_machine.specs.Machine.{IsOfLane, same}
use Rattle.lsv_machine.specs.Turns.{Happened}
use Rattle.lsv_upstream.specs.Held.{GetsPoint, NoRestartBut, up_to}
use Rattle.lsv_upstream.specs.Jobs.{BringsFirst, ReadsFirst, jobs_of}
use Rattle.lsv_upstream.specs.Runs.{AllRunOn, ServerRun, history_of}

-- one connection of a relay
pub record Visit : Type 0 where
  -- the number of the upstream's run in which it comes, from 0
  pub run : ℕ
  -- its name in that run
  pub conn : ConnId
  -- what was kept at its start
  pub kept : Option KeptPlace
  -- the messages that it read
  pub read : List ServerMessage

-- the run of a visit, with those before and after it
pub record RunOf (runs : List ServerRun) (v : Visit) : Type 0 where
  pub before : List ServerRun
  pub its : ServerRun
  pub after : List ServerRun
  pub is : runs ≡ before ++ its ∷ after
  pub place : length before ≡ v.run

-- a visit brings a first part of its messages, and reads a first part of what the upstream says to it
pub record PlaysLog (head : Head) (rs : List Record) (exit : Option Exit) (runs : List ServerRun) (v : Visit) : Type 0 where
  pub at : RunOf runs v
  pub jobs : BringsFirst (all_of (relayed rs head exit v.kept)) (bodies_of v.conn (jobs_of at.its.events))
  pub read : ReadsFirst v.read v.conn at.its.events

-- an identifier was read on one of these visits
pub record WasRead (visits : List Visit) (id : List ℕ) : Type 0 where
  pub visit : Visit
  pub among : Contains visits visit
  pub read : Contains visit.read (server.LogId id)

-- what a visit begins with, if anything, has an identifier that was read on one of these
abbrev pub KeptWasRead : (earlier : List Visit) → Option KeptPlace → Type 0
KeptWasRead earlier None = Unit {0}
KeptWasRead earlier (Some kept) = WasRead earlier kept.id

-- each identifier that a visit begins with was read on an earlier one
abbrev pub EachWasRead : (earlier : List Visit) → List Visit → Type 0
EachWasRead earlier [] = Unit {0}
EachWasRead earlier (v ∷ visits) = KeptWasRead earlier v.kept × EachWasRead (earlier ++ v ∷ []) visits

-- whether this connection of this run is one of the visits
abbrev pub is_visit : List Visit → (run : ℕ) → ConnId → Bool
is_visit visits run k = list_any (λ v. (v.run == run) && same v.conn k) visits

-- in each of these runs, counted from the first one's number, nobody but the visits asks to go on with log n
abbrev pub OnlyVisitsRestart : ℕ → List Visit → (first : ℕ) → List ServerRun → Type 0
OnlyVisitsRestart n visits first [] = Unit {0}
OnlyVisitsRestart n visits first (r ∷ runs) = NoRestartBut n (is_visit visits first) r.events × OnlyVisitsRestart n visits (suc first) runs

-- these visits bring a log to an upstream, over a store that was empty; nobody else goes on with its log n
pub record IsRelayed (lane lanes n : ℕ) (head : Head) (rs : List Record) (exit : Option Exit) (runs : List ServerRun) (visits : List Visit) : Type 0 where
  pub of_lane : IsOfLane lane lanes n
  pub whole : AllRunOn lane lanes n [] runs
  pub each : (v : Visit) → Contains visits v → PlaysLog head rs exit runs v
  pub kept : EachWasRead [] visits
  pub alone : OnlyVisitsRestart n visits 0 runs

-- a visit that writes log n gets a commit point at the elapsed time of the records
pub record IsAcknowledged (n : ℕ) (rs : List Record) (runs : List ServerRun) (visits : List Visit) : Type 0 where
  pub visit : Visit
  pub among : Contains visits visit
  pub run : RunOf runs visit
  pub at : GetsPoint n (history_of run.before) run.its visit.conn (elapsed rs)

-- what has happened at the upstream when that commit point is there
abbrev pub acknowledged_at : {n : ℕ} {rs : List Record} {runs : List ServerRun} {visits : List Visit} → IsAcknowledged n rs runs visits → List Happened
acknowledged_at a = up_to (history_of a.run.before) a.run.its a.at

-- what happens there after it
abbrev pub happens_after : {n : ℕ} {rs : List Record} {runs : List ServerRun} {visits : List Visit} → IsAcknowledged n rs runs visits → List Happened
happens_after a = a.at.later ++ history_of a.run.after
