-- A log that was relayed, and the server at the other end of its connection.
use Rattle.std.specs.Prelude.{◌≡◌, ◌⊎◌, ℕ, List, [], Option, Contains}
use Rattle.std.specs.List.{AllByRecursion}
use Rattle.lsv_dialogue.specs.Ends.{Ended}
use Rattle.lsv_dialogue.specs.declared.ends.End.TheVariants as ends
use Rattle.lsv_disk.specs.View.{DiskView}
use Rattle.lsv_info.specs.declared.times.Exit.{Exit}
use Rattle.lsv_info.specs.declared.times.Head.{Head}
use Rattle.lsv_iolog.specs.Recovered.{SameFiles}
use Rattle.lsv_kept.specs.Kept.{Keeps}
use Rattle.lsv_kept.specs.declared.state.State.{State}
use Rattle.lsv_link.specs.Link.{LinkCounts}
use Rattle.lsv_link.specs.declared.connection.Connection.{Connection}
use Rattle.lsv_machine.specs.Machine.{IsOfLane}
use Rattle.lsv_msg.specs.Fitting.{FitsClient}
use Rattle.lsv_msg.specs.declared.messages.ServerMessage.{ServerMessage}
use Rattle.lsv_record.specs.Records.{elapsed}
use Rattle.lsv_record.specs.declared.records.Record.{Record}
use Rattle.lsv_relay.specs.Ends.{manner_of}
use Rattle.lsv_relay.specs.Transcripts.{kept_of}
use Rattle.lsv_relay.specs.Value.{RelayView, aim_of, state_of}
use Rattle.lsv_transcript.specs.Transcript.{all_of, relayed}
use Rattle.lsv_upstream.specs.Relayed.{EachWasRead, OnlyVisitsRestart, PlaysLog, RunOf, Visit}
use Rattle.lsv_upstream.specs.Runs.{AllRunOn, ServerRun, history_of}
use Rattle.lsv_upstream.specs.Talked.{IsOtherEnd, WritesAtPoint}

-- the conversation of log n on a connection is over: it began with what was kept before the run, and before the run the log's files read as at its end
pub record WasTalked {D : Type 0} (disk_tells link_tells : Type 0) (view : D → DiskView) (old : DiskView) (n : ℕ) (conn : Connection) : Type 0 where
  -- the disk and the relay when it began
  pub began : D
  pub from : RelayView
  -- and when it was over
  pub talked : RelayView
  pub found : D
  pub before : LinkCounts
  pub after : LinkCounts
  pub number : talked.number ≡ n
  pub kept : disk_tells → Keeps n (aim_of from) old.reads (state_of from)
  pub same : disk_tells → SameFiles n old.reads (view found).reads
  pub ended : Ended (manner_of disk_tells view (began, from)) link_tells talked found before after conn ends.Over

-- these visits bring a log to a server whose store was empty, where nobody else goes on with its log m. One visit's connection is the other end of this one, began with what was kept, and read these messages
pub record IsBroughtOn (conn : Connection) (state : State) (read : List ServerMessage) (lane lanes m : ℕ) (head : Head) (rs : List Record) (exit : Option Exit) (runs : List ServerRun) (visits : List Visit) : Type 0 where
  pub of_lane : IsOfLane lane lanes m
  pub whole : AllRunOn lane lanes m [] runs
  pub kept : EachWasRead [] visits
  pub alone : OnlyVisitsRestart m visits 0 runs
  -- the visit of this connection
  pub visit : Visit
  pub among : Contains visits visit
  pub kept_is : visit.kept ≡ kept_of state
  pub read_is : visit.read ≡ read
  pub at : RunOf runs visit
  pub other : IsOtherEnd at.its visit.conn conn
  pub fits : AllByRecursion FitsClient (all_of (relayed rs head exit visit.kept))
  -- it writes log m when it gets the point
  pub writing : WritesAtPoint m (history_of at.before) at.its visit.conn (elapsed rs)
  -- so do those of earlier runs
  pub others : (v : Visit) → Contains visits v → (v ≡ visit) ⊎ PlaysLog head rs exit runs v
