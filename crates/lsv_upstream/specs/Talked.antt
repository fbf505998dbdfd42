-- What a relay's or a sender's conversation was, and what the server at the other end of its connection made of it.
use Rattle.std.specs.Prelude.{◌≡◌, ℕ, true, List, [], ◌∷◌, ◌++◌, map, Option, Contains}
use Rattle.std.specs.List.{AllByRecursion, flat_map}
use Rattle.lsv_base.specs.Time.{time_of}
use Rattle.lsv_defs.specs.Pieces.{IsPrefix}
use Rattle.lsv_dialogue.specs.Ends.{Conversation}
use Rattle.lsv_dialogue.specs.Events.{heard, said}
use Rattle.lsv_dialogue.specs.Hears.{Hears}
use Rattle.lsv_dialogue.specs.Puts.{PutsPart}
use Rattle.lsv_info.specs.declared.times.Exit.{Exit}
use Rattle.lsv_info.specs.declared.times.Head.{Head}
use Rattle.lsv_link.specs.declared.connection.Connection.{Connection}
use Rattle.lsv_machine.specs.Answers.{reply_of}
use Rattle.lsv_machine.specs.History.{ledger, writes}
use Rattle.lsv_machine.specs.Machine.{IsOfLane}
use Rattle.lsv_machine.specs.Turns.{Happened}
use Rattle.lsv_msg.specs.Fitting.{FitsClient, FitsServer}
use Rattle.lsv_msg.specs.Messages.{server_bytes}
use Rattle.lsv_msg.specs.declared.messages.ClientMessage.{ClientMessage}
use Rattle.lsv_msg.specs.declared.messages.ServerMessage.{ServerMessage}
use Rattle.lsv_msg.specs.declared.messages.ServerMessage.TheVariants as server
use Rattle.lsv_record.specs.declared.records.Record.{Record}
use Rattle.lsv_session.specs.Connections.{server_hello}
use Rattle.lsv_session.specs.Transcript.{AreFirst, AreJobs, bodies_of, said_to}
use Rattle.lsv_session.specs.declared.connection.ConnId.{ConnId}
use Rattle.lsv_session.specs.declared.job.Body.{Body}
use Rattle.lsv_transcript.specs.Transcript.{all_of, relayed}
use Rattle.lsv_upstream.specs.Held.{HasPoint, answers_at}
use Rattle.lsv_upstream.specs.Jobs.{NoMessages, all_answers, jobs_of}
use Rattle.lsv_upstream.specs.Relayed.{EachWasRead, OnlyVisitsRestart, RunOf, Visit}
use Rattle.lsv_upstream.specs.Runs.{AllRunOn, ServerRun, history_at}
use Rattle.lsv_wire.specs.Frame.{IsMessage, frame_of}

-- the messages to a connection that these events make
abbrev pub answers_to : ConnId → List Happened → List ServerMessage
answers_to k events = server_hello ∷ said_to k (map reply_of (all_answers events))

-- this connection of a run of the server is the other end of that one: each side read a first part of what the other wrote, and the server's jobs are what it cut of that
pub record IsOtherEnd (r : ServerRun) (k : ConnId) (conn : Connection) : Type 0 where
  -- the bytes that the server read
  pub input : List ℕ
  pub arrived : IsPrefix input conn.output
  -- the jobs in them, and the first of these, which the server took; after them bytes that are no message, or the end
  pub jobs : List Body
  pub cut : AreJobs input jobs
  pub taken : List Body
  pub first : AreFirst taken jobs
  pub ends : List Body
  pub no_messages : NoMessages ends
  pub brings : bodies_of k (jobs_of r.events) ≡ taken ++ ends
  -- the server's messages can be read back, and a first part of their frames was read
  pub fits : AllByRecursion FitsServer (answers_to k r.events)
  pub sendable : AllByRecursion (λ m. IsMessage (server_bytes m)) (answers_to k r.events)
  pub comes : IsPrefix conn.input (flat_map (λ m. frame_of (server_bytes m)) (answers_to k r.events))

-- a conversation with that connection of a run of the server said the first of these messages, and read those. Of the link it is told that it put and read what lsv_dialogue's Matches says
pub record IsTalked (messages : List ClientMessage) (read : List ServerMessage) (r : ServerRun) (k : ConnId) : Type 0 where
  pub talk : Conversation
  pub hears : Hears talk.conn talk.events talk.refused talk.rest
  pub puts : PutsPart (Unit {0}) talk.conn.output (said talk.events)
  pub fits : AllByRecursion FitsClient (said talk.events)
  pub later : List ClientMessage
  pub says : said talk.events ++ later ≡ messages
  pub reads : heard talk.events ++ talk.refused ≡ read
  pub other : IsOtherEnd r k talk.conn

-- a visit is a conversation: it said the first messages of what a relay sends by what was kept
pub record TalksLog (head : Head) (rs : List Record) (exit : Option Exit) (runs : List ServerRun) (v : Visit) : Type 0 where
  pub at : RunOf runs v
  pub talked : IsTalked (all_of (relayed rs head exit v.kept)) v.read at.its v.conn

-- these visits bring a log by conversations to an upstream whose store was empty; nobody else goes on with its log n
pub record IsTold (lane lanes n : ℕ) (head : Head) (rs : List Record) (exit : Option Exit) (runs : List ServerRun) (visits : List Visit) : Type 0 where
  pub of_lane : IsOfLane lane lanes n
  pub whole : AllRunOn lane lanes n [] runs
  pub each : (v : Visit) → Contains visits v → TalksLog head rs exit runs v
  pub kept : EachWasRead [] visits
  pub alone : OnlyVisitsRestart n visits 0 runs

-- where a connection gets this commit point, it writes log n
abbrev pub WritesAtPoint : (n : ℕ) (before : List Happened) (r : ServerRun) (k : ConnId) (point : ℕ) → Type 0
WritesAtPoint n before r k point = (past later : List Happened) (event : Happened) → r.events ≡ past ++ event ∷ later → HasPoint k point (answers_at event) → writes (ledger (history_at before r past) n) k ≡ true

-- this commit point was read
abbrev pub ReadPoint : List ServerMessage → (point : ℕ) → Type 0
ReadPoint read point = Contains read (server.CommitPoint (time_of point))
