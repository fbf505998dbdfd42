-- Who serves a run that ended as Sent: a connection of a server of this kind.
use Rattle.std.specs.List.{AllByRecursion}
use Rattle.std.specs.Prelude.{ℕ, List}
use Rattle.lsv_link.specs.declared.connection.Connection.{Connection}
use Rattle.lsv_msg.specs.Fitting.{FitsClient}
use Rattle.lsv_msg.specs.declared.messages.ServerMessage.{ServerMessage}
use Rattle.lsv_record.specs.declared.records.Record.{Record}
use Rattle.lsv_session.specs.Transcript.{bodies_of}
use Rattle.lsv_session.specs.declared.connection.ConnId.{ConnId}
use Rattle.lsv_machine.specs.Machine.{IsOfLane}
use Rattle.lsv_machine.specs.Turns.{Happened}
use Rattle.lsv_transcript.specs.Plan.{Plan}
use Rattle.lsv_transcript.specs.Transcript.{all_of}
use Rattle.lsv_upstream.specs.Jobs.{BringsFirst, ReadsFirst, jobs_of}
use Rattle.lsv_upstream.specs.Runs.{RunsOn, ServerRun}
use Rattle.lsv_upstream.specs.Sent.{BeginsAlike}
use Rattle.lsv_upstream.specs.Talked.{IsOtherEnd, WritesAtPoint}

-- a connection of a run of the server, to which a plan was sent, on which these messages were read, and which writes log n there
pub record IsServedBy (plan : Plan) (records : List Record) (read : List ServerMessage) (n : ℕ) (before : List Happened) (r : ServerRun) (k : ConnId) : Type 0 where
  -- the run is the session machine's, in the lane of log n, and begins with that log good for what happened before
  pub lane : IsOfLane r.set.lane r.set.lanes n
  pub runs : RunsOn r.set.lane r.set.lanes n before r
  -- the connection brings a first part of the plan's messages, and reads a first part of what the server says to it
  pub brings : BringsFirst (all_of plan.transcript) (bodies_of k (jobs_of r.events))
  pub reads : ReadsFirst read k r.events
  -- it writes log n when it gets the point that is waited for
  pub writing : WritesAtPoint n before r k plan.aim
  -- if it goes on with log n, that begins with the records that are passed over
  pub alike : BeginsAlike n records plan.transcript.skipped before r k

-- a connection of a run of the server that is the other end of this one, and writes log n there
pub record IsAtOtherEnd (plan : Plan) (records : List Record) (conn : Connection) (n : ℕ) (before : List Happened) (r : ServerRun) (k : ConnId) : Type 0 where
  pub lane : IsOfLane r.set.lane r.set.lanes n
  pub runs : RunsOn r.set.lane r.set.lanes n before r
  -- each side read a first part of what the other put; the plan's messages can be read back
  pub other : IsOtherEnd r k conn
  pub fits : AllByRecursion FitsClient (all_of plan.transcript)
  pub writing : WritesAtPoint n before r k plan.aim
  pub alike : BeginsAlike n records plan.transcript.skipped before r k
