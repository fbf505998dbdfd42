-- Small cases: a log of three records, histories of log 1 that go otherwise, and a relay that is acknowledged.
use Rattle.std.specs.Prelude.{ℕ, List, [], ◌∷◌, ◌++◌, Some, None, codes}
use Rattle.lsv_base.specs.LogNo.{digits_of}
use Rattle.lsv_base.specs.Time.{time_of}
use Rattle.lsv_msg.specs.declared.messages.ServerMessage.TheVariants as server
use Rattle.lsv_record.specs.declared.records.Record.{Record}
use Rattle.lsv_record.specs.declared.records.Record.TheVariants.{Io}
use Rattle.lsv_record.specs.declared.records.Stream.TheVariants.{Ttyout}
use Rattle.lsv_session.specs.Connections.{server_hello}
use Rattle.lsv_session.specs.declared.job.Body.TheVariants.{Msg}
use Rattle.lsv_session.specs.declared.job.Job.{Job}
use Rattle.lsv_transcript.specs.Transcript.{KeptPlace, hello_message}
use Rattle.lsv_machine.specs.Answers.{Saying.CommitPoint, Saying.LogId, farewell, say}
use Rattle.lsv_machine.specs.Examples.{accepts_with_keys, conn, did, goes, one_byte, one_lane, restarts, sends, starting, two_committed}
use Rattle.lsv_machine.specs.Machine.{LogState.Absent, Machine}
use Rattle.lsv_machine.specs.Turns.{Happened, Happened.Tailed, Tail, all_acted}
use Rattle.lsv_upstream.specs.Relayed.{Visit}
use Rattle.lsv_upstream.specs.Runs.{ServerRun}

-- a byte of terminal output after these nanoseconds
abbrev pub output : (delay byte : ℕ) → Record
output delay byte = Io delay Ttyout (byte ∷ [])

-- three records: two end at 15, the second of them without a delay, and the third at 35
abbrev pub three : List Record
three = output 15 1 ∷ output 0 2 ∷ output 20 3 ∷ []

-- an upstream gave the identifier of log 1, and a commit point at these nanoseconds
abbrev pub kept_at : ℕ → KeptPlace
kept_at point = record { id = codes "000001"; point = Some point }

-- Connection 1 sent two records of log 1, each with the byte 5 after 1 ns, and went. Connection 4 goes on with it at 1 ns, and sends the byte 9.
abbrev pub another_goes_on : List Happened
another_goes_on = two_committed ++ all_acted (did (goes 1) (farewell (conn 1)) ∷ did (restarts 4) [] ∷ did (sends 4 9) [] ∷ [])

-- ---- A relay that is acknowledged

-- a log of one record, with the byte 5 after 1 ns
abbrev pub one : List Record
one = one_byte 5 ∷ []

-- the connection's hello
abbrev pub greets : ℕ → Job
greets k = record { conn = conn k; body = Msg hello_message }

-- connection 1 brings the log from its start in one turn, and gets the number 1 and a commit point at 1 ns
abbrev pub before_point : List Happened
before_point = all_acted (did (greets 1) [] ∷ did (accepts_with_keys 1) (say (conn 1) (LogId 1) ∷ []) ∷ did (sends 1 5) [] ∷ [])

-- the end of that turn
abbrev pub turn_end : Tail
turn_end = record { answers = say (conn 1) (CommitPoint 1) ∷ []; failed = [] }

-- the run of the upstream, over an empty store, with this machine at its end
abbrev pub upstream_run : Machine → ServerRun
upstream_run end = record { set = one_lane; texts = []; start = starting Absent 0; events = before_point ++ Tailed turn_end ∷ []; end = end }

-- the relay's connection: nothing was kept, and all answers were read
abbrev pub relay_visit : Visit
relay_visit = record { run = 0; conn = conn 1; kept = None; read = server_hello ∷ server.LogId (digits_of 1) ∷ server.CommitPoint (time_of 1) ∷ [] }
