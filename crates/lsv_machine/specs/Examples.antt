-- Small cases that show why the definitions are as they are: log 1, its sessions by connections 1 to 4, each record a byte of terminal output after 1 ns.
use Rattle.std.specs.Prelude.{◌≤◌, ◌==◌, ℕ, true, false, if◌then◌else◌, List, [], ◌∷◌, ◌++◌, length, take, Some, None, codes}
use Rattle.lsv_base.specs.Time.{time_of}
use Rattle.lsv_info.specs.Layout.{head_text}
use Rattle.lsv_info.specs.declared.info.Entry.{Entry}
use Rattle.lsv_info.specs.declared.info.Value.TheVariants.{Text}
use Rattle.lsv_info.specs.declared.times.Head.{Head}
use Rattle.lsv_disk.specs.declared.file.Owner.TheVariants.{Log}
use Rattle.lsv_session.specs.declared.connection.ConnState.TheVariants.{Fresh, Dead}
use Rattle.lsv_msg.specs.declared.messages.ClientMessage.TheVariants as client
use Rattle.lsv_record.specs.declared.records.Record.{Record}
use Rattle.lsv_record.specs.declared.records.Record.TheVariants.{Io}
use Rattle.lsv_record.specs.declared.records.Stream.TheVariants.{Ttyout}
use Rattle.lsv_request.specs.declared.refusal.Refusal.TheVariants.{MalformedMessage, DeviceFault}
use Rattle.lsv_msg.specs.declared.fault.MsgFault.TheVariants.{Untyped}
use Rattle.lsv_session.specs.declared.connection.ConnId.{ConnId}
use Rattle.lsv_session.specs.declared.job.Body.TheVariants.{Msg, Bad, Gone}
use Rattle.lsv_session.specs.declared.job.Fault.TheVariants.{Malformed}
use Rattle.lsv_session.specs.declared.job.Job.{Job}
use Rattle.lsv_machine.specs.Answers.{Answer, Saying.LogId, Saying.CommitPoint, farewell, refusal, say}
use Rattle.lsv_machine.specs.Disks.{Past}
use Rattle.lsv_machine.specs.Durable.{GoodLog, Recovered}
use Rattle.lsv_machine.specs.Failures.{Act}
use Rattle.lsv_machine.specs.Machine.{LogState, LogState.Absent, LogState.There, Machine, Settings, leaves, with_log}
use Rattle.lsv_machine.specs.History.{ledger}
use Rattle.lsv_machine.specs.Turns.{Happened, Happened.Begins, all_acted, turn_of}

-- ---- Words

abbrev pub conn : ℕ → ConnId
conn k = record { worker = 0; seq = k }

-- a job that was answered so, where nothing failed
abbrev pub did : Job → List Answer → Act
did job answers = record { job = job; answers = answers; failed = []; in_cut = false; line = []; now = time_of 0 }

-- the head of every session here
abbrev pub the_head : Head
the_head = record { submit = time_of 0; info = record { entries = [] } }

abbrev pub accepts : ℕ → Job
accepts k = record { conn = conn k; body = Msg (client.Accept (record { submit_time = Some (time_of 0); info_msgs = record { entries = [] }; expect_iobufs = true })) }

-- a record of a byte
abbrev pub sends : ℕ → ℕ → Job
sends k byte = record { conn = conn k; body = Msg (client.Ttyout (record { delay = Some (time_of 1); bytes = byte ∷ [] })) }

-- log 1 is asked for, at the point of 1 ns
abbrev pub restarts : ℕ → Job
restarts k = record { conn = conn k; body = Msg (client.Restart (record { log_id = 48 ∷ 48 ∷ 48 ∷ 48 ∷ 48 ∷ 49 ∷ []; resume_point = Some (time_of 1) })) }

abbrev pub goes : ℕ → Job
goes k = record { conn = conn k; body = Gone }

-- the bytes of this connection are no message
abbrev pub garbles : ℕ → Job
garbles k = record { conn = conn k; body = Bad (Malformed Untyped) }

abbrev pub one_byte : ℕ → Record
one_byte byte = Io 1 Ttyout (byte ∷ [])

-- a log with these records
abbrev pub holding : List Record → Recovered
holding records = Some (record { head = head_text the_head; records = records; exit = None; cuts = 0 })

-- what is recovered of log 1 is within a history and some first of these jobs
pub record FoundWithin (h : List Happened) (acts : List Act) (found : Recovered) : Type 0 where
  pub done : ℕ
  pub some : done ≤ length acts
  pub good : GoodLog (ledger (h ++ all_acted (take done acts)) 1) found

-- ---- A cut that was stopped

-- log 1 is opened, takes two records and has a commit point at 2 ns
abbrev pub two_committed : List Happened
two_committed = turn_of (did (accepts 1) (say (conn 1) (LogId 1) ∷ []) ∷ did (sends 1 5) [] ∷ did (sends 1 5) [] ∷ []) (record { answers = say (conn 1) (CommitPoint 2) ∷ []; failed = [] })

-- a second turn, in which it is cut at 1 ns, and which a crash ends: the cut may be there or not
abbrev pub cut_stopped : Past
cut_stopped = record { history = two_committed; acts = did (goes 1) (farewell (conn 1)) ∷ did (restarts 2) [] ∷ [] }

abbrev pub uncut : Recovered
uncut = holding (one_byte 5 ∷ one_byte 5 ∷ [])

abbrev pub was_cut : Recovered
was_cut = holding (one_byte 5 ∷ [])

-- what goes on from it where the disk reads as cut
abbrev pub cut_goes_on : List Happened
cut_goes_on = (two_committed ++ all_acted cut_stopped.acts) ++ Begins [] ∷ []

-- a turn of the next run, in which a connection that was refused asks for log 1: its job is dropped, so it has no answer
abbrev pub dropped_restart : List Act
dropped_restart = did (garbles 3) (refusal (conn 3) MalformedMessage) ∷ did (restarts 3) [] ∷ []

-- a turn in which log 1 is gone on with at 1 ns and takes another record
abbrev pub resumed_then : List Act
resumed_then = did (restarts 4) [] ∷ did (sends 4 9) [] ∷ []

abbrev pub resumed_longer : Recovered
resumed_longer = holding (one_byte 5 ∷ one_byte 9 ∷ [])

-- ---- Machines that are no starts

-- one lane, whose exits have no event lines, and whose lines are empty
abbrev pub one_lane : Settings
one_lane = record { lane = 0; lanes = 1; log_exit = false; line_of = λ now k asked log. [] }

-- a log with these records, this many of them promised
abbrev pub promising : List Record → ℕ → LogState
promising records promised = There (record { head = head_text the_head; records = records; exit = None; cuts = 0 }) promised

-- a start but for its log 1, the last number drawn being this
abbrev pub starting : LogState → ℕ → Machine
starting log last = record {
  texts = [];
  logs = λ n. if n == 1 then log else Absent;
  states = λ k. Fresh;
  owner = λ n. None;
  last = last;
  failed_draws = 0;
  waiting = [];
  lines = [];
  fresh = [];
  noting = [];
}

-- the log of the first two records that were committed; nothing of it is promised
abbrev pub unpromised : Machine
unpromised = starting (promising (one_byte 5 ∷ one_byte 5 ∷ []) 0) 1

-- log 1 is asked for at 1 ns, and fails inside the cut
abbrev pub fails_restart : Act
fails_restart = record { job = restarts 2; answers = refusal (conn 2) DeviceFault; failed = Log 1 ∷ []; in_cut = true; line = []; now = time_of 0 }

-- all its records are lost by that
abbrev pub all_lost : Machine
all_lost = leaves (conn 2) Dead (with_log 1 (promising [] 0) unpromised)

-- log 1 has a record, and no number was drawn
abbrev pub above : Machine
above = starting (promising (one_byte 5 ∷ []) 1) 0

-- a head with the texts that an accept needs
abbrev pub full_head : Head
full_head = record { submit = time_of 0; info = record { entries = text (codes "command") ∷ text (codes "runuser") ∷ text (codes "submituser") ∷ text (codes "submithost") ∷ [] } }
  where
    text : List ℕ → Entry
    text key = record { key = key; value = Text [] }

abbrev pub accepts_with_keys : ℕ → Job
accepts_with_keys k = record { conn = conn k; body = Msg (client.Accept (record { submit_time = Some full_head.submit; info_msgs = full_head.info; expect_iobufs = true })) }

-- log 1 is gone on with, and then an accept draws its number
abbrev pub both_write : List Act
both_write = did (restarts 1) [] ∷ did (accepts_with_keys 2) (say (conn 2) (LogId 1) ∷ []) ∷ []
