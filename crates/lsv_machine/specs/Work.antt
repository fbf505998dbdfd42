-- What a job does where no device fails and memory is ample: the table of the session's rules, by cases.
use Rattle.std.specs.Prelude.{ℕ, ◌+◌, ◌-◌, ◌^◌, ◌==◌, ◌&&◌, ◌||◌, not, nat_lt, nat_le, Bool, true, false, if◌then◌else◌, List, [], ◌∷◌, ◌++◌, length, take, Option, Some, None, is_some, Result, Ok, Err}
use Rattle.lsv_base.specs.declared.time.TimeSpec.{TimeSpec}
use Rattle.lsv_info.specs.Layout.{head_text, exit_text}
use Rattle.lsv_mask.specs.Masking.{covered}
use Rattle.lsv_record.specs.Points.{Stored, first}
use Rattle.lsv_record.specs.Records.{delay_of, elapsed, stream_of, timing_of}
use Rattle.lsv_record.specs.declared.records.Record.{Record}
use Rattle.lsv_record.specs.declared.records.Record.TheVariants.{Io, Winsize, Suspend}
use Rattle.lsv_request.specs.declared.refusal.Refusal.{Refusal}
use Rattle.lsv_request.specs.declared.refusal.Refusal.TheVariants.{LogInUse, NoSuchLog, LogComplete, NoSuchResumePoint, LogDamaged, NumbersSpent, LogFull}
use Rattle.lsv_request.specs.declared.request.Request.{Request}
use Rattle.lsv_request.specs.declared.request.Request.TheVariants as request
use Rattle.lsv_session.specs.declared.connection.ConnId.{ConnId}
use Rattle.lsv_session.specs.declared.connection.ConnState.{ConnState}
use Rattle.lsv_session.specs.declared.connection.ConnState.TheVariants.{Greeted, Alerted, Running, Dead}
use Rattle.lsv_session.specs.declared.job.Body.{Body}
use Rattle.lsv_session.specs.declared.job.Body.TheVariants as body
use Rattle.lsv_session.specs.declared.job.Job.{Job}
use Rattle.lsv_machine.specs.Answers.{Answer, LogId, CommitPoint, Shut, say, refusal, farewell, is_refused}
use Rattle.lsv_machine.specs.Judgement.{judged, fault_refusal}
use Rattle.lsv_machine.specs.Machine.{LogState, LogState.Absent, LogState.Damaged, LogState.There, Machine, Settings, forgets, insert_once, is_dead, is_running, leaves, log_of, note, with_log, with_owner, with_state}

-- what a job does: the answers, the event line that it leaves, and the machine then
pub record Done : Type 0 where
  pub answers : List Answer
  pub line : List ℕ
  pub machine : Machine

-- nothing is told
abbrev pub silently : Machine → Done
silently m = record { answers = []; line = []; machine = m }

-- the connection is told this and is dead
abbrev pub ends : ConnId → List Answer → Machine → Done
ends k answers m = record { answers = answers; line = []; machine = leaves k Dead m }

-- the connection is refused
abbrev pub refused : ConnId → Refusal → Machine → Done
refused k why m = ends k (refusal k why) m

-- ---- Limits

-- a file takes this text: at most 2 ^ 40 bytes
abbrev pub fits_file : List ℕ → Bool
fits_file text = nat_le (length text) (2 ^ 40)

-- the file of a record's stream takes its data after these records
abbrev pub stream_takes : List Record → Record → Bool
stream_takes records (Io delay stream bytes) = fits_file (stream_of stream (records ++ Io delay stream bytes ∷ []))
stream_takes records (Winsize delay rows cols) = true
stream_takes records (Suspend delay signal) = true

-- the files that a record goes to take it after these records: the timing, and that of its stream
abbrev pub files_take : List Record → Record → Bool
files_take records r = fits_file (timing_of (records ++ r ∷ [])) && stream_takes records r

-- a log takes one more record: its elapsed time stays below 2 ^ 63 ns, and the files that it goes to take it
abbrev pub takes : Stored → Record → Bool
takes stored r = nat_lt (elapsed stored.records + delay_of r) (2 ^ 63) && files_take stored.records r

-- the last log number that has six digits: 36 ^ 6 - 1
abbrev pub last_number : ℕ
last_number = 36 ^ 6 - 1

-- ---- An accept

-- a log without records
abbrev pub empty_log : List ℕ → Stored
empty_log head = record { head = head; records = []; exit = None; cuts = 0 }

-- the number is drawn
abbrev pub draws : ℕ → Machine → Machine
draws n m = record m { last = n; failed_draws = 0 }

-- the number is drawn, and its log made, which nobody writes yet
abbrev pub makes : ℕ → List ℕ → Machine → Machine
makes n head m = with_log n (There (empty_log head) 0) (draws n m)

-- a log of this head is made, and the connection writes it; or the numbers are spent, or the head doesn't fit its file
abbrev pub opened : ConnId → List ℕ → ℕ → Machine → Done
opened k head n m =
    if nat_lt last_number n then refused k NumbersSpent m
    else if fits_file head then record { answers = say k (LogId n) ∷ []; line = []; machine = with_state k (Running (Some n)) (with_owner n (Some k) (makes n head m)) }
    else refused k LogFull (draws n m)

-- ---- A restart

-- whether a cut drops a record
abbrev pub drops : ℕ → Stored → Bool
drops kept stored = nat_lt kept (length stored.records)

-- a log cut to its first records: a cut that drops one is counted
abbrev pub cut_to : ℕ → Stored → Stored
cut_to kept stored = record stored { records = take kept stored.records; cuts = if drops kept stored then stored.cuts + 1 else stored.cuts }

-- a cut that drops no record, or can be counted: the number of cuts stays below 2 ^ 63
abbrev pub can_cut : ℕ → Stored → Bool
can_cut kept stored = not (drops kept stored) || nat_lt (stored.cuts + 1) (2 ^ 63)

-- the log is cut to its first records, and the connection writes it; or no record ends at the point, or the cut can't be counted
abbrev pub resumed : ConnId → ℕ → Stored → Option ℕ → Machine → Done
resumed k n stored None m = refused k NoSuchResumePoint m
resumed k n stored (Some kept) m =
    if can_cut kept stored then silently (with_state k (Running (Some n)) (with_owner n (Some k) (with_log n (There (cut_to kept stored) kept) m)))
    else refused k LogFull m

-- a log that nobody writes is asked for
abbrev pub restarted_at : ConnId → ℕ → ℕ → LogState → Machine → Done
restarted_at k n point Absent m = refused k NoSuchLog m
restarted_at k n point Damaged m = refused k LogDamaged m
restarted_at k n point (There stored promised) m = if is_some stored.exit then refused k LogComplete m else resumed k n stored (first stored.records point) m

-- a log is asked for, to go on with at a point
abbrev pub restarted : ConnId → ℕ → ℕ → Machine → Done
restarted k n point m = if is_some (m.owner n) then refused k LogInUse m else restarted_at k n point (m.logs n) m

-- ---- A record

-- the log with one more record
abbrev pub with_record : Record → Stored → Stored
with_record r stored = record stored { records = stored.records ++ r ∷ [] }

-- the log took a record in this turn
abbrev pub waits : ℕ → Machine → Machine
waits n m = record m { waiting = insert_once n m.waiting }

-- a record goes to the end of a log, masked as it is after the others; or the log doesn't take it
abbrev pub taken : ConnId → ℕ → Record → LogState → Machine → Done
taken k n r (There stored promised) m =
    if takes stored r then silently (waits n (with_log n (There (with_record (covered m.texts stored.records r) stored) promised) m)) else refused k LogFull m
taken k n r Absent m = silently m
taken k n r Damaged m = silently m

-- a record goes to the log that the connection writes
abbrev pub recorded : ConnId → Option ℕ → Record → Machine → Done
recorded k None r m = silently m
recorded k (Some n) r m = taken k n r (m.logs n) m

-- ---- An exit

-- the log with an exit
abbrev pub with_exit : List ℕ → Stored → Stored
with_exit exit stored = record stored { exit = Some exit }

-- a log ends, and all its records are promised by the commit point; or the exit doesn't fit its file
abbrev pub finished : ConnId → ℕ → List ℕ → LogState → Machine → Done
finished k n exit (There stored promised) m =
    if fits_file exit then ends k (say k (CommitPoint (elapsed stored.records)) ∷ say k Shut ∷ []) (with_log n (There (with_exit exit stored) (length stored.records)) m)
    else refused k LogFull m
finished k n exit Absent m = silently m
finished k n exit Damaged m = silently m

-- a session ends, and the log that it has
abbrev pub exited : ConnId → Option ℕ → List ℕ → Machine → Done
exited k None exit m = ends k (say k Shut ∷ []) m
exited k (Some n) exit m = finished k n exit (m.logs n) m

-- ---- The table

-- what is done for a request that its judgement lets through, but for its event line. s: the connection's state. n: the number that an accept draws
abbrev pub work : ConnId → ConnState → Request → ℕ → Machine → Done
work k s request.Hello n m = silently (with_state k Greeted m)
work k s (request.Accept accept) n m =
    if is_running s then silently m
    else if accept.expect_iobufs then opened k (head_text accept.head) n m
    else silently (with_state k (Running None) m)
work k s (request.Reject report) n m = if is_running s then silently m else ends k (say k Shut ∷ []) m
work k s (request.Alert report) n m = if is_running s then silently m else silently (with_state k Alerted m)
work k s (request.Restart restart) n m = restarted k restart.log restart.point m
work k s (request.Record r) n m = recorded k (log_of s) r m
work k s (request.Exit exit) n m = exited k (log_of s) (exit_text exit) m

-- ---- Event lines

-- whether an accept opens a log
abbrev pub opens : ConnState → Request → Bool
opens s (request.Accept accept) = not (is_running s) && accept.expect_iobufs
opens s asked = false

-- whether a request has an event line
abbrev pub has_line : Settings → Request → Bool
has_line set (request.Accept accept) = true
has_line set (request.Reject report) = true
has_line set (request.Alert report) = true
has_line set (request.Exit exit) = set.log_exit
has_line set request.Hello = false
has_line set (request.Restart restart) = false
has_line set (request.Record r) = false

-- the event line of a request: it names the log that an accept opens, or else the one that the connection has
abbrev pub line_in : Settings → TimeSpec → ConnId → ConnState → Request → ℕ → List ℕ
line_in set now k s asked n = set.line_of now k asked (if opens s asked then Some n else log_of s)

-- the event log takes a line after those of this turn
abbrev pub line_fits : List ℕ → Machine → Bool
line_fits line m = nat_le (length m.lines + length m.fresh + length line) (2 ^ 40)

-- the connection has left a line
abbrev pub adds_line : ConnId → List ℕ → Machine → Machine
adds_line k line m = record m { fresh = m.fresh ++ line; noting = note k m.noting }

-- an exit is set in a log, and nothing is told
abbrev pub sets_exit : ℕ → List ℕ → LogState → Machine → Machine
sets_exit n exit (There stored promised) m = with_log n (There (with_exit exit stored) promised) m
sets_exit n exit Absent m = m
sets_exit n exit Damaged m = m

-- what is done before the event line is added: an accept has made its log, which nobody writes yet, and an exit is set
abbrev pub before_line : ConnState → Request → ℕ → Machine → Machine
before_line s (request.Accept accept) n m = if opens s (request.Accept accept) then makes n (head_text accept.head) m else m
before_line (Running (Some i)) (request.Exit exit) n m = sets_exit i (exit_text exit) (m.logs i) m
before_line s asked n m = m

-- a request that is not refused leaves its line, where it has one and the event log takes it; where the event log is full, it is refused after all
abbrev pub lined : Settings → TimeSpec → ConnId → ConnState → Request → ℕ → Machine → Done → Done
lined set now k s asked n old d =
    if not (has_line set asked) || is_refused d.answers then d
    else if line_fits (line_in set now k s asked n) old then record { answers = d.answers; line = line_in set now k s asked n; machine = adds_line k (line_in set now k s asked n) d.machine }
    else refused k LogFull (before_line s asked n old)

-- ---- A job

-- the number that the next accept draws where no draw has failed: of the lane, the first or the next one
abbrev pub next_number : Settings → Machine → ℕ
next_number set m = if m.last == 0 then set.lane + 1 else m.last + set.lanes

-- a message as it is judged, or a fault: it is refused, or its work is done and its event line left
abbrev pub answered : Settings → TimeSpec → ConnId → ConnState → Result Request Refusal → ℕ → Machine → Done
answered set now k s (Err why) n m = refused k why m
answered set now k s (Ok asked) n m = lined set now k s asked n m (work k s asked n m)

-- a job of a connection that isn't dead
abbrev pub alive : Settings → TimeSpec → ConnId → Body → ℕ → Machine → Done
alive set now k (body.Msg message) n m = answered set now k (m.states k) (judged (m.states k) message) n m
alive set now k (body.Bad fault) n m = refused k (fault_refusal fault) m
alive set now k body.Gone n m = record { answers = farewell k; line = []; machine = forgets k m }

-- a job of a dead connection: it is dropped, and a Gone forgets the connection
abbrev pub dropped : ConnId → Body → Machine → Done
dropped k (body.Msg message) m = silently m
dropped k (body.Bad fault) m = silently m
dropped k body.Gone m = silently (forgets k m)

-- what a job does. n: the number that it draws, if it opens a log
abbrev pub plain : Settings → TimeSpec → Job → ℕ → Machine → Done
plain set now job n m = if is_dead (m.states job.conn) then dropped job.conn job.body m else alive set now job.conn job.body n m
