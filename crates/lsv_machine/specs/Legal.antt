-- A legal conversation that opens a log: what a client sends that keeps every rule, what it is answered, and what becomes of its log.
use Rattle.std.specs.Prelude.{◌≡◌, ◌≤◌, ◌<◌, ◌+◌, ◌^◌, ◌⊎◌, ◌||◌, ℕ, Bool, true, false, not, if◌then◌else◌, List, [], ◌∷◌, ◌++◌, length, map, Some, None, Result, Ok, Err}
use Rattle.std.specs.List.{flat_map, list_any}
use Rattle.lsv_base.specs.declared.time.TimeSpec.{TimeSpec}
use Rattle.lsv_info.specs.Layout.{head_text, exit_text}
use Rattle.lsv_mask.specs.Masking.{mask}
use Rattle.lsv_record.specs.Points.{Stored}
use Rattle.lsv_record.specs.Records.{elapsed, stream_of, timing_of}
use Rattle.lsv_record.specs.declared.records.Record.{Record}
use Rattle.lsv_record.specs.declared.records.Stream.{Stream}
use Rattle.lsv_request.specs.declared.refusal.Refusal.{Refusal}
use Rattle.lsv_request.specs.declared.request.Request.{Request}
use Rattle.lsv_request.specs.declared.request.Request.TheVariants as request
use Rattle.lsv_session.specs.declared.connection.ConnId.{ConnId}
use Rattle.lsv_session.specs.declared.connection.ConnState.{ConnState}
use Rattle.lsv_session.specs.declared.connection.ConnState.TheVariants.{Greeted, Alerted, Running, Dead}
use Rattle.lsv_session.specs.declared.job.Body.{Body}
use Rattle.lsv_machine.specs.Answers.{Answer, Saying, Saying.CommitPoint, Saying.Error, Saying.LogId, Saying.Shut, say}
use Rattle.lsv_machine.specs.Failures.{Act, AsksFor, WantsMemory}
use Rattle.lsv_machine.specs.History.{is_exit, request_in}
use Rattle.lsv_machine.specs.Machine.{LogState.There, Machine, Settings, is_running}
use Rattle.lsv_machine.specs.Recovery.{Turn}
use Rattle.lsv_machine.specs.Work.{fits_file, has_line, last_number, line_in}

-- ---- What is sent

-- whether a request has its place in a conversation of one log, before the log is opened or after
abbrev pub has_place : ConnState → Request → Bool
has_place s request.Hello = not (is_running s)
has_place s (request.Accept accept) = is_running s || accept.expect_iobufs
has_place s (request.Reject report) = is_running s
has_place s (request.Alert report) = true
has_place s (request.Restart restart) = false
has_place s (request.Record r) = is_running s
has_place s (request.Exit exit) = is_running s

-- the connection's state after a request that has its place. n: the number of the log
abbrev pub goes_to : ℕ → ConnState → Request → ConnState
goes_to n s request.Hello = Greeted
goes_to n s (request.Accept accept) = if is_running s then s else Running (Some n)
goes_to n s (request.Reject report) = s
goes_to n s (request.Alert report) = if is_running s then s else Alerted
goes_to n s (request.Restart restart) = s
goes_to n s (request.Record r) = s
goes_to n s (request.Exit exit) = Dead

-- what a client sends from this state on is a legal conversation: each message is let through and has its place, and the exit is the last
abbrev pub IsLegal : ℕ → ConnState → List Body → Type 0
IsLegal n s [] = ⊥
IsLegal n s (b ∷ bodies) = (asked : Request) × AsksFor s b asked × (has_place s asked ≡ true)
    × (((is_exit (Ok asked) ≡ true) × (bodies ≡ [])) ⊎ ((is_exit (Ok asked) ≡ false) × IsLegal n (goes_to n s asked) bodies))

-- ---- What becomes of the log

-- the record that is asked to be kept, if one is
abbrev pub record_in : Result Request Refusal → List Record
record_in (Ok (request.Record r)) = r ∷ []
record_in asked = []

-- the records that are sent
abbrev pub records_in : List Body → List Record
records_in bodies = flat_map (λ b. record_in (request_in b)) bodies

-- the head of an accept, or else this
abbrev pub head_or : Result Request Refusal → List ℕ → List ℕ
head_or (Ok (request.Accept accept)) other = head_text accept.head
head_or asked other = other

-- the head of the first accept that is sent
abbrev pub first_head : List Body → List ℕ
first_head [] = []
first_head (b ∷ bodies) = head_or (request_in b) (first_head bodies)

-- the text of an exit, or else this
abbrev pub exit_or : Result Request Refusal → List ℕ → List ℕ
exit_or (Ok (request.Exit exit)) other = exit_text exit
exit_or asked other = other

-- the text of the exit that is sent
abbrev pub exit_sent : List Body → List ℕ
exit_sent [] = []
exit_sent (b ∷ bodies) = exit_or (request_in b) (exit_sent bodies)

-- the log of a legal conversation when it is over: all that was sent, as it is masked, with its exit
abbrev pub whole_log : (texts : List (List ℕ)) → List Body → Stored
whole_log texts bodies = record { head = first_head bodies; records = mask texts (records_in bodies); exit = Some (exit_sent bodies); cuts = 0 }

-- ---- What is answered

-- whether this is answered by a commit point: a record, or the exit
abbrev pub is_committed : Result Request Refusal → Bool
is_committed (Ok (request.Record r)) = true
is_committed (Ok (request.Exit exit)) = true
is_committed asked = false

-- the commit points of turns in which this is sent: one for each turn with records or the exit, at the elapsed time of all records so far. before: the records of the turns before
abbrev pub points : (before : List Record) → List (List Body) → List ℕ
points before [] = []
points before (bodies ∷ turns) =
    (if list_any (λ b. is_committed (request_in b)) bodies then elapsed (before ++ records_in bodies) ∷ [] else []) ++ points (before ++ records_in bodies) turns

-- what a legal conversation is answered: the number of its log, and then the commit points
abbrev pub told_of : (n : ℕ) → List (List Body) → List Saying
told_of n turns = LogId n ∷ map (λ point. CommitPoint point) (points [] turns)

-- ---- What it needs

-- what comes in a turn, at its moment
pub record Came : Type 0 where
  pub now : TimeSpec
  pub bodies : List Body

-- the state after what is asked
abbrev pub behind : ℕ → ConnState → Result Request Refusal → ConnState
behind n s (Ok asked) = goes_to n s asked
behind n s (Err why) = s

-- the state after all that is sent in a turn
abbrev pub behind_all : ℕ → ConnState → List Body → ConnState
behind_all n s [] = s
behind_all n s (b ∷ bodies) = behind_all n (behind n s (request_in b)) bodies

-- the event line of what is asked, if it has one
abbrev pub line_for : Settings → TimeSpec → ConnId → ConnState → Result Request Refusal → ℕ → List ℕ
line_for set now k s (Ok asked) n = if has_line set asked then line_in set now k s asked n else []
line_for set now k s (Err why) n = []

-- the event lines of a turn
abbrev pub lines_in : Settings → TimeSpec → ConnId → ℕ → ConnState → List Body → List ℕ
lines_in set now k n s [] = []
lines_in set now k n s (b ∷ bodies) = line_for set now k s (request_in b) n ++ lines_in set now k n (behind n s (request_in b)) bodies

-- the event lines of these turns
abbrev pub all_lines : Settings → ConnId → ℕ → ConnState → List Came → List ℕ
all_lines set k n s [] = []
all_lines set k n s (t ∷ turns) = lines_in set t.now k n s t.bodies ++ all_lines set k n (behind_all n s t.bodies) turns

-- no file, elapsed time or log number passes its limit. lines: the event log's before
pub record Fits (set : Settings) (k : ConnId) (n : ℕ) (s : ConnState) (lines : List ℕ) (turns : List Came) (bodies : List Body) : Type 0 where
  pub number : n ≤ last_number
  pub head : fits_file (first_head bodies) ≡ true
  pub exit : fits_file (exit_sent bodies) ≡ true
  pub timing : fits_file (timing_of (records_in bodies)) ≡ true
  pub streams : (stream : Stream) → fits_file (stream_of stream (records_in bodies)) ≡ true
  pub time : elapsed (records_in bodies) < 2 ^ 63
  pub events : length lines + length (all_lines set k n s turns) ≤ 2 ^ 40

-- ---- Turns in which nothing is in the way

-- no owner failed in these jobs, and memory didn't run out
abbrev pub AreUndisturbed : List Act → Type 0
AreUndisturbed [] = Unit {0}
AreUndisturbed (act ∷ acts) = (act.failed ≡ []) × (WantsMemory act.job.conn act.answers → ⊥) × AreUndisturbed acts

-- these turns are what came from the connection alone, and nothing was in the way
abbrev pub AreSent : ConnId → List Came → List Turn → Type 0
AreSent k [] [] = Unit {0}
AreSent k [] (turn ∷ turns) = ⊥
AreSent k (c ∷ came) [] = ⊥
AreSent k (c ∷ came) (turn ∷ turns) =
    (turn.now ≡ c.now) × (map (λ act. act.job) turn.acts ≡ map (λ b. record { conn = k; body = b }) c.bodies)
    × AreUndisturbed turn.acts × (turn.tail.failed ≡ []) × AreSent k came turns

-- all that is answered in these turns
abbrev pub all_answers : List Turn → List Answer
all_answers turns = flat_map (λ turn. flat_map (λ act. act.answers) turn.acts ++ turn.tail.answers) turns

-- whether this says that nothing more comes
abbrev pub is_shut : Saying → Bool
is_shut (LogId n) = false
is_shut (CommitPoint point) = false
is_shut (Error why) = false
is_shut Shut = true

-- a legal conversation was served: what its connection was told, its log at the end, and that nobody writes it
pub record IsServed (k : ConnId) (n : ℕ) (texts : List (List ℕ)) (came : List Came) (turns : List Turn) (end : Machine) : Type 0 where
  pub told : all_answers turns ≡ map (λ says. say k says) (told_of n (map (λ c. c.bodies) came)) ++ say k Shut ∷ []
  pub log : end.logs n ≡ There (whole_log texts (flat_map (λ c. c.bodies) came)) (length (records_in (flat_map (λ c. c.bodies) came)))
  pub free : end.owner n ≡ None
