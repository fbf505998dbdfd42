-- A legal conversation that opens a log, in one run with any others: what it brings, what is in its way, what it is answered, and that nobody else changes its log.
use Rattle.std.specs.Prelude.{◌≡◌, ◌≢◌, ◌≤◌, ◌<◌, ◌+◌, ◌*◌, ◌&&◌, ◌||◌, ℕ, Bool, true, false, not, if◌then◌else◌, List, [], ◌∷◌, ◌++◌, length, map, Some, None, is_some, Result, Ok}
use Rattle.std.specs.List.{flat_map}
use Rattle.lsv_record.specs.Points.{Stored}
use Rattle.lsv_request.specs.declared.refusal.Refusal.{Refusal}
use Rattle.lsv_request.specs.declared.refusal.Refusal.TheVariants.{LogComplete, LogInUse, NoSuchLog}
use Rattle.lsv_request.specs.declared.request.Request.{Request}
use Rattle.lsv_request.specs.declared.request.Request.TheVariants as request
use Rattle.lsv_session.specs.declared.connection.ConnId.{ConnId}
use Rattle.lsv_session.specs.declared.connection.ConnState.TheVariants.{Fresh}
use Rattle.lsv_session.specs.declared.job.Body.{Body}
use Rattle.lsv_session.specs.declared.job.Body.TheVariants as body
use Rattle.lsv_machine.specs.Answers.{Answer, Saying.Shut, say}
use Rattle.lsv_machine.specs.Failures.{Act, WantsMemory}
use Rattle.lsv_machine.specs.History.{is_gone, request_in}
use Rattle.lsv_machine.specs.Legal.{Came, Fits, all_answers, records_in, told_of, whole_log}
use Rattle.lsv_machine.specs.Machine.{LogState.Absent, LogState.There, Machine, Settings, same}
use Rattle.lsv_machine.specs.Recovery.{Turn, all_turns}
use Rattle.lsv_machine.specs.Turns.{Happened, Happened.Did, Happened.Tailed, Happened.Begins, Run}
use Rattle.lsv_machine.specs.Work.{next_number}

-- ---- What the connection brings

-- whether this is a job of the connection by which it doesn't go
abbrev pub speaks : ConnId → Act → Bool
speaks k act = same act.job.conn k && not (is_gone act.job.body)

-- what the connection sends in these jobs
abbrev pub sent_in : ConnId → List Act → List Body
sent_in k [] = []
sent_in k (act ∷ acts) = if speaks k act then act.job.body ∷ sent_in k acts else sent_in k acts

-- what comes of the connection, turn by turn
abbrev pub came_of : ConnId → List Turn → List Came
came_of k turns = map (λ turn. record { now = turn.now; bodies = sent_in k turn.acts }) turns

-- all that the connection sends in these turns
abbrev pub bodies_of : ConnId → List Turn → List Body
bodies_of k turns = flat_map (λ c. c.bodies) (came_of k turns)

-- in this history the connection doesn't go
abbrev pub NeverGone : ConnId → List Happened → Type 0
NeverGone k [] = Unit {0}
NeverGone k (Did act ∷ history) = (act.job.conn ≡ k → act.job.body ≢ body.Gone) × NeverGone k history
NeverGone k (Tailed tail ∷ history) = NeverGone k history
NeverGone k (Begins texts ∷ history) = NeverGone k history

-- ---- What is in its way

-- in this history no owner failed, and memory didn't run out for the connection's jobs
abbrev pub IsUndisturbed : ConnId → List Happened → Type 0
IsUndisturbed k [] = Unit {0}
IsUndisturbed k (Did act ∷ history) = (act.failed ≡ []) × (act.job.conn ≡ k → WantsMemory k act.answers → ⊥) × IsUndisturbed k history
IsUndisturbed k (Tailed tail ∷ history) = (tail.failed ≡ []) × IsUndisturbed k history
IsUndisturbed k (Begins texts ∷ history) = IsUndisturbed k history

-- whether an accept asks for a log
abbrev pub asks_new : Result Request Refusal → Bool
asks_new (Ok (request.Accept accept)) = accept.expect_iobufs
asks_new asked = false

-- in how many jobs others ask for a new log before the connection does
abbrev pub asked_before : ConnId → List Happened → ℕ
asked_before k [] = 0
asked_before k (Did act ∷ history) = if asks_new (request_in act.job.body) then (if same act.job.conn k then 0 else 1 + asked_before k history) else asked_before k history
asked_before k (Tailed tail ∷ history) = asked_before k history
asked_before k (Begins texts ∷ history) = asked_before k history

-- whether the connection sends anything in this history
abbrev pub sends : ConnId → List Happened → Bool
sends k [] = false
sends k (Did act ∷ history) = speaks k act || sends k history
sends k (Tailed tail ∷ history) = sends k history
sends k (Begins texts ∷ history) = sends k history

-- the event lines that jobs of others left before the last job of the connection by which it sends something
abbrev pub lines_before : ConnId → List Happened → List ℕ
lines_before k [] = []
lines_before k (Did act ∷ history) = if sends k history then (if same act.job.conn k then [] else act.line) ++ lines_before k history else []
lines_before k (Tailed tail ∷ history) = lines_before k history
lines_before k (Begins texts ∷ history) = lines_before k history

-- a number that the connection's log may get: the lane's next one, or one that is further by at most as many as others ask for
pub record MayGet (set : Settings) (m : Machine) (asked n : ℕ) : Type 0 where
  pub passed : ℕ
  pub few : passed ≤ asked
  pub is : n ≡ next_number set m + passed * set.lanes

-- whatever number its log gets, no file, elapsed time or log number passes its limit, and the event log has room for its lines after those that others leave before its last
abbrev pub FitsAmong : Settings → ConnId → (start : Machine) → List Turn → List Body → Type 0
FitsAmong set k start turns bodies = (n : ℕ) → MayGet set start (asked_before k (all_turns turns)) n
    → Fits set k n Fresh (start.lines ++ lines_before k (all_turns turns)) (came_of k turns) bodies

-- ---- What it is answered, and its log

-- those of these answers that go to the connection
abbrev pub answers_to : ConnId → List Answer → List Answer
answers_to k [] = []
answers_to k (a ∷ answers) = if same a.conn k then a ∷ answers_to k answers else answers_to k answers

-- log n is no other connection's at this moment: it isn't there yet, or this one writes it, or it is over, complete and written by nobody
pub data IsHeld (k : ConnId) (n : ℕ) (m : Machine) : Type 0 where
  NotYet : m.logs n ≡ Absent → m.owner n ≡ None → IsHeld k n m
  Written : m.owner n ≡ Some k → IsHeld k n m
  Over : (stored : Stored) (promised : ℕ) → m.logs n ≡ There stored promised → is_some stored.exit ≡ true → m.owner n ≡ None → IsHeld k n m

-- why a restart of it is refused
abbrev pub why_not : {k : ConnId} {n : ℕ} {m : Machine} → IsHeld k n m → Refusal
why_not (NotYet absent free) = NoSuchLog
why_not (Written owned) = LogInUse
why_not (Over stored promised there complete free) = LogComplete

-- at each moment of this run log n is no other's, and no job of another changes it or who writes it
abbrev pub IsLeftAlone : ConnId → ℕ → (set : Settings) (old : Machine) (history : List Happened) (new : Machine) → Run set old history new → Type 0
IsLeftAlone k n set old [] new run = IsHeld k n old
IsLeftAlone k n set old (Did act ∷ history) new (mid, step, run) =
    IsHeld k n old × (act.job.conn ≢ k → (mid.logs n ≡ old.logs n) × (mid.owner n ≡ old.owner n)) × IsLeftAlone k n set mid history new run
IsLeftAlone k n set old (Tailed tail ∷ history) new (mid, ended, run) = IsHeld k n old × IsLeftAlone k n set mid history new run
IsLeftAlone k n set old (Begins texts ∷ history) new run = ⊥

-- a legal conversation was served among others: its log's number, what its connection was told in the whole run, its log at the end, that nobody writes it then, and that it was no other's at any moment
pub record IsServedAmong (set : Settings) (k : ConnId) (n : ℕ) (texts : List (List ℕ)) (turns : List Turn) (start end : Machine) (run : Run set start (all_turns turns) end) : Type 0 where
  pub number : MayGet set start (asked_before k (all_turns turns)) n
  pub above : start.last < n
  pub told : answers_to k (all_answers turns) ≡ map (λ says. say k says) (told_of n (map (λ c. c.bodies) (came_of k turns))) ++ say k Shut ∷ []
  pub log : end.logs n ≡ There (whole_log texts (bodies_of k turns)) (length (records_in (bodies_of k turns)))
  pub free : end.owner n ≡ None
  pub alone : IsLeftAlone k n set start (all_turns turns) end run
