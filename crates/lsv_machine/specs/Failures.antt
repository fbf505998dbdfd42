-- What else a job may do than the table says, for want of memory or where a device failed. What a step of the machine is.
use Rattle.std.specs.Prelude.{◌≡◌, ◌≤◌, ◌<◌, ◌+◌, ◌*◌, ◌^◌, ◌⊎◌, ℕ, min, Bool, true, false, List, [], ◌∷◌, take, Option, Some, None, Contains, Result, Ok, Err}
use Rattle.lsv_base.specs.declared.time.TimeSpec.{TimeSpec}
use Rattle.lsv_disk.specs.declared.file.Owner.{Owner}
use Rattle.lsv_disk.specs.declared.file.Owner.TheVariants.{Log, Events, Numbers, Relay}
use Rattle.lsv_info.specs.Layout.{head_text, exit_text}
use Rattle.lsv_record.specs.Points.{Stored, first}
use Rattle.lsv_request.specs.declared.refusal.Refusal.{Refusal}
use Rattle.lsv_request.specs.declared.refusal.Refusal.TheVariants.{DeviceFault, OutOfMemory}
use Rattle.lsv_request.specs.declared.request.Accept.{Accept}
use Rattle.lsv_request.specs.declared.request.Restart.{Restart}
use Rattle.lsv_request.specs.declared.request.Request.{Request}
use Rattle.lsv_request.specs.declared.request.Request.TheVariants as request
use Rattle.lsv_session.specs.declared.connection.ConnId.{ConnId}
use Rattle.lsv_session.specs.declared.connection.ConnState.{ConnState}
use Rattle.lsv_session.specs.declared.connection.ConnState.TheVariants.{Dead}
use Rattle.lsv_session.specs.declared.job.Body.{Body}
use Rattle.lsv_session.specs.declared.job.Body.TheVariants as body
use Rattle.lsv_session.specs.declared.job.Job.{Job}
use Rattle.lsv_machine.specs.Answers.{Answer, Shut, say, refusal}
use Rattle.lsv_machine.specs.Judgement.{judged, fault_refusal}
use Rattle.lsv_machine.specs.Machine.{LogState, LogState.There, Machine, Settings, is_dead, leaves, log_of, with_log}
use Rattle.lsv_machine.specs.Work.{draws, empty_log, fits_file, has_line, last_number, makes, next_number, opens, plain, with_exit}

-- a job with its answers in order, the owners whose files failed in it, whether the log of a refused restart failed inside its cut, the event
-- line that it left, and the moment of its turn
pub record Act : Type 0 where
  pub job : Job
  pub answers : List Answer
  pub failed : List Owner
  pub in_cut : Bool
  pub line : List ℕ
  pub now : TimeSpec

-- ---- Draws

-- a number that may be drawn: the next, or, after k failed draws, one up to k steps further
pub record MayDraw (set : Settings) (m : Machine) (n : ℕ) : Type 0 where
  pub passed : ℕ
  pub few : passed ≤ m.failed_draws
  pub next : n ≡ next_number set m + passed * set.lanes

-- a draw failed
pub record FailsToDraw (set : Settings) (failed : List Owner) (old new : Machine) : Type 0 where
  pub did : Contains failed (Numbers set.lane)
  pub now : new ≡ record old { failed_draws = old.failed_draws + 1 }

-- ---- What may become of a log

-- a log that failed, and hasn't ended: some first of its records are left, and those promised at least
pub record LosesTail (old new : LogState) : Type 0 where
  pub stored : Stored
  pub promised : ℕ
  pub was : old ≡ There stored promised
  pub unfinished : stored.exit ≡ None
  pub left : ℕ
  pub enough : promised ≤ left
  pub now : new ≡ There (record stored { records = take left stored.records }) promised

-- a log that its connection lets go: it is as it was, or it failed
abbrev pub Closes : List Owner → ℕ → LogState → LogState → Type 0
Closes failed n old new = (new ≡ old) ⊎ (Contains failed (Log n) × LosesTail old new)

-- a log that was there has this exit now, and no more is promised of it
pub record IsSet (exit : List ℕ) (old new : LogState) : Type 0 where
  pub fits : fits_file exit ≡ true
  pub stored : Stored
  pub promised : ℕ
  pub was : old ≡ There stored promised
  pub now : new ≡ There (with_exit exit stored) promised

-- a log that failed inside a cut at this point: it may have been cut or not, and of the records promised those after the point may be gone
pub record FailsInCut (point : ℕ) (old new : LogState) : Type 0 where
  pub stored : Stored
  pub promised : ℕ
  pub was : old ≡ There stored promised
  pub unfinished : stored.exit ≡ None
  pub kept : ℕ
  pub ends : first stored.records point ≡ Some kept
  pub left : ℕ
  pub enough : min promised kept ≤ left
  pub cuts : ℕ
  pub counted : (cuts ≡ stored.cuts) ⊎ ((cuts ≡ stored.cuts + 1) × (cuts < 2 ^ 63))
  pub now : new ≡ There (record stored { records = take left stored.records; cuts = cuts }) (min promised kept)

-- ---- Jobs that end otherwise

-- the exit that is asked for
abbrev pub exit_in : Result Request Refusal → Option (List ℕ)
exit_in (Ok (request.Exit exit)) = Some (exit_text exit)
exit_in asked = None

-- the log that the connection writes is let go, or an exit of it was set
abbrev pub LeavesLog : List Owner → Option ℕ → Option (List ℕ) → Machine → Machine → Type 0
LeavesLog failed None exit old new = new ≡ old
LeavesLog failed (Some n) None old new = (log : LogState) × Closes failed n (old.logs n) log × (new ≡ with_log n log old)
LeavesLog failed (Some n) (Some exit) old new = (log : LogState) × (Closes failed n (old.logs n) log ⊎ IsSet exit (old.logs n) log) × (new ≡ with_log n log old)

-- an accept has drawn its number, and its log was made or not; nobody writes it
pub record Makes (set : Settings) (s : ConnState) (asked : Result Request Refusal) (old new : Machine) : Type 0 where
  pub accept : Accept
  pub asks : asked ≡ Ok (request.Accept accept)
  pub opening : opens s (request.Accept accept) ≡ true
  pub number : ℕ
  pub drawn : MayDraw set old number
  pub within : number ≤ last_number
  pub log : LogState
  pub made : (log ≡ old.logs number) ⊎ ((fits_file (head_text accept.head) ≡ true) × (log ≡ There (empty_log (head_text accept.head)) 0))
  pub now : new ≡ with_log number log (draws number old)

-- whether an accept that opens a log is asked for
abbrev pub asks_to_open : ConnState → Result Request Refusal → Bool
asks_to_open s (Ok asked) = opens s asked
asks_to_open s (Err why) = false

-- how far the work had come
abbrev pub BreaksOff : Settings → List Owner → ConnState → Result Request Refusal → Machine → Machine → Type 0
BreaksOff set failed s asked old new =
    LeavesLog failed (log_of s) (exit_in asked) old new
    ⊎ ((asks_to_open s asked ≡ true) × FailsToDraw set failed old new)
    ⊎ Makes set s asked old new

-- an accept's number was drawn and its log made, when its event line met a fault
pub record HasMade (set : Settings) (accept : Accept) (old new : Machine) : Type 0 where
  pub number : ℕ
  pub drawn : MayDraw set old number
  pub within : number ≤ last_number
  pub fits : fits_file (head_text accept.head) ≡ true
  pub now : new ≡ makes number (head_text accept.head) old

-- an exit was set, where the connection has a log, when its event line met a fault
abbrev pub HasSet : Option ℕ → List ℕ → Machine → Machine → Type 0
HasSet None exit old new = new ≡ old
HasSet (Some n) exit old new = (log : LogState) × IsSet exit (old.logs n) log × (new ≡ with_log n log old)

-- the event log failed at a request's line: what was done before the line is done, and any other log is let go
abbrev pub LosesLine : Settings → List Owner → ConnState → Request → Machine → Machine → Type 0
LosesLine set failed s (request.Accept accept) old new =
    ((opens s (request.Accept accept) ≡ true) × HasMade set accept old new)
    ⊎ ((opens s (request.Accept accept) ≡ false) × LeavesLog failed (log_of s) None old new)
LosesLine set failed s (request.Exit exit) old new = HasSet (log_of s) (exit_text exit) old new
LosesLine set failed s asked old new = LeavesLog failed (log_of s) None old new

-- log n failed: the one that an accept makes; the one that a restart names and nobody writes, which is as it was; the one that an exit ends, in which the exit may be set
abbrev pub LogFails : Settings → List Owner → ConnState → Request → ℕ → Machine → Machine → Type 0
LogFails set failed s (request.Accept accept) n old new = (made : Makes set s (Ok (request.Accept accept)) old new) × (made.number ≡ n)
LogFails set failed s (request.Restart restart) n old new = (restart.log ≡ n) × (old.owner n ≡ None) × (new ≡ old)
LogFails set failed s (request.Exit exit) n old new = (log_of s ≡ Some n) × LeavesLog failed (Some n) (Some (exit_text exit)) old new
LogFails set failed s asked n old new = ⊥

-- what a request leaves by the owner that failed: the lane's number file, for an accept that opens a log; its event log, for a line; or the log
abbrev pub FailsAt : Settings → List Owner → ConnState → Request → Owner → Machine → Machine → Type 0
FailsAt set failed s asked (Numbers lane) old new = (lane ≡ set.lane) × (opens s asked ≡ true) × FailsToDraw set failed old new
FailsAt set failed s asked (Events lane) old new = (lane ≡ set.lane) × (has_line set asked ≡ true) × LosesLine set failed s asked old new
FailsAt set failed s asked (Log n) old new = LogFails set failed s asked n old new
FailsAt set failed s asked (Relay n) old new = ⊥

-- a request that isn't refused met a device fault: an owner failed that it uses
pub record MeetsFault (set : Settings) (failed : List Owner) (s : ConnState) (asked : Result Request Refusal) (old new : Machine) : Type 0 where
  pub request : Request
  pub asks : asked ≡ Ok request
  pub owner : Owner
  pub did : Contains failed owner
  pub leaves : FailsAt set failed s request owner old new

-- the answers where memory ran out: the error, or a Shut alone in its place
abbrev pub WantsMemory : ConnId → List Answer → Type 0
WantsMemory k answers = (answers ≡ refusal k OutOfMemory) ⊎ (answers ≡ say k Shut ∷ [])

-- the connection is refused for a device fault, or memory ran out for that
abbrev pub IsRefused : ConnId → List Answer → Type 0
IsRefused k answers = (answers ≡ refusal k DeviceFault) ⊎ WantsMemory k answers

-- a job ends its connection: memory ran out, however far the work had come; or it met a device fault
pub record BrokenOff (set : Settings) (old : Machine) (act : Act) (asked : Result Request Refusal) (new : Machine) : Type 0 where
  pub left : Machine
  pub why : (WantsMemory act.job.conn act.answers × BreaksOff set act.failed (old.states act.job.conn) asked old left)
      ⊎ (IsRefused act.job.conn act.answers × MeetsFault set act.failed (old.states act.job.conn) asked old left)
  pub now : new ≡ leaves act.job.conn Dead left

-- the same of a job's body: a Gone never ends so
abbrev pub Breaks : Settings → Machine → Act → Body → Machine → Type 0
Breaks set old act (body.Msg message) new = BrokenOff set old act (judged (old.states act.job.conn) message) new
Breaks set old act (body.Bad fault) new = BrokenOff set old act (Err (fault_refusal fault)) new
Breaks set old act body.Gone new = ⊥

-- a job asks for this, and its judgement lets it through
abbrev pub AsksFor : ConnState → Body → Request → Type 0
AsksFor s (body.Msg message) asked = judged s message ≡ Ok asked
AsksFor s (body.Bad fault) asked = ⊥
AsksFor s body.Gone asked = ⊥

-- a connection lets its log go: it is refused, or it went
abbrev pub LetsGo : Act → Type 0
LetsGo act = ((why : Refusal) × (act.answers ≡ refusal act.job.conn why)) ⊎ (act.job.body ≡ body.Gone)

-- a job does what the table says, and the log that its connection lets go failed besides
pub record LosesLog (set : Settings) (old : Machine) (act : Act) (new : Machine) : Type 0 where
  pub number : ℕ
  pub drawn : MayDraw set old number
  pub lets_go : LetsGo act
  pub answers : act.answers ≡ (plain set act.now act.job number old).answers
  pub log : ℕ
  pub writes : log_of (old.states act.job.conn) ≡ Some log
  pub did : Contains act.failed (Log log)
  pub left : LogState
  pub loses : LosesTail ((plain set act.now act.job number old).machine.logs log) left
  pub now : new ≡ with_log log left (plain set act.now act.job number old).machine

-- a restart failed inside its cut, and is marked so
pub record FailsCut (set : Settings) (old : Machine) (act : Act) (new : Machine) : Type 0 where
  pub restart : Restart
  pub asks : AsksFor (old.states act.job.conn) act.job.body (request.Restart restart)
  pub free : old.owner restart.log ≡ None
  pub did : Contains act.failed (Log restart.log)
  pub log : LogState
  pub fails : FailsInCut restart.point (old.logs restart.log) log
  pub answers : IsRefused act.job.conn act.answers
  pub now : new ≡ leaves act.job.conn Dead (with_log restart.log log old)

-- ---- A step

-- no device failed, and memory was ample
pub record Plainly (set : Settings) (old : Machine) (act : Act) (new : Machine) : Type 0 where
  pub number : ℕ
  pub drawn : MayDraw set old number
  pub answers : act.answers ≡ (plain set act.now act.job number old).answers
  pub line : act.line ≡ (plain set act.now act.job number old).line
  pub sound : act.failed ≡ []
  pub unmarked : act.in_cut ≡ false
  pub now : new ≡ (plain set act.now act.job number old).machine

-- a job that does otherwise than the table says. It left no line, and is marked where it failed inside a cut
pub record Deviates (set : Settings) (old : Machine) (act : Act) (new : Machine) : Type 0 where
  pub alive : is_dead (old.states act.job.conn) ≡ false
  pub no_line : act.line ≡ []
  pub how : ((act.in_cut ≡ false) × Breaks set old act act.job.body new)
      ⊎ ((act.in_cut ≡ false) × LosesLog set old act new)
      ⊎ ((act.in_cut ≡ true) × FailsCut set old act new)

-- what one job may do
abbrev pub Step : Settings → Machine → Act → Machine → Type 0
Step set old act new = Plainly set old act new ⊎ Deviates set old act new
