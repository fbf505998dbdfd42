-- From the bytes of a link to its jobs.
use Rattle.std.specs.Prelude.{◌≡◌, ℕ, Bool, true, false, Option, Some, None, List, [], ◌∷◌, ◌++◌, map}
use Rattle.lsv_defs.specs.Causes.{HasRisen}
use Rattle.lsv_session.specs.Transcript.{AreJobs, AreAllJobs, AreFirst, HasCut}
use Rattle.lsv_session.specs.declared.connection.ConnId.{ConnId}
use Rattle.lsv_session.specs.declared.job.Body.{Body}
use Rattle.lsv_session.specs.declared.job.Body.TheVariants.{Bad, Gone}
use Rattle.lsv_session.specs.declared.job.Fault.TheVariants.{NoMem}
use Rattle.lsv_session.specs.declared.job.Job.{Job}
use Rattle.lsv_cut.specs.Cuts.{unread}
use Rattle.lsv_worker.specs.Lanes.{Routed, Routing, job_of, lane_or_home}
use Rattle.lsv_worker.specs.declared.incoming.Incoming.{Incoming}
use Rattle.lsv_worker.specs.declared.incoming.Stage.{Stage}
use Rattle.lsv_worker.specs.declared.incoming.Stage.TheVariants.{Open, Draining, OutOfMemory, Closing, Closed}
use Rattle.lsv_worker.specs.declared.incoming.Why.{Why}
use Rattle.lsv_worker.specs.declared.incoming.Why.TheVariants.{Ended, Refused, Shut, NoMemory}

-- these are the first jobs of the bytes read, whatever bytes follow
abbrev pub Begins : List ℕ → List Body → Type 0
Begins read heard = (more : List ℕ) (jobs : List Body) → AreJobs (read ++ more) jobs → AreFirst heard jobs

-- how a connection's jobs come from the bytes read, by why it ends
abbrev pub Heard : Why → List ℕ → List Body → Type 0
Heard Ended read heard = AreJobs read heard
Heard Refused read heard = AreAllJobs read heard
Heard Shut read heard = Begins read heard
Heard NoMemory read heard = Begins read heard

-- the last job before the end: if memory ran out, the report of it
abbrev pub last_words : Why → List Body
last_words Ended = []
last_words Refused = []
last_words Shut = []
last_words NoMemory = Bad NoMem ∷ []

-- all jobs of a connection that ends so: those of the bytes read, or the first of them; the report if memory ran out; and one Gone
pub record IsWhole (why : Why) (read : List ℕ) (bodies : List Body) : Type 0 where
  pub heard : List Body
  pub are : Heard why read heard
  pub whole : bodies ≡ heard ++ (last_words why ++ Gone ∷ [])

-- the job that waits, if there is one
abbrev pub kept : Option Body → List Body
kept None = []
kept (Some body) = body ∷ []

-- the jobs that are known at this stage to come after those
abbrev pub tail : Stage → List Body
tail Open = []
tail Draining = []
tail OutOfMemory = Bad NoMem ∷ Gone ∷ []
tail (Closing why) = Gone ∷ []
tail (Closed why) = []

-- the jobs that were cut and not put
abbrev pub ready : Incoming → List Body
ready link = kept link.first ++ kept link.waiting

-- the jobs that are known to be put later
abbrev pub pending : Incoming → List Body
pending link = ready link ++ tail link.stage

-- how these bodies come from the bytes read, at this stage
abbrev pub AreBodies : Stage → List ℕ → List ℕ → List Body → Type 0
AreBodies Open read rest bodies = HasCut read bodies rest
AreBodies Draining read rest bodies = HasCut read bodies rest
AreBodies OutOfMemory read rest bodies = IsWhole NoMemory read bodies
AreBodies (Closing why) read rest bodies = IsWhole why read bodies
AreBodies (Closed why) read rest bodies = IsWhole why read bodies

-- messages are still cut
abbrev pub cuts : Stage → Bool
cuts Open = true
cuts Draining = true
cuts OutOfMemory = false
cuts (Closing why) = false
cuts (Closed why) = false

-- bytes that still come are dropped
abbrev pub drops : Why → Bool
drops Ended = false
drops Refused = true
drops Shut = true
drops NoMemory = true

-- more bytes may come
abbrev pub may_receive : Stage → Bool
may_receive Open = true
may_receive Draining = false
may_receive OutOfMemory = true
may_receive (Closing why) = drops why
may_receive (Closed why) = drops why

-- the Gone was put
abbrev pub has_left : Stage → Bool
has_left Open = false
has_left Draining = false
has_left OutOfMemory = false
has_left (Closing why) = false
has_left (Closed why) = true

-- how often the stage may change while jobs are put
abbrev pub weight : Stage → ℕ
weight Open = 3
weight Draining = 3
weight OutOfMemory = 2
weight (Closing why) = 1
weight (Closed why) = 0

-- a keeper shut the connection
abbrev pub is_shut : Why → Bool
is_shut Ended = false
is_shut Refused = false
is_shut Shut = true
is_shut NoMemory = false

-- a connection at this stage ends because a keeper shut it
abbrev pub was_shut : Stage → Bool
was_shut Open = false
was_shut Draining = false
was_shut OutOfMemory = false
was_shut (Closing why) = is_shut why
was_shut (Closed why) = is_shut why

-- memory ran out for a connection that ends so
abbrev pub ended_out_of_memory : Why → Bool
ended_out_of_memory Ended = false
ended_out_of_memory Refused = false
ended_out_of_memory Shut = false
ended_out_of_memory NoMemory = true

-- a connection at this stage ends because memory ran out
abbrev pub stage_out_of_memory : Stage → Bool
stage_out_of_memory Open = false
stage_out_of_memory Draining = false
stage_out_of_memory OutOfMemory = true
stage_out_of_memory (Closing why) = ended_out_of_memory why
stage_out_of_memory (Closed why) = ended_out_of_memory why

-- a connection that ends so, and whose waiting job is this, has reported that memory ran out, or its other fault's job was put
abbrev pub ClosesReporting : Why → Option Body → Type 0
ClosesReporting Ended waiting = ⊥
ClosesReporting Refused waiting = waiting ≡ None
ClosesReporting Shut waiting = ⊥
ClosesReporting NoMemory waiting = Unit {0}

-- a connection at this stage reports that memory ran out, by a job that was put or comes; or its other fault's job or its Gone was put
abbrev pub ReportsAt : Stage → Option Body → Type 0
ReportsAt Open waiting = ⊥
ReportsAt Draining waiting = ⊥
ReportsAt OutOfMemory waiting = Unit {0}
ReportsAt (Closing why) waiting = ClosesReporting why waiting
ReportsAt (Closed why) waiting = Unit {0}

-- the same of a connection
abbrev pub ReportsNoMemory : Incoming → Type 0
ReportsNoMemory link = ReportsAt link.stage link.waiting

-- the lanes stay; if memory ran out, that stays so and stays reported; and a connection whose Gone was put stays so
pub record IncomingKeeps (old new : Incoming) : Type 0 where
  pub lanes : new.route.lanes ≡ old.route.lanes
  pub out_of_memory : stage_out_of_memory old.stage ≡ true → stage_out_of_memory new.stage ≡ true
  pub told : ReportsNoMemory old → ReportsNoMemory new
  pub left : has_left old.stage ≡ true → has_left new.stage ≡ true

-- what is known of a connection besides its bytes: the number of lanes and its home lane; whether a keeper shut it early; and whether no more bytes come
pub record Marks : Type 0 where
  pub lanes : ℕ
  pub home : ℕ
  pub shut : Bool
  pub over : Bool

-- a connection has this number of lanes and this home lane
pub record IsHomed (route : Routing) (marks : Marks) : Type 0 where
  pub lanes : route.lanes ≡ marks.lanes
  pub home : route.home ≡ marks.home

-- these bytes of a link were read, and these bodies put to each lane; it ends only for a known cause
pub record Receives (link : Incoming) (read : List ℕ) (put : ℕ → List Body) (marks : Marks) : Type 0 where
  pub said : List Body
  pub homed : IsHomed link.route marks
  pub routed : Routed link.route put said (pending link)
  pub quiet : link.route.lane ≡ None → link.waiting ≡ None
  pub bodies : AreBodies link.stage read link.rest (said ++ pending link)
  pub left : has_left link.stage ≡ true → ready link ≡ []
  pub shut : was_shut link.stage ≡ true → marks.shut ≡ true
  pub over : may_receive link.stage ≡ false → marks.over ≡ true

-- what held of the bytes read and the bodies put still holds, whatever they were
abbrev pub SameWay : Incoming → Incoming → Type 0
SameWay old new = (read : List ℕ) (put : ℕ → List Body) (marks : Marks) → Receives old read put marks → Receives new read put marks

-- what a call puts to each lane, whatever was read and put before
pub record Puts (c : ConnId) (old new : Incoming) (before after : ℕ → List Job) : Type 0 where
  pub added : ℕ → List Body
  pub put : (lane : ℕ) → after lane ≡ before lane ++ map (job_of c) (added lane)
  pub goes : (read : List ℕ) (past : ℕ → List Body) (marks : Marks) → Receives old read past marks → Receives new read (λ lane. past lane ++ added lane) marks

-- the same, whatever bytes are kept
abbrev pub PutsAny : ConnId → Incoming → Incoming → (ℕ → List Job) → (ℕ → List Job) → Type 0
PutsAny c old new before after = (rest : List ℕ) → Puts c (record old { rest = rest }) (record new { rest = rest }) before after

-- a connection as if it also kept a piece from a place on
abbrev pub with_piece : Incoming → List ℕ → ℕ → Incoming
with_piece link piece at = record link { rest = unread link.rest piece at }

-- the lane of a connection was full: the count of its refused puts rose
abbrev pub WasFull : Routing → (ℕ → ℕ) → (ℕ → ℕ) → Type 0
WasFull route before after = HasRisen (before (lane_or_home route)) (after (lane_or_home route))
