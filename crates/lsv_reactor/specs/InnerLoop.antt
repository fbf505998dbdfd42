-- For proofs of the loop: what its posts gave and took so far, and what its lane made of it.
use Rattle.std.specs.Prelude.{◌≡◌, ◌<◌, ◌++◌, ℕ, List, [], Some, true, length, slice_get}
use Rattle.std.specs.List.{AllByRecursion}
use Rattle.lsv_port.specs.Ledger.{Continues, PortLedger}
use Rattle.lsv_session.specs.declared.job.Job.{Job}
use Rattle.lsv_session.specs.declared.reply.Reply.{Reply}
use Rattle.lsv_links.specs.Lanes.{one_lane}
use Rattle.lsv_links.specs.Links.{PutsPrefixes}
use Rattle.lsv_links.specs.Turns.{AreSized, replies_to}
use Rattle.lsv_links.specs.Views.{PortFailed, PortView}
use Rattle.lsv_reactor.specs.Calls.{IsOfOne, call_of, calls_of, jobs_by}
use Rattle.lsv_reactor.specs.Endpoints.{Serves}
use Rattle.lsv_reactor.specs.declared.endpoint.EndpointEnd.{EndpointEnd}
use Rattle.lsv_reactor.specs.declared.endpoint.EndpointEnd.TheVariants as its_end
use Rattle.lsv_reactor.specs.declared.rounds.PortsEnd.{PortsEnd}
use Rattle.lsv_reactor.specs.declared.rounds.PortsEnd.TheVariants.{Stopped, Failed}
use Rattle.lsv_turn.specs.Turns.{AreAskedIn, LaneTurn}
use Rattle.lsv_worker.specs.Memory.{IsOrderly, waiting}
use Rattle.lsv_worker.specs.declared.memory.MemInbox.{MemInbox}

-- this post's number is its place, its port is still the one of this ledger, and it put these of the calls' jobs and took these of the replies
pub record IsPost {T S : Type 0} (number lanes : T → ℕ) (view : T → PortView) (made_by : S → T → (ℕ → List Job) → List Reply → Type 0) (called : T → List (List Job) → Type 0) (start : S) (ledger : PortLedger) (i : ℕ) (post : T) (calls : List (List Job)) (replies : List Reply) : Type 0 where
  pub numbered : number post ≡ i
  pub laned : lanes post ≡ 1
  pub continues : Continues ledger (view post).ledger
  pub made : made_by start post (λ lane. one_lane lane (jobs_by (calls_of i calls))) (replies_to i replies)
  pub answered : called post (calls_of i calls)

-- each of these posts is so, from these starts on; and each call is of one worker with a place
pub record ArePosts {T S : Type 0} (number lanes : T → ℕ) (view : T → PortView) (made_by : S → T → (ℕ → List Job) → List Reply → Type 0) (called : T → List (List Job) → Type 0) (starts : ℕ → S) (ledgers : ℕ → PortLedger) (posts : List T) (calls : List (List Job)) (replies : List Reply) : Type 0 where
  pub each : (i : ℕ) (post : T) → slice_get posts i ≡ Some post → IsPost number lanes view made_by called (starts i) (ledgers i) i post calls replies
  pub placed : AllByRecursion (IsOfOne (length posts)) calls

-- one call of a post, which found nothing in its inbox, put these jobs there, whatever it had put and taken
pub record Gives {T S : Type 0} (number lanes : T → ℕ) (view : T → PortView) (made_by : S → T → (ℕ → List Job) → List Reply → Type 0) (called : T → List (List Job) → Type 0) (old new : T) (jobs : List Job) : Type 0 where
  pub number_is : number new ≡ number old
  pub lanes_are : lanes new ≡ lanes old
  pub continues : Continues (view old).ledger (view new).ledger
  pub made : (start : S) (gave : List Job) (took : List Reply) → made_by start old (λ lane. one_lane lane gave) took → made_by start new (λ lane. one_lane lane (gave ++ jobs)) took
  pub answered : (calls : List (List Job)) → called old calls → called new (calls ++ call_of jobs)

-- an inbox of the worker of this number, in which no job waits
pub record IsEmptied (worker : ℕ) (inbox : MemInbox) : Type 0 where
  pub own : inbox.worker ≡ worker
  pub empty : waiting inbox ≡ []
  pub orderly : IsOrderly inbox

-- this many inboxes, each of the worker of its place, in which no job waits
pub record AreEmptied (count : ℕ) (inboxes : List MemInbox) : Type 0 where
  pub size : length inboxes ≡ count
  pub each : (i : ℕ) (inbox : MemInbox) → slice_get inboxes i ≡ Some inbox → IsEmptied i inbox

-- the turns that a lane made, and how large they are; where the lane tells, nobody unasked is replied to
pub record IsLane {L M : Type 0} (tells : Type 0) (made_by : M → L → List LaneTurn → Type 0) (start : M) (lane : L) (turns : List LaneTurn) : Type 0 where
  pub made : made_by start lane turns
  pub sized : AreSized turns
  pub asked : tells → AreAskedIn turns

-- the post at each place put these jobs to each lane, and took these replies
abbrev pub AreMade : {T S : Type 0} (made_by : S → T → (ℕ → List Job) → List Reply → Type 0) (starts : ℕ → S) (posts : List T) (gave : ℕ → ℕ → List Job) (took : ℕ → List Reply) → Type 0
AreMade {T} made_by starts posts gave took = (i : ℕ) (post : T) → slice_get posts i ≡ Some post → made_by (starts i) post (gave i) (took i)

-- how the first this many ports ended
abbrev pub HasEndBelow : {T S : Type 0} (tells : Type 0) (begun : S → PortView) (view : T → PortView) (starts : ℕ → S) (posts : List T) (count : ℕ) → PortsEnd → Type 0
HasEndBelow {T} tells begun view starts posts count Stopped = tells → (i : ℕ) (post : T) → i < count → slice_get posts i ≡ Some post → (view post).state.stopped ≡ true
HasEndBelow {T} tells begun view starts posts count Failed = (i : ℕ) × ((post : T) × (slice_get posts i ≡ Some post) × PortFailed (begun (starts i)) (view post))

-- how ports ended, of which one more ended so
abbrev pub worse : PortsEnd → EndpointEnd → PortsEnd
worse end its_end.Stopped = end
worse end its_end.Failed = Failed
worse end its_end.Lost = end

-- the first this many posts have come to their ends, and served their ports
pub record AreOver {T S : Type 0} (tells : Type 0) (number lanes : T → ℕ) (begun : S → PortView) (view : T → PortView) (starts : ℕ → S) (posts : List T) (gave : ℕ → ℕ → List Job) (took : ℕ → List Reply) (count : ℕ) (end : PortsEnd) : Type 0 where
  pub each : tells → (i : ℕ) (post : T) → i < count → slice_get posts i ≡ Some post → Serves (lanes post) (number post) (gave i) (took i) (begun (starts i)) (view post)
  pub ended : HasEndBelow tells begun view starts posts count end

-- the ports of these posts are those with these ledgers still
abbrev pub KeepLedgers : {T : Type 0} (view : T → PortView) (ledgers : ℕ → PortLedger) (posts : List T) → Type 0
KeepLedgers {T} view ledgers posts = (i : ℕ) (post : T) → slice_get posts i ≡ Some post → Continues (ledgers i) (view post).ledger

-- the first this many posts were stopped: their links are closed, the jobs of these calls are the first of what was read of them, and nothing was put on them but prefixes of the answers by these replies
pub record AreStopped {T S : Type 0} (tells : Type 0) (begun : S → PortView) (view : T → PortView) (starts : ℕ → S) (ledgers : ℕ → PortLedger) (posts : List T) (calls : List (List Job)) (took : List Reply) (count : ℕ) : Type 0 where
  pub continues : (i : ℕ) (post : T) → i < count → slice_get posts i ≡ Some post → Continues (ledgers i) (view post).ledger
  pub put : tells → (i : ℕ) (post : T) → i < count → slice_get posts i ≡ Some post → PutsPrefixes 1 i (λ lane. one_lane lane (jobs_by calls)) (λ lane. one_lane lane took) (begun (starts i)) (view post)
  pub placed : AllByRecursion (IsOfOne (length posts)) calls
