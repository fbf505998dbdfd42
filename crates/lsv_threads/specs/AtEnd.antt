-- Endpoints after the joins, while they are brought to their ends.
use Rattle.std.specs.Prelude.{◌≡◌, ◌<◌, ℕ, Bool, true, false, List, Some, slice_get, slice_index_or}
use Rattle.lsv_session.specs.declared.job.Job.{Job}
use Rattle.lsv_session.specs.declared.reply.Reply.{Reply}
use Rattle.lsv_links.specs.Links.{PutsPrefixes}
use Rattle.lsv_reactor.specs.declared.endpoint.Endpoint

module _ {T : Type 0} (words : Endpoint.Ghosts T) where
  -- The endpoint of this worker, of a server of this many lanes, gave these jobs and took these replies. If it was stopped, its
  -- links are closed, and were served by these up to some point.
  pub record IsAtEnd (start : words.Start) (lanes worker : ℕ) (endpoint : T) (stopped : Bool) (gave : ℕ → List Job) (took : List Reply) : Type 0 where
    pub number_is : stopped ≡ false → words.number endpoint ≡ worker
    pub lanes_are : stopped ≡ false → words.lanes endpoint ≡ lanes
    pub made : stopped ≡ false → words.made_by start endpoint gave took
    pub put : stopped ≡ true → words.tells → PutsPrefixes lanes worker gave (λ l. took) (words.begun start) (words.view endpoint)

  -- each of these endpoints is so, by its place; one of which nothing is noted wasn't stopped
  abbrev pub AreAtEnd : (starts : ℕ → words.Start) (lanes : ℕ) (endpoints : List T) (stops : List Bool) (gave : ℕ → ℕ → List Job) (took : ℕ → List Reply) → Type 0
  AreAtEnd starts lanes endpoints stops gave took = (w : ℕ) (endpoint : T) → slice_get endpoints w ≡ Some endpoint → IsAtEnd (starts w) lanes w endpoint (slice_index_or stops w false) (gave w) (took w)

  -- the links of the first `count` endpoints are closed, and were served by these up to some point
  abbrev pub AreStopped : (starts : ℕ → words.Start) (lanes : ℕ) (endpoints : List T) (gave : ℕ → ℕ → List Job) (took : ℕ → List Reply) (count : ℕ) → Type 0
  AreStopped starts lanes endpoints gave took count = words.tells → (w : ℕ) (endpoint : T) → w < count → slice_get endpoints w ≡ Some endpoint → PutsPrefixes lanes w (gave w) (λ l. took w) (words.begun (starts w)) (words.view endpoint)
