-- What threads made of endpoints and lanes, once all have been joined.
use Rattle.std.specs.Prelude.{◌≡◌, ◌≤◌, ◌<◌, ◌++◌, ℕ, Bool, true, false, Result, Ok, Err, List, [], Some, length, slice_get}
use Rattle.std.specs.List.{Contains}
use Rattle.atomic_table.specs.Seated.{TableId}
use Rattle.lsv_base.specs.declared.no_mem.NoMem.{NoMem}
use Rattle.lsv_queue.specs.Settled.{IsMerge}
use Rattle.lsv_session.specs.declared.job.Job.{Job}
use Rattle.lsv_session.specs.declared.reply.Reply.{Reply}
use Rattle.lsv_links.specs.Links.{PutsPrefixes, ServesPort}
use Rattle.lsv_links.specs.Turns.{jobs_of, replies_to}
use Rattle.lsv_turn.specs.Turns.{AreAskedIn, AreTaken, IsToThese, LaneTurn, jobs_in, replies_in}
use Rattle.lsv_turn.specs.declared.lane.Lane
use Rattle.lsv_reactor.specs.Served.{HasPortsEnd, KeepPorts}
use Rattle.lsv_reactor.specs.declared.endpoint.Endpoint
use Rattle.lsv_reactor.specs.declared.rounds.PortsEnd.{PortsEnd}

-- ---- What the joined threads leave

-- An endpoint after the joins: the jobs that it put to each lane, and the replies that it took. The jobs are its worker's in the
-- lane's turns, and after them those that the lane dropped. The replies are all that the lanes' turns have for the worker.
pub record IsLeft {T : Type 0} (words : Endpoint.Ghosts T) (start : words.Start) (lanes worker : ℕ) (endpoint : T) (stopped failed : Bool) (turns : ℕ → List LaneTurn) : Type 0 where
  pub gave : ℕ → List Job
  pub dropped : ℕ → List Job
  pub took : List Reply
  pub gave_are : (l : ℕ) → gave l ≡ jobs_of worker (jobs_in (turns l)) ++ dropped l
  -- no job was dropped if memory ran out for no lane
  pub none : failed ≡ false → (l : ℕ) → dropped l ≡ []
  pub merge : IsMerge took (λ l. replies_to worker (replies_in (turns l)))
  pub number_is : stopped ≡ false → words.number endpoint ≡ worker
  pub lanes_are : stopped ≡ false → words.lanes endpoint ≡ lanes
  pub made : stopped ≡ false → words.made_by start endpoint gave took
  -- if it was stopped, its links are closed, and were served by these up to some point
  pub put : stopped ≡ true → words.tells → PutsPrefixes lanes worker gave (λ l. took) (words.begun start) (words.view endpoint)

-- The turns of each lane, and each endpoint after the joins. stops: whether the endpoint of each place was stopped. failed:
-- whether memory ran out for a lane. olds: the endpoints before the start. count: how many lanes there were.
pub record AreTurned {T L : Type 0} (words : Endpoint.Ghosts T) (lane_words : Lane.Ghosts L) (starts : ℕ → words.Start) (begins : ℕ → lane_words.Start) (olds : List T) (count : ℕ) (endpoints : List T) (stops : List Bool) (lanes : List L) (failed : Bool) : Type 0 where
  pub turns : ℕ → List LaneTurn
  pub past : (l : ℕ) → count ≤ l → turns l ≡ []
  pub made : (l : ℕ) (lane : L) → slice_get lanes l ≡ Some lane → lane_words.made_by (begins l) lane (turns l)
  pub are : (l : ℕ) → (queue : TableId) × AreTaken queue 0 (turns l)
  pub asked : lane_words.tells → (l : ℕ) → AreAskedIn (turns l)
  pub to_these : (l : ℕ) → IsToThese (jobs_in (turns l)) (replies_in (turns l))
  pub left : (w : ℕ) (endpoint : T) (stopped : Bool) → slice_get endpoints w ≡ Some endpoint → slice_get stops w ≡ Some stopped → IsLeft words (starts w) count w endpoint stopped failed turns
  pub within : (l : ℕ) (job : Job) → Contains (jobs_in (turns l)) job → job.conn.worker < length olds
  pub size : length endpoints ≡ length olds
  pub stops_size : length stops ≡ length olds
  pub lanes_size : length lanes ≡ count
  pub keep : KeepPorts words.view olds endpoints

-- ---- What a server did by its threads

-- The links of all ports were served by these turns of each lane, each by the worker of its port's place. No job is of another
-- worker, and the ports ended so.
pub record ServesLanes {T : Type 0} (words : Endpoint.Ghosts T) (lane_tells : Type 0) (lanes : ℕ) (starts : ℕ → words.Start) (endpoints : List T) (turns : ℕ → List LaneTurn) (end : PortsEnd) : Type 0 where
  pub each : words.tells → (w : ℕ) (endpoint : T) → slice_get endpoints w ≡ Some endpoint
      → ServesPort (λ l. lane_tells) lanes w (λ l. jobs_in (turns l)) (λ l. replies_in (turns l)) (words.begun (starts w)) (words.view endpoint)
  pub within : (l : ℕ) (job : Job) → Contains (jobs_in (turns l)) job → job.conn.worker < length endpoints
  pub ended : HasPortsEnd words.tells words.begun words.view starts endpoints end

-- All links of all ports are closed. Each connection's jobs in these turns are of one lane, the one that they decide if they decide
-- one. They are the first of what was read of it. Nothing was put on the links but prefixes of the answers by these turns. No job is
-- of another worker than that of a port's place.
pub record PutsLanes {T : Type 0} (words : Endpoint.Ghosts T) (lanes : ℕ) (starts : ℕ → words.Start) (endpoints : List T) (turns : ℕ → List LaneTurn) : Type 0 where
  pub each : words.tells → (w : ℕ) (endpoint : T) → slice_get endpoints w ≡ Some endpoint → PutsPrefixes lanes w (λ l. jobs_in (turns l)) (λ l. replies_in (turns l)) (words.begun (starts w)) (words.view endpoint)
  pub within : (l : ℕ) (job : Job) → Contains (jobs_in (turns l)) job → job.conn.worker < length endpoints

-- Each lane made some turns, of 1 to 256 jobs each, and what they did for the ports. olds: the endpoints before the start.
-- count: how many lanes there were. end: how the ports ended, or an Err: memory ran out, or an endpoint lost a reply or has no end.
pub record AreServed {T L : Type 0} (words : Endpoint.Ghosts T) (lane_words : Lane.Ghosts L) (starts : ℕ → words.Start) (begins : ℕ → lane_words.Start) (olds : List T) (count : ℕ) (endpoints : List T) (lanes : List L) (end : Result PortsEnd NoMem) : Type 0 where
  pub turns : ℕ → List LaneTurn
  pub past : (l : ℕ) → count ≤ l → turns l ≡ []
  pub made : (l : ℕ) (lane : L) → slice_get lanes l ≡ Some lane → lane_words.made_by (begins l) lane (turns l)
  pub are : (l : ℕ) → (queue : TableId) × AreTaken queue 0 (turns l)
  pub asked : lane_words.tells → (l : ℕ) → AreAskedIn (turns l)
  pub size : length endpoints ≡ length olds
  pub lanes_size : length lanes ≡ count
  pub keep : KeepPorts words.view olds endpoints
  pub ended : (e : PortsEnd) → end ≡ Ok e → ServesLanes words lane_words.tells count starts endpoints turns e
  pub broken : (why : NoMem) → end ≡ Err why → PutsLanes words count starts endpoints turns
