-- What the calls of endpoints put, those of each call together, and whose it was.
use Rattle.std.specs.Prelude.{◌<◌, ◌≤◌, ◌==◌, if◌then◌else◌, ℕ, Bool, false, List, [], ◌∷◌, flat_map, map}
use Rattle.lsv_session.specs.declared.job.Job.{Job}
use Rattle.lsv_links.specs.Turns.{AreOf}
use Rattle.lsv_turn.specs.Turns.{LaneTurn}
use Rattle.lsv_worker.specs.Memory.{bytes_behind_first}

-- the call that gave these jobs, if it gave any
abbrev pub call_of : List Job → List (List Job)
call_of [] = []
call_of (job ∷ jobs) = (job ∷ jobs) ∷ []

-- all jobs that these calls gave, in order
abbrev pub jobs_by : List (List Job) → List Job
jobs_by calls = flat_map (λ jobs. jobs) calls

-- the jobs of each turn
abbrev pub calls_in : List LaneTurn → List (List Job)
calls_in turns = map (λ t. t.jobs) turns

-- whether the first of these jobs is of this worker
abbrev pub is_by : ℕ → List Job → Bool
is_by worker [] = false
is_by worker (job ∷ jobs) = job.conn.worker == worker

-- those of these calls that gave jobs of this worker, by the first job of each
abbrev pub calls_of : ℕ → List (List Job) → List (List Job)
calls_of worker [] = []
calls_of worker (jobs ∷ calls) = if is_by worker jobs then jobs ∷ calls_of worker calls else calls_of worker calls

-- these jobs are all of one worker, whose number is below this, and those after the first hold at most 64 MiB
pub record IsOfOne (places : ℕ) (jobs : List Job) : Type 0 where
  pub worker : ℕ
  pub place : worker < places
  pub own : AreOf worker jobs
  pub light : bytes_behind_first jobs ≤ 67108864
