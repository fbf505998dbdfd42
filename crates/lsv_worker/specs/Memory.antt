-- An inbox in memory, of one lane.
use Rattle.std.specs.Prelude.{◌≡◌, ◌+◌, ◌<◌, ◌≤◌, ℕ, zero, suc, List, [], ◌∷◌, length, sum_by}
use Rattle.std.proofs.Common.{refl, ◌∙◌}
use Rattle.std.specs.List.{AllByRecursion}
use Rattle.lsv_session.specs.declared.job.Job.{Job}
use Rattle.lsv_worker.specs.Sizes.{job_bytes}
use Rattle.lsv_worker.specs.declared.memory.MemInbox.{MemInbox}

-- the jobs that wait, in order
abbrev pub waiting : MemInbox → List Job
waiting inbox = inbox.jobs.items

-- the estimated bytes of the jobs after the first
abbrev pub bytes_behind_first : List Job → ℕ
bytes_behind_first [] = 0
bytes_behind_first (first ∷ jobs) = sum_by job_bytes jobs

-- all waiting jobs are of the inbox's worker, at most 256 wait, and those after the first hold the counted bytes, at most 64 MiB
pub record IsOrderly (inbox : MemInbox) : Type 0 where
  pub own : AllByRecursion (λ job. job.conn.worker ≡ inbox.worker) (waiting inbox)
  pub few : length (waiting inbox) ≤ 256
  pub counted : inbox.bytes ≡ bytes_behind_first (waiting inbox)
  pub light : bytes_behind_first (waiting inbox) ≤ 67108864

-- there is room for one more job of this size: fewer than 256 wait, and either none waits or those after the first hold at most 64 MiB with it
pub record HasRoom (inbox : MemInbox) (size : ℕ) : Type 0 where
  pub few : length (waiting inbox) < 256
  pub light : 0 < length (waiting inbox) → inbox.bytes + size ≤ 67108864

-- the inbox takes this job: it is of its worker, and there is room for it
pub record Admits (inbox : MemInbox) (job : Job) : Type 0 where
  pub own : job.conn.worker ≡ inbox.worker
  pub room : HasRoom inbox (job_bytes job)

-- it is the inbox of the same worker, and if it was orderly, it still is
pub record KeepsOrder (old new : MemInbox) : Type 0 where
  pub worker : new.worker ≡ old.worker
  pub orderly : IsOrderly old → IsOrderly new

pub order_here : (i : MemInbox) → KeepsOrder i i
order_here i = record { worker = refl; orderly = λ o. o }

pub order_through : (i j k : MemInbox) → KeepsOrder i j → KeepsOrder j k → KeepsOrder i k
order_through i j k a b = record { worker = b.worker ∙ a.worker; orderly = λ o. b.orderly (a.orderly o) }

-- the count of each lane, given that of the one lane
abbrev pub count_in : ℕ → ℕ → ℕ
count_in zero count = count
count_in (suc lane) count = 0
