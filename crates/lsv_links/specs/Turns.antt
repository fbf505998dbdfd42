-- How large the turns of a server are, and whose jobs are whose.
use Rattle.std.specs.Prelude.{◌≡◌, ◌≤◌, ◌==◌, if◌then◌else◌, ℕ, List, [], ◌∷◌, None, length}
use Rattle.std.specs.List.{AllByRecursion}
use Rattle.lsv_session.specs.declared.job.Job.{Job}
use Rattle.lsv_session.specs.declared.reply.Reply.{Reply}
use Rattle.lsv_turn.specs.Turns.{LaneTurn}

-- the most jobs that come at once, and so of a turn
abbrev pub most_jobs : ℕ
most_jobs = 256

-- each of these turns has 1 to 256 jobs, and no gap
abbrev pub AreSized : List LaneTurn → Type 0
AreSized turns = AllByRecursion (λ t. (1 ≤ length t.jobs) × (length t.jobs ≤ most_jobs) × (t.gap ≡ None)) turns

-- each of these jobs is of a connection of this worker
abbrev pub AreOf : ℕ → List Job → Type 0
AreOf worker jobs = AllByRecursion (λ job. job.conn.worker ≡ worker) jobs

-- those of these jobs that are of this worker
abbrev pub jobs_of : ℕ → List Job → List Job
jobs_of worker [] = []
jobs_of worker (job ∷ jobs) = if job.conn.worker == worker then job ∷ jobs_of worker jobs else jobs_of worker jobs

-- those of these replies that are to this worker
abbrev pub replies_to : ℕ → List Reply → List Reply
replies_to worker [] = []
replies_to worker (reply ∷ replies) = if reply.conn.worker == worker then reply ∷ replies_to worker replies else replies_to worker replies
