-- A turn where no device fails and memory is ample.
use Rattle.std.specs.Prelude.{ℕ, true, List, [], ◌∷◌, ◌++◌, Option, Some}
use Rattle.lsv_base.specs.declared.time.TimeSpec.{TimeSpec}
use Rattle.lsv_record.specs.Records.{elapsed}
use Rattle.lsv_session.specs.declared.connection.ConnId.{ConnId}
use Rattle.lsv_session.specs.declared.job.Job.{Job}
use Rattle.lsv_machine.specs.Answers.{Answer, CommitPoint, say}
use Rattle.lsv_machine.specs.Machine.{LogState, LogState.There, Machine, Settings, with_log}
use Rattle.lsv_machine.specs.Turns.{raised, with_lines}
use Rattle.lsv_machine.specs.Work.{Done, next_number, plain}

-- ---- Its jobs

-- what a job does: an accept that opens a log draws the next number
abbrev pub done : Settings → TimeSpec → Job → Machine → Done
done set now job m = plain set now job (next_number set m) m

-- what jobs are answered, one after another
abbrev pub told : Settings → TimeSpec → List Job → Machine → List Answer
told set now [] m = []
told set now (job ∷ jobs) m = (done set now job m).answers ++ told set now jobs (done set now job m).machine

-- the machine after them
abbrev pub after : Settings → TimeSpec → List Job → Machine → Machine
after set now [] m = m
after set now (job ∷ jobs) m = after set now jobs (done set now job m).machine

-- ---- Its end

-- the commit point of a log, where it is there and a connection writes it
abbrev pub commit_of : Option ConnId → LogState → List Answer
commit_of (Some k) (There stored promised) = say k (CommitPoint (elapsed stored.records)) ∷ []
commit_of owner log = []

abbrev pub commit : Machine → ℕ → List Answer
commit m n = commit_of (m.owner n) (m.logs n)

-- the log is promised up to that
abbrev pub flushed_log : ℕ → Option ConnId → LogState → Machine → Machine
flushed_log n (Some k) (There stored promised) m = with_log n (There stored (raised promised stored.records (elapsed stored.records))) m
flushed_log n owner log m = m

abbrev pub flushes : ℕ → Machine → Machine
flushes n m = flushed_log n (m.owner n) (m.logs n) m

-- the same of these logs, one after another
abbrev pub commits : List ℕ → Machine → List Answer
commits [] m = []
commits (n ∷ numbers) m = commit m n ++ commits numbers (flushes n m)

abbrev pub flushed : List ℕ → Machine → Machine
flushed [] m = m
flushed (n ∷ numbers) m = flushed numbers (flushes n m)

-- ---- A turn

-- what is told in a turn: the answers of its jobs, and then the commit points
abbrev pub told_in_turn : Settings → TimeSpec → List Job → Machine → List Answer
told_in_turn set now jobs m = told set now jobs m ++ commits (after set now jobs m).waiting (record (with_lines true (after set now jobs m)) { waiting = [] })

-- the machine after a turn: its event lines are lines of the event log, and the logs that waited are promised
abbrev pub after_turn : Settings → TimeSpec → List Job → Machine → Machine
after_turn set now jobs m = flushed (after set now jobs m).waiting (record (with_lines true (after set now jobs m)) { waiting = [] })
