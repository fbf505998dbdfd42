-- For proofs of a server's loop: what the turns made so far have kept, and what the next turn needs.
use Rattle.std.specs.Prelude.{◌≡◌, ◌⊎◌, ℕ, List, [], ◌∷◌, ◌++◌}
use Rattle.lsv_base.specs.declared.time.TimeSpec.{TimeSpec}
use Rattle.lsv_disk.specs.View.{IsCrashImage}
use Rattle.lsv_machine.specs.Disks.{AsksInRun, IsWritten, NumbersFit, Past}
use Rattle.lsv_machine.specs.Durable.{Good, Reading}
use Rattle.lsv_machine.specs.Failures.{Act}
use Rattle.lsv_machine.specs.Machine.{IsOfLane, Machine, Settings}
use Rattle.lsv_machine.specs.Recovery.{GoesOn, Outside, Ran, Recovers, Story, all_turns}
use Rattle.lsv_machine.specs.Stands.{Stands}
use Rattle.lsv_machine.specs.Turns.{Happened, Tail}

-- a server under way: its story so far recovers and is the machine's, the machine stands for each history that goes on, and the numbers fit
pub record SoFar (r : Reading) (set : Settings) (texts : List (List ℕ)) (o : Outside) (m : Machine) (s : Story) : Type 0 where
  pub ran : Ran r set texts o m s
  pub recovers : Recovers r set.lane set.lanes texts o s
  pub stands : (n : ℕ) (g : List Happened) (p : Past) → GoesOn texts p g → Good r g o.found.reads n → Stands set (g ++ all_turns s.turns) n m
  pub fit : NumbersFit r set.lane set.lanes (IsCrashImage o.left)
  pub lines : r.lines o.left.reads m.lines
  pub fresh : m.fresh ≡ []
  -- each log that is written is the lane's, or a job asked to go on with it
  pub written : (n : ℕ) → IsWritten m n → IsOfLane set.lane set.lanes n ⊎ AsksInRun set ran.start (all_turns s.turns) n

-- a run with one turn more
abbrev pub with_turn : Story → TimeSpec → List Act → Tail → ℕ → List ℕ → Story
with_turn s now acts tail k text = record { opened = s.opened; turns = s.turns ++ record { now = now; acts = acts; tail = tail; ended = k; text = text } ∷ [] }
