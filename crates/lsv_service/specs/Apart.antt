-- That the lanes of a run keep apart: each has jobs, files and logs of its own.
use Rattle.std.specs.Prelude.{◌≡◌, ◌<◌, ℕ, List, Some, slice_get}
use Rattle.lsv_lanes.specs.Histories.{HasOneWriterInAll, MakesTurns}
use Rattle.lsv_lanes.specs.Jobs.{CameTo}
use Rattle.lsv_machine.specs.Disks.{TouchesStore}
use Rattle.lsv_machine.specs.Turns.{Happened}
use Rattle.lsv_turn.specs.Turns.{LaneTurn, jobs_in}
use Rattle.lsv_service.specs.Lanes.{BayView}

-- The lanes of a run keep apart. Each got jobs only of connections whose lane it is, and touched only files of its own store.
-- The histories are any that the machine may have by the jobs of each lane's turns. Take any moment of each lane: by all that
-- happened in the lanes up to then, no log has two writers.
pub record KeepApart {X : Type 0} (view : X → BayView) (lanes : ℕ) (olds news : List X) (turns : ℕ → List LaneTurn) : Type 0 where
  pub came : (l : ℕ) → CameTo l lanes (jobs_in (turns l))
  pub own : (l : ℕ) (found left : X) → l < lanes → slice_get olds l ≡ Some found → slice_get news l ≡ Some left → TouchesStore l lanes (λ n. ⊥) (view found).disk (view left).disk
  pub one_writer : (histories : ℕ → List Happened) → ((l : ℕ) → l < lanes → MakesTurns l lanes (turns l) (histories l)) → HasOneWriterInAll lanes histories
