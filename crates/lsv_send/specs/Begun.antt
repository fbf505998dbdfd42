-- What a conversation begins with, and which disk and sink it works on.
use Rattle.std.specs.Prelude.{ℕ, List}
use Rattle.lsv_send.specs.Handing.{Source}

pub record Begun (D tells : Type 0) : Type 0 where
  -- the log's number, and the log itself, if the disk tells its content
  pub number : ℕ
  pub source : tells → Source
  -- the disk as it was
  pub disk : D
  -- what was printed, and how often a write of the sink failed
  pub printed : List ℕ
  pub faults : ℕ
  -- the ghost names of the disk and of the sink
  pub disk_name : ℕ
  pub sink_name : ℕ
