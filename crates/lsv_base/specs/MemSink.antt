-- What a sink in memory holds.
use Rattle.std.specs.Prelude.{ℕ, List}
use Rattle.lsv_base.specs.declared.script.Script.{Script}

-- a sink in memory: the bytes that were put, and how its calls went
pub record SinkState : Type 0 where
  pub put : List ℕ
  pub script : Script
