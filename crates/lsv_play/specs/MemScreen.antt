-- What a screen in memory keeps.
use Rattle.std.specs.Prelude.{List}
use Rattle.lsv_base.specs.declared.script.Script.{Script}
use Rattle.lsv_play.specs.declared.screen.Item.{Item}

-- what was shown, and how the calls go
pub record ScreenState : Type 0 where
  pub shown : List Item
  pub script : Script
