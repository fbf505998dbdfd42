use Rattle.lsv_machine.proofs.Folds.{keeps_lines}
use Rattle.lsv_keeper.specs.Reading.{reading_of}
use Rattle.lsv_keeper.proofs.laws.a_turn_keeps_event_lines.Goals as goal

pub returns : goal.returns
returns g c = λ tells set now jobs replies m after old new t.
    keeps_lines (reading_of set.lane set.lanes) set t.acts t.tail m after (g.D.Disk.view old) (g.D.Disk.view new) (g.met.D.Disk.reads_itself tells old) t.lines
