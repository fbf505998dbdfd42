use Rattle.lsv_machine.proofs.Recovering.{only_opened, opening_begins, turn_joins}
use Rattle.lsv_keeper.specs.Reading.{reading_of}
use Rattle.lsv_keeper.proofs.laws.a_run_recovers_turn_by_turn.Goals as goal

pub returns : goal.returns
returns g c = record {
  opened_only = λ lane lanes texts found new o. only_opened (reading_of lane lanes) lane lanes texts (g.D.Disk.view found) (g.D.Disk.view new) o;
  opened = λ set texts m found new fit o. opening_begins (reading_of set.lane set.lanes) set texts m (g.D.Disk.view found) (g.D.Disk.view new) fit o;
  turn = λ set texts s now jobs replies m after found old new so t. turn_joins (reading_of set.lane set.lanes) set texts (g.D.Disk.view found) s now jobs replies m after (g.D.Disk.view old) (g.D.Disk.view new) so t;
}
