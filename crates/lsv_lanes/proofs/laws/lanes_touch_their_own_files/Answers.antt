use Rattle.lsv_lanes.proofs.Together.{files_apart, touches_named, touches_own}
use Rattle.lsv_lanes.proofs.laws.lanes_touch_their_own_files.Goals as goal

pub returns : goal.returns
returns g c = record {
  own = λ set texts start history old new starts keeps touches. touches_own (g.D.Disk.view old) (g.D.Disk.view new) set texts start history starts keeps touches;
  named = λ lane lanes turns old new touches own. touches_named (g.D.Disk.view old) (g.D.Disk.view new) lane lanes turns touches own;
  apart = files_apart;
}
