use Rattle.lsv_live.specs.Meter.{start}
use Rattle.lsv_live.proofs.RelayLemmas.{commit_points_are_bounded}
use Rattle.lsv_live.proofs.laws.commit_points_are_bounded.Goals as goal

pub returns : goal.returns
returns c = λ past later body time lawful is. commit_points_are_bounded start past later body time lawful is
