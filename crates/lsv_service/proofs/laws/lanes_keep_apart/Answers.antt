use Rattle.lsv_service.specs.Lanes.{bay_by}
use Rattle.lsv_service.proofs.Keeping.{came_links, keep_apart}
use Rattle.lsv_service.proofs.laws.lanes_keep_apart.Goals as goal

pub returns : goal.returns
returns g c = λ kind log_exit texts lanes starts asked olds news bays left end run told tell.
    keep_apart g.D.Disk.tells g.G.Tape.tells told (bay_by g.D.Disk g.G.Tape) (λ bay. g.met.D.Disk.only_now told bay.disk) kind log_exit texts lanes bays left end run.turns run.stores
    (came_links g.T.Endpoint tell g.D.Disk.tells lanes starts asked olds news run.turns end run.stores.opened run.stores.some run.stores.idle run.links)
