use Rattle.lsv_service.specs.Lanes.{bay_by}
use Rattle.lsv_service.proofs.CompleteLemmas.{completes_lanes}
use Rattle.lsv_service.proofs.laws.a_legal_conversation_is_served_by_its_home_lane.Goals as goal

pub returns : goal.returns
returns g c = λ set texts lanes olds news end turns runs told worker before after served.
    completes_lanes g.D.Disk.tells told (bay_by g.D.Disk g.G.Tape) set texts lanes runs.opened olds news turns (λ m found left less was is. (runs.kept m found left less was is).keeps told) worker before after served
