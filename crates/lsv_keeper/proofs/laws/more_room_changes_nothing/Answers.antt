use Rattle.lsv_keeper.proofs.Beginning.{roomier_represents, roomier_rests}
use Rattle.lsv_keeper.proofs.laws.more_room_changes_nothing.Goals as goal

pub returns : goal.returns
returns g c = record { stands = λ old new m disk r at. roomier_represents old new (g.D.Disk.view disk) m r at; rests = roomier_rests }
