use Rattle.lsv_service.proofs.Stores.{leaves_untouched}
use Rattle.lsv_service.proofs.run.leave_untouched.Goals as goal

pub returns-clause-stores : goal.returns-clause-stores
returns-clause-stores g c = λ kind log_exit texts lanes some fresh. leaves_untouched g.D.Disk g.G.Tape kind log_exit texts lanes c.args.bays.items some (λ told disk. g.met.D.Disk.only_now told disk) fresh
