use Rattle.lsv_worker.proofs.Cutting.{refuses}
use Rattle.lsv_worker.proofs.incoming.Incoming.refuse.Goals as goal

pub returns-clause-goes : goal.returns-clause-goes
returns-clause-goes c = λ rest.
    refuses (record c.args.self.now { rest = rest }) c.keep_job.new.self c.args.fault c.requires.empty c.requires.cutting c.keep_job.ensures.ready c.keep_job.ensures.routed c.keep_job.ensures.home.lanes c.keep_job.ensures.home.home
