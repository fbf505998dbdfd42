use Rattle.std.proofs.Common.{List, ℕ, subst, sym}
use Rattle.lsv_worker.specs.Outgoing.{PutOf}
use Rattle.lsv_worker.proofs.Speaking.{silenced}
use Rattle.lsv_worker.proofs.outgoing.Outgoing.stop_sending.Goals as goal

pub returns-in-Open-clause-goes : goal.returns-in-Open-clause-goes
returns-in-Open-clause-goes c = λ output answers h. subst (λ (u : List ℕ). PutOf c.args.why u output answers) (sym c.new.ensures) (silenced c.args.self.now c.args.why output answers c.requires h)
