use Rattle.std.proofs.Common.{sym, ◌∙◌}
use Rattle.lsv_worker.proofs.Cutting.{shuts}
use Rattle.lsv_worker.proofs.incoming.Incoming.shut.Goals as goal

pub returns-then-is_cutting-clause-goes : goal.returns-then-is_cutting-clause-goes
returns-then-is_cutting-clause-goes c = shuts c.args.self.now c.settle.new.self c.settle.ensures.none c.settle.ensures.some (sym c.is_cutting.ensures ∙ c.if-is_cutting.true)
