use Rattle.std.proofs.Common.{Bool, subst}
use Rattle.lsv_port.specs.Port.{Changes, closed}
use Rattle.lsv_port.specs.Memory.Value.{over_by, told_by}
use Rattle.lsv_port.proofs.RunLemmas.{close_changes, close_runs, close_continues}
use Rattle.lsv_port.proofs.memory.run.Run.close.Goals as goal

pub returns-clause-run : goal.returns-clause-run
returns-clause-run c = close_runs c.args.link c.is_over-over.result c.args.self.now c.close.new.self c.close.ensures.links c.close.ensures.opened c.close.ensures.open_now c.requires.run

pub returns-clause-change : goal.returns-clause-change
returns-clause-change c =
    subst (λ (over : Bool). Changes c.args.link (closed over ((told_by c.args.self.now).link c.args.link)) (told_by c.args.self.now) (told_by (record c.args.self.now { links = c.close.new.self }))) c.is_over-over.ensures
    (close_changes c.args.link c.is_over-over.result c.args.self.now.links c.close.new.self (over_by c.args.self.now) c.close.ensures.links c.close.ensures.opened c.requires.is_open)

pub returns-clause-continues : goal.returns-clause-continues
returns-clause-continues c = close_continues c.args.link c.is_over-over.result c.args.self.now c.close.new.self c.close.ensures.links
