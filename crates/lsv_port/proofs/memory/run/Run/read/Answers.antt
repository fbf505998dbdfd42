use Rattle.lsv_port.specs.Port.{after_read}
use Rattle.lsv_port.specs.Memory.Link.{IsRead}
use Rattle.lsv_port.specs.Memory.Value.{over_by}
use Rattle.lsv_port.proofs.RunLemmas.{use_changes, use_runs, use_cause, read_keeps}
use Rattle.lsv_port.proofs.memory.run.Run.read.Goals as goal

pub returns-clause-run : goal.returns-clause-run
returns-clause-run c = use_runs c.args.link (IsRead c.read.result c.read.new.buf) c.args.self.now c.read.new.self c.read.new.refused c.read.ensures.used (read_keeps c.read.result c.read.new.buf) c.requires.run

pub returns-clause-change : goal.returns-clause-change
returns-clause-change c =
    use_changes c.args.link (IsRead c.read.result c.read.new.buf) (after_read c.read.result c.read.new.buf) c.args.self.now.links c.read.new.self (over_by c.args.self.now) c.read.ensures.used (λ v w h. h.view)

pub returns-clause-cause : goal.returns-clause-cause
returns-clause-cause c = use_cause c.args.link (IsRead c.read.result c.read.new.buf) _ c.args.self.now c.read.new.self c.read.new.refused c.read.ensures.used (λ v w h. h.cause)
