use Rattle.lsv_port.specs.Port.{after_write}
use Rattle.lsv_port.specs.Memory.Link.{IsWritten}
use Rattle.lsv_port.specs.Memory.Value.{over_by}
use Rattle.lsv_port.proofs.RunLemmas.{use_changes, use_runs, use_cause, write_keeps}
use Rattle.lsv_port.proofs.memory.run.Run.write.Goals as goal

pub returns-clause-run : goal.returns-clause-run
returns-clause-run c = use_runs c.args.link (IsWritten c.write.result c.args.bytes.now) c.args.self.now c.write.new.self c.write.new.refused c.write.ensures.used (write_keeps c.write.result c.args.bytes.now) c.requires.run

pub returns-clause-change : goal.returns-clause-change
returns-clause-change c =
    use_changes c.args.link (IsWritten c.write.result c.args.bytes.now) (after_write c.write.result c.args.bytes.now) c.args.self.now.links c.write.new.self (over_by c.args.self.now) c.write.ensures.used (λ v w h. h.view)

pub returns-clause-cause : goal.returns-clause-cause
returns-clause-cause c = use_cause c.args.link (IsWritten c.write.result c.args.bytes.now) _ c.args.self.now c.write.new.self c.write.new.refused c.write.ensures.used (λ v w h. h.cause)
