use Rattle.std.proofs.Common.{◌≡◌, drop}
use Rattle.lsv_link.specs.Memory.{due}
use Rattle.lsv_link.proofs.memory.due_of.Given as goal

abbrev pub invariant-answers : goal.invariant-answers
invariant-answers l = record {
  same : due (drop l.answer-index l.answers) l.left l.put ≡ due l.answers l.read l.put;
}
