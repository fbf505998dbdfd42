use Rattle.std.proofs.Common.{◌≡◌, length}
use Rattle.lsv_conf.specs.Texts.{without_front}
use Rattle.lsv_conf.proofs.text.without_front.Given as goal

abbrev pub invariant-loop-first : goal.invariant-loop-first
invariant-loop-first l = without_front l.bytes ≡ without_front l.fn.bytes

abbrev pub decreases-loop-first : goal.decreases-loop-first
decreases-loop-first l = length l.bytes
