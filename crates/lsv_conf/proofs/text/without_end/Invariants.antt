use Rattle.std.proofs.Common.{◌≡◌, length}
use Rattle.lsv_conf.specs.Texts.{without_end}
use Rattle.lsv_conf.proofs.text.without_end.Given as goal

abbrev pub invariant-loop-last : goal.invariant-loop-last
invariant-loop-last l = without_end l.bytes ≡ without_end l.fn.bytes

abbrev pub decreases-loop-last : goal.decreases-loop-last
decreases-loop-last l = length l.bytes
