use Rattle.std.proofs.Common.{◌≡◌, ◌++◌, map}
use Rattle.lsv_conf.specs.Texts.{trimmed}
use Rattle.lsv_conf.specs.Values.{prompts_of}
use Rattle.lsv_conf.proofs.Cuts.{left_of, pieces_left}
use Rattle.lsv_conf.proofs.value.prompts_of.Given as goal

-- the texts so far, and those of what is left
abbrev pub invariant-loop-rest : goal.invariant-loop-rest
invariant-loop-rest l = prompts_of l.value ≡ l.prompts.items ++ map trimmed (pieces_left 44 l.rest)

abbrev pub decreases-loop-rest : goal.decreases-loop-rest
decreases-loop-rest l = left_of l.rest
