use Rattle.lsv_conf.specs.Inner.{shown}
use Rattle.lsv_conf.specs.Refusals.{found_in}
use Rattle.lsv_conf.proofs.Cuts.{left_of}
use Rattle.lsv_conf.proofs.Taking.{IsTaking}
use Rattle.lsv_conf.proofs.read.read_conf.Given as goal

-- the refused lines so far are found; if there is none, the draft has what the lines so far set
abbrev pub invariant-loop-rest : goal.invariant-loop-rest
invariant-loop-rest l = IsTaking l.text (shown l.draft) (found_in l.refused) l.number l.section l.rest

abbrev pub decreases-loop-rest : goal.decreases-loop-rest
decreases-loop-rest l = left_of l.rest
