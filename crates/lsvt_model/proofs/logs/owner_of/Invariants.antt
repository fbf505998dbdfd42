use Rattle.std.proofs.Common.{◌≡◌, drop}
use Rattle.lsvt_model.specs.Views.{owner_in}
use Rattle.lsvt_model.proofs.logs.owner_of.Given as goal

abbrev pub invariant-loop-log : goal.invariant-loop-log
invariant-loop-log l = owner_in (drop l.log-index l.logs) l.number ≡ owner_in l.logs l.number
