use Rattle.std.proofs.Common.{◌≡◌, [], take, reverse}
use Rattle.std.specs.Prelude.{fold}
use Rattle.lsv_search.specs.Evaluation.{applied}
use Rattle.lsv_search.proofs.matching.matches.Given as goal

abbrev pub invariant-loop-step : goal.invariant-loop-step
invariant-loop-step l = reverse l.said.items ≡ fold (applied l.head) [] (take l.step-index l.step-items)
