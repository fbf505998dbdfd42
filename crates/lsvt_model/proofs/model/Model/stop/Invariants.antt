use Rattle.std.proofs.Common.{◌≡◌, map, take, drop}
use Rattle.lsvt_model.proofs.StopLemmas.{stopped}
use Rattle.lsvt_model.proofs.model.Model.stop.Given as goal

abbrev pub invariant-loop-log : goal.invariant-loop-log
invariant-loop-log l = record {
  passed : take l.log-index l.log-items ≡ map stopped (take l.log-index l.initial.log-items);
  rest : drop l.log-index l.log-items ≡ drop l.log-index l.initial.log-items;
}
