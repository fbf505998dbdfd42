use Rattle.std.proofs.Common.{◌≡◌, drop}
use Rattle.lsvt_model.specs.Views.{logs_in, owner_in}
use Rattle.lsvt_model.proofs.logs.find_log.Given as goal

abbrev pub invariant-loop-log : goal.invariant-loop-log
invariant-loop-log l = record {
  logs : logs_in (drop l.log-index l.logs) l.number ≡ logs_in l.logs l.number;
  owners : owner_in (drop l.log-index l.logs) l.number ≡ owner_in l.logs l.number;
}
