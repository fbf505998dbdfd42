use Rattle.std.proofs.Common.{ℕ, List, nat_eq, ap}
use Rattle.std.specs.Map.{lookup}
use Rattle.lsv_keeper.specs.declared.logs.OpenLog.{OpenLog}
use Rattle.lsv_keeper.proofs.logs.OpenLogs.new.Goals as goal

pub returns : goal.returns
returns c i n = ap (λ (entries : List (ℕ × OpenLog)). lookup (nat_eq n) entries) c.new.ensures.empty i
