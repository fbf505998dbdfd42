use Rattle.std.proofs.Common.{ap, refl}
use Rattle.std.specs.Map.{lookup}
use Rattle.std.specs.HashMap as hash
use Rattle.lsv_session.specs.Connections.{same}
use Rattle.lsv_session.proofs.Tables.{same_sessions, states_kept}
use Rattle.lsv_session.proofs.table.Table.reserve.Goals as goal

pub returns-clause-same : goal.returns-clause-same
returns-clause-same c = same_sessions _ _ (states_kept (hash.get same c.args.self.now.states) (hash.get same c.reserve.new.self) (λ k. ap (lookup (same k)) c.reserve.ensures.entries)) (λ n. refl)
