use Rattle.std.proofs.Common.{refl}
use Rattle.std.specs.HashMap as hash
use Rattle.lsv_session.specs.Connections.{same}
use Rattle.lsv_session.proofs.Tables.{same_sessions, states_gone}
use Rattle.lsv_session.proofs.table.Table.forget.Goals as goal

pub returns-clause-same : goal.returns-clause-same
returns-clause-same c = same_sessions _ _ (states_gone (hash.get same c.args.self.now.states) (hash.get same c.swap_remove.new.self) c.args.conn c.swap_remove.ensures.updates.0) (λ n. refl)
