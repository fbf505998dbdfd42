use Rattle.std.proofs.Common.{refl}
use Rattle.lsv_session.proofs.Tables.{same_sessions}
use Rattle.lsv_session.proofs.table.Table.reserve_owners.Goals as goal

pub returns-clause-same : goal.returns-clause-same
returns-clause-same c = same_sessions _ _ (λ k. refl) c.reserve.ensures.entries.2
