use Rattle.std.proofs.Common.{refl, Some, nat_eq}
use Rattle.std.specs.HashMap as hash
use Rattle.lsv_session.proofs.Tables.{same_sessions, owners_put}
use Rattle.lsv_session.proofs.table.Table.claim.Goals as goal

pub returns-in-Ok-clause-ok : goal.returns-in-Ok-clause-ok
returns-in-Ok-clause-ok c = same_sessions _ _ (λ k. refl)
    (owners_put (hash.get nat_eq c.args.self.now.owners) (hash.get nat_eq c.insert.new.self) c.get.result c.args.log (Some c.args.conn) c.get.ensures.value c.in-Ok.ensures.updates.0)
