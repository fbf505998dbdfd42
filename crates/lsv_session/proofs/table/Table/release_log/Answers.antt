use Rattle.std.proofs.Common.{refl, None, nat_eq}
use Rattle.std.specs.HashMap as hash
use Rattle.lsv_session.proofs.Tables.{same_sessions, owners_put}
use Rattle.lsv_session.proofs.table.Table.release_log.Goals as goal

pub returns-clause-free : goal.returns-clause-free
returns-clause-free c = same_sessions _ _ (λ k. refl)
    (owners_put (hash.get nat_eq c.args.self.now.owners) (hash.get nat_eq c.remove.new.self) c.get.result c.args.log None c.get.ensures.value c.remove.ensures.updates.0)
