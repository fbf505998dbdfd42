use Rattle.std.proofs.Common.{Some, nat_eq, arith}
use Rattle.std.specs.HashMap as hash
use Rattle.lsv_keeper.proofs.Opens.{given_ok, put_at}
use Rattle.lsv_keeper.proofs.logs.OpenLogs.put.Goals as goal

pub returns : goal.returns
returns c =
    let room = c.requires.room in
    put_at (hash.get nat_eq c.args.self.now.map) (hash.get nat_eq c.insert.new.self) c.get.result c.args.log (Some c.args.its) c.get.ensures.value
    (given_ok c.insert.result _ (c.insert.ensures.succeeds (omega arith)) c.insert.ensures.updates).0
