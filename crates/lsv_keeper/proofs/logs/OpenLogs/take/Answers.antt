use Rattle.std.proofs.Common.{None, nat_eq, rules}
use Rattle.std.specs.HashMap as hash
use Rattle.lsv_keeper.proofs.Opens.{put_at}
use Rattle.lsv_keeper.proofs.logs.OpenLogs.take.Goals as goal

pub returns : goal.returns
returns c = record {
  taken = search rules;
  rest =
      put_at (hash.get nat_eq c.args.self.now.map) (hash.get nat_eq c.swap_remove.new.self) c.get.result c.args.log None c.get.ensures.value c.swap_remove.ensures.updates.0;
  room = search rules;
}
