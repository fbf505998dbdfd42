use Rattle.lsv_keeper.proofs.Placing.{found_at}
use Rattle.lsv_keeper.proofs.logs.OpenLogs.find.Goals as goal

pub returns-clause-found : goal.returns-clause-found
returns-clause-found c = found_at c.args.self.now.map.entries c.args.log c.get.result c.get_index_of.result c.get_index_of.ensures.index c.get.ensures.value
