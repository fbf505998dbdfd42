use Rattle.std.proofs.Common.{sym}
use Rattle.lsv_keeper.proofs.Placing.{has_number}
use Rattle.lsv_keeper.proofs.logs.OpenLogs.is_at.Goals as goal

pub returns-in-Some : goal.returns-in-Some
returns-in-Some c = has_number c.args.self.now.map.entries c.args.at c.in-Some.number.now c.args.log c.get.result c.in-Some.field-0-1.now (sym c.in-Some.ensures.entry) c.get.ensures.value
