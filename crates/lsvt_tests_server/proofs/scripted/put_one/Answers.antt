use Rattle.std.proofs.Common.{refl}
use Rattle.lsv_worker.proofs.Owning.{own_put, own_refused}
use Rattle.lsvt_tests_server.proofs.scripted.put_one.Goals as goal

pub returns-in-Ok-clause-own : goal.returns-in-Ok-clause-own
returns-in-Ok-clause-own g c = own_put c.args.worker 0 (record { conn = record { worker = c.args.worker; seq = 1 }; body = c.args.body }) refl c.in-Ok.ensures.ok c.put.ensures.others

pub returns-in-Err-clause-own : goal.returns-in-Err-clause-own
returns-in-Err-clause-own g c = own_refused c.args.worker 0 c.in-Err.ensures.unchanged c.put.ensures.others
