use Rattle.std.proofs.Common.{refl}
use Rattle.lsv_queue.proofs.Places.{there}
use Rattle.lsv_threads.proofs.Rowing.{pass_is, set_same}
use Rattle.lsv_threads.proofs.Siding.{from_ended, from_same}
use Rattle.lsv_threads.proofs.worker_side.WorkerSide.end_next.Goals as goal

pub returns-in-Ok-clause-from : goal.returns-in-Ok-clause-from
returns-in-Ok-clause-from g c = λ first from.
    from_ended g.T.Endpoint c.args.inboxes.now first c.args.self.now _ c.index_mut.result.now c.end.new.pass refl refl refl
    (there c.args.self.now.put.items c.args.self.now.ended c.index_mut.result.now c.requires.left c.index_mut.ensures.value) c.end.ensures.queue c.in-Ok.ensures.end from

pub returns-in-Err-clause-from : goal.returns-in-Err-clause-from
returns-in-Err-clause-from g c = λ first from.
    from_same g.T.Endpoint c.args.inboxes.now first c.args.self.now _ refl refl
    (set_same c.args.self.now.put.items c.args.self.now.ended c.index_mut.result.now c.end.new.pass c.index_mut.ensures.value (pass_is c.index_mut.result.now c.end.new.pass c.end.ensures.queue c.in-Err.ensures.end)) from
