use Rattle.lsv_queue.proofs.Places.{there}
use Rattle.lsv_threads.proofs.Done.{from_over, side_queue, side_within}
use Rattle.lsv_threads.proofs.worker_thread.finish_back.Goals as goal

pub run-requires-clause-queue : goal.run-requires-clause-queue
run-requires-clause-queue g c =
    let h = c.requires.here in
    let from = h.2.going c.if-ran.false in
    side_queue g.T.Endpoint c.args.inboxes.now c.args.outs.now h.0 c.args.back.side h.1 from c.index-outs-number.result
    (there c.args.outs.now c.args.back.side.desk.number c.index-outs-number.result (side_within g.T.Endpoint c.args.inboxes.now c.args.outs.now h.0 c.args.back.side h.1 from) c.index-outs-number.is)

pub run-requires-clause-from : goal.run-requires-clause-from
run-requires-clause-from g c = let h = c.requires.here in (h.0, h.2.going c.if-ran.false)

pub returns : goal.returns
returns g c = λ first placed here. from_over g.T.Endpoint c.args.inboxes.now first c.run.new.self (c.run.ensures.from first (here.going c.if-ran.false)) c.run.ensures.over
