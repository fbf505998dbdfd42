use Rattle.lsv_queue.proofs.Places.{there}
use Rattle.lsv_threads.proofs.Done.{lane_over, lane_queue, lane_within}
use Rattle.lsv_threads.proofs.lane_thread.finish_back.Goals as goal

pub run-requires-clause-queue : goal.run-requires-clause-queue
run-requires-clause-queue g c =
    let h = c.requires.here in
    let from = h.2.going c.if-ran.false in
    lane_queue g.L.Lane c.args.inboxes.now c.args.outs.now h.0 c.args.back.side h.1 from c.index-inboxes-number.result
    (there c.args.inboxes.now c.args.back.side.number c.index-inboxes-number.result (lane_within g.L.Lane c.args.inboxes.now c.args.outs.now h.0 c.args.back.side h.1 from) c.index-inboxes-number.is)

pub run-requires-clause-from : goal.run-requires-clause-from
run-requires-clause-from g c = let h = c.requires.here in (h.0, h.2.going c.if-ran.false)

pub returns : goal.returns
returns g c = λ first placed here. lane_over g.L.Lane c.args.outs.now c.args.workers first c.run.new.self (c.run.ensures.from first (here.going c.if-ran.false)) c.run.ensures.over
