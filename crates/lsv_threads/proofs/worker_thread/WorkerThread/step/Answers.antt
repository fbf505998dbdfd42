use Rattle.std.proofs.Common.{subst}
use Rattle.lsv_threads.specs.Threads.{IsHere, IsWorker}
use Rattle.lsv_threads.proofs.worker_thread.WorkerThread.step.Goals as goal

pub step-requires-clause-from : goal.step-requires-clause-from
step-requires-clause-from g c =
    let s = c.requires.started in
    let here : IsHere g.T.Endpoint c.args.inboxes.now s.first c.in-Here.back = subst (λ w. IsWorker g.T.Endpoint c.args.inboxes.now s.first w) c.in-Here.is s.is in
    (s.first, here.going c.if-back.false)
