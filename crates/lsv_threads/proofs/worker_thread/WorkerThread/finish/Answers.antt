use Rattle.std.proofs.Common.{◌≡◌, subst}
use Rattle.lsv_threads.specs.Threads.{IsWorker}
use Rattle.lsv_threads.proofs.Done.{back_here}
use Rattle.lsv_threads.proofs.worker_thread.WorkerThread.finish.Goals as goal

pub finish_back-requires : goal.finish_back-requires
finish_back-requires g c =
    let s = c.requires.started in
    let same : c.in-There.handle.promise.side.value ≡ s.first = subst (λ w. IsWorker g.T.Endpoint c.args.inboxes.now s.first w) c.in-There.is s.is in
    record { here = (s.first, s.placed, back_here g.T.Endpoint c.args.inboxes.now c.in-There.handle.promise.side.value s.first c.join.result same s.placed.from c.join.ensures) }

pub finish_back-requires-in-Here : goal.finish_back-requires-in-Here
finish_back-requires-in-Here g c = let s = c.requires.started in record { here = (s.first, s.placed, subst (λ w. IsWorker g.T.Endpoint c.args.inboxes.now s.first w) c.in-Here.is s.is) }

pub returns-in-There : goal.returns-in-There
returns-in-There g c = λ first placed is.
    let same : c.in-There.handle.promise.side.value ≡ first = subst (λ w. IsWorker g.T.Endpoint c.args.inboxes.now first w) c.in-There.is is in
    c.finish_back.ensures first placed (back_here g.T.Endpoint c.args.inboxes.now c.in-There.handle.promise.side.value first c.join.result same placed.from c.join.ensures)
