use Rattle.std.proofs.lemmas.List.Elements.{All-set}
use Rattle.lsv_queue.proofs.Places.{there}
use Rattle.lsv_threads.specs.Threads.{IsStarted, Went}
use Rattle.lsv_threads.proofs.Zipping.{all_at, went_set}
use Rattle.lsv_threads.proofs.idle.step_at.Goals as goal

pub step-requires : goal.step-requires
step-requires g c = record {
  started = all_at (IsStarted g.T.Endpoint c.args.inboxes.now c.args.outs.now) c.args.threads.now.items c.args.place c.index_mut-worker.result.now c.requires.started
      (there c.args.threads.now.items c.args.place c.index_mut-worker.result.now c.requires.within c.index_mut-worker.ensures.value);
}

pub returns : goal.returns
returns g c =
    let here = there c.args.threads.now.items c.args.place c.index_mut-worker.result.now c.requires.within c.index_mut-worker.ensures.value in
    let was = all_at (IsStarted g.T.Endpoint c.args.inboxes.now c.args.outs.now) c.args.threads.now.items c.args.place c.index_mut-worker.result.now c.requires.started here in record {
      started = All-set (IsStarted g.T.Endpoint c.args.inboxes.now c.args.outs.now) c.args.threads.now.items c.args.place c.step.new.self (record { first = was.first; placed = was.placed; is = c.step.ensures.went was.first was.placed was.is }) c.requires.started;
      went = went_set (Went g.T.Endpoint c.args.inboxes.now c.args.outs.now) (λ a first placed is. is) c.args.threads.now.items c.args.place c.index_mut-worker.result.now c.step.new.self here c.step.ensures.went;
    }
