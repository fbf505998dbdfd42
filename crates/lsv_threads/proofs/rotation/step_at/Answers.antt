use Rattle.std.proofs.lemmas.List.Elements.{All-set}
use Rattle.lsv_queue.proofs.Places.{there}
use Rattle.lsv_threads.specs.Threads.{IsLaneStarted, LaneWent}
use Rattle.lsv_threads.proofs.Zipping.{all_at, went_set}
use Rattle.lsv_threads.proofs.rotation.step_at.Goals as goal

pub step-requires-clause-started : goal.step-requires-clause-started
step-requires-clause-started g c = all_at (IsLaneStarted g.L.Lane c.args.inboxes.now c.args.outs.now c.args.workers) c.args.threads.now.items c.args.place c.index_mut-lane.result.now c.requires.started
    (there c.args.threads.now.items c.args.place c.index_mut-lane.result.now c.requires.within c.index_mut-lane.ensures.value)

pub returns-clause-started : goal.returns-clause-started
returns-clause-started g c =
    let here = there c.args.threads.now.items c.args.place c.index_mut-lane.result.now c.requires.within c.index_mut-lane.ensures.value in
    let was = all_at (IsLaneStarted g.L.Lane c.args.inboxes.now c.args.outs.now c.args.workers) c.args.threads.now.items c.args.place c.index_mut-lane.result.now c.requires.started here in
    All-set (IsLaneStarted g.L.Lane c.args.inboxes.now c.args.outs.now c.args.workers) c.args.threads.now.items c.args.place c.step.new.self (record { first = was.first; placed = was.placed; is = c.step.ensures.went was.first was.placed was.is }) c.requires.started

pub returns-clause-went : goal.returns-clause-went
returns-clause-went g c =
    let here = there c.args.threads.now.items c.args.place c.index_mut-lane.result.now c.requires.within c.index_mut-lane.ensures.value in
    went_set (LaneWent g.L.Lane c.args.inboxes.now c.args.outs.now c.args.workers) (λ a first placed is. is) c.args.threads.now.items c.args.place c.index_mut-lane.result.now c.step.new.self here c.step.ensures.went
