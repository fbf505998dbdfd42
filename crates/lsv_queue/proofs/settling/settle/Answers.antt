use Rattle.std.proofs.Common.{map}
use Rattle.lsv_queue.proofs.Joining.{closed_at, settled_at}
use Rattle.lsv_queue.proofs.settling.settle.Goals as goal

pub prove_all_taken-requires-clause-closed : goal.prove_all_taken-requires-clause-closed
prove_all_taken-requires-clause-closed g c = closed_at c.args.queues.now c.args.receivers.now.items c.join_rows.new.receivers.items (map (λ v. v.items) c.args.rows.items) c.requires.rows c.requires.receivers c.requires.ready c.join_rows.ensures.joined

pub returns : goal.returns
returns g c = record { settled = settled_at c.args.queues.now c.args.receivers.now.items c.join_rows.new.receivers.items (map (λ v. v.items) c.args.rows.items) c.requires.rows c.requires.receivers c.requires.ready c.join_rows.ensures.joined c.prove_all_taken.ensures.known }
