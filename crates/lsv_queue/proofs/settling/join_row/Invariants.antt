use Rattle.std.proofs.Common.{◌≡◌, ◌++◌, ◌+◌, length}
use Rattle.std.specs.Vec.Iter.{into_iter_items, into_iter_len}
use Rattle.lsv_queue.specs.Settled.{AreReceivers, IsJoined}
use Rattle.lsv_queue.proofs.settling.join_row.Given as goal

abbrev pub invariant-loop-pass : goal.invariant-loop-pass
invariant-loop-pass g l = record {
  items : l.yielded ++ into_iter_items l.pass-iterator ≡ l.fn.row.items;
  counted : into_iter_len l.pass-iterator ≡ length (into_iter_items l.pass-iterator);
  place : l.place ≡ length l.yielded;
  receivers : AreReceivers l.queues l.receivers.items;
  joined : IsJoined l.initial.receivers.items l.receivers.items l.yielded;
}
