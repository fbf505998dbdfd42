use Rattle.std.proofs.Common.{◌≡◌, ◌++◌, map, length}
use Rattle.std.specs.Vec.Iter.{into_iter_items, into_iter_len}
use Rattle.lsv_queue.specs.Settled.{AreJoined, AreReceivers}
use Rattle.lsv_queue.proofs.settling.join_rows.Given as goal

abbrev pub invariant-loop-row : goal.invariant-loop-row
invariant-loop-row g l = record {
  items : l.yielded ++ into_iter_items l.row-iterator ≡ l.fn.rows.items;
  counted : into_iter_len l.row-iterator ≡ length (into_iter_items l.row-iterator);
  receivers : AreReceivers l.queues l.receivers.items;
  joined : AreJoined l.initial.receivers.items l.receivers.items (map (λ v. v.items) l.yielded);
}
