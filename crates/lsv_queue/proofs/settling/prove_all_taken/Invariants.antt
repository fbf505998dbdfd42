use Rattle.std.proofs.Common.{◌≡◌, length}
use Rattle.lsv_queue.specs.Settled.{AreKnown, AreSame}
use Rattle.lsv_queue.proofs.settling.prove_all_taken.Given as goal

abbrev pub invariant-loop-place : goal.invariant-loop-place
invariant-loop-place g l = record {
  same : AreSame l.initial.receivers.items l.receivers.items;
  known : AreKnown l.initial.receivers.items l.place;
}
