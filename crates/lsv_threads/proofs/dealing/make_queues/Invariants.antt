use Rattle.std.proofs.Common.{◌≡◌, ◌≤◌, length, vec_capacity}
use Rattle.lsv_threads.specs.Dealt.{AreNew, AreUntaken}
use Rattle.lsv_threads.proofs.dealing.make_queues.Given as goal

abbrev pub invariant-loop-place : goal.invariant-loop-place
invariant-loop-place g l = record {
  count : length l.queues.items ≡ l.place;
  firsts : AreNew l.queues.items l.firsts.items 0 1;
  receivers : AreUntaken l.queues.items l.receivers.items;
  queues_room : l.count ≤ vec_capacity l.queues;
  firsts_room : l.count ≤ vec_capacity l.firsts;
  receivers_room : l.count ≤ vec_capacity l.receivers;
}
