use Rattle.std.proofs.Common.{◌≡◌, ◌≤◌, length, vec_capacity}
use Rattle.lsv_threads.specs.Dealt.{AreNew}
use Rattle.lsv_threads.proofs.Deals.{AreOthers}
use Rattle.lsv_threads.proofs.dealing.deal_rows.Given as goal

abbrev pub invariant-loop-number : goal.invariant-loop-number
invariant-loop-number g l = record {
  firsts : AreNew l.queues l.firsts.items 0 l.number;
  others : AreOthers l.queues l.rows.items;
  count : length l.rows.items ≡ l.number;
  room : l.senders ≤ vec_capacity l.rows;
  within : l.number ≤ l.senders;
}
