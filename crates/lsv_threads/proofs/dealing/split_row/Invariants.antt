use Rattle.std.proofs.Common.{◌≡◌, ◌≤◌, ℕ, length, vec_capacity}
use Rattle.lsv_threads.specs.Dealt.{AreBegun, AreNew, AreSplit}
use Rattle.lsv_threads.proofs.dealing.split_row.Given as goal

abbrev pub invariant-loop-place : goal.invariant-loop-place
invariant-loop-place g l = record {
  firsts : (made : ℕ) → AreNew l.queues l.initial.firsts.items 0 made → AreSplit l.queues l.firsts.items made l.place;
  row : (made : ℕ) → AreNew l.queues l.initial.firsts.items 0 made → AreBegun l.queues l.row.items made 0 l.place;
  size : length l.firsts.items ≡ length l.queues;
  count : length l.row.items ≡ l.place;
  room : length l.queues ≤ vec_capacity l.row;
  within : l.place ≤ length l.queues;
}
