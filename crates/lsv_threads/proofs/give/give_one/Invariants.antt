use Rattle.std.proofs.Common.{◌≡◌}
use Rattle.lsv_threads.proofs.give.give_one.Given as goal

abbrev pub invariant-loop : goal.invariant-loop
invariant-loop g l = record {
  given : l.given.items ≡ l.initial.given.items;
  reply : l.reply ≡ l.fn.reply;
  ready : g.M.Meanwhile.ready l.meanwhile;
  goes : g.M.Meanwhile.goes l.initial.meanwhile l.meanwhile;
}
