use Rattle.std.proofs.Common.{◌≡◌, ◌++◌, length}
use Rattle.std.specs.Vec.Iter.{into_iter_items, into_iter_len}
use Rattle.lsv_threads.specs.Rows.{Gives}
use Rattle.lsv_threads.proofs.give.give_all.Given as goal

abbrev pub invariant-loop-reply : goal.invariant-loop-reply
invariant-loop-reply g l = record {
  items : l.yielded ++ into_iter_items l.reply-iterator ≡ l.fn.replies.items;
  counted : into_iter_len l.reply-iterator ≡ length (into_iter_items l.reply-iterator);
  gives : Gives l.outs l.initial.given.items l.given.items l.yielded;
  ready : g.M.Meanwhile.ready l.meanwhile;
  goes : g.M.Meanwhile.goes l.initial.meanwhile l.meanwhile;
}
