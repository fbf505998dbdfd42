use Rattle.std.proofs.Common.{◌≡◌, ◌<◌, Some, length, ap, ◌∙◌, subst, set, arith}
use Rattle.std.specs.Prelude.{slice_get}
use Rattle.lsv_queue.specs.Order.{after_body}
use Rattle.lsv_queue.proofs.Places.{there}
use Rattle.lsv_threads.proofs.Rowing.{gives_one, pass_is, set_same}
use Rattle.lsv_threads.proofs.give.give_one.Goals as goal

pub returns-in-Ok-clause-gives : goal.returns-in-Ok-clause-gives
returns-in-Ok-clause-gives g c =
    let at = c.args.reply.conn.worker in
    let was = c.loop.invariant.given in
    let low : at < length c.loop.given.items = let e = ap length was in let f = c.if-place-len.false in let l = c.len.ensures in omega arith in
    gives_one c.args.outs.now c.args.given.now.items _ c.index_mut.result.now c.put.new.pass c.args.reply (ap (λ l. set l at c.put.new.pass) was)
    (subst (λ l. slice_get l at ≡ Some c.index_mut.result.now) was (there c.loop.given.items at c.index_mut.result.now low c.index_mut.ensures.value)) c.put.ensures.queue
    (c.in-Ok.ensures.put ∙ ap (λ r. after_body (Some r) c.index_mut.result.now.list) c.loop.invariant.reply)

pub loop-preserved : goal.loop-preserved
loop-preserved g c = record {
  given = set_same c.loop.given.items c.args.reply.conn.worker c.index_mut.result.now c.put.new.pass c.index_mut.ensures.value (pass_is c.index_mut.result.now c.put.new.pass c.put.ensures.queue c.in-Err.ensures.put.1) ∙ c.loop.invariant.given;
  reply = c.in-Err.ensures.put.0 ∙ c.loop.invariant.reply;
  ready = c.go_on.ensures.ready;
  goes = g.met.M.Meanwhile.goes_through c.args.meanwhile.now c.loop.meanwhile c.go_on.new.self c.loop.invariant.goes c.go_on.ensures.goes;
}
