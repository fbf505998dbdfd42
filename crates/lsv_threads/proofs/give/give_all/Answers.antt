use Rattle.std.proofs.Common.{◌≡◌, ◌++◌, ◌∷◌, [], length, sym, ap, ◌∙◌, append_assoc, arith}
use Rattle.std.specs.Vec.Iter.{into_iter_items}
use Rattle.lsv_threads.proofs.Rowing.{gives_then}
use Rattle.lsv_threads.proofs.give.give_all.Goals as goal

pub loop-reply-preserved : goal.loop-reply-preserved
loop-reply-preserved g c =
    let steps : into_iter_items c.loop-reply.reply-iterator ≡ c.in-Some.reply ∷ into_iter_items c.next.new.self = c.in-Some.ensures.steps.0 in record {
      items = append_assoc c.loop-reply.yielded (c.in-Some.reply ∷ []) (into_iter_items c.next.new.self) ∙ (ap (λ x. c.loop-reply.yielded ++ x) (sym steps) ∙ c.loop-reply.invariant.items);
      counted = let was = c.loop-reply.invariant.counted in let gone = c.in-Some.ensures.steps.1 in let short = ap length steps in omega arith;
      gives = gives_then c.args.outs.now c.args.given.now.items c.loop-reply.given.items c.give_one.new.given.items c.loop-reply.yielded (c.in-Some.reply ∷ []) c.loop-reply.invariant.gives c.give_one.ensures.gives;
      ready = c.give_one.ensures.ready;
      goes = g.met.M.Meanwhile.goes_through c.args.meanwhile.now c.loop-reply.meanwhile c.give_one.new.meanwhile c.loop-reply.invariant.goes c.give_one.ensures.goes;
    }
