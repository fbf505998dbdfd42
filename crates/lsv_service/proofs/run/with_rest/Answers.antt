use Rattle.std.proofs.Common.{[], ◌∷◌, ◌++◌, sym, ap, ◌∙◌, append_assoc, arith}
use Rattle.std.specs.Vec.Iter.{into_iter_items}
use Rattle.lsv_service.proofs.run.with_rest.Goals as goal

pub loop-value-preserved : goal.loop-value-preserved
loop-value-preserved g c =
    let steps = c.in-Some.ensures.steps in
    let p = c.push_reserved.ensures.len in
    let q = c.push_reserved.ensures.capacity in record {
      items = append_assoc c.loop-value.yielded (c.in-Some.value ∷ []) (into_iter_items c.next.new.self) ∙ (ap (λ x. c.loop-value.yielded ++ x) (sym steps.0) ∙ c.loop-value.invariant.items);
      all = c.push_reserved.ensures.items ∙ (ap (λ x. x ++ c.in-Some.value ∷ []) c.loop-value.invariant.all ∙ append_assoc c.args.front.items c.loop-value.yielded (c.in-Some.value ∷ []));
      room = let s = steps.1 in let i = c.loop-value.invariant.room in omega arith;
    }
