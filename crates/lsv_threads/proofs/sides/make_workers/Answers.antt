use Rattle.std.proofs.Common.{◌≡◌, ◌+◌, suc, ℕ, [], ◌∷◌, ◌++◌, drop, length, refl, sym, ap, ◌∙◌, subst, append_assoc, arith}
use Rattle.std.specs.Vec.Iter.{into_iter_items}
use Rattle.std.proofs.lemmas.List.{length-append}
use Rattle.lsv_threads.specs.Parts.{AreWorkerSides}
use Rattle.lsv_threads.proofs.Making.{drop_some, worker_more, there_mid}
use Rattle.lsv_threads.proofs.sides.make_workers.Goals as goal

pub loop-endpoint-preserved : goal.loop-endpoint-preserved
loop-endpoint-preserved g c =
    let i = c.loop-endpoint.invariant in
    let steps = c.in-Some.ensures.steps in
    let steps' = steps.1 in
    let n = length c.loop-endpoint.yielded in
    let next : length (c.loop-endpoint.yielded ++ c.in-Some.endpoint ∷ []) ≡ n + 1 = length-append c.loop-endpoint.yielded (c.in-Some.endpoint ∷ []) in
    let one : suc n ≡ length (c.loop-endpoint.yielded ++ c.in-Some.endpoint ∷ []) = omega (arith, next) in
    let row = drop_some n c.args.rows.items c.in-Some-next.put (into_iter_items c.next-in-loop-endpoint.new.self) (sym i.rows ∙ c.in-Some-next.ensures.items) in
    let pass = drop_some n c.args.receivers.items c.in-Some-next-2.taken (into_iter_items c.next-in-loop-endpoint-2.new.self) (sym i.receivers ∙ c.in-Some-next-2.ensures.items) in
    let p = c.push_reserved.ensures.len in let q = c.push_reserved.ensures.capacity in
    let items = append_assoc c.loop-endpoint.yielded (c.in-Some.endpoint ∷ []) (into_iter_items c.next.new.self) ∙ (ap (λ x. c.loop-endpoint.yielded ++ x) (sym steps.0) ∙ i.items) in record {
      items = items;
      number = let a = i.number in omega (arith, next);
      rows = row.1 ∙ ap (λ (m : ℕ). drop m c.args.rows.items) one;
      receivers = pass.1 ∙ ap (λ (m : ℕ). drop m c.args.receivers.items) one;
      sides = subst (λ l. AreWorkerSides c.args.endpoints.items c.args.rows.items c.args.receivers.items l (length (c.loop-endpoint.yielded ++ c.in-Some.endpoint ∷ []))) (sym c.push_reserved.ensures.items)
          (worker_more c.args.endpoints.items c.args.rows.items c.args.receivers.items c.loop-endpoint.sides.items n (length (c.loop-endpoint.yielded ++ c.in-Some.endpoint ∷ [])) _ next
          (record { number = i.number; endpoint = there_mid c.args.endpoints.items c.loop-endpoint.yielded (into_iter_items c.next.new.self) c.in-Some.endpoint items; taken = pass.0; put = row.0; stopped = refl; ended = refl }) i.sides);
      room = omega (arith, i.room);
      count = omega (arith, i.count);
    }
