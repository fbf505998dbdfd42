use Rattle.std.proofs.Common.{◌≡◌, ◌+◌, suc, ℕ, [], ◌∷◌, ◌++◌, drop, length, refl, sym, ap, ◌∙◌, subst, append_assoc, arith}
use Rattle.std.specs.Vec.Iter.{into_iter_items}
use Rattle.std.proofs.lemmas.List.{length-append}
use Rattle.lsv_threads.specs.Parts.{AreLaneSides}
use Rattle.lsv_threads.proofs.Making.{drop_some, lane_more, there_mid}
use Rattle.lsv_threads.proofs.sides.make_lanes.Goals as goal

pub loop-lane-preserved : goal.loop-lane-preserved
loop-lane-preserved g c =
    let i = c.loop-lane.invariant in
    let steps = c.in-Some.ensures.steps in
    let steps' = steps.1 in
    let n = length c.loop-lane.yielded in
    let next : length (c.loop-lane.yielded ++ c.in-Some.lane ∷ []) ≡ n + 1 = length-append c.loop-lane.yielded (c.in-Some.lane ∷ []) in
    let one : suc n ≡ length (c.loop-lane.yielded ++ c.in-Some.lane ∷ []) = omega (arith, next) in
    let row = drop_some n c.args.rows.items c.in-Some-next.given (into_iter_items c.next-in-loop-lane.new.self) (sym i.rows ∙ c.in-Some-next.ensures.items) in
    let pass = drop_some n c.args.receivers.items c.in-Some-next-2.taken (into_iter_items c.next-in-loop-lane-2.new.self) (sym i.receivers ∙ c.in-Some-next-2.ensures.items) in
    let p = c.push_reserved.ensures.len in let q = c.push_reserved.ensures.capacity in
    let items = append_assoc c.loop-lane.yielded (c.in-Some.lane ∷ []) (into_iter_items c.next.new.self) ∙ (ap (λ x. c.loop-lane.yielded ++ x) (sym steps.0) ∙ i.items) in record {
      items = items;
      number = let a = i.number in omega (arith, next);
      rows = row.1 ∙ ap (λ (m : ℕ). drop m c.args.rows.items) one;
      receivers = pass.1 ∙ ap (λ (m : ℕ). drop m c.args.receivers.items) one;
      sides = subst (λ l. AreLaneSides c.args.lanes.items c.args.rows.items c.args.receivers.items l (length (c.loop-lane.yielded ++ c.in-Some.lane ∷ []))) (sym c.push_reserved.ensures.items)
          (lane_more c.args.lanes.items c.args.rows.items c.args.receivers.items c.loop-lane.sides.items n (length (c.loop-lane.yielded ++ c.in-Some.lane ∷ [])) _ next
          (record { number = i.number; lane = there_mid c.args.lanes.items c.loop-lane.yielded (into_iter_items c.next.new.self) c.in-Some.lane items; taken = pass.0; given = row.0; failed = refl; ended = refl }) i.sides);
      room = omega (arith, i.room);
      count = omega (arith, i.count);
    }
