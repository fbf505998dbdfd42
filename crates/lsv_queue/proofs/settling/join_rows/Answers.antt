use Rattle.std.proofs.Common.{◌≡◌, ◌++◌, ◌∷◌, [], List, Some, map, length, sym, ap, ◌∙◌, subst, append_assoc, arith}
use Rattle.std.specs.Prelude.{slice_get}
use Rattle.std.proofs.lemmas.List.{map-append}
use Rattle.std.specs.Vec.Iter.{into_iter_items}
use Rattle.lsv_queue.specs.declared.queue.InPass.{InPass}
use Rattle.lsv_queue.specs.Settled.{AreJoined}
use Rattle.lsv_queue.proofs.Joining.{joined_then, map_get, mid_here}
use Rattle.lsv_queue.proofs.settling.join_rows.Goals as goal

pub join_row-requires-clause-row : goal.join_row-requires-clause-row
join_row-requires-clause-row g c =
    let steps : into_iter_items c.loop-row.row-iterator ≡ c.in-Some.row ∷ into_iter_items c.next.new.self = c.in-Some.ensures.steps.0 in
    let all : c.loop-row.yielded ++ c.in-Some.row ∷ into_iter_items c.next.new.self ≡ c.args.rows.items = ap (λ x. c.loop-row.yielded ++ x) (sym steps) ∙ c.loop-row.invariant.items in
    c.requires.rows (length c.loop-row.yielded) c.in-Some.row.items
    (map_get (λ v. v.items) c.args.rows.items (length c.loop-row.yielded) c.in-Some.row (subst (λ l. slice_get l (length c.loop-row.yielded) ≡ Some c.in-Some.row) all (mid_here c.loop-row.yielded (into_iter_items c.next.new.self) c.in-Some.row)))

pub loop-row-preserved : goal.loop-row-preserved
loop-row-preserved g c =
    let steps : into_iter_items c.loop-row.row-iterator ≡ c.in-Some.row ∷ into_iter_items c.next.new.self = c.in-Some.ensures.steps.0 in
    let all : c.loop-row.yielded ++ c.in-Some.row ∷ into_iter_items c.next.new.self ≡ c.args.rows.items = ap (λ x. c.loop-row.yielded ++ x) (sym steps) ∙ c.loop-row.invariant.items in record {
      items = append_assoc c.loop-row.yielded (c.in-Some.row ∷ []) (into_iter_items c.next.new.self) ∙ all;
      counted = let was = c.loop-row.invariant.counted in let gone = c.in-Some.ensures.steps.1 in let short = ap length steps in omega arith;
      receivers = c.join_row.ensures.receivers;
      joined = subst (λ l. AreJoined c.args.receivers.now.items c.join_row.new.receivers.items l) (sym (map-append (λ v. v.items) c.loop-row.yielded (c.in-Some.row ∷ [])))
          (joined_then c.args.receivers.now.items c.loop-row.receivers.items c.join_row.new.receivers.items (map (λ v. v.items) c.loop-row.yielded) c.in-Some.row.items c.loop-row.invariant.joined c.join_row.ensures.joined);
    }
