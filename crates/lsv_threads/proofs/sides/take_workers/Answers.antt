use Rattle.std.proofs.Common.{[], ◌∷◌, ◌++◌, sym, ap, ◌∙◌, append_assoc, arith}
use Rattle.std.specs.Vec.Iter.{into_iter_items}
use Rattle.std.proofs.lemmas.List.{map-append}
use Rattle.lsv_threads.specs.declared.worker_side.WorkerSide.{WorkerSide}
use Rattle.lsv_threads.proofs.sides.take_workers.Goals as goal

pub loop-side-preserved : goal.loop-side-preserved
loop-side-preserved g c = record {
  items = append_assoc c.loop-side.yielded (c.in-Some.side ∷ []) (into_iter_items c.next.new.self) ∙ (ap (λ x. c.loop-side.yielded ++ x) (sym c.in-Some.ensures.steps.0) ∙ c.loop-side.invariant.items);
  endpoints = c.push_reserved.ensures.items ∙ (ap (λ l. l ++ c.in-Some.side.desk.endpoint ∷ []) c.loop-side.invariant.endpoints ∙ sym (map-append (λ (s : WorkerSide g.row.T.Denot). s.desk.endpoint) c.loop-side.yielded (c.in-Some.side ∷ [])));
  receivers = c.push_reserved-in-loop-side.ensures.items ∙ (ap (λ l. l ++ c.in-Some.side.desk.taken ∷ []) c.loop-side.invariant.receivers ∙ sym (map-append (λ (s : WorkerSide g.row.T.Denot). s.desk.taken) c.loop-side.yielded (c.in-Some.side ∷ [])));
  rows = c.push_reserved-in-loop-side-2.ensures.items ∙ (ap (λ l. l ++ c.in-Some.side.put ∷ []) c.loop-side.invariant.rows ∙ sym (map-append (λ (s : WorkerSide g.row.T.Denot). s.put) c.loop-side.yielded (c.in-Some.side ∷ [])));
  stops = c.push_reserved-in-loop-side-3.ensures.items ∙ (ap (λ l. l ++ c.in-Some.side.desk.stopped ∷ []) c.loop-side.invariant.stops ∙ sym (map-append (λ (s : WorkerSide g.row.T.Denot). s.desk.stopped) c.loop-side.yielded (c.in-Some.side ∷ [])));
  endpoints_room = let s = c.in-Some.ensures.steps.1 in let p = c.push_reserved.ensures.len in let q = c.push_reserved.ensures.capacity in let i = c.loop-side.invariant.endpoints_room in omega arith;
  receivers_room = let s = c.in-Some.ensures.steps.1 in let p = c.push_reserved-in-loop-side.ensures.len in let q = c.push_reserved-in-loop-side.ensures.capacity in let i = c.loop-side.invariant.receivers_room in omega arith;
  rows_room = let s = c.in-Some.ensures.steps.1 in let p = c.push_reserved-in-loop-side-2.ensures.len in let q = c.push_reserved-in-loop-side-2.ensures.capacity in let i = c.loop-side.invariant.rows_room in omega arith;
  stops_room = let s = c.in-Some.ensures.steps.1 in let p = c.push_reserved-in-loop-side-3.ensures.len in let q = c.push_reserved-in-loop-side-3.ensures.capacity in let i = c.loop-side.invariant.stops_room in omega arith;
}
