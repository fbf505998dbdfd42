-- What a step makes of a worker's side.
use Rattle.std.proofs.Common.{◌≡◌, ℕ, ◌+◌, true, false, Some, None, List, set, get_or, length, sym, ap, ◌∙◌, subst, arith}
use Rattle.std.specs.Prelude.{slice_get}
use Rattle.std.proofs.Math.Path.{fun_ext}
use Rattle.std.proofs.lemmas.List.{length-set}
use Rattle.std.proofs.lemmas.Option.{slice_get-get_or, slice_get_within}
use Rattle.lsv_queue.specs.Order.{after_body}
use Rattle.lsv_queue.specs.Settled.{puts_at}
use Rattle.lsv_queue.specs.declared.queue.InPass.{InPass}
use Rattle.lsv_queue.specs.declared.queue.Queue.{Queue}
use Rattle.lsv_session.specs.declared.job.Job.{Job}
use Rattle.lsv_links.specs.Turns.{AreOf}
use Rattle.lsv_reactor.specs.declared.endpoint.Endpoint
use Rattle.lsv_threads.specs.declared.desk.Desk.{Desk}
use Rattle.lsv_threads.specs.declared.worker_side.WorkerSide.{WorkerSide}
use Rattle.lsv_threads.specs.Desks.{GoesOn, IsAt, IsSameDesk, Puts, Stands}
use Rattle.lsv_threads.specs.Gates.{AreOpen, AreOwn, KeepsGates}
use Rattle.lsv_threads.specs.Rows.{ArePasses}
use Rattle.lsv_threads.specs.WorkerSides.{IsFrom}
use Rattle.lsv_threads.proofs.Hearing.{same_then}
use Rattle.lsv_threads.proofs.Rowing.{passes_ended, puts_ended}

-- the passes after some puts
pub passes_kept : (inboxes : List (Queue Job)) (first old new : List (InPass Job)) (n m ended : ℕ) → KeepsGates old new n m → ArePasses inboxes first old ended → ArePasses inboxes first new ended
passes_kept inboxes first old new n m ended keeps are =
    let was : (k : ℕ) (q : InPass Job) → slice_get new k ≡ Some q → slice_get old k ≡ Some (get_or old k q) = λ k q y. slice_get-get_or old k q (let l = slice_get_within new k q y in let e = keeps.size in omega arith) in record {
      size = keeps.size ∙ are.size;
      of_queues = record { size = keeps.size ∙ are.of_queues.size; each = λ k i q x y. (keeps.each k (get_or old k q) q (was k q y) y).queue ∙ are.of_queues.each k i (get_or old k q) x (was k q y) };
      within = let e = keeps.size in let f = are.within in omega arith;
      each = λ k p q x y.
          let s = are.each k p (get_or old k q) x (was k q y) in
          let t = keeps.each k (get_or old k q) q (was k q y) y in
          record { queue = t.queue ∙ s.queue; number = t.number ∙ s.number; made = t.made ∙ s.made };
      over = λ k q y low. (keeps.each k (get_or old k q) q (was k q y) y).ended ∙ are.over k (get_or old k q) (was k q y) low;
      going = λ k q y high. (keeps.each k (get_or old k q) q (was k q y) y).ended ∙ are.going k (get_or old k q) (was k q y) high;
    }

-- they are of their inboxes, if none has ended
pub passes_of : (inboxes : List (Queue Job)) (first put : List (InPass Job)) (ended : ℕ) → ended ≡ 0 → ArePasses inboxes first put ended → AreOpen inboxes put
passes_of inboxes first put ended none are = record { size = are.of_queues.size; each = λ k q p x y. (are.of_queues.each k q p x y, are.going k p y (omega arith)) }

abbrev pub side_of : {T : Type 0} (side : WorkerSide T) (desk : Desk T) → WorkerSide T
side_of {T} side desk = record { desk = desk; put = side.put; ended = side.ended }

module _ {T : Type 0} (words : Endpoint.Ghosts T) (inboxes : List (Queue Job)) where
  -- the desk, with what stands in its passes
  pub at_side : (first side : WorkerSide T) → IsFrom words inboxes first side → IsAt words side.desk (puts_at side.put.items)
  at_side first side from = record { start = from.begun.0; lanes = from.begun.1; number_is = from.number_is; stands = from.begun.2 }

  -- replies were taken
  pub from_heard : (first side : WorkerSide T) (desk : Desk T) → GoesOn words side.desk desk → IsFrom words inboxes first side → IsFrom words inboxes first (side_of side desk)
  from_heard first side desk on from = record {
    passes = from.passes;
    few = from.few;
    own = subst (λ (n : ℕ). AreOwn side.put.items n) (sym on.same.number_is) from.own;
    desk = same_then words first.desk side.desk desk from.desk on.same;
    lanes_are = λ e. on.same.endpoint_lanes e ∙ from.lanes_are (on.same.stays e);
    number_is = λ e. on.same.endpoint_number e ∙ (from.number_is (on.same.stays e) ∙ sym on.same.number_is);
    begun = (from.begun.0, from.begun.1, on.stands from.begun.0 from.begun.1 (puts_at side.put.items) from.begun.2);
    stands = λ start lanes s. on.stands start lanes (puts_at side.put.items) (from.stands start lanes s);
  }

  -- the endpoint was stopped
  pub from_stopped : (first side : WorkerSide T) (desk : Desk T) → desk.stopped ≡ true → IsSameDesk words side.desk desk → ((start : words.Start) (lanes : ℕ) (gave : ℕ → List Job) → Stands words start lanes side.desk gave → Stands words start lanes desk gave)
      → IsFrom words inboxes first side → IsFrom words inboxes first (side_of side desk)
  from_stopped first side desk stopped same stands from = record {
    passes = from.passes;
    few = from.few;
    own = subst (λ (n : ℕ). AreOwn side.put.items n) (sym same.number_is) from.own;
    desk = same_then words first.desk side.desk desk from.desk same;
    lanes_are = λ e. absurd (let no = sym stopped ∙ e in cc);
    number_is = λ e. absurd (let no = sym stopped ∙ e in cc);
    begun = (from.begun.0, from.begun.1, stands from.begun.0 from.begun.1 (puts_at side.put.items) from.begun.2);
    stands = λ start lanes s. stands start lanes (puts_at side.put.items) (from.stands start lanes s);
  }

  -- the endpoint was served
  from_served : (first side new : WorkerSide T) → new.ended ≡ side.ended → Puts words side.desk new.desk (puts_at side.put.items) (puts_at new.put.items) → KeepsGates side.put.items new.put.items side.desk.number new.desk.number
      → IsFrom words inboxes first side → IsFrom words inboxes first new
  from_served first side new ended puts keeps from = record {
    passes = subst (λ (n : ℕ). ArePasses inboxes first.put.items new.put.items n) (sym ended) (passes_kept inboxes first.put.items side.put.items new.put.items side.desk.number new.desk.number side.ended keeps from.passes);
    few = let e = keeps.size in let f = from.few in omega arith;
    own = keeps.own from.own;
    desk = same_then words first.desk side.desk new.desk from.desk puts.same;
    lanes_are = λ e. puts.same.endpoint_lanes e ∙ (from.lanes_are (puts.same.stays e) ∙ sym keeps.size);
    number_is = λ e. puts.same.endpoint_number e ∙ (from.number_is (puts.same.stays e) ∙ sym puts.same.number_is);
    begun = (from.begun.0, from.begun.1, puts.stands from.begun.0 from.begun.1 from.begun.2);
    stands = λ start lanes s. puts.stands start lanes (from.stands start lanes s);
  }

  -- the endpoint was served by these passes
  pub from_visit : (first side new : WorkerSide T) (a b : List (InPass Job)) (n m : ℕ) → a ≡ side.put.items → new.put.items ≡ b → n ≡ side.desk.number → new.ended ≡ side.ended → Puts words side.desk new.desk (puts_at a) (puts_at b) → KeepsGates a b n m
      → IsFrom words inboxes first side → IsFrom words inboxes first new
  from_visit first side new a b n m was is own ended puts keeps from =
      let k : KeepsGates side.put.items new.put.items side.desk.number new.desk.number =
      subst (λ (l : List (InPass Job)). KeepsGates l new.put.items side.desk.number new.desk.number) was
      (subst (λ (l : List (InPass Job)). KeepsGates a l side.desk.number new.desk.number) (sym is)
      (subst (λ (i : ℕ). KeepsGates a b i new.desk.number) own
      (subst (λ (i : ℕ). KeepsGates a b n i) (keeps.worker_is ∙ (own ∙ sym puts.same.number_is)) keeps))) in
      let p : Puts words side.desk new.desk (puts_at side.put.items) (puts_at new.put.items) =
      subst (λ (l : List (InPass Job)). Puts words side.desk new.desk (puts_at l) (puts_at new.put.items)) was
      (subst (λ (l : List (InPass Job)). Puts words side.desk new.desk (puts_at a) (puts_at l)) (sym is) puts) in
      from_served first side new ended p k from

  -- a pass has ended
  pub from_ended : (first side new : WorkerSide T) (p q : InPass Job) → new.desk ≡ side.desk → new.ended ≡ side.ended + 1 → new.put.items ≡ set side.put.items side.ended q → slice_get side.put.items side.ended ≡ Some p → q.queue ≡ p.queue → q.list ≡ after_body None p.list
      → IsFrom words inboxes first side → IsFrom words inboxes first new
  from_ended first side new p q desk more is here queue list from =
      let as_before : puts_at (set side.put.items side.ended q) ≡ puts_at side.put.items = fun_ext (puts_ended inboxes side.put.items side.ended p q here queue list) in
      let puts : puts_at new.put.items ≡ puts_at side.put.items = ap puts_at is ∙ as_before in
      record {
        passes = subst (λ (n : ℕ). ArePasses inboxes first.put.items new.put.items n) (sym more) (subst (λ (l : List (InPass Job)). ArePasses inboxes first.put.items l (side.ended + 1)) (sym is) (passes_ended inboxes side.put.items side.ended p q here queue list first.put.items from.passes));
        few = let e = ap length is in let f = length-set side.put.items side.ended q in let g = from.few in omega arith;
        own = subst (λ (f : ℕ → List Job). (lane : ℕ) → AreOf new.desk.number (f lane)) (sym puts) (subst (λ (d : Desk T). AreOwn side.put.items d.number) (sym desk) from.own);
        desk = subst (λ (d : Desk T). IsSameDesk words first.desk d) (sym desk) from.desk;
        lanes_are = subst (λ (d : Desk T). d.stopped ≡ false → words.lanes d.endpoint ≡ length new.put.items) (sym desk) (λ e. from.lanes_are e ∙ sym (ap length is ∙ length-set side.put.items side.ended q));
        number_is = subst (λ (d : Desk T). d.stopped ≡ false → words.number d.endpoint ≡ d.number) (sym desk) from.number_is;
        begun = (from.begun.0, from.begun.1, subst (λ (d : Desk T). Stands words from.begun.0 from.begun.1 d (puts_at new.put.items)) (sym desk) (subst (λ (f : ℕ → List Job). Stands words from.begun.0 from.begun.1 side.desk f) (sym puts) from.begun.2));
        stands = λ start lanes s. subst (λ (d : Desk T). Stands words start lanes d (puts_at new.put.items)) (sym desk) (subst (λ (f : ℕ → List Job). Stands words start lanes side.desk f) (sym puts) (from.stands start lanes s));
      }

  -- nothing changed
  pub from_same : (first side new : WorkerSide T) → new.desk ≡ side.desk → new.ended ≡ side.ended → new.put.items ≡ side.put.items → IsFrom words inboxes first side → IsFrom words inboxes first new
  from_same first side new desk ended put from = record {
    passes = subst (λ (n : ℕ). ArePasses inboxes first.put.items new.put.items n) (sym ended) (subst (λ (l : List (InPass Job)). ArePasses inboxes first.put.items l side.ended) (sym put) from.passes);
    few = let e = ap length put in let g = from.few in omega arith;
    own = subst (λ (d : Desk T). AreOwn new.put.items d.number) (sym desk) (subst (λ (l : List (InPass Job)). AreOwn l side.desk.number) (sym put) from.own);
    desk = subst (λ (d : Desk T). IsSameDesk words first.desk d) (sym desk) from.desk;
    lanes_are = subst (λ (d : Desk T). d.stopped ≡ false → words.lanes d.endpoint ≡ length new.put.items) (sym desk) (λ e. from.lanes_are e ∙ sym (ap length put));
    number_is = subst (λ (d : Desk T). d.stopped ≡ false → words.number d.endpoint ≡ d.number) (sym desk) from.number_is;
    begun = (from.begun.0, from.begun.1, subst (λ (d : Desk T). Stands words from.begun.0 from.begun.1 d (puts_at new.put.items)) (sym desk) (subst (λ (l : List (InPass Job)). Stands words from.begun.0 from.begun.1 side.desk (puts_at l)) (sym put) from.begun.2));
    stands = λ start lanes s. subst (λ (d : Desk T). Stands words start lanes d (puts_at new.put.items)) (sym desk) (subst (λ (l : List (InPass Job)). Stands words start lanes side.desk (puts_at l)) (sym put) (from.stands start lanes s));
  }
