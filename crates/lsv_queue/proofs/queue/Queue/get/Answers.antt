use Rattle.std.proofs.Common.{◌≡◌, Some, None, rules, ap, sym, subst, ◌∙◌, ◌++◌, ◌∷◌, [], append_assoc}
use Rattle.lsv_queue.specs.Order.{IsClosed}
use Rattle.lsv_queue.specs.Passes.{items_of}
use Rattle.lsv_queue.proofs.Counts.{items_mark, items_item}
use Rattle.lsv_queue.proofs.queue.Queue.get.Goals as goal

pub loop-preserved : goal.loop-preserved
loop-preserved g c = let l = c.in-Some-None.field-0 in let old = c.loop.invariant.got in let next = c.in-Some-None.ensures.next in record {
  queue = c.next-in-loop.ensures.queue ∙ c.loop.invariant.queue;
  joined = ap (λ t. t.joined) next ∙ c.loop.invariant.joined;
  got = (old.0 ++ l ∷ [], items_mark old.0 l (let b : l.body ≡ None = search rules in b) ∙ old.1, ap (λ t. t.got) next ∙ (ap (λ x. x ++ l ∷ []) old.2 ∙ append_assoc _ old.0 (l ∷ [])));
  items = ap (λ t. items_of t.got) next ∙ (items_mark c.loop.pass.taken.got l (let b : l.body ≡ None = search rules in b) ∙ c.loop.invariant.items);
  closed = λ closed. absurd (let none : Some l ≡ None = c.in-Some-None.ensures.closed (subst (λ t. IsClosed t) (sym (c.loop.invariant.closed closed)) closed) in cc);
}

pub returns-in-None-next-clause-closed : goal.returns-in-None-next-clause-closed
returns-in-None-next-clause-closed g c = λ closed. c.in-None-next.ensures.next ∙ c.loop.invariant.closed closed

pub returns-in-Some-Some-clause-closed : goal.returns-in-Some-Some-clause-closed
returns-in-Some-Some-clause-closed g c = λ closed. let l = c.in-Some-Some.field-0 in absurd (let none : Some l ≡ None = c.in-Some-Some.ensures.closed (subst (λ t. IsClosed t) (sym (c.loop.invariant.closed closed)) closed) in cc)

pub returns-in-None-next-clause-items : goal.returns-in-None-next-clause-items
returns-in-None-next-clause-items g c = ap (λ t. items_of t.got) c.in-None-next.ensures.next ∙ c.loop.invariant.items

pub returns-in-Some-Some-clause-items : goal.returns-in-Some-Some-clause-items
returns-in-Some-Some-clause-items g c = let l = c.in-Some-Some.field-0 in
    ap (λ t. items_of t.got) c.in-Some-Some.ensures.next ∙ (items_item c.loop.pass.taken.got l c.in-Some-Some.v (let b : l.body ≡ Some c.in-Some-Some.v = search rules in b) ∙ ap (λ z. z ++ c.in-Some-Some.v ∷ []) c.loop.invariant.items)
