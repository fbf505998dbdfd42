use Rattle.std.proofs.Common.{◌≡◌, Some, None, rules, ap, sym, subst, ◌∙◌}
use Rattle.lsv_queue.specs.Order.{IsClosed}
use Rattle.lsv_queue.specs.Passes.{known, taken_of}
use Rattle.lsv_queue.proofs.Steps.{takes, knows}
use Rattle.lsv_queue.proofs.Counts.{takes_item, takes_mark, known_behind, known_at_gap, taken_open}
use Rattle.lsv_queue.proofs.queue.Queue.next.Goals as goal

pub pop_as-requires-clause-rule : goal.pop_as-requires-clause-rule
pop_as-requires-clause-rule g c = (takes _ _ (taken_of (known c.pass.inside.pass).taken) (ap (λ v. v.taken) c.pass.invariant.1), knows _ _)

pub invariant_of-pass-in-Some-Some : goal.invariant_of-pass-in-Some-Some
invariant_of-pass-in-Some-Some g c =
    let r = takes_item (known c.pass.inside.pass) (known c.pop_as.new.pass) c.in-Some-Some.field-0 c.in-Some-Some.v c.pass.inside.count c.pass.inside.marks c.pass.invariant.1 c.in-Some-Some.ensures.rule.0 (let b : c.in-Some-Some.field-0.body ≡ Some c.in-Some-Some.v = search rules in b) c.pass.invariant.2 c.pass.invariant.3 in
    (c.pop_as.ensures.queue.2 ∙ c.pass.invariant.0, r.0, r.1, r.2)

pub invariant_of-pass-in-Some-None : goal.invariant_of-pass-in-Some-None
invariant_of-pass-in-Some-None g c =
    let r = takes_mark (known c.pass.inside.pass) (known c.pop_as.new.pass) c.in-Some-None.field-0 c.pass.inside.count c.pass.inside.marks c.pass.invariant.1 c.in-Some-None.ensures.rule.0 (let b : c.in-Some-None.field-0.body ≡ None = search rules in b) c.pass.invariant.2 c.pass.invariant.3 in
    (c.pop_as.ensures.queue.2 ∙ c.pass.invariant.0, r.0, r.1, r.2)

pub returns-in-None-pop_as-clause-known : goal.returns-in-None-pop_as-clause-known
returns-in-None-pop_as-clause-known g c = known_at_gap (known c.pass.inside.pass) (known c.pop_as.new.pass) c.pass.invariant.1 c.in-None-pop_as.ensures.rule.0 c.in-None-pop_as.ensures.rule.1

pub returns-in-Some-Some-clause-known : goal.returns-in-Some-Some-clause-known
returns-in-Some-Some-clause-known g c = known_behind (known c.pass.inside.pass) (known c.pop_as.new.pass) c.in-Some-Some.field-0 c.pass.invariant.1 c.in-Some-Some.ensures.rule

pub returns-in-Some-None-clause-known : goal.returns-in-Some-None-clause-known
returns-in-Some-None-clause-known g c = known_behind (known c.pass.inside.pass) (known c.pop_as.new.pass) c.in-Some-None.field-0 c.pass.invariant.1 c.in-Some-None.ensures.rule

pub returns-in-Some-Some-clause-closed : goal.returns-in-Some-Some-clause-closed
returns-in-Some-Some-clause-closed g c = λ closed. absurd (taken_open (known c.pass.inside.pass) (known c.pop_as.new.pass) c.in-Some-Some.field-0 c.pass.invariant.1 c.in-Some-Some.ensures.rule (subst (λ t. IsClosed t) (sym (ap (λ p. p.taken) c.pass.view_is)) closed))

pub returns-in-Some-None-clause-closed : goal.returns-in-Some-None-clause-closed
returns-in-Some-None-clause-closed g c = λ closed. absurd (taken_open (known c.pass.inside.pass) (known c.pop_as.new.pass) c.in-Some-None.field-0 c.pass.invariant.1 c.in-Some-None.ensures.rule (subst (λ t. IsClosed t) (sym (ap (λ p. p.taken) c.pass.view_is)) closed))
