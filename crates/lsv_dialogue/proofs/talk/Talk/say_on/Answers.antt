use Rattle.std.proofs.Common.{sym, ◌∙◌, ap, subst, arith, inl}
use Rattle.lsv_wire.specs.Frame.{IsPartial}
use Rattle.lsv_dialogue.specs.Stands.{SaidSo}
use Rattle.lsv_dialogue.specs.declared.talk.Spoken.{Spoken}
use Rattle.lsv_dialogue.specs.declared.talk.Talk.{Talk}
use Rattle.lsv_dialogue.proofs.ReadLemmas.{at_exit, more_by, wants_some}
use Rattle.lsv_dialogue.proofs.talk.Talk.say_on.Goals as goal

pub step-requires-clause-speaks : goal.step-requires-clause-speaks
step-requires-clause-speaks g c =
    let (start, begun, sp) = c.requires.speaks in
    (start, begun, c.steps.invariant.speaks start begun sp)

pub step-requires-clause-wants : goal.step-requires-clause-wants
step-requires-clause-wants g c = λ start. wants_some _ _ (c.steps.invariant.wants start)

pub step-requires-clause-partial : goal.step-requires-clause-partial
step-requires-clause-partial g c = subst IsPartial (sym (ap (λ (t : Talk). t.framer) c.steps.invariant.same)) c.requires.partial

pub returns-then-all-ge-MOST_PUT-clause-says : goal.returns-then-all-ge-MOST_PUT-clause-says
returns-then-all-ge-MOST_PUT-clause-says g c = λ start begun sp. (c.steps.invariant.speaks start begun sp, more_by _ _ (c.steps.invariant.wants start) c.if-all-ge-MOST_PUT.true)

pub returns-then-all-ge-MOST_PUT-clause-wants : goal.returns-then-all-ge-MOST_PUT-clause-wants
returns-then-all-ge-MOST_PUT-clause-wants g c = λ loud start. more_by _ _ (c.steps.invariant.wants start) c.if-all-ge-MOST_PUT.true

pub returns-in_err-spoken-clause-broke : goal.returns-in_err-spoken-clause-broke
returns-in_err-spoken-clause-broke g c = at_exit _ c.from_residual.result _ c.from_residual.ensures.1 (λ start begun sp. c.in_err-spoken.ensures.broke start begun (c.steps.invariant.speaks start begun sp))

pub returns-in-Quiet-clause-says : goal.returns-in-Quiet-clause-says
returns-in-Quiet-clause-says g c = λ start begun sp.
    subst (λ (x : Spoken). SaidSo (g.S.Speaker.manner start) g.L.Link.tells begun x c.step.new.self c.step.new.speaker c.step.new.world (g.L.Link.counts c.step.new.link, g.L.Link.state c.step.new.link)) c.in-Quiet.is (c.in_ok-spoken.ensures.says start begun (c.steps.invariant.speaks start begun sp))

pub returns-in-Halted-clause-says : goal.returns-in-Halted-clause-says
returns-in-Halted-clause-says g c = λ start begun sp.
    subst (λ (x : Spoken). SaidSo (g.S.Speaker.manner start) g.L.Link.tells begun x c.step.new.self c.step.new.speaker c.step.new.world (g.L.Link.counts c.step.new.link, g.L.Link.state c.step.new.link)) c.in-Halted.is (c.in_ok-spoken.ensures.says start begun (c.steps.invariant.speaks start begun sp))

pub steps-preserved : goal.steps-preserved
steps-preserved g c =
    let bounds = c.in_ok-spoken.ensures.more c.in-Said.count c.in-Said.is in
    let many = c.steps.invariant.many in
    record {
      speaks = λ start begun sp.
          let so = subst (λ (x : Spoken). SaidSo (g.S.Speaker.manner start) g.L.Link.tells begun x c.step.new.self c.step.new.speaker c.step.new.world (g.L.Link.counts c.step.new.link, g.L.Link.state c.step.new.link)) c.in-Said.is (c.in_ok-spoken.ensures.says start begun (c.steps.invariant.speaks start begun sp)) in
          so.0;
      same = c.step.ensures.rest ∙ c.steps.invariant.same;
      wants = λ start. inl (c.in_ok-spoken.ensures.wants (λ e. cc) start);
      many = omega (arith, bounds, many);
      few = bounds.1;
    }

pub returns-clause-says : goal.returns-clause-says
returns-clause-says g c = λ start begun sp. let many = c.steps.invariant.many in (c.steps.invariant.speaks start begun sp, more_by _ _ (c.steps.invariant.wants start) (omega (arith, many)))

pub returns-clause-wants : goal.returns-clause-wants
returns-clause-wants g c = λ loud start. let many = c.steps.invariant.many in more_by _ _ (c.steps.invariant.wants start) (omega (arith, many))
