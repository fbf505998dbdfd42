use Rattle.std.proofs.Common.{[], ◌∷◌, sym, ◌∙◌, subst, refl}
use Rattle.lsv_dialogue.specs.Ends.{IsDrained.Refused}
use Rattle.lsv_dialogue.specs.Stands.{Finishes}
use Rattle.lsv_dialogue.specs.declared.ends.Cause.{Cause}
use Rattle.lsv_dialogue.specs.declared.ends.End.TheVariants as ends
use Rattle.lsv_dialogue.proofs.EndLemmas.{end_halted, end_said_late, late_failed}
use Rattle.lsv_dialogue.proofs.StandLemmas.{stopped_late}
use Rattle.lsv_dialogue.proofs.talk.Talk.take_late.Goals as goal

pub returns-in_default : goal.returns-in_default
returns-in_default g c = record {
  goes = λ start begun st. subst (λ (x : Cause). Finishes (g.S.Speaker.manner start) g.L.Link.tells begun c.args.speaker.now c.args.world.now (g.L.Link.counts c.args.link.now, g.L.Link.state c.args.link.now) (ends.Stopped x)) (sym c.cause_of.ensures)
      (end_halted (g.S.Speaker.manner start) g.L.Link.tells begun c.args.halt (c.args.message ∷ []) c.args.self.now _ _ _ st (Refused c.args.message refl (λ e. c.in_default.not-Takes (c.judge.ensures start ∙ e))));
  wants = c.requires.wants;
  broke = tt;
}

pub hear_late-requires-clause-begun : goal.hear_late-requires-clause-begun
hear_late-requires-clause-begun g c =
    let (start, begun, st) = c.requires.stopped in
    (start, st.holds.events, st.holds.talks, st.opened)

pub hear_late-requires-clause-takes : goal.hear_late-requires-clause-takes
hear_late-requires-clause-takes g c = λ start. sym (c.judge.ensures start) ∙ c.in-Takes.is

pub returns-in-Err-clause-broke : goal.returns-in-Err-clause-broke
returns-in-Err-clause-broke g c = λ start begun st. late_failed (g.S.Speaker.manner start) g.L.Link.tells begun c.args.halt c.args.message c.args.self.now _ _ _ _ _ c.in-Err.fault st (sym (c.judge.ensures start) ∙ c.in-Takes.is) (c.in-Err.ensures.fails start st.holds.events st.holds.talks)

pub returns-in-Some-clause-goes : goal.returns-in-Some-clause-goes
returns-in-Some-clause-goes g c = λ start begun st.
    end_said_late (g.S.Speaker.manner start) g.L.Link.tells begun c.args.halt c.args.message c.in-Some.text c.args.self.now _ _ _ _ _ st (sym (c.judge.ensures start) ∙ c.in-Takes.is) (c.in-Ok.ensures.talks start st.holds.events st.holds.talks) (sym c.into_text.ensures ∙ c.in-Some.is) (c.in-Ok.ensures.wants start)

pub returns-in-None-clause-goes : goal.returns-in-None-clause-goes
returns-in-None-clause-goes g c = λ start begun st.
    stopped_late (g.S.Speaker.manner start) g.L.Link.tells begun c.args.halt c.args.message c.args.self.now _ _ _ _ _ _ st (sym (c.judge.ensures start) ∙ c.in-Takes.is) (c.in-Ok.ensures.talks start st.holds.events st.holds.talks) (sym c.into_text.ensures ∙ c.in-None.is) (c.in-Ok.ensures.wants start) (c.in-Ok.ensures.opens start) refl
