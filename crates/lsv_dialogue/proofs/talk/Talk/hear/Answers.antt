use Rattle.std.proofs.Common.{sym, ◌∙◌}
use Rattle.lsv_dialogue.proofs.EndLemmas.{end_long_id, end_strange, hear_failed}
use Rattle.lsv_dialogue.proofs.ReadLemmas.{at_exit, text_none}
use Rattle.lsv_dialogue.proofs.StandLemmas.{after_heard}
use Rattle.lsv_dialogue.proofs.talk.Talk.hear.Goals as goal

pub returns-in-Strange-clause-goes : goal.returns-in-Strange-clause-goes
returns-in-Strange-clause-goes g c = λ start begun sp. end_strange (g.S.Speaker.manner start) g.L.Link.tells begun c.args.message c.in-Strange.point c.args.self.now _ _ _ sp.stands (c.requires.wants start) (sym (c.judge.ensures start) ∙ c.in-Strange.is)

pub returns-in-LongId-clause-goes : goal.returns-in-LongId-clause-goes
returns-in-LongId-clause-goes g c = λ start begun sp. end_long_id (g.S.Speaker.manner start) g.L.Link.tells begun c.args.message c.in-LongId.length c.args.self.now _ _ _ sp.stands (c.requires.wants start) (sym (c.judge.ensures start) ∙ c.in-LongId.is)

pub take_last-requires-clause-takes : goal.take_last-requires-clause-takes
take_last-requires-clause-takes g c = λ start. sym (c.judge.ensures start) ∙ c.in-Takes.is

pub returns-in_err-take_last-clause-broke : goal.returns-in_err-take_last-clause-broke
returns-in_err-take_last-clause-broke g c = at_exit _ c.from_residual.result _ c.from_residual.ensures.1 (λ start begun sp. c.in_err-take_last.ensures.broke start begun sp)

pub hear-requires-clause-begun : goal.hear-requires-clause-begun
hear-requires-clause-begun g c =
    let (start, begun, sp) = c.requires.speaks in
    (start, sp.stands.holds.events, sp.stands.holds.talks, sp.opened)

pub hear-requires-clause-takes : goal.hear-requires-clause-takes
hear-requires-clause-takes g c = λ start. sym (c.judge.ensures start) ∙ c.in-Takes.is

pub returns-in-Err-clause-broke : goal.returns-in-Err-clause-broke
returns-in-Err-clause-broke g c = λ start begun sp. hear_failed (g.S.Speaker.manner start) g.L.Link.tells begun c.args.message c.args.self.now _ _ _ _ _ c.in-Err.fault sp.stands (c.requires.wants start) (sym (c.judge.ensures start) ∙ c.in-Takes.is) (c.in-Err.ensures.fails start sp.stands.holds.events sp.stands.holds.talks)

pub returns-clause-goes : goal.returns-clause-goes
returns-clause-goes g c = λ start begun sp. record {
  stands = after_heard (g.S.Speaker.manner start) g.L.Link.tells begun c.args.message c.args.self.now c.note.new.self _ _ _ _ _ sp.stands (c.requires.wants start) (sym (c.judge.ensures start) ∙ c.in-Takes.is) (c.in-Ok.ensures.talks start sp.stands.holds.events sp.stands.holds.talks)
      (text_none _ (sym c.has_text.ensures ∙ c.if-has_text.false)) c.note.ensures;
  opened = c.in-Ok.ensures.opens start;
}
