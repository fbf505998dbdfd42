use Rattle.std.proofs.Common.{sym, ◌∙◌}
use Rattle.lsv_dialogue.proofs.EndLemmas.{end_said, hear_failed}
use Rattle.lsv_dialogue.proofs.talk.Talk.take_last.Goals as goal

pub hear-requires-clause-begun : goal.hear-requires-clause-begun
hear-requires-clause-begun g c =
    let (start, begun, sp) = c.requires.speaks in
    (start, sp.stands.holds.events, sp.stands.holds.talks, sp.opened)

pub returns-in-Err-clause-broke : goal.returns-in-Err-clause-broke
returns-in-Err-clause-broke g c = λ start begun sp. hear_failed (g.S.Speaker.manner start) g.L.Link.tells begun c.args.message c.args.self.now _ _ _ _ _ c.in-Err.fault sp.stands (c.requires.wants start) (c.requires.takes start) (c.in-Err.ensures.fails start sp.stands.holds.events sp.stands.holds.talks)

pub returns-clause-ended : goal.returns-clause-ended
returns-clause-ended g c = λ start begun sp.
    end_said (g.S.Speaker.manner start) g.L.Link.tells begun c.args.message c.in-Some.text c.args.self.now _ _ _ _ _ sp.stands (c.requires.wants start) (c.requires.takes start) (c.in-Ok.ensures.talks start sp.stands.holds.events sp.stands.holds.talks) (sym c.into_text.ensures ∙ c.in-Some.is)
    (λ none. c.requires.wants start (sym (c.in-Ok.ensures.last c.requires.text start) ∙ none))
