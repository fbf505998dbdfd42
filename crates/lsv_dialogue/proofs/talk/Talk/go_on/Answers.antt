use Rattle.std.proofs.Common.{◌≡◌, sym, ◌∙◌, ap, subst, arith}
use Rattle.std.proofs.lemmas.Result.{IfErr-weaker, IfOk-weaker}
use Rattle.lsv_wire.specs.Frame.{IsPartial}
use Rattle.lsv_dialogue.specs.Stands.{SaidSo}
use Rattle.lsv_dialogue.specs.declared.talk.Spoken.{Spoken}
use Rattle.lsv_dialogue.specs.declared.talk.Talk.{Talk}
use Rattle.lsv_dialogue.proofs.EndLemmas.{end_over}
use Rattle.lsv_dialogue.proofs.ReadLemmas.{at_exit, paused_full, paused_still}
use Rattle.lsv_dialogue.proofs.talk.Talk.go_on.Goals as goal

pub returns-in_err-spoken-clause-broke : goal.returns-in_err-spoken-clause-broke
returns-in_err-spoken-clause-broke g c = at_exit _ c.from_residual.result _ c.from_residual.ensures.1 (λ start begun sp. c.in_err-spoken.ensures.broke start begun sp)

pub drain-requires-clause-stopped : goal.drain-requires-clause-stopped
drain-requires-clause-stopped g c =
    let (start, begun, sp) = c.requires.speaks in
    (start, begun, subst (λ (x : Spoken). SaidSo (g.S.Speaker.manner start) g.L.Link.tells begun x c.say_on.new.self c.say_on.new.speaker c.say_on.new.world (g.L.Link.counts c.say_on.new.link, g.L.Link.state c.say_on.new.link)) c.in-Halted.is (c.in_ok-spoken.ensures.says start begun sp))

pub drain-requires-clause-wants : goal.drain-requires-clause-wants
drain-requires-clause-wants g c = c.in_ok-spoken.ensures.wants (λ e. absurd (let k : Spoken.Halted c.in-Halted.halt ≡ Spoken.Quiet = sym c.in-Halted.is ∙ e in cc))

pub returns-in_err-drain-in-Halted-clause-broke : goal.returns-in_err-drain-in-Halted-clause-broke
returns-in_err-drain-in-Halted-clause-broke g c = at_exit _ c.from_residual-in_err-drain-in-Halted.result _ c.from_residual-in_err-drain-in-Halted.ensures.1 (λ start begun sp. c.in_err-drain-in-Halted.ensures.broke start begun (subst (λ (x : Spoken). SaidSo (g.S.Speaker.manner start) g.L.Link.tells begun x c.say_on.new.self c.say_on.new.speaker c.say_on.new.world (g.L.Link.counts c.say_on.new.link, g.L.Link.state c.say_on.new.link)) c.in-Halted.is (c.in_ok-spoken.ensures.says start begun sp)))

pub returns-in_ok-drain-in-Halted-clause-goes : goal.returns-in_ok-drain-in-Halted-clause-goes
returns-in_ok-drain-in-Halted-clause-goes g c = λ start begun sp. c.in_ok-drain-in-Halted.ensures.ended start begun (subst (λ (x : Spoken). SaidSo (g.S.Speaker.manner start) g.L.Link.tells begun x c.say_on.new.self c.say_on.new.speaker c.say_on.new.world (g.L.Link.counts c.say_on.new.link, g.L.Link.state c.say_on.new.link)) c.in-Halted.is (c.in_ok-spoken.ensures.says start begun sp))

pub look-requires-clause-speaks : goal.look-requires-clause-speaks
look-requires-clause-speaks g c =
    let (start, begun, sp) = c.requires.speaks in
    let so = subst (λ (x : Spoken). SaidSo (g.S.Speaker.manner start) g.L.Link.tells begun x c.say_on.new.self c.say_on.new.speaker c.say_on.new.world (g.L.Link.counts c.say_on.new.link, g.L.Link.state c.say_on.new.link)) c.in-Said.is (c.in_ok-spoken.ensures.says start begun sp) in
    (start, begun, c.in-Said.field-0, so.0, paused_full (g.S.Speaker.manner start) c.in-Said.field-0 _ (c.in_ok-spoken.ensures.full c.in-Said.field-0 c.in-Said.is) so.1)

pub look-requires-clause-partial : goal.look-requires-clause-partial
look-requires-clause-partial g c = subst IsPartial (sym (ap (λ (t : Talk). t.framer) c.say_on.ensures.rest)) c.requires.partial

pub returns-in-Said-clause-goes : goal.returns-in-Said-clause-goes
returns-in-Said-clause-goes g c =
    IfOk-weaker c.look.result _ _
    (λ end h start begun sp. let so = subst (λ (x : Spoken). SaidSo (g.S.Speaker.manner start) g.L.Link.tells begun x c.say_on.new.self c.say_on.new.speaker c.say_on.new.world (g.L.Link.counts c.say_on.new.link, g.L.Link.state c.say_on.new.link)) c.in-Said.is (c.in_ok-spoken.ensures.says start begun sp) in h start begun c.in-Said.field-0 so.0 (paused_full (g.S.Speaker.manner start) c.in-Said.field-0 _ (c.in_ok-spoken.ensures.full c.in-Said.field-0 c.in-Said.is) so.1))
    c.look.ensures.goes

pub returns-in-Said-clause-broke : goal.returns-in-Said-clause-broke
returns-in-Said-clause-broke g c =
    IfErr-weaker c.look.result _ _
    (λ fault h start begun sp. let so = subst (λ (x : Spoken). SaidSo (g.S.Speaker.manner start) g.L.Link.tells begun x c.say_on.new.self c.say_on.new.speaker c.say_on.new.world (g.L.Link.counts c.say_on.new.link, g.L.Link.state c.say_on.new.link)) c.in-Said.is (c.in_ok-spoken.ensures.says start begun sp) in h start begun c.in-Said.field-0 so.0 (paused_full (g.S.Speaker.manner start) c.in-Said.field-0 _ (c.in_ok-spoken.ensures.full c.in-Said.field-0 c.in-Said.is) so.1))
    c.look.ensures.broke

pub returns-in-Nothing-clause-goes : goal.returns-in-Nothing-clause-goes
returns-in-Nothing-clause-goes g c = λ start begun sp.
    let so = (subst (λ (x : Spoken). SaidSo (g.S.Speaker.manner start) g.L.Link.tells begun x c.say_on.new.self c.say_on.new.speaker c.say_on.new.world (g.L.Link.counts c.say_on.new.link, g.L.Link.state c.say_on.new.link)) c.in-Quiet.is (c.in_ok-spoken.ensures.says start begun sp)) in
    end_over (g.S.Speaker.manner start) g.L.Link.tells begun so.0 c.say_on.new.self _ _ _ so.1.stands (sym (c.wants.ensures start) ∙ c.in-Nothing.is)

pub look-requires-in-Quiet : goal.look-requires-in-Quiet
look-requires-in-Quiet g c = record {
  speaks =
      let (start, begun, sp) = c.requires.speaks in
      let so = (subst (λ (x : Spoken). SaidSo (g.S.Speaker.manner start) g.L.Link.tells begun x c.say_on.new.self c.say_on.new.speaker c.say_on.new.world (g.L.Link.counts c.say_on.new.link, g.L.Link.state c.say_on.new.link)) c.in-Quiet.is (c.in_ok-spoken.ensures.says start begun sp)) in
      (start, begun, so.0, so.1, (paused_still (g.S.Speaker.manner start) so.0 _ (λ none. c.in_default.not-Nothing (c.wants.ensures start ∙ none)) so.2));
  partial = subst IsPartial (sym (ap (λ (t : Talk). t.framer) c.say_on.ensures.rest)) c.requires.partial;
  more = let e = ap (λ (t : Talk). t.heard) c.say_on.ensures.rest in let more = c.requires.more in omega (arith, e, more);
}

pub returns-in_default : goal.returns-in_default
returns-in_default g c = record {
  goes = IfOk-weaker c.look-in-Quiet.result _ _ (λ end h start begun sp. let so = (subst (λ (x : Spoken). SaidSo (g.S.Speaker.manner start) g.L.Link.tells begun x c.say_on.new.self c.say_on.new.speaker c.say_on.new.world (g.L.Link.counts c.say_on.new.link, g.L.Link.state c.say_on.new.link)) c.in-Quiet.is (c.in_ok-spoken.ensures.says start begun sp)) in h start begun so.0 so.1 (paused_still (g.S.Speaker.manner start) so.0 _ (λ none. c.in_default.not-Nothing (c.wants.ensures start ∙ none)) so.2)) c.look-in-Quiet.ensures.goes;
  broke = IfErr-weaker c.look-in-Quiet.result _ _ (λ fault h start begun sp. let so = (subst (λ (x : Spoken). SaidSo (g.S.Speaker.manner start) g.L.Link.tells begun x c.say_on.new.self c.say_on.new.speaker c.say_on.new.world (g.L.Link.counts c.say_on.new.link, g.L.Link.state c.say_on.new.link)) c.in-Quiet.is (c.in_ok-spoken.ensures.says start begun sp)) in h start begun so.0 so.1 (paused_still (g.S.Speaker.manner start) so.0 _ (λ none. c.in_default.not-Nothing (c.wants.ensures start ∙ none)) so.2)) c.look-in-Quiet.ensures.broke;
}

pub look-requires-clause-more : goal.look-requires-clause-more
look-requires-clause-more g c = let e = ap (λ (t : Talk). t.heard) c.say_on.ensures.rest in let more = c.requires.more in omega (arith, e, more)
