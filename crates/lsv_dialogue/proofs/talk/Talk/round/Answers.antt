use Rattle.std.proofs.Common.{List, ℕ, sym, ◌∙◌, ap, subst, refl, arith, inr}
use Rattle.std.proofs.lemmas.Result.{IfErr-weaker, IfOk-weaker}
use Rattle.lsv_wire.specs.Frame.{IsPartial, IsTooLong}
use Rattle.lsv_dialogue.specs.Ends.{BeginsBad}
use Rattle.lsv_dialogue.specs.Stands.{IsNext}
use Rattle.lsv_dialogue.specs.declared.talk.Talk.{Talk}
use Rattle.lsv_dialogue.proofs.EndLemmas.{broken, end_chatter, end_large, end_malformed, end_over}
use Rattle.lsv_dialogue.proofs.ReadLemmas.{same_talk}
use Rattle.lsv_dialogue.proofs.StandLemmas.{after_next, same_speaks}
use Rattle.lsv_dialogue.proofs.talk.Talk.round.Goals as goal

pub returns-in-Nothing-clause-goes : goal.returns-in-Nothing-clause-goes
returns-in-Nothing-clause-goes g c = λ start begun sp. end_over (g.S.Speaker.manner start) g.L.Link.tells begun 0 c.args.self.now _ _ _ sp.stands (sym (c.wants.ensures start) ∙ c.in-Nothing.is)

pub returns-then-self-ge-MOST_HEARD : goal.returns-then-self-ge-MOST_HEARD
returns-then-self-ge-MOST_HEARD g c = record {
  goes = λ start begun sp. end_chatter (g.S.Speaker.manner start) g.L.Link.tells begun c.args.self.now _ _ _ sp.stands (λ none. c.in_default.not-Nothing (c.wants.ensures start ∙ none)) c.if-self-ge-MOST_HEARD.true;
  broke = tt;
}

pub returns-in_default-next_message : goal.returns-in_default-next_message
returns-in_default-next_message g c = record {
  goes = tt;
  broke = λ start begun sp. broken (g.S.Speaker.manner start) g.L.Link.tells begun 0 c.args.self.now _ _ _ sp.stands;
}

pub hear-requires : goal.hear-requires
hear-requires g c = record {
  speaks = let (start, begun, sp) = c.requires.speaks in (start, begun, (record { stands = after_next (g.S.Speaker.manner start) g.L.Link.tells begun 0 c.in-Message.message c.args.self.now c.next_message.new.self _ _ _ sp.stands (subst (λ n. IsNext n c.args.self.now.framer c.next_message.new.self.framer) c.in-Message.is c.in-Ok.ensures.next) c.next_message.ensures.rest c.if-self-ge-MOST_HEARD.false; opened = sp.opened }));
  wants = λ start. (λ none. c.in_default.not-Nothing (c.wants.ensures start ∙ none));
  more = (let e = ap (λ (t : Talk). t.heard) c.next_message.ensures.rest in let few = c.if-self-ge-MOST_HEARD.false in omega (arith, e, few));
}

pub returns-in-Message : goal.returns-in-Message
returns-in-Message g c = record {
  goes = IfOk-weaker c.hear.result _ _ (λ end h start begun sp. h start begun (record { stands = after_next (g.S.Speaker.manner start) g.L.Link.tells begun 0 c.in-Message.message c.args.self.now c.next_message.new.self _ _ _ sp.stands (subst (λ n. IsNext n c.args.self.now.framer c.next_message.new.self.framer) c.in-Message.is c.in-Ok.ensures.next) c.next_message.ensures.rest c.if-self-ge-MOST_HEARD.false; opened = sp.opened })) c.hear.ensures.goes;
  broke = IfErr-weaker c.hear.result _ _ (λ fault h start begun sp. h start begun (record { stands = after_next (g.S.Speaker.manner start) g.L.Link.tells begun 0 c.in-Message.message c.args.self.now c.next_message.new.self _ _ _ sp.stands (subst (λ n. IsNext n c.args.self.now.framer c.next_message.new.self.framer) c.in-Message.is c.in-Ok.ensures.next) c.next_message.ensures.rest c.if-self-ge-MOST_HEARD.false; opened = sp.opened })) c.hear.ensures.broke;
}

pub returns-in-Malformed : goal.returns-in-Malformed
returns-in-Malformed g c = record {
  goes = λ start begun sp.
      let next = (subst (λ n. IsNext n c.args.self.now.framer c.next_message.new.self.framer) c.in-Malformed.is c.in-Ok.ensures.next) in
      end_malformed (g.S.Speaker.manner start) g.L.Link.tells begun c.in-Malformed.fault c.next_message.new.self _ _ _ (same_speaks (g.S.Speaker.manner start) g.L.Link.tells begun 0 c.args.self.now c.next_message.new.self _ _ _ (same_talk c.args.self.now c.next_message.new.self c.next_message.ensures.rest next.1) sp).stands (λ none. c.in_default.not-Nothing (c.wants.ensures start ∙ none)) (subst (λ (r : List ℕ). BeginsBad c.in-Malformed.fault r) (sym next.1) next.0) (let e = ap (λ (t : Talk). t.heard) c.next_message.ensures.rest in let few = c.if-self-ge-MOST_HEARD.false in omega (arith, e, few));
  broke = tt;
}

pub returns-in-TooLarge : goal.returns-in-TooLarge
returns-in-TooLarge g c = record {
  goes = λ start begun sp.
      let next = (subst (λ n. IsNext n c.args.self.now.framer c.next_message.new.self.framer) c.in-TooLarge.is c.in-Ok.ensures.next) in
      end_large (g.S.Speaker.manner start) g.L.Link.tells begun c.in-TooLarge.stated c.next_message.new.self _ _ _ (same_speaks (g.S.Speaker.manner start) g.L.Link.tells begun 0 c.args.self.now c.next_message.new.self _ _ _ (same_talk c.args.self.now c.next_message.new.self c.next_message.ensures.rest next.1) sp).stands (λ none. c.in_default.not-Nothing (c.wants.ensures start ∙ none)) (subst (λ (r : List ℕ). IsTooLong r c.in-TooLarge.stated) (sym next.1) next.0) (let e = ap (λ (t : Talk). t.heard) c.next_message.ensures.rest in let few = c.if-self-ge-MOST_HEARD.false in omega (arith, e, few));
  broke = tt;
}

pub go_on-requires : goal.go_on-requires
go_on-requires g c =
    let next = (subst (λ n. IsNext n c.args.self.now.framer c.next_message.new.self.framer) c.in-Nothing-next.is c.in-Ok.ensures.next) in
    record {
      speaks = let (start, begun, sp) = c.requires.speaks in (start, begun, (same_speaks (g.S.Speaker.manner start) g.L.Link.tells begun 0 c.args.self.now c.next_message.new.self _ _ _ (same_talk c.args.self.now c.next_message.new.self c.next_message.ensures.rest next.1) sp));
      wants = λ start. inr (refl, (λ none. c.in_default.not-Nothing (c.wants.ensures start ∙ none)));
      partial = subst IsPartial (sym next.1) next.0;
      few = omega arith;
      more = (let e = ap (λ (t : Talk). t.heard) c.next_message.ensures.rest in let few = c.if-self-ge-MOST_HEARD.false in omega (arith, e, few));
    }

pub returns-in-Nothing-next : goal.returns-in-Nothing-next
returns-in-Nothing-next g c =
    let next = (subst (λ n. IsNext n c.args.self.now.framer c.next_message.new.self.framer) c.in-Nothing-next.is c.in-Ok.ensures.next) in
    record {
      goes = IfOk-weaker c.go_on.result _ _ (λ end h start begun sp. h start begun (same_speaks (g.S.Speaker.manner start) g.L.Link.tells begun 0 c.args.self.now c.next_message.new.self _ _ _ (same_talk c.args.self.now c.next_message.new.self c.next_message.ensures.rest next.1) sp)) c.go_on.ensures.goes;
      broke = IfErr-weaker c.go_on.result _ _ (λ fault h start begun sp. h start begun (same_speaks (g.S.Speaker.manner start) g.L.Link.tells begun 0 c.args.self.now c.next_message.new.self _ _ _ (same_talk c.args.self.now c.next_message.new.self c.next_message.ensures.rest next.1) sp)) c.go_on.ensures.broke;
    }
