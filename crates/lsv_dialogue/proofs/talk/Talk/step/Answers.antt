use Rattle.std.proofs.Common.{◌≡◌, ◌≢◌, List, [], length, sym, ◌∙◌, ap, subst, arith, nat_eq}
use Rattle.lsv_msg.specs.declared.messages.ClientMessage.{ClientMessage}
use Rattle.lsv_dialogue.specs.Stands.{Sends}
use Rattle.lsv_dialogue.proofs.EndLemmas.{step_failed, unput_broken}
use Rattle.lsv_dialogue.proofs.LinkLemmas.{stays_connected}
use Rattle.lsv_dialogue.proofs.ReadLemmas.{empty_by, some_by, some_length}
use Rattle.lsv_dialogue.proofs.SayLemmas.{said_by, sends_none}
use Rattle.lsv_dialogue.proofs.StandLemmas.{after_said}
use Rattle.lsv_dialogue.proofs.talk.Talk.step.Goals as goal

pub step-requires-clause-begun : goal.step-requires-clause-begun
step-requires-clause-begun g c =
    let (start, begun, sp) = c.requires.speaks in
    (start, sp.stands.holds.events, sp.stands.holds.talks, sp.opened)

pub returns-in-Err-clause-broke : goal.returns-in-Err-clause-broke
returns-in-Err-clause-broke g c = λ start begun sp. step_failed (g.S.Speaker.manner start) g.L.Link.tells begun c.args.put c.args.self.now _ _ _ _ _ c.in-Err.fault sp.stands (c.in-Err.ensures.fails start sp.stands.holds.events sp.stands.holds.talks)

pub returns-then-is_empty-clause-says : goal.returns-then-is_empty-clause-says
returns-then-is_empty-clause-says g c = λ start begun sp.
    let is : c.as_slice-next.result.now ≡ c.in-Ok.messages = c.as_slice-next.ensures in
    let none : c.in-Ok.messages ≡ [] = empty_by c.in-Ok.messages (ap (λ (ms : List ClientMessage). nat_eq (length ms) 0) (sym is) ∙ (sym c.is_empty.ensures ∙ c.if-is_empty.true)) in
    let few = c.in-Ok.ensures.few in
    let room = c.requires.room in (
      c.args.put,
      record {
        stands = after_said (g.S.Speaker.manner start) g.L.Link.tells begun c.in-Ok.messages c.args.put c.args.put c.args.self.now _ _ _ _ (g.L.Link.counts c.args.link.now, g.L.Link.state c.args.link.now) (g.L.Link.counts c.args.link.now, g.L.Link.state c.args.link.now) sp.stands
            (c.in-Ok.ensures.talks start sp.stands.holds.events sp.stands.holds.talks) (omega (arith, few, room)) (sends_none c.args.put g.L.Link.tells c.in-Ok.messages (g.L.Link.counts c.args.link.now, g.L.Link.state c.args.link.now) none (λ t. stays_connected _ _ (sp.stands.holds.stays t))) c.requires.partial;
        opened = c.in-Ok.ensures.opens start;
      },
      c.in-Ok.ensures.quiet none start,
    )

pub put-requires-clause-connected : goal.put-requires-clause-connected
put-requires-clause-connected g c = λ t. stays_connected _ _ (c.requires.speaks.2.stands.holds.stays t)

pub put-requires-clause-few : goal.put-requires-clause-few
put-requires-clause-few g c =
    let few = c.in-Ok.ensures.few in
    let room = c.requires.room in
    let same = ap (λ (ms : List ClientMessage). length ms) c.as_slice-next.ensures in
    omega (arith, few, room, same)

pub returns-in_default-clause-broke : goal.returns-in_default-clause-broke
returns-in_default-clause-broke g c = λ start begun sp.
    let few = c.in-Ok.ensures.few in
    let room = c.requires.room in
    unput_broken (g.S.Speaker.manner start) g.L.Link.tells begun c.in-Ok.messages c.args.put c.args.self.now _ _ _ _ (g.L.Link.counts c.args.link.now, g.L.Link.state c.args.link.now) (g.L.Link.counts c.put.new.link, g.L.Link.state c.put.new.link) sp.stands
    (c.in-Ok.ensures.talks start sp.stands.holds.events sp.stands.holds.talks) (omega (arith, few, room)) c.in_default.ensures.same.0 c.in_default.ensures.same.1

pub returns-clause-says : goal.returns-clause-says
returns-clause-says g c = λ start begun sp.
    let is : c.as_slice-next.result.now ≡ c.in-Ok.messages = c.as_slice-next.ensures in
    let some : c.in-Ok.messages ≢ [] = some_by c.in-Ok.messages (ap (λ (ms : List ClientMessage). nat_eq (length ms) 0) (sym is) ∙ (sym c.is_empty.ensures ∙ c.if-is_empty.false)) in
    let few = c.in-Ok.ensures.few in
    let room = c.requires.room in
    said_by (g.S.Speaker.manner start) g.L.Link.tells begun c.in-Ok.messages c.args.put c.in-Ok-put.spoken c.args.self.now _ _ _ _ (g.L.Link.counts c.args.link.now, g.L.Link.state c.args.link.now) (g.L.Link.counts c.put.new.link, g.L.Link.state c.put.new.link) sp.stands
    (c.in-Ok.ensures.talks start sp.stands.holds.events sp.stands.holds.talks) (omega (arith, few, room))
    (subst (λ (ms : List ClientMessage). Sends c.args.put c.in-Ok-put.spoken g.L.Link.tells ms (g.L.Link.counts c.args.link.now, g.L.Link.state c.args.link.now) (g.L.Link.counts c.put.new.link, g.L.Link.state c.put.new.link)) is c.in-Ok-put.ensures.sends) c.requires.partial (c.in-Ok.ensures.busy some start) (c.in-Ok.ensures.opens start)

pub returns-clause-more : goal.returns-clause-more
returns-clause-more g c = λ n e.
    let is : c.as_slice-next.result.now ≡ c.in-Ok.messages = c.as_slice-next.ensures in
    let one = some_length c.in-Ok.messages (some_by c.in-Ok.messages (ap (λ (ms : List ClientMessage). nat_eq (length ms) 0) (sym is) ∙ (sym c.is_empty.ensures ∙ c.if-is_empty.false))) in
    let count = c.in-Ok-put.ensures.sends.count n e in
    let same = ap (λ (ms : List ClientMessage). length ms) is in
    let few = c.in-Ok.ensures.few in
    let room = c.requires.room in
    (omega (arith, one, count, same), omega (arith, count, same, few, room))

pub returns-clause-wants : goal.returns-clause-wants
returns-clause-wants g c = λ loud start.
    let is : c.as_slice-next.result.now ≡ c.in-Ok.messages = c.as_slice-next.ensures in
    c.in-Ok.ensures.busy (some_by c.in-Ok.messages (ap (λ (ms : List ClientMessage). nat_eq (length ms) 0) (sym is) ∙ (sym c.is_empty.ensures ∙ c.if-is_empty.false))) start
