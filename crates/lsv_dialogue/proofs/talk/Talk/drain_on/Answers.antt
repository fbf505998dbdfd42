use Rattle.std.proofs.Common.{[], sym, ◌∙◌, ap, subst, refl, arith, ℕ, List, length}
use Rattle.std.specs.Result.{is_ok}
use Rattle.std.proofs.lemmas.Result.{IfErr-weaker, IfOk-weaker}
use Rattle.lsv_wire.specs.Frame.{IsPartial, IsTooLong}
use Rattle.lsv_dialogue.specs.Ends.{BeginsBad, IsDrained.Bad, IsDrained.Empty, IsDrained.Enough, IsDrained.Large}
use Rattle.lsv_dialogue.specs.Stands.{Finishes, IsNext}
use Rattle.lsv_dialogue.specs.declared.ends.Cause.{Cause}
use Rattle.lsv_dialogue.specs.declared.ends.End.TheVariants as ends
use Rattle.lsv_dialogue.specs.declared.read.Came.TheVariants as came
use Rattle.lsv_dialogue.specs.declared.talk.Talk.{Talk}
use Rattle.lsv_dialogue.proofs.EndLemmas.{end_halted, stopped_broken, stopped_read_broken}
use Rattle.lsv_dialogue.proofs.LinkLemmas.{stays_connected}
use Rattle.lsv_dialogue.proofs.ReadLemmas.{same_talk, unwaited, which_came}
use Rattle.lsv_dialogue.proofs.StandLemmas.{at_most, same_stopped, stopped_next, stopped_read}
use Rattle.lsv_dialogue.proofs.talk.Talk.drain_on.Goals as goal

pub returns-then-self-ge-MOST_HEARD-clause-goes : goal.returns-then-self-ge-MOST_HEARD-clause-goes
returns-then-self-ge-MOST_HEARD-clause-goes g c = λ start begun st.
    let few = at_most (g.S.Speaker.manner start) g.L.Link.tells begun [] c.args.self.now _ _ _ st.holds in
    let count = st.holds.count in
    let most = c.if-self-ge-MOST_HEARD.true in
    subst (λ (x : Cause). Finishes (g.S.Speaker.manner start) g.L.Link.tells begun c.args.speaker.now c.args.world.now (g.L.Link.counts c.args.link.now, g.L.Link.state c.args.link.now) (ends.Stopped x)) (sym c.cause_of.ensures)
    (end_halted (g.S.Speaker.manner start) g.L.Link.tells begun c.args.halt [] c.args.self.now _ _ _ st (Enough refl (omega (arith, few, count, most))))

pub returns-in_default-clause-broke : goal.returns-in_default-clause-broke
returns-in_default-clause-broke g c = λ start begun st. stopped_broken (g.S.Speaker.manner start) g.L.Link.tells begun c.args.halt _ _ _ _ st

pub take_late-requires-clause-stopped : goal.take_late-requires-clause-stopped
take_late-requires-clause-stopped g c =
    let (start, begun, st) = c.requires.stopped in
    (start, begun, stopped_next (g.S.Speaker.manner start) g.L.Link.tells begun c.args.halt c.in-Message.message c.args.self.now c.next_message.new.self _ _ _ st (subst (λ n. IsNext n c.args.self.now.framer c.next_message.new.self.framer) c.in-Message.is c.in-Ok.ensures.next) c.next_message.ensures.rest c.if-self-ge-MOST_HEARD.false)

pub returns-in-Message-clause-goes : goal.returns-in-Message-clause-goes
returns-in-Message-clause-goes g c =
    IfOk-weaker c.take_late.result _ _
    (λ end h start begun st. h start begun (stopped_next (g.S.Speaker.manner start) g.L.Link.tells begun c.args.halt c.in-Message.message c.args.self.now c.next_message.new.self _ _ _ st (subst (λ n. IsNext n c.args.self.now.framer c.next_message.new.self.framer) c.in-Message.is c.in-Ok.ensures.next) c.next_message.ensures.rest c.if-self-ge-MOST_HEARD.false))
    c.take_late.ensures.goes

pub returns-in-Message-clause-broke : goal.returns-in-Message-clause-broke
returns-in-Message-clause-broke g c =
    IfErr-weaker c.take_late.result _ _
    (λ fault h start begun st. h start begun (stopped_next (g.S.Speaker.manner start) g.L.Link.tells begun c.args.halt c.in-Message.message c.args.self.now c.next_message.new.self _ _ _ st (subst (λ n. IsNext n c.args.self.now.framer c.next_message.new.self.framer) c.in-Message.is c.in-Ok.ensures.next) c.next_message.ensures.rest c.if-self-ge-MOST_HEARD.false))
    c.take_late.ensures.broke

pub returns-in-Malformed-clause-goes : goal.returns-in-Malformed-clause-goes
returns-in-Malformed-clause-goes g c = λ start begun st.
    let next = (subst (λ n. IsNext n c.args.self.now.framer c.next_message.new.self.framer) c.in-Malformed.is c.in-Ok.ensures.next) in
    subst (λ (x : Cause). Finishes (g.S.Speaker.manner start) g.L.Link.tells begun c.args.speaker.now c.args.world.now (g.L.Link.counts c.args.link.now, g.L.Link.state c.args.link.now) (ends.Stopped x)) (sym c.cause_of-in-Malformed.ensures)
    (end_halted (g.S.Speaker.manner start) g.L.Link.tells begun c.args.halt [] c.next_message.new.self _ _ _ (same_stopped (g.S.Speaker.manner start) g.L.Link.tells begun c.args.halt c.args.self.now c.next_message.new.self _ _ _ (same_talk c.args.self.now c.next_message.new.self c.next_message.ensures.rest next.1) st) (Bad c.in-Malformed.field-0 refl (subst (λ (r : List ℕ). BeginsBad c.in-Malformed.field-0 r) (sym next.1) next.0)))

pub returns-in-TooLarge-clause-goes : goal.returns-in-TooLarge-clause-goes
returns-in-TooLarge-clause-goes g c = λ start begun st.
    let next = (subst (λ n. IsNext n c.args.self.now.framer c.next_message.new.self.framer) c.in-TooLarge.is c.in-Ok.ensures.next) in
    subst (λ (x : Cause). Finishes (g.S.Speaker.manner start) g.L.Link.tells begun c.args.speaker.now c.args.world.now (g.L.Link.counts c.args.link.now, g.L.Link.state c.args.link.now) (ends.Stopped x)) (sym c.cause_of-in-TooLarge.ensures)
    (end_halted (g.S.Speaker.manner start) g.L.Link.tells begun c.args.halt [] c.next_message.new.self _ _ _ (same_stopped (g.S.Speaker.manner start) g.L.Link.tells begun c.args.halt c.args.self.now c.next_message.new.self _ _ _ (same_talk c.args.self.now c.next_message.new.self c.next_message.ensures.rest next.1) st) (Large c.in-TooLarge.field-0 refl (subst (λ (r : List ℕ). IsTooLong r c.in-TooLarge.field-0) (sym next.1) next.0)))

pub read_more-requires-clause-connected : goal.read_more-requires-clause-connected
read_more-requires-clause-connected g c = λ t. stays_connected _ _ (c.requires.stopped.2.holds.stays t)

pub read_more-requires-clause-room : goal.read_more-requires-clause-room
read_more-requires-clause-room g c = ap (λ (t : Talk). length t.buffer.items) c.next_message.ensures.rest ∙ c.requires.stopped.2.holds.room

pub returns-in_default-read_more-clause-broke : goal.returns-in_default-read_more-clause-broke
returns-in_default-read_more-clause-broke g c = λ start begun st.
    let next = (subst (λ n. IsNext n c.args.self.now.framer c.next_message.new.self.framer) c.in-Nothing.is c.in-Ok.ensures.next) in
    stopped_read_broken (g.S.Speaker.manner start) g.L.Link.tells begun _ _ _ c.args.halt c.next_message.new.self c.read_more.new.self _ _ (g.L.Link.counts c.args.link.now, g.L.Link.state c.args.link.now) (g.L.Link.counts c.read_more.new.link, g.L.Link.state c.read_more.new.link)
    (same_stopped (g.S.Speaker.manner start) g.L.Link.tells begun c.args.halt c.args.self.now c.next_message.new.self _ _ _ (same_talk c.args.self.now c.next_message.new.self c.next_message.ensures.rest next.1) st) c.read_more.ensures.read (λ e. c.in_default-read_more.not-Ok came.Failed e) c.read_more.ensures.counts (λ e wait. unwaited wait)

pub returns-in_default-came : goal.returns-in_default-came
returns-in_default-came g c = record {
  goes = λ start begun st.
      let next = (subst (λ n. IsNext n c.args.self.now.framer c.next_message.new.self.framer) c.in-Nothing.is c.in-Ok.ensures.next) in
      subst (λ (x : Cause). Finishes (g.S.Speaker.manner start) g.L.Link.tells begun c.args.speaker.now c.args.world.now (g.L.Link.counts c.read_more.new.link, g.L.Link.state c.read_more.new.link) (ends.Stopped x)) (sym c.cause_of-in_default-came.ensures)
      (end_halted (g.S.Speaker.manner start) g.L.Link.tells begun c.args.halt [] c.read_more.new.self _ _ (g.L.Link.counts c.read_more.new.link, g.L.Link.state c.read_more.new.link)
      (stopped_read (g.S.Speaker.manner start) g.L.Link.tells begun c.args.halt _ _ _ c.next_message.new.self c.read_more.new.self _ _ (g.L.Link.counts c.args.link.now, g.L.Link.state c.args.link.now) (g.L.Link.counts c.read_more.new.link, g.L.Link.state c.read_more.new.link)
      (same_stopped (g.S.Speaker.manner start) g.L.Link.tells begun c.args.halt c.args.self.now c.next_message.new.self _ _ _ (same_talk c.args.self.now c.next_message.new.self c.next_message.ensures.rest next.1) st) (ap is_ok c.in-Ok-read_more.is) c.read_more.ensures.read (which_came c.read_more.result c.in-Ok-read_more.came c.in-Ok-read_more.is) c.read_more.ensures.rest c.read_more.ensures.room c.read_more.ensures.counts (λ e wait. unwaited wait))
      (Empty refl (subst IsPartial (sym (c.in-Ok-read_more.ensures.none c.in_default-came.not-More ∙ next.1)) next.0) (λ t made. c.in-Ok-read_more.ensures.dry t c.in_default-came.not-More)));
  wants = c.requires.wants;
  broke = tt;
}

pub returns-clause-goes : goal.returns-clause-goes
returns-clause-goes g c = λ start begun st.
    let next = (subst (λ n. IsNext n c.args.self.now.framer c.next_message.new.self.framer) c.in-Nothing.is c.in-Ok.ensures.next) in
    stopped_read (g.S.Speaker.manner start) g.L.Link.tells begun c.args.halt _ _ _ c.next_message.new.self c.read_more.new.self _ _ (g.L.Link.counts c.args.link.now, g.L.Link.state c.args.link.now) (g.L.Link.counts c.read_more.new.link, g.L.Link.state c.read_more.new.link)
    (same_stopped (g.S.Speaker.manner start) g.L.Link.tells begun c.args.halt c.args.self.now c.next_message.new.self _ _ _ (same_talk c.args.self.now c.next_message.new.self c.next_message.ensures.rest next.1) st) (ap is_ok c.in-Ok-read_more.is) c.read_more.ensures.read (which_came c.read_more.result c.in-Ok-read_more.came c.in-Ok-read_more.is) c.read_more.ensures.rest c.read_more.ensures.room c.read_more.ensures.counts (λ e wait. unwaited wait)
