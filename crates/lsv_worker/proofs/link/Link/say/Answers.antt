use Rattle.std.proofs.Common.{◌≡◌, true, false, refl, sym, ◌∙◌, inl, inr, ⊎_elim, rules}
use Rattle.lsv_wire.specs.Frame.{frame_of}
use Rattle.lsv_msg.specs.Messages.{server_bytes}
use Rattle.lsv_worker.specs.declared.outgoing.Sending.TheVariants.{Failed, Over, OutOfMemory}
use Rattle.lsv_worker.proofs.Linking.{takes_said}
use Rattle.lsv_worker.proofs.Speaking.{muted_more}
use Rattle.lsv_worker.proofs.Ruling.{remains_so}
use Rattle.lsv_worker.proofs.Wanting.{keeps_here}
use Rattle.lsv_worker.proofs.link.Link.say.Goals as goal

pub returns-then-self-clause-takes : goal.returns-then-self-clause-takes
returns-then-self-clause-takes c = λ reply port conn body.
    let shut : c.args.self.now.shut ≡ true = search rules in
    takes_said c.args.self.now c.args.self.now.incoming c.stop_sending.new.self port reply c.args.message.now conn body refl (λ read put marks h. h)
    (λ output answers h. muted_more c.stop_sending.new.self.sending c.stop_sending.new.self.unsent output answers (frame_of (server_bytes c.args.message.now)) c.stop_sending.ensures.mute (c.stop_sending.ensures.goes output answers h))
    (λ e. ⊎_elim (λ (no : Over ≡ Failed). absurd cc) (λ was. was) (c.stop_sending.ensures.failed e)) (λ e. inr (inl shut)) (λ l. c.stop_sending.ensures.unsent)
    (λ wants e. wants (⊎_elim (λ (no : Over ≡ OutOfMemory). absurd cc) (λ was. was) (c.stop_sending.ensures.out_of_memory e))) (λ l. l)

pub returns-then-not-self-clause-takes : goal.returns-then-not-self-clause-takes
returns-then-not-self-clause-takes c = λ reply port conn body.
    let live : c.args.self.now.live ≡ false = search rules in
    takes_said c.args.self.now c.args.self.now.incoming c.stop_sending-then-not-self.new.self port reply c.args.message.now conn body refl (λ read put marks h. h)
    (λ output answers h. muted_more c.stop_sending-then-not-self.new.self.sending c.stop_sending-then-not-self.new.self.unsent output answers (frame_of (server_bytes c.args.message.now)) c.stop_sending-then-not-self.ensures.mute (c.stop_sending-then-not-self.ensures.goes output answers h))
    (λ e. ⊎_elim (λ (no : Over ≡ Failed). absurd cc) (λ was. was) (c.stop_sending-then-not-self.ensures.failed e)) (λ e. inr (inr live)) (λ l. c.stop_sending-then-not-self.ensures.unsent)
    (λ wants e. wants (⊎_elim (λ (no : Over ≡ OutOfMemory). absurd cc) (λ was. was) (c.stop_sending-then-not-self.ensures.out_of_memory e))) (λ l. l)

pub returns-then-say-clause-takes : goal.returns-then-say-clause-takes
returns-then-say-clause-takes c = λ reply port conn body.
    let live : c.args.self.now.live ≡ true = search rules in
    takes_said c.args.self.now c.args.self.now.incoming c.say.new.self port reply c.args.message.now conn body refl (λ read put marks h. h)
    c.say.ensures.goes (λ e. sym (c.say.ensures.sending c.if-say.true) ∙ e) (λ e. inl (sym (c.say.ensures.sending c.if-say.true) ∙ e)) (λ l. let no : true ≡ false = sym live ∙ l in absurd cc)
    (λ wants e. wants (sym (c.say.ensures.sending c.if-say.true) ∙ e)) (λ l. l)

pub returns-clause-takes : goal.returns-clause-takes
returns-clause-takes c = λ reply port conn body.
    let live : c.args.self.now.live ≡ true = search rules in
    takes_said c.args.self.now c.run_out_of_memory.new.self c.say.new.self port reply c.args.message.now conn body c.run_out_of_memory.ensures.keeps.lanes c.run_out_of_memory.ensures.goes
    c.say.ensures.goes (λ e. ⊎_elim (λ same. sym same ∙ e) (λ out_of_memory. let no : OutOfMemory ≡ Failed = sym out_of_memory ∙ e in absurd cc) c.say.ensures.out_of_memory)
    (λ e. ⊎_elim (λ same. inl (sym same ∙ e)) (λ out_of_memory. let no : OutOfMemory ≡ Over = sym out_of_memory ∙ e in absurd cc) c.say.ensures.out_of_memory) (λ l. let no : true ≡ false = sym live ∙ l in absurd cc)
    (λ wants e. c.run_out_of_memory.ensures.tells) c.run_out_of_memory.ensures.keeps.left

pub returns-then-self-clause-remains : goal.returns-then-self-clause-remains
returns-then-self-clause-remains c = remains_so c.args.self.now (record c.args.self.now { outgoing = c.stop_sending.new.self }) refl refl (λ e. e) (keeps_here c.args.self.now.incoming) c.stop_sending.ensures.was

pub returns-then-not-self-clause-remains : goal.returns-then-not-self-clause-remains
returns-then-not-self-clause-remains c = remains_so c.args.self.now (record c.args.self.now { outgoing = c.stop_sending-then-not-self.new.self }) refl refl (λ e. e) (keeps_here c.args.self.now.incoming) c.stop_sending-then-not-self.ensures.was

pub returns-then-say-clause-remains : goal.returns-then-say-clause-remains
returns-then-say-clause-remains c = remains_so c.args.self.now (record c.args.self.now { outgoing = c.say.new.self }) refl refl (λ e. e) (keeps_here c.args.self.now.incoming) c.say.ensures.mute

pub returns-clause-remains : goal.returns-clause-remains
returns-clause-remains c = remains_so c.args.self.now (record c.args.self.now { incoming = c.run_out_of_memory.new.self; outgoing = c.say.new.self }) refl refl (λ e. e) c.run_out_of_memory.ensures.keeps c.say.ensures.mute
