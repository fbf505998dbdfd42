use Rattle.std.proofs.Common.{◌∙◌, ◌++◌, ◌∷◌, List, [], ℕ, inl, inr, refl, sym, ap, subst}
use Rattle.lsv_msg.specs.declared.messages.ClientMessage.{ClientMessage}
use Rattle.lsv_relay.specs.Inner.{Answers}
use Rattle.lsv_relay.specs.declared.relay.Meter.{Meter}
use Rattle.lsv_relay.proofs.Reading.{gives_exit, gives_records}
use Rattle.lsv_relay.proofs.relay.Core.answer.Goals as goal

pub returns-in-Records-clause-answers : goal.returns-in-Records-clause-answers
returns-in-Records-clause-answers g c told =
    inr (c.in-Sends.log, c.next_of.new.log, c.in-Sends.is, c.if-self.false, λ records log. inl (gives_records c.args.most c.args.self.now _ c.in-Sends.log c.next_of.new.log c.in-Records.batch (g.D.Disk.view c.args.disk.now) (g.D.Disk.view c.next_of.new.disk) (c.next_of.ensures.reads told) (record { number = c.next_of.ensures.same.0; head = c.next_of.ensures.same.1; body = c.next_of.ensures.same.2 }) (c.in_ok-next-in-Sends.ensures.records told c.in-Records.batch c.in-Records.is) refl (ap (λ (n : ℕ). let m : Meter = record c.args.self.now.meter { sent = n } in m) c.saturating_add-self.ensures) records log))

pub returns-in_ok-push-in-Exit-clause-answers : goal.returns-in_ok-push-in-Exit-clause-answers
returns-in_ok-push-in-Exit-clause-answers g c told =
    subst (Answers c.args.self.now _ (g.D.Disk.view c.args.disk.now) (g.D.Disk.view c.next_of.new.disk)) (sym (c.in_ok-push-in-Exit.ensures ∙ (ap (λ (ms : List ClientMessage). ms ++ c.in_ok-message-in-Exit.message ∷ []) c.new-messages.ensures ∙ ap (λ (m : ClientMessage). m ∷ []) c.in_ok-message-in-Exit.ensures)))
    (inr (c.in-Sends.log, c.next_of.new.log, c.in-Sends.is, c.if-self.false, λ records log. inr (gives_exit c.args.self.now _ c.in-Sends.log c.next_of.new.log c.in-Exit.exit (g.D.Disk.view c.args.disk.now) (g.D.Disk.view c.next_of.new.disk) (c.next_of.ensures.reads told) (record { number = c.next_of.ensures.same.0; head = c.next_of.ensures.same.1; body = c.next_of.ensures.same.2 }) (c.in_ok-next-in-Sends.ensures.whole told c.in-Exit.exit c.in-Exit.is) (c.in_ok-next-in-Sends.ensures.exit told c.in-Exit.exit c.in-Exit.is) refl refl records log)))
