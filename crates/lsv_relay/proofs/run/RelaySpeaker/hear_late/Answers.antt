-- A message is heard that comes too late, and what is heard and said goes on.
use Rattle.std.proofs.Common.{inr, refl, subst, sym}
use Rattle.lsv_dialogue.specs.Events.{Event.Late}
use Rattle.lsv_relay.specs.Talks.{unended}
use Rattle.lsv_relay.specs.Value.{IsStarted}
use Rattle.lsv_relay.proofs.Running.{heard_spoke, keeping_fails, on_ok_always, on_ok_both, on_ok_map, on_ok_told, wants_more}
use Rattle.lsv_relay.proofs.run.RelaySpeaker.hear_late.Goals as goal

pub hear_late-requires-clause-stands : goal.hear_late-requires-clause-stands
hear_late-requires-clause-stands g c told whole = (c.requires.begun.2.1 told).stands

pub returns-clause-talks : goal.returns-clause-talks
returns-clause-talks g c =
    on_ok_both c.hear_late.result _ _ _
    (λ talks whole start events spoke. heard_spoke g.D.Disk.tells g.D.Disk.view start.0 start.1 c.args.self.now c.hear_late.new.self c.args.world.now c.hear_late.new.disk events (Late c.args.message.now) c.hear_late.ensures.same (λ told b s es. talks told b s es) whole c.hear_late.ensures.cause.monotone spoke)
    (on_ok_told c.hear_late.result g.D.Disk.tells _ c.hear_late.ensures.talks) c.hear_late.ensures.whole

pub returns-clause-opens : goal.returns-clause-opens
returns-clause-opens g c = on_ok_always c.hear_late.result _ (λ start. subst IsStarted (sym c.hear_late.ensures.same.2) c.requires.begun.3)

pub returns-clause-wants : goal.returns-clause-wants
returns-clause-wants g c = on_ok_map c.hear_late.result _ _ (λ never start. wants_more c.hear_late.new.self.meter.whole never) c.hear_late.ensures.never

pub returns-clause-fails : goal.returns-clause-fails
returns-clause-fails g c =
    keeping_fails g.D.Disk.tells g.D.Disk.view c.hear_late.result c.args.self.now c.hear_late.new.self (unended c.args.self.now) c.args.world.now c.hear_late.new.disk c.args.message.now (Late c.args.message.now) c.hear_late.ensures.same c.requires.begun.3 (λ events. inr (refl, refl))
    c.hear_late.ensures.any_moment c.hear_late.ensures.stands c.hear_late.ensures.cause c.hear_late.ensures.fault
