-- A message is heard, and what is heard and said goes on.
use Rattle.std.proofs.Common.{ap, inl, refl, subst, sym}
use Rattle.std.specs.Prelude.{Bool, if◌then◌else◌}
use Rattle.lsv_dialogue.specs.Events.{Event.Heard}
use Rattle.lsv_dialogue.specs.declared.ends.Wants.TheVariants as wants
use Rattle.lsv_relay.specs.Value.{IsStarted}
use Rattle.lsv_relay.proofs.Running.{heard_spoke, keeping_fails, on_ok_always, on_ok_both, on_ok_map, on_ok_told}
use Rattle.lsv_relay.proofs.run.RelaySpeaker.hear.Goals as goal

pub hear-requires-clause-stands : goal.hear-requires-clause-stands
hear-requires-clause-stands g c told whole = (c.requires.begun.2.1 told).stands

pub returns-clause-talks : goal.returns-clause-talks
returns-clause-talks g c =
    on_ok_both c.hear.result _ _ _
    (λ talks whole start events spoke. heard_spoke g.D.Disk.tells g.D.Disk.view start.0 start.1 c.args.self.now c.hear.new.self c.args.world.now c.hear.new.disk events (Heard c.args.message.now) c.hear.ensures.same (λ told b s es. talks told b s es) whole c.hear.ensures.cause.monotone spoke)
    (on_ok_told c.hear.result g.D.Disk.tells _ c.hear.ensures.talks) c.hear.ensures.whole

pub returns-clause-opens : goal.returns-clause-opens
returns-clause-opens g c = on_ok_always c.hear.result _ (λ start. subst IsStarted (sym c.hear.ensures.same.2) c.requires.begun.3)

pub returns-clause-last : goal.returns-clause-last
returns-clause-last g c = on_ok_map c.hear.result _ _ (λ last is start. ap (λ (b : Bool). if b then wants.End else wants.More) (last is)) c.hear.ensures.last

pub returns-clause-fails : goal.returns-clause-fails
returns-clause-fails g c =
    keeping_fails g.D.Disk.tells g.D.Disk.view c.hear.result c.args.self.now c.hear.new.self c.args.self.now c.args.world.now c.hear.new.disk c.args.message.now (Heard c.args.message.now) c.hear.ensures.same c.requires.begun.3 (λ events. inl (refl, refl))
    c.hear.ensures.any_moment c.hear.ensures.stands c.hear.ensures.cause c.hear.ensures.fault
