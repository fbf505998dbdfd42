-- Messages are said, and what is heard and said goes on.
use Rattle.lsv_relay.proofs.Running.{if_ok_map, if_ok_told, on_ok_always, sending_fails, step_spoke, wants_more}
use Rattle.lsv_relay.proofs.run.RelaySpeaker.step.Goals as goal

pub returns-clause-talks : goal.returns-clause-talks
returns-clause-talks g c =
    if_ok_map c.step.result _ _
    (λ messages talks start events spoke. step_spoke g.D.Disk.tells g.D.Disk.view start.0 start.1 c.args.self.now c.step.new.self c.args.world.now c.step.new.disk events messages c.step.ensures.same.0 c.step.ensures.same.1 (λ told b s es. talks told b s es) c.requires.begun.3 c.step.ensures.same.2 c.step.ensures.log.monotone spoke)
    (if_ok_told c.step.result g.D.Disk.tells _ c.step.ensures.talks)

pub returns-clause-few : goal.returns-clause-few
returns-clause-few g c = if_ok_map c.step.result _ _ (λ messages few. few.0) c.step.ensures.few

pub returns-clause-quiet : goal.returns-clause-quiet
returns-clause-quiet g c = if_ok_map c.step.result _ _ (λ messages quiet none start. quiet none) (c.step.ensures.quiet c.requires.some)

pub returns-clause-busy : goal.returns-clause-busy
returns-clause-busy g c = if_ok_map c.step.result _ _ (λ messages busy some start. wants_more c.step.new.self.meter.whole (busy some)) (c.step.ensures.busy c.requires.begun.2.0.whole)

pub returns-clause-opens : goal.returns-clause-opens
returns-clause-opens g c = on_ok_always c.step.result _ (λ start. c.step.ensures.same.2)

pub returns-clause-fails : goal.returns-clause-fails
returns-clause-fails g c =
    sending_fails g.D.Disk.tells g.D.Disk.view c.step.result c.args.self.now c.step.new.self c.args.world.now c.step.new.disk c.step.ensures.same.0 c.step.ensures.same.1 c.requires.begun.2.0.whole c.step.ensures.same.2
    c.step.ensures.reads c.step.ensures.log c.step.ensures.fault c.step.ensures.why
