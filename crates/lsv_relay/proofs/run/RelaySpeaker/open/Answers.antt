-- The opening is said, and what is heard and said goes on.
use Rattle.std.proofs.Common.{arith, refl}
use Rattle.lsv_relay.proofs.Running.{if_ok_both, if_ok_map, if_ok_told, on_ok_map, on_ok_of, open_fails, opening_spoke, wants_more}
use Rattle.lsv_relay.proofs.run.RelaySpeaker.open.Goals as goal

pub returns-clause-talks : goal.returns-clause-talks
returns-clause-talks g c =
    if_ok_both c.begin.result _ _ _
    (λ messages talks opened start spoke. opening_spoke g.D.Disk.tells g.D.Disk.view start.0 start.1 c.args.self.now c.begin.new.self c.args.world.now c.begin.new.disk messages c.begin.ensures.same.0 c.begin.ensures.same.1 (λ told b s. talks told b s) opened.2 opened.1 c.begin.ensures.log.monotone spoke)
    (if_ok_told c.begin.result g.D.Disk.tells _ c.begin.ensures.talks) c.begin.ensures.opened

pub returns-clause-few : goal.returns-clause-few
returns-clause-few g c = if_ok_map c.begin.result _ _ (λ messages opened. let few = opened.0 in omega (arith, few)) c.begin.ensures.opened

pub returns-clause-opens : goal.returns-clause-opens
returns-clause-opens g c = on_ok_of c.begin.result _ _ (λ messages opened start. opened.2) c.begin.ensures.opened

pub returns-clause-wants : goal.returns-clause-wants
returns-clause-wants g c = on_ok_map c.begin.result _ _ (λ whole start. wants_more c.begin.new.self.meter.whole whole) c.begin.ensures.meter

pub returns-clause-fails : goal.returns-clause-fails
returns-clause-fails g c =
    open_fails g.D.Disk.tells g.D.Disk.view c.begin.result c.args.self.now c.begin.new.self c.args.world.now c.begin.new.disk c.begin.ensures.same.0 c.begin.ensures.same.1 c.requires.begun.1.0.whole (c.requires.begun.1.0.unbegun refl)
    c.begin.ensures.reads c.begin.ensures.fails c.begin.ensures.log c.begin.ensures.fault c.begin.ensures.why
