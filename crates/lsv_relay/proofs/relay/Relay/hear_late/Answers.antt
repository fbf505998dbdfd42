-- A message is taken by the parts, that comes too late.
use Rattle.std.proofs.Common.{◌∙◌, ap, subst, sym}
use Rattle.lsv_dialogue.specs.Events.{Event.Late}
use Rattle.lsv_kept.specs.Value as kept
use Rattle.lsv_relay.specs.Talk.{Talk}
use Rattle.lsv_relay.specs.Talks.{unended}
use Rattle.lsv_relay.specs.Value.{RelayView, aim_of, is_broken, talk_of}
use Rattle.lsv_relay.proofs.Hearing.{hear_faults, hear_same, hear_stands, hear_talks, hear_undone, late_through}
use Rattle.lsv_relay.proofs.Running.{on_ok_map}
use Rattle.lsv_relay.proofs.Stepping.{Hearing.too_late}
use Rattle.lsv_relay.proofs.Talking.{late_whole}
use Rattle.lsv_relay.proofs.relay.Relay.hear_late.Goals as goal

pub take_late-requires-clause-stands : goal.take_late-requires-clause-stands
take_late-requires-clause-stands g c told = subst (λ (r : RelayView). kept.Stands r.keeping (g.D.Disk.view c.args.disk.now)) (sym c.self.view_is) (c.requires.stands told (ap is_broken (sym c.self.view_is) ∙ (sym c.is_broken.ensures ∙ c.if-is_broken.false))).kept

pub returns-clause-talks : goal.returns-clause-talks
returns-clause-talks g c told = hear_talks c.take_late.result c.args.self.now c.self.inside.core c.take_late.new.self (g.D.Disk.view c.args.disk.now) (g.D.Disk.view c.take_late.new.disk) c.args.message.now (Late c.args.message.now) c.self.view_is too_late c.take_late.ensures.taken c.take_late.ensures.same c.take_late.ensures.fails g.D.Disk.view (c.take_late.ensures.any_moment told) (c.take_late.ensures.stands told) (c.take_late.ensures.durable told) c.requires.started

pub returns-clause-never : goal.returns-clause-never
returns-clause-never g c = on_ok_map c.take_late.result _ _ (λ taken. ap (λ (t : Talk). t.whole) taken.talk_is ∙ late_whole (aim_of c.self.inside.core).total c.args.message.now (talk_of c.self.inside.core)) c.take_late.ensures.taken

pub returns-clause-whole : goal.returns-clause-whole
returns-clause-whole g c = hear_undone c.take_late.result c.args.self.now c.self.inside.core c.take_late.new.self (g.D.Disk.view c.args.disk.now) (g.D.Disk.view c.take_late.new.disk) c.args.message.now (Late c.args.message.now) c.self.view_is too_late c.take_late.ensures.taken c.take_late.ensures.same c.take_late.ensures.fails

pub returns-clause-any_moment : goal.returns-clause-any_moment
returns-clause-any_moment g c told whole = late_through c.take_late.result c.args.self.now c.self.inside.core c.take_late.new.self (g.D.Disk.view c.args.disk.now) (g.D.Disk.view c.take_late.new.disk) c.args.message.now c.self.view_is c.take_late.ensures.taken c.take_late.ensures.same c.take_late.ensures.fails (c.take_late.ensures.any_moment told)

pub returns-clause-stands : goal.returns-clause-stands
returns-clause-stands g c told = hear_stands c.take_late.result c.args.self.now c.self.inside.core c.take_late.new.self (g.D.Disk.view c.args.disk.now) (g.D.Disk.view c.take_late.new.disk) c.args.message.now (Late c.args.message.now) c.self.view_is too_late c.take_late.ensures.taken c.take_late.ensures.same c.take_late.ensures.fails (c.take_late.ensures.stands told) c.requires.started

pub returns-clause-same : goal.returns-clause-same
returns-clause-same g c = hear_same c.take_late.result c.args.self.now c.self.inside.core c.take_late.new.self (g.D.Disk.view c.args.disk.now) (g.D.Disk.view c.take_late.new.disk) c.args.message.now (Late c.args.message.now) c.self.view_is too_late c.take_late.ensures.taken c.take_late.ensures.same c.take_late.ensures.fails

pub returns-clause-fault : goal.returns-clause-fault
returns-clause-fault g c = hear_faults c.take_late.result c.args.self.now c.self.inside.core c.take_late.new.self (g.D.Disk.view c.args.disk.now) (g.D.Disk.view c.take_late.new.disk) c.args.message.now (Late c.args.message.now) c.self.view_is too_late c.take_late.ensures.taken c.take_late.ensures.same c.take_late.ensures.fails c.take_late.ensures.fault (unended c.args.self.now)
