-- A message is taken by the parts.
use Rattle.std.proofs.Common.{◌∙◌, ap, subst, sym}
use Rattle.lsv_dialogue.specs.Events.{Event.Heard}
use Rattle.lsv_kept.specs.Value as kept
use Rattle.lsv_relay.specs.Talk.{Talk}
use Rattle.lsv_relay.specs.Value.{RelayView, aim_of, is_broken, talk_of}
use Rattle.lsv_relay.proofs.Hearing.{hear_faults, hear_same, hear_stands, hear_talks, hear_through, hear_undone, last_whole}
use Rattle.lsv_relay.proofs.Running.{on_ok_map}
use Rattle.lsv_relay.proofs.Stepping.{Hearing.in_time}
use Rattle.lsv_relay.proofs.relay.Relay.hear.Goals as goal

pub take-requires-clause-stands : goal.take-requires-clause-stands
take-requires-clause-stands g c told = subst (λ (r : RelayView). kept.Stands r.keeping (g.D.Disk.view c.args.disk.now)) (sym c.self.view_is) (c.requires.stands told (ap is_broken (sym c.self.view_is) ∙ (sym c.is_broken.ensures ∙ c.if-is_broken.false))).kept

pub returns-clause-talks : goal.returns-clause-talks
returns-clause-talks g c told = hear_talks c.take.result c.args.self.now c.self.inside.core c.take.new.self (g.D.Disk.view c.args.disk.now) (g.D.Disk.view c.take.new.disk) c.args.message.now (Heard c.args.message.now) c.self.view_is in_time c.take.ensures.taken c.take.ensures.same c.take.ensures.fails g.D.Disk.view (c.take.ensures.any_moment told) (c.take.ensures.stands told) (c.take.ensures.durable told) c.requires.started

pub returns-clause-last : goal.returns-clause-last
returns-clause-last g c = on_ok_map c.take.result _ _ (λ taken is. ap (λ (t : Talk). t.whole) taken.talk_is ∙ last_whole (aim_of c.self.inside.core).total c.args.message.now (talk_of c.self.inside.core) is ∙ ap (λ (r : RelayView). r.meter.whole) c.self.view_is) c.take.ensures.taken

pub returns-clause-whole : goal.returns-clause-whole
returns-clause-whole g c = hear_undone c.take.result c.args.self.now c.self.inside.core c.take.new.self (g.D.Disk.view c.args.disk.now) (g.D.Disk.view c.take.new.disk) c.args.message.now (Heard c.args.message.now) c.self.view_is in_time c.take.ensures.taken c.take.ensures.same c.take.ensures.fails

pub returns-clause-any_moment : goal.returns-clause-any_moment
returns-clause-any_moment g c told whole = hear_through c.take.result c.args.self.now c.self.inside.core c.take.new.self (g.D.Disk.view c.args.disk.now) (g.D.Disk.view c.take.new.disk) c.args.message.now c.self.view_is c.take.ensures.taken c.take.ensures.same c.take.ensures.fails (c.take.ensures.any_moment told)

pub returns-clause-stands : goal.returns-clause-stands
returns-clause-stands g c told = hear_stands c.take.result c.args.self.now c.self.inside.core c.take.new.self (g.D.Disk.view c.args.disk.now) (g.D.Disk.view c.take.new.disk) c.args.message.now (Heard c.args.message.now) c.self.view_is in_time c.take.ensures.taken c.take.ensures.same c.take.ensures.fails (c.take.ensures.stands told) c.requires.started

pub returns-clause-same : goal.returns-clause-same
returns-clause-same g c = hear_same c.take.result c.args.self.now c.self.inside.core c.take.new.self (g.D.Disk.view c.args.disk.now) (g.D.Disk.view c.take.new.disk) c.args.message.now (Heard c.args.message.now) c.self.view_is in_time c.take.ensures.taken c.take.ensures.same c.take.ensures.fails

pub returns-clause-fault : goal.returns-clause-fault
returns-clause-fault g c = hear_faults c.take.result c.args.self.now c.self.inside.core c.take.new.self (g.D.Disk.view c.args.disk.now) (g.D.Disk.view c.take.new.disk) c.args.message.now (Heard c.args.message.now) c.self.view_is in_time c.take.ensures.taken c.take.ensures.same c.take.ensures.fails c.take.ensures.fault c.args.self.now
