use Rattle.std.proofs.Common.{refl}
use Rattle.lsv_worker.proofs.Linking.{link_paused}
use Rattle.lsv_worker.proofs.Ports.{risen_late}
use Rattle.lsv_worker.specs.Lanes.{lane_or_home}
use Rattle.lsv_worker.specs.declared.link.Blocked.TheVariants as blocks
use Rattle.lsv_worker.specs.declared.link.Link.{Link}
use Rattle.lsv_worker.proofs.Ruling.{remains_paused, remains_then}
use Rattle.lsv_worker.proofs.link.Link.finish_off.Goals as goal

pub returns-then-finish-clause-step : goal.returns-then-finish-clause-step
returns-then-finish-clause-step g c = λ port. link_paused c.args.phase c.args.self.now c.finish.new.self (record c.finish.new.self { blocked = blocks.InboxFull }) port port (g.I.Inbox.jobs c.args.inbox.now) (g.I.Inbox.jobs c.finish.new.inbox) refl (c.finish.ensures.step c.args.phase port c.requires.lets)

pub returns-then-finish-clause-reason : goal.returns-then-finish-clause-reason
returns-then-finish-clause-reason g c = λ before after counts le.
    let at = lane_or_home c.finish.new.self.incoming.route in
    risen_late (counts at) (g.I.Inbox.refused c.args.inbox.now at) (g.I.Inbox.refused c.finish.new.inbox at) (le at) (c.finish.ensures.full c.if-finish.true)

pub returns-clause-step : goal.returns-clause-step
returns-clause-step g c = λ port. link_paused c.args.phase c.args.self.now c.finish.new.self (record c.finish.new.self { blocked = blocks.No }) port port (g.I.Inbox.jobs c.args.inbox.now) (g.I.Inbox.jobs c.finish.new.inbox) refl (c.finish.ensures.step c.args.phase port c.requires.lets)

pub returns-then-finish-clause-remains : goal.returns-then-finish-clause-remains
returns-then-finish-clause-remains g c =
    let last : Link = record c.finish.new.self { blocked = blocks.InboxFull } in
    remains_then c.args.self.now c.finish.new.self last c.finish.ensures.remains (remains_paused c.finish.new.self blocks.InboxFull)

pub returns-clause-remains : goal.returns-clause-remains
returns-clause-remains g c =
    let last : Link = record c.finish.new.self { blocked = blocks.No } in
    remains_then c.args.self.now c.finish.new.self last c.finish.ensures.remains (remains_paused c.finish.new.self blocks.No)
