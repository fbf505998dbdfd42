use Rattle.std.proofs.Common.{refl, sym, ◌∙◌, arith}
use Rattle.lsv_worker.specs.declared.link.Blocked.TheVariants as blocks
use Rattle.lsv_worker.proofs.Linking.{link_paused, link_same, link_then}
use Rattle.lsv_worker.specs.declared.link.Link.{Link}
use Rattle.lsv_worker.proofs.FrameLemmas.{inbox_here, inbox_then, port_here}
use Rattle.lsv_worker.proofs.Ruling.{read_never, read_then, reads_here, reads_more, reads_paused, remains_paused, remains_then}
use Rattle.lsv_worker.proofs.Owning.{own_next, own_none}
use Rattle.lsv_worker.proofs.link.Link.receive.Goals as goal

pub returns-in-Going-clause-step : goal.returns-in-Going-clause-step
returns-in-Going-clause-step g c = λ told.
    link_paused c.args.phase c.args.self.now c.read_on-self.new.self (record c.read_on-self.new.self { blocked = c.read_on-self.result }) (g.P.Port.state c.args.port.now) (g.P.Port.state c.read_on-self.new.port) (g.I.Inbox.jobs c.args.inbox.now) (g.I.Inbox.jobs c.read_on-self.new.inbox) refl (c.read_on-self.ensures.step told)

pub returns-else-not-self-clause-step : goal.returns-else-not-self-clause-step
returns-else-not-self-clause-step g c = λ told.
    link_paused c.args.phase c.args.self.now c.read_on-self-in-Stopping.new.self (record c.read_on-self-in-Stopping.new.self { blocked = c.read_on-self-in-Stopping.result }) (g.P.Port.state c.args.port.now) (g.P.Port.state c.read_on-self-in-Stopping.new.port) (g.I.Inbox.jobs c.args.inbox.now) (g.I.Inbox.jobs c.read_on-self-in-Stopping.new.inbox) refl (c.read_on-self-in-Stopping.ensures.step told)

pub returns-then-not-self-clause-step : goal.returns-then-not-self-clause-step
returns-then-not-self-clause-step g c = λ told.
    link_then c.args.phase c.args.self.now (record c.read_on-self-in-Stopping.new.self { blocked = c.read_on-self-in-Stopping.result }) c.finish_off.new.self (g.P.Port.state c.args.port.now) (g.P.Port.state c.read_on-self-in-Stopping.new.port) (g.P.Port.state c.read_on-self-in-Stopping.new.port) (g.I.Inbox.jobs c.args.inbox.now) (g.I.Inbox.jobs c.read_on-self-in-Stopping.new.inbox) (g.I.Inbox.jobs c.finish_off.new.inbox)
    (link_paused c.args.phase c.args.self.now c.read_on-self-in-Stopping.new.self (record c.read_on-self-in-Stopping.new.self { blocked = c.read_on-self-in-Stopping.result }) (g.P.Port.state c.args.port.now) (g.P.Port.state c.read_on-self-in-Stopping.new.port) (g.I.Inbox.jobs c.args.inbox.now) (g.I.Inbox.jobs c.read_on-self-in-Stopping.new.inbox) refl (c.read_on-self-in-Stopping.ensures.step told))
    (c.finish_off.ensures.step (g.P.Port.state c.read_on-self-in-Stopping.new.port))

pub returns-in-Failed-clause-step : goal.returns-in-Failed-clause-step
returns-in-Failed-clause-step g c = λ told. c.finish_off-in-Failed.ensures.step (g.P.Port.state c.args.port.now)

pub returns-in-Stopped-clause-step : goal.returns-in-Stopped-clause-step
returns-in-Stopped-clause-step g c = λ told.
    link_paused c.args.phase c.args.self.now c.args.self.now (record c.args.self.now { blocked = blocks.No }) (g.P.Port.state c.args.port.now) (g.P.Port.state c.args.port.now) (g.I.Inbox.jobs c.args.inbox.now) (g.I.Inbox.jobs c.args.inbox.now) refl (link_same c.args.phase c.args.self.now (g.P.Port.state c.args.port.now) (g.I.Inbox.jobs c.args.inbox.now))

pub returns-in-Going-clause-reads : goal.returns-in-Going-clause-reads
returns-in-Going-clause-reads g c = λ told.
    reads_paused c.args.phase c.args.self.now c.read_on-self.new.self c.read_on-self.result ((g.P.Port.state c.args.port.now).link c.args.self.now.number) ((g.P.Port.state c.read_on-self.new.port).link c.args.self.now.number) (c.read_on-self.ensures.reads told)

pub returns-else-not-self-clause-reads : goal.returns-else-not-self-clause-reads
returns-else-not-self-clause-reads g c = λ told.
    reads_paused c.args.phase c.args.self.now c.read_on-self-in-Stopping.new.self c.read_on-self-in-Stopping.result ((g.P.Port.state c.args.port.now).link c.args.self.now.number) ((g.P.Port.state c.read_on-self-in-Stopping.new.port).link c.args.self.now.number) (c.read_on-self-in-Stopping.ensures.reads told)

pub returns-then-not-self-clause-reads : goal.returns-then-not-self-clause-reads
returns-then-not-self-clause-reads g c = λ told.
    let mid : Link = record c.read_on-self-in-Stopping.new.self { blocked = c.read_on-self-in-Stopping.result } in
    reads_more c.args.phase c.args.self.now mid c.finish_off.new.self ((g.P.Port.state c.args.port.now).link c.args.self.now.number) ((g.P.Port.state c.read_on-self-in-Stopping.new.port).link c.args.self.now.number)
    (reads_paused c.args.phase c.args.self.now c.read_on-self-in-Stopping.new.self c.read_on-self-in-Stopping.result ((g.P.Port.state c.args.port.now).link c.args.self.now.number) ((g.P.Port.state c.read_on-self-in-Stopping.new.port).link c.args.self.now.number) (c.read_on-self-in-Stopping.ensures.reads told))
    c.finish_off.ensures.remains c.finish_off.ensures.sides.outgoing c.finish_off.ensures.sides.live

pub returns-in-Failed-clause-reads : goal.returns-in-Failed-clause-reads
returns-in-Failed-clause-reads g c = λ told.
    reads_more c.args.phase c.args.self.now c.args.self.now c.finish_off-in-Failed.new.self ((g.P.Port.state c.args.port.now).link c.args.self.now.number) ((g.P.Port.state c.args.port.now).link c.args.self.now.number)
    (reads_here c.args.phase c.args.self.now ((g.P.Port.state c.args.port.now).link c.args.self.now.number)) c.finish_off-in-Failed.ensures.remains c.finish_off-in-Failed.ensures.sides.outgoing c.finish_off-in-Failed.ensures.sides.live

pub returns-in-Stopped-clause-reads : goal.returns-in-Stopped-clause-reads
returns-in-Stopped-clause-reads g c = λ told.
    reads_paused c.args.phase c.args.self.now c.args.self.now blocks.No ((g.P.Port.state c.args.port.now).link c.args.self.now.number) ((g.P.Port.state c.args.port.now).link c.args.self.now.number) (reads_here c.args.phase c.args.self.now ((g.P.Port.state c.args.port.now).link c.args.self.now.number))

pub returns-in-Going-clause-remains : goal.returns-in-Going-clause-remains
returns-in-Going-clause-remains g c = remains_then c.args.self.now c.read_on-self.new.self (record c.read_on-self.new.self { blocked = c.read_on-self.result }) c.read_on-self.ensures.remains (remains_paused c.read_on-self.new.self c.read_on-self.result)

pub returns-else-not-self-clause-remains : goal.returns-else-not-self-clause-remains
returns-else-not-self-clause-remains g c =
    remains_then c.args.self.now c.read_on-self-in-Stopping.new.self (record c.read_on-self-in-Stopping.new.self { blocked = c.read_on-self-in-Stopping.result }) c.read_on-self-in-Stopping.ensures.remains (remains_paused c.read_on-self-in-Stopping.new.self c.read_on-self-in-Stopping.result)

pub returns-then-not-self-clause-remains : goal.returns-then-not-self-clause-remains
returns-then-not-self-clause-remains g c =
    let mid : Link = record c.read_on-self-in-Stopping.new.self { blocked = c.read_on-self-in-Stopping.result } in
    remains_then c.args.self.now mid c.finish_off.new.self
    (remains_then c.args.self.now c.read_on-self-in-Stopping.new.self mid c.read_on-self-in-Stopping.ensures.remains (remains_paused c.read_on-self-in-Stopping.new.self c.read_on-self-in-Stopping.result)) c.finish_off.ensures.remains

pub returns-in-Stopped-clause-remains : goal.returns-in-Stopped-clause-remains
returns-in-Stopped-clause-remains g c = remains_paused c.args.self.now blocks.No

pub returns-in-Going-clause-limits : goal.returns-in-Going-clause-limits
returns-in-Going-clause-limits g c = λ told. read_then c.args.phase c.read_on-self.new.self (record c.read_on-self.new.self { blocked = c.read_on-self.result }) ((g.P.Port.state c.args.port.now).link c.args.self.now.number) ((g.P.Port.state c.read_on-self.new.port).link c.args.self.now.number) refl (c.read_on-self.ensures.limits told)

pub returns-else-not-self-clause-limits : goal.returns-else-not-self-clause-limits
returns-else-not-self-clause-limits g c = λ told. read_then c.args.phase c.read_on-self-in-Stopping.new.self (record c.read_on-self-in-Stopping.new.self { blocked = c.read_on-self-in-Stopping.result }) ((g.P.Port.state c.args.port.now).link c.args.self.now.number) ((g.P.Port.state c.read_on-self-in-Stopping.new.port).link c.args.self.now.number) refl (c.read_on-self-in-Stopping.ensures.limits told)

pub returns-then-not-self-clause-limits : goal.returns-then-not-self-clause-limits
returns-then-not-self-clause-limits g c = λ told.
    read_then c.args.phase (record c.read_on-self-in-Stopping.new.self { blocked = c.read_on-self-in-Stopping.result }) c.finish_off.new.self ((g.P.Port.state c.args.port.now).link c.args.self.now.number) ((g.P.Port.state c.read_on-self-in-Stopping.new.port).link c.args.self.now.number) c.finish_off.ensures.sides.outgoing
    (read_then c.args.phase c.read_on-self-in-Stopping.new.self (record c.read_on-self-in-Stopping.new.self { blocked = c.read_on-self-in-Stopping.result }) ((g.P.Port.state c.args.port.now).link c.args.self.now.number) ((g.P.Port.state c.read_on-self-in-Stopping.new.port).link c.args.self.now.number) refl (c.read_on-self-in-Stopping.ensures.limits told))

pub returns-in-Failed-clause-limits : goal.returns-in-Failed-clause-limits
returns-in-Failed-clause-limits g c = λ told. read_never c.args.phase c.finish_off-in-Failed.new.self ((g.P.Port.state c.args.port.now).link c.args.self.now.number) ((g.P.Port.state c.args.port.now).link c.args.self.now.number) refl

pub returns-in-Stopped-clause-limits : goal.returns-in-Stopped-clause-limits
returns-in-Stopped-clause-limits g c = λ told. read_never c.args.phase (record c.args.self.now { blocked = blocks.No }) ((g.P.Port.state c.args.port.now).link c.args.self.now.number) ((g.P.Port.state c.args.port.now).link c.args.self.now.number) refl

pub returns-then-not-self-clause-keeps : goal.returns-then-not-self-clause-keeps
returns-then-not-self-clause-keeps g c = record { port = c.read_on-self-in-Stopping.ensures.keeps.port; inbox = inbox_then g.met.I.Inbox.same_through c.read_on-self-in-Stopping.ensures.keeps.inbox c.finish_off.ensures.inbox }

pub returns-in-Failed-clause-keeps : goal.returns-in-Failed-clause-keeps
returns-in-Failed-clause-keeps g c = record { port = port_here g.P.Port.tells g.P.Port.state g.P.Port.ledger c.args.port.now; inbox = c.finish_off-in-Failed.ensures.inbox }

pub returns-in-Stopped-clause-keeps : goal.returns-in-Stopped-clause-keeps
returns-in-Stopped-clause-keeps g c = record { port = port_here g.P.Port.tells g.P.Port.state g.P.Port.ledger c.args.port.now; inbox = inbox_here g.I.Inbox.lanes g.I.Inbox.refused g.I.Inbox.is_same c.args.inbox.now (g.met.I.Inbox.same_here c.args.inbox.now) }

pub finish_off-requires-clause-lanes : goal.finish_off-requires-clause-lanes
finish_off-requires-clause-lanes g c = c.read_on-self-in-Stopping.ensures.keeps.inbox.lanes_stay ∙ c.requires.lanes ∙ sym c.read_on-self-in-Stopping.ensures.remains.lanes

pub returns-then-not-self-clause-reason : goal.returns-then-not-self-clause-reason
returns-then-not-self-clause-reason g c = λ told. c.finish_off.ensures.reason ((g.P.Port.state c.args.port.now).link c.args.self.now.number) ((g.P.Port.state c.read_on-self-in-Stopping.new.port).link c.args.self.now.number) (g.I.Inbox.refused c.args.inbox.now) c.read_on-self-in-Stopping.ensures.keeps.inbox.counts

pub returns-in-Failed-clause-reason : goal.returns-in-Failed-clause-reason
returns-in-Failed-clause-reason g c = λ told. c.finish_off-in-Failed.ensures.reason ((g.P.Port.state c.args.port.now).link c.args.self.now.number) ((g.P.Port.state c.args.port.now).link c.args.self.now.number) (g.I.Inbox.refused c.args.inbox.now) (λ m. omega arith)

pub returns-then-not-self-clause-own : goal.returns-then-not-self-clause-own
returns-then-not-self-clause-own g c = own_next c.args.self.now.conn c.read_on-self-in-Stopping.new.self.conn c.read_on-self-in-Stopping.ensures.remains.conn c.read_on-self-in-Stopping.ensures.own c.finish_off.ensures.own

pub returns-in-Stopped-clause-own : goal.returns-in-Stopped-clause-own
returns-in-Stopped-clause-own g c = own_none c.args.self.now.conn.worker (g.I.Inbox.jobs c.args.inbox.now)
