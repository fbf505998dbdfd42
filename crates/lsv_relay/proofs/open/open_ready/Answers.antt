use Rattle.lsv_relay.proofs.Opening.{keeps_at, ready_before}
use Rattle.lsv_relay.proofs.open.open_ready.Goals as goal

pub returns-in_err-ready-clause-any_moment : goal.returns-in_err-ready-clause-any_moment
returns-in_err-ready-clause-any_moment g c told = ready_before c.args.number c.in_ok-keeping.keeping.number (g.D.Disk.view c.args.disk.now) (g.D.Disk.view c.open.new.disk) (g.D.Disk.view c.ready.new.disk) c.in_ok-keeping.ensures.number (g.met.D.Disk.is_now told c.open.new.disk) (c.open.ensures.any_moment told) (c.ready.ensures.any_moment told c.in_ok-keeping.ensures.whole)

pub returns-clause-any_moment : goal.returns-clause-any_moment
returns-clause-any_moment g c told = ready_before c.args.number c.in_ok-keeping.keeping.number (g.D.Disk.view c.args.disk.now) (g.D.Disk.view c.open.new.disk) (g.D.Disk.view c.ready.new.disk) c.in_ok-keeping.ensures.number (g.met.D.Disk.is_now told c.open.new.disk) (c.open.ensures.any_moment told) (c.ready.ensures.any_moment told c.in_ok-keeping.ensures.whole)

pub returns-in_err-ready-clause-same : goal.returns-in_err-ready-clause-same
returns-in_err-ready-clause-same g c told = λ any state keeps. keeps_at c.in_ok-keeping.keeping.number c.args.number any (g.D.Disk.view c.open.new.disk) (g.D.Disk.view c.ready.new.disk) c.in_ok-keeping.ensures.number (c.ready.ensures.reads told c.in_ok-keeping.ensures.whole) any state (c.open.ensures.same told any state keeps)

pub returns-clause-same : goal.returns-clause-same
returns-clause-same g c told = λ any state keeps. keeps_at c.in_ok-keeping.keeping.number c.args.number any (g.D.Disk.view c.open.new.disk) (g.D.Disk.view c.ready.new.disk) c.in_ok-keeping.ensures.number (c.ready.ensures.reads told c.in_ok-keeping.ensures.whole) any state (c.open.ensures.same told any state keeps)
