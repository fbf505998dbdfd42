-- A step of the parts is a step of the relay.
use Rattle.std.proofs.Common.{subst, sym}
use Rattle.lsv_relay.specs.Value.{IsStarted, RelayView}
use Rattle.lsv_relay.proofs.Beginning.{step_pieces, step_says, step_unwhole, step_why}
use Rattle.lsv_relay.proofs.relay.Relay.step.Goals as goal

pub answer-requires-clause-started : goal.answer-requires-clause-started
answer-requires-clause-started g c = subst (λ (r : RelayView). IsStarted r.at) (sym c.self.view_is) c.requires.started

pub returns-clause-talks : goal.returns-clause-talks
returns-clause-talks g c told =
    step_says g.D.Disk.view c.answer.result c.args.self.now c.self.inside.core c.answer.new.self (g.D.Disk.view c.args.disk.now) (g.D.Disk.view c.answer.new.disk) c.self.view_is c.requires.started c.answer.ensures.same.0 c.answer.ensures.same.1 c.answer.ensures.started
    (c.answer.ensures.reads told) (c.answer.ensures.answers told)

pub returns-clause-piece : goal.returns-clause-piece
returns-clause-piece g c told =
    step_pieces g.D.Disk.view c.answer.result c.args.self.now c.self.inside.core c.answer.new.self (g.D.Disk.view c.args.disk.now) (g.D.Disk.view c.answer.new.disk) c.self.view_is c.requires.started c.answer.ensures.same.0 c.answer.ensures.same.1
    (c.answer.ensures.reads told) (c.answer.ensures.answers told)

pub returns-clause-busy : goal.returns-clause-busy
returns-clause-busy g c whole = step_unwhole c.answer.result c.args.self.now c.self.inside.core c.answer.new.self c.self.view_is c.self.invariant c.answer.ensures.busy whole

pub returns-clause-why : goal.returns-clause-why
returns-clause-why g c told = step_why c.answer.result c.args.self.now c.self.inside.core (g.D.Disk.view c.args.disk.now) c.self.view_is (c.answer.ensures.why told) c.answer.ensures.fault
