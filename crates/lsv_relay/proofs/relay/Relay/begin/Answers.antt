-- The connection begins by the parts.
use Rattle.std.proofs.Common.{subst, sym}
use Rattle.lsv_relay.specs.Value.{IsUnbegun, RelayView}
use Rattle.lsv_relay.proofs.Beginning.{begin_says, begin_why, begun_few, begun_open}
use Rattle.lsv_relay.proofs.relay.Relay.begin.Goals as goal

pub start-requires-clause-unbegun : goal.start-requires-clause-unbegun
start-requires-clause-unbegun g c = subst (λ (r : RelayView). IsUnbegun r.at) (sym c.self.view_is) c.requires.unbegun

pub returns-clause-talks : goal.returns-clause-talks
returns-clause-talks g c told =
    begin_says g.D.Disk.view c.start.result c.args.self.now c.self.inside.core c.start.new.self (g.D.Disk.view c.args.disk.now) (g.D.Disk.view c.start.new.disk) c.self.view_is c.requires.unbegun c.start.ensures.same.0 c.start.ensures.same.1
    (c.start.ensures.reads told) c.start.ensures.sends (c.start.ensures.started told)

pub returns-clause-opened : goal.returns-clause-opened
returns-clause-opened g c = begun_open c.start.result c.start.new.self c.start.ensures.few c.start.ensures.sends

pub returns-clause-meter : goal.returns-clause-meter
returns-clause-meter g c = begun_few c.start.result c.start.new.self c.start.ensures.sends

pub returns-clause-why : goal.returns-clause-why
returns-clause-why g c told =
    begin_why g.D.Disk.view c.start.result c.args.self.now c.self.inside.core (g.D.Disk.view c.args.disk.now) c.self.view_is c.requires.unbegun (c.start.ensures.why told)
