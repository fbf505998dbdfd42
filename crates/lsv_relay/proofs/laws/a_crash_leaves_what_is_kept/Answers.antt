use Rattle.std.proofs.Common.{◌≡◌, ap, subst}
use Rattle.lsv_relay.proofs.Running.{leaves_at, not_done_at, opened_talks}
use Rattle.lsv_relay.proofs.Taking.{now_durable}
use Rattle.lsv_relay.specs.Value.{RelayView, aim_of, state_of}
use Rattle.lsv_relay.proofs.laws.a_crash_leaves_what_is_kept.Goals as goal

pub returns-clause-leaves : goal.returns-clause-leaves
returns-clause-leaves g c whole undone stands =
    now_durable c.args.relay.now.keeping.number c.args.relay.now.number (aim_of c.args.relay.now) (state_of c.args.relay.now) (g.D.Disk.view c.args.disk.now) (subst (λ (r : RelayView). r.keeping.number ≡ r.number) c.relay.view_is c.relay.invariant.number)
    (leaves_at c.relay.inside.core.keeping c.args.relay.now (g.D.Disk.view c.args.disk.now) (ap (λ (r : RelayView). r.keeping) c.relay.view_is) c.a_crash_leaves_what_stands.ensures whole (not_done_at c.args.relay.now undone) stands)

pub returns-clause-begins : goal.returns-clause-begins
returns-clause-begins g c told whole undone unbegun stands =
    opened_talks c.args.relay.now (g.D.Disk.view c.args.disk.now) unbegun whole (subst (λ (r : RelayView). r.keeping.number ≡ r.number) c.relay.view_is c.relay.invariant.number) (g.met.D.Disk.only_now told c.args.disk.now) stands
    (leaves_at c.relay.inside.core.keeping c.args.relay.now (g.D.Disk.view c.args.disk.now) (ap (λ (r : RelayView). r.keeping) c.relay.view_is) c.a_crash_leaves_what_stands.ensures whole (not_done_at c.args.relay.now undone) stands)
