-- The log is claimed, since nobody owns it and there is room; the connection runs with it; and it is put among the open ones.
use Rattle.std.proofs.Common.{◌≡◌, ◌≤◌, ◌==◌, Some, if◌then◌else◌, refl, ap, arith, rules}
use Rattle.lsv_session.specs.Table.{Sessions, room_for, sessions, spare}
use Rattle.lsv_session.specs.declared.connection.ConnState.TheVariants.{Running}
use Rattle.lsv_keeper.proofs.Owning.{claimed, on_ok, owned_sessions}
use Rattle.lsv_keeper.proofs.keeper.Keeper.own.Goals as goal

pub returns : goal.returns
returns g c = record {
  keeps = search rules;
  owed = search rules;
  owns = λ free.
      let owner : sessions c.claim.new.self ≡ record (sessions c.args.self.now.table) { owner = λ i. if i == c.args.number then Some c.args.conn else (sessions c.args.self.now.table).owner i } =
      claimed _ c.claim.result c.claim.ensures.ok (λ k is. let q = (c.claim.ensures.in_use k).0 is in cc) (λ is. let q = c.claim.ensures.room is in omega (arith, c.requires.owners)) in
      let e = ap (λ (s : Sessions). room_for (s.states c.args.conn) (Running (Some c.args.number))) owner in
      let fits : room_for ((sessions c.claim.new.self).states c.args.conn) (Running (Some c.args.number)) ≤ spare c.claim.new.self = omega (arith, e, c.claim.ensures.states, c.requires.room) in
      record {
        sessions_are = owned_sessions (sessions c.args.self.now.table) (sessions c.claim.new.self) (sessions c.set.new.self) c.args.conn c.args.number owner (on_ok _ c.set.result (c.set.ensures.room fits) c.set.ensures.ok);
        logs_are = c.put.ensures;
        numbers = refl;
        events = refl;
        waiting = refl;
        noting = refl;
      };
}
