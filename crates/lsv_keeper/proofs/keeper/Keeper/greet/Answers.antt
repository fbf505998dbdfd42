-- The connection comes into the state of one that was greeted.
use Rattle.std.proofs.Common.{arith}
use Rattle.lsv_request.specs.declared.request.Request.TheVariants as request
use Rattle.lsv_session.specs.declared.connection.ConnState.TheVariants.{Greeted}
use Rattle.lsv_keeper.specs.Value.{sessions_of}
use Rattle.lsv_keeper.specs.Views.{view_of}
use Rattle.lsv_keeper.proofs.Reporting.{greets_at, room_one}
use Rattle.lsv_keeper.proofs.Causes.{quiet_told}
use Rattle.lsv_keeper.proofs.SparingLemmas.{spares_none}
use Rattle.lsv_keeper.proofs.Syncing.{of_none}
use Rattle.lsv_keeper.specs.Syncing.{GoesOnWith}
use Rattle.lsv_keeper.proofs.keeper.Keeper.greet.Goals as goal

pub enter_state-requires-clause-stands : goal.enter_state-requires-clause-stands
enter_state-requires-clause-stands g c told = c.requires.stands told

pub enter_state-requires-clause-room : goal.enter_state-requires-clause-room
enter_state-requires-clause-room g c = let one = room_one ((sessions_of (view_of c.args.self.now)).states c.args.conn) Greeted in let enough = c.requires.room in omega (arith, one, enough)

pub returns : goal.returns
returns g c = record {
  done = λ now.
      let v = view_of c.args.self.now in
      let v' = view_of c.enter_state.new.self in
      let old = g.D.Disk.view c.args.disk.now in
      let new = g.D.Disk.view c.enter_state.new.disk in
      record {
        keeps = c.enter_state.ensures.frame.keeps;
        named = tt;
        row = λ told m job at e a.
            let d0 = c.args.disk.now in
            greets_at v v' old new c.args.conn m (record { reads_itself = g.met.D.Disk.reads_itself told d0; is_now = g.met.D.Disk.is_now told d0; only_now = g.met.D.Disk.only_now told d0 })
            at (c.enter_state.ensures.left told m at) job now e a;
        syncs = λ told m at. of_none (GoesOnWith request.Hello) v v' old new (c.enter_state.ensures.frame.syncs told m at);
        spared = λ told m at. spares_none v v' old new m at (c.enter_state.ensures.frame.syncs told m at);
        does = quiet_told (λ e. cc) c.enter_state.ensures.frame.does;
      };
}
