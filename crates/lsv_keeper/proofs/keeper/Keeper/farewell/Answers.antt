use Rattle.std.proofs.Common.{◌≡◌, arith, refl, subst, sym}
use Rattle.std.specs.Prelude.{false}
use Rattle.lsv_disk.specs.View.{DiskView}
use Rattle.lsv_session.specs.declared.connection.ConnId.{ConnId}
use Rattle.lsv_session.specs.declared.connection.ConnState.TheVariants.{Fresh}
use Rattle.lsv_machine.specs.Machine.{Machine, is_dead, without_conn}
use Rattle.lsv_keeper.specs.Rows.{Left}
use Rattle.lsv_keeper.specs.Value.{KeeperView, sessions_of}
use Rattle.lsv_keeper.specs.Views.{view_of}
use Rattle.lsv_keeper.specs.Syncing.{NoLog}
use Rattle.lsv_keeper.proofs.Departing.{forget_represents, keeps_forget, room_fresh}
use Rattle.lsv_keeper.proofs.Frames.{Laws}
use Rattle.lsv_keeper.proofs.Leaving.{farewell_row}
use Rattle.lsv_keeper.proofs.Syncing.{noted_else}
use Rattle.lsv_keeper.proofs.Causes.{forgotten_then}
use Rattle.lsv_keeper.proofs.keeper.Keeper.farewell.Goals as goal

pub enter_state-requires : goal.enter_state-requires
enter_state-requires g c = record {
  stands = λ told. let (m, at) = c.requires.stands told in (
    record m { noting = without_conn c.args.conn m.noting },
    forget_represents (view_of c.args.self.now) (g.D.Disk.view c.args.disk.now) m c.args.conn c.forget.new.conns.items c.forget.ensures at,
  );
  writes_none = refl;
  room = let x = room_fresh ((sessions_of (view_of c.args.self.now)).states c.args.conn) in omega arith;
}

pub returns-clause-done : goal.returns-clause-done
returns-clause-done g c now = record {
  frame = record {
    keeps = keeps_forget (view_of c.args.self.now) (view_of c.enter_state.new.self) c.args.conn c.forget.new.conns.items c.forget.ensures c.enter_state.ensures.frame.keeps;
    syncs = λ told m at.
        let v : KeeperView = view_of c.args.self.now in
        let old : DiskView = g.D.Disk.view c.args.disk.now in
        noted_else NoLog v (view_of c.enter_state.new.self) c.forget.new.conns.items old (g.D.Disk.view c.enter_state.new.disk)
        (c.enter_state.ensures.frame.syncs told (record m { noting = without_conn c.args.conn m.noting }) (forget_represents v old m c.args.conn c.forget.new.conns.items c.forget.ensures at));
    does = forgotten_then c.args.conn c.forget.new.conns.items c.forget.ensures c.enter_state.ensures.frame.does;
  };
  named = tt;
  row = λ told m job at is (gone, alive).
      let old : DiskView = g.D.Disk.view c.args.disk.now in
      let new : DiskView = g.D.Disk.view c.enter_state.new.disk in
      let laws : Laws old = record { reads_itself = g.met.D.Disk.reads_itself told c.args.disk.now; is_now = g.met.D.Disk.is_now told c.args.disk.now; only_now = g.met.D.Disk.only_now told c.args.disk.now } in
      let v : KeeperView = view_of c.args.self.now in
      let mid : Machine = record m { noting = without_conn c.args.conn m.noting } in
      farewell_row v (view_of c.enter_state.new.self) c.forget.new.conns.items now job m old new laws at
      (subst (λ (k : ConnId). is_dead (m.states k) ≡ false) (sym is) alive) gone
      (subst (λ (k : ConnId). Left k Fresh (record v { noting = c.forget.new.conns.items }) (record m { noting = without_conn k m.noting }) (view_of c.enter_state.new.self) old new) (sym is)
      (c.enter_state.ensures.left told mid (forget_represents v old m c.args.conn c.forget.new.conns.items c.forget.ensures at)));
}
