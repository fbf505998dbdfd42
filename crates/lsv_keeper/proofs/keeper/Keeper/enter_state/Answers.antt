use Rattle.std.proofs.Common.{◌≡◌, ◌∙◌, Some, ap, refl, sym, None, arith}
use Rattle.lsv_disk.specs.View.{DiskView}
use Rattle.lsv_machine.specs.Machine.{log_of}
use Rattle.lsv_keeper.specs.Views.{view_of}
use Rattle.lsv_keeper.specs.Syncing.{NoLog}
use Rattle.lsv_keeper.proofs.Departing.{departs_fewer, departs_keeps, departs_owed, left_none, not_closed, set_departs, set_states, took_out, room_one}
use Rattle.lsv_keeper.proofs.Frames.{Laws}
use Rattle.lsv_keeper.proofs.Syncing.{stays_out}
use Rattle.lsv_keeper.proofs.Causes.{at_each, departs_goes, does_set, still, taken_then}
use Rattle.lsv_keeper.specs.Logs.{open_logs, with_open}
use Rattle.lsv_keeper.proofs.ExitEnds.{keeps_from}
use Rattle.lsv_keeper.specs.Value.{sessions_of}
use Rattle.lsv_keeper.proofs.keeper.Keeper.enter_state.Goals as goal

pub let_go-requires-clause-taken_out : goal.let_go-requires-clause-taken_out
let_go-requires-clause-taken_out g c told = let (m, at) = c.requires.stands told in (
  view_of c.args.self.now,
  m,
  took_out (view_of c.args.self.now) _ c.in-Some.log c.in-Some-take.its c.take.result (record { lane = refl; lanes = refl; log_exit = refl; kind = refl; texts = refl; numbers = refl; events = refl; noting = refl }) refl refl
      c.take.ensures.taken c.take.ensures.rest c.in-Some-take.is,
  at,
)

pub returns-in-Some-take : goal.returns-in-Some-take
returns-in-Some-take g c = record {
  frame = record {
    keeps = keeps_from (view_of c.args.self.now) (view_of c.let_go.new.self) c.take.new.self c.let_go.ensures.gone.keeps;
    syncs = λ told m at.
        c.let_go.ensures.gone.syncs told (view_of c.args.self.now) m
        (took_out (view_of c.args.self.now) _ c.in-Some.log c.in-Some-take.its c.take.result (record { lane = refl; lanes = refl; log_exit = refl; kind = refl; texts = refl; numbers = refl; events = refl; noting = refl }) refl refl
        c.take.ensures.taken c.take.ensures.rest c.in-Some-take.is)
        at (ap log_of (at.states c.args.conn ∙ sym c.state.ensures) ∙ sym c.log_of.ensures ∙ c.in-Some.is);
    does =
        taken_then c.in-Some.log c.take.new.self (λ all none. absurd none) (at_each (open_logs c.take.new.self) (with_open c.in-Some.log None (open_logs c.args.self.now.logs)) c.take.ensures.rest) (c.let_go.ensures.gone.does (ap log_of (sym c.state.ensures) ∙ sym c.log_of.ensures ∙ c.in-Some.is));
  };
  enters = record {
    states = c.let_go.ensures.enters.states;
    shrinks = c.let_go.ensures.enters.shrinks;
    noting = c.let_go.ensures.enters.noting;
    fewer = c.let_go.ensures.enters.fewer;
  };
  left = λ told m at.
      c.let_go.ensures.gone.left told (view_of c.args.self.now) m
      (took_out (view_of c.args.self.now) _ c.in-Some.log c.in-Some-take.its c.take.result (record { lane = refl; lanes = refl; log_exit = refl; kind = refl; texts = refl; numbers = refl; events = refl; noting = refl }) refl refl
      c.take.ensures.taken c.take.ensures.rest c.in-Some-take.is)
      at (ap log_of (at.states c.args.conn ∙ sym c.state.ensures) ∙ sym c.log_of.ensures ∙ c.in-Some.is);
}

pub returns-in-None-take : goal.returns-in-None-take
returns-in-None-take g c = record {
  frame = record {
    keeps =
        let k = departs_keeps (Some c.in-Some.log) c.args.conn c.args.state _ (view_of c.release.new.self) c.release.ensures.departs c.release.ensures.room in
        record { lane = k.lane; lanes = k.lanes; log_exit = k.log_exit; kind = k.kind; texts = k.texts; room_is = k.room_is; owed = k.owed };
    syncs = λ told m at.
        let is : log_of (m.states c.args.conn) ≡ Some c.in-Some.log = ap log_of (at.states c.args.conn ∙ sym c.state.ensures) ∙ sym c.log_of.ensures ∙ c.in-Some.is in
        absurd (not_closed (view_of c.args.self.now) (g.D.Disk.view c.args.disk.now) m c.in-Some.log c.args.conn at (at.sound.owned c.args.conn c.in-Some.log is) (sym c.take.ensures.taken ∙ c.in-None-take.is));
    does =
        taken_then c.in-Some.log c.take.new.self (λ all none. absurd none) (at_each (open_logs c.take.new.self) (with_open c.in-Some.log None (open_logs c.args.self.now.logs)) c.take.ensures.rest)
        (departs_goes c.in-Some.log c.args.conn c.args.state _ (view_of c.release.new.self) (g.D.Disk.view c.args.disk.now) (g.D.Disk.view c.args.disk.now) c.requires.writes_none c.release.ensures.departs c.release.ensures.logs
        (λ linked. linked c.args.conn c.in-Some.log (ap log_of (sym c.state.ensures) ∙ sym c.log_of.ensures ∙ c.in-Some.is)) (still (g.D.Disk.view c.args.disk.now)));
  };
  enters = record {
    states = λ t j. c.release.ensures.departs.states j t;
    shrinks = departs_owed (Some c.in-Some.log) c.args.conn c.args.state _ (view_of c.release.new.self) c.release.ensures.departs;
    noting = c.release.ensures.departs.beside.noting;
    fewer = departs_fewer (Some c.in-Some.log) c.args.conn c.args.state _ (view_of c.release.new.self) c.release.ensures.departs;
  };
  left = λ told m at.
      let is : log_of (m.states c.args.conn) ≡ Some c.in-Some.log = ap log_of (at.states c.args.conn ∙ sym c.state.ensures) ∙ sym c.log_of.ensures ∙ c.in-Some.is in
      absurd (not_closed (view_of c.args.self.now) (g.D.Disk.view c.args.disk.now) m c.in-Some.log c.args.conn at (at.sound.owned c.args.conn c.in-Some.log is) (sym c.take.ensures.taken ∙ c.in-None-take.is));
}

pub returns-in-None : goal.returns-in-None
returns-in-None g c = record {
  frame = record {
    keeps = record { lane = refl; lanes = refl; log_exit = refl; kind = refl; texts = refl; room_is = let s = c.set.ensures.spare in let r = room_one ((sessions_of (view_of c.args.self.now)).states c.args.conn) c.args.state in omega (arith, s, r); owed = omega arith };
    syncs = λ told m at.
        stays_out NoLog (view_of c.args.self.now) _ c.args.conn c.args.state (g.D.Disk.view c.args.disk.now)
        (set_departs c.set.result (view_of c.args.self.now) _ c.args.conn c.args.state (record { lane = refl; lanes = refl; log_exit = refl; kind = refl; texts = refl; numbers = refl; events = refl; noting = refl }) refl
        c.set.ensures.ok c.set.ensures.room c.requires.room);
    does =
        does_set c.args.conn c.args.state c.requires.writes_none
        (set_departs c.set.result (view_of c.args.self.now) _ c.args.conn c.args.state (record { lane = refl; lanes = refl; log_exit = refl; kind = refl; texts = refl; numbers = refl; events = refl; noting = refl }) refl
        c.set.ensures.ok c.set.ensures.room c.requires.room)
        refl (still (g.D.Disk.view c.args.disk.now));
  };
  enters = record {
    states = set_states c.set.result c.args.self.now.table c.set.new.self c.args.conn c.args.state c.set.ensures.ok c.set.ensures.room c.requires.room;
    shrinks = omega arith;
    noting = refl;
    fewer = omega arith;
  };
  left = λ told m at.
      let disk : DiskView = g.D.Disk.view c.args.disk.now in
      let laws : Laws disk = record { reads_itself = g.met.D.Disk.reads_itself told c.args.disk.now; is_now = g.met.D.Disk.is_now told c.args.disk.now; only_now = g.met.D.Disk.only_now told c.args.disk.now } in
      left_none (view_of c.args.self.now) _ disk m c.args.conn c.args.state laws at (ap log_of (at.states c.args.conn ∙ sym c.state.ensures) ∙ sym c.log_of.ensures ∙ c.in-None.is) c.requires.writes_none
      (set_departs c.set.result (view_of c.args.self.now) _ c.args.conn c.args.state (record { lane = refl; lanes = refl; log_exit = refl; kind = refl; texts = refl; numbers = refl; events = refl; noting = refl }) refl
      c.set.ensures.ok c.set.ensures.room c.requires.room)
      (λ n. refl);
}
