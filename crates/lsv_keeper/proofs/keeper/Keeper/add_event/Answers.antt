-- The line is added, and then the connection does what it is to do; or it is refused.
use Rattle.std.proofs.Common.{subst, ap}
use Rattle.lsv_event.specs.Lines.{line_of}
use Rattle.lsv_session.specs.declared.connection.ConnState.TheVariants.{Dead}
use Rattle.lsv_machine.specs.Work.{adds_line}
use Rattle.lsv_keeper.specs.declared.report.Next.{Next}
use Rattle.lsv_keeper.specs.Accepting.{EntersNoLog, IsEventOf}
use Rattle.lsv_keeper.specs.Value.{KeeperView, sessions_of, settings_of}
use Rattle.lsv_keeper.specs.Views.{view_of}
use Rattle.lsv_keeper.specs.Syncing.{NoLog}
use Rattle.lsv_keeper.proofs.Reporting.{ends_at, enters_at, keeps_left, refused_at, room_after, stays_at}
use Rattle.lsv_keeper.proofs.Syncing.{followed, line_quiet}
use Rattle.lsv_keeper.proofs.Causes.{does_as, refused_is, then_quiet}
use Rattle.std.specs.Prelude.{Result, Err}
use Rattle.lsv_request.specs.declared.refusal.Refusal.{Refusal}
use Rattle.lsv_keeper.proofs.keeper.Keeper.add_event.Goals as goal

abbrev err : {T : Type 0} → Refusal → Result T Refusal
err why = Err why

pub enter_state-requires-clause-stands : goal.enter_state-requires-clause-stands
enter_state-requires-clause-stands g c told = let s = c.requires.stands told in (s.0, (c.in-Err.ensures.refused told s.0 s.1).1)

pub enter_state-requires-clause-room : goal.enter_state-requires-clause-room
enter_state-requires-clause-room g c = room_after (view_of c.args.self.now) (view_of c.add_line.new.self) ((sessions_of (view_of c.add_line.new.self)).states c.args.conn) Dead c.add_line.ensures.frame.same c.requires.room

pub returns-in-Err : goal.returns-in-Err
returns-in-Err g c now what = record {
  frame = record {
    keeps = keeps_left (view_of c.args.self.now) (view_of c.add_line.new.self) (view_of c.enter_state.new.self) c.add_line.ensures.frame.keeps c.add_line.ensures.frame.same c.enter_state.ensures.frame.keeps c.enter_state.ensures.enters.shrinks;
    syncs = λ told m at.
        let v : KeeperView = view_of c.args.self.now in
        let v1 : KeeperView = view_of c.add_line.new.self in
        let d0 = g.D.Disk.view c.args.disk.now in
        let d1 = g.D.Disk.view c.add_line.new.disk in
        let line = line_quiet NoLog v v1 d0 d1 c.add_line.ensures.frame.same (c.add_line.ensures.frame.syncs told) in
        followed NoLog v v1 (view_of c.enter_state.new.self) d0 d1 (g.D.Disk.view c.enter_state.new.disk) line (c.enter_state.ensures.frame.syncs told m (c.in-Err.ensures.refused told m at).1);
    does = then_quiet (λ e. ap (λ (w : Refusal). err w) (refused_is c.in-Err.why e)) c.in-Err.ensures.frame.does c.enter_state.ensures.frame.does;
  };
  named = tt;
  row = λ told m job at e (a, is).
      let v : KeeperView = view_of c.args.self.now in
      let d0 = c.args.disk.now in
      let d1 = c.add_line.new.disk in
      let refused = c.in-Err.ensures.refused told m at in
      refused_at v (view_of c.add_line.new.self) (view_of c.enter_state.new.self) (g.D.Disk.view d0) (g.D.Disk.view d1) (g.D.Disk.view c.enter_state.new.disk) c.args.conn m (line_of v.kind c.args.event.now) c.args.next c.in-Err.why
      (record { reads_itself = g.met.D.Disk.reads_itself told d0; is_now = g.met.D.Disk.is_now told d0; only_now = g.met.D.Disk.only_now told d0 })
      (record { reads_itself = g.met.D.Disk.reads_itself told d1; is_now = g.met.D.Disk.is_now told d1; only_now = g.met.D.Disk.only_now told d1 })
      refused.1 c.add_line.ensures.frame.keeps refused.0 (c.add_line.ensures.frame.beside told m at) (c.enter_state.ensures.left told m refused.1) job now what e a is;
}

pub returns-in-Stays : goal.returns-in-Stays
returns-in-Stays g c now what = record {
  frame = record {
    keeps = c.add_line.ensures.frame.keeps;
    syncs = λ told m at.
        let v : KeeperView = view_of c.args.self.now in
        let v1 : KeeperView = view_of c.add_line.new.self in
        let d0 = g.D.Disk.view c.args.disk.now in
        let d1 = g.D.Disk.view c.add_line.new.disk in
        let line = line_quiet NoLog v v1 d0 d1 c.add_line.ensures.frame.same (c.add_line.ensures.frame.syncs told) in
        line;
    does = does_as (λ e. absurd (cc)) c.in_default.ensures.frame.does;
  };
  named = tt;
  row = λ told m job at e (a, is).
      let v : KeeperView = view_of c.args.self.now in
      let d0 = c.args.disk.now in
      let added = c.in_default.ensures.added told m at in
      stays_at v (view_of c.add_line.new.self) (g.D.Disk.view d0) (g.D.Disk.view c.add_line.new.disk) c.args.conn m (line_of v.kind c.args.event.now)
      (record { reads_itself = g.met.D.Disk.reads_itself told d0; is_now = g.met.D.Disk.is_now told d0; only_now = g.met.D.Disk.only_now told d0 })
      (c.add_line.ensures.frame.beside told m at) added.0 added.1 job now what e a
      (subst (λ (x : Next). IsEventOf (settings_of v) now c.args.conn (m.states c.args.conn) what (line_of v.kind c.args.event.now) x m) c.in-Stays.is is);
}

pub enter_state-requires-in-Enters-clause-stands : goal.enter_state-requires-in-Enters-clause-stands
enter_state-requires-in-Enters-clause-stands g c told = let s = c.requires.stands told in (adds_line c.args.conn (line_of (view_of c.args.self.now).kind c.args.event.now) s.0, (c.in_default.ensures.added told s.0 s.1).1)

pub enter_state-requires-in-Enters-clause-writes_none : goal.enter_state-requires-in-Enters-clause-writes_none
enter_state-requires-in-Enters-clause-writes_none g c = subst EntersNoLog c.in-Enters.is c.requires.writes_none

pub enter_state-requires-in-Enters-clause-room : goal.enter_state-requires-in-Enters-clause-room
enter_state-requires-in-Enters-clause-room g c = room_after (view_of c.args.self.now) (view_of c.add_line.new.self) ((sessions_of (view_of c.add_line.new.self)).states c.args.conn) c.in-Enters.state c.add_line.ensures.frame.same c.requires.room

pub returns-in-Enters : goal.returns-in-Enters
returns-in-Enters g c now what = record {
  frame = record {
    keeps = keeps_left (view_of c.args.self.now) (view_of c.add_line.new.self) (view_of c.enter_state-in-Enters.new.self) c.add_line.ensures.frame.keeps c.add_line.ensures.frame.same c.enter_state-in-Enters.ensures.frame.keeps c.enter_state-in-Enters.ensures.enters.shrinks;
    syncs = λ told m at.
        let v : KeeperView = view_of c.args.self.now in
        let v1 : KeeperView = view_of c.add_line.new.self in
        let d0 = g.D.Disk.view c.args.disk.now in
        let d1 = g.D.Disk.view c.add_line.new.disk in
        let line = line_quiet NoLog v v1 d0 d1 c.add_line.ensures.frame.same (c.add_line.ensures.frame.syncs told) in
        followed NoLog v v1 (view_of c.enter_state-in-Enters.new.self) d0 d1 (g.D.Disk.view c.enter_state-in-Enters.new.disk) line (c.enter_state-in-Enters.ensures.frame.syncs told (adds_line c.args.conn (line_of v.kind c.args.event.now) m) (c.in_default.ensures.added told m at).1);
    does = then_quiet (λ e. absurd (cc)) c.in_default.ensures.frame.does c.enter_state-in-Enters.ensures.frame.does;
  };
  named = tt;
  row = λ told m job at e (a, is).
      let v : KeeperView = view_of c.args.self.now in
      let d0 = c.args.disk.now in
      let added = c.in_default.ensures.added told m at in
      let line = line_of v.kind c.args.event.now in
      enters_at v (view_of c.add_line.new.self) (view_of c.enter_state-in-Enters.new.self) (g.D.Disk.view d0) (g.D.Disk.view c.add_line.new.disk) (g.D.Disk.view c.enter_state-in-Enters.new.disk) c.args.conn m line c.in-Enters.state
      (record { reads_itself = g.met.D.Disk.reads_itself told d0; is_now = g.met.D.Disk.is_now told d0; only_now = g.met.D.Disk.only_now told d0 })
      c.add_line.ensures.frame.keeps (c.add_line.ensures.frame.beside told m at) added.0 (c.enter_state-in-Enters.ensures.left told (adds_line c.args.conn line m) added.1) job now what e a
      (subst (λ (x : Next). IsEventOf (settings_of v) now c.args.conn (m.states c.args.conn) what line x m) c.in-Enters.is is);
}

pub enter_state-requires-in-Ends-clause-stands : goal.enter_state-requires-in-Ends-clause-stands
enter_state-requires-in-Ends-clause-stands g c told = let s = c.requires.stands told in (adds_line c.args.conn (line_of (view_of c.args.self.now).kind c.args.event.now) s.0, (c.in_default.ensures.added told s.0 s.1).1)

pub enter_state-requires-in-Ends-clause-room : goal.enter_state-requires-in-Ends-clause-room
enter_state-requires-in-Ends-clause-room g c = room_after (view_of c.args.self.now) (view_of c.add_line.new.self) ((sessions_of (view_of c.add_line.new.self)).states c.args.conn) Dead c.add_line.ensures.frame.same c.requires.room

pub returns-in-Ends : goal.returns-in-Ends
returns-in-Ends g c now what = record {
  frame = record {
    keeps = keeps_left (view_of c.args.self.now) (view_of c.add_line.new.self) (view_of c.enter_state-in-Ends.new.self) c.add_line.ensures.frame.keeps c.add_line.ensures.frame.same c.enter_state-in-Ends.ensures.frame.keeps c.enter_state-in-Ends.ensures.enters.shrinks;
    syncs = λ told m at.
        let v : KeeperView = view_of c.args.self.now in
        let v1 : KeeperView = view_of c.add_line.new.self in
        let d0 = g.D.Disk.view c.args.disk.now in
        let d1 = g.D.Disk.view c.add_line.new.disk in
        let line = line_quiet NoLog v v1 d0 d1 c.add_line.ensures.frame.same (c.add_line.ensures.frame.syncs told) in
        followed NoLog v v1 (view_of c.enter_state-in-Ends.new.self) d0 d1 (g.D.Disk.view c.enter_state-in-Ends.new.disk) line (c.enter_state-in-Ends.ensures.frame.syncs told (adds_line c.args.conn (line_of v.kind c.args.event.now) m) (c.in_default.ensures.added told m at).1);
    does = then_quiet (λ e. absurd (cc)) c.in_default.ensures.frame.does c.enter_state-in-Ends.ensures.frame.does;
  };
  named = tt;
  row = λ told m job at e (a, is).
      let v : KeeperView = view_of c.args.self.now in
      let d0 = c.args.disk.now in
      let added = c.in_default.ensures.added told m at in
      let line = line_of v.kind c.args.event.now in
      ends_at v (view_of c.add_line.new.self) (view_of c.enter_state-in-Ends.new.self) (g.D.Disk.view d0) (g.D.Disk.view c.add_line.new.disk) (g.D.Disk.view c.enter_state-in-Ends.new.disk) c.args.conn m line
      (record { reads_itself = g.met.D.Disk.reads_itself told d0; is_now = g.met.D.Disk.is_now told d0; only_now = g.met.D.Disk.only_now told d0 })
      c.add_line.ensures.frame.keeps (c.add_line.ensures.frame.beside told m at) added.0 (c.enter_state-in-Ends.ensures.left told (adds_line c.args.conn line m) added.1) job now what e a
      (subst (λ (x : Next). IsEventOf (settings_of v) now c.args.conn (m.states c.args.conn) what line x m) c.in-Ends.is is);
}
