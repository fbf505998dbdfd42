use Rattle.std.proofs.Common.{◌≡◌, ◌∙◌, arith, refl, subst, sym, ap}
use Rattle.std.specs.Prelude.{false, Result, Err}
use Rattle.lsv_disk.specs.View.{DiskView}
use Rattle.lsv_request.specs.declared.request.Request.TheVariants as request
use Rattle.lsv_session.specs.declared.connection.ConnState.TheVariants.{Dead}
use Rattle.lsv_session.specs.declared.job.Job.{Job}
use Rattle.lsv_machine.specs.Machine.{is_dead, leaves}
use Rattle.lsv_keeper.specs.Rows.{RowGives}
use Rattle.lsv_keeper.specs.Value.{KeeperView, sessions_of}
use Rattle.lsv_keeper.specs.Views.{view_of}
use Rattle.lsv_keeper.specs.declared.outcome.Outcome.TheVariants as outcome
use Rattle.lsv_keeper.specs.Syncing.{NoLog}
use Rattle.lsv_keeper.proofs.Departing.{room_one}
use Rattle.lsv_keeper.proofs.ExitEnds.{keeps_line, session_refused, session_stands, session_told, set_by}
use Rattle.lsv_keeper.proofs.Frames.{Laws}
use Rattle.lsv_keeper.proofs.Requests.{asks_alive}
use Rattle.lsv_keeper.proofs.Syncing.{followed, line_quiet}
use Rattle.lsv_keeper.proofs.Causes.{does_needs, quiet_then, refused_is}
use Rattle.lsv_request.specs.declared.refusal.Refusal.{Refusal}
use Rattle.lsv_keeper.proofs.keeper.Keeper.end_session.Goals as goal

abbrev err : {T : Type 0} → Refusal → Result T Refusal
err why = Err why

pub enter_state-requires : goal.enter_state-requires
enter_state-requires g c = record {
  stands = c.requires.stands;
  writes_none = refl;
  room = let x = room_one ((sessions_of (view_of c.args.self.now)).states c.args.conn) Dead in let y = c.requires.room in omega arith;
}

pub returns-in-Ok : goal.returns-in-Ok
returns-in-Ok g c = record {
  frame = record {
    keeps = keeps_line (view_of c.args.self.now) (view_of c.enter_state.new.self) (view_of c.exit_line.new.self) c.enter_state.ensures.frame.keeps c.enter_state.ensures.enters.shrinks c.exit_line.ensures.frame.keeps c.exit_line.ensures.frame.same;
    syncs = λ told m at.
        followed NoLog (view_of c.args.self.now) (view_of c.enter_state.new.self) (view_of c.exit_line.new.self) (g.D.Disk.view c.args.disk.now) (g.D.Disk.view c.enter_state.new.disk) (g.D.Disk.view c.exit_line.new.disk)
        (c.enter_state.ensures.frame.syncs told m at) (line_quiet NoLog (view_of c.enter_state.new.self) (view_of c.exit_line.new.self) (g.D.Disk.view c.enter_state.new.disk) (g.D.Disk.view c.exit_line.new.disk) c.exit_line.ensures.frame.same (c.exit_line.ensures.frame.syncs told));
    does = quiet_then (λ e. absurd (cc)) c.enter_state.ensures.frame.does (does_needs (λ e. sym c.enter_state.ensures.frame.keeps.log_exit ∙ e) c.in-Ok.ensures.frame.does);
  };
  named = tt;
  row = λ told_is m job at is (none, asks).
      let v : KeeperView = view_of c.args.self.now in
      let v1 : KeeperView = view_of c.enter_state.new.self in
      let v2 : KeeperView = view_of c.exit_line.new.self in
      let d0 : DiskView = g.D.Disk.view c.args.disk.now in
      let d1 : DiskView = g.D.Disk.view c.enter_state.new.disk in
      let d2 : DiskView = g.D.Disk.view c.exit_line.new.disk in
      let laws : Laws d0 = record { reads_itself = g.met.D.Disk.reads_itself told_is c.args.disk.now; is_now = g.met.D.Disk.is_now told_is c.args.disk.now; only_now = g.met.D.Disk.only_now told_is c.args.disk.now } in
      let laws' : Laws d1 = record { reads_itself = g.met.D.Disk.reads_itself told_is c.enter_state.new.disk; is_now = g.met.D.Disk.is_now told_is c.enter_state.new.disk; only_now = g.met.D.Disk.only_now told_is c.enter_state.new.disk } in
      let its : Job = record { conn = c.args.conn; body = job.body } in
      let same_job : its ≡ job = λ i. record { conn = sym is i; body = job.body } in
      let alive : is_dead (m.states c.args.conn) ≡ false = asks_alive (m.states c.args.conn) job.body (request.Exit c.args.exit) asks in
      let left = c.enter_state.ensures.left told_is m at in
      let stands = session_stands v v1 d0 d1 m c.args.conn none left in
      subst (λ (j : Job). RowGives v c.args.now j outcome.Shut m v2 d0 d2) same_job
      (session_told v v1 v2 d0 d1 d2 m c.args.now its c.args.exit laws laws' alive asks none left (set_by v v1 c.enter_state.ensures.frame.keeps)
      (c.exit_line.ensures.frame.beside told_is (leaves c.args.conn Dead m) stands) (c.in-Ok.ensures.added told_is (leaves c.args.conn Dead m) stands));
}

pub returns-in-Err : goal.returns-in-Err
returns-in-Err g c = record {
  frame = record {
    keeps = keeps_line (view_of c.args.self.now) (view_of c.enter_state.new.self) (view_of c.exit_line.new.self) c.enter_state.ensures.frame.keeps c.enter_state.ensures.enters.shrinks c.exit_line.ensures.frame.keeps c.exit_line.ensures.frame.same;
    syncs = λ told m at.
        followed NoLog (view_of c.args.self.now) (view_of c.enter_state.new.self) (view_of c.exit_line.new.self) (g.D.Disk.view c.args.disk.now) (g.D.Disk.view c.enter_state.new.disk) (g.D.Disk.view c.exit_line.new.disk)
        (c.enter_state.ensures.frame.syncs told m at) (line_quiet NoLog (view_of c.enter_state.new.self) (view_of c.exit_line.new.self) (g.D.Disk.view c.enter_state.new.disk) (g.D.Disk.view c.exit_line.new.disk) c.exit_line.ensures.frame.same (c.exit_line.ensures.frame.syncs told));
    does = quiet_then (λ e. ap (λ (w : Refusal). err w) (refused_is c.in-Err.why e)) c.enter_state.ensures.frame.does (does_needs (λ e. sym c.enter_state.ensures.frame.keeps.log_exit ∙ e) c.in-Err.ensures.frame.does);
  };
  named = tt;
  row = λ told_is m job at is (none, asks).
      let v : KeeperView = view_of c.args.self.now in
      let v1 : KeeperView = view_of c.enter_state.new.self in
      let v2 : KeeperView = view_of c.exit_line.new.self in
      let d0 : DiskView = g.D.Disk.view c.args.disk.now in
      let d1 : DiskView = g.D.Disk.view c.enter_state.new.disk in
      let d2 : DiskView = g.D.Disk.view c.exit_line.new.disk in
      let laws : Laws d0 = record { reads_itself = g.met.D.Disk.reads_itself told_is c.args.disk.now; is_now = g.met.D.Disk.is_now told_is c.args.disk.now; only_now = g.met.D.Disk.only_now told_is c.args.disk.now } in
      let laws' : Laws d1 = record { reads_itself = g.met.D.Disk.reads_itself told_is c.enter_state.new.disk; is_now = g.met.D.Disk.is_now told_is c.enter_state.new.disk; only_now = g.met.D.Disk.only_now told_is c.enter_state.new.disk } in
      let its : Job = record { conn = c.args.conn; body = job.body } in
      let same_job : its ≡ job = λ i. record { conn = sym is i; body = job.body } in
      let alive : is_dead (m.states c.args.conn) ≡ false = asks_alive (m.states c.args.conn) job.body (request.Exit c.args.exit) asks in
      let left = c.enter_state.ensures.left told_is m at in
      let stands = session_stands v v1 d0 d1 m c.args.conn none left in
      subst (λ (j : Job). RowGives v c.args.now j (outcome.Refused c.in-Err.why) m v2 d0 d2) same_job
      (session_refused v v1 v2 d0 d1 d2 m c.args.now its c.args.exit laws laws' alive asks none left (set_by v v1 c.enter_state.ensures.frame.keeps)
      (c.exit_line.ensures.frame.beside told_is (leaves c.args.conn Dead m) stands) c.in-Err.why (c.in-Err.ensures.refused told_is (leaves c.args.conn Dead m) stands));
}
