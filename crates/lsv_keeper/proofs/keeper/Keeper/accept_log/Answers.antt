-- A log is opened, and its number told; or the connection is refused, however far the accept came.
use Rattle.lsv_request.specs.declared.request.Request.TheVariants as request
use Rattle.lsv_keeper.specs.Accepting.{accept_of}
use Rattle.lsv_keeper.specs.Represents.{Represents}
use Rattle.lsv_keeper.proofs.SparingLemmas.{spares_none}
use Rattle.std.proofs.Common.{◌∙◌, ap, refl}
use Rattle.lsv_session.specs.declared.connection.ConnState.TheVariants.{Dead}
use Rattle.lsv_machine.specs.Machine.{is_running, Machine}
use Rattle.lsv_keeper.specs.Value.{sessions_of}
use Rattle.lsv_keeper.specs.Views.{view_of}
use Rattle.lsv_keeper.specs.Syncing.{NoLog, GoesOnWith, Syncs}
use Rattle.lsv_keeper.proofs.Making.{begun_at, keeps_then, room_in_any, stopped_at}
use Rattle.lsv_keeper.proofs.Syncing.{followed, of_none}
use Rattle.lsv_keeper.proofs.Causes.{does_as, refused_is, then_quiet, does_needs}
use Rattle.std.specs.Prelude.{Result, Err}
use Rattle.lsv_request.specs.declared.refusal.Refusal.{Refusal}
use Rattle.lsv_keeper.proofs.keeper.Keeper.accept_log.Goals as goal

abbrev err : {T : Type 0} → Refusal → Result T Refusal
err why = Err why

pub enter_state-requires-clause-stands : goal.enter_state-requires-clause-stands
enter_state-requires-clause-stands g c told = let (m, at) = c.requires.stands told in let x = c.in-Err.ensures.stopped told m at in (x.left, x.represents)

pub enter_state-requires-clause-room : goal.enter_state-requires-clause-room
enter_state-requires-clause-room g c = room_in_any (view_of c.args.self.now) (view_of c.open_log.new.self) ((sessions_of (view_of c.open_log.new.self)).states c.args.conn) Dead c.in-Err.ensures.room c.requires.room

pub returns-in-Ok : goal.returns-in-Ok
returns-in-Ok g c = record {
  done =
      let v = view_of c.args.self.now in
      let v' = view_of c.open_log.new.self in
      let old = g.D.Disk.view c.args.disk.now in
      let new = g.D.Disk.view c.open_log.new.disk in
      let asked = request.Accept (accept_of c.args.head) in
      let unsynced : g.D.Disk.tells → (m : Machine) → Represents v old m → Syncs NoLog v v' old new =
      (c.open_log.ensures.frame.syncs) in
      record {
        keeps = c.open_log.ensures.frame.keeps;
        named = c.in-Ok.ensures.id;
        row = λ told m job at e a.
            let d0 = c.args.disk.now in
            begun_at (view_of c.args.self.now) (view_of c.open_log.new.self) (g.D.Disk.view d0) (g.D.Disk.view c.open_log.new.disk) c.args.now c.args.conn c.args.head m c.in-Ok.opened.number c.in-Ok.opened.id
            (record { reads_itself = g.met.D.Disk.reads_itself told d0; is_now = g.met.D.Disk.is_now told d0; only_now = g.met.D.Disk.only_now told d0 })
            (ap is_running (at.states c.args.conn) ∙ c.requires.free) (c.in-Ok.ensures.begun told m at) job e a;
        syncs = λ told m at. of_none (GoesOnWith asked) v v' old new (unsynced told m at);
        spared = λ told m at. spares_none v v' old new m at (unsynced told m at);
        does = does_needs (λ u. refl) (does_as (λ e. absurd (cc)) c.in-Ok.ensures.frame.does);
      };
}

pub returns-in-Err : goal.returns-in-Err
returns-in-Err g c = record {
  done =
      let v = view_of c.args.self.now in
      let v' = view_of c.enter_state.new.self in
      let old = g.D.Disk.view c.args.disk.now in
      let new = g.D.Disk.view c.enter_state.new.disk in
      let asked = request.Accept (accept_of c.args.head) in
      let unsynced : g.D.Disk.tells → (m : Machine) → Represents v old m → Syncs NoLog v v' old new =
      (λ told m at.
      let x = c.in-Err.ensures.stopped told m at in
      followed NoLog (view_of c.args.self.now) (view_of c.open_log.new.self) (view_of c.enter_state.new.self) (g.D.Disk.view c.args.disk.now) (g.D.Disk.view c.open_log.new.disk) (g.D.Disk.view c.enter_state.new.disk)
      (c.open_log.ensures.frame.syncs told m at) (c.enter_state.ensures.frame.syncs told x.left x.represents)) in
      record {
        keeps = keeps_then (view_of c.args.self.now) (view_of c.open_log.new.self) (view_of c.enter_state.new.self) c.open_log.ensures.frame.keeps c.in-Err.ensures.room c.enter_state.ensures.frame.keeps c.enter_state.ensures.enters.shrinks;
        named = tt;
        row = λ told m job at e a.
            let d0 = c.args.disk.now in
            let d1 = c.open_log.new.disk in
            let x = c.in-Err.ensures.stopped told m at in
            stopped_at (view_of c.args.self.now) (view_of c.open_log.new.self) (view_of c.enter_state.new.self) (g.D.Disk.view d0) (g.D.Disk.view d1) (g.D.Disk.view c.enter_state.new.disk) c.args.now c.args.conn c.args.head m c.in-Err.why
            (record { reads_itself = g.met.D.Disk.reads_itself told d0; is_now = g.met.D.Disk.is_now told d0; only_now = g.met.D.Disk.only_now told d0 })
            (record { reads_itself = g.met.D.Disk.reads_itself told d1; is_now = g.met.D.Disk.is_now told d1; only_now = g.met.D.Disk.only_now told d1 })
            c.open_log.ensures.frame.keeps (ap is_running (at.states c.args.conn) ∙ c.requires.free) x (c.enter_state.ensures.left told x.left x.represents) job e a;
        syncs = λ told m at. of_none (GoesOnWith asked) v v' old new (unsynced told m at);
        spared = λ told m at. spares_none v v' old new m at (unsynced told m at);
        does = does_needs (λ u. refl) (then_quiet (λ e. ap (λ (w : Refusal). err w) (refused_is c.in-Err.why e)) c.in-Err.ensures.frame.does c.enter_state.ensures.frame.does);
      };
}
