use Rattle.std.proofs.Common.{◌≡◌, ◌∙◌, Err, ap, sym, subst}
use Rattle.std.specs.Prelude.{false, Ok, Result}
use Rattle.lsv_request.specs.declared.request.Request.{Request}
use Rattle.lsv_request.specs.declared.refusal.Refusal.{Refusal}
use Rattle.lsv_session.specs.declared.connection.ConnState.{ConnState}
use Rattle.lsv_session.specs.declared.job.Body.{Body}
use Rattle.lsv_session.specs.declared.job.Body.TheVariants as bodies
use Rattle.lsv_machine.specs.Failures.{AsksFor}
use Rattle.lsv_machine.specs.Judgement.{judged}
use Rattle.lsv_machine.specs.Machine.{is_dead}
use Rattle.lsv_keeper.specs.Rows.{NamesLog}
use Rattle.lsv_keeper.specs.Value.{settings_of}
use Rattle.lsv_keeper.specs.Views.{view_of}
use Rattle.lsv_keeper.specs.Syncing.{GoesOnWith}
use Rattle.lsv_keeper.specs.Syncs.{IsRestartOf, Restarts}
use Rattle.lsv_keeper.proofs.Judging.{judged_fair, message_refused}
use Rattle.lsv_keeper.proofs.Requests.{event_brought, restart_named}
use Rattle.lsv_keeper.proofs.Syncing.{of_none, wider}
use Rattle.lsv_keeper.proofs.Causes.{does_needs, quiet_told, refused_is}
use Rattle.lsv_machine.proofs.Shapes.{Innocent, judged_innocent}
use Rattle.lsv_keeper.proofs.SparingLemmas.{spares_none}
use Rattle.lsv_keeper.proofs.keeper.Keeper.judge.Goals as goal

abbrev asked : Request → Result Request Refusal
asked what = Ok what

pub returns-in-Ok : goal.returns-in-Ok
returns-in-Ok g c = record {
  done =
      let d = c.work.ensures.done in
      record {
        keeps = d.keeps;
        named = d.named;
        row = λ told m job at conn is. d.row told m job at conn (subst (λ (b : Body). AsksFor (m.states c.args.conn) b c.in-Ok.request) (sym is)
            (ap (λ (s : ConnState). judged s c.args.message) (at.states c.args.conn ∙ sym c.requires.state ∙ sym c.copied.ensures) ∙ sym c.in-Ok.ensures));
        syncs = λ told m at.
            wider (GoesOnWith c.in-Ok.request) (Restarts (bodies.Msg c.args.message)) (view_of c.args.self.now) (view_of c.work.new.self) (g.D.Disk.view c.args.disk.now) (g.D.Disk.view c.work.new.disk)
            (λ n goes. subst (IsRestartOf c.args.message) (sym goes.2) (restart_named c.copied.result c.args.message goes.0
            (sym c.in-Ok.ensures ∙ ap (λ (x : Request). asked x) goes.1))) (d.syncs told m at);
        spared = d.spared;
        does = does_needs (event_brought (settings_of (view_of c.args.self.now)) c.copied.result c.args.message c.in-Ok.request (sym c.in-Ok.ensures)) d.does;
      };
}

pub returns-in-Err : goal.returns-in-Err
returns-in-Err g c = record {
  done =
      let v = view_of c.args.self.now in
      let v' = view_of c.refuse.new.self in
      let old = g.D.Disk.view c.args.disk.now in
      let new = g.D.Disk.view c.refuse.new.disk in
      record {
        keeps = (c.refuse.ensures.done c.args.now).frame.keeps;
        named = subst NamesLog (sym c.refuse.ensures.is) tt;
        row = λ told m job at conn is.
            let alive : is_dead (m.states c.args.conn) ≡ false = ap is_dead (at.states c.args.conn) ∙ c.requires.alive in
            let e : judged (m.states c.args.conn) c.args.message ≡ Err c.in-Err.why =
            ap (λ (s : ConnState). judged s c.args.message) (at.states c.args.conn ∙ sym c.requires.state ∙ sym c.copied.ensures) ∙ sym c.in-Err.ensures in
            (c.refuse.ensures.done c.args.now).row told m job at conn (
              alive,
              judged_fair (m.states c.args.conn) c.args.message c.in-Err.why e c.args.conn,
              message_refused (settings_of v) c.args.now job c.args.message c.in-Err.why m c.args.conn conn is alive e,
            );
        syncs = λ told m at. of_none (Restarts (bodies.Msg c.args.message)) v v' old new ((c.refuse.ensures.done c.args.now).frame.syncs told m at);
        spared = λ told m at. spares_none v v' old new m at ((c.refuse.ensures.done c.args.now).frame.syncs told m at);
        does = quiet_told (λ e. subst Innocent (sym c.in-Err.ensures) (judged_innocent c.copied.result c.args.message) (refused_is c.in-Err.why (sym c.refuse.ensures.is ∙ e))) (c.refuse.ensures.done c.args.now).frame.does;
      };
}
