-- In a session a reject is an event alone; else it ends the connection.
use Rattle.std.proofs.Common.{ap, refl, subst, sym, ◌∙◌, ◌≡◌}
use Rattle.lsv_event.specs.Lines.{line_of}
use Rattle.lsv_event.specs.declared.event.Event.TheVariants as event
use Rattle.lsv_event.specs.declared.event.Peer.{Peer}
use Rattle.lsv_request.specs.declared.request.Request.TheVariants as request
use Rattle.lsv_session.specs.declared.connection.ConnState.{ConnState}
use Rattle.lsv_keeper.specs.declared.report.Next.{Next}
use Rattle.lsv_keeper.specs.declared.report.Next.TheVariants as next
use Rattle.lsv_keeper.specs.Accepting.{EntersNoLog, IsEventOf, unless_running}
use Rattle.lsv_keeper.specs.Value.{KeeperView, settings_of}
use Rattle.lsv_keeper.specs.Views.{view_of}
use Rattle.lsv_keeper.proofs.Asking.{reject_timed}
use Rattle.lsv_keeper.proofs.EventKinds.{reject_event, enters_none}
use Rattle.lsv_keeper.proofs.SparingLemmas.{spares_none}
use Rattle.lsv_keeper.proofs.Syncing.{of_none}
use Rattle.lsv_keeper.specs.Syncing.{GoesOnWith}
use Rattle.lsv_keeper.proofs.Causes.{does_needs}
use Rattle.lsv_keeper.proofs.keeper.Keeper.reject.Goals as goal

pub add_event-requires-clause-timed : goal.add_event-requires-clause-timed
add_event-requires-clause-timed g c = (c.requires.timed, reject_timed c.args.state c.requires.asked.0 c.args.report c.requires.asked.1)

pub add_event-requires-clause-writes_none : goal.add_event-requires-clause-writes_none
add_event-requires-clause-writes_none g c = subst EntersNoLog (sym c.unless_running.ensures) (enters_none c.args.state next.Ends tt)

pub add_event-requires-clause-stands : goal.add_event-requires-clause-stands
add_event-requires-clause-stands g c told = c.requires.stands told

pub add_event-requires-clause-room : goal.add_event-requires-clause-room
add_event-requires-clause-room g c = c.requires.room

pub returns : goal.returns
returns g c = record {
  done =
      let d = c.add_event.ensures c.args.now (request.Reject c.args.report) in
      let v' = view_of c.add_event.new.self in
      let old = g.D.Disk.view c.args.disk.now in
      let new = g.D.Disk.view c.add_event.new.disk in
      record {
        keeps = d.frame.keeps;
        named = d.named;
        row = λ told m job at e a.
            let v : KeeperView = view_of c.args.self.now in
            let its : c.unless_running.result ≡ unless_running (m.states c.args.conn) next.Ends =
            c.unless_running.ensures ∙ ap (λ (s : ConnState). unless_running s next.Ends) (c.requires.state ∙ sym (at.states c.args.conn)) in
            d.row told m job at e (
              a,
              subst (λ (x : Next). IsEventOf (settings_of v) c.args.now c.args.conn (m.states c.args.conn) (request.Reject c.args.report) (line_of v.kind (event.Reject c.args.now c.peer_of.result c.args.report.reason (record { submit = c.args.report.time; info = c.args.report.info }))) x m) (sym its)
                  (subst (λ (p : Peer). IsEventOf (settings_of v) c.args.now c.args.conn (m.states c.args.conn) (request.Reject c.args.report) (line_of v.kind (event.Reject c.args.now p c.args.report.reason (record { submit = c.args.report.time; info = c.args.report.info }))) (unless_running (m.states c.args.conn) next.Ends) m) (sym c.peer_of.ensures)
                  (reject_event v c.args.now c.args.conn (m.states c.args.conn) c.args.report m)),
            );
        syncs = λ told m at. of_none (GoesOnWith (request.Reject c.args.report)) (view_of c.args.self.now) v' old new (d.frame.syncs told m at);
        spared = λ told m at. spares_none (view_of c.args.self.now) v' old new m at (d.frame.syncs told m at);
        does = does_needs (λ u. refl) d.frame.does;
      };
}
