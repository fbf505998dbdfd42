-- In a session, or where no records will follow, an accept is an event alone; else it opens a log.
use Rattle.lsv_keeper.proofs.Causes.{does_needs}
use Rattle.lsv_keeper.specs.Syncing.{GoesOnWith}
use Rattle.lsv_keeper.proofs.Syncing.{of_none}
use Rattle.lsv_keeper.proofs.SparingLemmas.{spares_none}
use Rattle.std.proofs.Common.{◌≡◌, sym, ◌∙◌, ap, subst, inl, inr, ℕ, Option, None, refl}
use Rattle.std.specs.Prelude.{◌&&◌, not, Bool, true, false}
use Rattle.lsv_event.specs.Lines.{line_of}
use Rattle.lsv_event.specs.declared.event.Event.TheVariants as event
use Rattle.lsv_event.specs.declared.event.Peer.{Peer}
use Rattle.lsv_request.specs.declared.request.Accept.{Accept}
use Rattle.lsv_request.specs.declared.request.Request.TheVariants as request
use Rattle.lsv_session.specs.declared.connection.ConnState.{ConnState}
use Rattle.lsv_session.specs.declared.connection.ConnState.TheVariants.{Running}
use Rattle.lsv_machine.specs.Machine.{is_running, log_of}
use Rattle.lsv_keeper.specs.declared.report.Next.{Next}
use Rattle.lsv_keeper.specs.declared.report.Next.TheVariants as next
use Rattle.lsv_keeper.specs.Accepting.{IsEventOf, accept_of, unless_running}
use Rattle.lsv_keeper.specs.Value.{KeeperView, settings_of}
use Rattle.lsv_keeper.specs.Jobs.{DoesRequest}
use Rattle.lsv_keeper.specs.Views.{view_of}
use Rattle.lsv_keeper.proofs.EventKinds.{accept_event}
use Rattle.lsv_keeper.proofs.Making.{opens_none}
use Rattle.lsv_keeper.proofs.keeper.Keeper.accept.Goals.{else-not-is_running-via-then-not-is_running+else-expect_iobufs, else-not-is_running-via-else-not-is_running}
use Rattle.lsv_keeper.proofs.keeper.Keeper.accept.Goals as goal

pub returns-then-expect_iobufs : goal.returns-then-expect_iobufs
returns-then-expect_iobufs g c =
    let same : accept_of c.args.accept.head ≡ c.args.accept = λ i. record { head = c.args.accept.head; expect_iobufs = sym c.if-expect_iobufs.true i } in
    record {
      done = subst (λ (x : Accept). DoesRequest g.D.Disk.tells c.args.now c.args.conn (request.Accept x) c.accept_log.result (view_of c.args.self.now) (view_of c.accept_log.new.self) (g.D.Disk.view c.args.disk.now) (g.D.Disk.view c.accept_log.new.disk)) same c.accept_log.ensures.done;
    }

pub returns : goal.returns
returns g c = record {
  done =
      let d = c.add_event.ensures c.args.now (request.Accept c.args.accept) in
      let v' = view_of c.add_event.new.self in
      let old = g.D.Disk.view c.args.disk.now in
      let new = g.D.Disk.view c.add_event.new.disk in
      record {
        keeps = d.frame.keeps;
        named = d.named;
        row = λ told m job at e a.
            let v : KeeperView = view_of c.args.self.now in
            let k = c.args.conn in
            let s : ConnState = m.states k in
            let accept : Accept = c.args.accept in
            let none : (not (is_running s) && accept.expect_iobufs) ≡ false =
            ap (λ (x : ConnState). not (is_running x) && accept.expect_iobufs) (at.states k ∙ sym c.state.ensures) ∙ ap (λ (x : Bool). not x && accept.expect_iobufs) (sym c.is_running.ensures) ∙ elim c.else-not-is_running.branch [
              | else-not-is_running-via-then-not-is_running+else-expect_iobufs w ↦ opens_none c.is_running.result accept.expect_iobufs (inr w.if-expect_iobufs.false)
              | else-not-is_running-via-else-not-is_running w ↦ opens_none c.is_running.result accept.expect_iobufs (inl (let run : c.is_running.result ≡ true = cc in run))
            ] in
            let next_is : c.unless_running-next.result ≡ unless_running s (next.Enters (Running None)) =
            c.unless_running-next.ensures ∙ ap (λ (x : ConnState). unless_running x (next.Enters (Running None))) (c.state-2.ensures ∙ sym (at.states k)) in
            let log_is : c.log_of.result ≡ log_of s = c.log_of.ensures ∙ ap log_of (c.requires.state ∙ sym (at.states k)) in
            d.row told m job at e (
              a,
              subst (λ (x : Next). IsEventOf (settings_of v) c.args.now k s (request.Accept accept) (line_of v.kind (event.Accept c.args.now c.peer_of.result c.log_of.result accept.head)) x m) (sym next_is)
                  (subst (λ (x : Option ℕ). IsEventOf (settings_of v) c.args.now k s (request.Accept accept) (line_of v.kind (event.Accept c.args.now c.peer_of.result x accept.head)) (unless_running s (next.Enters (Running None))) m) (sym log_is)
                  (subst (λ (x : Peer). IsEventOf (settings_of v) c.args.now k s (request.Accept accept) (line_of v.kind (event.Accept c.args.now x (log_of s) accept.head)) (unless_running s (next.Enters (Running None))) m) (sym c.peer_of.ensures)
                  (accept_event v c.args.now k s accept m none))),
            );
        syncs = λ told m at. of_none (GoesOnWith (request.Accept c.args.accept)) (view_of c.args.self.now) v' old new (d.frame.syncs told m at);
        spared = λ told m at. spares_none (view_of c.args.self.now) v' old new m at (d.frame.syncs told m at);
        does = does_needs (λ u. refl) d.frame.does;
      };
}
