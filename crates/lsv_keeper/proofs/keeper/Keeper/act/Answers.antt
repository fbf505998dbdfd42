-- What comes of a connection that wasn't shut, by its kind: a message alone may restart a log.
use Rattle.std.proofs.Common.{◌≡◌, ◌∙◌, ap, subst, sym}
use Rattle.std.specs.Prelude.{false}
use Rattle.lsv_request.specs.declared.refusal.Refusal.{Refusal}
use Rattle.lsv_request.specs.declared.refusal.Refusal.TheVariants.{DeviceFault}
use Rattle.lsv_session.specs.declared.job.Body.{Body}
use Rattle.lsv_machine.specs.Answers.{refusal}
use Rattle.lsv_machine.specs.History.{is_look}
use Rattle.lsv_machine.specs.Machine.{is_dead}
use Rattle.lsv_machine.specs.Work as work
use Rattle.lsv_machine.proofs.Shapes.{fault_not}
use Rattle.lsv_keeper.specs.Jobs.{DoesJob}
use Rattle.lsv_keeper.specs.Rows.{NamesLog}
use Rattle.lsv_keeper.specs.Syncs.{Restarts}
use Rattle.lsv_keeper.specs.Value.{settings_of}
use Rattle.lsv_keeper.specs.Views.{view_of}
use Rattle.lsv_keeper.specs.declared.outcome.Outcome.TheVariants as outcome
use Rattle.lsv_keeper.proofs.Causes.{quiet_told, refused_is}
use Rattle.lsv_keeper.proofs.Judging.{bytes_refused, fault_fair}
use Rattle.lsv_keeper.proofs.SparingLemmas.{spares_none}
use Rattle.lsv_keeper.proofs.Syncing.{of_none}
use Rattle.lsv_keeper.proofs.keeper.Keeper.act.Goals as goal

pub returns-in-Msg : goal.returns-in-Msg
returns-in-Msg g c = record {
  done =
      subst (λ (b : Body). DoesJob g.D.Disk.tells c.args.now c.args.conn b c.hear.result (view_of c.args.self.now) (view_of c.hear.new.self) (g.D.Disk.view c.args.disk.now) (g.D.Disk.view c.hear.new.disk)) (sym c.in-Msg.is) c.hear.ensures.done;
}

pub returns-in-Bad : goal.returns-in-Bad
returns-in-Bad g c = record {
  done =
      let v = view_of c.args.self.now in
      let v' = view_of c.refuse.new.self in
      let old = g.D.Disk.view c.args.disk.now in
      let new = g.D.Disk.view c.refuse.new.disk in
      record {
        keeps = (c.refuse.ensures.done c.args.now).frame.keeps;
        named = subst NamesLog (sym c.refuse.ensures.is) tt;
        row = λ told m job at conn is.
            let living : is_dead (m.states c.args.conn) ≡ false = ap is_dead (at.states c.args.conn) ∙ c.requires.alive in
            (c.refuse.ensures.done c.args.now).row told m job at conn (
              living,
              (ap (λ (why : Refusal). is_look (refusal c.args.conn why)) c.fault_refusal.ensures ∙ fault_fair c.in-Bad.fault c.args.conn),
              (λ n. bytes_refused (settings_of v) c.args.now job c.in-Bad.fault m c.args.conn conn (is ∙ c.in-Bad.is) living n ∙ ap (λ (why : Refusal). work.refused c.args.conn why m) (sym c.fault_refusal.ensures)),
            );
        syncs = λ told m at. of_none (Restarts c.args.body) v v' old new ((c.refuse.ensures.done c.args.now).frame.syncs told m at);
        spared = λ told m at. spares_none v v' old new m at ((c.refuse.ensures.done c.args.now).frame.syncs told m at);
        does = quiet_told (λ e. fault_not c.in-Bad.fault (sym c.fault_refusal.ensures ∙ refused_is c.fault_refusal.result (sym c.refuse.ensures.is ∙ e))) (c.refuse.ensures.done c.args.now).frame.does;
      };
}

pub returns-in-Gone : goal.returns-in-Gone
returns-in-Gone g c = record {
  done =
      let v = view_of c.args.self.now in
      let v' = view_of c.farewell.new.self in
      let old = g.D.Disk.view c.args.disk.now in
      let new = g.D.Disk.view c.farewell.new.disk in
      record {
        keeps = (c.farewell.ensures.done c.args.now).frame.keeps;
        named = subst NamesLog (sym c.farewell.ensures.is) tt;
        row = λ told m job at conn is. (c.farewell.ensures.done c.args.now).row told m job at conn (is ∙ c.in-Gone.is, ap is_dead (at.states c.args.conn) ∙ c.requires.alive);
        syncs = λ told m at. of_none (Restarts c.args.body) v v' old new ((c.farewell.ensures.done c.args.now).frame.syncs told m at);
        spared = λ told m at. spares_none v v' old new m at ((c.farewell.ensures.done c.args.now).frame.syncs told m at);
        does = quiet_told (λ e. let f : outcome.Farewell ≡ outcome.Refused DeviceFault = sym c.farewell.ensures.is ∙ e in cc) (c.farewell.ensures.done c.args.now).frame.does;
      };
}
