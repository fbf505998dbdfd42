-- A connection that was shut opens no log.
use Rattle.std.proofs.Common.{◌≡◌, ◌∙◌, ap, subst, sym}
use Rattle.lsv_request.specs.declared.refusal.Refusal.TheVariants.{DeviceFault}
use Rattle.lsv_machine.specs.Machine.{is_dead}
use Rattle.lsv_keeper.specs.Rows.{NamesLog}
use Rattle.lsv_keeper.specs.Syncs.{Restarts}
use Rattle.lsv_keeper.specs.Views.{view_of}
use Rattle.lsv_keeper.specs.declared.outcome.Outcome.TheVariants as outcome
use Rattle.lsv_keeper.proofs.Causes.{quiet_told}
use Rattle.lsv_keeper.proofs.SparingLemmas.{spares_none}
use Rattle.lsv_keeper.proofs.Syncing.{of_none}
use Rattle.lsv_keeper.proofs.keeper.Keeper.answer.Goals as goal

pub returns-in-Dead : goal.returns-in-Dead
returns-in-Dead g c = record {
  done =
      let v = view_of c.args.self.now in
      let v' = view_of c.drop_job.new.self in
      let old = g.D.Disk.view c.args.disk.now in
      let new = g.D.Disk.view c.drop_job.new.disk in
      record {
        keeps = (c.drop_job.ensures.done c.args.now).frame.keeps;
        named = subst NamesLog (sym c.drop_job.ensures.is) tt;
        row = λ told m job at conn is. (c.drop_job.ensures.done c.args.now).row told m job at conn (is, ap is_dead (at.states c.args.conn ∙ sym c.state-state.ensures ∙ c.in-Dead.is));
        syncs = λ told m at. of_none (Restarts c.args.body) v v' old new ((c.drop_job.ensures.done c.args.now).frame.syncs told m at);
        spared = λ told m at. spares_none v v' old new m at ((c.drop_job.ensures.done c.args.now).frame.syncs told m at);
        does = quiet_told (λ e. let f : outcome.Nothing ≡ outcome.Refused DeviceFault = sym c.drop_job.ensures.is ∙ e in cc) (c.drop_job.ensures.done c.args.now).frame.does;
      };
}
