use Rattle.lsv_keeper.specs.Jobs.{DoesRequest}
use Rattle.std.proofs.Common.{◌≡◌, ◌∙◌, ap, subst, sym, refl, ◌∷◌, []}
use Rattle.lsv_disk.specs.View.{DiskView}
use Rattle.lsv_request.specs.declared.request.Request.TheVariants as request
use Rattle.lsv_machine.specs.Machine.{Machine, log_of}
use Rattle.lsv_keeper.specs.Represents.{Represents}
use Rattle.lsv_keeper.specs.Rows.{RowGives, outcome_of}
use Rattle.lsv_keeper.specs.Value.{Keeps, KeeperView}
use Rattle.lsv_keeper.specs.Views.{view_of}
use Rattle.lsv_keeper.specs.Syncing.{GoesOnWith, NoLog, Syncs}
use Rattle.lsv_keeper.proofs.Refusing.{asks_stays, record_writes, same_waiting}
use Rattle.lsv_keeper.proofs.Requests.{asks_alive}
use Rattle.lsv_keeper.proofs.Syncing.{nothing, of_none}
use Rattle.lsv_keeper.proofs.Causes.{does_free, does_none, quiet_told}
use Rattle.lsv_keeper.specs.Causes.{Does, IsFaultRefusal}
use Rattle.lsv_request.specs.declared.refusal.Refusal.TheVariants.{DeviceFault, OutOfMemory}
use Rattle.lsv_keeper.specs.declared.outcome.Outcome.TheVariants as outcome
use Rattle.lsv_keeper.specs.declared.outcome.Outcome.{Outcome}
use Rattle.lsv_keeper.proofs.Departing.{keeps_same}
use Rattle.lsv_keeper.proofs.SparingLemmas.{spares_none, spares_same}
use Rattle.lsv_keeper.proofs.keeper.Keeper.record.Goals as goal

pub want_memory-requires : goal.want_memory-requires
want_memory-requires g c = record {
  stands = λ told. let (m, at) = c.requires.stands told in
      (m, subst (λ (w : KeeperView). Represents w (g.D.Disk.view c.args.disk.now) m) (sym (same_waiting (view_of c.args.self.now) c.reserve.new.self.items c.reserve.ensures.items)) at);
  room = c.requires.room;
}

pub returns-in_default : goal.returns-in_default
returns-in_default g c = record {
  done = λ now.
      let v : KeeperView = view_of c.args.self.now in
      let old : DiskView = g.D.Disk.view c.args.disk.now in
      record {
        keeps = keeps_same v;
        named = tt;
        row = λ told m job at is asks.
            absurd (record_writes (m.states c.args.conn) job.body c.args.r asks (ap log_of (at.states c.args.conn ∙ sym c.requires.state) ∙ sym c.log_of.ensures ∙ c.in_default.is));
        syncs = λ told m at. nothing (GoesOnWith (request.Record c.args.r)) v v old refl refl;
        spared = λ told m at n damaged. spares_same n old;
        does = does_none (λ e. cc);
      };
}

pub returns-then-is_err : goal.returns-then-is_err
returns-then-is_err g c = record {
  done = λ now.
      let v : KeeperView = view_of c.args.self.now in
      let v' : KeeperView = view_of c.want_memory.new.self in
      let old : DiskView = g.D.Disk.view c.args.disk.now in
      let new : DiskView = g.D.Disk.view c.want_memory.new.disk in
      let same = same_waiting v c.reserve.new.self.items c.reserve.ensures.items in
      let d = c.want_memory.ensures.done now in
      let unsynced : (told : g.D.Disk.tells) (m : Machine) → Represents v old m → Syncs NoLog v v' old new = (λ told m at. subst (λ (w : KeeperView). Syncs NoLog w v' old new) same
      (d.frame.syncs told m (subst (λ (w : KeeperView). Represents w old m) (sym same) at))) in
      record {
        keeps = subst (λ (w : KeeperView). Keeps w v') same d.frame.keeps;
        named = d.named;
        row = λ told m job at is asks.
            subst (λ (w : KeeperView). RowGives w now job c.want_memory.result m v' old new) same
            (d.row told m job (subst (λ (w : KeeperView). Represents w old m) (sym same) at) is
            (asks_alive (m.states c.args.conn) job.body (request.Record c.args.r) asks, asks_stays (m.states c.args.conn) job.body (request.Record c.args.r) asks));
        syncs = λ told m at. of_none (GoesOnWith (request.Record c.args.r)) v v' old new (unsynced told m at);
        spared = λ told m at. spares_none v v' old new m at (unsynced told m at);
        does = does_free (subst (λ (w : KeeperView). Does (c.args.conn ∷ []) ⊥ (IsFaultRefusal c.want_memory.result) w v' old new) same
            (quiet_told (λ e. let f : outcome.Refused OutOfMemory ≡ outcome.Refused DeviceFault = sym c.want_memory.ensures.is ∙ e in cc) d.frame.does));
      };
}

pub returns : goal.returns
returns g c = record {
  done = λ now.
      let v' : KeeperView = view_of c.take_record.new.self in
      let old : DiskView = g.D.Disk.view c.args.disk.now in
      let new : DiskView = g.D.Disk.view c.take_record.new.disk in
      let is : c.outcome_of.result ≡ outcome_of c.take_record.result = c.outcome_of.ensures.is in
      subst (λ (t : Outcome). DoesRequest g.D.Disk.tells now c.args.conn (request.Record c.args.r) t (view_of c.args.self.now) v' old new) (sym is)
      (subst (λ (w : KeeperView). DoesRequest g.D.Disk.tells now c.args.conn (request.Record c.args.r) (outcome_of c.take_record.result) w v' old new) (same_waiting (view_of c.args.self.now) c.reserve.new.self.items c.reserve.ensures.items)
      ((c.take_record.ensures now).done (ap log_of (sym c.requires.state) ∙ sym c.log_of.ensures ∙ c.in-Some.is)));
}
