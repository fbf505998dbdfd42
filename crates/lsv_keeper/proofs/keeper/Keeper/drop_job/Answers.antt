use Rattle.std.proofs.Common.{◌≡◌, ◌∙◌, subst, sym, refl, []}
use Rattle.std.specs.Prelude.{true}
use Rattle.lsv_disk.specs.View.{DiskView}
use Rattle.lsv_session.specs.declared.connection.ConnId.{ConnId}
use Rattle.lsv_session.specs.declared.connection.ConnState.TheVariants.{Fresh}
use Rattle.lsv_machine.specs.Machine.{Machine, is_dead, without_conn}
use Rattle.lsv_keeper.specs.Rows.{Left, RowGives}
use Rattle.lsv_keeper.specs.Value.{KeeperView, Keeps}
use Rattle.lsv_keeper.specs.Views.{view_of}
use Rattle.lsv_keeper.specs.declared.outcome.Outcome.TheVariants.{Nothing}
use Rattle.lsv_keeper.specs.Syncing.{NoLog, Syncs}
use Rattle.lsv_keeper.proofs.Departing.{forget_represents, keeps_forget, keeps_same}
use Rattle.lsv_keeper.proofs.Frames.{Laws}
use Rattle.lsv_keeper.proofs.Leaving.{forgotten_row, ignored_row}
use Rattle.lsv_keeper.proofs.Syncing.{noted_else, nothing}
use Rattle.lsv_keeper.proofs.Causes.{does_none, forgotten_then}
use Rattle.lsv_keeper.specs.Causes.{Does}
use Rattle.lsv_keeper.proofs.keeper.Keeper.drop_job.Goals as goal
use Rattle.lsv_keeper.proofs.keeper.Keeper.drop_job.Goals.{in-Gone, in_default}

pub enter_state-requires-clause-stands : goal.enter_state-requires-clause-stands
enter_state-requires-clause-stands g c told = let (m, at) = c.requires.stands told in (
  record m { noting = without_conn c.args.conn m.noting },
  forget_represents (view_of c.args.self.now) (g.D.Disk.view c.args.disk.now) m c.args.conn c.forget.new.conns.items c.forget.ensures at,
)

pub returns-clause-done : goal.returns-clause-done
returns-clause-done g c now = record {
  frame = record {
    keeps = elim c.match-body.branch [
      | in-Gone w ↦ subst (λ s. Keeps (view_of c.args.self.now) (view_of s)) (sym w.self-is)
          (keeps_forget (view_of c.args.self.now) (view_of w.enter_state.new.self) c.args.conn w.forget.new.conns.items w.forget.ensures w.enter_state.ensures.frame.keeps)
      | in_default w ↦ subst (λ s. Keeps (view_of c.args.self.now) (view_of s)) (sym w.self-is) (keeps_same (view_of c.args.self.now))
    ];
    syncs = λ told m at.
        let old : DiskView = g.D.Disk.view c.args.disk.now in
        let v : KeeperView = view_of c.args.self.now in
        elim c.match-body.branch [
          | in-Gone w ↦ subst (λ s. Syncs NoLog v (view_of s) old (g.D.Disk.view c.match-body.disk)) (sym w.self-is)
              (subst (λ d. Syncs NoLog v (view_of w.enter_state.new.self) old (g.D.Disk.view d)) (sym w.disk-is)
              (noted_else NoLog v (view_of w.enter_state.new.self) w.forget.new.conns.items old (g.D.Disk.view w.enter_state.new.disk)
              (w.enter_state.ensures.frame.syncs told (record m { noting = without_conn c.args.conn m.noting }) (forget_represents v old m c.args.conn w.forget.new.conns.items w.forget.ensures at))))
          | in_default w ↦ subst (λ s. Syncs NoLog v (view_of s) old (g.D.Disk.view c.match-body.disk)) (sym w.self-is)
              (subst (λ d. Syncs NoLog v v old (g.D.Disk.view d)) (sym w.disk-is) (nothing NoLog v v old refl refl))
        ];
    does =
        let old : DiskView = (g.D.Disk.view c.args.disk.now) in
        let v : KeeperView = (view_of c.args.self.now) in
        elim c.match-body.branch [
          | in-Gone w ↦ subst (λ s. Does [] ⊥ ⊥ v (view_of s) old (g.D.Disk.view c.match-body.disk)) (sym w.self-is)
              (subst (λ d. Does [] ⊥ ⊥ v (view_of w.enter_state.new.self) old (g.D.Disk.view d)) (sym w.disk-is) (forgotten_then c.args.conn w.forget.new.conns.items w.forget.ensures w.enter_state.ensures.frame.does))
          | in_default w ↦ subst (λ s. Does [] ⊥ ⊥ v (view_of s) old (g.D.Disk.view c.match-body.disk)) (sym w.self-is)
              (subst (λ d. Does [] ⊥ ⊥ v v old (g.D.Disk.view d)) (sym w.disk-is) (does_none (λ none. none)))
        ];
  };
  named = tt;
  row = λ told m job at is (body, dead).
      let old : DiskView = g.D.Disk.view c.args.disk.now in
      let laws : Laws old = record { reads_itself = g.met.D.Disk.reads_itself told c.args.disk.now; is_now = g.met.D.Disk.is_now told c.args.disk.now; only_now = g.met.D.Disk.only_now told c.args.disk.now } in
      let v : KeeperView = view_of c.args.self.now in
      let mid : Machine = record m { noting = without_conn c.args.conn m.noting } in
      let dead' : is_dead (m.states job.conn) ≡ true = subst (λ (k : ConnId). is_dead (m.states k) ≡ true) (sym is) dead in
      elim c.match-body.branch [
        | in-Gone w ↦ subst (λ s. RowGives v now job Nothing m (view_of s) old (g.D.Disk.view c.match-body.disk)) (sym w.self-is)
            (subst (λ d. RowGives v now job Nothing m (view_of w.enter_state.new.self) old (g.D.Disk.view d)) (sym w.disk-is)
            (forgotten_row v (view_of w.enter_state.new.self) w.forget.new.conns.items now job m old (g.D.Disk.view w.enter_state.new.disk) laws dead' (body ∙ w.in-Gone.is)
            (subst (λ (k : ConnId). Left k Fresh (record v { noting = w.forget.new.conns.items }) (record m { noting = without_conn k m.noting }) (view_of w.enter_state.new.self) old (g.D.Disk.view w.enter_state.new.disk)) (sym is)
            (w.enter_state.ensures.left told mid (forget_represents v old m c.args.conn w.forget.new.conns.items w.forget.ensures at)))))
        | in_default w ↦ subst (λ s. RowGives v now job Nothing m (view_of s) old (g.D.Disk.view c.match-body.disk)) (sym w.self-is)
            (subst (λ d. RowGives v now job Nothing m v old (g.D.Disk.view d)) (sym w.disk-is) (ignored_row v now job m old laws at dead' (λ gone. w.in_default.not-Gone (sym body ∙ gone))))
      ];
}
