use Rattle.std.proofs.Common.{◌≡◌, ◌∙◌, arith, ap, refl, subst, sym}
use Rattle.std.specs.Prelude.{false}
use Rattle.lsv_disk.specs.View.{DiskView}
use Rattle.lsv_session.specs.declared.connection.ConnId.{ConnId}
use Rattle.lsv_session.specs.declared.connection.ConnState.TheVariants.{Dead}
use Rattle.lsv_machine.specs.Answers.{refusal}
use Rattle.lsv_machine.specs.History.{is_look}
use Rattle.lsv_machine.specs.Machine.{is_dead}
use Rattle.lsv_machine.specs.Work.{refused}
use Rattle.lsv_keeper.specs.Rows.{Left}
use Rattle.lsv_keeper.specs.Value.{sessions_of}
use Rattle.lsv_keeper.specs.Views.{view_of}
use Rattle.lsv_keeper.proofs.Departing.{room_one}
use Rattle.lsv_keeper.proofs.Frames.{Laws}
use Rattle.lsv_keeper.proofs.Leaving.{refused_row}
use Rattle.lsv_keeper.proofs.keeper.Keeper.refuse.Goals as goal

pub enter_state-requires : goal.enter_state-requires
enter_state-requires g c = record {
  stands = c.requires.stands;
  writes_none = refl;
  room = let x = room_one ((sessions_of (view_of c.args.self.now)).states c.args.conn) Dead in let y = c.requires.room in omega arith;
}

pub returns-clause-done : goal.returns-clause-done
returns-clause-done g c now = record {
  frame = c.enter_state.ensures.frame;
  named = tt;
  row = λ told m job at is (alive, look, plain).
      let old : DiskView = g.D.Disk.view c.args.disk.now in
      let new : DiskView = g.D.Disk.view c.enter_state.new.disk in
      let laws : Laws old = record { reads_itself = g.met.D.Disk.reads_itself told c.args.disk.now; is_now = g.met.D.Disk.is_now told c.args.disk.now; only_now = g.met.D.Disk.only_now told c.args.disk.now } in
      refused_row (view_of c.args.self.now) (view_of c.enter_state.new.self) now job c.args.why m old new laws at
      (subst (λ (k : ConnId). is_dead (m.states k) ≡ false) (sym is) alive)
      (subst (λ (k : ConnId). is_look (refusal k c.args.why) ≡ false) (sym is) look)
      (λ n. plain n ∙ ap (λ (k : ConnId). refused k c.args.why m) (sym is))
      (subst (λ (k : ConnId). Left k Dead (view_of c.args.self.now) m (view_of c.enter_state.new.self) old new) (sym is) (c.enter_state.ensures.left told m at));
}
