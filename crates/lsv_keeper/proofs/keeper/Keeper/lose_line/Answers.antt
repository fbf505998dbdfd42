use Rattle.std.proofs.Common.{◌≡◌, refl, sym, ◌∙◌, ap, arith}
use Rattle.std.specs.Prelude.{false}
use Rattle.lsv_session.specs.declared.connection.ConnState.{ConnState}
use Rattle.lsv_session.specs.declared.connection.ConnState.TheVariants.{Fresh, Greeted, Alerted, Running, Dead}
use Rattle.lsv_machine.specs.Machine.{is_dead}
use Rattle.lsv_keeper.specs.Views.{view_of}
use Rattle.lsv_keeper.proofs.TailRefusals.{refuses_no_more, refuses_one}
use Rattle.lsv_keeper.proofs.Causes.{does_none}
use Rattle.lsv_keeper.proofs.Saying.{says_as, says_none, says_told}
use Rattle.lsv_request.specs.declared.refusal.Refusal.TheVariants.{DeviceFault}
use Rattle.lsv_keeper.specs.declared.outcome.Outcome.TheVariants as outcome
use Rattle.lsv_keeper.proofs.Syncing.{nothing}
use Rattle.lsv_keeper.specs.Syncing.{NoLog}
use Rattle.lsv_keeper.proofs.keeper.Keeper.lose_line.Goals as goal

living : (s : ConnState) → (s ≡ Dead → ⊥) → is_dead s ≡ false
living Fresh ne = refl
living Greeted ne = refl
living Alerted ne = refl
living (Running log) ne = refl
living Dead ne = absurd (ne refl)

pub returns-in-Dead-clause-refused : goal.returns-in-Dead-clause-refused
returns-in-Dead-clause-refused g c = λ told m at. refuses_no_more c.args.conn (view_of c.args.self.now) m (g.D.Disk.view c.args.disk.now) c.args.out.now.items
    (record { reads_itself = g.met.D.Disk.reads_itself told c.args.disk.now; is_now = g.met.D.Disk.is_now told c.args.disk.now; only_now = g.met.D.Disk.only_now told c.args.disk.now }) at
    (ap is_dead (at.states c.args.conn ∙ sym c.state.ensures ∙ c.in-Dead.is))

pub returns-clause-frame : goal.returns-clause-frame
returns-clause-frame g c = record {
  set = let k = c.enter_state.ensures.frame.keeps in record { lane = k.lane; lanes = k.lanes; log_exit = k.log_exit; kind = k.kind; texts = k.texts };
  noting = c.enter_state.ensures.enters.noting;
  fewer = c.enter_state.ensures.enters.fewer;
  places = c.enter_state.ensures.frame.keeps.room_is;
  replies = let r = c.put_replies.ensures.room in omega (arith, r);
  syncs = c.enter_state.ensures.frame.syncs;
  does = c.enter_state.ensures.frame.does;
}

pub returns-clause-refused : goal.returns-clause-refused
returns-clause-refused g c = λ told m at. refuses_one c.args.conn (view_of c.args.self.now) (view_of c.enter_state.new.self) m (g.D.Disk.view c.args.disk.now) (g.D.Disk.view c.enter_state.new.disk) c.args.out.now.items c.put_replies.new.out.items c.put_replies.ensures.answers
    (record { reads_itself = g.met.D.Disk.reads_itself told c.args.disk.now; is_now = g.met.D.Disk.is_now told c.args.disk.now; only_now = g.met.D.Disk.only_now told c.args.disk.now }) at
    (living (m.states c.args.conn) (λ e. c.in_default.not-Dead (c.state.ensures ∙ sym (at.states c.args.conn) ∙ e))) (c.enter_state.ensures.left told m at) c.put_replies.ensures.says c.put_replies.ensures.items

pub returns-in-Dead-clause-frame : goal.returns-in-Dead-clause-frame
returns-in-Dead-clause-frame g c = record {
  set = record { lane = refl; lanes = refl; log_exit = refl; kind = refl; texts = refl };
  noting = refl;
  fewer = omega arith;
  places = omega arith;
  replies = omega arith;
  syncs = λ told m at. nothing NoLog (view_of c.args.self.now) (view_of c.args.self.now) (g.D.Disk.view c.args.disk.now) refl refl;
  does = does_none (λ none. none);
}

pub returns-in-Dead-clause-says : goal.returns-in-Dead-clause-says
returns-in-Dead-clause-says g c = says_none _ (λ k. Unit {0}) c.args.out.now.items

pub returns-clause-says : goal.returns-clause-says
returns-clause-says g c =
    let t = c.put_replies.ensures in
    says_as (λ j. j ≡ c.args.conn) (λ j. j ≡ c.args.conn) _ (λ k. Unit {0}) c.args.out.now.items c.put_replies.new.out.items (λ j is. is) (λ j is e. tt) (says_told c.args.conn (outcome.Refused DeviceFault) t.answers c.args.out.now.items c.put_replies.new.out.items t.says t.items)
