-- The line is written and added, and then its connection is noted, for which there is room.
use Rattle.std.proofs.Common.{◌≡◌, ◌≤◌, ◌+◌, ◌++◌, ℕ, List, true, length, vec_capacity, vec_len, refl, sym, ◌∙◌, ap, subst, arith, inl, inr, rules}
use Rattle.lsv_event.specs.Lines.{line_of}
use Rattle.lsv_session.specs.declared.connection.ConnId.{ConnId}
use Rattle.lsv_machine.specs.Machine.{note}
use Rattle.lsv_machine.specs.Work.{line_fits}
use Rattle.lsv_keeper.specs.Represents.{Represents}
use Rattle.lsv_keeper.specs.Rows.{LineFault}
use Rattle.lsv_keeper.specs.Value.{KeeperView}
use Rattle.lsv_keeper.specs.Views.{view_of}
use Rattle.lsv_keeper.proofs.AddingLines.{line_noted, note_longer}
use Rattle.lsv_keeper.proofs.Frames.{beside_none}
use Rattle.lsv_keeper.proofs.Numbering.{numbers_fit}
use Rattle.lsv_keeper.proofs.Owning.{on_ok}
use Rattle.lsv_keeper.proofs.Reporting.{if_err_as, ok_of}
use Rattle.lsv_keeper.proofs.Causes.{does_none, does_same, line_does, same_err, still}
use Rattle.lsv_request.specs.declared.refusal.Refusal.TheVariants.{DeviceFault}
use Rattle.lsv_keeper.proofs.Syncing.{unused}
use Rattle.lsv_keeper.proofs.Departing.{keeps_same}
use Rattle.lsv_keeper.proofs.keeper.Keeper.add_line.Goals as goal

pub returns-in_default-clause-frame : goal.returns-in_default-clause-frame
returns-in_default-clause-frame g c = record {
  keeps = keeps_same (view_of c.args.self.now);
  same = record { table = refl; logs = refl; numbers = refl; waiting = refl };
  noting = search rules;
  beside = λ told m at.
      let v : KeeperView = view_of c.args.self.now in
      let disk = c.args.disk.now in
      beside_none v.lane v.lanes _ (g.D.Disk.view disk) (record { reads_itself = g.met.D.Disk.reads_itself told disk; is_now = g.met.D.Disk.is_now told disk; only_now = g.met.D.Disk.only_now told disk }) (numbers_fit v (g.D.Disk.view disk) m at);
  syncs = λ told n. unused n (g.D.Disk.view c.args.disk.now);
  does = does_none (λ e. cc);
}

pub returns-then-is_err-clause-frame : goal.returns-then-is_err-clause-frame
returns-then-is_err-clause-frame g c = record {
  keeps = let long = ap length c.reserve.ensures.items in record { lane = refl; lanes = refl; log_exit = refl; kind = refl; texts = refl; room_is = omega arith; owed = omega (arith, long) };
  same = record { table = refl; logs = refl; numbers = refl; waiting = refl };
  noting = search rules;
  beside = λ told m at.
      let v : KeeperView = view_of c.args.self.now in
      let disk = c.args.disk.now in
      beside_none v.lane v.lanes _ (g.D.Disk.view disk) (record { reads_itself = g.met.D.Disk.reads_itself told disk; is_now = g.met.D.Disk.is_now told disk; only_now = g.met.D.Disk.only_now told disk }) (numbers_fit v (g.D.Disk.view disk) m at);
  syncs = λ told n. unused n (g.D.Disk.view c.args.disk.now);
  does = does_same (λ e. cc) (still (g.D.Disk.view c.args.disk.now)) refl refl refl (λ n. refl) refl c.reserve.ensures.items;
}

pub returns-in_err-stage_line-clause-frame : goal.returns-in_err-stage_line-clause-frame
returns-in_err-stage_line-clause-frame g c = record {
  keeps = let long = ap length c.reserve.ensures.items in record { lane = refl; lanes = refl; log_exit = refl; kind = refl; texts = refl; room_is = omega arith; owed = omega (arith, long) };
  same = record { table = refl; logs = refl; numbers = refl; waiting = refl };
  noting = search rules;
  beside = λ told m at. c.stage_line.ensures.frame.beside told (view_of c.args.self.now) m refl refl at;
  syncs = c.stage_line.ensures.frame.syncs;
  does = line_does (λ e. same_err c.from_residual.result c.in_err-stage_line.field-0.0 DeviceFault c.from_residual.ensures.1 e) (record { table = refl; logs = refl; numbers = refl; waiting = refl }) c.in_err-stage_line.ensures.frame.does (inl c.reserve.ensures.items);
}

pub returns-in_err-stage_line-clause-refused : goal.returns-in_err-stage_line-clause-refused
returns-in_err-stage_line-clause-refused g c told =
    let v : KeeperView = view_of c.args.self.now in
    let old = g.D.Disk.view c.args.disk.now in
    let new = g.D.Disk.view c.stage_line.new.disk in
    let line_is : c.as_slice.result.now ≡ line_of v.kind c.args.event.now = c.as_slice.ensures ∙ c.in-Ok.ensures in
    if_err_as _ c.from_residual.result c.in_err-stage_line.field-0.0 c.from_residual.ensures.1 (λ m at.
    let r = c.in_err-stage_line.ensures.refused told v m refl refl at in (
      subst (λ (x : List ℕ). LineFault v.lane x m c.in_err-stage_line.field-0.0 old new) line_is r.0,
      subst (λ (ns : List ConnId). Represents (record v { events = c.stage_line.new.events; noting = ns }) new m) (sym c.reserve.ensures.items) r.1,
    ))

pub returns-clause-frame : goal.returns-clause-frame
returns-clause-frame g c = record {
  keeps =
      let room : vec_len c.reserve.new.self + 1 ≤ vec_capacity c.reserve.new.self = on_ok _ c.reserve.result (ok_of c.reserve.result c.is_err.result c.if-is_err.false c.is_err.ensures.negation) c.reserve.ensures.ok in
      let noted : c.note.new.conns.items ≡ note c.args.conn c.reserve.new.self.items = on_ok _ c.note.result (c.note.ensures.room (omega arith)) c.note.ensures.noted in
      let long = ap length (noted ∙ ap (note c.args.conn) c.reserve.ensures.items) in
      let most = note_longer c.args.conn c.args.self.now.noting.items in
      record { lane = refl; lanes = refl; log_exit = refl; kind = refl; texts = refl; room_is = omega arith; owed = omega (arith, long, most) };
  same = record { table = refl; logs = refl; numbers = refl; waiting = refl };
  noting = search rules;
  beside = λ told m at. c.stage_line.ensures.frame.beside told (view_of c.args.self.now) m refl refl at;
  syncs = c.stage_line.ensures.frame.syncs;
  does =
      let room : vec_len c.reserve.new.self + 1 ≤ vec_capacity c.reserve.new.self = on_ok _ c.reserve.result (ok_of c.reserve.result c.is_err.result c.if-is_err.false c.is_err.ensures.negation) c.reserve.ensures.ok in
      let noted : c.note.new.conns.items ≡ note c.args.conn c.reserve.new.self.items = on_ok _ c.note.result (c.note.ensures.room (omega arith)) c.note.ensures.noted in
      line_does (λ e. absurd (cc)) (record { table = refl; logs = refl; numbers = refl; waiting = refl }) c.in_ok-stage_line.ensures.frame.does (inr (noted ∙ ap (note c.args.conn) c.reserve.ensures.items));
}

pub returns-clause-added : goal.returns-clause-added
returns-clause-added g c told m at =
    let v : KeeperView = view_of c.args.self.now in
    let new = g.D.Disk.view c.stage_line.new.disk in
    let room : vec_len c.reserve.new.self + 1 ≤ vec_capacity c.reserve.new.self = on_ok _ c.reserve.result (ok_of c.reserve.result c.is_err.result c.if-is_err.false c.is_err.ensures.negation) c.reserve.ensures.ok in
    let noted : c.note.new.conns.items ≡ note c.args.conn c.reserve.new.self.items = on_ok _ c.note.result (c.note.ensures.room (omega arith)) c.note.ensures.noted in
    let line_is : c.as_slice.result.now ≡ line_of v.kind c.args.event.now = c.as_slice.ensures ∙ c.in-Ok.ensures in
    let r = c.in_ok-stage_line.ensures.added told v m refl refl at in
    let its : Represents (record v { events = c.stage_line.new.events; noting = note c.args.conn v.noting }) new (record m { fresh = m.fresh ++ c.as_slice.result.now; noting = note c.args.conn m.noting }) =
    line_noted (record v { events = c.stage_line.new.events }) new (record m { fresh = m.fresh ++ c.as_slice.result.now }) c.args.conn c.in_ok-stage_line.ensures.whole r.1 in (
      subst (λ (x : List ℕ). line_fits x m ≡ true) line_is r.0,
      subst (λ (ns : List ConnId). Represents (record v { events = c.stage_line.new.events; noting = ns }) new (record m { fresh = m.fresh ++ line_of v.kind c.args.event.now; noting = note c.args.conn m.noting })) (sym (noted ∙ ap (note c.args.conn) c.reserve.ensures.items))
          (subst (λ (x : List ℕ). Represents (record v { events = c.stage_line.new.events; noting = note c.args.conn v.noting }) new (record m { fresh = m.fresh ++ x; noting = note c.args.conn m.noting })) line_is its),
    )
