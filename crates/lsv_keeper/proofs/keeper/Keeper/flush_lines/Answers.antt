use Rattle.std.proofs.Common.{◌≡◌, List, [], sym, ◌∙◌, ap, subst, Err, refl, inl, inr, arith}
use Rattle.lsv_bundle.specs.declared.fault.BundleFault.TheVariants as faults
use Rattle.lsv_eventlog.specs.Value.{EventLogView}
use Rattle.lsv_session.specs.declared.connection.ConnId.{ConnId}
use Rattle.lsv_machine.specs.Machine.{Machine}
use Rattle.lsv_machine.specs.Turns.{with_lines}
use Rattle.lsv_keeper.specs.Represents.{Represents}
use Rattle.lsv_keeper.specs.Tails.{LinesGive}
use Rattle.lsv_keeper.specs.Views.{view_of}
use Rattle.lsv_keeper.specs.Syncing.{NoLog}
use Rattle.lsv_keeper.proofs.FlushEnds.{flush_lost, flush_written, unbroken}
use Rattle.lsv_keeper.proofs.TailLines.{EventsFailed, lines_none, lines_refused}
use Rattle.lsv_keeper.proofs.Syncing.{events_else, followed, lines_flushed, quiet}
use Rattle.lsv_keeper.proofs.Causes.{flushed_does, does_then, own_rose, rose_first}
use Rattle.lsv_keeper.proofs.Saying.{says_none, says_as}
use Rattle.std.specs.Prelude.{true, false}
use Rattle.lsv_keeper.specs.Causes.{IsAmong, StoreRose}
use Rattle.lsv_eventlog.specs.Recovered.{IsOfEventLog}
use Rattle.lsv_eventlog.proofs.Laws.{of_lane}
use Rattle.lsv_keeper.proofs.keeper.Keeper.flush_lines.Goals as goal

pub returns-in_default-clause-lines : goal.returns-in_default-clause-lines
returns-in_default-clause-lines g c = λ told m at.
    let e = c.in_default.ensures in
    let before = unbroken c.args.self.now.events.bundle.is_broken (λ b. c.in_default.not-Err faults.Broken (c.flush.ensures.broken.1 b)) in
    subst (λ (w : List ConnId). LinesGive (view_of c.args.self.now) m c.args.out.now.items c.args.out.now.items (record (view_of c.args.self.now) { events = c.flush.new.self; noting = w }) (g.D.Disk.view c.args.disk.now) (g.D.Disk.view c.flush.new.disk)) (sym c.clear.ensures.items)
    (flush_written (view_of c.args.self.now) c.flush.new.self m (g.D.Disk.view c.args.disk.now) (g.D.Disk.view c.flush.new.disk) c.args.out.now.items
    (record { reads_itself = g.met.D.Disk.reads_itself told c.args.disk.now; is_now = g.met.D.Disk.is_now told c.args.disk.now; only_now = g.met.D.Disk.only_now told c.args.disk.now })
    (record { reads_itself = g.met.D.Disk.reads_itself told c.flush.new.disk; is_now = g.met.D.Disk.is_now told c.flush.new.disk; only_now = g.met.D.Disk.only_now told c.flush.new.disk })
    at before (e.any_moment told before) (e.acknowledged told) e.value.lane e.sound e.whole (e.represents told e.whole) (e.committed told) e.none_left e.cause.monotone)

lost_at : (g : _) (c : goal.After-lose_lines-arg-in_default-fault-2-1 g) → g.D.Disk.tells → (m : Machine) → Represents (view_of c.args.self.now) (g.D.Disk.view c.args.disk.now) m
    → EventsFailed (view_of c.args.self.now) c.flush.new.self m (g.D.Disk.view c.args.disk.now) (g.D.Disk.view c.flush.new.disk)
lost_at g c told m at = flush_lost (view_of c.args.self.now) c.flush.new.self m (g.D.Disk.view c.args.disk.now) (g.D.Disk.view c.flush.new.disk) c.flush.result c.in-Err.fault
    (record { reads_itself = g.met.D.Disk.reads_itself told c.args.disk.now; is_now = g.met.D.Disk.is_now told c.args.disk.now; only_now = g.met.D.Disk.only_now told c.args.disk.now })
    (record { reads_itself = g.met.D.Disk.reads_itself told c.flush.new.disk; is_now = g.met.D.Disk.is_now told c.flush.new.disk; only_now = g.met.D.Disk.only_now told c.flush.new.disk })
    at c.in-Err.is c.in_default-fault.not-Broken c.in-Err.ensures.fault c.flush.ensures.broken c.flush.ensures.disk (c.flush.ensures.any_moment told) c.in-Err.ensures.kept.lane c.flush.ensures.sound c.flush.ensures.cause

pub lose_lines-requires : goal.lose_lines-requires
lose_lines-requires g c = record {
  stands = λ told. let at = c.requires.stands told in let f = lost_at g c told at.0 at.1 in (with_lines f.wrote at.0, f.represents);
  places = c.requires.places;
  replies = c.requires.replies;
}

pub returns-in-Broken-clause-lines : goal.returns-in-Broken-clause-lines
returns-in-Broken-clause-lines g c = λ told m at.
    let is : c.flush.result ≡ Err faults.Broken = c.in-Err.is ∙ ap Err c.in-Broken.is in
    let same = c.flush.ensures.untouched is in
    let v = view_of c.args.self.now in
    let said = c.args.out.now.items in
    let old = g.D.Disk.view c.args.disk.now in
    let gives = lines_none v m old said
    (record { reads_itself = g.met.D.Disk.reads_itself told c.args.disk.now; is_now = g.met.D.Disk.is_now told c.args.disk.now; only_now = g.met.D.Disk.only_now told c.args.disk.now })
    at (c.flush.ensures.broken.0 is) in
    let there = subst (λ d. LinesGive v m said said (record v { noting = [] }) old (g.D.Disk.view d)) (sym same.1) gives in
    let log = subst (λ (e : EventLogView). LinesGive v m said said (record v { events = e; noting = [] }) old (g.D.Disk.view c.flush.new.disk)) (sym same.0) there in
    subst (λ (w : List ConnId). LinesGive v m said said (record v { events = c.flush.new.self; noting = w }) old (g.D.Disk.view c.flush.new.disk)) (sym c.clear-in-Broken.ensures.items) log

pub returns-in_default-fault : goal.returns-in_default-fault
returns-in_default-fault g c = record {
  frame = record {
    set = let s = c.lose_lines.ensures.frame.set in record { lane = s.lane; lanes = s.lanes; log_exit = s.log_exit; kind = s.kind; texts = s.texts };
    noting = c.lose_lines.ensures.frame.noting;
    fewer = c.lose_lines.ensures.frame.fewer;
    places = c.lose_lines.ensures.frame.places;
    replies = c.lose_lines.ensures.frame.replies;
    syncs = λ told m at.
        let v = view_of c.args.self.now in
        let old = g.D.Disk.view c.args.disk.now in
        let mid = g.D.Disk.view c.flush.new.disk in
        let f = flush_lost (view_of c.args.self.now) c.flush.new.self m (g.D.Disk.view c.args.disk.now) (g.D.Disk.view c.flush.new.disk) c.flush.result c.in-Err.fault
        (record { reads_itself = g.met.D.Disk.reads_itself told c.args.disk.now; is_now = g.met.D.Disk.is_now told c.args.disk.now; only_now = g.met.D.Disk.only_now told c.args.disk.now })
        (record { reads_itself = g.met.D.Disk.reads_itself told c.flush.new.disk; is_now = g.met.D.Disk.is_now told c.flush.new.disk; only_now = g.met.D.Disk.only_now told c.flush.new.disk })
        at c.in-Err.is c.in_default-fault.not-Broken c.in-Err.ensures.fault c.flush.ensures.broken c.flush.ensures.disk (c.flush.ensures.any_moment told) c.in-Err.ensures.kept.lane c.flush.ensures.sound c.flush.ensures.cause in
        let flushed = quiet NoLog v v old mid refl (λ n. refl) (lines_flushed v.events.lane v.events.bundle old mid at.events.sound.owner (c.flush.ensures.calls told)) in
        followed NoLog v v (view_of c.lose_lines.new.self) old mid (g.D.Disk.view c.lose_lines.new.disk) flushed
        (events_else NoLog v (view_of c.lose_lines.new.self) c.flush.new.self mid (g.D.Disk.view c.lose_lines.new.disk) (let t = c.lose_lines.ensures.frame.syncs told (with_lines f.wrote m) f.represents in record { past = t.past; each = t.each }));
    does =
        let old = g.D.Disk.view c.args.disk.now in
        let mid = g.D.Disk.view c.flush.new.disk in
        let disk_it : c.in-Err.fault ≡ faults.Disk = elim c.in-Err.ensures.fault [ inl is ↦ is | inr is ↦ absurd (c.in_default-fault.not-Broken is) ] in
        let rose : StoreRose old mid = own_rose (IsOfEventLog c.args.self.now.events.lane) _ old mid (λ file own. inr (inr (c.args.self.now.events.lane, of_lane c.args.self.now.events.lane file own))) c.flush.ensures.cause (c.in-Err.is ∙ ap Err disk_it) in
        does_then (λ none. absurd none) (flushed_does (view_of c.args.self.now) c.flush.new.self [] old mid c.flush.ensures.cause.monotone (λ broken. inr rose) refl) c.lose_lines.ensures.frame.does;
  };
  says = λ p s.
      let old = g.D.Disk.view c.args.disk.now in
      let mid = g.D.Disk.view c.flush.new.disk in
      let disk_it : c.in-Err.fault ≡ faults.Disk = elim c.in-Err.ensures.fault [ inl is ↦ is | inr is ↦ absurd (c.in_default-fault.not-Broken is) ] in
      let rose : StoreRose old mid = own_rose (IsOfEventLog c.args.self.now.events.lane) _ old mid (λ file own. inr (inr (c.args.self.now.events.lane, of_lane c.args.self.now.events.lane file own))) c.flush.ensures.cause (c.in-Err.is ∙ ap Err disk_it) in
      says_as (IsAmong p) (IsAmong p) (λ k. Unit {0}) (λ k. StoreRose old (g.D.Disk.view c.lose_lines.new.disk)) c.args.out.now.items c.lose_lines.new.out.items (λ k is. is) (λ k is t. rose_first old mid (g.D.Disk.view c.lose_lines.new.disk) rose c.lose_lines.ensures.frame.does.monotone) (c.lose_lines.ensures.says p s.notes);
  lines = λ told m at.
      let f = flush_lost (view_of c.args.self.now) c.flush.new.self m (g.D.Disk.view c.args.disk.now) (g.D.Disk.view c.flush.new.disk) c.flush.result c.in-Err.fault
      (record { reads_itself = g.met.D.Disk.reads_itself told c.args.disk.now; is_now = g.met.D.Disk.is_now told c.args.disk.now; only_now = g.met.D.Disk.only_now told c.args.disk.now })
      (record { reads_itself = g.met.D.Disk.reads_itself told c.flush.new.disk; is_now = g.met.D.Disk.is_now told c.flush.new.disk; only_now = g.met.D.Disk.only_now told c.flush.new.disk })
      at c.in-Err.is c.in_default-fault.not-Broken c.in-Err.ensures.fault c.flush.ensures.broken c.flush.ensures.disk (c.flush.ensures.any_moment told) c.in-Err.ensures.kept.lane c.flush.ensures.sound c.flush.ensures.cause in
      lines_refused (view_of c.args.self.now) (view_of c.lose_lines.new.self) c.flush.new.self m (g.D.Disk.view c.args.disk.now) (g.D.Disk.view c.flush.new.disk) (g.D.Disk.view c.lose_lines.new.disk) c.args.out.now.items c.lose_lines.new.out.items
      f at.noting (c.lose_lines.ensures.refused told (with_lines f.wrote m) f.represents);
}

pub returns-in_default-clause-frame : goal.returns-in_default-clause-frame
returns-in_default-clause-frame g c = record {
  set = record { lane = refl; lanes = refl; log_exit = refl; kind = refl; texts = refl };
  noting = c.clear.ensures.items;
  fewer = omega arith;
  places = omega arith;
  replies = omega arith;
  syncs = λ told m at.
      quiet NoLog (view_of c.args.self.now) _ (g.D.Disk.view c.args.disk.now) (g.D.Disk.view c.flush.new.disk) refl (λ n. refl)
      (lines_flushed (view_of c.args.self.now).events.lane (view_of c.args.self.now).events.bundle (g.D.Disk.view c.args.disk.now) (g.D.Disk.view c.flush.new.disk) at.events.sound.owner (c.flush.ensures.calls told));
  does = flushed_does (view_of c.args.self.now) c.flush.new.self c.clear.new.self.items (g.D.Disk.view c.args.disk.now) (g.D.Disk.view c.flush.new.disk) c.in_default.ensures.cause.monotone (λ broken. let q : true ≡ false = sym broken ∙ c.in_default.ensures.whole in absurd (cc)) c.clear.ensures.items;
}

pub returns-in-Broken-clause-frame : goal.returns-in-Broken-clause-frame
returns-in-Broken-clause-frame g c = record {
  set = record { lane = refl; lanes = refl; log_exit = refl; kind = refl; texts = refl };
  noting = c.clear-in-Broken.ensures.items;
  fewer = omega arith;
  places = omega arith;
  replies = omega arith;
  syncs = λ told m at.
      quiet NoLog (view_of c.args.self.now) _ (g.D.Disk.view c.args.disk.now) (g.D.Disk.view c.flush.new.disk) refl (λ n. refl)
      (lines_flushed (view_of c.args.self.now).events.lane (view_of c.args.self.now).events.bundle (g.D.Disk.view c.args.disk.now) (g.D.Disk.view c.flush.new.disk) at.events.sound.owner (c.flush.ensures.calls told));
  does =
      flushed_does (view_of c.args.self.now) c.flush.new.self c.clear-in-Broken.new.self.items (g.D.Disk.view c.args.disk.now) (g.D.Disk.view c.flush.new.disk) c.flush.ensures.cause.monotone (λ broken. inl (c.flush.ensures.broken.0 (c.in-Err.is ∙ ap Err c.in-Broken.is))) c.clear-in-Broken.ensures.items;
}

-- ---- Over every disk

pub returns-in_default-clause-says : goal.returns-in_default-clause-says
returns-in_default-clause-says g c p s = says_none (IsAmong p) _ c.args.out.now.items

pub returns-in-Broken-clause-says : goal.returns-in-Broken-clause-says
returns-in-Broken-clause-says g c p s = says_none (IsAmong p) _ c.args.out.now.items
