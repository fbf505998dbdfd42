use Rattle.std.proofs.Common.{◌≡◌, ℕ, List, length, sym, ◌∙◌, ap, arith, refl, inl, [], subst}
use Rattle.std.specs.Global.{Vec}
use Rattle.lsv_base.specs.declared.log_no.LogNo.{LogNo}
use Rattle.lsv_keeper.specs.Replies.{room_in}
use Rattle.lsv_keeper.specs.Tails.{none_waits}
use Rattle.lsv_keeper.specs.Views.{view_of}
use Rattle.lsv_keeper.proofs.TailLoops.{flushing_ends, flushing_on, flushing_start}
use Rattle.lsv_keeper.proofs.Syncing.{unused, waiting_ends, waiting_on}
use Rattle.lsv_keeper.proofs.Causes.{all_at, does_none, does_then, rose_first, rose_second, unwaiting_then}
use Rattle.lsv_keeper.proofs.Saying.{says_as, says_none, says_then}
use Rattle.lsv_keeper.specs.Causes.{Does, IsAmong, StoreRose, Waits}
use Rattle.std.specs.List.{AllByRecursion}
use Rattle.lsv_keeper.specs.Value.{KeeperView}
use Rattle.lsv_keeper.proofs.keeper.Keeper.flush_logs.Goals as goal

pub loop-number-init : goal.loop-number-init
loop-number-init g c = record {
  flushing = flushing_start g.D.Disk.tells c.deref-number-items.result.now (view_of c.args.self.now) (view_of (record c.args.self.now { waiting = c.replace-waiting.new.dest })) (room_in c.args.out.now) c.args.out.now.items (g.D.Disk.view c.args.disk.now)
      (λ told. record { reads_itself = g.met.D.Disk.reads_itself told c.args.disk.now; is_now = g.met.D.Disk.is_now told c.args.disk.now; only_now = g.met.D.Disk.only_now told c.args.disk.now })
      (ap (λ (w : List ℕ). record (view_of c.args.self.now) { waiting = w }) (ap (λ (x : Vec LogNo). x.items) c.replace-waiting.ensures.after ∙ c.new.ensures.items))
      (ap (λ (x : Vec LogNo). x.items) (sym c.replace-waiting.ensures.value) ∙ sym c.deref-number-items.ensures.value);
  synced = λ told m at n. inl (unused n (g.D.Disk.view c.args.disk.now));
  kept = subst (λ (x : KeeperView). Does [] ⊥ ⊥ (record (view_of c.args.self.now) { waiting = [] }) x (g.D.Disk.view c.args.disk.now) (g.D.Disk.view c.args.disk.now)) (sym (ap (λ (w : List ℕ). record (view_of c.args.self.now) { waiting = w }) (ap (λ (x : Vec LogNo). x.items) c.replace-waiting.ensures.after ∙ c.new.ensures.items))) (does_none (λ none. none));
  waits = λ p n it. it;
  says = λ p all whole. says_none (IsAmong p) _ c.args.out.now.items;
}

pub flush_log-requires-clause-stands : goal.flush_log-requires-clause-stands
flush_log-requires-clause-stands g c = λ told. let at = c.requires.stands told in let d = c.loop-number.invariant.flushing.logs told at.0 at.1 in (none_waits d.gives.after, d.gives.represents)

pub flush_log-requires-clause-none_waits : goal.flush_log-requires-clause-none_waits
flush_log-requires-clause-none_waits g c = c.loop-number.invariant.flushing.none

pub flush_log-requires-clause-places : goal.flush_log-requires-clause-places
flush_log-requires-clause-places g c =
    let is : c.args.self.now.waiting.items ≡ c.deref-number-items.result.now = (ap (λ (x : Vec LogNo). x.items) (sym c.replace-waiting.ensures.value) ∙ sym c.deref-number-items.ensures.value) in
    let e : length c.args.self.now.waiting.items ≡ length c.deref-number-items.result.now = ap length is in
    omega (arith, c.loop-number.invariant.flushing.places, c.requires.places, c.loop-number-test.true, e)

pub flush_log-requires-clause-replies : goal.flush_log-requires-clause-replies
flush_log-requires-clause-replies g c =
    let is : c.args.self.now.waiting.items ≡ c.deref-number-items.result.now = (ap (λ (x : Vec LogNo). x.items) (sym c.replace-waiting.ensures.value) ∙ sym c.deref-number-items.ensures.value) in
    let e : length c.args.self.now.waiting.items ≡ length c.deref-number-items.result.now = ap length is in
    omega (arith, c.loop-number.invariant.flushing.replies, c.requires.replies, c.loop-number-test.true, e)

pub loop-number-preserved : goal.loop-number-preserved
loop-number-preserved g c = record {
  flushing = flushing_on g.D.Disk.tells c.loop-number.number-index c.number-item.result c.deref-number-items.result.now (view_of c.args.self.now) (view_of c.loop-number.self) (view_of c.flush_log.new.self) (room_in c.args.out.now) (room_in c.loop-number.out) (room_in c.flush_log.new.out)
      c.args.out.now.items c.loop-number.out.items c.flush_log.new.out.items (g.D.Disk.view c.args.disk.now) (g.D.Disk.view c.loop-number.disk) (g.D.Disk.view c.flush_log.new.disk) (ap (λ (x : Vec LogNo). x.items) (sym c.replace-waiting.ensures.value) ∙ sym c.deref-number-items.ensures.value) c.loop-number-test.true c.number-item.is
      c.loop-number.invariant.flushing c.flush_log.ensures.frame.set c.flush_log.ensures.frame.waiting c.flush_log.ensures.frame.noting c.flush_log.ensures.frame.places c.flush_log.ensures.frame.replies c.flush_log.ensures.log;
  synced = λ told m at. waiting_on g.D.Disk.tells c.loop-number.number-index c.number-item.result c.deref-number-items.result.now (view_of c.args.self.now) (view_of c.loop-number.self) (room_in c.args.out.now) (room_in c.loop-number.out) c.args.out.now.items c.loop-number.out.items
      (g.D.Disk.view c.args.disk.now) (g.D.Disk.view c.loop-number.disk) (g.D.Disk.view c.flush_log.new.disk) (ap (λ (x : Vec LogNo). x.items) (sym c.replace-waiting.ensures.value) ∙ sym c.deref-number-items.ensures.value) c.loop-number-test.true c.number-item.is
      c.loop-number.invariant.flushing told m at (c.loop-number.invariant.synced told m at) (λ after k rep own. c.flush_log.ensures.frame.syncs told after k rep own);
  kept = does_then (λ none. absurd none) c.loop-number.invariant.kept c.flush_log.ensures.frame.does;
  waits = λ p n it. c.flush_log.ensures.frame.waits p n (c.loop-number.invariant.waits p n it);
  says = λ p all whole.
      let its = all_at (Waits p (view_of c.args.self.now)) c.deref-number-items.result.now c.loop-number.number-index c.number-item.result c.loop-number-test.true c.number-item.is all in
      says_then (IsAmong p) (λ j. StoreRose (g.D.Disk.view c.args.disk.now) (g.D.Disk.view c.flush_log.new.disk)) c.args.out.now.items c.loop-number.out.items c.flush_log.new.out.items
      (says_as (IsAmong p) (IsAmong p) (λ j. StoreRose (g.D.Disk.view c.args.disk.now) (g.D.Disk.view c.loop-number.disk)) (λ j. StoreRose (g.D.Disk.view c.args.disk.now) (g.D.Disk.view c.flush_log.new.disk)) c.args.out.now.items c.loop-number.out.items (λ k is. is) (λ k is rose. rose_first (g.D.Disk.view c.args.disk.now) (g.D.Disk.view c.loop-number.disk) (g.D.Disk.view c.flush_log.new.disk) rose c.flush_log.ensures.frame.does.monotone) (c.loop-number.invariant.says p all whole))
      (says_as (IsAmong p) (IsAmong p) (λ j. StoreRose (g.D.Disk.view c.loop-number.disk) (g.D.Disk.view c.flush_log.new.disk)) (λ j. StoreRose (g.D.Disk.view c.args.disk.now) (g.D.Disk.view c.flush_log.new.disk)) c.loop-number.out.items c.flush_log.new.out.items (λ k is. is) (λ k is rose. rose_second (g.D.Disk.view c.args.disk.now) (g.D.Disk.view c.loop-number.disk) (g.D.Disk.view c.flush_log.new.disk) c.loop-number.invariant.kept.monotone rose)
      (c.flush_log.ensures.says p (c.loop-number.invariant.waits p c.number-item.result its) (c.loop-number.invariant.kept.whole whole)));
}

pub returns-clause-frame : goal.returns-clause-frame
returns-clause-frame g c = record {
  set = c.loop-number.invariant.flushing.set;
  none = c.loop-number.invariant.flushing.none;
  noting = c.loop-number.invariant.flushing.noting;
  syncs =
      λ told m at. waiting_ends c.deref-number-items.result.now (view_of c.args.self.now) m (g.D.Disk.view c.args.disk.now) (g.D.Disk.view c.loop-number.disk) c.loop-number.number-index (omega (arith, c.loop-number-test.false, c.loop-number.auto.number-index-end))
      (ap (λ (x : Vec LogNo). x.items) (sym c.replace-waiting.ensures.value) ∙ sym c.deref-number-items.ensures.value) at (c.loop-number.invariant.synced told m at);
  does =
      unwaiting_then ⊥ (view_of c.args.self.now) (record (view_of c.args.self.now) { waiting = [] }) (view_of c.loop-number.self) (g.D.Disk.view c.args.disk.now) (g.D.Disk.view c.loop-number.disk) refl c.loop-number.invariant.kept;
}

pub returns-clause-logs : goal.returns-clause-logs
returns-clause-logs g c = λ told m at. flushing_ends g.D.Disk.tells c.deref-number-items.result.now (view_of c.args.self.now) (view_of c.loop-number.self) (room_in c.args.out.now) (room_in c.loop-number.out) c.args.out.now.items c.loop-number.out.items
    (g.D.Disk.view c.args.disk.now) (g.D.Disk.view c.loop-number.disk) c.loop-number.number-index (omega (arith, c.loop-number-test.false, c.loop-number.auto.number-index-end)) (ap (λ (x : Vec LogNo). x.items) (sym c.replace-waiting.ensures.value) ∙ sym c.deref-number-items.ensures.value) c.loop-number.invariant.flushing told m at

-- ---- Over every disk

pub returns-clause-says : goal.returns-clause-says
returns-clause-says g c p s whole = c.loop-number.invariant.says p (subst (AllByRecursion (Waits p (view_of c.args.self.now))) (ap (λ (x : Vec LogNo). x.items) (sym c.replace-waiting.ensures.value) ∙ sym c.deref-number-items.ensures.value) s.waits) whole
