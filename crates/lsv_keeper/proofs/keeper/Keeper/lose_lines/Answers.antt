use Rattle.std.proofs.Common.{◌≡◌, List, length, sym, ◌∙◌, ap, arith, refl, [], subst}
use Rattle.std.proofs.lemmas.List.{get_or_default}
use Rattle.std.specs.Global.{Vec}
use Rattle.lsv_session.specs.declared.connection.ConnId.{ConnId}
use Rattle.lsv_keeper.specs.Replies.{room_in}
use Rattle.lsv_keeper.specs.Views.{view_of}
use Rattle.lsv_keeper.specs.Syncing.{NoLog}
use Rattle.lsv_keeper.proofs.TailRefusals.{refusing_ends, refusing_on, refusing_start}
use Rattle.lsv_keeper.proofs.Syncing.{followed, nothing}
use Rattle.lsv_keeper.proofs.Causes.{all_at, does_none, does_then}
use Rattle.lsv_keeper.proofs.Saying.{says_as, says_none, says_then}
use Rattle.lsv_keeper.specs.Causes.{Does, IsAmong}
use Rattle.std.specs.List.{AllByRecursion}
use Rattle.lsv_keeper.specs.Value.{KeeperView, un_noted}
use Rattle.lsv_keeper.proofs.keeper.Keeper.lose_lines.Goals as goal

pub loop-conn-init : goal.loop-conn-init
loop-conn-init g c = record {
  refusing = refusing_start g.D.Disk.tells c.deref-conn-items.result.now (view_of c.args.self.now) (view_of (record c.args.self.now { noting = c.replace-noting.new.dest })) (room_in c.args.out.now) c.args.out.now.items (g.D.Disk.view c.args.disk.now)
      (λ told. record { reads_itself = g.met.D.Disk.reads_itself told c.args.disk.now; is_now = g.met.D.Disk.is_now told c.args.disk.now; only_now = g.met.D.Disk.only_now told c.args.disk.now })
      (ap (λ (w : List ConnId). record (view_of c.args.self.now) { noting = w }) (ap (λ (x : Vec ConnId). x.items) c.replace-noting.ensures.after ∙ c.new.ensures.items));
  synced = λ told m at. nothing NoLog (view_of c.args.self.now) _ (g.D.Disk.view c.args.disk.now) refl refl;
  kept = subst (λ (x : KeeperView). Does [] ⊥ ⊥ (un_noted (view_of c.args.self.now)) x (g.D.Disk.view c.args.disk.now) (g.D.Disk.view c.args.disk.now))
      (sym (ap (λ (w : List ConnId). record (view_of c.args.self.now) { noting = w }) (ap (λ (x : Vec ConnId). x.items) c.replace-noting.ensures.after ∙ c.new.ensures.items))) (does_none (λ none. none));
  says = λ p all. says_none (IsAmong p) (λ k. Unit {0}) c.args.out.now.items;
}

pub lose_line-requires-clause-stands : goal.lose_line-requires-clause-stands
lose_line-requires-clause-stands g c = λ told. let at = c.requires.stands told in let d = c.loop-conn.invariant.refusing.gives told at.0 at.1 in (d.after, d.represents)

pub lose_line-requires-clause-places : goal.lose_line-requires-clause-places
lose_line-requires-clause-places g c =
    let is : c.args.self.now.noting.items ≡ c.deref-conn-items.result.now = (ap (λ (x : Vec ConnId). x.items) (sym c.replace-noting.ensures.value) ∙ sym c.deref-conn-items.ensures.value) in
    let e : length c.args.self.now.noting.items ≡ length c.deref-conn-items.result.now = ap length is in
    omega (arith, c.loop-conn.invariant.refusing.places, c.requires.places, c.loop-conn-test.true, e)

pub lose_line-requires-clause-replies : goal.lose_line-requires-clause-replies
lose_line-requires-clause-replies g c =
    let is : c.args.self.now.noting.items ≡ c.deref-conn-items.result.now = (ap (λ (x : Vec ConnId). x.items) (sym c.replace-noting.ensures.value) ∙ sym c.deref-conn-items.ensures.value) in
    let e : length c.args.self.now.noting.items ≡ length c.deref-conn-items.result.now = ap length is in
    omega (arith, c.loop-conn.invariant.refusing.replies, c.requires.replies, c.loop-conn-test.true, e)

pub loop-conn-preserved : goal.loop-conn-preserved
loop-conn-preserved g c = record {
  refusing = refusing_on g.D.Disk.tells c.loop-conn.conn-index _ c.deref-conn-items.result.now (view_of c.args.self.now) (view_of c.loop-conn.self) (view_of c.lose_line.new.self) (room_in c.args.out.now) (room_in c.loop-conn.out) (room_in c.lose_line.new.out)
      c.args.out.now.items c.loop-conn.out.items c.lose_line.new.out.items (g.D.Disk.view c.args.disk.now) (g.D.Disk.view c.loop-conn.disk) (g.D.Disk.view c.lose_line.new.disk) c.loop-conn-test.true (get_or_default _ _ _ _ c.loop-conn-test.true)
      c.loop-conn.invariant.refusing c.lose_line.ensures.frame.set c.lose_line.ensures.frame.noting c.lose_line.ensures.frame.fewer c.lose_line.ensures.frame.places c.lose_line.ensures.frame.replies c.lose_line.ensures.refused;
  synced = λ told m at.
      let d = c.loop-conn.invariant.refusing.gives told m at in
      followed NoLog (view_of c.args.self.now) (view_of c.loop-conn.self) (view_of c.lose_line.new.self) (g.D.Disk.view c.args.disk.now) (g.D.Disk.view c.loop-conn.disk) (g.D.Disk.view c.lose_line.new.disk)
      (c.loop-conn.invariant.synced told m at) (c.lose_line.ensures.frame.syncs told d.after d.represents);
  kept = does_then (λ none. absurd none) c.loop-conn.invariant.kept c.lose_line.ensures.frame.does;
  says = λ p all.
      says_then (IsAmong p) (λ k. Unit {0}) c.args.out.now.items c.loop-conn.out.items c.lose_line.new.out.items (c.loop-conn.invariant.says p all)
      (says_as (λ j. j ≡ _) (IsAmong p) (λ k. Unit {0}) (λ k. Unit {0}) c.loop-conn.out.items c.lose_line.new.out.items (λ j is. subst (IsAmong p) (sym is) (all_at (IsAmong p) c.deref-conn-items.result.now c.loop-conn.conn-index _ c.loop-conn-test.true (get_or_default _ _ _ _ c.loop-conn-test.true) all)) (λ k is t. t) c.lose_line.ensures.says);
}

pub returns-clause-frame : goal.returns-clause-frame
returns-clause-frame g c = record {
  set = let s = c.loop-conn.invariant.refusing.set in record { lane = s.lane; lanes = s.lanes; log_exit = s.log_exit; kind = s.kind; texts = s.texts };
  noting = c.loop-conn.invariant.refusing.none;
  fewer = c.loop-conn.invariant.refusing.fewer;
  places =
      let is : c.args.self.now.noting.items ≡ c.deref-conn-items.result.now = (ap (λ (x : Vec ConnId). x.items) (sym c.replace-noting.ensures.value) ∙ sym c.deref-conn-items.ensures.value) in
      let e : length c.args.self.now.noting.items ≡ length c.deref-conn-items.result.now = ap length is in
      let ends : c.loop-conn.conn-index ≡ length c.deref-conn-items.result.now = omega (arith, c.loop-conn-test.false, c.loop-conn.auto.conn-index-end) in
      omega (arith, c.loop-conn.invariant.refusing.places, ends, e);
  replies =
      let is : c.args.self.now.noting.items ≡ c.deref-conn-items.result.now = (ap (λ (x : Vec ConnId). x.items) (sym c.replace-noting.ensures.value) ∙ sym c.deref-conn-items.ensures.value) in
      let e : length c.args.self.now.noting.items ≡ length c.deref-conn-items.result.now = ap length is in
      let ends : c.loop-conn.conn-index ≡ length c.deref-conn-items.result.now = omega (arith, c.loop-conn-test.false, c.loop-conn.auto.conn-index-end) in
      omega (arith, c.loop-conn.invariant.refusing.replies, ends, e);
  syncs = λ told m at. let s = c.loop-conn.invariant.synced told m at in record { past = s.past; each = s.each };
  does = c.loop-conn.invariant.kept;
}

pub returns-clause-refused : goal.returns-clause-refused
returns-clause-refused g c = λ told m at. refusing_ends g.D.Disk.tells c.deref-conn-items.result.now (view_of c.args.self.now) (view_of c.loop-conn.self) (room_in c.args.out.now) (room_in c.loop-conn.out) c.args.out.now.items c.loop-conn.out.items
    (g.D.Disk.view c.args.disk.now) (g.D.Disk.view c.loop-conn.disk) c.loop-conn.conn-index (omega (arith, c.loop-conn-test.false, c.loop-conn.auto.conn-index-end)) (ap (λ (x : Vec ConnId). x.items) (sym c.replace-noting.ensures.value) ∙ sym c.deref-conn-items.ensures.value) c.loop-conn.invariant.refusing told m at

-- ---- Over every disk

pub returns-clause-says : goal.returns-clause-says
returns-clause-says g c p all = c.loop-conn.invariant.says p (subst (AllByRecursion (IsAmong p)) (ap (λ (x : Vec ConnId). x.items) (sym c.replace-noting.ensures.value) ∙ sym c.deref-conn-items.ensures.value) all)
