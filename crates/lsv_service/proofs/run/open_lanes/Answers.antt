use Rattle.std.proofs.Common.{◌≡◌, ◌+◌, [], suc, Some, drop, length, sym, ap, ◌∙◌, subst, arith}
use Rattle.std.specs.Prelude.{slice_get}
use Rattle.std.specs.Vec.Iter.{into_iter_items}
use Rattle.lsv_keeper.specs.Views.{view_of}
use Rattle.lsv_lane.specs.InnerLane.{IsMade}
use Rattle.lsv_lane.specs.Store.{lane_settings}
use Rattle.lsv_service.specs.InnerRun.{AreOpened, RefusesOne}
use Rattle.lsv_service.proofs.Places.{drop_some}
use Rattle.lsv_service.proofs.Stores.{opened_more, opened_none}
use Rattle.lsv_service.proofs.run.open_lanes.Goals as goal

pub opening-init : goal.opening-init
opening-init g c =
    let held = c.args.room.ok.0 in
    let none = ap length c.requires.room.0 in
    let len = c.into_iter-rest.ensures.len in
    record {
      size = omega (arith, held, none);
      opened = subst (λ lanes. AreOpened (λ start lane turns. IsMade g.D.Disk.tells g.G.Tape.tells start.set start.texts (g.D.Disk.view start.disk) (g.D.Disk.view lane.bay.disk) (view_of lane.keeper) (g.G.Tape.turns start.tape) (g.G.Tape.turns lane.bay.tape) turns) (λ n. lane_settings n c.args.lanes c.args.policy.now.formatter.kind c.args.policy.now.log_exit) c.args.policy.now.texts c.args.bays.items lanes) (sym c.requires.room.0)
          (opened_none (λ start lane turns. IsMade g.D.Disk.tells g.G.Tape.tells start.set start.texts (g.D.Disk.view start.disk) (g.D.Disk.view lane.bay.disk) (view_of lane.keeper) (g.G.Tape.turns start.tape) (g.G.Tape.turns lane.bay.tape) turns) (λ n. lane_settings n c.args.lanes c.args.policy.now.formatter.kind c.args.policy.now.log_exit) c.args.policy.now.texts c.args.bays.items);
      rest_is = c.into_iter-rest.ensures.rest;
      all = omega (arith, len);
      within = omega arith;
      room = c.requires.room.1;
    }

pub open_lane-requires-clause-fresh : goal.open_lane-requires-clause-fresh
open_lane-requires-clause-fresh g c = λ told.
    let there = drop_some c.opening.number c.args.bays.items c.in-Some.bay (into_iter_items c.next.new.self) (sym c.opening.invariant.rest_is ∙ c.in-Some.ensures.items) in
    c.requires.fresh told c.opening.number c.in-Some.bay (omega (arith, c.opening-test.true)) there.0

pub returns-in-Err-clause-all_but : goal.returns-in-Err-clause-all_but
returns-in-Err-clause-all_but g c =
    let l = c.in-Some.ensures.len in
    let s = c.opening.invariant.size in
    let a = c.opening.invariant.all in
    omega (arith, l, s, a)

pub returns-in-Err-clause-before : goal.returns-in-Err-clause-before
returns-in-Err-clause-before g c = c.opening.invariant.opened

pub returns-in-Err-clause-refused : goal.returns-in-Err-clause-refused
returns-in-Err-clause-refused g c =
    let there = drop_some c.opening.number c.args.bays.items c.in-Some.bay (into_iter_items c.next.new.self) (sym c.opening.invariant.rest_is ∙ c.in-Some.ensures.items) in
    let held = c.opening.lanes_opened.ok.0 in
    let size = c.opening.invariant.size in
    let number : c.opening.number ≡ length c.opening.lanes_opened.items = omega (arith, held, size) in
    subst (λ n. RefusesOne g.D.Disk g.G.Tape (λ l. lane_settings l c.args.lanes c.args.policy.now.formatter.kind c.args.policy.now.log_exit) c.args.policy.now.texts c.args.lanes c.args.bays.items n c.in-Err.unopened.bay c.in-Err.unopened.fault (into_iter_items c.next.new.self)) number
    (record { less = omega (arith, c.opening-test.true); found = c.in-Some.bay; was = there.0; refused = c.in-Err.ensures.refused; rest_is = there.1 })

pub opening-preserved : goal.opening-preserved
opening-preserved g c =
    let i = c.opening.invariant in
    let there = drop_some c.opening.number c.args.bays.items c.in-Some.bay (into_iter_items c.next.new.self) (sym i.rest_is ∙ c.in-Some.ensures.items) in
    let held = c.opening.lanes_opened.ok.0 in
    let size = i.size in
    let number : c.opening.number ≡ length c.opening.lanes_opened.items = omega (arith, held, size) in
    let next : suc c.opening.number ≡ c.opening.number + 1 = omega arith in
    let l = c.in-Some.ensures.len in
    let p = c.push_reserved.ensures.len in
    record {
      size = omega (arith, p, size);
      opened = subst (λ lanes. AreOpened (λ start lane turns. IsMade g.D.Disk.tells g.G.Tape.tells start.set start.texts (g.D.Disk.view start.disk) (g.D.Disk.view lane.bay.disk) (view_of lane.keeper) (g.G.Tape.turns start.tape) (g.G.Tape.turns lane.bay.tape) turns) (λ n. lane_settings n c.args.lanes c.args.policy.now.formatter.kind c.args.policy.now.log_exit) c.args.policy.now.texts c.args.bays.items lanes) (sym c.push_reserved.ensures.items)
          (opened_more (λ start lane turns. IsMade g.D.Disk.tells g.G.Tape.tells start.set start.texts (g.D.Disk.view start.disk) (g.D.Disk.view lane.bay.disk) (view_of lane.keeper) (g.G.Tape.turns start.tape) (g.G.Tape.turns lane.bay.tape) turns) (λ n. lane_settings n c.args.lanes c.args.policy.now.formatter.kind c.args.policy.now.log_exit) c.args.policy.now.texts c.args.bays.items c.opening.lanes_opened.items c.in-Ok.lane c.in-Some.bay i.opened
          (subst (λ n. slice_get c.args.bays.items n ≡ Some c.in-Some.bay) number there.0)
          (subst (λ n. IsMade g.D.Disk.tells g.G.Tape.tells (lane_settings n c.args.lanes c.args.policy.now.formatter.kind c.args.policy.now.log_exit) c.args.policy.now.texts (g.D.Disk.view c.in-Some.bay.disk) (g.D.Disk.view c.in-Ok.lane.bay.disk) (view_of c.in-Ok.lane.keeper) (g.G.Tape.turns c.in-Some.bay.tape) (g.G.Tape.turns c.in-Ok.lane.bay.tape) []) number c.in-Ok.ensures.made));
      rest_is = there.1 ∙ ap (λ n. drop n c.args.bays.items) next;
      all = let a = i.all in omega (arith, l, a);
      within = omega (arith, c.opening-test.true);
      room = let q = c.push_reserved.ensures.capacity in let r = i.room in omega (arith, q, r);
    }

pub returns-clause-opened : goal.returns-clause-opened
returns-clause-opened g c =
    let i = c.opening.invariant in
    let most = i.within in
    let end : c.opening.number ≡ c.args.lanes = omega (arith, c.opening-test.false, most) in
    let held = c.opening.lanes_opened.ok.0 in
    let size = i.size in
    (omega (arith, held, size, end), i.opened, i.rest_is ∙ ap (λ n. drop n c.args.bays.items) end)

pub returns-clause-all : goal.returns-clause-all
returns-clause-all g c = let s = c.opening.invariant.size in let a = c.opening.invariant.all in omega (arith, s, a)
