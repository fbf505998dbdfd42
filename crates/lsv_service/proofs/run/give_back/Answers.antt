use Rattle.std.proofs.Common.{◌≡◌, [], ◌∷◌, ◌++◌, length, sym, ap, ◌∙◌, subst, append-nil, append_assoc, arith}
use Rattle.std.proofs.lemmas.List.{length-append}
use Rattle.std.specs.Vec.Iter.{into_iter_items}
use Rattle.lsv_keeper.specs.Views.{view_of}
use Rattle.lsv_lane.specs.InnerLane.{IsMade}
use Rattle.lsv_service.specs.InnerRun.{GiveBays, GivesBay}
use Rattle.lsv_service.proofs.Places.{nothing_left, zip_length, zip_push}
use Rattle.lsv_service.proofs.run.give_back.Goals as goal

pub loop-lane-preserved : goal.loop-lane-preserved
loop-lane-preserved g c =
    let i = c.loop-lane.invariant in
    let steps = c.in-Some.ensures.steps in
    let p = c.push_reserved.ensures.len in
    let q = c.push_reserved.ensures.capacity in record {
      items = append_assoc c.loop-lane.yielded (c.in-Some.lane ∷ []) (into_iter_items c.next.new.self) ∙ (ap (λ x. c.loop-lane.yielded ++ x) (sym steps.0) ∙ i.items);
      bays = subst (λ bays. GiveBays g.D.Disk g.G.Tape (λ start lane turns. IsMade g.D.Disk.tells g.G.Tape.tells start.set start.texts (g.D.Disk.view start.disk) (g.D.Disk.view lane.bay.disk) (view_of lane.keeper) (g.G.Tape.turns start.tape) (g.G.Tape.turns lane.bay.tape) turns) (c.loop-lane.yielded ++ c.in-Some.lane ∷ []) bays) (sym c.push_reserved.ensures.items)
          (zip_push (GivesBay g.D.Disk g.G.Tape (λ start lane turns. IsMade g.D.Disk.tells g.G.Tape.tells start.set start.texts (g.D.Disk.view start.disk) (g.D.Disk.view lane.bay.disk) (view_of lane.keeper) (g.G.Tape.turns start.tape) (g.G.Tape.turns lane.bay.tape) turns)) c.loop-lane.yielded c.loop-lane.bays.items c.in-Some.lane c.into_bay.result i.bays
          (λ start turns made. record {
            kept = λ told. c.into_bay.ensures.kept told start turns made;
            places = λ told. c.into_bay.ensures.places told start turns made;
            fresh = λ told. c.into_bay.ensures.fresh told start turns made;
            taped = λ told. c.into_bay.ensures.taped told start turns made;
            answered = c.into_bay.ensures.answered start turns made;
            timed = c.into_bay.ensures.timed start turns made;
          }));
      room = let s = steps.1 in let r = i.room in omega arith;
      count = let s = steps.1 in let r = i.count in omega (arith, s, r, p);
      capacity = let r = i.capacity in omega (arith, r, q);
    }

pub returns-clause-bays : goal.returns-clause-bays
returns-clause-bays g c =
    let pairs = zip_length (GivesBay g.D.Disk g.G.Tape (λ start lane turns. IsMade g.D.Disk.tells g.G.Tape.tells start.set start.texts (g.D.Disk.view start.disk) (g.D.Disk.view lane.bay.disk) (view_of lane.keeper) (g.G.Tape.turns start.tape) (g.G.Tape.turns lane.bay.tape) turns)) c.loop-lane.yielded c.loop-lane.bays.items c.loop-lane.invariant.bays in
    let count = c.loop-lane.invariant.count in
    let none = c.in-None.ensures.steps.0 in
    let held = c.loop-lane.bays.ok.0 in
    let had = c.args.lanes.ok.0 in
    let all = ap length c.loop-lane.invariant.items in
    let sum = length-append c.loop-lane.yielded (into_iter_items c.loop-lane.lane-iterator) in
    let empty : into_iter_items c.loop-lane.lane-iterator ≡ [] = nothing_left (into_iter_items c.loop-lane.lane-iterator) (omega (arith, pairs, count, none, held, had, all, sum)) in
    let whole : c.loop-lane.yielded ≡ c.args.lanes.items = sym (append-nil c.loop-lane.yielded) ∙ (ap (λ x. c.loop-lane.yielded ++ x) (sym empty) ∙ c.loop-lane.invariant.items) in
    subst (λ lanes. GiveBays g.D.Disk g.G.Tape (λ start lane turns. IsMade g.D.Disk.tells g.G.Tape.tells start.set start.texts (g.D.Disk.view start.disk) (g.D.Disk.view lane.bay.disk) (view_of lane.keeper) (g.G.Tape.turns start.tape) (g.G.Tape.turns lane.bay.tape) turns) lanes c.loop-lane.bays.items) whole c.loop-lane.invariant.bays

pub returns-clause-count : goal.returns-clause-count
returns-clause-count g c = let n = c.loop-lane.invariant.count in let e = c.in-None.ensures.steps.0 in omega (arith, n, e)
