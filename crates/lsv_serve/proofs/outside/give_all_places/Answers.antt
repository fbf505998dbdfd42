use Rattle.std.proofs.Common.{◌≡◌, ◌<◌, ◌∙◌, ℕ, length, refl, sym, ap, subst, arith}
use Rattle.std.proofs.Math.ListN.{get_or}
use Rattle.std.proofs.lemmas.List.{length-set}
use Rattle.std.proofs.lemmas.Option.{slice_get-get_or, slice_get_within}
use Rattle.lsv_disk.specs.View.{IsLeftAlone}
use Rattle.lsv_lane.specs.declared.bay.Bay.{Bay}
use Rattle.lsv_serve.specs.Causes.{HasPlaces}
use Rattle.lsv_serve.proofs.ServeLemmas.{same_one, set_below, set_pairs}
use Rattle.lsv_serve.proofs.StartLemmas.{alone_same, alone_trans}
use Rattle.lsv_serve.proofs.outside.give_all_places.Goals as goal

pub bays-init : goal.bays-init
bays-init g c = record {
  count = refl;
  alone = λ i old new e f.
      subst (λ (b : Bay g.row.D.Denot g.row.C.Denot g.row.G.Denot). IsLeftAlone g.D.Disk.tells (g.D.Disk.view old.disk) (g.D.Disk.view b.disk)) (same_one c.args.bays.now i old new e f) (alone_same g.D.Disk.tells (g.D.Disk.view old.disk));
  tape = λ i old new e f. ap (λ (b : Bay g.row.D.Denot g.row.C.Denot g.row.G.Denot). b.tape) (sym (same_one c.args.bays.now i old new e f));
  places = λ told i bay less e. absurd (omega (arith, less));
}

pub bays-preserved : goal.bays-preserved
bays-preserved g c =
    let B = Bay g.row.D.Denot g.row.C.Denot g.row.G.Denot in
    let less : c.bays.place < length c.bays.bays = omega (arith, c.bays-test.true, c.bays.auto.bays) in
    let was = slice_get-get_or c.bays.bays c.bays.place c.index-bays-place.result less in
    let here : B = get_or c.bays.bays c.bays.place c.index-bays-place.result in
    record {
      count = length-set c.bays.bays c.bays.place c.place_bay.new.bay ∙ c.bays.invariant.count;
      alone = set_pairs (λ (i : ℕ) (old new : B). IsLeftAlone g.D.Disk.tells (g.D.Disk.view old.disk) (g.D.Disk.view new.disk)) c.args.bays.now c.bays.bays c.bays.place c.place_bay.new.bay less
          (λ old e.
          alone_trans g.D.Disk.tells (g.D.Disk.view old.disk) (g.D.Disk.view here.disk) (g.D.Disk.view c.place_bay.new.bay.disk) (c.bays.invariant.alone c.bays.place old here e was) c.place_bay.ensures.frame)
          c.bays.invariant.alone;
      tape = set_pairs (λ (i : ℕ) (old new : B). new.tape ≡ old.tape) c.args.bays.now c.bays.bays c.bays.place c.place_bay.new.bay less (λ old e. c.place_bay.ensures.tape ∙ c.bays.invariant.tape c.bays.place old here e was) c.bays.invariant.tape;
      places = λ told.
          set_below (λ (b : B). HasPlaces c.args.options.now.logs c.args.options.now.events (g.D.Disk.view b.disk)) c.bays.bays c.bays.place c.place_bay.new.bay less (c.place_bay.ensures.places told) (λ i b below e. c.bays.invariant.places told i b below e);
    }

pub returns-clause-placed : goal.returns-clause-placed
returns-clause-placed g c = record { count = c.bays.invariant.count; alone = c.bays.invariant.alone; tape = λ l old new e f. ap g.G.Tape.turns (c.bays.invariant.tape l old new e f) }

pub returns-clause-places : goal.returns-clause-places
returns-clause-places g c = λ told l bay is.
    let within : l < length c.bays.bays = slice_get_within c.bays.bays l bay is in
    c.bays.invariant.places told l bay (omega (arith, within, c.bays-test.false, c.bays.auto.bays)) is
