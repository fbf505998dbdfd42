use Rattle.std.proofs.Common.{map}
use Rattle.lsv_once.specs.Course.{turn_of, turns_in}
use Rattle.lsv_once.specs.World.{World, world_of}
use Rattle.lsv_once.proofs.OnceLemmas.{cause_served, runs_served}
use Rattle.lsv_once.proofs.once.serve_lane.Goals as goal

pub serve-end-requires-clause-begun : goal.serve-end-requires-clause-begun
serve-end-requires-clause-begun g c = let n = c.requires.lane in (n.0, rw c.new-run.ensures.lane n.1)

pub returns-clause-runs : goal.returns-clause-runs
returns-clause-runs g c = λ start made.
    let old : World = world_of g.S.Source g.K.Sink g.D.Disk g.G.Tape c.args.source.now c.args.sink.now start.disk start.tape in
    let new : World = world_of g.S.Source g.K.Sink g.D.Disk g.G.Tape c.serve-end.new.source c.serve-end.new.sink c.into_bay.result.disk c.into_bay.result.tape in
    let s = c.serve-end.ensures start (rw c.new-run.ensures.lane made) in
    let turns = map turn_of (turns_in s.course) in
    runs_served start.set start.texts _ old new c.serve-end.result s (λ told. c.into_bay.ensures.taped told start turns (rw c.into_lane.ensures s.made)) (c.into_bay.ensures.answered start turns (rw c.into_lane.ensures s.made))
    (λ told. c.into_bay.ensures.places told start turns (rw c.into_lane.ensures s.made)) (λ told. c.into_bay.ensures.kept told start turns (rw c.into_lane.ensures s.made))

pub returns-clause-cause : goal.returns-clause-cause
returns-clause-cause g c = λ start made.
    let old : World = world_of g.S.Source g.K.Sink g.D.Disk g.G.Tape c.args.source.now c.args.sink.now start.disk start.tape in
    let new : World = world_of g.S.Source g.K.Sink g.D.Disk g.G.Tape c.serve-end.new.source c.serve-end.new.sink c.into_bay.result.disk c.into_bay.result.tape in
    cause_served old new c.serve-end.result (c.serve-end.ensures start (rw c.new-run.ensures.lane made)).cause

pub returns-clause-places : goal.returns-clause-places
returns-clause-places g c = λ told start made. let s = c.serve-end.ensures start (rw c.new-run.ensures.lane made) in c.into_bay.ensures.places told start (map turn_of (turns_in s.course)) (rw c.into_lane.ensures s.made)

pub returns-clause-fresh : goal.returns-clause-fresh
returns-clause-fresh g c = λ told start made. let s = c.serve-end.ensures start (rw c.new-run.ensures.lane made) in c.into_bay.ensures.fresh told start (map turn_of (turns_in s.course)) (rw c.into_lane.ensures s.made)
