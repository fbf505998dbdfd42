-- What the turns did with the store, by what serving came to.
use Rattle.std.proofs.Common.{◌≢◌, []}
use Rattle.lsv_lane.proofs.Conforming.{keeps_less}
use Rattle.lsv_load.proofs.Running.{err_any, loads_leave, ok_all}
use Rattle.lsv_load.proofs.run.serve_lane.Goals as goal

pub serve_conversations-served-requires-clause-lane : goal.serve_conversations-served-requires-clause-lane
serve_conversations-served-requires-clause-lane g c = (c.requires.lane.0, c.new-lane.ensures c.requires.lane.0 c.requires.lane.1)

pub returns-in-Ok-clause-ok : goal.returns-in-Ok-clause-ok
returns-in-Ok-clause-ok g c =
    ok_all c.into_parts-lane.result.1 _ _ c.into_parts-lane.ensures.noted (λ numbers noted start made.
    let ran = c.in-Ok.ensures.ok start (c.new-lane.ensures start made) in
    let lane = c.into_parts-lane.ensures.made start ran.0 ran.1 in (
      ran.0,
      record {
        some = tt;
        timed = c.into_bay-bay.ensures.timed start ran.0 lane;
        answered = λ some. c.into_bay-bay.ensures.answered start ran.0 lane;
        entry = λ fault is. absurd (cc);
        taped = λ told. c.into_bay-bay.ensures.taped told start ran.0 lane;
        keeps = λ told. c.into_bay-bay.ensures.kept told start ran.0 lane;
      },
      ran.2,
      ran.3,
      noted start ran.0 ran.1,
    ))

pub returns-in-Ok-clause-err : goal.returns-in-Ok-clause-err
returns-in-Ok-clause-err g c =
    err_any c.into_parts-lane.result.1 _ (λ start made.
    let ran = c.in-Ok.ensures.ok start (c.new-lane.ensures start made) in
    let lane = c.into_parts-lane.ensures.made start ran.0 ran.1 in (
      ran.0,
      record {
        some = tt;
        timed = c.into_bay-bay.ensures.timed start ran.0 lane;
        answered = λ some. c.into_bay-bay.ensures.answered start ran.0 lane;
        entry = λ fault is. absurd (cc);
        taped = λ told. c.into_bay-bay.ensures.taped told start ran.0 lane;
        keeps = λ told. keeps_less (Unit {0}) (ran.0 ≢ []) start.set start.texts _ ran.0 (λ up. tt) (c.into_bay-bay.ensures.kept told start ran.0 lane);
      },
      ran.2,
      loads_leave g.D.Disk.tells c.args.count ran.0 ran.3,
    ))

pub returns-in-Ok-clause-places : goal.returns-in-Ok-clause-places
returns-in-Ok-clause-places g c told start made =
    let ran = c.in-Ok.ensures.ok start (c.new-lane.ensures start made) in
    c.into_bay-bay.ensures.places told start ran.0 (c.into_parts-lane.ensures.made start ran.0 ran.1)

pub returns-in-Err-clause-err : goal.returns-in-Err-clause-err
returns-in-Err-clause-err g c start made =
    let ran = c.in-Err.ensures.err start (c.new-lane.ensures start made) in
    let lane = c.into_parts-lane.ensures.made start ran.0 ran.1 in (
      ran.0,
      record {
        some = tt;
        timed = c.into_bay-bay.ensures.timed start ran.0 lane;
        answered = λ some. c.into_bay-bay.ensures.answered start ran.0 lane;
        entry = λ fault is. absurd (cc);
        taped = λ told. c.into_bay-bay.ensures.taped told start ran.0 lane;
        keeps = λ told. keeps_less (Unit {0}) (ran.0 ≢ []) start.set start.texts _ ran.0 (λ up. tt) (c.into_bay-bay.ensures.kept told start ran.0 lane);
      },
      ran.2,
      ran.3,
    )

pub returns-in-Err-clause-places : goal.returns-in-Err-clause-places
returns-in-Err-clause-places g c told start made =
    let ran = c.in-Err.ensures.err start (c.new-lane.ensures start made) in
    c.into_bay-bay.ensures.places told start ran.0 (c.into_parts-lane.ensures.made start ran.0 ran.1)

pub returns-in-Ok-clause-fresh : goal.returns-in-Ok-clause-fresh
returns-in-Ok-clause-fresh g c told start made =
    let ran = c.in-Ok.ensures.ok start (c.new-lane.ensures start made) in
    c.into_bay-bay.ensures.fresh told start ran.0 (c.into_parts-lane.ensures.made start ran.0 ran.1)

pub returns-in-Err-clause-fresh : goal.returns-in-Err-clause-fresh
returns-in-Err-clause-fresh g c told start made =
    let ran = c.in-Err.ensures.err start (c.new-lane.ensures start made) in
    c.into_bay-bay.ensures.fresh told start ran.0 (c.into_parts-lane.ensures.made start ran.0 ran.1)
