-- Each event log is read after those before it.
use Rattle.std.proofs.Common.{◌≡◌, Result, Ok, Err, IsOkAnd, arith}
use Rattle.lsv_tally.specs.Walks.{HasUnread}
use Rattle.lsv_tally.specs.declared.walk.EventSums.{EventSums}
use Rattle.lsv_verdict.specs.declared.walk.Stop.{Stop}
use Rattle.lsv_tally.proofs.Walking.{err_as, walking_goes_on, walking_starts, walking_stops}
use Rattle.lsv_tally.proofs.walk.check_events.Goals as goal

pub loop-lane-init : goal.loop-lane-init
loop-lane-init g c =
    walking_starts g.D.Disk.tells g.K.Sink.tells c.args.form c.new-sums.result (g.D.Disk.view c.args.disk.now) (g.K.Sink.put c.args.sink.now) (g.K.Sink.faults c.args.sink.now) c.new-sums.ensures
    (λ told. g.met.D.Disk.only_now told c.args.disk.now)

pub loop-lane-preserved : goal.loop-lane-preserved
loop-lane-preserved g c =
    walking_goes_on g.D.Disk.tells g.K.Sink.tells c.args.form c.loop-lane.lane c.loop-lane.sums (g.D.Disk.view c.args.disk.now) (g.D.Disk.view c.loop-lane.disk)
    (g.K.Sink.put c.args.sink.now) (g.K.Sink.put c.loop-lane.sink) (g.K.Sink.faults c.args.sink.now) (g.K.Sink.faults c.loop-lane.sink) c.loop-lane.invariant
    c.in_ok-next.next (g.D.Disk.view c.check_one.new.disk) (g.K.Sink.put c.check_one.new.sink) (g.K.Sink.faults c.check_one.new.sink)
    (λ told told_too. c.in_ok-next.ensures.puts told told_too) (λ told. c.check_one.ensures.reads told) (record { monotone = c.check_one.ensures.cause.monotone; risen = λ more. c.in_ok-next.ensures.cause.risen more }) c.check_one.ensures.sink.monotone

pub returns-clause-cause : goal.returns-clause-cause
returns-clause-cause g c = record { monotone = c.loop-lane.invariant.disk; risen = λ some. c.loop-lane.invariant.risen some }

none_ok : (r : Result EventSums Stop) (e : Stop) → r ≡ Err e → IsOkAnd r HasUnread → ⊥
none_ok (Ok x) e is ok = let no_ : ⊥ = cc in no_
none_ok (Err x) e is ok = ok

pub returns-in_err-next-clause-cause : goal.returns-in_err-next-clause-cause
returns-in_err-next-clause-cause g c = record {
  monotone = λ f. let one = c.loop-lane.invariant.disk f in let two = c.check_one.ensures.cause.monotone f in omega (arith, one, two);
  risen = λ failed. absurd (none_ok c.from_residual.result c.in_err-next.field-0.0 (err_as c.from_residual.result c.in_err-next.field-0.0 c.from_residual.ensures.1) failed);
}

pub returns-in_err-next-clause-walks : goal.returns-in_err-next-clause-walks
returns-in_err-next-clause-walks g c =
    walking_stops g.D.Disk.tells g.K.Sink.tells c.args.form c.loop-lane.lane c.loop-lane.sums (g.D.Disk.view c.args.disk.now) (g.D.Disk.view c.loop-lane.disk)
    (g.K.Sink.put c.args.sink.now) (g.K.Sink.put c.loop-lane.sink) (g.K.Sink.faults c.args.sink.now) (g.K.Sink.faults c.loop-lane.sink) c.loop-lane.invariant
    c.in_err-next.field-0.0 c.from_residual.result c.args.lanes (g.D.Disk.view c.check_one.new.disk) (g.K.Sink.put c.check_one.new.sink)
    (λ told told_too. c.in_err-next.ensures.puts told told_too) c.check_one.ensures.cause.monotone
    (err_as c.from_residual.result c.in_err-next.field-0.0 c.from_residual.ensures.1) c.loop-lane-test.true
