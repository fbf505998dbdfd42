-- Each number is judged after those before it.
use Rattle.std.proofs.Common.{◌≡◌, Bool, Result, Ok, Err, IsOkAnd, subst, arith}
use Rattle.lsv_verdict.specs.Verdicts.{counts_of}
use Rattle.lsv_verdict.specs.Walks.{HasUnread, PutsOne}
use Rattle.lsv_verdict.specs.declared.sums.Sums.{Sums}
use Rattle.lsv_verdict.specs.declared.walk.Stop.{Stop}
use Rattle.lsv_verdict.proofs.Walking.{err_as, walking_goes_on, walking_starts, walking_stops}
use Rattle.lsv_verdict.proofs.walk.check_logs.Goals as goal

pub loop-at-init : goal.loop-at-init
loop-at-init g c =
    walking_starts g.D.Disk.tells g.K.Sink.tells c.args.form c.args.ids.now c.new-sums.result (g.D.Disk.view c.args.disk.now) (g.K.Sink.put c.args.sink.now) (g.K.Sink.faults c.args.sink.now) c.new-sums.ensures
    (λ told. g.met.D.Disk.only_now told c.args.disk.now)

pub loop-at-preserved : goal.loop-at-preserved
loop-at-preserved g c =
    let now = g.D.Disk.view c.loop-at.disk in
    let later = g.D.Disk.view c.check_one.new.disk in
    walking_goes_on g.D.Disk.tells g.K.Sink.tells c.args.form c.args.ids.now c.loop-at.at c.number_at-number.result c.loop-at.sums (g.D.Disk.view c.args.disk.now) now
    (g.K.Sink.put c.args.sink.now) (g.K.Sink.put c.loop-at.sink) (g.K.Sink.faults c.args.sink.now) (g.K.Sink.faults c.loop-at.sink) c.loop-at.invariant c.number_at-number.ensures
    c.in_ok-next.next later (g.K.Sink.put c.check_one.new.sink) (g.K.Sink.faults c.check_one.new.sink)
    (λ told told_too. let p = c.in_ok-next.ensures.puts told told_too in
    (p.0, p.1, subst (λ (whole : Bool). PutsOne c.args.form whole now.reads (counts_of now later) c.number_at-number.result c.loop-at.sums (Ok c.in_ok-next.next) p.0) c.is_empty.ensures p.2))
    (λ told. c.check_one.ensures.reads told) (record { monotone = c.check_one.ensures.cause.monotone; risen = λ more. c.in_ok-next.ensures.cause.risen more }) c.check_one.ensures.sink.monotone

pub returns-in_err-next-clause-walks : goal.returns-in_err-next-clause-walks
returns-in_err-next-clause-walks g c =
    let now = g.D.Disk.view c.loop-at.disk in
    let later = g.D.Disk.view c.check_one.new.disk in
    walking_stops g.D.Disk.tells g.K.Sink.tells c.args.form c.args.ids.now c.loop-at.at c.number_at-number.result c.loop-at.sums (g.D.Disk.view c.args.disk.now) now
    (g.K.Sink.put c.args.sink.now) (g.K.Sink.put c.loop-at.sink) (g.K.Sink.faults c.args.sink.now) (g.K.Sink.faults c.loop-at.sink) c.loop-at.invariant c.number_at-number.ensures
    c.in_err-next.field-0.0 c.from_residual.result c.args.count later (g.K.Sink.put c.check_one.new.sink)
    (λ told told_too. let p = c.in_err-next.ensures.puts told told_too in
    (p.0, p.1, subst (λ (whole : Bool). PutsOne c.args.form whole now.reads (counts_of now later) c.number_at-number.result c.loop-at.sums (Err c.in_err-next.field-0.0) p.0) c.is_empty.ensures p.2))
    c.check_one.ensures.cause.monotone (err_as c.from_residual.result c.in_err-next.field-0.0 c.from_residual.ensures.1) c.loop-at-test.true

pub returns-clause-cause : goal.returns-clause-cause
returns-clause-cause g c = record { monotone = c.loop-at.invariant.disk; risen = λ some. c.loop-at.invariant.risen some }

none_ok : (r : Result Sums Stop) (e : Stop) → r ≡ Err e → IsOkAnd r HasUnread → ⊥
none_ok (Ok x) e is ok = let no_ : ⊥ = cc in no_
none_ok (Err x) e is ok = ok

pub returns-in_err-next-clause-cause : goal.returns-in_err-next-clause-cause
returns-in_err-next-clause-cause g c = record {
  monotone = λ f. let one = c.loop-at.invariant.disk f in let two = c.check_one.ensures.cause.monotone f in omega (arith, one, two);
  risen = λ failed. absurd (none_ok c.from_residual.result c.in_err-next.field-0.0 (err_as c.from_residual.result c.in_err-next.field-0.0 c.from_residual.ensures.1) failed);
}
