-- Each record that is read goes on to the first that ends at the point.
use Rattle.std.proofs.Common.{◌≡◌, ◌⊎◌, inr, ℕ, ◌<◌, List, [], ◌∷◌, ◌++◌, Option, None, Result, Err, sym, ◌∙◌, ap, subst, arith}
use Rattle.lsv_disk.proofs.Composition.{reads_trans}
use Rattle.lsv_iolog.specs.Reading.{IsBehind, IsWhole}
use Rattle.lsv_iolog.specs.Faults.{IsOpenFault, of_view}
use Rattle.lsv_iolog.specs.declared.fault.LogFault.TheVariants as logs
use Rattle.lsv_iolog.specs.declared.fault.ViewFault.{ViewFault}
use Rattle.lsv_iolog.specs.declared.fault.ViewFault.TheVariants as views
use Rattle.lsv_iolog.proofs.Results.{given_view, view_damaged, view_disk, view_opens, view_there}
use Rattle.lsv_iolog.proofs.Scans.{if_none_at, if_some_at, none_there}
use Rattle.lsv_record.specs.declared.records.Record.{Record}
use Rattle.lsv_bundle.specs.declared.body.Body.{Body}
use Rattle.lsv_keeper.proofs.Looking.{err_as}
use Rattle.lsv_keeper.proofs.Seeing.{Seeing, same_faults, seeing_all, seeing_blameless, seeing_cause, seeing_end, seeing_found, seeing_goes_on, seeing_past, seeing_starts}
use Rattle.lsv_keeper.proofs.Viewing.{seeing_whole}
use Rattle.lsv_keeper.proofs.resume.see_through.Goals as goal

pub loop-init : goal.loop-init
loop-init g c =
    subst (λ (left : ℕ). Seeing g.D.Disk.tells c.args.view.now c.args.view.now c.args.mask.now c.args.mask.now (g.D.Disk.view c.args.disk.now) (g.D.Disk.view c.args.disk.now) c.args.point left 0) (sym c.nanos-left.ensures.value)
    (seeing_starts g.D.Disk.tells c.args.view.now c.args.mask.now (g.D.Disk.view c.args.disk.now) c.args.point (λ told. g.met.D.Disk.only_now told c.args.disk.now))

pub returns-in_err-r-clause-damaged : goal.returns-in_err-r-clause-damaged
returns-in_err-r-clause-damaged g c told part is_damaged stored of behind =
    let fault : c.in_err-r.field-0.0 ≡ views.Damaged part = view_damaged c.in_err-r.field-0.0 part (given_view c.from_residual.result c.in_err-r.field-0.0 (logs.Damaged part) c.from_residual.ensures.1 is_damaged) in
    seeing_whole g.D.Disk.tells c.args.view.now c.loop.view c.args.mask.now c.loop.mask (g.D.Disk.view c.args.disk.now) (g.D.Disk.view c.loop.disk) c.args.point c.loop.left c.loop.counter part stored told c.loop.invariant of behind
    (c.in_err-r.ensures.damaged told part (ap (λ (x : ViewFault). let y : Result (Option Record) ViewFault = Err x in y) fault))

pub returns-in_err-r-clause-none : goal.returns-in_err-r-clause-none
returns-in_err-r-clause-none g c told is stored of behind =
    absurd (subst IsOpenFault (given_view c.from_residual.result c.in_err-r.field-0.0 (logs.NoPoint c.args.point) c.from_residual.ensures.1 is) (view_opens c.in_err-r.field-0.0))

pub returns-in_err-r-clause-fault : goal.returns-in_err-r-clause-fault
returns-in_err-r-clause-fault g c =
    err_as c.from_residual.result (of_view c.in_err-r.field-0.0) (λ x. (x ≡ logs.NoPoint c.args.point) ⊎ IsOpenFault x) c.from_residual.ensures.1 (inr (view_opens c.in_err-r.field-0.0))

pub returns-in_err-r-clause-present : goal.returns-in_err-r-clause-present
returns-in_err-r-clause-present g c is =
    view_there c.in_err-r.field-0.0 c.in_err-r.ensures.fault (given_view c.from_residual.result c.in_err-r.field-0.0 logs.Absent c.from_residual.ensures.1 is)

pub returns-in_err-r-clause-reads : goal.returns-in_err-r-clause-reads
returns-in_err-r-clause-reads g c told = reads_trans (g.D.Disk.view c.args.disk.now) (g.D.Disk.view c.loop.disk) (g.D.Disk.view c.next.new.disk) (c.loop.invariant.reads told) (c.next.ensures.reads told)

pub returns-in_err-r-clause-cause : goal.returns-in_err-r-clause-cause
returns-in_err-r-clause-cause g c =
    seeing_cause g.D.Disk.tells c.args.view.now c.loop.view c.args.mask.now c.loop.mask (g.D.Disk.view c.args.disk.now) (g.D.Disk.view c.loop.disk) (g.D.Disk.view c.next.new.disk) c.args.point c.loop.left c.loop.counter _ _ c.loop.invariant
    (λ failed. ap (λ (x : ViewFault). let y : Result (Option Record) ViewFault = Err x in y) (view_disk c.in_err-r.field-0.0 (given_view c.from_residual.result c.in_err-r.field-0.0 logs.Disk c.from_residual.ensures.1 failed))) c.in_err-r.ensures.cause

pub returns-then-delay-left-clause-seen : goal.returns-then-delay-left-clause-seen
returns-then-delay-left-clause-seen g c told texts stored fresh of behind =
    seeing_found g.D.Disk.tells c.args.view.now c.loop.view c.next.new.self c.args.mask.now c.loop.mask c.see.new.self (g.D.Disk.view c.args.disk.now) (g.D.Disk.view c.loop.disk) (g.D.Disk.view c.next.new.disk) c.args.point c.loop.left c.loop.counter c.in-Some.r told c.loop.invariant
    c.next.ensures.same.0 c.next.ensures.same.2 (c.next.ensures.reads told)
    (if_some_at c.in_ok-r.field-0 c.in-Some.r (λ (r : Record). (records : List Record) → IsBehind c.loop.view records (g.D.Disk.view c.loop.disk) → IsBehind c.next.new.self (records ++ r ∷ []) (g.D.Disk.view c.next.new.disk)) c.in-Some.is (c.in_ok-r.ensures.given told))
    c.see.ensures (sym c.delay-delay.ensures ∙ c.if-delay-left.true) texts stored fresh of behind

pub returns-then-delay-left-clause-reads : goal.returns-then-delay-left-clause-reads
returns-then-delay-left-clause-reads g c told = reads_trans (g.D.Disk.view c.args.disk.now) (g.D.Disk.view c.loop.disk) (g.D.Disk.view c.next.new.disk) (c.loop.invariant.reads told) (c.next.ensures.reads told)

pub returns-then-delay-left-clause-cause : goal.returns-then-delay-left-clause-cause
returns-then-delay-left-clause-cause g c =
    seeing_blameless g.D.Disk.tells c.args.view.now c.loop.view c.args.mask.now c.loop.mask (g.D.Disk.view c.args.disk.now) (g.D.Disk.view c.loop.disk) (g.D.Disk.view c.next.new.disk) c.args.point c.loop.left c.loop.counter _ c.loop.invariant c.next.ensures.cause.monotone
    (λ failed. let no : ⊥ = cc in no)

pub loop-preserved : goal.loop-preserved
loop-preserved g c =
    let less : c.delay-delay.result < c.loop.left = omega (arith, c.if-delay-left.false, c.if-left-delay.false) in
    seeing_goes_on g.D.Disk.tells c.args.view.now c.loop.view c.next.new.self c.args.mask.now c.loop.mask c.see.new.self (g.D.Disk.view c.args.disk.now) (g.D.Disk.view c.loop.disk) (g.D.Disk.view c.next.new.disk) c.args.point c.loop.left _ c.loop.counter c.in-Some.r c.loop.invariant
    c.next.ensures.same.0 c.next.ensures.same.2 (λ told. c.next.ensures.reads told) c.next.ensures.cause.monotone
    (λ told. if_some_at c.in_ok-r.field-0 c.in-Some.r (λ (r : Record). (records : List Record) → IsBehind c.loop.view records (g.D.Disk.view c.loop.disk) → IsBehind c.next.new.self (records ++ r ∷ []) (g.D.Disk.view c.next.new.disk)) c.in-Some.is (c.in_ok-r.ensures.given told))
    c.see.ensures (let e = c.delay-delay.ensures in omega (arith, e, less)) (let e = c.delay-delay.ensures in omega (arith, e, less))

pub returns-clause-none : goal.returns-clause-none
returns-clause-none g c told is stored of behind =
    seeing_all g.D.Disk.tells c.args.view.now c.loop.view c.args.mask.now c.loop.mask (g.D.Disk.view c.args.disk.now) (g.D.Disk.view c.loop.disk) c.args.point c.loop.left c.loop.counter told c.loop.invariant
    (let e = ap (λ (b : Body). b.count) c.body-end.ensures in let up = c.loop.auto.counter-end in let down = c.loop-test.false in omega (arith, e, up, down)) stored of behind

pub returns-clause-reads : goal.returns-clause-reads
returns-clause-reads g c told = c.loop.invariant.reads told

pub returns-clause-cause : goal.returns-clause-cause
returns-clause-cause g c =
    seeing_blameless g.D.Disk.tells c.args.view.now c.loop.view c.args.mask.now c.loop.mask (g.D.Disk.view c.args.disk.now) (g.D.Disk.view c.loop.disk) (g.D.Disk.view c.loop.disk) c.args.point c.loop.left c.loop.counter _ c.loop.invariant
    (same_faults (g.D.Disk.view c.loop.disk)) (λ failed. let no : ⊥ = cc in no)

pub returns-in_default-clause-none : goal.returns-in_default-clause-none
returns-in_default-clause-none g c told is stored of behind =
    let none : c.in_ok-r.field-0 ≡ None = none_there c.in_ok-r.field-0 (λ r some. c.in_default.not-Some r some) in
    seeing_end g.D.Disk.tells c.args.view.now c.loop.view c.args.mask.now c.loop.mask (g.D.Disk.view c.args.disk.now) (g.D.Disk.view c.loop.disk) c.args.point c.loop.left c.loop.counter told c.loop.invariant
    (λ records at. (if_none_at c.in_ok-r.field-0 ((rs : List Record) → IsBehind c.loop.view rs (g.D.Disk.view c.loop.disk) → IsWhole c.loop.view rs (g.D.Disk.view c.loop.disk) × IsBehind c.next.new.self rs (g.D.Disk.view c.next.new.disk)) none (c.in_ok-r.ensures.end told) records at).0) stored of behind

pub returns-in_default-clause-reads : goal.returns-in_default-clause-reads
returns-in_default-clause-reads g c told = reads_trans (g.D.Disk.view c.args.disk.now) (g.D.Disk.view c.loop.disk) (g.D.Disk.view c.next.new.disk) (c.loop.invariant.reads told) (c.next.ensures.reads told)

pub returns-in_default-clause-cause : goal.returns-in_default-clause-cause
returns-in_default-clause-cause g c =
    seeing_blameless g.D.Disk.tells c.args.view.now c.loop.view c.args.mask.now c.loop.mask (g.D.Disk.view c.args.disk.now) (g.D.Disk.view c.loop.disk) (g.D.Disk.view c.next.new.disk) c.args.point c.loop.left c.loop.counter _ c.loop.invariant c.next.ensures.cause.monotone
    (λ failed. let no : ⊥ = cc in no)

pub returns-then-left-delay-clause-none : goal.returns-then-left-delay-clause-none
returns-then-left-delay-clause-none g c told is stored of behind =
    seeing_past g.D.Disk.tells c.args.view.now c.loop.view c.next.new.self c.args.mask.now c.loop.mask c.see.new.self (g.D.Disk.view c.args.disk.now) (g.D.Disk.view c.loop.disk) (g.D.Disk.view c.next.new.disk) c.args.point c.loop.left c.loop.counter c.in-Some.r told c.loop.invariant
    c.next.ensures.same.0 c.next.ensures.same.2 (c.next.ensures.reads told)
    (if_some_at c.in_ok-r.field-0 c.in-Some.r (λ (r : Record). (records : List Record) → IsBehind c.loop.view records (g.D.Disk.view c.loop.disk) → IsBehind c.next.new.self (records ++ r ∷ []) (g.D.Disk.view c.next.new.disk)) c.in-Some.is (c.in_ok-r.ensures.given told))
    c.see.ensures (let e = c.delay-delay.ensures in omega (arith, e, c.if-left-delay.true)) stored of behind

pub returns-then-left-delay-clause-reads : goal.returns-then-left-delay-clause-reads
returns-then-left-delay-clause-reads g c told = reads_trans (g.D.Disk.view c.args.disk.now) (g.D.Disk.view c.loop.disk) (g.D.Disk.view c.next.new.disk) (c.loop.invariant.reads told) (c.next.ensures.reads told)

pub returns-then-left-delay-clause-cause : goal.returns-then-left-delay-clause-cause
returns-then-left-delay-clause-cause g c =
    seeing_blameless g.D.Disk.tells c.args.view.now c.loop.view c.args.mask.now c.loop.mask (g.D.Disk.view c.args.disk.now) (g.D.Disk.view c.loop.disk) (g.D.Disk.view c.next.new.disk) c.args.point c.loop.left c.loop.counter _ c.loop.invariant c.next.ensures.cause.monotone
    (λ failed. let no : ⊥ = cc in no)
