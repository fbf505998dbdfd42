-- Each look is read, checked and shown; its end, a fault, or too many that found nothing end the following. The others act after
-- each reading, and after each showing.
use Rattle.std.proofs.Common.{◌∙◌, ◌*◌, suc, length, refl, arith}
use Rattle.lsv_iolog.specs.declared.fault.ViewFault.TheVariants as views
use Rattle.lsv_play.specs.declared.fault.PlayFault.TheVariants as plays
use Rattle.lsv_play.proofs.Played.{own_none, screen_cause, screen_none}
use Rattle.lsv_follow.specs.Faults.{of_look}
use Rattle.lsv_follow.specs.declared.end.FollowEnd.TheVariants as ends
use Rattle.lsv_follow.specs.declared.fault.FollowFault.{FollowFault}
use Rattle.lsv_follow.specs.declared.fault.FollowFault.TheVariants as faults
use Rattle.lsv_follow.proofs.Causes.{cause_between, cause_later, checked_by, err_at, fault_is, if_err_is, ok_at, on_ok_at}
use Rattle.lsv_follow.proofs.Looking.{beside_acts, beside_reads, check_fails, end_same, look_disk, look_ends, look_screen, looks_quiet, loop_ends, loops_on, loops_start, memory_no_disk, memory_no_screen, ok_no_err, quiet_no_fault, read_fails, reads_beside, screen_no_disk, show_fails}
use Rattle.lsv_follow.proofs.following.follow_looks.Goals as goal

pub looks-init : goal.looks-init
looks-init g c =
    loops_start g.D.Disk.tells g.S.Screen.tells g.O.Others.notes c.args.o.now c.args.log.now.view (g.O.Others.later c.args.others.now) (g.D.Disk.view c.args.disk.now) (g.S.Screen.shown c.args.screen.now) (g.S.Screen.faults c.args.screen.now) (g.O.Others.noted c.args.others.now)
    (g.met.O.Others.none c.args.others.now (g.D.Disk.view c.args.disk.now).reads)

pub looks-preserved : goal.looks-preserved
looks-preserved g c =
    loops_on g.D.Disk.tells g.S.Screen.tells g.O.Others.notes c.args.o.now c.args.log.now.view c.looks.log.view c.next-found.new.self.view (g.O.Others.later c.args.others.now (g.D.Disk.view c.args.disk.now).reads) (g.O.Others.later c.looks.others) (g.O.Others.later c.act.new.self) (g.O.Others.later c.act-in-looks.new.self) (g.D.Disk.view c.args.disk.now) (g.D.Disk.view c.looks.disk) (g.D.Disk.view c.next-found.new.disk) (g.D.Disk.view c.act.new.disk) (g.D.Disk.view c.check.new.disk) (g.D.Disk.view c.act-in-looks.new.disk)
    (g.S.Screen.shown c.args.screen.now) (g.S.Screen.shown c.looks.screen) (g.S.Screen.shown c.show_look.new.screen) (g.S.Screen.faults c.args.screen.now) (g.S.Screen.faults c.looks.screen) (g.S.Screen.faults c.show_look.new.screen) c.looks.quiet c.quiet_after-quiet.result
    (g.O.Others.noted c.args.others.now) (g.O.Others.noted c.looks.others) (g.O.Others.noted c.act.new.self) (g.O.Others.noted c.act-in-looks.new.self) c.in_ok-seen.seen c.looks.invariant
    (beside_acts g.D.Disk.tells (g.O.Others.later c.args.others.now (g.D.Disk.view c.args.disk.now).reads) (g.O.Others.later c.looks.others) (g.O.Others.later c.act.new.self) (g.D.Disk.view c.args.disk.now) (g.D.Disk.view c.next-found.new.disk) (g.D.Disk.view c.act.new.disk) (2 * length c.looks.invariant.looks)
    (beside_reads g.D.Disk.tells (g.O.Others.later c.args.others.now (g.D.Disk.view c.args.disk.now).reads) (g.O.Others.later c.looks.others) (g.D.Disk.view c.args.disk.now) (g.D.Disk.view c.looks.disk) (g.D.Disk.view c.next-found.new.disk) (2 * length c.looks.invariant.looks) c.looks.invariant.beside (λ t. c.next-found.ensures.reads t) c.next-found.ensures.cause.monotone)
    (λ t j. c.act.ensures.acts t j) (g.met.O.Others.none c.act.new.self (g.D.Disk.view c.act.new.disk).reads) (λ t. c.act.ensures.counts t) (λ t. c.act.ensures.places t) c.act.ensures.faults)
    (beside_acts g.D.Disk.tells (g.O.Others.later c.args.others.now (g.D.Disk.view c.args.disk.now).reads) (g.O.Others.later c.act.new.self) (g.O.Others.later c.act-in-looks.new.self) (g.D.Disk.view c.args.disk.now) (g.D.Disk.view c.check.new.disk) (g.D.Disk.view c.act-in-looks.new.disk) (suc (2 * length c.looks.invariant.looks))
    (beside_reads g.D.Disk.tells (g.O.Others.later c.args.others.now (g.D.Disk.view c.args.disk.now).reads) (g.O.Others.later c.act.new.self) (g.D.Disk.view c.args.disk.now) (g.D.Disk.view c.act.new.disk) (g.D.Disk.view c.check.new.disk) (suc (2 * length c.looks.invariant.looks))
    (beside_acts g.D.Disk.tells (g.O.Others.later c.args.others.now (g.D.Disk.view c.args.disk.now).reads) (g.O.Others.later c.looks.others) (g.O.Others.later c.act.new.self) (g.D.Disk.view c.args.disk.now) (g.D.Disk.view c.next-found.new.disk) (g.D.Disk.view c.act.new.disk) (2 * length c.looks.invariant.looks)
    (beside_reads g.D.Disk.tells (g.O.Others.later c.args.others.now (g.D.Disk.view c.args.disk.now).reads) (g.O.Others.later c.looks.others) (g.D.Disk.view c.args.disk.now) (g.D.Disk.view c.looks.disk) (g.D.Disk.view c.next-found.new.disk) (2 * length c.looks.invariant.looks) c.looks.invariant.beside (λ t. c.next-found.ensures.reads t) c.next-found.ensures.cause.monotone)
    (λ t j. c.act.ensures.acts t j) (g.met.O.Others.none c.act.new.self (g.D.Disk.view c.act.new.disk).reads) (λ t. c.act.ensures.counts t) (λ t. c.act.ensures.places t) c.act.ensures.faults)
    (λ t. c.check.ensures.reads t) c.check.ensures.cause.monotone)
    (λ t j. c.act-in-looks.ensures.acts t j) (g.met.O.Others.none c.act-in-looks.new.self (g.D.Disk.view c.act-in-looks.new.disk).reads) (λ t. c.act-in-looks.ensures.counts t) (λ t. c.act-in-looks.ensures.places t) c.act-in-looks.ensures.faults)
    c.next-found.ensures.same.0 c.next-found.ensures.same.1 c.show_look.ensures.cause.monotone
    (λ t rs h. ok_at c.next-found.result c.in_ok-seen.seen _ (rw c.in_ok-seen.is at c.branch-seen.ensures) (c.next-found.ensures.finds t rs h)) (λ t. on_ok_at c.next-found.result c.in_ok-seen.seen _ (rw c.in_ok-seen.is at c.branch-seen.ensures) (c.next-found.ensures.uncut t)) (λ t. checked_by c.looks.log.view c.next-found.new.self.view (g.D.Disk.view c.act.new.disk).reads c.next-found.ensures.same.0 c.next-found.ensures.same.1 (c.in_ok-check.ensures.uncut t))
    (λ t. c.in_ok-show_look.ensures.shown t) c.in_default.not-End c.quiet_after-quiet.ensures c.if-quiet-eq-MOST_QUIET.false
    (λ tn ts. c.act.ensures.sees tn ts) (λ tn ts. c.act-in-looks.ensures.sees tn ts)
    (λ k. g.met.O.Others.each c.args.others.now (g.D.Disk.view c.args.disk.now).reads c.args.log.now.view.number k)

pub returns-in_err-check-clause-followed : goal.returns-in_err-check-clause-followed
returns-in_err-check-clause-followed g c told has =
    let e : FollowFault = c.in_err-check.field-0.0 in
    let puts = check_fails g.D.Disk.tells g.S.Screen.tells g.O.Others.notes c.args.o.now c.args.log.now.view c.looks.log.view (g.O.Others.later c.args.others.now (g.D.Disk.view c.args.disk.now).reads) (g.O.Others.later c.looks.others) (g.D.Disk.view c.args.disk.now) (g.D.Disk.view c.looks.disk)
    (g.S.Screen.shown c.args.screen.now) (g.S.Screen.shown c.looks.screen) (g.S.Screen.faults c.args.screen.now) (g.S.Screen.faults c.looks.screen) c.looks.quiet (g.O.Others.noted c.args.others.now) (g.O.Others.noted c.looks.others) c.looks.invariant
    (g.met.O.Others.none c.args.others.now (g.D.Disk.view c.args.disk.now).reads) told has c.next-found.new.self.view (g.D.Disk.view c.act.new.disk) (g.O.Others.noted c.act.new.self) c.next-found.ensures.same.0 c.next-found.ensures.same.1 (λ t. (beside_acts g.D.Disk.tells (g.O.Others.later c.args.others.now (g.D.Disk.view c.args.disk.now).reads) (g.O.Others.later c.looks.others) (g.O.Others.later c.act.new.self) (g.D.Disk.view c.args.disk.now) (g.D.Disk.view c.next-found.new.disk) (g.D.Disk.view c.act.new.disk) (2 * length c.looks.invariant.looks)
    (beside_reads g.D.Disk.tells (g.O.Others.later c.args.others.now (g.D.Disk.view c.args.disk.now).reads) (g.O.Others.later c.looks.others) (g.D.Disk.view c.args.disk.now) (g.D.Disk.view c.looks.disk) (g.D.Disk.view c.next-found.new.disk) (2 * length c.looks.invariant.looks) c.looks.invariant.beside (λ t. c.next-found.ensures.reads t) c.next-found.ensures.cause.monotone)
    (λ t j. c.act.ensures.acts t j) (g.met.O.Others.none c.act.new.self (g.D.Disk.view c.act.new.disk).reads) (λ t. c.act.ensures.counts t) (λ t. c.act.ensures.places t) c.act.ensures.faults).here t) (λ tn ts. c.act.ensures.sees tn ts) c.from_residual.result e c.from_residual.ensures.1 c.in_err-check.ensures.fault
    (λ s m at. c.in_err-check.ensures.resumed told s m (fault_is e (faults.Resumed s m) at))
    (λ at. c.in_err-check.ensures.absent told (fault_is e (faults.Log views.Absent) at)) in
    (puts.put, puts.saw, puts.put_is, puts.noted_is, puts.follows)

pub returns-in_err-check-clause-reads : goal.returns-in_err-check-clause-reads
returns-in_err-check-clause-reads g c told = reads_beside g.D.Disk.tells (g.O.Others.later c.args.others.now (g.D.Disk.view c.args.disk.now).reads) (g.O.Others.later c.act.new.self) (g.D.Disk.view c.args.disk.now) (g.D.Disk.view c.check.new.disk) (suc (2 * length c.looks.invariant.looks))
    (beside_reads g.D.Disk.tells (g.O.Others.later c.args.others.now (g.D.Disk.view c.args.disk.now).reads) (g.O.Others.later c.act.new.self) (g.D.Disk.view c.args.disk.now) (g.D.Disk.view c.act.new.disk) (g.D.Disk.view c.check.new.disk) (suc (2 * length c.looks.invariant.looks))
    (beside_acts g.D.Disk.tells (g.O.Others.later c.args.others.now (g.D.Disk.view c.args.disk.now).reads) (g.O.Others.later c.looks.others) (g.O.Others.later c.act.new.self) (g.D.Disk.view c.args.disk.now) (g.D.Disk.view c.next-found.new.disk) (g.D.Disk.view c.act.new.disk) (2 * length c.looks.invariant.looks)
    (beside_reads g.D.Disk.tells (g.O.Others.later c.args.others.now (g.D.Disk.view c.args.disk.now).reads) (g.O.Others.later c.looks.others) (g.D.Disk.view c.args.disk.now) (g.D.Disk.view c.looks.disk) (g.D.Disk.view c.next-found.new.disk) (2 * length c.looks.invariant.looks) c.looks.invariant.beside (λ t. c.next-found.ensures.reads t) c.next-found.ensures.cause.monotone)
    (λ t j. c.act.ensures.acts t j) (g.met.O.Others.none c.act.new.self (g.D.Disk.view c.act.new.disk).reads) (λ t. c.act.ensures.counts t) (λ t. c.act.ensures.places t) c.act.ensures.faults)
    (λ t. c.check.ensures.reads t) c.check.ensures.cause.monotone) told

pub returns-in_err-check-clause-disk : goal.returns-in_err-check-clause-disk
returns-in_err-check-clause-disk g c =
    cause_later c.args.log.now.view.number c.next-found.new.self.view.number _ _ (g.D.Disk.view c.args.disk.now) (g.D.Disk.view c.act.new.disk) (g.D.Disk.view c.check.new.disk) (c.next-found.ensures.same.0 ∙ c.looks.invariant.is.number) (beside_acts g.D.Disk.tells (g.O.Others.later c.args.others.now (g.D.Disk.view c.args.disk.now).reads) (g.O.Others.later c.looks.others) (g.O.Others.later c.act.new.self) (g.D.Disk.view c.args.disk.now) (g.D.Disk.view c.next-found.new.disk) (g.D.Disk.view c.act.new.disk) (2 * length c.looks.invariant.looks)
    (beside_reads g.D.Disk.tells (g.O.Others.later c.args.others.now (g.D.Disk.view c.args.disk.now).reads) (g.O.Others.later c.looks.others) (g.D.Disk.view c.args.disk.now) (g.D.Disk.view c.looks.disk) (g.D.Disk.view c.next-found.new.disk) (2 * length c.looks.invariant.looks) c.looks.invariant.beside (λ t. c.next-found.ensures.reads t) c.next-found.ensures.cause.monotone)
    (λ t j. c.act.ensures.acts t j) (g.met.O.Others.none c.act.new.self (g.D.Disk.view c.act.new.disk).reads) (λ t. c.act.ensures.counts t) (λ t. c.act.ensures.places t) c.act.ensures.faults).faults c.in_err-check.ensures.cause
    (λ is. fault_is c.in_err-check.field-0.0 (faults.Log views.Disk) (look_disk c.in_err-check.field-0.0 (end_same c.from_residual.result (of_look c.in_err-check.field-0.0) (ends.Fault plays.Disk) c.from_residual.ensures.1 is)))

pub returns-in_err-check-clause-screen : goal.returns-in_err-check-clause-screen
returns-in_err-check-clause-screen g c =
    screen_none _ (g.S.Screen.faults c.args.screen.now) (g.S.Screen.faults c.looks.screen) c.looks.invariant.is.screen
    (λ is. look_screen c.in_err-check.field-0.0 (end_same c.from_residual.result (of_look c.in_err-check.field-0.0) (ends.Fault plays.Screen) c.from_residual.ensures.1 is))

pub returns-in_err-seen-clause-followed : goal.returns-in_err-seen-clause-followed
returns-in_err-seen-clause-followed g c told has =
    let e : FollowFault = c.in_err-seen.field-0.0 in
    let puts = read_fails g.D.Disk.tells g.S.Screen.tells g.O.Others.notes c.args.o.now c.args.log.now.view c.looks.log.view (g.O.Others.later c.args.others.now (g.D.Disk.view c.args.disk.now).reads) (g.O.Others.later c.looks.others) (g.D.Disk.view c.args.disk.now) (g.D.Disk.view c.looks.disk)
    (g.S.Screen.shown c.args.screen.now) (g.S.Screen.shown c.looks.screen) (g.S.Screen.faults c.args.screen.now) (g.S.Screen.faults c.looks.screen) c.looks.quiet (g.O.Others.noted c.args.others.now) (g.O.Others.noted c.looks.others) c.looks.invariant
    (g.met.O.Others.none c.args.others.now (g.D.Disk.view c.args.disk.now).reads) told has c.next-found.new.self.view (g.D.Disk.view c.act.new.disk) (g.O.Others.noted c.act.new.self) c.next-found.ensures.same.0 c.next-found.ensures.same.1 (λ t. (beside_acts g.D.Disk.tells (g.O.Others.later c.args.others.now (g.D.Disk.view c.args.disk.now).reads) (g.O.Others.later c.looks.others) (g.O.Others.later c.act.new.self) (g.D.Disk.view c.args.disk.now) (g.D.Disk.view c.next-found.new.disk) (g.D.Disk.view c.act.new.disk) (2 * length c.looks.invariant.looks)
    (beside_reads g.D.Disk.tells (g.O.Others.later c.args.others.now (g.D.Disk.view c.args.disk.now).reads) (g.O.Others.later c.looks.others) (g.D.Disk.view c.args.disk.now) (g.D.Disk.view c.looks.disk) (g.D.Disk.view c.next-found.new.disk) (2 * length c.looks.invariant.looks) c.looks.invariant.beside (λ t. c.next-found.ensures.reads t) c.next-found.ensures.cause.monotone)
    (λ t j. c.act.ensures.acts t j) (g.met.O.Others.none c.act.new.self (g.D.Disk.view c.act.new.disk).reads) (λ t. c.act.ensures.counts t) (λ t. c.act.ensures.places t) c.act.ensures.faults).here t) (λ tn ts. c.act.ensures.sees tn ts) c.from_residual-in_err-seen.result e c.from_residual-in_err-seen.ensures.1 (if_err_is c.next-found.result e _ (rw c.in_err-seen.is at c.branch-seen.ensures) c.next-found.ensures.fault)
    (λ s m at. c.next-found.ensures.resumed told s m (err_at c.next-found.result e (faults.Resumed s m) (rw c.in_err-seen.is at c.branch-seen.ensures) at))
    (λ at. c.next-found.ensures.absent told (err_at c.next-found.result e (faults.Log views.Absent) (rw c.in_err-seen.is at c.branch-seen.ensures) at))
    (λ part at. c.next-found.ensures.damaged told part (err_at c.next-found.result e (faults.Log (views.Damaged part)) (rw c.in_err-seen.is at c.branch-seen.ensures) at)) in
    (puts.put, puts.saw, puts.put_is, puts.noted_is, puts.follows)

pub returns-in_err-seen-clause-reads : goal.returns-in_err-seen-clause-reads
returns-in_err-seen-clause-reads g c told = reads_beside g.D.Disk.tells (g.O.Others.later c.args.others.now (g.D.Disk.view c.args.disk.now).reads) (g.O.Others.later c.act.new.self) (g.D.Disk.view c.args.disk.now) (g.D.Disk.view c.check.new.disk) (suc (2 * length c.looks.invariant.looks))
    (beside_reads g.D.Disk.tells (g.O.Others.later c.args.others.now (g.D.Disk.view c.args.disk.now).reads) (g.O.Others.later c.act.new.self) (g.D.Disk.view c.args.disk.now) (g.D.Disk.view c.act.new.disk) (g.D.Disk.view c.check.new.disk) (suc (2 * length c.looks.invariant.looks))
    (beside_acts g.D.Disk.tells (g.O.Others.later c.args.others.now (g.D.Disk.view c.args.disk.now).reads) (g.O.Others.later c.looks.others) (g.O.Others.later c.act.new.self) (g.D.Disk.view c.args.disk.now) (g.D.Disk.view c.next-found.new.disk) (g.D.Disk.view c.act.new.disk) (2 * length c.looks.invariant.looks)
    (beside_reads g.D.Disk.tells (g.O.Others.later c.args.others.now (g.D.Disk.view c.args.disk.now).reads) (g.O.Others.later c.looks.others) (g.D.Disk.view c.args.disk.now) (g.D.Disk.view c.looks.disk) (g.D.Disk.view c.next-found.new.disk) (2 * length c.looks.invariant.looks) c.looks.invariant.beside (λ t. c.next-found.ensures.reads t) c.next-found.ensures.cause.monotone)
    (λ t j. c.act.ensures.acts t j) (g.met.O.Others.none c.act.new.self (g.D.Disk.view c.act.new.disk).reads) (λ t. c.act.ensures.counts t) (λ t. c.act.ensures.places t) c.act.ensures.faults)
    (λ t. c.check.ensures.reads t) c.check.ensures.cause.monotone) told

pub returns-in_err-seen-clause-disk : goal.returns-in_err-seen-clause-disk
returns-in_err-seen-clause-disk g c =
    cause_between c.args.log.now.view.number c.looks.log.view.number _ _ (g.D.Disk.view c.args.disk.now) (g.D.Disk.view c.looks.disk) (g.D.Disk.view c.next-found.new.disk) (g.D.Disk.view c.check.new.disk) c.looks.invariant.is.number c.looks.invariant.beside.faults c.next-found.ensures.cause (λ f. omega (arith, c.act.ensures.faults f, c.check.ensures.cause.monotone f))
    (λ is. err_at c.next-found.result c.in_err-seen.field-0.0 (faults.Log views.Disk) (rw c.in_err-seen.is at c.branch-seen.ensures) (look_disk c.in_err-seen.field-0.0 (end_same c.from_residual-in_err-seen.result (of_look c.in_err-seen.field-0.0) (ends.Fault plays.Disk) c.from_residual-in_err-seen.ensures.1 is)))

pub returns-in_err-seen-clause-screen : goal.returns-in_err-seen-clause-screen
returns-in_err-seen-clause-screen g c =
    screen_none _ (g.S.Screen.faults c.args.screen.now) (g.S.Screen.faults c.looks.screen) c.looks.invariant.is.screen
    (λ is. look_screen c.in_err-seen.field-0.0 (end_same c.from_residual-in_err-seen.result (of_look c.in_err-seen.field-0.0) (ends.Fault plays.Screen) c.from_residual-in_err-seen.ensures.1 is))

pub returns-in_err-show_look-clause-followed : goal.returns-in_err-show_look-clause-followed
returns-in_err-show_look-clause-followed g c told has =
    let part = c.in_err-show_look.ensures.part in
    let puts = show_fails g.D.Disk.tells g.S.Screen.tells g.O.Others.notes c.args.o.now c.args.log.now.view c.looks.log.view (g.O.Others.later c.args.others.now (g.D.Disk.view c.args.disk.now).reads) (g.O.Others.later c.looks.others) (g.D.Disk.view c.args.disk.now) (g.D.Disk.view c.looks.disk)
    (g.S.Screen.shown c.args.screen.now) (g.S.Screen.shown c.looks.screen) (g.S.Screen.faults c.args.screen.now) (g.S.Screen.faults c.looks.screen) c.looks.quiet (g.O.Others.noted c.args.others.now) (g.O.Others.noted c.looks.others) c.looks.invariant
    (g.met.O.Others.none c.args.others.now (g.D.Disk.view c.args.disk.now).reads) told has c.next-found.new.self.view (g.D.Disk.view c.act.new.disk) (g.O.Others.noted c.act.new.self) c.next-found.ensures.same.0 c.next-found.ensures.same.1 (λ t. (beside_acts g.D.Disk.tells (g.O.Others.later c.args.others.now (g.D.Disk.view c.args.disk.now).reads) (g.O.Others.later c.looks.others) (g.O.Others.later c.act.new.self) (g.D.Disk.view c.args.disk.now) (g.D.Disk.view c.next-found.new.disk) (g.D.Disk.view c.act.new.disk) (2 * length c.looks.invariant.looks)
    (beside_reads g.D.Disk.tells (g.O.Others.later c.args.others.now (g.D.Disk.view c.args.disk.now).reads) (g.O.Others.later c.looks.others) (g.D.Disk.view c.args.disk.now) (g.D.Disk.view c.looks.disk) (g.D.Disk.view c.next-found.new.disk) (2 * length c.looks.invariant.looks) c.looks.invariant.beside (λ t. c.next-found.ensures.reads t) c.next-found.ensures.cause.monotone)
    (λ t j. c.act.ensures.acts t j) (g.met.O.Others.none c.act.new.self (g.D.Disk.view c.act.new.disk).reads) (λ t. c.act.ensures.counts t) (λ t. c.act.ensures.places t) c.act.ensures.faults).here t) (λ tn ts. c.act.ensures.sees tn ts) c.in_ok-seen.seen
    (λ t rs h. ok_at c.next-found.result c.in_ok-seen.seen _ (rw c.in_ok-seen.is at c.branch-seen.ensures) (c.next-found.ensures.finds t rs h)) (λ t. on_ok_at c.next-found.result c.in_ok-seen.seen _ (rw c.in_ok-seen.is at c.branch-seen.ensures) (c.next-found.ensures.uncut t)) (λ t. checked_by c.looks.log.view c.next-found.new.self.view (g.D.Disk.view c.act.new.disk).reads c.next-found.ensures.same.0 c.next-found.ensures.same.1 (c.in_ok-check.ensures.uncut t))
    c.from_residual-in_err-show_look.result part.0 (g.S.Screen.shown c.show_look.new.screen) c.from_residual-in_err-show_look.ensures.1 part.1 part.2 in
    (puts.put, puts.saw, puts.put_is, puts.noted_is, puts.follows)

pub returns-in_err-show_look-clause-reads : goal.returns-in_err-show_look-clause-reads
returns-in_err-show_look-clause-reads g c told = reads_beside g.D.Disk.tells (g.O.Others.later c.args.others.now (g.D.Disk.view c.args.disk.now).reads) (g.O.Others.later c.act.new.self) (g.D.Disk.view c.args.disk.now) (g.D.Disk.view c.check.new.disk) (suc (2 * length c.looks.invariant.looks))
    (beside_reads g.D.Disk.tells (g.O.Others.later c.args.others.now (g.D.Disk.view c.args.disk.now).reads) (g.O.Others.later c.act.new.self) (g.D.Disk.view c.args.disk.now) (g.D.Disk.view c.act.new.disk) (g.D.Disk.view c.check.new.disk) (suc (2 * length c.looks.invariant.looks))
    (beside_acts g.D.Disk.tells (g.O.Others.later c.args.others.now (g.D.Disk.view c.args.disk.now).reads) (g.O.Others.later c.looks.others) (g.O.Others.later c.act.new.self) (g.D.Disk.view c.args.disk.now) (g.D.Disk.view c.next-found.new.disk) (g.D.Disk.view c.act.new.disk) (2 * length c.looks.invariant.looks)
    (beside_reads g.D.Disk.tells (g.O.Others.later c.args.others.now (g.D.Disk.view c.args.disk.now).reads) (g.O.Others.later c.looks.others) (g.D.Disk.view c.args.disk.now) (g.D.Disk.view c.looks.disk) (g.D.Disk.view c.next-found.new.disk) (2 * length c.looks.invariant.looks) c.looks.invariant.beside (λ t. c.next-found.ensures.reads t) c.next-found.ensures.cause.monotone)
    (λ t j. c.act.ensures.acts t j) (g.met.O.Others.none c.act.new.self (g.D.Disk.view c.act.new.disk).reads) (λ t. c.act.ensures.counts t) (λ t. c.act.ensures.places t) c.act.ensures.faults)
    (λ t. c.check.ensures.reads t) c.check.ensures.cause.monotone) told

pub returns-in_err-show_look-clause-disk : goal.returns-in_err-show_look-clause-disk
returns-in_err-show_look-clause-disk g c =
    own_none c.args.log.now.view.number _ (g.D.Disk.view c.args.disk.now) (g.D.Disk.view c.check.new.disk) (beside_reads g.D.Disk.tells (g.O.Others.later c.args.others.now (g.D.Disk.view c.args.disk.now).reads) (g.O.Others.later c.act.new.self) (g.D.Disk.view c.args.disk.now) (g.D.Disk.view c.act.new.disk) (g.D.Disk.view c.check.new.disk) (suc (2 * length c.looks.invariant.looks))
    (beside_acts g.D.Disk.tells (g.O.Others.later c.args.others.now (g.D.Disk.view c.args.disk.now).reads) (g.O.Others.later c.looks.others) (g.O.Others.later c.act.new.self) (g.D.Disk.view c.args.disk.now) (g.D.Disk.view c.next-found.new.disk) (g.D.Disk.view c.act.new.disk) (2 * length c.looks.invariant.looks)
    (beside_reads g.D.Disk.tells (g.O.Others.later c.args.others.now (g.D.Disk.view c.args.disk.now).reads) (g.O.Others.later c.looks.others) (g.D.Disk.view c.args.disk.now) (g.D.Disk.view c.looks.disk) (g.D.Disk.view c.next-found.new.disk) (2 * length c.looks.invariant.looks) c.looks.invariant.beside (λ t. c.next-found.ensures.reads t) c.next-found.ensures.cause.monotone)
    (λ t j. c.act.ensures.acts t j) (g.met.O.Others.none c.act.new.self (g.D.Disk.view c.act.new.disk).reads) (λ t. c.act.ensures.counts t) (λ t. c.act.ensures.places t) c.act.ensures.faults)
    (λ t. c.check.ensures.reads t) c.check.ensures.cause.monotone).faults
    (λ is. screen_no_disk (end_same c.from_residual-in_err-show_look.result (ends.Fault plays.Screen) (ends.Fault plays.Disk) c.from_residual-in_err-show_look.ensures.1 is))

pub returns-in_err-show_look-clause-screen : goal.returns-in_err-show_look-clause-screen
returns-in_err-show_look-clause-screen g c = screen_cause _ _ (g.S.Screen.faults c.args.screen.now) (g.S.Screen.faults c.looks.screen) (g.S.Screen.faults c.show_look.new.screen) c.looks.invariant.is.screen c.in_err-show_look.ensures.cause (λ is. refl)

pub returns-in-End-clause-followed : goal.returns-in-End-clause-followed
returns-in-End-clause-followed g c told has =
    let puts = look_ends g.D.Disk.tells g.S.Screen.tells g.O.Others.notes c.args.o.now c.args.log.now.view c.looks.log.view (g.O.Others.later c.args.others.now (g.D.Disk.view c.args.disk.now).reads) (g.O.Others.later c.looks.others) (g.D.Disk.view c.args.disk.now) (g.D.Disk.view c.looks.disk)
    (g.S.Screen.shown c.args.screen.now) (g.S.Screen.shown c.looks.screen) (g.S.Screen.faults c.args.screen.now) (g.S.Screen.faults c.looks.screen) c.looks.quiet (g.O.Others.noted c.args.others.now) (g.O.Others.noted c.looks.others) c.looks.invariant
    (g.met.O.Others.none c.args.others.now (g.D.Disk.view c.args.disk.now).reads) told has c.next-found.new.self.view (g.D.Disk.view c.act.new.disk) (g.O.Others.noted c.act.new.self) c.next-found.ensures.same.0 c.next-found.ensures.same.1 (λ t. (beside_acts g.D.Disk.tells (g.O.Others.later c.args.others.now (g.D.Disk.view c.args.disk.now).reads) (g.O.Others.later c.looks.others) (g.O.Others.later c.act.new.self) (g.D.Disk.view c.args.disk.now) (g.D.Disk.view c.next-found.new.disk) (g.D.Disk.view c.act.new.disk) (2 * length c.looks.invariant.looks)
    (beside_reads g.D.Disk.tells (g.O.Others.later c.args.others.now (g.D.Disk.view c.args.disk.now).reads) (g.O.Others.later c.looks.others) (g.D.Disk.view c.args.disk.now) (g.D.Disk.view c.looks.disk) (g.D.Disk.view c.next-found.new.disk) (2 * length c.looks.invariant.looks) c.looks.invariant.beside (λ t. c.next-found.ensures.reads t) c.next-found.ensures.cause.monotone)
    (λ t j. c.act.ensures.acts t j) (g.met.O.Others.none c.act.new.self (g.D.Disk.view c.act.new.disk).reads) (λ t. c.act.ensures.counts t) (λ t. c.act.ensures.places t) c.act.ensures.faults).here t) (λ tn ts. c.act.ensures.sees tn ts) c.in_ok-seen.seen
    (λ t rs h. ok_at c.next-found.result c.in_ok-seen.seen _ (rw c.in_ok-seen.is at c.branch-seen.ensures) (c.next-found.ensures.finds t rs h)) (λ t. on_ok_at c.next-found.result c.in_ok-seen.seen _ (rw c.in_ok-seen.is at c.branch-seen.ensures) (c.next-found.ensures.uncut t)) (λ t. checked_by c.looks.log.view c.next-found.new.self.view (g.D.Disk.view c.act.new.disk).reads c.next-found.ensures.same.0 c.next-found.ensures.same.1 (c.in_ok-check.ensures.uncut t))
    (tt {0}) (g.S.Screen.shown c.show_look.new.screen) c.in-End.is (λ t. c.in_ok-show_look.ensures.shown t) in
    (puts.put, puts.saw, puts.put_is, puts.noted_is, puts.follows)

pub returns-in-End-clause-reads : goal.returns-in-End-clause-reads
returns-in-End-clause-reads g c told = reads_beside g.D.Disk.tells (g.O.Others.later c.args.others.now (g.D.Disk.view c.args.disk.now).reads) (g.O.Others.later c.act.new.self) (g.D.Disk.view c.args.disk.now) (g.D.Disk.view c.check.new.disk) (suc (2 * length c.looks.invariant.looks))
    (beside_reads g.D.Disk.tells (g.O.Others.later c.args.others.now (g.D.Disk.view c.args.disk.now).reads) (g.O.Others.later c.act.new.self) (g.D.Disk.view c.args.disk.now) (g.D.Disk.view c.act.new.disk) (g.D.Disk.view c.check.new.disk) (suc (2 * length c.looks.invariant.looks))
    (beside_acts g.D.Disk.tells (g.O.Others.later c.args.others.now (g.D.Disk.view c.args.disk.now).reads) (g.O.Others.later c.looks.others) (g.O.Others.later c.act.new.self) (g.D.Disk.view c.args.disk.now) (g.D.Disk.view c.next-found.new.disk) (g.D.Disk.view c.act.new.disk) (2 * length c.looks.invariant.looks)
    (beside_reads g.D.Disk.tells (g.O.Others.later c.args.others.now (g.D.Disk.view c.args.disk.now).reads) (g.O.Others.later c.looks.others) (g.D.Disk.view c.args.disk.now) (g.D.Disk.view c.looks.disk) (g.D.Disk.view c.next-found.new.disk) (2 * length c.looks.invariant.looks) c.looks.invariant.beside (λ t. c.next-found.ensures.reads t) c.next-found.ensures.cause.monotone)
    (λ t j. c.act.ensures.acts t j) (g.met.O.Others.none c.act.new.self (g.D.Disk.view c.act.new.disk).reads) (λ t. c.act.ensures.counts t) (λ t. c.act.ensures.places t) c.act.ensures.faults)
    (λ t. c.check.ensures.reads t) c.check.ensures.cause.monotone) told

pub returns-in-End-clause-disk : goal.returns-in-End-clause-disk
returns-in-End-clause-disk g c =
    own_none c.args.log.now.view.number _ (g.D.Disk.view c.args.disk.now) (g.D.Disk.view c.check.new.disk) (beside_reads g.D.Disk.tells (g.O.Others.later c.args.others.now (g.D.Disk.view c.args.disk.now).reads) (g.O.Others.later c.act.new.self) (g.D.Disk.view c.args.disk.now) (g.D.Disk.view c.act.new.disk) (g.D.Disk.view c.check.new.disk) (suc (2 * length c.looks.invariant.looks))
    (beside_acts g.D.Disk.tells (g.O.Others.later c.args.others.now (g.D.Disk.view c.args.disk.now).reads) (g.O.Others.later c.looks.others) (g.O.Others.later c.act.new.self) (g.D.Disk.view c.args.disk.now) (g.D.Disk.view c.next-found.new.disk) (g.D.Disk.view c.act.new.disk) (2 * length c.looks.invariant.looks)
    (beside_reads g.D.Disk.tells (g.O.Others.later c.args.others.now (g.D.Disk.view c.args.disk.now).reads) (g.O.Others.later c.looks.others) (g.D.Disk.view c.args.disk.now) (g.D.Disk.view c.looks.disk) (g.D.Disk.view c.next-found.new.disk) (2 * length c.looks.invariant.looks) c.looks.invariant.beside (λ t. c.next-found.ensures.reads t) c.next-found.ensures.cause.monotone)
    (λ t j. c.act.ensures.acts t j) (g.met.O.Others.none c.act.new.self (g.D.Disk.view c.act.new.disk).reads) (λ t. c.act.ensures.counts t) (λ t. c.act.ensures.places t) c.act.ensures.faults)
    (λ t. c.check.ensures.reads t) c.check.ensures.cause.monotone).faults (λ is. ok_no_err _ (tt {0}) (ends.Fault plays.Disk) refl is)

pub returns-in-End-clause-screen : goal.returns-in-End-clause-screen
returns-in-End-clause-screen g c =
    screen_none _ (g.S.Screen.faults c.args.screen.now) (g.S.Screen.faults c.show_look.new.screen) (omega (arith, c.looks.invariant.is.screen, c.show_look.ensures.cause.monotone)) (λ is. ok_no_err _ (tt {0}) (ends.Fault plays.Screen) refl is)

pub returns-then-quiet-eq-MOST_QUIET-clause-followed : goal.returns-then-quiet-eq-MOST_QUIET-clause-followed
returns-then-quiet-eq-MOST_QUIET-clause-followed g c told has =
    let puts = looks_quiet g.D.Disk.tells g.S.Screen.tells g.O.Others.notes c.args.o.now c.args.log.now.view c.looks.log.view (g.O.Others.later c.args.others.now (g.D.Disk.view c.args.disk.now).reads) (g.O.Others.later c.looks.others) (g.D.Disk.view c.args.disk.now) (g.D.Disk.view c.looks.disk)
    (g.S.Screen.shown c.args.screen.now) (g.S.Screen.shown c.looks.screen) (g.S.Screen.faults c.args.screen.now) (g.S.Screen.faults c.looks.screen) c.looks.quiet (g.O.Others.noted c.args.others.now) (g.O.Others.noted c.looks.others) c.looks.invariant
    (g.met.O.Others.none c.args.others.now (g.D.Disk.view c.args.disk.now).reads) told has c.next-found.new.self.view (g.D.Disk.view c.act.new.disk) (g.O.Others.noted c.act.new.self) c.next-found.ensures.same.0 c.next-found.ensures.same.1 (λ t. (beside_acts g.D.Disk.tells (g.O.Others.later c.args.others.now (g.D.Disk.view c.args.disk.now).reads) (g.O.Others.later c.looks.others) (g.O.Others.later c.act.new.self) (g.D.Disk.view c.args.disk.now) (g.D.Disk.view c.next-found.new.disk) (g.D.Disk.view c.act.new.disk) (2 * length c.looks.invariant.looks)
    (beside_reads g.D.Disk.tells (g.O.Others.later c.args.others.now (g.D.Disk.view c.args.disk.now).reads) (g.O.Others.later c.looks.others) (g.D.Disk.view c.args.disk.now) (g.D.Disk.view c.looks.disk) (g.D.Disk.view c.next-found.new.disk) (2 * length c.looks.invariant.looks) c.looks.invariant.beside (λ t. c.next-found.ensures.reads t) c.next-found.ensures.cause.monotone)
    (λ t j. c.act.ensures.acts t j) (g.met.O.Others.none c.act.new.self (g.D.Disk.view c.act.new.disk).reads) (λ t. c.act.ensures.counts t) (λ t. c.act.ensures.places t) c.act.ensures.faults).here t) (λ tn ts. c.act.ensures.sees tn ts) c.in_ok-seen.seen
    (λ t rs h. ok_at c.next-found.result c.in_ok-seen.seen _ (rw c.in_ok-seen.is at c.branch-seen.ensures) (c.next-found.ensures.finds t rs h)) (λ t. on_ok_at c.next-found.result c.in_ok-seen.seen _ (rw c.in_ok-seen.is at c.branch-seen.ensures) (c.next-found.ensures.uncut t)) (λ t. checked_by c.looks.log.view c.next-found.new.self.view (g.D.Disk.view c.act.new.disk).reads c.next-found.ensures.same.0 c.next-found.ensures.same.1 (c.in_ok-check.ensures.uncut t))
    {T = Unit {0}} (g.S.Screen.shown c.show_look.new.screen) c.quiet_after-quiet.result c.quiet_after-quiet.ensures c.if-quiet-eq-MOST_QUIET.true (λ t. c.in_ok-show_look.ensures.shown t) in
    (puts.put, puts.saw, puts.put_is, puts.noted_is, puts.follows)

pub returns-then-quiet-eq-MOST_QUIET-clause-reads : goal.returns-then-quiet-eq-MOST_QUIET-clause-reads
returns-then-quiet-eq-MOST_QUIET-clause-reads g c told = reads_beside g.D.Disk.tells (g.O.Others.later c.args.others.now (g.D.Disk.view c.args.disk.now).reads) (g.O.Others.later c.act.new.self) (g.D.Disk.view c.args.disk.now) (g.D.Disk.view c.check.new.disk) (suc (2 * length c.looks.invariant.looks))
    (beside_reads g.D.Disk.tells (g.O.Others.later c.args.others.now (g.D.Disk.view c.args.disk.now).reads) (g.O.Others.later c.act.new.self) (g.D.Disk.view c.args.disk.now) (g.D.Disk.view c.act.new.disk) (g.D.Disk.view c.check.new.disk) (suc (2 * length c.looks.invariant.looks))
    (beside_acts g.D.Disk.tells (g.O.Others.later c.args.others.now (g.D.Disk.view c.args.disk.now).reads) (g.O.Others.later c.looks.others) (g.O.Others.later c.act.new.self) (g.D.Disk.view c.args.disk.now) (g.D.Disk.view c.next-found.new.disk) (g.D.Disk.view c.act.new.disk) (2 * length c.looks.invariant.looks)
    (beside_reads g.D.Disk.tells (g.O.Others.later c.args.others.now (g.D.Disk.view c.args.disk.now).reads) (g.O.Others.later c.looks.others) (g.D.Disk.view c.args.disk.now) (g.D.Disk.view c.looks.disk) (g.D.Disk.view c.next-found.new.disk) (2 * length c.looks.invariant.looks) c.looks.invariant.beside (λ t. c.next-found.ensures.reads t) c.next-found.ensures.cause.monotone)
    (λ t j. c.act.ensures.acts t j) (g.met.O.Others.none c.act.new.self (g.D.Disk.view c.act.new.disk).reads) (λ t. c.act.ensures.counts t) (λ t. c.act.ensures.places t) c.act.ensures.faults)
    (λ t. c.check.ensures.reads t) c.check.ensures.cause.monotone) told

pub returns-then-quiet-eq-MOST_QUIET-clause-disk : goal.returns-then-quiet-eq-MOST_QUIET-clause-disk
returns-then-quiet-eq-MOST_QUIET-clause-disk g c =
    own_none c.args.log.now.view.number _ (g.D.Disk.view c.args.disk.now) (g.D.Disk.view c.check.new.disk) (beside_reads g.D.Disk.tells (g.O.Others.later c.args.others.now (g.D.Disk.view c.args.disk.now).reads) (g.O.Others.later c.act.new.self) (g.D.Disk.view c.args.disk.now) (g.D.Disk.view c.act.new.disk) (g.D.Disk.view c.check.new.disk) (suc (2 * length c.looks.invariant.looks))
    (beside_acts g.D.Disk.tells (g.O.Others.later c.args.others.now (g.D.Disk.view c.args.disk.now).reads) (g.O.Others.later c.looks.others) (g.O.Others.later c.act.new.self) (g.D.Disk.view c.args.disk.now) (g.D.Disk.view c.next-found.new.disk) (g.D.Disk.view c.act.new.disk) (2 * length c.looks.invariant.looks)
    (beside_reads g.D.Disk.tells (g.O.Others.later c.args.others.now (g.D.Disk.view c.args.disk.now).reads) (g.O.Others.later c.looks.others) (g.D.Disk.view c.args.disk.now) (g.D.Disk.view c.looks.disk) (g.D.Disk.view c.next-found.new.disk) (2 * length c.looks.invariant.looks) c.looks.invariant.beside (λ t. c.next-found.ensures.reads t) c.next-found.ensures.cause.monotone)
    (λ t j. c.act.ensures.acts t j) (g.met.O.Others.none c.act.new.self (g.D.Disk.view c.act.new.disk).reads) (λ t. c.act.ensures.counts t) (λ t. c.act.ensures.places t) c.act.ensures.faults)
    (λ t. c.check.ensures.reads t) c.check.ensures.cause.monotone).faults (λ is. quiet_no_fault plays.Disk (end_same _ ends.Quiet (ends.Fault plays.Disk) refl is))

pub returns-then-quiet-eq-MOST_QUIET-clause-screen : goal.returns-then-quiet-eq-MOST_QUIET-clause-screen
returns-then-quiet-eq-MOST_QUIET-clause-screen g c =
    screen_none _ (g.S.Screen.faults c.args.screen.now) (g.S.Screen.faults c.show_look.new.screen) (omega (arith, c.looks.invariant.is.screen, c.show_look.ensures.cause.monotone)) (λ is. quiet_no_fault plays.Screen (end_same _ ends.Quiet (ends.Fault plays.Screen) refl is))

pub returns-clause-followed : goal.returns-clause-followed
returns-clause-followed g c told has =
    let puts = loop_ends g.D.Disk.tells g.S.Screen.tells g.O.Others.notes c.args.o.now c.args.log.now.view c.looks.log.view (g.O.Others.later c.args.others.now (g.D.Disk.view c.args.disk.now).reads) (g.O.Others.later c.looks.others) (g.D.Disk.view c.args.disk.now) (g.D.Disk.view c.looks.disk)
    (g.S.Screen.shown c.args.screen.now) (g.S.Screen.shown c.looks.screen) (g.S.Screen.faults c.args.screen.now) (g.S.Screen.faults c.looks.screen) c.looks.quiet (g.O.Others.noted c.args.others.now) (g.O.Others.noted c.looks.others) c.looks.invariant
    (g.met.O.Others.none c.args.others.now (g.D.Disk.view c.args.disk.now).reads) told has {T = Unit {0}} in
    (puts.put, puts.saw, puts.put_is, puts.noted_is, puts.follows)

pub returns-clause-reads : goal.returns-clause-reads
returns-clause-reads g c told = reads_beside g.D.Disk.tells (g.O.Others.later c.args.others.now (g.D.Disk.view c.args.disk.now).reads) (g.O.Others.later c.looks.others) (g.D.Disk.view c.args.disk.now) (g.D.Disk.view c.looks.disk) (2 * length c.looks.invariant.looks) c.looks.invariant.beside told

pub returns-clause-disk : goal.returns-clause-disk
returns-clause-disk g c =
    own_none c.args.log.now.view.number _ (g.D.Disk.view c.args.disk.now) (g.D.Disk.view c.looks.disk) c.looks.invariant.beside.faults (λ is. memory_no_disk (end_same _ (ends.Fault plays.NoMem) (ends.Fault plays.Disk) refl is))

pub returns-clause-screen : goal.returns-clause-screen
returns-clause-screen g c =
    screen_none _ (g.S.Screen.faults c.args.screen.now) (g.S.Screen.faults c.looks.screen) c.looks.invariant.is.screen (λ is. memory_no_screen (end_same _ (ends.Fault plays.NoMem) (ends.Fault plays.Screen) refl is))
