-- Each record that the log gives is added; its end, or a fault, ends the adding.
use Rattle.std.proofs.Common.{◌++◌, List, [], ◌∷◌, Option}
use Rattle.lsv_disk.proofs.Composition.{reads_trans}
use Rattle.lsv_iolog.specs.declared.fault.ViewFault.TheVariants as views
use Rattle.lsv_iolog.specs.Reading.{IsBehind, IsWhole}
use Rattle.lsv_iolog.proofs.Scans.{if_none_at, if_some_at, none_there}
use Rattle.lsv_iolog.proofs.Viewing.{err_is, err_of}
use Rattle.lsv_play.proofs.Played.{own_cause, own_none}
use Rattle.lsv_record.specs.declared.records.Record.{Record}
use Rattle.lsv_load.specs.InnerSums.{IsUnread}
use Rattle.lsv_load.proofs.Adding.{adding_goes_on, adding_starts, err_holds, next_ends, next_fails}
use Rattle.lsv_load.proofs.logs.add_records.Goals as goal

pub records-init : goal.records-init
records-init g c = adding_starts g.D.Disk.tells c.args.log.now (g.D.Disk.view c.args.disk.now) c.args.totals.now (λ told. g.met.D.Disk.only_now told c.args.disk.now)

pub records-preserved : goal.records-preserved
records-preserved g c =
    adding_goes_on g.D.Disk.tells c.args.log.now c.records.log c.next.new.self (g.D.Disk.view c.args.disk.now) (g.D.Disk.view c.records.disk) (g.D.Disk.view c.next.new.disk) c.args.totals.now c.records.totals c.add_record.new.self c.in-Some.record
    c.records.invariant c.next.ensures.same.0 c.next.ensures.same.2 (λ told. c.next.ensures.reads told) c.next.ensures.cause.monotone
    (λ told. if_some_at c.in_ok-record.field-0 c.in-Some.record (λ r. (rs : List Record) → IsBehind c.records.log rs (g.D.Disk.view c.records.disk) → IsBehind c.next.new.self (rs ++ r ∷ []) (g.D.Disk.view c.next.new.disk))
    c.in-Some.is (c.in_ok-record.ensures.given told)) (λ told. c.in_ok-record.ensures.sound told) c.add_record.ensures

pub returns-in_err-record-clause-unread : goal.returns-in_err-record-clause-unread
returns-in_err-record-clause-unread g c told fits fresh opened =
    err_holds c.from_residual.result c.in_err-record.field-0.0 (IsUnread (g.D.Disk.view c.args.disk.now).reads c.args.log.now.number) c.from_residual.ensures.1
    (next_fails g.D.Disk.tells c.args.log.now c.records.log (g.D.Disk.view c.args.disk.now) (g.D.Disk.view c.records.disk) c.args.totals.now c.records.totals c.records.invariant told fresh c.in_err-record.field-0.0 c.in_err-record.ensures.fault
    (λ part at. c.in_err-record.ensures.damaged told part (err_of {T = Option Record} c.in_err-record.field-0.0 (views.Damaged part) at)) fits opened)

pub returns-in_err-record-clause-reads : goal.returns-in_err-record-clause-reads
returns-in_err-record-clause-reads g c told =
    reads_trans (g.D.Disk.view c.args.disk.now) (g.D.Disk.view c.records.disk) (g.D.Disk.view c.next.new.disk) (c.records.invariant.reads told) (c.next.ensures.reads told)

pub returns-in_err-record-clause-cause : goal.returns-in_err-record-clause-cause
returns-in_err-record-clause-cause g c =
    own_cause c.args.log.now.number c.records.log.number _ _ (g.D.Disk.view c.args.disk.now) (g.D.Disk.view c.records.disk) (g.D.Disk.view c.next.new.disk) c.records.invariant.number c.records.invariant.disk c.in_err-record.ensures.cause
    (λ is. err_of {T = Option Record} c.in_err-record.field-0.0 views.Disk (err_is c.from_residual.result c.in_err-record.field-0.0 views.Disk c.from_residual.ensures.1 is))

pub returns-in_default-clause-added : goal.returns-in_default-clause-added
returns-in_default-clause-added g c told fresh =
    next_ends g.D.Disk.tells c.args.log.now c.records.log (g.D.Disk.view c.args.disk.now) (g.D.Disk.view c.records.disk) c.args.totals.now c.records.totals c.records.invariant told fresh
    (λ rs behind. (if_none_at c.in_ok-record.field-0 ((qs : List Record) → IsBehind c.records.log qs (g.D.Disk.view c.records.disk) → IsWhole c.records.log qs (g.D.Disk.view c.records.disk) × IsBehind c.next.new.self qs (g.D.Disk.view c.next.new.disk))
    (none_there c.in_ok-record.field-0 c.in_default.not-Some) (c.in_ok-record.ensures.end told) rs behind).0)

pub returns-in_default-clause-reads : goal.returns-in_default-clause-reads
returns-in_default-clause-reads g c told =
    reads_trans (g.D.Disk.view c.args.disk.now) (g.D.Disk.view c.records.disk) (g.D.Disk.view c.next.new.disk) (c.records.invariant.reads told) (c.next.ensures.reads told)

pub returns-in_default-clause-cause : goal.returns-in_default-clause-cause
returns-in_default-clause-cause g c =
    own_cause c.args.log.now.number c.records.log.number _ _ (g.D.Disk.view c.args.disk.now) (g.D.Disk.view c.records.disk) (g.D.Disk.view c.next.new.disk) c.records.invariant.number c.records.invariant.disk c.in_ok-record.ensures.cause (λ is. absurd (let no_ : ⊥ = cc in no_))

pub returns-clause-reads : goal.returns-clause-reads
returns-clause-reads g c told = c.records.invariant.reads told

pub returns-clause-cause : goal.returns-clause-cause
returns-clause-cause g c = own_none c.args.log.now.number _ (g.D.Disk.view c.args.disk.now) (g.D.Disk.view c.records.disk) c.records.invariant.disk (λ is. let no_ : ⊥ = cc in no_)
