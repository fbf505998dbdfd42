-- Each record that the log gives is kept; its end, or a fault, ends the piece.
use Rattle.std.proofs.Common.{◌≡◌, ◌∙◌, ◌++◌, List, [], ◌∷◌, Option, refl, sym, subst}
use Rattle.lsv_disk.specs.View.{DiskView}
use Rattle.lsv_iolog.specs.Reading.{IsBehind, IsWhole}
use Rattle.lsv_iolog.specs.declared.fault.ViewFault.TheVariants as views
use Rattle.lsv_iolog.proofs.Scans.{if_none_at, if_some_at}
use Rattle.lsv_iolog.proofs.Viewing.{err_of}
use Rattle.lsv_record.specs.declared.records.Record.{Record}
use Rattle.lsv_play.proofs.Played.{own_none}
use Rattle.lsv_play.proofs.ReadAhead.{IsAhead, ahead_ends, ahead_fails, ahead_goes_on, ahead_starts, more_no_fault, reached_same, went_well}
use Rattle.lsv_play.proofs.ahead.read_ahead.Goals as goal

pub records-init : goal.records-init
records-init g c =
    let disk : DiskView = g.D.Disk.view c.args.disk.now in
    subst (λ (rs : List Record). IsAhead g.D.Disk.tells c.args.log.now c.args.log.now disk disk rs) (sym c.new-records.ensures) (ahead_starts g.D.Disk.tells c.args.log.now disk (λ told. g.met.D.Disk.only_now told c.args.disk.now))

pub records-preserved : goal.records-preserved
records-preserved g c =
    ahead_goes_on g.D.Disk.tells c.args.log.now c.records.log c.next.new.self (g.D.Disk.view c.args.disk.now) (g.D.Disk.view c.records.disk) (g.D.Disk.view c.next.new.disk) c.records.records c.push.new.self c.in-Ok-Some.record c.records.invariant
    c.next.ensures.same.0 c.next.ensures.same.2 (λ told. c.next.ensures.reads told) c.next.ensures.cause.monotone
    (λ told. if_some_at c.in-Ok-Some.field-0 c.in-Ok-Some.record (λ r. (rs : List Record) → IsBehind c.records.log rs (g.D.Disk.view c.records.disk) → IsBehind c.next.new.self (rs ++ r ∷ []) (g.D.Disk.view c.next.new.disk)) c.in-Ok-Some.field-0-is (c.in-Ok-Some.ensures.given told))
    (λ told. c.in-Ok-Some.ensures.sound told) (went_well c.push.result _ (sym c.if-is_err.false ∙ c.is_err.ensures.value) c.push.ensures.ok)

pub returns-then-size-gt-ENOUGH-clause-piece : goal.returns-then-size-gt-ENOUGH-clause-piece
returns-then-size-gt-ENOUGH-clause-piece g c = λ told records first. record { reached = c.records.invariant.reached told records first; next = tt }

pub returns-then-size-gt-ENOUGH-clause-cause : goal.returns-then-size-gt-ENOUGH-clause-cause
returns-then-size-gt-ENOUGH-clause-cause g c = own_none c.args.log.now.number _ (g.D.Disk.view c.args.disk.now) (g.D.Disk.view c.records.disk) c.records.invariant.disk more_no_fault

pub returns-in-Ok-None-clause-piece : goal.returns-in-Ok-None-clause-piece
returns-in-Ok-None-clause-piece g c = λ told records first.
    let now : DiskView = g.D.Disk.view c.records.disk in
    let later : DiskView = g.D.Disk.view c.next.new.disk in
    let at = c.records.invariant.reached told records first in
    let over = if_none_at c.in-Ok-None.field-0 ((rs : List Record) → IsBehind c.records.log rs now → IsWhole c.records.log rs now × IsBehind c.next.new.self rs later) c.in-Ok-None.field-0-is (c.in-Ok-None.ensures.end told) (records ++ c.records.records) at.behind in
    record {
      reached = reached_same c.records.log c.next.new.self (records ++ c.records.records) now later c.next.ensures.same.0 c.next.ensures.same.2 (c.next.ensures.reads told) over.1 at;
      next = ahead_ends c.records.log c.next.new.self now later (records ++ c.records.records) c.next.ensures.same.0 c.next.ensures.same.2 (c.next.ensures.reads told) at.behind over.0;
    }

pub returns-in-Err-clause-piece : goal.returns-in-Err-clause-piece
returns-in-Err-clause-piece g c = λ told records first.
    let now : DiskView = g.D.Disk.view c.records.disk in
    let later : DiskView = g.D.Disk.view c.next.new.disk in
    let at = c.records.invariant.reached told records first in
    record {
      reached = reached_same c.records.log c.next.new.self (records ++ c.records.records) now later c.next.ensures.same.0 c.next.ensures.same.2 (c.next.ensures.reads told) (c.in-Err.ensures.stays told (records ++ c.records.records) at.behind) at;
      next = ahead_fails c.records.log c.next.new.self now later (records ++ c.records.records) c.in-Err.fault c.next.ensures.same.0 c.next.ensures.same.2 (c.next.ensures.reads told) c.in-Err.ensures.fault
          (λ part is. c.in-Err.ensures.damaged told part (err_of {T = Option Record} c.in-Err.fault (views.Damaged part) is) (records ++ c.records.records) at.behind);
    }
