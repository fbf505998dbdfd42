-- The log is only read.
use Rattle.std.proofs.Common.{refl}
use Rattle.lsv_disk.specs.View.{DiskView}
use Rattle.lsv_bundle.specs.declared.fault.BundleFault.TheVariants as bundles
use Rattle.lsv_iolog.specs.Recovered.{IsOfLog}
use Rattle.lsv_iolog.specs.declared.fault.ViewFault.TheVariants as logs
use Rattle.lsv_kept.specs.Kept.{IsAsBefore, IsOfRelay}
use Rattle.lsv_kept.proofs.Opening.{reads_as_before, same_image}
use Rattle.lsv_relay.specs.declared.fault.RelayFault.TheVariants as relays
use Rattle.lsv_forward.specs.Inner.{IsUnopened, Judges}
use Rattle.lsv_forward.specs.declared.outcome.Outcome.TheVariants.{Marked, Untried}
use Rattle.lsv_forward.proofs.Drawing.{if_ok_map}
use Rattle.lsv_forward.proofs.Handling.{bare, cause_of_err, judges_relayed, judges_unopened, judges_untried}
use Rattle.lsv_forward.proofs.forward.judge_log.Goals as goal

pub returns-in-Err-clause-judges : goal.returns-in-Err-clause-judges
returns-in-Err-clause-judges g c =
    let old : DiskView = g.D.Disk.view c.args.disk.now in
    let new : DiskView = g.D.Disk.view c.is_relayed.new.disk in
    let n = c.args.number in
    let fault = c.in-Err.fault in
    let run = (λ (told : g.D.Disk.tells). reads_as_before n old new (c.is_relayed.ensures.reads told)) in
    if_ok_map c.unopened.result (λ o. IsUnopened fault o) (λ o. Judges g.D.Disk.tells n o old new)
    (λ o is. judges_unopened c.what_is_kept_is_one.ensures.undamaged g.D.Disk.tells n fault o old new run (record {
      word = c.in-Err.ensures.fault;
      why = λ told. c.in-Err.ensures.why told;
      reads = λ told _ _. c.is_relayed.ensures.reads told;
      touches = λ told. bare n (IsAsBefore n old) old new (run told);
      log = cause_of_err (IsOfLog n) fault (relays.Log logs.Disk) old new c.in-Err.ensures.log;
      state = cause_of_err (IsOfRelay n) fault (relays.State bundles.Disk) old new c.in-Err.ensures.state;
    }) is)
    c.unopened.ensures

pub returns-in-Ok-true-clause-judges : goal.returns-in-Ok-true-clause-judges
returns-in-Ok-true-clause-judges g c =
    let old : DiskView = g.D.Disk.view c.args.disk.now in
    let new : DiskView = g.D.Disk.view c.is_relayed.new.disk in
    let n = c.args.number in
    judges_relayed g.D.Disk.tells n Marked old new (λ told. reads_as_before n old new (c.is_relayed.ensures.reads told)) (λ told. same_image old new (c.is_relayed.ensures.reads told)) (λ told. c.in-Ok-true.ensures.relayed told c.in-Ok-true.field-0-test) refl

pub returns-in-Ok-false-clause-judges : goal.returns-in-Ok-false-clause-judges
returns-in-Ok-false-clause-judges g c =
    let old : DiskView = g.D.Disk.view c.args.disk.now in
    let new : DiskView = g.D.Disk.view c.is_relayed.new.disk in
    let n = c.args.number in
    judges_untried g.D.Disk.tells n Untried old new (λ told. reads_as_before n old new (c.is_relayed.ensures.reads told)) (λ told. same_image old new (c.is_relayed.ensures.reads told)) (λ told. c.in-Ok-false.ensures.unmarked told c.in-Ok-false.field-0-test) refl
