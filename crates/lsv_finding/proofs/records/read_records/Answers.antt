-- Each record that the log gives is counted; its end, or a fault, ends the reading.
use Rattle.std.proofs.Common.{◌≡◌, ◌++◌, List, [], ◌∷◌, Some, arith}
use Rattle.lsv_iolog.specs.Reading.{IsBehind}
use Rattle.lsv_iolog.proofs.Scans.{if_some_at}
use Rattle.lsv_record.specs.declared.records.Record.{Record}
use Rattle.lsv_finding.proofs.Reading.{running_goes_on}
use Rattle.lsv_finding.proofs.records.read_records.Goals as goal

pub records-preserved : goal.records-preserved
records-preserved g c =
    let some : c.in-Ok-Some.field-0 ≡ Some c.in-Ok-Some.record = cc in
    running_goes_on g.D.Disk.tells c.args.log.now c.records.log c.next.new.self (g.D.Disk.view c.args.disk.now) (g.D.Disk.view c.records.disk) (g.D.Disk.view c.next.new.disk) c.records.count c.records.elapsed
    c.saturating_add-elapsed.result c.in-Ok-Some.record c.records.invariant c.next.ensures.same (λ told. c.next.ensures.reads told) c.next.ensures.cause.monotone
    (λ told. if_some_at c.in-Ok-Some.field-0 c.in-Ok-Some.record (λ r. (rs : List Record) → IsBehind c.records.log rs (g.D.Disk.view c.records.disk) → IsBehind c.next.new.self (rs ++ r ∷ []) (g.D.Disk.view c.next.new.disk)) some (c.in-Ok-Some.ensures.given told))
    (λ told. c.in-Ok-Some.ensures.sound told)
    (λ fits. omega (arith, fits, c.saturating_add-elapsed.ensures, c.delay.ensures))
