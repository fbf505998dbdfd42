-- The logs are judged, and then the event logs are read.
use Rattle.std.proofs.Common.{◌∙◌, ◌++◌, ℕ, List, ap, append_assoc, arith, subst}
use Rattle.lsv_disk.specs.View.{DiskView, Image}
use Rattle.lsv_disk.proofs.Composition.{reads_trans}
use Rattle.lsv_play.proofs.Played.{same_image}
use Rattle.lsv_check_args.specs.Asked.{asked_in}
use Rattle.lsv_check.specs.Checks.{ChecksLanes}
use Rattle.lsv_verdict.proofs.Walking.{walked_wider}
use Rattle.lsv_verdict.specs.Verdicts.{counts_of}
use Rattle.lsv_verdict.specs.Walks.{Walked, WalkedPart}
use Rattle.lsv_check.proofs.Running.{all_cause, lanes_checks, lanes_wider, stopped_checks}
use Rattle.lsv_check.proofs.program.check_all.Goals as goal

pub returns-in-Ok-clause-checks : goal.returns-in-Ok-clause-checks
returns-in-Ok-clause-checks g c told told_too known =
    let old : DiskView = g.D.Disk.view c.args.disk.now in
    let mid : DiskView = g.D.Disk.view c.check_logs.new.disk in
    let new : DiskView = g.D.Disk.view c.check_lanes.new.disk in
    let asked = asked_in c.args.request.now in
    let same = same_image old mid (c.check_logs.ensures.reads told) in
    let logs = c.in-Ok.ensures.walks told told_too in
    let lanes = c.check_lanes.ensures.checks told told_too in
    let walked = walked_wider asked.form c.as_slice-ids.result.now old.reads (counts_of old mid) (counts_of old new) c.args.count c.in-Ok.sums logs.0 (record { before = λ f. omega arith; now = c.check_lanes.ensures.disk.monotone }) logs.2 in
    let more = lanes_wider asked old.reads (counts_of mid new) (counts_of old new) c.in-Ok.sums c.check_lanes.result lanes.0 (record { before = c.check_logs.ensures.cause.monotone; now = λ f. omega arith })
    (subst (λ (image : Image). ChecksLanes asked image (counts_of mid new) c.in-Ok.sums c.check_lanes.result lanes.0) same lanes.2) in (
      logs.0 ++ lanes.0,
      lanes.1 ∙ ap (λ (bytes : List ℕ). bytes ++ lanes.0) logs.1 ∙ append_assoc (g.K.Sink.put c.args.sink.now) logs.0 lanes.0,
      lanes_checks asked old.reads (counts_of old new) c.args.count c.in-Ok.sums logs.0 known (subst (λ (ids : List ℕ). Walked asked.form ids old.reads (counts_of old new) c.args.count c.in-Ok.sums logs.0) c.as_slice-ids.ensures walked) lanes.0 c.check_lanes.result more,
    )

pub returns-in-Ok-clause-reads : goal.returns-in-Ok-clause-reads
returns-in-Ok-clause-reads g c told = reads_trans (g.D.Disk.view c.args.disk.now) (g.D.Disk.view c.check_logs.new.disk) (g.D.Disk.view c.check_lanes.new.disk) (c.check_logs.ensures.reads told) (c.check_lanes.ensures.reads told)

pub returns-in-Ok-clause-disk : goal.returns-in-Ok-clause-disk
returns-in-Ok-clause-disk g c =
    all_cause c.in-Ok.sums c.check_lanes.result (g.D.Disk.view c.args.disk.now) (g.D.Disk.view c.check_logs.new.disk) (g.D.Disk.view c.check_lanes.new.disk)
    (record { monotone = c.in-Ok.ensures.cause.monotone; risen = λ some. c.in-Ok.ensures.cause.risen some }) c.check_lanes.ensures.disk

pub returns-in-Err-clause-checks : goal.returns-in-Err-clause-checks
returns-in-Err-clause-checks g c told told_too known =
    let old : DiskView = g.D.Disk.view c.args.disk.now in
    let asked = asked_in c.args.request.now in
    let counts = counts_of old (g.D.Disk.view c.check_logs.new.disk) in
    let p = c.in-Err.ensures.walks told told_too in (
      p.0,
      p.1,
      stopped_checks asked old.reads counts c.args.count c.in-Err.stop c.status.result p.0 c.status.ensures known (subst (λ (ids : List ℕ). WalkedPart asked.form ids old.reads counts c.args.count p.0) c.as_slice-ids.ensures p.2),
    )
