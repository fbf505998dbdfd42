-- The number files are read, then the event logs, and then the last lines are put.
use Rattle.std.proofs.Common.{◌∙◌, ◌++◌, ℕ, List, ap, append_assoc, arith, inl, inr, refl, subst}
use Rattle.lsv_disk.specs.View.{DiskView, Image}
use Rattle.lsv_disk.proofs.Composition.{reads_trans}
use Rattle.lsv_play.proofs.Played.{same_image}
use Rattle.lsv_check_args.specs.Asked.{asked_in}
use Rattle.lsv_check.specs.Checks.{IsSeen}
use Rattle.lsv_check.proofs.Running.{rest_cause, seen_wider, seen_within, stop_cause}
use Rattle.lsv_tally.proofs.Walking.{part_wider, walked_wider}
use Rattle.lsv_tally.specs.Walks.{Walked, WalkedPart}
use Rattle.lsv_verdict.specs.Verdicts.{counts_of}
use Rattle.lsv_check.proofs.program.check_lanes.Goals as goal

pub returns-in-Ok-clause-checks : goal.returns-in-Ok-clause-checks
returns-in-Ok-clause-checks g c told told_too =
    let old : DiskView = g.D.Disk.view c.args.disk.now in
    let mid : DiskView = g.D.Disk.view c.see-seen.new.disk in
    let new : DiskView = g.D.Disk.view c.check_events.new.disk in
    let asked = asked_in c.args.request.now in
    let same = same_image old mid (c.see-seen.ensures.reads told) in
    let lines = c.in-Ok.ensures.walks told told_too in
    let ends = c.end_with.ensures.ends told_too in (
      lines.0 ++ ends.0,
      ends.1 ∙ ap (λ (bytes : List ℕ). bytes ++ ends.0) lines.1 ∙ append_assoc (g.K.Sink.put c.args.sink.now) lines.0 ends.0,
      inl (record {
        seen = c.see-seen.result;
        seen_is = seen_wider asked.events old.reads (counts_of old mid) (counts_of old new) c.see-seen.result (record { before = λ f. omega arith; now = c.in-Ok.ensures.cause.monotone })
            (subst (λ (events : List ℕ). IsSeen events old.reads (counts_of old mid) c.see-seen.result) c.as_str.ensures.value (c.see-seen.ensures.seen told));
        events = c.in-Ok.events;
        lines = lines.0;
        walked = walked_wider asked.form old.reads (counts_of mid new) (counts_of old new) c.see-seen.result.lanes c.in-Ok.events lines.0 (record { before = c.see-seen.ensures.cause.monotone; now = λ f. omega arith })
            (subst (λ (image : Image). Walked asked.form image (counts_of mid new) c.see-seen.result.lanes c.in-Ok.events lines.0) same lines.2);
        front = ends.0;
        ends = ends.2;
        put_is = refl;
      }),
    )

pub returns-in-Ok-clause-disk : goal.returns-in-Ok-clause-disk
returns-in-Ok-clause-disk g c = rest_cause c.see-seen.result.numbers c.args.sums c.in-Ok.events c.end_with.result (g.D.Disk.view c.args.disk.now) (g.D.Disk.view c.see-seen.new.disk) (g.D.Disk.view c.check_events.new.disk) c.end_with.ensures.fault c.see-seen.ensures.cause
    (record { monotone = c.in-Ok.ensures.cause.monotone; risen = λ some. c.in-Ok.ensures.cause.risen some })

pub returns-in-Ok-clause-reads : goal.returns-in-Ok-clause-reads
returns-in-Ok-clause-reads g c told = reads_trans (g.D.Disk.view c.args.disk.now) (g.D.Disk.view c.see-seen.new.disk) (g.D.Disk.view c.check_events.new.disk) (c.see-seen.ensures.reads told) (c.in-Ok.ensures.reads told)

pub returns-in-Err-clause-checks : goal.returns-in-Err-clause-checks
returns-in-Err-clause-checks g c told told_too =
    let old : DiskView = g.D.Disk.view c.args.disk.now in
    let mid : DiskView = g.D.Disk.view c.see-seen.new.disk in
    let new : DiskView = g.D.Disk.view c.check_events.new.disk in
    let asked = asked_in c.args.request.now in
    let same = same_image old mid (c.see-seen.ensures.reads told) in
    let p = c.in-Err.ensures.walks told told_too in
    let within = seen_within asked.events old.reads (counts_of old mid) c.see-seen.result (subst (λ (events : List ℕ). IsSeen events old.reads (counts_of old mid) c.see-seen.result) c.as_str.ensures.value (c.see-seen.ensures.seen told)) in (
      p.0,
      p.1,
      inr (record {
        stop = c.in-Err.stop;
        status_is = c.status.ensures;
        lanes = c.see-seen.result.lanes;
        within = within;
        part = part_wider asked.form old.reads (counts_of mid new) (counts_of old new) c.see-seen.result.lanes p.0 (record { before = c.see-seen.ensures.cause.monotone; now = λ f. omega arith })
            (subst (λ (image : Image). WalkedPart asked.form image (counts_of mid new) c.see-seen.result.lanes p.0) same p.2);
      }),
    )

pub returns-in-Err-clause-reads : goal.returns-in-Err-clause-reads
returns-in-Err-clause-reads g c told = reads_trans (g.D.Disk.view c.args.disk.now) (g.D.Disk.view c.see-seen.new.disk) (g.D.Disk.view c.check_events.new.disk) (c.see-seen.ensures.reads told) (c.in-Err.ensures.reads told)

pub returns-in-Err-clause-disk : goal.returns-in-Err-clause-disk
returns-in-Err-clause-disk g c = stop_cause c.in-Err.stop c.args.sums c.status.result (g.D.Disk.view c.args.disk.now) (g.D.Disk.view c.see-seen.new.disk) (g.D.Disk.view c.check_events.new.disk) c.status.ensures c.see-seen.ensures.cause.monotone c.in-Err.ensures.cause.monotone
