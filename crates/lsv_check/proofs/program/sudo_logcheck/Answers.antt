-- The words are read, and then what they ask for is done.
use Rattle.std.proofs.Common.{[], inl, inr, append-nil, refl, subst, sym}
use Rattle.lsv_disk.specs.View.{DiskView, Image}
use Rattle.lsv_check_args.specs.Asked.{asked_in}
use Rattle.lsv_check_args.specs.Request.{IsUsage}
use Rattle.lsv_check.specs.Checks.{ChecksBy}
use Rattle.lsv_verdict.specs.Verdicts.{Counts}
use Rattle.lsv_check.proofs.Running.{asks_or_usage, read_only, rooted_image, same_counts}
use Rattle.lsv_check.proofs.program.sudo_logcheck.Goals as goal

pub returns-in-Err-Usage-clause-checks : goal.returns-in-Err-Usage-clause-checks
returns-in-Err-Usage-clause-checks g c told told_too =
    let usage : IsUsage c.args.words.now = (rw c.in-Err-Usage.field-0-is at c.in-Err-Usage.ensures.usage) refl in
    ([], sym (append-nil (g.K.Sink.put c.args.sink.now)), inl (usage, refl, refl))

pub returns-in-Err-Usage-clause-usage : goal.returns-in-Err-Usage-clause-usage
returns-in-Err-Usage-clause-usage g c = λ is. (rw c.in-Err-Usage.field-0-is at c.in-Err-Usage.ensures.usage) refl

pub returns-clause-checks : goal.returns-clause-checks
returns-clause-checks g c told told_too =
    let old : DiskView = g.D.Disk.view c.args.disk.now in
    let mid : DiskView = g.D.Disk.view c.root.new.self in
    let new : DiskView = g.D.Disk.view c.check_store.new.disk in
    let asked = asked_in c.in-Ok.request in
    let puts = c.check_store.ensures.checks told told_too in (
      puts.0,
      puts.1,
      inr (inr (
        asked,
        c.in-Ok.ensures.ok,
        subst (λ (counts : Counts). ChecksBy asked old.reads counts c.check_store.result puts.0) (same_counts old mid new c.root.ensures.frame.faults)
            (subst (λ (image : Image). ChecksBy asked image (let k : Counts = record { before = mid.faults; now = new.faults } in k) c.check_store.result puts.0) (rooted_image old mid (c.root.ensures.frame.untouched told)) puts.2),
      )),
    )

pub returns-clause-usage : goal.returns-clause-usage
returns-clause-usage g c = λ is. absurd (c.check_store.ensures.usage is)

pub returns-clause-words : goal.returns-clause-words
returns-clause-words g c = λ usage. absurd (asks_or_usage c.args.words.now (asked_in c.in-Ok.request) c.in-Ok.ensures.ok usage)

pub returns-clause-reads : goal.returns-clause-reads
returns-clause-reads g c told = read_only (g.D.Disk.view c.args.disk.now) (g.D.Disk.view c.root.new.self) (g.D.Disk.view c.check_store.new.disk) (c.root.ensures.frame.untouched told) (c.check_store.ensures.reads told)
