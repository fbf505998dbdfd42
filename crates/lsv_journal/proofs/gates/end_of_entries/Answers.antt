use Rattle.std.proofs.Common.{arith}
use Rattle.lsv_disk.specs.Bytes.{bytes_of}
use Rattle.lsv_journal.proofs.Fronts.{whole_none, whole_more, whole_last, whole_past, more_of_old, reads_none, reads_more, length_by}
use Rattle.lsv_journal.proofs.gates.end_of_entries.Goals as goal

pub loop-end-init : goal.loop-end-init
loop-end-init g c = record {
  within = omega arith;
  whole = λ told. whole_none c.args.size (bytes_of ((g.D.Disk.view c.args.disk.now).reads c.args.f));
  reads = λ told. reads_none (g.D.Disk.view c.args.disk.now) (g.met.D.Disk.only_now told c.args.disk.now);
  faults = λ f. omega arith;
}

pub returns-then-more-eq0-clause-end : goal.returns-then-more-eq0-clause-end
returns-then-more-eq0-clause-end g c told =
    let old = g.D.Disk.view c.args.disk.now in
    whole_last c.args.size c.loop-end.end c.in_ok-more.more (bytes_of (old.reads c.args.f)) (c.loop-end.invariant.whole told)
    (more_of_old c.args.size c.loop-end.end c.in_ok-more.more c.args.f old (g.D.Disk.view c.loop-end.disk) (c.loop-end.invariant.reads told) (c.in_ok-more.ensures.more told)) c.if-more-eq0.true

pub returns-then-more-eq0-clause-reads : goal.returns-then-more-eq0-clause-reads
returns-then-more-eq0-clause-reads g c told =
    let only = g.met.D.Disk.only_now told in
    reads_more (g.D.Disk.view c.args.disk.now) (g.D.Disk.view c.loop-end.disk) (g.D.Disk.view c.more_entries.new.disk) (only c.loop-end.disk) (only c.more_entries.new.disk) (c.loop-end.invariant.reads told) (c.more_entries.ensures.frame told)

pub returns-in_err-more-clause-reads : goal.returns-in_err-more-clause-reads
returns-in_err-more-clause-reads g c told =
    let only = g.met.D.Disk.only_now told in
    reads_more (g.D.Disk.view c.args.disk.now) (g.D.Disk.view c.loop-end.disk) (g.D.Disk.view c.more_entries.new.disk) (only c.loop-end.disk) (only c.more_entries.new.disk) (c.loop-end.invariant.reads told) (c.more_entries.ensures.frame told)

pub loop-end-preserved : goal.loop-end-preserved
loop-end-preserved g c = record {
  within = c.in_ok-more.ensures.within;
  whole = λ told.
      let old = g.D.Disk.view c.args.disk.now in
      whole_more c.args.size c.loop-end.end c.in_ok-more.more (bytes_of (old.reads c.args.f)) (c.loop-end.invariant.whole told)
      (more_of_old c.args.size c.loop-end.end c.in_ok-more.more c.args.f old (g.D.Disk.view c.loop-end.disk) (c.loop-end.invariant.reads told) (c.in_ok-more.ensures.more told));
  reads = λ told.
      let only = g.met.D.Disk.only_now told in
      reads_more (g.D.Disk.view c.args.disk.now) (g.D.Disk.view c.loop-end.disk) (g.D.Disk.view c.more_entries.new.disk) (only c.loop-end.disk) (only c.more_entries.new.disk) (c.loop-end.invariant.reads told) (c.more_entries.ensures.frame told);
  faults = λ f. omega (arith, c.more_entries.ensures.cause.monotone f, c.loop-end.invariant.faults f);
}

pub returns-clause-end : goal.returns-clause-end
returns-clause-end g c told =
    let file = (g.D.Disk.view c.args.disk.now).reads c.args.f in
    whole_past c.args.size c.loop-end.end (bytes_of file) (c.loop-end.invariant.whole told) (omega (arith, c.loop-end-test.false, length_by file c.args.total (c.requires.total told)))
