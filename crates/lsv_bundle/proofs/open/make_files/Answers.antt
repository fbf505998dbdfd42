use Rattle.std.proofs.Common.{List, take, inl}
use Rattle.lsv_disk.specs.declared.file.Part.{Part}
use Rattle.lsv_disk.proofs.Composition.{unchanged_reads}
use Rattle.lsv_bundle.proofs.Results.{on_ok_both}
use Rattle.lsv_bundle.proofs.Syncing.{made_there, made_run, made_reads}
use Rattle.lsv_bundle.proofs.open.make_files.Goals as goal

pub returns-clause-there : goal.returns-clause-there
returns-clause-there g c told =
    let absent : List Part = take c.in_ok-count.count c.sync_present.new.absent in
    on_ok_both c.create_all.result _ _ _
    (made_there c.args.owner c.args.parts.now absent (g.D.Disk.view c.args.disk.now) (g.D.Disk.view c.sync_present.new.disk) (g.D.Disk.view c.create_all.new.self)
    c.in_ok-count.ensures.some (c.in_ok-count.ensures.there told) (c.in_ok-count.ensures.absent told) (c.in_ok-count.ensures.unchanged told) (c.create_all.ensures.any_moment told))
    (c.create_all.ensures.made told) (c.create_all.ensures.durable told)

pub returns-clause-any_moment : goal.returns-clause-any_moment
returns-clause-any_moment g c told =
    let absent : List Part = take c.in_ok-count.count c.sync_present.new.absent in
    made_run c.args.owner c.args.parts.now absent (g.D.Disk.view c.args.disk.now) (g.D.Disk.view c.sync_present.new.disk) (g.D.Disk.view c.create_all.new.self)
    c.in_ok-count.ensures.some (c.in_ok-count.ensures.there told) (c.in_ok-count.ensures.absent told) (c.in_ok-count.ensures.unchanged told) (c.create_all.ensures.any_moment told)

pub returns-in_err-count-clause-reads : goal.returns-in_err-count-clause-reads
returns-in_err-count-clause-reads g c told f one = inl (unchanged_reads (g.D.Disk.view c.args.disk.now) (g.D.Disk.view c.sync_present.new.disk) (c.sync_present.ensures.unchanged told) f)

pub returns-clause-reads : goal.returns-clause-reads
returns-clause-reads g c told =
    let absent : List Part = take c.in_ok-count.count c.sync_present.new.absent in
    made_reads c.args.owner c.args.parts.now absent (g.D.Disk.view c.args.disk.now) (g.D.Disk.view c.sync_present.new.disk) (g.D.Disk.view c.create_all.new.self)
    c.in_ok-count.ensures.some (c.in_ok-count.ensures.there told) (c.in_ok-count.ensures.absent told) (c.in_ok-count.ensures.unchanged told) (c.create_all.ensures.any_moment told) (c.create_all.ensures.made_or_not told)
