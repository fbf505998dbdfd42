-- A second look finds what the first image has.
use Rattle.lsv_disk.specs.View.{DiskView}
use Rattle.lsv_disk.proofs.Composition.{reads_trans}
use Rattle.lsv_play.proofs.Played.{same_image}
use Rattle.lsv_finding.proofs.Found.{found_before}
use Rattle.lsv_finding.proofs.check.check_log.Goals as goal

pub returns-clause-found : goal.returns-clause-found
returns-clause-found g c told =
    let old : DiskView = g.D.Disk.view c.args.disk.now in
    let one : DiskView = g.D.Disk.view c.look.new.disk in
    let two : DiskView = g.D.Disk.view c.is_sure.new.disk in
    found_before c.args.number old.reads two.reads c.look_again.result (same_image old two (reads_trans old one two (c.look.ensures.reads told) (c.is_sure.ensures.reads told))) (c.look_again.ensures.found told)

pub returns-clause-reads : goal.returns-clause-reads
returns-clause-reads g c told =
    let old : DiskView = g.D.Disk.view c.args.disk.now in
    let one : DiskView = g.D.Disk.view c.look.new.disk in
    let two : DiskView = g.D.Disk.view c.is_sure.new.disk in
    reads_trans old two (g.D.Disk.view c.look_again.new.disk) (reads_trans old one two (c.look.ensures.reads told) (c.is_sure.ensures.reads told)) (c.look_again.ensures.reads told)
