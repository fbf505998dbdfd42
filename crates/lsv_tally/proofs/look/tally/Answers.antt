-- A second look finds what the first image has.
use Rattle.lsv_disk.specs.View.{DiskView}
use Rattle.lsv_play.proofs.Played.{same_image}
use Rattle.lsv_tally.proofs.Found.{found_before}
use Rattle.lsv_tally.proofs.look.tally.Goals as goal

pub returns-clause-found : goal.returns-clause-found
returns-clause-found g c told =
    let old : DiskView = g.D.Disk.view c.args.disk.now in
    let one : DiskView = g.D.Disk.view c.look.new.disk in
    found_before c.args.lane old.reads one.reads c.look_again.result (same_image old one (c.look.ensures.reads told)) (c.look_again.ensures.found told)
