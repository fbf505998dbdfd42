-- Each look finds what the image at the start has.
use Rattle.lsv_disk.specs.View.{DiskView}
use Rattle.lsv_disk.proofs.Composition.{reads_trans}
use Rattle.lsv_play.proofs.Played.{same_image}
use Rattle.lsv_tally.proofs.Found.{found_before, tally_before}
use Rattle.lsv_tally.proofs.look.look_again.Goals as goal

pub returns-then-is_sound-clause-found : goal.returns-then-is_sound-clause-found
returns-then-is_sound-clause-found g c told =
    let old : DiskView = g.D.Disk.view c.args.disk.now in
    let now : DiskView = g.D.Disk.view c.looks.disk in
    let one : DiskView = g.D.Disk.view c.last_entry.new.disk in
    tally_before c.args.lane old.reads one.reads c.in_ok-found.found (same_image old one (reads_trans old now one (c.looks.invariant.reads told) (c.last_entry.ensures.reads told))) (c.in_ok-found.ensures.found told)

pub returns-clause-found : goal.returns-clause-found
returns-clause-found g c told =
    let old : DiskView = g.D.Disk.view c.args.disk.now in
    let now : DiskView = g.D.Disk.view c.looks.disk in
    found_before c.args.lane old.reads now.reads c.look-2.result (same_image old now (c.looks.invariant.reads told)) (c.look-2.ensures.found told)
