-- Each look finds what the image at the start has.
use Rattle.lsv_disk.specs.View.{DiskView}
use Rattle.lsv_disk.proofs.Composition.{reads_trans}
use Rattle.lsv_play.proofs.Played.{same_image}
use Rattle.lsv_finding.proofs.Found.{as_before, found_before}
use Rattle.lsv_finding.proofs.Looking.{looking_goes_on}
use Rattle.lsv_finding.proofs.check.look_again.Goals as goal

pub returns-in_err-after-clause-reads : goal.returns-in_err-after-clause-reads
returns-in_err-after-clause-reads g c told =
    let old : DiskView = g.D.Disk.view c.args.disk.now in
    let now : DiskView = g.D.Disk.view c.looks.disk in
    let one : DiskView = g.D.Disk.view c.last_entry.new.disk in
    let two : DiskView = g.D.Disk.view c.look.new.disk in
    let three : DiskView = g.D.Disk.view c.last_entry-in-looks.new.disk in
    reads_trans old two three (reads_trans old one two (reads_trans old now one (c.looks.invariant.reads told) (c.last_entry.ensures.reads told)) (c.look.ensures.reads told)) (c.last_entry-in-looks.ensures.reads told)

pub returns-in_err-is_sure-clause-reads : goal.returns-in_err-is_sure-clause-reads
returns-in_err-is_sure-clause-reads g c told =
    let old : DiskView = g.D.Disk.view c.args.disk.now in
    let now : DiskView = g.D.Disk.view c.looks.disk in
    let one : DiskView = g.D.Disk.view c.last_entry.new.disk in
    let two : DiskView = g.D.Disk.view c.look.new.disk in
    let three : DiskView = g.D.Disk.view c.last_entry-in-looks.new.disk in
    reads_trans old three (g.D.Disk.view c.is_sure.new.disk)
    (reads_trans old two three (reads_trans old one two (reads_trans old now one (c.looks.invariant.reads told) (c.last_entry.ensures.reads told)) (c.look.ensures.reads told)) (c.last_entry-in-looks.ensures.reads told)) (c.is_sure.ensures.reads told)

pub returns-then-eq-clause-found : goal.returns-then-eq-clause-found
returns-then-eq-clause-found g c told =
    let old : DiskView = g.D.Disk.view c.args.disk.now in
    let now : DiskView = g.D.Disk.view c.looks.disk in
    let one : DiskView = g.D.Disk.view c.last_entry.new.disk in
    as_before c.args.number old.reads one.reads c.in_ok-found.found (same_image old one (reads_trans old now one (c.looks.invariant.reads told) (c.last_entry.ensures.reads told))) (c.in_ok-found.ensures.found told)

pub looks-preserved : goal.looks-preserved
looks-preserved g c =
    let old : DiskView = g.D.Disk.view c.args.disk.now in
    let now : DiskView = g.D.Disk.view c.looks.disk in
    let one : DiskView = g.D.Disk.view c.last_entry.new.disk in
    let two : DiskView = g.D.Disk.view c.look.new.disk in
    let three : DiskView = g.D.Disk.view c.last_entry-in-looks.new.disk in
    looking_goes_on g.D.Disk.tells old three (g.D.Disk.view c.is_sure.new.disk)
    (looking_goes_on g.D.Disk.tells old two three
    (looking_goes_on g.D.Disk.tells old one two (looking_goes_on g.D.Disk.tells old now one c.looks.invariant (λ told. c.last_entry.ensures.reads told) c.last_entry.ensures.cause.monotone) (λ told. c.look.ensures.reads told) c.look.ensures.cause.monotone)
    (λ told. c.last_entry-in-looks.ensures.reads told) c.last_entry-in-looks.ensures.cause.monotone)
    (λ told. c.is_sure.ensures.reads told) c.is_sure.ensures.cause.monotone

pub returns-clause-found : goal.returns-clause-found
returns-clause-found g c told =
    let old : DiskView = g.D.Disk.view c.args.disk.now in
    let now : DiskView = g.D.Disk.view c.looks.disk in
    found_before c.args.number old.reads now.reads c.look-2.result (same_image old now (c.looks.invariant.reads told)) (c.look-2.ensures.found told)
