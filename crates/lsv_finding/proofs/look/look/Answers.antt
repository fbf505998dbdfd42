-- A log that is opened is read; of others the files are looked at.
use Rattle.std.proofs.Common.{◌≡◌, refl}
use Rattle.lsv_disk.specs.View.{DiskView}
use Rattle.lsv_disk.proofs.Composition.{reads_trans}
use Rattle.lsv_iolog.specs.declared.fault.ViewFault.TheVariants as views
use Rattle.lsv_iolog.proofs.Viewing.{err_of}
use Rattle.lsv_play.specs.Playing.{IsOpened}
use Rattle.lsv_play.proofs.Played.{opened_log, same_image}
use Rattle.lsv_finding.proofs.Found.{closed_found, found_before, found_number, opened_same, replays_moved}
use Rattle.lsv_finding.proofs.look.look.Goals as goal

pub returns-in-Ok-clause-found : goal.returns-in-Ok-clause-found
returns-in-Ok-clause-found g c told =
    let old : DiskView = g.D.Disk.view c.args.disk.now in
    let mid : DiskView = g.D.Disk.view c.open.new.disk in
    let v = c.in-Ok.log in
    let same = same_image old mid (c.open.ensures.reads told) in
    let number = c.in-Ok.ensures.number in
    let opened : IsOpened c.args.number v.body v.head old.reads =
    opened_log c.args.number v old mid number (c.open.ensures.reads told) (c.in-Ok.ensures.entry told) (c.in-Ok.ensures.head told) (c.in-Ok.ensures.behind told) in
    found_before c.args.number old.reads mid.reads c.look_within.result same
    (found_number c.args.number v.number mid.reads c.look_within.result number
    (c.look_within.ensures.found told (c.in-Ok.ensures.behind told) (opened_same c.args.number v.number old.reads mid.reads v.body v.body v.head v.head number refl refl same opened)))

pub returns-in-Ok-clause-reads : goal.returns-in-Ok-clause-reads
returns-in-Ok-clause-reads g c told = reads_trans (g.D.Disk.view c.args.disk.now) (g.D.Disk.view c.open.new.disk) (g.D.Disk.view c.look_within.new.disk) (c.open.ensures.reads told) (c.look_within.ensures.reads told)

pub returns-in-Err-Absent-clause-found : goal.returns-in-Err-Absent-clause-found
returns-in-Err-Absent-clause-found g c told =
    let old : DiskView = g.D.Disk.view c.args.disk.now in
    let mid : DiskView = g.D.Disk.view c.open.new.disk in
    let same = same_image old mid (c.open.ensures.reads told) in
    let absent : c.in-Err-Absent.field-0 ≡ views.Absent = cc in
    found_before c.args.number old.reads mid.reads c.look_for_bytes.result same
    (c.look_for_bytes.ensures.found told (replays_moved c.args.number old.reads mid.reads same (c.in-Err-Absent.ensures.absent told (err_of c.in-Err-Absent.field-0 views.Absent absent))))

pub returns-in-Err-Damaged-clause-found : goal.returns-in-Err-Damaged-clause-found
returns-in-Err-Damaged-clause-found g c told =
    let is : c.in-Err-Damaged.field-0 ≡ views.Damaged c.in-Err-Damaged.part = cc in
    closed_found c.args.number (g.D.Disk.view c.args.disk.now).reads c.in-Err-Damaged.part (c.in-Err-Damaged.ensures.damaged told c.in-Err-Damaged.part (err_of c.in-Err-Damaged.field-0 (views.Damaged c.in-Err-Damaged.part) is))
