use Rattle.std.proofs.Common.{◌≡◌, subst}
use Rattle.lsv_disk.specs.declared.file.FileId.{FileId}
use Rattle.lsv_disk.specs.Throughout.{Throughout}
use Rattle.lsv_journal.specs.Last.{KeepsSelected, IsNoLonger}
use Rattle.lsv_journal.proofs.Words.{both_keep, both_end, both_entry}
use Rattle.lsv_journal.proofs.Appending.{reads_of_run}
use Rattle.lsv_journal.proofs.journal.Journal.append.Goals as goal

pub returns-clause-keeps : goal.returns-clause-keeps
returns-clause-keeps g c told whole =
    let f = c.args.self.now.file in
    let old = g.D.Disk.view c.args.disk.now in
    let mid = g.D.Disk.view c.write_slot.new.disk in
    let new = g.D.Disk.view c.select.new.disk in
    let first = c.write_slot.ensures.keeps told whole in
    let second = subst (λ (h : FileId). Throughout (λ k. k ≡ h) (KeepsSelected g.row.N h mid.reads) mid new) c.write_slot.ensures.kept.file_is (c.select.ensures.keeps told c.in_ok-write_slot.ensures.whole) in
    both_keep g.row.N f old mid new
    (both_entry g.row.N c.args.self.now c.write_slot.new.self old mid c.write_slot.ensures.kept.file_is c.write_slot.ensures.last (c.requires.represents told whole) (c.write_slot.ensures.represents told c.in_ok-write_slot.ensures.whole))
    (c.write_slot.ensures.slot told whole)
    (reads_of_run (λ k. k ≡ f) (KeepsSelected g.row.N f old.reads) old mid (g.met.D.Disk.reads_itself told c.write_slot.new.disk) (g.met.D.Disk.is_now told c.write_slot.new.disk) first)
    first second

pub returns-clause-length : goal.returns-clause-length
returns-clause-length g c told whole =
    let f = c.args.self.now.file in
    let old = g.D.Disk.view c.args.disk.now in
    let mid = g.D.Disk.view c.write_slot.new.disk in
    let new = g.D.Disk.view c.select.new.disk in
    let first = c.write_slot.ensures.length told whole in
    let second = subst (λ (h : FileId). Throughout (λ k. k ≡ h) (IsNoLonger g.row.N h mid.reads) mid new) c.write_slot.ensures.kept.file_is (c.select.ensures.length told c.in_ok-write_slot.ensures.whole) in
    both_end g.row.N f old mid new
    (reads_of_run (λ k. k ≡ f) (IsNoLonger g.row.N f old.reads) old mid (g.met.D.Disk.reads_itself told c.write_slot.new.disk) (g.met.D.Disk.is_now told c.write_slot.new.disk) first)
    first second
