-- A body is written, and then synced, which changes nothing.
use Rattle.std.proofs.Common.{◌≡◌}
use Rattle.lsv_disk.proofs.Composition.{unchanged_reads}
use Rattle.lsv_journal.specs.Last.{KeepsSelected, IsNoLonger}
use Rattle.lsv_journal.proofs.Leaving.{then_unchanged}
use Rattle.lsv_journal.proofs.Words.{slot_stays}
use Rattle.lsv_journal.proofs.journal.Journal.write_slot.Goals as goal

pub returns-clause-keeps : goal.returns-clause-keeps
returns-clause-keeps g c told whole =
    let f = c.args.self.now.file in
    let old = g.D.Disk.view c.args.disk.now in
    let mid = g.D.Disk.view c.put_slot.new.disk in
    then_unchanged (λ h. h ≡ f) (KeepsSelected g.row.N f old.reads) old mid (g.D.Disk.view c.sync_slot.new.disk) (g.met.D.Disk.is_now told c.put_slot.new.disk)
    (c.put_slot.ensures.keeps told whole) (c.sync_slot.ensures.unchanged told c.in_ok-put_slot.ensures.whole)

pub returns-clause-slot : goal.returns-clause-slot
returns-clause-slot g c told whole =
    let f = c.args.self.now.file in
    let mid = g.D.Disk.view c.put_slot.new.disk in
    let new = g.D.Disk.view c.sync_slot.new.disk in
    slot_stays g.row.N f (g.D.Disk.view c.args.disk.now).reads mid.reads new.reads (unchanged_reads mid new (c.sync_slot.ensures.unchanged told c.in_ok-put_slot.ensures.whole) f) (c.put_slot.ensures.slot told whole)

pub returns-clause-length : goal.returns-clause-length
returns-clause-length g c told whole =
    let f = c.args.self.now.file in
    let old = g.D.Disk.view c.args.disk.now in
    let mid = g.D.Disk.view c.put_slot.new.disk in
    then_unchanged (λ h. h ≡ f) (IsNoLonger g.row.N f old.reads) old mid (g.D.Disk.view c.sync_slot.new.disk) (g.met.D.Disk.is_now told c.put_slot.new.disk)
    (c.put_slot.ensures.length told whole) (c.sync_slot.ensures.unchanged told c.in_ok-put_slot.ensures.whole)
