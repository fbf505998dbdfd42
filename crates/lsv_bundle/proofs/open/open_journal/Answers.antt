use Rattle.std.proofs.Common.{◌≡◌, subst}
use Rattle.lsv_disk.specs.declared.file.FileId.{FileId}
use Rattle.lsv_disk.specs.Throughout.{Throughout}
use Rattle.lsv_journal.specs.Last.{IsAbsent, IsSomeCrashOf, MayBeMade}
use Rattle.lsv_journal.proofs.Laws.{absent_last, still_absent_last}
use Rattle.lsv_bundle.specs.Shape.{journal_of}
use Rattle.lsv_bundle.proofs.open.open_journal.Goals as goal

pub returns-in_default-opened-clause-none : goal.returns-in_default-opened-clause-none
returns-in_default-opened-clause-none g c told none =
    absent_last 89 (journal_of c.args.owner) ((g.D.Disk.view c.args.disk.now).reads)
    (subst (λ (f : FileId). IsAbsent f (g.D.Disk.view c.args.disk.now).reads) c.new.ensures ((c.in-Ok.ensures.absent told).0 c.in_default-opened.is))

pub returns-in_default-opened-clause-no_entry : goal.returns-in_default-opened-clause-no_entry
returns-in_default-opened-clause-no_entry g c told _ =
    let old = g.D.Disk.view c.args.disk.now in
    let new = g.D.Disk.view c.open.new.disk in
    still_absent_last 89 (journal_of c.args.owner) old new (g.met.D.Disk.absent_or_empty told c.args.disk.now)
    (subst (λ (f : FileId). IsAbsent f old.reads) c.new.ensures ((c.in-Ok.ensures.absent told).0 c.in_default-opened.is))
    (g.met.D.Disk.is_now told c.open.new.disk)
    (subst (λ (f : FileId). Throughout (λ h. h ≡ f) (IsSomeCrashOf 89 f old) old new) c.new.ensures (c.open.ensures.any_moment told))

pub returns-in_default-opened-clause-may_be_made : goal.returns-in_default-opened-clause-may_be_made
returns-in_default-opened-clause-may_be_made g c told _ =
    subst (λ (f : FileId). MayBeMade 89 f (g.D.Disk.view c.open.new.disk)) c.new.ensures (c.in-Ok.ensures.absent_may_be_made told c.in_default-opened.is)
