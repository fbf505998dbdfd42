-- An event log with an entry is read; of others the file is looked at.
use Rattle.std.proofs.Common.{◌≡◌, None, refl, sym, subst}
use Rattle.lsv_disk.specs.declared.file.Owner.TheVariants.{Events}
use Rattle.lsv_disk.specs.declared.file.Part.TheVariants.{Lines}
use Rattle.lsv_disk.specs.Files.{file_of}
use Rattle.lsv_disk.specs.View.{DiskView, Image}
use Rattle.lsv_bundle.specs.Body.{length_of}
use Rattle.lsv_bundle.specs.Committed.{HasEntry, IsShort}
use Rattle.lsv_bundle.specs.Shape.{journal_of}
use Rattle.lsv_journal.specs.Last.{LastAt}
use Rattle.lsv_play.proofs.Played.{same_image}
use Rattle.lsv_tally.proofs.Found.{found_before, short_found}
use Rattle.lsv_tally.proofs.look.look.Goals as goal

pub returns-in-Ok-Some-clause-found : goal.returns-in-Ok-Some-clause-found
returns-in-Ok-Some-clause-found g c told =
    let old : DiskView = g.D.Disk.view c.args.disk.now in
    let mid : DiskView = g.D.Disk.view c.view.new.disk in
    let same = same_image old mid (c.view.ensures.reads told) in
    let body = c.in-Ok-Some.view.body in
    found_before c.args.lane old.reads mid.reads c.look_within.result same
    (c.look_within.ensures.found told (subst (λ (i : Image). HasEntry (Events c.args.lane) body i) (sym same) (rw c.in-Ok-Some.field-0-is at (c.in-Ok-Some.ensures.entry told)))
    (subst (λ (i : Image). IsShort (i (file_of (Events c.args.lane) Lines)) (length_of body Lines) → ⊥) (sym same) ((rw c.in-Ok-Some.field-0-is at (c.in-Ok-Some.ensures.enough told)) Lines refl)))

pub returns-in-Ok-None-clause-found : goal.returns-in-Ok-None-clause-found
returns-in-Ok-None-clause-found g c told =
    let old : DiskView = g.D.Disk.view c.args.disk.now in
    let mid : DiskView = g.D.Disk.view c.view.new.disk in
    let same = same_image old mid (c.view.ensures.reads told) in
    found_before c.args.lane old.reads mid.reads c.look_for_bytes.result same
    (c.look_for_bytes.ensures.found told (subst (λ (i : Image). LastAt 89 (journal_of (Events c.args.lane)) i ≡ None) (sym same) (c.in-Ok-None.ensures.none told c.in-Ok-None.field-0-is)))

pub returns-in-Err-Damaged-clause-found : goal.returns-in-Err-Damaged-clause-found
returns-in-Err-Damaged-clause-found g c told =
    short_found c.args.lane (g.D.Disk.view c.args.disk.now).reads c.in-Err-Damaged.field-0-0 (c.in-Err-Damaged.ensures.damaged told c.in-Err-Damaged.field-0-0 (cc))
