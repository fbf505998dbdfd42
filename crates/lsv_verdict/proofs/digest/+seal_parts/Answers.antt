use Rattle.std.proofs.Common.{◌-◌, List, length, take, drop, get_or, subst, sym}
use Rattle.lsv_bundle.proofs.Syncing.{split_first}
use Rattle.lsv_disk.specs.View.{DiskView, Image}
use Rattle.lsv_disk.specs.declared.file.Part.{Part}
use Rattle.lsv_disk.specs.declared.file.Part.TheVariants.{Head}
use Rattle.lsv_disk.proofs.Composition.{reads_trans}
use Rattle.lsv_iolog.specs.Reading.{AreThere}
use Rattle.lsv_iolog.specs.Recovered.{owner_of}
use Rattle.lsv_play.proofs.Played.{same_image}
use Rattle.lsv_verdict.proofs.Feeding.{sealed_more}
use Rattle.lsv_verdict.proofs.digest.+seal_parts.Goals as goal

pub returns-then-branch-clause-sealed : goal.returns-then-branch-clause-sealed
returns-then-branch-clause-sealed g t c told there =
    let parts : List Part = c.args.parts.now in
    let old : DiskView = g.D.Disk.view c.args.disk.now in
    let mid : DiskView = g.D.Disk.view c.seal_part.new.disk in
    let same = same_image old mid (c.seal_part.ensures.reads told) in
    sealed_more old.reads mid.reads c.args.number c.args.body.now parts (take (length parts - 1) (drop 1 parts)) (get_or parts 0 Head) c.seal_parts.result c.args.hasher.now c.seal_part.new.hasher c.seal_parts.new.hasher
    (split_first parts Head c.in-len1-up.len_at_least) same (c.in_ok-seal_part.ensures.sealed told there).1
    (c.seal_parts.ensures.sealed told (subst (λ (image : Image). AreThere (owner_of c.args.number) c.args.body.now image) (sym same) there))

pub returns-then-branch-clause-reads : goal.returns-then-branch-clause-reads
returns-then-branch-clause-reads g t c told =
    reads_trans (g.D.Disk.view c.args.disk.now) (g.D.Disk.view c.seal_part.new.disk) (g.D.Disk.view c.seal_parts.new.disk) (c.seal_part.ensures.reads told) (c.seal_parts.ensures.reads told)
