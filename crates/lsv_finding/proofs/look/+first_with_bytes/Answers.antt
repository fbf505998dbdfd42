use Rattle.std.proofs.Common.{◌-◌, List, length, take, drop, get_or}
use Rattle.lsv_disk.specs.declared.file.Part.{Part}
use Rattle.lsv_disk.specs.declared.file.Part.TheVariants.{Head}
use Rattle.lsv_bundle.proofs.Syncing.{split_first}
use Rattle.lsv_play.proofs.Played.{same_image}
use Rattle.lsv_finding.proofs.Found.{first_passed}
use Rattle.lsv_finding.proofs.look.+first_with_bytes.Goals as goal

pub returns-clause-found : goal.returns-clause-found
returns-clause-found g t c told =
    let parts : List Part = c.args.parts.now in
    let old = g.D.Disk.view c.args.disk.now in
    let mid = g.D.Disk.view c.has_bytes.new.disk in
    first_passed c.args.number old.reads mid.reads parts (get_or parts 0 Head) (take (length parts - 1) (drop 1 parts)) c.in_ok-has_bytes.field-0 c.first_with_bytes.result (split_first parts Head c.in-len1-up.len_at_least)
    (same_image old mid (c.has_bytes.ensures.reads told)) (c.in_ok-has_bytes.ensures.found told) c.if-branch.false (c.first_with_bytes.ensures.found told)
