use Rattle.std.proofs.Common.{◌≡◌, ◌-◌, ◌≤◌, ℕ, List, Some, length, take, drop, get_or, sym, subst, ◌∙◌}
use Rattle.std.specs.Prelude.{slice_index}
use Rattle.lsv_disk.specs.declared.file.FileId.{FileId}
use Rattle.lsv_disk.specs.declared.file.Part.{Part}
use Rattle.lsv_disk.specs.declared.file.Part.TheVariants.{Head}
use Rattle.lsv_disk.specs.Bytes.{size_of}
use Rattle.lsv_disk.specs.Files.{file_of}
use Rattle.lsv_bundle.specs.Shape.{index_of}
use Rattle.lsv_bundle.proofs.Results.{on_ok_map}
use Rattle.lsv_bundle.proofs.Syncing.{split_first, not_short, enough_more, damaged_more}
use Rattle.lsv_bundle.proofs.open.+check_lengths.Goals as goal

pub returns-in-Some-clause-enough : goal.returns-in-Some-clause-enough
returns-in-Some-clause-enough g t c told =
    let parts : List Part = c.args.parts.now in
    let first : Part = get_or parts 0 Head in
    let old = g.D.Disk.view c.args.disk.now in
    let mid = g.D.Disk.view c.length.new.self in
    let size : Some c.in-Some.length ≡ size_of (old.reads (file_of c.args.owner first)) = subst (λ (f : FileId). Some c.in-Some.length ≡ size_of (old.reads f)) c.new.ensures (sym c.in-Some.is ∙ c.in_ok-length.ensures.size told) in
    let enough : slice_index c.args.lens.now (index_of first) ≤ c.in-Some.length = subst (λ (i : ℕ). slice_index c.args.lens.now i ≤ c.in-Some.length) c.index_of.ensures.index c.if-length-lens.true in
    on_ok_map c.check_lengths.result _ _
    (enough_more c.args.owner old.reads mid.reads c.args.lens.now parts first (take (length parts - 1) (drop 1 parts)) (split_first parts Head c.in-len1-up.len_at_least) (c.in_ok-length.ensures.frame told).quiet.same
    (not_short (old.reads (file_of c.args.owner first)) (slice_index c.args.lens.now (index_of first)) c.in-Some.length size enough))
    (c.check_lengths.ensures.enough told)

pub returns-in-Some-clause-damaged : goal.returns-in-Some-clause-damaged
returns-in-Some-clause-damaged g t c told part is =
    let parts : List Part = c.args.parts.now in
    let first : Part = get_or parts 0 Head in
    let old = g.D.Disk.view c.args.disk.now in
    let mid = g.D.Disk.view c.length.new.self in
    let size : Some c.in-Some.length ≡ size_of (old.reads (file_of c.args.owner first)) = subst (λ (f : FileId). Some c.in-Some.length ≡ size_of (old.reads f)) c.new.ensures (sym c.in-Some.is ∙ c.in_ok-length.ensures.size told) in
    let enough : slice_index c.args.lens.now (index_of first) ≤ c.in-Some.length = subst (λ (i : ℕ). slice_index c.args.lens.now i ≤ c.in-Some.length) c.index_of.ensures.index c.if-length-lens.true in
    damaged_more c.args.owner old.reads mid.reads c.args.lens.now parts first (take (length parts - 1) (drop 1 parts)) (split_first parts Head c.in-len1-up.len_at_least) (c.in_ok-length.ensures.frame told).quiet.same
    (not_short (old.reads (file_of c.args.owner first)) (slice_index c.args.lens.now (index_of first)) c.in-Some.length size enough)
    part (c.check_lengths.ensures.damaged told part is)
