use Rattle.std.proofs.Common.{◌-◌, List, ◌++◌, inr, length, take, drop, get_or, sym, ◌∙◌, ap}
use Rattle.lsv_disk.specs.declared.file.Part.{Part}
use Rattle.lsv_disk.specs.declared.file.Part.TheVariants.{Head}
use Rattle.lsv_bundle.specs.Represents.{IsDurable}
use Rattle.lsv_bundle.proofs.Syncing.{split_first, if_ok_map, has_content, each_more, sync_unchanged, sync_durable, sync_calls, there_more, set_one}
use Rattle.lsv_bundle.proofs.open.+sync_present.Goals as goal

pub returns-then-is_some-clause-there : goal.returns-then-is_some-clause-there
returns-then-is_some-clause-there g t c told =
    let parts : List Part = c.args.parts.now in
    let first : Part = get_or parts 0 Head in
    let old = g.D.Disk.view c.args.disk.now in
    let one = g.D.Disk.view c.length.new.self in
    let mid = g.D.Disk.view c.sync.new.self in
    let new = g.D.Disk.view c.sync_present.new.disk in
    let there = has_content (old.reads c.new-file.result) c.in_ok-length.field-0 (c.in_ok-length.ensures.size told) (sym c.is_some.ensures ∙ c.if-is_some.true) in
    if_ok_map c.sync_present.result _ _
    (λ n each. each_more _ _ parts first (take (length parts - 1) (drop 1 parts)) (split_first parts Head c.in-len1-up.len_at_least) (λ part is. is)
    (inr (sync_durable c.args.owner first c.new-file.result c.new-file.ensures old one mid new (c.in_ok-length.ensures.frame told) (c.in_ok-sync.ensures.frame told) (c.in_ok-sync.ensures.durable told) (c.sync_present.ensures.unchanged told) there)) each)
    (c.sync_present.ensures.there told)

pub returns-then-is_some-clause-unchanged : goal.returns-then-is_some-clause-unchanged
returns-then-is_some-clause-unchanged g t c told =
    let only = g.met.D.Disk.only_now told in
    sync_unchanged c.args.owner (get_or c.args.parts.now 0 Head) c.new-file.result c.new-file.ensures (g.D.Disk.view c.args.disk.now) (g.D.Disk.view c.length.new.self) (g.D.Disk.view c.sync.new.self) (g.D.Disk.view c.sync_present.new.disk)
    (c.in_ok-length.ensures.frame told) (c.in_ok-sync.ensures.frame told) (only c.args.disk.now) (only c.length.new.self) (only c.sync.new.self) (c.sync_present.ensures.unchanged told)

pub returns-then-is_some-clause-calls : goal.returns-then-is_some-clause-calls
returns-then-is_some-clause-calls g t c told =
    let parts : List Part = c.args.parts.now in
    sync_calls c.args.owner (get_or parts 0 Head) c.new-file.result c.new-file.ensures (g.D.Disk.view c.args.disk.now) (g.D.Disk.view c.length.new.self) (g.D.Disk.view c.sync.new.self) (g.D.Disk.view c.sync_present.new.disk)
    (c.in_ok-length.ensures.frame told) (c.in_ok-sync.ensures.frame told) parts (take (length parts - 1) (drop 1 parts)) (split_first parts Head c.in-len1-up.len_at_least) c.requires.distinct (c.sync_present.ensures.calls told)

pub returns-clause-there : goal.returns-clause-there
returns-clause-there g t c told =
    let parts : List Part = c.args.parts.now in
    let first : Part = get_or parts 0 Head in
    there_more c.args.owner c.in_ok-others.others first c.sync_present-2.new.absent _
    (ap (λ (l : List Part). l ++ c.sync_present-2.new.absent) (set_one c.split_at_mut-place.result.0.now first c.split_at_mut-place.ensures.front_len)) (λ f. IsDurable (g.D.Disk.view c.sync_present-2.new.disk) f 0) parts (take (length parts - 1) (drop 1 parts))
    (split_first parts Head c.in-len1-up.len_at_least) (c.in_ok-others.ensures.there told)
