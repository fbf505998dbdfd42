use Rattle.std.proofs.Common.{ℕ, List, Option, ap, ◌∙◌}
use Rattle.lsv_disk.specs.Bytes.{bytes_of}
use Rattle.lsv_disk.proofs.Composition.{one_sync}
use Rattle.lsv_journal.specs.Slots.{entry_of}
use Rattle.lsv_journal.proofs.Making.{unchanged_run, after_unchanged}
use Rattle.lsv_journal.proofs.Lengths.{short_unchanged, short_after, same_ends, ends_trans}
use Rattle.lsv_journal.proofs.create.make_again.Goals as goal

pub returns-in_err-sync-clause-any_moment : goal.returns-in_err-sync-clause-any_moment
returns-in_err-sync-clause-any_moment g c told n none =
    let only = g.met.D.Disk.only_now told in
    let old = g.D.Disk.view c.args.disk.now in
    let new = g.D.Disk.view c.sync.new.self in
    unchanged_run n c.args.f old new (one_sync c.args.f old new (c.sync.ensures.frame told) (only c.args.disk.now) (only c.sync.new.self))

pub returns-clause-any_moment : goal.returns-clause-any_moment
returns-clause-any_moment g c told n none =
    let only = g.met.D.Disk.only_now told in
    let old = g.D.Disk.view c.args.disk.now in
    let mid = g.D.Disk.view c.sync.new.self in
    after_unchanged n c.args.f old mid (g.D.Disk.view c.close_gate.new.disk) (one_sync c.args.f old mid (c.sync.ensures.frame told) (only c.args.disk.now) (only c.sync.new.self))
    (c.close_gate.ensures.any_moment told n (ap (λ (content : Option (List ℕ)). entry_of n (bytes_of content)) ((c.sync.ensures.frame told).quiet.same c.args.f) ∙ none))

pub returns-in_err-sync-clause-length : goal.returns-in_err-sync-clause-length
returns-in_err-sync-clause-length g c told =
    let only = g.met.D.Disk.only_now told in
    let old = g.D.Disk.view c.args.disk.now in
    let new = g.D.Disk.view c.sync.new.self in
    short_unchanged c.args.f old new (one_sync c.args.f old new (c.sync.ensures.frame told) (only c.args.disk.now) (only c.sync.new.self))

pub returns-clause-length : goal.returns-clause-length
returns-clause-length g c told =
    let only = g.met.D.Disk.only_now told in
    let old = g.D.Disk.view c.args.disk.now in
    let mid = g.D.Disk.view c.sync.new.self in
    short_after c.args.f old mid (g.D.Disk.view c.close_gate.new.disk) (one_sync c.args.f old mid (c.sync.ensures.frame told) (only c.args.disk.now) (only c.sync.new.self)) (c.close_gate.ensures.length told)

pub returns-in_err-sync-clause-ends : goal.returns-in_err-sync-clause-ends
returns-in_err-sync-clause-ends g c told =
    same_ends ((g.D.Disk.view c.args.disk.now).reads c.args.f) ((g.D.Disk.view c.sync.new.self).reads c.args.f) ((c.sync.ensures.frame told).quiet.same c.args.f)

pub returns-clause-ends : goal.returns-clause-ends
returns-clause-ends g c told =
    let old = (g.D.Disk.view c.args.disk.now).reads c.args.f in
    let mid = (g.D.Disk.view c.sync.new.self).reads c.args.f in
    ends_trans (bytes_of old) (bytes_of mid) (bytes_of ((g.D.Disk.view c.close_gate.new.disk).reads c.args.f)) (same_ends old mid ((c.sync.ensures.frame told).quiet.same c.args.f)) (c.close_gate.ensures.ends told)
