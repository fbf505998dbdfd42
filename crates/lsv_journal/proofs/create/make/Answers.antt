use Rattle.std.proofs.Common.{ℕ, List, Option, ap, ◌∙◌}
use Rattle.std.proofs.lemmas.Result.{on_ok_weaker}
use Rattle.lsv_disk.specs.Bytes.{bytes_of}
use Rattle.lsv_journal.specs.Slots.{entry_of}
use Rattle.lsv_disk.proofs.Composition.{one_read}
use Rattle.lsv_journal.proofs.Making.{after_unchanged, unchanged_run}
use Rattle.lsv_journal.proofs.Lengths.{short_unchanged, short_after, same_ends, ends_trans}
use Rattle.lsv_journal.proofs.create.make.Goals as goal

pub returns-in_err-length-clause-any_moment : goal.returns-in_err-length-clause-any_moment
returns-in_err-length-clause-any_moment g c told n none =
    let only = g.met.D.Disk.only_now told in
    let old = g.D.Disk.view c.args.disk.now in
    let new = g.D.Disk.view c.length.new.self in
    unchanged_run n c.args.f old new (one_read old new (c.length.ensures.frame told) (only c.args.disk.now) (only c.length.new.self)).unchanged

pub returns-in-None-clause-any_moment : goal.returns-in-None-clause-any_moment
returns-in-None-clause-any_moment g c told n none =
    let only = g.met.D.Disk.only_now told in
    let old = g.D.Disk.view c.args.disk.now in
    let mid = g.D.Disk.view c.length.new.self in
    after_unchanged n c.args.f old mid (g.D.Disk.view c.make_new.new.disk) (one_read old mid (c.length.ensures.frame told) (only c.args.disk.now) (only c.length.new.self)).unchanged (c.make_new.ensures.any_moment told n)

pub returns-in-None-clause-stands : goal.returns-in-None-clause-stands
returns-in-None-clause-stands g c told = on_ok_weaker c.make_new.result (λ stands n none. stands n) (c.make_new.ensures.stands told)

pub returns-in-Some-clause-any_moment : goal.returns-in-Some-clause-any_moment
returns-in-Some-clause-any_moment g c told n none =
    let only = g.met.D.Disk.only_now told in
    let old = g.D.Disk.view c.args.disk.now in
    let mid = g.D.Disk.view c.length.new.self in
    after_unchanged n c.args.f old mid (g.D.Disk.view c.make_again.new.disk) (one_read old mid (c.length.ensures.frame told) (only c.args.disk.now) (only c.length.new.self)).unchanged
    (c.make_again.ensures.any_moment told n (ap (λ (content : Option (List ℕ)). entry_of n (bytes_of content)) ((c.length.ensures.frame told).quiet.same c.args.f) ∙ none))

pub returns-in_err-length-clause-length : goal.returns-in_err-length-clause-length
returns-in_err-length-clause-length g c told =
    let only = g.met.D.Disk.only_now told in
    let old = g.D.Disk.view c.args.disk.now in
    let new = g.D.Disk.view c.length.new.self in
    short_unchanged c.args.f old new (one_read old new (c.length.ensures.frame told) (only c.args.disk.now) (only c.length.new.self)).unchanged

pub returns-in-None-clause-length : goal.returns-in-None-clause-length
returns-in-None-clause-length g c told =
    let only = g.met.D.Disk.only_now told in
    let old = g.D.Disk.view c.args.disk.now in
    let mid = g.D.Disk.view c.length.new.self in
    short_after c.args.f old mid (g.D.Disk.view c.make_new.new.disk) (one_read old mid (c.length.ensures.frame told) (only c.args.disk.now) (only c.length.new.self)).unchanged (c.make_new.ensures.length told)

pub returns-in-Some-clause-length : goal.returns-in-Some-clause-length
returns-in-Some-clause-length g c told =
    let only = g.met.D.Disk.only_now told in
    let old = g.D.Disk.view c.args.disk.now in
    let mid = g.D.Disk.view c.length.new.self in
    short_after c.args.f old mid (g.D.Disk.view c.make_again.new.disk) (one_read old mid (c.length.ensures.frame told) (only c.args.disk.now) (only c.length.new.self)).unchanged (c.make_again.ensures.length told)

pub returns-in_err-length-clause-ends : goal.returns-in_err-length-clause-ends
returns-in_err-length-clause-ends g c told =
    same_ends ((g.D.Disk.view c.args.disk.now).reads c.args.f) ((g.D.Disk.view c.length.new.self).reads c.args.f) ((c.length.ensures.frame told).quiet.same c.args.f)

pub returns-in-None-clause-ends : goal.returns-in-None-clause-ends
returns-in-None-clause-ends g c told =
    let old = (g.D.Disk.view c.args.disk.now).reads c.args.f in
    let mid = (g.D.Disk.view c.length.new.self).reads c.args.f in
    ends_trans (bytes_of old) (bytes_of mid) (bytes_of ((g.D.Disk.view c.make_new.new.disk).reads c.args.f)) (same_ends old mid ((c.length.ensures.frame told).quiet.same c.args.f)) (c.make_new.ensures.ends told)

pub returns-in-Some-clause-ends : goal.returns-in-Some-clause-ends
returns-in-Some-clause-ends g c told =
    let old = (g.D.Disk.view c.args.disk.now).reads c.args.f in
    let mid = (g.D.Disk.view c.length.new.self).reads c.args.f in
    ends_trans (bytes_of old) (bytes_of mid) (bytes_of ((g.D.Disk.view c.make_again.new.disk).reads c.args.f)) (same_ends old mid ((c.length.ensures.frame told).quiet.same c.args.f)) (c.make_again.ensures.ends told)
