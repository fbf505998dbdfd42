use Rattle.std.proofs.Common.{sym, ◌∙◌}
use Rattle.std.proofs.lemmas.Result.{on_ok_weaker}
use Rattle.lsv_disk.specs.Bytes.{bytes_of}
use Rattle.lsv_journal.proofs.Making.{unchanged_run, seen_unchanged, again_run, again_none, stands_written, there_reaches}
use Rattle.lsv_journal.proofs.Lengths.{short_unchanged, short_after, short_closed, closed_ends, same_ends, ends_trans}
use Rattle.lsv_journal.proofs.create.close_gate.Goals as goal

pub returns-in_err-lacks_closed_gate-clause-any_moment : goal.returns-in_err-lacks_closed_gate-clause-any_moment
returns-in_err-lacks_closed_gate-clause-any_moment g c told n none =
    let only = g.met.D.Disk.only_now told in
    let old = g.D.Disk.view c.args.disk.now in
    let seen = g.D.Disk.view c.lacks_closed_gate.new.disk in
    unchanged_run n c.args.f old seen (seen_unchanged n c.args.f old seen (only c.args.disk.now) (only c.lacks_closed_gate.new.disk) (c.lacks_closed_gate.ensures.frame told))

pub returns-clause-any_moment : goal.returns-clause-any_moment
returns-clause-any_moment g c told n none =
    let only = g.met.D.Disk.only_now told in
    let old = g.D.Disk.view c.args.disk.now in
    let seen = g.D.Disk.view c.lacks_closed_gate.new.disk in
    unchanged_run n c.args.f old seen (seen_unchanged n c.args.f old seen (only c.args.disk.now) (only c.lacks_closed_gate.new.disk) (c.lacks_closed_gate.ensures.frame told))

pub returns-then-branch-clause-any_moment : goal.returns-then-branch-clause-any_moment
returns-then-branch-clause-any_moment g c told n none =
    let only = g.met.D.Disk.only_now told in
    again_run n c.args.f (g.D.Disk.view c.args.disk.now) (g.D.Disk.view c.lacks_closed_gate.new.disk)
    (only c.args.disk.now) (only c.lacks_closed_gate.new.disk) (c.lacks_closed_gate.ensures.frame told) (g.D.Disk.view c.write_synced.new.disk)
    ((c.in_ok-lacks_closed_gate.ensures.lacks told).0 c.if-branch.true) none (c.write_synced.ensures.any_moment told)

pub returns-then-branch-clause-none : goal.returns-then-branch-clause-none
returns-then-branch-clause-none g c told n none =
    let only = g.met.D.Disk.only_now told in
    again_none n c.args.f (g.D.Disk.view c.args.disk.now) (g.D.Disk.view c.lacks_closed_gate.new.disk)
    (only c.args.disk.now) (only c.lacks_closed_gate.new.disk) (c.lacks_closed_gate.ensures.frame told) (g.D.Disk.view c.write_synced.new.disk)
    ((c.in_ok-lacks_closed_gate.ensures.lacks told).0 c.if-branch.true) none (c.write_synced.ensures.any_moment told)
    (g.met.D.Disk.reads_itself told c.write_synced.new.disk) (g.met.D.Disk.is_now told c.write_synced.new.disk)

pub returns-then-branch-clause-stands : goal.returns-then-branch-clause-stands
returns-then-branch-clause-stands g c told =
    let seen = (g.D.Disk.view c.lacks_closed_gate.new.disk).reads c.args.f in
    on_ok_weaker c.write_synced.result
    (λ written n none. stands_written n seen ((g.D.Disk.view c.write_synced.new.disk).reads c.args.f)
    (there_reaches seen (λ gone. c.requires.there told (sym ((c.lacks_closed_gate.ensures.frame told).quiet.same c.args.f) ∙ gone))) written)
    (c.write_synced.ensures.written told)

pub returns-in_err-lacks_closed_gate-clause-length : goal.returns-in_err-lacks_closed_gate-clause-length
returns-in_err-lacks_closed_gate-clause-length g c told =
    let only = g.met.D.Disk.only_now told in
    let old = g.D.Disk.view c.args.disk.now in
    let seen = g.D.Disk.view c.lacks_closed_gate.new.disk in
    short_unchanged c.args.f old seen (seen_unchanged 0 c.args.f old seen (only c.args.disk.now) (only c.lacks_closed_gate.new.disk) (c.lacks_closed_gate.ensures.frame told))

pub returns-clause-length : goal.returns-clause-length
returns-clause-length g c told =
    let only = g.met.D.Disk.only_now told in
    let old = g.D.Disk.view c.args.disk.now in
    let seen = g.D.Disk.view c.lacks_closed_gate.new.disk in
    short_unchanged c.args.f old seen (seen_unchanged 0 c.args.f old seen (only c.args.disk.now) (only c.lacks_closed_gate.new.disk) (c.lacks_closed_gate.ensures.frame told))

pub returns-then-branch-clause-length : goal.returns-then-branch-clause-length
returns-then-branch-clause-length g c told =
    let only = g.met.D.Disk.only_now told in
    let old = g.D.Disk.view c.args.disk.now in
    let seen = g.D.Disk.view c.lacks_closed_gate.new.disk in
    let new = g.D.Disk.view c.write_synced.new.disk in
    short_after c.args.f old seen new (seen_unchanged 0 c.args.f old seen (only c.args.disk.now) (only c.lacks_closed_gate.new.disk) (c.lacks_closed_gate.ensures.frame told))
    (short_closed c.args.f seen new (c.write_synced.ensures.any_moment told))

pub returns-in_err-lacks_closed_gate-clause-ends : goal.returns-in_err-lacks_closed_gate-clause-ends
returns-in_err-lacks_closed_gate-clause-ends g c told =
    same_ends ((g.D.Disk.view c.args.disk.now).reads c.args.f) ((g.D.Disk.view c.lacks_closed_gate.new.disk).reads c.args.f) ((c.lacks_closed_gate.ensures.frame told).quiet.same c.args.f)

pub returns-clause-ends : goal.returns-clause-ends
returns-clause-ends g c told =
    same_ends ((g.D.Disk.view c.args.disk.now).reads c.args.f) ((g.D.Disk.view c.lacks_closed_gate.new.disk).reads c.args.f) ((c.lacks_closed_gate.ensures.frame told).quiet.same c.args.f)

pub returns-then-branch-clause-ends : goal.returns-then-branch-clause-ends
returns-then-branch-clause-ends g c told =
    let old = (g.D.Disk.view c.args.disk.now).reads c.args.f in
    let seen = g.D.Disk.view c.lacks_closed_gate.new.disk in
    let new = g.D.Disk.view c.write_synced.new.disk in
    ends_trans (bytes_of old) (bytes_of (seen.reads c.args.f)) (bytes_of (new.reads c.args.f)) (same_ends old (seen.reads c.args.f) ((c.lacks_closed_gate.ensures.frame told).quiet.same c.args.f))
    (closed_ends c.args.f seen new (c.write_synced.ensures.any_moment told) (g.met.D.Disk.reads_itself told c.write_synced.new.disk) (g.met.D.Disk.is_now told c.write_synced.new.disk))
