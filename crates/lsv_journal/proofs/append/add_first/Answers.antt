use Rattle.std.proofs.Common.{length, None}
use Rattle.std.proofs.lemmas.Result.{on_ok_weaker}
use Rattle.lsv_disk.specs.Bytes.{bytes_of}
use Rattle.lsv_journal.proofs.Appending.{adding_run, added_run, added, stands_still}
use Rattle.lsv_journal.proofs.Lengths.{kept_ends, both_ends, selected_ends}
use Rattle.lsv_journal.proofs.append.add_first.Goals as goal

pub returns-in_err-write_first-clause-any_moment : goal.returns-in_err-write_first-clause-any_moment
returns-in_err-write_first-clause-any_moment g c told =
    adding_run c.args.f (length c.args.body.now) c.args.body.now (g.D.Disk.view c.args.disk.now) (g.D.Disk.view c.write_first.new.disk) (c.requires.stands told) (c.write_first.ensures.any_moment told)

pub returns-clause-any_moment : goal.returns-clause-any_moment
returns-clause-any_moment g c told =
    let n = length c.args.body.now in
    added_run c.args.f n c.args.body.now (g.D.Disk.view c.args.disk.now) (g.D.Disk.view c.write_first.new.disk) (c.requires.stands told) (c.write_first.ensures.any_moment told)
    (g.met.D.Disk.reads_itself told c.write_first.new.disk) (g.met.D.Disk.is_now told c.write_first.new.disk) (g.D.Disk.view c.select_free.new.disk) (c.in_ok-write_first.ensures.prepared told) (c.select_free.ensures.any_moment told n)

pub returns-clause-added : goal.returns-clause-added
returns-clause-added g c told =
    on_ok_weaker c.select_free.result
    (added c.args.f (length c.args.body.now) c.args.body.now (g.D.Disk.view c.args.disk.now) (g.D.Disk.view c.write_first.new.disk) (c.requires.stands told) (c.write_first.ensures.any_moment told)
    (g.met.D.Disk.reads_itself told c.write_first.new.disk) (g.met.D.Disk.is_now told c.write_first.new.disk) ((g.D.Disk.view c.select_free.new.disk).reads c.args.f) (c.in_ok-write_first.ensures.prepared told))
    (c.select_free.ensures.selected told)

pub returns-in_err-write_first-clause-length : goal.returns-in_err-write_first-clause-length
returns-in_err-write_first-clause-length g c told = kept_ends (length c.args.body.now) None c.args.f (g.D.Disk.view c.args.disk.now) (g.D.Disk.view c.write_first.new.disk) (c.write_first.ensures.any_moment told)

pub returns-clause-length : goal.returns-clause-length
returns-clause-length g c told =
    let n = length c.args.body.now in
    let old = g.D.Disk.view c.args.disk.now in
    let mid = g.D.Disk.view c.write_first.new.disk in
    let new = g.D.Disk.view c.select_free.new.disk in
    let itself = g.met.D.Disk.reads_itself told c.write_first.new.disk in
    let now = g.met.D.Disk.is_now told c.write_first.new.disk in
    let stands = stands_still c.args.f n c.args.body.now old mid (c.requires.stands told) (c.write_first.ensures.any_moment told) itself now in
    both_ends n c.args.f (bytes_of (old.reads c.args.f)) old mid new itself now (kept_ends n None c.args.f old mid (c.write_first.ensures.any_moment told))
    (selected_ends n None c.args.f mid new (c.select_free.ensures.any_moment told n stands (c.in_ok-write_first.ensures.prepared told).0))
