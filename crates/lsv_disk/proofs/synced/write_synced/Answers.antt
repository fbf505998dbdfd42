use Rattle.std.proofs.Common.{length}
use Rattle.lsv_disk.proofs.Tearing.{write_run, synced_run}
use Rattle.lsv_disk.proofs.synced.write_synced.Goals as goal

-- where the write fails, it is all of the calls
pub returns-in_err-write_at-clause-any_moment : goal.returns-in_err-write_at-clause-any_moment
returns-in_err-write_at-clause-any_moment g c told =
    let only = g.met.D.Disk.only_now told in
    let old = g.D.Disk.view c.args.disk.now in
    let mid = g.D.Disk.view c.write_at.new.self in
    write_run c.args.f c.args.at (length c.args.bytes.now) old mid mid (only c.args.disk.now) (only c.write_at.new.self) (only c.write_at.new.self)
    (c.requires.synced_before told) (c.write_at.ensures.crash told) (c.write_at.ensures.frame told)

pub returns-clause-any_moment : goal.returns-clause-any_moment
returns-clause-any_moment g c told =
    let only = g.met.D.Disk.only_now told in
    let old = g.D.Disk.view c.args.disk.now in
    let mid = g.D.Disk.view c.write_at.new.self in
    let new = g.D.Disk.view c.sync.new.self in
    synced_run c.args.f c.args.at (length c.args.bytes.now) old mid new (only c.args.disk.now) (only c.write_at.new.self) (only c.sync.new.self)
    (c.requires.synced_before told) (c.write_at.ensures.crash told) (c.write_at.ensures.frame told) (c.sync.ensures.frame told)
