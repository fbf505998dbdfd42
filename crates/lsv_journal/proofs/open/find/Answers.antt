use Rattle.lsv_disk.proofs.Composition.{one_read, reads_trans}
use Rattle.lsv_journal.proofs.open.find.Goals as goal

pub returns-then-head-ne-OPEN-clause-reads : goal.returns-then-head-ne-OPEN-clause-reads
returns-then-head-ne-OPEN-clause-reads g c told =
    let only = g.met.D.Disk.only_now told in
    let old = g.D.Disk.view c.args.disk.now in
    let mid = g.D.Disk.view c.read_at.new.self in
    let new = g.D.Disk.view c.read_at-2.new.self in
    reads_trans old mid new (one_read old mid (c.read_at.ensures.frame told) (only c.args.disk.now) (only c.read_at.new.self)) (one_read mid new (c.read_at-2.ensures.frame told) (only c.read_at.new.self) (only c.read_at-2.new.self))

pub returns-clause-reads : goal.returns-clause-reads
returns-clause-reads g c told =
    let only = g.met.D.Disk.only_now told in
    let old = g.D.Disk.view c.args.disk.now in
    let mid = g.D.Disk.view c.read_at.new.self in
    let new = g.D.Disk.view c.read_at-2.new.self in
    reads_trans old mid new (one_read old mid (c.read_at.ensures.frame told) (only c.args.disk.now) (only c.read_at.new.self)) (one_read mid new (c.read_at-2.ensures.frame told) (only c.read_at.new.self) (only c.read_at-2.new.self))
