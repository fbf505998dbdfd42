use Rattle.lsv_disk.proofs.Composition.{on_ok_map, one_sync, unchanged_reads}
use Rattle.lsv_kept.proofs.Rooms.{longer_durable, longer_prefix, none_begins, then_synced, write_begins}
use Rattle.lsv_kept.proofs.room.lengthen.Goals as goal

pub returns-then-from-clause-any_moment : goal.returns-then-from-clause-any_moment
returns-then-from-clause-any_moment g c told = none_begins c.args.file c.args.from (g.D.Disk.view c.args.disk.now) (c.requires.there told) (g.met.D.Disk.only_now told c.args.disk.now)

pub returns-in_err-write_at-clause-any_moment : goal.returns-in_err-write_at-clause-any_moment
returns-in_err-write_at-clause-any_moment g c told =
    write_begins c.args.file c.args.from _ (g.D.Disk.view c.args.disk.now) (g.D.Disk.view c.write_at.new.self) (c.requires.there told) (c.write_at.ensures.crash told) (c.write_at.ensures.frame told) (g.met.D.Disk.only_now told c.args.disk.now) (g.met.D.Disk.only_now told c.write_at.new.self)

pub returns-clause-any_moment : goal.returns-clause-any_moment
returns-clause-any_moment g c told =
    let only_mid = g.met.D.Disk.only_now told c.write_at.new.self in
    then_synced c.args.file c.args.from _ (g.D.Disk.view c.args.disk.now) (g.D.Disk.view c.write_at.new.self) (g.D.Disk.view c.sync.new.self) (c.requires.there told) (c.write_at.ensures.crash told) (c.write_at.ensures.frame told) (g.met.D.Disk.only_now told c.args.disk.now) only_mid
    (one_sync c.args.file (g.D.Disk.view c.write_at.new.self) (g.D.Disk.view c.sync.new.self) (c.sync.ensures.frame told) only_mid (g.met.D.Disk.only_now told c.sync.new.self))

pub returns-clause-durable : goal.returns-clause-durable
returns-clause-durable g c told =
    let only_mid = g.met.D.Disk.only_now told c.write_at.new.self in
    on_ok_map c.sync.result _ _
    (λ synced n durable. longer_durable c.args.file c.args.from _ (g.D.Disk.view c.args.disk.now) (g.D.Disk.view c.write_at.new.self) (g.D.Disk.view c.sync.new.self) (c.requires.there told) (c.in_ok-write_at.ensures.written told)
    (unchanged_reads (g.D.Disk.view c.write_at.new.self) (g.D.Disk.view c.sync.new.self) (one_sync c.args.file (g.D.Disk.view c.write_at.new.self) (g.D.Disk.view c.sync.new.self) (c.sync.ensures.frame told) only_mid (g.met.D.Disk.only_now told c.sync.new.self)) c.args.file) synced n durable)
    (c.sync.ensures.durable told)

pub returns-clause-same : goal.returns-clause-same
returns-clause-same g c told =
    let only_mid = g.met.D.Disk.only_now told c.write_at.new.self in
    on_ok_map c.sync.result _ _
    (λ synced. longer_prefix c.args.file c.args.from _ (g.D.Disk.view c.args.disk.now) (g.D.Disk.view c.write_at.new.self) (g.D.Disk.view c.sync.new.self) (c.requires.there told) (c.in_ok-write_at.ensures.written told)
    (unchanged_reads (g.D.Disk.view c.write_at.new.self) (g.D.Disk.view c.sync.new.self) (one_sync c.args.file (g.D.Disk.view c.write_at.new.self) (g.D.Disk.view c.sync.new.self) (c.sync.ensures.frame told) only_mid (g.met.D.Disk.only_now told c.sync.new.self)) c.args.file))
    (c.sync.ensures.durable told)
