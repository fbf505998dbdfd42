use Rattle.lsv_bundle.proofs.Laws.{owner_represents, owner_written, owner_committed, owner_next}
use Rattle.lsv_bundle.proofs.theorems.bundles_stay.Goals as goal

pub returns-clause-represents : goal.returns-clause-represents
returns-clause-represents g c at elsewhere other = owner_represents c.args.bundle.now g.C.Claim.touched (g.D.Disk.view c.args.old.now) (g.D.Disk.view c.args.new.now) elsewhere other at

pub returns-clause-written : goal.returns-clause-written
returns-clause-written g c each elsewhere other = owner_written c.args.bundle.now g.C.Claim.touched (g.D.Disk.view c.args.old.now) (g.D.Disk.view c.args.new.now) elsewhere other each

pub returns-clause-committed : goal.returns-clause-committed
returns-clause-committed g c elsewhere other = owner_committed c.args.bundle.now g.C.Claim.touched (g.D.Disk.view c.args.old.now) (g.D.Disk.view c.args.new.now) elsewhere other

pub returns-clause-next : goal.returns-clause-next
returns-clause-next g c elsewhere other = owner_next c.args.bundle.now g.C.Claim.touched (g.D.Disk.view c.args.old.now) (g.D.Disk.view c.args.new.now) elsewhere other
