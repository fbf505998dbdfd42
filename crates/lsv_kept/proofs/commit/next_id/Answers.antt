use Rattle.lsv_kept.specs.Kept.{state_of}
use Rattle.lsv_kept.proofs.Keepings.{at_once}
use Rattle.lsv_kept.proofs.commit.next_id.Goals as goal

pub returns-in_err-put_id-clause-any_moment : goal.returns-in_err-put_id-clause-any_moment
returns-in_err-put_id-clause-any_moment g c told aim = at_once c.args.number aim c.args.bundle (state_of aim 1 c.args.count 0 c.args.bytes.now) (g.D.Disk.view c.args.disk.now) (g.D.Disk.view c.put_id.new.disk) (c.put_id.ensures.any_moment told aim)

pub returns-clause-any_moment : goal.returns-clause-any_moment
returns-clause-any_moment g c told aim = at_once c.args.number aim c.args.bundle (state_of aim 1 c.args.count 0 c.args.bytes.now) (g.D.Disk.view c.args.disk.now) (g.D.Disk.view c.put_id.new.disk) (c.put_id.ensures.any_moment told aim)
