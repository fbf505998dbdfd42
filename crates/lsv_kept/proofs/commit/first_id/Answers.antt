use Rattle.lsv_kept.specs.Kept.{state_of}
use Rattle.lsv_kept.proofs.Keepings.{made_only, made_through, none_on}
use Rattle.lsv_kept.proofs.commit.first_id.Goals as goal

pub returns-in_err-bundle-clause-any_moment : goal.returns-in_err-bundle-clause-any_moment
returns-in_err-bundle-clause-any_moment g c told aim = made_only c.args.number aim (state_of aim 1 c.args.count 0 c.args.bytes.now) (g.D.Disk.view c.args.disk.now) (g.D.Disk.view c.make.new.disk) (c.make.ensures.any_moment told)

pub returns-in_err-put_id-clause-any_moment : goal.returns-in_err-put_id-clause-any_moment
returns-in_err-put_id-clause-any_moment g c told aim =
    made_through c.args.number aim c.in_ok-bundle.bundle (state_of aim 1 c.args.count 0 c.args.bytes.now) (g.D.Disk.view c.args.disk.now) (g.D.Disk.view c.make.new.disk) (g.D.Disk.view c.put_id.new.disk) (c.make.ensures.any_moment told) (none_on aim c.in_ok-bundle.bundle (g.D.Disk.view c.make.new.disk) c.in_ok-bundle.ensures.last)
    (c.put_id.ensures.any_moment told aim)

pub returns-clause-any_moment : goal.returns-clause-any_moment
returns-clause-any_moment g c told aim =
    made_through c.args.number aim c.in_ok-bundle.bundle (state_of aim 1 c.args.count 0 c.args.bytes.now) (g.D.Disk.view c.args.disk.now) (g.D.Disk.view c.make.new.disk) (g.D.Disk.view c.put_id.new.disk) (c.make.ensures.any_moment told) (none_on aim c.in_ok-bundle.bundle (g.D.Disk.view c.make.new.disk) c.in_ok-bundle.ensures.last)
    (c.put_id.ensures.any_moment told aim)
