use Rattle.lsv_kept.specs.Kept.{state_of}
use Rattle.lsv_kept.proofs.Keepings.{cut_only, then_replaced}
use Rattle.lsv_kept.proofs.commit.replace_id.Goals as goal

pub returns-in_err-clear-clause-any_moment : goal.returns-in_err-clear-clause-any_moment
returns-in_err-clear-clause-any_moment g c told aim = cut_only c.args.number aim c.args.bundle.now (state_of aim 1 c.args.count 0 c.args.bytes.now) (g.D.Disk.view c.args.disk.now) (g.D.Disk.view c.clear.new.disk) (c.clear.ensures.any_moment told aim)

pub returns-clause-any_moment : goal.returns-clause-any_moment
returns-clause-any_moment g c told aim =
    let old = g.D.Disk.view c.args.disk.now in
    let mid = g.D.Disk.view c.clear.new.disk in
    let new = g.D.Disk.view c.put_id.new.disk in
    then_replaced c.args.number aim c.args.bundle.now c.clear.new.bundle (state_of aim 1 c.args.count 0 c.args.bytes.now) old mid new c.in_ok-clear.ensures.last (c.in_ok-clear.ensures.state told aim) (c.clear.ensures.any_moment told aim) (c.put_id.ensures.any_moment told aim)
