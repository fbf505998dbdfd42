use Rattle.lsv_kept.specs.Kept.{state_of}
use Rattle.lsv_kept.proofs.Keepings.{files_through, unmade_through}
use Rattle.lsv_kept.proofs.commit.with_id.Goals as goal

pub returns-in-Some-clause-any_moment : goal.returns-in-Some-clause-any_moment
returns-in-Some-clause-any_moment g c told aim state undone stands =
    files_through c.args.number aim state (state_of aim 1 c.args.count 0 c.args.bytes.now) c.args.files c.in-Some.bundle (g.D.Disk.view c.args.disk.now) (g.D.Disk.view c.next_id.new.disk) c.in-Some.is stands (c.next_id.ensures.any_moment told aim)

pub returns-in-None-clause-any_moment : goal.returns-in-None-clause-any_moment
returns-in-None-clause-any_moment g c told aim state undone stands =
    unmade_through c.args.number aim state (state_of aim 1 c.args.count 0 c.args.bytes.now) c.args.files (g.D.Disk.view c.args.disk.now) (g.D.Disk.view c.first_id.new.disk) c.in-None.is undone stands (c.first_id.ensures.any_moment told aim)
