use Rattle.lsv_kept.proofs.Reading.{marked_by}
use Rattle.lsv_kept.proofs.open.is_marked.Goals as goal

pub returns-clause-marked : goal.returns-clause-marked
returns-clause-marked g c told =
    marked_by c.args.number c.in-Some.view (g.D.Disk.view c.args.disk.now) c.in_ok-view.field-0 c.in-Some.is (c.in_ok-view.ensures.entry told) (c.in_ok-view.ensures.enough told) c.body.result c.body.ensures
