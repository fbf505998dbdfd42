use Rattle.lsv_kept.proofs.Reading.{marked_at_none, marked_at_some}
use Rattle.lsv_kept.proofs.open.is_marked_at.Goals as goal

pub returns-then-body-eq-DONE-clause-marked : goal.returns-then-body-eq-DONE-clause-marked
returns-then-body-eq-DONE-clause-marked g c told =
    marked_at_some c.args.number c.args.total c.in-Some.view (g.D.Disk.view c.args.disk.now) c.in_ok-view.field-0 c.in-Some.is (c.in_ok-view.ensures.entry told) (c.in_ok-view.ensures.enough told) c.body-body.result c.body-body.ensures c.if-body-eq-DONE.true c.is_time.result c.is_time.ensures

pub returns-else-body-eq-DONE-clause-marked : goal.returns-else-body-eq-DONE-clause-marked
returns-else-body-eq-DONE-clause-marked g c told =
    marked_at_none c.args.number c.args.total c.in-Some.view (g.D.Disk.view c.args.disk.now) c.in_ok-view.field-0 c.in-Some.is (c.in_ok-view.ensures.entry told) (c.in_ok-view.ensures.enough told) c.body-body.result c.body-body.ensures c.if-body-eq-DONE.false
