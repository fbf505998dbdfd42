use Rattle.lsv_record.proofs.Layouts.{layout_step, layout_all}
use Rattle.lsv_record.proofs.laid.lay.Goals as goal

pub loop-r-preserved : goal.loop-r-preserved
loop-r-preserved c = layout_step c.loop-r.laid c.add.new.self c.args.rs.now c.loop-r.r-index c.r-item.result c.loop-r-test.true c.r-item.is c.loop-r.invariant c.in_ok-add.ensures.timing c.in_ok-add.ensures.streams

pub returns : goal.returns
returns c = layout_all c.loop-r.laid c.args.rs.now c.loop-r.r-index c.loop-r-test.false c.loop-r.invariant
