use Rattle.lsv_threads.specs.Idling.{went_here, went_through}
use Rattle.lsv_threads.proofs.idle.finish_idle.Goals as goal

pub loop-init : goal.loop-init
loop-init g c = record { started = c.requires.started; went = went_here g.T.Endpoint c.args.inboxes.now c.args.outs.now c.args.threads.now.items }

pub loop-preserved : goal.loop-preserved
loop-preserved g c = record {
  started = c.step_workers.ensures.started;
  went = went_through g.T.Endpoint c.args.inboxes.now c.args.outs.now c.args.threads.now.items c.loop.threads.items c.step_workers.new.threads.items c.loop.invariant.went c.step_workers.ensures.went;
}
