use Rattle.lsv_threads.proofs.Done.{lane_over}
use Rattle.lsv_threads.proofs.lane_thread.work.Goals as goal

pub returns : goal.returns
returns g c = record {
  done = λ e. lane_over g.L.Lane c.args.outs.now c.args.workers c.args.side c.run.new.self (c.run.ensures.from c.args.side c.requires.ready.from) c.run.ensures.over;
  left = λ e. absurd cc;
}
