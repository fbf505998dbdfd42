use Rattle.lsv_threads.proofs.Done.{from_over}
use Rattle.lsv_threads.proofs.worker_thread.work.Goals as goal

pub returns : goal.returns
returns g c = record {
  done = λ e. from_over g.T.Endpoint c.args.inboxes.now c.args.side c.run.new.self (c.run.ensures.from c.args.side c.requires.ready.from) c.run.ensures.over;
  left = λ e. absurd cc;
}
