use Rattle.std.proofs.Common.{◌≡◌, false, sym, subst, arith}
use Rattle.lsv_session.specs.Connections.{same}
use Rattle.lsv_session.specs.declared.job.Job.{Job}
use Rattle.lsvt_rows_connection.proofs.Asked.{not_of}
use Rattle.lsvt_rows_connection.proofs.answering.AnsweringLane.turn.Goals as goal

pub loop-job-preserved : goal.loop-job-preserved
loop-job-preserved c k none =
    let other = not_of k c.deref-job-items.result.now c.loop-job.job-index c.job-item.result (omega arith) none in
    c.in_ok-judge.ensures.to_it k (subst (λ (job : Job). same job.conn k ≡ false) (sym c.job-item.is) other) (c.loop-job.invariant k none)
