-- Room is made, and then the log is opened and cut.
use Rattle.std.proofs.Common.{ℕ, List, ap, subst, IfOk, rules}
use Rattle.lsv_keeper.specs.Resuming.{IsResumed}
use Rattle.lsv_keeper.specs.Value.{KeeperView}
use Rattle.lsv_keeper.proofs.Looking.{looked_none}
use Rattle.lsv_keeper.proofs.Syncing.{unused}
use Rattle.lsv_keeper.proofs.keeper.Keeper.resume.Goals as goal

pub returns-then-is_err-clause-resumed : goal.returns-then-is_err-clause-resumed
returns-then-is_err-clause-resumed g c = record {
  resumed = search rules;
  fault = λ told.
      looked_none c.args.number (g.D.Disk.view c.args.disk.now) (g.met.D.Disk.only_now told c.args.disk.now);
  monotone = search rules;
  syncs = λ told n other. unused n (g.D.Disk.view c.args.disk.now);
  cause = λ e. absurd (cc);
  whole = search rules;
}

pub returns-clause-resumed : goal.returns-clause-resumed
returns-clause-resumed g c = record {
  resumed = λ told.
      subst (λ (t : List (List ℕ)). IfOk c.resume_log.result (λ its. IsResumed c.args.number c.args.point t its (g.D.Disk.view c.args.disk.now) (g.D.Disk.view c.resume_log.new.disk)))
      (ap (λ (u : KeeperView). u.texts) c.reserve_log.ensures.same.others) (c.resume_log.ensures.resumed told);
  fault = search rules;
  monotone = search rules;
  syncs = search rules;
  cause = search rules;
  whole = search rules;
}
