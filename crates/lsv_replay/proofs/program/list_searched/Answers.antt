-- The words are a search if the logs are listed.
use Rattle.std.proofs.Common.{Err, [], ap, append-nil, inl, refl, subst, sym}
use Rattle.lsv_replay_args.specs.Request.{Search}
use Rattle.lsv_search.specs.declared.expr.ExprFault.{ExprFault}
use Rattle.lsv_replay.specs.Tasks.{IsOfTask}
use Rattle.lsv_replay.specs.declared.status.ReplayStatus.{ReplayStatus}
use Rattle.lsv_replay.proofs.Replayed.{list_status}
use Rattle.lsv_replay.proofs.program.list_searched.Goals as goal

pub returns-clause-status : goal.returns-clause-status
returns-clause-status g c =
    let search = c.in-Ok.ensures.ok in
    subst (λ (status : ReplayStatus). IsOfTask (Search [] c.args.words.now) status) (sym c.of_listing.ensures) (list_status [] c.args.words.now search.0 c.list_logs.result search.1)

pub returns-in-Err-BadExpression-clause-lists : goal.returns-in-Err-BadExpression-clause-lists
returns-in-Err-BadExpression-clause-lists g c told = (
  [],
  λ told_too. sym (append-nil (g.S.Screen.shown c.args.screen.now)),
  inl (record {
    at = c.in-Err-BadExpression.at;
    first_bad = c.in-Err-BadExpression.ensures.bad c.in-Err-BadExpression.at (ap (λ (f : ExprFault). Err f) c.in-Err-BadExpression.field-0-is);
    status_is = rw c.in-Err-BadExpression.field-0-is refl;
    put_is = refl;
  }),
)
