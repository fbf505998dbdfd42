use Rattle.std.proofs.Common.{◌≤◌, ◌++◌, ◌∷◌, [], None, length, refl, vec_len}
use Rattle.lsv_turn.specs.Turns.{LaneTurn, replies_in}
use Rattle.lsv_reactor.specs.Calls.{call_of, calls_in}
use Rattle.lsv_reactor.proofs.TurnLemmas.{lane_turned, posts_none, posts_turned}
use Rattle.lsv_reactor.proofs.Own.{no_jobs, some_jobs}
use Rattle.lsv_reactor.proofs.visit.turn.Goals as goal

pub returns-then-is_empty-clause-ok : goal.returns-then-is_empty-clause-ok
returns-then-is_empty-clause-ok g c = λ starts ledgers start turns posts lane. (
  turns,
  posts_none g.T.Endpoint.number g.T.Endpoint.lanes g.T.Endpoint.view g.T.Endpoint.made_by g.T.Endpoint.called starts ledgers c.args.posts.now (calls_in turns) c.args.jobs.items (replies_in turns) (no_jobs (vec_len c.args.jobs) c.args.jobs.items c.args.jobs.ok.0 c.if-is_empty.ensures) posts,
  lane,
)

pub returns-clause-ok : goal.returns-clause-ok
returns-clause-ok g c = λ starts ledgers start turns posts lane.
    let t : LaneTurn = record { now = c.in-Ok.field-0; jobs = c.args.jobs.items; gap = None; replies = c.turn.new.replies.items } in
    let some : 1 ≤ length t.jobs = some_jobs (vec_len c.args.jobs) c.args.jobs.items c.args.jobs.ok.0 c.if-is_empty.ensures in (
      turns ++ t ∷ [],
      posts_turned g.T.Endpoint.number g.T.Endpoint.lanes g.T.Endpoint.view g.T.Endpoint.made_by g.T.Endpoint.called starts ledgers c.deliver.new.posts turns t some (c.deliver.ensures.took starts ledgers (calls_in turns ++ call_of c.args.jobs.items) (replies_in turns) posts),
      lane_turned g.L.Lane.tells g.L.Lane.made_by start c.args.lane.now c.turn.new.self turns t some c.requires.few refl (λ m. c.in-Ok.ensures.made start turns m) (λ told m. c.in-Ok.ensures.asked told start turns m) lane,
    )
