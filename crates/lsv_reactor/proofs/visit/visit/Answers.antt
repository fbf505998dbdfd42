use Rattle.std.proofs.Common.{List, ℕ, ◌++◌, ◌∙◌, sym, subst, vec_len}
use Rattle.lsv_turn.specs.Turns.{replies_in}
use Rattle.lsv_reactor.specs.Calls.{call_of, calls_in}
use Rattle.lsv_reactor.specs.InnerLoop.{AreEmptied, ArePosts}
use Rattle.lsv_reactor.proofs.TurnLemmas.{posts_none}
use Rattle.lsv_reactor.proofs.Own.{no_jobs}
use Rattle.lsv_reactor.proofs.visit.visit.Goals as goal

pub passes-init : goal.passes-init
passes-init g c = record { few = c.wait_at-jobs.ensures.few; inboxes = c.wait_at-jobs.ensures.inboxes; goes = λ starts ledgers start turns posts lane. (turns, c.wait_at-jobs.ensures.made starts ledgers (calls_in turns) (replies_in turns) posts, lane) }

pub pass-requires-clause-begun : goal.pass-requires-clause-begun
pass-requires-clause-begun g c = let b = c.requires.begun in let r = c.passes.invariant.goes b.0 b.1 b.2 b.3 b.4 b.5 in (b.0, b.1, b.2, r.0, r.1, r.2)

pub returns-then-is_empty-clause-ok : goal.returns-then-is_empty-clause-ok
returns-then-is_empty-clause-ok g c = λ starts ledgers start turns posts lane.
    let r = c.passes.invariant.goes starts ledgers start turns posts lane in
    (r.0, posts_none g.T.Endpoint.number g.T.Endpoint.lanes g.T.Endpoint.view g.T.Endpoint.made_by g.T.Endpoint.called starts ledgers c.passes.posts (calls_in r.0) c.passes.jobs.items (replies_in r.0) (no_jobs (vec_len c.passes.jobs) c.passes.jobs.items c.passes.jobs.ok.0 c.if-is_empty.ensures) r.1, r.2)

pub passes-preserved : goal.passes-preserved
passes-preserved g c = record { few = c.in-Ok.ensures.few; inboxes = subst (λ (n : ℕ). AreEmptied n c.pass.new.inboxes) (c.passes.auto.posts ∙ c.wait_at-jobs.ensures.count) c.in-Ok.ensures.inboxes; goes = λ starts ledgers start turns posts lane. let r = c.passes.invariant.goes starts ledgers start turns posts lane in c.in-Ok.ensures.ok starts ledgers start r.0 r.1 r.2 }

pub returns-in-Err-clause-err : goal.returns-in-Err-clause-err
returns-in-Err-clause-err g c = λ starts ledgers start turns posts lane.
    let r = c.passes.invariant.goes starts ledgers start turns posts lane in (
      r.0,
      call_of c.passes.jobs.items,
      subst (λ (l : List g.row.T.Denot). ArePosts g.T.Endpoint.number g.T.Endpoint.lanes g.T.Endpoint.view g.T.Endpoint.made_by g.T.Endpoint.called starts ledgers l (calls_in r.0 ++ call_of c.passes.jobs.items) (replies_in r.0)) (sym c.in-Err.ensures.lost) r.1,
      c.in-Err.ensures.err start r.0 r.2,
    )

pub turn-requires-clause-begun : goal.turn-requires-clause-begun
turn-requires-clause-begun g c = let b = c.requires.begun in let r = c.passes.invariant.goes b.0 b.1 b.2 b.3 b.4 b.5 in (b.0, b.1, b.2, r.0, r.1, r.2)

pub returns-in_default-clause-err : goal.returns-in_default-clause-err
returns-in_default-clause-err g c = λ starts ledgers start turns posts lane.
    let r = c.passes.invariant.goes starts ledgers start turns posts lane in (
      r.0,
      call_of c.passes.jobs.items,
      subst (λ (l : List g.row.T.Denot). ArePosts g.T.Endpoint.number g.T.Endpoint.lanes g.T.Endpoint.view g.T.Endpoint.made_by g.T.Endpoint.called starts ledgers l (calls_in r.0 ++ call_of c.passes.jobs.items) (replies_in r.0)) (sym c.in_default.ensures.lost) r.1,
      c.in_default.ensures.err start r.0 r.2,
    )

pub returns-clause-ok : goal.returns-clause-ok
returns-clause-ok g c = λ starts ledgers start turns posts lane.
    let r = c.passes.invariant.goes starts ledgers start turns posts lane in
    c.in-Ok-turn.ensures.ok starts ledgers start r.0 r.1 r.2

pub pass-requires-clause-inboxes : goal.pass-requires-clause-inboxes
pass-requires-clause-inboxes g c = subst (λ (n : ℕ). AreEmptied n c.passes.inboxes) (sym (c.passes.auto.posts ∙ c.wait_at-jobs.ensures.count)) c.passes.invariant.inboxes

pub returns-then-is_empty-clause-inboxes : goal.returns-then-is_empty-clause-inboxes
returns-then-is_empty-clause-inboxes g c = c.passes.invariant.inboxes

pub returns-in_default-clause-inboxes : goal.returns-in_default-clause-inboxes
returns-in_default-clause-inboxes g c = c.passes.invariant.inboxes

pub returns-clause-inboxes : goal.returns-clause-inboxes
returns-clause-inboxes g c = c.passes.invariant.inboxes
