use Rattle.std.proofs.Common.{ℕ, ◌++◌, [], length, sym, subst}
use Rattle.lsv_reactor.specs.InnerLoop.{AreEmptied}
use Rattle.lsv_turn.specs.Turns.{replies_in}
use Rattle.lsv_reactor.specs.Calls.{calls_in}
use Rattle.lsv_reactor.proofs.Progress.{ledgers_kept, served_all}
use Rattle.lsv_reactor.proofs.Stops.{none_waits}
use Rattle.lsv_reactor.proofs.rounds.run.Goals as goal

pub rounds-init : goal.rounds-init
rounds-init g c = record { inboxes = c.requires.inboxes; goes = λ starts ledgers start turns posts lane. (turns, posts, lane) }

pub visit_all-requires-clause-inboxes : goal.visit_all-requires-clause-inboxes
visit_all-requires-clause-inboxes g c = subst (λ (n : ℕ). AreEmptied n c.rounds.inboxes) (sym c.rounds.auto.posts) c.rounds.invariant.inboxes

pub visit_all-requires-clause-begun : goal.visit_all-requires-clause-begun
visit_all-requires-clause-begun g c = let b = c.requires.begun in let r = c.rounds.invariant.goes b.0 b.1 b.2 b.3 b.4 b.5 in (b.0, b.1, b.2, r.0, r.1, r.2)

pub rounds-preserved : goal.rounds-preserved
rounds-preserved g c = record {
  inboxes = subst (λ (n : ℕ). AreEmptied n c.visit_all.new.inboxes) c.rounds.auto.posts c.in-Ok.ensures.inboxes;
  goes = λ starts ledgers start turns posts lane. let r = c.rounds.invariant.goes starts ledgers start turns posts lane in c.in-Ok.ensures.ok starts ledgers start r.0 r.1 r.2;
}

pub returns-in-Ended-clause-ok : goal.returns-in-Ended-clause-ok
returns-in-Ended-clause-ok g c = λ starts ledgers start turns posts lane.
    let r = c.rounds.invariant.goes starts ledgers start turns posts lane in (
      r.0,
      r.2,
      served_all g.T.Endpoint.tells g.L.Lane.tells g.T.Endpoint.number g.T.Endpoint.lanes g.T.Endpoint.made_by g.T.Endpoint.called g.T.Endpoint.begun g.T.Endpoint.view starts ledgers c.rounds.posts g.L.Lane.made_by start c.rounds.lane r.0 c.in-Ended.end r.1 r.2
          (λ gave took made. c.how_far.ensures c.in-Ended.end c.in-Ended.is starts gave took made),
      ledgers_kept g.T.Endpoint.number g.T.Endpoint.lanes g.T.Endpoint.made_by g.T.Endpoint.called g.T.Endpoint.view starts ledgers c.rounds.posts (calls_in r.0) (replies_in r.0) r.1,
    )

pub stop_all-requires : goal.stop_all-requires
stop_all-requires g c =
    let b = c.requires.begun in
    let r = c.rounds.invariant.goes b.0 b.1 b.2 b.3 b.4 b.5 in
    record { begun = (b.0, b.1, calls_in r.0, replies_in r.0, r.1) }

pub stop_all-requires-in_default : goal.stop_all-requires-in_default
stop_all-requires-in_default g c =
    let b = c.requires.begun in
    let r = c.rounds.invariant.goes b.0 b.1 b.2 b.3 b.4 b.5 in
    let e = c.in_default.ensures.err b.0 b.1 b.2 r.0 r.1 r.2 in
    record { begun = (b.0, b.1, calls_in e.0 ++ e.1, replies_in e.0, e.2) }

pub stop_all-requires-2 : goal.stop_all-requires-2
stop_all-requires-2 g c =
    let b = c.requires.begun in
    let r = c.rounds.invariant.goes b.0 b.1 b.2 b.3 b.4 b.5 in
    record { begun = (b.0, b.1, calls_in r.0, replies_in r.0, r.1) }

pub returns-in-Lost-clause-err : goal.returns-in-Lost-clause-err
returns-in-Lost-clause-err g c = λ starts ledgers start turns posts lane.
    let r = c.rounds.invariant.goes starts ledgers start turns posts lane in
    (r.0, [], r.2, none_waits g.T.Endpoint.tells g.T.Endpoint.number g.T.Endpoint.lanes g.T.Endpoint.made_by g.T.Endpoint.called g.T.Endpoint.begun g.T.Endpoint.view starts ledgers c.stop_all.new.posts (calls_in r.0) (replies_in r.0) (length c.stop_all.new.posts) (c.stop_all.ensures starts ledgers (calls_in r.0) (replies_in r.0) r.1))

pub returns-in_default-clause-err : goal.returns-in_default-clause-err
returns-in_default-clause-err g c = λ starts ledgers start turns posts lane.
    let r = c.rounds.invariant.goes starts ledgers start turns posts lane in
    let e = c.in_default.ensures.err starts ledgers start r.0 r.1 r.2 in
    (e.0, e.1, e.3, c.stop_all-in_default.ensures starts ledgers (calls_in e.0 ++ e.1) (replies_in e.0) e.2)

pub returns-clause-err : goal.returns-clause-err
returns-clause-err g c = λ starts ledgers start turns posts lane.
    let r = c.rounds.invariant.goes starts ledgers start turns posts lane in
    (r.0, [], r.2, none_waits g.T.Endpoint.tells g.T.Endpoint.number g.T.Endpoint.lanes g.T.Endpoint.made_by g.T.Endpoint.called g.T.Endpoint.begun g.T.Endpoint.view starts ledgers c.stop_all-2.new.posts (calls_in r.0) (replies_in r.0) (length c.stop_all-2.new.posts) (c.stop_all-2.ensures starts ledgers (calls_in r.0) (replies_in r.0) r.1))
