use Rattle.std.proofs.Common.{◌≡◌, ◌≤◌, ◌<◌, ℕ, Some, length, slice_get, subst, arith}
use Rattle.std.proofs.lemmas.Option.{slice_get-get_or}
use Rattle.lsv_links.specs.Lanes.{one_lane}
use Rattle.lsv_links.specs.Turns.{replies_to}
use Rattle.lsv_reactor.specs.Calls.{calls_of, jobs_by}
use Rattle.lsv_reactor.specs.InnerLoop.{AreStopped}
use Rattle.lsv_reactor.proofs.Places.{set_there}
use Rattle.lsv_reactor.proofs.Stops.{stopped_more, stopped_none, stopped_whole}
use Rattle.lsv_reactor.proofs.rounds.stop_all.Goals as goal

pub stops-init : goal.stops-init
stops-init g c = record {
  later = λ i post low e. e;
  stopped = λ starts ledgers calls took all. stopped_none g.T.Endpoint.tells g.T.Endpoint.number g.T.Endpoint.lanes g.T.Endpoint.made_by g.T.Endpoint.called g.T.Endpoint.begun g.T.Endpoint.view starts ledgers c.args.posts.now calls took all.placed;
}

pub stop-requires : goal.stop-requires
stop-requires g c =
    let b = c.requires.begun in
    let at = c.stops.invariant.later c.stops.place _ (omega arith) (slice_get-get_or c.stops.posts c.stops.place c.index-posts-place.result (omega (arith, c.stops-test.true, c.stops.auto.posts))) in
    record { begun = (b.0 c.stops.place, (λ lane. one_lane lane (jobs_by (calls_of c.stops.place b.2))), replies_to c.stops.place b.3, (b.4.each c.stops.place _ at).made) }

pub stops-preserved : goal.stops-preserved
stops-preserved g c =
    let less : c.stops.place < length c.stops.posts = omega (arith, c.stops-test.true, c.stops.auto.posts) in
    let at = c.stops.invariant.later c.stops.place _ (omega arith) (slice_get-get_or c.stops.posts c.stops.place c.index-posts-place.result less) in
    record {
      later = λ i post low e. c.stops.invariant.later i post (omega (arith, low)) (set_there c.stops.posts c.stops.place i c.stop.new.self post (λ p. omega (arith, low, p)) e);
      stopped = λ starts ledgers calls took all.
          stopped_more g.T.Endpoint.tells g.T.Endpoint.number g.T.Endpoint.lanes g.T.Endpoint.made_by g.T.Endpoint.called g.T.Endpoint.begun g.T.Endpoint.view starts ledgers c.args.posts.now c.stops.posts c.stops.place _ c.stop.new.self calls took less at c.stop.ensures.continues c.stop.ensures.put all (c.stops.invariant.stopped starts ledgers calls took all);
    }

pub returns : goal.returns
returns g c = λ starts ledgers calls took all.
    stopped_whole g.T.Endpoint.tells g.T.Endpoint.number g.T.Endpoint.lanes g.T.Endpoint.made_by g.T.Endpoint.called g.T.Endpoint.begun g.T.Endpoint.view starts ledgers c.stops.posts calls took c.stops.place (omega (arith, c.stops-test.false, c.stops.auto.posts)) (c.stops.invariant.stopped starts ledgers calls took all)
