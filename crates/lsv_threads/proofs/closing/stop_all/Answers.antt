use Rattle.std.proofs.Common.{◌<◌, length, sym, ◌∙◌, arith}
use Rattle.std.proofs.lemmas.Option.{slice_get-get_or}
use Rattle.lsv_reactor.proofs.Places.{set_there}
use Rattle.lsv_threads.proofs.Stopping.{keep_more, keep_same, stopped_more, stopped_none, stopped_whole}
use Rattle.lsv_threads.proofs.closing.stop_all.Goals as goal

pub stops-init : goal.stops-init
stops-init g c = record {
  later = λ w endpoint low e. e;
  keep = keep_same g.T.Endpoint.view c.args.endpoints.now;
  stopped = λ starts lanes gave took ends. stopped_none g.T.Endpoint starts lanes c.args.stops.now gave took c.args.endpoints.now;
}

pub stop_one-requires : goal.stop_one-requires
stop_one-requires g c =
    let b = c.requires.ends in
    let at = c.stops.invariant.later c.stops.place _ (omega arith) (slice_get-get_or c.stops.endpoints c.stops.place c.index-endpoints-place.result (omega (arith, c.stops-test.true, c.stops.auto.endpoints))) in
    record { begun = λ e. (b.0 c.stops.place, b.2 c.stops.place, b.3 c.stops.place, (b.4 c.stops.place _ at).made (sym c.was_stopped.ensures ∙ e)) }

pub stops-preserved : goal.stops-preserved
stops-preserved g c =
    let less : c.stops.place < length c.stops.endpoints = omega (arith, c.stops-test.true, c.stops.auto.endpoints) in
    let here = slice_get-get_or c.stops.endpoints c.stops.place c.index-endpoints-place.result less in
    let at = c.stops.invariant.later c.stops.place _ (omega arith) here in
    record {
      later = λ w endpoint low e. c.stops.invariant.later w endpoint (omega (arith, low)) (set_there c.stops.endpoints c.stops.place w c.stop_one.new.endpoint endpoint (λ p. omega (arith, low, p)) e);
      keep = keep_more g.T.Endpoint.view c.args.endpoints.now c.stops.endpoints c.stops.place _ c.stop_one.new.endpoint less here c.stop_one.ensures.continues c.stops.invariant.keep;
      stopped = λ starts lanes gave took ends.
          stopped_more g.T.Endpoint starts lanes c.args.stops.now gave took c.args.endpoints.now c.stops.endpoints c.stops.place _ c.stop_one.new.endpoint less at
          (λ e. c.stop_one.ensures.kept (c.was_stopped.ensures ∙ e)) (λ e. c.stop_one.ensures.put (c.was_stopped.ensures ∙ e)) ends (c.stops.invariant.stopped starts lanes gave took ends);
    }

pub returns-clause-stopped : goal.returns-clause-stopped
returns-clause-stopped g c = λ starts lanes gave took ends.
    stopped_whole g.T.Endpoint starts lanes c.args.stops.now gave took c.stops.endpoints c.stops.place (omega (arith, c.stops-test.false, c.stops.auto.endpoints)) (c.stops.invariant.stopped starts lanes gave took ends)
