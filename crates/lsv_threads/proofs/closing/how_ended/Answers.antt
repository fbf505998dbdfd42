use Rattle.std.proofs.Common.{◌≡◌, Some, sym, ap, ◌∙◌, arith}
use Rattle.std.specs.Prelude.{slice_get}
use Rattle.std.proofs.lemmas.Option.{slice_get-get_or}
use Rattle.lsv_reactor.proofs.Progress.{over_none, over_more}
use Rattle.lsv_threads.proofs.closing.how_ended.Goals as goal

pub loop-endpoint-init : goal.loop-endpoint-init
loop-endpoint-init g c = λ starts gave took made. over_none g.T.Endpoint.tells g.T.Endpoint.number g.T.Endpoint.lanes g.T.Endpoint.made_by g.T.Endpoint.begun g.T.Endpoint.view starts c.args.endpoints.now gave took

pub loop-endpoint-preserved : goal.loop-endpoint-preserved
loop-endpoint-preserved g c = λ starts gave took made.
    let at : slice_get c.args.endpoints.now c.loop-endpoint.endpoint-index ≡ Some c.endpoint-item.result = slice_get-get_or c.args.endpoints.now c.loop-endpoint.endpoint-index c.endpoint-item.result (omega (arith, c.loop-endpoint-test.true)) ∙ ap Some (sym c.endpoint-item.is) in
    let m = made c.loop-endpoint.endpoint-index c.endpoint-item.result at in
    rw c.worse-end.ensures (
    over_more g.T.Endpoint.tells g.T.Endpoint.number g.T.Endpoint.lanes g.T.Endpoint.made_by g.T.Endpoint.begun g.T.Endpoint.view starts c.args.endpoints.now gave took c.loop-endpoint.endpoint-index c.endpoint-item.result c.loop-endpoint.end c.in-Some.its at (c.is_lost.ensures c.if-is_lost.false)
    (λ told is. c.end.ensures.stopped told (c.in-Some.is ∙ ap Some is) _ _ _ m)
    (λ told is. c.end.ensures.failed told (c.in-Some.is ∙ ap Some is) _ _ _ m)
    (λ is. c.end.ensures.cause (c.in-Some.is ∙ ap Some is) _ _ _ m)
    (c.loop-endpoint.invariant starts gave took made)
    )
