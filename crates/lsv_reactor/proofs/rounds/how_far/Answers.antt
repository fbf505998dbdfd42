use Rattle.std.proofs.Common.{◌≡◌, ℕ, Some, sym, ap, ◌∙◌, arith}
use Rattle.std.specs.Prelude.{slice_get}
use Rattle.std.proofs.lemmas.Option.{slice_get-get_or}
use Rattle.lsv_reactor.proofs.Progress.{over_none, over_more}
use Rattle.lsv_reactor.proofs.rounds.how_far.Goals as goal

pub loop-post-init : goal.loop-post-init
loop-post-init g c = λ starts gave took made. over_none g.T.Endpoint.tells g.T.Endpoint.number g.T.Endpoint.lanes g.T.Endpoint.made_by g.T.Endpoint.begun g.T.Endpoint.view starts c.args.posts.now gave took

pub loop-post-preserved : goal.loop-post-preserved
loop-post-preserved g c = λ starts gave took made.
    let at : slice_get c.args.posts.now c.loop-post.post-index ≡ Some c.post-item.result = slice_get-get_or c.args.posts.now c.loop-post.post-index c.post-item.result (omega (arith, c.loop-post-test.true)) ∙ ap Some (sym c.post-item.is) in
    let m = made c.loop-post.post-index c.post-item.result at in
    rw c.worse-end.ensures (
    over_more g.T.Endpoint.tells g.T.Endpoint.number g.T.Endpoint.lanes g.T.Endpoint.made_by g.T.Endpoint.begun g.T.Endpoint.view starts c.args.posts.now gave took c.loop-post.post-index c.post-item.result c.loop-post.end c.in-Some.its at (c.is_lost.ensures c.if-is_lost.false)
    (λ told is. c.end.ensures.stopped told (c.in-Some.is ∙ ap Some is) _ _ _ m)
    (λ told is. c.end.ensures.failed told (c.in-Some.is ∙ ap Some is) _ _ _ m)
    (λ is. c.end.ensures.cause (c.in-Some.is ∙ ap Some is) _ _ _ m)
    (c.loop-post.invariant starts gave took made)
    )
