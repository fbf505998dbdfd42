use Rattle.std.proofs.Common.{refl, sym}
use Rattle.lsv_links.specs.Lanes.{one_lane}
use Rattle.lsv_links.specs.Turns.{replies_to}
use Rattle.lsv_reactor.specs.Calls.{calls_of, jobs_by}
use Rattle.lsv_reactor.proofs.Places.{at_place, drops, takes}
use Rattle.lsv_reactor.proofs.deliver.deliver_one.Goals as goal

pub take-requires-clause-begun : goal.take-requires-clause-begun
take-requires-clause-begun g c =
    let b = c.requires.begun in
    let at = at_place g.T.Endpoint.number g.T.Endpoint.lanes g.T.Endpoint.view g.T.Endpoint.made_by g.T.Endpoint.called b.0 b.1 c.args.posts.now c.args.reply.conn.worker c.index-posts-place.result b.2 b.3 c.if-place-posts.true b.4 in
    (b.0 c.args.reply.conn.worker, (λ lane. one_lane lane (jobs_by (calls_of c.args.reply.conn.worker b.2))), replies_to c.args.reply.conn.worker b.3, at.made)

pub take-requires-clause-own : goal.take-requires-clause-own
take-requires-clause-own g c =
    let b = c.requires.begun in
    sym (at_place g.T.Endpoint.number g.T.Endpoint.lanes g.T.Endpoint.view g.T.Endpoint.made_by g.T.Endpoint.called b.0 b.1 c.args.posts.now c.args.reply.conn.worker c.index-posts-place.result b.2 b.3 c.if-place-posts.true b.4).numbered

pub returns-then-place-posts-clause-took : goal.returns-then-place-posts-clause-took
returns-then-place-posts-clause-took g c = λ starts ledgers calls took all.
    takes g.T.Endpoint.number g.T.Endpoint.lanes g.T.Endpoint.view g.T.Endpoint.made_by g.T.Endpoint.called starts ledgers c.args.posts.now c.args.reply.conn.worker c.index-posts-place.result c.take.new.self c.args.reply calls took c.if-place-posts.true refl
    (record { number_is = c.take.ensures.number; lanes_are = c.take.ensures.lanes; continues = c.take.ensures.continues; made = c.take.ensures.made; answered = c.take.ensures.called }) all

pub returns-clause-took : goal.returns-clause-took
returns-clause-took g c = λ starts ledgers calls took all. drops g.T.Endpoint.number g.T.Endpoint.lanes g.T.Endpoint.view g.T.Endpoint.made_by g.T.Endpoint.called starts ledgers c.args.posts.now c.args.reply calls took c.if-place-posts.false all
