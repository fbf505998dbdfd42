use Rattle.lsv_links.specs.Turns.{replies_to}
use Rattle.lsv_reactor.specs.Calls.{calls_of, jobs_by}
use Rattle.lsv_reactor.proofs.Boxes.{box_at, box_set}
use Rattle.lsv_reactor.proofs.Places.{at_place, gives}
use Rattle.lsv_reactor.proofs.visit.push_at.Goals as goal

pub push_for-requires : goal.push_for-requires
push_for-requires g c =
    let b = c.requires.begun in
    let at = at_place g.T.Endpoint.number g.T.Endpoint.lanes g.T.Endpoint.view g.T.Endpoint.made_by g.T.Endpoint.called b.0 b.1 c.args.posts.now c.args.place c.index-posts-place.result b.2 b.3 c.requires.place b.4 in
    record {
      lanes = at.laned;
      inbox = (c.args.place, box_at _ c.args.place c.args.inboxes.now c.index-inboxes-place.result c.requires.inboxes c.requires.place);
      begun = (b.0 c.args.place, jobs_by (calls_of c.args.place b.2), replies_to c.args.place b.3, at.made);
    }

pub returns-clause-made : goal.returns-clause-made
returns-clause-made g c = λ starts ledgers calls took all.
    gives g.T.Endpoint.number g.T.Endpoint.lanes g.T.Endpoint.view g.T.Endpoint.made_by g.T.Endpoint.called starts ledgers c.args.posts.now c.args.place c.index-posts-place.result c.push_for.new.post calls c.push_for.result.items took c.requires.place
    (c.push_for.ensures.emptied c.args.place (box_at _ c.args.place c.args.inboxes.now c.index-inboxes-place.result c.requires.inboxes c.requires.place)).1 c.push_for.ensures.light c.push_for.ensures.gives all

pub returns-clause-inboxes : goal.returns-clause-inboxes
returns-clause-inboxes g c =
    box_set _ c.args.place c.args.inboxes.now c.push_for.new.inbox c.requires.inboxes c.requires.place
    (c.push_for.ensures.emptied c.args.place (box_at _ c.args.place c.args.inboxes.now c.index-inboxes-place.result c.requires.inboxes c.requires.place)).0
