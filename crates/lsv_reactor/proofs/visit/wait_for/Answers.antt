use Rattle.std.proofs.Common.{sym, ◌∙◌}
use Rattle.lsv_links.specs.Lanes.{one_lane}
use Rattle.lsv_reactor.proofs.Boxes.{call_gives, put_before}
use Rattle.lsv_reactor.proofs.visit.wait_for.Goals as goal

pub wait-requires-clause-lanes : goal.wait-requires-clause-lanes
wait-requires-clause-lanes g c = sym c.requires.lanes

pub wait-requires-clause-begun : goal.wait-requires-clause-begun
wait-requires-clause-begun g c =
    let b = c.requires.begun in
    (b.0, (λ lane. one_lane lane b.1), b.2, put_before g.T.Endpoint.number g.T.Endpoint.lanes g.T.Endpoint.view g.T.Endpoint.made_by g.T.Endpoint.called b.0 c.args.post.now c.args.inbox.now b.1 b.2 c.requires.inbox.1.empty b.3)

pub hand_out-requires : goal.hand_out-requires
hand_out-requires g c = record { orderly = c.wait.ensures.same.orderly c.requires.inbox.1.orderly }

pub returns-clause-gives : goal.returns-clause-gives
returns-clause-gives g c =
    call_gives g.T.Endpoint.number g.T.Endpoint.lanes g.T.Endpoint.view g.T.Endpoint.made_by g.T.Endpoint.called c.args.post.now c.wait.new.self c.args.inbox.now c.wait.new.inbox c.hand_out.result.items c.wait.ensures.number c.wait.ensures.lanes c.wait.ensures.continues c.wait.ensures.made c.wait.ensures.called c.requires.inbox.1.empty c.hand_out.ensures.taken

pub returns-clause-emptied : goal.returns-clause-emptied
returns-clause-emptied g c = λ n is. c.hand_out.ensures.emptied n (c.wait.ensures.same.worker ∙ is.own)

pub returns-clause-light : goal.returns-clause-light
returns-clause-light g c = c.hand_out.ensures.light
