use Rattle.std.proofs.Common.{◌++◌, [], subst}
use Rattle.lsv_port.specs.Ledger.{Continues, PortLedger}
use Rattle.lsv_turn.specs.Turns.{replies_in}
use Rattle.lsv_reactor.specs.Calls.{calls_in}
use Rattle.lsv_reactor.proofs.TurnLemmas.{are_ledgers, is_ledger, lane_begins, ledgers_of, posts_begin}
use Rattle.lsv_reactor.proofs.Stops.{ledgers_all, stopped_all}
use Rattle.lsv_reactor.proofs.rounds.serve.Goals as goal

pub run-requires-clause-begun : goal.run-requires-clause-begun
run-requires-clause-begun g c =
    let p = c.requires.posts in
    let l = c.requires.lane in
    let ledgers = ledgers_of g.T.Endpoint.view c.args.posts.now in
    (p.0, ledgers, l.0, [], posts_begin g.T.Endpoint.number g.T.Endpoint.lanes g.T.Endpoint.view g.T.Endpoint.made_by g.T.Endpoint.called p.0 ledgers c.args.posts.now g.met.T.Endpoint.none_called c.requires.numbered c.requires.lanes (are_ledgers g.T.Endpoint.view c.args.posts.now) p.1, lane_begins g.L.Lane.tells g.L.Lane.made_by l.0 c.args.lane.now l.1)

pub returns-in-Ok-run-clause-ok : goal.returns-in-Ok-run-clause-ok
returns-in-Ok-run-clause-ok g c = λ starts start made lane.
    let ledgers = ledgers_of g.T.Endpoint.view c.args.posts.now in
    let r = c.in-Ok-run.ensures.ok starts ledgers start [] (posts_begin g.T.Endpoint.number g.T.Endpoint.lanes g.T.Endpoint.view g.T.Endpoint.made_by g.T.Endpoint.called starts ledgers c.args.posts.now g.met.T.Endpoint.none_called c.requires.numbered c.requires.lanes (are_ledgers g.T.Endpoint.view c.args.posts.now) made) (lane_begins g.L.Lane.tells g.L.Lane.made_by start c.args.lane.now lane) in
    (r.0, r.1.made, r.1.sized, r.2)

pub returns-clause-err : goal.returns-clause-err
returns-clause-err g c = λ starts start made lane.
    let ledgers = ledgers_of g.T.Endpoint.view c.args.posts.now in
    let r = c.in-Err.ensures.err starts ledgers start [] (posts_begin g.T.Endpoint.number g.T.Endpoint.lanes g.T.Endpoint.view g.T.Endpoint.made_by g.T.Endpoint.called starts ledgers c.args.posts.now g.met.T.Endpoint.none_called c.requires.numbered c.requires.lanes (are_ledgers g.T.Endpoint.view c.args.posts.now) made) (lane_begins g.L.Lane.tells g.L.Lane.made_by start c.args.lane.now lane) in
    (r.0, r.2.made, r.2.sized, stopped_all g.T.Endpoint.tells g.T.Endpoint.number g.T.Endpoint.lanes g.T.Endpoint.made_by g.T.Endpoint.called g.T.Endpoint.begun g.T.Endpoint.view starts ledgers c.run.new.posts r.0 r.1 r.3)

pub returns-in-Ok-run-clause-ports : goal.returns-in-Ok-run-clause-ports
returns-in-Ok-run-clause-ports g c = λ i old new was is.
    let p = c.requires.posts in
    let l = c.requires.lane in
    let ledgers = ledgers_of g.T.Endpoint.view c.args.posts.now in
    let r = c.in-Ok-run.ensures.ok p.0 ledgers l.0 [] (posts_begin g.T.Endpoint.number g.T.Endpoint.lanes g.T.Endpoint.view g.T.Endpoint.made_by g.T.Endpoint.called p.0 ledgers c.args.posts.now g.met.T.Endpoint.none_called c.requires.numbered c.requires.lanes (are_ledgers g.T.Endpoint.view c.args.posts.now) p.1) (lane_begins g.L.Lane.tells g.L.Lane.made_by l.0 c.args.lane.now l.1) in
    subst (λ (l : PortLedger). Continues l (g.T.Endpoint.view new).ledger) (is_ledger g.T.Endpoint.view c.args.posts.now i old was) (r.3 i new is)

pub returns-clause-ports : goal.returns-clause-ports
returns-clause-ports g c = λ i old new was is.
    let p = c.requires.posts in
    let l = c.requires.lane in
    let ledgers = ledgers_of g.T.Endpoint.view c.args.posts.now in
    let r = c.in-Err.ensures.err p.0 ledgers l.0 [] (posts_begin g.T.Endpoint.number g.T.Endpoint.lanes g.T.Endpoint.view g.T.Endpoint.made_by g.T.Endpoint.called p.0 ledgers c.args.posts.now g.met.T.Endpoint.none_called c.requires.numbered c.requires.lanes (are_ledgers g.T.Endpoint.view c.args.posts.now) p.1) (lane_begins g.L.Lane.tells g.L.Lane.made_by l.0 c.args.lane.now l.1) in
    subst (λ (l : PortLedger). Continues l (g.T.Endpoint.view new).ledger) (is_ledger g.T.Endpoint.view c.args.posts.now i old was)
    (ledgers_all g.T.Endpoint.tells g.T.Endpoint.number g.T.Endpoint.lanes g.T.Endpoint.made_by g.T.Endpoint.called g.T.Endpoint.begun g.T.Endpoint.view p.0 ledgers c.run.new.posts (calls_in r.0 ++ r.1) (replies_in r.0) r.3 i new is)

pub stop_all-requires : goal.stop_all-requires
stop_all-requires g c =
    let p = c.requires.posts in
    let ledgers = ledgers_of g.T.Endpoint.view c.args.posts.now in
    record { begun = (p.0, ledgers, [], [], posts_begin g.T.Endpoint.number g.T.Endpoint.lanes g.T.Endpoint.view g.T.Endpoint.made_by g.T.Endpoint.called p.0 ledgers c.args.posts.now g.met.T.Endpoint.none_called c.requires.numbered c.requires.lanes (are_ledgers g.T.Endpoint.view c.args.posts.now) p.1) }

pub returns-in_default-clause-err : goal.returns-in_default-clause-err
returns-in_default-clause-err g c = λ starts start made lane.
    let ledgers = ledgers_of g.T.Endpoint.view c.args.posts.now in
    let begun = posts_begin g.T.Endpoint.number g.T.Endpoint.lanes g.T.Endpoint.view g.T.Endpoint.made_by g.T.Endpoint.called starts ledgers c.args.posts.now g.met.T.Endpoint.none_called c.requires.numbered c.requires.lanes (are_ledgers g.T.Endpoint.view c.args.posts.now) made in
    ([], lane, tt, stopped_all g.T.Endpoint.tells g.T.Endpoint.number g.T.Endpoint.lanes g.T.Endpoint.made_by g.T.Endpoint.called g.T.Endpoint.begun g.T.Endpoint.view starts ledgers c.stop_all.new.posts [] [] (c.stop_all.ensures starts ledgers [] [] begun))

pub returns-in_default-clause-ports : goal.returns-in_default-clause-ports
returns-in_default-clause-ports g c = λ i old new was is.
    let p = c.requires.posts in
    let ledgers = ledgers_of g.T.Endpoint.view c.args.posts.now in
    let begun = posts_begin g.T.Endpoint.number g.T.Endpoint.lanes g.T.Endpoint.view g.T.Endpoint.made_by g.T.Endpoint.called p.0 ledgers c.args.posts.now g.met.T.Endpoint.none_called c.requires.numbered c.requires.lanes (are_ledgers g.T.Endpoint.view c.args.posts.now) p.1 in
    subst (λ (l : PortLedger). Continues l (g.T.Endpoint.view new).ledger) (is_ledger g.T.Endpoint.view c.args.posts.now i old was)
    (ledgers_all g.T.Endpoint.tells g.T.Endpoint.number g.T.Endpoint.lanes g.T.Endpoint.made_by g.T.Endpoint.called g.T.Endpoint.begun g.T.Endpoint.view p.0 ledgers c.stop_all.new.posts [] [] (c.stop_all.ensures p.0 ledgers [] [] begun) i new is)
