use Rattle.lsv_turn.specs.Turns.{replies_in}
use Rattle.lsv_reactor.specs.Calls.{calls_in}
use Rattle.lsv_reactor.proofs.visit.pass.Goals as goal

pub push_at-requires-clause-begun : goal.push_at-requires-clause-begun
push_at-requires-clause-begun g c =
    let b = c.requires.begun in
    let r = c.in-Ok.ensures.ok b.0 b.1 b.2 b.3 b.4 b.5 in
    (b.0, b.1, calls_in r.0, replies_in r.0, r.1)

pub returns-clause-ok : goal.returns-clause-ok
returns-clause-ok g c = λ starts ledgers start turns posts lane.
    let r = c.in-Ok.ensures.ok starts ledgers start turns posts lane in
    (r.0, c.push_at.ensures.made starts ledgers (calls_in r.0) (replies_in r.0) r.1, r.2)
