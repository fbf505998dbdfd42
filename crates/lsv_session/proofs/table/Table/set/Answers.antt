use Rattle.std.proofs.Common.{◌∙◌, refl, rules}
use Rattle.std.specs.HashMap as hash
use Rattle.lsv_session.specs.Connections.{same}
use Rattle.lsv_session.proofs.Tables.{same_sessions, states_put}
use Rattle.lsv_session.proofs.table.Table.set.Goals as goal

pub returns-in-Some-clause-ok : goal.returns-in-Some-clause-ok
returns-in-Some-clause-ok c = c.expect.ensures.same ∙ same_sessions _ _
    (states_put (hash.get same c.args.self.now.states) (hash.get same (c.get_mut.follows.lender c.args.state)) c.args.conn c.args.state ((c.get_mut.follows.holds c.args.state).3 (search rules)).0) (λ n. refl)

pub returns-clause-ok : goal.returns-clause-ok
returns-clause-ok c =
    let unchanged = c.get_mut.follows.holds-at-none in
    c.expect-2.ensures.same ∙ same_sessions _ _
    (states_put (hash.get same c.args.self.now.states) (hash.get same c.insert.new.self) c.args.conn c.args.state (rw unchanged at c.in_ok-insert.ensures.updates.0)) (λ n. refl)
