use Rattle.std.proofs.Common.{sym, ◌∙◌, inl, inr, rules}
use Rattle.lsv_endpoint.proofs.EndLemmas.{mode_failed, mode_stopped, served, was_stopped}
use Rattle.lsv_endpoint.proofs.endpoint.WorkerEndpointEndpoint.end.Goals as goal

pub returns-clause-stopped : goal.returns-clause-stopped
returns-clause-stopped g c = λ told e start gave took m.
    let mode = mode_stopped c.args.self.now.mode (sym c.end.ensures ∙ e) in
    let none = c.is_empty.ensures (search rules) in
    (served g.P.Port.tells g.P.Port.state g.P.Port.ledger start c.args.self.now gave took told m c.if-self.false none c.one_stream_has_one_list_of_jobs.ensures.always (inl mode), was_stopped g.P.Port.tells g.P.Port.state g.P.Port.ledger start c.args.self.now gave took told m c.if-self.false none mode)

pub returns-clause-failed : goal.returns-clause-failed
returns-clause-failed g c = λ told e start gave took m.
    served g.P.Port.tells g.P.Port.state g.P.Port.ledger start c.args.self.now gave took told m c.if-self.false (c.is_empty.ensures (search rules)) c.one_stream_has_one_list_of_jobs.ensures.always (inr (mode_failed c.args.self.now.mode (sym c.end.ensures ∙ e)))
