use Rattle.std.proofs.Common.{◌++◌, ℕ, subst}
use Rattle.lsv_links.specs.Links.{PutsPrefixes}
use Rattle.lsv_port.proofs.LedgerLemmas.{goes_on, goes_on_then}
use Rattle.lsv_worker.specs.Worker.{setting}
use Rattle.lsv_worker.proofs.Tables.{stands_jobs}
use Rattle.lsv_endpoint.specs.Ports.{view_by}
use Rattle.lsv_endpoint.proofs.BoolLemmas.{false_or}
use Rattle.lsv_endpoint.proofs.CallLemmas.{is_at}
use Rattle.lsv_endpoint.proofs.PutLemmas.{puts_prefixes}
use Rattle.lsv_endpoint.proofs.endpoint.WorkerEndpointEndpoint.stop.Goals as goal

pub stop-requires : goal.stop-requires
stop-requires g c = let b = c.requires.begun in record { fit = b.3.fit; at = is_at g.P.Port.tells g.P.Port.state g.P.Port.ledger b.0 c.args.self.now b.1 b.2 b.3 }

pub returns-clause-put : goal.returns-clause-put
returns-clause-put g c = λ told start gave took m.
    let goes = c.stop.ensures.goes told gave in
    subst (λ (n : ℕ). PutsPrefixes n (setting c.args.self.now.worker).number gave (λ lane. took) start (view_by g.P.Port.state g.P.Port.ledger c.stop.new.port)) c.stop.ensures.worker.lanes
    (subst (λ (n : ℕ). PutsPrefixes (setting c.stop.new.self).lanes n gave (λ lane. took) start (view_by g.P.Port.state g.P.Port.ledger c.stop.new.port)) c.stop.ensures.worker.number
    (puts_prefixes c.one_stream_has_one_list_of_jobs.ensures.always (setting c.stop.new.self) c.stop.new.self.links.items start (view_by g.P.Port.state g.P.Port.ledger c.stop.new.port) gave m.kept m.are_kept.rest took
    (stands_jobs (setting c.stop.new.self) c.stop.new.self.links.items (g.P.Port.state c.stop.new.port) (λ lane. gave lane ++ goes.added lane) gave m.kept goes.put (goes.goes gave m.kept (m.stands told).represents))
    (m.went_on.unopened told) (goes_on_then start.ledger (g.P.Port.ledger c.args.self.now.port) (g.P.Port.ledger c.stop.new.port) m.went_on.goes_on (goes_on (g.P.Port.ledger c.args.self.now.port) (g.P.Port.ledger c.stop.new.port) c.stop.ensures.port.continues))
    m.are_kept.is (λ l. false_or ((g.P.Port.state c.stop.new.port).link l).is_open (c.stop.ensures.closed told l))))

pub returns-clause-continues : goal.returns-clause-continues
returns-clause-continues g c = c.stop.ensures.port.continues
