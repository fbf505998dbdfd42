use Rattle.std.proofs.Common.{refl, ap, ◌∙◌}
use Rattle.lsv_worker.specs.Links.{reads_in}
use Rattle.lsv_endpoint.proofs.CallLemmas.{is_at, tried}
use Rattle.lsv_endpoint.proofs.endpoint.WorkerEndpoint.try_links.Goals as goal

pub push_out-requires : goal.push_out-requires
push_out-requires g c = let b = c.requires.past in record { fit = b.made.fit; lanes = c.requires.lanes; at = is_at g.P.Port.tells g.P.Port.state g.P.Port.ledger b.start c.args.self.now _ b.took b.made }

pub returns-then-not-is_empty-clause-puts : goal.returns-then-not-is_empty-clause-puts
returns-then-not-is_empty-clause-puts g c = record {
  number = c.push_out.ensures.worker.number;
  lanes = c.push_out.ensures.worker.lanes;
  continues = c.push_out.ensures.keeps.port.continues;
  own = c.push_out.ensures.own;
  made = λ start gave took u.
      tried g.P.Port.tells g.P.Port.state g.P.Port.ledger start c.args.self.now _ _ _ gave took c.push_out.ensures.fit c.push_out.ensures.keeps.port.continues c.push_out.ensures.keeps.port.blame (λ e. absurd (cc)) refl c.push_out.ensures.phase c.push_out.ensures.goes (λ told reads. (c.push_out.ensures.served told).owed (ap reads_in c.push_out.ensures.phase ∙ reads)) u;
}

pub returns-else-had_ended-clause-puts : goal.returns-else-had_ended-clause-puts
returns-else-had_ended-clause-puts g c = record {
  number = c.push_out.ensures.worker.number;
  lanes = c.push_out.ensures.worker.lanes;
  continues = c.push_out.ensures.keeps.port.continues;
  own = c.push_out.ensures.own;
  made = λ start gave took u.
      tried g.P.Port.tells g.P.Port.state g.P.Port.ledger start c.args.self.now _ _ _ gave took c.push_out.ensures.fit c.push_out.ensures.keeps.port.continues c.push_out.ensures.keeps.port.blame (λ e. e) refl c.push_out.ensures.phase c.push_out.ensures.goes (λ told reads. (c.push_out.ensures.served told).owed (ap reads_in c.push_out.ensures.phase ∙ reads)) u;
}

pub returns-then-not-is_empty-clause-same : goal.returns-then-not-is_empty-clause-same
returns-then-not-is_empty-clause-same g c = c.push_out.ensures.keeps.inbox.same

pub returns-else-had_ended-clause-same : goal.returns-else-had_ended-clause-same
returns-else-had_ended-clause-same g c = c.push_out.ensures.keeps.inbox.same
