use Rattle.std.proofs.Common.{ℕ, subst}
use Rattle.lsv_links.specs.Links.{PutsPrefixes}
use Rattle.lsv_threads.specs.Desks.{heard}
use Rattle.lsv_threads.proofs.desk.Desk.stop.Goals as goal

pub stop-requires : goal.stop-requires
stop-requires g c = let at = c.requires.at.1 in record { begun = (at.start, c.requires.at.0, heard c.args.self.now, at.stands.made c.requires.going) }

pub returns-clause-stands : goal.returns-clause-stands
returns-clause-stands g c = λ start lanes gave s. record {
  lanes_are = λ e. absurd cc;
  made = λ e. absurd cc;
  put = λ e told. subst (λ (m : ℕ). PutsPrefixes m c.args.self.now.number gave (λ lane. heard c.args.self.now) (g.T.Endpoint.begun start) (g.T.Endpoint.view c.stop.new.self)) (s.lanes_are c.requires.going)
      (subst (λ (n : ℕ). PutsPrefixes (g.T.Endpoint.lanes c.args.self.now.endpoint) n gave (λ lane. heard c.args.self.now) (g.T.Endpoint.begun start) (g.T.Endpoint.view c.stop.new.self)) (c.requires.at.1.number_is c.requires.going)
      (c.stop.ensures.put told start gave (heard c.args.self.now) (s.made c.requires.going)));
}
