use Rattle.std.proofs.Common.{◌≡◌, [], length}
use Rattle.lsv_port.specs.Ledger.{Continues}
use Rattle.lsv_port.specs.Port.{IsOpen}
use Rattle.lsv_worker.specs.Outgoing.{Writes}
use Rattle.lsv_worker.proofs.outgoing.Outgoing.write.Given as goal

abbrev pub invariant-writes : goal.invariant-writes
invariant-writes g l = record {
  writes : g.P.Port.tells → Writes l.link l.initial.self l.self (g.P.Port.state l.initial.port) (g.P.Port.state l.port);
  here : g.P.Port.tells → IsOpen (g.P.Port.state l.port) l.link;
  sending : l.self.sending ≡ l.initial.self.sending;
  failed : g.P.Port.tells → ((g.P.Port.state l.port).link l.link).failed ≡ ((g.P.Port.state l.initial.port).link l.link).failed;
  empty : g.P.Port.tells → l.initial.self.unsent ≡ [] → (l.self.unsent ≡ []) × (((g.P.Port.state l.port).link l.link).output ≡ ((g.P.Port.state l.initial.port).link l.link).output);
  continues : Continues (g.P.Port.ledger l.initial.port) (g.P.Port.ledger l.port);
}

abbrev pub decreases-writes : goal.decreases-writes
decreases-writes g l = length l.self.unsent
