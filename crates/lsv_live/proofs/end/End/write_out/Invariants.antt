use Rattle.std.proofs.Common.{◌≡◌, length}
use Rattle.lsv_port.specs.Ledger.{Continues}
use Rattle.lsv_port.specs.Port.{IsOpen}
use Rattle.lsv_live.specs.Ends.{Alone, Writes}
use Rattle.lsv_live.proofs.end.End.write_out.Given as goal

abbrev pub invariant-writes : goal.invariant-writes
invariant-writes g l = record {
  writes : g.P.Port.tells → Writes l.initial.self l.self ((g.P.Port.state l.initial.port).link l.initial.self.number) ((g.P.Port.state l.port).link l.initial.self.number);
  is : l.self ≡ record l.initial.self { unsent = l.self.unsent };
  alone : g.P.Port.tells → Alone l.initial.self.number (g.P.Port.state l.initial.port) (g.P.Port.state l.port);
  here : g.P.Port.tells → IsOpen (g.P.Port.state l.port) l.initial.self.number;
  failed : g.P.Port.tells → ((g.P.Port.state l.port).link l.initial.self.number).failed ≡ ((g.P.Port.state l.initial.port).link l.initial.self.number).failed;
  continues : Continues (g.P.Port.ledger l.initial.port) (g.P.Port.ledger l.port);
}

abbrev pub decreases-writes : goal.decreases-writes
decreases-writes g l = length l.self.unsent
