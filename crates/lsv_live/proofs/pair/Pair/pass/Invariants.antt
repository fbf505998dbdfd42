use Rattle.lsv_port.specs.Ledger.{Continues}
use Rattle.lsv_live.specs.Pairs.{AllTaken, AreSent, IsHearing, IsNoticed, PairAt, Touches}
use Rattle.lsv_live.proofs.pair.Pair.pass.Given as goal

abbrev pub invariant-reads : goal.invariant-reads
invariant-reads g l = record {
  at : g.P.Port.tells → PairAt l.self (g.P.Port.state l.port);
  touches : g.P.Port.tells → Touches l.fn.self l.self (g.P.Port.state l.fn.port) (g.P.Port.state l.port);
  hearing : IsHearing l.self;
  taken : AllTaken l.self × IsNoticed l.self;
  written : g.P.Port.tells → AreSent l.self (g.P.Port.state l.port);
  continues : Continues (g.P.Port.ledger l.fn.port) (g.P.Port.ledger l.port);
}
