use Rattle.std.proofs.Common.{◌≡◌, ◌≤◌, length, true}
use Rattle.lsv_port.specs.Port.{IsOpen}
use Rattle.lsv_worker.specs.Frames.{BothKeep, PutsOwn}
use Rattle.lsv_worker.specs.Links.{IsSpared, LinkStep, ReadsOn, Remains, WasRead, WasReadAtMost}
use Rattle.lsv_worker.specs.declared.link.Phase.TheVariants.{Going}
use Rattle.lsv_worker.proofs.link.Link.read_all.Given as goal

abbrev pub invariant-reads : goal.invariant-reads
invariant-reads g l = record {
  step : g.P.Port.tells → LinkStep l.phase l.fn.self l.self (g.P.Port.state l.fn.port) (g.P.Port.state l.port) (g.I.Inbox.jobs l.fn.inbox) (g.I.Inbox.jobs l.inbox);
  remains : Remains l.fn.self l.self;
  here : g.P.Port.tells → l.self.live ≡ true → IsOpen (g.P.Port.state l.port) l.self.number;
  read : g.P.Port.tells → l.self.owed ≡ true → WasRead l.k ((g.P.Port.state l.fn.port).link l.fn.self.number) ((g.P.Port.state l.port).link l.fn.self.number);
  rules : g.P.Port.tells → ReadsOn l.phase l.fn.self l.self ((g.P.Port.state l.fn.port).link l.fn.self.number) ((g.P.Port.state l.port).link l.fn.self.number);
  heavy : l.phase ≡ Going → 65536 ≤ length l.fn.self.outgoing.unsent → 65536 ≤ length l.self.outgoing.unsent;
  most : g.P.Port.tells → WasReadAtMost l.k ((g.P.Port.state l.fn.port).link l.fn.self.number) ((g.P.Port.state l.port).link l.fn.self.number);
  output_full : g.P.Port.tells → l.phase ≡ Going → IsSpared l.self ((g.P.Port.state l.fn.port).link l.fn.self.number) ((g.P.Port.state l.port).link l.fn.self.number);
  own : PutsOwn l.fn.self.conn.worker (g.I.Inbox.jobs l.fn.inbox) (g.I.Inbox.jobs l.inbox);
  keeps : BothKeep g.P.Port.tells g.P.Port.state g.P.Port.ledger l.fn.port l.port g.I.Inbox.lanes g.I.Inbox.refused g.I.Inbox.is_same l.fn.inbox l.inbox;
}
