use Rattle.std.proofs.Common.{List, ℕ, length}
use Rattle.lsv_port.specs.Ledger.{PortLedger}
use Rattle.lsv_turn.specs.Turns.{LaneTurn, replies_in}
use Rattle.lsv_reactor.specs.Calls.{calls_in}
use Rattle.lsv_reactor.specs.InnerLoop.{AreEmptied, ArePosts, IsLane}
use Rattle.lsv_reactor.proofs.rounds.run.Given as goal

abbrev pub invariant-rounds : goal.invariant-rounds
invariant-rounds g l = record {
  inboxes : AreEmptied (length l.fn.posts) l.inboxes;
  goes : (starts : ℕ → g.T.Endpoint.Start) (ledgers : ℕ → PortLedger) (start : g.L.Lane.Start) (turns : List LaneTurn) → ArePosts g.T.Endpoint.number g.T.Endpoint.lanes g.T.Endpoint.view g.T.Endpoint.made_by g.T.Endpoint.called starts ledgers l.fn.posts (calls_in turns) (replies_in turns) → IsLane g.L.Lane.tells g.L.Lane.made_by start l.fn.lane turns
      → (more : List LaneTurn) × ArePosts g.T.Endpoint.number g.T.Endpoint.lanes g.T.Endpoint.view g.T.Endpoint.made_by g.T.Endpoint.called starts ledgers l.posts (calls_in more) (replies_in more) × IsLane g.L.Lane.tells g.L.Lane.made_by start l.lane more;
}
