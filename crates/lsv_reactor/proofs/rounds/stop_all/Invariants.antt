use Rattle.std.proofs.Common.{◌≡◌, ◌≤◌, ℕ, List, Some, slice_get}
use Rattle.lsv_port.specs.Ledger.{PortLedger}
use Rattle.lsv_session.specs.declared.job.Job.{Job}
use Rattle.lsv_session.specs.declared.reply.Reply.{Reply}
use Rattle.lsv_reactor.specs.InnerLoop.{ArePosts, AreStopped}
use Rattle.lsv_reactor.proofs.rounds.stop_all.Given as goal

abbrev pub invariant-stops : goal.invariant-stops
invariant-stops g l = record {
  later : (i : ℕ) (post : g.row.T.Denot) → l.place ≤ i → slice_get l.posts i ≡ Some post → slice_get l.fn.posts i ≡ Some post;
  stopped : (starts : ℕ → g.T.Endpoint.Start) (ledgers : ℕ → PortLedger) (calls : List (List Job)) (took : List Reply) → ArePosts g.T.Endpoint.number g.T.Endpoint.lanes g.T.Endpoint.view g.T.Endpoint.made_by g.T.Endpoint.called starts ledgers l.fn.posts calls took
      → AreStopped g.T.Endpoint.tells g.T.Endpoint.begun g.T.Endpoint.view starts ledgers l.posts calls took l.place;
}
