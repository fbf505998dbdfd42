use Rattle.std.proofs.Common.{ℕ, List}
use Rattle.lsv_session.specs.declared.job.Job.{Job}
use Rattle.lsv_session.specs.declared.reply.Reply.{Reply}
use Rattle.lsv_reactor.specs.InnerLoop.{AreMade, AreOver}
use Rattle.lsv_threads.proofs.closing.how_ended.Given as goal

abbrev pub invariant-loop-endpoint : goal.invariant-loop-endpoint
invariant-loop-endpoint g l = (starts : ℕ → g.T.Endpoint.Start) (gave : ℕ → ℕ → List Job) (took : ℕ → List Reply) → AreMade g.T.Endpoint.made_by starts l.endpoints gave took
    → AreOver g.T.Endpoint.tells g.T.Endpoint.number g.T.Endpoint.lanes g.T.Endpoint.begun g.T.Endpoint.view starts l.endpoints gave took l.endpoint-index l.end
