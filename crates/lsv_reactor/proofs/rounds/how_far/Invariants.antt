use Rattle.std.proofs.Common.{ℕ, List}
use Rattle.lsv_session.specs.declared.job.Job.{Job}
use Rattle.lsv_session.specs.declared.reply.Reply.{Reply}
use Rattle.lsv_reactor.specs.InnerLoop.{AreMade, AreOver}
use Rattle.lsv_reactor.proofs.rounds.how_far.Given as goal

abbrev pub invariant-loop-post : goal.invariant-loop-post
invariant-loop-post g l = (starts : ℕ → g.T.Endpoint.Start) (gave : ℕ → ℕ → List Job) (took : ℕ → List Reply) → AreMade g.T.Endpoint.made_by starts l.posts gave took → AreOver g.T.Endpoint.tells g.T.Endpoint.number g.T.Endpoint.lanes g.T.Endpoint.begun g.T.Endpoint.view starts l.posts gave took l.post-index l.end
