use Rattle.std.proofs.Common.{◌≡◌, ◌≤◌, ℕ, List, Some, slice_get}
use Rattle.lsv_session.specs.declared.job.Job.{Job}
use Rattle.lsv_session.specs.declared.reply.Reply.{Reply}
use Rattle.lsv_reactor.specs.Served.{KeepPorts}
use Rattle.lsv_threads.specs.AtEnd.{AreAtEnd, AreStopped}
use Rattle.lsv_threads.proofs.closing.stop_all.Given as goal

abbrev pub invariant-stops : goal.invariant-stops
invariant-stops g l = record {
  later : (w : ℕ) (endpoint : g.row.T.Denot) → l.place ≤ w → slice_get l.endpoints w ≡ Some endpoint → slice_get l.fn.endpoints w ≡ Some endpoint;
  keep : KeepPorts g.T.Endpoint.view l.fn.endpoints l.endpoints;
  stopped : (starts : ℕ → g.T.Endpoint.Start) (lanes : ℕ) (gave : ℕ → ℕ → List Job) (took : ℕ → List Reply) → AreAtEnd g.T.Endpoint starts lanes l.fn.endpoints l.stops gave took → AreStopped g.T.Endpoint starts lanes l.endpoints gave took l.place;
}
