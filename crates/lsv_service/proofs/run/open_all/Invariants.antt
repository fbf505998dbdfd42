use Rattle.std.proofs.Common.{◌≡◌, ◌<◌, ◌≤◌, ℕ, Some, slice_get}
use Rattle.lsv_port.specs.Ledger.{WasAsked}
use Rattle.lsv_threads.specs.Run.{AreFresh}
use Rattle.lsv_service.specs.Runs.{ListenFailed}
use Rattle.lsv_service.proofs.run.open_all.Given as goal

abbrev pub invariant-endpoints : goal.invariant-endpoints
invariant-endpoints g l = record {
  fresh : (lanes : ℕ) (starts : ℕ → g.T.Endpoint.Start) → AreFresh g.T.Endpoint l.fn.endpoints lanes starts → AreFresh g.T.Endpoint l.endpoints lanes starts;
  later : (i : ℕ) (endpoint : g.row.T.Denot) → l.place ≤ i → slice_get l.endpoints i ≡ Some endpoint → slice_get l.fn.endpoints i ≡ Some endpoint;
  asked : g.T.Endpoint.tells → (i : ℕ) (old new : g.row.T.Denot) → i < l.place → slice_get l.fn.endpoints i ≡ Some old → slice_get l.endpoints i ≡ Some new
      → WasAsked (record { address = l.fn.site.address.now; stop_after = l.fn.site.stop_after }) (ListenFailed (g.T.Endpoint.view old) (g.T.Endpoint.view new)) (g.T.Endpoint.view old).ledger (g.T.Endpoint.view new).ledger;
}
