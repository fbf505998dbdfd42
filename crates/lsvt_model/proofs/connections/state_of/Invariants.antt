use Rattle.std.proofs.Common.{◌≡◌, drop}
use Rattle.lsvt_model.specs.Views.{state_in}
use Rattle.lsvt_model.proofs.connections.state_of.Given as goal

abbrev pub invariant-loop-connection : goal.invariant-loop-connection
invariant-loop-connection l = state_in (drop l.connection-index l.connections) l.id ≡ state_in l.connections l.id
