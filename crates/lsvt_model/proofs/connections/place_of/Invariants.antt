use Rattle.std.proofs.Common.{◌≡◌, drop}
use Rattle.lsvt_model.specs.Inner.{connection_place}
use Rattle.lsvt_model.proofs.TableLemmas.{later}
use Rattle.lsvt_model.proofs.connections.place_of.Given as goal

abbrev pub invariant-loop-place : goal.invariant-loop-place
invariant-loop-place l = later l.place (connection_place (drop l.place l.connections) l.id) ≡ connection_place l.connections l.id
