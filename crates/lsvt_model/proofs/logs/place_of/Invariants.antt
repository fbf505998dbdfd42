use Rattle.std.proofs.Common.{◌≡◌, drop}
use Rattle.lsvt_model.specs.Inner.{log_place}
use Rattle.lsvt_model.proofs.TableLemmas.{later}
use Rattle.lsvt_model.proofs.logs.place_of.Given as goal

abbrev pub invariant-loop-place : goal.invariant-loop-place
invariant-loop-place l = later l.place (log_place (drop l.place l.logs) l.number) ≡ log_place l.logs l.number
