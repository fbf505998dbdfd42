use Rattle.std.proofs.Common.{◌≡◌, drop}
use Rattle.lsv_record.specs.Points.{first}
use Rattle.lsvt_model.proofs.TableLemmas.{later}
use Rattle.lsvt_model.proofs.points.first.Given as goal

abbrev pub invariant-loop-before : goal.invariant-loop-before
invariant-loop-before l = later l.before (first (drop l.before l.records) l.left) ≡ first l.records l.point
