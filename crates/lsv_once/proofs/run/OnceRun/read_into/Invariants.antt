use Rattle.std.proofs.Common.{◌-◌, ◌^◌}
use Rattle.lsv_once.specs.InnerRun.{UnderWay}
use Rattle.lsv_once.specs.World.{wires_of}
use Rattle.lsv_once.proofs.run.OnceRun.read_into.Given as goal

-- the run goes on from read to read
abbrev pub invariant-loop-end : goal.invariant-loop-end
invariant-loop-end g l = (start s k : _) → UnderWay (g.L.Lane.made_by start l.initial.self.lane) (wires_of g.S.Source g.K.Sink s k) (wires_of g.S.Source g.K.Sink l.initial.source l.initial.sink) l.initial.self.reader.is_over l.initial.self.reader.kept
    → UnderWay (g.L.Lane.made_by start l.self.lane) (wires_of g.S.Source g.K.Sink s k) (wires_of g.S.Source g.K.Sink l.source l.sink) l.self.reader.is_over l.self.reader.kept

abbrev pub decreases-loop-end : goal.decreases-loop-end
decreases-loop-end g l = 2 ^ 63 - g.S.Source.count l.source
