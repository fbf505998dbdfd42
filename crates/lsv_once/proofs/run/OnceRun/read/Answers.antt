use Rattle.lsv_once.specs.World.{wires_of}
use Rattle.lsv_once.proofs.ReadLemmas.{ended_here}
use Rattle.lsv_once.proofs.run.OnceRun.read.Goals as goal

pub returns-in_default : goal.returns-in_default
returns-in_default g c = λ start s k u. ended_here (wires_of g.S.Source g.K.Sink s k) (g.L.Lane.made_by start c.args.self.now.lane) _ _ _ u
