use Rattle.std.proofs.Common.{List, map}
use Rattle.lsv_turn.specs.Turns.{LaneTurn}
use Rattle.lsv_once.specs.Course.{turn_of}
use Rattle.lsv_once.proofs.EndLemmas.{runs_gone_in, runs_last, runs_out}
use Rattle.lsv_once.proofs.run.OnceRun.serve.Goals as goal

pub release-requires : goal.release-requires
release-requires g c = let n = c.requires.begun in let e = c.in-Open.ensures n.0 n.1 in record { begun = (n.0, map turn_of e.reads, e.made) }

pub returns-in-Last : goal.returns-in-Last
returns-in-Last g c = λ start made. runs_last (g.L.Lane.made_by start c.take_in.new.self.lane) _ _ c.in-Last.end (c.in-Last.ensures start made)

pub returns-in-Ok : goal.returns-in-Ok
returns-in-Ok g c = λ start made.
    runs_gone_in (λ begin (turns : List LaneTurn). g.L.Lane.made_by begin c.take_in.new.self.lane turns) (λ begin (turns : List LaneTurn). g.L.Lane.made_by begin c.release.new.self.lane turns) start _ _ c.in-Open.end _ (c.in-Open.ensures start made) c.in-Ok.ensures.made

pub returns-in-Err : goal.returns-in-Err
returns-in-Err g c = λ start made. runs_out (g.L.Lane.made_by start c.take_in.new.self.lane) _ _ (g.L.Lane.made_by start c.release.new.self.lane) c.in-Open.end (c.in-Err.ensures.lost start) (c.in-Open.ensures start made)
