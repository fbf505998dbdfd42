use Rattle.lsv_once.proofs.JobLemmas.{takes_nothing, takes_piece}
use Rattle.lsv_once.proofs.reader.JobReader.take.Goals as goal

pub returns-then-self : goal.returns-then-self
returns-then-self c = rw (c.if-self.true, c.new.ensures.items) (takes_nothing _ _)

pub returns : goal.returns
returns c = rw c.if-self.false (takes_piece c.args.piece.now c.args.self.now.kept _ _ _ (rw (c.if-self.false, c.in_ok-jobs.ensures.items) at c.in_ok-take_all.ensures))
