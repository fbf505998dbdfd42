use Rattle.std.proofs.Common.{true, rules}
use Rattle.lsv_live.proofs.EndLemmas.{stands_dropped, stands_fed}
use Rattle.lsv_live.proofs.end.End.take.Goals as goal

pub returns-then-self-clause-goes : goal.returns-then-self-clause-goes
returns-then-self-clause-goes c = λ s t taken said at h.
    stands_dropped c.args.self.now (record c.args.self.now { is_missing = true }) s t c.args.piece.now taken said at (search rules) h

pub returns-in-Ok-clause-goes : goal.returns-in-Ok-clause-goes
returns-in-Ok-clause-goes c = λ s t taken said at h.
    stands_fed c.args.self.now (record c.args.self.now { rest = c.feed.new.self }) s t c.args.piece.now taken said at (search rules) (c.requires.whole c.if-self.false) h

pub returns-in-Err-clause-goes : goal.returns-in-Err-clause-goes
returns-in-Err-clause-goes c = λ s t taken said at h.
    stands_dropped c.args.self.now (record c.args.self.now { is_deaf = true; is_missing = true; rest = c.feed.new.self }) s t c.args.piece.now taken said at (search rules) h
