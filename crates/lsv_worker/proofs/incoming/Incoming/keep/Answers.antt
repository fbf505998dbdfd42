use Rattle.std.proofs.Common.{List, ℕ, ◌++◌, sym, ◌∙◌, subst}
use Rattle.lsv_worker.specs.Incoming.{Receives, with_piece}
use Rattle.lsv_worker.proofs.Cutting.{rest_free}
use Rattle.lsv_worker.proofs.incoming.Incoming.keep.Goals as goal

pub returns-in-Ok-clause-goes : goal.returns-in-Ok-clause-goes
returns-in-Ok-clause-goes c = λ read put marks h. subst (λ (r : List ℕ). Receives (record c.args.self.now { rest = r }) read put marks) (sym c.in-Ok.ensures.ok) h

pub returns-in-Err-clause-goes : goal.returns-in-Err-clause-goes
returns-in-Err-clause-goes c = c.stop_cutting.ensures.goes (c.args.self.now.rest ++ c.args.piece.now)

pub returns-clause-goes : goal.returns-clause-goes
returns-clause-goes c = rest_free (with_piece c.args.self.now c.args.piece.now 0) c.args.self.now.rest (sym c.is_cutting.ensures ∙ c.if-is_cutting.false)
