use Rattle.lsv_threads.specs.Desks.{GoesOn}
use Rattle.lsv_threads.proofs.desk.Desk.hear.Given as goal

abbrev pub invariant-loop : goal.invariant-loop
invariant-loop g l = GoesOn g.T.Endpoint l.initial.self l.self
