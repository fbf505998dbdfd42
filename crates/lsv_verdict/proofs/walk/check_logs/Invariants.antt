use Rattle.lsv_verdict.proofs.Walking.{IsWalking}
use Rattle.lsv_verdict.proofs.walk.check_logs.Given as goal

-- the numbers so far are judged
abbrev pub invariant-loop-at : goal.invariant-loop-at
invariant-loop-at g l =
    IsWalking g.D.Disk.tells g.K.Sink.tells l.form l.ids l.at l.sums (g.D.Disk.view l.initial.disk) (g.D.Disk.view l.disk) (g.K.Sink.put l.initial.sink) (g.K.Sink.put l.sink) (g.K.Sink.faults l.initial.sink) (g.K.Sink.faults l.sink)
