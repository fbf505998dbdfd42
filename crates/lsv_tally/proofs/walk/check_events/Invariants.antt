use Rattle.lsv_tally.proofs.Walking.{IsWalking}
use Rattle.lsv_tally.proofs.walk.check_events.Given as goal

-- the event logs so far are read
abbrev pub invariant-loop-lane : goal.invariant-loop-lane
invariant-loop-lane g l =
    IsWalking g.D.Disk.tells g.K.Sink.tells l.form l.lane l.sums (g.D.Disk.view l.initial.disk) (g.D.Disk.view l.disk) (g.K.Sink.put l.initial.sink) (g.K.Sink.put l.sink) (g.K.Sink.faults l.initial.sink) (g.K.Sink.faults l.sink)
