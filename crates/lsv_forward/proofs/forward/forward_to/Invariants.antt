use Rattle.std.proofs.Common.{◌-◌}
use Rattle.lsv_forward.proofs.Going.{IsRunning}
use Rattle.lsv_forward.proofs.forward.forward_to.Given as goal

-- the logs so far were handled
abbrev pub invariant-numbers : goal.invariant-numbers
invariant-numbers g l =
    IsRunning g.D.Disk.view l.fn.host g.D.Disk.tells g.L.Link.tells l.fn.last l.before l.left l.reached (g.D.Disk.view l.fn.disk) (g.D.Disk.view l.disk) (g.L.Link.state l.fn.link) (g.L.Link.state l.link) (g.L.Link.counts l.fn.link) (g.L.Link.counts l.link)

abbrev pub decreases-numbers : goal.decreases-numbers
decreases-numbers g l = l.fn.last - l.before
