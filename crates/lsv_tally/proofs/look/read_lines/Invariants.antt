use Rattle.std.proofs.Common.{◌-◌}
use Rattle.lsv_tally.proofs.Going.{IsGoing}
use Rattle.lsv_tally.specs.Tallies.{lines_at}
use Rattle.lsv_tally.proofs.look.read_lines.Given as goal

-- the first bytes are read
abbrev pub invariant-blocks-2 : goal.invariant-blocks-2
invariant-blocks-2 g l = IsGoing g.D.Disk.tells (lines_at l.view.owner l.view.body (g.D.Disk.view l.initial.disk).reads) l.at (g.D.Disk.view l.initial.disk) (g.D.Disk.view l.disk) l.reading.lines l.reading.line.items

abbrev pub decreases-blocks-2 : goal.decreases-blocks-2
decreases-blocks-2 g l = l.length - l.at
