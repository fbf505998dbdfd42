use Rattle.std.proofs.Common.{◌-◌}
use Rattle.lsv_disk.specs.declared.file.Part.TheVariants.{Timing}
use Rattle.lsv_bundle.specs.Body.{length_of}
use Rattle.lsv_iolog.specs.Inner.Cutting.{IsSeeking}
use Rattle.lsv_iolog.proofs.cut.first_end.Given as goal

abbrev pub invariant-loop-lines : goal.invariant-loop-lines
invariant-loop-lines g l = IsSeeking g.D.Disk.tells l.fn.view l.fn.point (g.D.Disk.view l.initial.disk) (g.D.Disk.view l.disk) l.lines

abbrev pub decreases-loop-lines : goal.decreases-loop-lines
decreases-loop-lines g l = length_of l.lines.view.body Timing - l.lines.tally.timing
