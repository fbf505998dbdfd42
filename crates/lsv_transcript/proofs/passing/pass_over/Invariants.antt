use Rattle.std.proofs.Common.{[]}
use Rattle.lsv_iolog.specs.Reading.{IsBehind}
use Rattle.lsv_transcript.proofs.Points.{IsPassing, IsReadingOn}
use Rattle.lsv_transcript.proofs.passing.pass_over.Given as goal

-- what is left of the point is where the next records end that end at it
abbrev pub invariant-records : goal.invariant-records
invariant-records g l = record {
  passing : g.D.Disk.tells → IsBehind l.initial.log [] (g.D.Disk.view l.initial.disk) → IsPassing l.log (g.D.Disk.view l.disk) l.point l.rest;
  reading : IsReadingOn g.D.Disk.tells l.initial.log l.log (g.D.Disk.view l.initial.disk) (g.D.Disk.view l.disk);
}
