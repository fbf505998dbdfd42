use Rattle.std.proofs.Common.{◌≡◌, ◌≤◌, false, length}
use Rattle.lsv_cut.specs.Cuts.{unread}
use Rattle.lsv_once.specs.InnerRun.{CutsOn}
use Rattle.lsv_once.proofs.reader.JobReader.take_all.Given as goal

-- the jobs so far
abbrev pub invariant-loop : goal.invariant-loop
invariant-loop l = record {
  cuts : CutsOn l.initial.jobs.items false (unread l.initial.self.kept l.piece l.initial.at) l.jobs.items false (unread l.self.kept l.piece l.at);
  not_over : l.self.is_over ≡ false;
  within : l.at ≤ length l.piece;
}

abbrev pub decreases-loop : goal.decreases-loop
decreases-loop l = length (unread l.self.kept l.piece l.at)
