use Rattle.std.proofs.Common.{◌≤◌, ◌-◌}
use Rattle.lsv_replay.proofs.Listed.{IsListing}
use Rattle.lsv_replay.proofs.listing.list_to.Given as goal

-- the logs so far are listed
abbrev pub invariant-numbers : goal.invariant-numbers
invariant-numbers g l = record {
  within : l.listed ≤ l.fn.last;
  so_far : IsListing g.D.Disk.tells g.S.Screen.tells l.e l.listed l.first (g.D.Disk.view l.fn.disk) (g.D.Disk.view l.disk) (g.S.Screen.shown l.fn.screen) (g.S.Screen.shown l.screen)
      (g.S.Screen.faults l.fn.screen) (g.S.Screen.faults l.screen);
}

abbrev pub decreases-numbers : goal.decreases-numbers
decreases-numbers g l = l.fn.last - l.listed
