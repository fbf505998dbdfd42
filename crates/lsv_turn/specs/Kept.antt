-- The turns that a tape in memory holds.
use Rattle.lsv_turn.specs.Turns.{TapeTurn}
use Rattle.lsv_turn.specs.declared.mem.KeptTurn.{KeptTurn}

-- a turn that was kept, as the tape tells it
abbrev pub turn_of : KeptTurn → TapeTurn
turn_of t = record { now = t.now; jobs = t.jobs; gap = t.gap }
