use Rattle.std.proofs.Common.{take}
use Rattle.lsv_record.specs.Layout.{IsLayout}
use Rattle.lsv_record.proofs.laid.lay.Given as goal

-- the records so far are laid
abbrev pub invariant-loop-r : goal.invariant-loop-r
invariant-loop-r l = IsLayout l.laid (take l.r-index l.rs)
