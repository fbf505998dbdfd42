use Rattle.std.proofs.Common.{take}
use Rattle.std.specs.List.{AllByRecursion}
use Rattle.lsv_info.specs.Fitting.{FitsEntry}
use Rattle.lsv_iolog.proofs.log.entries_fit.Given as goal

-- the entries before this one fit
abbrev pub invariant-loop-entry : goal.invariant-loop-entry
invariant-loop-entry l = AllByRecursion FitsEntry (take l.entry-index l.entries)
