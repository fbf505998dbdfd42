use Rattle.std.proofs.Common.{◌≡◌, sum_by, take}
use Rattle.lsv_worker.specs.Sizes.{counted, entry_bytes}
use Rattle.lsv_worker.proofs.size.info_size.Given as goal

abbrev pub invariant-loop-entry : goal.invariant-loop-entry
invariant-loop-entry l = l.size ≡ counted (sum_by entry_bytes (take l.entry-index l.info.entries))
