use Rattle.std.proofs.Common.{◌≡◌, ◌++◌, take}
use Rattle.lsv_msg.specs.Format.{repeated_said}
use Rattle.lsv_msg.specs.Messages.{info_message}
use Rattle.lsv_msg.proofs.encode.put_entries.Given as goal

abbrev pub invariant-loop-entry : goal.invariant-loop-entry
invariant-loop-entry l = l.out ≡ l.fn.out ++ (repeated_said l.number info_message).write (take l.entry-index l.entries)
