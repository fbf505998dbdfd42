use Rattle.std.proofs.Common.{◌≡◌, ◌++◌, Ok}
use Rattle.serde_json.specs.View.{members_view}
use Rattle.lsv_info.specs.Reading.{and_then, entries_in}
use Rattle.lsv_info.proofs.read.entries_in.Given as goal

-- what is left to read comes after what was read
abbrev pub invariant-loop-key : goal.invariant-loop-key
invariant-loop-key l = entries_in (members_view l.fn.members.entries) ≡ and_then (entries_in (members_view l.key-iterator)) (λ more. Ok (l.entries.items ++ more))
