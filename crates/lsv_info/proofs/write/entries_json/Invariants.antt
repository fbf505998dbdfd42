use Rattle.std.proofs.Common.{◌≡◌, take}
use Rattle.serde_json.specs.View.{members_view}
use Rattle.lsv_info.specs.Layout.{info_members}
use Rattle.lsv_info.proofs.write.entries_json.Given as goal

abbrev pub invariant-loop-entry : goal.invariant-loop-entry
invariant-loop-entry l = members_view l.members.entries ≡ info_members (take l.entry-index l.entries)
