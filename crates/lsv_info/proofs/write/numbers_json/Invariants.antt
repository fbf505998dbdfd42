use Rattle.std.proofs.Common.{◌≡◌, take, map}
use Rattle.serde_json.specs.View.{view}
use Rattle.lsv_info.specs.Layout.{shown_number}
use Rattle.lsv_info.proofs.write.numbers_json.Given as goal

abbrev pub invariant-loop-number : goal.invariant-loop-number
invariant-loop-number l = map view l.items.items ≡ map shown_number (take l.number-index l.numbers)
