use Rattle.std.proofs.Common.{◌≡◌, ◌++◌, drop, option_map}
use Rattle.serde_json.specs.View.{items_view}
use Rattle.lsv_info.specs.Reading.{numbers_in}
use Rattle.lsv_info.proofs.read.numbers_in.Given as goal

-- what is left to read comes after what was read
abbrev pub invariant-loop-item : goal.invariant-loop-item
invariant-loop-item l = numbers_in (items_view l.items) ≡ option_map (λ more. l.numbers.items ++ more) (numbers_in (items_view (drop l.item-index l.items)))
