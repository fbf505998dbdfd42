use Rattle.std.proofs.Common.{◌≡◌, ◌++◌, option_map}
use Rattle.std.specs.Vec.Iter.{into_iter_items}
use Rattle.serde_json.specs.View.{items_view}
use Rattle.lsv_info.specs.Reading.{texts_in}
use Rattle.lsv_info.proofs.read.texts_in.Given as goal

-- what is left to read comes after what was read
abbrev pub invariant-loop-item : goal.invariant-loop-item
invariant-loop-item l = texts_in (items_view l.fn.items.items) ≡ option_map (λ more. l.texts.items ++ more) (texts_in (items_view (into_iter_items l.item-iterator)))
