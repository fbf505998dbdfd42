use Rattle.std.proofs.Common.{◌≡◌, take, map}
use Rattle.serde_json.specs.View.{view}
use Rattle.lsv_info.specs.Layout.{shown_text}
use Rattle.lsv_info.proofs.write.texts_json.Given as goal

abbrev pub invariant-loop-text : goal.invariant-loop-text
invariant-loop-text l = map view l.items.items ≡ map shown_text (take l.text-index l.texts)
