use Rattle.std.proofs.Common.{◌≡◌, take}
use Rattle.lsv_worker.specs.Sizes.{counted, texts_bytes}
use Rattle.lsv_worker.proofs.size.texts_size.Given as goal

abbrev pub invariant-loop-text : goal.invariant-loop-text
invariant-loop-text l = l.size ≡ counted (texts_bytes (take l.text-index l.texts))
