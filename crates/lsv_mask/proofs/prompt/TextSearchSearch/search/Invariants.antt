use Rattle.std.proofs.Common.{◌≡◌, drop}
use Rattle.lsv_mask.specs.Masking.{prompted}
use Rattle.lsv_mask.proofs.prompt.TextSearchSearch.search.Given as goal

-- none of the texts so far stands in the bytes
abbrev pub invariant-loop-text : goal.invariant-loop-text
invariant-loop-text l = prompted l.texts l.bytes ≡ prompted (drop l.text-index l.texts) l.bytes
