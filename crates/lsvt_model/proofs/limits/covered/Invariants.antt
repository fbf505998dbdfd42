use Rattle.std.proofs.Common.{◌≡◌, take}
use Rattle.lsv_mask.specs.Masking.{seen}
use Rattle.lsvt_model.proofs.limits.covered.Given as goal

abbrev pub invariant-loop-stored : goal.invariant-loop-stored
invariant-loop-stored l = l.mask ≡ seen l.texts (take l.stored-index l.records)
