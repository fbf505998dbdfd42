use Rattle.std.proofs.Common.{◌≡◌, ◌∷◌, ◌++◌, take}
use Rattle.std.specs.List.{flat_map}
use Rattle.lsv_search.proofs.matching.put_arguments.Given as goal

abbrev pub invariant-loop-argument : goal.invariant-loop-argument
invariant-loop-argument l = l.text ≡ l.initial.text ++ flat_map (λ argument. 32 ∷ argument) (take l.argument-index l.argument-items)
