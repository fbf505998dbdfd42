use Rattle.std.proofs.Common.{ℕ, List, [], ◌∷◌, ◌++◌, take, drop}
use Rattle.std.specs.List.{flat_map}
use Rattle.lsv_event.specs.Escapes.{escaped}
use Rattle.lsv_event.specs.InnerLine.{Has}
use Rattle.lsv_event.proofs.sudo_form.put_arguments.Given as goal

-- the arguments before this one stand at the end
abbrev pub invariant-loop-text : goal.invariant-loop-text
invariant-loop-text l = (start : List ℕ) (parts : List (List ℕ)) (last : List ℕ) → Has start (parts ++ last ∷ []) l.initial.line → Has start (parts ++ (last ++ escaped (flat_map (λ text. 32 ∷ text) (take l.text-index (drop 1 l.fn.texts)))) ∷ []) l.line
