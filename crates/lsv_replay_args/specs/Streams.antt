-- The streams that are shown, as the command line lists them.
use Rattle.std.specs.Prelude.{ℕ, List, [], ◌∷◌, Option, Some, None, Bool, true, false, codes, if◌then◌else◌, set}
use Rattle.std.specs.Option.{option_and_then}
use Rattle.std.specs.Str.{bytes_eq}
use Rattle.lsv_replay_args.specs.Texts.{pieces}

-- the place of a stream of this name among the five
abbrev pub index_in : List ℕ → Option ℕ
index_in name =
    if bytes_eq name (codes "stdin") then Some 0
    else if bytes_eq name (codes "stdout") then Some 1
    else if bytes_eq name (codes "stderr") then Some 2
    else if bytes_eq name (codes "ttyin") then Some 3
    else if bytes_eq name (codes "ttyout") then Some 4
    else None

-- these streams and those of these names, if each name is a stream's
abbrev pub named : List Bool → List (List ℕ) → Option (List Bool)
named streams [] = Some streams
named streams (name ∷ names) = option_and_then (λ i. named (set streams i true) names) (index_in name)

-- the streams that names with commas between them list
abbrev pub streams_in : List ℕ → Option (List Bool)
streams_in list = named (false ∷ false ∷ false ∷ false ∷ false ∷ []) (pieces 44 list)
