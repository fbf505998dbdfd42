-- A first part of what is to be shown.
use Rattle.std.specs.Prelude.{◌≡◌, ◌⊎◌, List, [], ◌∷◌}
use Rattle.lsv_defs.specs.Pieces.{IsPrefix}
use Rattle.lsv_play.specs.declared.screen.Item.{Item}
use Rattle.lsv_play.specs.declared.screen.Item.TheVariants.{Wait, Put}

-- the bytes of one put are the first of those of another
abbrev pub IsCut : Item → Item → Type 0
IsCut (Put front) (Put bytes) = IsPrefix front bytes
IsCut (Put front) (Wait nanos) = ⊥
IsCut (Wait nanos) whole = ⊥

-- these are the first items of the whole; of the last one perhaps only the first bytes
abbrev pub IsPart : List Item → List Item → Type 0
IsPart [] whole = Unit {0}
IsPart (item ∷ part) [] = ⊥
IsPart (item ∷ part) (first ∷ whole) = ((item ≡ first) × IsPart part whole) ⊎ ((part ≡ []) × IsCut item first)
