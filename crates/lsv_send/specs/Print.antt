-- For private clauses: how much of a line was printed when a call failed.
use Rattle.std.specs.Prelude.{◌≡◌, ℕ, List, ◌++◌}
use Rattle.lsv_defs.specs.Pieces.{IsPrefix}
use Rattle.lsv_send.specs.declared.fault.SendFault.{SendFault}
use Rattle.lsv_send.specs.declared.fault.SendFault.TheVariants.{Log, Sink, NoMem}

-- a first part of the line was printed
abbrev pub PrintsSome : (line old new : List ℕ) → Type 0
PrintsSome line old new = (front : List ℕ) × IsPrefix front line × (new ≡ old ++ front)

-- printing fails by the sink, or since memory ran out
abbrev pub IsPrintFault : SendFault → Type 0
IsPrintFault Sink = Unit {0}
IsPrintFault NoMem = Unit {0}
IsPrintFault (Log fault) = ⊥
