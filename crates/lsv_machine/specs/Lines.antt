-- What the event log may hold: the lines of each turn in which it didn't fail, and of each other turn all its lines or none.
use Rattle.std.specs.Prelude.{◌≡◌, ◌⊎◌, ℕ, Contains, List, [], ◌∷◌, ◌++◌}
use Rattle.std.specs.List.{flat_map}
use Rattle.lsv_disk.specs.declared.file.Owner.TheVariants.{Events}
use Rattle.lsv_machine.specs.Failures.{Act}
use Rattle.lsv_machine.specs.Turns.{Happened, Happened.Did, Happened.Tailed, Happened.Begins}

-- the lines that jobs left
abbrev pub lines_of : List Act → List ℕ
lines_of acts = flat_map (λ act. act.line) acts

-- a history turns the text of the event log, and the lines of the turn under way, into these: the jobs add lines, and the end of the turn puts them after the text, or loses them
-- where the event log failed; the start of a run finds those of a turn that was cut, or not
abbrev pub LinesFrom : (lane : ℕ) (text fresh : List ℕ) → List Happened → (text' fresh' : List ℕ) → Type 0
LinesFrom lane text fresh [] text' fresh' = (text' ≡ text) × (fresh' ≡ fresh)
LinesFrom lane text fresh (Did act ∷ history) text' fresh' = LinesFrom lane text (fresh ++ act.line) history text' fresh'
LinesFrom lane text fresh (Tailed tail ∷ history) text' fresh' =
    LinesFrom lane (text ++ fresh) [] history text' fresh'
    ⊎ (Contains tail.failed (Events lane) × LinesFrom lane text [] history text' fresh')
LinesFrom lane text fresh (Begins texts ∷ history) text' fresh' =
    LinesFrom lane (text ++ fresh) [] history text' fresh'
    ⊎ LinesFrom lane text [] history text' fresh'

-- after a history the event log may hold this text of the ended turns, with these lines of the turn under way still to come
abbrev pub MayHold : (lane : ℕ) → List Happened → (text fresh : List ℕ) → Type 0
MayHold lane history text fresh = LinesFrom lane [] [] history text fresh
