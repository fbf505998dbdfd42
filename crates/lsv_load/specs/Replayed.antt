-- The logs of a load as the disk replays them.
use Rattle.std.specs.Prelude.{ℕ, List, [], ◌∷◌, Some}
use Rattle.lsv_disk.specs.View.{Image}
use Rattle.lsv_iolog.specs.Recovered.{Replays}
use Rattle.lsv_record.specs.Points.{Stored}

-- an image of the disk replays the logs of these numbers as these, in order
abbrev pub AreReplayed : Image → List ℕ → List Stored → Type 0
AreReplayed image [] [] = Unit {0}
AreReplayed image [] (log ∷ stored) = ⊥
AreReplayed image (n ∷ numbers) [] = ⊥
AreReplayed image (n ∷ numbers) (log ∷ stored) = Replays image n (Some log) × AreReplayed image numbers stored

-- it has no log of this number
abbrev pub HasNoLog : Image → ℕ → Type 0
HasNoLog image n = (log : Stored) → Replays image n (Some log) → ⊥
