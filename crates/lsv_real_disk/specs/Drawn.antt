-- Which logs the number files cover, and which folders are those of logs.
use Rattle.std.specs.Prelude.{ℕ, List, [], ◌∷◌, Bool, Option, Some, None, ◌&&◌, ◌-◌, ◌%◌, ◌==◌, nat_lt, if◌then◌else◌}
use Rattle.lsv_base.specs.LogNo.{is_digit}
use Rattle.lsv_real_disk.specs.declared.drawn.Uncovered.{Uncovered}
use Rattle.lsv_real_disk.specs.declared.drawn.Uncovered.TheVariants.{NoLast, Above}

-- the log that isn't covered, by the last number of a number file and the greatest log of its numbers: one above it, or any if the
-- file has no last number
abbrev pub judged : Option ℕ → Option ℕ → Option Uncovered
judged last None = None
judged None (Some log) = Some NoLast
judged (Some last) (Some log) = if nat_lt last log then Some (Above last log) else None

-- the name of a folder of logs that a text is: two digits in base 36
abbrev pub folder_name_in : List ℕ → Option (List ℕ)
folder_name_in (a ∷ b ∷ []) = if is_digit a && is_digit b then Some (a ∷ b ∷ []) else None
folder_name_in _ = None

-- the lane that draws a number, if there are this many lanes: lane l of L draws l + 1, l + 1 + L and so on
abbrev pub lane_of : ℕ → ℕ → ℕ
lane_of log lanes = if lanes == 0 then 0 else (log - 1) % lanes

-- whether a last number is far above the newest log
abbrev pub is_far : ℕ → ℕ → Bool
is_far last newest = nat_lt 1000000 (last - newest)
