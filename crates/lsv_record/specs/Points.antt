-- The records of a log up to a point of it, which is an elapsed time in nanoseconds.
use Rattle.std.specs.Prelude.{◌≡◌, ◌≢◌, ℕ, suc, ◌-◌, ◌<◌, ◌≤◌, List, [], ◌∷◌, length, take, Option, Some, None, unwrap_or, nat_lt, ◌==◌, if◌then◌else◌}
use Rattle.lsv_record.specs.declared.records.Record.{Record}
use Rattle.lsv_record.specs.Records.{delay_of, elapsed}

-- n is the least number of at least one such that the first n records end at this point
pub record IsFirst (records : List Record) (point n : ℕ) : Type 0 where
  pub some : 1 ≤ n
  pub within : n ≤ length records
  pub ends : elapsed (take n records) ≡ point
  pub least : (m : ℕ) → 1 ≤ m → m < n → elapsed (take m records) ≢ point

-- one more than a number, if it exists
abbrev pub one_more : Option ℕ → Option ℕ
one_more None = None
one_more (Some n) = Some (suc n)

-- how many records there are through the first that ends at this point, if one ends there
abbrev pub first : List Record → ℕ → Option ℕ
first [] point = None
first (r ∷ records) point = if delay_of r == point then Some 1 else if nat_lt point (delay_of r) then None else one_more (first records (point - delay_of r))

-- how many records a cut at this point leaves: all, if none ends there
abbrev pub kept : List Record → ℕ → ℕ
kept records point = unwrap_or (first records point) (length records)

-- what a cut at this point leaves of the records
abbrev pub cut : List Record → ℕ → List Record
cut records point = take (kept records point) records

-- a stored log: the text of its head, its records, the text of its exit if it has ended, and how many cuts dropped records of it
pub record Stored : Type 0 where
  pub head : List ℕ
  pub records : List Record
  pub exit : Option (List ℕ)
  pub cuts : ℕ
