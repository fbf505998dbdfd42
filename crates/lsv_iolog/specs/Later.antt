-- The order in which a log's committed states follow each other.
use Rattle.std.specs.Prelude.{◌≡◌, ℕ, ◌+◌, ◌<◌, ◌⊎◌, Bool, List, ◌++◌, length, if◌then◌else◌, nat_lt}
use Rattle.lsv_record.specs.declared.records.Record.{Record}
use Rattle.lsv_record.specs.Points.{Stored, kept, cut}

-- b is a later state than a, or the same: it has more cuts, or as many, and then a's records are a prefix of its own
abbrev pub IsLater : Stored → Stored → Type 0
IsLater a b = (a.cuts < b.cuts) ⊎ ((b.cuts ≡ a.cuts) × ((more : List Record) × (b.records ≡ a.records ++ more)))

-- a cut at this point drops a record
abbrev pub drops : Stored → ℕ → Bool
drops log point = nat_lt (kept log.records point) (length log.records)

-- how many cuts there are after one at this point: one that drops no record isn't counted
abbrev pub cuts_after : Stored → ℕ → ℕ
cuts_after log point = if drops log point then log.cuts + 1 else log.cuts

-- the log cut at this point
abbrev pub cut_log : Stored → ℕ → Stored
cut_log log point = record { head = log.head; records = cut log.records point; exit = log.exit; cuts = cuts_after log point }
