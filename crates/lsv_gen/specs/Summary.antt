-- The summary of a load: five lines, of sums over the logs that it made.
use Rattle.std.specs.Prelude.{ℕ, ◌+◌, ◌-◌, ◌^◌, List, [], ◌∷◌, ◌++◌, codes, length, min, sum_by, count_by, is_some}
use Rattle.std.specs.Fmt.{decimal}
use Prim.Native.String.{String}
use Rattle.lsv_record.specs.Points.{Stored}
use Rattle.lsv_record.specs.Records.{elapsed, seconds}
use Rattle.lsv_record.specs.declared.records.Record.{Record}
use Rattle.lsv_record.specs.declared.records.Record.TheVariants.{Io, Winsize, Suspend}
use Rattle.lsv_gen.specs.declared.totals.Totals.{Totals}

-- how many bytes of data a record has
abbrev pub data_length : Record → ℕ
data_length (Io delay stream bytes) = length bytes
data_length (Winsize delay rows cols) = 0
data_length (Suspend delay signal) = 0

-- a sum as it is told: it stands still at the greatest number of 64 bits
abbrev pub told : ℕ → ℕ
told n = min n (2 ^ 64 - 1)

-- the sums over these logs, and over these records of a log that isn't counted yet
abbrev pub totals_with : List Stored → List Record → Totals
totals_with logs records = record {
  logs = told (length logs);
  records = told (sum_by (λ log. length log.records) logs + length records);
  bytes = told (sum_by (λ log. sum_by data_length log.records) logs + sum_by data_length records);
  elapsed = told (sum_by (λ log. elapsed log.records) logs + elapsed records);
  complete = told (count_by (λ log. is_some log.exit) logs);
}

-- the sums over these logs
abbrev pub totals_of : List Stored → Totals
totals_of logs = totals_with logs []

-- a line: a word, a space, a text and a line feed
abbrev pub line_of : List ℕ → List ℕ → List ℕ
line_of word text = word ++ 32 ∷ text ++ 10 ∷ []

abbrev pub line : String → List ℕ → List ℕ
line word text = line_of (codes word) text

-- the lines of these sums: the elapsed time in seconds, with nine digits after the point
abbrev pub lines_of : Totals → List ℕ
lines_of t = line "logs" (decimal t.logs) ++ line "records" (decimal t.records) ++ line "bytes" (decimal t.bytes) ++ line "elapsed" (seconds t.elapsed) ++ line "complete" (decimal t.complete)

-- the summary of these logs
abbrev pub summary : List Stored → List ℕ
summary logs = lines_of (totals_of logs)
