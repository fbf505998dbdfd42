-- What lines of timing come to: how long they are, how many, and which time and which data they tell.
use Rattle.std.specs.Prelude.{◌≡◌, ℕ, ◌+◌, ◌*◌, ◌^◌, ◌<◌, ◌≤◌, List, [], ◌∷◌, length, get_or, set, sum_by, ◌==◌, if◌then◌else◌}
use Rattle.std.specs.List.{flat_map}
use Rattle.lsv_record.specs.declared.records.Shaped.{Shaped}
use Rattle.lsv_record.specs.declared.records.Shaped.TheVariants.{Io, Winsize, Suspend}
use Rattle.lsv_record.specs.declared.records.Stream.{Stream}
use Rattle.lsv_record.specs.declared.records.Stream.TheVariants.{Stdin, Stdout, Stderr, Ttyin, Ttyout}
use Rattle.lsv_record.specs.Lines.{IsLineAt, told_delay}
use Rattle.lsv_record.specs.Records.{event_of, shaped_line}

-- these lines, one after another
abbrev pub lines_of : List Shaped → List ℕ
lines_of lines = flat_map shaped_line lines

-- how many bytes of a stream a line tells
abbrev pub told_count : Stream → Shaped → ℕ
told_count s (Io delay stream count) = if event_of s == event_of stream then count else 0
told_count s (Winsize delay rows cols) = 0
told_count s (Suspend delay signal) = 0

-- how many bytes of a stream these lines tell
abbrev pub told_data : Stream → List Shaped → ℕ
told_data s lines = sum_by (told_count s) lines

-- the nanoseconds that these lines tell
abbrev pub told_elapsed : List Shaped → ℕ
told_elapsed lines = sum_by told_delay lines

-- bytes of timing, number of lines, nanoseconds, and the bytes of each stream by the number of its event
pub record Totals : Type 0 where
  pub timing : ℕ
  pub count : ℕ
  pub elapsed : ℕ
  pub data_bytes : List ℕ

-- what these lines come to
abbrev pub totals_of : List Shaped → Totals
totals_of lines = record {
  timing = length (lines_of lines);
  count = length lines;
  elapsed = told_elapsed lines;
  data_bytes = told_data Stdin lines ∷ told_data Stdout lines ∷ told_data Stderr lines ∷ told_data Ttyin lines ∷ told_data Ttyout lines ∷ [];
}

-- the bytes of each stream with those that one line more tells
abbrev pub with_data : List ℕ → Shaped → List ℕ
with_data bytes (Io delay stream count) = set bytes (event_of stream) (get_or bytes (event_of stream) 0 + count)
with_data bytes (Winsize delay rows cols) = bytes
with_data bytes (Suspend delay signal) = bytes

-- what lines come to with one more
abbrev pub with_line : Totals → Shaped → Totals
with_line totals told = record {
  timing = totals.timing + length (shaped_line told);
  count = totals.count + 1;
  elapsed = totals.elapsed + told_delay told;
  data_bytes = with_data totals.data_bytes told;
}

-- no more lines than bytes of timing, a valid time, and at most 2 MiB of data a line
pub record IsBounded (totals : Totals) : Type 0 where
  pub lines : totals.count ≤ totals.timing
  pub time : totals.elapsed < 2 ^ 63
  pub streams : length totals.data_bytes ≡ 5
  pub sizes : (k : ℕ) → get_or totals.data_bytes k 0 ≤ 2097152 * totals.count

-- with the line after these totals the elapsed time reaches 2 ^ 63 ns
pub record PassesTime (text : List ℕ) (totals : Totals) : Type 0 where
  pub told : Shaped
  pub next : ℕ
  pub stands : IsLineAt text totals.timing told next
  pub late : 2 ^ 63 ≤ totals.elapsed + told_delay told
