-- Records of a session, and their layout (sudoers I/O log format): lines of timing, and the data of each stream.
use Rattle.std.specs.Prelude.{ℕ, zero, suc, ◌+◌, ◌/◌, ◌%◌, ◌^◌, ◌<◌, ◌≤◌, List, [], ◌∷◌, ◌++◌, length, All, Bool, nat_lt, nat_le, ◌&&◌, ◌==◌, if◌then◌else◌}
use Rattle.std.specs.List.{flat_map, list_all}
use Rattle.std.specs.Fmt.{decimal}
use Rattle.lsv_record.specs.declared.records.Stream.{Stream}
use Rattle.lsv_record.specs.declared.records.Stream.TheVariants.{Stdin, Stdout, Stderr, Ttyin, Ttyout}
use Rattle.lsv_record.specs.declared.records.Record.{Record}
use Rattle.lsv_record.specs.declared.records.Record.TheVariants.{Io, Winsize, Suspend}
use Rattle.lsv_record.specs.declared.records.Shaped.{Shaped}
use Rattle.lsv_record.specs.declared.records.Shaped.TheVariants as shapes

-- exactly this many digits of a number, the last ones, the most significant first
unfoldable pub last_digits : ℕ → ℕ → List ℕ
last_digits zero n = []
last_digits (suc k) n = last_digits k (n / 10) ++ (48 + n % 10) ∷ []

-- nanoseconds as seconds, with nine digits after the point
abbrev pub seconds : ℕ → List ℕ
seconds nanos = decimal (nanos / 1000000000) ++ 46 ∷ last_digits 9 (nanos % 1000000000)

-- the number of a stream's event
abbrev pub event_of : Stream → ℕ
event_of Stdin = 0
event_of Stdout = 1
event_of Stderr = 2
event_of Ttyin = 3
event_of Ttyout = 4

-- a line of timing without its line feed: the event, the delay, and the rest
abbrev pub fields_of : ℕ → ℕ → List ℕ → List ℕ
fields_of event delay rest = (48 + event) ∷ 32 ∷ seconds delay ++ 32 ∷ rest

-- what a line tells, without its line feed: a byte count, rows and columns, or a signal's name
abbrev pub text_of : Shaped → List ℕ
text_of (shapes.Io delay stream count) = fields_of (event_of stream) delay (decimal count)
text_of (shapes.Winsize delay rows cols) = fields_of 5 delay (decimal rows ++ 32 ∷ decimal cols)
text_of (shapes.Suspend delay signal) = fields_of 7 delay signal

-- the line of timing that tells it
abbrev pub shaped_line : Shaped → List ℕ
shaped_line s = text_of s ++ 10 ∷ []

-- what the line of a record tells of it: all but its data, of which it has the length
abbrev pub shape_of : Record → Shaped
shape_of (Io delay stream bytes) = shapes.Io delay stream (length bytes)
shape_of (Winsize delay rows cols) = shapes.Winsize delay rows cols
shape_of (Suspend delay signal) = shapes.Suspend delay signal

-- the line of timing of a record
abbrev pub line_of : Record → List ℕ
line_of r = shaped_line (shape_of r)

-- the nanoseconds since the record before
abbrev pub delay_of : Record → ℕ
delay_of (Io delay stream bytes) = delay
delay_of (Winsize delay rows cols) = delay
delay_of (Suspend delay signal) = delay

-- the data of a record that is of this stream, else none
abbrev pub data_in : Stream → Record → List ℕ
data_in s (Io delay stream bytes) = if event_of s == event_of stream then bytes else []
data_in s (Winsize delay rows cols) = []
data_in s (Suspend delay signal) = []

-- the text timing of these records
abbrev pub timing_of : List Record → List ℕ
timing_of records = flat_map line_of records

-- the data of one stream of these records
abbrev pub stream_of : Stream → List Record → List ℕ
stream_of s records = flat_map (data_in s) records

-- the nanoseconds from the start of the log to the last of these records
abbrev pub elapsed : List Record → ℕ
elapsed [] = 0
elapsed (r ∷ records) = delay_of r + elapsed records

-- a signal's name: 1 to 32 visible bytes
pub record IsSignal (text : List ℕ) : Type 0 where
  pub some : 1 ≤ length text
  pub few : length text ≤ 32
  pub visible : All (λ byte. (33 ≤ byte) × (byte ≤ 126)) text

-- whether a text is a signal's name
abbrev pub is_signal : List ℕ → Bool
is_signal text = nat_le 1 (length text) && nat_le (length text) 32 && list_all (λ byte. nat_le 33 byte && nat_le byte 126) text

-- a line may tell this: delays below 2 ^ 63 ns, at most 2 MiB of data, windows below 2 ^ 31 each way
abbrev pub IsGood : Shaped → Type 0
IsGood (shapes.Io delay stream count) = (delay < 2 ^ 63) × (count ≤ 2097152)
IsGood (shapes.Winsize delay rows cols) = (delay < 2 ^ 63) × (rows < 2 ^ 31) × (cols < 2 ^ 31)
IsGood (shapes.Suspend delay signal) = (delay < 2 ^ 63) × IsSignal signal

-- a valid record
abbrev pub IsValid : Record → Type 0
IsValid r = IsGood (shape_of r)

-- whether a record is valid
abbrev pub is_valid : Record → Bool
is_valid (Io delay stream bytes) = nat_lt delay (2 ^ 63) && nat_le (length bytes) 2097152
is_valid (Winsize delay rows cols) = nat_lt delay (2 ^ 63) && nat_lt rows (2 ^ 31) && nat_lt cols (2 ^ 31)
is_valid (Suspend delay signal) = nat_lt delay (2 ^ 63) && is_signal signal
