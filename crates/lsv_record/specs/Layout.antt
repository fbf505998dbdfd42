-- The layout of records in the files of a log, and what a layout is read as.
use Rattle.std.specs.Prelude.{◌≡◌, ℕ, ◌+◌, ◌^◌, ◌<◌, ◌≤◌, List, length, All}
use Rattle.lsv_defs.specs.Pieces.{IsPrefix}
use Rattle.lsv_record.specs.declared.laid.Laid.{Laid}
use Rattle.lsv_record.specs.declared.log.LayFault.{LayFault}
use Rattle.lsv_record.specs.declared.log.LayFault.TheVariants as faults
use Rattle.lsv_record.specs.declared.records.Stream.{Stream}
use Rattle.lsv_record.specs.declared.records.Stream.TheVariants.{Stdin, Stdout, Stderr, Ttyin, Ttyout}
use Rattle.lsv_record.specs.declared.records.Record.{Record}
use Rattle.lsv_record.specs.declared.records.Shaped.{Shaped}
use Rattle.lsv_record.specs.declared.records.Shaped.TheVariants.{Io, Winsize, Suspend}
use Rattle.lsv_record.specs.Lines.{IsLineAt, IsBadAt, told_delay}
use Rattle.lsv_record.specs.Records.{IsValid, timing_of, stream_of, elapsed}

-- the bytes of one stream
abbrev pub stream_in : Stream → Laid → List ℕ
stream_in Stdin l = l.stdin
stream_in Stdout l = l.stdout
stream_in Stderr l = l.stderr
stream_in Ttyin l = l.ttyin
stream_in Ttyout l = l.ttyout

-- the layout of these records: the text timing, and each stream
abbrev pub layout_of : List Record → Laid
layout_of records = record {
  timing = timing_of records;
  stdin = stream_of Stdin records;
  stdout = stream_of Stdout records;
  stderr = stream_of Stderr records;
  ttyin = stream_of Ttyin records;
  ttyout = stream_of Ttyout records;
}

-- the layout of these records, said of its texts one by one
pub record IsLayout (l : Laid) (records : List Record) : Type 0 where
  pub timing : l.timing ≡ timing_of records
  pub streams : (s : Stream) → stream_in s l ≡ stream_of s records

-- Records whose layout is a prefix of the timing and of each stream.
pub record Begins (l : Laid) (records : List Record) : Type 0 where
  pub valid : All IsValid records
  pub time : elapsed records < 2 ^ 63
  pub timing : IsPrefix (timing_of records) l.timing
  pub streams : (s : Stream) → IsPrefix (stream_of s records) (stream_in s l)

-- Records whose layout is the whole timing, and a prefix of each stream.
pub record IsRead (l : Laid) (records : List Record) : Type 0 where
  pub begins : Begins l records
  pub whole : l.timing ≡ timing_of records

-- the line after these records
abbrev pub NextLine : Laid → List Record → Shaped → Type 0
NextLine l records told = (next : ℕ) × IsLineAt l.timing (length (timing_of records)) told next

-- With this line the elapsed time stays below 2 ^ 63 ns, and this stream lacks the data that the line tells.
abbrev pub IsShort : Laid → List Record → Shaped → Stream → Type 0
IsShort l records (Io delay stream count) s = (s ≡ stream) × (elapsed records + delay < 2 ^ 63) × (length (stream_in stream l) < length (stream_of stream records) + count)
IsShort l records (Winsize delay rows cols) s = ⊥
IsShort l records (Suspend delay signal) s = ⊥

-- what is at fault with the line after these records
abbrev pub IsRefused : Laid → List Record → Shaped → LayFault → Type 0
IsRefused l records told (faults.BadLine offset) = ⊥
IsRefused l records told (faults.Short stream) = IsShort l records told stream
IsRefused l records told faults.TooLong = 2 ^ 63 ≤ elapsed records + told_delay told
IsRefused l records told faults.NoMem = ⊥

-- what is at fault after these records: no line stands there, or a line is refused
abbrev pub IsFaulty : Laid → List Record → LayFault → Type 0
IsFaulty l records (faults.BadLine offset) = (offset ≡ length (timing_of records)) × IsBadAt l.timing offset
IsFaulty l records (faults.Short stream) = (told : Shaped) × NextLine l records told × IsRefused l records told (faults.Short stream)
IsFaulty l records faults.TooLong = (told : Shaped) × NextLine l records told × IsRefused l records told faults.TooLong
IsFaulty l records faults.NoMem = ⊥

-- the first fault: what stands before it is read
abbrev pub Fails : Laid → LayFault → Type 0
Fails l fault = (records : List Record) × Begins l records × IsFaulty l records fault
