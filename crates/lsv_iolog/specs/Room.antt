-- Which file of a log would pass 2^40 bytes with a record.
use Rattle.std.specs.Prelude.{◌≡◌, ◌⊎◌, length}
use Rattle.lsv_disk.specs.declared.file.Part.{Part}
use Rattle.lsv_disk.specs.declared.file.Part.TheVariants.{Timing}
use Rattle.lsv_bundle.specs.Calls.{IsFull}
use Rattle.lsv_bundle.specs.Value.{BundleView}
use Rattle.lsv_record.specs.declared.records.Record.{Record}
use Rattle.lsv_record.specs.declared.records.Record.TheVariants.{Io, Winsize, Suspend}
use Rattle.lsv_record.specs.Records.{line_of}
use Rattle.lsv_iolog.specs.Recovered.{part_of}

-- the timing would, with the record's line
abbrev pub IsTimingFull : BundleView → Record → Type 0
IsTimingFull files r = IsFull files Timing (length (line_of r))

-- this part is the record's stream, which would with its data
abbrev pub IsDataFull : BundleView → Record → Part → Type 0
IsDataFull files (Io delay stream bytes) part = (part ≡ part_of stream) × IsFull files (part_of stream) (length bytes)
IsDataFull files (Winsize delay rows cols) part = ⊥
IsDataFull files (Suspend delay signal) part = ⊥

-- this part is the first that would: the timing, or else the stream
abbrev pub IsFullOf : BundleView → Record → Part → Type 0
IsFullOf files r part = ((part ≡ Timing) × IsTimingFull files r) ⊎ ((IsTimingFull files r → ⊥) × IsDataFull files r part)

-- none would
abbrev pub IsRoomFor : BundleView → Record → Type 0
IsRoomFor files r = (part : Part) → IsFullOf files r part → ⊥
