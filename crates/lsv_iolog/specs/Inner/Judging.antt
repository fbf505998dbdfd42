-- What lines of timing come to, against what an entry says.
use Rattle.std.specs.Prelude.{◌≡◌, ◌<◌, ◌≤◌, ◌^◌, ◌⊎◌, List, length, map, get_or}
use Rattle.lsv_defs.specs.Pieces.{piece}
use Rattle.lsv_disk.specs.declared.file.Part.{Part}
use Rattle.lsv_disk.specs.declared.file.Part.TheVariants.{Timing}
use Rattle.lsv_disk.specs.View.{DiskView}
use Rattle.lsv_bundle.specs.declared.body.Body.{Body}
use Rattle.lsv_bundle.specs.declared.view.View.{View}
use Rattle.lsv_bundle.specs.Body.{length_of}
use Rattle.lsv_record.specs.declared.records.Record.{Record}
use Rattle.lsv_record.specs.declared.records.Shaped.{Shaped}
use Rattle.lsv_record.specs.declared.records.Shaped.TheVariants.{Io, Winsize, Suspend}
use Rattle.lsv_record.specs.declared.records.Stream.{Stream}
use Rattle.lsv_record.specs.Layout.{Begins, IsLayout}
use Rattle.lsv_record.specs.Records.{event_of, shape_of, elapsed}
use Rattle.lsv_record.specs.Tally.{Totals, totals_of, told_count}
use Rattle.lsv_iolog.specs.declared.fault.ViewFault.{ViewFault}
use Rattle.lsv_iolog.specs.declared.fault.ViewFault.TheVariants as views
use Rattle.lsv_iolog.specs.Reading.{AreThere}
use Rattle.lsv_iolog.specs.Recovered.{part_of, laid_in}
use Rattle.lsv_iolog.specs.Inner.Scanning.{text_of, Scan, IsReading, IsFirstUncounted}

-- at the end of the lines: they are more or fewer or of another time, or else a stream is at fault
abbrev pub IsEndFault : Body → Totals → ViewFault → Type 0
IsEndFault body tally fault = ((fault ≡ views.Damaged Timing) × (body.count ≡ tally.count → body.elapsed ≡ tally.elapsed → ⊥))
    ⊎ ((body.count ≡ tally.count) × (body.elapsed ≡ tally.elapsed) × ((s : Stream) × (fault ≡ views.Damaged (part_of s)) × IsFirstUncounted body tally s))

-- the lines so far are no more, and of no more time, than the entry says
pub record IsWithin (body : Body) (tally : Totals) : Type 0 where
  pub count : tally.count ≤ body.count
  pub time : tally.elapsed ≤ body.elapsed
  pub in_time : tally.elapsed < 2 ^ 63

-- of a stream, of which this is the file, fewer bytes are committed than the lines tell with this one
pub record LacksIn (view : View) (before after : Totals) (told : Shaped) (disk : DiskView) (part : Part) : Type 0 where
  pub stream : Stream
  pub file : part ≡ part_of stream
  pub few : (length_of view.body (part_of stream) < get_or after.data_bytes (event_of stream) 0)
      ⊎ (length (piece (text_of view disk (part_of stream)) (get_or before.data_bytes (event_of stream) 0) (told_count stream told)) < told_count stream told)

-- with this line the entry commits as many bytes of its stream as the lines tell
abbrev pub HasData : Body → Totals → Shaped → Type 0
HasData body after (Io delay stream count) = get_or after.data_bytes (event_of stream) 0 ≤ length_of body (part_of stream)
HasData body after (Winsize delay rows cols) = Unit {0}
HasData body after (Suspend delay signal) = Unit {0}

-- the lines that were read are those of these records, with which the committed bytes begin
pub record IsBehindLines (lines : Scan) (records : List Record) (disk : DiskView) : Type 0 where
  pub begins : Begins (laid_in (text_of lines.view disk)) records
  pub given : lines.tally ≡ totals_of (map shape_of records)
  pub there : AreThere lines.view.owner lines.view.body disk.reads
  pub window : IsReading lines disk

-- the committed bytes are the layout of these records, as many and of as much time as the entry says
pub record AreWhole (view : View) (records : List Record) (disk : DiskView) : Type 0 where
  pub layout : IsLayout (laid_in (text_of view disk)) records
  pub count : view.body.count ≡ length records
  pub time : view.body.elapsed ≡ elapsed records

-- the lines where they came to this
abbrev pub back_to : Scan → Totals → Scan
back_to lines tally = record { view = lines.view; tally = tally; start = lines.start; window = lines.window }
