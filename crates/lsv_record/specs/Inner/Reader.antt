-- How far the layout of a log has been read.
use Rattle.std.specs.Prelude.{◌≡◌, ◌+◌, ◌^◌, ◌<◌, ◌++◌, length, get_or}
use Rattle.lsv_defs.specs.Pieces.{IsPrefix}
use Rattle.lsv_record.specs.declared.laid.Laid.{Laid}
use Rattle.lsv_record.specs.declared.log.Reader.{Reader}
use Rattle.lsv_record.specs.declared.records.Record.{Record}
use Rattle.lsv_record.specs.declared.records.Shaped.{Shaped}
use Rattle.lsv_record.specs.declared.records.Stream.{Stream}
use Rattle.lsv_record.specs.Records.{timing_of, stream_of, elapsed, event_of, shape_of, delay_of, data_in}
use Rattle.lsv_record.specs.Layout.{Begins, stream_in}

-- The reader stands after its records, with which the layout begins.
pub record IsBehind (l : Laid) (reader : Reader) : Type 0 where
  pub begins : Begins l reader.records
  pub offset : reader.at ≡ length (timing_of reader.records)
  pub time : reader.elapsed ≡ elapsed reader.records
  pub five : length reader.taken ≡ 5
  pub taken : (s : Stream) → get_or reader.taken (event_of s) 0 ≡ length (stream_of s reader.records)

-- The reader took the delay and the data of a record that the line tells, and has the record yet to keep.
pub record IsTaken (l : Laid) (told : Shaped) (old new : Reader) (r : Record) : Type 0 where
  pub shape : shape_of r ≡ told
  pub records : new.records ≡ old.records
  pub offset : new.at ≡ old.at
  pub time : new.elapsed ≡ old.elapsed + delay_of r
  pub in_time : new.elapsed < 2 ^ 63
  pub five : length new.taken ≡ 5
  pub taken : (s : Stream) → get_or new.taken (event_of s) 0 ≡ get_or old.taken (event_of s) 0 + length (data_in s r)
  pub fits : (s : Stream) → IsPrefix (stream_of s old.records ++ data_in s r) (stream_in s l)
