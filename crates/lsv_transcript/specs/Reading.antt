-- What was read of a log for its messages.
use Rattle.std.specs.Prelude.{◌≡◌, ◌⊎◌, ◌<◌, ◌≤◌, ℕ, Bool, true, false, List, [], ◌++◌, length, map, take, sum_by, Some, None}
use Rattle.lsv_bundle.specs.declared.body.Body.{Body}
use Rattle.lsv_disk.specs.View.{DiskView}
use Rattle.lsv_disk.specs.declared.file.Part.{Part}
use Rattle.lsv_iolog.specs.Reading.{IsBehind, IsFaultBehind, IsWhole, ViewState}
use Rattle.lsv_record.specs.Layout.{Begins}
use Rattle.lsv_record.specs.Points.{first}
use Rattle.lsv_record.specs.declared.laid.Laid.{Laid}
use Rattle.lsv_record.specs.Records.{elapsed}
use Rattle.lsv_record.specs.declared.records.Record.{Record}
use Rattle.lsv_record.specs.declared.records.Record.TheVariants.{Io, Winsize, Suspend}
use Rattle.lsv_request.specs.Stored.{record_message}
use Rattle.lsv_transcript.specs.declared.messages.Batch.{Batch}

-- the records end at the point, and no part of them does; or no record of the log ends there
abbrev pub Passes : Bool → (view : ViewState) (disk : DiskView) (records : List Record) (point : ℕ) → Type 0
Passes true view disk records point = first records point ≡ Some (length records)
Passes false view disk records point = ((more : List Record) → first (records ++ more) point ≡ None) ⊎ ((first records point ≡ None) × IsWhole view records disk)

-- a log was read through the first record that ends at a point; or no record of it ends there
pub record HasPassed (found : Bool) (view : ViewState) (disk : DiskView) (point : ℕ) : Type 0 where
  -- those that were read
  pub records : List Record
  pub behind : IsBehind view records disk
  pub passes : Passes found view disk records point

-- the bytes of data that a record brings
abbrev pub size_of : Record → ℕ
size_of (Io delay stream bytes) = length bytes
size_of (Winsize delay rows cols) = 0
size_of (Suspend delay signal) = length signal

-- each prefix of these records, short of all of them, has at most 64 KiB of data
abbrev pub ArePiece : List Record → Type 0
ArePiece records = (n : ℕ) → n < length records → sum_by size_of (take n records) ≤ 65536

-- the messages of the next records of a log, after these; there are none only at the log's end, or if none may be given
pub record GivesNext (view : ViewState) (disk : DiskView) (records : List Record) (batch : Batch) (most : ℕ) : Type 0 where
  -- the next records
  pub more : List Record
  pub behind : IsBehind view (records ++ more) disk
  pub messages_are : batch.messages ≡ map record_message more
  pub elapsed_is : batch.elapsed ≡ elapsed more
  pub piece : ArePiece more
  pub end : batch.messages ≡ [] → (most ≡ 0) ⊎ IsWhole view records disk

-- the committed bytes begin with the layout of some records, and after it this part is at fault
pub record HasFaultAfter (l : Laid) (body : Body) (part : Part) : Type 0 where
  pub records : List Record
  pub begins : Begins l records
  pub fault : IsFaultBehind l body records part
