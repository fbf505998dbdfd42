-- What an image of the disk holds of a log: it is absent, or a stored log is there, or neither, and then it is damaged.
use Rattle.std.specs.Prelude.{◌≡◌, ◌≢◌, ◌⊎◌, ℕ, ◌<◌, ◌≤◌, ◌^◌, List, [], length, All, Option, Some, None, Ok}
use Rattle.lsv_disk.specs.declared.file.FileId.{FileId}
use Rattle.lsv_disk.specs.declared.file.Owner.{Owner}
use Rattle.lsv_disk.specs.declared.file.Owner.TheVariants as owners
use Rattle.lsv_disk.specs.declared.file.Part.{Part}
use Rattle.lsv_disk.specs.declared.file.Part.TheVariants.{Head, Exit, Timing, Stdin, Stdout, Stderr, Ttyin, Ttyout}
use Rattle.lsv_disk.specs.View.{Image, DiskView, Only}
use Rattle.lsv_bundle.specs.declared.shape.Shape.TheVariants as shapes
use Rattle.lsv_bundle.specs.Committed.{Committed, HoldsEntry, BundleHolds}
use Rattle.lsv_info.specs.declared.times.Head as info
use Rattle.lsv_info.specs.Reading.{head_of}
use Rattle.lsv_record.specs.declared.laid.Laid.{Laid}
use Rattle.lsv_record.specs.declared.records.Stream.{Stream}
use Rattle.lsv_record.specs.declared.records.Stream.TheVariants as streams
use Rattle.lsv_record.specs.Layout.{layout_of}
use Rattle.lsv_record.specs.Points.{Stored}
use Rattle.lsv_record.specs.Records.{IsValid, elapsed}

-- the owner of a log's files
abbrev pub owner_of : ℕ → Owner
owner_of n = owners.Log n

-- the file is one of the log's
abbrev pub IsOfLog : ℕ → FileId → Type 0
IsOfLog n file = file.owner ≡ owner_of n

-- the file of a stream
abbrev pub part_of : Stream → Part
part_of streams.Stdin = Stdin
part_of streams.Stdout = Stdout
part_of streams.Stderr = Stderr
part_of streams.Ttyin = Ttyin
part_of streams.Ttyout = Ttyout

-- the timing and the streams among the bytes of a log's files
abbrev pub laid_in : (Part → List ℕ) → Laid
laid_in bytes = record {
  timing = bytes Timing;
  stdin = bytes Stdin;
  stdout = bytes Stdout;
  stderr = bytes Stderr;
  ttyin = bytes Ttyin;
  ttyout = bytes Ttyout;
}

-- the text is that of a head
abbrev pub IsHeadText : List ℕ → Type 0
IsHeadText text = (head : info.Head) × (head_of text ≡ Ok head)

-- there is a text of an exit exactly where the entry is of kind 3
abbrev pub HasExit : ℕ → List ℕ → Option (List ℕ) → Type 0
HasExit kind bytes None = (kind ≢ 3) × (bytes ≡ [])
HasExit kind bytes (Some text) = (kind ≡ 3) × (bytes ≡ text) × (text ≢ [])

-- this is the log that an entry commits: its bytes are the log's texts, and its numbers the log's
pub record IsLog (entry : Committed) (log : Stored) : Type 0 where
  pub head : entry.bytes Head ≡ log.head
  pub is_head : IsHeadText log.head
  pub exit : HasExit entry.body.kind (entry.bytes Exit) log.exit
  pub valid : All IsValid log.records
  pub layout : laid_in entry.bytes ≡ layout_of log.records
  pub count : entry.body.count ≡ length log.records
  pub time : entry.body.elapsed ≡ elapsed log.records
  pub in_time : elapsed log.records < 2 ^ 63
  -- no file of a log has more bytes
  pub small : length (entry.bytes Timing) ≤ 2 ^ 40
  pub cuts : entry.body.extra ≡ log.cuts

-- the log's last entry, with the bytes that it commits, is this log
pub record HoldsLog (n : ℕ) (log : Stored) (image : Image) : Type 0 where
  pub entry : Committed
  pub holds : HoldsEntry (owner_of n) shapes.Log entry image
  pub is : IsLog entry log

-- what the log of this number is in an image: nothing where its journal has no entry, or a stored log
abbrev pub Replays : Image → ℕ → Option Stored → Type 0
Replays image n None = BundleHolds (owner_of n) shapes.Log None image
Replays image n (Some log) = HoldsLog n log image

-- it is damaged: neither nothing nor a stored log is there
abbrev pub ReplaysNothing : Image → ℕ → Type 0
ReplaysNothing image n = (found : Option Stored) → Replays image n found → ⊥

-- which of the three holds
abbrev pub Decided : Image → ℕ → Type 0
Decided image n = Replays image n None ⊎ ((log : Stored) × Replays image n (Some log)) ⊎ ReplaysNothing image n

-- two images agree on the files of the log
abbrev pub SameFiles : ℕ → Image → Image → Type 0
SameFiles n a b = (file : FileId) → IsOfLog n file → b file ≡ a file

-- two images hold the same of the log
pub record SameLog (n : ℕ) (a b : Image) : Type 0 where
  pub forth : (found : Option Stored) → Replays a n found → Replays b n found
  pub back : (found : Option Stored) → Replays b n found → Replays a n found

-- none of the log's files is there, nor does a crash leave one
abbrev pub IsUnmade : ℕ → DiskView → Type 0
IsUnmade n disk = (file : FileId) → IsOfLog n file → Only None (disk.crash_states file)
