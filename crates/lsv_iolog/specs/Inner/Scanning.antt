-- Lines of timing that are read through windows.
use Rattle.std.specs.Prelude.{◌≡◌, ◌≢◌, ℕ, ◌+◌, ◌<◌, ◌≤◌, ◌^◌, ◌⊎◌, List, [], ◌∷◌, length, get_or, All}
use Rattle.lsv_disk.specs.declared.file.Part.TheVariants.{Exit, Timing}
use Rattle.lsv_disk.specs.declared.file.Part.{Part}
use Rattle.lsv_disk.specs.Files.{file_of}
use Rattle.lsv_disk.specs.declared.file.FileId.{FileId}
use Rattle.lsv_disk.specs.Throughout.{OnlyReads}
use Rattle.lsv_disk.specs.View.{DiskView}
use Rattle.lsv_bundle.specs.declared.shape.Shape.TheVariants as shapes
use Rattle.lsv_bundle.specs.declared.view.View.{View}
use Rattle.lsv_defs.specs.Pieces.{IsPrefix}
use Rattle.lsv_bundle.specs.declared.body.Body.{Body}
use Rattle.lsv_record.specs.declared.records.Stream.{Stream}
use Rattle.lsv_record.specs.declared.records.Stream.TheVariants as stream
use Rattle.lsv_bundle.specs.Shape.{IsPart, on_shape}
use Rattle.lsv_bundle.specs.Body.{length_of}
use Rattle.lsv_bundle.specs.Committed.{Committed, prefix_at}
use Rattle.lsv_record.specs.declared.records.Shaped.{Shaped}
use Rattle.lsv_record.specs.Lines.{IsBadAt}
use Rattle.lsv_record.specs.Records.{IsGood, event_of}
use Rattle.lsv_record.specs.Tally.{Totals, lines_of, told_elapsed, totals_of, PassesTime}
use Rattle.lsv_iolog.specs.Recovered.{owner_of, part_of}
use Rattle.lsv_iolog.specs.Reading.{IsWindowOf}

-- the bytes of a part that a view's entry commits, as the disk reads
abbrev pub text_of : View → DiskView → Part → List ℕ
text_of view disk part = prefix_at disk (file_of view.owner part) (length_of view.body part)

-- the entry of a view with the bytes that it commits, as the disk reads
abbrev pub entry_of : View → DiskView → Committed
entry_of view disk = record { body = view.body; bytes = on_shape view.shape (text_of view disk) }

-- lines of a view that are read: what the lines so far come to, and a window of the timing
pub record Scan : Type 0 where
  pub view : View
  pub tally : Totals
  pub start : ℕ
  pub window : List ℕ

-- the window is one of the committed timing
abbrev pub IsReading : Scan → DiskView → Type 0
IsReading scan disk = IsWindowOf (text_of scan.view disk Timing) scan.start scan.window scan.tally.timing

-- the next line begins in the window or at its end, and the window lies within the timing and is no longer than one that is read at once
pub record IsInOrder (scan : Scan) : Type 0 where
  pub before : scan.start ≤ scan.tally.timing
  pub after : scan.tally.timing ≤ scan.start + length scan.window
  pub within : scan.start + length scan.window ≤ length_of scan.view.body Timing
  pub little : length scan.window ≤ 65536
  pub shape : scan.view.shape ≡ shapes.Log

-- the window is as it was
pub record IsSameWindow (old new : Scan) : Type 0 where
  pub start : new.start ≡ old.start
  pub window : new.window ≡ old.window

-- the timing has more bytes than a file may have, or no line stands there, or the elapsed time reaches 2 ^ 63 ns with it
abbrev pub IsBadLine : List ℕ → Totals → Type 0
IsBadLine text tally = (2 ^ 40 < length text) ⊎ IsBadAt text tally.timing ⊎ PassesTime text tally

-- the files hold as many bytes as the entry of the view says
abbrev pub IsWholeView : View → DiskView → Type 0
IsWholeView view disk = (part : Part) → IsPart shapes.Log part → length (text_of view disk part) ≡ length_of view.body part

-- the whole timing is these lines, which come to this
pub record IsScanned (view : View) (disk : DiskView) (told : List Shaped) (tally : Totals) : Type 0 where
  pub good : All IsGood told
  pub text : text_of view disk Timing ≡ lines_of told
  pub totals : tally ≡ totals_of told
  pub in_time : told_elapsed told < 2 ^ 63

-- the lines so far, with which the text begins, come to this
pub record HasScanned (text : List ℕ) (tally : Totals) : Type 0 where
  pub told : List Shaped
  pub good : All IsGood told
  pub begins : IsPrefix (lines_of told) text
  pub totals : tally ≡ totals_of told

-- a text of an exit is committed exactly where the log is complete
pub record ExitIsWhole (body : Body) : Type 0 where
  pub some : body.kind ≡ 3 → length_of body Exit ≢ 0
  pub none : body.kind ≢ 3 → length_of body Exit ≡ 0

-- as many bytes of the stream are committed as the lines tell
abbrev pub IsCounted : Body → Totals → Stream → Type 0
IsCounted body tally s = length_of body (part_of s) ≡ get_or tally.data_bytes (event_of s) 0

abbrev pub AllCounted : Body → Totals → Type 0
AllCounted body tally = (s : Stream) → IsCounted body tally s

-- the streams that are judged before this one
abbrev pub streams_before : Stream → List Stream
streams_before stream.Stdin = []
streams_before stream.Stdout = stream.Stdin ∷ []
streams_before stream.Stderr = stream.Stdin ∷ stream.Stdout ∷ []
streams_before stream.Ttyin = stream.Stdin ∷ stream.Stdout ∷ stream.Stderr ∷ []
streams_before stream.Ttyout = stream.Stdin ∷ stream.Stdout ∷ stream.Stderr ∷ stream.Ttyin ∷ []

abbrev pub EachCounted : Body → Totals → List Stream → Type 0
EachCounted body tally [] = Unit {0}
EachCounted body tally (s ∷ rest) = IsCounted body tally s × EachCounted body tally rest

-- it is the first of which that isn't so
abbrev pub IsFirstUncounted : Body → Totals → Stream → Type 0
IsFirstUncounted body tally s = EachCounted body tally (streams_before s) × (IsCounted body tally s → ⊥)

-- a loop over the lines of a view: it only read, and stands after lines with which the timing begins
pub record IsScanning (tells : Type 0) (view : View) (old now : DiskView) (scan : Scan) : Type 0 where
  pub view_is : scan.view ≡ view
  pub reads : tells → OnlyReads old now
  pub faults : (f : FileId) → old.faults f ≤ now.faults f
  pub scanned : tells → HasScanned (text_of view old Timing) scan.tally
  pub reading : tells → IsReading scan now

-- a view of the log of this number
pub record IsViewOf (n : ℕ) (view : View) : Type 0 where
  pub owner : view.owner ≡ owner_of n
  pub shape : view.shape ≡ shapes.Log
