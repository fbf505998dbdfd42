-- A log that is read record by record, by what its files read as.
use Rattle.std.specs.Prelude.{◌≡◌, ◌==◌, ℕ, ◌+◌, ◌<◌, ◌≤◌, ◌^◌, ◌⊎◌, Bool, List, [], ◌∷◌, length, map}
use Rattle.lsv_defs.specs.Pieces.{piece}
use Rattle.lsv_disk.specs.Files.{file_of}
use Rattle.lsv_disk.specs.declared.file.Owner.{Owner}
use Rattle.lsv_disk.specs.declared.file.Part.{Part}
use Rattle.lsv_disk.specs.declared.file.Part.TheVariants.{Head, Exit, Timing, Stdin, Stdout, Stderr, Ttyin, Ttyout, Lines, Id, Commit, Slots}
use Rattle.lsv_disk.specs.View.{Image, DiskView}
use Rattle.lsv_bundle.specs.declared.body.Body.{Body}
use Rattle.lsv_bundle.specs.declared.shape.Shape.TheVariants as shapes
use Rattle.lsv_bundle.specs.Body.{length_of}
use Rattle.lsv_bundle.specs.Committed.{HasEntry, IsShort, prefix_at}
use Rattle.lsv_bundle.specs.Shape.{IsPart}
use Rattle.lsv_info.specs.declared.times.Head as info
use Rattle.lsv_record.specs.declared.laid.Laid.{Laid}
use Rattle.lsv_record.specs.declared.records.Record.{Record}
use Rattle.lsv_record.specs.declared.records.Shaped.{Shaped}
use Rattle.lsv_record.specs.declared.records.Stream.{Stream}
use Rattle.lsv_record.specs.declared.records.Stream.TheVariants as streams
use Rattle.lsv_record.specs.Layout.{Begins, NextLine, IsLayout, stream_in}
use Rattle.lsv_record.specs.Lines.{IsBadAt, told_delay}
use Rattle.lsv_record.specs.Records.{timing_of, stream_of, shape_of, elapsed}
use Rattle.lsv_record.specs.Tally.{Totals, totals_of, told_count}
use Rattle.lsv_iolog.specs.Recovered.{owner_of, laid_in}

-- a log that is read: its last entry, what its records so far come to, and a window of its timing
pub record ViewState : Type 0 where
  pub number : ℕ
  pub head : info.Head
  -- what the last entry says
  pub body : Body
  -- what the records that were given come to
  pub given : Totals
  -- bytes of timing, and the offset at which they begin
  pub start : ℕ
  pub window : List ℕ

-- the last entry is that of a complete log
abbrev pub is_over : ViewState → Bool
is_over view = view.body.kind == 3

-- of the timing no more is held than 65,536 bytes
abbrev pub HoldsLittle : ViewState → Type 0
HoldsLittle view = length view.window ≤ 65536

-- the bytes of a part that the entry of a log commits, as the disk reads
abbrev pub committed_text : ℕ → Body → DiskView → Part → List ℕ
committed_text n body disk part = prefix_at disk (file_of (owner_of n) part) (length_of body part)

-- and the layout of them
abbrev pub committed_laid : ℕ → Body → DiskView → Laid
committed_laid n body disk = laid_in (committed_text n body disk)

-- each data file of a log is there, and has as many bytes as the entry says
abbrev pub AreThere : Owner → Body → Image → Type 0
AreThere owner body image = (part : Part) → IsPart shapes.Log part → IsShort (image (file_of owner part)) (length_of body part) → ⊥

-- the window is one of this text, and the next line begins in it or at its end
pub record IsWindowOf (text : List ℕ) (start : ℕ) (window : List ℕ) (next : ℕ) : Type 0 where
  pub bytes : window ≡ piece text start (length window)
  pub within : start + length window ≤ length text
  pub before : start ≤ next
  pub after : next ≤ start + length window

-- the view stands after these records: the committed bytes, which are there, begin with their layout
pub record IsBehind (view : ViewState) (records : List Record) (disk : DiskView) : Type 0 where
  pub begins : Begins (committed_laid view.number view.body disk) records
  pub given : view.given ≡ totals_of (map shape_of records)
  pub there : AreThere (owner_of view.number) view.body disk.reads
  pub window : IsWindowOf (committed_text view.number view.body disk Timing) view.start view.window view.given.timing

-- each data file is there and as long as the entry says, and the next line begins in the window or at its end
pub record IsPlaced (view : ViewState) (disk : DiskView) : Type 0 where
  pub there : AreThere (owner_of view.number) view.body disk.reads
  pub window : IsWindowOf (committed_text view.number view.body disk Timing) view.start view.window view.given.timing

-- the committed bytes are the layout of these records, as many and of as much time as the entry says
pub record IsWhole (view : ViewState) (records : List Record) (disk : DiskView) : Type 0 where
  pub layout : IsLayout (committed_laid view.number view.body disk) records
  pub count : view.body.count ≡ length records
  pub time : view.body.elapsed ≡ elapsed records

-- the log's last entry counts this many cuts
abbrev pub HasCuts : ℕ → ℕ → Image → Type 0
HasCuts n cuts image = (body : Body) × HasEntry (owner_of n) body image × (cuts ≡ body.extra)

-- the log was cut as often as before, and yet its last entry commits fewer bytes of timing than were given
pub record HasShrunk (view : ViewState) (image : Image) : Type 0 where
  pub body : Body
  pub entry : HasEntry (owner_of view.number) body image
  pub cuts : body.extra ≡ view.body.extra
  pub fewer : length_of body Timing < view.given.timing

-- the line after these records goes on as the entry says: it is among its count, and within its elapsed time
pub record GoesOn (body : Body) (records : List Record) (told : Shaped) : Type 0 where
  pub count : length records < body.count
  pub time : elapsed records + told_delay told ≤ body.elapsed
  pub in_time : elapsed records + told_delay told < 2 ^ 63

-- the lines end with these records, as the entry says
pub record EndsThere (l : Laid) (body : Body) (records : List Record) : Type 0 where
  pub timing : l.timing ≡ timing_of records
  pub count : body.count ≡ length records
  pub time : body.elapsed ≡ elapsed records

-- of the next line's stream too few bytes are committed
abbrev pub LacksData : Laid → Body → List Record → Stream → Type 0
LacksData l body records s = (told : Shaped) × NextLine l records told × GoesOn body records told
    × (length (stream_in s l) < length (stream_of s records) + told_count s told)

-- of these streams as many bytes are committed as the records have
abbrev pub AllUsed : Laid → List Record → List Stream → Type 0
AllUsed l records [] = Unit {0}
AllUsed l records (s ∷ rest) = (length (stream_in s l) ≡ length (stream_of s records)) × AllUsed l records rest

-- at the end of the lines this is the first stream with bytes left over
pub record IsLeftOver (l : Laid) (body : Body) (records : List Record) (before : List Stream) (s : Stream) : Type 0 where
  pub ends : EndsThere l body records
  pub used : AllUsed l records before
  pub left : length (stream_of s records) < length (stream_in s l)

abbrev pub IsStreamFault : Laid → Body → List Record → List Stream → Stream → Type 0
IsStreamFault l body records before s = LacksData l body records s ⊎ IsLeftOver l body records before s

-- no line stands after these records, or the lines go on or end otherwise than the entry says
abbrev pub IsTimingFault : Laid → Body → List Record → Type 0
IsTimingFault l body records = IsBadAt l.timing (length (timing_of records))
    ⊎ ((told : Shaped) × NextLine l records told × (GoesOn body records told → ⊥))
    ⊎ ((l.timing ≡ timing_of records) × (EndsThere l body records → ⊥))
    ⊎ (2 ^ 40 < length l.timing)

-- what is at fault after these records
abbrev pub IsFaultBehind : Laid → Body → List Record → Part → Type 0
IsFaultBehind l body records Timing = IsTimingFault l body records
IsFaultBehind l body records Stdin = IsStreamFault l body records [] streams.Stdin
IsFaultBehind l body records Stdout = IsStreamFault l body records (streams.Stdin ∷ []) streams.Stdout
IsFaultBehind l body records Stderr = IsStreamFault l body records (streams.Stdin ∷ streams.Stdout ∷ []) streams.Stderr
IsFaultBehind l body records Ttyin = IsStreamFault l body records (streams.Stdin ∷ streams.Stdout ∷ streams.Stderr ∷ []) streams.Ttyin
IsFaultBehind l body records Ttyout = IsStreamFault l body records (streams.Stdin ∷ streams.Stdout ∷ streams.Stderr ∷ streams.Ttyin ∷ []) streams.Ttyout
IsFaultBehind l body records Head = ⊥
IsFaultBehind l body records Exit = ⊥
IsFaultBehind l body records Lines = ⊥
IsFaultBehind l body records Id = ⊥
IsFaultBehind l body records Commit = ⊥
IsFaultBehind l body records Slots = ⊥

-- after these records nothing is at fault
abbrev pub IsSoundBehind : Laid → Body → List Record → Type 0
IsSoundBehind l body records = (part : Part) → IsFaultBehind l body records part → ⊥
