-- An open log, as contracts see it.
use Rattle.std.specs.Prelude.{◌≡◌, ◌≢◌, ℕ, ◌==◌, Bool, false, List, [], ◌∷◌, ◌++◌, Option, Some, None, option_map}
use Rattle.std.specs.Option.{option_map_or}
use Rattle.lsv_disk.specs.declared.file.Part.TheVariants.{Timing}
use Rattle.lsv_bundle.specs.declared.body.Body.{Body}
use Rattle.lsv_bundle.specs.Value.{BundleView, NoneStaged, staged}
use Rattle.lsv_info.specs.declared.times.Head as info
use Rattle.lsv_record.specs.declared.records.Record.{Record}
use Rattle.lsv_record.specs.Points.{Stored}

-- an open log; the counts have what is staged among them
pub record IoLogView : Type 0 where
  pub number : ℕ
  pub head : info.Head
  -- how many records there are
  pub count : ℕ
  -- nanoseconds from the start of the log to its last record
  pub elapsed : ℕ
  -- it answered that the disk failed, and wasn't opened again
  pub is_broken : Bool
  -- its files, with what is staged of each
  pub bundle : BundleView

-- its last entry is that of a finished log
abbrev pub is_complete : IoLogView → Bool
is_complete log = option_map_or (λ (body : Body). body.kind == 3) log.bundle.last false

-- the kind of its last entry
abbrev pub kind_of : IoLogView → Option ℕ
kind_of log = option_map (λ (body : Body). body.kind) log.bundle.last

-- what a log's value stands for: a stored log, and records that are staged after its own
pub record LogValue : Type 0 where
  pub stored : Stored
  pub staged : List Record

-- all its records
abbrev pub all_of : LogValue → List Record
all_of value = value.stored.records ++ value.staged

-- a stored log with nothing staged
abbrev pub bare : Stored → LogValue
bare log = record { stored = log; staged = [] }

-- a log of this head, with no record
abbrev pub made : List ℕ → Stored
made head = record { head = head; records = []; exit = None; cuts = 0 }

-- with one record more staged
abbrev pub with_record : LogValue → Record → LogValue
with_record value r = record { stored = value.stored; staged = value.staged ++ r ∷ [] }

-- the stored log once all that is staged is committed
abbrev pub flushed : LogValue → Stored
flushed value = record { head = value.stored.head; records = all_of value; exit = value.stored.exit; cuts = value.stored.cuts }

-- and with this text of an exit
abbrev pub finished : LogValue → List ℕ → Stored
finished value text = record { head = value.stored.head; records = all_of value; exit = Some text; cuts = value.stored.cuts }

-- it is the same log, and has as many records and as much time
pub record SameCounts (old new : IoLogView) : Type 0 where
  pub number : new.number ≡ old.number
  pub head : new.head ≡ old.head
  pub count : new.count ≡ old.count
  pub elapsed : new.elapsed ≡ old.elapsed

-- a flush left the log so: what is staged is committed by an entry of kind 1, and where no line is staged the log is as it was
pub record IsFlushOf (old new : IoLogView) : Type 0 where
  pub some : staged old.bundle Timing ≢ [] → kind_of new ≡ Some 1
  pub none : staged old.bundle Timing ≡ [] → new ≡ old

-- nothing is staged
abbrev pub IsFlushed : IoLogView → Type 0
IsFlushed log = NoneStaged log.bundle
