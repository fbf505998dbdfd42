-- What a port tells of its links, and what each answer of it says.
use Rattle.std.specs.Prelude.{◌≡◌, ◌≢◌, ℕ, ◌<◌, ◌≤◌, ◌||◌, Bool, true, false, List, [], ◌∷◌, ◌++◌, length, take}
use Rattle.std.specs.List.{Contains}
use Rattle.lsv_port.specs.declared.port.Ready.{Ready}
use Rattle.lsv_port.specs.declared.port.Ready.TheVariants.{Opened, Readable, Writable, Woken, Stop}
use Rattle.lsv_port.specs.declared.port.Took.{Took}
use Rattle.lsv_port.specs.declared.port.Took.TheVariants as took
use Rattle.lsv_port.specs.declared.port.Gave.{Gave}
use Rattle.lsv_port.specs.declared.port.Gave.TheVariants as gave

-- one link
pub record LinkState : Type 0 where
  -- whether it is open
  pub is_open : Bool
  -- the bytes that were read from it, and those that were put on it, in order
  pub input : List ℕ
  pub output : List ℕ
  -- whether a read gave its input's end
  pub ended : Bool
  -- whether it is owed a read, or was, when it was last open
  pub owed : Bool
  -- whether it is full, or was, when it was last open
  pub full : Bool
  -- whether a read or a write of it failed
  pub failed : Bool
  -- how long the buffers were that it was read into, in order, of the reads that didn't fail
  pub reads : List ℕ
  -- which links were open when it was opened
  pub beside : ℕ → Bool
  -- whether the server opened it itself, by a call to another host
  pub dialled : Bool
  -- whether its port had told Stop, or had failed as a whole, when it was closed
  pub late : Bool

-- the links that were opened, in order; how each link stands; whether Stop was told; and whether the port failed as a whole: it couldn't listen, or a turn failed
pub record PortState : Type 0 where
  pub opened : List ℕ
  pub link : ℕ → LinkState
  pub stopped : Bool
  pub failed : Bool

-- Stop was told, or the port failed as a whole
abbrev pub is_over : PortState → Bool
is_over port = port.stopped || port.failed

-- the link is open
abbrev pub IsOpen : PortState → ℕ → Type 0
IsOpen port l = (port.link l).is_open ≡ true

-- the link is open, and owed a read
pub record IsOwed (port : PortState) (l : ℕ) : Type 0 where
  pub is_open : (port.link l).is_open ≡ true
  pub owed : (port.link l).owed ≡ true

-- nothing changed
pub record IsSame (old new : PortState) : Type 0 where
  pub links : (l : ℕ) → new.link l ≡ old.link l
  pub opened : new.opened ≡ old.opened
  pub stopped : new.stopped ≡ old.stopped
  pub failed : new.failed ≡ old.failed

-- the port failed as a whole, and nothing else changed
pub record TellsFault (old new : PortState) : Type 0 where
  pub links : (l : ℕ) → new.link l ≡ old.link l
  pub opened : new.opened ≡ old.opened
  pub stopped : new.stopped ≡ old.stopped
  pub failed : new.failed ≡ true

-- this link alone changed, and now stands so
pub record Changes (l : ℕ) (now : LinkState) (old new : PortState) : Type 0 where
  pub this : new.link l ≡ now
  pub others : (m : ℕ) → m ≢ l → new.link m ≡ old.link m
  pub opened : new.opened ≡ old.opened
  pub stopped : new.stopped ≡ old.stopped
  pub failed : new.failed ≡ old.failed

-- a link that was just opened, beside these
abbrev pub fresh_link : (ℕ → Bool) → LinkState
fresh_link beside = record { is_open = true; input = []; output = []; ended = false; owed = true; full = false; failed = false; reads = []; beside = beside; dialled = false; late = false }

-- a link of a new number was opened, beside those that were open, and nothing else changed
pub record Opens (l : ℕ) (old new : PortState) : Type 0 where
  pub fresh : Contains old.opened l → ⊥
  pub this : new.link l ≡ fresh_link (new.link l).beside
  pub beside : (m : ℕ) → (new.link l).beside m ≡ (old.link m).is_open
  pub others : (m : ℕ) → m ≢ l → new.link m ≡ old.link m
  pub opened : new.opened ≡ old.opened ++ l ∷ []
  pub stopped : new.stopped ≡ old.stopped
  pub failed : new.failed ≡ old.failed

-- an open link whose input goes on is owed a read from now on, and nothing else changed
pub record TellsReadable (l : ℕ) (old new : PortState) : Type 0 where
  pub is_open : (old.link l).is_open ≡ true
  pub going : (old.link l).ended ≡ false
  pub change : Changes l (record (old.link l) { owed = true }) old new

-- an open link isn't full from now on, and nothing else changed
pub record TellsWritable (l : ℕ) (old new : PortState) : Type 0 where
  pub is_open : (old.link l).is_open ≡ true
  pub change : Changes l (record (old.link l) { full = false }) old new

-- Stop is told from now on, and nothing else changed
pub record TellsStop (old new : PortState) : Type 0 where
  pub links : (l : ℕ) → new.link l ≡ old.link l
  pub opened : new.opened ≡ old.opened
  pub stopped : new.stopped ≡ true
  pub failed : new.failed ≡ old.failed

-- what a turn with this answer says
abbrev pub Told : Ready → PortState → PortState → Type 0
Told (Opened l) old new = Opens l old new
Told (Readable l) old new = TellsReadable l old new
Told (Writable l) old new = TellsWritable l old new
Told Woken old new = IsSame old new
Told Stop old new = TellsStop old new

-- at least one, and at most this many
abbrev pub IsCountOf : ℕ → ℕ → Type 0
IsCountOf most n = (0 < n) × (n ≤ most)

-- a read gives at least one byte, and no more than the buffer takes
abbrev pub TakesWithin : Took → ℕ → Type 0
TakesWithin (took.Bytes n) room = IsCountOf room n
TakesWithin took.NotYet room = Unit {0}
TakesWithin took.End room = Unit {0}
TakesWithin took.Failed room = Unit {0}

-- a read gives bytes only where the input hasn't ended
abbrev pub MayTake : Took → LinkState → Type 0
MayTake (took.Bytes n) link = link.ended ≡ false
MayTake took.NotYet link = Unit {0}
MayTake took.End link = Unit {0}
MayTake took.Failed link = Unit {0}

-- how the link stands after a read with this answer, where its buffer then holds these bytes
abbrev pub after_read : Took → List ℕ → LinkState → LinkState
after_read (took.Bytes n) buf link = record link { input = link.input ++ take n buf; reads = link.reads ++ length buf ∷ [] }
after_read took.NotYet buf link = record link { owed = false; reads = link.reads ++ length buf ∷ [] }
after_read took.End buf link = record link { ended = true; owed = false; reads = link.reads ++ length buf ∷ [] }
after_read took.Failed buf link = record link { owed = false; failed = true }

-- a write puts at least one byte, and no more than there are
abbrev pub GivesWithin : Gave → ℕ → Type 0
GivesWithin (gave.Bytes n) count = IsCountOf count n
GivesWithin gave.NotYet count = Unit {0}
GivesWithin gave.Failed count = Unit {0}

-- how the link stands after a write of these bytes with this answer
abbrev pub after_write : Gave → List ℕ → LinkState → LinkState
after_write (gave.Bytes n) bytes link = record link { output = link.output ++ take n bytes; full = false }
after_write gave.NotYet bytes link = record link { full = true }
after_write gave.Failed bytes link = record link { full = false; failed = true }

-- how the link stands after it was closed. over: whether its port had told Stop, or had failed as a whole
abbrev pub closed : (over : Bool) → LinkState → LinkState
closed over link = record link { is_open = false; late = over }
