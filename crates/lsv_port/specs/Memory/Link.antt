-- One link of a port in memory.
use Rattle.std.specs.Prelude.{◌≡◌, ◌⊎◌, ℕ, ◌+◌, ◌-◌, ◌^◌, ◌≤◌, ◌==◌, ◌&&◌, ◌||◌, Bool, true, false, not, if◌then◌else◌, Some, unwrap_or, List, [], ◌++◌, length, take, min}
use Rattle.lsv_port.specs.declared.memory.link.MemLink.{MemLink}
use Rattle.lsv_port.specs.declared.port.Took.{Took}
use Rattle.lsv_port.specs.declared.port.Took.TheVariants as took
use Rattle.lsv_port.specs.declared.port.Gave.{Gave}
use Rattle.lsv_port.specs.declared.port.Gave.TheVariants as gave
use Rattle.lsv_base.specs.Outside.{HasCause}
use Rattle.lsv_base.specs.Script.{one_more}
use Rattle.lsv_port.specs.Port.{LinkState, MayTake, after_read, after_write}
use Rattle.lsv_port.specs.Memory.Numbers.{has}

-- what is told of the link
abbrev pub view_of : MemLink → LinkState
view_of v = record { is_open = v.is_open; input = take v.taken v.arrived; output = v.output; ended = v.ended; owed = v.owed; full = v.full; failed = v.failed; reads = v.reads; beside = has v.beside; dialled = false; late = v.late }

-- a link that was just opened, beside these
pub record IsFresh (beside : List ℕ) (v : MemLink) : Type 0 where
  pub is_open : v.is_open ≡ true
  pub arrived : v.arrived ≡ []
  pub output : v.output ≡ []
  pub last : v.last ≡ false
  pub ended : v.ended ≡ false
  pub owed : v.owed ≡ true
  pub full : v.full ≡ false
  pub failed : v.failed ≡ false
  pub reads : v.reads ≡ []
  pub late : v.late ≡ false
  pub those : v.beside ≡ beside

-- how many bytes have arrived and weren't read
abbrev pub waiting_of : MemLink → ℕ
waiting_of v = length v.arrived - v.taken

-- all that was sent was read
pub record IsReadOut (v : MemLink) : Type 0 where
  pub taken : v.taken ≡ length v.arrived
  pub ended : v.last ≡ true → v.ended ≡ true

-- a link as it can come about: an end is told after all bytes, and an open link that isn't owed a read was read out, or a call on it failed
pub record IsSound (v : MemLink) : Type 0 where
  pub within : v.taken ≤ length v.arrived
  pub ended : v.ended ≡ true → (v.last ≡ true) × (v.taken ≡ length v.arrived)
  pub settled : v.is_open ≡ true → v.owed ≡ false → v.failed ≡ false → IsReadOut v

-- the same was sent
pub record IsSameSent (old new : MemLink) : Type 0 where
  pub arrived : new.arrived ≡ old.arrived
  pub last : new.last ≡ old.last

-- what a read answers, with so much room in its buffer
abbrev pub took_of : MemLink → ℕ → Took
took_of v room = if v.breaks then took.Failed else if waiting_of v == 0 then (if v.last then took.End else took.NotYet) else took.Bytes (min (waiting_of v) room)

-- how many of this many bytes the link takes
abbrev pub taken_of : MemLink → ℕ → ℕ
taken_of v count = min (unwrap_or v.room count) count

-- what a write of this many bytes answers
abbrev pub gave_of : MemLink → ℕ → Gave
gave_of v count = if v.breaks then gave.Failed else if taken_of v count == 0 then gave.NotYet else gave.Bytes (taken_of v count)

-- the link after bytes arrived
abbrev pub with_bytes : List ℕ → MemLink → MemLink
with_bytes bytes v = if v.last then v else record v { arrived = v.arrived ++ bytes; owed = v.owed || v.is_open }

-- the link after its input's end was sent
abbrev pub with_last : MemLink → MemLink
with_last v = if v.last then v else record v { last = true; owed = v.owed || v.is_open }

-- the link after there was room for this many bytes more
abbrev pub with_room : ℕ → MemLink → MemLink
with_room count v = record v { room = Some (min (unwrap_or v.room 0 + count) (2 ^ 64 - 1)); full = v.full && not v.is_open }

-- the link whose next read or write fails
abbrev pub breaking : MemLink → MemLink
breaking v = record v { breaks = true }

-- the link that is closed. over: whether its port had told Stop, or had failed as a whole
abbrev pub shut : (over : Bool) → MemLink → MemLink
shut over v = record v { is_open = false; late = over }

-- what a read with this answer makes of a link, where the buffer then holds these bytes
pub record IsRead (answer : Took) (buf : List ℕ) (old new : MemLink) : Type 0 where
  pub view : view_of new ≡ after_read answer buf (view_of old)
  pub may : MayTake answer (view_of old)
  pub sound : IsSound new
  pub sent : IsSameSent old new
  pub cause : HasCause (answer ≡ took.Failed) old.faults new.faults

-- what a write of these bytes with this answer makes of a link
pub record IsWritten (answer : Gave) (bytes : List ℕ) (old new : MemLink) : Type 0 where
  pub view : view_of new ≡ after_write answer bytes (view_of old)
  pub sound : IsSound new
  pub sent : IsSameSent old new
  pub cause : HasCause (answer ≡ gave.Failed) old.faults new.faults

-- the link answers a read as it is to, and was refused no memory; or it was, and that was counted
abbrev pub AnswersRead : Took → ℕ → MemLink → ℕ → ℕ → Type 0
AnswersRead answer room link refused_before refused_now = ((answer ≡ took_of link room) × (refused_now ≡ refused_before)) ⊎ ((answer ≡ took.Failed) × (refused_now ≡ one_more refused_before))

-- and so a write
abbrev pub AnswersWrite : Gave → ℕ → MemLink → ℕ → ℕ → Type 0
AnswersWrite answer count link refused_before refused_now = ((answer ≡ gave_of link count) × (refused_now ≡ refused_before)) ⊎ ((answer ≡ gave.Failed) × (refused_now ≡ one_more refused_before))
