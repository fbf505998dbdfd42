-- A link in memory: what its script says of each connection.
use Rattle.std.specs.Prelude.{◌≡◌, ◌⊎◌, ◌<◌, ℕ, ◌-◌, ◌^◌, Bool, true, false, nat_lt, nat_le, if◌then◌else◌, List, [], ◌∷◌, length, take, drop, min, get_or, unwrap_or, Option, Some, None}
use Rattle.lsv_base.specs.Script.{IsListed, answered, failed, unserved, one_more}
use Rattle.lsv_base.specs.declared.script.Script.{Script}
use Rattle.lsv_port.specs.declared.port.Took.{Took}
use Rattle.lsv_port.specs.declared.port.Took.TheVariants as took
use Rattle.lsv_port.specs.declared.port.Gave.{Gave}
use Rattle.lsv_port.specs.declared.port.Gave.TheVariants as gave
use Rattle.lsv_link.specs.declared.connection.Connection.{Connection}
use Rattle.lsv_link.specs.declared.memory.Answer.{Answer}
use Rattle.lsv_link.specs.declared.memory.Cut.{Cut}
use Rattle.lsv_link.specs.declared.memory.Cut.TheVariants.{End, Silent}
use Rattle.lsv_link.specs.Link.{LinkState, LinkCounts, after_connect, after_miss, after_refusal, all_of, open_of}

-- a link in memory: the answers and the cut of each connection, the connections so far, and how its calls went
pub record LinkValue : Type 0 where
  pub answers : List (List Answer)
  pub cuts : List Cut
  -- how many bytes each connection takes in all
  pub room : List ℕ
  pub state : LinkState
  pub script : Script
  -- how often a write took nothing, and a read waited for nothing
  pub full : ℕ
  pub waits : ℕ

-- how many bytes a cut lets through
abbrev pub most : Cut → ℕ
most (End n) = n
most (Silent n) = n

-- the place in the script of the open connection, or of the next one
abbrev pub place : LinkValue → ℕ
place v = length v.state.past

-- the cut of the open connection
abbrev pub cut_of : LinkValue → Cut
cut_of v = get_or v.cuts (place v) (End 0)

-- the answers that the open connection is sent
abbrev pub answers_of : LinkValue → List Answer
answers_of v = get_or v.answers (place v) []

-- what may be read next, when this many bytes of the answers were read, and this many were written: what is left of the first answer that wasn't read whole, or nothing, if too little was written for it. None if all was read
abbrev pub due : List Answer → (read put : ℕ) → Option (List ℕ)
due [] read put = None
due (a ∷ answers) read put = if nat_lt read (length a.bytes) then Some (if nat_le a.hold put then drop read a.bytes else []) else due answers (read - length a.bytes) put

-- what a read answers that gives nothing, at the input's end, or before it
abbrev pub none_of : (ends : Bool) → Took
none_of true = took.End
none_of false = took.NotYet

-- what a read answers at the end of the answers, or of what a cut lets through
abbrev pub at_end : Cut → Took
at_end (End n) = took.End
at_end (Silent n) = took.NotYet

-- what a read answers if these bytes may be read, with this much room in its buffer
abbrev pub took_from : List ℕ → (room : ℕ) → Took
took_from [] room = took.NotYet
took_from (byte ∷ bytes) room = took.Bytes (min (length (byte ∷ bytes)) room)

-- what a read answers after this many bytes, if these may be read next, up to a cut
abbrev pub took_at : Cut → (read room : ℕ) → Option (List ℕ) → Took
took_at cut read room None = at_end cut
took_at cut read room (Some bytes) = if nat_lt read (most cut) then took_from (take (most cut - read) bytes) room else at_end cut

-- what may be read next of the open connection
abbrev pub due_of : LinkValue → Option Connection → Option (List ℕ)
due_of v None = None
due_of v (Some conn) = due (answers_of v) (length conn.input) (length conn.output)

-- what a read answers that doesn't fail
abbrev pub took_of : LinkValue → (room : ℕ) → Took
took_of v room = took_at (cut_of v) (length (open_of v.state).input) room (due_of v v.state.now)

-- the bytes that may be read next of it
abbrev pub unread : LinkValue → List ℕ
unread v = unwrap_or (due_of v v.state.now) []

-- the script has answers and a cut at this place
abbrev pub IsPlaced : ℕ → List (List Answer) → List Cut → Type 0
IsPlaced n answers cuts = (n < length answers) × (n < length cuts)

-- there are answers and a cut for the next connection
abbrev pub HasAnswer : LinkValue → Type 0
HasAnswer v = IsPlaced (length (all_of v.state)) v.answers v.cuts

-- the answers, the cuts and the room are the same
pub record IsSameScript (old new : LinkValue) : Type 0 where
  pub answers : new.answers ≡ old.answers
  pub cuts : new.cuts ≡ old.cuts
  pub room : new.room ≡ old.room

-- a read or a write whose number is listed fails; another answers as it should, unless memory ran out, and that was counted
pub record Answers (Answer : Type 0) (fault should result : Answer) (old new : Script) : Type 0 where
  pub listed : IsListed old → (result ≡ fault) × (new ≡ failed old)
  pub other : (IsListed old → ⊥) → ((result ≡ should) × (new ≡ answered old)) ⊎ ((result ≡ fault) × (new ≡ unserved old))

-- a connect failed: it is among the connections, or memory ran out, and that was counted
abbrev pub FailsToConnect : List ℕ → (old new : LinkValue) → Type 0
FailsToConnect host old new = ((new.script ≡ failed old.script) × (new.state ≡ after_refusal host old.state)) ⊎ ((new.script ≡ unserved old.script) × (new.state ≡ after_miss old.state))

-- a connection was made, unless memory ran out, and that was counted
abbrev pub Makes : (failed_now : Type 0) → List ℕ → (old new : LinkValue) → Type 0
Makes failed_now host old new = ((failed_now → ⊥) × (new.script ≡ answered old.script) × (new.state ≡ after_connect host old.state)) ⊎ (failed_now × (new.script ≡ unserved old.script) × (new.state ≡ after_miss old.state))

-- a connect whose number is listed fails, and so does one for which there is no answer; another succeeds, unless memory ran out
pub record Tries (failed_now : Type 0) (host : List ℕ) (old new : LinkValue) : Type 0 where
  pub listed : IsListed old.script → failed_now × FailsToConnect host old new
  pub unanswered : (HasAnswer old → ⊥) → failed_now × FailsToConnect host old new
  pub other : (IsListed old.script → ⊥) → HasAnswer old → Makes failed_now host old new

-- how many bytes the open connection still takes
abbrev pub left_of : LinkValue → ℕ
left_of v = get_or v.room (place v) (2 ^ 64 - 1) - length (open_of v.state).output

-- what a write answers, if this many bytes are still taken
abbrev pub gave_within : (left : ℕ) → ℕ → Gave
gave_within left n = if nat_lt 0 left then gave.Bytes (min n left) else gave.NotYet

-- what a write of n bytes answers that doesn't fail
abbrev pub gave_of : LinkValue → ℕ → Gave
gave_of v n = gave_within (left_of v) n

-- how often a write took nothing, after one with this answer
abbrev pub full_after : Gave → ℕ → ℕ
full_after (gave.Bytes n) full = full
full_after gave.NotYet full = one_more full
full_after gave.Failed full = full

-- how often a read waited for nothing, after one with this answer
abbrev pub waits_after : Took → (wait : Bool) → ℕ → ℕ
waits_after (took.Bytes n) wait waits = waits
waits_after took.NotYet wait waits = if wait then one_more waits else waits
waits_after took.End wait waits = waits
waits_after took.Failed wait waits = waits

-- the connection, if its last call was, or was not, a read that gave nothing
abbrev pub noted : (dry : Bool) → Connection → Connection
noted dry conn = record conn { dry = dry }

-- the bytes that were written on it
abbrev pub output_of : Connection → List ℕ
output_of conn = conn.output

-- the counts that a link in memory tells
abbrev pub counts_of : LinkValue → LinkCounts
counts_of v = record { faults = v.script.faults; full = v.full; waits = v.waits }
