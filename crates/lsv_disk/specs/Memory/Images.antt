-- Three of the disks that a crash may leave, by what became of the bytes that it may leave in any way.
use Rattle.std.specs.Prelude.{◌≡◌, ◌⊎◌, ℕ, ◌+◌, ◌<◌, ◌≤◌, ◌&&◌, ◌≢◌, if◌then◌else◌, Bool, true, false, slice_index_or, List, [], ◌∷◌, length, replicate, Option, Some, None}
use Rattle.std.specs.Option.{option_or}
use Rattle.std.specs.declared.alloc.Global.{Global}
use Rattle.std.specs.declared.vec.Vec.{Vec}
use Rattle.lsv_disk.specs.declared.file.FileId.{FileId}
use Rattle.lsv_disk.specs.declared.memory.call.Call.{Call}
use Rattle.lsv_disk.specs.declared.memory.call.Effect.{Effect}
use Rattle.lsv_disk.specs.declared.memory.call.Effect.TheVariants.{Held, Made, NotMade, NotRead, Written, NotWritten, Synced, NotSynced}
use Rattle.lsv_disk.specs.declared.memory.fill.Fill.{Fill}
use Rattle.lsv_disk.specs.declared.memory.fill.Fill.TheVariants.{Old, Read, Byte}
use Rattle.lsv_disk.specs.Files.{same_file}
use Rattle.lsv_disk.specs.Bytes.{written, bytes_of}
use Rattle.lsv_disk.specs.View.{Image}
use Rattle.lsv_disk.specs.Memory.Calls.{past_of, reads_after, Noted}

-- a crash leaves one content of the file after the call
abbrev pub makes_durable : Effect → Bool
makes_durable (Held bytes) = true
makes_durable Made = true
makes_durable Synced = true
makes_durable NotMade = false
makes_durable NotRead = false
makes_durable (Written at bytes) = false
makes_durable (NotWritten at n) = false
makes_durable NotSynced = false

-- the file may be there by the call
abbrev pub may_make : Effect → Bool
may_make (Held bytes) = true
may_make Made = true
may_make NotMade = true
may_make Synced = false
may_make NotRead = false
may_make (Written at bytes) = false
may_make (NotWritten at n) = false
may_make NotSynced = false

-- what a file with this past held at its last good sync, or when it was made
abbrev pub durable_after : List Effect → Option (List ℕ)
durable_after [] = None
durable_after (Held bytes ∷ past) = Some bytes.items
durable_after (Made ∷ past) = Some []
durable_after (Synced ∷ past) = reads_after past
durable_after (NotMade ∷ past) = durable_after past
durable_after (NotRead ∷ past) = durable_after past
durable_after (Written at bytes ∷ past) = durable_after past
durable_after (NotWritten at n ∷ past) = durable_after past
durable_after (NotSynced ∷ past) = durable_after past

-- what it holds where each range that was written since came through as this byte, and a create that failed made it
abbrev pub smeared_after : ℕ → List Effect → Option (List ℕ)
smeared_after byte [] = None
smeared_after byte (Held bytes ∷ past) = Some bytes.items
smeared_after byte (Made ∷ past) = Some []
smeared_after byte (Synced ∷ past) = reads_after past
smeared_after byte (NotMade ∷ past) = Some (bytes_of (smeared_after byte past))
smeared_after byte (NotRead ∷ past) = smeared_after byte past
smeared_after byte (Written at bytes ∷ past) = written at (replicate (length bytes.items) byte) (smeared_after byte past)
smeared_after byte (NotWritten at n ∷ past) = written at (replicate n byte) (smeared_after byte past)
smeared_after byte (NotSynced ∷ past) = smeared_after byte past

-- what one more call makes of a file that reads as that
abbrev pub read_next : Effect → Option (List ℕ) → Option (List ℕ)
read_next (Held bytes) file = Some bytes.items
read_next Made file = Some []
read_next (Written at bytes) file = written at bytes.items file
read_next NotMade file = file
read_next NotRead file = file
read_next (NotWritten at n) file = file
read_next Synced file = file
read_next NotSynced file = file

-- and of what is left of it, where the call doesn't make it durable
abbrev pub left_next : Fill → Effect → Option (List ℕ) → Option (List ℕ)
left_next Old effect file = file
left_next Read effect file = read_next effect file
left_next (Byte byte) (Written at bytes) file = written at (replicate (length bytes.items) byte) file
left_next (Byte byte) (NotWritten at n) file = written at (replicate n byte) file
left_next (Byte byte) NotMade file = Some (bytes_of file)
left_next (Byte byte) (Held bytes) file = file
left_next (Byte byte) Made file = file
left_next (Byte byte) NotRead file = file
left_next (Byte byte) Synced file = file
left_next (Byte byte) NotSynced file = file

-- what is left of a file with this past
abbrev pub left_by : Fill → List Effect → Option (List ℕ)
left_by Old past = durable_after past
left_by Read past = reads_after past
left_by (Byte byte) past = smeared_after byte past

-- this many of the calls end with the last that durable the file, or there is none
pub record IsDurableAt (calls : List Call) (file : FileId) (end : ℕ) : Type 0 where
  pub within : end ≤ length calls
  pub durable : (before : ℕ) → end ≡ before + 1 → (d : Call) → (same_file (slice_index_or calls before d).file file && makes_durable (slice_index_or calls before d).effect) ≡ true
  pub after : (i : ℕ) → end ≤ i → i < length calls → (d : Call) → (same_file (slice_index_or calls i d).file file && makes_durable (slice_index_or calls i d).effect) ≡ false

-- what is left of the call's file is taken over, where the file may be there by the call and isn't here yet; no other is
pub record IsTakenOver (left : Image) (call : Call) (old new : Image) : Type 0 where
  pub here : new call.file ≡ (if may_make call.effect then option_or (old call.file) (left call.file) else old call.file)
  pub others : (g : FileId) → g ≢ call.file → new g ≡ old g

-- nothing is known of the file but what it held from the start, if anything
abbrev pub IsHeld : List Effect → Type 0
IsHeld past = (past ≡ []) ⊎ ((copy : Vec ℕ Global) × (past ≡ Held copy ∷ []))

-- and so of each file
abbrev pub AreHeld : List Call → Type 0
AreHeld calls = (file : FileId) → IsHeld (past_of calls file)

-- one more file is held
abbrev pub NotedHeld : List Call → List Call → FileId → List ℕ → Type 0
NotedHeld old new file bytes = (copy : Vec ℕ Global) × (copy.items ≡ bytes) × Noted old new file (Held copy)
