-- The calls that a disk in memory keeps, the first one first, and what follows from them.
use Rattle.std.specs.Prelude.{◌≡◌, ◌⊎◌, ℕ, ◌+◌, ◌≤◌, ◌++◌, Bool, true, false, List, [], ◌∷◌, length, take, map, reverse, count_by, nat_le, ◌&&◌, is_none, Option, Some, None}
use Rattle.std.specs.List.{filter}
use Rattle.std.specs.declared.alloc.Global.{Global}
use Rattle.std.specs.declared.vec.Vec.{Vec}
use Rattle.lsv_disk.specs.declared.file.FileId.{FileId}
use Rattle.lsv_disk.specs.declared.memory.call.Call.{Call}
use Rattle.lsv_disk.specs.declared.memory.call.Effect.{Effect}
use Rattle.lsv_disk.specs.declared.memory.call.Effect.TheVariants.{Held, Made, NotMade, NotRead, Written, NotWritten, Synced, NotSynced}
use Rattle.lsv_disk.specs.Bytes.{written, Torn}
use Rattle.lsv_disk.specs.View.{Image, Places, DiskView}
use Rattle.lsv_defs.specs.Causes.{HasRisen}
use Rattle.lsv_disk.specs.Files.{same_file}

-- what the calls on a file did, the last one first
unfoldable pub past_of : List Call → FileId → List Effect
past_of calls file = reverse (map (λ call. call.effect) (filter (λ call. same_file call.file file) calls))

-- what a read of a file with this past gives: a good create empties it, and a good write is there at once
abbrev pub reads_after : List Effect → Option (List ℕ)
reads_after [] = None
reads_after (Held bytes ∷ past) = Some bytes.items
reads_after (Made ∷ past) = Some []
reads_after (Written at bytes ∷ past) = written at bytes.items (reads_after past)
reads_after (NotMade ∷ past) = reads_after past
reads_after (NotRead ∷ past) = reads_after past
reads_after (NotWritten at n ∷ past) = reads_after past
reads_after (Synced ∷ past) = reads_after past
reads_after (NotSynced ∷ past) = reads_after past

-- what a crash may leave of a file with this past: a good create or sync leaves one content, a create that failed may
-- have made the file, and a write, good or not, may have left any bytes in its range
abbrev pub MayLeave : List Effect → Option (List ℕ) → Type 0
MayLeave [] c = c ≡ None
MayLeave (Held bytes ∷ past) c = c ≡ Some bytes.items
MayLeave (Made ∷ past) c = c ≡ Some []
MayLeave (Synced ∷ past) c = c ≡ reads_after past
MayLeave (NotMade ∷ past) c = MayLeave past c ⊎ (c ≡ Some [])
MayLeave (Written at bytes ∷ past) c = (c ≡ written at bytes.items (reads_after past)) ⊎ ((d : Option (List ℕ)) × MayLeave past d × Torn at (length bytes.items) d c)
MayLeave (NotWritten at n ∷ past) c = (d : Option (List ℕ)) × MayLeave past d × Torn at n d c
MayLeave (NotRead ∷ past) c = MayLeave past c
MayLeave (NotSynced ∷ past) c = MayLeave past c

-- a write at this place leaves no gap
abbrev pub reaches : Option (List ℕ) → ℕ → Bool
reaches None at = false
reaches (Some bytes) at = nat_le at (length bytes)

-- the past is one that calls can have: a file is made where it is absent, and written where it is there, with no gap
abbrev pub is_legal : List Effect → Bool
is_legal [] = true
is_legal (Held bytes ∷ past) = is_legal past
is_legal (Made ∷ past) = is_legal past
is_legal (NotMade ∷ past) = is_none (reads_after past) && is_legal past
is_legal (NotRead ∷ past) = is_legal past
is_legal (Written at bytes ∷ past) = reaches (reads_after past) at && is_legal past
is_legal (NotWritten at n ∷ past) = reaches (reads_after past) at && is_legal past
is_legal (Synced ∷ past) = is_legal past
is_legal (NotSynced ∷ past) = is_legal past

-- and so is the past of each file
abbrev pub AreLegal : List Call → Type 0
AreLegal calls = (file : FileId) → is_legal (past_of calls file) ≡ true

-- what a read of the files gives after these calls
abbrev pub reads_of : List Call → Image
reads_of calls file = reads_after (past_of calls file)

-- the call failed
abbrev pub is_fault : Effect → Bool
is_fault (Held bytes) = false
is_fault Made = false
is_fault (Written at bytes) = false
is_fault Synced = false
is_fault NotMade = true
is_fault NotRead = true
is_fault (NotWritten at n) = true
is_fault NotSynced = true

-- the call synced the file
abbrev pub is_sync : Effect → Bool
is_sync Synced = true
is_sync (Held bytes) = false
is_sync Made = false
is_sync (Written at bytes) = false
is_sync NotMade = false
is_sync NotRead = false
is_sync (NotWritten at n) = false
is_sync NotSynced = false

-- the call wrote to the file, well or not
abbrev pub is_write : Effect → Bool
is_write (Written at bytes) = true
is_write (NotWritten at n) = true
is_write (Held bytes) = false
is_write Made = false
is_write NotMade = false
is_write NotRead = false
is_write Synced = false
is_write NotSynced = false

-- how many of the calls on a file failed
abbrev pub faults_of : List Call → FileId → ℕ
faults_of calls file = count_by is_fault (past_of calls file)

-- how many of the calls wrote to the file
abbrev pub writes_of : List Call → FileId → ℕ
writes_of calls file = count_by is_write (past_of calls file)

-- how many of the calls synced the file
abbrev pub syncs_of : List Call → FileId → ℕ
syncs_of calls file = count_by is_sync (past_of calls file)

-- what is known of a disk after these calls, each of which took a moment, where some more were refused for lack of memory
abbrev pub view_of : List Call → ℕ → Option Places → DiskView
view_of calls refused places = record {
  reads = reads_of calls;
  crash_states = λ file c. MayLeave (past_of calls file) c;
  moment = length calls;
  crash_images_at = λ k image. (file : FileId) → MayLeave (past_of (take k calls) file) (image file);
  faults = λ file. faults_of calls file + refused;
  writes = writes_of calls;
  syncs = syncs_of calls;
  places = places;
}

-- the same of calls of which none was refused, and with no places
abbrev pub state_of : List Call → DiskView
state_of calls = view_of calls 0 None

-- one more call on the file is kept
abbrev pub Noted : List Call → List Call → FileId → Effect → Type 0
Noted old new file effect = new ≡ old ++ record { file = file; effect = effect } ∷ []

-- and it is a good write of these bytes
abbrev pub NotedWrite : List Call → List Call → FileId → ℕ → List ℕ → Type 0
NotedWrite old new file at bytes = (copy : Vec ℕ Global) × (copy.items ≡ bytes) × Noted old new file (Written at copy)

-- a call on the file failed: it is kept, or memory ran out and the count of such calls rose
abbrev pub Failed : List Call → List Call → FileId → Effect → ℕ → ℕ → Type 0
Failed old new file effect refused refused_now = (Noted old new file effect × (refused_now ≡ refused)) ⊎ ((new ≡ old) × (refused ≤ refused_now) × HasRisen refused refused_now)
