-- What became of the logs of a store in a run, by rising number.
use Rattle.std.specs.Prelude.{◌≡◌, ◌⊎◌, ◌+◌, ℕ, suc, Bool, true, false, not, ◌&&◌, if◌then◌else◌, List, [], ◌∷◌, ◌++◌, length, Option, Some, None, IfSome, IsSome, MatchBool}
use Rattle.lsv_defs.specs.Causes.{HasRisen}
use Rattle.lsv_disk.specs.declared.file.FileId.{FileId}
use Rattle.lsv_disk.specs.declared.file.Owner.TheVariants as owners
use Rattle.lsv_disk.specs.View.{DiskView, Image}
use Rattle.lsv_disk.specs.declared.file.Part.{Part}
use Rattle.lsv_bundle.specs.declared.fault.BundleFault.TheVariants as bundles
use Rattle.lsv_iolog.specs.Damage.{IsViewDamage}
use Rattle.lsv_iolog.specs.declared.fault.ViewFault.TheVariants as logs
use Rattle.lsv_link.specs.declared.connection.Connection.{Connection}
use Rattle.lsv_link.specs.Link.{LinkState, after_miss, all_of}
use Rattle.lsv_dialogue.specs.declared.ends.Cause.{Cause}
use Rattle.lsv_dialogue.specs.declared.ends.Cause.TheVariants as causes
use Rattle.lsv_kept.specs.Kept.{IsOfRelay, IsStateDamage}
use Rattle.lsv_relay.specs.Complete.{IsComplete, IsRelayed, IsUnreadable}
use Rattle.lsv_relay.specs.declared.fault.RelayFault.{RelayFault}
use Rattle.lsv_relay.specs.declared.fault.RelayFault.TheVariants as relays
use Rattle.lsv_forward.specs.declared.outcome.Outcome.{Outcome}
use Rattle.lsv_forward.specs.declared.outcome.Outcome.TheVariants.{Passed, Marked, Relayed, Pending, Untried, Unopened, Failed}

-- what became of a log, and the connection that was made for it, if one was
pub record Handled : Type 0 where
  pub outcome : Outcome
  pub conn : Option Connection

-- ---- Which logs are not relayed

-- a log with this outcome is complete and isn't known to be marked
abbrev pub is_left : Outcome → Bool
is_left Passed = false
is_left Marked = false
is_left Relayed = false
is_left (Pending cause) = true
is_left Untried = true
is_left (Unopened fault) = true
is_left (Failed fault) = true

-- the number of logs that are left
abbrev pub left_in : List Handled → ℕ
left_in [] = 0
left_in (log ∷ before) = left_in before + (if is_left log.outcome then 1 else 0)

-- the link with one connection more, if one was made, and none is open. One that couldn't be made may be missing, if the link is in memory and had no room for it: then one more is counted as missed
abbrev pub Joins : Option Connection → (before after : LinkState) → Type 0
Joins None before after = after ≡ before
Joins (Some conn) before after = (after ≡ record before { past = all_of before ++ conn ∷ []; now = None }) ⊎ ((conn.connected ≡ false) × (after ≡ after_miss before))

-- the link with the connections of these logs, by rising number; the last log stands first
abbrev pub AreJoined : List Handled → (before after : LinkState) → Type 0
AreJoined [] before after = after ≡ before
AreJoined (log ∷ logs) before after = (mid : LinkState) × AreJoined logs before mid × Joins log.conn mid after

-- each connection was made to this host
abbrev pub AreTo : List ℕ → List Handled → Type 0
AreTo host [] = Unit {0}
AreTo host (log ∷ before) = IfSome log.conn (λ conn. conn.host ≡ host) × AreTo host before

-- ---- What the disk reads as

-- the log is complete and not marked
pub record IsUnmarked (n : ℕ) (image : Image) : Type 0 where
  pub complete : IsComplete n image
  pub unmarked : IsRelayed n image → ⊥

-- the log is complete and not marked, and its files and its head are sound
pub record IsSendable (n : ℕ) (image : Image) : Type 0 where
  pub unmarked : IsUnmarked n image
  pub sound : (part : Part) → IsViewDamage n part image → ⊥

-- the log couldn't be judged: a device call on a file of it, or of what is kept of its relaying, failed in the run
abbrev pub IsUnjudged : ℕ → (old new : DiskView) → Type 0
IsUnjudged n old new = (file : FileId) × ((file.owner ≡ owners.Log n) ⊎ IsOfRelay n file) × HasRisen (old.faults file) (new.faults file)

-- the fault is that a device call failed
abbrev pub is_device : RelayFault → Bool
is_device (relays.Log logs.Disk) = true
is_device (relays.State bundles.Disk) = true
is_device _ = false

-- ---- What became of a log, if the disk tells its content

-- a log whose connection ended with this fault is complete and not marked, unless it couldn't be judged
abbrev pub IsAt : (disk_tells : Type 0) → ℕ → RelayFault → (old new : DiskView) → Type 0
IsAt disk_tells n fault old new = MatchBool (is_device fault) (IsUnjudged n old new) (disk_tells → IsUnmarked n new.reads)

-- what is kept of the relaying is damaged
abbrev pub is_kept_damage : RelayFault → Bool
is_kept_damage (relays.State (bundles.Damaged part)) = true
is_kept_damage _ = false

-- the log is complete and not marked. If what is kept of its relaying is damaged, its moments alone say of marks: a crash leaves none but where one left it before
pub record IsLeft (n : ℕ) (fault : RelayFault) (image : Image) : Type 0 where
  pub complete : IsComplete n image
  pub unmarked : is_kept_damage fault ≡ false → IsRelayed n image → ⊥

-- so is a log that this fault kept from being opened, unless it couldn't be judged
abbrev pub IsShut : (disk_tells : Type 0) → ℕ → RelayFault → (old new : DiskView) → Type 0
IsShut disk_tells n fault old new = MatchBool (is_device fault) (IsUnjudged n old new) (disk_tells → IsLeft n fault new.reads)

-- after the run, a log with this outcome reads so: it isn't complete; it is complete and marked, or not marked; or it couldn't be judged
abbrev pub IsAs : (disk_tells : Type 0) → ℕ → Outcome → (old new : DiskView) → Type 0
IsAs disk_tells n Passed old new = disk_tells → IsComplete n new.reads → ⊥
IsAs disk_tells n Marked old new = disk_tells → IsRelayed n new.reads
IsAs disk_tells n Relayed old new = disk_tells → IsRelayed n new.reads
IsAs disk_tells n (Pending cause) old new = disk_tells → IsUnmarked n new.reads
IsAs disk_tells n Untried old new = disk_tells → IsUnmarked n new.reads
IsAs disk_tells n (Unopened fault) old new = IsShut disk_tells n fault old new
IsAs disk_tells n (Failed fault) old new = IsAt disk_tells n fault old new

-- why a log wasn't opened: it was complete and not marked, and a file of it is damaged, or what is kept of its relaying; or a device call failed
abbrev pub HasShutCause : (disk_tells : Type 0) → ℕ → RelayFault → Image → Type 0
HasShutCause disk_tells n (relays.Log (logs.Damaged part)) image = disk_tells → IsUnreadable n part image
HasShutCause disk_tells n (relays.State (bundles.Damaged part)) image = disk_tells → IsUnmarked n image × IsStateDamage n part image
HasShutCause disk_tells n (relays.Log logs.Disk) image = Unit {0}
HasShutCause disk_tells n (relays.State bundles.Disk) image = Unit {0}
HasShutCause disk_tells n _ image = ⊥

-- before the run it read so, and unless no further one was tried it was connected to exactly if it was complete, not marked and sound, and what was kept of it could be read
abbrev pub WasAs : (disk_tells : Type 0) → ℕ → Outcome → Option Connection → Image → Type 0
WasAs disk_tells n Passed conn image = (conn ≡ None) × (disk_tells → IsComplete n image → ⊥)
WasAs disk_tells n Marked conn image = (conn ≡ None) × (disk_tells → IsRelayed n image)
WasAs disk_tells n Relayed conn image = IsSome conn × (disk_tells → IsSendable n image)
WasAs disk_tells n (Pending cause) conn image = IsSome conn × (disk_tells → IsSendable n image)
WasAs disk_tells n Untried conn image = (conn ≡ None) × (disk_tells → IsUnmarked n image)
WasAs disk_tells n (Unopened fault) conn image = (conn ≡ None) × HasShutCause disk_tells n fault image
WasAs disk_tells n (Failed fault) conn image = IsSome conn × (disk_tells → IsSendable n image)

-- each of the logs from 1 on reads as its outcome says
abbrev pub AreAs : (disk_tells : Type 0) → List Handled → (old new : DiskView) → Type 0
AreAs disk_tells [] old new = Unit {0}
AreAs disk_tells (log ∷ before) old new = IsAs disk_tells (suc (length before)) log.outcome old new × AreAs disk_tells before old new

-- and read so before
abbrev pub WereAs : (disk_tells : Type 0) → List Handled → Image → Type 0
WereAs disk_tells [] image = Unit {0}
WereAs disk_tells (log ∷ before) image = WasAs disk_tells (suc (length before)) log.outcome log.conn image × WereAs disk_tells before image

-- ---- Once a connection couldn't be made

abbrev pub is_cut : Cause → Bool
is_cut causes.Unreached = true
is_cut _ = false

-- a connection for this log couldn't be made
abbrev pub is_unreached : Outcome → Bool
is_unreached (Pending cause) = is_cut cause
is_unreached _ = false

-- each connection was made
abbrev pub are_reached : List Handled → Bool
are_reached [] = true
are_reached (log ∷ before) = are_reached before && not (is_unreached log.outcome)

-- after one that couldn't be made no further log was connected to, and before it none was left out
abbrev pub AreTried : List Handled → Type 0
AreTried [] = Unit {0}
AreTried (log ∷ before) = (IsSome log.conn → are_reached before ≡ true) × (log.outcome ≡ Untried → are_reached before ≡ false) × AreTried before
