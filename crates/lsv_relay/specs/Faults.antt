-- The faults of a relay's calls, and why they come.
use Rattle.std.specs.Prelude.{◌≡◌, ◌≢◌, ◌⊎◌, ℕ, true, false, List, None, Ok}
use Rattle.lsv_bundle.specs.declared.fault.BundleFault.{BundleFault}
use Rattle.lsv_bundle.specs.declared.fault.BundleFault.TheVariants as kept
use Rattle.lsv_disk.specs.View.{DiskView, Image}
use Rattle.lsv_iolog.specs.Damage.{IsViewDamage}
use Rattle.lsv_disk.specs.declared.file.Part.TheVariants.{Exit as ExitPart}
use Rattle.lsv_info.specs.Reading.{exit_of}
use Rattle.lsv_info.specs.declared.times.Exit.{Exit}
use Rattle.lsv_iolog.specs.Reading.{IsFaultBehind, IsWhole, ViewState, committed_laid, committed_text}
use Rattle.lsv_iolog.specs.Recovered.{Replays}
use Rattle.lsv_iolog.specs.declared.fault.ViewFault.{ViewFault}
use Rattle.lsv_iolog.specs.declared.fault.ViewFault.TheVariants as reads
use Rattle.lsv_kept.specs.Kept.{IsStateDamage}
use Rattle.lsv_record.specs.declared.records.Record.{Record}
use Rattle.lsv_relay.specs.Complete.{IsComplete, IsIncomplete, IsLogDamage, IsUnreadable}
use Rattle.lsv_relay.specs.Talks.{HasLog}
use Rattle.lsv_relay.specs.Value.{RelayView, is_broken, state_of}
use Rattle.lsv_relay.specs.declared.fault.RelayFault.{RelayFault}
use Rattle.lsv_relay.specs.declared.fault.RelayFault.TheVariants as faults
use Rattle.lsv_relay.specs.declared.relay.Place.{Place}
use Rattle.lsv_relay.specs.declared.relay.Place.TheVariants as places

-- ---- A lower fault as one of the relay

-- a fault of the log, without memory that alone
abbrev pub of_log : ViewFault → RelayFault
of_log reads.Absent = faults.Log reads.Absent
of_log (reads.Damaged part) = faults.Log (reads.Damaged part)
of_log reads.Disk = faults.Log reads.Disk
of_log reads.NoMem = faults.NoMem

-- a fault of what is kept, without memory that alone
abbrev pub of_state : BundleFault → RelayFault
of_state kept.Disk = faults.State kept.Disk
of_state kept.Broken = faults.State kept.Broken
of_state (kept.Damaged part) = faults.State (kept.Damaged part)
of_state (kept.Full part) = faults.State (kept.Full part)
of_state kept.NoMem = faults.NoMem

-- ---- Which faults come

-- the faults of the log: it is absent or damaged, or a device call failed
abbrev pub IsReadFault : ViewFault → Type 0
IsReadFault reads.Absent = Unit {0}
IsReadFault (reads.Damaged part) = Unit {0}
IsReadFault reads.Disk = Unit {0}
IsReadFault reads.NoMem = ⊥

-- the faults of what is kept, when it is opened: it is damaged, or a device call failed
abbrev pub IsKeptFault : BundleFault → Type 0
IsKeptFault kept.Disk = Unit {0}
IsKeptFault (kept.Damaged part) = Unit {0}
IsKeptFault kept.Broken = ⊥
IsKeptFault (kept.Full part) = ⊥
IsKeptFault kept.NoMem = ⊥

-- the faults of opening a relay
abbrev pub IsOpenFault : RelayFault → Type 0
IsOpenFault faults.Incomplete = Unit {0}
IsOpenFault (faults.Log fault) = IsReadFault fault
IsOpenFault (faults.State fault) = IsKeptFault fault
IsOpenFault faults.NoMem = Unit {0}

-- the faults of reading the log once it was opened
abbrev pub IsLogFault : RelayFault → Type 0
IsLogFault faults.Incomplete = Unit {0}
IsLogFault (faults.Log fault) = IsReadFault fault
IsLogFault (faults.State fault) = ⊥
IsLogFault faults.NoMem = Unit {0}

-- the faults of keeping something: a device call failed, or memory ran out
abbrev pub IsStateFault : RelayFault → Type 0
IsStateFault faults.Incomplete = ⊥
IsStateFault (faults.Log fault) = ⊥
IsStateFault (faults.State kept.Disk) = Unit {0}
IsStateFault (faults.State kept.Broken) = ⊥
IsStateFault (faults.State (kept.Damaged part)) = ⊥
IsStateFault (faults.State (kept.Full part)) = ⊥
IsStateFault (faults.State kept.NoMem) = ⊥
IsStateFault faults.NoMem = Unit {0}

-- the same of a relay that may be broken
abbrev pub IsKeepFault : RelayFault → Type 0
IsKeepFault faults.Incomplete = ⊥
IsKeepFault (faults.Log fault) = ⊥
IsKeepFault (faults.State fault) = Unit {0}
IsKeepFault faults.NoMem = Unit {0}

-- ---- What a call leaves that failed

-- the relay is whole, with what it kept, and not all had been handed out
pub record LeavesWhole (old new : RelayView) : Type 0 where
  pub whole : is_broken new ≡ false
  pub same : state_of new ≡ state_of old
  pub before : old.at ≢ places.Over

-- a fault of the log leaves the relay so. One of what is kept leaves it broken, and Broken comes only of a broken one
abbrev pub IsStepFault : (old new : RelayView) → RelayFault → Type 0
IsStepFault old new faults.Incomplete = LeavesWhole old new
IsStepFault old new (faults.Log fault) = IsReadFault fault × LeavesWhole old new
IsStepFault old new (faults.State kept.Disk) = is_broken new ≡ true
IsStepFault old new (faults.State kept.Broken) = is_broken old ≡ true
IsStepFault old new (faults.State (kept.Damaged part)) = ⊥
IsStepFault old new (faults.State (kept.Full part)) = ⊥
IsStepFault old new (faults.State kept.NoMem) = ⊥
IsStepFault old new faults.NoMem = Unit {0}

-- ---- Why a fault comes

-- of an opening: log n is incomplete, absent, or can't be read; or it is complete, and what is kept is damaged or a device call on it failed
abbrev pub IsOpenCause : (n : ℕ) → Image → RelayFault → Type 0
IsOpenCause n image faults.Incomplete = IsIncomplete n image
IsOpenCause n image (faults.Log reads.Absent) = Replays image n None
IsOpenCause n image (faults.Log (reads.Damaged part)) = IsUnreadable n part image
IsOpenCause n image (faults.Log reads.Disk) = Unit {0}
IsOpenCause n image (faults.Log reads.NoMem) = ⊥
IsOpenCause n image (faults.State kept.Disk) = IsComplete n image
IsOpenCause n image (faults.State kept.Broken) = ⊥
IsOpenCause n image (faults.State (kept.Damaged part)) = IsComplete n image × IsStateDamage n part image
IsOpenCause n image (faults.State (kept.Full part)) = ⊥
IsOpenCause n image (faults.State kept.NoMem) = ⊥
IsOpenCause n image faults.NoMem = Unit {0}

-- the same of a log that isn't marked as relayed
abbrev pub IsUndoneCause : (n : ℕ) → Image → RelayFault → Type 0
IsUndoneCause n image faults.Incomplete = IsIncomplete n image
IsUndoneCause n image (faults.Log reads.Absent) = Replays image n None
IsUndoneCause n image (faults.Log (reads.Damaged part)) = IsViewDamage n part image
IsUndoneCause n image (faults.Log reads.Disk) = Unit {0}
IsUndoneCause n image (faults.Log reads.NoMem) = ⊥
IsUndoneCause n image (faults.State kept.Disk) = IsComplete n image
IsUndoneCause n image (faults.State kept.Broken) = ⊥
IsUndoneCause n image (faults.State (kept.Damaged part)) = IsComplete n image × IsStateDamage n part image
IsUndoneCause n image (faults.State (kept.Full part)) = ⊥
IsUndoneCause n image (faults.State kept.NoMem) = ⊥
IsUndoneCause n image faults.NoMem = Unit {0}

-- of reading the log: log n is incomplete, absent or damaged, as its files read; that a device call failed is said by its count
abbrev pub IsLogCause : (n : ℕ) → DiskView → RelayFault → Type 0
IsLogCause n disk faults.Incomplete = IsIncomplete n disk.reads
IsLogCause n disk (faults.Log reads.Absent) = Replays disk.reads n None
IsLogCause n disk (faults.Log (reads.Damaged part)) = IsViewDamage n part disk.reads ⊎ IsLogDamage n part disk
IsLogCause n disk (faults.Log reads.Disk) = Unit {0}
IsLogCause n disk (faults.Log reads.NoMem) = Unit {0}
IsLogCause n disk (faults.State fault) = Unit {0}
IsLogCause n disk faults.NoMem = Unit {0}

-- the same once these records were read: this part is at fault after them, or they are all, and the exit is none
abbrev pub IsReadCause : (n : ℕ) (view : ViewState) (records : List Record) → DiskView → RelayFault → Type 0
IsReadCause n view records disk faults.Incomplete = ⊥
IsReadCause n view records disk (faults.Log reads.Absent) = ⊥
IsReadCause n view records disk (faults.Log (reads.Damaged part)) =
    IsFaultBehind (committed_laid n view.body disk) view.body records part
    ⊎ ((part ≡ ExitPart) × IsWhole view records disk × ((exit : Exit) → exit_of (committed_text n view.body disk ExitPart) ≡ Ok exit → ⊥))
IsReadCause n view records disk (faults.Log reads.Disk) = Unit {0}
IsReadCause n view records disk (faults.Log reads.NoMem) = Unit {0}
IsReadCause n view records disk (faults.State fault) = Unit {0}
IsReadCause n view records disk faults.NoMem = Unit {0}

-- of a connection that is so far: while it begins, records are passed over; then each fault comes after all records that were handed out
abbrev pub IsCauseAt : (n : ℕ) → Place → DiskView → RelayFault → Type 0
IsCauseAt n places.Idle disk fault = Unit {0}
IsCauseAt n (places.Starts view) disk fault = IsLogCause n disk fault
IsCauseAt n (places.Sends view) disk fault = (records : List Record) → HasLog n view records disk → IsReadCause n view records disk fault
IsCauseAt n places.Over disk fault = Unit {0}
