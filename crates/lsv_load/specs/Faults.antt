-- Why the logs of a load aren't replayed.
use Rattle.std.specs.Prelude.{◌≡◌, ◌≢◌, ◌<◌, ◌≤◌, ◌^◌, ◌⊎◌, ℕ, List, None}
use Rattle.std.specs.List.{Contains}
use Rattle.lsv_bundle.specs.Body.{length_of}
use Rattle.lsv_bundle.specs.declared.body.Body.{Body}
use Rattle.lsv_disk.specs.Files.{file_of}
use Rattle.lsv_disk.specs.View.{DiskView, Image}
use Rattle.lsv_disk.specs.declared.file.Part.{Part}
use Rattle.lsv_disk.specs.declared.file.Part.TheVariants.{Exit, Slots, Timing}
use Rattle.lsv_info.specs.declared.times.Head.{Head}
use Rattle.lsv_iolog.specs.Damage.{IsViewDamage}
use Rattle.lsv_iolog.specs.Recovered.{Replays, owner_of}
use Rattle.lsv_iolog.specs.declared.fault.ViewFault.{ViewFault}
use Rattle.lsv_iolog.specs.declared.fault.ViewFault.TheVariants as views
use Rattle.lsv_keeper.specs.declared.fault.StoreFault.{StoreFault}
use Rattle.lsv_keeper.specs.declared.fault.StoreFault.TheVariants.{Damaged, Device, LanesDiffer, NoMem}
use Rattle.lsv_lane.specs.Store.{OwnerFailed}
use Rattle.lsv_play.specs.Playing.{AreBeforeFault, IsOpened, laid_at}
use Rattle.lsv_record.specs.declared.records.Record.{Record}
use Rattle.lsv_load.specs.Replayed.{HasNoLog}

-- ---- Which part of a log is at fault

-- an entry of a log tells of the bytes of an exit exactly where the log is complete, and of no more timing than a log has
pub record IsFitting (body : Body) : Type 0 where
  pub some : body.kind ≡ 3 → 0 < length_of body Exit
  pub none : body.kind ≢ 3 → length_of body Exit ≡ 0
  pub small : length_of body Timing ≤ 2 ^ 40

-- it tells of no exit of a complete log, or of an exit of another one
abbrev pub HasWrongExit : Body → Type 0
HasWrongExit body = ((body.kind ≡ 3) × (length_of body Exit ≡ 0)) ⊎ ((body.kind ≢ 3) × (0 < length_of body Exit))

-- an entry isn't one that a log has: by its exit, or else by its timing
abbrev pub IsMisfit : Body → Part → Type 0
IsMisfit body part = ((part ≡ Exit) × HasWrongExit body) ⊎ ((part ≡ Timing) × (HasWrongExit body → ⊥) × (2 ^ 40 < length_of body Timing))

-- the log is opened, but its last entry isn't one that a log has; or else this part is at fault after the records before the first fault
pub record IsFaulty (n : ℕ) (part : Part) (image : Image) : Type 0 where
  pub body : Body
  pub head : Head
  pub opened : IsOpened n body head image
  pub fault : IsMisfit body part ⊎ (IsFitting body × ((records : List Record) × AreBeforeFault (laid_at n body image) body part records))

-- this part of a log is at fault: its journal, if it has no entry; a file that is absent or short, or a head that is none; or as above
abbrev pub IsAtFault : ℕ → Part → Image → Type 0
IsAtFault n part image = ((part ≡ Slots) × Replays image n None) ⊎ IsViewDamage n part image ⊎ IsFaulty n part image

-- an image of the disk has no log of this number, for this part of it is at fault
pub record IsUnreadable (n : ℕ) (part : Part) (image : Image) : Type 0 where
  pub none : HasNoLog image n
  pub fault : IsAtFault n part image

-- ---- The fault of a load

-- the fault of a log that isn't replayed, as one of its store: an absent log lacks its journal
abbrev pub fault_of : ℕ → ViewFault → StoreFault
fault_of n views.Absent = Damaged (file_of (owner_of n) Slots)
fault_of n (views.Damaged part) = Damaged (file_of (owner_of n) part)
fault_of n views.Disk = Device (owner_of n)
fault_of n views.NoMem = NoMem

-- why the logs of these numbers aren't replayed: a call on a file of one failed, or this file of one is at fault, of which the disk has no log
abbrev pub HasReplayCause : (disk_tells : Type 0) (numbers : List ℕ) (old new : DiskView) → StoreFault → Type 0
HasReplayCause disk_tells numbers old new (Device o) = (n : ℕ) × Contains numbers n × (o ≡ owner_of n) × OwnerFailed o old new
HasReplayCause disk_tells numbers old new (Damaged file) = (n : ℕ) × Contains numbers n × (file.owner ≡ owner_of n) × (disk_tells → IsUnreadable n file.part new.reads)
HasReplayCause disk_tells numbers old new (LanesDiffer kept asked) = ⊥
HasReplayCause disk_tells numbers old new NoMem = Unit {0}
