-- What opening a store gives: what the keeper is set to, why a store isn't opened, and what an opened one stands for.
use Rattle.std.specs.Prelude.{◌≡◌, ◌≤◌, ◌⊎◌, ℕ, Bool, List, [], None, Ok, Err}
use Rattle.lsv_bundle.specs.Committed.{IsDamaged}
use Rattle.lsv_bundle.specs.declared.fault.BundleFault.{BundleFault}
use Rattle.lsv_bundle.specs.declared.fault.BundleFault.TheVariants as bundle
use Rattle.lsv_bundle.specs.declared.shape.Shape.TheVariants as shapes
use Rattle.lsv_disk.specs.Files.{file_of}
use Rattle.lsv_disk.specs.View.{DiskView, Image}
use Rattle.lsv_disk.specs.declared.file.Owner.TheVariants as owners
use Rattle.lsv_event.specs.declared.event.Kind.{Kind}
use Rattle.lsv_seq.specs.Drawn.{IsAsSomeCrash, entry_at, judged, numbers_file}
use Rattle.lsv_seq.specs.Represents as numbers
use Rattle.lsv_seq.specs.Value.{lane_of, lanes_of, last_of, pending_of}
use Rattle.lsv_seq.specs.declared.fault.SeqFault.{SeqFault}
use Rattle.lsv_seq.specs.declared.fault.SeqFault.TheVariants as faults
use Rattle.lsv_seq.specs.declared.numbers.Numbers.{Numbers}
use Rattle.lsv_eventlog.specs.Inner.{IsEventLog}
use Rattle.lsv_eventlog.specs.Recovered.{HoldsLines}
use Rattle.lsv_eventlog.specs.Value as events
use Rattle.lsv_eventlog.specs.Value.{EventLogView}
use Rattle.lsv_machine.specs.Keeping.{Opened}
use Rattle.lsv_machine.specs.Machine.{Machine}
use Rattle.lsv_keeper.specs.Reading.{reading_of}
use Rattle.lsv_keeper.specs.Represents.{Represents}
use Rattle.lsv_keeper.specs.Value.{KeeperView, settings_of}
use Rattle.lsv_keeper.specs.declared.fault.StoreFault.{StoreFault}
use Rattle.lsv_keeper.specs.declared.fault.StoreFault.TheVariants.{Damaged, Device, LanesDiffer, NoMem}

-- what the words and settings of the run say
pub record IsSetTo (lane lanes : ℕ) (kind : Kind) (log_exit : Bool) (texts : List (List ℕ)) (v : KeeperView) : Type 0 where
  pub lane_is : v.lane ≡ lane
  pub lanes_is : v.lanes ≡ lanes
  pub kind_is : v.kind ≡ kind
  pub log_exit_is : v.log_exit ≡ log_exit
  pub texts_are : v.texts ≡ texts

-- why the numbers of an image aren't opened: a device call on a file of theirs failed, or their last entry is of another number of lanes, or isn't one of this lane's
abbrev pub IsNumbersFault : (lane lanes : ℕ) → Image → StoreFault → Type 0
IsNumbersFault lane lanes found (Device o) = o ≡ owners.Numbers lane
IsNumbersFault lane lanes found (Damaged file) = (file ≡ numbers_file lane) × (judged lane lanes (entry_at lane found) ≡ Err faults.Damaged)
IsNumbersFault lane lanes found (LanesDiffer kept asked) = judged lane lanes (entry_at lane found) ≡ Err (faults.LanesDiffer kept asked)
IsNumbersFault lane lanes found NoMem = ⊥

-- why the event log of an image isn't opened: a device call on a file of its failed, its lines are absent or fewer than its last entry says, or memory runs out
abbrev pub IsEventsFault : (lane : ℕ) → Image → StoreFault → Type 0
IsEventsFault lane found (Device o) = o ≡ owners.Events lane
IsEventsFault lane found (Damaged file) = (file.owner ≡ owners.Events lane) × IsDamaged (owners.Events lane) shapes.Lines found file.part
IsEventsFault lane found (LanesDiffer kept asked) = ⊥
IsEventsFault lane found NoMem = Unit {0}

-- why the store of an image isn't opened: by its numbers; or they are the lane's, and by its event log
abbrev pub IsStoreFault : (lane lanes : ℕ) → Image → StoreFault → Type 0
IsStoreFault lane lanes found fault = IsNumbersFault lane lanes found fault ⊎ (((last : ℕ) × (judged lane lanes (entry_at lane found) ≡ Ok last)) × IsEventsFault lane found fault)

-- a fault of the numbers, as one of the store
abbrev pub number_fault : (lane : ℕ) → SeqFault → StoreFault
number_fault lane faults.Disk = Device (owners.Numbers lane)
number_fault lane (faults.LanesDiffer kept asked) = LanesDiffer kept asked
number_fault lane faults.Damaged = Damaged (numbers_file lane)

-- and one of the event log
abbrev pub events_fault : (lane : ℕ) → BundleFault → StoreFault
events_fault lane bundle.Disk = Device (owners.Events lane)
events_fault lane bundle.Broken = Device (owners.Events lane)
events_fault lane (bundle.Damaged part) = Damaged (file_of (owners.Events lane) part)
events_fault lane (bundle.Full part) = Device (owners.Events lane)
events_fault lane bundle.NoMem = NoMem

-- the numbers of a lane, as they are opened: those that the disk reads as
pub record OpensNumbers (lane lanes : ℕ) (found new : DiskView) (n : Numbers) : Type 0 where
  pub lane_is : lane_of n ≡ lane
  pub lanes_is : lanes_of n ≡ lanes
  pub whole : pending_of n ≡ None
  pub read : judged lane lanes (entry_at lane found.reads) ≡ Ok (last_of n)
  pub represents : numbers.Represents n new

-- the last entry of a lane's numbers stays: at each moment it is that of some crash image before, and it reads as it did
pub record KeepsEntry (lane : ℕ) (found new : DiskView) : Type 0 where
  pub moments : (k : ℕ) (image : Image) → found.moment ≤ k → k ≤ new.moment → new.crash_images_at k image → IsAsSomeCrash lane found image
  pub reads : entry_at lane new.reads ≡ entry_at lane found.reads

-- the event log of a lane, as it is opened: the lines that the disk reads as are committed, and none is added
pub record OpensEvents (lane : ℕ) (found new : DiskView) (log : EventLogView) : Type 0 where
  pub is : events.IsOpened lane log
  pub sound : IsEventLog log
  pub held : HoldsLines found.reads lane (events.committed_text log new)
  pub represents : events.Represents log new

-- the keeper of an opened store and its disk stand for a machine that is what the disk reads as
abbrev pub OpensAs : (lane lanes : ℕ) → (texts : List (List ℕ)) → (found new : DiskView) → KeeperView → Type 0
OpensAs lane lanes texts found new v = (m : Machine) × Opened (reading_of lane lanes) (settings_of v) texts m found new × Represents v new m × (m.fresh ≡ [])
