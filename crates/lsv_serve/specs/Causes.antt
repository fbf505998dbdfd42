-- Why settings weren't read, and what a run leaves of its disk for the next one.
use Rattle.std.specs.Prelude.{◌≡◌, ◌<◌, ◌≤◌, ◌⊎◌, ℕ, List, Some, None, option_map, slice_get}
use Rattle.lsv_defs.specs.Causes.{HasRisen}
use Rattle.lsv_conf.specs.Lines.{Placed, first_refused}
use Rattle.lsv_conf.specs.Settings.{told}
use Rattle.lsv_disk.specs.View.{DiskView, IsCrashImage}
use Rattle.lsv_machine.specs.Disks.{NumbersFit}
use Rattle.lsv_keeper.specs.Reading.{reading_of}
use Rattle.lsv_lane.specs.Store.{IsFresh}
use Rattle.lsv_service.specs.Lanes.{BayView}
use Rattle.lsv_serve.specs.declared.status.Status.{Status}
use Rattle.lsv_serve.specs.declared.status.Status.TheVariants.{NoUpstream, Pending, Served, Usage, Conf, Store, ReadFault, WriteFault, PortFault, NoMem}

-- why settings weren't read: with 0 the reading of their file failed, with another number this line is the first that is refused
abbrev pub HasConfCause : (lines : List Placed) (faults faults' line : ℕ) → Type 0
HasConfCause lines faults faults' line = ((line ≡ 0) × HasRisen faults faults') ⊎ ((1 ≤ line) × (option_map told (first_refused lines) ≡ Some line))

-- the places of the store that the disk was given are this folder of logs and this event log; or it has none
abbrev pub HasPlaces : (logs events : List ℕ) → DiskView → Type 0
HasPlaces logs events disk = (disk.places ≡ Some (record { logs = logs; events = events })) ⊎ (disk.places ≡ None)

-- the places after a run of the program, by its status: a disk that wasn't given any has those of before
abbrev pub HasPlacesAt : (logs events : List ℕ) (old new : DiskView) → Status → Type 0
HasPlacesAt logs events old new Served = HasPlaces logs events new
HasPlacesAt logs events old new Usage = new.places ≡ old.places
HasPlacesAt logs events old new (Conf line) = new.places ≡ old.places
HasPlacesAt logs events old new (Store fault) = HasPlaces logs events new
HasPlacesAt logs events old new ReadFault = HasPlaces logs events new
HasPlacesAt logs events old new WriteFault = HasPlaces logs events new
HasPlacesAt logs events old new PortFault = HasPlaces logs events new
HasPlacesAt logs events old new NoUpstream = new.places ≡ old.places
HasPlacesAt logs events old new (Pending left) = HasPlaces logs events new
HasPlacesAt logs events old new NoMem = HasPlaces logs events new ⊎ (new.places ≡ old.places)

-- if a run could begin with the old disk, one may begin with the new one. If the numbers fitted the old crash images, they fit the new ones
pub record MayServeAgain (old new : DiskView) : Type 0 where
  pub fresh : IsFresh 0 1 old → IsFresh 0 1 new
  pub fits : NumbersFit (reading_of 0 1) 0 1 (IsCrashImage old) → NumbersFit (reading_of 0 1) 0 1 (IsCrashImage new)

-- ---- Of several lanes

-- each bay's disk has this folder of logs and this event log, or no places
abbrev pub HavePlaces : {X : Type 0} (view : X → BayView) (logs events : List ℕ) → List X → Type 0
HavePlaces {X} view logs events bays = (l : ℕ) (bay : X) → slice_get bays l ≡ Some bay → HasPlaces logs events (view bay).disk

-- the places of each bay's disk after a run of the program, by its status
abbrev pub HavePlacesAt : {X : Type 0} (view : X → BayView) (logs events : List ℕ) (olds news : List X) → Status → Type 0
HavePlacesAt {X} view logs events olds news status = (l : ℕ) (old new : X) → slice_get olds l ≡ Some old → slice_get news l ≡ Some new → HasPlacesAt logs events (view old).disk (view new).disk status

-- if a run of a lane could begin with the old disk, one may begin with the new one. If the numbers fitted the old crash images, they fit the new ones
pub record LaneMayServe (lane lanes : ℕ) (old new : DiskView) : Type 0 where
  pub fresh : IsFresh lane lanes old → IsFresh lane lanes new
  pub fits : NumbersFit (reading_of lane lanes) lane lanes (IsCrashImage old) → NumbersFit (reading_of lane lanes) lane lanes (IsCrashImage new)

-- so may each lane of a run of this many
abbrev pub MayServeLanes : {X : Type 0} (view : X → BayView) (lanes : ℕ) (olds news : List X) → Type 0
MayServeLanes {X} view lanes olds news = (l : ℕ) (old new : X) → l < lanes → slice_get olds l ≡ Some old → slice_get news l ≡ Some new → LaneMayServe l lanes (view old).disk (view new).disk
