-- A run of the command `relay`: what became of the logs of the store, which connections were made, and what it leaves of the store.
use Rattle.std.specs.Prelude.{◌≡◌, ◌⊎◌, ◌≤◌, ℕ, List, Option, Some, None}
use Rattle.lsv_conf.specs.Lines.{Placed, first_refused}
use Rattle.lsv_disk.specs.Throughout.{Jointly, OnlyReads}
use Rattle.lsv_disk.specs.View.{DiskView, Elsewhere, IsCrashImage, IsLeftAlone}
use Rattle.lsv_disk.specs.declared.disk.Disk
use Rattle.lsv_disk.specs.declared.file.Owner.TheVariants as owners
use Rattle.lsv_forward.specs.Numbers.{HasNumbersCause}
use Rattle.lsv_forward.specs.Run.{Forwards, IsOfRelays, Stops}
use Rattle.lsv_forward.specs.declared.fault.NumbersFault.{NumbersFault}
use Rattle.lsv_forward.specs.declared.fault.NumbersFault.TheVariants as numbers
use Rattle.lsv_keeper.specs.Reading.{reading_of}
use Rattle.lsv_keeper.specs.declared.fault.StoreFault.{StoreFault}
use Rattle.lsv_keeper.specs.declared.fault.StoreFault.TheVariants as faults
use Rattle.lsv_lane.specs.Store.{IsFresh}
use Rattle.lsv_link.specs.Link.{LinkCounts, LinkState}
use Rattle.lsv_link.specs.declared.link.Link
use Rattle.lsv_machine.specs.Disks.{AsBefore, KeepsNumbers, LinesRest, NumbersFit, Rests}
use Rattle.lsv_seq.specs.Drawn.{numbers_file}
use Rattle.lsv_serve.specs.declared.status.Status.{Status}
use Rattle.lsv_serve.specs.declared.status.Status.TheVariants.{Served, NoUpstream, Usage, Conf, Store, ReadFault, WriteFault, PortFault, Pending, NoMem}
use Rattle.lsv_serve.specs.Causes.{HasConfCause, HasPlacesAt}
use Rattle.lsv_serve.specs.Program.{lines_in, set_by, upstream_of}

-- ---- The outside of a relay

-- what is known of the disk of the store and of the link to the other server
pub record RelayWorld : Type 1 where
  -- whether the disk and the link tell their content
  pub disk_tells : Type 0
  pub link_tells : Type 0
  pub disk : DiskView
  -- the connections so far, and how often a call on one failed or had to wait
  pub link : LinkState
  pub counts : LinkCounts

-- the outside that these are
abbrev pub relay_of : {D L : Type 0} → Disk.Ghosts D → Link.Ghosts L → D → L → RelayWorld
relay_of disk link d l = record {
  disk_tells = disk.tells;
  link_tells = link.tells;
  disk = disk.view d;
  link = link.state l;
  counts = link.counts l;
}

-- ---- The logs

-- the run took all logs of the store, for the host that the settings name, and this number of logs is left
pub record RunsLogs {D : Type 0} (view : D → DiskView) (upstream : Option (List ℕ)) (old new : RelayWorld) (left : ℕ) : Type 0 where
  pub host : List ℕ
  pub host_is : upstream ≡ Some host
  pub logs : Forwards view host old.disk_tells old.link_tells old.disk new.disk old.link new.link old.counts new.counts left

-- memory ran out in the midst of the logs, for the host that the settings name
pub record StopsLogs {D : Type 0} (view : D → DiskView) (upstream : Option (List ℕ)) (old new : RelayWorld) : Type 0 where
  pub host : List ℕ
  pub host_is : upstream ≡ Some host
  pub logs : Stops view host old.disk_tells old.link_tells old.disk new.disk old.link new.link old.counts new.counts

-- nobody was connected to
abbrev pub IsUnlinked : (old new : RelayWorld) → Type 0
IsUnlinked old new = new.link ≡ old.link

-- nobody was connected to, and no file was touched
pub record IsIdle (old new : RelayWorld) : Type 0 where
  pub unlinked : IsUnlinked old new
  pub disk : IsLeftAlone old.disk_tells old.disk new.disk

-- a fault of the numbers, as one of the store
abbrev pub store_fault : NumbersFault → StoreFault
store_fault (numbers.Disk lane) = faults.Device (owners.Numbers lane)
store_fault (numbers.Damaged lane) = faults.Damaged (numbers_file lane)

-- the numbers couldn't be read, for this cause: nobody was connected to, and files were only read, at the places of the settings
pub record IsUnread (upstream : Option (List ℕ)) (old new : RelayWorld) (fault : StoreFault) : Type 0 where
  pub host : List ℕ
  pub host_is : upstream ≡ Some host
  pub of_numbers : NumbersFault
  pub is : fault ≡ store_fault of_numbers
  pub cause : HasNumbersCause old.disk_tells old.disk new.disk of_numbers
  pub unlinked : IsUnlinked old new
  pub reads : old.disk_tells → OnlyReads (record old.disk { places = new.disk.places }) new.disk

-- a run by its status, for the host that the settings name, if they name one and ask for it
abbrev pub RunsRelay : {D : Type 0} (view : D → DiskView) → Option (List ℕ) → (old new : RelayWorld) → Status → Type 0
RunsRelay view upstream old new Served = RunsLogs view upstream old new 0
RunsRelay view upstream old new (Pending left) = (1 ≤ left) × RunsLogs view upstream old new left
RunsRelay view upstream old new NoUpstream = (upstream ≡ None) × IsIdle old new
RunsRelay view upstream old new (Store fault) = IsUnread upstream old new fault
RunsRelay view upstream old new (Conf line) = IsUnlinked old new
RunsRelay view upstream old new NoMem = IsIdle old new ⊎ StopsLogs view upstream old new
RunsRelay view upstream old new Usage = ⊥
RunsRelay view upstream old new ReadFault = ⊥
RunsRelay view upstream old new WriteFault = ⊥
RunsRelay view upstream old new PortFault = ⊥

-- why a run ended so: its settings weren't read, or no line of them is refused
abbrev pub HasRelayCause : (lines : List Placed) (faults faults' : ℕ) → Status → Type 0
HasRelayCause lines faults faults' Served = first_refused lines ≡ None
HasRelayCause lines faults faults' (Pending left) = first_refused lines ≡ None
HasRelayCause lines faults faults' NoUpstream = first_refused lines ≡ None
HasRelayCause lines faults faults' (Store fault) = first_refused lines ≡ None
HasRelayCause lines faults faults' NoMem = Unit {0}
HasRelayCause lines faults faults' (Conf line) = HasConfCause lines faults faults' line
HasRelayCause lines faults faults' Usage = ⊥
HasRelayCause lines faults faults' ReadFault = ⊥
HasRelayCause lines faults faults' WriteFault = ⊥
HasRelayCause lines faults faults' PortFault = ⊥

-- ---- The store

-- files of relaying alone are changed: at each moment and at the end each crash image holds of each log, of the numbers and of each event log what one held before, and they read as they did. So the
-- next run goes on with the store as if no relay had run
pub record RestsStore (old new : DiskView) : Type 0 where
  pub elsewhere : Elsewhere IsOfRelays old new
  pub logs : (lane lanes n : ℕ) → Jointly (AsBefore (reading_of lane lanes) n (IsCrashImage old)) old new × Rests (reading_of lane lanes) n old new
  pub lines : (lane lanes : ℕ) → LinesRest (reading_of lane lanes) old new
  pub numbers : (lane lanes : ℕ) → NumbersFit (reading_of lane lanes) lane lanes (IsCrashImage old) → KeepsNumbers (reading_of lane lanes) lane lanes old new
  pub fresh_again : (lane lanes : ℕ) → IsFresh lane lanes old → IsFresh lane lanes new

-- a run of `relay` with the settings file as it was found
pub record RelaysAs {D : Type 0} (view : D → DiskView) (found : Option (List ℕ)) (faults faults' : ℕ) (old new : RelayWorld) (status : Status) : Type 0 where
  pub runs : RunsRelay view (upstream_of (set_by found)) old new status
  pub cause : HasRelayCause (lines_in found) faults faults' status
  pub rests : old.disk_tells → RestsStore old.disk new.disk
  pub places : old.disk_tells → HasPlacesAt (set_by found).iolog_dir (set_by found).path old.disk new.disk status
