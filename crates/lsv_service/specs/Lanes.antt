-- A run of a server over the stores of its lanes, each in a bay of its own: each lane's list of turns is what came to it, what it replied, and what its store went through.
use Rattle.std.specs.Prelude.{◌≡◌, ◌⊎◌, ◌<◌, ◌≤◌, ℕ, List, [], Some, length, slice_get}
use Rattle.atomic_table.specs.Seated.{TableId}
use Rattle.lsv_disk.specs.View.{DiskView}
use Rattle.lsv_disk.specs.declared.disk.Disk
use Rattle.lsv_keeper.specs.declared.fault.StoreFault.{StoreFault}
use Rattle.lsv_lane.specs.Store.{HasStoreCause, IsFresh}
use Rattle.lsv_lane.specs.declared.bay.Bay.{Bay}
use Rattle.lsv_machine.specs.Machine.{Settings}
use Rattle.lsv_port.specs.Ledger.{Listening}
use Rattle.lsv_reactor.specs.declared.endpoint.Endpoint
use Rattle.lsv_reactor.specs.declared.rounds.PortsEnd.TheVariants.{Stopped}
use Rattle.lsv_threads.specs.Served.{PutsLanes, ServesLanes}
use Rattle.lsv_turn.specs.Turns.{AreTaken, LaneTurn, TapeTurn}
use Rattle.lsv_turn.specs.declared.tape.Tape
use Rattle.lsv_service.specs.Runs.{ListenAt, RunsStore}
use Rattle.lsv_service.specs.declared.run.End.{End}
use Rattle.lsv_service.specs.declared.run.End.TheVariants.{Over, Store, NoMem}

-- ---- Bays

-- what is known of a bay: its disk, and the turns on its tape
pub record BayView : Type 1 where
  pub disk : DiskView
  pub tape : List TapeTurn

-- what is known of this bay
abbrev pub bay_by : {D C G : Type 0} → Disk.Ghosts D → Tape.Ghosts G → Bay D C G → BayView
bay_by disk tape bay = record { disk = disk.view bay.disk; tape = tape.turns bay.tape }

-- each of the first `lanes` bays has a disk that this server's runs leave, as that of the lane of its place
abbrev pub AreFreshBays : {X : Type 0} (view : X → BayView) (lanes : ℕ) → List X → Type 0
AreFreshBays {X} view lanes bays = (l : ℕ) (bay : X) → l < lanes → slice_get bays l ≡ Some bay → IsFresh l lanes (view bay).disk

-- the disks of these bays have the places that they had
abbrev pub KeepPlaces : {X : Type 0} (view : X → BayView) (olds news : List X) → Type 0
KeepPlaces {X} view olds news = (l : ℕ) (old new : X) → slice_get olds l ≡ Some old → slice_get news l ≡ Some new → (view new).disk.places ≡ (view old).disk.places

-- ---- Opening

-- how many stores were opened, by how the run ended: all, or fewer if one couldn't be opened. Out of memory it may be any number
abbrev pub OpensSome : End → (lanes opened : ℕ) → Type 0
OpensSome (Over ports) lanes opened = opened ≡ lanes
OpensSome (Store fault) lanes opened = opened < lanes
OpensSome NoMem lanes opened = opened ≤ lanes

-- By which end the store of an opened lane is described: one that says that it was opened.
abbrev pub end_of_open : End → End
end_of_open (Over ports) = Over ports
end_of_open (Store fault) = Over Stopped
end_of_open NoMem = Over Stopped

-- the store of this lane wasn't opened, for a cause, or for want of memory; and if for a cause, its tape is as it was
pub record IsUnopened (disk_tells tape_tells : Type 0) (set : Settings) (texts : List (List ℕ)) (lane lanes : ℕ) (found left : BayView) (end : End) : Type 0 where
  pub run : RunsStore disk_tells tape_tells set texts found.disk left.disk found.tape left.tape end []
  pub cause : (fault : StoreFault) → end ≡ Store fault → HasStoreCause disk_tells lane lanes found.disk left.disk fault
  pub tape : (fault : StoreFault) → end ≡ Store fault → left.tape ≡ found.tape

-- the run leaves this bay alone: it is of no lane, or after the one whose store couldn't be opened
abbrev pub IsBeside : (opened lanes l : ℕ) → Type 0
IsBeside opened lanes l = (opened < l) ⊎ (lanes ≤ l)

-- ---- The run

-- The stores of the first `opened` lanes were opened, in order. Each lane made its turns; its tape kept them, and its store went
-- through them. Unless all stores were opened, no turn was made.
pub record RunsLanes {X : Type 0} (view : X → BayView) (disk_tells tape_tells : Type 0) (set : ℕ → Settings) (texts : List (List ℕ)) (lanes : ℕ) (olds news : List X) (end : End) (turns : ℕ → List LaneTurn) : Type 0 where
  pub count : length news ≡ length olds
  pub opened : ℕ
  pub some : OpensSome end lanes opened
  pub past : (l : ℕ) → opened ≤ l → turns l ≡ []
  pub idle : opened < lanes → (l : ℕ) → turns l ≡ []
  pub taken : (l : ℕ) → (queue : TableId) × AreTaken queue 0 (turns l)
  pub kept : (l : ℕ) (found left : X) → l < opened → slice_get olds l ≡ Some found → slice_get news l ≡ Some left
      → RunsStore disk_tells tape_tells (set l) texts (view found).disk (view left).disk (view found).tape (view left).tape (end_of_open end) (turns l)
  pub unopened : (found left : X) → opened < lanes → slice_get olds opened ≡ Some found → slice_get news opened ≡ Some left → IsUnopened disk_tells tape_tells (set opened) texts opened lanes (view found) (view left) end
  pub beside : (l : ℕ) (found left : X) → IsBeside opened lanes l → slice_get olds l ≡ Some found → slice_get news l ≡ Some left → left ≡ found

-- ---- The ports

-- What endpoints did out of memory. None did anything, and no turn was made. Or each listened at this, and their links were served
-- up to some point (`PutsLanes`).
abbrev pub BreaksOff : {T : Type 0} (words : Endpoint.Ghosts T) (lanes : ℕ) (starts : ℕ → words.Start) (asked : Listening) (olds news : List T) (turns : ℕ → List LaneTurn) → Type 0
BreaksOff words lanes starts asked olds news turns = (((l : ℕ) → turns l ≡ []) × (news ≡ olds)) ⊎ ((words.tells → ListenAt words.view asked olds news) × PutsLanes words lanes starts news turns)

-- What the endpoints did, by how the run ended. Each listened on this, and all links were served by the turns; out of memory they
-- were served up to some point. If a store couldn't be opened, the endpoints did nothing.
abbrev pub LeavesLinks : {T : Type 0} (words : Endpoint.Ghosts T) (lane_tells : Type 0) (lanes : ℕ) (starts : ℕ → words.Start) (asked : Listening) (olds news : List T) (turns : ℕ → List LaneTurn) → End → Type 0
LeavesLinks words lane_tells lanes starts asked olds news turns (Over ports) = (words.tells → ListenAt words.view asked olds news) × ServesLanes words lane_tells lanes starts news turns ports
LeavesLinks words lane_tells lanes starts asked olds news turns (Store fault) = news ≡ olds
LeavesLinks words lane_tells lanes starts asked olds news turns NoMem = BreaksOff words lanes starts asked olds news turns

-- What came of a run: these turns of each lane describe its stores and its links
pub record RunsServer {T X : Type 0} (words : Endpoint.Ghosts T) (view : X → BayView) (disk_tells tape_tells : Type 0) (set : ℕ → Settings) (texts : List (List ℕ)) (lanes : ℕ) (starts : ℕ → words.Start) (asked : Listening) (olds news : List T) (bays bays' : List X) (end : End) : Type 0 where
  pub turns : ℕ → List LaneTurn
  pub stores : RunsLanes view disk_tells tape_tells set texts lanes bays bays' end turns
  pub count : length news ≡ length olds
  pub links : LeavesLinks words disk_tells lanes starts asked olds news turns end
  -- unless all stores were opened, the endpoints did nothing
  pub order : stores.opened < lanes → news ≡ olds
