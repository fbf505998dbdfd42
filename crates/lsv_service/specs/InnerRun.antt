-- For proofs: lanes that are opened over bays, and what each leaves of its bay.
use Rattle.std.specs.Prelude.{◌≡◌, ◌<◌, ◌≤◌, ◌++◌, suc, ℕ, Result, Ok, Err, List, [], Some, length, drop, slice_get}
use Rattle.std.specs.List.{AllZip}
use Rattle.lsv_base.specs.declared.no_mem.NoMem.{NoMem as OutOfMemory}
use Rattle.lsv_disk.specs.declared.disk.Disk
use Rattle.lsv_keeper.specs.declared.fault.StoreFault.{StoreFault}
use Rattle.lsv_machine.specs.Machine.{Settings}
use Rattle.lsv_turn.specs.Turns.{LaneTurn, all_taped}
use Rattle.lsv_turn.specs.declared.lane.Lane
use Rattle.lsv_turn.specs.declared.tape.Tape
use Rattle.lsv_lane.specs.InnerLane.{Begun}
use Rattle.lsv_lane.specs.Store.{AreAnswered, AreTimed, IsFresh, KeepsStore, end_of_fault}
use Rattle.lsv_lane.specs.declared.bay.Bay.{Bay}
use Rattle.lsv_port.specs.Ledger.{Listening}
use Rattle.lsv_reactor.specs.declared.endpoint.Endpoint
use Rattle.lsv_reactor.specs.declared.rounds.PortsEnd.{PortsEnd}
use Rattle.lsv_threads.specs.Served.{AreServed}
use Rattle.lsv_service.specs.Lanes.{AreFreshBays, BayView, IsUnopened, KeepPlaces, RunsLanes, RunsServer, bay_by}
use Rattle.lsv_service.specs.Runs.{ListenAt}
use Rattle.lsv_service.specs.declared.run.End.{End}
use Rattle.lsv_service.specs.declared.run.End.TheVariants.{Over, Store, NoMem}

-- ---- Opening

-- from what the lane of this place begins over this bay
abbrev pub begin_of : {D C G : Type 0} (set : ℕ → Settings) (texts : List (List ℕ)) → ℕ → Bay D C G → Begun D G
begin_of set texts l bay = record { set = set l; texts = texts; disk = bay.disk; tape = bay.tape }

-- these lanes were opened over the first of these bays, and made no turn yet
pub record AreOpened {D C G L : Type 0} (made_by : Begun D G → L → List LaneTurn → Type 0) (set : ℕ → Settings) (texts : List (List ℕ)) (olds : List (Bay D C G)) (lanes : List L) : Type 0 where
  pub most : length lanes ≤ length olds
  pub each : (l : ℕ) (lane : L) (bay : Bay D C G) → slice_get lanes l ≡ Some lane → slice_get olds l ≡ Some bay → made_by (begin_of set texts l bay) lane []

-- the store of this lane couldn't be opened for this fault: what it left of its bay, with which the next run may begin
pub record IsRefused (disk_tells tape_tells : Type 0) (set : Settings) (texts : List (List ℕ)) (lane lanes : ℕ) (found left : BayView) (fault : StoreFault) : Type 0 where
  pub is : IsUnopened disk_tells tape_tells set texts lane lanes found left (end_of_fault Store NoMem fault)
  pub places : disk_tells → left.disk.places ≡ found.disk.places
  pub fresh : disk_tells → IsFresh lane lanes left.disk

-- the first of these bays whose store couldn't be opened is that after the opened ones
pub record RefusesOne {D C G : Type 0} (disk : Disk.Ghosts D) (tape : Tape.Ghosts G) (set : ℕ → Settings) (texts : List (List ℕ)) (lanes : ℕ) (olds : List (Bay D C G)) (opened : ℕ) (left : Bay D C G) (fault : StoreFault) (rest : List (Bay D C G)) : Type 0 where
  pub less : opened < lanes
  pub found : Bay D C G
  pub was : slice_get olds opened ≡ Some found
  pub refused : IsRefused disk.tells tape.tells (set opened) texts opened lanes (bay_by disk tape found) (bay_by disk tape left) fault
  pub rest_is : rest ≡ drop (suc opened) olds

-- ---- Giving back

-- what a lane leaves of its bay, which began from this start and made these turns
pub record LeavesBay {D G : Type 0} (disk : Disk.Ghosts D) (tape : Tape.Ghosts G) (start : Begun D G) (left : BayView) (turns : List LaneTurn) : Type 0 where
  pub kept : disk.tells → KeepsStore (Unit {0}) start.set start.texts (record { found = disk.view start.disk; left = left.disk }) turns
  pub places : disk.tells → left.disk.places ≡ (disk.view start.disk).places
  pub fresh : disk.tells → IsFresh start.set.lane start.set.lanes left.disk
  pub taped : tape.tells → left.tape ≡ tape.turns start.tape ++ all_taped turns
  pub answered : AreAnswered start.set.log_exit (disk.view start.disk).faults left.disk.faults turns
  pub timed : AreTimed turns

-- this bay is what this lane gives back, from whatever it began and whichever turns it made
abbrev pub GivesBay : {D C G L : Type 0} (disk : Disk.Ghosts D) (tape : Tape.Ghosts G) (made_by : Begun D G → L → List LaneTurn → Type 0) → L → Bay D C G → Type 0
GivesBay {D} disk tape made_by lane bay = (start : Begun _ _) (turns : List LaneTurn) → made_by start lane turns → LeavesBay disk tape start (bay_by disk tape bay) turns

-- these bays are what these lanes give back, in their order
abbrev pub GiveBays : {D C G L : Type 0} (disk : Disk.Ghosts D) (tape : Tape.Ghosts G) (made_by : Begun D G → L → List LaneTurn → Type 0) → List L → List (Bay D C G) → Type 0
GiveBays disk tape made_by lanes bays = AllZip (GivesBay disk tape made_by) lanes bays

-- ---- The whole run

-- what a run did with the stores of its lanes; each disk keeps its places, and the next run may begin with it
pub record LeavesStores {X : Type 0} (view : X → BayView) (disk_tells tape_tells : Type 0) (set : ℕ → Settings) (texts : List (List ℕ)) (lanes : ℕ) (olds news : List X) (end : End) (turns : ℕ → List LaneTurn) : Type 0 where
  pub runs : RunsLanes view disk_tells tape_tells set texts lanes olds news end turns
  pub places : disk_tells → KeepPlaces view olds news
  pub fresh : disk_tells → AreFreshBays view lanes news

-- these endpoints listened on this, and then their links were served by these lanes
pub record ListenAndServe {T L : Type 0} (words : Endpoint.Ghosts T) (lane_words : Lane.Ghosts L) (starts : ℕ → words.Start) (begins : ℕ → lane_words.Start) (asked : Listening) (olds news : List T) (count : ℕ) (lanes : List L) (end : Result PortsEnd OutOfMemory) : Type 0 where
  pub mids : List T
  pub size : length mids ≡ length olds
  pub served : AreServed words lane_words starts begins mids count news lanes end
  pub listens : words.tells → ListenAt words.view asked olds news

-- how a run ends whose endpoints were served so
abbrev pub end_of_serving : Result PortsEnd OutOfMemory → End
end_of_serving (Ok ports) = Over ports
end_of_serving (Err why) = NoMem

-- what came of a run, of its links and of its stores
pub record RunsWhole {T X : Type 0} (words : Endpoint.Ghosts T) (view : X → BayView) (disk_tells tape_tells : Type 0) (set : ℕ → Settings) (texts : List (List ℕ)) (lanes : ℕ) (starts : ℕ → words.Start) (asked : Listening) (olds news : List T) (bays left : List X) (end : End) : Type 0 where
  pub runs : RunsServer words view disk_tells tape_tells set texts lanes starts asked olds news bays left end
  pub places : disk_tells → KeepPlaces view bays left
  pub fresh : disk_tells → AreFreshBays view lanes left
