-- A run of the command `serve`: what came on the links of its ports and what was put on them, and what it did with the store of each lane, also where device calls fail and wherever the machine stops.
use Rattle.std.specs.Prelude.{◌≡◌, ◌<◌, ◌⊎◌, ℕ, List, [], ◌∷◌, Option, Some, None, true, length, map, slice_get}
use Rattle.std.specs.List.{Contains}
use Rattle.lsv_conf.specs.Lines.{Placed, first_refused}
use Rattle.lsv_conf.specs.Settings as conf
use Rattle.lsv_disk.specs.View.{DiskView, IsLeftAlone}
use Rattle.lsv_disk.specs.declared.disk.Disk
use Rattle.lsv_keeper.specs.declared.fault.StoreFault.{StoreFault}
use Rattle.lsv_lane.specs.declared.bay.Bay.{Bay}
use Rattle.lsv_port.specs.Ledger.{Listening}
use Rattle.lsv_port.specs.declared.port.Port
use Rattle.lsv_machine.specs.Machine.{Settings}
use Rattle.lsv_session.specs.declared.job.Job.{Job}
use Rattle.lsv_turn.specs.Turns.{LaneTurn, jobs_in, replies_in}
use Rattle.lsv_turn.specs.declared.tape.Tape
use Rattle.lsv_lane.specs.Store.{HasStoreCause, KeepsStore, lane_settings}
use Rattle.lsv_links.specs.Links.{PutsPrefixes, ServesPorts}
use Rattle.lsv_links.specs.Views.{PortFailed, PortView}
use Rattle.lsv_reactor.specs.declared.rounds.PortsEnd.{PortsEnd}
use Rattle.lsv_reactor.specs.declared.rounds.PortsEnd.TheVariants.{Stopped, Failed}
use Rattle.lsv_endpoint.specs.Ports.{view_by}
use Rattle.lsv_service.specs.Apart.{KeepApart}
use Rattle.lsv_service.specs.Complete.{CompletesLanes, KeepLanes}
use Rattle.lsv_service.specs.Lanes.{BayView, RunsLanes, bay_by}
use Rattle.lsv_service.specs.Runs.{ListenAt}
use Rattle.lsv_service.specs.declared.run.End.{End}
use Rattle.lsv_service.specs.declared.run.End.TheVariants as ends
use Rattle.lsv_serve.specs.declared.status.Status.{Status}
use Rattle.lsv_serve.specs.declared.status.Status.TheVariants.{NoUpstream, Pending, Served, Usage, Conf, Store, ReadFault, WriteFault, PortFault, NoMem}
use Rattle.lsv_serve.specs.Causes.{HasConfCause, HavePlacesAt, MayServeLanes}
use Rattle.lsv_serve.specs.Program.{lines_in, listening_by, prompts_of, set_by}

-- ---- The outside of a server

-- what is known of what a server stands in: a bay for each lane, with the disk of its store and the turns on its tape; and its ports
pub record ServerWorld (X : Type 0) : Type 1 where
  -- whether disks, tapes and ports tell their content
  pub disk_tells : Type 0
  pub tape_tells : Type 0
  pub ports_tell : Type 0
  -- the bays, and what is known of each
  pub bays : List X
  pub view : X → BayView
  pub ports : List PortView

-- the bay of lane 0, and those of the other lanes
abbrev pub bays_of : {D C G : Type 0} → D → C → G → List (Bay D C G) → List (Bay D C G)
bays_of d c g others = record { disk = d; clock = c; tape = g } ∷ others

-- the outside that these ports and the bays of all lanes are
abbrev pub server_of : {P D C G : Type 0} → Port.Ghosts P → Disk.Ghosts D → Tape.Ghosts G → List P → List (Bay D C G) → ServerWorld (Bay D C G)
server_of port disk tape ps bays = record {
  disk_tells = disk.tells;
  tape_tells = tape.tells;
  ports_tell = port.tells;
  bays = bays;
  view = bay_by disk tape;
  ports = map (view_by port.state port.ledger) ps;
}

-- the settings of each lane of this many, with the form of event lines and the lines of exits as they are set
abbrev pub machines_of : conf.Settings → (lanes : ℕ) → ℕ → Settings
machines_of set lanes l = lane_settings l lanes set.format set.log_exit

-- ---- A run

-- how the ports ended: each told Stop, or one couldn't listen or failed in a turn
abbrev pub ArePortsEnded : (tells : Type 0) (old new : List PortView) → PortsEnd → Type 0
ArePortsEnded tells old new Stopped = tells → (i : ℕ) (port : PortView) → slice_get new i ≡ Some port → port.state.stopped ≡ true
ArePortsEnded tells old new Failed = (i : ℕ) × ((before after : PortView) × (slice_get old i ≡ Some before) × (slice_get new i ≡ Some after) × PortFailed before after)

-- Each port was asked to listen on this, once, when it had made no turn that it hadn't made before. Or it couldn't listen, and
-- noted nothing.
abbrev pub PortsListen : {X : Type 0} → Listening → (old new : ServerWorld X) → Type 0
PortsListen asked old new = old.ports_tell → ListenAt (λ port. port) asked old.ports new.ports

-- the ports listened, the links of all of them were served by these turns of each lane, and then the ports ended so
pub record ServesLinks {X : Type 0} (lanes : ℕ) (asked : Listening) (old new : ServerWorld X) (turns : ℕ → List LaneTurn) (end : PortsEnd) : Type 0 where
  pub listens : PortsListen asked old new
  pub served : old.ports_tell → ServesPorts (λ l. old.disk_tells) lanes turns old.ports new.ports
  pub ended : ArePortsEnded old.ports_tell old.ports new.ports end

-- The links of all ports were served by these turns up to some point. Each job came of what was read, and went to its connection's
-- lane. What was put are prefixes of the answers.
pub record ServesPart {X : Type 0} (lanes : ℕ) (old new : ServerWorld X) (turns : ℕ → List LaneTurn) : Type 0 where
  pub count : length new.ports ≡ length old.ports
  pub each : (w : ℕ) (before after : PortView) → slice_get old.ports w ≡ Some before → slice_get new.ports w ≡ Some after
      → PutsPrefixes lanes w (λ l. jobs_in (turns l)) (λ l. replies_in (turns l)) before after
  pub known : (l : ℕ) (job : Job) → Contains (jobs_in (turns l)) job → job.conn.worker < length old.ports

-- the ports listened, and then memory ran out
pub record BreaksLinks {X : Type 0} (lanes : ℕ) (asked : Listening) (old new : ServerWorld X) (turns : ℕ → List LaneTurn) : Type 0 where
  pub listens : PortsListen asked old new
  pub served : old.ports_tell → ServesPart lanes old new turns

-- memory ran out before the ports listened: no turn was made, and the ports are as they were
pub record NeverListens {X : Type 0} (old new : ServerWorld X) (turns : ℕ → List LaneTurn) : Type 0 where
  pub none : (l : ℕ) → turns l ≡ []
  pub ports : new.ports ≡ old.ports

-- what became of the ports, by how the run ended. If a store can't be opened, the ports are as they were
abbrev pub EndsPorts : {X : Type 0} (lanes : ℕ) → Listening → (old new : ServerWorld X) → (ℕ → List LaneTurn) → End → Type 0
EndsPorts lanes asked old new turns (ends.Over ports) = ServesLinks lanes asked old new turns ports
EndsPorts lanes asked old new turns (ends.Store fault) = new.ports ≡ old.ports
EndsPorts lanes asked old new turns ends.NoMem = NeverListens old new turns ⊎ BreaksLinks lanes asked old new turns

-- these bays are those, but that each disk may have other places: `root` changes nothing else
pub record ArePlaced {X : Type 0} (view : X → BayView) (disk_tells : Type 0) (olds placed : List X) : Type 0 where
  pub count : length placed ≡ length olds
  pub alone : (l : ℕ) (old new : X) → slice_get olds l ≡ Some old → slice_get placed l ≡ Some new → IsLeftAlone disk_tells (view old).disk (view new).disk
  pub tape : (l : ℕ) (old new : X) → slice_get olds l ≡ Some old → slice_get placed l ≡ Some new → (view new).tape ≡ (view old).tape

-- How a run of this many lanes ended with these settings and prompts, whose ports were to listen on this. The turns of each lane are
-- what the links brought and got, what its tape kept, and what its store went through.
pub record RunsTo {X : Type 0} (set : ℕ → Settings) (texts : List (List ℕ)) (lanes : ℕ) (asked : Listening) (old new : ServerWorld X) (end : End) : Type 0 where
  pub turns : ℕ → List LaneTurn
  -- the bays when their disks had the places of the store
  pub placed : List X
  pub are_placed : ArePlaced old.view old.disk_tells old.bays placed
  pub stores : RunsLanes old.view old.disk_tells old.tape_tells set texts lanes placed new.bays end turns
  pub links : EndsPorts lanes asked old new turns end
  -- unless all stores were opened, the ports are as they were
  pub order : stores.opened < lanes → new.ports ≡ old.ports

-- nothing was done
pub record IsIdle {X : Type 0} (old new : ServerWorld X) : Type 0 where
  pub bays : new.bays ≡ old.bays
  pub ports : new.ports ≡ old.ports

-- a run by its status
abbrev pub RunsServe : {X : Type 0} → (ℕ → Settings) → List (List ℕ) → (lanes : ℕ) → Listening → (old new : ServerWorld X) → Status → Type 0
RunsServe set texts lanes asked old new Served = RunsTo set texts lanes asked old new (ends.Over Stopped)
RunsServe set texts lanes asked old new PortFault = RunsTo set texts lanes asked old new (ends.Over Failed)
RunsServe set texts lanes asked old new NoUpstream = ⊥
RunsServe set texts lanes asked old new (Pending left) = ⊥
RunsServe set texts lanes asked old new (Store fault) = RunsTo set texts lanes asked old new (ends.Store fault)
RunsServe set texts lanes asked old new NoMem = RunsTo set texts lanes asked old new ends.NoMem
RunsServe set texts lanes asked old new (Conf line) = IsIdle old new
RunsServe set texts lanes asked old new Usage = ⊥
RunsServe set texts lanes asked old new ReadFault = ⊥
RunsServe set texts lanes asked old new WriteFault = ⊥

-- why the store of one of the lanes wasn't opened
pub record HasLaneCause {X : Type 0} (lanes : ℕ) (old new : ServerWorld X) (fault : StoreFault) : Type 0 where
  pub lane : ℕ
  pub is_one : lane < lanes
  pub cause : (found left : X) → slice_get old.bays lane ≡ Some found → slice_get new.bays lane ≡ Some left → HasStoreCause old.disk_tells lane lanes (old.view found).disk (old.view left).disk fault

-- why a run ended so: its settings weren't read; else no line of them is refused, and a store wasn't opened for a cause
abbrev pub HasServeCause : {X : Type 0} (lines : List Placed) (faults faults' lanes : ℕ) → (old new : ServerWorld X) → Status → Type 0
HasServeCause lines faults faults' lanes old new Served = first_refused lines ≡ None
HasServeCause lines faults faults' lanes old new PortFault = first_refused lines ≡ None
HasServeCause lines faults faults' lanes old new NoUpstream = ⊥
HasServeCause lines faults faults' lanes old new (Pending left) = ⊥
HasServeCause lines faults faults' lanes old new (Store fault) = (first_refused lines ≡ None) × HasLaneCause lanes old new fault
HasServeCause lines faults faults' lanes old new NoMem = Unit {0}
HasServeCause lines faults faults' lanes old new (Conf line) = HasConfCause lines faults faults' line
HasServeCause lines faults faults' lanes old new Usage = ⊥
HasServeCause lines faults faults' lanes old new ReadFault = ⊥
HasServeCause lines faults faults' lanes old new WriteFault = ⊥

-- what the lanes of a run kept that came to its end of its own
abbrev pub kept_by : {X : Type 0} {set : ℕ → Settings} {texts : List (List ℕ)} {lanes : ℕ} {asked : Listening} {old new : ServerWorld X} {ports : PortsEnd} → (run : RunsTo set texts lanes asked old new (ends.Over ports)) → old.disk_tells → KeepLanes old.view set texts run.stores.opened run.placed new.bays run.turns
kept_by run told m found left below was is = (run.stores.kept m found left below was is).keeps told

-- each legal conversation that comes over a link of a port is served, if nothing is in its way
abbrev pub CompletesLinks : {X : Type 0} → (ℕ → Settings) → List (List ℕ) → (lanes : ℕ) → Listening → (old new : ServerWorld X) → Type 0
CompletesLinks set texts lanes asked old new =
    (ports : PortsEnd) (run : RunsTo set texts lanes asked old new (ends.Over ports)) (told : old.disk_tells) (ports_told : old.ports_tell) (worker : ℕ) (before after : PortView) (was : slice_get old.ports worker ≡ Some before) (is : slice_get new.ports worker ≡ Some after)
    → CompletesLanes old.view set texts lanes run.stores.opened run.placed new.bays run.turns (kept_by run told) worker before after ((run.links.served ports_told).each worker before after was is)

-- over disks and ports that tell, the lanes of a run keep apart, however it ended
abbrev pub KeepLanesApart : {X : Type 0} → (ℕ → Settings) → List (List ℕ) → (lanes : ℕ) → Listening → (old new : ServerWorld X) → Type 0
KeepLanesApart set texts lanes asked old new = (end : End) (run : RunsTo set texts lanes asked old new end) → old.disk_tells → old.ports_tell → KeepApart old.view lanes run.placed new.bays run.turns

-- how the program tells the end of a run
abbrev pub told : End → Status
told (ends.Over Stopped) = Served
told (ends.Over Failed) = PortFault
told (ends.Store fault) = Store fault
told ends.NoMem = NoMem

-- A run whose settings were read ended in some way, for a cause, and is told as this. If nothing is in its way, each legal
-- conversation is served; and the lanes keep apart.
pub record RunsAs {X : Type 0} (set : ℕ → Settings) (texts : List (List ℕ)) (lanes : ℕ) (asked : Listening) (old new : ServerWorld X) (status : Status) : Type 0 where
  pub end : End
  pub is : status ≡ told end
  pub run : RunsTo set texts lanes asked old new end
  pub cause : (fault : StoreFault) → end ≡ ends.Store fault → HasLaneCause lanes old new fault
  pub complete : CompletesLinks set texts lanes asked old new
  pub apart : KeepLanesApart set texts lanes asked old new

-- a run of `serve` of this many lanes with the settings file as it was found, and with the number of --stop-after if the words have one
pub record ServesAs {X : Type 0} (lanes : ℕ) (stop_after : Option ℕ) (found : Option (List ℕ)) (faults faults' : ℕ) (old new : ServerWorld X) (status : Status) : Type 0 where
  pub runs : RunsServe (machines_of (set_by found) lanes) (prompts_of (set_by found)) lanes (listening_by (set_by found) stop_after) old new status
  pub cause : HasServeCause (lines_in found) faults faults' lanes old new status
  pub complete : CompletesLinks (machines_of (set_by found) lanes) (prompts_of (set_by found)) lanes (listening_by (set_by found) stop_after) old new
  pub apart : KeepLanesApart (machines_of (set_by found) lanes) (prompts_of (set_by found)) lanes (listening_by (set_by found) stop_after) old new
  pub places : old.disk_tells → HavePlacesAt old.view (set_by found).iolog_dir (set_by found).path old.bays new.bays status
  pub again : old.disk_tells → MayServeLanes old.view lanes old.bays new.bays
