-- A load: the conversations were served from a port of their own, and then the logs of which the replies told were summed up.
use Rattle.std.specs.Prelude.{◌≡◌, ◌≢◌, ◌≤◌, ◌⊎◌, ℕ, true, false, List, [], None, Contains}
use Rattle.lsv_disk.specs.Throughout.{OnlyReads}
use Rattle.lsv_disk.specs.View.{DiskView}
use Rattle.lsv_gen.specs.Load.{conversation}
use Rattle.lsv_gen.specs.Summary.{summary}
use Rattle.lsv_keeper.specs.declared.fault.StoreFault.{StoreFault}
use Rattle.lsv_lane.specs.Store.{HasStoreCause}
use Rattle.lsv_machine.specs.Machine.{Settings}
use Rattle.lsv_port.specs.Memory.Value.{PortValue, TellsScript, TellsSteps, port_ledger, port_state}
use Rattle.lsv_links.specs.Lanes.{one_lane}
use Rattle.lsv_links.specs.Links.{PutsPrefixes, ServesPort}
use Rattle.lsv_links.specs.Turns.{AreSized}
use Rattle.lsv_links.specs.Views.{PortView}
use Rattle.lsv_reactor.specs.declared.rounds.PortsEnd.TheVariants.{Stopped}
use Rattle.lsv_record.specs.Points.{Stored}
use Rattle.lsv_session.specs.declared.job.Job.{Job}
use Rattle.lsv_service.specs.Runs.{RunsStore}
use Rattle.lsv_service.specs.declared.run.End.{End}
use Rattle.lsv_service.specs.declared.run.End.TheVariants as ends
use Rattle.lsv_turn.specs.Turns.{LaneTurn, TapeTurn, jobs_in, replies_in}
use Rattle.lsv_load.specs.Faults.{HasReplayCause}
use Rattle.lsv_load.specs.Load.{load_script}
use Rattle.lsv_load.specs.Numbers.{numbers_told}
use Rattle.lsv_load.specs.Replayed.{AreReplayed}
use Rattle.lsv_load.specs.declared.run.LoadEnd.{LoadEnd}
use Rattle.lsv_load.specs.declared.run.LoadEnd.TheVariants.{NoMem, Served, Store}

-- ---- The port

-- what is known of a port in memory
abbrev pub view_of : PortValue → PortView
view_of port = record { state = port_state port; ledger = port_ledger port }

-- the port of a load of this many conversations, to which nothing has come yet: it made no turn, didn't fail, and wasn't asked to listen
pub record IsNew (count : ℕ) (port : PortValue) : Type 0 where
  pub script : port.script ≡ load_script count
  pub opened : (port_state port).opened ≡ []
  pub going : (port_state port).stopped ≡ false
  pub well : (port_state port).failed ≡ false
  pub unasked : (port_ledger port).listens ≡ []
  pub unturned : (port_ledger port).turned ≡ false
  pub hears : (port_ledger port).deaf ≡ 0
  pub sound : (port_ledger port).turns ≡ 0
  pub unrefused : port.refused ≡ 0

-- all links of a port were served by these turns, by worker 0, whose jobs all are, and it told Stop
pub record ServesOne (lane_tells : Type 0) (turns : List LaneTurn) (old new : PortView) : Type 0 where
  pub served : ServesPort (λ lane. lane_tells) 1 0 (λ lane. jobs_in (one_lane lane turns)) (λ lane. replies_in (one_lane lane turns)) old new
  pub only : (job : Job) → Contains (jobs_in turns) job → job.conn.worker ≡ 0
  pub stopped : new.state.stopped ≡ true

-- the conversations were served by these turns, each over a connection of its own and read whole, from a port of their own: it told what the script says, all of it, and wanted no memory
pub record ServesLoad (lane_tells : Type 0) (count : ℕ) (turns : List LaneTurn) : Type 0 where
  pub old : PortValue
  pub new : PortValue
  pub begun : IsNew count old
  pub served : ServesOne lane_tells turns (view_of old) (view_of new)
  pub seated : (i : ℕ) → 1 ≤ i → i ≤ count → served.served.seats.seat i ≢ None
  pub read : (i : ℕ) → 1 ≤ i → i ≤ count → ((port_state new).link i).input ≡ conversation i
  pub script : TellsScript (load_script count) (port_state new)
  pub all : TellsSteps (load_script count) (port_state new)
  pub unrefused : new.refused ≡ 0

-- all links of a port are closed, and were served by these turns up to some point, by worker 0, whose jobs all are
pub record PutsOne (turns : List LaneTurn) (old new : PortView) : Type 0 where
  pub put : PutsPrefixes 1 0 (λ lane. jobs_in (one_lane lane turns)) (λ lane. replies_in (one_lane lane turns)) old new
  pub only : (job : Job) → Contains (jobs_in turns) job → job.conn.worker ≡ 0

-- the conversations were served by these turns up to some point, from a port of their own: it told what the script says
pub record BreaksLoad (count : ℕ) (turns : List LaneTurn) : Type 0 where
  pub old : PortValue
  pub new : PortValue
  pub begun : IsNew count old
  pub served : PutsOne turns (view_of old) (view_of new)
  pub script : TellsScript (load_script count) (port_state new)

-- out of memory no turn was made, or the conversations were served up to some point
abbrev pub LeavesLoad : ℕ → List LaneTurn → Type 0
LeavesLoad count turns = (turns ≡ []) ⊎ BreaksLoad count turns

-- ---- The run

-- what is so where the logs of these numbers were summed up, or one of them wasn't replayed
abbrev pub IsSumOf : (disk_tells : Type 0) (numbers : List ℕ) (served left : DiskView) → LoadEnd → Type 0
IsSumOf disk_tells numbers served left (Served text) = disk_tells → (logs : List Stored) × AreReplayed left.reads numbers logs × (text ≡ summary logs)
IsSumOf disk_tells numbers served left (Store fault) = HasReplayCause disk_tells numbers served left fault
IsSumOf disk_tells numbers served left NoMem = Unit {0}

-- the store wasn't opened for this fault
pub record IsNotOpened (disk_tells : Type 0) (found served : DiskView) (up : End) (fault : StoreFault) : Type 0 where
  pub is : up ≡ ends.Store fault
  pub cause : HasStoreCause disk_tells 0 1 found served fault

-- all conversations were served, and then the logs were summed up of which the turns told, or one of them wasn't replayed
pub record IsServed (disk_tells : Type 0) (count : ℕ) (turns : List LaneTurn) (served left : DiskView) (up : End) (end : LoadEnd) : Type 0 where
  pub is : up ≡ ends.Over Stopped
  pub load : ServesLoad disk_tells count turns
  pub sum : IsSumOf disk_tells (numbers_told (replies_in turns)) served left end

-- what is so of a load that ended in this way. found, served, left: the disk as it was, as the last turn left it, and as it is
abbrev pub EndsLoad : (disk_tells : Type 0) (count : ℕ) (turns : List LaneTurn) (found served left : DiskView) → End → LoadEnd → Type 0
EndsLoad disk_tells count turns found served left up (Served text) = IsServed disk_tells count turns served left up (Served text)
EndsLoad disk_tells count turns found served left up (Store fault) = IsNotOpened disk_tells found served up fault ⊎ IsServed disk_tells count turns served left up (Store fault)
EndsLoad disk_tells count turns found served left up NoMem = LeavesLoad count turns

-- a load over the store of one lane: the run of its turns, after which the disk was only read, and how it ended
pub record RunsLoad {D : Type 0} (disk_tells tape_tells : Type 0) (view : D → DiskView) (set : Settings) (texts : List (List ℕ)) (count : ℕ) (found left : D) (tape tape' : List TapeTurn) (end : LoadEnd) : Type 0 where
  pub turns : List LaneTurn
  pub served : D
  pub up : End
  pub sized : AreSized turns
  pub store : RunsStore disk_tells tape_tells set texts (view found) (view served) tape tape' up turns
  pub read : disk_tells → OnlyReads (view served) (view left)
  pub ends : EndsLoad disk_tells count turns (view found) (view served) (view left) up end
