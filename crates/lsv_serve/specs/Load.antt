-- A run of the command `load`: the generated conversations are served, and the summary of their logs is put.
use Rattle.std.specs.Prelude.{◌≡◌, ◌⊎◌, ◌++◌, ℕ, List, [], Option, None}
use Rattle.lsv_defs.specs.Causes.{HasRisen}
use Rattle.lsv_defs.specs.Pieces.{IsPrefix}
use Rattle.lsv_conf.specs.Lines.{Placed, first_refused}
use Rattle.lsv_disk.specs.View.{DiskView, IsLeftAlone}
use Rattle.lsv_machine.specs.Machine.{Settings}
use Rattle.lsv_machine.specs.Recovery.{Outside}
use Rattle.lsv_turn.specs.Turns.{LaneTurn, TapeTurn}
use Rattle.lsv_lane.specs.Store.{KeepsStore}
use Rattle.lsv_service.specs.Complete.{Completes}
use Rattle.lsv_service.specs.Runs.{IsUp}
use Rattle.lsv_load.specs.Runs.{RunsLoad, view_of}
use Rattle.lsv_load.specs.Whole.{SumsUpAll}
use Rattle.lsv_load.specs.declared.run.LoadEnd.{LoadEnd}
use Rattle.lsv_load.specs.declared.run.LoadEnd.TheVariants as ends
use Rattle.lsv_serve.specs.declared.status.Status.{Status}
use Rattle.lsv_serve.specs.declared.status.Status.TheVariants.{NoUpstream, Pending, Served, Usage, Conf, Store, ReadFault, WriteFault, PortFault, NoMem}
use Rattle.lsv_serve.specs.Causes.{HasConfCause, HasPlacesAt, MayServeAgain}
use Rattle.lsv_serve.specs.Program.{lines_in, machine_of, prompts_of, set_by}
use Rattle.lsv_once.specs.World.{World}

-- all of the summary was put
pub record PutsSummary {D : Type 0} (tape_tells : Type 0) (view : D → DiskView) (set : Settings) (texts : List (List ℕ)) (count : ℕ) (old new : World) (found left : D) (tape new_tape : List TapeTurn) : Type 0 where
  pub text : List ℕ
  pub run : RunsLoad old.disk_tells tape_tells view set texts count found left tape new_tape (ends.Served text)
  pub put : old.wires.sink_tells → new.wires.put ≡ old.wires.put ++ text

-- a write of the summary failed, of which a first part was put
pub record PutsPart {D : Type 0} (tape_tells : Type 0) (view : D → DiskView) (set : Settings) (texts : List (List ℕ)) (count : ℕ) (old new : World) (found left : D) (tape new_tape : List TapeTurn) : Type 0 where
  pub text : List ℕ
  pub run : RunsLoad old.disk_tells tape_tells view set texts count found left tape new_tape (ends.Served text)
  pub risen : HasRisen old.wires.write_faults new.wires.write_faults
  pub put : old.wires.sink_tells → (front : List ℕ) × IsPrefix front text × (new.wires.put ≡ old.wires.put ++ front)

-- nothing was put
abbrev pub PutsNothing : (old new : World) → Type 0
PutsNothing old new = old.wires.sink_tells → new.wires.put ≡ old.wires.put

-- a run by its status
abbrev pub LoadsTo : {D : Type 0} (tape_tells : Type 0) (view : D → DiskView) → Settings → List (List ℕ) → (count : ℕ) → (old new : World) (found left : D) (tape new_tape : List TapeTurn) → Status → Type 0
LoadsTo {D} tape_tells view set texts count old new found left tape new_tape Served = PutsSummary tape_tells view set texts count old new found left tape new_tape
LoadsTo {D} tape_tells view set texts count old new found left tape new_tape WriteFault = PutsPart tape_tells view set texts count old new found left tape new_tape
LoadsTo {D} tape_tells view set texts count old new found left tape new_tape (Store fault) = RunsLoad old.disk_tells tape_tells view set texts count found left tape new_tape (ends.Store fault) × PutsNothing old new
LoadsTo {D} tape_tells view set texts count old new found left tape new_tape NoMem = RunsLoad old.disk_tells tape_tells view set texts count found left tape new_tape ends.NoMem × PutsNothing old new
LoadsTo {D} tape_tells view set texts count old new found left tape new_tape (Conf line) = (old.disk_tells → KeepsStore ⊥ set texts (record { found = view found; left = view left }) []) × (new_tape ≡ tape) × PutsNothing old new
LoadsTo {D} tape_tells view set texts count old new found left tape new_tape Usage = ⊥
LoadsTo {D} tape_tells view set texts count old new found left tape new_tape ReadFault = ⊥
LoadsTo {D} tape_tells view set texts count old new found left tape new_tape PortFault = ⊥
LoadsTo {D} tape_tells view set texts count old new found left tape new_tape NoUpstream = ⊥
LoadsTo {D} tape_tells view set texts count old new found left tape new_tape (Pending logs) = ⊥

-- that a run's settings weren't read, or that no line of them is refused. The causes of Store and WriteFault stand in `runs`
abbrev pub HasLoadCause : (lines : List Placed) (faults faults' : ℕ) → Status → Type 0
HasLoadCause lines faults faults' Served = first_refused lines ≡ None
HasLoadCause lines faults faults' WriteFault = first_refused lines ≡ None
HasLoadCause lines faults faults' (Store fault) = first_refused lines ≡ None
HasLoadCause lines faults faults' NoMem = Unit {0}
HasLoadCause lines faults faults' (Conf line) = HasConfCause lines faults faults' line
HasLoadCause lines faults faults' Usage = ⊥
HasLoadCause lines faults faults' ReadFault = ⊥
HasLoadCause lines faults faults' PortFault = ⊥
HasLoadCause lines faults faults' NoUpstream = ⊥
HasLoadCause lines faults faults' (Pending left) = ⊥

-- what was kept of the store where it was opened
abbrev pub while_up : {opened : Type 0} {set : Settings} {texts : List (List ℕ)} {o : Outside} {turns : List LaneTurn} → opened → KeepsStore opened set texts o turns → KeepsStore (Unit {0}) set texts o turns
while_up up k = record { story = k.story; are = k.are; conforms = λ x. k.conforms up; recovers = k.recovers; spared = k.spared }

-- each legal conversation that came over a link of the load's port is served, where nothing was in its way
abbrev pub CompletesLoad : {D : Type 0} (disk_tells tape_tells : Type 0) (view : D → DiskView) → Settings → List (List ℕ) → (count : ℕ) (found left : D) (tape new_tape : List TapeTurn) → Type 0
CompletesLoad {D} disk_tells tape_tells view set texts count found left tape new_tape =
    (text : List ℕ) (run : RunsLoad disk_tells tape_tells view set texts count found left tape new_tape (ends.Served text)) (told : disk_tells) (up : IsUp run.up run.turns)
    → Completes set texts (view found) (view run.served) run.turns (while_up up (run.store.keeps told)) 0 (view_of run.ends.load.old) (view_of run.ends.load.new) run.ends.load.served.served

-- this is so of the summary, at the statuses at which there is one
abbrev pub OfSummary : Status → Type 0 → Type 0
OfSummary Served so = so
OfSummary WriteFault so = so
OfSummary (Store fault) so = Unit {0}
OfSummary NoMem so = Unit {0}
OfSummary (Conf line) so = Unit {0}
OfSummary Usage so = Unit {0}
OfSummary ReadFault so = Unit {0}
OfSummary PortFault so = Unit {0}
OfSummary NoUpstream so = Unit {0}
OfSummary (Pending left) so = Unit {0}

-- how a load's end is told: its summary is put, or a write of it fails
abbrev pub TellsLoad : (sink_tells : Type 0) (put new_put : List ℕ) (faults new_faults : ℕ) → LoadEnd → Status → Type 0
TellsLoad sink_tells put new_put faults new_faults (ends.Served text) status =
    ((status ≡ Served) × (sink_tells → new_put ≡ put ++ text)) ⊎ ((status ≡ WriteFault) × HasRisen faults new_faults × (sink_tells → (front : List ℕ) × IsPrefix front text × (new_put ≡ put ++ front)))
TellsLoad sink_tells put new_put faults new_faults (ends.Store fault) status = (status ≡ Store fault) × (sink_tells → new_put ≡ put)
TellsLoad sink_tells put new_put faults new_faults ends.NoMem status = (status ≡ NoMem) × (sink_tells → new_put ≡ put)

-- A load whose settings were read ended in some way, and is told as this. Where nothing is in its way, each legal conversation is
-- served; and where nothing is in the way of any, what is summed up are the logs of all.
pub record LoadsBy {D : Type 0} (tape_tells : Type 0) (view : D → DiskView) (set : Settings) (texts : List (List ℕ)) (count : ℕ) (old new : World) (found left : D) (tape new_tape : List TapeTurn) (status : Status) : Type 0 where
  -- the disk after `root`: no file, moment or count of it is otherwise
  pub placed : D
  pub alone : IsLeftAlone old.disk_tells (view found) (view placed)
  pub end : LoadEnd
  pub run : RunsLoad old.disk_tells tape_tells view set texts count placed left tape new_tape end
  pub told : TellsLoad old.wires.sink_tells old.wires.put new.wires.put old.wires.write_faults new.wires.write_faults end status
  pub complete : CompletesLoad old.disk_tells tape_tells view set texts count placed left tape new_tape
  pub whole : OfSummary status (SumsUpAll old.disk_tells tape_tells view set texts count placed left tape new_tape)

-- a run of `load` with the settings file as it was found
pub record LoadsAs {D : Type 0} (tape_tells : Type 0) (view : D → DiskView) (set : Option (List ℕ)) (faults faults' : ℕ) (count : ℕ) (old new : World) (found left : D) (tape new_tape : List TapeTurn) (status : Status) : Type 0 where
  -- the disk after `root`: no file, moment or count of it is otherwise
  pub placed : D
  pub alone : IsLeftAlone old.disk_tells (view found) (view placed)
  pub runs : LoadsTo tape_tells view (machine_of (set_by set)) (prompts_of (set_by set)) count old new placed left tape new_tape status
  pub cause : HasLoadCause (lines_in set) faults faults' status
  pub complete : CompletesLoad old.disk_tells tape_tells view (machine_of (set_by set)) (prompts_of (set_by set)) count placed left tape new_tape
  -- where nothing was in the way of any of its conversations, what is summed up are the logs of all of them
  pub whole : OfSummary status (SumsUpAll old.disk_tells tape_tells view (machine_of (set_by set)) (prompts_of (set_by set)) count placed left tape new_tape)
  pub places : old.disk_tells → HasPlacesAt (set_by set).iolog_dir (set_by set).path (view found) (view left) status
  pub again : old.disk_tells → MayServeAgain (view found) (view left)
