-- A run of the command `once`: lsv_once says what it did, and here its end is the program's status, by the settings file as it was found.
use Rattle.std.specs.Prelude.{◌≡◌, ℕ, Bool, List, [], Option, None}
use Rattle.lsv_defs.specs.Causes.{HasRisen}
use Rattle.lsv_conf.specs.Lines.{Placed, first_refused}
use Rattle.lsv_event.specs.declared.event.Kind.{Kind}
use Rattle.lsv_machine.specs.Machine.{Settings}
use Rattle.lsv_lane.specs.Store.{KeepsStore}
use Rattle.lsv_once.specs.Causes.{HasOnceCause}
use Rattle.lsv_once.specs.Complete.{Completes}
use Rattle.lsv_once.specs.Once.{RunsOnce, once_settings}
use Rattle.lsv_once.specs.World.{World}
use Rattle.lsv_once.specs.declared.once.OnceEnd.{OnceEnd}
use Rattle.lsv_once.specs.declared.once.OnceEnd.TheVariants as ends
use Rattle.lsv_serve.specs.declared.status.Status.{Status}
use Rattle.lsv_serve.specs.declared.status.Status.TheVariants.{NoUpstream, Pending, Served, Usage, Conf, Store, ReadFault, WriteFault, PortFault, NoMem}
use Rattle.lsv_serve.specs.Causes.{HasConfCause, HasPlacesAt, MayServeAgain}
use Rattle.lsv_serve.specs.Program.{lines_in, machine_of, prompts_of, set_by}

-- the status by which the program tells the end of a connection's run
abbrev pub status_of : OnceEnd → Status
status_of ends.Served = Served
status_of ends.ReadFault = ReadFault
status_of ends.WriteFault = WriteFault
status_of (ends.Store fault) = Store fault
status_of ends.NoMem = NoMem

-- nothing was done: nothing was read, put or kept on the tape, and the store is as it was
pub record IsIdle (set : Settings) (texts : List (List ℕ)) (old new : World) : Type 0 where
  pub given : new.wires.given ≡ old.wires.given
  pub rest : new.wires.rest ≡ old.wires.rest
  pub put : new.wires.put ≡ old.wires.put
  pub tape : new.tape ≡ old.tape
  pub keeps : old.disk_tells → KeepsStore ⊥ set texts (record { found = old.disk; left = new.disk }) []

-- a run by its status: that of lsv_once with its end, or one that did nothing
abbrev pub RunsFor : Settings → (texts : List (List ℕ)) → (old new : World) → Status → Type 0
RunsFor set texts old new Served = RunsOnce set texts old new ends.Served
RunsFor set texts old new ReadFault = RunsOnce set texts old new ends.ReadFault
RunsFor set texts old new WriteFault = RunsOnce set texts old new ends.WriteFault
RunsFor set texts old new (Store fault) = RunsOnce set texts old new (ends.Store fault)
RunsFor set texts old new NoMem = RunsOnce set texts old new ends.NoMem
RunsFor set texts old new (Conf line) = IsIdle set texts old new
RunsFor set texts old new Usage = ⊥
RunsFor set texts old new PortFault = ⊥
RunsFor set texts old new NoUpstream = ⊥
RunsFor set texts old new (Pending left) = ⊥

-- why a run ended so: its settings weren't read; else no line of them is refused, and a read or a write failed or the store wasn't opened
abbrev pub HasProgramCause : (lines : List Placed) (faults faults' : ℕ) → (old new : World) → Status → Type 0
HasProgramCause lines faults faults' old new Served = first_refused lines ≡ None
HasProgramCause lines faults faults' old new ReadFault = (first_refused lines ≡ None) × HasOnceCause old new ends.ReadFault
HasProgramCause lines faults faults' old new WriteFault = (first_refused lines ≡ None) × HasOnceCause old new ends.WriteFault
HasProgramCause lines faults faults' old new (Store fault) = (first_refused lines ≡ None) × HasOnceCause old new (ends.Store fault)
HasProgramCause lines faults faults' old new NoMem = Unit {0}
HasProgramCause lines faults faults' old new (Conf line) = HasConfCause lines faults faults' line
HasProgramCause lines faults faults' old new Usage = ⊥
HasProgramCause lines faults faults' old new PortFault = ⊥
HasProgramCause lines faults faults' old new NoUpstream = ⊥
HasProgramCause lines faults faults' old new (Pending left) = ⊥

-- A run whose settings were read ended in some way, for a cause, and is told as this. It serves each legal conversation that opens a
-- log, if nothing is in the way.
pub record OnceBy (kind : Kind) (log_exit : Bool) (texts : List (List ℕ)) (old new : World) (status : Status) : Type 0 where
  pub end : OnceEnd
  pub is : status ≡ status_of end
  pub run : RunsOnce (once_settings kind log_exit) texts old new end
  pub cause : HasOnceCause old new end
  pub complete : Completes kind log_exit texts old new end

-- a run of `once` with the settings file as it was found
pub record OnceAs (found : Option (List ℕ)) (faults faults' : ℕ) (old new : World) (status : Status) : Type 0 where
  pub runs : RunsFor (machine_of (set_by found)) (prompts_of (set_by found)) old new status
  pub cause : HasProgramCause (lines_in found) faults faults' old new status
  pub complete : (HasRisen faults faults' → ⊥) → first_refused (lines_in found) ≡ None → OnceBy (set_by found).format (set_by found).log_exit (prompts_of (set_by found)) old new status
  pub places : old.disk_tells → HasPlacesAt (set_by found).iolog_dir (set_by found).path old.disk new.disk status
  pub again : old.disk_tells → MayServeAgain old.disk new.disk
