-- A run of `once`: what it read, what it put, and what it did with the store. It is said also if device calls fail, and wherever the machine stops.
use Rattle.std.specs.Prelude.{◌≡◌, ◌≢◌, ◌≤◌, ◌<◌, ◌-◌, ◌^◌, ◌⊎◌, ◌++◌, ℕ, Bool, false, List, [], ◌∷◌, length, map, IsSome, None}
use Rattle.std.specs.List.{AllByRecursion, concat}
use Rattle.lsv_base.specs.Time.{nanos_of}
use Rattle.lsv_event.specs.declared.event.Kind.{Kind}
use Rattle.lsv_session.specs.Transcript.{said_to}
use Rattle.lsv_machine.specs.Machine.{Settings}
use Rattle.lsv_machine.specs.Recovery.{Outside}
use Rattle.lsv_seq.specs.Drawn.{entry_at}
use Rattle.lsv_keeper.specs.Opening.{KeepsEntry}
use Rattle.lsv_keeper.specs.declared.fault.StoreFault.{StoreFault}
use Rattle.lsv_turn.specs.Turns.{all_taped}
use Rattle.lsv_lane.specs.Store.{AreAnswered, KeepsStore, lane_settings}
use Rattle.lsv_once.specs.declared.once.OnceEnd.{OnceEnd}
use Rattle.lsv_once.specs.declared.once.OnceEnd.TheVariants.{Served, ReadFault, WriteFault, Store, NoMem}
use Rattle.lsv_once.specs.Course.{Course, EndsFor, PutsFor, ShutLast, TurnsOf, once_conn, replies_in, turn_of, turns_in, was_shut}
use Rattle.lsv_once.specs.World.{Wires, World, placed}

-- ---- What is asked for

-- the settings of the machine: one lane, event lines of this form, and those of exits if they are asked for
abbrev pub once_settings : Kind → (log_exit : Bool) → Settings
once_settings kind log_exit = lane_settings 0 1 kind log_exit

-- ---- What was read

-- the turns of a run are what was read: a turn for each piece, of at most 65,536 bytes, until the connection is shut, the input ends or fails, or an answer can't be put
pub record Reads (old new : Wires) (end : OnceEnd) (course : Course) : Type 0 where
  pub pieces : List (List ℕ)
  -- the piece for which memory ran out
  pub lost : List (List ℕ)
  pub given : old.source_tells → new.given ≡ old.given ++ (pieces ++ lost)
  pub read : old.source_tells → old.rest ≡ concat (pieces ++ lost) ++ new.rest
  pub small : AllByRecursion (λ piece. length piece ≤ 65536) (pieces ++ lost)
  pub turns : TurnsOf [] [] pieces course.reads
  pub shut_last : ShutLast course.reads
  pub ends : EndsFor end course
  pub moments : AllByRecursion (λ t. IsSome (nanos_of t.now)) (turns_in course)
  -- a piece is lost only if memory ran out after it was read, before any Shut
  pub few_lost : (lost ≡ []) ⊎ ((end ≡ NoMem) × (was_shut course.reads ≡ false) × ((piece : List ℕ) × (lost ≡ piece ∷ [])))
  -- a connection that is served and wasn't shut came to the end of the input
  pub ended : end ≡ Served → was_shut course.reads ≡ false → old.source_tells → new.count < 2 ^ 63 - 1 → new.rest ≡ []

-- ---- What was done with the store

-- the end is one that comes after the store was opened; out of memory, a turn was made
abbrev pub IsOpened : OnceEnd → Course → Type 0
IsOpened Served course = Unit {0}
IsOpened ReadFault course = Unit {0}
IsOpened WriteFault course = Unit {0}
IsOpened NoMem course = turns_in course ≢ []
IsOpened (Store fault) course = ⊥

-- ---- A run

-- what a run did with the store, at whatever end: at each moment each log recovers from a crash. If the store was opened, the turns are the machine's
pub record KeepsOnce (set : Settings) (texts : List (List ℕ)) (o : Outside) (end : OnceEnd) (course : Course) : Type 0 where
  pub store : KeepsStore (IsOpened end course) set texts o (map turn_of (turns_in course))
  -- nothing is said to a connection that goes, so all answers are those of the reads
  pub silent : IsOpened end course → said_to once_conn (replies_in course.leaving) ≡ []

-- A run with these settings and prompts: its turns are what was read, what was put are their answers, and the tape and the store
-- keep them.
pub record RunsOnce (set : Settings) (texts : List (List ℕ)) (old new : World) (end : OnceEnd) : Type 0 where
  pub course : Course
  pub reads : Reads old.wires new.wires end course
  pub puts : old.wires.sink_tells → (bytes : List ℕ) × (new.wires.put ≡ old.wires.put ++ bytes) × PutsFor end course.reads bytes
  pub taped : old.tape_tells → new.tape ≡ old.tape ++ all_taped (map turn_of (turns_in course))
  -- over every disk: each reply is to the connection of one of its turn's jobs, and says that a device failed only for a cause
  pub answered : map turn_of (turns_in course) ≢ [] → AreAnswered set.log_exit old.disk.faults new.disk.faults (map turn_of (turns_in course))
  -- at each moment of an opening that was refused the number file's last entry stayed as it was
  pub entry : (fault : StoreFault) → end ≡ Store fault → old.disk_tells → entry_at 0 old.disk.reads ≢ None → KeepsEntry 0 old.disk new.disk
  pub keeps : old.disk_tells → KeepsOnce set texts (record { found = placed old.disk new.disk; left = new.disk }) end course
