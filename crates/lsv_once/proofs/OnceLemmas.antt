-- A run of `once` by a lane over its store.
use Rattle.std.proofs.Common.{◌≡◌, ◌⊎◌, inl, inr, ◌++◌, ◌∷◌, [], List, map, ℕ, Bool, true, false, ap, subst, ◌∙◌, append-nil}
use Rattle.std.proofs.lemmas.List.{map-append}
use Rattle.lsv_session.specs.Transcript.{said_to}
use Rattle.lsv_machine.specs.Machine.{Settings}
use Rattle.lsv_machine.specs.Recovery.{Outside}
use Rattle.lsv_turn.specs.Turns.{LaneTurn, all_taped}
use Rattle.lsv_lane.specs.Store.{AreAnswered, KeepsStore}
use Rattle.lsv_once.specs.declared.once.OnceEnd.{OnceEnd}
use Rattle.lsv_once.specs.declared.once.OnceEnd.TheVariants.{Served, ReadFault, WriteFault, Store, NoMem}
use Rattle.lsv_once.specs.Causes.{HasOnceCause}
use Rattle.lsv_once.specs.InnerRun.{HasReadsCause, Serves}
use Rattle.lsv_once.specs.Once.{IsOpened, RunsOnce}
use Rattle.lsv_once.specs.Course.{EndsFor, IsGone, Leaves, Course, OnceTurn, once_conn, replies_in, turn_of, turns_in, was_shut}
use Rattle.lsv_once.specs.World.{World, placed}
use Rattle.lsv_once.proofs.SilenceLemmas.{gone_silent}
use Rattle.lsv_lane.proofs.Conforming.{keeps_less}
use Rattle.lsv_once.proofs.StoreLemmas.{keeps_placed}

leaves_either : (shut : Bool) (leaving : List OnceTurn) → Leaves shut leaving → (leaving ≡ []) ⊎ IsGone leaving
leaves_either true leaving none = inl none
leaves_either false leaving gone = inr gone

-- the connection made no further turn, or went in one
leaving_is : (end : OnceEnd) (course : Course) → EndsFor end course → IsOpened end course → (course.leaving ≡ []) ⊎ IsGone course.leaving
leaving_is Served course ends opened = leaves_either (was_shut course.reads) course.leaving ends
leaving_is ReadFault course ends opened = inr ends.1
leaving_is WriteFault course ends opened = leaves_either (was_shut course.reads) course.leaving ends
leaving_is NoMem course ends opened = inl ends
leaving_is (Store fault) course ends opened = absurd opened

-- nothing is said to a connection that goes
silent_leaving : (set : Settings) (texts : List (List ℕ)) (o : Outside) (course : Course) → (course.leaving ≡ []) ⊎ IsGone course.leaving → KeepsStore (Unit {0}) set texts o (map turn_of (turns_in course)) → said_to once_conn (replies_in course.leaving) ≡ []
silent_leaving set texts o course (inl none) k = ap (λ (l : List OnceTurn). said_to once_conn (replies_in l)) none
silent_leaving set texts o course (inr (t, is, gone)) k =
    let turns : map turn_of (turns_in course) ≡ map turn_of course.reads ++ turn_of t ∷ [] = ap (λ (l : List OnceTurn). map turn_of (course.reads ++ l)) is ∙ map-append turn_of course.reads (t ∷ []) in
    ap (λ (l : List OnceTurn). said_to once_conn (replies_in l)) is ∙ ap (said_to once_conn) (append-nil t.replies)
    ∙ gone_silent set texts o (map turn_of course.reads) t gone (subst (KeepsStore (Unit {0}) set texts o) turns k)

-- a connection was served by a lane, which kept the turns on its tape and in its store
pub runs_served : (set : Settings) (texts : List (List ℕ)) (Made : List LaneTurn → Type 0) (old new : World) (end : OnceEnd) (s : Serves Made old.wires new.wires end)
    → (old.tape_tells → new.tape ≡ old.tape ++ all_taped (map turn_of (turns_in s.course))) → AreAnswered set.log_exit old.disk.faults new.disk.faults (map turn_of (turns_in s.course))
    → (old.disk_tells → new.disk.places ≡ old.disk.places) → (old.disk_tells → KeepsStore (Unit {0}) set texts (record { found = old.disk; left = new.disk }) (map turn_of (turns_in s.course))) → RunsOnce set texts old new end
runs_served set texts Made old new end s taped answered places keeps = record {
  course = s.course;
  reads = s.reads;
  puts = s.puts;
  taped = taped;
  answered = λ some. answered;
  entry = λ fault e told some. absurd (subst (HasReadsCause old.wires new.wires) e s.cause);
  keeps = λ told.
      let k = keeps_placed (Unit {0}) set texts old.disk new.disk (map turn_of (turns_in s.course)) (places told) (keeps told) in
      record {
        store = keeps_less (Unit {0}) (IsOpened end s.course) set texts (record { found = placed old.disk new.disk; left = new.disk }) (map turn_of (turns_in s.course)) (λ up. tt) k;
        silent = λ opened. silent_leaving set texts (record { found = placed old.disk new.disk; left = new.disk }) s.course (leaving_is end s.course s.reads.ends opened) k;
      };
}

pub cause_served : (old new : World) (end : OnceEnd) → HasReadsCause old.wires new.wires end → HasOnceCause old new end
cause_served old new Served c = tt
cause_served old new ReadFault c = c
cause_served old new WriteFault c = c
cause_served old new NoMem c = tt
cause_served old new (Store fault) c = absurd c
