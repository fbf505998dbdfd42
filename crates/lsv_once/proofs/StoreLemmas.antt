-- The store of a run of `once`: a disk that has its places already, and a store that wasn't opened.
use Rattle.std.proofs.Common.{◌≡◌, ◌≢◌, ◌⊎◌, inl, inr, [], List, ℕ, Option, None, refl, sym, ap, subst, ◌∙◌, append-nil}
use Rattle.lsv_disk.specs.View.{DiskView, Places}
use Rattle.lsv_disk.specs.declared.file.Owner.{Owner}
use Rattle.lsv_machine.specs.Machine.{Settings}
use Rattle.lsv_seq.specs.Drawn.{entry_at}
use Rattle.lsv_keeper.specs.Opening.{IsStoreFault, KeepsEntry}
use Rattle.lsv_keeper.specs.declared.fault.StoreFault.{StoreFault}
use Rattle.lsv_keeper.specs.declared.fault.StoreFault.TheVariants as faults
use Rattle.lsv_turn.specs.Turns.{LaneTurn, TapeTurn}
use Rattle.lsv_lane.specs.Store.{KeepsStore, OwnerFailed, end_of_fault}
use Rattle.lsv_lane.proofs.Conforming.{keeps_less}
use Rattle.lsv_once.specs.declared.once.OnceEnd.{OnceEnd}
use Rattle.lsv_once.specs.declared.once.OnceEnd.TheVariants.{Served, Store, NoMem}
use Rattle.lsv_once.specs.Causes.{HasOnceCause}
use Rattle.lsv_once.specs.Course.{Course, EndsFor, PutsFor}
use Rattle.lsv_once.specs.Once.{IsOpened, RunsOnce}
use Rattle.lsv_once.specs.World.{World, placed}
use Rattle.lsv_once.proofs.ReadLemmas.{hello}

-- ---- What was kept of a store

-- a disk that has its places already
placed_same : (disk left : DiskView) → left.places ≡ disk.places → disk ≡ placed disk left
placed_same disk left e = ap (λ (p : Option Places). record disk { places = p }) (sym e)

pub keeps_placed : (opened : Type 0) (set : Settings) (texts : List (List ℕ)) (disk left : DiskView) (turns : List LaneTurn) → left.places ≡ disk.places → KeepsStore opened set texts (record { found = disk; left = left }) turns
    → KeepsStore opened set texts (record { found = placed disk left; left = left }) turns
keeps_placed opened set texts disk left turns e k = subst (λ (d : DiskView). KeepsStore opened set texts (record { found = d; left = left }) turns) (placed_same disk left e) k

-- ---- A run without turns

-- an end at which nothing was read or put
abbrev pub Nothing : OnceEnd → Type 0
Nothing end = ((fault : StoreFault) × (end ≡ Store fault)) ⊎ (end ≡ NoMem)

-- the world with its store as it was left
abbrev pub with_store : World → DiskView → List TapeTurn → World
with_store w disk tape = record w { disk = disk; tape = tape }

-- the store couldn't be opened, or nothing was done
pub runs_nothing : (set : Settings) (texts : List (List ℕ)) (old : World) (disk : DiskView) (tape : List TapeTurn) (end : OnceEnd) → Nothing end → tape ≡ old.tape
    → (old.disk_tells → disk.places ≡ old.disk.places) → (old.disk_tells → entry_at 0 old.disk.reads ≢ None → KeepsEntry 0 old.disk disk)
    → (old.disk_tells → KeepsStore ⊥ set texts (record { found = old.disk; left = disk }) []) → RunsOnce set texts old (with_store old disk tape) end
runs_nothing set texts old disk tape end n same places entry keeps = record {
  course = none;
  reads = record {
    pieces = [];
    lost = [];
    given = λ told. sym (append-nil old.wires.given);
    read = λ told. refl;
    small = tt;
    turns = tt;
    shut_last = tt;
    ends = ends n;
    moments = tt;
    few_lost = inl refl;
    ended = λ is. absurd (served n is);
  };
  puts = λ told. ([], sym (append-nil old.wires.put), puts n);
  taped = λ told. same ∙ sym (append-nil old.tape);
  answered = λ some. absurd (some refl);
  entry = λ fault e told some. entry told some;
  keeps = λ told. record {
    store = keeps_less ⊥ (IsOpened end none) set texts (record { found = placed old.disk disk; left = disk }) [] (unopened n) (keeps_placed ⊥ set texts old.disk disk [] (places told) (keeps told));
    silent = λ opened. absurd (unopened n opened);
  };
}
  where
    none : Course
    none = record { reads = []; leaving = [] }

    ends : Nothing end → EndsFor end none
    ends (inl (fault, e)) = subst (λ (s : OnceEnd). EndsFor s none) (sym e) refl
    ends (inr e) = subst (λ (s : OnceEnd). EndsFor s none) (sym e) refl

    puts : Nothing end → PutsFor end [] []
    puts (inl (fault, e)) = subst (λ (s : OnceEnd). PutsFor s [] []) (sym e) refl
    puts (inr e) = subst (λ (s : OnceEnd). PutsFor s [] []) (sym e) (inl (refl, (hello, refl)))

    served : Nothing end → end ≡ Served → ⊥
    served (inl (fault, e)) is = cc
    served (inr e) is = cc

    unopened : Nothing end → IsOpened end none → ⊥
    unopened (inl (fault, e)) o = subst (λ (s : OnceEnd). IsOpened s none) e o
    unopened (inr e) o = subst (λ (s : OnceEnd). IsOpened s none) e o refl

pub store_nothing : (fault : StoreFault) → Nothing (end_of_fault Store NoMem fault)
store_nothing (faults.Device o) = inl (faults.Device o, refl)
store_nothing (faults.Damaged file) = inl (faults.Damaged file, refl)
store_nothing (faults.LanesDiffer kept asked) = inl (faults.LanesDiffer kept asked, refl)
store_nothing faults.NoMem = inr refl

-- the cause of a store that isn't opened
pub store_cause : (old : World) (disk : DiskView) (tape : List TapeTurn) (fault : StoreFault) → (old.disk_tells → IsStoreFault 0 1 old.disk.reads fault) → ((o : Owner) → fault ≡ faults.Device o → OwnerFailed o old.disk disk)
    → HasOnceCause old (with_store old disk tape) (end_of_fault Store NoMem fault)
store_cause old disk tape (faults.Device o) is failed = record { memory = λ e. cc; is = is; failed = failed }
store_cause old disk tape (faults.Damaged file) is failed = record { memory = λ e. cc; is = is; failed = failed }
store_cause old disk tape (faults.LanesDiffer kept asked) is failed = record { memory = λ e. cc; is = is; failed = failed }
store_cause old disk tape faults.NoMem is failed = tt
