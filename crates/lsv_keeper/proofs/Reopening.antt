-- A log that is opened and cut to be gone on with: what is left of it at each moment, and what the keeper then stands for.
use Rattle.std.proofs.Common.{◌≡◌, ◌≢◌, ◌⊎◌, ◌≤◌, ◌<◌, ℕ, length, Some, None, refl, sym, ◌∙◌, ap, subst, inl, inr, arith}
use Rattle.std.specs.Prelude.{◌==◌, if◌then◌else◌}
use Rattle.lsv_disk.specs.View.{DiskView, Elsewhere, Image, IsCrashImage}
use Rattle.lsv_disk.specs.declared.file.Owner.TheVariants as owners
use Rattle.lsv_disk.proofs.Composition.{jointly_of_each, jointly_widened}
use Rattle.lsv_iolog.specs.Later.{cut_log}
use Rattle.lsv_iolog.specs.Moments.{IsAsBefore}
use Rattle.lsv_iolog.specs.Recovered.{IsOfLog, IsUnmade, Replays, ReplaysNothing}
use Rattle.lsv_iolog.specs.declared.fault.LogFault.{LogFault}
use Rattle.lsv_iolog.specs.declared.fault.LogFault.TheVariants as faults
use Rattle.lsv_iolog.proofs.Replaying.{absent_replay, one_replay}
use Rattle.lsv_record.specs.Points.{Stored}
use Rattle.lsv_session.specs.Table.{Sessions}
use Rattle.lsv_machine.specs.Disks.{AllGood, AsBefore, GoodOr}
use Rattle.lsv_machine.specs.Durable.{GoodAt, GoodLog, Reading}
use Rattle.lsv_machine.specs.Failures.{Act}
use Rattle.lsv_machine.specs.History.{Ledger, noted}
use Rattle.lsv_machine.specs.Machine.{IsOfLane, LogState, LogState.Absent, LogState.Damaged, LogState.There, Machine, with_log}
use Rattle.lsv_machine.specs.Stands.{Sound, StandsFor}
use Rattle.lsv_machine.specs.Starts.{ReadsAs}
use Rattle.lsv_machine.specs.Turns.{Happened.Did}
use Rattle.lsv_machine.specs.Work.{next_number}
use Rattle.lsv_machine.proofs.Changing.{log_sound, there_not_above}
use Rattle.lsv_machine.proofs.Choices.{EqOr.equal, EqOr.unequal, eq_or}
use Rattle.lsv_machine.proofs.Weaken.{Weaker, at_weaker}
use Rattle.lsv_keeper.specs.Reading.{reading_of}
use Rattle.lsv_keeper.specs.Represents.{EventsAre, Free, LogIs, NumbersAre, Represents}
use Rattle.lsv_keeper.specs.Resuming.{AllAsBefore, AllCut, AllHold, IsCutInto, IsFound, IsLooked, IsResumeFault}
use Rattle.lsv_keeper.specs.Value.{IsReserved, KeeperView, log_in, settings_of}
use Rattle.lsv_keeper.proofs.Acting.{OwnKeeps, was_good}
use Rattle.lsv_keeper.proofs.Frames.{Laws, Resting, log_apart}
use Rattle.lsv_keeper.proofs.Standing.{events_stay, numbers_stay, represents_one}

-- ---- A log that is looked at

before_each : (lane lanes n : ℕ) (old : DiskView) (images : Image → Type 0) → AllAsBefore n old images → AsBefore (reading_of lane lanes) n (IsCrashImage old) images
before_each lane lanes n old images all image is = let a = all image is in (a.before, a.was, record { to = a.same.forth; back = a.same.back })

pub looked_rests : (lane lanes n : ℕ) (old new : DiskView) → Laws new → IsLooked n old new → Resting lane lanes n old new
looked_rests lane lanes n old new laws looked = record {
  moments = jointly_widened (AllAsBefore n old) (AsBefore (reading_of lane lanes) n (IsCrashImage old)) old new (before_each lane lanes n old) (jointly_of_each (IsOfLog n) (IsAsBefore n old) old new looked.run);
  rests = record {
    images = before_each lane lanes n old (IsCrashImage new) (λ image is. looked.run.each new.moment image looked.run.later (omega arith) (laws.is_now image is));
    reads = record { to = looked.reads.forth; back = looked.reads.back };
  };
}

-- ---- What the machine has of it

pub free_log : (v : KeeperView) (disk : DiskView) (m : Machine) (n : ℕ) → Represents v disk m → m.owner n ≡ None → Free v disk m n
free_log v disk m n at free = subst (LogIs v disk m n) free (at.logs n)

-- a log that was found is there
pub record IsThere (n : ℕ) (stored : Stored) (m : Machine) : Type 0 where
  pub promised : ℕ
  pub there : m.logs n ≡ There stored promised
  pub enough : promised ≤ length stored.records

pub there_of : (v : KeeperView) (disk : DiskView) (m : Machine) (n : ℕ) (stored : Stored) → Free v disk m n → Replays disk.reads n (Some stored) → IsThere n stored m
there_of v disk m n stored free is = go (m.logs n) refl free.reads
  where
    go : (x : LogState) → m.logs n ≡ x → ReadsAs (Replays disk.reads n) x → IsThere n stored m
    go Absent e a = absurd (let w : None ≡ Some stored = one_replay disk.reads n None (Some stored) a is in cc)
    go Damaged e a = absurd (a (Some stored) is)
    go (There x promised) e a =
        let w : Some x ≡ Some stored = one_replay disk.reads n (Some x) (Some stored) a is in
        let same : x ≡ stored = cc in
        record { promised = promised; there = e ∙ ap (λ (y : Stored). There y promised) same; enough = subst (λ (y : Stored). promised ≤ length y.records) same (free.enough x promised e) }

pub absent_of : (v : KeeperView) (disk : DiskView) (m : Machine) (n : ℕ) → Free v disk m n → Replays disk.reads n None → m.logs n ≡ Absent
absent_of v disk m n free is = go (m.logs n) refl free.reads
  where
    go : (x : LogState) → m.logs n ≡ x → ReadsAs (Replays disk.reads n) x → m.logs n ≡ Absent
    go Absent e a = e
    go Damaged e a = absurd (a None is)
    go (There x promised) e a = absurd (let w : Some x ≡ None = one_replay disk.reads n (Some x) None a is in cc)

pub damaged_of : (v : KeeperView) (disk : DiskView) (m : Machine) (n : ℕ) → Free v disk m n → ReplaysNothing disk.reads n → m.logs n ≡ Damaged
damaged_of v disk m n free none = go (m.logs n) refl free.reads
  where
    go : (x : LogState) → m.logs n ≡ x → ReadsAs (Replays disk.reads n) x → m.logs n ≡ Damaged
    go Absent e a = absurd (none None a)
    go Damaged e a = e
    go (There x promised) e a = absurd (none (Some x) a)

-- where it is there, it has files
pub made_of : (n : ℕ) (stored : Stored) (disk : DiskView) → Laws disk → Replays disk.reads n (Some stored) → IsUnmade n disk → ⊥
made_of n stored disk laws is unmade =
    let w : None ≡ Some stored = one_replay disk.reads n None (Some stored) (absent_replay disk.reads n (λ file own. unmade file own (disk.reads file) (laws.reads_itself file))) is in cc

-- ---- What is owed of it

module _ (v : KeeperView) (n : ℕ) (act : Act) (m : Machine) (old new : DiskView) where
  read_good : (l : Ledger) (stored : Stored) → Replays old.reads n (Some stored) → GoodAt (reading_of v.lane v.lanes) l n old.reads → GoodLog l (Some stored)
  read_good l stored was good = subst (λ x. GoodLog l x) (one_replay old.reads n good.found (Some stored) good.is was) good.good

  all_good : (l : Ledger) (stored : Stored) → AllHold n stored (IsCrashImage new) → GoodLog l (Some stored) → AllGood (reading_of v.lane v.lanes) l n (IsCrashImage new)
  all_good l stored now good image is = record { found = Some stored; is = now image is; good = good }

  -- it was found: whatever was possible before, each image holds it now
  pub keeps_found : (stored : Stored) → Laws old → Laws new → IsFound n stored old new → ((l : Ledger) → StandsFor (settings_of v) n m l → Weaker l (noted n l (Did act))) → OwnKeeps v n act m old new
  keeps_found stored laws laws' found says =
      let rests = looked_rests v.lane v.lanes n old new laws' found.looked in
      record {
        settled = λ l stands all. (
          jointly_widened (AsBefore r n (IsCrashImage old)) (GoodOr r l (noted n l (Did act)) n) old new (λ images before image is. inl (was_good r n l old images all before image is)) rests.moments,
          λ image is. at_weaker r l (noted n l (Did act)) n image (says l stands) (all_good l stored found.now (read_good l stored found.was (all old.reads laws.reads_itself)) image is),
        );
        unsettled = λ l stands none good. (
          jointly_widened (AsBefore r n (IsCrashImage old)) (λ images. AsBefore r n (IsCrashImage old) images ⊎ GoodOr r l (noted n l (Did act)) n images) old new (λ images before. inl before) rests.moments,
          inl (λ image is. at_weaker r l (noted n l (Did act)) n image (says l stands) (all_good l stored found.now (read_good l stored found.was good) image is)),
        );
      }
    where
      r : Reading
      r = reading_of v.lane v.lanes

  -- each image of these is good for the history before the cut, or for that after it
  cut_each : (point : ℕ) (stored : Stored) (l : Ledger) (images : Image → Type 0) → GoodLog l (Some stored) → GoodLog (noted n l (Did act)) (Some (cut_log stored point)) → AllCut n point stored images
      → GoodOr (reading_of v.lane v.lanes) l (noted n l (Did act)) n images
  cut_each point stored l images before after all image is = elim (all image is) [
    | inl whole ↦ inl (record { found = Some stored; is = whole; good = before })
    | inr short ↦ inr (record { found = Some (cut_log stored point); is = short; good = after })
  ]

  -- where a cut began each image holds it, or it cut, and is good for what is said of the job
  pub keeps_cut : (point : ℕ) (stored : Stored) → Laws old → IsCutInto n point stored old new
      → ((l : Ledger) → StandsFor (settings_of v) n m l → GoodLog l (Some stored) → GoodLog (noted n l (Did act)) (Some (cut_log stored point)))
      → ((l : Ledger) → StandsFor (settings_of v) n m l → GoodLog l (Some stored) → AllGood (reading_of v.lane v.lanes) (noted n l (Did act)) n (IsCrashImage new))
      → OwnKeeps v n act m old new
  keeps_cut point stored laws into says ends = record {
    settled = λ l stands all.
        let good = read_good l stored into.was (all old.reads laws.reads_itself) in (
          jointly_widened (λ images. AllAsBefore n old images ⊎ AllCut n point stored images) (GoodOr r l (noted n l (Did act)) n) old new
              (λ images either. elim either [
                | inl before ↦ λ image is. inl (was_good r n l old images all (before_each v.lane v.lanes n old images before) image is)
                | inr cuts ↦ cut_each point stored l images good (says l stands good) cuts
              ]) into.moments,
          ends l stands good,
        );
    unsettled = λ l stands none reads.
        let good = read_good l stored into.was reads in (
          jointly_widened (λ images. AllAsBefore n old images ⊎ AllCut n point stored images) (λ images. AsBefore r n (IsCrashImage old) images ⊎ GoodOr r l (noted n l (Did act)) n images) old new
              (λ images either. elim either [
                | inl before ↦ inl (before_each v.lane v.lanes n old images before)
                | inr cuts ↦ inr (cut_each point stored l images good (says l stands good) cuts)
              ]) into.moments,
          inl (ends l stands good),
        );
  }
    where
      r : Reading
      r = reading_of v.lane v.lanes

-- ---- What the keeper then stands for

-- the same, but for the log of this number
abbrev pub with_logs : (ℕ → LogState) → Machine → Machine
with_logs logs m = record m { logs = logs }

pub reserved_one : (v v' : KeeperView) (old new : DiskView) (m : Machine) (n : ℕ) (logs : ℕ → LogState) → Represents v old m → IsReserved v v' → Elsewhere (IsOfLog n) old new
    → ((i : ℕ) → i ≢ n → logs i ≡ m.logs i) → Sound (settings_of v) (with_logs logs m) → LogIs v' new (with_logs logs m) n (m.owner n)
    → (IsOfLane v.lane v.lanes n → m.last < n → IsUnmade n new) → Represents v' new (with_logs logs m)
reserved_one v v' old new m n logs at res elsewhere others sound its above =
    represents_one (Some n) v v' old new m (with_logs logs m) (IsOfLog n) at elsewhere (λ j other. log_apart j n (λ e. other (ap Some (sym e)))) (record {
      lane = ap (λ (u : KeeperView). u.lane) res.others;
      lanes = ap (λ (u : KeeperView). u.lanes) res.others;
      keeps_texts = ap (λ (u : KeeperView). u.texts) res.others;
      sound = sound;
      texts = refl;
      states = λ k. at.states k ∙ ap (λ (s : Sessions). s.states k) (sym res.sessions_are);
      owner = λ i. at.owner i ∙ ap (λ (s : Sessions). s.owner i) (sym res.sessions_are);
      waiting = at.waiting ∙ ap (λ (u : KeeperView). u.waiting) (sym res.others);
      noting = at.noting ∙ ap (λ (u : KeeperView). u.noting) (sym res.others);
      rising = at.rising;
      waits = at.waits;
      others = λ i other. (others i (λ e. other (ap Some (sym e))), refl, ap (λ f. f i) res.logs_are);
      its = its;
      numbers = subst (λ (u : KeeperView). NumbersAre u.lane u.lanes u.numbers new (next_number (settings_of u) (with_logs logs m)) m.failed_draws) (sym res.others)
          (numbers_stay v.lane v.lanes v.numbers old new (next_number (settings_of v) m) m.failed_draws (IsOfLog n) elsewhere (λ file own mine. let e : owners.Log n ≡ owners.Numbers v.lane = sym mine ∙ own in cc) at.numbers);
      later = omega arith;
      made = λ i e of_lane over.
          let same : n ≡ i = cc in
          subst (λ (j : ℕ). IsUnmade j new) same (above (lane_back i same of_lane) (let o : m.last < i = over in omega arith));
      events = subst (λ (u : KeeperView). EventsAre u.lane u.events new (with_logs logs m)) (sym res.others)
          (events_stay v.lane v.events old new m (with_logs logs m) (IsOfLog n) elsewhere (λ file own mine. let e : owners.Log n ≡ owners.Events v.lane = sym mine ∙ own in cc) refl refl (λ none. none) at.events);
    })
  where
    lane_back : (i : ℕ) → n ≡ i → IsOfLane v'.lane v'.lanes i → IsOfLane v.lane v.lanes n
    lane_back i same is =
        let lane : v'.lane ≡ v.lane = ap (λ (u : KeeperView). u.lane) res.others in
        let lanes : v'.lanes ≡ v.lanes = ap (λ (u : KeeperView). u.lanes) res.others in
        subst (λ (j : ℕ). IsOfLane v.lane v.lanes j) (sym same) (subst (λ (x : ℕ). IsOfLane x v.lanes i) lane (subst (λ (x : ℕ). IsOfLane v'.lane x i) lanes is))

closed_on : (v v' : KeeperView) (disk : DiskView) (m : Machine) (n : ℕ) → IsReserved v v' → Free v disk m n → log_in v' n ≡ None
closed_on v v' disk m n res free = ap (λ f. f n) res.logs_are ∙ free.closed

-- a log that was looked at
pub looked_stands : (v v' : KeeperView) (old new : DiskView) (m : Machine) (n : ℕ) → Represents v old m → IsReserved v v' → m.owner n ≡ None → IsLooked n old new → Represents v' new m
looked_stands v v' old new m n at res free looked =
    reserved_one v v' old new m n m.logs at res looked.run.elsewhere (λ i other. refl) at.sound (subst (LogIs v' new m n) (sym free) its)
    (λ of_lane over. let unmade = at.unmade n of_lane over in λ file own c left. unmade file own c ((looked.unmade unmade).unchanged.elsewhere.crash file (λ none. none) c left))
  where
    was : Free v old m n
    was = free_log v old m n at free

    reads_on : (x : LogState) → ReadsAs (Replays old.reads n) x → ReadsAs (Replays new.reads n) x
    reads_on Absent a = looked.reads.forth None a
    reads_on Damaged a = λ found is. a found (looked.reads.back found is)
    reads_on (There stored promised) a = looked.reads.forth (Some stored) a

    its : Free v' new m n
    its = record { closed = closed_on v v' old m n res was; reads = reads_on (m.logs n) was.reads; enough = was.enough }

-- a log that was cut into, and reads so
pub cut_stands : (v v' : KeeperView) (old new : DiskView) (m : Machine) (n point : ℕ) (stored now : Stored) (promised : ℕ) → Laws old → Represents v old m → IsReserved v v' → m.owner n ≡ None
    → IsCutInto n point stored old new → Replays new.reads n (Some now) → promised ≤ length now.records → Represents v' new (with_log n (There now promised) m)
cut_stands v v' old new m n point stored now promised laws at res free into reads enough =
    let was = free_log v old m n at free in
    let there = there_of v old m n stored was into.was in
    let not_above = there_not_above (settings_of v) m n stored there.promised at.sound there.there in
    reserved_one v v' old new m n (λ i. if i == n then There now promised else m.logs i) at res into.run.elsewhere
    (λ i other. elim (eq_or i n) [ equal p t ↦ absurd (other p) | unequal p t ↦ rw t refl ])
    (log_sound (settings_of v) n now promised m not_above at.sound)
    (subst (LogIs v' new (with_log n (There now promised) m) n) (sym free) (elim (eq_or n n) [
      | equal p t ↦ record {
        closed = closed_on v v' old m n res was;
        reads = rw t reads;
        enough = λ other p e. let e' : There now promised ≡ There other p = rw t at e in let a : now ≡ other = cc in let b : promised ≡ p = cc in subst (λ (y : Stored). p ≤ length y.records) a (omega arith);
      }
      | unequal p t ↦ absurd (p refl)
    ]))
    (λ of_lane over. absurd (not_above of_lane over))

-- whatever fault it was, the keeper stands for a machine then
pub fault_stands : (v v' : KeeperView) (old new : DiskView) (m : Machine) (n point : ℕ) → Laws old → Laws new → Represents v old m → IsReserved v v' → m.owner n ≡ None → (fault : LogFault) → IsResumeFault n point fault old new
    → (after : Machine) × Represents v' new after
fault_stands v v' old new m n point laws laws' at res free faults.Absent (looked, none) = (m, looked_stands v v' old new m n at res free looked)
fault_stands v v' old new m n point laws laws' at res free (faults.Damaged part) (looked, none) = (m, looked_stands v v' old new m n at res free looked)
fault_stands v v' old new m n point laws laws' at res free faults.Complete (stored, found, rest) = (m, looked_stands v v' old new m n at res free found.looked)
fault_stands v v' old new m n point laws laws' at res free (faults.NoPoint other) (stored, found, going, none) = (m, looked_stands v v' old new m n at res free found.looked)
fault_stands v v' old new m n point laws laws' at res free (faults.Full part) (stored, found, going, ends, drop, full) = (m, looked_stands v v' old new m n at res free found.looked)
fault_stands v v' old new m n point laws laws' at res free faults.NoMem looked = (m, looked_stands v v' old new m n at res free looked)
fault_stands v v' old new m n point laws laws' at res free (faults.TooLong time) f = absurd f
fault_stands v v' old new m n point laws laws' at res free faults.Broken f = absurd f
fault_stands v v' old new m n point laws laws' at res free faults.Disk (inl (looked, rose)) = (m, looked_stands v v' old new m n at res free looked)
fault_stands v v' old new m n point laws laws' at res free faults.Disk (inr (stored, into, rose)) = elim (into.now new.reads laws'.reads_itself) [
  | inl whole ↦ (with_log n (There stored 0) m, cut_stands v v' old new m n point stored stored 0 laws at res free into whole (omega arith))
  | inr short ↦ (with_log n (There (cut_log stored point) 0) m, cut_stands v v' old new m n point stored (cut_log stored point) 0 laws at res free into short (omega arith))
]
