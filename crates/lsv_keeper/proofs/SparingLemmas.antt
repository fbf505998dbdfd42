-- What a turn writes of a damaged log: nothing but its journal.
use Rattle.std.proofs.Common.{◌≡◌, ◌≢◌, ◌≤◌, ◌<◌, ◌⊎◌, ℕ, List, refl, sym, ◌∙◌, ap, subst, inl, inr, arith, Some, None}
use Rattle.lsv_disk.specs.View.{DiskView}
use Rattle.lsv_iolog.specs.Recovered.{Replays, ReplaysNothing}
use Rattle.lsv_iolog.specs.declared.fault.LogFault.{LogFault}
use Rattle.lsv_iolog.specs.declared.fault.LogFault.TheVariants as faults
use Rattle.lsv_seq.specs.declared.numbers.Numbers.{Numbers}
use Rattle.lsv_seq.specs.Value.{lanes_of}
use Rattle.lsv_session.specs.Table.{Sessions}
use Rattle.lsv_machine.specs.Machine.{IsOfLane, LogState, LogState.Absent, LogState.Damaged, LogState.There, Machine}
use Rattle.lsv_machine.specs.Starts.{ReadsAs}
use Rattle.lsv_machine.proofs.Choices.{EqOr.equal, EqOr.unequal, eq_or}
use Rattle.lsv_keeper.specs.declared.logs.OpenLog.{OpenLog}
use Rattle.lsv_keeper.specs.Represents.{Free, LogIs, Represents}
use Rattle.lsv_keeper.specs.Resuming.{IsLooked, IsResumeFault, IsResumed}
use Rattle.lsv_keeper.specs.Syncing.{IsPast, NoLog, Syncs, SyncsIfLeft, SyncsThese, Unused}
use Rattle.lsv_keeper.specs.Syncs.{Spares, SparesDamaged, SyncedOnce}
use Rattle.lsv_keeper.specs.Tails.{IsOneOf}
use Rattle.lsv_keeper.specs.Value.{IsReserved, KeeperView, sessions_of}
use Rattle.lsv_keeper.proofs.Causes.{none_of}
use Rattle.lsv_keeper.proofs.Numbering.{last_at}
use Rattle.lsv_keeper.proofs.Syncing.{owned_one}

-- ---- A damaged log

module _ (v : KeeperView) (disk : DiskView) (m : Machine) (n : ℕ) (at : Represents v disk m) (damaged : m.logs n ≡ Damaged) where
  -- nobody writes it
  pub damaged_free : m.owner n ≡ None
  damaged_free = none_of (m.owner n) (λ k own. let (stored, promised, there) = at.sound.there n k own in let e : Damaged ≡ There stored promised = sym damaged ∙ there in cc)

  pub unowned : (sessions_of v).owner n ≡ None
  unowned = sym (at.owner n) ∙ damaged_free

  -- its number was drawn
  pub damaged_past : IsPast v.numbers n
  damaged_past lane = elim (le_or n m.last) [
    | inl low ↦ let mine = last_at v disk m at in omega arith
    | inr high ↦ absurd (let e : Damaged ≡ Absent = sym damaged ∙ (at.sound.none_above n its high).0 in cc)
  ]
    where
      its : IsOfLane v.lane v.lanes n
      its = subst (λ (x : ℕ). IsOfLane v.lane x n) at.numbers.lanes_is (subst (λ (x : ℕ). IsOfLane x (lanes_of v.numbers) n) at.numbers.lane_is lane)

      le_or : (a b : ℕ) → (a ≤ b) ⊎ (b < a)
      le_or a b = grind arith

  -- nothing is recovered of it
  pub damaged_reads : ReplaysNothing disk.reads n
  damaged_reads =
      let free : Free v disk m n = subst (LogIs v disk m n) damaged_free (at.logs n) in
      subst (λ (x : LogState). ReadsAs (Replays disk.reads n) x) damaged free.reads

-- ---- Calls that spare it

pub spares_same : (n : ℕ) (disk : DiskView) → Spares n disk disk
spares_same n disk file own other = refl

pub spares_on : (n : ℕ) (one two three : DiskView) → Spares n one two → Spares n two three → Spares n one three
spares_on n one two three s t file own other = t file own other ∙ s file own other

unused_spares : (n : ℕ) (old new : DiskView) → Unused n old new → Spares n old new
unused_spares n old new u file own other = u.writes file own

-- calls that write no log but one that its writer lets go
spares_left : (n : ℕ) (v v' : KeeperView) (old new : DiskView) → Syncs NoLog v v' old new → IsPast v.numbers n → (sessions_of v).owner n ≡ None → Spares n old new
spares_left n v v' old new s past free = go (s.each n past (λ none. none))
  where
    go : SyncsIfLeft n v v' old new → Spares n old new
    go (inl (same, u)) = unused_spares n old new u
    go (inr ((k, own), gone, once)) = absurd (let e : None ≡ Some k = sym free ∙ own in cc)

pub spares_none : (v v' : KeeperView) (old new : DiskView) (m : Machine) → Represents v old m → Syncs NoLog v v' old new → SparesDamaged m old new
spares_none v v' old new m at s n damaged = spares_left n v v' old new s (damaged_past v old m n at damaged) (unowned v old m n at damaged)

-- commit points
pub spares_these : (v : KeeperView) (old new : DiskView) (m : Machine) → Represents v old m → SyncsThese m.waiting old new → SparesDamaged m old new
spares_these v old new m at these n damaged = go (these n)
  where
    go : Unused n old new ⊎ (IsOneOf n m.waiting × SyncedOnce n old new) → Spares n old new
    go (inl u) = unused_spares n old new u
    go (inr (is, once)) = let (k, own) = owned_one m.owner n m.waiting at.waits is in absurd (let e : None ≡ Some k = sym (damaged_free v old m n at damaged) ∙ own in cc)

-- ---- A restart

looked_spares : (n : ℕ) (old new : DiskView) → IsLooked n old new → Spares n old new
looked_spares n old new looked file own other = looked.others file other

fault_spares : (n point : ℕ) (fault : LogFault) (old new : DiskView) → ReplaysNothing old.reads n → IsResumeFault n point fault old new → Spares n old new
fault_spares n point faults.Absent old new nothing (looked, was) = looked_spares n old new looked
fault_spares n point (faults.Damaged part) old new nothing (looked, was) = looked_spares n old new looked
fault_spares n point faults.Complete old new nothing (stored, found, more) = looked_spares n old new found.looked
fault_spares n point (faults.NoPoint other) old new nothing (stored, found, going, none) = looked_spares n old new found.looked
fault_spares n point (faults.Full part) old new nothing (stored, found, going, some, less, cuts) = looked_spares n old new found.looked
fault_spares n point faults.Disk old new nothing (inl (looked, rose)) = looked_spares n old new looked
fault_spares n point faults.Disk old new nothing (inr (stored, into, rose)) = absurd (nothing (Some stored) into.was)
fault_spares n point faults.NoMem old new nothing looked = looked_spares n old new looked
fault_spares n point (faults.TooLong time) old new nothing none = absurd none
fault_spares n point faults.Broken old new nothing none = absurd none

module _ (i point : ℕ) (v v1 : KeeperView) (old one : DiskView) (m : Machine) (at : Represents v old m) (others : (n : ℕ) → n ≢ i → Unused n old one) where
  either : (n : ℕ) → (n ≡ i → Spares n old one) → Spares n old one
  either n its = elim (eq_or n i) [
    | equal e t ↦ its e
    | unequal e t ↦ unused_spares n old one (others n e)
  ]

  here : (n : ℕ) → n ≡ i → m.logs n ≡ Damaged → ReplaysNothing old.reads i
  here n e damaged = damaged_reads v old m i at (ap (λ (x : ℕ). m.logs x) (sym e) ∙ damaged)

  -- a damaged log isn't gone on with
  pub spares_resumed : (texts : List (List ℕ)) (its : OpenLog) → IsResumed i point texts its old one → SparesDamaged m old one
  spares_resumed texts its r n damaged = either n (λ e. absurd (here n e damaged (Some r.stored) r.into.was))

  -- the restart was refused, and its connection leaves
  pub spares_refused : (v' : KeeperView) (new : DiskView) (fault : LogFault) → IsReserved v v1 → IsResumeFault i point fault old one → Syncs NoLog v1 v' one new → SparesDamaged m old new
  spares_refused v' new fault same found left n damaged =
      spares_on n old one new (either n (λ e. subst (λ (x : ℕ). Spares x old one) (sym e) (fault_spares i point fault old one (here n e damaged) found)))
      (spares_left n v1 v' one new left
      (subst (λ (x : Numbers). IsPast x n) (sym (ap (λ (x : KeeperView). x.numbers) same.others)) (damaged_past v old m n at damaged))
      (ap (λ (s : Sessions). s.owner n) same.sessions_are ∙ unowned v old m n at damaged))
