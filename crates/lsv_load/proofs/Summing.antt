-- The logs of a load are summed up one by one.
use Rattle.std.proofs.Common.{◌≡◌, ◌++◌, ◌≤◌, ℕ, List, [], ◌∷◌, Some, Result, Ok, Err, OnOk, refl, sym, subst, arith}
use Rattle.std.specs.List.{Contains}
use Rattle.lsv_defs.specs.Causes.{HasRisen}
use Rattle.lsv_disk.specs.declared.file.FileId.{FileId}
use Rattle.lsv_disk.specs.declared.file.Part.TheVariants.{Slots}
use Rattle.lsv_disk.specs.Throughout.{OnlyReads}
use Rattle.lsv_disk.specs.View.{DiskView, Image}
use Rattle.lsv_disk.proofs.Composition.{OnlyNow, reads_trans}
use Rattle.lsv_gen.specs.Summary.{totals_of}
use Rattle.lsv_gen.specs.declared.totals.Totals.{Totals}
use Rattle.lsv_iolog.specs.declared.fault.ViewFault.{ViewFault}
use Rattle.lsv_iolog.specs.declared.fault.ViewFault.TheVariants as views
use Rattle.lsv_iolog.specs.Recovered.{IsOfLog, Replays}
use Rattle.lsv_iolog.proofs.Scans.{reads_nothing}
use Rattle.lsv_record.specs.Points.{Stored}
use Rattle.lsv_load.specs.Faults.{HasReplayCause, IsUnreadable, fault_of}
use Rattle.lsv_load.specs.InnerSums.{IsSumming, IsUnread}
use Rattle.lsv_load.specs.Replayed.{AreReplayed}
use Rattle.lsv_load.proofs.Adding.{same_image}

-- with one log more
replayed_more : (image : Image) (numbers : List ℕ) (stored : List Stored) (n : ℕ) (log : Stored) → AreReplayed image numbers stored → Replays image n (Some log) → AreReplayed image (numbers ++ n ∷ []) (stored ++ log ∷ [])
replayed_more image [] [] n log are is = (is, tt)
replayed_more image [] (x ∷ stored) n log are is = absurd are
replayed_more image (m ∷ numbers) [] n log are is = absurd are
replayed_more image (m ∷ numbers) (x ∷ stored) n log are is = (are.0, replayed_more image numbers stored n log are.1 is)

-- at first
pub summing_starts : (tells : Type 0) (disk : DiskView) (sums : Totals) → (tells → OnlyNow disk) → sums ≡ totals_of [] → IsSumming tells [] disk disk sums
summing_starts tells disk sums now none = record { disk = λ f. omega arith; reads = λ told. reads_nothing disk (now told); replayed = λ told. ([], tt, none) }

-- with one log more
pub summing_goes_on : (tells : Type 0) (numbers : List ℕ) (n : ℕ) (old now later : DiskView) (sums more : Totals) → IsSumming tells numbers old now sums → (tells → OnlyReads now later) → ((f : FileId) → now.faults f ≤ later.faults f)
    → (tells → (stored : List Stored) → sums ≡ totals_of stored → (log : Stored) × Replays now.reads n (Some log) × (more ≡ totals_of (stored ++ log ∷ []))) → IsSumming tells (numbers ++ n ∷ []) old later more
summing_goes_on tells numbers n old now later sums more is reads disk added = record {
  disk = λ f. omega (arith, is.disk f, disk f);
  reads = λ told. reads_trans old now later (is.reads told) (reads told);
  replayed = λ told.
      let so_far = is.replayed told in
      let one = added told so_far.0 so_far.2 in (
        so_far.0 ++ one.0 ∷ [],
        subst (λ (image : Image). AreReplayed image (numbers ++ n ∷ []) (so_far.0 ++ one.0 ∷ [])) (sym (same_image now later (reads told))) (replayed_more now.reads numbers so_far.0 n one.0 so_far.1 one.1),
        one.2,
      );
}

-- what holds where there is no error
pub ok_holds : {T : Type 0} (r : Result T ViewFault) (P : Type 0) → ((e : ViewFault) → r ≡ Err e → ⊥) → OnOk r P → P
ok_holds (Ok x) P none is = is
ok_holds (Err e) P none is = absurd (none e refl)

-- why a log of these isn't replayed
pub replay_fails : (tells : Type 0) (numbers : List ℕ) (n : ℕ) (old now later : DiskView) (e : ViewFault) → Contains numbers n → ((f : FileId) → old.faults f ≤ now.faults f) → (tells → OnlyReads now later) → (tells → IsUnread now.reads n e)
    → (e ≡ views.Disk → (f : FileId) × IsOfLog n f × HasRisen (now.faults f) (later.faults f)) → HasReplayCause tells numbers old later (fault_of n e)
replay_fails tells numbers n old now later views.Absent one_of mono reads unread risen =
    (n, one_of, refl, λ told. subst (λ (image : Image). IsUnreadable n Slots image) (sym (same_image now later (reads told))) (unread told))
replay_fails tells numbers n old now later (views.Damaged part) one_of mono reads unread risen =
    (n, one_of, refl, λ told. subst (λ (image : Image). IsUnreadable n part image) (sym (same_image now later (reads told))) (unread told))
replay_fails tells numbers n old now later views.Disk one_of mono reads unread risen =
    let one = risen refl in (n, one_of, refl, (one.0, one.1, λ small. let m = mono one.0 in let r = one.2 small in omega (arith, m, r)))
replay_fails tells numbers n old now later views.NoMem one_of mono reads unread risen = tt
