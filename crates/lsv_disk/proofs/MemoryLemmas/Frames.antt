-- What a call on the disk in memory leaves alone, in the words of the trait.
use Rattle.std.proofs.Common.{◌≡◌, inl, inr, ℕ, ◌+◌, ◌≤◌, List, Option, Result, Ok, Err, OnErr, IsErr}
use Rattle.std.proofs.lemmas.Bool.{false≢true}
use Rattle.lsv_defs.specs.Causes.{HasRisen}
use Rattle.lsv_disk.specs.declared.file.FileId.{FileId}
use Rattle.lsv_disk.specs.declared.memory.call.Call.{Call}
use Rattle.lsv_disk.specs.declared.memory.call.Effect.{Effect}
use Rattle.lsv_disk.specs.View.{Places, DiskView, Elapses, Elsewhere, Quiet, Uncounted, OneRead, OneMaking, OneWrite, OneSync, HasCause}
use Rattle.lsv_disk.specs.Memory.Calls.{state_of, view_of, is_write, is_sync, faults_of}
use Rattle.lsv_disk.proofs.MemoryLemmas.Noting.{elapses, elapses_none}
use Rattle.lsv_disk.proofs.MemoryLemmas.Outcomes.{Kept, Not, NoCount, kept_elsewhere, kept_same, kept_rose, kept_weaker, kept_counts}

module _ (old new : List Call) (file : FileId) (refused refused_now : ℕ) (places places_now : Option Places) (same_places : places_now ≡ places) where
  abbrev Before : DiskView
  Before = view_of old refused places

  abbrev After : DiskView
  After = view_of new refused_now places_now

  time_of : Elapses (state_of old) (state_of new) → Elapses Before After
  time_of time = record { later = time.later; one = time.one; past = time.past; keeps = time.keeps }

  kept_time : (P : Effect → Type 0) → Kept P old new file → Elapses Before After
  kept_time P (inl k) = time_of (elapses old new file k.0 k.2)
  kept_time P (inr same) = time_of (elapses_none old new same)

  quiet_of : Quiet (state_of old) (state_of new) → Quiet Before After
  quiet_of quiet = record { same = quiet.same; crash = quiet.crash }

  kept_uncounted : Kept NoCount old new file → Uncounted Before After
  kept_uncounted kept = record {
    writes = kept_same is_write old new file (kept_weaker NoCount (Not is_write) old new file (λ effect is. is.0) kept);
    syncs = kept_same is_sync old new file (kept_weaker NoCount (Not is_sync) old new file (λ effect is. is.1) kept);
  }

  elsewhere_of : (P : Effect → Type 0) → Kept P old new file → Elsewhere (λ g. g ≡ file) Before After
  elsewhere_of P kept =
      let e : Elsewhere (λ g. g ≡ file) (state_of old) (state_of new) = kept_elsewhere P old new file kept in
      record { same = e.same; crash = e.crash }

  -- it read
  pub one_read : Kept NoCount old new file → Quiet (state_of old) (state_of new) → OneRead Before After
  one_read kept quiet = record { quiet = quiet_of quiet; time = kept_time NoCount kept; counts = kept_uncounted kept; places = same_places }

  -- it made the file
  pub one_making : Kept NoCount old new file → OneMaking file Before After
  one_making kept = record { elsewhere = elsewhere_of NoCount kept; time = kept_time NoCount kept; counts = kept_uncounted kept; places = same_places }

  -- it wrote
  pub one_write : Kept (Not is_sync) old new file → OneWrite file Before After
  one_write kept = record {
    elsewhere = elsewhere_of (Not is_sync) kept;
    time = kept_time (Not is_sync) kept;
    writes = kept_rose (Not is_sync) is_write old new file kept;
    syncs = kept_same is_sync old new file kept;
    places = same_places;
  }

  -- it synced
  pub one_sync : Kept (Not is_write) old new file → Quiet (state_of old) (state_of new) → OneSync file Before After
  one_sync kept quiet = record {
    quiet = quiet_of quiet;
    time = kept_time (Not is_write) kept;
    writes = kept_same is_write old new file kept;
    syncs = kept_rose (Not is_write) is_sync old new file kept;
    places = same_places;
  }

  -- its fault has a cause
  pub has_cause : {T E : Type 0} (P : Effect → Type 0) (r : Result T E) → Kept P old new file → refused ≤ refused_now → OnErr r (HasRisen (faults_of old file + refused) (faults_of new file + refused_now)) → HasCause file (IsErr r) Before After
  has_cause P (Ok x) kept risen rose = record { monotone = kept_counts P old new file refused refused_now kept risen; risen = λ is. absurd (false≢true is) }
  has_cause P (Err x) kept risen rose = record { monotone = kept_counts P old new file refused refused_now kept risen; risen = λ is. rose }
