-- What a write to a file leaves, of which nothing was unsynced before.
use Rattle.std.proofs.Common.{◌≡◌, ℕ, List, Option, sym, subst}
use Rattle.lsv_disk.specs.declared.file.FileId.{FileId}
use Rattle.lsv_disk.specs.Bytes.{Torn}
use Rattle.lsv_disk.specs.View.{Image, DiskView, IsCrashImage, Only, IsSynced, Follows, OneWrite, OneSync}
use Rattle.lsv_disk.specs.Throughout.{Throughout}
use Rattle.lsv_disk.specs.TornLemmas.{torn_same}
use Rattle.lsv_disk.proofs.Composition.{OnlyNow, one_write, followed, one_sync, unchanged_throughout}

-- each outcome of a write to a file that could be left in one way alone is that one, torn
pub torn_from : (at n : ℕ) (reads : Option (List ℕ)) (before after : Option (List ℕ) → Type 0) → Only reads before → Follows (Torn at n) before after → (c : Option (List ℕ)) → after c → Torn at n reads c
torn_from at n reads before after only follows c left =
    let step : (d : Option (List ℕ)) × before d × Torn at n d c = follows c left in
    subst (λ (d : Option (List ℕ)). Torn at n d c) (only step.0 step.1) step.2

module _ (f : FileId) (at n : ℕ) (old mid new : DiskView) (only_old : OnlyNow old) (only_mid : OnlyNow mid) (only_new : OnlyNow new)
    (synced : IsSynced old f) (crash : Follows (Torn at n) (old.crash_states f) (mid.crash_states f)) (write : OneWrite f old mid) where
  abbrev IsTorn : Image → Type 0
  IsTorn image = Torn at n (old.reads f) (image f)

  as_it_was : (image : Image) → IsCrashImage old image → IsTorn image
  as_it_was image was = subst (λ (c : Option (List ℕ)). Torn at n (old.reads f) c) (sym (synced (image f) (was f))) (torn_same at n (old.reads f))

  as_written : (image : Image) → IsCrashImage mid image → IsTorn image
  as_written image is = torn_from at n (old.reads f) (old.crash_states f) (mid.crash_states f) synced crash (image f) (is f)

  -- the write alone
  pub write_run : Throughout (λ g. g ≡ f) IsTorn old mid
  write_run = one_write f IsTorn old mid write only_old only_mid as_it_was as_written

  -- the write, and then a sync
  pub synced_run : OneSync f mid new → Throughout (λ g. g ≡ f) IsTorn old new
  synced_run sync =
      followed (λ g. g ≡ f) IsTorn old mid new write_run (unchanged_throughout (λ g. g ≡ f) IsTorn mid new as_written (one_sync f mid new sync only_mid only_new))
