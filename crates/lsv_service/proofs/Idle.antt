-- A store with which nothing was done.
use Rattle.std.proofs.Common.{◌≡◌, [], List, ℕ, refl, subst, arith}
use Rattle.lsv_disk.specs.Throughout.{Jointly}
use Rattle.lsv_disk.specs.View.{DiskView, Image, IsCrashImage}
use Rattle.lsv_machine.specs.Disks.{AsBefore, LinesAsBefore, NumbersFit, SameLines, SameLog}
use Rattle.lsv_machine.specs.Durable.{Reading}
use Rattle.lsv_machine.specs.Keeping.{OpensStore}
use Rattle.lsv_machine.specs.Machine.{Settings}
use Rattle.lsv_machine.proofs.Folds.{touches_none}
use Rattle.lsv_keeper.specs.Reading.{reading_of}
use Rattle.lsv_lane.specs.Store.{KeepsStore}
use Rattle.lsv_lane.proofs.Conforming.{keeps_none}

module _ (disk : DiskView) (only_now : (image : Image) → disk.crash_images_at disk.moment image → IsCrashImage disk image) where
  jointly_now : (Holds : (Image → Type 0) → Type 0) → ((images : Image → Type 0) → ((image : Image) → images image → IsCrashImage disk image) → Holds images) → Jointly Holds disk disk
  jointly_now Holds holds = record {
    later = omega arith;
    past = λ k image less is. is;
    keeps = λ k image less is. is;
    each = λ k from to. holds (disk.crash_images_at k) (λ image is. only_now image (subst (λ (i : ℕ). disk.crash_images_at i image) (let e : k ≡ disk.moment = omega arith in e) is));
  }

  same_log : (r : Reading) (n : ℕ) (image : Image) → SameLog r n image image
  same_log r n image = record { to = λ found is. is; back = λ found is. is }

  as_now : (r : Reading) (n : ℕ) (images : Image → Type 0) → ((image : Image) → images image → IsCrashImage disk image) → AsBefore r n (IsCrashImage disk) images
  as_now r n images sub image is = (image, sub image is, same_log r n image)

  same_lines : (r : Reading) (image : Image) → SameLines r image image
  same_lines r image = record { to = λ text is. is; back = λ text is. is }

  lines_now : (r : Reading) (images : Image → Type 0) → ((image : Image) → images image → IsCrashImage disk image) → LinesAsBefore r (IsCrashImage disk) images
  lines_now r images sub image is = (image, sub image is, same_lines r image)

  fewer : (r : Reading) (lane lanes : ℕ) (images : Image → Type 0) → NumbersFit r lane lanes (IsCrashImage disk) → ((image : Image) → images image → IsCrashImage disk image) → NumbersFit r lane lanes images
  fewer r lane lanes images fit sub = record { told = λ image is. fit.told image (sub image is); none_above = λ a b last n is it. fit.none_above a b last n (sub a is) (sub b it) }

  pub opens_nothing : (r : Reading) (lane lanes : ℕ) → OpensStore r lane lanes disk disk
  opens_nothing r lane lanes = record {
    files = touches_none lane lanes (λ n. ⊥) disk only_now;
    monotone = λ file. omega arith;
    logs = λ n. (jointly_now (AsBefore r n (IsCrashImage disk)) (as_now r n), record { images = as_now r n (IsCrashImage disk) (λ image is. is); reads = same_log r n disk.reads });
    numbers = λ fit. record { moments = jointly_now (NumbersFit r lane lanes) (λ images sub. fewer r lane lanes images fit sub); now = fit };
    lines = record { moments = jointly_now (LinesAsBefore r (IsCrashImage disk)) (lines_now r); now = lines_now r (IsCrashImage disk) (λ image is. is); reads = same_lines r disk.reads };
  }

-- a store that wasn't opened, since nothing was done
pub keeps_nothing : (disk : DiskView) → ((image : Image) → disk.crash_images_at disk.moment image → IsCrashImage disk image) → (set : Settings) (texts : List (List ℕ)) → KeepsStore ⊥ set texts (record { found = disk; left = disk }) []
keeps_nothing disk only_now set texts = keeps_none set texts disk disk (opens_nothing disk only_now (reading_of set.lane set.lanes) set.lane set.lanes) (λ n. record { writes = λ file own. refl; syncs = λ file own. refl })
