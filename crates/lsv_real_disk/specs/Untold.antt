-- What is known of a disk that tells nothing.
use Rattle.std.specs.Prelude.{ℕ, None}
use Rattle.lsv_disk.specs.View.{DiskView}

-- no file is known, at no moment; so often calls have failed
abbrev pub untold : ℕ → DiskView
untold count = record {
  reads = λ f. None;
  crash_states = λ f c. ⊥;
  moment = 0;
  crash_images_at = λ k image. ⊥;
  faults = λ f. count;
  writes = λ f. 0;
  syncs = λ f. 0;
  places = None;
}
