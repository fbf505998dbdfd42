-- What can't be read of a log's relaying is no mark.
use Rattle.std.proofs.Common.{◌≡◌, ◌↔◌, ℕ, Bool, true, false, Result, Ok, Err, IfOk, refl}
use Rattle.lsv_disk.specs.declared.disk.DiskFault.{DiskFault}
use Rattle.lsv_disk.specs.declared.file.Part.{Part}
use Rattle.lsv_disk.specs.View.{Image}
use Rattle.lsv_bundle.specs.declared.fault.BundleFault.{BundleFault}
use Rattle.lsv_bundle.specs.declared.fault.BundleFault.TheVariants as bundles
use Rattle.lsv_bundle.specs.Calls.{IsViewFault}
use Rattle.lsv_kept.specs.Kept.{IsMarked, IsStateDamage}
use Rattle.lsv_kept.proofs.Unique.{undamaged}

unmarked : (n : ℕ) (image : Image) (part : Part) (b : Bool) → b ≡ false → IsStateDamage n part image → (b ≡ true) ↔ IsMarked n image
unmarked n image part b none damage = ((λ e. absurd (let no_ : ⊥ = cc in no_)), (λ marked. absurd (undamaged n image part damage marked)))

pub not_marked : (n : ℕ) (image : Image) (r : Result Bool DiskFault) (fault : BundleFault) → IsViewFault fault → IfOk r (λ b. (b ≡ false) × (fault ≡ bundles.Disk → ⊥)) → ((part : Part) → fault ≡ bundles.Damaged part → IsStateDamage n part image)
    → IfOk r (λ b. (b ≡ true) ↔ IsMarked n image)
not_marked n image (Err e) fault view is damage = tt
not_marked n image (Ok b) bundles.Disk view is damage = absurd (is.1 refl)
not_marked n image (Ok b) (bundles.Damaged part) view is damage = unmarked n image part b is.0 (damage part refl)
not_marked n image (Ok b) bundles.Broken view is damage = absurd view
not_marked n image (Ok b) (bundles.Full part) view is damage = absurd view
not_marked n image (Ok b) bundles.NoMem view is damage = absurd view
