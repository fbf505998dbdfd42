-- What a crate above knows of a lane's numbers, over plain values: it cites these lemmas, and no other of this crate.
use Rattle.std.proofs.Common.{◌≡◌, ℕ, ◌≤◌, ◌<◌, Bool, true, false, if◌then◌else◌, ◌==◌, ◌&&◌, Option, Some, None, Ok, Err, sym, ap, ◌∙◌, inl, inr, arith}
use Rattle.std.proofs.lemmas.Bool.Decides.{nat_tests}
use Rattle.lsv_disk.specs.declared.file.FileId.{FileId}
use Rattle.lsv_disk.specs.declared.file.Owner.TheVariants as owners
use Rattle.lsv_disk.specs.View.{Image, DiskView, IsCrashImage, Elsewhere}
use Rattle.lsv_journal.proofs.Laws.{own_owner}
use Rattle.lsv_seq.specs.declared.entry.Entry.{Entry}
use Rattle.lsv_seq.specs.declared.fault.SeqFault.{SeqFault}
use Rattle.lsv_seq.specs.declared.numbers.Numbers.{Numbers}
use Rattle.lsv_seq.specs.Entry.{is_entry, is_of_lane, next}
use Rattle.lsv_seq.specs.Drawn.{numbers_file, IsAsSomeCrash, IsNumbersFile, LastDrawn, entry_at, judged}
use Rattle.lsv_seq.specs.Value.{lane_of, lanes_of, last_of, pending_of, next_of, HasDrawn}
use Rattle.lsv_seq.specs.Represents.{Represents}
use Rattle.lsv_seq.proofs.Images as Images

pub drawn_once : (lane lanes others last other : ℕ) (image : Image) → LastDrawn lane lanes last image → LastDrawn lane others other image → (last ≡ other) × (lanes ≡ others)
drawn_once lane lanes others last other image a b = let e : Some (record { last = last; lane = lane; lanes = lanes }) ≡ Some (record { last = other; lane = lane; lanes = others }) = sym a ∙ b in (ap last_or e, ap lanes_or e) where
  last_or : Option Entry → ℕ
  last_or None = 0
  last_or (Some e) = e.last

  lanes_or : Option Entry → ℕ
  lanes_or None = 0
  lanes_or (Some e) = e.lanes

pub drawn_alone : (lane lanes last : ℕ) (image other : Image) → ((g : FileId) → IsNumbersFile lane g → other g ≡ image g) → LastDrawn lane lanes last image → LastDrawn lane lanes last other
drawn_alone lane lanes last image other same is = Images.entry_local lane image other same ∙ is

-- the last entry depends on the files of the lane's numbers alone
pub entry_alone : (lane : ℕ) (image other : Image) → ((g : FileId) → IsNumbersFile lane g → other g ≡ image g) → entry_at lane other ≡ entry_at lane image
entry_alone lane image other same = Images.entry_local lane image other same

-- if the last entry of each crash image of a disk is that of some crash image before, so is that of each image of which a crash leaves the files of the lane's numbers
pub left_as_some : (lane : ℕ) (old disk : DiskView) → IsCrashImage disk disk.reads → ((image : Image) → IsCrashImage disk image → IsAsSomeCrash lane old image)
    → (image : Image) → ((g : FileId) → IsNumbersFile lane g → disk.crash_states g (image g)) → IsAsSomeCrash lane old image
left_as_some lane old disk itself all image left =
    Images.by_own (numbers_file lane) (IsAsSomeCrash lane old) disk itself (λ a b same is. (is.0, is.1, Images.entry_local lane a b same ∙ is.2)) all image left

pub numbers_owner : (lane : ℕ) (g : FileId) → IsNumbersFile lane g → g.owner ≡ owners.Numbers lane
numbers_owner lane g own = own_owner (numbers_file lane) g own

pub numbers_hold : (numbers : Numbers) (disk : DiskView) → Represents numbers disk → (image : Image) → IsCrashImage disk image → HasDrawn numbers image
numbers_hold numbers disk at image crash = Images.drawn_now numbers disk at image crash

pub numbers_last : (numbers : Numbers) (disk : DiskView) → Represents numbers disk → pending_of numbers ≡ None → (image : Image) → IsCrashImage disk image
    → LastDrawn (lane_of numbers) (lanes_of numbers) (last_of numbers) image
numbers_last numbers disk at none image crash = Images.last_now numbers disk at none image crash

pub numbers_stay : (numbers : Numbers) (Touched : FileId → Type 0) (old new : DiskView) → Represents numbers old → Elsewhere Touched old new
    → ((g : FileId) → IsNumbersFile (lane_of numbers) g → Touched g → ⊥) → Represents numbers new
numbers_stay numbers Touched old new at elsewhere apart = Images.numbers_stay numbers Touched old new at elsewhere apart

-- the next number is above the last one
above_last : (e : Entry) → is_entry e ≡ true → e.last < next e
above_last e is = grind (arith, nat_tests)

pub next_above : (numbers : Numbers) → last_of numbers < next_of numbers
next_above numbers = above_last numbers.kept numbers.sound.entry

pub pending_next : (numbers : Numbers) (p : ℕ) → pending_of numbers ≡ Some p → p ≡ next_of numbers
pending_next numbers p is = (numbers.sound.pending_is p is).0

-- an entry that is judged well is answered
answered : (a b : Bool) (found last : ℕ) (e f : SeqFault) → (if a then (if b then Ok found else Err e) else Err f) ≡ Ok last → found ≡ last
answered true true found last e f is = cc is
answered true false found last e f is = absurd (cc is)
answered false b found last e f is = absurd (cc is)

judged_last : (lane lanes last found : ℕ) (o : Option Entry) → o ≡ Some (record { last = found; lane = lane; lanes = lanes }) → judged lane lanes o ≡ Ok last → found ≡ last
judged_last lane lanes last found o is well =
    answered (lanes == lanes) (lane == lane && is_of_lane (record { last = found; lane = lane; lanes = lanes })) found last _ _ (sym (ap (judged lane lanes) is) ∙ well)

pub opened_above : (numbers : Numbers) (image : Image) (last : ℕ) → HasDrawn numbers image → judged (lane_of numbers) (lanes_of numbers) (entry_at (lane_of numbers) image) ≡ Ok last → last_of numbers ≤ last
opened_above numbers image last (inl is) well = let e = judged_last (lane_of numbers) (lanes_of numbers) last (last_of numbers) _ is well in omega (arith, e)
opened_above numbers image last (inr (p, pending, is)) well =
    let e = judged_last (lane_of numbers) (lanes_of numbers) last p _ is well in
    let n = pending_next numbers p pending in
    omega (arith, e, n, next_above numbers)
