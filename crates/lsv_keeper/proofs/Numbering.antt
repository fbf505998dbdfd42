-- The numbers of a keeper's disk.
use Rattle.std.proofs.Common.{◌≡◌, ◌≤◌, ◌<◌, ◌+◌, ◌*◌, ℕ, sym, ◌∙◌, ap, subst, inl, inr, arith, Some, None}
use Rattle.std.specs.Prelude.{◌==◌, if◌then◌else◌}
use Rattle.lsv_disk.specs.Throughout.{OnlyReads, Throughout}
use Rattle.lsv_disk.specs.View.{DiskView, Image, IsCrashImage}
use Rattle.lsv_disk.specs.declared.file.FileId.{FileId}
use Rattle.lsv_disk.specs.declared.file.Owner.TheVariants as owners
use Rattle.lsv_iolog.specs.Recovered.{IsOfLog}
use Rattle.lsv_seq.specs.Drawn.{LastDrawn, numbers_file}
use Rattle.lsv_seq.specs.Value.{HasDrawn, lane_of, lanes_of, last_of}
use Rattle.lsv_seq.proofs.Laws.{drawn_once, next_above, numbers_hold, pending_next}
use Rattle.lsv_machine.specs.Disks.{KeepsNumbers, NumbersFit}
use Rattle.lsv_machine.specs.Machine.{IsOfLane, Machine}
use Rattle.lsv_machine.specs.Work.{next_number}
use Rattle.lsv_machine.proofs.Changing.{NotAbove}
use Rattle.lsv_machine.proofs.Choices.{EqOr.equal, EqOr.unequal, eq_or}
use Rattle.lsv_machine.proofs.Folds.{numbers_down}
use Rattle.lsv_keeper.specs.Reading.{IsBare, IsDrawn, reading_of}
use Rattle.lsv_keeper.specs.Represents.{Represents}
use Rattle.lsv_keeper.specs.Rows.{Beside}
use Rattle.lsv_keeper.specs.Value.{KeeperView, settings_of}
use Rattle.lsv_keeper.proofs.Frames.{IsBelow, Laws, ReadsAbove, beside_log, beside_restart}

-- an image tells one last number
pub one_drawn : (lane lanes a b : ℕ) (image : Image) → IsDrawn lane lanes image a → IsDrawn lane lanes image b → a ≡ b
one_drawn lane lanes a b image (inl x) (inl y) = (drawn_once lane lanes lanes a b image x y).0
one_drawn lane lanes a b image (inl x) (inr (none, zero)) = absurd (let e : None ≡ Some (record { last = a; lane = lane; lanes = lanes }) = sym none ∙ x in cc)
one_drawn lane lanes a b image (inr (none, zero)) (inl y) = absurd (let e : None ≡ Some (record { last = b; lane = lane; lanes = lanes }) = sym none ∙ y in cc)
one_drawn lane lanes a b image (inr x) (inr y) = x.1 ∙ sym y.1

-- the last number of a number file isn't below the machine's
not_below : (last mine lane lanes passed : ℕ) → lane < lanes → (if last == 0 then lane + 1 else last + lanes) ≡ (if mine == 0 then lane + 1 else mine + lanes) + passed → mine ≤ last
not_below last mine lane lanes passed few e = elim (eq_or mine 0) [
  | equal p t ↦ omega arith
  | unequal p t ↦ elim (eq_or last 0) [
    | equal q u ↦ absurd (let f : lane + 1 ≡ mine + lanes + passed = rw (t, u) at e in omega arith)
    | unequal q u ↦ let f : last + lanes ≡ mine + lanes + passed = rw (t, u) at e in omega arith
  ]
]

pub last_at : (v : KeeperView) (disk : DiskView) (m : Machine) → Represents v disk m → m.last ≤ last_of v.numbers
last_at v disk m at =
    let n = at.numbers in
    let next : (if last_of v.numbers == 0 then v.lane + 1 else last_of v.numbers + v.lanes) ≡ next_number (settings_of v) m + n.passed * v.lanes =
    ap (λ (x : ℕ). if last_of v.numbers == 0 then x + 1 else last_of v.numbers + v.lanes) (sym n.lane_is)
    ∙ ap (λ (x : ℕ). if last_of v.numbers == 0 then lane_of v.numbers + 1 else last_of v.numbers + x) (sym n.lanes_is) ∙ n.next_is in
    not_below (last_of v.numbers) m.last v.lane v.lanes (n.passed * v.lanes) at.sound.lane next

-- each image tells the machine's last number, or one above it
pub drawn_at : (v : KeeperView) (disk : DiskView) (m : Machine) → Represents v disk m → (image : Image) → IsCrashImage disk image → (last : ℕ) × LastDrawn v.lane v.lanes last image × (m.last ≤ last)
drawn_at v disk m at image is = go (numbers_hold v.numbers disk at.numbers.represents image is)
  where
    its : (last : ℕ) → LastDrawn (lane_of v.numbers) (lanes_of v.numbers) last image → LastDrawn v.lane v.lanes last image
    its last d = subst (λ (x : ℕ). LastDrawn x v.lanes last image) at.numbers.lane_is (subst (λ (x : ℕ). LastDrawn (lane_of v.numbers) x last image) at.numbers.lanes_is d)

    go : HasDrawn v.numbers image → (last : ℕ) × LastDrawn v.lane v.lanes last image × (m.last ≤ last)
    go (inl d) = (last_of v.numbers, its (last_of v.numbers) d, last_at v disk m at)
    go (inr (p, pending, d)) = (p, its p d, let x = last_at v disk m at in let y = next_above v.numbers in let e = pending_next v.numbers p pending in omega arith)

-- images that each tell a last number that isn't below this one, above which no log has a file
pub fits_above : (lane lanes last : ℕ) (images : Image → Type 0) → ((image : Image) → images image → (l : ℕ) × LastDrawn lane lanes l image × (last ≤ l))
    → ((n : ℕ) → IsOfLane lane lanes n → last < n → (image : Image) → images image → IsBare image n) → NumbersFit (reading_of lane lanes) lane lanes images
fits_above lane lanes last images drawn bare = record {
  told = λ image is. (let (l, d, le) = drawn image is in (l, inl d));
  none_above = λ a b l n a_is b_is d of_lane above.
      let (l', d', le) = drawn a a_is in
      let e : l ≡ l' = one_drawn lane lanes l l' a d (inl d') in
      bare n of_lane (omega arith) b b_is;
}

-- the numbers of a keeper's disk fit
pub numbers_fit : (v : KeeperView) (disk : DiskView) (m : Machine) → Represents v disk m → NumbersFit (reading_of v.lane v.lanes) v.lane v.lanes (IsCrashImage disk)
numbers_fit v disk m at = fits_above v.lane v.lanes m.last (IsCrashImage disk) (drawn_at v disk m at) (λ n of_lane above image is file own. at.unmade n of_lane above file own (image file) (is file))

-- a log that isn't above the machine's last number is below that of each image
pub below : (v : KeeperView) (disk : DiskView) (m : Machine) (i : ℕ) → Represents v disk m → NotAbove (settings_of v) m.last i → IsBelow v.lane v.lanes i disk
below v disk m i at not_above image last is drawn of_lane above =
    let (l, d, le) = drawn_at v disk m at image is in
    let e : last ≡ l = one_drawn v.lane v.lanes last l image drawn (inl d) in
    not_above of_lane (omega arith)

-- calls on the files of a log, which only read where it is above the machine's last number
pub beside_asked : (v : KeeperView) (m : Machine) (i : ℕ) (P : Image → Type 0) (old new : DiskView) → Laws old → Laws new → Represents v old m
    → (IsOfLane v.lane v.lanes i → m.last < i → OnlyReads old new)
    → Throughout (IsOfLog i) P old new → ((file : FileId) → old.faults file ≤ new.faults file) → Beside v.lane v.lanes (Some i) old new
beside_asked v m i P old new laws laws' at reads run up = beside_restart v.lane v.lanes i P old new laws laws' (numbers_fit v old m at) above run up
  where
    above : ReadsAbove v.lane v.lanes i old new
    above image last is drawn of_lane over =
        let (l, d, le) = drawn_at v old m at image is in
        let e : last ≡ l = one_drawn v.lane v.lanes last l image drawn (inl d) in
        reads of_lane (omega arith)

-- calls on the files of a log that isn't above the machine's last number
pub beside_its : (v : KeeperView) (m : Machine) (i : ℕ) (P : Image → Type 0) (old new : DiskView) → Laws old → Laws new → Represents v old m → NotAbove (settings_of v) m.last i
    → Throughout (IsOfLog i) P old new → ((file : FileId) → old.faults file ≤ new.faults file) → Beside v.lane v.lanes (Some i) old new
beside_its v m i P old new laws laws' at not_above run up = beside_log v.lane v.lanes i P old new laws laws' (numbers_fit v old m at) (below v old m i at not_above) run up

-- a draw: at each moment the number file tells the machine's last number, or one above it
pub draw_keeps : (v : KeeperView) (m : Machine) (P : Image → Type 0) (old new : DiskView) → Laws old → Laws new → Represents v old m
    → Throughout (λ g. g ≡ numbers_file v.lane) P old new → ((image : Image) → P image → (last : ℕ) × LastDrawn v.lane v.lanes last image × (m.last ≤ last))
    → KeepsNumbers (reading_of v.lane v.lanes) v.lane v.lanes old new
draw_keeps v m P old new laws laws' at run drawn = record {
  moments = record { later = run.later; past = run.past; keeps = run.keeps; each = fits };
  now = numbers_down (reading_of v.lane v.lanes) v.lane v.lanes (new.crash_images_at new.moment) (IsCrashImage new) laws'.is_now (fits new.moment run.later (omega arith));
}
  where
    apart : (n : ℕ) (file : FileId) → IsOfLog n file → file ≡ numbers_file v.lane → ⊥
    apart n file own e = let f : owners.Log n ≡ owners.Numbers v.lane = sym own ∙ ap (λ (g : FileId). g.owner) e in cc

    fits : (k : ℕ) → old.moment ≤ k → k ≤ new.moment → NumbersFit (reading_of v.lane v.lanes) v.lane v.lanes (new.crash_images_at k)
    fits k from to = fits_above v.lane v.lanes m.last (new.crash_images_at k) (λ image left. drawn image (run.each k image from to left))
        (λ n of_lane above image left file own. at.unmade n of_lane above file own (image file) (run.beside k image from to left file (apart n file own)))
