-- What was kept at each moment, with some events more.
use Rattle.std.proofs.Common.{◌≡◌, ◌⊎◌, inl, inr, ℕ, ◌+◌, ◌≤◌, ◌<◌, refl, sym, ◌∙◌, subst, arith}
use Rattle.std.specs.Prelude.{Bool, true, false, nat_le, if◌then◌else◌}
use Rattle.std.proofs.lemmas.Bool.Decides.{nat_tests}
use Rattle.lsv_disk.specs.Throughout.{OnlyReads, Throughout}
use Rattle.lsv_disk.specs.View.{DiskView, Image}
use Rattle.lsv_disk.proofs.Composition.{followed, unchanged_crash, unchanged_throughout, widened}
use Rattle.lsv_kept.specs.Aim.{AimView}
use Rattle.lsv_kept.specs.Kept.{IsOfRelay, Keeps}
use Rattle.lsv_kept.specs.declared.state.State.{State}
use Rattle.lsv_relay.specs.Talks.{InOrder, IsDurable, IsNext, KeepsOneOf}

-- some calls that touch files of the relaying alone
abbrev pub Frame : ℕ → DiskView → DiskView → Type 0
Frame n old new = Throughout (IsOfRelay n) (λ image. Unit {0}) old new

pub frame_of : (n : ℕ) (P : Image → Type 0) (old new : DiskView) → Throughout (IsOfRelay n) P old new → Frame n old new
frame_of n P old new run = widened (IsOfRelay n) (IsOfRelay n) P (λ image. Unit {0}) old new (λ g own. own) (λ image p beside. tt) run

-- before the first event
pub no_event : (n : ℕ) (aim : AimView) (state : State) (old new : DiskView) (after : ℕ → State) → Throughout (IsOfRelay n) (λ image. Keeps n aim image state) old new → after 0 ≡ state → InOrder n aim old new after 0
no_event n aim state old new after run is = record {
  frame = frame_of n _ old new run;
  place = λ k. 0;
  order = λ k m less. omega arith;
  within = λ k. omega arith;
  each = λ k image from to left. inl (subst (Keeps n aim image) (sym is) (run.each k image from to left));
}

abbrev by_time : ℕ → (ℕ → ℕ) → ℕ → ℕ → ℕ
by_time moment place many k = if nat_le k moment then place k else many

-- what an image keeps at a place, of so many events
abbrev KeepsAt : ℕ → AimView → (ℕ → State) → (many j : ℕ) → Image → Type 0
KeepsAt n aim after many j image = Keeps n aim image (after j) ⊎ ((j < many) × IsNext n aim (after j) (after (j + 1)) image)

module _ (n : ℕ) (aim : AimView) (began mid new : DiskView) (after next : ℕ → State) (many more : ℕ) (first : InOrder n aim began mid after many) (longer : many ≤ more) (same : (j : ℕ) → j ≤ many → next j ≡ after j)
    (frame : Frame n mid new) (then_keeps : (k : ℕ) (image : Image) → mid.moment ≤ k → k ≤ new.moment → new.crash_images_at k image → KeepsAt n aim next more many image) where
  abbrev place : ℕ → ℕ
  place = by_time mid.moment first.place many

  early : (k : ℕ) → k ≤ mid.moment → place k ≡ first.place k
  early k le = rw (let h : nat_le k mid.moment ≡ true = grind (arith, nat_tests) in h) refl

  late : (k : ℕ) → (k ≤ mid.moment → ⊥) → place k ≡ many
  late k no_ = rw (let h : nat_le k mid.moment ≡ false = grind (arith, nat_tests) in h) refl

  when : (k : ℕ) → (k ≤ mid.moment) ⊎ (k ≤ mid.moment → ⊥)
  when k = go (nat_le k mid.moment) refl
    where
      go : (b : Bool) → nat_le k mid.moment ≡ b → (k ≤ mid.moment) ⊎ (k ≤ mid.moment → ⊥)
      go true e = inl (let h : k ≤ mid.moment = grind (arith, nat_tests) in h)
      go false e = inr (λ le. let h : nat_le k mid.moment ≡ true = grind (arith, nat_tests) in cc (e, h))

  below : (k : ℕ) → (k ≤ mid.moment → ⊥) → mid.moment ≤ k
  below k no_ = omega (arith, no_)

  order : (k m : ℕ) → k ≤ m → place k ≤ place m
  order k m less = elim (when k) [
    | inl a ↦ elim (when m) [
      | inl b ↦ let h = first.order k m less in let x = early k a in let y = early m b in omega (arith, h, x, y)
      | inr b ↦ let h = first.within k in let x = early k a in let y = late m b in omega (arith, h, x, y)
    ]
    | inr a ↦ elim (when m) [
      | inl b ↦ absurd (a (let h : k ≤ mid.moment = omega (arith, less, b) in h))
      | inr b ↦ let x = late k a in let y = late m b in omega (arith, x, y)
    ]
  ]

  within : (k : ℕ) → place k ≤ more
  within k = elim (when k) [
    | inl a ↦ let h = first.within k in let x = early k a in omega (arith, h, x, longer)
    | inr b ↦ let x = late k b in omega (arith, x, longer)
  ]

  -- at an earlier moment
  was : (j : ℕ) (image : Image) → j ≤ many → KeepsAt n aim after many j image → KeepsAt n aim next more j image
  was j image le (inl keeps) = inl (subst (Keeps n aim image) (sym (same j le)) keeps)
  was j image le (inr (less, is)) = inr (
    let h : j < more = omega (arith, less, longer) in h,
    subst (λ (s : State). IsNext n aim s (next (j + 1)) image) (sym (same j le)) (subst (λ (s : State). IsNext n aim (after j) s image) (sym (same (j + 1) (let h : j + 1 ≤ many = omega (arith, less) in h))) is),
  )

  each : (k : ℕ) (image : Image) → began.moment ≤ k → k ≤ new.moment → new.crash_images_at k image → KeepsAt n aim next more (place k) image
  each k image from to left = elim (when k) [
    | inl a ↦ subst (λ (j : ℕ). KeepsAt n aim next more j image) (sym (early k a)) (was (first.place k) image (first.within k) (first.each k image from a (frame.past k image a left)))
    | inr b ↦ subst (λ (j : ℕ). KeepsAt n aim next more j image) (sym (late k b)) (then_keeps k image (below k b) to left)
  ]

  pub in_order : InOrder n aim began new next more
  in_order = record {
    frame = followed (IsOfRelay n) (λ image. Unit {0}) began mid new first.frame frame;
    place = place;
    order = order;
    within = within;
    each = each;
  }

-- one message more was heard
pub then_heard : (n : ℕ) (aim : AimView) (began mid new : DiskView) (after next : ℕ → State) (many more : ℕ) (before now : State) → InOrder n aim began mid after many → many < more → ((j : ℕ) → j ≤ many → next j ≡ after j) → before ≡ after many → next (many + 1) ≡ now
    → Throughout (IsOfRelay n) (IsNext n aim before now) mid new → InOrder n aim began new next more
then_heard n aim began mid new after next many more before now first longer same at then_now run =
    in_order n aim began mid new after next many more first (let h : many ≤ more = omega (arith, longer) in h) same (frame_of n _ mid new run)
    (λ k image from to left. inr (
      longer,
      subst (λ (s : State). IsNext n aim (next many) s image) (sym then_now) (subst (λ (s : State). IsNext n aim s now image) (at ∙ sym (same many (let h : many ≤ many = omega arith in h))) (run.each k image from to left)),
    ))

-- nothing more was kept
pub then_still : (n : ℕ) (aim : AimView) (began mid new : DiskView) (after next : ℕ → State) (many more : ℕ) (before : State) → InOrder n aim began mid after many → many ≤ more → ((j : ℕ) → j ≤ many → next j ≡ after j) → before ≡ after many
    → Throughout (IsOfRelay n) (λ image. Keeps n aim image before) mid new → InOrder n aim began new next more
then_still n aim began mid new after next many more before first longer same at run =
    in_order n aim began mid new after next many more first longer same (frame_of n _ mid new run)
    (λ k image from to left. inl (subst (Keeps n aim image) (at ∙ sym (same many (let h : many ≤ many = omega arith in h))) (run.each k image from to left)))

-- ---- one call

-- while it is only read, each image keeps what it kept
pub reads_keep : (n : ℕ) (aim : AimView) (state : State) (old new : DiskView) → IsDurable n aim state old → OnlyReads old new → Throughout (IsOfRelay n) (λ image. Keeps n aim image state) old new
reads_keep n aim state old new durable reads = unchanged_throughout (IsOfRelay n) (λ image. Keeps n aim image state) old new durable reads.unchanged

pub reads_durable : (n : ℕ) (aim : AimView) (state : State) (old new : DiskView) → IsDurable n aim state old → OnlyReads old new → IsDurable n aim state new
reads_durable n aim state old new durable reads image left = durable image (unchanged_crash old new reads.unchanged image left)

-- something is kept
pub heard_moves : (n : ℕ) (aim : AimView) (before now : State) (old new : DiskView) → IsDurable n aim before old → Throughout (IsOfRelay n) (KeepsOneOf n aim before now old) old new → Throughout (IsOfRelay n) (IsNext n aim before now) old new
heard_moves n aim before now old new durable run = widened (IsOfRelay n) (IsOfRelay n) _ _ old new (λ g own. own) (λ image holds beside. holds durable) run
