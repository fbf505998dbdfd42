-- A number is drawn, or not: what the keeper then stands for.
use Rattle.std.proofs.Common.{◌≡◌, ◌≤◌, ◌<◌, ◌+◌, ◌*◌, ℕ, refl, sym, ◌∙◌, ap, subst, inl, inr, arith, Option, Some, None, ◌⊎◌}
use Rattle.std.proofs.Math.Nat.{add-mul}
use Rattle.std.specs.Prelude.{◌==◌, if◌then◌else◌}
use Rattle.lsv_disk.specs.Throughout.{Throughout}
use Rattle.lsv_disk.specs.View.{DiskView, Elsewhere, Image}
use Rattle.lsv_disk.specs.declared.file.FileId.{FileId}
use Rattle.lsv_disk.specs.declared.file.Owner.TheVariants as owners
use Rattle.lsv_seq.specs.declared.entry.Entry.{Entry}
use Rattle.lsv_seq.specs.declared.numbers.Numbers.{Numbers}
use Rattle.lsv_seq.specs.Drawn.{LastDrawn, numbers_file}
use Rattle.lsv_seq.specs.Entry.{next}
use Rattle.lsv_seq.specs.Represents as numbers
use Rattle.lsv_seq.specs.Value.{HasDrawn, IsNextOf, IsPassedOver, IsSameLane, lane_of, lanes_of, last_of, next_of, pending_of}
use Rattle.lsv_seq.proofs.Laws.{next_above, pending_next}
use Rattle.lsv_machine.specs.Failures.{MayDraw}
use Rattle.lsv_machine.specs.Machine.{Machine}
use Rattle.lsv_machine.specs.Stands.{Sound}
use Rattle.lsv_machine.specs.Work.{draws, last_number, next_number}
use Rattle.lsv_machine.proofs.Changing.{drawn_is}
use Rattle.lsv_machine.proofs.Choices.{EqOr.equal, EqOr.unequal, eq_or}
use Rattle.lsv_keeper.specs.Represents.{NumbersAre, Represents, pending_count}
use Rattle.lsv_keeper.specs.Rows.{Beside}
use Rattle.lsv_keeper.specs.Value.{KeeperView, settings_of}
use Rattle.lsv_keeper.proofs.Frames.{Laws, beside_numbers}
use Rattle.lsv_keeper.proofs.Numbering.{draw_keeps, last_at}
use Rattle.lsv_keeper.proofs.Standing.{events_stay, represents_one}

-- ---- The next number

next_same : (a b : Entry) → b.last ≡ a.last → b.lane ≡ a.lane → b.lanes ≡ a.lanes → next b ≡ next a
next_same a b last lane lanes =
    ap (λ (x : ℕ). if x == 0 then b.lane + 1 else x + b.lanes) last ∙ ap (λ (x : ℕ). if a.last == 0 then x + 1 else a.last + b.lanes) lane ∙ ap (λ (x : ℕ). if a.last == 0 then a.lane + 1 else a.last + x) lanes

-- after a number that isn't 0
next_behind : (e : Entry) → 1 ≤ e.last → next e ≡ e.last + e.lanes
next_behind e some = elim (eq_or e.last 0) [ equal p t ↦ absurd (omega arith) | unequal p t ↦ rw t refl ]

one_more : (base passed lanes : ℕ) → base + passed * lanes + lanes ≡ base + (passed + 1) * lanes
one_more base passed lanes = let e : (passed + 1) * lanes ≡ passed * lanes + 1 * lanes = add-mul passed 1 lanes in omega arith

-- numbers that are those of before, or passed over the one that a failed draw was writing
pub record Passed (set_lanes base failed : ℕ) (n : ℕ) : Type 0 where
  pub by : ℕ
  pub few : by ≤ failed
  pub is : n ≡ base + by * set_lanes

pub passed_over : (lane lanes : ℕ) (old new : Numbers) (disk : DiskView) (base failed : ℕ) → NumbersAre lane lanes old disk base failed → IsSameLane old new → IsPassedOver old new → Passed lanes base failed (next_of new)
passed_over lane lanes old new disk base failed are same (inl last) = record {
  by = are.passed;
  few = let f = are.few in omega arith;
  is = next_same old.kept new.kept last same.lane_is same.lanes_is ∙ are.next_is;
}
passed_over lane lanes old new disk base failed are same (inr pending) =
    let p : last_of new ≡ next_of old = pending_next old (last_of new) pending in
    let above = next_above old in
    let few : are.passed + 1 ≤ failed = subst (λ (o : Option ℕ). are.passed + pending_count o ≤ failed) pending are.few in
    let e : next_of new ≡ last_of new + lanes_of new = next_behind new.kept (omega arith) in
    record {
      by = are.passed + 1;
      few = few;
      is = e ∙ ap (λ (x : ℕ). last_of new + x) (same.lanes_is ∙ are.lanes_is) ∙ ap (λ (x : ℕ). x + lanes) (p ∙ are.next_is) ∙ one_more base are.passed lanes;
    }

next_passed : (lane lanes : ℕ) (old : Numbers) (disk : DiskView) (base failed n : ℕ) → NumbersAre lane lanes old disk base failed → IsNextOf old n → Passed lanes base failed n
next_passed lane lanes old disk base failed n are (inl is) = record { by = are.passed; few = let f = are.few in omega arith; is = is ∙ are.next_is }
next_passed lane lanes old disk base failed n are (inr (p, pending, is)) =
    let q : p ≡ next_of old = pending_next old p pending in
    let above = next_above old in
    let few : are.passed + 1 ≤ failed = subst (λ (o : Option ℕ). are.passed + pending_count o ≤ failed) pending are.few in
    let e : next (record old.kept { last = p }) ≡ p + lanes_of old = next_behind (record old.kept { last = p }) (omega arith) in
    record {
      by = are.passed + 1;
      few = few;
      is = is ∙ e ∙ ap (λ (x : ℕ). p + x) are.lanes_is ∙ ap (λ (x : ℕ). x + lanes) (q ∙ are.next_is) ∙ one_more base are.passed lanes;
    }

-- ---- What the keeper stands for

its_elsewhere : (v : KeeperView) (disk old new : DiskView) (m : Machine) → Represents v disk m → Elsewhere (λ g. g ≡ numbers_file (lane_of v.numbers)) old new → Elsewhere (λ g. g ≡ numbers_file v.lane) old new
its_elsewhere v disk old new m at e = subst (λ (x : ℕ). Elsewhere (λ g. g ≡ numbers_file x) old new) at.numbers.lane_is e

-- a machine with another last number or other failed draws, and its numbers
numbers_change : (v : KeeperView) (drawn : Numbers) (old new : DiskView) (m : Machine) (last failed : ℕ) → Represents v old m → Elsewhere (λ g. g ≡ numbers_file v.lane) old new → m.last ≤ last
    → Sound (settings_of v) (record m { last = last; failed_draws = failed }) → NumbersAre v.lane v.lanes drawn new (next_number (settings_of v) (record m { last = last; failed_draws = failed })) failed
    → Represents (record v { numbers = drawn }) new (record m { last = last; failed_draws = failed })
numbers_change v drawn old new m last failed at elsewhere later sound are =
    represents_one None v (record v { numbers = drawn }) old new m (record m { last = last; failed_draws = failed }) (λ g. g ≡ numbers_file v.lane) at elsewhere
    (λ n other file own t. let e : owners.Log n ≡ owners.Numbers v.lane = sym own ∙ ap (λ (g : FileId). g.owner) t in absurd (cc))
    (record {
      lane = refl;
      lanes = refl;
      keeps_texts = refl;
      sound = sound;
      texts = refl;
      states = at.states;
      owner = at.owner;
      waiting = at.waiting;
      noting = at.noting;
      rising = at.rising;
      waits = at.waits;
      others = λ n other. (refl, refl, refl);
      its = tt;
      numbers = are;
      later = later;
      made = λ n e. let f : None ≡ Some n = e in absurd (cc);
      events = events_stay v.lane v.events old new m (record m { last = last; failed_draws = failed }) (λ g. g ≡ numbers_file v.lane) elsewhere
          (λ file own t. let e : owners.Events v.lane ≡ owners.Numbers v.lane = sym own ∙ ap (λ (g : FileId). g.owner) t in absurd (cc)) refl refl (λ none. none) at.events;
    })

pub number_drawn : (v : KeeperView) (drawn : Numbers) (old new : DiskView) (m : Machine) (n : ℕ) → Represents v old m → IsSameLane v.numbers drawn → last_of drawn ≡ n → pending_of drawn ≡ None → IsNextOf v.numbers n
    → numbers.Represents drawn new → Elsewhere (λ g. g ≡ numbers_file (lane_of v.numbers)) old new → MayDraw (settings_of v) m n × Represents (record v { numbers = drawn }) new (draws n m)
number_drawn v drawn old new m n at same last none after here elsewhere =
    let by = next_passed v.lane v.lanes v.numbers old (next_number (settings_of v) m) m.failed_draws n at.numbers after in
    let may : MayDraw (settings_of v) m n = record { passed = by.by; few = by.few; next = by.is } in
    let is = drawn_is (settings_of v) m n at.sound may in (
      may,
      numbers_change v drawn old new m n 0 at (its_elsewhere v old old new m at elsewhere) (let a = is.1 in omega arith)
          (record { lane = at.sound.lane; drawn = inr is.0; owns = at.sound.owns; owned = at.sound.owned; there = at.sound.there; none_above = λ j of_lane above. at.sound.none_above j of_lane (let a = is.1 in omega arith) })
          (record {
            lane_is = same.lane_is ∙ at.numbers.lane_is;
            lanes_is = same.lanes_is ∙ at.numbers.lanes_is;
            represents = here;
            passed = 0;
            next_is = next_same (record { last = n; lane = v.lane; lanes = v.lanes }) drawn.kept last (same.lane_is ∙ at.numbers.lane_is) (same.lanes_is ∙ at.numbers.lanes_is) ∙ omega arith;
            few = subst (λ (o : Option ℕ). 0 + pending_count o ≤ 0) (sym none) (omega arith);
          }),
    )

pub numbers_spent : (v : KeeperView) (drawn : Numbers) (old new : DiskView) (m : Machine) → Represents v old m → IsSameLane v.numbers drawn → IsPassedOver v.numbers drawn → pending_of drawn ≡ None → last_number < next_of drawn
    → numbers.Represents drawn new → Elsewhere (λ g. g ≡ numbers_file (lane_of v.numbers)) old new → ((n : ℕ) × MayDraw (settings_of v) m n × (last_number < n)) × Represents (record v { numbers = drawn }) new m
numbers_spent v drawn old new m at same over none spent here elsewhere =
    let by = passed_over v.lane v.lanes v.numbers drawn old (next_number (settings_of v) m) m.failed_draws at.numbers same over in (
      (next_of drawn, record { passed = by.by; few = by.few; next = by.is }, spent),
      numbers_change v drawn old new m m.last m.failed_draws at (its_elsewhere v old old new m at elsewhere) (omega arith)
          (record { lane = at.sound.lane; drawn = at.sound.drawn; owns = at.sound.owns; owned = at.sound.owned; there = at.sound.there; none_above = at.sound.none_above })
          (record {
            lane_is = same.lane_is ∙ at.numbers.lane_is;
            lanes_is = same.lanes_is ∙ at.numbers.lanes_is;
            represents = here;
            passed = by.by;
            next_is = by.is;
            few = subst (λ (o : Option ℕ). by.by + pending_count o ≤ m.failed_draws) (sym none) (let f = by.few in omega arith);
          }),
    )

pub draw_failed : (v : KeeperView) (drawn : Numbers) (old new : DiskView) (m : Machine) → Represents v old m → IsSameLane v.numbers drawn → IsPassedOver v.numbers drawn → pending_of drawn ≡ Some (next_of drawn)
    → numbers.Represents drawn new → Elsewhere (λ g. g ≡ numbers_file (lane_of v.numbers)) old new → Represents (record v { numbers = drawn }) new (record m { failed_draws = m.failed_draws + 1 })
draw_failed v drawn old new m at same over pending here elsewhere =
    let by = passed_over v.lane v.lanes v.numbers drawn old (next_number (settings_of v) m) m.failed_draws at.numbers same over in
    numbers_change v drawn old new m m.last (m.failed_draws + 1) at (its_elsewhere v old old new m at elsewhere) (omega arith)
    (record { lane = at.sound.lane; drawn = at.sound.drawn; owns = at.sound.owns; owned = at.sound.owned; there = at.sound.there; none_above = at.sound.none_above })
    (record {
      lane_is = same.lane_is ∙ at.numbers.lane_is;
      lanes_is = same.lanes_is ∙ at.numbers.lanes_is;
      represents = here;
      passed = by.by;
      next_is = by.is;
      few = subst (λ (o : Option ℕ). by.by + pending_count o ≤ m.failed_draws + 1) (sym pending) (let f = by.few in omega arith);
    })

-- ---- What a draw leaves alone

drawn_as : (lane lanes mine : ℕ) (some : Numbers) (image : Image) → lane_of some ≡ lane → lanes_of some ≡ lanes → mine ≤ last_of some → HasDrawn some image → (last : ℕ) × LastDrawn lane lanes last image × (mine ≤ last)
drawn_as lane lanes mine some image e f low (inl is) =
    (last_of some, subst (λ (x : ℕ). LastDrawn x lanes (last_of some) image) e (subst (λ (x : ℕ). LastDrawn (lane_of some) x (last_of some) image) f is), low)
drawn_as lane lanes mine some image e f low (inr (p, pending, is)) =
    let q = pending_next some p pending in
    let above = next_above some in
    (p, subst (λ (x : ℕ). LastDrawn x lanes p image) e (subst (λ (x : ℕ). LastDrawn (lane_of some) x p image) f is), omega arith)

pub draw_beside : (v : KeeperView) (drawn : Numbers) (old new : DiskView) (m : Machine) → Laws old → Laws new → Represents v old m → IsSameLane v.numbers drawn → last_of v.numbers ≤ last_of drawn
    → Throughout (λ g. g ≡ numbers_file (lane_of v.numbers)) (λ image. HasDrawn v.numbers image ⊎ HasDrawn drawn image) old new → ((file : FileId) → old.faults file ≤ new.faults file) → Beside v.lane v.lanes None old new
draw_beside v drawn old new m laws laws' at same low run up =
    let its : Throughout (λ g. g ≡ numbers_file v.lane) (λ image. HasDrawn v.numbers image ⊎ HasDrawn drawn image) old new =
    subst (λ (x : ℕ). Throughout (λ g. g ≡ numbers_file x) (λ image. HasDrawn v.numbers image ⊎ HasDrawn drawn image) old new) at.numbers.lane_is run in
    let mine = last_at v old m at in
    beside_numbers v.lane v.lanes (λ image. HasDrawn v.numbers image ⊎ HasDrawn drawn image) old new laws laws'
    (draw_keeps v m (λ image. HasDrawn v.numbers image ⊎ HasDrawn drawn image) old new laws laws' at its (λ image has. elim has [
      | inl was ↦ drawn_as v.lane v.lanes m.last v.numbers image at.numbers.lane_is at.numbers.lanes_is mine was
      | inr now ↦ drawn_as v.lane v.lanes m.last drawn image (same.lane_is ∙ at.numbers.lane_is) (same.lanes_is ∙ at.numbers.lanes_is) (omega arith) now
    ])) its up

-- the last number never falls
pub last_rises : (old new : Numbers) → IsPassedOver old new → last_of old ≤ last_of new
last_rises old new (inl same) = omega arith
last_rises old new (inr pending) = let p = pending_next old (last_of new) pending in let above = next_above old in omega arith
