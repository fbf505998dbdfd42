-- The lane's file is read after lane 0's, which changed nothing.
use Rattle.std.proofs.Common.{◌≡◌, ◌∙◌, ℕ, Bool, false, ◌==◌, ◌-◌, ◌%◌, nat_le, if◌then◌else◌, ap, sym, arith}
use Rattle.std.proofs.lemmas.Bool.Decides.{nat_tests}
use Rattle.lsv_disk.specs.View.{DiskView, Image}
use Rattle.lsv_play.proofs.Played.{same_image}
use Rattle.lsv_verdict.specs.Verdicts.{is_drawn_of, last_of}
use Rattle.lsv_verdict.proofs.drawn.is_drawn.Goals as goal

not_none : (lanes : ℕ) → (lanes ≡ 0 → ⊥) → (lanes == 0) ≡ false
not_none lanes some = grind (arith, nat_tests)

by_lanes : (image other : Image) (n lanes last : ℕ) (m : ℕ) → (lanes ≡ 0 → ⊥) → m ≡ n → other ≡ image → last ≡ (last_of other ((m - 1) % lanes)).0 → nat_le n last ≡ is_drawn_of image n lanes
by_lanes image other n lanes last m some same_number same is =
    ap (nat_le n) (is ∙ ap (λ (i : Image). (last_of i ((m - 1) % lanes)).0) same ∙ ap (λ (k : ℕ). (last_of image ((k - 1) % lanes)).0) same_number)
    ∙ ap (λ (b : Bool). if b then false else nat_le n (last_of image ((n - 1) % lanes)).0) (sym (not_none lanes some))

pub returns-clause-drawn : goal.returns-clause-drawn
returns-clause-drawn g c told =
    let old : DiskView = g.D.Disk.view c.args.disk.now in
    let mid : DiskView = g.D.Disk.view c.last_of.new.disk in
    let lanes : c.in_ok-lanes.lanes ≡ (last_of old.reads 0).1 = ap (λ (d : ℕ × ℕ). d.1) (c.in_ok-lanes.ensures.last told) in
    let last : c.in_ok-last.last ≡ (last_of mid.reads ((c.get.result - 1) % c.in_ok-lanes.lanes)).0 = ap (λ (d : ℕ × ℕ). d.0) (c.in_ok-last.ensures.last told) in
    ap (λ (n : ℕ). nat_le n c.in_ok-last.last) c.get-2.ensures.value
    ∙ by_lanes old.reads mid.reads c.args.number c.in_ok-lanes.lanes c.in_ok-last.last c.get.result c.if-lanes-eq0.false c.get.ensures.value (same_image old mid (c.last_of.ensures.reads told)) last
    ∙ ap (is_drawn_of old.reads c.args.number) lanes
