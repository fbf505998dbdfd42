-- Each image that a stop may leave is good for one history of all runs.
use Rattle.std.proofs.Common.{◌≡◌, ◌≤◌, ℕ, List, [], ◌∷◌, ◌++◌, refl, sym, ◌∙◌, ap, subst, inl, inr, arith, length, take}
use Rattle.std.specs.Prelude.{false}
use Rattle.lsv_disk.specs.View.{DiskView, Image, IsCrashImage}
use Rattle.lsv_machine.specs.Disks.{Past}
use Rattle.lsv_machine.specs.Durable.{Good, Reading}
use Rattle.lsv_machine.specs.History.{Ledger, blank, ledger, ledger_from, noted, settled}
use Rattle.lsv_machine.specs.Lives.{AllRuns, Chained, Life, Lived, Stop, Stop.Behind, Stop.Inside, Stop.Opening, Went, ended, left_by, under_way}
use Rattle.lsv_machine.specs.Recovery.{GoesOn, all_turns}
use Rattle.lsv_machine.specs.Turns.{Happened, Happened.Begins, all_acted}
use Rattle.lsv_machine.proofs.Chains.{OnlyNows, chained}
use Rattle.lsv_machine.proofs.RunLaws.{ledger_append}
use Rattle.lsv_machine.proofs.Splits.{append_nil}
use Rattle.lsv_machine.proofs.Under.{Under, ledger_under, settled_shut, under_weaker, weaker_begun}
use Rattle.lsv_machine.proofs.Untouched.{untouched}
use Rattle.lsv_machine.proofs.Weaken.{Weaker, at_weaker, begun_ledger, weaker_begins, weaker_on, weaker_same}

under_append : (n : ℕ) (a b h : List Happened) → Under (ledger a n) (ledger b n) → Under (ledger (a ++ h) n) (ledger (b ++ h) n)
under_append n a b h u =
    subst (λ (z : Ledger). Under (ledger (a ++ h) n) z) (sym (ledger_append n blank b h))
    (subst (λ (z : Ledger). Under z (ledger_from n (ledger b n) h)) (sym (ledger_append n blank a h)) (ledger_under n h (ledger a n) (ledger b n) u))

begun_under : (n : ℕ) (texts : List (List ℕ)) (x y : List Happened) → Weaker (ledger x n) (ledger y n) → Under (ledger (x ++ Begins texts ∷ []) n) (ledger (y ++ Begins texts ∷ []) n)
begun_under n texts x y w =
    subst (λ (z : Ledger). Under (ledger (x ++ Begins texts ∷ []) n) z) (sym (begun_ledger n texts y))
    (subst (λ (z : Ledger). Under z (noted n (ledger y n) (Begins texts))) (sym (begun_ledger n texts x)) (weaker_begun n texts (ledger x n) (ledger y n) w))

then_begun : (n : ℕ) (texts : List (List ℕ)) (x y : List Happened) → Weaker (ledger x n) (ledger y n) → Weaker (ledger x n) (ledger (y ++ Begins texts ∷ []) n)
then_begun n texts x y w = weaker_on (ledger x n) (ledger y n) (ledger (y ++ Begins texts ∷ []) n) w (subst (λ (z : Ledger). Weaker (ledger y n) z) (sym (begun_ledger n texts y)) (weaker_begins n texts (ledger y n)))

-- what is within what happened before is so of a history of all runs
abbrev Told : {D : Type 0} → ℕ → List (Life D) → Past → Type 0
Told n ls p = (j : ℕ) → j ≤ length p.acts → (h : List Happened) × AllRuns ls h × Weaker (ledger (p.history ++ all_acted (take j p.acts)) n) (ledger h n)

told_went : {D : Type 0} (n : ℕ) (l : Life D) (ls : List (Life D)) (before : Past) (g : List Happened) → Told n ls before → GoesOn l.texts before g → (at : Stop l.story l.stopped)
    → Told n (l ∷ ls) (record { history = g ++ all_turns (ended at); acts = under_way at })
told_went {D} n l ls before g told on at j le =
    let x = before.history ++ all_acted (take on.done before.acts) in
    let (y, runs, weak) = told on.done on.some in
    let z = y ++ Begins l.texts ∷ [] in
    let under : Under (ledger g n) (ledger z n) = subst (λ (k : List Happened). Under (ledger k n) (ledger z n)) (sym on.is) (begun_under n l.texts x y weak) in
    let mid = under_append n g z (all_turns (ended at)) under in
    let end = under_append n (g ++ all_turns (ended at)) (z ++ all_turns (ended at)) (all_acted (take j (under_way at))) mid in
    let h = (z ++ all_turns (ended at)) ++ all_acted (take j (under_way at)) in
    (h, (y, runs, record { at = at; done = j; some = le; is = refl }), under_weaker (ledger ((g ++ all_turns (ended at)) ++ all_acted (take j (under_way at))) n) (ledger h n) end)

went_as : {D : Type 0} (n : ℕ) (l : Life D) (ls : List (Life D)) (before p : Past) (g : List Happened) → Told n ls before → GoesOn l.texts before g → (at : Stop l.story l.stopped) → Went at g p → Told n (l ∷ ls) p
went_as {D} n l ls before p g told on (Opening early) no_way = absurd no_way
went_as {D} n l ls before p g told on (Inside at) e = subst (λ (q : Past). Told n (l ∷ ls) q) (sym e) (told_went n l ls before g told on (Inside at))
went_as {D} n l ls before p g told on (Behind late) e = subst (λ (q : Past). Told n (l ∷ ls) q) (sym e) (told_went n l ls before g told on (Behind late))

told_stayed : {D : Type 0} (n : ℕ) (l : Life D) (ls : List (Life D)) (before : Past) (g : List Happened) → Told n ls before → GoesOn l.texts before g → (at : Stop l.story l.stopped)
    → settled n g (all_turns (ended at)) ≡ false → Told n (l ∷ ls) before
told_stayed {D} n l ls before g told on at e j le =
    let x = before.history ++ all_acted (take j before.acts) in
    let (y, runs, weak) = told j le in
    let z = y ++ Begins l.texts ∷ [] in
    let x' = before.history ++ all_acted (take on.done before.acts) in
    let same_shut : (ledger g n).shut ≡ (ledger z n).shut =
    ap (λ (h : List Happened). (ledger h n).shut) on.is ∙ (ap (λ (l : Ledger). l.shut) (begun_ledger n l.texts x') ∙ sym (ap (λ (l : Ledger). l.shut) (begun_ledger n l.texts y))) in
    let e' : settled n z (all_turns (ended at)) ≡ false = sym (settled_shut n (all_turns (ended at)) (ledger g n) (ledger z n) same_shut) ∙ e in
    let free : (ledger z n).writers ≡ [] = ap (λ (l : Ledger). l.writers) (begun_ledger n l.texts y) in
    let w = weaker_on (ledger x n) (ledger z n) (ledger (z ++ all_turns (ended at)) n) (then_begun n l.texts x y weak) (untouched z (all_turns (ended at)) n free e').weaker in
    let h = (z ++ all_turns (ended at)) ++ all_acted (take 0 (under_way at)) in
    let alike : z ++ all_turns (ended at) ≡ h = sym (append_nil (z ++ all_turns (ended at))) in
    (h, (y, runs, record { at = at; done = 0; some = omega arith; is = refl }), subst (λ (k : List Happened). Weaker (ledger x n) (ledger k n)) alike w)

told_all : {D : Type 0} (r : Reading) (view : D → DiskView) (n : ℕ) (ls : List (Life D)) (p : Past) → Lived r view n ls p → Told n ls p
told_all {D} r view n [] p e = subst (λ (q : Past). Told {D = D} n [] q) (sym e) (λ j le. ([], refl, nothing j le))
  where
    nothing : (j : ℕ) → j ≤ 0 → Weaker (ledger ([] ++ all_acted (take j [])) n) (ledger [] n)
    nothing j le = let e : 0 ≡ j = omega arith in subst (λ (k : ℕ). Weaker (ledger ([] ++ all_acted (take k [])) n) (ledger [] n)) e (weaker_same blank)
told_all {D} r view n (l ∷ ls) p (before, g, lived, on, good, at, inl went) = went_as n l ls before p g (told_all r view n ls before lived) on at went
told_all {D} r view n (l ∷ ls) p (before, g, lived, on, good, at, inr (u, e)) = subst (λ (q : Past). Told n (l ∷ ls) q) (sym e) (told_stayed n l ls before g (told_all r view n ls before lived) on at u)

-- each image is good for a history of all runs
pub good_of_all : {D : Type 0} (r : Reading) (lane lanes : ℕ) (view : D → DiskView) (law : (d : D) → IsCrashImage (view d) (view d).reads) (only_now : OnlyNows view) (first : D) (ls : List (Life D)) (n : ℕ) → Chained r lane lanes view first ls
    → (image : Image) → left_by view first ls image → (h : List Happened) × AllRuns ls h × Good r h image n
good_of_all {D} r lane lanes view law only_now first ls n chain image is =
    let (p, lived, within) = (chained r lane lanes view law only_now first ls n chain).0 in
    let w = within image is in
    let (h, runs, weak) = told_all r view n ls p lived w.done w.some in
    (h, runs, at_weaker r (ledger (p.history ++ all_acted (take w.done p.acts)) n) (ledger h n) n image weak w.good)
