-- Runs one after another, from an empty store: what each leaves of a log is within what happened.
use Rattle.std.proofs.Common.{◌≡◌, ◌≤◌, ◌<◌, ℕ, List, [], ◌∷◌, ◌++◌, refl, sym, ap, subst, inl, inr, arith, Option, Some, None, ◌⊎◌, take}
use Rattle.std.specs.Prelude.{nat_lt, Bool, true, false}
use Rattle.std.proofs.lemmas.Bool.Decides.{nat_tests}
use Rattle.lsv_disk.specs.View.{DiskView, Image, IsCrashImage}
use Rattle.lsv_machine.specs.Disks.{AllWithin, NumbersFit, Past}
use Rattle.lsv_machine.specs.Durable.{Good, GoodFor, Reading, Recovered, Within}
use Rattle.lsv_machine.specs.History.{ledger, promised}
use Rattle.lsv_machine.specs.Lives.{Chained, InTurn, Life, Lived, Lives, Stop, Stop.Behind, Stop.Inside, Stop.Opening, left_by}
use Rattle.lsv_machine.specs.Machine.{IsOfLane}
use Rattle.lsv_machine.specs.Recovery.{GoesOn, Kept, Outside, Spans, Story, Turn, all_turns, ended_at, past_of}
use Rattle.lsv_machine.specs.Turns.{Happened, Happened.Begins, all_acted}
use Rattle.lsv_machine.proofs.Splits.{append_nil}
use Rattle.lsv_machine.proofs.Weaken.{good_begun}

lt_or : (a b : ℕ) → (a < b) ⊎ (b ≤ a)
lt_or a b = go (nat_lt a b) refl
  where
    go : (t : Bool) → nat_lt a b ≡ t → (a < b) ⊎ (b ≤ a)
    go true e = inl (grind (arith, nat_tests))
    go false e = inr (grind (arith, nat_tests))

abbrev Lies : ℕ → List Turn → ℕ → Type 0
Lies from ts k = InTurn (record { opened = from; turns = ts }) k ⊎ (ended_at from ts ≤ k)

-- a moment after the opening lies in a turn, or after all turns
lies : (from : ℕ) (ts : List Turn) (k : ℕ) → from ≤ k → Lies from ts k
lies from [] k late = inr late
lies from (t ∷ ts) k late = elim (lt_or k t.ended) [
  | inl here ↦ inl (record { before = []; turn = t; after = ts; is = refl; from = late; to = here })
  | inr later ↦ elim (lies t.ended ts k later) [
    | inl i ↦ inl (record { before = t ∷ i.before; turn = i.turn; after = i.after; is = ap (λ (xs : List Turn). t ∷ xs) i.is; from = i.from; to = i.to })
    | inr behind ↦ inr behind
  ]
]

-- each moment of a run lies somewhere
pub place : (s : Story) (k : ℕ) → Stop s k
place s k = elim (lt_or k s.opened) [
  | inl early ↦ Opening early
  | inr late ↦ elim (lies s.opened s.turns k late) [
    | inl i ↦ Inside i
    | inr behind ↦ Behind behind
  ]
]

-- the crash images of a moment that is the disk's own are those of now
abbrev pub OnlyNows : {D : Type 0} → (D → DiskView) → Type 0
OnlyNows {D} view = (d : D) (image : Image) → (view d).crash_images_at (view d).moment image → IsCrashImage (view d) image

abbrev Holds : {D : Type 0} → Reading → (lane lanes : ℕ) → (D → DiskView) → D → List (Life D) → ℕ → Type 0
Holds r lane lanes view first ls n = ((p : Past) × Lived r view n ls p × AllWithin r p n (left_by view first ls)) × NumbersFit r lane lanes (left_by view first ls)

lives_on : {D : Type 0} (r : Reading) (lane lanes : ℕ) (view : D → DiskView) (law : (d : D) → IsCrashImage (view d) (view d).reads) (only_now : OnlyNows view) (first : D) (l : Life D) (ls : List (Life D)) (n : ℕ)
    → Lives r lane lanes view (left_by view first ls) l → Holds r lane lanes view first ls n → Holds r lane lanes view first (l ∷ ls) n
lives_on {D} r lane lanes view law only_now first l ls n lives ((p, lived, within), fit) =
    let found = view l.found in
    let reads = found.reads in
    let old : AllWithin r p n (IsCrashImage found) = λ image is. within image (lives.finds image is) in
    let w = old reads (law l.found) in
    let g : List Happened = (p.history ++ all_acted (take w.done p.acts)) ++ Begins l.texts ∷ [] in
    let on : GoesOn l.texts p g = record { done = w.done; some = w.some; is = refl } in
    let found_fit : NumbersFit r lane lanes (IsCrashImage found) = record { told = λ image is. fit.told image (lives.finds image is); none_above = λ a b last i x y. fit.none_above a b last i (lives.finds a x) (lives.finds b y) } in
    let rec = lives.recovers found_fit in
    let good = good_begun r l.texts (p.history ++ all_acted (take w.done p.acts)) reads n w.good in
    let kept = rec.logs n p g old on good in (
      stopped_at p g lived on good kept rec.spans (place l.story l.stopped),
      rec.numbers found_fit l.stopped lives.from lives.to,
    )
  where
    o : Outside
    o = record { found = view l.found; left = view l.left }

    at_last : (k : ℕ) → k ≡ (view l.left).moment → (image : Image) → (view l.left).crash_images_at k image → IsCrashImage (view l.left) image
    at_last k e image is = only_now l.left image (subst (λ (x : ℕ). (view l.left).crash_images_at x image) e is)

    all_done : (h : List Happened) (image : Image) → Good r h image n → Within r h [] image n
    all_done h image is = record { done = 0; some = omega arith; good = subst (λ (x : List Happened). Good r x image n) (sym (append_nil h)) is }

    stopped_at : (p : Past) (g : List Happened) → Lived r view n ls p → GoesOn l.texts p g → Good r g (view l.found).reads n → Kept r o l.story n p g → Spans o l.story → Stop l.story l.stopped
        → (q : Past) × Lived r view n (l ∷ ls) q × AllWithin r q n (left_by view first (l ∷ ls))
    stopped_at p g lived on good kept spans (Opening early) = (p, (p, g, lived, on, good, Opening early, inr (refl, refl)), kept.opening l.stopped lives.from (let e = early in omega arith))
    stopped_at p g lived on good kept spans (Inside i) = elim (kept.during i.before i.after i.turn i.is l.stopped i.from (let e = i.to in omega arith)) [
      | inl went ↦ (past_of g i.before i.turn, (p, g, lived, on, good, Inside i, inl refl), went)
      | inr stayed ↦ (p, (p, g, lived, on, good, Inside i, inr (stayed.0, refl)), stayed.1)
    ]
    stopped_at p g lived on good kept spans (Behind late) =
        let is_last : l.stopped ≡ (view l.left).moment = let a = lives.to in let b = spans.whole in let c = late in omega arith in
        elim kept.now [
          | inl all ↦ (record { history = g ++ all_turns l.story.turns; acts = [] }, (p, g, lived, on, good, Behind late, inl refl), λ image is. all_done (g ++ all_turns l.story.turns) image (all image (at_last l.stopped is_last image is)))
          | inr stayed ↦ (p, (p, g, lived, on, good, Behind late, inr (stayed.0, refl)), λ image is. stayed.1 image (at_last l.stopped is_last image is))
        ]

pub chained : {D : Type 0} (r : Reading) (lane lanes : ℕ) (view : D → DiskView) (law : (d : D) → IsCrashImage (view d) (view d).reads) (only_now : OnlyNows view) (first : D) (ls : List (Life D)) (n : ℕ) → Chained r lane lanes view first ls → Holds r lane lanes view first ls n
chained {D} r lane lanes view law only_now first [] n empty = (
  (record { history = []; acts = [] }, refl, λ image is. record { done = 0; some = omega arith; good = record { found = None; is = r.nothing image n (empty.bare image is n); good = tt } }),
  record { told = λ image is. (0, empty.drawn image is); none_above = λ a b last i x y d lane above. empty.bare b y i },
)
chained {D} r lane lanes view law only_now first (l ∷ ls) n (lives, rest) = lives_on r lane lanes view law only_now first l ls n lives (chained r lane lanes view law only_now first ls n rest)

pub runs_within : {D : Type 0} (r : Reading) (lane lanes : ℕ) (view : D → DiskView) (law : (d : D) → IsCrashImage (view d) (view d).reads) (only_now : OnlyNows view) (first : D) (ls : List (Life D)) (n : ℕ) → Chained r lane lanes view first ls
    → (p : Past) × Lived r view n ls p × AllWithin r p n (left_by view first ls)
runs_within {D} r lane lanes view law only_now first ls n chain = (chained r lane lanes view law only_now first ls n chain).0

-- a number that was told is drawn
pub told_drawn : (r : Reading) (lane lanes : ℕ) (images : Image → Type 0) (h : List Happened) (n p last : ℕ) (image a : Image) → NumbersFit r lane lanes images → IsOfLane lane lanes n → images image → images a
    → r.drawn a last → Good r h image n → promised h n ≡ Some p → n ≤ last
told_drawn r lane lanes images h n p last image a fit of_lane is it drawn good told = by_cases (nat_lt last n) refl
  where
    nothing : (o : Option ℕ) (x : Recovered) → o ≡ Some p → x ≡ None → GoodFor (ledger h n) o x → ⊥
    nothing o x e f g = let g' : GoodFor (ledger h n) (Some p) None = rw (e, f) at g in g'

    bare : last < n → ⊥
    bare above = nothing (promised h n) good.found told (r.one image n good.found None good.is (r.nothing image n (fit.none_above a image last n it is drawn of_lane above))) good.good

    by_cases : (t : Bool) → nat_lt last n ≡ t → n ≤ last
    by_cases true e = absurd (bare (grind (arith, nat_tests)))
    by_cases false e = grind (arith, nat_tests)
