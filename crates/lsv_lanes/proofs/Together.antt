-- All lanes together: each has logs of its own, and touches their files alone.
use Rattle.std.proofs.Common.{◌≡◌, ◌≢◌, ◌≤◌, ◌<◌, ◌+◌, ◌*◌, ℕ, zero, suc, List, [], ◌∷◌, ◌++◌, length, refl, sym, ◌∙◌, ap, subst, inl, inr, arith, None, ◌⊎◌}
use Rattle.std.specs.Prelude.{◌-◌, ◌%◌}
use Rattle.std.proofs.lemmas.Nat.{mod-mul-add}
use Rattle.lsv_disk.specs.View.{DiskView}
use Rattle.lsv_disk.specs.declared.file.FileId.{FileId}
use Rattle.lsv_disk.specs.declared.file.Owner.TheVariants as owners
use Rattle.lsv_session.specs.declared.connection.ConnId.{ConnId}
use Rattle.lsv_turn.specs.Turns.{LaneTurn, jobs_in}
use Rattle.lsv_links.specs.Links.{ServesPorts}
use Rattle.lsv_links.specs.Views.{PortView}
use Rattle.lsv_machine.specs.Disks.{AsksInRun, IsOfLaneStore, TouchesStore}
use Rattle.lsv_machine.specs.Durable.{Reading}
use Rattle.lsv_machine.specs.History.{ledger, writers}
use Rattle.lsv_machine.specs.Machine.{IsOfLane, Machine, Settings, log_of}
use Rattle.lsv_machine.specs.Recovery.{AnyTurnAsks, Outside, Ran, Story, Turn, all_turns}
use Rattle.lsv_machine.specs.Starts.{StartsAs}
use Rattle.lsv_machine.specs.Turns.{Happened, Happened.Did, Happened.Tailed, Happened.Begins, Run}
use Rattle.lsv_machine.proofs.Choices.{EqOr.equal, EqOr.unequal, eq_or}
use Rattle.lsv_machine.proofs.Folds.{touches_as}
use Rattle.lsv_machine.proofs.RunLaws.{one_writer, starts_sound}
use Rattle.lsv_lanes.specs.Histories.{HasOneWriterInAll, SaysNoMore, IsOfRun, KeepsToLane, MakesTurns, jobs_of, writers_in_all}
use Rattle.lsv_lanes.specs.Jobs.{ArePut, CameTo}
use Rattle.lsv_lanes.proofs.Alone.{Alone, run_alone}
use Rattle.lsv_lanes.proofs.Deciding.{of_lane, one_lane}
use Rattle.lsv_lanes.proofs.Jobs.{keeps, kept_so_far, put_jobs, served_jobs}
use Rattle.lsv_lanes.proofs.Ledgers.{history_left}
use Rattle.lsv_lanes.proofs.Stages.{let_through_own}

-- ---- One lane

start_alone : (set : Settings) (texts : List (List ℕ)) (start : Machine) (n : ℕ) → StartsAs set texts start → Alone n (start.logs n) start
start_alone set texts start n starts = record {
  log = refl;
  free = starts.free n;
  idle = λ k e. let a : log_of (start.states k) ≡ None = ap log_of (starts.unknown k) in cc;
}

module _ (set : Settings) (texts : List (List ℕ)) (start end : Machine) (h : List Happened) (n : ℕ) (starts : StartsAs set texts start) (run : Run set start h end) (keeps : KeepsToLane set h) (other : IsOfLane set.lane set.lanes n → ⊥) where
  apart : (i : ℕ) → IsOfLane set.lane set.lanes i → i ≢ n
  apart i lane is = other (subst (IsOfLane set.lane set.lanes) is lane)

  named : (i : ℕ) → AsksInRun set start h i → i ≢ n
  named i asks = apart i (let_through_own set texts start h i starts keeps asks)

  end_is : Alone n (start.logs n) end
  end_is = run_alone n (start.logs n) set start h end run (starts_sound set texts start starts) apart named (start_alone set texts start n starts)

  pub left_machine : (end.owner n ≡ None) × (end.logs n ≡ start.logs n)
  left_machine = (end_is.free, end_is.log)

  pub left_history : (before : List Happened) → SaysNoMore (ledger before n) (ledger (before ++ Begins texts ∷ h) n)
  left_history before = history_left set texts start end before h n starts run apart named (start_alone set texts start n starts)

-- ---- One writer

in_place : (n a p : ℕ) → n ≡ a + 1 + p → n - 1 ≡ p + a
in_place n a p e = omega arith

of_or : (a lanes n : ℕ) → a < lanes → IsOfLane a lanes n ⊎ (IsOfLane a lanes n → ⊥)
of_or a lanes n small = elim (eq_or n 0) [
  | equal p t ↦ inr (λ (s, e). none s e p)
  | unequal p t ↦ elim (eq_or ((n - 1) % lanes) a) [
    | equal q u ↦ inl (of_lane n a lanes (omega arith) q)
    | unequal q u ↦ inr (λ (s, e). q (ap (λ (x : ℕ). x % lanes) (in_place n a (s * lanes) e) ∙ mod-mul-add s lanes a small))
  ]
]
  where
    none : (s : ℕ) → n ≡ a + 1 + s * lanes → n ≡ 0 → ⊥
    none s e p = omega arith

module _ (lanes : ℕ) (histories : ℕ → List Happened) (all : (lane : ℕ) → lane < lanes → IsOfRun lane lanes (histories lane)) (n : ℕ) where
  others_free : (lane : ℕ) → lane < lanes → (IsOfLane lane lanes n → ⊥) → writers (histories lane) n ≡ []
  others_free lane small other =
      let t = all lane small in
      let not_its : IsOfLane t.set.lane t.set.lanes n → ⊥ = λ its. other (subst (λ (a : ℕ). IsOfLane a lanes n) t.lane_is (subst (λ (b : ℕ). IsOfLane t.set.lane b n) t.lanes_are its)) in
      ap (λ (h : List Happened). writers h n) t.is ∙ (left_history t.set t.texts t.start t.end t.run n t.starts t.runs t.keeps not_its t.before).writers

  its_one : (lane : ℕ) → lane < lanes → length (writers (histories lane) n) ≤ 1
  its_one lane small =
      let t = all lane small in
      subst (λ (h : List Happened). length (writers h n) ≤ 1) (sym t.is) (one_writer t.set n t.before t.run [] t.texts t.start t.end t.starts (subst (λ (h : List Happened). Run t.set t.start h t.end) (nil_behind t.run) t.runs))
    where
      nil_behind : (h : List Happened) → h ≡ h ++ []
      nil_behind [] = refl
      nil_behind (x ∷ h) = ap (λ (g : List Happened). x ∷ g) (nil_behind h)

  none_below : (count : ℕ) → count ≤ lanes → ((lane : ℕ) → lane < count → IsOfLane lane lanes n → ⊥) → writers_in_all count histories n ≡ []
  none_below zero few other = refl
  none_below (suc lane) few other =
      ap (λ (ks : List ConnId). ks ++ writers (histories lane) n) (none_below lane (omega arith) (λ l low. other l (omega arith))) ∙ others_free lane (omega arith) (other lane (omega arith))

  no_more : (ks js : List ConnId) → js ≡ [] → length ks ≤ 1 → length (ks ++ js) ≤ 1
  no_more [] js e few = subst (λ (x : List ConnId). length x ≤ 1) (sym e) (omega arith)
  no_more (k ∷ ks) js e few = rw e (subst (λ (x : List ConnId). length x ≤ 1) (nil_conns (k ∷ ks)) few)
    where
      nil_conns : (xs : List ConnId) → xs ≡ xs ++ []
      nil_conns [] = refl
      nil_conns (x ∷ xs) = ap (λ (ys : List ConnId). x ∷ ys) (nil_conns xs)

  one_below : (count : ℕ) → count ≤ lanes → length (writers_in_all count histories n) ≤ 1
  one_below zero few = omega arith
  one_below (suc lane) few = elim (of_or lane lanes n (omega arith)) [
    | inr other ↦ no_more (writers_in_all lane histories n) (writers (histories lane) n) (others_free lane (omega arith) other) (one_below lane (omega arith))
    | inl its ↦
        let none : writers_in_all lane histories n ≡ [] = none_below lane (omega arith) (λ l low of_it. let same : l ≡ lane = one_lane l lane lanes n (omega arith) (omega arith) of_it its in omega arith) in
        subst (λ (ks : List ConnId). length (ks ++ writers (histories lane) n) ≤ 1) (sym none) (its_one lane (omega arith))
  ]

pub one_in_all : (lanes : ℕ) (histories : ℕ → List Happened) → ((lane : ℕ) → lane < lanes → IsOfRun lane lanes (histories lane)) → HasOneWriterInAll lanes histories
one_in_all lanes histories all n = one_below lanes histories all n lanes (omega arith)

-- what of a run has happened is one
first_part : (set : Settings) (g h : List Happened) (a c : Machine) → Run set a (g ++ h) c → (b : Machine) × Run set a g b
first_part set [] h a c r = (a, refl)
first_part set (Did act ∷ g) h a c (mid, step, rest) = let (b, r) = first_part set g h mid c rest in (b, (mid, step, r))
first_part set (Tailed tail ∷ g) h a c (mid, ended, rest) = let (b, r) = first_part set g h mid c rest in (b, (mid, ended, r))
first_part set (Begins texts ∷ g) h a c r = absurd r

of_turns : (lane lanes : ℕ) (turns : List LaneTurn) (h : List Happened) → CameTo lane lanes (jobs_in turns) → MakesTurns lane lanes turns h → IsOfRun lane lanes h
of_turns lane lanes turns h all t =
    let came : CameTo lane lanes (jobs_of (t.run ++ t.rest)) = subst (CameTo lane lanes) (sym t.jobs) all in
    let its : CameTo t.set.lane t.set.lanes (jobs_of (t.run ++ t.rest)) = subst (λ (l : ℕ). CameTo t.set.lane l (jobs_of (t.run ++ t.rest))) (sym t.lanes_are) (subst (λ (l : ℕ). CameTo l lanes (jobs_of (t.run ++ t.rest))) (sym t.lane_is) came) in
    let (end, runs) = first_part t.set t.run t.rest t.start t.end t.runs in
    record {
      set = t.set;
      lane_is = t.lane_is;
      lanes_are = t.lanes_are;
      before = t.before;
      texts = t.texts;
      run = t.run;
      is = t.is;
      start = t.start;
      starts = t.starts;
      end = end;
      runs = runs;
      keeps = kept_so_far t.set t.run t.rest (keeps t.set (t.run ++ t.rest) its);
    }

pub one_in_came : (lanes : ℕ) (turns : ℕ → List LaneTurn) (histories : ℕ → List Happened) → ((lane : ℕ) → CameTo lane lanes (jobs_in (turns lane))) → ((lane : ℕ) → lane < lanes → MakesTurns lane lanes (turns lane) (histories lane)) → HasOneWriterInAll lanes histories
one_in_came lanes turns histories came all = one_in_all lanes histories (λ lane small. of_turns lane lanes (turns lane) (histories lane) (came lane) (all lane small))

pub one_in_served : (lane_tells : ℕ → Type 0) (lanes : ℕ) (turns : ℕ → List LaneTurn) (old new : List PortView) (histories : ℕ → List Happened) → ServesPorts lane_tells lanes turns old new
    → ((lane : ℕ) → lane < lanes → MakesTurns lane lanes (turns lane) (histories lane)) → HasOneWriterInAll lanes histories
one_in_served lane_tells lanes turns old new histories served all = one_in_came lanes turns histories (served_jobs lane_tells lanes turns old new served) all

pub one_in_put : (lanes ports : ℕ) (turns : ℕ → List LaneTurn) (histories : ℕ → List Happened) → ArePut lanes ports turns → ((lane : ℕ) → lane < lanes → MakesTurns lane lanes (turns lane) (histories lane)) → HasOneWriterInAll lanes histories
one_in_put lanes ports turns histories put all = one_in_came lanes turns histories (put_jobs lanes ports turns put) all

-- ---- Files

module _ (old new : DiskView) where
  pub touches_own : (set : Settings) (texts : List (List ℕ)) (start : Machine) (h : List Happened) → StartsAs set texts start → KeepsToLane set h
      → TouchesStore set.lane set.lanes (AsksInRun set start h) old new → TouchesStore set.lane set.lanes (λ n. ⊥) old new
  touches_own set texts start h starts keeps touches =
      touches_as set.lane set.lanes (AsksInRun set start h) (λ n. ⊥) old new (λ n asks. inl (let_through_own set texts start h n starts keeps asks)) touches

  pub touches_named : (lane lanes : ℕ) (turns : List Turn) → TouchesStore lane lanes (AnyTurnAsks turns) old new → ((n : ℕ) → AnyTurnAsks turns n → IsOfLane lane lanes n) → TouchesStore lane lanes (λ n. ⊥) old new
  touches_named lane lanes turns touches own = touches_as lane lanes (AnyTurnAsks turns) (λ n. ⊥) old new (λ n asks. inl (own n asks)) touches

-- a run of the machine that keeps to its lane
pub touches_ran : (r : Reading) (set : Settings) (texts : List (List ℕ)) (o : Outside) (end : Machine) (s : Story) → Ran r set texts o end s → KeepsToLane set (all_turns s.turns) → TouchesStore set.lane set.lanes (λ n. ⊥) o.found o.left
touches_ran r set texts o end s ran keeps = touches_own o.found o.left set texts ran.start (all_turns s.turns) ran.starts keeps ran.files

pub files_apart : (a b lanes : ℕ) (file : FileId) → a < lanes → b < lanes → IsOfLaneStore a lanes (λ n. ⊥) file → IsOfLaneStore b lanes (λ n. ⊥) file → a ≡ b
files_apart a b lanes file x y (inl (n, inr never, e)) t = absurd never
files_apart a b lanes file x y s (inl (m, inr never, f)) = absurd never
files_apart a b lanes file x y (inl (n, inl of_a, e)) (inl (m, inl of_b, f)) =
    let same : n ≡ m = (let g : owners.Log n ≡ owners.Log m = sym e ∙ f in cc) in one_lane a b lanes n x y of_a (subst (IsOfLane b lanes) (sym same) of_b)
files_apart a b lanes file x y (inl (n, inl of_a, e)) (inr (inl f)) = absurd (let g : owners.Log n ≡ owners.Numbers b = sym e ∙ f in cc)
files_apart a b lanes file x y (inl (n, inl of_a, e)) (inr (inr f)) = absurd (let g : owners.Log n ≡ owners.Events b = sym e ∙ f in cc)
files_apart a b lanes file x y (inr (inl e)) (inl (m, inl of_b, f)) = absurd (let g : owners.Numbers a ≡ owners.Log m = sym e ∙ f in cc)
files_apart a b lanes file x y (inr (inl e)) (inr (inl f)) = let g : owners.Numbers a ≡ owners.Numbers b = sym e ∙ f in cc
files_apart a b lanes file x y (inr (inl e)) (inr (inr f)) = absurd (let g : owners.Numbers a ≡ owners.Events b = sym e ∙ f in cc)
files_apart a b lanes file x y (inr (inr e)) (inl (m, inl of_b, f)) = absurd (let g : owners.Events a ≡ owners.Log m = sym e ∙ f in cc)
files_apart a b lanes file x y (inr (inr e)) (inr (inl f)) = absurd (let g : owners.Events a ≡ owners.Numbers b = sym e ∙ f in cc)
files_apart a b lanes file x y (inr (inr e)) (inr (inr f)) = let g : owners.Events a ≡ owners.Events b = sym e ∙ f in cc
