-- The event log over a run's turns.
use Rattle.std.proofs.Common.{◌≡◌, ◌≤◌, ℕ, List, [], ◌∷◌, ◌++◌, refl, sym, ◌∙◌, ap, subst, inl, inr, arith, append_assoc, ◌⊎◌}
use Rattle.std.specs.Prelude.{Contains}
use Rattle.lsv_disk.specs.View.{DiskView, Image, IsCrashImage}
use Rattle.lsv_disk.specs.declared.file.Owner.TheVariants.{Events}
use Rattle.lsv_machine.specs.Disks.{LinesAs, LinesAsBeforeOr, LinesRest, SameLines}
use Rattle.lsv_machine.specs.Durable.{Reading}
use Rattle.lsv_machine.specs.Failures.{Act}
use Rattle.lsv_machine.specs.Keeping.{LinesFlushed, with_lines_of}
use Rattle.lsv_machine.specs.Lines.{lines_of}
use Rattle.lsv_machine.specs.Machine.{Machine, Settings}
use Rattle.lsv_machine.specs.Recovery.{AllMayPutNone, LinesAfter, LinesOfTurns, MayPutNone, Spans, Story, Turn, ended_at, text_after}
use Rattle.lsv_machine.specs.Turns.{EndOfTurn, Run, Tail, all_acted, turn_of}
use Rattle.lsv_machine.proofs.EventLines.{EndsText, tail_text}
use Rattle.lsv_machine.proofs.Folds.{acts_lines, same_lines_on}
use Rattle.lsv_machine.proofs.Splits.{Place, Place.at_end, Place.inside, placed}

-- ---- Lists of turns with one more

pub text_last : (start : List ℕ) (turns : List Turn) (t : Turn) → text_after start (turns ++ t ∷ []) ≡ t.text
text_last start [] t = refl
text_last start (u ∷ turns) t = text_last u.text turns t

none_last : (lane : ℕ) (turns : List Turn) (t : Turn) → AllMayPutNone lane turns → MayPutNone lane t → AllMayPutNone lane (turns ++ t ∷ [])
none_last lane [] t all its = (its, tt)
none_last lane (u ∷ turns) t all its = (all.0, none_last lane turns t all.1 its)

-- ---- A turn of the machine

-- a turn is its jobs and its end
pub turn_splits : (set : Settings) (acts : List Act) (tail : Tail) (m after : Machine) → Run set m (turn_of acts tail) after → (mid : Machine) × Run set m (all_acted acts) mid × EndOfTurn set mid tail after
turn_splits set [] tail m after (new, ended, same) = (m, refl, subst (λ (x : Machine). EndOfTurn set m tail x) (sym same) ended)
turn_splits set (act ∷ acts) tail m after (next, step, rest) = let (mid, jobs, ended) = turn_splits set acts tail next after rest in (mid, (next, step, jobs), ended)

-- what a turn makes of the event log's text
pub turn_text : (set : Settings) (acts : List Act) (tail : Tail) (m after : Machine) → m.fresh ≡ [] → Run set m (turn_of acts tail) after
    → (after.lines ≡ m.lines ++ lines_of acts) ⊎ (Contains tail.failed (Events set.lane) × (after.lines ≡ m.lines))
turn_text set acts tail m after none run = go (turn_splits set acts tail m after run)
  where
    by : (mid : Machine) → (mid.lines ≡ m.lines) × (mid.fresh ≡ m.fresh ++ lines_of acts) → EndsText set.lane tail.failed mid after
        → (after.lines ≡ m.lines ++ lines_of acts) ⊎ (Contains tail.failed (Events set.lane) × (after.lines ≡ m.lines))
    by mid (same, more) ends = elim ends.lines [
      | inl put ↦ inl (put ∙ (ap (λ (x : List ℕ). x ++ mid.fresh) same ∙ ap (λ (x : List ℕ). m.lines ++ x) (more ∙ ap (λ (x : List ℕ). x ++ lines_of acts) none)))
      | inr lost ↦ inr (lost.0, lost.1 ∙ same)
    ]

    go : (mid : Machine) × Run set m (all_acted acts) mid × EndOfTurn set mid tail after → (after.lines ≡ m.lines ++ lines_of acts) ⊎ (Contains tail.failed (Events set.lane) × (after.lines ≡ m.lines))
    go (mid, jobs, ended) = by mid (acts_lines set acts m mid jobs) (tail_text set tail mid after ended)

pub turn_fresh : (set : Settings) (acts : List Act) (tail : Tail) (m after : Machine) → Run set m (turn_of acts tail) after → after.fresh ≡ []
turn_fresh set acts tail m after run = let (mid, jobs, ended) = turn_splits set acts tail m after run in (tail_text set tail mid after ended).fresh

-- ---- Images

-- what is read alike may be held alike
holds_alike : (r : Reading) (lane : ℕ) (found : DiskView) (start : List ℕ) (turns : List Turn) (was image : Image) → SameLines r was image → LinesAfter r lane found start turns was → LinesAfter r lane found start turns image
holds_alike r lane found start turns was image same (inl (none, (before, it, alike))) = inl (none, (before, it, same_lines_on r before was image alike same))
holds_alike r lane found start turns was image same (inr h) = inr (record { before = h.before; turn = h.turn; after = h.after; is = h.is; none_since = h.none_since; holds = same.to (text_after start h.before ++ lines_of h.turn.acts) h.holds })

-- a turn that may have put no line allows what was allowed before it
holds_more : (r : Reading) (lane : ℕ) (found : DiskView) (start : List ℕ) (turns : List Turn) (t : Turn) (image : Image) → MayPutNone lane t → LinesAfter r lane found start turns image → LinesAfter r lane found start (turns ++ t ∷ []) image
holds_more r lane found start turns t image none (inl (all, held)) = inl (none_last lane turns t all none, held)
holds_more r lane found start turns t image none (inr h) = inr (record {
  before = h.before;
  turn = h.turn;
  after = h.after ++ t ∷ [];
  is = ap (λ (x : List Turn). x ++ t ∷ []) h.is ∙ append_assoc h.before (h.turn ∷ h.after) (t ∷ []);
  none_since = none_last lane h.after t h.none_since none;
  holds = h.holds;
})

-- or it put all its lines
holds_put : (r : Reading) (lane : ℕ) (found : DiskView) (start : List ℕ) (turns : List Turn) (t : Turn) (image : Image) → r.lines image (text_after start turns ++ lines_of t.acts) → LinesAfter r lane found start (turns ++ t ∷ []) image
holds_put r lane found start turns t image is = inr (record { before = turns; turn = t; after = []; is = refl; none_since = tt; holds = is })

-- ---- One turn more

module _ (r : Reading) (set : Settings) (found old new : DiskView) (s : Story) (t : Turn) (m after : Machine) (run : Run set m (turn_of t.acts t.tail) after) (none : m.fresh ≡ []) (reads_m : r.lines old.reads m.lines)
    (text_is : t.text ≡ after.lines) (ends : t.ended ≡ new.moment) (lines : LinesFlushed r set t.tail (with_lines_of t.acts m) after old new) (spans : Spans (record { found = found; left = old }) s)
    (past : (k : ℕ) (image : Image) → k ≤ old.moment → new.crash_images_at k image → old.crash_images_at k image) (start : List ℕ) (so_far : LinesOfTurns r set.lane (record { found = found; left = old }) s start) where
  -- the text before the turn is the machine's
  at_m : m.lines ≡ text_after start s.turns
  at_m = r.one_text old.reads m.lines (text_after start s.turns) reads_m so_far.reads

  put_is : m.lines ++ (m.fresh ++ lines_of t.acts) ≡ text_after start s.turns ++ lines_of t.acts
  put_is = ap (λ (x : List ℕ). m.lines ++ (x ++ lines_of t.acts)) none ∙ ap (λ (x : List ℕ). x ++ lines_of t.acts) at_m

  held : (image : Image) → LinesAs r (IsCrashImage old) image → LinesAfter r set.lane found start s.turns image
  held image (was, is, alike) = holds_alike r set.lane found start s.turns was image alike (so_far.now was is)

  put : (image : Image) → r.lines image (m.lines ++ (m.fresh ++ lines_of t.acts)) → r.lines image (text_after start s.turns ++ lines_of t.acts)
  put image is = subst (r.lines image) put_is is

  its_text : (t.text ≡ text_after start s.turns ++ lines_of t.acts) ⊎ (Contains t.tail.failed (Events set.lane) × (t.text ≡ text_after start s.turns))
  its_text = elim (turn_text set t.acts t.tail m after none run) [
    | inl all ↦ inl (text_is ∙ (all ∙ ap (λ (x : List ℕ). x ++ lines_of t.acts) at_m))
    | inr lost ↦ inr (lost.0, text_is ∙ (lost.1 ∙ at_m))
  ]

  its_moment : (k : ℕ) → old.moment ≤ k → k ≤ new.moment → (image : Image) → new.crash_images_at k image → LinesAfter r set.lane found start s.turns image ⊎ r.lines image (text_after start s.turns ++ lines_of t.acts)
  its_moment k from to image is = elim (lines.moments.each k from to image is) [ inl before ↦ inl (held image before) | inr all ↦ inr (put image all) ]

  last_now : (image : Image) → IsCrashImage new image → LinesAfter r set.lane found start (s.turns ++ t ∷ []) image
  last_now image is = go lines.now
    where
      or_put : MayPutNone set.lane t → LinesAs r (IsCrashImage old) image ⊎ r.lines image (m.lines ++ (m.fresh ++ lines_of t.acts)) → LinesAfter r set.lane found start (s.turns ++ t ∷ []) image
      or_put may (inl before) = holds_more r set.lane found start s.turns t image may (held image before)
      or_put may (inr all) = holds_put r set.lane found start s.turns t image (put image all)

      go : (Contains t.tail.failed (Events set.lane) × LinesAsBeforeOr r (IsCrashImage old) (m.lines ++ (m.fresh ++ lines_of t.acts)) (IsCrashImage new)) ⊎ ((m.fresh ++ lines_of t.acts ≡ []) × LinesRest r old new)
          ⊎ ((image : Image) → IsCrashImage new image → r.lines image (m.lines ++ (m.fresh ++ lines_of t.acts))) → LinesAfter r set.lane found start (s.turns ++ t ∷ []) image
      go (inl (did, x)) = or_put (inr did) (x image is)
      go (inr (inl (empty, rest))) = or_put (inl (sym (ap (λ (x : List ℕ). x ++ lines_of t.acts) none) ∙ empty)) (inl (rest.now image is))
      go (inr (inr x)) = holds_put r set.lane found start s.turns t image (put image (x image is))

  abbrev Holds : (before : List Turn) (u : Turn) → Image → Type 0
  Holds before u image = LinesAfter r set.lane found start before image ⊎ r.lines image (text_after start before ++ lines_of u.acts)

  any_moment : (before rest : List Turn) (u : Turn) (k : ℕ) → ended_at s.opened before ≤ k → k ≤ u.ended → (image : Image) → new.crash_images_at k image → Place before rest s.turns u t → Holds before u image
  any_moment before rest u k from to image is (at_end b e) =
      let from' : old.moment ≤ k = subst (λ (x : ℕ). x ≤ k) (ap (ended_at s.opened) b ∙ spans.whole) from in
      let to' : k ≤ new.moment = subst (λ (x : ℕ). k ≤ x) (ap (λ (x : Turn). x.ended) e ∙ ends) to in
      subst (λ (x : Turn). Holds before x image) (sym e) (subst (λ (x : List Turn). Holds x t image) (sym b) (its_moment k from' to' image is))
  any_moment before rest u k from to image is (inside more e) =
      let whole : s.turns ≡ (before ++ u ∷ []) ++ more = e ∙ sym (append_assoc before (u ∷ []) more) in
      let by : u.ended ≤ old.moment = subst (λ (x : ℕ). x ≤ old.moment) (ended_there s.opened before u) (spans.within (before ++ u ∷ []) more whole) in
      so_far.during before more u e k from to image (past k image (omega (arith, to, by)) is)
    where
      ended_there : (k : ℕ) (ts : List Turn) (v : Turn) → ended_at k (ts ++ v ∷ []) ≡ v.ended
      ended_there k [] v = refl
      ended_there k (w ∷ ts) v = ended_there w.ended ts v

  any_text : (before rest : List Turn) (u : Turn) → Place before rest s.turns u t → (u.text ≡ text_after start before ++ lines_of u.acts) ⊎ (Contains u.tail.failed (Events set.lane) × (u.text ≡ text_after start before))
  any_text before rest u (at_end b e) =
      subst (λ (x : Turn). (x.text ≡ text_after start before ++ lines_of x.acts) ⊎ (Contains x.tail.failed (Events set.lane) × (x.text ≡ text_after start before))) (sym e)
      (subst (λ (x : List Turn). (t.text ≡ text_after start x ++ lines_of t.acts) ⊎ (Contains t.tail.failed (Events set.lane) × (t.text ≡ text_after start x))) (sym b) its_text)
  any_text before rest u (inside more e) = so_far.texts before more u e

  pub lines_more : LinesOfTurns r set.lane (record { found = found; left = new }) (record { opened = s.opened; turns = s.turns ++ t ∷ [] }) start
  lines_more = record {
    texts = λ before rest u e. any_text before rest u (placed before rest s.turns u t e);
    during = λ before rest u e k from to image is. any_moment before rest u k from to image is (placed before rest s.turns u t e);
    now = last_now;
    reads = subst (r.lines new.reads) (sym text_is ∙ sym (text_last start s.turns t)) (lines.reads reads_m);
  }
