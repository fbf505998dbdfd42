-- A run recovers: its opening, and each turn.
use Rattle.std.proofs.Common.{◌≡◌, ◌≤◌, ℕ, List, [], ◌∷◌, ◌++◌, refl, sym, ◌∙◌, ap, subst, inl, inr, arith, append_assoc, Some, None, ◌⊎◌, take}
use Rattle.std.specs.Prelude.{false}
use Rattle.lsv_base.specs.declared.time.TimeSpec.{TimeSpec}
use Rattle.lsv_disk.specs.View.{DiskView, Image, IsCrashImage}
use Rattle.lsv_request.specs.declared.request.Request.TheVariants as request
use Rattle.lsv_request.specs.declared.request.Restart.{Restart}
use Rattle.lsv_session.specs.declared.connection.ConnState.{ConnState}
use Rattle.lsv_session.specs.declared.job.Body.{Body}
use Rattle.lsv_session.specs.declared.job.Body.TheVariants as body
use Rattle.lsv_session.specs.declared.job.Job.{Job}
use Rattle.lsv_session.specs.declared.reply.Reply.{Reply}
use Rattle.lsv_machine.specs.Counts.{Counts}
use Rattle.lsv_machine.specs.Disks.{AllGood, AllWithin, AnyAsksToResume, AsBefore, AsksInRun, AsksToResume, IsToldIn, NumbersFit, Past, TouchesStore}
use Rattle.lsv_machine.specs.Durable.{Good, GoodAt, GoodLog, Reading}
use Rattle.lsv_machine.specs.History.{Ledger, ledger, noted, settled}
use Rattle.lsv_machine.specs.InnerSoFar.{SoFar, with_turn}
use Rattle.lsv_machine.specs.Keeping.{Opened, OpensStore, Turned}
use Rattle.lsv_machine.specs.Machine.{IsOfLane, LogState, LogState.Absent, LogState.Damaged, LogState.There, Machine, Settings}
use Rattle.lsv_machine.specs.Recovery.{AnyTurnAsks, GoesOn, Kept, Recovers, Spans, Story, Turn, all_turns, ended_at, past_of, text_after}
use Rattle.lsv_machine.specs.Stands.{Sound, Stands}
use Rattle.lsv_machine.specs.Starts.{GoodState, ReadsAs, StartsAs}
use Rattle.lsv_machine.specs.Failures.{Act, AsksFor}
use Rattle.lsv_machine.specs.Turns.{Happened, Happened.Begins, Happened.Did, Happened.Tailed, Run, Tail, all_acted, turn_of}
use Rattle.lsv_machine.proofs.JudgedLemmas.{judged_ok}
use Rattle.lsv_machine.proofs.Folds.{asks_left, asks_right, counts_on, no_counts, touches_as, touches_on}
use Rattle.lsv_machine.proofs.LinesOver.{lines_more, text_last, turn_fresh, turn_splits}
use Rattle.lsv_machine.proofs.Owners.{acts_told, end_written}
use Rattle.lsv_machine.proofs.RunLaws.{run_append, stands_begun, stands_more, starts_sound}
use Rattle.lsv_machine.proofs.Silent.{step_sound, tail_sound}
use Rattle.lsv_machine.proofs.Splits.{Place, Place.at_end, Place.inside, all_turns_last, append_nil, ended_last, front, le_or, moments_last, placed, settled_last}
use Rattle.lsv_machine.proofs.Untouched.{good_untouched, untouched}
use Rattle.lsv_machine.proofs.Weaken.{at_same, at_weaker, begun_ledger, lower_same}

-- what images held before, they hold within what was said of it
pub as_before_within : (r : Reading) (p : Past) (n : ℕ) (old images : Image → Type 0) → AllWithin r p n old → AsBefore r n old images → AllWithin r p n images
as_before_within r p n old images within before image is =
    let b = before image is in
    let w = within b.0 b.1 in
    record { done = w.done; some = w.some; good = at_same r (ledger (p.history ++ all_acted (take w.done p.acts)) n) n b.0 image b.2 w.good }

goes_on_free : (texts : List (List ℕ)) (p : Past) (g : List Happened) (n : ℕ) → GoesOn texts p g → (ledger g n).writers ≡ []
goes_on_free texts p g n on =
    let h = p.history ++ all_acted (take on.done p.acts) in
    ap (λ (x : List Happened). (ledger x n).writers) on.is ∙ ap (λ (l : Ledger). l.writers) (begun_ledger n texts h)

-- what is read of a log, as a state of it
state_of : (r : Reading) (image : Image) (n : ℕ) (l : Ledger) (x : LogState) → ReadsAs (r.replays image n) x → GoodAt r l n image → GoodState l x
state_of r image n l Absent is good = subst (GoodLog l) (r.one image n good.found None good.is is) good.good
state_of r image n l Damaged is good = is good.found good.is
state_of r image n l (There stored promised) is good = subst (GoodLog l) (r.one image n good.found (Some stored) good.is is) good.good

-- a machine that starts as the disk reads stands for each history that goes on from what happened before
pub start_stands : (r : Reading) (set : Settings) (texts : List (List ℕ)) (image : Image) (m : Machine) (p : Past) (g : List Happened) (n : ℕ) → StartsAs set texts m → ((i : ℕ) → ReadsAs (r.replays image i) (m.logs i))
    → GoesOn texts p g → Good r g image n → Stands set g n m
start_stands r set texts image m p g n starts reads on good =
    let h = p.history ++ all_acted (take on.done p.acts) in
    let cut : ledger g n ≡ noted n (ledger h n) (Begins texts) = ap (λ (x : List Happened). ledger x n) on.is ∙ begun_ledger n texts h in
    let at_g : GoodAt r (noted n (ledger h n) (Begins texts)) n image = subst (λ (l : Ledger). GoodAt r l n image) cut good in
    let at_h : GoodAt r (ledger h n) n image = at_weaker r (noted n (ledger h n) (Begins texts)) (ledger h n) n image
    (record { head = refl; sent = refl; shown = refl; exit = refl; finished = refl; lower = lower_same (ledger h n).promised }) at_g in
    subst (λ (x : List Happened). Stands set x n m) (sym on.is) (stands_begun set n texts h m starts (state_of r image n (ledger h n) (m.logs n) (reads n) at_h))

-- ---- The opening

-- a run that only opened its store, or failed to
pub only_opened : (r : Reading) (lane lanes : ℕ) (texts : List (List ℕ)) (found new : DiskView) → OpensStore r lane lanes found new → Recovers r lane lanes texts (record { found = found; left = new }) (record { opened = new.moment; turns = [] })
only_opened r lane lanes texts found new o = record {
  spans = record {
    first = (o.logs 0).0.later;
    rising = λ before after t e. absurd (nothing before after t e);
    within = λ before after e. none before after e;
    whole = refl;
  };
  logs = λ n p g old on good. record {
    opening = λ k from to. as_before_within r p n (IsCrashImage found) (new.crash_images_at k) old ((o.logs n).0.each k from to);
    during = λ before after t e. absurd (nothing before after t e);
    now = inr (
      refl,
      as_before_within r p n (IsCrashImage found) (IsCrashImage new) old (o.logs n).1.images,
      subst (λ (h : List Happened). Good r h new.reads n) (sym (append_nil g)) (at_same r (ledger g n) n found.reads new.reads (o.logs n).1.reads good),
    );
  };
  numbers = λ fit. (o.numbers fit).moments.each;
  lines = record {
    opening = o.lines.moments.each;
    turns = λ start is. record {
      texts = λ before after t e. absurd (nothing before after t e);
      during = λ before after t e. absurd (nothing before after t e);
      now = λ image it. inl (tt, o.lines.now image it);
      reads = o.lines.reads.to start is;
    };
  };
  files = touches_as lane lanes (λ n. ⊥) (AnyTurnAsks []) found new (λ n never. absurd never) o.files;
}
  where
    none : (before after : List Turn) → [] ≡ before ++ after → ended_at new.moment before ≤ new.moment
    none [] after e = omega arith
    none (b ∷ before) after e = absurd (cc)

    nothing : (before after : List Turn) (t : Turn) → [] ≡ before ++ t ∷ after → ⊥
    nothing [] after t e = cc
    nothing (b ∷ before) after t e = cc

-- a run without turns
only_texts : (set : Settings) (m : Machine) (before after : List Turn) → [] ≡ before ++ after → (mid : Machine) × Run set m (all_turns before) mid × Run set mid (all_turns after) m × (mid.lines ≡ text_after m.lines before)
only_texts set m [] after e = (m, refl, subst (λ (x : List Turn). Run set m (all_turns x) m) e refl, refl)
only_texts set m (b ∷ before) after e = absurd (cc)

-- the opening, before the first turn
pub opening_begins : (r : Reading) (set : Settings) (texts : List (List ℕ)) (m : Machine) (found new : DiskView) → NumbersFit r set.lane set.lanes (IsCrashImage found) → Opened r set texts m found new
    → SoFar r set texts (record { found = found; left = new }) m (record { opened = new.moment; turns = [] })
opening_begins r set texts m found new fit o = record {
  ran = record {
    start = m;
    starts = o.starts;
    reads_as = o.reads_as;
    drawn = o.drawn;
    lines = o.lines;
    run = refl;
    ended_lines = only_texts set m;
    moments = tt;
    counts = no_counts found new o.store.monotone;
    files = touches_as set.lane set.lanes (λ n. ⊥) (AsksInRun set m []) found new (λ n never. absurd never) o.store.files;
  };
  recovers = only_opened r set.lane set.lanes texts found new o.store;
  stands = λ n g p on good. subst (λ (h : List Happened). Stands set h n m) (sym (append_nil g)) (start_stands r set texts found.reads m p g n o.starts o.reads_as on good);
  fit = (o.store.numbers fit).now;
  lines = o.store.lines.reads.to m.lines o.lines;
  fresh = o.starts.no_line;
  written = λ n is. absurd (let a : None ≡ Some is.0 = sym (o.starts.free n) ∙ is.1 in cc);
}

-- ---- One turn more

abbrev Earlier : DiskView → DiskView → Type 0
Earlier old new = (k : ℕ) (image : Image) → k ≤ old.moment → new.crash_images_at k image → old.crash_images_at k image

-- the images of one moment of a turn
abbrev Allowed : Reading → Past → List Happened → List Turn → ℕ → Turn → (Image → Type 0) → Type 0
Allowed r p g before n t images = AllWithin r (past_of g before t) n images ⊎ ((settled n g (all_turns before) ≡ false) × AllWithin r p n images)

-- what a turn makes of one log
module _ (r : Reading) (set : Settings) (texts : List (List ℕ)) (found : DiskView) (s : Story) (now : TimeSpec) (jobs : List Job) (replies : List Reply) (m after : Machine) (old new : DiskView)
    (t : Turned r set now jobs replies m after old new) (n : ℕ) (p : Past) (g : List Happened) (on : GoesOn texts p g) (stands : Stands set (g ++ all_turns s.turns) n m)
    (spans : Spans (record { found = found; left = old }) s) (past : Earlier old new) where
  abbrev turn : Turn
  turn = record { now = now; acts = t.acts; tail = t.tail; ended = new.moment; text = after.lines }

  abbrev so_far : List Happened
  so_far = g ++ all_turns s.turns

  abbrev AtEnd : Type 0
  AtEnd = AllGood r (ledger so_far n) n (IsCrashImage old) ⊎ ((settled n g (all_turns s.turns) ≡ false) × AllWithin r p n (IsCrashImage old) × Good r so_far old.reads n)

  free : settled n g (all_turns s.turns) ≡ false → (ledger so_far n).writers ≡ []
  free e = let f = goes_on_free texts p g n on in (untouched g (all_turns s.turns) n f e).writers ∙ f

  all_so_far : so_far ++ turn_of t.acts t.tail ≡ g ++ all_turns (s.turns ++ turn ∷ [])
  all_so_far = append_assoc g (all_turns s.turns) (turn_of t.acts t.tail) ∙ ap (λ (x : List Happened). g ++ x) (sym (all_turns_last s.turns turn))

  moved : (images : Image → Type 0) → AllGood r (ledger (so_far ++ turn_of t.acts t.tail) n) n images → AllGood r (ledger (g ++ all_turns (s.turns ++ turn ∷ [])) n) n images
  moved images all = subst (λ (x : List Happened). AllGood r (ledger x n) n images) all_so_far all

  -- the moments of the turn itself
  last_turn : (k : ℕ) → old.moment ≤ k → k ≤ new.moment → AtEnd → Allowed r p g s.turns n turn (new.crash_images_at k)
  last_turn k from to (inl all) = inl ((t.settled_logs so_far n stands all).0.each k from to)
  last_turn k from to (inr (e, within, good)) = elim ((t.unsettled_logs so_far n stands (free e) good).0.each k from to) [
    | inl before ↦ inr (e, as_before_within r p n (IsCrashImage old) (new.crash_images_at k) within before)
    | inr all ↦ inl all
  ]

  early : (before : List Turn) (u : Turn) (k : ℕ) → k ≤ u.ended → u.ended ≤ old.moment → Allowed r p g before n u (old.crash_images_at k) → Allowed r p g before n u (new.crash_images_at k)
  early before u k to by (inl all) = inl (λ image is. all image (past k image (omega arith) is))
  early before u k to by (inr (e, within)) = inr (e, λ image is. within image (past k image (omega arith) is))

  during : Kept r (record { found = found; left = old }) s n p g → (before after : List Turn) (u : Turn) (k : ℕ) → ended_at s.opened before ≤ k → k ≤ u.ended → Place before after s.turns u turn → Allowed r p g before n u (new.crash_images_at k)
  during kept before after u k from to (at_end b e) =
      let from' : old.moment ≤ k = subst (λ (x : ℕ). x ≤ k) (ap (ended_at s.opened) b ∙ spans.whole) from in
      let to' : k ≤ new.moment = subst (λ (x : Turn). k ≤ x.ended) e to in
      subst (λ (x : Turn). Allowed r p g before n x (new.crash_images_at k)) (sym e)
      (subst (λ (x : List Turn). Allowed r p g x n turn (new.crash_images_at k)) (sym b) (last_turn k from' to' kept.now))
  during kept before after u k from to (inside rest e) =
      let whole : s.turns ≡ (before ++ u ∷ []) ++ rest = e ∙ sym (append_assoc before (u ∷ []) rest) in
      let by : u.ended ≤ old.moment = subst (λ (x : ℕ). x ≤ old.moment) (ended_last s.opened before u) (spans.within (before ++ u ∷ []) rest whole) in
      early before u k to by (kept.during before rest u e k from to)

  abbrev Then : Type 0
  Then = AllGood r (ledger (g ++ all_turns (s.turns ++ turn ∷ [])) n) n (IsCrashImage new)
      ⊎ ((settled n g (all_turns (s.turns ++ turn ∷ [])) ≡ false) × AllWithin r p n (IsCrashImage new) × Good r (g ++ all_turns (s.turns ++ turn ∷ [])) new.reads n)

  at_last : AtEnd → Then
  at_last (inl all) = inl (moved (IsCrashImage new) (t.settled_logs so_far n stands all).1)
  at_last (inr (e, within, good)) = elim ((t.unsettled_logs so_far n stands (free e) good).1) [
    | inl all ↦ inl (moved (IsCrashImage new) all)
    | inr rests ↦ inr (
      subst (λ (x : List Happened). settled n g x ≡ false) (sym (all_turns_last s.turns turn)) (settled_last n g (all_turns s.turns) (turn_of t.acts t.tail) e rests.0),
      as_before_within r p n (IsCrashImage old) (IsCrashImage new) within rests.1.images,
      subst (λ (x : List Happened). Good r x new.reads n) all_so_far
          (at_same r (ledger (so_far ++ turn_of t.acts t.tail) n) n old.reads new.reads rests.1.reads (good_untouched r so_far (turn_of t.acts t.tail) old.reads n (free e) rests.0 good)),
    )
  ]

  log_on : Kept r (record { found = found; left = old }) s n p g → Kept r (record { found = found; left = new }) (with_turn s now t.acts t.tail new.moment after.lines) n p g
  log_on kept = record {
    opening = λ k from to image is. kept.opening k from to image (past k image (let a = spans.within [] s.turns refl in omega arith) is);
    during = λ before after u e k from to. during kept before after u k from to (placed before after s.turns u turn e);
    now = at_last kept.now;
  }

-- ---- What turns ask

-- an event of one history and then another is of the one or of the other
split_did : (g h before after : List Happened) (act : Act) → g ++ h ≡ before ++ Did act ∷ after → ((x : List Happened) × (g ≡ before ++ Did act ∷ x)) ⊎ ((y : List Happened) × (h ≡ y ++ Did act ∷ after))
split_did [] h before after act e = inr (before, e)
split_did (x ∷ g) h [] after act e = inl (g, (let a : x ≡ Did act = cc in ap (λ (z : Happened). z ∷ g) a))
split_did (x ∷ g) h (y ∷ before) after act e = elim (split_did g h before after act (cc)) [
  | inl here ↦ inl (here.0, (let a : x ≡ y = cc in ap (λ (z : Happened). z ∷ g) a ∙ ap (λ (zs : List Happened). y ∷ zs) here.1))
  | inr there ↦ inr there
]

no_did : (tail : Tail) (before after : List Happened) (act : Act) → Tailed tail ∷ [] ≡ before ++ Did act ∷ after → ⊥
no_did tail [] after act e = cc
no_did tail (x ∷ []) after act e = cc
no_did tail (x ∷ y ∷ before) after act e = cc

same_did : (a b : Act) (xs ys : List Happened) → Did a ∷ xs ≡ Did b ∷ ys → b ≡ a
same_did a b xs ys e = cc

acts_any : (acts : List Act) (before after : List Happened) (act : Act) (n : ℕ) → all_acted acts ≡ before ++ Did act ∷ after → AsksToResume act.job.body n → AnyAsksToResume acts n
acts_any [] [] after act n e asks = absurd (cc)
acts_any [] (x ∷ before) after act n e asks = absurd (cc)
acts_any (a ∷ acts) [] after act n e asks = inl (subst (λ (x : Act). AsksToResume x.job.body n) (same_did a act (all_acted acts) after e) asks)
acts_any (a ∷ acts) (x ∷ before) after act n e asks = inr (acts_any acts before after act n (cc) asks)

turns_any : (turns : List Turn) (before after : List Happened) (act : Act) (n : ℕ) → all_turns turns ≡ before ++ Did act ∷ after → AsksToResume act.job.body n → AnyTurnAsks turns n
turns_any [] [] after act n e asks = absurd (cc)
turns_any [] (x ∷ before) after act n e asks = absurd (cc)
turns_any (t ∷ turns) before after act n e asks = elim (split_did (turn_of t.acts t.tail) (all_turns turns) before after act e) [
  | inl here ↦ elim (split_did (all_acted t.acts) (Tailed t.tail ∷ []) before here.0 act here.1) [
    | inl job ↦ inl (acts_any t.acts before job.0 act n job.1 asks)
    | inr tail ↦ absurd (no_did t.tail tail.0 here.0 act tail.1)
  ]
  | inr there ↦ inr (turns_any turns there.0 after act n there.1 asks)
]

resumes : (s : ConnState) (b : Body) (restart : Restart) → AsksFor s b (request.Restart restart) → AsksToResume b restart.log
resumes s (body.Msg m) restart asks = (restart, (judged_ok s m (request.Restart restart) asks).0, refl)
resumes s (body.Bad fault) restart asks = absurd asks
resumes s body.Gone restart asks = absurd asks

run_any : (set : Settings) (start : Machine) (turns : List Turn) (n : ℕ) → AsksInRun set start (all_turns turns) n → AnyTurnAsks turns n
run_any set start turns n t = let (restart, asks, is) = t.asks in
    turns_any turns t.before t.after t.act n t.is (subst (AsksToResume t.act.job.body) is (resumes (t.mid.states t.act.job.conn) t.act.job.body restart asks))

-- what is left of a list after a first part of it
same_rest : (before a b : List Turn) → before ++ a ≡ before ++ b → a ≡ b
same_rest [] a b e = e
same_rest (t ∷ before) a b e = same_rest before a b (cc)

no_rest : (all before rest : List Turn) → before ≡ all → all ≡ before ++ rest → rest ≡ []
no_rest all before rest is e = same_rest before rest [] (sym e ∙ (sym is ∙ sym (append_nil before)))

the_rest : (before rest more turns : List Turn) (t : Turn) → turns ≡ before ++ more → turns ++ t ∷ [] ≡ before ++ rest → rest ≡ more ++ t ∷ []
the_rest before rest more turns t is e = same_rest before rest (more ++ t ∷ []) (sym e ∙ (ap (λ (x : List Turn). x ++ t ∷ []) is ∙ append_assoc before more (t ∷ [])))

-- what is sound stays so over a run
run_sound : (set : Settings) (h : List Happened) (m end : Machine) → Sound set m → Run set m h end → Sound set end
run_sound set [] m end sound run = subst (Sound set) (sym run) sound
run_sound set (Did act ∷ h) m end sound (mid, step, rest) = run_sound set h mid end (step_sound set m act mid sound step) rest
run_sound set (Tailed tail ∷ h) m end sound (mid, ended, rest) = run_sound set h mid end (tail_sound set m tail mid sound ended) rest
run_sound set (Begins texts ∷ h) m end sound run = absurd run

-- a turn that ended at this moment, with this text of the event log
abbrev turn_at : TimeSpec → List Act → Tail → ℕ → List ℕ → Turn
turn_at now acts tail k text = record { now = now; acts = acts; tail = tail; ended = k; text = text }

-- one turn more
pub turn_joins : (r : Reading) (set : Settings) (texts : List (List ℕ)) (found : DiskView) (s : Story) (now : TimeSpec) (jobs : List Job) (replies : List Reply) (m after : Machine) (old new : DiskView)
    → SoFar r set texts (record { found = found; left = old }) m s → (t : Turned r set now jobs replies m after old new)
    → SoFar r set texts (record { found = found; left = new }) after (with_turn s now t.acts t.tail new.moment after.lines)
turn_joins r set texts found s now jobs replies m after old new so t =
    let next : Turn = record { now = now; acts = t.acts; tail = t.tail; ended = new.moment; text = after.lines } in
    let all = all_turns_last s.turns next in
    let moments = t.numbers.moments in
    let later = moments.later in
    record {
      ran = record {
        start = so.ran.start;
        starts = so.ran.starts;
        reads_as = so.ran.reads_as;
        drawn = so.ran.drawn;
        lines = so.ran.lines;
        run = subst (λ (h : List Happened). Run set so.ran.start h after) (sym all) joined;
        ended_lines = λ before rest e. elim (front before rest s.turns next e) [
          | inl whole ↦ (
            after,
            subst (λ (x : List Turn). Run set so.ran.start (all_turns x) after) (sym whole) (subst (λ (h : List Happened). Run set so.ran.start h after) (sym all) joined),
            subst (λ (x : List Turn). Run set after (all_turns x) after) (sym (no_rest (s.turns ++ next ∷ []) before rest whole e)) refl,
            sym (text_last so.ran.start.lines s.turns next) ∙ ap (text_after so.ran.start.lines) (sym whole),
          )
          | inr part ↦ let (mid, early, late, same) = so.ran.ended_lines before part.0 part.1 in (
            mid,
            early,
            subst (λ (x : List Turn). Run set mid (all_turns x) after) (sym (the_rest before rest part.0 s.turns next part.1 e))
                (subst (λ (h : List Happened). Run set mid h after) (sym (all_turns_last part.0 next)) (run_append set (all_turns part.0) (turn_of t.acts t.tail) mid m after late t.run)),
            same,
          )
        ];
        moments = moments_last s.turns next so.ran.moments (t.moment, tt);
        counts = subst (λ (h : List Happened). Counts h found new) (sym all) (counts_on (all_turns s.turns) (turn_of t.acts t.tail) found old new so.ran.counts t.counts);
        files = all_files;
      };
      recovers = record {
        spans = record {
          first = so.recovers.spans.first;
          rising = λ before rest u e. elim (placed before rest s.turns u next e) [
            | at_end b d ↦ let a : ended_at s.opened before ≡ old.moment = ap (ended_at s.opened) b ∙ so.recovers.spans.whole in let c : u.ended ≡ new.moment = ap (λ (x : Turn). x.ended) d in omega arith
            | inside more d ↦ so.recovers.spans.rising before more u d
          ];
          within = λ before rest e. elim (front before rest s.turns next e) [
            | inl whole ↦ let a : ended_at s.opened before ≡ new.moment = ap (ended_at s.opened) whole ∙ ended_last s.opened s.turns next in omega arith
            | inr part ↦ let a = so.recovers.spans.within before part.0 part.1 in omega arith
          ];
          whole = ended_last s.opened s.turns next;
        };
        logs = λ n p g old_within on good. log_on r set texts found s now jobs replies m after old new t n p g on (so.stands n g p on good) so.recovers.spans moments.past (so.recovers.logs n p g old_within on good);
        numbers = λ fit k from to. elim (le_or k old.moment) [
          | inl early_on ↦ fewer k (λ image is. moments.past k image early_on is) (so.recovers.numbers fit k from early_on)
          | inr late ↦ moments.each k late to
        ];
        lines = record {
          opening = λ k from to image is. so.recovers.lines.opening k from to image (moments.past k image (let a = so.recovers.spans.within [] s.turns refl in omega arith) is);
          turns = λ start is. lines_more r set found old new s next m after t.run so.fresh so.lines refl refl t.lines so.recovers.spans moments.past start (so.recovers.lines.turns start is);
        };
        files = touches_as set.lane set.lanes (AsksInRun set so.ran.start (all_turns (s.turns ++ next ∷ []))) (AnyTurnAsks (s.turns ++ next ∷ [])) found new (λ n asks. inr (run_any set so.ran.start (s.turns ++ next ∷ []) n asks)) all_files;
      };
      stands = λ n g p on good. subst (λ (h : List Happened). Stands set h n after) (append_assoc g (all_turns s.turns) (turn_of t.acts t.tail) ∙ ap (λ (x : List Happened). g ++ x) (sym all))
          (stands_more set n (g ++ all_turns s.turns) (turn_of t.acts t.tail) m after (so.stands n g p on good) t.run);
      fit = t.numbers.now;
      lines = t.lines.reads so.lines;
      fresh = turn_fresh set t.acts t.tail m after t.run;
      written = λ n is. let (mid, jobs_run, ended) = turn_splits set t.acts t.tail m after t.run in
          of_told n (acts_told set t.acts m mid (run_sound set (all_turns s.turns) so.ran.start m (starts_sound set texts so.ran.start so.ran.starts) so.ran.run) jobs_run n (end_written set t.tail mid after ended n is));
    }
  where
    joined : Run set so.ran.start (all_turns s.turns ++ turn_of t.acts t.tail) after
    joined = run_append set (all_turns s.turns) (turn_of t.acts t.tail) so.ran.start m after so.ran.run t.run

    last_is : all_turns s.turns ++ turn_of t.acts t.tail ≡ all_turns (s.turns ++ turn_at now t.acts t.tail new.moment after.lines ∷ [])
    last_is = sym (all_turns_last s.turns (turn_at now t.acts t.tail new.moment after.lines))

    asked_before : (n : ℕ) → AsksInRun set so.ran.start (all_turns s.turns) n → AsksInRun set so.ran.start (all_turns (s.turns ++ turn_at now t.acts t.tail new.moment after.lines ∷ [])) n
    asked_before n asks = subst (λ (h : List Happened). AsksInRun set so.ran.start h n) last_is (asks_left set so.ran.start (all_turns s.turns) (turn_of t.acts t.tail) n asks)

    told : (n : ℕ) → IsToldIn set m (all_acted t.acts) n → IsOfLane set.lane set.lanes n ⊎ AsksInRun set so.ran.start (all_turns (s.turns ++ turn_at now t.acts t.tail new.moment after.lines ∷ [])) n
    told n (inl is) = elim (so.written n is) [ inl lane ↦ inl lane | inr asks ↦ inr (asked_before n asks) ]
    told n (inr asks) = inr (subst (λ (h : List Happened). AsksInRun set so.ran.start h n) last_is
        (asks_right set so.ran.start (all_turns s.turns) m (turn_of t.acts t.tail) n so.ran.run (asks_left set m (all_acted t.acts) (Tailed t.tail ∷ []) n asks)))

    of_told : (n : ℕ) → IsOfLane set.lane set.lanes n ⊎ IsToldIn set m (all_acted t.acts) n → IsOfLane set.lane set.lanes n ⊎ AsksInRun set so.ran.start (all_turns (s.turns ++ turn_at now t.acts t.tail new.moment after.lines ∷ [])) n
    of_told n (inl lane) = inl lane
    of_told n (inr is) = told n is

    all_files : TouchesStore set.lane set.lanes (AsksInRun set so.ran.start (all_turns (s.turns ++ turn_at now t.acts t.tail new.moment after.lines ∷ []))) found new
    all_files =
        touches_on set.lane set.lanes (AsksInRun set so.ran.start (all_turns (s.turns ++ turn_at now t.acts t.tail new.moment after.lines ∷ []))) found old new
        (touches_as set.lane set.lanes (AsksInRun set so.ran.start (all_turns s.turns)) (AsksInRun set so.ran.start (all_turns (s.turns ++ turn_at now t.acts t.tail new.moment after.lines ∷ []))) found old (λ n asks. inr (asked_before n asks)) so.ran.files)
        (touches_as set.lane set.lanes (IsToldIn set m (all_acted t.acts)) (AsksInRun set so.ran.start (all_turns (s.turns ++ turn_at now t.acts t.tail new.moment after.lines ∷ []))) old new told t.files)

    fewer : (k : ℕ) → ((image : Image) → new.crash_images_at k image → old.crash_images_at k image) → NumbersFit r set.lane set.lanes (old.crash_images_at k) → NumbersFit r set.lane set.lanes (new.crash_images_at k)
    fewer k less fit = record { told = λ image is. fit.told image (less image is); none_above = λ a b last n is it. fit.none_above a b last n (less a is) (less b it) }
