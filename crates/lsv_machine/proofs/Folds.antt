-- A turn is its jobs, one after another, and its end.
use Rattle.std.proofs.Common.{◌≡◌, ◌≤◌, ℕ, List, [], ◌∷◌, ◌++◌, refl, sym, ◌∙◌, ap, subst, inl, inr, arith, append_assoc, ◌⊎◌, length, take, map}
use Rattle.std.specs.Prelude.{false, Contains}
use Rattle.std.specs.List.{flat_map}
use Rattle.std.proofs.lemmas.Grind.{common_steps}
use Rattle.std.proofs.lemmas.List.Elements.{All-append, All-nil, All-cons}
use Rattle.lsv_base.specs.declared.time.TimeSpec.{TimeSpec}
use Rattle.lsv_disk.specs.Files.{file_of}
use Rattle.lsv_disk.specs.Throughout.{Jointly}
use Rattle.lsv_disk.specs.View.{DiskView, Image, IsCrashImage}
use Rattle.lsv_disk.specs.declared.file.Owner.{Owner}
use Rattle.lsv_disk.specs.declared.file.Owner.TheVariants.{Log, Events}
use Rattle.lsv_disk.specs.declared.file.FileId.{FileId}
use Rattle.lsv_disk.specs.declared.file.Part.{Part}
use Rattle.lsv_disk.specs.declared.file.Part.TheVariants.{Slots}
use Rattle.lsv_session.specs.declared.job.Job.{Job}
use Rattle.lsv_session.specs.declared.reply.Reply.{Reply}
use Rattle.lsv_machine.specs.Answers.{Answer, reply_of}
use Rattle.lsv_machine.specs.Counts.{Counts, IsCounted, all_parts, faults_among}
use Rattle.lsv_disk.proofs.Composition.{followed, started, widened}
use Rattle.lsv_machine.specs.Disks.{AllGood, AllWithin, AsBefore, GoodOr, KeepsNumbers, LinesAs, LinesAsBefore, LinesAsBeforeOr, LinesRest, AsksInRun, IsOfLaneStore, IsToldBy, IsToldIn, IsWritten, NumbersFit, Past, Rests, SameLines, SameLog, TouchesStore}
use Rattle.lsv_machine.specs.Durable.{Good, GoodAt, Reading, Within}
use Rattle.lsv_machine.specs.Failures.{Act}
use Rattle.lsv_machine.specs.History.{Ledger, blank, ledger, noted, settled, settles}
use Rattle.lsv_machine.specs.Keeping.{Acted, Ended, Going, KeepsLines, KeepsSettled, LinesFlushed, LinesGood, LinesWithin, TailEnded, Turned, with_lines_of}
use Rattle.lsv_machine.specs.Lines.{LinesFrom, MayHold, lines_of}
use Rattle.lsv_machine.specs.Machine.{IsOfLane, Machine, Settings}
use Rattle.lsv_machine.specs.Stands.{Sound, Stands}
use Rattle.lsv_machine.specs.Turns.{EndOfTurn, Happened, Happened.Did, Happened.Tailed, Happened.Begins, Run, Tail, all_acted, turn_of}
use Rattle.lsv_machine.proofs.Owners.{acts_told, asks_here}
use Rattle.lsv_machine.proofs.RunLaws.{ledger_append, run_append, stands_more}
use Rattle.lsv_machine.proofs.Splits.{all_acted_last, append_nil, failures_append, le_or, marks_append, settled_last}
use Rattle.lsv_machine.proofs.StepLooks.{step_seen}
use Rattle.lsv_machine.proofs.Untouched.{good_untouched, untouched}
use Rattle.lsv_machine.proofs.Weaken.{at_same}

-- ---- Moments

-- what holds of images holds of fewer
abbrev pub Down : ((Image → Type 0) → Type 0) → Type 1
Down H = (a b : Image → Type 0) → ((image : Image) → b image → a image) → H a → H b

pub moments_on : (H K L : (Image → Type 0) → Type 0) (one two three : DiskView) → Down L → ((images : Image → Type 0) → H images → L images) → ((images : Image → Type 0) → K images → L images)
    → Jointly H one two → Jointly K two three → Jointly L one three
moments_on H K L one two three down from_h from_k s t = record {
  later = let a = s.later in let b = t.later in omega arith;
  past = λ k image le is. s.past k image le (t.past k image (let a = s.later in omega arith) is);
  keeps = λ k image le is. t.keeps k image (let a = s.later in omega arith) (s.keeps k image le is);
  each = λ k from to. elim (le_or k two.moment) [
    | inl early ↦ down (two.crash_images_at k) (three.crash_images_at k) (λ image is. t.past k image early is) (from_h (two.crash_images_at k) (s.each k from early))
    | inr late ↦ from_k (three.crash_images_at k) (t.each k late to)
  ];
}

pub moments_as : (H L : (Image → Type 0) → Type 0) (one two : DiskView) → ((images : Image → Type 0) → H images → L images) → Jointly H one two → Jointly L one two
moments_as H L one two from s = record { later = s.later; past = s.past; keeps = s.keeps; each = λ k low high. from (two.crash_images_at k) (s.each k low high) }

pub each_down : (P : Image → Type 0) → Down (λ images. (image : Image) → images image → P image)
each_down P a b fewer all image is = all image (fewer image is)

pub within_down : (r : Reading) (p : Past) (n : ℕ) → Down (AllWithin r p n)
within_down r p n a b fewer all image is = all image (fewer image is)

pub before_down : (r : Reading) (n : ℕ) (old : Image → Type 0) → Down (AsBefore r n old)
before_down r n old a b fewer all image is = all image (fewer image is)

pub either_down : (H K : (Image → Type 0) → Type 0) → Down H → Down K → Down (λ images. H images ⊎ K images)
either_down H K h k a b fewer (inl x) = inl (h a b fewer x)
either_down H K h k a b fewer (inr x) = inr (k a b fewer x)

pub numbers_down : (r : Reading) (lane lanes : ℕ) → Down (NumbersFit r lane lanes)
numbers_down r lane lanes a b fewer fit = record {
  told = λ image is. fit.told image (fewer image is);
  none_above = λ x y last n is it. fit.none_above x y last n (fewer x is) (fewer y it);
}

-- ---- Logs that are read alike

pub same_log_on : (r : Reading) (n : ℕ) (a b c : Image) → SameLog r n a b → SameLog r n b c → SameLog r n a c
same_log_on r n a b c s t = record { to = λ found is. t.to found (s.to found is); back = λ found is. s.back found (t.back found is) }

pub same_log : (r : Reading) (n : ℕ) (a : Image) → SameLog r n a a
same_log r n a = record { to = λ found is. is; back = λ found is. is }

pub as_before_on : (r : Reading) (n : ℕ) (a b c : Image → Type 0) → AsBefore r n a b → AsBefore r n b c → AsBefore r n a c
as_before_on r n a b c s t image is = let y = t image is in let x = s y.0 y.1 in (x.0, x.1, same_log_on r n x.0 y.0 image x.2 y.2)

pub rests_on : (r : Reading) (n : ℕ) (a b c : DiskView) → Rests r n a b → Rests r n b c → Rests r n a c
rests_on r n a b c s t = record { images = as_before_on r n (IsCrashImage a) (IsCrashImage b) (IsCrashImage c) s.images t.images; reads = same_log_on r n a.reads b.reads c.reads s.reads t.reads }

pub same_lines_on : (r : Reading) (a b c : Image) → SameLines r a b → SameLines r b c → SameLines r a c
same_lines_on r a b c s t = record { to = λ text is. t.to text (s.to text is); back = λ text is. s.back text (t.back text is) }

pub lines_as_on : (r : Reading) (a b : Image → Type 0) (image : Image) → LinesAsBefore r a b → LinesAs r b image → LinesAs r a image
lines_as_on r a b image s t = let x = s t.0 t.1 in (x.0, x.1, same_lines_on r x.0 t.0 image x.2 t.2)

pub lines_rest_on : (r : Reading) (a b c : DiskView) → LinesRest r a b → LinesRest r b c → LinesRest r a c
lines_rest_on r a b c s t = record {
  moments = moments_on (LinesAsBefore r (IsCrashImage a)) (LinesAsBefore r (IsCrashImage b)) (LinesAsBefore r (IsCrashImage a)) a b c (each_down (LinesAs r (IsCrashImage a))) (λ images x. x)
      (λ images x image is. lines_as_on r (IsCrashImage a) (IsCrashImage b) image s.now (x image is)) s.moments t.moments;
  now = λ image is. lines_as_on r (IsCrashImage a) (IsCrashImage b) image s.now (t.now image is);
  reads = same_lines_on r a.reads b.reads c.reads s.reads t.reads;
}

pub numbers_on : (r : Reading) (lane lanes : ℕ) (a b c : DiskView) → KeepsNumbers r lane lanes a b → KeepsNumbers r lane lanes b c → KeepsNumbers r lane lanes a c
numbers_on r lane lanes a b c s t = record {
  moments = moments_on (NumbersFit r lane lanes) (NumbersFit r lane lanes) (NumbersFit r lane lanes) a b c (numbers_down r lane lanes) (λ images x. x) (λ images x. x) s.moments t.moments;
  now = t.now;
}

-- ---- Files

-- fewer logs were told
pub touches_as : (lane lanes : ℕ) (A B : ℕ → Type 0) (old new : DiskView) → ((n : ℕ) → A n → IsOfLane lane lanes n ⊎ B n) → TouchesStore lane lanes A old new → TouchesStore lane lanes B old new
touches_as lane lanes A B old new more touches = widened (IsOfLaneStore lane lanes A) (IsOfLaneStore lane lanes B) (λ image. Unit {0}) (λ image. Unit {0}) old new each (λ image is rest. is) touches
  where
    its : (n : ℕ) → IsOfLane lane lanes n ⊎ A n → IsOfLane lane lanes n ⊎ B n
    its n (inl is) = inl is
    its n (inr told) = more n told

    each : (file : FileId) → IsOfLaneStore lane lanes A file → IsOfLaneStore lane lanes B file
    each file (inl (n, is, own)) = inl (n, its n is, own)
    each file (inr other) = inr other

pub touches_on : (lane lanes : ℕ) (A : ℕ → Type 0) (a b c : DiskView) → TouchesStore lane lanes A a b → TouchesStore lane lanes A b c → TouchesStore lane lanes A a c
touches_on lane lanes A a b c s t = followed (IsOfLaneStore lane lanes A) (λ image. Unit {0}) a b c s t

pub touches_none : (lane lanes : ℕ) (A : ℕ → Type 0) (here : DiskView) → ((image : Image) → here.crash_images_at here.moment image → IsCrashImage here image) → TouchesStore lane lanes A here here
touches_none lane lanes A here is_now = started (IsOfLaneStore lane lanes A) (λ image. Unit {0}) here is_now (λ image is. tt)

-- ---- Counts

counted_before : (a b : DiskView) (o : Owner) → ((file : FileId) → a.faults file ≤ b.faults file) → IsCounted b o → IsCounted a o
counted_before a b o up counted part = let x = up (file_of o part) in let y = counted part in omega arith

pub counts_on : (xs ys : List Happened) (a b c : DiskView) → Counts xs a b → Counts ys b c → Counts (xs ++ ys) a c
counts_on xs ys a b c s t = record {
  monotone = λ file. let x = s.monotone file in let y = t.monotone file in omega arith;
  failed = λ o counted. let x = s.failed o (counted_before b c o t.monotone counted) in let y = t.failed o counted in let e = failures_append o xs ys in omega arith;
  marked = λ n counted. let x = s.marked n (counted_before b c (Log n) t.monotone counted) in let y = t.marked n counted in let e = marks_append n xs ys in omega arith;
}

pub no_counts : (a b : DiskView) → ((file : FileId) → a.faults file ≤ b.faults file) → Counts [] a b
no_counts a b up = record {
  monotone = up;
  failed = λ o counted. let x = among_up o all_parts in omega arith;
  marked = λ n counted. let x = up (file_of (Log n) Slots) in omega arith;
}
  where
    among_up : (o : Owner) (parts : List Part) → faults_among a o parts ≤ faults_among b o parts
    among_up o [] = omega arith
    among_up o (part ∷ parts) = let x = up (file_of o part) in let y = among_up o parts in omega arith

-- ---- Within

-- more jobs allow more
pub within_more : (r : Reading) (g : List Happened) (acts more : List Act) (n : ℕ) (image : Image) → Within r g acts image n → Within r g (acts ++ more) image n
within_more r g acts more n image w = record {
  done = w.done;
  some = let a = w.some in grind (arith, common_steps);
  good = let e : take w.done acts ≡ take w.done (acts ++ more) = take_front w.done acts more w.some in
      subst (λ (xs : List Act). Good r (g ++ all_acted xs) image n) e w.good;
}
  where
    take_front : (k : ℕ) (xs ys : List Act) → k ≤ length xs → take k xs ≡ take k (xs ++ ys)
    take_front k xs ys le = grind (arith, common_steps)

-- all jobs
pub within_all : (r : Reading) (g : List Happened) (acts : List Act) (n : ℕ) (image : Image) → Good r (g ++ all_acted acts) image n → Within r g acts image n
within_all r g acts n image good = record {
  done = length acts;
  some = omega arith;
  good = let e : acts ≡ take (length acts) acts = grind (arith, common_steps) in subst (λ (xs : List Act). Good r (g ++ all_acted xs) image n) e good;
}

-- the ledger after one more job
one_ledger : (g : List Happened) (acts : List Act) (act : Act) (n : ℕ) → noted n (ledger (g ++ all_acted acts) n) (Did act) ≡ ledger (g ++ all_acted (acts ++ act ∷ [])) n
one_ledger g acts act n =
    sym (ledger_append n blank (g ++ all_acted acts) (Did act ∷ []))
    ∙ ap (λ (h : List Happened). ledger h n) (append_assoc g (all_acted acts) (Did act ∷ []) ∙ ap (λ (xs : List Happened). g ++ xs) (sym (all_acted_last acts act)))

-- the ledger after the end of the turn
end_ledger : (g : List Happened) (acts : List Act) (tail : Tail) (n : ℕ) → noted n (ledger (g ++ all_acted acts) n) (Tailed tail) ≡ ledger (g ++ turn_of acts tail) n
end_ledger g acts tail n =
    sym (ledger_append n blank (g ++ all_acted acts) (Tailed tail ∷ [])) ∙ ap (λ (h : List Happened). ledger h n) (append_assoc g (all_acted acts) (Tailed tail ∷ []))

moved : (r : Reading) (n : ℕ) (a b : Ledger) (images : Image → Type 0) → a ≡ b → AllGood r a n images → AllGood r b n images
moved r n a b images e all = subst (λ l. AllGood r l n images) e all

or_within : (r : Reading) (g : List Happened) (acts : List Act) (act : Act) (n : ℕ) (images : Image → Type 0) → GoodOr r (ledger (g ++ all_acted acts) n) (noted n (ledger (g ++ all_acted acts) n) (Did act)) n images
    → AllWithin r (record { history = g; acts = acts ++ act ∷ [] }) n images
or_within r g acts act n images all image is = go (all image is)
  where
    go : GoodAt r (ledger (g ++ all_acted acts) n) n image ⊎ GoodAt r (noted n (ledger (g ++ all_acted acts) n) (Did act)) n image → Within r g (acts ++ act ∷ []) image n
    go (inl good) = within_more r g acts (act ∷ []) n image (within_all r g acts n image good)
    go (inr good) = within_all r g (acts ++ act ∷ []) n image (subst (λ l. GoodAt r l n image) (one_ledger g acts act n) good)

-- ---- No job yet

pub still : (H : (Image → Type 0) → Type 0) (here : DiskView) → H (here.crash_images_at here.moment) → Jointly H here here
still H here h = record {
  later = omega arith;
  past = λ k image le is. is;
  keeps = λ k image le is. is;
  each = λ k from to. let e : here.moment ≡ k = omega arith in subst (λ (x : ℕ). H (here.crash_images_at x)) e h;
}

pub rests_still : (r : Reading) (n : ℕ) (here : DiskView) → Rests r n here here
rests_still r n here = record { images = λ image is. (image, is, same_log r n image); reads = same_log r n here.reads }

pub lines_still : (r : Reading) (here : DiskView) → ((image : Image) → here.crash_images_at here.moment image → IsCrashImage here image) → LinesRest r here here
lines_still r here now = record {
  moments = still (LinesAsBefore r (IsCrashImage here)) here (λ image is. (image, now image is, record { to = λ text t. t; back = λ text t. t }));
  now = λ image is. (image, is, record { to = λ text t. t; back = λ text t. t });
  reads = record { to = λ text t. t; back = λ text t. t };
}

pub going_none : (r : Reading) (set : Settings) (now : TimeSpec) (m : Machine) (here : DiskView) → ((image : Image) → here.crash_images_at here.moment image → IsCrashImage here image)
    → NumbersFit r set.lane set.lanes (IsCrashImage here) → Going r set now [] [] m m here here
going_none r set now m here is_now fit = record {
  acts = [];
  jobs_are = refl;
  moment = All-nil (λ (act : Act). act.now ≡ now);
  replies_are = refl;
  run = refl;
  counts = no_counts here here (λ file. omega arith);
  settled_logs = λ g n stands all. (
    still (AllWithin r (record { history = g; acts = [] }) n) here (λ image is. first g n image (all image (is_now image is))),
    moved r n (ledger g n) (ledger (g ++ []) n) (IsCrashImage here) (ap (λ (h : List Happened). ledger h n) (sym (append_nil g))) all,
  );
  unsettled_logs = λ g n stands free good. (
    still (λ images. AsBefore r n (IsCrashImage here) images ⊎ AllWithin r (record { history = g; acts = [] }) n images) here (inl (λ image is. (image, is_now image is, same_log r n image))),
    inr (refl, rests_still r n here),
  );
  numbers = record { moments = still (NumbersFit r set.lane set.lanes) here (numbers_down r set.lane set.lanes (IsCrashImage here) (here.crash_images_at here.moment) is_now fit); now = fit };
  files = touches_none set.lane set.lanes (IsToldIn set m []) here is_now;
  lines = lines_still r here is_now;
}
  where
    first : (g : List Happened) (n : ℕ) (image : Image) → GoodAt r (ledger g n) n image → Within r g [] image n
    first g n image good = record { done = 0; some = omega arith; good = subst (λ (h : List Happened). Good r h image n) (sym (append_nil g)) good }

-- ---- One job more

-- what is asked in a first part of a run, and in a later one
pub asks_left : (set : Settings) (m : Machine) (g h : List Happened) (n : ℕ) → AsksInRun set m g n → AsksInRun set m (g ++ h) n
asks_left set m g h n t = record {
  before = t.before;
  act = t.act;
  after = t.after ++ h;
  is = ap (λ (x : List Happened). x ++ h) t.is ∙ append_assoc t.before (Did t.act ∷ t.after) h;
  mid = t.mid;
  run = t.run;
  asks = t.asks;
}

pub asks_right : (set : Settings) (m : Machine) (g : List Happened) (mid : Machine) (h : List Happened) (n : ℕ) → Run set m g mid → AsksInRun set mid h n → AsksInRun set m (g ++ h) n
asks_right set m g mid h n run t = record {
  before = g ++ t.before;
  act = t.act;
  after = t.after;
  is = ap (λ (x : List Happened). g ++ x) t.is ∙ sym (append_assoc g t.before (Did t.act ∷ t.after));
  mid = t.mid;
  run = run_append set g t.before m mid t.mid run t.run;
  asks = t.asks;
}

map_append : {A B : Type 0} (f : A → B) (xs ys : List A) → map f (xs ++ ys) ≡ map f xs ++ map f ys
map_append {A} {B} f [] ys = refl
map_append {A} {B} f (x ∷ xs) ys = ap (λ (zs : List B). f x ∷ zs) (map_append f xs ys)

answers_append : (acts more : List Act) → flat_map (λ (act : Act). act.answers) (acts ++ more) ≡ flat_map (λ (act : Act). act.answers) acts ++ flat_map (λ (act : Act). act.answers) more
answers_append [] more = refl
answers_append (a ∷ acts) more = ap (λ (xs : List Answer). a.answers ++ xs) (answers_append acts more) ∙ sym (append_assoc a.answers (flat_map (λ (act : Act). act.answers) acts) (flat_map (λ (act : Act). act.answers) more))

module _ (r : Reading) (set : Settings) (now : TimeSpec) (jobs : List Job) (job : Job) (replies its : List Reply) (m mid after : Machine) (one two three : DiskView)
    (s : Going r set now jobs replies m mid one two) (t : Acted r set now job its mid after two three) (sound : Sound set m) where
  more_files : TouchesStore set.lane set.lanes (IsToldIn set m (all_acted (s.acts ++ t.act ∷ []))) one three
  more_files =
      touches_on set.lane set.lanes (IsToldIn set m (all_acted (s.acts ++ t.act ∷ []))) one two three
      (touches_as set.lane set.lanes (IsToldIn set m (all_acted s.acts)) (IsToldIn set m (all_acted (s.acts ++ t.act ∷ []))) one two first s.files)
      (touches_as set.lane set.lanes (IsToldBy mid t.act) (IsToldIn set m (all_acted (s.acts ++ t.act ∷ []))) two three last t.files)
    where
      joined : all_acted s.acts ++ Did t.act ∷ [] ≡ all_acted (s.acts ++ t.act ∷ [])
      joined = sym (all_acted_last s.acts t.act)

      first : (n : ℕ) → IsToldIn set m (all_acted s.acts) n → IsOfLane set.lane set.lanes n ⊎ IsToldIn set m (all_acted (s.acts ++ t.act ∷ [])) n
      first n (inl is) = inr (inl is)
      first n (inr asks) = inr (inr (subst (λ (h : List Happened). AsksInRun set m h n) joined (asks_left set m (all_acted s.acts) (Did t.act ∷ []) n asks)))

      of_mid : (n : ℕ) → IsOfLane set.lane set.lanes n ⊎ IsToldIn set m (all_acted s.acts) n → IsOfLane set.lane set.lanes n ⊎ IsToldIn set m (all_acted (s.acts ++ t.act ∷ [])) n
      of_mid n (inl lane) = inl lane
      of_mid n (inr told) = first n told

      last : (n : ℕ) → IsToldBy mid t.act n → IsOfLane set.lane set.lanes n ⊎ IsToldIn set m (all_acted (s.acts ++ t.act ∷ [])) n
      last n (inl is) = of_mid n (acts_told set s.acts m mid sound s.run n is)
      last n (inr asks) = inr (inr (subst (λ (h : List Happened). AsksInRun set m h n) joined (asks_right set m (all_acted s.acts) mid (Did t.act ∷ []) n s.run (asks_here set mid t.act [] n asks))))

  stands_mid : (g : List Happened) (n : ℕ) → Stands set g n m → Stands set (g ++ all_acted s.acts) n mid
  stands_mid g n stands = stands_more set n g (all_acted s.acts) m mid stands s.run

  allows_more : (g : List Happened) (n : ℕ) (images : Image → Type 0) → AllWithin r (record { history = g; acts = s.acts }) n images → AllWithin r (record { history = g; acts = s.acts ++ t.act ∷ [] }) n images
  allows_more g n images all image is = within_more r g s.acts (t.act ∷ []) n image (all image is)

  more_settled : (g : List Happened) (n : ℕ) → Stands set g n m → AllGood r (ledger g n) n (IsCrashImage one)
      → Jointly (AllWithin r (record { history = g; acts = s.acts ++ t.act ∷ [] }) n) one three × AllGood r (ledger (g ++ all_acted (s.acts ++ t.act ∷ [])) n) n (IsCrashImage three)
  more_settled g n stands all =
      let a = s.settled_logs g n stands all in
      let b = t.settled_logs (ledger (g ++ all_acted s.acts) n) n (stands_mid g n stands) a.1 in (
        moments_on (AllWithin r (record { history = g; acts = s.acts }) n) (GoodOr r (ledger (g ++ all_acted s.acts) n) (noted n (ledger (g ++ all_acted s.acts) n) (Did t.act)) n)
            (AllWithin r (record { history = g; acts = s.acts ++ t.act ∷ [] }) n) one two three (within_down r (record { history = g; acts = s.acts ++ t.act ∷ [] }) n) (allows_more g n) (or_within r g s.acts t.act n) a.0 b.0,
        moved r n (noted n (ledger (g ++ all_acted s.acts) n) (Did t.act)) (ledger (g ++ all_acted (s.acts ++ t.act ∷ [])) n) (IsCrashImage three) (one_ledger g s.acts t.act n) b.1,
      )

  abbrev Here : (g : List Happened) (n : ℕ) → (Image → Type 0) → Type 0
  Here g n images = AsBefore r n (IsCrashImage one) images ⊎ AllWithin r (record { history = g; acts = s.acts }) n images

  abbrev Later : (g : List Happened) (n : ℕ) → (Image → Type 0) → Type 0
  Later g n images = AsBefore r n (IsCrashImage one) images ⊎ AllWithin r (record { history = g; acts = s.acts ++ t.act ∷ [] }) n images

  later_down : (g : List Happened) (n : ℕ) → Down (Later g n)
  later_down g n = either_down (AsBefore r n (IsCrashImage one)) (AllWithin r (record { history = g; acts = s.acts ++ t.act ∷ [] }) n) (before_down r n (IsCrashImage one)) (within_down r (record { history = g; acts = s.acts ++ t.act ∷ [] }) n)

  here_later : (g : List Happened) (n : ℕ) (images : Image → Type 0) → Here g n images → Later g n images
  here_later g n images (inl x) = inl x
  here_later g n images (inr x) = inr (allows_more g n images x)

  settle_is : (g : List Happened) (n : ℕ) → settles n (ledger (g ++ all_acted s.acts) n) (Did t.act) ≡ false → settled n (g ++ all_acted s.acts) (Did t.act ∷ []) ≡ false
  settle_is g n e = rw e refl

  abbrev After : (g : List Happened) (n : ℕ) → Type 0
  After g n = AllGood r (ledger (g ++ all_acted (s.acts ++ t.act ∷ [])) n) n (IsCrashImage three) ⊎ ((settled n g (all_acted (s.acts ++ t.act ∷ [])) ≡ false) × Rests r n one three)

  -- the ledger of the jobs so far
  abbrev so_far : (g : List Happened) (n : ℕ) → Ledger
  so_far g n = ledger (g ++ all_acted s.acts) n

  more_rest : (g : List Happened) (n : ℕ) → Stands set g n m → (ledger g n).writers ≡ [] → GoodAt r (ledger g n) n one.reads → Jointly (Here g n) one two → settled n g (all_acted s.acts) ≡ false → Rests r n one two
      → Jointly (Later g n) one three × After g n
  more_rest g n stands free good moments e rests = (moments_on (Here g n) (λ images. AsBefore r n (IsCrashImage two) images ⊎ GoodOr r (so_far g n) (noted n (so_far g n) (Did t.act)) n images) (Later g n) one two three (later_down g n) (here_later g n) after_rest moments b.0, at_end b.1)
    where
      writers_free : (so_far g n).writers ≡ []
      writers_free = (untouched g (all_acted s.acts) n free e).writers ∙ free

      reads : GoodAt r (so_far g n) n two.reads
      reads = at_same r (so_far g n) n one.reads two.reads rests.reads (good_untouched r g (all_acted s.acts) one.reads n free e good)

      b : Jointly (λ images. AsBefore r n (IsCrashImage two) images ⊎ GoodOr r (so_far g n) (noted n (so_far g n) (Did t.act)) n images) two three
          × (AllGood r (noted n (so_far g n) (Did t.act)) n (IsCrashImage three) ⊎ ((settles n (so_far g n) (Did t.act) ≡ false) × Rests r n two three))
      b = t.unsettled_logs (so_far g n) n (stands_mid g n stands) writers_free reads

      after_rest : (images : Image → Type 0) → AsBefore r n (IsCrashImage two) images ⊎ GoodOr r (so_far g n) (noted n (so_far g n) (Did t.act)) n images → Later g n images
      after_rest images (inl x) = inl (as_before_on r n (IsCrashImage one) (IsCrashImage two) images rests.images x)
      after_rest images (inr x) = inr (or_within r g s.acts t.act n images x)

      at_end : AllGood r (noted n (so_far g n) (Did t.act)) n (IsCrashImage three) ⊎ ((settles n (so_far g n) (Did t.act) ≡ false) × Rests r n two three) → After g n
      at_end (inl x) = inl (moved r n (noted n (so_far g n) (Did t.act)) (ledger (g ++ all_acted (s.acts ++ t.act ∷ [])) n) (IsCrashImage three) (one_ledger g s.acts t.act n) x)
      at_end (inr (q, more_rests)) = inr (
        subst (λ (h : List Happened). settled n g h ≡ false) (sym (all_acted_last s.acts t.act)) (settled_last n g (all_acted s.acts) (Did t.act ∷ []) e (settle_is g n q)),
        rests_on r n one two three rests more_rests,
      )

  more_unsettled : (g : List Happened) (n : ℕ) → Stands set g n m → (ledger g n).writers ≡ [] → GoodAt r (ledger g n) n one.reads → Jointly (Later g n) one three × After g n
  more_unsettled g n stands free good = let a = s.unsettled_logs g n stands free good in go a.0 a.1
    where
      go : Jointly (Here g n) one two → AllGood r (ledger (g ++ all_acted s.acts) n) n (IsCrashImage two) ⊎ ((settled n g (all_acted s.acts) ≡ false) × Rests r n one two) → Jointly (Later g n) one three × After g n
      go moments (inl all) =
          let b = t.settled_logs (ledger (g ++ all_acted s.acts) n) n (stands_mid g n stands) all in (
            moments_on (Here g n) (GoodOr r (ledger (g ++ all_acted s.acts) n) (noted n (ledger (g ++ all_acted s.acts) n) (Did t.act)) n) (Later g n) one two three (later_down g n) (here_later g n)
                (λ images x. inr (or_within r g s.acts t.act n images x)) moments b.0,
            inl (moved r n (noted n (ledger (g ++ all_acted s.acts) n) (Did t.act)) (ledger (g ++ all_acted (s.acts ++ t.act ∷ [])) n) (IsCrashImage three) (one_ledger g s.acts t.act n) b.1),
          )
      go moments (inr (e, rests)) = more_rest g n stands free good moments e rests

  pub going_more : Going r set now (jobs ++ job ∷ []) (replies ++ its) m after one three
  going_more = record {
    acts = s.acts ++ t.act ∷ [];
    jobs_are = map_append (λ (a : Act). a.job) s.acts (t.act ∷ []) ∙ (ap (λ (xs : List Job). xs ++ t.act.job ∷ []) s.jobs_are ∙ ap (λ (j : Job). jobs ++ j ∷ []) t.job_is);
    moment = All-append (λ (act : Act). act.now ≡ now) s.acts (t.act ∷ []) s.moment (All-cons (λ (act : Act). act.now ≡ now) t.act [] t.now_is (All-nil (λ (act : Act). act.now ≡ now)));
    replies_are = ap (map reply_of) (answers_append s.acts (t.act ∷ [])) ∙ (map_append reply_of (flat_map (λ (act : Act). act.answers) s.acts) (t.act.answers ++ [])
        ∙ (ap (λ (xs : List Reply). xs ++ map reply_of (t.act.answers ++ [])) s.replies_are ∙ ap (λ (xs : List Reply). replies ++ xs) (ap (map reply_of) (append_nil t.act.answers) ∙ t.replies_are)));
    run = subst (λ (h : List Happened). Run set m h after) (sym (all_acted_last s.acts t.act)) (run_append set (all_acted s.acts) (Did t.act ∷ []) m mid after s.run (after, t.step, refl));
    counts = subst (λ (h : List Happened). Counts h one three) (sym (all_acted_last s.acts t.act)) (counts_on (all_acted s.acts) (Did t.act ∷ []) one two three s.counts t.counts);
    settled_logs = more_settled;
    unsettled_logs = more_unsettled;
    numbers = numbers_on r set.lane set.lanes one two three s.numbers t.numbers;
    files = more_files;
    lines = lines_rest_on r one two three s.lines t.lines;
  }

-- ---- The end of the turn

ends_settled : (r : Reading) (set : Settings) (g : List Happened) (acts : List Act) (tail : Tail) (n : ℕ) (m mid after : Machine) (one two three : DiskView)
    → Run set m (all_acted acts) mid → KeepsSettled r set acts (all_acted acts) m one two → Ended r set tail (λ x y. EndOfTurn set x tail y) mid after two three
    → Stands set g n m → AllGood r (ledger g n) n (IsCrashImage one)
    → Jointly (AllWithin r (record { history = g; acts = acts }) n) one three × AllGood r (ledger (g ++ turn_of acts tail) n) n (IsCrashImage three)
ends_settled r set g acts tail n m mid after one two three run keeps t stands all =
    let a = keeps g n stands all in
    let b = t.settled_logs (ledger (g ++ all_acted acts) n) n (stands_more set n g (all_acted acts) m mid stands run) a.1 in (
      moments_on (AllWithin r (record { history = g; acts = acts }) n) (AllGood r (ledger (g ++ all_acted acts) n) n) (AllWithin r (record { history = g; acts = acts }) n) one two three
          (within_down r (record { history = g; acts = acts }) n) (λ images x. x) (λ images x image is. within_all r g acts n image (x image is)) a.0 b.0,
      moved r n (noted n (ledger (g ++ all_acted acts) n) (Tailed tail)) (ledger (g ++ turn_of acts tail) n) (IsCrashImage three) (end_ledger g acts tail n) b.1,
    )

module _ (r : Reading) (set : Settings) (g : List Happened) (acts : List Act) (tail : Tail) (n : ℕ) (m mid after : Machine) (one two three : DiskView)
    (run : Run set m (all_acted acts) mid) (t : Ended r set tail (λ x y. EndOfTurn set x tail y) mid after two three) (stands : Stands set g n m) (free : (ledger g n).writers ≡ []) where
  abbrev Turning : (Image → Type 0) → Type 0
  Turning images = AsBefore r n (IsCrashImage one) images ⊎ AllWithin r (record { history = g; acts = acts }) n images

  turning_down : Down Turning
  turning_down = either_down (AsBefore r n (IsCrashImage one)) (AllWithin r (record { history = g; acts = acts }) n) (before_down r n (IsCrashImage one)) (within_down r (record { history = g; acts = acts }) n)

  abbrev Turned-so : Type 0
  Turned-so = AllGood r (ledger (g ++ turn_of acts tail) n) n (IsCrashImage three) ⊎ ((settled n g (turn_of acts tail) ≡ false) × Rests r n one three)

  stands_then : Stands set (g ++ all_acted acts) n mid
  stands_then = stands_more set n g (all_acted acts) m mid stands run

  ends_unsettled : Jointly Turning one two → AllGood r (ledger (g ++ all_acted acts) n) n (IsCrashImage two) ⊎ ((settled n g (all_acted acts) ≡ false) × Rests r n one two) → Jointly Turning one three × Turned-so
  ends_unsettled moments (inl all) =
      let b = t.settled_logs (ledger (g ++ all_acted acts) n) n stands_then all in (
        moments_on Turning (AllGood r (ledger (g ++ all_acted acts) n) n) Turning one two three turning_down (λ images x. x) (λ images x. inr (λ image is. within_all r g acts n image (x image is))) moments b.0,
        inl (moved r n (noted n (ledger (g ++ all_acted acts) n) (Tailed tail)) (ledger (g ++ turn_of acts tail) n) (IsCrashImage three) (end_ledger g acts tail n) b.1),
      )
  ends_unsettled moments (inr (e, rests)) =
      let b = t.unsettled_logs (ledger (g ++ all_acted acts) n) n stands_then ((untouched g (all_acted acts) n free e).writers ∙ free) in (
        moments_on Turning (AsBefore r n (IsCrashImage two)) Turning one two three turning_down (λ images x. x) (λ images x. inl (as_before_on r n (IsCrashImage one) (IsCrashImage two) images rests.images x)) moments b.0,
        inr (settled_last n g (all_acted acts) (Tailed tail ∷ []) e refl, rests_on r n one two three rests b.1),
      )

-- ---- Event lines

-- what the jobs of a turn make of the event lines
pub acts_lines : (set : Settings) (acts : List Act) (m mid : Machine) → Run set m (all_acted acts) mid → (mid.lines ≡ m.lines) × (mid.fresh ≡ m.fresh ++ lines_of acts)
acts_lines set [] m mid run = (ap (λ (x : Machine). x.lines) run, ap (λ (x : Machine). x.fresh) run ∙ sym (append_nil m.fresh))
acts_lines set (act ∷ acts) m mid (next, step, rest) =
    let seen = (step_seen set m act next step).leaves_alone in
    let (a, b) = acts_lines set acts next mid rest in
    (a ∙ seen.lines, b ∙ (ap (λ (x : List ℕ). x ++ lines_of acts) seen.fresh ∙ append_assoc m.fresh act.line (lines_of acts)))

pub lines_append : (lane : ℕ) (g h : List Happened) (a b t f t' f' : List ℕ) → LinesFrom lane a b g t f → LinesFrom lane t f h t' f' → LinesFrom lane a b (g ++ h) t' f'
lines_append lane [] h a b t f t' f' (p, q) k = subst (λ x. LinesFrom lane x b h t' f') p (subst (λ x. LinesFrom lane t x h t' f') q k)
lines_append lane (Did act ∷ g) h a b t f t' f' j k = lines_append lane g h a (b ++ act.line) t f t' f' j k
lines_append lane (Tailed tail ∷ g) h a b t f t' f' (inl j) k = inl (lines_append lane g h (a ++ b) [] t f t' f' j k)
lines_append lane (Tailed tail ∷ g) h a b t f t' f' (inr j) k = inr (j.0, lines_append lane g h a [] t f t' f' j.1 k)
lines_append lane (Begins texts ∷ g) h a b t f t' f' (inl j) k = inl (lines_append lane g h (a ++ b) [] t f t' f' j k)
lines_append lane (Begins texts ∷ g) h a b t f t' f' (inr j) k = inr (lines_append lane g h a [] t f t' f' j k)

turn_kept : (lane : ℕ) (acts : List Act) (tail : Tail) (t f : List ℕ) → LinesFrom lane t f (turn_of acts tail) (t ++ (f ++ lines_of acts)) []
turn_kept lane [] tail t f = inl (ap (λ (x : List ℕ). t ++ x) (append_nil f), refl)
turn_kept lane (act ∷ acts) tail t f = subst (λ (x : List ℕ). LinesFrom lane t (f ++ act.line) (turn_of acts tail) (t ++ x) []) (append_assoc f act.line (lines_of acts)) (turn_kept lane acts tail t (f ++ act.line))

turn_lost : (lane : ℕ) (acts : List Act) (tail : Tail) (t f : List ℕ) → Contains tail.failed (Events lane) → LinesFrom lane t f (turn_of acts tail) t []
turn_lost lane [] tail t f did = inr (did, (refl, refl))
turn_lost lane (act ∷ acts) tail t f did = turn_lost lane acts tail t (f ++ act.line) did

kept_after : (lane : ℕ) (g : List Happened) (acts : List Act) (tail : Tail) (t : List ℕ) → MayHold lane g t [] → MayHold lane (g ++ turn_of acts tail) (t ++ lines_of acts) []
kept_after lane g acts tail t may = lines_append lane g (turn_of acts tail) [] [] t [] (t ++ lines_of acts) [] may (turn_kept lane acts tail t [])

lost_after : (lane : ℕ) (g : List Happened) (acts : List Act) (tail : Tail) (t : List ℕ) → Contains tail.failed (Events lane) → MayHold lane g t [] → MayHold lane (g ++ turn_of acts tail) t []
lost_after lane g acts tail t did may = lines_append lane g (turn_of acts tail) [] [] t [] t [] may (turn_lost lane acts tail t [] did)

-- the jobs leave the event log alone, and then their lines are flushed with those that the turn had before
flushed_after : (r : Reading) (set : Settings) (acts : List Act) (tail : Tail) (m mid after : Machine) (one two three : DiskView)
    → Run set m (all_acted acts) mid → LinesRest r one two → LinesFlushed r set tail mid after two three → LinesFlushed r set tail (with_lines_of acts m) after one three
flushed_after r set acts tail m mid after one two three run rest t = record {
  moments = moments_on (LinesAsBefore r (IsCrashImage one)) (LinesAsBeforeOr r (IsCrashImage two) (mid.lines ++ mid.fresh)) (LinesAsBeforeOr r (IsCrashImage one) text) one two three
      (each_down (λ image. LinesAs r (IsCrashImage one) image ⊎ r.lines image text)) (λ images x image is. inl (x image is)) (λ images x image is. on image (x image is)) rest.moments t.moments;
  now = at_end t.now;
  reads = λ is. t.reads (subst (r.lines two.reads) (sym alike.0) (rest.reads.to m.lines is));
}
  where
    text : List ℕ
    text = m.lines ++ (m.fresh ++ lines_of acts)

    alike : (mid.lines ≡ m.lines) × (mid.fresh ≡ m.fresh ++ lines_of acts)
    alike = acts_lines set acts m mid run

    same_text : mid.lines ++ mid.fresh ≡ text
    same_text = ap (λ (x : List ℕ). x ++ mid.fresh) alike.0 ∙ ap (λ (x : List ℕ). m.lines ++ x) alike.1

    on : (image : Image) → LinesAs r (IsCrashImage two) image ⊎ r.lines image (mid.lines ++ mid.fresh) → LinesAs r (IsCrashImage one) image ⊎ r.lines image text
    on image (inl a) = inl (lines_as_on r (IsCrashImage one) (IsCrashImage two) image rest.now a)
    on image (inr b) = inr (subst (r.lines image) same_text b)

    at_end : (Contains tail.failed (Events set.lane) × LinesAsBeforeOr r (IsCrashImage two) (mid.lines ++ mid.fresh) (IsCrashImage three)) ⊎ ((mid.fresh ≡ []) × LinesRest r two three)
        ⊎ ((image : Image) → IsCrashImage three image → r.lines image (mid.lines ++ mid.fresh))
        → (Contains tail.failed (Events set.lane) × LinesAsBeforeOr r (IsCrashImage one) text (IsCrashImage three)) ⊎ ((m.fresh ++ lines_of acts ≡ []) × LinesRest r one three)
        ⊎ ((image : Image) → IsCrashImage three image → r.lines image text)
    at_end (inl x) = inl (x.0, λ image is. on image (x.1 image is))
    at_end (inr (inl x)) = inr (inl (sym alike.1 ∙ x.0, lines_rest_on r one two three rest x.1))
    at_end (inr (inr x)) = inr (inr (λ image is. subst (r.lines image) same_text (x image is)))

-- where each image held a text that the history allows, it does again
module _ (r : Reading) (set : Settings) (acts : List Act) (tail : Tail) (m after : Machine) (one three : DiskView) (itself : IsCrashImage one one.reads)
    (t : LinesFlushed r set tail (with_lines_of acts m) after one three) where
  module _ (g : List Happened) (none : m.fresh ≡ []) (reads : r.lines one.reads m.lines) (good : LinesGood r set.lane g (IsCrashImage one)) where
    its_lines : m.lines ++ (m.fresh ++ lines_of acts) ≡ m.lines ++ lines_of acts
    its_lines = ap (λ (x : List ℕ). m.lines ++ (x ++ lines_of acts)) none

    may_be : MayHold set.lane g m.lines []
    may_be = let (found, may, is) = good one.reads itself in subst (λ (x : List ℕ). MayHold set.lane g x []) (r.one_text one.reads found m.lines is reads) may

    as_one : (image : Image) → LinesAs r (IsCrashImage one) image → (found : List ℕ) × MayHold set.lane g found [] × r.lines image found
    as_one image a = let (found, may, is) = good a.0 a.1 in (found, may, a.2.to found is)

    abbrev Allowed : Image → Type 0
    Allowed image = (found : List ℕ) × MayHold set.lane g found [] × (r.lines image found ⊎ r.lines image (found ++ lines_of acts))

    allowed : (images : Image → Type 0) → LinesAsBeforeOr r (IsCrashImage one) (m.lines ++ (m.fresh ++ lines_of acts)) images → (image : Image) → images image → Allowed image
    allowed images x image is = go (x image is)
      where
        go : LinesAs r (IsCrashImage one) image ⊎ r.lines image (m.lines ++ (m.fresh ++ lines_of acts)) → Allowed image
        go (inl a) = let (found, may, has) = as_one image a in (found, may, inl has)
        go (inr b) = (m.lines, may_be, inr (subst (r.lines image) its_lines b))

    with_turn : (image : Image) → r.lines image (m.lines ++ (m.fresh ++ lines_of acts)) → (found : List ℕ) × MayHold set.lane (g ++ turn_of acts tail) found [] × r.lines image found
    with_turn image has = (m.lines ++ lines_of acts, kept_after set.lane g acts tail m.lines may_be, subst (r.lines image) its_lines has)

    at_end : (Contains tail.failed (Events set.lane) × LinesAsBeforeOr r (IsCrashImage one) (m.lines ++ (m.fresh ++ lines_of acts)) (IsCrashImage three)) ⊎ ((m.fresh ++ lines_of acts ≡ []) × LinesRest r one three)
        ⊎ ((image : Image) → IsCrashImage three image → r.lines image (m.lines ++ (m.fresh ++ lines_of acts))) → LinesGood r set.lane (g ++ turn_of acts tail) (IsCrashImage three)
    at_end (inl (did, x)) image is = go (x image is)
      where
        go : LinesAs r (IsCrashImage one) image ⊎ r.lines image (m.lines ++ (m.fresh ++ lines_of acts)) → (found : List ℕ) × MayHold set.lane (g ++ turn_of acts tail) found [] × r.lines image found
        go (inl a) = let (found, may, has) = as_one image a in (found, lost_after set.lane g acts tail found did may, has)
        go (inr b) = with_turn image b
    at_end (inr (inl (empty, more))) image is =
        let (found, may, has) = as_one image (more.now image is) in
        let no_line : lines_of acts ≡ [] = sym (ap (λ (x : List ℕ). x ++ lines_of acts) none) ∙ empty in
        (found, subst (λ (x : List ℕ). MayHold set.lane (g ++ turn_of acts tail) x []) (ap (λ (x : List ℕ). found ++ x) no_line ∙ append_nil found) (kept_after set.lane g acts tail found may), has)
    at_end (inr (inr x)) image is = with_turn image (x image is)

    ends_lines : Jointly (LinesWithin r set.lane g (lines_of acts)) one three × LinesGood r set.lane (g ++ turn_of acts tail) (IsCrashImage three)
    ends_lines = (moments_as (LinesAsBeforeOr r (IsCrashImage one) (m.lines ++ (m.fresh ++ lines_of acts))) (LinesWithin r set.lane g (lines_of acts)) one three allowed t.moments, at_end t.now)

  pub keeps_lines : KeepsLines r set acts (turn_of acts tail) m one three
  keeps_lines g none reads good = ends_lines g none reads good

pub going_ends : (r : Reading) (set : Settings) (now : TimeSpec) (jobs : List Job) (replies : List Reply) (tail : Tail) (m mid after : Machine) (one two three : DiskView) → Sound set m
    → Going r set now jobs replies m mid one two → TailEnded r set tail mid after two three → Turned r set now jobs (replies ++ map reply_of tail.answers) m after one three
going_ends r set now jobs replies tail m mid after one two three sound s t = record {
  acts = s.acts;
  tail = tail;
  jobs_are = s.jobs_are;
  moment = s.moment;
  replies_are = map_append reply_of (flat_map (λ (act : Act). act.answers) s.acts) tail.answers ∙ ap (λ (xs : List Reply). xs ++ map reply_of tail.answers) s.replies_are;
  run = run_append set (all_acted s.acts) (Tailed tail ∷ []) m mid after s.run (after, t.ended.ends, refl);
  counts = counts_on (all_acted s.acts) (Tailed tail ∷ []) one two three s.counts t.ended.counts;
  settled_logs = λ g n stands all. ends_settled r set g s.acts tail n m mid after one two three s.run s.settled_logs t.ended stands all;
  unsettled_logs = λ g n stands free good. let a = s.unsettled_logs g n stands free good in ends_unsettled r set g s.acts tail n m mid after one two three s.run t.ended stands free a.0 a.1;
  numbers = numbers_on r set.lane set.lanes one two three s.numbers t.ended.numbers;
  files = touches_on set.lane set.lanes (IsToldIn set m (all_acted s.acts)) one two three s.files
      (touches_as set.lane set.lanes (IsWritten mid) (IsToldIn set m (all_acted s.acts)) two three (λ n is. acts_told set s.acts m mid sound s.run n is) t.ended.files);
  lines = flushed_after r set s.acts tail m mid after one two three s.run s.lines t.lines;
}
