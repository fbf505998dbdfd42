-- Runs one after another over one store, each over what a stop of the one before it left.
use Rattle.std.specs.Prelude.{◌≡◌, ◌≤◌, ◌<◌, ◌⊎◌, ◌++◌, ℕ, false, List, [], ◌∷◌, length, take}
use Rattle.lsv_disk.specs.View.{DiskView, Image, IsCrashImage}
use Rattle.lsv_machine.specs.Disks.{NumbersFit, Past}
use Rattle.lsv_machine.specs.Durable.{Good, Reading}
use Rattle.lsv_machine.specs.Failures.{Act}
use Rattle.lsv_machine.specs.History.{settled}
use Rattle.lsv_machine.specs.Recovery.{GoesOn, Recovers, Story, Turn, all_turns, ended_at, past_of}
use Rattle.lsv_machine.specs.Turns.{Happened, Happened.Begins, all_acted}

-- a run: the disk as it found it, a later state of it, its texts, what it did, and the number of the moment at which it was stopped
pub record Life (D : Type 0) : Type 0 where
  pub found : D
  pub left : D
  pub texts : List (List ℕ)
  pub story : Story
  pub stopped : ℕ

-- ---- Runs over what was left

-- what the last stop may have left
abbrev pub left_by : {D : Type 0} → (D → DiskView) → D → List (Life D) → Image → Type 0
left_by view first [] = IsCrashImage (view first)
left_by view first (l ∷ lives) = (view l.left).crash_images_at l.stopped

-- one run over what was left: all images that it may have found are among those, it recovers, and it was stopped at one of its moments
pub record Lives {D : Type 0} (r : Reading) (lane lanes : ℕ) (view : D → DiskView) (left : Image → Type 0) (l : Life D) : Type 0 where
  pub finds : (image : Image) → IsCrashImage (view l.found) image → left image
  pub recovers : NumbersFit r lane lanes (IsCrashImage (view l.found))
      → Recovers r lane lanes l.texts (record { found = view l.found; left = view l.left }) l.story
  pub from : (view l.found).moment ≤ l.stopped
  pub to : l.stopped ≤ (view l.left).moment

-- no number was drawn in these images, and there is no file of a log
pub record IsEmpty (r : Reading) (images : Image → Type 0) : Type 0 where
  pub drawn : (image : Image) → images image → r.drawn image 0
  pub bare : (image : Image) → images image → (n : ℕ) → r.bare image n

-- runs and stops over a store that was empty, the last run first
abbrev pub Chained : {D : Type 0} → Reading → (lane lanes : ℕ) → (D → DiskView) → D → List (Life D) → Type 0
Chained r lane lanes view first [] = IsEmpty r (IsCrashImage (view first))
Chained r lane lanes view first (l ∷ lives) = Lives r lane lanes view (left_by view first lives) l × Chained r lane lanes view first lives

-- ---- Where a stop came

-- the turn in which a moment lies, with those before it; a moment between two turns, or between the opening and the first, is the later one's
pub record InTurn (s : Story) (k : ℕ) : Type 0 where
  pub before : List Turn
  pub turn : Turn
  pub after : List Turn
  pub is : s.turns ≡ before ++ turn ∷ after
  pub from : ended_at s.opened before ≤ k
  pub to : k < turn.ended

-- a moment of a run: its store is being opened, a turn is under way, or all its turns have ended
pub data Stop (s : Story) (k : ℕ) : Type 0 where
  Opening : k < s.opened → Stop s k
  Inside : InTurn s k → Stop s k
  Behind : ended_at s.opened s.turns ≤ k → Stop s k

-- the turns that have ended by then
abbrev pub ended : {s : Story} {k : ℕ} → Stop s k → List Turn
ended (Opening early) = []
ended (Inside at) = at.before
ended {s} (Behind late) = s.turns

-- the jobs of the turn under way
abbrev pub under_way : {s : Story} {k : ℕ} → Stop s k → List Act
under_way (Opening early) = []
under_way (Inside at) = at.turn.acts
under_way (Behind late) = []

-- ---- What they are to one log

-- past the opening: what happened goes on in this run with all turns that had ended, and the jobs of the one that was cut
abbrev pub Went : {s : Story} {k : ℕ} → Stop s k → List Happened → Past → Type 0
Went (Opening early) g p = ⊥
Went (Inside at) g p = p ≡ past_of g at.before at.turn
Went {s} (Behind late) g p = p ≡ record { history = g ++ all_turns s.turns; acts = [] }

-- what these runs, the last first, are to log n: each starts from a disk that reads as good for a history that goes on from what happened before; it went on from there, or it
-- didn't come to settle the log, and leaves what happened before as it was
abbrev pub Lived : {D : Type 0} → Reading → (D → DiskView) → ℕ → List (Life D) → Past → Type 0
Lived r view n [] p = p ≡ record { history = []; acts = [] }
Lived r view n (l ∷ lives) p = (before : Past) × (g : List Happened) × Lived r view n lives before × GoesOn l.texts before g × Good r g (view l.found).reads n
    × (at : Stop l.story l.stopped) × (Went at g p ⊎ ((settled n g (all_turns (ended at)) ≡ false) × (p ≡ before)))

-- ---- What they are in all

-- a run adds its start, all its turns that had ended when it was stopped, and some first jobs of the one that the stop cut
pub record Adds {D : Type 0} (l : Life D) (before h : List Happened) : Type 0 where
  pub at : Stop l.story l.stopped
  pub done : ℕ
  pub some : done ≤ length (under_way at)
  pub is : h ≡ ((before ++ Begins l.texts ∷ []) ++ all_turns (ended at)) ++ all_acted (take done (under_way at))

-- a history of these runs, the last first
abbrev pub AllRuns : {D : Type 0} → List (Life D) → List Happened → Type 0
AllRuns [] h = h ≡ []
AllRuns (l ∷ lives) h = (before : List Happened) × AllRuns lives before × Adds l before h
