-- Crash recovery of one run: what it leaves of each log at each of its moments, whatever happened before it.
use Rattle.std.specs.Prelude.{◌≡◌, ◌≤◌, ◌⊎◌, ◌++◌, ℕ, false, List, [], ◌∷◌, length, take, All, Contains}
use Rattle.lsv_base.specs.declared.time.TimeSpec.{TimeSpec}
use Rattle.lsv_disk.specs.View.{DiskView, Image, IsCrashImage}
use Rattle.lsv_disk.specs.declared.file.Owner.TheVariants.{Events}
use Rattle.lsv_machine.specs.Counts.{Counts}
use Rattle.lsv_machine.specs.Disks.{AllGood, AllWithin, AnyAsksToResume, AsksInRun, LinesAs, LinesAsBefore, NumbersFit, Past, TouchesStore}
use Rattle.lsv_machine.specs.Durable.{Good, Reading}
use Rattle.lsv_machine.specs.Failures.{Act}
use Rattle.lsv_machine.specs.History.{ledger, settled}
use Rattle.lsv_machine.specs.Lines.{lines_of}
use Rattle.lsv_machine.specs.Machine.{Machine, Settings}
use Rattle.lsv_machine.specs.Starts.{ReadsAs, StartsAs}
use Rattle.lsv_machine.specs.Turns.{Happened, Happened.Begins, Run, Tail, all_acted, turn_of}

-- the disk as a run found it, and as it is now
pub record Outside : Type 1 where
  pub found : DiskView
  pub left : DiskView

-- a turn: the moment of its jobs on the clock, its jobs, its end, and the number of the disk's moment at which it ended. Then the event log has this text, as the machine has it
pub record Turn : Type 0 where
  pub now : TimeSpec
  pub acts : List Act
  pub tail : Tail
  pub ended : ℕ
  pub text : List ℕ

-- a run: the moment at which its store was open or couldn't be opened, and its turns
pub record Story : Type 0 where
  pub opened : ℕ
  pub turns : List Turn

-- what happened in these turns
abbrev pub all_turns : List Turn → List Happened
all_turns [] = []
all_turns (t ∷ turns) = turn_of t.acts t.tail ++ all_turns turns

-- the moment at which the last of these turns ended; for none, this one
abbrev pub ended_at : ℕ → List Turn → ℕ
ended_at k [] = k
ended_at k (t ∷ turns) = ended_at t.ended turns

-- the text of the event log after the last of these turns; for none, this one
abbrev pub text_after : List ℕ → List Turn → List ℕ
text_after text [] = text
text_after text (t ∷ turns) = text_after t.text turns

-- the logs that jobs of these turns ask to go on with
abbrev pub AnyTurnAsks : List Turn → ℕ → Type 0
AnyTurnAsks [] n = ⊥
AnyTurnAsks (t ∷ turns) n = AnyAsksToResume t.acts n ⊎ AnyTurnAsks turns n

-- a history that goes on from what happened before: some first jobs of the turn that a crash cut, and the start of a run with these texts
pub record GoesOn (texts : List (List ℕ)) (p : Past) (g : List Happened) : Type 0 where
  pub done : ℕ
  pub some : done ≤ length p.acts
  pub is : g ≡ (p.history ++ all_acted (take done p.acts)) ++ Begins texts ∷ []

-- the jobs of each of these turns came at its moment
abbrev pub AtTheirMoments : List Turn → Type 0
AtTheirMoments [] = Unit {0}
AtTheirMoments (t ∷ turns) = All (λ act. act.now ≡ t.now) t.acts × AtTheirMoments turns

-- the disk's moments of a run: those of the opening, and then a stretch for each turn, in order
pub record Spans (o : Outside) (s : Story) : Type 0 where
  pub first : o.found.moment ≤ s.opened
  pub rising : (before after : List Turn) (t : Turn) → s.turns ≡ before ++ t ∷ after → ended_at s.opened before ≤ t.ended
  pub within : (before after : List Turn) → s.turns ≡ before ++ after → ended_at s.opened before ≤ o.left.moment
  pub whole : ended_at s.opened s.turns ≡ o.left.moment

-- the history g with these turns, and the jobs of the turn that follows them
abbrev pub past_of : List Happened → List Turn → Turn → Past
past_of g before t = record { history = g ++ all_turns before; acts = t.acts }

-- one log in one run, where p is what happened before it, and g the history that goes on from it
pub record Kept (r : Reading) (o : Outside) (s : Story) (n : ℕ) (p : Past) (g : List Happened) : Type 0 where
  -- while the store is opened each image is within what happened before
  pub opening : (k : ℕ) → o.found.moment ≤ k → k ≤ s.opened → AllWithin r p n (o.left.crash_images_at k)
  -- at each moment of a turn all images are within the history with the turns before it and its jobs; or, where these turns haven't settled the log, all are within what happened before
  pub during : (before after : List Turn) (t : Turn) → s.turns ≡ before ++ t ∷ after
      → (k : ℕ) → ended_at s.opened before ≤ k → k ≤ t.ended
      → AllWithin r (past_of g before t) n (o.left.crash_images_at k)
      ⊎ ((settled n g (all_turns before) ≡ false) × AllWithin r p n (o.left.crash_images_at k))
  -- each image that is possible now is good for the history with all turns; or these haven't settled the log, all images are within what happened before, and the disk reads as good
  pub now : AllGood r (ledger (g ++ all_turns s.turns) n) n (IsCrashImage o.left)
      ⊎ ((settled n g (all_turns s.turns) ≡ false) × AllWithin r p n (IsCrashImage o.left) × Good r (g ++ all_turns s.turns) o.left.reads n)

-- ---- The event log

-- a turn may have put no line into the event log: it had none, or the event log failed in it
abbrev pub MayPutNone : (lane : ℕ) → Turn → Type 0
MayPutNone lane t = (lines_of t.acts ≡ []) ⊎ Contains t.tail.failed (Events lane)

-- so may each of these
abbrev pub AllMayPutNone : (lane : ℕ) → List Turn → Type 0
AllMayPutNone lane [] = Unit {0}
AllMayPutNone lane (t ∷ turns) = MayPutNone lane t × AllMayPutNone lane turns

-- an image holds the machine's text with all lines of one of these turns, and the later ones may have put none
pub record HoldsTurn (r : Reading) (lane : ℕ) (start : List ℕ) (turns : List Turn) (image : Image) : Type 0 where
  pub before : List Turn
  pub turn : Turn
  pub after : List Turn
  pub is : turns ≡ before ++ turn ∷ after
  pub none_since : AllMayPutNone lane after
  pub holds : r.lines image (text_after start before ++ lines_of turn.acts)

-- what an image may hold of the event log when these turns have ended: the text with the lines of one of them. If all of them may have put no line, also what one held when the run began
abbrev pub LinesAfter : Reading → (lane : ℕ) → (found : DiskView) → (start : List ℕ) → List Turn → Image → Type 0
LinesAfter r lane found start turns image = (AllMayPutNone lane turns × LinesAs r (IsCrashImage found) image) ⊎ HoldsTurn r lane start turns image

-- the event lines of a run that found this text
pub record LinesOfTurns (r : Reading) (lane : ℕ) (o : Outside) (s : Story) (start : List ℕ) : Type 0 where
  -- each turn puts its lines at the end, in order; if the event log failed in it, it may have lost all of them
  pub texts : (before after : List Turn) (t : Turn) → s.turns ≡ before ++ t ∷ after
      → (t.text ≡ text_after start before ++ lines_of t.acts) ⊎ (Contains t.tail.failed (Events lane) × (t.text ≡ text_after start before))
  -- at each moment of a turn an image holds what one may hold after the turns before, or the text with all its lines
  pub during : (before after : List Turn) (t : Turn) → s.turns ≡ before ++ t ∷ after
      → (k : ℕ) → ended_at s.opened before ≤ k → k ≤ t.ended → (image : Image) → o.left.crash_images_at k image
      → LinesAfter r lane o.found start before image ⊎ r.lines image (text_after start before ++ lines_of t.acts)
  pub now : (image : Image) → IsCrashImage o.left image → LinesAfter r lane o.found start s.turns image
  pub reads : r.lines o.left.reads (text_after start s.turns)

-- the event lines of a run: while the store is opened each image holds what one held before
pub record RecoversLines (r : Reading) (lane : ℕ) (o : Outside) (s : Story) : Type 0 where
  pub opening : (k : ℕ) → o.found.moment ≤ k → k ≤ s.opened → LinesAsBefore r (IsCrashImage o.found) (o.left.crash_images_at k)
  pub turns : (start : List ℕ) → r.lines o.found.reads start → LinesOfTurns r lane o s start

-- ---- A run

-- crash recovery: a run with these texts, for each log and all that may have happened before it. It holds of a run whose opening failed too, and then of no turns
pub record Recovers (r : Reading) (lane lanes : ℕ) (texts : List (List ℕ)) (o : Outside) (s : Story) : Type 0 where
  pub spans : Spans o s
  pub logs : (n : ℕ) (p : Past) (g : List Happened) → AllWithin r p n (IsCrashImage o.found) → GoesOn texts p g → Good r g o.found.reads n → Kept r o s n p g
  pub numbers : NumbersFit r lane lanes (IsCrashImage o.found) → (k : ℕ) → o.found.moment ≤ k → k ≤ o.left.moment → NumbersFit r lane lanes (o.left.crash_images_at k)
  pub lines : RecoversLines r lane o s
  -- no file was touched but those of the lane's store, and those of other logs that jobs asked to go on with
  pub files : TouchesStore lane lanes (AnyTurnAsks s.turns) o.found o.left

-- the turns of a run are the machine's, from what the disk was read as; and what failed in them is at most what was counted
pub record Ran (r : Reading) (set : Settings) (texts : List (List ℕ)) (o : Outside) (end : Machine) (s : Story) : Type 0 where
  pub start : Machine
  pub starts : StartsAs set texts start
  pub reads_as : (n : ℕ) → ReadsAs (r.replays o.found.reads n) (start.logs n)
  pub drawn : r.drawn o.found.reads start.last
  pub lines : r.lines o.found.reads start.lines
  pub run : Run set start (all_turns s.turns) end
  -- after each turn the machine's event log has the turn's text
  pub ended_lines : (before after : List Turn) → s.turns ≡ before ++ after
      → (mid : Machine) × Run set start (all_turns before) mid × Run set mid (all_turns after) end × (mid.lines ≡ text_after start.lines before)
  pub moments : AtTheirMoments s.turns
  pub counts : Counts (all_turns s.turns) o.found o.left
  -- no file was touched but those of the lane's store, and those of other logs whose restart the machine let through
  pub files : TouchesStore set.lane set.lanes (AsksInRun set start (all_turns s.turns)) o.found o.left
