-- What a keeper owes: one job, the end of a turn, a turn, and the opening of the store, each as a step of the machine with what it leaves on the disk.
use Rattle.std.specs.Prelude.{◌≡◌, ◌≤◌, ◌⊎◌, ◌++◌, ℕ, false, List, [], ◌∷◌, map, All, Contains}
use Rattle.std.specs.List.{flat_map}
use Rattle.lsv_base.specs.declared.time.TimeSpec.{TimeSpec}
use Rattle.lsv_disk.specs.Throughout.{Jointly}
use Rattle.lsv_disk.specs.View.{DiskView, Image, IsCrashImage}
use Rattle.lsv_disk.specs.declared.file.FileId.{FileId}
use Rattle.lsv_disk.specs.declared.file.Owner.TheVariants.{Events}
use Rattle.lsv_session.specs.declared.job.Job.{Job}
use Rattle.lsv_session.specs.declared.reply.Reply.{Reply}
use Rattle.lsv_machine.specs.Answers.{reply_of}
use Rattle.lsv_machine.specs.Counts.{Counts}
use Rattle.lsv_machine.specs.Disks.{AllGood, AllWithin, AsBefore, GoodOr, IsToldBy, IsToldIn, IsWritten, KeepsNumbers, NumbersFit, LinesAsBeforeOr, LinesRest, Rests, TouchesStore}
use Rattle.lsv_machine.specs.Durable.{GoodAt, Reading}
use Rattle.lsv_machine.specs.Failures.{Act, Step}
use Rattle.lsv_machine.specs.History.{Ledger, ledger, noted, settled, settles}
use Rattle.lsv_machine.specs.Lines.{MayHold, lines_of}
use Rattle.lsv_machine.specs.Machine.{Machine, Settings}
use Rattle.lsv_machine.specs.Stands.{Stands, StandsFor}
use Rattle.lsv_machine.specs.Starts.{ReadsAs, StartsAs}
use Rattle.lsv_machine.specs.Turns.{EndOfTurn, Happened, Happened.Did, Happened.Tailed, Run, Tail, all_acted, turn_of}

-- ---- One job

-- a job of a turn at this moment: its replies, the machine before and after it, and the disk. The act is one witness for all of it
pub record Acted (r : Reading) (set : Settings) (now : TimeSpec) (job : Job) (replies : List Reply) (m after : Machine) (old new : DiskView) : Type 0 where
  pub act : Act
  pub job_is : act.job ≡ job
  pub now_is : act.now ≡ now
  pub replies_are : map reply_of act.answers ≡ replies
  pub step : Step set m act after
  pub counts : Counts (Did act ∷ []) old new
  -- of a log of which all images are good before the job, each is good before or after it at each moment, and after it at the end
  pub settled_logs : (l : Ledger) (n : ℕ) → StandsFor set n m l → AllGood r l n (IsCrashImage old)
      → Jointly (GoodOr r l (noted n l (Did act)) n) old new × AllGood r (noted n l (Did act)) n (IsCrashImage new)
  -- of a log that nobody writes, and of which the disk as it reads is good: at each moment all images are as before, or each is good before or after the job; and at the
  -- end all are good after it, or it is not settled, and rests
  pub unsettled_logs : (l : Ledger) (n : ℕ) → StandsFor set n m l → l.writers ≡ [] → GoodAt r l n old.reads
      → Jointly (λ images. AsBefore r n (IsCrashImage old) images ⊎ GoodOr r l (noted n l (Did act)) n images) old new
      × (AllGood r (noted n l (Did act)) n (IsCrashImage new) ⊎ ((settles n l (Did act) ≡ false) × Rests r n old new))
  pub numbers : KeepsNumbers r set.lane set.lanes old new
  pub files : TouchesStore set.lane set.lanes (IsToldBy m act) old new
  pub lines : LinesRest r old new

-- ---- The end of a turn

-- the end of a turn, or a piece of it: a log that nobody writes isn't touched
pub record Ended (r : Reading) (set : Settings) (tail : Tail) (Ends : Machine → Machine → Type 0) (m after : Machine) (old new : DiskView) : Type 0 where
  pub ends : Ends m after
  pub counts : Counts (Tailed tail ∷ []) old new
  pub settled_logs : (l : Ledger) (n : ℕ) → StandsFor set n m l → AllGood r l n (IsCrashImage old)
      → Jointly (AllGood r l n) old new × AllGood r (noted n l (Tailed tail)) n (IsCrashImage new)
  pub unsettled_logs : (l : Ledger) (n : ℕ) → StandsFor set n m l → l.writers ≡ []
      → Jointly (AsBefore r n (IsCrashImage old)) old new × Rests r n old new
  pub numbers : KeepsNumbers r set.lane set.lanes old new
  pub files : TouchesStore set.lane set.lanes (IsWritten m) old new

-- the event lines of the turn are flushed: at each moment the event log is as before or has them, and at the end it has them, unless it failed; and in each case it reads as the machine says
pub record LinesFlushed (r : Reading) (set : Settings) (tail : Tail) (m after : Machine) (old new : DiskView) : Type 0 where
  pub moments : Jointly (LinesAsBeforeOr r (IsCrashImage old) (m.lines ++ m.fresh)) old new
  pub now : (Contains tail.failed (Events set.lane) × LinesAsBeforeOr r (IsCrashImage old) (m.lines ++ m.fresh) (IsCrashImage new))
      ⊎ ((m.fresh ≡ []) × LinesRest r old new)
      ⊎ ((image : Image) → IsCrashImage new image → r.lines image (m.lines ++ m.fresh))
  pub reads : r.lines old.reads m.lines → r.lines new.reads after.lines

-- the whole end of a turn
pub record TailEnded (r : Reading) (set : Settings) (tail : Tail) (m after : Machine) (old new : DiskView) : Type 0 where
  pub ended : Ended r set tail (λ x y. EndOfTurn set x tail y) m after old new
  pub lines : LinesFlushed r set tail m after old new

-- ---- A turn

-- of a log of which all images are good: each is within the turn at each moment, and good for it at its end
abbrev pub KeepsSettled : Reading → Settings → List Act → List Happened → Machine → DiskView → DiskView → Type 0
KeepsSettled r set acts turn m old new = (g : List Happened) (n : ℕ) → Stands set g n m → AllGood r (ledger g n) n (IsCrashImage old)
    → Jointly (AllWithin r (record { history = g; acts = acts }) n) old new × AllGood r (ledger (g ++ turn) n) n (IsCrashImage new)

-- of a log that nobody writes, and of which the disk as it reads is good: at each moment all images are as before the turn, or all are within it; and at the end all are good for it,
-- or it is not settled, and rests
abbrev pub KeepsUnsettled : Reading → Settings → List Act → List Happened → Machine → DiskView → DiskView → Type 0
KeepsUnsettled r set acts turn m old new = (g : List Happened) (n : ℕ) → Stands set g n m → (ledger g n).writers ≡ [] → GoodAt r (ledger g n) n old.reads
    → Jointly (λ images. AsBefore r n (IsCrashImage old) images ⊎ AllWithin r (record { history = g; acts = acts }) n images) old new
    × (AllGood r (ledger (g ++ turn) n) n (IsCrashImage new) ⊎ ((settled n g turn ≡ false) × Rests r n old new))

-- a turn under way has left these lines besides
abbrev pub with_lines_of : List Act → Machine → Machine
with_lines_of acts m = record m { fresh = m.fresh ++ lines_of acts }

-- the jobs of a turn so far
pub record Going (r : Reading) (set : Settings) (now : TimeSpec) (jobs : List Job) (replies : List Reply) (m after : Machine) (old new : DiskView) : Type 0 where
  pub acts : List Act
  pub jobs_are : map (λ act. act.job) acts ≡ jobs
  pub moment : All (λ act. act.now ≡ now) acts
  pub replies_are : map reply_of (flat_map (λ act. act.answers) acts) ≡ replies
  pub run : Run set m (all_acted acts) after
  pub counts : Counts (all_acted acts) old new
  pub settled_logs : KeepsSettled r set acts (all_acted acts) m old new
  pub unsettled_logs : KeepsUnsettled r set acts (all_acted acts) m old new
  pub numbers : KeepsNumbers r set.lane set.lanes old new
  pub files : TouchesStore set.lane set.lanes (IsToldIn set m (all_acted acts)) old new
  pub lines : LinesRest r old new

-- a turn of these jobs at this moment
pub record Turned (r : Reading) (set : Settings) (now : TimeSpec) (jobs : List Job) (replies : List Reply) (m after : Machine) (old new : DiskView) : Type 0 where
  pub acts : List Act
  pub tail : Tail
  pub jobs_are : map (λ act. act.job) acts ≡ jobs
  pub moment : All (λ act. act.now ≡ now) acts
  pub replies_are : map reply_of (flat_map (λ act. act.answers) acts ++ tail.answers) ≡ replies
  pub run : Run set m (turn_of acts tail) after
  pub counts : Counts (turn_of acts tail) old new
  pub settled_logs : KeepsSettled r set acts (turn_of acts tail) m old new
  pub unsettled_logs : KeepsUnsettled r set acts (turn_of acts tail) m old new
  pub numbers : KeepsNumbers r set.lane set.lanes old new
  pub files : TouchesStore set.lane set.lanes (IsToldIn set m (all_acted acts)) old new
  -- in each image the lines of the event log are the machine's: those of this turn are there wholly or not at all
  pub lines : LinesFlushed r set tail (with_lines_of acts m) after old new

-- ---- What follows of a turn, by what its history allows

-- each of these images holds a text of the event log that a history allows, or that with these lines of the turn under way
abbrev pub LinesWithin : Reading → (lane : ℕ) → List Happened → List ℕ → (Image → Type 0) → Type 0
LinesWithin r lane g fresh images = (image : Image) → images image → (text : List ℕ) × MayHold lane g text [] × (r.lines image text ⊎ r.lines image (text ++ fresh))

-- each of these images holds a text of the event log that a history allows
abbrev pub LinesGood : Reading → (lane : ℕ) → List Happened → (Image → Type 0) → Type 0
LinesGood r lane g images = (image : Image) → images image → (text : List ℕ) × MayHold lane g text [] × r.lines image text

-- if each image held a text that the history allows, it holds one, with all lines of this turn or none. At the end the history with the turn allows it
abbrev pub KeepsLines : Reading → Settings → List Act → List Happened → Machine → DiskView → DiskView → Type 0
KeepsLines r set acts turn m old new = (g : List Happened) → m.fresh ≡ [] → r.lines old.reads m.lines → LinesGood r set.lane g (IsCrashImage old)
    → Jointly (LinesWithin r set.lane g (lines_of acts)) old new × LinesGood r set.lane (g ++ turn) (IsCrashImage new)

-- ---- Opening

-- the store was opened, or that failed: each log and the event log are as some image had them, at each moment, and read as they did; the numbers fit as before, no count fell, and
-- no file of another lane or owner was touched
pub record OpensStore (r : Reading) (lane lanes : ℕ) (found new : DiskView) : Type 0 where
  pub monotone : (file : FileId) → found.faults file ≤ new.faults file
  pub logs : (n : ℕ) → Jointly (AsBefore r n (IsCrashImage found)) found new × Rests r n found new
  pub numbers : NumbersFit r lane lanes (IsCrashImage found) → KeepsNumbers r lane lanes found new
  pub lines : LinesRest r found new
  pub files : TouchesStore lane lanes (λ n. ⊥) found new

-- the store was opened, and the machine is what the disk reads as
pub record Opened (r : Reading) (set : Settings) (texts : List (List ℕ)) (m : Machine) (found new : DiskView) : Type 0 where
  pub starts : StartsAs set texts m
  pub reads_as : (n : ℕ) → ReadsAs (r.replays found.reads n) (m.logs n)
  pub drawn : r.drawn found.reads m.last
  pub lines : r.lines found.reads m.lines
  pub store : OpensStore r set.lane set.lanes found new
