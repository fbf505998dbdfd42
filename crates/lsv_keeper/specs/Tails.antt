-- What the end of a turn gives, piece by piece, and what a turn gives.
use Rattle.std.specs.Prelude.{◌≡◌, ◌≢◌, ◌⊎◌, ℕ, List, [], ◌∷◌, ◌++◌, map, Contains}
use Rattle.lsv_base.specs.declared.time.TimeSpec.{TimeSpec}
use Rattle.lsv_disk.specs.View.{DiskView}
use Rattle.lsv_disk.specs.declared.file.Owner.{Owner}
use Rattle.lsv_disk.specs.declared.file.Owner.TheVariants as owners
use Rattle.lsv_session.specs.declared.connection.ConnId.{ConnId}
use Rattle.lsv_session.specs.declared.job.Job.{Job}
use Rattle.lsv_session.specs.declared.reply.Reply.{Reply}
use Rattle.lsv_machine.specs.Answers.{reply_of}
use Rattle.lsv_machine.specs.Disks.{LinesRest}
use Rattle.lsv_machine.specs.Durable.{Reading}
use Rattle.lsv_machine.specs.Keeping.{Acted, Ended, Going, Turned}
use Rattle.lsv_machine.specs.Machine.{Machine, Settings}
use Rattle.lsv_machine.specs.Tails.{LinesEnded, LogEnded, LogsEnded}
use Rattle.lsv_machine.specs.Turns.{RefusesAll, Tail}
use Rattle.lsv_keeper.specs.Reading.{reading_of}
use Rattle.lsv_keeper.specs.Represents.{Represents}
use Rattle.lsv_keeper.specs.Value.{KeeperView, settings_of}

-- the machine where no log waits
abbrev pub none_waits : Machine → Machine
none_waits m = record m { waiting = [] }

-- a number is one of these
abbrev pub IsOneOf : ℕ → List ℕ → Type 0
IsOneOf n [] = ⊥
IsOneOf n (i ∷ numbers) = (n ≡ i) ⊎ IsOneOf n numbers

-- these connections are refused, one after another, where they aren't shut
pub record Refused (r : Reading) (set : Settings) (conns : List ConnId) (tail : Tail) (m after : Machine) (old new : DiskView) : Type 0 where
  pub ended : Ended r set tail (λ x y. RefusesAll tail.failed conns tail.answers x y) m after old new
  pub lines : LinesRest r old new
  pub text : after.lines ≡ m.lines

-- the same, with what is then answered and stood for; of the logs that failed none waits any more
pub record RefusedGive (conns : List ConnId) (v : KeeperView) (m : Machine) (said said' : List Reply) (v' : KeeperView) (old new : DiskView) : Type 0 where
  pub tail : Tail
  pub after : Machine
  pub told : said' ≡ said ++ map reply_of tail.answers
  pub refused : Refused (reading_of v.lane v.lanes) (settings_of v) conns tail m after old new
  pub logs : (o : Owner) → Contains tail.failed o → (n : ℕ) × (o ≡ owners.Log n)
  pub lost : (n : ℕ) → IsOneOf n after.waiting → (Contains tail.failed (owners.Log n) → ⊥) × IsOneOf n m.waiting
  pub represents : Represents v' new after

-- the event lines are flushed; of the logs that failed none waits any more
pub record LinesGive (v : KeeperView) (m : Machine) (said said' : List Reply) (v' : KeeperView) (old new : DiskView) : Type 0 where
  pub tail : Tail
  pub after : Machine
  pub told : said' ≡ said ++ map reply_of tail.answers
  pub ended : LinesEnded (reading_of v.lane v.lanes) (settings_of v) tail m after old new
  pub lost : (n : ℕ) → IsOneOf n after.waiting → Contains tail.failed (owners.Log n) → ⊥
  pub represents : Represents v' new after

-- log n is flushed
pub record LogGives (n : ℕ) (v : KeeperView) (m : Machine) (said said' : List Reply) (v' : KeeperView) (old new : DiskView) : Type 0 where
  pub tail : Tail
  pub after : Machine
  pub told : said' ≡ said ++ map reply_of tail.answers
  pub ended : LogEnded (reading_of v.lane v.lanes) (settings_of v) n tail m after old new
  pub own : (o : Owner) → Contains tail.failed o → o ≡ owners.Log n
  pub others : (i : ℕ) → i ≢ n → after.owner i ≡ m.owner i
  pub represents : Represents v' new (none_waits after)

-- these logs are flushed, one after another
pub record LogsGive (numbers : List ℕ) (v : KeeperView) (m : Machine) (said said' : List Reply) (v' : KeeperView) (old new : DiskView) : Type 0 where
  pub tail : Tail
  pub after : Machine
  pub told : said' ≡ said ++ map reply_of tail.answers
  pub ended : LogsEnded (reading_of v.lane v.lanes) (settings_of v) numbers tail m after old new
  pub own : (o : Owner) → Contains tail.failed o → (n : ℕ) × (o ≡ owners.Log n) × IsOneOf n numbers
  pub represents : Represents v' new (none_waits after)

-- a job
pub record JobGives (v : KeeperView) (now : TimeSpec) (job : Job) (m : Machine) (said said' : List Reply) (v' : KeeperView) (old new : DiskView) : Type 0 where
  pub replies : List Reply
  pub after : Machine
  pub told : said' ≡ said ++ replies
  pub acted : Acted (reading_of v.lane v.lanes) (settings_of v) now job replies m after old new
  pub represents : Represents v' new after

-- the jobs of a turn so far
pub record JobsGive (v : KeeperView) (now : TimeSpec) (jobs : List Job) (m : Machine) (said said' : List Reply) (v' : KeeperView) (old new : DiskView) : Type 0 where
  pub replies : List Reply
  pub after : Machine
  pub told : said' ≡ said ++ replies
  pub going : Going (reading_of v.lane v.lanes) (settings_of v) now jobs replies m after old new
  pub represents : Represents v' new after

-- a turn of these jobs: its replies are appended, and the keeper and its disk stand for the machine after it, in which no line of a turn is left
pub record TurnGives (v : KeeperView) (now : TimeSpec) (jobs : List Job) (m : Machine) (said said' : List Reply) (v' : KeeperView) (old new : DiskView) : Type 0 where
  pub replies : List Reply
  pub after : Machine
  pub told : said' ≡ said ++ replies
  pub turned : Turned (reading_of v.lane v.lanes) (settings_of v) now jobs replies m after old new
  pub no_line : after.fresh ≡ []
  pub represents : Represents v' new after
