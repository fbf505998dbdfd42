-- What a run of the program puts on the screen, by its words, the store and the status that it ends with.
use Rattle.std.specs.Prelude.{◌≡◌, ◌⊎◌, ℕ, ◌≤◌, List, [], Option, Some, None, Result, IsTrue, false}
use Rattle.std.specs.List.{list_all}
use Rattle.std.specs.Str.{is_utf8}
use Rattle.clap.specs.Faults.{fault_of}
use Rattle.lsv_base.specs.LogNo.{log_no_in}
use Rattle.lsv_disk.specs.View.{Image, DiskView, IsCrashImage, Quiet, Uncounted}
use Rattle.lsv_replay.specs.declared.fault.ListFault.{ListFault}
use Rattle.lsv_replay.specs.Listing.{Lists}
use Rattle.lsv_play.specs.declared.options.Options.{Options}
use Rattle.lsv_play.specs.declared.screen.Item.{Item}
use Rattle.lsv_follow.specs.declared.end.FollowEnd.{FollowEnd}
use Rattle.lsv_follow.specs.Ending.{Follows}
use Rattle.lsv_play.specs.declared.fault.PlayFault.{PlayFault}
use Rattle.lsv_play.specs.Playing.{Plays}
use Rattle.lsv_replay_args.specs.Asked.{manner_in}
use Rattle.lsv_replay_args.specs.Program.{program}
use Rattle.lsv_replay_args.specs.Request.{Asked, Follow, IsRefused, Manner, Play, Search}
use Rattle.lsv_replay_args.specs.Request as requests
use Rattle.lsv_search.specs.Grammar.{Expression, IsSearch}
use Rattle.lsv_search.specs.Places.{IsFirstBad}
use Rattle.lsv_replay.specs.Status.{of_following, of_listing, of_playing}
use Rattle.lsv_replay.specs.declared.status.ReplayStatus.{ReplayStatus}
use Rattle.lsv_replay.specs.declared.status.ReplayStatus.TheVariants.{Shown, Usage, BadExpression, Damaged, ReadFault, WriteFault, Resumed, Removed, Absent, NoMem}
use Rattle.lsv_replay.specs.declared.status.ReplayStatus.TheVariants as statuses

-- ---- What is asked for

-- the words are no command: one isn't UTF-8, or they are refused
abbrev pub IsUsage : List (List ℕ) → Type 0
IsUsage words = (list_all is_utf8 words ≡ false) ⊎ IsRefused words

-- the words are a command, and ask for this
pub record Asks (words : List (List ℕ)) (asked : Asked) : Type 0 where
  pub text : IsTrue (list_all is_utf8 words)
  pub taken : fault_of program words ≡ []
  pub asks : requests.asked words ≡ Some asked

-- the log of this number is to be played in this manner
pub record AsksForLog (words : List (List ℕ)) (n : ℕ) (manner : Manner) : Type 0 where
  pub dir : List ℕ
  pub id : List ℕ
  pub asks : Asks words (Play dir manner id)
  pub number : log_no_in id ≡ Some n

-- the log of this number is to be followed in this manner
pub record AsksToFollowLog (words : List (List ℕ)) (n : ℕ) (manner : Manner) : Type 0 where
  pub dir : List ℕ
  pub id : List ℕ
  pub asks : Asks words (Follow dir manner id)
  pub number : log_no_in id ≡ Some n

-- ---- What is put

-- a log is played in this manner: nothing of what has no number, and else what the log's playing puts
abbrev pub PlaysNumber : Manner → Option ℕ → Image → ReplayStatus → List Item → Type 0
PlaysNumber manner None image status put = (status ≡ Absent) × (put ≡ [])
PlaysNumber manner (Some n) image status put = (o : Options) × (manner_in o ≡ manner)
    × ((answer : Result (Unit {0}) PlayFault) × (status ≡ of_playing answer) × Plays o n image answer put)

-- a log is followed in this manner: nothing of what has no number, and else what the log's following puts
abbrev pub FollowsNumber : Manner → Option ℕ → (ℕ → Image) → List (List Item) → ReplayStatus → List Item → Type 0
FollowsNumber manner None images saw status put = (status ≡ Absent) × (put ≡ [])
FollowsNumber manner (Some n) images saw status put = (o : Options) × (manner_in o ≡ manner)
    × ((answer : Result (Unit {0}) FollowEnd) × (status ≡ of_following answer) × Follows o n images saw answer put)

-- nothing is put, since the words are no search
pub record PutsNone (words : List (List ℕ)) (status : ReplayStatus) (put : List Item) : Type 0 where
  pub at : ℕ
  pub first_bad : IsFirstBad words at
  pub status_is : status ≡ BadExpression at
  pub put_is : put ≡ []

-- the logs are listed that words search for
pub record ListsSearched (words : List (List ℕ)) (image : Image) (status : ReplayStatus) (put : List Item) : Type 0 where
  pub searched : Option Expression
  pub search : IsSearch words searched
  pub answer : Result (Unit {0}) ListFault
  pub status_is : status ≡ of_listing answer
  pub lists : Lists searched image answer put

-- or nothing is put, out of memory or since the words are no search
abbrev pub ListsWords : List (List ℕ) → Image → ReplayStatus → List Item → Type 0
ListsWords words image status put = PutsNone words status put ⊎ ((status ≡ NoMem) × (put ≡ [])) ⊎ ListsSearched words image status put

-- what is asked for is done: of the store as the disk reads at first; but a log is followed while others write it, the disk reads so after each of their acts, and by then they saw this put
abbrev pub Does : Asked → (ℕ → Image) → List (List Item) → ReplayStatus → List Item → Type 0
Does (Play dir manner id) images saw status put = PlaysNumber manner (log_no_in id) (images 0) status put
Does (Follow dir manner id) images saw status put = FollowsNumber manner (log_no_in id) images saw status put
Does (Search dir words) images saw status put = ListsWords words (images 0) status put

-- what a run puts: nothing if its words are no command or memory ran out, and else what it is asked for
abbrev pub Answers : List (List ℕ) → (ℕ → Image) → List (List Item) → ReplayStatus → List Item → Type 0
Answers words images saw status put =
    (IsUsage words × (status ≡ Usage) × (put ≡ []))
    ⊎ ((status ≡ NoMem) × (put ≡ []))
    ⊎ ((asked : Asked) × Asks words asked × Does asked images saw status put)

-- ---- What the words have to do with a status

-- a search is asked for by words that are none, of which this is the first at fault
pub record AsksBadly (words : List (List ℕ)) (at : ℕ) : Type 0 where
  pub dir : List ℕ
  pub search : List (List ℕ)
  pub asks : Asks words (Search dir search)
  pub first_bad : IsFirstBad search at

-- a log is to be played
pub record AsksToPlay (words : List (List ℕ)) : Type 0 where
  pub dir : List ℕ
  pub manner : Manner
  pub id : List ℕ
  pub asks : Asks words (Play dir manner id)

-- a log is to be followed
pub record AsksToFollow (words : List (List ℕ)) : Type 0 where
  pub dir : List ℕ
  pub manner : Manner
  pub id : List ℕ
  pub asks : Asks words (Follow dir manner id)

-- a log with a number is to be followed
abbrev pub AsksToFollowSoundly : List (List ℕ) → Type 0
AsksToFollowSoundly words = (n : ℕ) × (manner : Manner) × AsksToFollowLog words n manner

-- a log with a number is to be played or followed
abbrev pub AsksForSoundLog : List (List ℕ) → Type 0
AsksForSoundLog words = ((n : ℕ) × (manner : Manner) × AsksForLog words n manner) ⊎ AsksToFollowSoundly words

-- what is asked for can be done: the identifier is a log's number, or the words are a search
abbrev pub IsSoundTask : Asked → Type 0
IsSoundTask (Play dir manner id) = (n : ℕ) × (log_no_in id ≡ Some n)
IsSoundTask (Follow dir manner id) = (n : ℕ) × (log_no_in id ≡ Some n)
IsSoundTask (Search dir words) = (searched : Option Expression) × IsSearch words searched

-- a log with a number is to be played or followed, or logs are searched for
abbrev pub AsksSoundly : List (List ℕ) → Type 0
AsksSoundly words = (asked : Asked) × Asks words asked × IsSoundTask asked

-- what the words are at each status
abbrev pub HasWords : List (List ℕ) → ReplayStatus → Type 0
HasWords words Shown = AsksSoundly words
HasWords words Usage = IsUsage words
HasWords words (BadExpression at) = AsksBadly words at
HasWords words (Damaged part) = AsksSoundly words
HasWords words ReadFault = AsksSoundly words
HasWords words WriteFault = AsksSoundly words
HasWords words Resumed = AsksForSoundLog words
HasWords words Removed = AsksToFollowSoundly words
HasWords words Absent = AsksToPlay words ⊎ AsksToFollow words
HasWords words NoMem = Unit {0}
HasWords words statuses.Quiet = AsksToFollowSoundly words

-- ---- What stays

-- nothing is written: each file reads as before, a crash leaves of it what it left before, at each moment, and none was written or synced
pub record IsOnlyRead (old new : DiskView) : Type 0 where
  pub quiet : Quiet old new
  pub each : (k : ℕ) (image : Image) → old.moment ≤ k → k ≤ new.moment → new.crash_images_at k image → IsCrashImage old image
  pub counts : Uncounted old new

-- nothing is written beside others: each file reads as they left it at one of these moments, and none was written or synced
pub record IsOnlyReadBeside (images : ℕ → Image) (old new : DiskView) : Type 0 where
  pub moment : ℕ
  pub reads : new.reads ≡ images moment
  pub counts : Uncounted old new
