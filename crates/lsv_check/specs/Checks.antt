-- What a run puts, by its words, the store and the status that it ends with.
use Rattle.std.specs.Prelude.{◌≡◌, ◌≢◌, ◌⊎◌, ◌≤◌, ℕ, List, [], ◌∷◌, ◌++◌, length, nat_lt, codes, Option, Some, None, if◌then◌else◌}
use Rattle.lsv_defs.specs.Pieces.{IsPrefix}
use Rattle.lsv_disk.specs.declared.file.FileId.{FileId}
use Rattle.lsv_disk.specs.View.{Image}
use Rattle.lsv_check_args.specs.Request.{Asked, Asks, IsUsage}
use Rattle.lsv_check_args.specs.declared.request.Form.{Form}
use Rattle.lsv_check.specs.declared.numbers.Numbers.{Numbers}
use Rattle.lsv_check.specs.declared.numbers.Numbers.TheVariants as found
use Rattle.lsv_check.specs.declared.numbers.Seen.{Seen}
use Rattle.lsv_replay.specs.Numbers.{last_number}
use Rattle.lsv_replay.specs.declared.fault.ListFault.{ListFault}
use Rattle.lsv_replay.specs.declared.fault.ListFault.TheVariants as lists
use Rattle.lsv_tally.specs.Walks.{AreVerdicts, IsOfEvents, Walked as WalkedEvents, WalkedPart as WalkedEventsPart, put_all as put_events, sums_of as events_of}
use Rattle.lsv_tally.specs.declared.verdict.EventVerdict.{EventVerdict}
use Rattle.lsv_tally.specs.declared.walk.EventSums.{EventSums}
use Rattle.lsv_verdict.specs.Sums.{status_of, sums_of}
use Rattle.lsv_verdict.specs.Verdicts.{Counts, HasFailed, IsChecked, IsOfNumbers, lanes_of}
use Rattle.lsv_verdict.specs.Walks.{AreJudged, first_numbers, is_whole, line_of_sums, put_all, status_at}
use Rattle.lsv_verdict.specs.declared.status.CheckStatus.{CheckStatus}
use Rattle.lsv_verdict.specs.declared.status.CheckStatus.TheVariants.{Sound, Usage, Damaged, ReadFault, WriteFault, NoMem}
use Rattle.lsv_verdict.specs.declared.sums.Sums.{Sums}
use Rattle.lsv_verdict.specs.declared.verdict.Verdict.{Verdict}
use Rattle.lsv_verdict.specs.declared.walk.Stop.{Stop}

-- a file that a check reads: of a log, of its relaying, of the numbers, or of an event log
abbrev pub IsReadHere : FileId → Type 0
IsReadHere file = IsChecked file ⊎ IsOfEvents file

-- how many numbers are asked for: those that are named, or up to the greatest that any lane drew; none are known if a number file is damaged
abbrev pub count_of : List ℕ → Image → Option ℕ
count_of [] image = last_number image
count_of (id ∷ ids) image = Some (length (id ∷ ids))

-- of how many lanes the event log is asked for: of all if its path is given, else of none
abbrev pub lanes_asked : List ℕ → Image → ℕ
lanes_asked [] image = 0
lanes_asked (byte ∷ path) image = lanes_of image

-- ---- The number files

-- the number files of all lanes read, or one is damaged, or a read of one failed
abbrev pub AreNumbers : Image → Counts → Numbers → Type 0
AreNumbers image counts found.Sound = last_number image ≢ None
AreNumbers image counts found.Damaged = last_number image ≡ None
AreNumbers image counts found.Unread = HasFailed IsOfNumbers counts

-- the event logs of these lanes are read: of those that are asked for, or of none if the count of lanes wasn't read
abbrev pub AreLanes : List ℕ → Image → Seen → Type 0
AreLanes events image seen = (seen.lanes ≡ lanes_asked events image) ⊎ ((seen.numbers ≡ found.Unread) × (seen.lanes ≡ 0))

-- this was seen of the number files
abbrev pub IsSeen : List ℕ → Image → Counts → Seen → Type 0
IsSeen events image counts seen = AreNumbers image counts seen.numbers × AreLanes events image seen

-- a text in quotation marks
abbrev pub quoted : List ℕ → List ℕ
quoted text = 34 ∷ text ++ 34 ∷ []

-- a line that says this of the number files
abbrev pub said_of_numbers : Form → List ℕ → List ℕ → List ℕ
said_of_numbers form state padded = if form.json then codes "{" ++ quoted (codes "numbers") ++ codes ":" ++ quoted state ++ codes "}" ++ 10 ∷ [] else padded ++ codes "number files" ++ 10 ∷ []

-- the line of the number files; none if they are sound
abbrev pub line_of_numbers : Form → Numbers → List ℕ
line_of_numbers form found.Sound = []
line_of_numbers form found.Damaged = said_of_numbers form (codes "damaged") (codes "damaged     ")
line_of_numbers form found.Unread = said_of_numbers form (codes "unread") (codes "unread      ")

-- ---- How a run ends

-- damage in the place of a sound end
abbrev pub at_least_damaged : CheckStatus → CheckStatus
at_least_damaged Sound = Damaged
at_least_damaged Usage = Usage
at_least_damaged Damaged = Damaged
at_least_damaged ReadFault = ReadFault
at_least_damaged WriteFault = WriteFault
at_least_damaged NoMem = NoMem

-- how a run ends with these sums of logs and of event logs: a read that failed counts before damage
abbrev pub status_with : Sums → EventSums → CheckStatus
status_with sums events = if nat_lt 0 events.unread then ReadFault else (if nat_lt 0 events.damaged then at_least_damaged (status_of sums) else status_of sums)

-- how a run ends that would end so without the number files
abbrev pub with_numbers : Numbers → CheckStatus → CheckStatus
with_numbers found.Sound status = status
with_numbers found.Damaged status = at_least_damaged status
with_numbers found.Unread status = ReadFault

-- ---- What is put

-- the last lines: that of the number files if they aren't sound, and that of the sums
abbrev pub last_lines : Form → Numbers → Sums → List ℕ
last_lines form numbers sums = line_of_numbers form numbers ++ line_of_sums form sums

-- all that is put: the lines of all numbers, those of the event logs, and the last lines; the run ends by all of them
pub record ChecksAll (asked : Asked) (image : Image) (counts : Counts) (status : CheckStatus) (put : List ℕ) : Type 0 where
  pub count : ℕ
  pub count_is : count_of asked.numbers image ≡ Some count
  pub verdicts : List (Option Verdict)
  pub are : AreJudged asked.form (is_whole asked.numbers) image counts (first_numbers asked.numbers count) verdicts
  pub seen : Seen
  pub seen_is : IsSeen asked.events image counts seen
  pub events : List EventVerdict
  pub events_are : AreVerdicts image counts seen.lanes events
  pub put_is : put ≡ put_all asked.form verdicts ++ (put_events asked.form events ++ last_lines asked.form seen.numbers (sums_of verdicts))
  pub status_is : status ≡ with_numbers seen.numbers (status_with (sums_of verdicts) (events_of events))

-- the numbers aren't known: one of their files is damaged, or no log is named and a read of one failed
abbrev pub AreUnknown : Asked → Image → Counts → Numbers → Type 0
AreUnknown asked image counts found.Sound = ⊥
AreUnknown asked image counts found.Damaged = count_of asked.numbers image ≡ None
AreUnknown asked image counts found.Unread = (asked.numbers ≡ []) × HasFailed IsOfNumbers counts

-- the line of the number files alone is put, since the numbers aren't known
pub record ChecksNone (asked : Asked) (image : Image) (counts : Counts) (status : CheckStatus) (put : List ℕ) : Type 0 where
  pub numbers : Numbers
  pub unknown : AreUnknown asked image counts numbers
  pub put_is : put ≡ line_of_numbers asked.form numbers
  pub status_is : status ≡ with_numbers numbers Sound

-- all that a run puts
abbrev pub ChecksWhole : Asked → Image → Counts → CheckStatus → List ℕ → Type 0
ChecksWhole asked image counts status put = ChecksAll asked image counts status put ⊎ ChecksNone asked image counts status put

-- a first part of the lines of the first numbers that are asked for
pub record ChecksLogs (asked : Asked) (image : Image) (counts : Counts) (put : List ℕ) : Type 0 where
  pub all : ℕ
  pub all_is : count_of asked.numbers image ≡ Some all
  pub count : ℕ
  pub within : count ≤ all
  pub verdicts : List (Option Verdict)
  pub are : AreJudged asked.form (is_whole asked.numbers) image counts (first_numbers asked.numbers count) verdicts
  pub part : IsPrefix put (put_all asked.form verdicts)

-- the lines of all numbers, and a first part of those of the first event logs
pub record ChecksEvents (asked : Asked) (image : Image) (counts : Counts) (put : List ℕ) : Type 0 where
  pub count : ℕ
  pub count_is : count_of asked.numbers image ≡ Some count
  pub verdicts : List (Option Verdict)
  pub are : AreJudged asked.form (is_whole asked.numbers) image counts (first_numbers asked.numbers count) verdicts
  pub lanes : ℕ
  pub within : lanes ≤ lanes_asked asked.events image
  pub events : List EventVerdict
  pub events_are : AreVerdicts image counts lanes events
  pub part : IsPrefix put (put_all asked.form verdicts ++ put_events asked.form events)

-- all that is put but the end of the last lines
pub record ChecksSums (asked : Asked) (image : Image) (counts : Counts) (put : List ℕ) : Type 0 where
  pub status : CheckStatus
  pub whole : List ℕ
  pub all : ChecksWhole asked image counts status whole
  pub part : IsPrefix put whole

-- a first part of what a run puts; the sums stand only after all lines
abbrev pub ChecksSome : Asked → Image → Counts → List ℕ → Type 0
ChecksSome asked image counts put = ChecksLogs asked image counts put ⊎ ChecksEvents asked image counts put ⊎ ChecksSums asked image counts put

-- what is put, by the status
abbrev pub ChecksBy : Asked → Image → Counts → CheckStatus → List ℕ → Type 0
ChecksBy asked image counts Sound put = ChecksAll asked image counts Sound put
ChecksBy asked image counts Damaged put = ChecksWhole asked image counts Damaged put
ChecksBy asked image counts ReadFault put = ChecksWhole asked image counts ReadFault put
ChecksBy asked image counts WriteFault put = ChecksSome asked image counts put
ChecksBy asked image counts NoMem put = (put ≡ []) ⊎ ChecksSome asked image counts put
ChecksBy asked image counts Usage put = ⊥

-- what a run puts: nothing if its words are no command or memory ran out for them, and else what is asked for
abbrev pub Checks : List (List ℕ) → Image → Counts → CheckStatus → List ℕ → Type 0
Checks words image counts status put =
    (IsUsage words × (status ≡ Usage) × (put ≡ []))
    ⊎ ((status ≡ NoMem) × (put ≡ []))
    ⊎ ((asked : Asked) × Asks words asked × ChecksBy asked image counts status put)

-- ---- For private clauses

-- what a fault of the number files says of them; nothing if it is none of theirs
abbrev pub numbers_at : ListFault → Option Numbers
numbers_at (lists.Damaged part) = Some found.Damaged
numbers_at lists.Disk = Some found.Unread
numbers_at lists.Screen = None
numbers_at lists.NoMem = None

-- how a run ends whose last text is this: it puts the text, or stops in it
abbrev pub EndsWith : List ℕ → CheckStatus → CheckStatus → List ℕ → Type 0
EndsWith text end status put =
    ((status ≡ end) × (put ≡ text)) ⊎ ((stop : Stop) × (status ≡ status_at stop) × IsPrefix put text)

-- after the logs the event logs were read, and this is put
pub record LanesEnd (asked : Asked) (image : Image) (counts : Counts) (sums : Sums) (status : CheckStatus) (put : List ℕ) : Type 0 where
  pub seen : Seen
  pub seen_is : IsSeen asked.events image counts seen
  pub events : EventSums
  pub lines : List ℕ
  pub walked : WalkedEvents asked.form image counts seen.lanes events lines
  pub front : List ℕ
  pub ends : EndsWith (last_lines asked.form seen.numbers sums) (with_numbers seen.numbers (status_with sums events)) status front
  pub put_is : put ≡ lines ++ front

-- a walk over the event logs stopped
pub record LanesStop (asked : Asked) (image : Image) (counts : Counts) (status : CheckStatus) (put : List ℕ) : Type 0 where
  pub stop : Stop
  pub status_is : status ≡ status_at stop
  pub lanes : ℕ
  pub within : lanes ≤ lanes_asked asked.events image
  pub part : WalkedEventsPart asked.form image counts lanes put

-- what is put after the lines of logs with these sums
abbrev pub ChecksLanes : Asked → Image → Counts → Sums → CheckStatus → List ℕ → Type 0
ChecksLanes asked image counts sums status put = LanesEnd asked image counts sums status put ⊎ LanesStop asked image counts status put

-- a read failed after those of the logs, none of which is unread
abbrev pub IsLaneFault : Sums → CheckStatus → Type 0
IsLaneFault sums status = (status ≡ ReadFault) × (sums.unread ≡ 0)
