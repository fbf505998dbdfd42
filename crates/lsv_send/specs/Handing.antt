-- How far a log is handed out on a connection, by what was heard and said.
use Rattle.std.specs.Prelude.{◌≡◌, ◌≢◌, ◌⊎◌, ℕ, ◌≤◌, ◌<◌, ◌||◌, ◌&&◌, not, if◌then◌else◌, is_some, Bool, true, false, List, [], ◌∷◌, ◌++◌, map, Option, Some, None, Ok}
use Rattle.std.specs.List.{list_any}
use Rattle.lsv_bundle.specs.declared.body.Body.{Body}
use Rattle.lsv_dialogue.specs.Events.{Event, heard, said}
use Rattle.lsv_dialogue.specs.declared.ends.Wants.{Wants}
use Rattle.lsv_dialogue.specs.declared.ends.Wants.TheVariants as wants
use Rattle.lsv_disk.specs.View.{Image}
use Rattle.lsv_disk.specs.declared.file.Part.TheVariants as parts
use Rattle.lsv_info.specs.Reading.{exit_of}
use Rattle.lsv_info.specs.declared.times.Exit.{Exit}
use Rattle.lsv_info.specs.declared.times.Head.{Head}
use Rattle.lsv_msg.specs.declared.messages.ClientMessage.{ClientMessage}
use Rattle.lsv_msg.specs.declared.messages.ServerMessage.{ServerMessage}
use Rattle.lsv_play.specs.Playing.{AreAll, laid_at, text_at}
use Rattle.lsv_record.specs.Layout.{Begins}
use Rattle.lsv_record.specs.Records.{elapsed}
use Rattle.lsv_record.specs.declared.laid.Laid.{Laid}
use Rattle.lsv_record.specs.declared.records.Record.{Record}
use Rattle.lsv_request.specs.Stored.{record_message}
use Rattle.lsv_send_args.specs.Request.{Sending}
use Rattle.lsv_transcript.specs.Transcript.{ending, is_id}
use Rattle.lsv_send.specs.Judging.{is_done, is_silent}
use Rattle.lsv_send.specs.Reached.{reached_by}
use Rattle.lsv_send.specs.Opening.{begins_of, opening_of, stop_of}
use Rattle.lsv_send.specs.declared.sender.Place.{Place}
use Rattle.lsv_send.specs.declared.sender.Place.TheVariants.{Opening, Waiting, Records, Closing, Over}

-- ---- What is handed out

-- a log that was opened to send this of it: its number, its head, what its last entry says, and the records that are passed over
pub record Source : Type 0 where
  pub what : Sending
  pub number : ℕ
  pub head : Head
  pub body : Body
  pub skipped : List Record

-- none of these records ends after the stop, but for those that are passed over
abbrev pub IsWithin : (stop : Option ℕ) (skipped more : List Record) → Type 0
IsWithin None skipped more = Unit {0}
IsWithin (Some stop) skipped more = (more ≡ []) ⊎ (elapsed (skipped ++ more) ≤ stop)

-- an elapsed time is after the stop
abbrev pub IsPast : (stop : Option ℕ) → ℕ → Type 0
IsPast None time = ⊥
IsPast (Some stop) time = stop < time

-- these are all records of the log, or the next one ends after the stop
abbrev pub AreTaken : Laid → Body → (stop : Option ℕ) → List Record → Type 0
AreTaken l body stop records = AreAll l body records ⊎ ((r : Record) × Begins l (records ++ r ∷ []) × IsPast stop (elapsed (records ++ r ∷ [])))

-- the exit that is sent: without a stop that of the log, if it is complete
abbrev pub IsExitBy : (stop : Option ℕ) → ℕ → Body → Image → Option Exit → Type 0
IsExitBy None n body image None = body.kind ≢ 3
IsExitBy None n body image (Some exit) = (body.kind ≡ 3) × (exit_of (text_at n body image parts.Exit) ≡ Ok exit)
IsExitBy (Some stop) n body image exit = exit ≡ None

-- the messages after the opening
abbrev pub rest_of : List Record → Option Exit → List ClientMessage
rest_of more exit = map record_message more ++ ending exit

-- whether there is one
abbrev pub has_rest : List Record → Option Exit → Bool
has_rest [] None = false
has_rest [] (Some exit) = true
has_rest (r ∷ more) exit = true

-- what is said at a place, of this opening
abbrev pub said_at : Place → (opening : List ClientMessage) → List Record → Option Exit → List ClientMessage
said_at Opening opening more exit = []
said_at Waiting opening more exit = opening ++ rest_of more exit
said_at Records opening more exit = opening ++ rest_of more exit
said_at Closing opening more exit = opening ++ rest_of more exit
said_at Over opening more exit = opening ++ rest_of more exit

-- ---- At a place

-- neither a record nor an exit was said
pub record IsUnsaid (more : List Record) (exit : Option Exit) : Type 0 where
  pub more_is : more ≡ []
  pub exit_is : exit ≡ None

-- records may follow the opening, and no exit was said
pub record IsPartly (source : Source) (exit : Option Exit) : Type 0 where
  pub begins : begins_of source.what ≢ Closing
  pub exit_is : exit ≡ None

-- nothing follows the opening
pub record IsLone (source : Source) (more : List Record) (exit : Option Exit) : Type 0 where
  pub begins : begins_of source.what ≡ Closing
  pub more_is : more ≡ []
  pub exit_is : exit ≡ None

-- all records of the log were said, or with a stop all up to it, and then the exit, if one is to be sent
pub record IsSaid (source : Source) (image : Image) (more : List Record) (exit : Option Exit) : Type 0 where
  pub begins : begins_of source.what ≢ Closing
  pub taken : AreTaken (laid_at source.number source.body image) source.body (stop_of source.what) (source.skipped ++ more)
  pub exit_is : IsExitBy (stop_of source.what) source.number source.body image exit

-- what was said at a place: nothing after the opening, some records, or all
abbrev pub SaysAt : Place → Source → Image → List Record → Option Exit → Type 0
SaysAt Opening source image more exit = IsUnsaid more exit
SaysAt Waiting source image more exit = IsUnsaid more exit
SaysAt Records source image more exit = IsPartly source exit
SaysAt Closing source image more exit = IsLone source more exit ⊎ IsSaid source image more exit
SaysAt Over source image more exit = IsLone source more exit ⊎ IsSaid source image more exit

-- what waits for an identifier is said after one
abbrev pub HasWaited : Place → (begins : Place) → List ServerMessage → Type 0
HasWaited Opening begins messages = Unit {0}
HasWaited Waiting begins messages = begins ≡ Waiting
HasWaited Records begins messages = begins ≡ Waiting → list_any is_id messages ≡ true
HasWaited Closing begins messages = begins ≡ Waiting → list_any is_id messages ≡ true
HasWaited Over begins messages = begins ≡ Waiting → list_any is_id messages ≡ true

-- how far it is
pub record Far : Type 0 where
  pub place : Place
  -- whether an identifier came
  pub known : Bool
  -- the elapsed time of the records that were said or passed over
  pub sent : ℕ
  -- whether a record or an exit was said, and whether an exit was
  pub rest : Bool
  pub exited : Bool
  -- whether a commit point at that time came after the last message that was said
  pub reached : Bool

-- all that is waited for came: all was said, and the last commit point came, if a record or an exit was said
abbrev pub is_there : Far → Bool
is_there far = is_done far.place && (not far.rest || far.reached)

-- what is wanted: to go on; and, when all that is waited for came, the connection's end, if an exit was said, since a server ends the connection once it took that; else nothing
abbrev pub wants_at : Far → Wants
wants_at far = if is_there far then (if far.exited then wants.End else wants.Nothing) else wants.More

-- a log is handed out so far by these events
pub record HandsOut (source : Source) (image : Image) (far : Far) (events : List Event) : Type 0 where
  -- the records and the exit that were said
  pub more : List Record
  pub exit : Option Exit
  pub begins : Begins (laid_at source.number source.body image) (source.skipped ++ more)
  pub within : IsWithin (stop_of source.what) source.skipped more
  pub says : SaysAt far.place source image more exit
  pub said_is : said events ≡ said_at far.place (opening_of source.what source.head) more exit
  pub waited : HasWaited far.place (begins_of source.what) (heard events)
  pub known : far.known ≡ list_any is_id (heard events)
  pub sent : far.sent ≡ elapsed (source.skipped ++ more)
  pub rest : far.rest ≡ has_rest more exit
  pub exited : far.exited ≡ is_some exit
  pub reached : far.reached ≡ reached_by far.sent false events

-- ---- As a speaker

-- records may be said
abbrev pub CanRecord : Place → (known : Bool) → Type 0
CanRecord Opening known = ⊥
CanRecord Waiting known = known ≡ true
CanRecord Records known = Unit {0}
CanRecord Closing known = ⊥
CanRecord Over known = ⊥

-- nothing more may be said before a further message
abbrev pub IsQuiet : Far → Type 0
IsQuiet far = is_silent far.place far.known ≡ true
