-- What a run does, by its words and the store: which connection it makes, what is said on it, what it prints, and how it ends.
use Rattle.std.specs.Prelude.{◌≡◌, ◌≢◌, ◌⊎◌, ℕ, List, [], Option, Some, None, Result, Ok, Err}
use Rattle.lsv_base.specs.LogNo.{log_no_in}
use Rattle.lsv_bundle.specs.declared.body.Body.{Body}
use Rattle.lsv_dialogue.specs.Ends.{Broke, Ended, Ran}
use Rattle.lsv_dialogue.specs.Events.{heard}
use Rattle.lsv_dialogue.specs.Judging.{judged_at}
use Rattle.lsv_dialogue.specs.Manner.{Manner}
use Rattle.lsv_dialogue.specs.declared.ends.End.{End}
use Rattle.lsv_dialogue.specs.declared.ends.TalkFault.{TalkFault}
use Rattle.lsv_dialogue.specs.declared.ends.TalkFault.TheVariants as talks
use Rattle.lsv_disk.specs.View.{Image}
use Rattle.lsv_info.specs.declared.times.Head.{Head}
use Rattle.lsv_iolog.specs.declared.fault.LogFault.{LogFault}
use Rattle.lsv_iolog.specs.declared.fault.LogFault.TheVariants as logs
use Rattle.lsv_link.specs.Link.{LinkCounts, LinkState}
use Rattle.lsv_link.specs.declared.connection.Connection.{Connection}
use Rattle.lsv_play.specs.Playing.{IsOpened}
use Rattle.lsv_record.specs.declared.records.Record.{Record}
use Rattle.lsv_send_args.specs.Request.{Asked, Sending}
use Rattle.lsv_defs.specs.Pieces.{IsPrefix}
use Rattle.lsv_send.specs.Faults.{HandsUntil}
use Rattle.lsv_send.specs.Handing.{Far, HandsOut, IsQuiet, Source, wants_at}
use Rattle.lsv_send.specs.Lines.{lines_of}
use Rattle.lsv_send.specs.Opening.{IsNotOpened, Skips}
use Rattle.lsv_send.specs.Status.{of_log, of_talk}
use Rattle.lsv_send.specs.Words.{Asks, IsUsage}
use Rattle.lsv_send.specs.declared.fault.SendFault.{SendFault}
use Rattle.lsv_send.specs.declared.fault.SendFault.TheVariants as faults
use Rattle.lsv_send.specs.declared.sender.Place.TheVariants.{Opening}
use Rattle.lsv_send.specs.declared.status.SendStatus.{SendStatus}
use Rattle.lsv_send.specs.declared.status.SendStatus.TheVariants.{Log, NoMem, Usage}

-- what a run made of the outside: the link's connections and counts before and after it, and the bytes that it printed
pub record Outcome : Type 0 where
  pub old : LinkState
  pub new : LinkState
  pub before : LinkCounts
  pub after : LinkCounts
  pub printed : List ℕ

-- it neither connected nor printed
pub record IsIdle (out : Outcome) : Type 0 where
  pub link : out.new ≡ out.old
  pub printed : out.printed ≡ []

-- what was printed when a call failed: the lines of all that was heard, or by the sink or out of memory a first part of them
abbrev pub PrintsBy : SendFault → (lines printed : List ℕ) → Type 0
PrintsBy faults.Sink lines printed = IsPrefix printed lines
PrintsBy faults.NoMem lines printed = IsPrefix printed lines
PrintsBy (faults.Log fault) lines printed = printed ≡ lines

-- and when a conversation broke off
abbrev pub PrintsUntil : TalkFault SendFault → (lines printed : List ℕ) → Type 0
PrintsUntil talks.NoMem lines printed = printed ≡ lines
PrintsUntil (talks.Speaker fault) lines printed = PrintsBy fault lines printed

-- how a log is sent: what was heard and said handed it out so far; a commit point above what was sent, and an identifier that is too long, aren't taken
abbrev pub sending : Source → Image → Manner Far (Unit {0}) SendFault
sending source image = record {
  talks = λ far _ events. HandsOut source image far events;
  fails = λ far _ events fault. HandsUntil source image events fault;
  judges = λ far m. judged_at far.sent m;
  opened = λ far. far.place ≢ Opening;
  quiet = IsQuiet;
  wants = wants_at;
}

-- a connection on which a log was handed out, and which ended so: each message that was heard has its line
pub record Went (source : Source) (image : Image) (tells : Type 0) (out : Outcome) (end : End) (conn : Connection) : Type 0 where
  pub far : Far
  pub ended : Ended (sending source image) tells far tt out.before out.after conn end
  pub prints : out.printed ≡ lines_of (heard ended.events)

-- the same up to a call that failed
pub record WentUntil (source : Source) (image : Image) (tells : Type 0) (out : Outcome) (fault : TalkFault SendFault) (conn : Connection) : Type 0 where
  pub far : Far
  pub broke : Broke (sending source image) tells far tt out.before out.after conn fault
  pub prints : PrintsUntil fault (lines_of (heard broke.events)) out.printed

-- a connection to the server, and the log handed out on it, over a link that tells its content
abbrev pub Talked : (tells : Type 0) → Source → Image → (server : List ℕ) → Result End (TalkFault SendFault) → Outcome → Type 0
Talked tells source image server (Ok end) out = Ran tells server out.old out.new (Went source image tells out end)
Talked tells source image server (Err fault) out = Ran tells server out.old out.new (WentUntil source image tells out fault)

-- the log wasn't opened, and the run ended by that
pub record IsUnsent (what : Sending) (n : ℕ) (image : Image) (status : SendStatus) (out : Outcome) : Type 0 where
  pub fault : LogFault
  pub status_is : status ≡ of_log fault
  pub not_opened : IsNotOpened what n image fault
  pub idle : IsIdle out

-- the log was opened, with these records passed over, and handed out
pub record SendsLog (tells : Type 0) (what : Sending) (n : ℕ) (server : List ℕ) (image : Image) (status : SendStatus) (out : Outcome) : Type 0 where
  pub head : Head
  pub body : Body
  pub skipped : List Record
  pub opened : IsOpened n body head image
  pub skips : Skips what skipped
  pub ended : Result End (TalkFault SendFault)
  pub status_is : status ≡ of_talk ended
  pub talked : Talked tells (record { what = what; number = n; head = head; body = body; skipped = skipped }) image server ended out

-- what is asked for is done: nothing of an identifier that is no number
abbrev pub SendsNumber : (tells : Type 0) → Option ℕ → Asked → Image → SendStatus → Outcome → Type 0
SendsNumber tells None asked image status out = (status ≡ Log logs.Absent) × IsIdle out
SendsNumber tells (Some n) asked image status out = IsUnsent asked.what n image status out ⊎ SendsLog tells asked.what n asked.server image status out

-- what a run does: nothing if its words are no command or out of memory, and else what is asked for
abbrev pub Runs : (tells : Type 0) → List (List ℕ) → Image → SendStatus → Outcome → Type 0
Runs tells words image status out =
    (IsUsage words × (status ≡ Usage) × IsIdle out)
    ⊎ ((status ≡ NoMem) × IsIdle out)
    ⊎ ((asked : Asked) × Asks words asked × SendsNumber tells (log_no_in asked.number) asked image status out)
