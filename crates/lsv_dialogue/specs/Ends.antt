-- How a conversation ends, and why.
use Rattle.std.specs.Prelude.{◌≡◌, ◌≢◌, ◌⊎◌, ◌≤◌, ◌<◌, ℕ, Bool, true, false, List, [], ◌∷◌, ◌++◌, length, None, Some, Err}
use Rattle.lsv_defs.specs.Causes.{HasRisen}
use Rattle.lsv_wire.specs.Frame.{frame_of, IsMessage, IsPartial, IsTooLong}
use Rattle.lsv_msg.specs.Messages.{server_in}
use Rattle.lsv_msg.specs.declared.fault.MsgFault.{MsgFault}
use Rattle.lsv_msg.specs.declared.messages.ServerMessage.{ServerMessage}
use Rattle.lsv_link.specs.declared.connection.Connection.{Connection}
use Rattle.lsv_link.specs.declared.connection.Look.{Look}
use Rattle.lsv_link.specs.Link.{LinkCounts, LinkState, Continues, all_of, after_miss, open_of, unused}
use Rattle.lsv_dialogue.specs.Events.{Event, AreGood, AreInTime, HasPaused, IsLateLast, heard, said, text_of}
use Rattle.lsv_dialogue.specs.Hears.{Hears}
use Rattle.lsv_dialogue.specs.Manner.{Manner}
use Rattle.lsv_dialogue.specs.Puts.{ArePutFirst, PutsPart, PutsUpTo, PutsWhole}
use Rattle.lsv_dialogue.specs.Rounds.{GoesInRounds, IsUnput}
use Rattle.lsv_dialogue.specs.Taken.{AreTaken}
use Rattle.lsv_dialogue.specs.declared.ends.TheConstants.{MOST_HEARD}
use Rattle.lsv_dialogue.specs.declared.ends.Judged.{Judged}
use Rattle.lsv_dialogue.specs.declared.ends.Judged.TheVariants as judged
use Rattle.lsv_dialogue.specs.declared.ends.Wants.{Wants}
use Rattle.lsv_dialogue.specs.declared.ends.Wants.TheVariants as wants
use Rattle.lsv_dialogue.specs.declared.ends.Cause.{Cause}
use Rattle.lsv_dialogue.specs.declared.ends.Cause.TheVariants as causes
use Rattle.lsv_dialogue.specs.declared.ends.End.{End}
use Rattle.lsv_dialogue.specs.declared.ends.End.TheVariants as ends
use Rattle.lsv_dialogue.specs.declared.ends.TalkFault.{TalkFault}
use Rattle.lsv_dialogue.specs.declared.ends.TalkFault.TheVariants as faults

-- ---- What was heard and said, read and written

-- a conversation on a connection: what was heard and said, the message that was read and not taken, if any, the bytes that were read after these, and the link's counts before and after
pub record Conversation : Type 0 where
  pub events : List Event
  pub refused : List ServerMessage
  pub rest : List ℕ
  pub conn : Connection
  pub before : LinkCounts
  pub after : LinkCounts

-- a write failed; or it took nothing; or a message was longer than a frame may be
abbrev pub HasHalted : (tells : Type 0) → Conversation → Type 0
HasHalted tells c = HasRisen c.before.faults c.after.faults ⊎ HasRisen c.before.full c.after.full ⊎ ((n : ℕ) × PutsUpTo n tells c.conn.output (said c.events))

-- no message was late; or a write had stopped, and not all that was said was written
abbrev pub AreTimely : (tells : Type 0) → Conversation → Type 0
AreTimely tells c = AreInTime c.events ⊎ (HasHalted tells c × IsUnput tells c.conn.output (said c.events))

-- what was read are the frames of the messages heard, of the one that was not taken, and a rest; and what was written are the frames of what was said, or a first part of them
pub record Matches {S W F : Type 0} (manner : Manner S W F) (tells : Type 0) (c : Conversation) : Type 0 where
  pub hears : tells → Hears c.conn c.events c.refused c.rest
  pub puts : PutsPart tells c.conn.output (said c.events)
  -- what had been said before a message that was heard in time was written whole
  pub first : ArePutFirst tells c.conn.output c.events
  -- a message is late only if a write stopped, and then no more was said
  pub late : AreTimely tells c
  pub late_last : IsLateLast c.events
  pub rounds : GoesInRounds manner tells c.conn c.events
  -- on a connection that wasn't made nothing was said or heard
  pub made : tells → (c.conn.connected ≡ true) ⊎ (c.events ≡ [])
  pub few : length (heard c.events) ≤ MOST_HEARD
  pub continues : Continues c.before c.after

-- no write, and no read that may wait, answered NotYet
pub record NoneWaited (before after : LinkCounts) : Type 0 where
  pub full : after.full ≡ before.full
  pub waits : after.waits ≡ before.waits

-- a read that may wait answered NotYet, and no write
pub record HasWaited (before after : LinkCounts) : Type 0 where
  pub full : after.full ≡ before.full
  pub waits : HasRisen before.waits after.waits

-- no call failed
abbrev pub NoneFailed : (before after : LinkCounts) → Type 0
NoneFailed before after = after.faults ≡ before.faults

-- all that was said was written, all whole messages that were read were heard, and more may be heard
pub record IsIdle (tells : Type 0) (c : Conversation) : Type 0 where
  pub puts : PutsWhole tells c.conn.output (said c.events)
  pub left : c.refused ≡ []
  pub partial : IsPartial c.rest
  pub more : length (heard c.events) < MOST_HEARD

-- an error or an abort with this text was heard last, and none before
pub record EndsWith (text : List ℕ) (messages : List ServerMessage) : Type 0 where
  pub front : List ServerMessage
  pub last : ServerMessage
  pub is : messages ≡ front ++ last ∷ []
  pub says : text_of last ≡ Some text
  pub good : AreGood front

-- the next bytes are the frame of a message that is malformed
pub record BeginsBad (fault : MsgFault) (rest : List ℕ) : Type 0 where
  pub message : List ℕ
  pub after : List ℕ
  pub framed : rest ≡ frame_of message ++ after
  pub within : IsMessage message
  pub bad : server_in message ≡ Err fault

-- a message was read that the speaker judges so, and it was not taken
pub record Refuses (judges : ServerMessage → Judged) (why : Judged) (c : Conversation) : Type 0 where
  pub message : ServerMessage
  pub is : c.refused ≡ message ∷ []
  pub judged : judges message ≡ why
  pub more : length (heard c.events) < MOST_HEARD

-- the last call on the connection was a read that gave nothing, if the connection was made
abbrev pub IsDry : (tells : Type 0) → Connection → Type 0
IsDry tells conn = tells → conn.connected ≡ true → conn.dry ≡ true

-- no more can be taken of what was there: no whole message is left, and a read gave nothing more; or the next one is too large, malformed or not taken; or enough were heard
pub data IsDrained (judges : ServerMessage → Judged) (tells : Type 0) (c : Conversation) : Type 0 where
  Empty : c.refused ≡ [] → IsPartial c.rest → IsDry tells c.conn → IsDrained judges tells c
  Large : (n : ℕ) → c.refused ≡ [] → IsTooLong c.rest n → IsDrained judges tells c
  Bad : (fault : MsgFault) → c.refused ≡ [] → BeginsBad fault c.rest → IsDrained judges tells c
  Refused : (message : ServerMessage) → c.refused ≡ message ∷ [] → (judges message ≡ judged.Takes → ⊥) → IsDrained judges tells c
  Enough : c.refused ≡ [] → length (heard c.events) ≡ MOST_HEARD → IsDrained judges tells c

-- ---- Why it stopped

-- a write put nothing, and what had come was taken
pub record IsFull (judges : ServerMessage → Judged) (tells : Type 0) (c : Conversation) : Type 0 where
  pub full : HasRisen c.before.full c.after.full
  pub waits : c.after.waits ≡ c.before.waits
  pub drained : IsDrained judges tells c

-- nothing came though it was waited for, nothing more may be said, and all was said and heard
pub record IsSilent (quiet tells : Type 0) (c : Conversation) : Type 0 where
  pub waited : HasWaited c.before c.after
  pub unfailed : NoneFailed c.before c.after
  pub said_all : quiet
  pub idle : IsIdle tells c
  pub timely : AreInTime c.events

-- the connection's input ended, after sixteen messages or where nothing more may be said, and all was said and heard
pub record HasInputEnded (quiet tells : Type 0) (c : Conversation) : Type 0 where
  pub ended : tells → c.conn.ended ≡ true
  pub paused : HasPaused quiet c.events
  pub idle : IsIdle tells c

-- why a conversation stopped: by the link's counts and its input's end, by the message that was read, or by the message that was to be written
abbrev pub IsCausedBy : (judges : ServerMessage → Judged) (quiet tells : Type 0) → Cause → Conversation → Type 0
IsCausedBy judges quiet tells causes.Unreached c = HasRisen c.before.faults c.after.faults × (c.events ≡ [])
IsCausedBy judges quiet tells causes.NotYet c = IsFull judges tells c ⊎ IsSilent quiet tells c
IsCausedBy judges quiet tells causes.Ended c = HasInputEnded quiet tells c
IsCausedBy judges quiet tells causes.Failed c = HasRisen c.before.faults c.after.faults × IsDrained judges tells c
IsCausedBy judges quiet tells (causes.Said text) c = EndsWith text (heard c.events)
IsCausedBy judges quiet tells (causes.Malformed fault) c = BeginsBad fault c.rest × (length (heard c.events) < MOST_HEARD)
IsCausedBy judges quiet tells (causes.TooLarge n) c = IsTooLong c.rest n × (length (heard c.events) < MOST_HEARD)
IsCausedBy judges quiet tells (causes.Strange point) c = Refuses judges (judged.Strange point) c
IsCausedBy judges quiet tells (causes.LongId n) c = Refuses judges (judged.LongId n) c
IsCausedBy judges quiet tells causes.Chatter c = length (heard c.events) ≡ MOST_HEARD
IsCausedBy judges quiet tells (causes.TooLong n) c = PutsUpTo n tells c.conn.output (said c.events) × IsDrained judges tells c

-- no error and no abort was heard, but for the one that is the cause
abbrev pub IsSaid : Cause → List ServerMessage → Type 0
IsSaid (causes.Said text) messages = Unit {0}
IsSaid cause messages = AreGood messages

-- each message that was read was heard, but for the one that the cause names; where a call stopped it, the cause itself says what is left
abbrev pub IsHeard : Cause → (refused : List ServerMessage) → Type 0
IsHeard causes.Unreached refused = refused ≡ []
IsHeard causes.NotYet refused = Unit {0}
IsHeard causes.Ended refused = refused ≡ []
IsHeard causes.Failed refused = Unit {0}
IsHeard (causes.Said text) refused = refused ≡ []
IsHeard (causes.Malformed fault) refused = refused ≡ []
IsHeard (causes.TooLarge n) refused = refused ≡ []
IsHeard (causes.Strange point) refused = Unit {0}
IsHeard (causes.LongId n) refused = Unit {0}
IsHeard causes.Chatter refused = refused ≡ []
IsHeard (causes.TooLong n) refused = Unit {0}

-- no message was late, unless a write may have stopped
abbrev pub IsTimely : Cause → List Event → Type 0
IsTimely causes.Unreached events = AreInTime events
IsTimely causes.NotYet events = Unit {0}
IsTimely causes.Ended events = AreInTime events
IsTimely causes.Failed events = Unit {0}
IsTimely (causes.Said text) events = Unit {0}
IsTimely (causes.Malformed fault) events = AreInTime events
IsTimely (causes.TooLarge n) events = AreInTime events
IsTimely (causes.Strange point) events = AreInTime events
IsTimely (causes.LongId n) events = AreInTime events
IsTimely causes.Chatter events = AreInTime events
IsTimely (causes.TooLong n) events = Unit {0}

-- a write answered NotYet only where that is the cause, or an error or an abort came then; a read that may wait, where that is the cause
abbrev pub IsAwaited : Cause → (before after : LinkCounts) → Type 0
IsAwaited causes.NotYet before after = Unit {0}
IsAwaited (causes.Said text) before after = after.waits ≡ before.waits
IsAwaited cause before after = NoneWaited before after

-- no call failed, unless that is the cause, or a write may have stopped
abbrev pub IsUnfailed : Cause → (before after : LinkCounts) → Type 0
IsUnfailed causes.Unreached before after = Unit {0}
IsUnfailed causes.NotYet before after = Unit {0}
IsUnfailed causes.Failed before after = Unit {0}
IsUnfailed (causes.Said text) before after = Unit {0}
IsUnfailed (causes.TooLong n) before after = Unit {0}
IsUnfailed cause before after = NoneFailed before after

-- what the speaker wants then: to go on, or, where the input ended in the midst of a message, that end; else at least something
abbrev pub IsLeft : Cause → Wants → (rest : List ℕ) → Type 0
IsLeft causes.Unreached wanted rest = wanted ≡ wants.More
IsLeft causes.Ended wanted rest = (wanted ≡ wants.More) ⊎ ((wanted ≡ wants.End) × (rest ≢ []))
IsLeft (causes.TooLong n) wanted rest = wanted ≡ wants.More
IsLeft cause wanted rest = wanted ≢ wants.Nothing

-- the connection was made, unless that is the cause
abbrev pub is_made : Cause → Bool
is_made causes.Unreached = false
is_made cause = true

-- ---- How it ended

-- the last read waited in vain, for all of the connection's time: it had been renewed since the read before
pub record IsSilence (conn : Connection) : Type 0 where
  pub front : List Look
  pub look : Look
  pub are : conn.looks ≡ front ++ look ∷ []
  pub waited : look.waited ≡ true
  pub none : look.came ≡ 0
  pub renewed : 1 ≤ look.renewed

-- what the speaker wanted came: nothing more; or, with all heard that was read, the end of the connection's input, or silence
pub data HasCome (wanted : Wants) (tells : Type 0) (c : Conversation) : Type 0 where
  AtOnce : wanted ≡ wants.Nothing → NoneWaited c.before c.after → HasCome wanted tells c
  AtEnd : wanted ≡ wants.End → (tells → c.conn.ended ≡ true) → c.rest ≡ [] → NoneWaited c.before c.after → HasCome wanted tells c
  InSilence : wanted ≡ wants.End → (tells → IsSilence c.conn) → c.rest ≡ [] → HasWaited c.before c.after → HasCome wanted tells c

-- it ended since the speaker has what it wanted, with all put that was said
pub record IsOver (quiet : Type 0) (wanted : Wants) (tells : Type 0) (c : Conversation) : Type 0 where
  pub has : HasCome wanted tells c
  pub unfailed : NoneFailed c.before c.after
  pub more : wanted ≡ wants.End → length (heard c.events) < MOST_HEARD
  pub said_all : wanted ≡ wants.End → quiet
  pub puts : PutsWhole tells c.conn.output (said c.events)
  pub good : AreGood (heard c.events)
  pub left : c.refused ≡ []
  pub timely : AreInTime c.events
  pub made : tells → c.conn.connected ≡ true

-- it stopped for this cause, and the speaker doesn't have what it wanted
pub record IsStopped (judges : ServerMessage → Judged) (quiet : Type 0) (wanted : Wants) (tells : Type 0) (cause : Cause) (c : Conversation) : Type 0 where
  pub caused : IsCausedBy judges quiet tells cause c
  pub good : IsSaid cause (heard c.events)
  pub left : IsHeard cause c.refused
  pub timely : IsTimely cause c.events
  pub waited : IsAwaited cause c.before c.after
  pub unfailed : IsUnfailed cause c.before c.after
  pub wanting : IsLeft cause wanted c.rest
  pub made : tells → c.conn.connected ≡ is_made cause

-- nothing was said in the round in which it was heard or judged what ended the conversation
abbrev pub IsUnsaid : End → (events last : List Event) → Type 0
IsUnsaid (ends.Stopped (causes.Said text)) events last = AreInTime events → said last ≡ []
IsUnsaid (ends.Stopped (causes.Malformed fault)) events last = said last ≡ []
IsUnsaid (ends.Stopped (causes.TooLarge n)) events last = said last ≡ []
IsUnsaid (ends.Stopped (causes.Strange point)) events last = said last ≡ []
IsUnsaid (ends.Stopped (causes.LongId n)) events last = said last ≡ []
IsUnsaid (ends.Stopped causes.Chatter) events last = said last ≡ []
IsUnsaid end events last = Unit {0}

-- why it ended, with this speaker
abbrev pub EndsBy : {S W F : Type 0} → Manner S W F → (speaker : S) (tells : Type 0) → End → Conversation → Type 0
EndsBy manner speaker tells ends.Over c = IsOver (manner.quiet speaker) (manner.wants speaker) tells c
EndsBy manner speaker tells (ends.Stopped cause) c = IsStopped (manner.judges speaker) (manner.quiet speaker) (manner.wants speaker) tells cause c

-- a conversation on this connection that ended so, and made the speaker, and what it works on, what they are
pub record Ended {S W F : Type 0} (manner : Manner S W F) (tells : Type 0) (speaker : S) (world : W) (before after : LinkCounts) (conn : Connection) (end : End) : Type 0 where
  pub events : List Event
  pub talks : manner.talks speaker world events
  pub taken : AreTaken manner events
  pub refused : List ServerMessage
  pub rest : List ℕ
  pub matches : Matches manner tells (record { events = events; refused = refused; rest = rest; conn = conn; before = before; after = after })
  pub cause : EndsBy manner speaker tells end (record { events = events; refused = refused; rest = rest; conn = conn; before = before; after = after })
  pub unsaid : IsUnsaid end events matches.rounds.last

-- the speaker came so far, and memory ran out; or a call of it failed
abbrev pub FailsBy : {S W F : Type 0} → Manner S W F → S → W → TalkFault F → List Event → Type 0
FailsBy manner speaker world faults.NoMem events = manner.talks speaker world events
FailsBy manner speaker world (faults.Speaker fault) events = manner.fails speaker world events fault

-- a conversation on this connection that a fault ended
pub record Broke {S W F : Type 0} (manner : Manner S W F) (tells : Type 0) (speaker : S) (world : W) (before after : LinkCounts) (conn : Connection) (fault : TalkFault F) : Type 0 where
  pub events : List Event
  pub fails : FailsBy manner speaker world fault events
  pub taken : AreTaken manner events
  pub rest : List ℕ
  pub matches : Matches manner tells (record { events = events; refused = []; rest = rest; conn = conn; before = before; after = after })
  pub waited : after.waits ≡ before.waits
  pub made : tells → conn.connected ≡ true

-- ---- The connection

-- a connection is open on which nothing was read or written
pub record IsFresh (s : LinkState) : Type 0 where
  pub host : List ℕ
  pub is_open : s.now ≡ Some (unused host true)

-- the link has the same past connections, and the same one is open
pub record StaysOpen (old new : LinkState) : Type 0 where
  pub past : new.past ≡ old.past
  pub missed : new.missed ≡ old.missed
  pub host : (open_of new).host ≡ (open_of old).host
  pub connected : (open_of new).connected ≡ (open_of old).connected
  pub is_open : new.now ≡ Some (open_of new)

-- this connection to the host was added, and none is open; or one that wasn't made is missing, and that was counted, since the link is in memory and had no room for it
pub record Adds (host : List ℕ) (conn : Connection) (old new : LinkState) : Type 0 where
  pub is : conn.host ≡ host
  pub added : (new ≡ record old { past = all_of old ++ conn ∷ []; now = None }) ⊎ ((conn.connected ≡ false) × (new ≡ after_miss old))

-- a connection to the host was added, and this holds of it
pub record Ran (tells : Type 0) (host : List ℕ) (old new : LinkState) (Went : Connection → Type 0) : Type 0 where
  pub conn : Connection
  pub added : tells → Adds host conn old new
  pub went : Went conn
