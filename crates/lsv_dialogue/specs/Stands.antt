-- How a conversation stands between two pieces of it: what only the proofs need.
use Rattle.std.specs.Prelude.{◌≡◌, ◌≢◌, ◌⊎◌, ◌≤◌, ◌<◌, ◌+◌, ℕ, Bool, true, false, List, [], ◌∷◌, ◌++◌, ◌-◌, ◌||◌, length, take, MatchOption, Option, Some, None, Ok}
use Rattle.lsv_defs.specs.Causes.{HasRisen}
use Rattle.lsv_defs.specs.Pieces.{IsPrefix}
use Rattle.lsv_msg.specs.declared.messages.ServerMessage.{ServerMessage}
use Rattle.lsv_msg.specs.declared.messages.ClientMessage.{ClientMessage}
use Rattle.lsv_link.specs.declared.connection.Connection.{Connection}
use Rattle.lsv_link.specs.Link.{LinkCounts, LinkState, Continues, looks_after, open_of}
use Rattle.lsv_dialogue.specs.Events.{Event, AreGood, AreInTime, IsLateLast, frames_of, heard, said, said_since}
use Rattle.lsv_dialogue.specs.Hears.{Hears, came_before}
use Rattle.lsv_dialogue.specs.Manner.{Manner}
use Rattle.lsv_dialogue.specs.Progress.{is_progress, no_reach, one_if, progress, reach_after, reach_of}
use Rattle.lsv_dialogue.specs.Puts.{ArePutFirst, PutsPart, PutsUpTo, PutsWhole}
use Rattle.lsv_dialogue.specs.Rounds.{AreRenewals, GoesInRounds, IsUnput, events_of}
use Rattle.lsv_dialogue.specs.Taken.{AreTaken}
use Rattle.lsv_dialogue.specs.Ends.{BeginsBad, Broke, Ended, StaysOpen}
use Rattle.lsv_dialogue.specs.declared.ends.TheConstants.{MOST_HEARD, MOST_PUT}
use Rattle.lsv_dialogue.specs.declared.ends.Cause.{Cause}
use Rattle.lsv_dialogue.specs.declared.ends.Cause.TheVariants as causes
use Rattle.lsv_dialogue.specs.declared.ends.End.{End}
use Rattle.lsv_dialogue.specs.declared.ends.End.TheVariants as ends
use Rattle.lsv_dialogue.specs.declared.ends.TalkFault.{TalkFault}
use Rattle.lsv_dialogue.specs.declared.ends.Wants.{Wants}
use Rattle.lsv_dialogue.specs.declared.ends.Wants.TheVariants as wants
use Rattle.lsv_dialogue.specs.declared.talk.TheConstants.{BUFFER}
use Rattle.lsv_dialogue.specs.declared.talk.Halt.{Halt}
use Rattle.lsv_dialogue.specs.declared.talk.Halt.TheVariants as halts
use Rattle.lsv_dialogue.specs.declared.talk.Spoken.{Spoken}
use Rattle.lsv_dialogue.specs.declared.talk.Spoken.TheVariants as spoken
use Rattle.lsv_dialogue.specs.declared.talk.Talk.{Talk}
use Rattle.lsv_dialogue.specs.declared.put.Batch.{Batch}
use Rattle.lsv_dialogue.specs.declared.read.Next.{Next}
use Rattle.lsv_dialogue.specs.declared.read.Next.TheVariants as nexts
use Rattle.lsv_wire.specs.Frame.{frame_of, IsMessage, IsPartial, IsTooLong}
use Rattle.lsv_msg.specs.Messages.{server_in}

-- a link's counts, and what it tells
abbrev pub View : Type 0
View = LinkCounts × LinkState

-- ---- What a call makes of the link

-- the same reads were made, and it wasn't renewed since
pub record KeepsLooks (old new : Connection) : Type 0 where
  pub looks : new.looks ≡ old.looks
  pub renewed : new.renewed ≡ old.renewed

-- one read more was made, which gave n bytes
pub record AddsLook (wait : Bool) (n : ℕ) (old new : Connection) : Type 0 where
  pub looks : new.looks ≡ looks_after wait n old
  pub renewed : new.renewed ≡ 0

-- these bytes were written on the open connection, and nothing was read
pub record Writes (bytes : List ℕ) (old new : LinkState) : Type 0 where
  pub stays : StaysOpen old new
  pub output : (open_of new).output ≡ (open_of old).output ++ bytes
  pub input : (open_of new).input ≡ (open_of old).input
  pub looks : (open_of new).looks ≡ (open_of old).looks

-- nothing was written or read, and the connection was renewed at most n times
pub record RenewsFew (n : ℕ) (old new : LinkState) : Type 0 where
  pub writes : Writes [] old new
  pub renewed : (open_of new).renewed ≤ (open_of old).renewed + n

-- the open connection was renewed
pub record Renews (old new : LinkState) : Type 0 where
  pub stays : StaysOpen old new
  pub output : (open_of new).output ≡ (open_of old).output
  pub input : (open_of new).input ≡ (open_of old).input
  pub looks : (open_of new).looks ≡ (open_of old).looks
  pub renewed : (open_of new).renewed ≤ (open_of old).renewed + 1
  pub some : 1 ≤ (open_of new).renewed

-- why writing stopped, by the counts
abbrev pub IsHaltedBy : LinkCounts → LinkCounts → Halt → Type 0
IsHaltedBy before after halts.NotYet = HasRisen before.full after.full
IsHaltedBy before after halts.Failed = HasRisen before.faults after.faults
IsHaltedBy before after (halts.TooLong n) = Unit {0}

-- no count fell by a read; the faults rose only if it failed, and the waits only if it waited in vain
pub record HasLooked (failed came : Type 0) (before after : LinkCounts) : Type 0 where
  pub continues : Continues before after
  pub faults : (failed → ⊥) → after.faults ≡ before.faults
  pub full : after.full ≡ before.full
  pub waits : came → after.waits ≡ before.waits

-- no count fell by writing; the faults rose only if a write failed, and the full ones only if one put nothing
pub record HasPut (went took : Type 0) (before after : LinkCounts) : Type 0 where
  pub continues : Continues before after
  pub faults : went → after.faults ≡ before.faults
  pub full : took → after.full ≡ before.full
  pub waits : after.waits ≡ before.waits

-- ---- What was put

-- how much of these messages the bytes are
abbrev pub PutsBy : Option Halt → Type 0 → List ℕ → List ClientMessage → Type 0
PutsBy None tells output messages = PutsWhole tells output messages
PutsBy (Some halts.NotYet) tells output messages = PutsPart tells output messages
PutsBy (Some halts.Failed) tells output messages = PutsPart tells output messages
PutsBy (Some (halts.TooLong n)) tells output messages = PutsUpTo n tells output messages

-- some bytes were written of these messages, as the halt says, and the connection was renewed less often than there are messages
pub record PutsMore (halt : Option Halt) (tells : Type 0) (messages : List ClientMessage) (old new : LinkState) : Type 0 where
  pub bytes : List ℕ
  pub puts : PutsBy halt (Unit {0}) bytes messages
  pub less : (h : Halt) → halt ≡ Some h → length bytes < length (frames_of messages)
  pub wrote : tells → Writes bytes old new
  pub renewed : tells → (open_of new).renewed ≤ (open_of old).renewed + (length messages - 1)

-- why a conversation stops that is halted so
abbrev pub cause_of : Halt → Cause
cause_of halts.NotYet = causes.NotYet
cause_of halts.Failed = causes.Failed
cause_of (halts.TooLong n) = causes.TooLong n

-- why writing stopped, if it did
abbrev pub halt_of : Spoken → Option Halt
halt_of spoken.Quiet = None
halt_of (spoken.Said n) = None
halt_of (spoken.Halted halt) = Some halt

-- these messages were said after put others, and put as far as the link took them; the connection was renewed at most once for each
pub record Sends (put : ℕ) (said_so : Spoken) (tells : Type 0) (messages : List ClientMessage) (a b : View) : Type 0 where
  pub bytes : List ℕ
  pub puts : PutsBy (halt_of said_so) (Unit {0}) bytes messages
  pub less : (h : Halt) → said_so ≡ spoken.Halted h → length bytes < length (frames_of messages)
  pub stays : tells → StaysOpen a.1 b.1
  pub output : tells → (open_of b.1).output ≡ (open_of a.1).output ++ bytes
  pub input : tells → (open_of b.1).input ≡ (open_of a.1).input
  pub looks : tells → (open_of b.1).looks ≡ (open_of a.1).looks
  pub renewed : tells → (open_of b.1).renewed ≤ (open_of a.1).renewed + length messages
  pub some : (n : ℕ) → said_so ≡ spoken.Said n → tells → 1 ≤ length messages → 1 ≤ (open_of b.1).renewed
  pub older : (n : ℕ) → said_so ≡ spoken.Said n → tells → length messages ≡ 0 → (open_of a.1).renewed ≤ (open_of b.1).renewed
  pub count : (n : ℕ) → said_so ≡ spoken.Said n → n ≡ put + length messages
  pub loud : said_so ≢ spoken.Quiet
  pub why : (h : Halt) → said_so ≡ spoken.Halted h → IsHaltedBy a.0 b.0 h
  pub counts : HasPut (halt_of said_so ≢ Some halts.Failed) (halt_of said_so ≢ Some halts.NotYet) a.0 b.0

-- some of these bytes were written, all of them if that is so, and else not all; the connection was renewed at most n times
pub record WritesFront (tells whole : Type 0) (n : ℕ) (bytes : List ℕ) (old new : LinkState) : Type 0 where
  pub front : List ℕ
  pub is : IsPrefix front bytes
  pub all : whole → front ≡ bytes
  pub less : (whole → ⊥) → length front < length bytes
  pub wrote : tells → Writes front old new
  pub renewed : tells → (open_of new).renewed ≤ (open_of old).renewed + n

-- the bytes are the frames of these messages, up to one that is too long, if there is one
abbrev pub AreFrames : Option ℕ → List ℕ → List ClientMessage → Type 0
AreFrames None bytes messages = PutsWhole (Unit {0}) bytes messages
AreFrames (Some n) bytes messages = PutsUpTo n (Unit {0}) bytes messages

-- the batch has the frames of these messages
abbrev pub IsBatch : List ClientMessage → Batch → Type 0
IsBatch messages batch = AreFrames batch.too_long batch.bytes messages

-- ---- What was read

-- this message stands first in the bytes, and these after it
pub record BeginsWith (m : ServerMessage) (old new : List ℕ) : Type 0 where
  pub message : List ℕ
  pub within : IsMessage message
  pub framed : old ≡ frame_of message ++ new
  pub reads : server_in message ≡ Ok m

-- what stands next in the framer's bytes, and what is left of them
abbrev pub IsNext : Next → List ℕ → List ℕ → Type 0
IsNext (nexts.Message m) old new = BeginsWith m old new
IsNext nexts.Nothing old new = IsPartial old × (new ≡ old)
IsNext (nexts.Malformed fault) old new = BeginsBad fault old × (new ≡ old)
IsNext (nexts.TooLarge n) old new = IsTooLong old n × (new ≡ old)

-- some bytes were read, and the framer has them too, if it kept them; nothing was written. A read that failed is no look
pub record HasRead (tells kept failed : Type 0) (wait : Bool) (old new : List ℕ) (before after : LinkState) : Type 0 where
  pub more : List ℕ
  pub framer : kept → new ≡ old ++ more
  pub input : tells → (open_of after).input ≡ (open_of before).input ++ more
  pub output : tells → (open_of after).output ≡ (open_of before).output
  pub stays : tells → StaysOpen before after
  pub looked : tells → (failed → ⊥) → AddsLook wait (length more) (open_of before) (open_of after)
  pub none : tells → failed → (more ≡ []) × KeepsLooks (open_of before) (open_of after)

-- what was read before all that was written had been brings no whole message that isn't heard yet; if one is pending, it doesn't end there
abbrev pub Unheard : Connection → (pending : List ServerMessage) → (rest : List ℕ) → Type 0
Unheard conn [] rest = IsPartial (take ((came_before (length conn.output) conn.looks + length rest) - length conn.input) rest)
Unheard conn (m ∷ pending) rest = came_before (length conn.output) conn.looks + length rest < length conn.input

-- ---- How a conversation stands

-- in all states of a conversation that began with the link so: the events made the speaker what it is, and what was read are the messages heard, those pending, and the framer's bytes
pub record Holds {S W F : Type 0} (manner : Manner S W F) (tells : Type 0) (begun : View) (pending : List ServerMessage) (talk : Talk) (speaker : S) (world : W) (now : View) : Type 0 where
  pub events : List Event
  pub talks : manner.talks speaker world events
  pub taken : AreTaken manner events
  pub first : ArePutFirst tells (open_of now.1).output events
  pub good : AreGood (heard events)
  pub count : talk.heard ≡ length (heard events)
  pub few : length (heard events ++ pending) ≤ MOST_HEARD
  pub hears : tells → Hears (open_of now.1) events pending talk.framer
  pub rounds : GoesInRounds manner tells (open_of now.1) events
  pub late_last : IsLateLast events
  pub stays : tells → StaysOpen begun.1 now.1
  pub made : tells → (open_of now.1).connected ≡ true
  pub room : length talk.buffer.items ≡ BUFFER
  pub continues : Continues begun.0 now.0

-- the round that goes on: these were said in it, the talk knows how far the server came, and it may be renewed for what was progress
pub record InRound {S W F : Type 0} (manner : Manner S W F) (tells : Type 0) (conn : Connection) (events : List Event) (goes : GoesInRounds manner tells conn events) (put : ℕ) (talk : Talk) : Type 0 where
  pub put_is : put ≡ length (said goes.last)
  pub known : talk.known ≡ (reach_of no_reach events).known
  pub top : talk.top ≡ (reach_of no_reach events).top
  pub on_time : goes.late ≡ []
  pub spare : tells → AreRenewals (progress (reach_of no_reach (events_of goes.rounds)) goes.last) (conn.renewed + one_if talk.came)

-- how it stands while writing hasn't stopped: all that was said was written; put: the messages that were said in this round
pub record Stands {S W F : Type 0} (manner : Manner S W F) (tells : Type 0) (begun : View) (pending : List ServerMessage) (put : ℕ) (talk : Talk) (speaker : S) (world : W) (now : View) : Type 0 where
  pub holds : Holds manner tells begun pending talk speaker world now
  pub timely : AreInTime holds.events
  pub puts : PutsWhole tells (open_of now.1).output (said holds.events)
  pub faults : now.0.faults ≡ begun.0.faults
  pub full : now.0.full ≡ begun.0.full
  pub waits : now.0.waits ≡ begun.0.waits
  pub unheard : tells → Unheard (open_of now.1) pending talk.framer
  pub since : put ≤ said_since 0 holds.events
  pub round : InRound manner tells (open_of now.1) holds.events holds.rounds put talk

-- and the opening was handed out
pub record Speaks {S W F : Type 0} (manner : Manner S W F) (tells : Type 0) (begun : View) (pending : List ServerMessage) (put : ℕ) (talk : Talk) (speaker : S) (world : W) (now : View) : Type 0 where
  pub stands : Stands manner tells begun pending put talk speaker world now
  pub opened : manner.opened speaker

-- how it stands when writing has stopped
pub record Stopped {S W F : Type 0} (manner : Manner S W F) (tells : Type 0) (begun : View) (pending : List ServerMessage) (halt : Halt) (talk : Talk) (speaker : S) (world : W) (now : View) : Type 0 where
  pub holds : Holds manner tells begun pending talk speaker world now
  pub puts : PutsBy (Some halt) tells (open_of now.1).output (said holds.events)
  pub less : IsUnput tells (open_of now.1).output (said holds.events)
  pub why : IsHaltedBy begun.0 now.0 halt
  pub full : halt ≢ halts.NotYet → now.0.full ≡ begun.0.full
  pub waits : now.0.waits ≡ begun.0.waits
  pub wanting : manner.wants speaker ≡ wants.More
  pub opened : manner.opened speaker

-- a talk with nothing read or heard
pub record IsNew (talk : Talk) : Type 0 where
  pub framer : talk.framer ≡ []
  pub room : length talk.buffer.items ≡ BUFFER
  pub heard : talk.heard ≡ 0
  pub known : talk.known ≡ false
  pub top : talk.top ≡ 0
  pub came : talk.came ≡ false

-- the talk after a message was heard
abbrev pub noted : ServerMessage → Talk → Talk
noted m talk = record talk {
  heard = talk.heard + 1;
  known = (reach_after m (record { known = talk.known; top = talk.top })).known;
  top = (reach_after m (record { known = talk.known; top = talk.top })).top;
  came = talk.came || is_progress (record { known = talk.known; top = talk.top }) m;
}

-- a speaker that says nothing more before a further message, or said sixteen messages in this round
pub record Paused {S W F : Type 0} (manner : Manner S W F) (quiet : Bool) (put : ℕ) (speaker : S) : Type 0 where
  pub wanting : manner.wants speaker ≢ wants.Nothing
  pub still : quiet ≡ true → manner.quiet speaker
  pub full : quiet ≡ false → (MOST_PUT ≤ put) × (manner.wants speaker ≡ wants.More)

-- how it ends if nothing more comes, by what the speaker wants: for this cause, or with what it wanted, where that was full and no byte is left
abbrev pub EndsSo : Wants → (full : Bool) → Cause → (rest : List ℕ) → End → Type 0
EndsSo wanted full cause rest end =
    ((end ≡ ends.Over) × (wanted ≡ wants.End) × (full ≡ true) × (rest ≡ []))
    ⊎ ((end ≡ ends.Stopped cause) × (wanted ≡ wants.End → full ≡ true → rest ≢ []))

-- how it stands after something was said
abbrev pub SaidSo : {S W F : Type 0} → (manner : Manner S W F) (tells : Type 0) (begun : View) → Spoken → Talk → S → W → View → Type 0
SaidSo manner tells begun spoken.Quiet talk speaker world now = (put : ℕ) × Speaks manner tells begun [] put talk speaker world now × manner.quiet speaker
SaidSo manner tells begun (spoken.Said n) talk speaker world now = Speaks manner tells begun [] n talk speaker world now × (manner.wants speaker ≡ wants.More)
SaidSo manner tells begun (spoken.Halted halt) talk speaker world now = Stopped manner tells begun [] halt talk speaker world now

-- a conversation that ended so, over a link that stays open
pub record Finishes {S W F : Type 0} (manner : Manner S W F) (tells : Type 0) (begun : View) (speaker : S) (world : W) (now : View) (end : End) : Type 0 where
  pub stays : tells → StaysOpen begun.1 now.1
  pub ended : Ended manner tells speaker world begun.0 now.0 (open_of now.1) end

-- a conversation that broke off so, over a link that stays open
pub record Breaks {S W F : Type 0} (manner : Manner S W F) (tells : Type 0) (begun : View) (speaker : S) (world : W) (now : View) (fault : TalkFault F) : Type 0 where
  pub stays : tells → StaysOpen begun.1 now.1
  pub broke : Broke manner tells speaker world begun.0 now.0 (open_of now.1) fault

-- it goes on, with a new round, or ended so
abbrev pub Goes : {S W F : Type 0} → (manner : Manner S W F) (tells : Type 0) (begun : View) → Option End → Talk → S → W → View → Type 0
Goes manner tells begun end talk speaker world now = MatchOption end (Speaks manner tells begun [] 0 talk speaker world now) (Finishes manner tells begun speaker world now)

-- it goes on after writing has stopped, or ended so
abbrev pub GoesStopped : {S W F : Type 0} → (manner : Manner S W F) (tells : Type 0) (begun : View) → Halt → Option End → Talk → S → W → View → Type 0
GoesStopped manner tells begun halt end talk speaker world now = MatchOption end (Stopped manner tells begun [] halt talk speaker world now) (Finishes manner tells begun speaker world now)
