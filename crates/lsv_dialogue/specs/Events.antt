-- A conversation over a link: the messages that were heard and said, in order.
use Rattle.std.specs.Prelude.{◌≡◌, ◌⊎◌, ◌≤◌, ◌+◌, ℕ, List, [], ◌∷◌, ◌++◌, map, Option, Some, None}
use Rattle.std.specs.List.{flat_map, AllByRecursion}
use Rattle.lsv_wire.specs.Frame.{frame_of}
use Rattle.lsv_msg.specs.Messages.{client_bytes}
use Rattle.lsv_msg.specs.declared.messages.ClientMessage.{ClientMessage}
use Rattle.lsv_msg.specs.declared.messages.ServerMessage.{ServerMessage}
use Rattle.lsv_msg.specs.declared.messages.ServerMessage.TheVariants as server
use Rattle.lsv_dialogue.specs.declared.ends.TheConstants.{MOST_PUT}

-- ---- What was heard and said

-- a message of the server was heard, or a message to it was said; or a message of the server was heard too late: a write had stopped before it, and nothing is said after it
pub data Event : Type 0 where
  Heard : ServerMessage → Event
  Said : ClientMessage → Event
  Late : ServerMessage → Event

-- what was said, in order
abbrev pub said : List Event → List ClientMessage
said [] = []
said (Heard m ∷ events) = said events
said (Said m ∷ events) = m ∷ said events
said (Late m ∷ events) = said events

-- what was heard, in time or late, in order
abbrev pub heard : List Event → List ServerMessage
heard [] = []
heard (Heard m ∷ events) = m ∷ heard events
heard (Said m ∷ events) = heard events
heard (Late m ∷ events) = m ∷ heard events

-- these messages were said
abbrev pub all_said : List ClientMessage → List Event
all_said messages = map Said messages

-- this message was heard late
abbrev pub as_late : ServerMessage → List Event
as_late m = Late m ∷ []

-- this message was heard in time
abbrev pub as_heard : ServerMessage → List Event
as_heard m = Heard m ∷ []

-- the frames of what was said
abbrev pub frames_of : List ClientMessage → List ℕ
frames_of messages = flat_map (λ m. frame_of (client_bytes m)) messages

-- the text of an error or an abort
abbrev pub text_of : ServerMessage → Option (List ℕ)
text_of (server.Hello m) = None
text_of (server.CommitPoint t) = None
text_of (server.LogId id) = None
text_of (server.Error text) = Some text
text_of (server.Abort text) = Some text

-- none of these is an error or an abort
abbrev pub AreGood : List ServerMessage → Type 0
AreGood messages = AllByRecursion (λ m. text_of m ≡ None) messages

-- no message was heard late
abbrev pub AreInTime : List Event → Type 0
AreInTime [] = Unit {0}
AreInTime (Heard m ∷ events) = AreInTime events
AreInTime (Said m ∷ events) = AreInTime events
AreInTime (Late m ∷ events) = ⊥

-- these are all late
abbrev pub AreLate : List Event → Type 0
AreLate [] = Unit {0}
AreLate (Heard m ∷ events) = ⊥
AreLate (Said m ∷ events) = ⊥
AreLate (Late m ∷ events) = AreLate events

-- after a late message nothing is said, nor heard in time
abbrev pub IsLateLast : List Event → Type 0
IsLateLast [] = Unit {0}
IsLateLast (Heard m ∷ events) = IsLateLast events
IsLateLast (Said m ∷ events) = IsLateLast events
IsLateLast (Late m ∷ events) = AreLate events

-- ---- When a message was heard

-- each message that was heard in time stands so to the events before it, and each late one so; before: the events before these
abbrev pub AtEach : (InTime TooLate : List Event → ServerMessage → Type 0) → (before events : List Event) → Type 0
AtEach InTime TooLate before [] = Unit {0}
AtEach InTime TooLate before (Heard m ∷ events) = InTime before m × AtEach InTime TooLate (before ++ Heard m ∷ []) events
AtEach InTime TooLate before (Said m ∷ events) = AtEach InTime TooLate (before ++ Said m ∷ []) events
AtEach InTime TooLate before (Late m ∷ events) = TooLate before m × AtEach InTime TooLate (before ++ Late m ∷ []) events

-- how many messages were said after the last one that was heard; many: those before these events
abbrev pub said_since : (many : ℕ) → List Event → ℕ
said_since many [] = many
said_since many (Heard m ∷ events) = said_since 0 events
said_since many (Said m ∷ events) = said_since (many + 1) events
said_since many (Late m ∷ events) = said_since 0 events

-- nothing more may be said before a further message, or sixteen messages were said after the last one that was heard
abbrev pub HasPaused : (quiet : Type 0) → List Event → Type 0
HasPaused quiet events = quiet ⊎ (MOST_PUT ≤ said_since 0 events)
