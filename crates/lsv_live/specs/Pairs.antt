-- A pair: a client's link, and the link to the other server that was dialled for it.
use Rattle.std.specs.Prelude.{◌≡◌, ◌≢◌, ◌⊎◌, ℕ, ◌≤◌, length, codes, Bool, true, false, List, [], ◌++◌, Option, Some, None, Err}
use Rattle.lsv_msg.specs.Messages.{server_bytes}
use Rattle.lsv_msg.specs.declared.messages.ServerMessage.TheVariants as server
use Rattle.lsv_port.specs.Port.{LinkState, PortState}
use Rattle.lsv_request.specs.Refusals.{refusal_text}
use Rattle.lsv_request.specs.declared.refusal.Refusal.{Refusal}
use Rattle.lsv_request.specs.declared.refusal.Refusal.TheVariants as refusal
use Rattle.lsv_wire.specs.Frame.{IsMessage, IsPartial, IsTooLong, frame_of}
use Rattle.lsv_live.specs.Ends.{EndStands, IsOver}
use Rattle.lsv_live.specs.Meter.{start, judge, answer}
use Rattle.lsv_live.specs.Story.{Exchange, IsLawful, after, frames, heard, puts, up}
use Rattle.lsv_live.specs.declared.fault.LiveFault.{LiveFault}
use Rattle.lsv_live.specs.declared.fault.LiveFault.TheVariants as faults
use Rattle.lsv_live.specs.declared.meter.Meter.{Meter}
use Rattle.lsv_live.specs.declared.pair.Pair.{Pair}
use Rattle.lsv_live.specs.declared.trouble.Trouble.{Trouble}
use Rattle.lsv_live.specs.declared.trouble.Trouble.TheVariants.{Refused, TooLarge, RelayLost, BadUpstream, Told, NoMem}

-- ---- What a client is told

-- an error of this text, in its frame
abbrev pub error_frame : List ℕ → List ℕ
error_frame text = frame_of (server_bytes (server.Error text))

-- as what a client's message is refused that has this fault. The last three are no faults of a client's message
abbrev pub refusal_for : LiveFault → Refusal
refusal_for (faults.Malformed fault) = refusal.MalformedMessage
refusal_for faults.BadTime = refusal.BadTime
refusal_for (faults.TooLong point) = refusal.LogFull
refusal_for (faults.Strange point) = refusal.OutOfMemory
refusal_for faults.NoMem = refusal.OutOfMemory
refusal_for (faults.Long n) = refusal.OutOfMemory

-- the error that a client is told of a trouble. The other server's own error was passed on already
abbrev pub words : Option Trouble → List ℕ
words None = []
words (Some (Refused fault)) = error_frame (refusal_text (refusal_for fault))
words (Some TooLarge) = error_frame (refusal_text refusal.MessageTooLarge)
words (Some RelayLost) = error_frame (codes "relay lost")
words (Some BadUpstream) = error_frame (codes "bad upstream")
words (Some Told) = []
words (Some NoMem) = error_frame (refusal_text refusal.OutOfMemory)

-- ---- Why a trouble arose

-- a whole frame of this message stands at the front of these bytes
pub record InFront (body bytes : List ℕ) : Type 0 where
  pub rest : List ℕ
  pub is_message : IsMessage body
  pub whole : bytes ≡ frame_of body ++ rest

-- at the front of the client's bytes stands a message that is refused for this fault
abbrev pub RefusesClient : Meter → LiveFault → List ℕ → Type 0
RefusesClient m fault bytes = (body : List ℕ) × InFront body bytes × (judge m body ≡ Err fault)

-- at the front of these bytes stands a length above the limit of a frame
abbrev pub StatesTooMuch : List ℕ → Type 0
StatesTooMuch bytes = (stated : ℕ) × IsTooLong bytes stated

-- at the front of the other server's bytes stands what is refused
abbrev pub RefusesUpstream : Meter → List ℕ → Type 0
RefusesUpstream m bytes = StatesTooMuch bytes ⊎ ((body : List ℕ) × (fault : LiveFault) × InFront body bytes × (answer m body ≡ Err fault))

-- why a trouble arose
abbrev pub CauseOf : Option Trouble → Pair → LinkState → Type 0
CauseOf None p u = Unit {0}
CauseOf (Some (Refused fault)) p u = RefusesClient p.live fault p.client.rest
CauseOf (Some TooLarge) p u = StatesTooMuch p.client.rest
CauseOf (Some RelayLost) p u = (p.live.has_left ≡ false) × ((p.is_dialled ≡ false) ⊎ IsOver u)
CauseOf (Some BadUpstream) p u = RefusesUpstream p.live p.upstream.rest
CauseOf (Some Told) p u = p.live.has_ended ≡ true
CauseOf (Some NoMem) p u = Unit {0}

-- ---- A pair over its links

-- the link to the other server, if one was dialled
abbrev pub UpStands : Bool → Pair → LinkState → List Exchange → Type 0
UpStands true p u story = EndStands p.upstream u (frames (heard story)) (up story)
UpStands false p u story = (p.upstream.is_open ≡ false) × (p.upstream.unsent ≡ []) × (p.upstream.is_over ≡ true) × (story ≡ [])

-- a pair over its two links: what was passed on, in order
pub record PairStands (p : Pair) (c u : LinkState) : Type 0 where
  pub story : List Exchange
  pub lawful : IsLawful start story
  pub meter : p.live ≡ after start story
  pub client : EndStands p.client c (up story) (puts start story ++ words p.trouble)
  pub upstream : UpStands p.is_dialled p u story
  pub going : p.is_leaving ≡ false → p.trouble ≡ None
  pub dialled : p.is_leaving ≡ false → p.is_dialled ≡ true
  pub cause : CauseOf p.trouble p u

-- what is missing on a link was lost with the link
pub record IsWhole (p : Pair) : Type 0 where
  pub client : p.client.is_cut ≡ true → (p.client.is_open ≡ false) ⊎ (p.client.is_broken ≡ true)
  pub upstream : p.upstream.is_cut ≡ true → p.upstream.is_open ≡ false

-- the trouble that is told once the other server is lost: none if an exit or a reject was passed on before
abbrev pub lost_by : Bool → Option Trouble
lost_by true = None
lost_by false = Some RelayLost

-- all that the client sent was passed on and put, and no more comes
pub record IsFinished (p : Pair) : Type 0 where
  pub over : p.client.is_over ≡ true
  pub missing : p.client.is_missing ≡ false
  pub partial : IsPartial p.client.rest
  pub unsent : p.upstream.unsent ≡ []
  pub cut : p.upstream.is_cut ≡ false

-- why the pair does what it does, whether its port tells or not
pub record IsHearing (p : Pair) : Type 0 where
  -- before it leaves, all that comes is heard; then nothing more of the client
  pub client : p.is_leaving ≡ false → p.client.is_deaf ≡ false
  pub upstream : p.is_leaving ≡ false → p.upstream.is_deaf ≡ false
  pub client_whole : p.is_leaving ≡ false → p.client.is_missing ≡ false
  pub upstream_whole : p.upstream.is_missing ≡ true → p.trouble ≡ Some NoMem
  pub deaf : p.is_leaving ≡ true → p.client.is_deaf ≡ true
  pub going : p.is_leaving ≡ false → p.trouble ≡ None
  -- it leaves only if a trouble arose, or one of its links is over; and a link is closed only then, or if it failed
  pub why : p.is_leaving ≡ true → (p.trouble ≢ None) ⊎ ((p.client.is_over ≡ true) ⊎ (p.upstream.is_over ≡ true))
  pub client_closed : p.client.is_open ≡ false → (p.is_leaving ≡ true) ⊎ (p.client.is_broken ≡ true)
  pub upstream_closed : p.upstream.is_open ≡ false → (p.is_leaving ≡ true) ⊎ (p.upstream.is_over ≡ true)
  -- what is missing on a link is missing since it failed or was closed, or for want of memory, which is the trouble then
  pub client_cut : p.client.is_cut ≡ true → (p.client.is_broken ≡ true) ⊎ (p.trouble ≡ Some NoMem)
  pub upstream_cut : p.upstream.is_cut ≡ true → (p.upstream.is_open ≡ false) ⊎ (p.trouble ≡ Some NoMem)
  -- a client that is over isn't read again
  pub quiet : p.client.is_over ≡ true → p.client.is_open ≡ true → p.client.is_owed ≡ false
  -- the client is told that the other server is lost, unless an exit or a reject was passed on
  pub told : p.is_leaving ≡ true → p.upstream.is_over ≡ true → (p.trouble ≡ Some NoMem) ⊎ (p.trouble ≡ lost_by p.live.has_left)
  -- else a pair leaves without a trouble only once all was passed on
  pub finished : p.is_leaving ≡ true → p.trouble ≡ None → p.upstream.is_over ≡ false → IsFinished p

-- the trouble arose from what the other server said, or memory ran out
abbrev pub is_by_upstream : Option Trouble → Bool
is_by_upstream None = false
is_by_upstream (Some (Refused fault)) = false
is_by_upstream (Some TooLarge) = false
is_by_upstream (Some RelayLost) = false
is_by_upstream (Some BadUpstream) = true
is_by_upstream (Some Told) = true
is_by_upstream (Some NoMem) = true

-- each whole message that came was taken
pub record AllTaken (p : Pair) : Type 0 where
  pub client : p.is_leaving ≡ false → IsPartial p.client.rest
  pub upstream : is_by_upstream p.trouble ≡ false → IsPartial p.upstream.rest

-- the other server's messages were taken
abbrev pub IsSettled : Pair → Type 0
IsSettled p = is_by_upstream p.trouble ≡ false → IsPartial p.upstream.rest

-- the pair leaves once the other server is lost
abbrev pub IsNoticed : Pair → Type 0
IsNoticed p = p.is_leaving ≡ false → p.upstream.is_over ≡ false

-- it may leave for this trouble
pub record MayLeave (t : Trouble) (p : Pair) : Type 0 where
  pub going : p.is_leaving ≡ false
  pub heard : t ≢ NoMem → p.upstream.is_missing ≡ false
  pub whole : t ≢ NoMem → IsWhole p
  pub closed : p.client.is_open ≡ false → p.client.is_broken ≡ true
  pub quiet : p.client.is_over ≡ true → p.client.is_open ≡ true → p.client.is_owed ≡ false
  pub told : t ≢ NoMem → p.upstream.is_over ≡ true → (t ≡ RelayLost) × (p.live.has_left ≡ false)

-- the same links, as they were
pub record SameLinks (old new : Pair) : Type 0 where
  pub client : new.client.number ≡ old.client.number
  pub client_open : new.client.is_open ≡ old.client.is_open
  pub client_owed : new.client.is_owed ≡ old.client.is_owed
  pub client_over : new.client.is_over ≡ old.client.is_over
  pub client_broken : new.client.is_broken ≡ old.client.is_broken
  pub client_missing : new.client.is_missing ≡ old.client.is_missing
  pub upstream : new.upstream.number ≡ old.upstream.number
  pub upstream_open : new.upstream.is_open ≡ old.upstream.is_open
  pub upstream_owed : new.upstream.is_owed ≡ old.upstream.is_owed
  pub upstream_over : new.upstream.is_over ≡ old.upstream.is_over
  pub upstream_missing : new.upstream.is_missing ≡ old.upstream.is_missing
  pub dialled : new.is_dialled ≡ old.is_dialled

-- ---- A pair over a port

-- the pair stands over the links of a port
pub record PairAt (p : Pair) (port : PortState) : Type 0 where
  pub apart : p.is_dialled ≡ true → p.client.number ≢ p.upstream.number
  pub stands : PairStands p (port.link p.client.number) (port.link p.upstream.number)

-- no link of a port changed but those of a pair, and it is the same pair
pub record Touches (old new : Pair) (before after : PortState) : Type 0 where
  pub client : new.client.number ≡ old.client.number
  pub upstream : new.upstream.number ≡ old.upstream.number
  pub dialled : new.is_dialled ≡ old.is_dialled
  pub others : (m : ℕ) → m ≢ old.client.number → m ≢ old.upstream.number → after.link m ≡ before.link m
  pub opened : after.opened ≡ before.opened
  pub stopped : after.stopped ≡ before.stopped
  pub failed : after.failed ≡ before.failed

-- nothing is unsent of an open link that isn't full
pub record AreSent (p : Pair) (port : PortState) : Type 0 where
  pub client : p.client.is_open ≡ true → (port.link p.client.number).full ≡ false → p.client.unsent ≡ []
  pub upstream : p.upstream.is_open ≡ true → (port.link p.upstream.number).full ≡ false → p.upstream.unsent ≡ []

-- the same, of two links
pub record AreSentOn (p : Pair) (c u : LinkState) : Type 0 where
  pub client : p.client.is_open ≡ true → c.full ≡ false → p.client.unsent ≡ []
  pub upstream : p.upstream.is_open ≡ true → u.full ≡ false → p.upstream.unsent ≡ []

-- a link that is owed a read waits for its partner, to which 65,536 bytes or more are unsent
pub record IsCalm (p : Pair) : Type 0 where
  pub client : p.client.is_open ≡ true → p.client.is_owed ≡ true → 65536 ≤ length p.upstream.unsent
  pub upstream : p.upstream.is_open ≡ true → p.upstream.is_owed ≡ true → 65536 ≤ length p.client.unsent

-- this is one of its links
abbrev pub Has : Pair → ℕ → Type 0
Has p l = (p.client.number ≡ l) ⊎ ((p.is_dialled ≡ true) × (p.upstream.number ≡ l))

-- a link of which nothing was used yet: it is open
pub record IsNew (s : LinkState) : Type 0 where
  pub is_open : s.is_open ≡ true
  pub input : s.input ≡ []
  pub output : s.output ≡ []
  pub ended : s.ended ≡ false
  pub owed : s.owed ≡ true
  pub failed : s.failed ≡ false
  pub late : s.late ≡ false
