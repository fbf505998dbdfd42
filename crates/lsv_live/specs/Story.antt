-- What was passed on between a client and the other server, in the one order in which it was.
use Rattle.std.specs.Prelude.{◌≡◌, ℕ, Bool, true, false, List, [], ◌∷◌, ◌++◌, Result, Ok, Err}
use Rattle.std.specs.List.{flat_map}
use Rattle.lsv_wire.specs.Frame.{IsMessage, frame_of}
use Rattle.lsv_live.specs.Meter.{answer, heard_by, judge}
use Rattle.lsv_live.specs.declared.fault.LiveFault.{LiveFault}
use Rattle.lsv_live.specs.declared.live.Down.{Down}
use Rattle.lsv_live.specs.declared.live.Down.TheVariants.{Nothing, Put, Last}
use Rattle.lsv_live.specs.declared.meter.Meter.{Meter}

-- a message of the client was passed on, or one of the other server
pub data Exchange : Type 0 where
  Handed : (body : List ℕ) → Exchange
  Heard : (body : List ℕ) → Exchange

-- the messages of the client
abbrev pub handed : List Exchange → List (List ℕ)
handed [] = []
handed (Handed body ∷ story) = body ∷ handed story
handed (Heard body ∷ story) = handed story

-- the messages of the other server
abbrev pub heard : List Exchange → List (List ℕ)
heard [] = []
heard (Handed body ∷ story) = heard story
heard (Heard body ∷ story) = body ∷ heard story

-- the frames of these messages, one after another
abbrev pub frames : List (List ℕ) → List ℕ
frames bodies = flat_map frame_of bodies

-- the meter after what was judged, or as before if it was refused
abbrev pub or_same : Meter → Result Meter LiveFault → Meter
or_same m (Ok now) = now
or_same m (Err fault) = m

-- how far the client is after one exchange
abbrev pub next : Meter → Exchange → Meter
next m (Handed body) = or_same m (judge m body)
next m (Heard body) = heard_by m body

-- how far it is after all of these
abbrev pub after : Meter → List Exchange → Meter
after m [] = m
after m (x ∷ story) = after (next m x) story

-- the bytes that the client gets of what was answered
abbrev pub bytes_of : Result Down LiveFault → List ℕ
bytes_of (Ok Nothing) = []
bytes_of (Ok (Put frame)) = frame
bytes_of (Ok (Last frame)) = frame
bytes_of (Err fault) = []

-- the client gets no other message after it
abbrev pub is_last : Down → Bool
is_last Nothing = false
is_last (Put frame) = false
is_last (Last frame) = true

-- the bytes that the client gets of one exchange
abbrev pub put_for : Meter → Exchange → List ℕ
put_for m (Handed body) = []
put_for m (Heard body) = bytes_of (answer m body)

-- the bytes that it gets of all of these
abbrev pub puts : Meter → List Exchange → List ℕ
puts m [] = []
puts m (x ∷ story) = put_for m x ++ puts (next m x) story

-- the message is let through
abbrev pub MayCome : Meter → Exchange → Type 0
MayCome m (Handed body) = IsMessage body × ((now : Meter) × (judge m body ≡ Ok now))
MayCome m (Heard body) = IsMessage body × ((down : Down) × (answer m body ≡ Ok down))

-- each of these is let through in its turn
abbrev pub IsLawful : Meter → List Exchange → Type 0
IsLawful m [] = Unit {0}
IsLawful m (x ∷ story) = MayCome m x × IsLawful (next m x) story

-- what is put to the other server: the messages of the client, each in the frame that it came in
abbrev pub up : List Exchange → List ℕ
up story = frames (handed story)
