-- What an event is called, and when it has a line.
use Rattle.std.specs.Prelude.{◌≡◌, ◌≤◌, ℕ, List, [], ◌∷◌, ◌++◌, All, IsSome, decimal}
use Rattle.lsv_base.specs.Time.{nanos_of}
use Rattle.lsv_event.specs.declared.event.Event.{Event}
use Rattle.lsv_event.specs.declared.event.Event.TheVariants.{Accept, Reject, Alert, Exit}
use Rattle.lsv_event.specs.declared.event.Peer.{Peer}

-- the times of an event are valid
abbrev pub IsTimed : Event → Type 0
IsTimed (Accept at peer log head) = IsSome (nanos_of at) × IsSome (nanos_of head.submit)
IsTimed (Reject at peer reason head) = IsSome (nanos_of at) × IsSome (nanos_of head.submit)
IsTimed (Alert at peer reason head) = IsSome (nanos_of at) × IsSome (nanos_of head.submit)
IsTimed (Exit at peer log exit) = IsSome (nanos_of at) × IsSome (nanos_of exit.run)

-- a connection: its worker, a point, and its number there
abbrev pub peer_text : Peer → List ℕ
peer_text peer = decimal peer.worker ++ 46 ∷ decimal peer.seq

-- a line, with its line feed, whose other bytes are no control bytes of ASCII
abbrev pub IsOneLine : List ℕ → Type 0
IsOneLine line = (text : List ℕ) × (line ≡ text ++ 10 ∷ []) × All (λ byte. 32 ≤ byte) text

-- a line, with its line feed, whose other bytes are spaces and visible bytes of ASCII
abbrev pub IsVisible : List ℕ → Type 0
IsVisible line = (text : List ℕ) × (line ≡ text ++ 10 ∷ []) × All (λ byte. (32 ≤ byte) × (byte ≤ 126)) text
