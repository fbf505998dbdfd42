-- Length-prefixed framing (sudo_logsrv.proto(5)): each message stands after its length.
use Rattle.std.specs.Prelude.{◌≡◌, ◌⊎◌, ℕ, ◌+◌, ◌<◌, ◌≤◌, List, ◌++◌, length, take}
use Rattle.std.specs.List.{flat_map, AllByRecursion}
use Rattle.std.specs.Int.{w32, to_be_bytes, from_be_bytes}
use Rattle.lsv_wire.specs.declared.framing.TheConstants.{FRAME_LIMIT}

-- a message on the stream: its length in four bytes, the most significant first, and its bytes
abbrev pub frame_of : List ℕ → List ℕ
frame_of message = to_be_bytes w32 (length message) ++ message

-- no message is longer than this
abbrev pub IsMessage : List ℕ → Type 0
IsMessage message = length message ≤ FRAME_LIMIT

-- the length that the first four bytes state
abbrev pub stated_length : List ℕ → ℕ
stated_length bytes = from_be_bytes w32 (take 4 bytes)

-- a length within the limit stands in front, and fewer bytes than it states after it
pub record IsCutShort (bytes : List ℕ) : Type 0 where
  pub length_is_there : 4 ≤ length bytes
  pub within : stated_length bytes ≤ FRAME_LIMIT
  pub missing : length bytes < 4 + stated_length bytes

-- no whole frame, and no length above the limit
abbrev pub IsPartial : List ℕ → Type 0
IsPartial bytes = (length bytes < 4) ⊎ IsCutShort bytes

-- the first four bytes state this length, and it is above the limit
pub record IsTooLong (bytes : List ℕ) (stated : ℕ) : Type 0 where
  pub length_is_there : 4 ≤ length bytes
  pub states : stated_length bytes ≡ stated
  pub above : FRAME_LIMIT < stated

-- the frames of these messages, and then this rest
abbrev pub framed : List (List ℕ) → List ℕ → List ℕ
framed messages rest = flat_map frame_of messages ++ rest

-- the bytes are these messages and less than a whole frame
pub record Cut (bytes : List ℕ) (messages : List (List ℕ)) (rest : List ℕ) : Type 0 where
  pub whole : bytes ≡ framed messages rest
  pub each : AllByRecursion IsMessage messages
  pub partial : IsPartial rest

-- the bytes are these messages and then a length above the limit
pub record Over (bytes : List ℕ) (messages : List (List ℕ)) (stated : ℕ) : Type 0 where
  pub rest : List ℕ
  pub whole : bytes ≡ framed messages rest
  pub each : AllByRecursion IsMessage messages
  pub too_long : IsTooLong rest stated
