-- What was read, and when.
use Rattle.std.specs.Prelude.{◌≡◌, ◌≤◌, ◌<◌, ◌+◌, ℕ, nat_lt, if◌then◌else◌, List, [], ◌∷◌, ◌++◌, length, map, take, Ok}
use Rattle.std.specs.List.{flat_map, AllByRecursion}
use Rattle.lsv_link.specs.declared.connection.Connection.{Connection}
use Rattle.lsv_link.specs.declared.connection.Look.{Look}
use Rattle.lsv_wire.specs.Frame.{frame_of, IsMessage}
use Rattle.lsv_msg.specs.Messages.{server_in}
use Rattle.lsv_msg.specs.declared.messages.ClientMessage.{ClientMessage}
use Rattle.lsv_msg.specs.declared.messages.ServerMessage.{ServerMessage}
use Rattle.lsv_dialogue.specs.Events.{Event, AtEach, frames_of, heard, said}

-- the bytes are the frames of these messages, and then this rest
pub record HasHeard (input : List ℕ) (messages : List ServerMessage) (rest : List ℕ) : Type 0 where
  pub frames : List (List ℕ)
  pub whole : input ≡ flat_map frame_of frames ++ rest
  pub each : AllByRecursion IsMessage frames
  pub are : map server_in frames ≡ map (λ m. Ok m) messages

-- how many bytes the first n frames have
abbrev pub through : List (List ℕ) → (n : ℕ) → ℕ
through frames n = length (flat_map frame_of (take n frames))

-- how many bytes were read when fewer than n had been written
abbrev pub came_before : (n : ℕ) → List Look → ℕ
came_before n [] = 0
came_before n (look ∷ looks) = (if nat_lt look.put n then look.came else 0) + came_before n looks

-- how many bytes these reads gave
abbrev pub came_in_all : List Look → ℕ
came_in_all [] = 0
came_in_all (look ∷ looks) = look.came + came_in_all looks

-- these reads are in the order of what had been written before them, from the one count to the other
abbrev pub AreInOrder : (from upto : ℕ) → List Look → Type 0
AreInOrder from upto [] = from ≤ upto
AreInOrder from upto (look ∷ looks) = (from ≤ look.put) × AreInOrder look.put upto looks

-- the byte of this number was read when all of these messages had been written
abbrev pub IsReadAfter : List Look → (byte : ℕ) → List ClientMessage → Type 0
IsReadAfter looks byte messages = came_before (length (frames_of messages)) looks < byte

-- the last byte of each message that was heard in time was read when all that was said before it had been written
abbrev pub AreReadAfter : List Look → (frames : List (List ℕ)) → List Event → Type 0
AreReadAfter looks frames events = AtEach (λ before m. IsReadAfter looks (through frames (length (heard before) + 1)) (said before)) (λ before m. Unit {0}) [] events

-- what was read, read by read, are the frames of the messages heard, of the one that was not taken, and a rest, each in its time
pub record Hears (conn : Connection) (events : List Event) (refused : List ServerMessage) (rest : List ℕ) : Type 0 where
  pub sum : came_in_all conn.looks ≡ length conn.input
  pub order : AreInOrder 0 (length conn.output) conn.looks
  pub has : HasHeard conn.input (heard events ++ refused) rest
  pub after : AreReadAfter conn.looks has.frames events
