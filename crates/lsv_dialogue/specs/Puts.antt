-- How much of what was said was written.
use Rattle.std.specs.Prelude.{◌≡◌, ◌<◌, ℕ, List, [], ◌∷◌, ◌++◌, length}
use Rattle.std.specs.List.{AllByRecursion}
use Rattle.lsv_defs.specs.Pieces.{IsPrefix}
use Rattle.lsv_wire.specs.Frame.{IsMessage}
use Rattle.lsv_wire.specs.declared.framing.TheConstants.{FRAME_LIMIT}
use Rattle.lsv_msg.specs.Messages.{client_bytes}
use Rattle.lsv_msg.specs.declared.messages.ClientMessage.{ClientMessage}
use Rattle.lsv_dialogue.specs.Events.{Event, AtEach, frames_of, said}

-- no message is longer than a frame may be
abbrev pub AreSendable : List ClientMessage → Type 0
AreSendable messages = AllByRecursion (λ m. IsMessage (client_bytes m)) messages

-- all of these messages were written, each in its frame
pub record PutsWhole (tells : Type 0) (output : List ℕ) (messages : List ClientMessage) : Type 0 where
  pub sendable : AreSendable messages
  pub bytes : tells → output ≡ frames_of messages

-- the frames of the first ones were written, or a first part of these frames
pub record PutsPart (tells : Type 0) (output : List ℕ) (messages : List ClientMessage) : Type 0 where
  pub front : List ClientMessage
  pub unsent : List ClientMessage
  pub is : messages ≡ front ++ unsent
  pub sendable : AreSendable front
  pub bytes : tells → IsPrefix output (frames_of front)

-- all were written up to one that is longer than a frame may be, which has n bytes
pub record PutsUpTo (n : ℕ) (tells : Type 0) (output : List ℕ) (messages : List ClientMessage) : Type 0 where
  pub front : List ClientMessage
  pub long : ClientMessage
  pub unsent : List ClientMessage
  pub is : messages ≡ front ++ long ∷ unsent
  pub sendable : AreSendable front
  pub bytes : tells → output ≡ frames_of front
  pub size : n ≡ length (client_bytes long)
  pub above : FRAME_LIMIT < n

-- all of these messages were written before anything else, each in its frame
pub record PutsFirst (tells : Type 0) (output : List ℕ) (messages : List ClientMessage) : Type 0 where
  pub sendable : AreSendable messages
  pub bytes : tells → IsPrefix (frames_of messages) output

-- what had been said before a message that was heard in time was written whole
abbrev pub ArePutFirst : (tells : Type 0) (output : List ℕ) → List Event → Type 0
ArePutFirst tells output events = AtEach (λ before m. PutsFirst tells output (said before)) (λ before m. Unit {0}) [] events
