-- Who hears a message.
use Rattle.std.specs.Prelude.{◌≡◌, ◌≢◌, List, []}
use Rattle.lsv_msg.specs.declared.messages.ServerMessage.{ServerMessage}
use Rattle.lsv_dialogue.specs.Events.{Event, AtEach}
use Rattle.lsv_dialogue.specs.Manner.{Manner}
use Rattle.lsv_dialogue.specs.declared.ends.Judged.TheVariants as judged
use Rattle.lsv_dialogue.specs.declared.ends.Wants.TheVariants as wants

-- these events made a speaker, and what it works on, and it is so
pub record Comes {S W F : Type 0} (manner : Manner S W F) (events : List Event) (Is : S → Type 0) : Type 0 where
  pub speaker : S
  pub world : W
  pub talks : manner.talks speaker world events
  pub is : Is speaker

-- the speaker wants something, and takes the message
pub record Takes {S W F : Type 0} (manner : Manner S W F) (m : ServerMessage) (speaker : S) : Type 0 where
  pub wanting : manner.wants speaker ≢ wants.Nothing
  pub takes : manner.judges speaker m ≡ judged.Takes

-- each message was heard by a speaker that takes it
abbrev pub AreTaken : {S W F : Type 0} → Manner S W F → List Event → Type 0
AreTaken manner events = AtEach (λ before m. Comes manner before (Takes manner m)) (λ before m. Comes manner before (Takes manner m)) [] events
