-- How a speaker speaks: what its calls make of it.
use Rattle.std.specs.Prelude.{List}
use Rattle.lsv_msg.specs.declared.messages.ServerMessage.{ServerMessage}
use Rattle.lsv_dialogue.specs.Events.{Event}
use Rattle.lsv_dialogue.specs.declared.ends.Judged.{Judged}
use Rattle.lsv_dialogue.specs.declared.ends.Wants.{Wants}

-- S is the speaker, W what it works on, F why a call of it fails
pub record Manner (S W F : Type 0) : Type 1 where
  -- these were heard and said: they made the speaker, and what it works on, what they are
  pub talks : S → W → List Event → Type 0
  -- the same up to a call that failed: the message that it was given, if any, is the last that was heard
  pub fails : S → W → List Event → F → Type 0
  -- what it makes of a message
  pub judges : S → ServerMessage → Judged
  -- the opening was handed out
  pub opened : S → Type 0
  -- nothing more may be said before a further message
  pub quiet : S → Type 0
  -- what it wants
  pub wants : S → Wants
