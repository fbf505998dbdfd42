-- From the replies to a connection to the bytes on its link.
use Rattle.std.specs.Prelude.{◌≡◌, ◌≢◌, ◌⊎◌, ℕ, Bool, true, false, List, [], ◌∷◌, ◌++◌}
use Rattle.lsv_defs.specs.Pieces.{IsPrefix}
use Rattle.lsv_port.specs.Port.{LinkState, PortState}
use Rattle.lsv_session.specs.Connections.{same}
use Rattle.lsv_session.specs.declared.connection.ConnId.{ConnId}
use Rattle.lsv_session.specs.declared.reply.Reply.{Reply}
use Rattle.lsv_session.specs.declared.reply.ReplyBody.TheVariants as replies
use Rattle.lsv_worker.specs.declared.outgoing.Outgoing.{Outgoing}
use Rattle.lsv_worker.specs.declared.outgoing.Sending.{Sending}
use Rattle.lsv_worker.specs.declared.outgoing.Sending.TheVariants.{Open, Failed, OutOfMemory, Over}

-- what was written is a prefix of the answers; if replies are still sent, it makes all of them with what is unsent
abbrev pub PutOf : Sending → List ℕ → List ℕ → List ℕ → Type 0
PutOf Open unsent output answers = output ++ unsent ≡ answers
PutOf Failed unsent output answers = (unsent ≡ []) × IsPrefix output answers
PutOf OutOfMemory unsent output answers = (unsent ≡ []) × IsPrefix output answers
PutOf Over unsent output answers = (unsent ≡ []) × IsPrefix output answers

-- the same of the way out of a link
abbrev pub Sends : Outgoing → List ℕ → List ℕ → Type 0
Sends link output answers = PutOf link.sending link.unsent output answers

-- no reply was lost because memory ran out
abbrev pub kept_up : Sending → Bool
kept_up Open = true
kept_up Failed = true
kept_up OutOfMemory = false
kept_up Over = true

-- a reply that shuts this connection
pub record IsShutOf (c : ConnId) (reply : Reply) : Type 0 where
  pub conn : same reply.conn c ≡ true
  pub shut : reply.body ≡ replies.Shut

-- a reply that shuts this connection early, not because it ended
pub record IsEarlyShutOf (c : ConnId) (reply : Reply) : Type 0 where
  pub shut : IsShutOf c reply
  pub early : reply.last ≡ false

-- one of these replies shuts the connection
abbrev pub HasShut : ConnId → List Reply → Type 0
HasShut c [] = ⊥
HasShut c (reply ∷ replies) = IsShutOf c reply ⊎ HasShut c replies

-- one of these replies shuts the connection early
abbrev pub HasEarlyShut : ConnId → List Reply → Type 0
HasEarlyShut c [] = ⊥
HasEarlyShut c (reply ∷ replies) = IsEarlyShutOf c reply ⊎ HasEarlyShut c replies

-- after a reply that shuts the connection there is one more reply to it
pub record RepliesAfterShut (c : ConnId) (replies : List Reply) : Type 0 where
  pub before : List Reply
  pub reply : Reply
  pub after : List Reply
  pub whole : replies ≡ before ++ reply ∷ after
  pub shut : HasShut c before
  pub more : same reply.conn c ≡ true

-- the way in of a port's link didn't change
pub record SameInput (old new : LinkState) : Type 0 where
  pub is_open : new.is_open ≡ old.is_open
  pub input : new.input ≡ old.input
  pub ended : new.ended ≡ old.ended
  pub owed : new.owed ≡ old.owed
  pub reads : new.reads ≡ old.reads

-- only this link of a port changed, and the links that were open when it was opened stay the same
pub record Alone (l : ℕ) (old new : PortState) : Type 0 where
  pub others : (m : ℕ) → m ≢ l → new.link m ≡ old.link m
  pub beside : (new.link l).beside ≡ (old.link l).beside
  pub opened : new.opened ≡ old.opened
  pub stopped : new.stopped ≡ old.stopped
  pub failed : new.failed ≡ old.failed

-- what writing did to a link
pub record Writes (l : ℕ) (old new : Outgoing) (before after : PortState) : Type 0 where
  pub alone : Alone l before after
  pub input : SameInput (before.link l) (after.link l)
  pub goes : (answers : List ℕ) → Sends old (before.link l).output answers → Sends new (after.link l).output answers
