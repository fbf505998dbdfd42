-- How a connection that has ended stands, by its bytes, jobs and replies.
use Rattle.std.specs.Prelude.{◌≡◌, ◌%◌, ℕ, Some, List}
use Rattle.std.specs.List.{Contains}
use Rattle.lsv_defs.specs.Pieces.{IsPrefix}
use Rattle.lsv_port.specs.Port.{LinkState, PortState}
use Rattle.lsv_session.specs.Transcript.{answers, bodies_of}
use Rattle.lsv_session.specs.declared.connection.ConnId.{ConnId}
use Rattle.lsv_session.specs.declared.job.Body.{Body}
use Rattle.lsv_session.specs.declared.job.Job.{Job}
use Rattle.lsv_session.specs.declared.reply.Reply.{Reply}
use Rattle.lsv_worker.specs.Incoming.{IsWhole}
use Rattle.lsv_links.specs.Lanes.{lane_of, share}
use Rattle.lsv_worker.specs.Links.{HasOwnCause, MayEnd}
use Rattle.lsv_worker.specs.Outgoing.{HasEarlyShut, HasShut}
use Rattle.lsv_worker.specs.Worker.{IsMade, conn_at, setting}
use Rattle.lsv_worker.specs.declared.incoming.Why.{Why}
use Rattle.lsv_worker.specs.declared.incoming.Why.TheVariants.{Ended, Refused, Shut, NoMemory}
use Rattle.lsv_worker.specs.declared.link.Phase.{Phase}
use Rattle.lsv_worker.specs.declared.worker.Worker.{Worker}

-- no more bytes of a link come, for a cause that holds now; if it was closed before Stop and before a port failure, for its own
pub record HasNoInput (phase : Phase) (c : ConnId) (s : LinkState) (replies : List Reply) : Type 0 where
  pub may_end : MayEnd phase s
  pub own_cause : HasOwnCause phase s (HasEarlyShut c replies)

-- what caused the end: no more bytes come, or a keeper shut the connection early; otherwise a job that reports a fault comes before it
abbrev pub IsCauseOf : Why → Phase → ConnId → LinkState → List Reply → Type 0
IsCauseOf Ended phase c s replies = HasNoInput phase c s replies
IsCauseOf Refused phase c s replies = Unit {0}
IsCauseOf Shut phase c s replies = HasEarlyShut c replies
IsCauseOf NoMemory phase c s replies = Unit {0}

-- All jobs of a connection whose Gone was put, by what was read of its link. Each went to the one lane that they decide. What was
-- written to its link is a prefix of its answers. lanes: the number of lanes
pub record Ends (lanes : ℕ) (phase : Phase) (c : ConnId) (s : LinkState) (jobs : ℕ → List Job) (replies : List Reply) : Type 0 where
  pub why : Why
  pub said : List Body
  pub whole : IsWhole why s.input said
  pub cause : IsCauseOf why phase c s replies
  pub lane : ℕ
  pub decided : lane_of lanes (c.seq % lanes) said ≡ Some lane
  pub put : (m : ℕ) → bodies_of c (jobs m) ≡ share (Some lane) m said
  pub output : IsPrefix s.output (answers c replies)
  pub shut : HasShut c replies

-- each connection that a worker made is that of a link that was opened, and has ended so
abbrev pub EachEnds : Worker → PortState → (ℕ → List Job) → List Reply → Type 0
EachEnds w port jobs replies = (k : ℕ) → IsMade (setting w) k → (l : ℕ) × Contains port.opened l × Ends w.lanes w.phase (conn_at (setting w) k) (port.link l) jobs replies
