-- The turns of a lane: what came in each, at which moment, and what was replied.
use Rattle.std.specs.Prelude.{◌≡◌, ◌≤◌, ◌<◌, ◌+◌, ◌&&◌, ◌++◌, ℕ, Bool, true, false, not, List, [], ◌∷◌, Option, Some, length, map}
use Rattle.std.specs.List.{flat_map, list_any}
use Rattle.atomic_table.specs.Seated.{TableId}
use Rattle.lsv_base.specs.declared.time.TimeSpec.{TimeSpec}
use Rattle.lsv_queue.specs.Passes.{GapSeen}
use Rattle.lsv_session.specs.Connections.{same}
use Rattle.lsv_session.specs.Transcript.{bodies_of}
use Rattle.lsv_session.specs.declared.connection.ConnId.{ConnId}
use Rattle.lsv_session.specs.declared.job.Body.{Body}
use Rattle.lsv_session.specs.declared.job.Body.TheVariants.{Gone}
use Rattle.lsv_session.specs.declared.job.Job.{Job}
use Rattle.lsv_session.specs.declared.reply.Reply.{Reply}
use Rattle.lsv_session.specs.declared.reply.ReplyBody.{ReplyBody}
use Rattle.lsv_session.specs.declared.reply.ReplyBody.TheVariants.{Say, Shut}

-- ---- A turn

-- what a tape tells of a turn: its moment, its jobs in order, and the empty pop at which its lane stopped taking jobs, if there was one
pub record TapeTurn : Type 0 where
  pub now : TimeSpec
  pub jobs : List Job
  pub gap : Option GapSeen

-- a turn: its moment, its jobs, the empty pop at which its lane stopped taking jobs, if there was one, and the replies, in order
pub record LaneTurn : Type 0 where
  pub now : TimeSpec
  pub jobs : List Job
  pub gap : Option GapSeen
  pub replies : List Reply

-- what a tape tells of it
abbrev pub taped : LaneTurn → TapeTurn
taped t = record { now = t.now; jobs = t.jobs; gap = t.gap }

-- what a tape tells of these turns
abbrev pub all_taped : List LaneTurn → List TapeTurn
all_taped turns = map taped turns

-- the jobs of these turns
abbrev pub jobs_in : List LaneTurn → List Job
jobs_in turns = flat_map (λ t. t.jobs) turns

-- their replies
abbrev pub replies_in : List LaneTurn → List Reply
replies_in turns = flat_map (λ t. t.replies) turns

-- ---- How large turns are

-- A turn has 1 to 256 jobs. If it has fewer than 256, its lane met this queue empty after `before` items and these jobs were taken.
pub record IsTaken (queue : TableId) (before : ℕ) (t : LaneTurn) : Type 0 where
  pub some : 1 ≤ length t.jobs
  pub most : length t.jobs ≤ 256
  pub gap : length t.jobs < 256 → t.gap ≡ Some (record { queue = queue; at = before + length t.jobs })

-- each of these turns is so, in order
abbrev pub AreTaken : TableId → ℕ → List LaneTurn → Type 0
AreTaken queue before [] = Unit {0}
AreTaken queue before (t ∷ turns) = IsTaken queue before t × AreTaken queue (before + length t.jobs) turns

-- ---- Shut

-- whether this shuts a connection
abbrev pub is_shut : ReplyBody → Bool
is_shut (Say message) = false
is_shut Shut = true

-- whether one of these replies shuts the connection, for another cause than that it went
abbrev pub shuts : ConnId → List Reply → Bool
shuts k replies = list_any (λ r. (same r.conn k && is_shut r.body) && not r.last) replies

-- ---- To whom replies go

-- no reply is to this connection
abbrev pub NoneFor : ConnId → List Reply → Type 0
NoneFor k [] = Unit {0}
NoneFor k (r ∷ replies) = (same r.conn k ≡ false) × NoneFor k replies

-- where the connection brings its end, it is the last of these
abbrev pub EndsWithGone : List Body → Type 0
EndsWithGone [] = Unit {0}
EndsWithGone (b ∷ bodies) = (b ≡ Gone → bodies ≡ []) × EndsWithGone bodies

-- none of these replies is to a connection that brought none of these jobs
abbrev pub IsToThese : List Job → List Reply → Type 0
IsToThese jobs replies = (k : ConnId) → bodies_of k jobs ≡ [] → NoneFor k replies

-- Each reply is to the connection of one of these jobs. A connection that brings nothing after its end gets nothing after its Shut.
pub record AreAsked (jobs : List Job) (replies : List Reply) : Type 0 where
  pub asked : IsToThese jobs replies
  pub behind : (k : ConnId) (before after : List Reply) (r : Reply) → EndsWithGone (bodies_of k jobs) → replies ≡ before ++ r ∷ after → same r.conn k ≡ true → r.body ≡ Shut → NoneFor k after

-- and so of these turns
abbrev pub AreAskedIn : List LaneTurn → Type 0
AreAskedIn turns = AreAsked (jobs_in turns) (replies_in turns)
