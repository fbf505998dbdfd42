-- What a lane's thread has.
use Rattle.std.specs.Prelude.{◌≡◌, ◌<◌, ◌++◌, ℕ, false, List, [], length}
use Rattle.lsv_queue.specs.Order.{marks_of}
use Rattle.lsv_queue.specs.Passes.{GapSeen, items_of}
use Rattle.lsv_queue.specs.Settled.{puts_at}
use Rattle.lsv_queue.specs.declared.queue.OutPass.{OutPass}
use Rattle.lsv_queue.specs.declared.queue.Queue.{Queue}
use Rattle.lsv_session.specs.declared.job.Job.{Job}
use Rattle.lsv_session.specs.declared.reply.Reply.{Reply}
use Rattle.lsv_links.specs.Turns.{replies_to}
use Rattle.lsv_turn.specs.Turns.{AreAskedIn, AreTaken, IsToThese, LaneTurn, jobs_in, replies_in}
use Rattle.lsv_turn.specs.declared.lane.Lane
use Rattle.lsv_threads.specs.Rows.{ArePasses}
use Rattle.lsv_threads.specs.declared.lane_side.LaneSide.{LaneSide}

-- the empty pop that a pass meets after what it took
abbrev pub gap_of : OutPass Job → GapSeen
gap_of pass = record { queue = pass.queue; at = length (items_of pass.taken.got) }

module _ {L : Type 0} (words : Lane.Ghosts L) where
  -- The turns that the lane made since this start. Their jobs, then those that it dropped, and then these are what its pass took.
  -- Their replies are what it gave. It drops jobs only after memory ran out.
  pub record Turned (start : words.Start) (side : LaneSide L) (more : List Job) : Type 0 where
    pub turns : List LaneTurn
    pub dropped : List Job
    pub made : words.made_by start side.lane turns
    pub are : AreTaken side.taken.queue 0 turns
    pub to_these : IsToThese (jobs_in turns) (replies_in turns)
    pub asked : words.tells → AreAskedIn turns
    pub jobs : items_of side.taken.taken.got ≡ jobs_in turns ++ (dropped ++ more)
    pub none : side.failed ≡ false → dropped ≡ []
    pub gave : (w : ℕ) → w < length side.given.items → puts_at side.given.items w ≡ replies_to w (replies_in turns)

  -- one side is another after some steps; these jobs were taken for a turn that is still to be made
  pub record IsTurning (outs : List (Queue Reply)) (first side : LaneSide L) (more : List Job) : Type 0 where
    pub number_is : side.number ≡ first.number
    pub passes : ArePasses outs first.given.items side.given.items side.ended
    pub queue : side.taken.queue ≡ first.taken.queue
    pub joined : side.taken.taken.joined ≡ first.taken.taken.joined
    pub begun : (start : words.Start) × Turned start side more
    pub turned : (start : words.Start) → Turned start first [] → Turned start side more

  -- one side is another after some steps
  abbrev pub IsFrom : List (Queue Reply) → LaneSide L → LaneSide L → Type 0
  IsFrom outs first side = IsTurning outs first side []

-- all its passes have ended, and it met this many end marks
pub record IsOver {L : Type 0} (workers : ℕ) (side : LaneSide L) : Type 0 where
  pub ended : side.ended ≡ length side.given.items
  pub marks : marks_of side.taken.taken.got ≡ workers
