-- Passes in a row, one for each queue.
use Rattle.std.specs.Prelude.{◌≡◌, ◌<◌, ◌≤◌, ◌++◌, ℕ, true, false, List, Some, length, slice_get}
use Rattle.lsv_queue.specs.Settled.{AreRow, puts_at}
use Rattle.lsv_queue.specs.declared.queue.InPass.{InPass}
use Rattle.lsv_queue.specs.declared.queue.Queue.{Queue}
use Rattle.lsv_session.specs.declared.reply.Reply.{Reply}
use Rattle.lsv_links.specs.Turns.{replies_to}

module _ {T : Type 0} where
  -- one pass is another at a later time: it has the same queue and the same numbers
  pub record IsSender (p q : InPass T) : Type 0 where
    pub queue : q.queue ≡ p.queue
    pub number : q.list.number ≡ p.list.number
    pub made : q.list.made ≡ p.list.made

  -- a row of passes at a later time, for these queues: the first `ended` passes have ended, and the others haven't
  pub record ArePasses (queues : List (Queue T)) (first row : List (InPass T)) (ended : ℕ) : Type 0 where
    pub size : length row ≡ length first
    pub of_queues : AreRow queues row
    pub within : ended ≤ length row
    pub each : (k : ℕ) (p q : InPass T) → slice_get first k ≡ Some p → slice_get row k ≡ Some q → IsSender p q
    pub over : (k : ℕ) (q : InPass T) → slice_get row k ≡ Some q → k < ended → q.list.ended ≡ true
    pub going : (k : ℕ) (q : InPass T) → slice_get row k ≡ Some q → ended ≤ k → q.list.ended ≡ false

-- these replies were put besides, each by the pass at its worker's place
pub record Gives (queues : List (Queue Reply)) (old new : List (InPass Reply)) (replies : List Reply) : Type 0 where
  pub size : length new ≡ length old
  pub passes : (first : List (InPass Reply)) → ArePasses queues first old 0 → ArePasses queues first new 0
  pub puts : (w : ℕ) → w < length old → puts_at new w ≡ puts_at old w ++ replies_to w replies
