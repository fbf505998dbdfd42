-- Queues with the same senders, whose passes were dealt out and not used yet.
use Rattle.std.specs.Prelude.{◌≡◌, ◌≤◌, ◌<◌, ◌+◌, ℕ, false, List, [], Some, length, slice_get}
use Rattle.std.specs.declared.alloc.Global.{Global}
use Rattle.std.specs.declared.vec.Vec.{Vec}
use Rattle.lsv_queue.specs.Order.{sent, taken}
use Rattle.lsv_queue.specs.declared.queue.InPass.{InPass}
use Rattle.lsv_queue.specs.declared.queue.OutPass.{OutPass}
use Rattle.lsv_queue.specs.declared.queue.Queue.{Queue}

module _ {T : Type 0} where
  -- a pass of this queue, with this number, by which nothing was put
  pub record IsNew (number made : ℕ) (q : Queue T) (p : InPass T) : Type 0 where
    pub queue : p.queue ≡ q.name
    pub list : p.list ≡ sent number made [] false

  -- such a pass for each queue
  pub record AreNew (queues : List (Queue T)) (row : List (InPass T)) (number made : ℕ) : Type 0 where
    pub size : length row ≡ length queues
    pub each : (k : ℕ) (q : Queue T) (p : InPass T) → slice_get queues k ≡ Some q → slice_get row k ≡ Some p → IsNew number made q p

  -- the passes of number 0, of which the first `place` know of one number more
  pub record AreSplit (queues : List (Queue T)) (row : List (InPass T)) (made place : ℕ) : Type 0 where
    pub size : length row ≡ length queues
    pub below : (k : ℕ) (q : Queue T) (p : InPass T) → k < place → slice_get queues k ≡ Some q → slice_get row k ≡ Some p → IsNew 0 (made + 1) q p
    pub above : (k : ℕ) (q : Queue T) (p : InPass T) → place ≤ k → slice_get queues k ≡ Some q → slice_get row k ≡ Some p → IsNew 0 made q p

  -- such a pass for each of the first `place` queues
  pub record AreBegun (queues : List (Queue T)) (row : List (InPass T)) (number made place : ℕ) : Type 0 where
    pub size : length row ≡ place
    pub each : (k : ℕ) (q : Queue T) (p : InPass T) → slice_get queues k ≡ Some q → slice_get row k ≡ Some p → IsNew number made q p

  -- each sender has a row of new passes, and those of number 0 know how many senders there are
  pub record AreDealt (queues : List (Queue T)) (rows : List (Vec (InPass T) Global)) (senders : ℕ) : Type 0 where
    pub size : length rows ≡ senders
    pub first : (row : Vec (InPass T) Global) → slice_get rows 0 ≡ Some row → AreNew queues row.items 0 senders
    pub others : (s : ℕ) (row : Vec (InPass T) Global) → 1 ≤ s → slice_get rows s ≡ Some row → AreNew queues row.items s 0

  -- the receivers took nothing yet
  pub record AreUntaken (queues : List (Queue T)) (receivers : List (OutPass T)) : Type 0 where
    pub size : length receivers ≡ length queues
    pub each : (k : ℕ) (q : Queue T) (t : OutPass T) → slice_get queues k ≡ Some q → slice_get receivers k ≡ Some t → (t.queue ≡ q.name) × (t.taken ≡ taken [] [])
