-- A queue and its passes as contracts see them.
use Rattle.std.specs.Prelude.{ℕ, false, List, [], Option, Some, None, slice_get}
use Rattle.std.specs.List.{filter_map}
use Rattle.atomic_table.specs.Seated.{TableId}
use Rattle.crossbeam_queue.specs.Passes.{Pass, view}
use Rattle.lsv_queue.specs.declared.view.Letter.{Letter}
use Rattle.lsv_queue.specs.declared.view.Sent.{Sent}
use Rattle.lsv_queue.specs.declared.view.Taken.{Taken}
use Rattle.lsv_queue.specs.declared.view.View.{View}
use Rattle.lsv_queue.specs.Order.{sent, taken}

-- a queue: its name, and how many letters it has room for
pub record QueueSeen : Type 0 where
  pub name : TableId
  pub capacity : ℕ

-- an empty queue that a receiver met: its name, and how many items had been taken of it by then
pub record GapSeen : Type 0 where
  pub queue : TableId
  pub at : ℕ

module _ (T : Type 0) where
  -- a sender's pass: the name of its queue, and its list
  pub record Sender : Type 0 where
    pub queue : TableId
    pub list : Sent T

  -- the receiver's pass: the name of its queue, and what it has taken
  pub record Receiver : Type 0 where
    pub queue : TableId
    pub taken : Taken T

module _ {T : Type 0} where
  -- what a pass of the kit's queue knows
  abbrev pub known : Pass (Letter T) (View T) → View T
  known p = view p

  -- the list that is there, or an empty one
  abbrev pub list_of : Option (Sent T) → Sent T
  list_of None = sent 0 0 [] false
  list_of (Some s) = s

  -- what was taken, or nothing
  abbrev pub taken_of : Option (Taken T) → Taken T
  taken_of None = taken [] []
  taken_of (Some t) = t

  -- the items among these letters, without end marks
  abbrev pub items_of : List (Letter T) → List T
  items_of letters = filter_map (λ (l : Letter T). l.body) letters

  -- the items among these bodies, without end marks
  abbrev pub items_in : List (Option T) → List T
  items_in bodies = filter_map (λ (b : Option T). b) bodies
