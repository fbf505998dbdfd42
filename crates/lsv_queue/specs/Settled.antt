-- Several queues with the same senders: each sender has a pass for each queue, in a row.
use Rattle.std.specs.Prelude.{◌≡◌, ◌<◌, ◌≤◌, ◌++◌, ◌==◌, ℕ, true, List, [], ◌∷◌, Option, Some, None, length, slice_get}
use Rattle.lsv_queue.specs.Order.{IsClosed, KnowsAll, after_joining, marks_of, bodies_from, taken, bodies_of}
use Rattle.lsv_queue.specs.Passes.{items_in, items_of}
use Rattle.lsv_queue.specs.declared.queue.InPass.{InPass}
use Rattle.lsv_queue.specs.declared.queue.OutPass.{OutPass}
use Rattle.lsv_queue.specs.declared.queue.Queue.{Queue}
use Rattle.lsv_queue.specs.declared.view.Letter.{Letter}
use Rattle.lsv_queue.specs.declared.view.Sent.{Sent}

module _ {T : Type 0} where
  -- ---- Passes and their queues

  -- a sender has one pass for each queue, in their order
  pub record AreRow (queues : List (Queue T)) (row : List (InPass T)) : Type 0 where
    pub size : length row ≡ length queues
    pub each : (k : ℕ) (q : Queue T) (p : InPass T) → slice_get queues k ≡ Some q → slice_get row k ≡ Some p → p.queue ≡ q.name

  -- each of these rows is one of a sender
  abbrev pub AreRows : List (Queue T) → List (List (InPass T)) → Type 0
  AreRows queues rows = (s : ℕ) (row : List (InPass T)) → slice_get rows s ≡ Some row → AreRow queues row

  -- each queue has its receiver's pass, in their order
  pub record AreReceivers (queues : List (Queue T)) (receivers : List (OutPass T)) : Type 0 where
    pub size : length receivers ≡ length queues
    pub each : (k : ℕ) (q : Queue T) (t : OutPass T) → slice_get queues k ≡ Some q → slice_get receivers k ≡ Some t → t.queue ≡ q.name

  -- what was put by this pass, or nothing
  abbrev pub puts_of : Option (InPass T) → List T
  puts_of None = []
  puts_of (Some p) = p.list.put

  -- what a sender put at the queue of this place
  abbrev pub puts_at : List (InPass T) → ℕ → List T
  puts_at row place = puts_of (slice_get row place)

  -- what the sender with this row, or nobody, put at the queue of this place
  abbrev pub given_at : ℕ → Option (List (InPass T)) → List T
  given_at place None = []
  given_at place (Some row) = puts_at row place

  -- ---- Joining

  -- the list of this pass, if there is one
  abbrev pub list_in : Option (InPass T) → List (Sent T)
  list_in None = []
  list_in (Some p) = p.list ∷ []

  -- the lists that the senders put at the queue of this place
  abbrev pub lists_at : ℕ → List (List (InPass T)) → List (Sent T)
  lists_at k [] = []
  lists_at k (row ∷ rows) = list_in (slice_get row k) ++ lists_at k rows

  -- the receivers know the lists of these rows besides
  pub record AreJoined (old new : List (OutPass T)) (rows : List (List (InPass T))) : Type 0 where
    pub size : length new ≡ length old
    pub each : (k : ℕ) (t u : OutPass T) → slice_get old k ≡ Some t → slice_get new k ≡ Some u → (u.queue ≡ t.queue) × (u.taken ≡ taken t.taken.got (t.taken.joined ++ lists_at k rows))

  -- the receivers know the lists of one row besides
  abbrev pub IsJoined : (old new : List (OutPass T)) (row : List (InPass T)) → Type 0
  IsJoined old new row = AreJoined old new (row ∷ [])

  -- the receivers know what they knew
  pub record AreSame (old new : List (OutPass T)) : Type 0 where
    pub size : length new ≡ length old
    pub each : (k : ℕ) (t u : OutPass T) → slice_get old k ≡ Some t → slice_get new k ≡ Some u → (u.queue ≡ t.queue) × (u.taken ≡ t.taken)

  -- each receiver has met the end marks of all numbers
  abbrev pub AreClosed : List (OutPass T) → Type 0
  AreClosed receivers = (k : ℕ) (t : OutPass T) → slice_get receivers k ≡ Some t → IsClosed t.taken

  -- the first n receivers know that their queues hold nothing
  abbrev pub AreKnown : List (OutPass T) → ℕ → Type 0
  AreKnown receivers n = (k : ℕ) (t : OutPass T) → k < n → slice_get receivers k ≡ Some t → KnowsAll t.taken []

  -- ---- The end

  -- each sender's passes have its number, the first one's know how many senders there are, and each receiver has met as many end marks and joined no list
  pub record AreReady (receivers : List (OutPass T)) (rows : List (List (InPass T))) : Type 0 where
    pub some : 1 ≤ length rows
    pub marks : (k : ℕ) (t : OutPass T) → slice_get receivers k ≡ Some t → (marks_of t.taken.got ≡ length rows) × (t.taken.joined ≡ [])
    pub numbers : (s k : ℕ) (row : List (InPass T)) (p : InPass T) → slice_get rows s ≡ Some row → slice_get row k ≡ Some p → p.list.number ≡ s
    pub made : (k : ℕ) (row : List (InPass T)) (p : InPass T) → slice_get rows 0 ≡ Some row → slice_get row k ≡ Some p → p.list.made ≡ length rows

  -- at each queue all that each sender put was taken, in its order, and nothing else
  pub record AreSettled (receivers : List (OutPass T)) (rows : List (List (InPass T))) : Type 0 where
    pub whole_of : (k s : ℕ) (t : OutPass T) (row : List (InPass T)) (p : InPass T) → slice_get receivers k ≡ Some t → slice_get rows s ≡ Some row → slice_get row k ≡ Some p → bodies_from s t.taken.got ≡ bodies_of p.list
    pub none_of : (k s : ℕ) (t : OutPass T) → slice_get receivers k ≡ Some t → length rows ≤ s → bodies_from s t.taken.got ≡ []

  -- each sender has a pass at this place
  abbrev pub ReachTo : ℕ → List (List (InPass T)) → Type 0
  ReachTo k rows = (s : ℕ) (row : List (InPass T)) → slice_get rows s ≡ Some row → k < length row

  -- what was taken is what each sender gave, in that sender's order, and nothing else
  pub record IsMerge (taken : List T) (given : ℕ → List T) : Type 0 where
    pub letters : List (Letter T)
    pub are : items_of letters ≡ taken
    pub each : (s : ℕ) → items_in (bodies_from s letters) ≡ given s
