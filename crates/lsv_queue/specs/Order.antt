-- The rule of the queue: over what it holds, the oldest first, and over what each pass knows.
use Rattle.std.specs.Prelude.{◌≡◌, ◌≢◌, ℕ, ◌+◌, ◌<◌, ◌≤◌, ◌==◌, Bool, true, false, List, [], ◌∷◌, ◌++◌, length, map, Option, Some, None, if◌then◌else◌}
use Rattle.std.specs.List.{filter_map}
use mathlib.Core.Option.{some}
use lib.ListN.{get_elem?}
use Rattle.lsv_queue.specs.declared.view.Letter.{Letter}
use Rattle.lsv_queue.specs.declared.view.Sent.{Sent}
use Rattle.lsv_queue.specs.declared.view.Taken.{Taken}
use Rattle.lsv_queue.specs.declared.view.View.{View}

-- the function of what is there, if something is
abbrev pub map_option : {A : Type 0} → (A → A) → Option A → Option A
map_option f None = None
map_option f (Some a) = Some (f a)

module _ {T : Type 0} where
  -- ---- Lists and letters

  -- the body of a letter, if it is of sender p
  abbrev pub body_from : ℕ → Letter T → Option (Option T)
  body_from p l = if l.from == p then Some l.body else None

  -- the bodies of sender p's letters among these, in order; None is the end mark
  abbrev pub bodies_from : ℕ → List (Letter T) → List (Option T)
  bodies_from p letters = filter_map (body_from p) letters

  -- a sender's whole list as bodies, with its end mark
  abbrev pub bodies_of : Sent T → List (Option T)
  bodies_of s = map Some s.put ++ (if s.ended then None ∷ [] else [])

  -- 0 for an end mark, nothing for an item
  abbrev pub mark_of : Option T → Option ℕ
  mark_of None = Some 0
  mark_of (Some x) = None

  -- the number of end marks among these letters
  abbrev pub marks_of : List (Letter T) → ℕ
  marks_of letters = length (filter_map (λ (l : Letter T). mark_of l.body) letters)

  -- nothing stands after an end mark
  abbrev pub EndsLast : List (Option T) → Type 0
  EndsLast [] = Unit {0}
  EndsLast (Some x ∷ bs) = EndsLast bs
  EndsLast (None ∷ bs) = bs ≡ []

  -- ---- What a pass knows

  -- a sender's list: its number, how many numbers it knows of, its items, and whether it has ended
  abbrev pub sent : ℕ → ℕ → List T → Bool → Sent T
  sent number made put ended = record { number = number; made = made; put = put; ended = ended }

  -- what was taken, and the lists that were joined
  abbrev pub taken : List (Letter T) → List (Sent T) → Taken T
  taken got joined = record { got = got; joined = joined }

  -- the view of a sender with this list
  abbrev pub sender : Sent T → View T
  sender s = record { list = Some s; taken = None }

  -- the view of a receiver that took this
  abbrev pub receiver : Taken T → View T
  receiver t = record { list = None; taken = Some t }

  -- the pass at this place knows this list
  abbrev pub HasList : List (View T) → ℕ → Sent T → Type 0
  HasList views pass s = (v : View T) × (get_elem? views pass ≡ some v) × (v.list ≡ Some s)

  -- the pass at this place knows that this was taken
  abbrev pub HasTaken : List (View T) → ℕ → Taken T → Type 0
  HasTaken views pass t = (v : View T) × (get_elem? views pass ≡ some v) × (v.taken ≡ Some t)

  -- ---- The rule

  -- of all letters so far, those of this list's number are this list; its number was given out; and the first sender knows how many were
  pub record IsListOf (all : List (Letter T)) (made : ℕ) (s : Sent T) : Type 0 where
    pub is_whole : bodies_from s.number all ≡ bodies_of s
    pub is_made : s.number < made
    pub knows_made : s.number ≡ 0 → s.made ≡ made

  -- of each sender, what was taken and then what the queue holds is its list; the list stands in the sender's pass or, once it was joined, in the receiver's
  pub record IsInOrder (items : List (Letter T)) (views : List (View T)) : Type 0 where
    pub reader : ℕ
    pub made : ℕ
    pub got : List (Letter T)
    pub lists : (pass : ℕ) (s : Sent T) → HasList views pass s → IsListOf (got ++ items) made s
    pub joined : (pass : ℕ) (t : Taken T) (k : ℕ) (s : Sent T) → HasTaken views pass t → get_elem? t.joined k ≡ some s → IsListOf (got ++ items) made s
    pub numbers_differ : (a b : ℕ) (s t : Sent T) → HasList views a s → HasList views b t → s.number ≡ t.number → a ≡ b
    pub joined_differ : (a b : ℕ) (s : Sent T) (t : Taken T) (k : ℕ) (u : Sent T) → HasList views a s → HasTaken views b t → get_elem? t.joined k ≡ some u → s.number ≢ u.number
    pub one_reader : (pass : ℕ) (t : Taken T) → HasTaken views pass t → (pass ≡ reader) × (t.got ≡ got)
    pub none_unmade : (p : ℕ) → made ≤ p → bodies_from p (got ++ items) ≡ []
    pub ends_last : (p : ℕ) → EndsLast (bodies_from p (got ++ items))

  -- ---- Steps

  -- the first view: the first sender's list, and nothing taken
  abbrev pub opening : View T
  opening = record { list = Some (sent 0 1 [] false); taken = Some (taken [] []) }

  -- the sender's part of a view
  abbrev pub as_sender : View T → View T
  as_sender v = record { list = v.list; taken = None }

  -- the receiver's part of a view
  abbrev pub as_receiver : View T → View T
  as_receiver v = record { list = None; taken = v.taken }

  -- the view of a pass that was joined
  abbrev pub spent : View T
  spent = record { list = None; taken = None }

  -- the first sender's list after one more number was given out
  abbrev pub one_more : Sent T → Sent T
  one_more s = sent s.number (s.made + 1) s.put s.ended

  -- a view after one more number was given out
  abbrev pub with_one_more : View T → View T
  with_one_more v = record { list = map_option one_more v.list; taken = v.taken }

  -- how many numbers a list knows of
  abbrev pub made_in : Option (Sent T) → ℕ
  made_in None = 0
  made_in (Some s) = s.made

  -- a new sender, with the next number and nothing put
  abbrev pub newcomer : View T → View T
  newcomer v = sender (sent (made_in v.list) 0 [] false)

  -- a list after an item, or its end mark, was put
  abbrev pub after_body : Option T → Sent T → Sent T
  after_body None s = sent s.number s.made s.put true
  after_body (Some x) s = sent s.number s.made (s.put ++ x ∷ []) s.ended

  -- a view after a letter was put
  abbrev pub with_letter : View T → Letter T → View T
  with_letter v l = record { list = map_option (after_body l.body) v.list; taken = v.taken }

  -- what was taken, with one letter more
  abbrev pub after_taking : Letter T → Taken T → Taken T
  after_taking l t = taken (t.got ++ l ∷ []) t.joined

  -- a view after a letter was taken
  abbrev pub with_taken : View T → Letter T → View T
  with_taken v l = record { list = v.list; taken = map_option (after_taking l) v.taken }

  -- what was taken, with one list more that was joined
  abbrev pub after_joining : Option (Sent T) → Taken T → Taken T
  after_joining None t = t
  after_joining (Some s) t = taken t.got (t.joined ++ s ∷ [])

  -- a view after another one's list was joined
  abbrev pub with_joined : View T → View T → View T
  with_joined v w = record { list = v.list; taken = map_option (after_joining w.list) v.taken }

  -- ---- What a step tells

  -- what the receiver knows of a joined list, if the queue holds these letters: what was taken and then these are the list; and the first sender's list tells of all numbers, so nothing comes of one that wasn't given out, and nothing is left after as many end marks as numbers
  pub record KnowsOf (t : Taken T) (items : List (Letter T)) (s : Sent T) : Type 0 where
    pub is_whole : bodies_from s.number (t.got ++ items) ≡ bodies_of s
    pub none_unmade : s.number ≡ 0 → (p : ℕ) → s.made ≤ p → bodies_from p (t.got ++ items) ≡ []
    pub none_left : s.number ≡ 0 → marks_of t.got ≡ s.made → items ≡ []

  -- the receiver knows this of each joined list
  abbrev pub KnowsAll : Taken T → List (Letter T) → Type 0
  KnowsAll t items = (k : ℕ) (s : Sent T) → get_elem? t.joined k ≡ some s → KnowsOf t items s

  -- the same of a view
  abbrev pub Knows : View T → List (Letter T) → Type 0
  Knows v items = (t : Taken T) → v.taken ≡ Some t → KnowsAll t items

  -- a letter was taken, and the receiver knows of the lists before and after
  abbrev pub TakesLetter : View T → Letter T → View T → Type 0
  TakesLetter v l w = (w ≡ with_taken v l) × ((items : List (Letter T)) × Knows v (l ∷ items) × Knows w items)

  -- the first sender's list was joined, and as many end marks were met as numbers were given out
  abbrev pub IsClosed : Taken T → Type 0
  IsClosed t = (k : ℕ) × (s : Sent T) × (get_elem? t.joined k ≡ some s) × (s.number ≡ 0) × (marks_of t.got ≡ s.made)

  -- the queue holds these letters, after some that were taken; those of this sender are its list
  abbrev pub HoldsRest : View T → List (Letter T) → Type 0
  HoldsRest v items = (s : Sent T) → v.list ≡ Some s → (got : List (Letter T)) × (bodies_from s.number (got ++ items) ≡ bodies_of s)
