-- What a pop makes of the receiver's pass.
use Rattle.std.proofs.Common.{◌≡◌, ℕ, ◌+◌, List, [], ◌∷◌, ◌++◌, length, Some, None, sym, refl, ap, ◌∙◌, subst}
use Rattle.std.proofs.lemmas.List.{append-nil, length-append, nil_from_length}
use Rattle.std.proofs.lemmas.List.Elements.{filter_map-append}
use Rattle.crossbeam_queue.specs.Fifo.{Held}
use Rattle.lsv_queue.specs.declared.view.Letter.{Letter}
use Rattle.lsv_queue.specs.declared.view.Taken.{Taken}
use Rattle.lsv_queue.specs.declared.view.View.{View}
use Rattle.lsv_queue.specs.Order.{receiver, after_taking, with_taken, KnowsAll, Knows, TakesLetter, IsClosed, marks_of}
use Rattle.lsv_queue.specs.Passes.{taken_of, items_of}

module _ {T : Type 0} where
  pub items_item : (got : List (Letter T)) (l : Letter T) (x : T) → l.body ≡ Some x → items_of (got ++ l ∷ []) ≡ items_of got ++ x ∷ []
  items_item got l x b = rw (filter_map-append, b) refl

  pub items_mark : (got : List (Letter T)) (l : Letter T) → l.body ≡ None → items_of (got ++ l ∷ []) ≡ items_of got
  items_mark got l b = rw (filter_map-append, b) (append-nil (items_of got))

  marks_item : (got : List (Letter T)) (l : Letter T) (x : T) → l.body ≡ Some x → marks_of (got ++ l ∷ []) ≡ marks_of got
  marks_item got l x b = rw (filter_map-append, b) (ap length (append-nil _))

  marks_mark : (got : List (Letter T)) (l : Letter T) → l.body ≡ None → marks_of (got ++ l ∷ []) ≡ marks_of got + 1
  marks_mark got l b = rw (filter_map-append, b) (length-append _ (0 ∷ []))

  after_pop : (v w : View T) (l : Letter T) → v ≡ receiver (taken_of v.taken) → w ≡ with_taken v l → w ≡ receiver (after_taking l (taken_of v.taken))
  after_pop v w l inv e = e ∙ ap (λ (u : View T). with_taken u l) inv

  pub takes_item : (v w : View T) (l : Letter T) (x : T) (n m : ℕ) → v ≡ receiver (taken_of v.taken) → w ≡ with_taken v l → l.body ≡ Some x
      → n ≡ length (items_of (taken_of v.taken).got) → m ≡ marks_of (taken_of v.taken).got
      → (w ≡ receiver (taken_of w.taken)) × (n + 1 ≡ length (items_of (taken_of w.taken).got)) × (m ≡ marks_of (taken_of w.taken).got)
  takes_item v w l x n m inv e b count marks =
      let got : List (Letter T) = (taken_of v.taken).got in
      subst (λ (u : View T). (u ≡ receiver (taken_of u.taken)) × (n + 1 ≡ length (items_of (taken_of u.taken).got)) × (m ≡ marks_of (taken_of u.taken).got)) (sym (after_pop v w l inv e))
      (refl, ap (λ (k : ℕ). k + 1) count ∙ sym (ap length (items_item got l x b) ∙ length-append (items_of got) (x ∷ [])), marks ∙ sym (marks_item got l x b))

  pub takes_mark : (v w : View T) (l : Letter T) (n m : ℕ) → v ≡ receiver (taken_of v.taken) → w ≡ with_taken v l → l.body ≡ None
      → n ≡ length (items_of (taken_of v.taken).got) → m ≡ marks_of (taken_of v.taken).got
      → (w ≡ receiver (taken_of w.taken)) × (n ≡ length (items_of (taken_of w.taken).got)) × (m + 1 ≡ marks_of (taken_of w.taken).got)
  takes_mark v w l n m inv e b count marks =
      let got : List (Letter T) = (taken_of v.taken).got in
      subst (λ (u : View T). (u ≡ receiver (taken_of u.taken)) × (n ≡ length (items_of (taken_of u.taken).got)) × (m + 1 ≡ marks_of (taken_of u.taken).got)) (sym (after_pop v w l inv e))
      (refl, count ∙ sym (ap length (items_mark got l b)), ap (λ (k : ℕ). k + 1) marks ∙ sym (marks_mark got l b))

  pub known_behind : (v w : View T) (l : Letter T) → v ≡ receiver (taken_of v.taken) → TakesLetter v l w → (rest : List (Letter T)) × KnowsAll (taken_of w.taken) rest
  known_behind v w l inv e = let is : w ≡ receiver (after_taking l (taken_of v.taken)) = after_pop v w l inv e.0 in
      let t : Taken T = after_taking l (taken_of v.taken) in
      (e.1.0, e.1.2 (taken_of w.taken) (ap (λ (u : View T). u.taken) is ∙ ap (λ (u : View T). Some (taken_of u.taken)) (sym is)))

  -- nothing is taken once the lists are closed
  pub taken_open : (v w : View T) (l : Letter T) → v ≡ receiver (taken_of v.taken) → TakesLetter v l w → IsClosed (taken_of v.taken) → ⊥
  taken_open v w l inv e closed = let none : l ∷ e.1.0 ≡ [] = (e.1.1 (taken_of v.taken) (ap (λ (u : View T). u.taken) inv) closed.0 closed.1 closed.2).none_left closed.3 closed.4 in cc

  pub known_at_gap : (v w : View T) → v ≡ receiver (taken_of v.taken) → w ≡ v → Held 0 (Knows v) → KnowsAll (taken_of w.taken) []
  known_at_gap v w inv same held = let none : held.0 ≡ [] = nil_from_length held.0 held.1 in
      subst (λ (y : View T × List (Letter T)). KnowsAll (taken_of y.0.taken) y.1) (λ i. (sym same i, none i)) (held.2 (taken_of v.taken) (ap (λ (u : View T). u.taken) inv))
