-- The items by a key that tells whose they are.
use Rattle.std.proofs.Common.{◌≡◌, ◌≢◌, ℕ, ◌==◌, Bool, true, false, List, [], ◌∷◌, ◌++◌, map, Option, Some, None, if◌then◌else◌, sym, refl, ap, ◌∙◌, subst, All, arith}
use Rattle.std.proofs.lemmas.Grind.{common_steps}
use Rattle.std.proofs.lemmas.List.Elements.{All-head, All-tail}
use Rattle.std.specs.List.{filter}
use mathlib.Core.Logic.{dite}
use native.Mathlib.Decide.{ℕ_discrete}
use Rattle.lsv_queue.specs.declared.view.Letter.{Letter}
use Rattle.lsv_queue.specs.declared.view.Sent.{Sent}
use Rattle.lsv_queue.specs.Order.{bodies_from, bodies_of}
use Rattle.lsv_queue.specs.Passes.{items_in, items_of}
use Rattle.lsv_queue.proofs.Ends.{of_here, of_else}

module _ {T : Type 0} where
  somes_put : (xs : List T) (bs : List (Option T)) → items_in bs ≡ [] → items_in (map Some xs ++ bs) ≡ xs
  somes_put [] bs e = e
  somes_put (x ∷ xs) bs e = ap (λ z. x ∷ z) (somes_put xs bs e)

  somes_end : (b : Bool) → items_in {T = T} (if b then None ∷ [] else []) ≡ []
  somes_end true = refl
  somes_end false = refl

  pub somes_whole : (s : Sent T) → items_in (bodies_of s) ≡ s.put
  somes_whole s = somes_put s.put (if s.ended then None ∷ [] else []) (somes_end s.ended)

module _ {T : Type 0} (key : T → ℕ) where
  abbrev pub Keyed : ℕ → List (Option T) → Type 0
  Keyed p [] = Unit {0}
  Keyed p (None ∷ bs) = Keyed p bs
  Keyed p (Some x ∷ bs) = (key x ≡ p) × Keyed p bs

  keyed_put : (p : ℕ) (xs : List T) (bs : List (Option T)) → All (λ x. key x ≡ p) xs → Keyed p bs → Keyed p (map Some xs ++ bs)
  keyed_put p [] bs h k = k
  keyed_put p (x ∷ xs) bs h k = (All-head (λ y. key y ≡ p) x xs h, keyed_put p xs bs (All-tail (λ y. key y ≡ p) x xs h) k)

  keyed_end : (p : ℕ) (b : Bool) → Keyed p (if b then None ∷ [] else [])
  keyed_end p true = tt
  keyed_end p false = tt

  pub keyed_whole : (p : ℕ) (s : Sent T) → All (λ x. key x ≡ p) s.put → Keyed p (bodies_of s)
  keyed_whole p s h = keyed_put p s.put (if s.ended then None ∷ [] else []) h (keyed_end p s.ended)

  key_here : (p : ℕ) (x : T) (xs : List T) → key x ≡ p → filter (λ y. key y == p) (x ∷ xs) ≡ x ∷ filter (λ y. key y == p) xs
  key_here p x xs e = grind (arith, common_steps)

  key_else : (p : ℕ) (x : T) (xs : List T) → key x ≢ p → filter (λ y. key y == p) (x ∷ xs) ≡ filter (λ y. key y == p) xs
  key_else p x xs e = grind (arith, common_steps)

  keyed_rest : (l : Letter T) (ls : List (Letter T)) (b : Option T) → l.body ≡ b → Keyed l.from (b ∷ bodies_from l.from ls) → Keyed l.from (bodies_from l.from ls)
  keyed_rest l ls None e h = h
  keyed_rest l ls (Some x) e h = h.1

  keyed_tail : (l : Letter T) (ls : List (Letter T)) → ((p : ℕ) → Keyed p (bodies_from p (l ∷ ls))) → (p : ℕ) → Keyed p (bodies_from p ls)
  keyed_tail l ls h p = dite (ℕ_discrete l.from p)
      (λ (e : l.from ≡ p). subst (λ (q : ℕ). Keyed q (bodies_from q ls)) e (keyed_rest l ls l.body refl (subst (λ (z : List (Option T)). Keyed l.from z) (of_here l ls) (h l.from))))
      (λ (ne : l.from ≢ p). subst (λ (z : List (Option T)). Keyed p z) (of_else p l ls ne) (h p))

  one_more_item : (p : ℕ) (l : Letter T) (ls : List (Letter T)) (b : Option T) → l.body ≡ b → Keyed l.from (b ∷ bodies_from l.from ls) → filter (λ x. key x == p) (items_of ls) ≡ items_in (bodies_from p ls)
      → filter (λ x. key x == p) (items_of (l ∷ ls)) ≡ items_in (bodies_from p (l ∷ ls))
  one_more_item p l ls None e h rest = dite (ℕ_discrete l.from p)
      (λ (q : l.from ≡ p). subst (λ (n : ℕ). filter (λ x. key x == n) (items_of ls) ≡ items_in (bodies_from n ls) → filter (λ x. key x == n) (items_of (l ∷ ls)) ≡ items_in (bodies_from n (l ∷ ls))) q
      (λ r. rw (of_here l ls, e) r) rest)
      (λ (ne : l.from ≢ p). rw (of_else p l ls ne, e) rest)
  one_more_item p l ls (Some x) e h rest = dite (ℕ_discrete l.from p)
      (λ (q : l.from ≡ p). subst (λ (n : ℕ). filter (λ x. key x == n) (items_of ls) ≡ items_in (bodies_from n ls) → filter (λ x. key x == n) (items_of (l ∷ ls)) ≡ items_in (bodies_from n (l ∷ ls))) q
      (λ r. rw (of_here l ls, e) (key_here l.from x (items_of ls) h.0 ∙ ap (λ z. x ∷ z) r)) rest)
      (λ (ne : l.from ≢ p). rw (of_else p l ls ne, e) (key_else p x (items_of ls) (λ k. ne (sym h.0 ∙ k)) ∙ rest))

  -- where each item's key is its sender's number, the items with the key p are what sender p put
  pub by_key : (ls : List (Letter T)) → ((p : ℕ) → Keyed p (bodies_from p ls)) → (p : ℕ) → filter (λ x. key x == p) (items_of ls) ≡ items_in (bodies_from p ls)
  by_key [] h p = refl
  by_key (l ∷ ls) h p = one_more_item p l ls l.body refl (subst (λ (z : List (Option T)). Keyed l.from z) (of_here l ls) (h l.from)) (by_key ls (keyed_tail l ls h) p)
