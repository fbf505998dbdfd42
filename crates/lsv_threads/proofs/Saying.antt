-- What is said to one connection, if one lane alone replies to it.
use Rattle.std.proofs.Common.{◌≡◌, ◌≢◌, ℕ, Bool, true, false, Some, None, Option, List, [], ◌∷◌, refl, sym, ap, ◌∙◌, subst}
use Rattle.std.specs.Prelude.{if◌then◌else◌}
use mathlib.Core.Logic.{dite}
use native.Mathlib.Decide.{ℕ_discrete}
use Rattle.lsv_queue.specs.Order.{bodies_from}
use Rattle.lsv_queue.specs.Passes.{items_in, items_of}
use Rattle.lsv_queue.specs.Settled.{IsMerge}
use Rattle.lsv_queue.specs.declared.view.Letter.{Letter}
use Rattle.lsv_queue.proofs.Ends.{of_else, of_here}
use Rattle.lsv_session.specs.Connections.{same}
use Rattle.lsv_session.specs.declared.connection.ConnId.{ConnId}
use Rattle.lsv_session.specs.declared.reply.Reply.{Reply}
use Rattle.lsv_turn.specs.Turns.{NoneFor}

-- the replies to one connection
abbrev pub replies_for : ConnId → List Reply → List Reply
replies_for k [] = []
replies_for k (r ∷ rs) = if same r.conn k then r ∷ replies_for k rs else replies_for k rs

pub none_for : (k : ConnId) (rs : List Reply) → NoneFor k rs → replies_for k rs ≡ []
none_for k [] h = refl
none_for k (r ∷ rs) h = ap (λ (b : Bool). if b then r ∷ replies_for k rs else replies_for k rs) h.0 ∙ none_for k rs h.1

if_none : (b : Bool) (r : Reply) (xs : List Reply) → (if b then r ∷ xs else xs) ≡ [] → (b ≡ false) × (xs ≡ [])
if_none true r xs e = absurd cc
if_none false r xs e = (refl, e)

pub for_none : (k : ConnId) (rs : List Reply) → replies_for k rs ≡ [] → NoneFor k rs
for_none k [] e = tt
for_none k (r ∷ rs) e = let h = if_none (same r.conn k) r (replies_for k rs) e in (h.0, for_none k rs h.1)

module _ (k : ConnId) (l : ℕ) where
  abbrev pub AreSilent : List (Letter Reply) → Type 0
  AreSilent letters = (m : ℕ) → m ≢ l → replies_for k (items_in (bodies_from m letters)) ≡ []

  silent_rest : (x : Letter Reply) (xs : List (Letter Reply)) (b : Option Reply) → replies_for k (items_in (b ∷ bodies_from x.from xs)) ≡ [] → replies_for k (items_in (bodies_from x.from xs)) ≡ []
  silent_rest x xs None h = h
  silent_rest x xs (Some r) h = (if_none (same r.conn k) r (replies_for k (items_in (bodies_from x.from xs))) h).1

  silent_tail : (x : Letter Reply) (xs : List (Letter Reply)) → AreSilent (x ∷ xs) → AreSilent xs
  silent_tail x xs h m ne = dite (ℕ_discrete x.from m)
      (λ (e : x.from ≡ m). subst (λ (n : ℕ). replies_for k (items_in (bodies_from n xs)) ≡ []) e
      (silent_rest x xs x.body (subst (λ (z : List (Option Reply)). replies_for k (items_in z) ≡ []) (of_here x xs) (subst (λ (n : ℕ). replies_for k (items_in (bodies_from n (x ∷ xs))) ≡ []) (sym e) (h m ne)))))
      (λ (no : x.from ≢ m). subst (λ (z : List (Option Reply)). replies_for k (items_in z) ≡ []) (of_else m x xs no) (h m ne))

  said_here : (x : Letter Reply) (xs : List (Letter Reply)) (b : Option Reply) → x.body ≡ b → replies_for k (items_of xs) ≡ replies_for k (items_in (bodies_from l xs)) → replies_for k (items_of (x ∷ xs)) ≡ replies_for k (items_in (b ∷ bodies_from l xs))
  said_here x xs None e rest = rw e rest
  said_here x xs (Some r) e rest = rw e (ap (λ (z : List Reply). if same r.conn k then r ∷ z else z) rest)

  said_else : (x : Letter Reply) (xs : List (Letter Reply)) (b : Option Reply) → x.body ≡ b → replies_for k (items_in (b ∷ bodies_from x.from xs)) ≡ [] → replies_for k (items_of xs) ≡ replies_for k (items_in (bodies_from l xs)) → replies_for k (items_of (x ∷ xs)) ≡ replies_for k (items_in (bodies_from l xs))
  said_else x xs None e h rest = rw e rest
  said_else x xs (Some r) e h rest =
      let no : same r.conn k ≡ false = (if_none (same r.conn k) r (replies_for k (items_in (bodies_from x.from xs))) h).0 in
      rw e (ap (λ (t : Bool). if t then r ∷ replies_for k (items_of xs) else replies_for k (items_of xs)) no ∙ rest)

  said_of : (letters : List (Letter Reply)) → AreSilent letters → replies_for k (items_of letters) ≡ replies_for k (items_in (bodies_from l letters))
  said_of [] h = refl
  said_of (x ∷ xs) h = dite (ℕ_discrete x.from l)
      (λ (e : x.from ≡ l). said_here x xs x.body refl (said_of xs (silent_tail x xs h))
      ∙ ap (λ (z : List (Option Reply)). replies_for k (items_in z)) (sym (subst (λ (n : ℕ). bodies_from n (x ∷ xs) ≡ x.body ∷ bodies_from n xs) e (of_here x xs))))
      (λ (ne : x.from ≢ l). said_else x xs x.body refl (subst (λ (z : List (Option Reply)). replies_for k (items_in z) ≡ []) (of_here x xs) (h x.from ne)) (said_of xs (silent_tail x xs h))
      ∙ ap (λ (z : List (Option Reply)). replies_for k (items_in z)) (sym (of_else l x xs ne)))

  pub said_by_lane : (took : List Reply) (given : ℕ → List Reply) → IsMerge took given → ((m : ℕ) → m ≢ l → NoneFor k (given m)) → replies_for k took ≡ replies_for k (given l)
  said_by_lane took given merge others =
      ap (replies_for k) (sym merge.are) ∙ (said_of merge.letters (λ m ne. ap (replies_for k) (merge.each m) ∙ none_for k (given m) (others m ne)) ∙ ap (replies_for k) (merge.each l))
