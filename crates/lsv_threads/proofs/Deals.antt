-- Passes as they are dealt out.
use Rattle.std.proofs.Common.{◌≡◌, ◌≢◌, ℕ, zero, suc, ◌+◌, ◌≤◌, Some, List, [], ◌∷◌, ◌++◌, set, length, refl, sym, ap, ◌∙◌, subst, arith}
use Rattle.std.specs.Prelude.{slice_get}
use Rattle.std.specs.declared.alloc.Global.{Global}
use Rattle.std.specs.declared.vec.Vec.{Vec}
use Rattle.std.proofs.lemmas.List.{length-append, length-set}
use Rattle.std.proofs.lemmas.Option.{slice_get_within}
use mathlib.Core.Logic.{dite}
use native.Mathlib.Decide.{ℕ_discrete}
use Rattle.lsv_queue.specs.Order.{one_more, taken}
use Rattle.lsv_queue.specs.declared.queue.InPass.{InPass}
use Rattle.lsv_queue.specs.declared.queue.OutPass.{OutPass}
use Rattle.lsv_queue.specs.declared.queue.Queue.{Queue}
use Rattle.lsv_queue.proofs.Joining.{snoc_here, snoc_off}
use Rattle.lsv_queue.proofs.Places.{one_there, set_at, set_off}
use Rattle.lsv_threads.specs.Dealt.{AreBegun, AreDealt, AreNew, AreSplit, AreUntaken, IsNew}

pub snoc_is : {A : Type 0} (xs : List A) (x y : A) (k : ℕ) → k ≡ length xs → slice_get (xs ++ x ∷ []) k ≡ Some y → y ≡ x
snoc_is {A} xs x y k e at = one_there (xs ++ x ∷ []) (length xs) y x (subst (λ (n : ℕ). slice_get (xs ++ x ∷ []) n ≡ Some y) e at) (snoc_here xs x)

-- what holds of the elements at each place holds after one more of each
pub each_push : {A B : Type 0} (R : A → B → Type 0) (xs : List A) (ys : List B) (x : A) (y : B) → length ys ≡ length xs → ((k : ℕ) (a : A) (b : B) → slice_get xs k ≡ Some a → slice_get ys k ≡ Some b → R a b) → R x y
    → (k : ℕ) (a : A) (b : B) → slice_get (xs ++ x ∷ []) k ≡ Some a → slice_get (ys ++ y ∷ []) k ≡ Some b → R a b
each_push R xs ys x y size each r k a b at bt = dite (ℕ_discrete k (length xs))
    (λ (e : k ≡ length xs). subst (λ z. R z b) (sym (snoc_is xs x a k e at)) (subst (λ z. R x z) (sym (snoc_is ys y b k (e ∙ sym size) bt)) r))
    (λ (ne : k ≢ length xs). each k a b (sym (snoc_off xs x k ne) ∙ at) (sym (snoc_off ys y k (λ e. ne (e ∙ size))) ∙ bt))

module _ {T : Type 0} where
  pub new_push : (qs : List (Queue T)) (row : List (InPass T)) (number made : ℕ) (q : Queue T) (p : InPass T) → AreNew qs row number made → IsNew number made q p → AreNew (qs ++ q ∷ []) (row ++ p ∷ []) number made
  new_push qs row number made q p are new = record {
    size = let a = length-append qs (q ∷ []) in let b = length-append row (p ∷ []) in let s = are.size in omega arith;
    each = each_push (IsNew number made) qs row q p are.size are.each new;
  }

  pub untaken_push : (qs : List (Queue T)) (ts : List (OutPass T)) (q : Queue T) (t : OutPass T) → AreUntaken qs ts → (t.queue ≡ q.name) × (t.taken ≡ taken [] []) → AreUntaken (qs ++ q ∷ []) (ts ++ t ∷ [])
  untaken_push qs ts q t are new = record {
    size = let a = length-append qs (q ∷ []) in let b = length-append ts (t ∷ []) in let s = are.size in omega arith;
    each = each_push (λ (a : Queue T) (b : OutPass T). (b.queue ≡ a.name) × (b.taken ≡ taken [] [])) qs ts q t are.size are.each new;
  }

  pub split_here : (qs : List (Queue T)) (row : List (InPass T)) (made : ℕ) → AreNew qs row 0 made → AreSplit qs row made 0
  split_here qs row made are = record { size = are.size; below = λ k q p less x y. absurd (omega arith); above = λ k q p high x y. are.each k q p x y }

  pub begun_here : (qs : List (Queue T)) (number made : ℕ) → AreBegun {T = T} qs [] number made 0
  begun_here qs number made = record { size = refl; each = λ k q p x y. absurd (none k p y) }
    where
      none : (k : ℕ) (p : InPass T) → slice_get [] k ≡ Some p → ⊥
      none k p e = cc

  -- one more queue gave a pass
  module _ (qs : List (Queue T)) (row : List (InPass T)) (made place : ℕ) (q : Queue T) (t u : InPass T) (q_at : slice_get qs place ≡ Some q) (t_at : slice_get row place ≡ Some t) (queue : u.queue ≡ t.queue) (list : u.list ≡ one_more t.list) where
    is_u : (k : ℕ) (y : InPass T) → k ≡ place → slice_get (set row place u) k ≡ Some y → y ≡ u
    is_u k y e b = one_there (set row place u) place y u (subst (λ (n : ℕ). slice_get (set row place u) n ≡ Some y) e b) (set_at row place u (slice_get_within row place t t_at))

    pub split_more : AreSplit qs row made place → AreSplit qs (set row place u) made (place + 1)
    split_more are = record {
      size = length-set row place u ∙ are.size;
      below = λ k a b less x y. dite (ℕ_discrete k place)
          (λ (e : k ≡ place).
          let was : IsNew 0 made q t = are.above place q t (omega arith) q_at t_at in
          let same : a ≡ q = one_there qs place a q (subst (λ (n : ℕ). slice_get qs n ≡ Some a) e x) q_at in
          subst (λ z. IsNew 0 (made + 1) z b) (sym same) (subst (λ z. IsNew 0 (made + 1) q z) (sym (is_u k b e y))
          (record { queue = queue ∙ was.queue; list = list ∙ ap one_more was.list })))
          (λ (ne : k ≢ place). are.below k a b (omega (arith, ne)) x (sym (set_off row place k u ne) ∙ y));
      above = λ k a b high x y. are.above k a b (omega arith) x (sym (set_off row place k u (λ e. absurd (omega arith))) ∙ y);
    }

  pub begun_more : (qs : List (Queue T)) (row : List (InPass T)) (number made place : ℕ) (q : Queue T) (p : InPass T) → slice_get qs place ≡ Some q → IsNew number made q p → AreBegun qs row number made place → AreBegun qs (row ++ p ∷ []) number made (place + 1)
  begun_more qs row number made place q p at new are = record {
    size = let b = length-append row (p ∷ []) in let s = are.size in omega arith;
    each = λ k a b x y. dite (ℕ_discrete k (length row))
        (λ (e : k ≡ length row).
        let same : a ≡ q = one_there qs place a q (subst (λ (n : ℕ). slice_get qs n ≡ Some a) (e ∙ are.size) x) at in
        subst (λ z. IsNew number made z b) (sym same) (subst (λ z. IsNew number made q z) (sym (snoc_is row p b k e y)) new))
        (λ (ne : k ≢ length row). are.each k a b x (sym (snoc_off row p k ne) ∙ y));
  }

  pub split_all : (qs : List (Queue T)) (row : List (InPass T)) (made place : ℕ) → length qs ≤ place → AreSplit qs row made place → AreNew qs row 0 (made + 1)
  split_all qs row made place all are = record { size = are.size; each = λ k q p x y. are.below k q p (let l = slice_get_within qs k q x in omega arith) x y }

  pub begun_all : (qs : List (Queue T)) (row : List (InPass T)) (number made place : ℕ) → length qs ≡ place → AreBegun qs row number made place → AreNew qs row number made
  begun_all qs row number made place all are = record { size = are.size ∙ sym all; each = are.each }

  -- ---- rows

  -- the rows of the other senders, up to some number
  pub record AreOthers (qs : List (Queue T)) (rows : List (Vec (InPass T) Global)) : Type 0 where
    pub each : (s : ℕ) (row : Vec (InPass T) Global) → 1 ≤ s → slice_get rows s ≡ Some row → AreNew qs row.items s 0

  pub others_here : (qs : List (Queue T)) (first : Vec (InPass T) Global) → AreOthers qs (first ∷ [])
  others_here qs first = record { each = λ s row some at. absurd (none s row some at) }
    where
      none : (s : ℕ) (row : Vec (InPass T) Global) → 1 ≤ s → slice_get (first ∷ []) s ≡ Some row → ⊥
      none zero row some at = omega arith
      none (suc s) row some at = cc

  pub others_push : (qs : List (Queue T)) (rows : List (Vec (InPass T) Global)) (row : Vec (InPass T) Global) → AreOthers qs rows → AreNew qs row.items (length rows) 0 → AreOthers qs (rows ++ row ∷ [])
  others_push qs rows row are new = record {
    each = λ s r some at. dite (ℕ_discrete s (length rows))
        (λ (e : s ≡ length rows). subst (λ (n : ℕ). AreNew qs r.items n 0) (sym e) (subst (λ (v : Vec (InPass T) Global). AreNew qs v.items (length rows) 0) (sym (snoc_is rows row r s e at)) new))
        (λ (ne : s ≢ length rows). are.each s r some (sym (snoc_off rows row s ne) ∙ at));
  }

  pub dealt_all : (qs : List (Queue T)) (rows : List (Vec (InPass T) Global)) (first : Vec (InPass T) Global) (senders : ℕ) → length rows ≡ senders → 1 ≤ senders → AreOthers qs rows → AreNew qs first.items 0 senders → AreDealt qs (set rows 0 first) senders
  dealt_all qs rows first senders size some are new = record {
    size = length-set rows 0 first ∙ size;
    first = λ row at. subst (λ (v : Vec (InPass T) Global). AreNew qs v.items 0 senders) (sym (one_there (set rows 0 first) 0 row first at (set_at rows 0 first (omega arith)))) new;
    others = λ s row high at. are.each s row high (sym (set_off rows 0 s first (λ e. absurd (omega arith))) ∙ at);
  }
