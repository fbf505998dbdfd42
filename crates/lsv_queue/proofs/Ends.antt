-- Where as many end marks were taken as there are numbers, and nothing stands after an end mark, nothing is left.
use Rattle.std.proofs.Common.{◌≡◌, ◌≢◌, ℕ, zero, suc, ◌+◌, ◌<◌, ◌≤◌, ◌==◌, Bool, true, false, List, [], ◌∷◌, ◌++◌, length, map, Option, Some, None, if◌then◌else◌, sym, refl, zero-add, ap, ◌∙◌, subst, arith}
use Rattle.std.proofs.lemmas.Grind.{common_steps}
use Rattle.std.proofs.lemmas.List.{length-append}
use Rattle.std.proofs.lemmas.List.Elements.{filter_map-append}
use Rattle.std.specs.List.{filter_map}
use mathlib.Core.Logic.{dite}
use native.Mathlib.Decide.{dec_le, ℕ_discrete}
use Rattle.lsv_queue.specs.declared.view.Letter.{Letter}
use Rattle.lsv_queue.specs.declared.view.Sent.{Sent}
use Rattle.lsv_queue.specs.Order.{body_from, bodies_from, bodies_of, EndsLast, mark_of, marks_of}

-- f of each number below n, added up
abbrev upto : (ℕ → ℕ) → ℕ → ℕ
upto f zero = 0
upto f (suc n) = upto f n + f n

abbrev at_only : ℕ → ℕ → ℕ → ℕ
at_only q b p = if q == p then b else 0

at_here : (q b : ℕ) → at_only q b q ≡ b
at_here q b = grind (arith, common_steps)

at_other : (q b p : ℕ) → q ≢ p → at_only q b p ≡ 0
at_other q b p ne = grind (arith, common_steps)

upto_same : (f g : ℕ → ℕ) (n : ℕ) → ((p : ℕ) → p < n → f p ≡ g p) → upto f n ≡ upto g n
upto_same f g zero e = refl
upto_same f g (suc n) e = let r = upto_same f g n (λ p l. e p (omega arith)) in let h = e n (omega arith) in omega arith

-- past the numbers that are added up
upto_past : (f : ℕ → ℕ) (q b n : ℕ) → n ≤ q → upto (λ p. at_only q b p + f p) n ≡ upto f n
upto_past f q b zero le = refl
upto_past f q b (suc n) le = let r = upto_past f q b n (omega arith) in let h = at_other q b n (λ e. omega arith) in omega arith

upto_add : (f : ℕ → ℕ) (q b n : ℕ) → q < n → upto (λ p. at_only q b p + f p) n ≡ b + upto f n
upto_add f q b zero l = absurd (omega arith)
upto_add f q b (suc n) l = dite (ℕ_discrete q n)
    (λ (e : q ≡ n). let r = upto_past f q b n (omega arith) in let h : at_only q b n ≡ b = subst (λ (k : ℕ). at_only q b k ≡ b) e (at_here q b) in omega arith)
    (λ (ne : q ≢ n). let r = upto_add f q b n (omega arith) in let h = at_other q b n ne in omega arith)

-- n numbers of at most 1 that make n are each 1
upto_all : (f : ℕ → ℕ) (n : ℕ) → ((p : ℕ) → f p ≤ 1) → (upto f n ≤ n) × (upto f n ≡ n → (p : ℕ) → p < n → f p ≡ 1)
upto_all f zero e = (omega arith, λ s p l. absurd (omega arith))
upto_all f (suc n) e = let r = upto_all f n e in let r' = r.0 in let h = e n in
    (omega arith, λ s p l. dite (ℕ_discrete p n) (λ (q : p ≡ n). subst (λ (k : ℕ). f k ≡ 1) (sym q) (omega arith)) (λ (ne : p ≢ n). r.1 (omega arith) p (omega arith)))

module _ {T : Type 0} where
  -- ---- end marks in one sender's list
  abbrev ends : List (Option T) → ℕ
  ends bs = length (filter_map mark_of bs)

  one_end : (bs : List (Option T)) → EndsLast bs → ends bs ≤ 1
  one_end [] h = omega arith
  one_end (Some x ∷ bs) h = one_end bs h
  one_end (None ∷ bs) h = let e : ends bs ≡ 0 = ap ends h in omega arith

  behind_end : (bs cs : List (Option T)) → EndsLast (bs ++ cs) → ends bs ≡ 1 → cs ≡ []
  behind_end [] cs h e = absurd (omega arith)
  behind_end (Some x ∷ bs) cs h e = behind_end bs cs h e
  behind_end (None ∷ []) cs h e = h
  behind_end (None ∷ (b ∷ bs)) cs h e = absurd (let q : b ∷ (bs ++ cs) ≡ [] = h in cc)

  before_end : (bs cs : List (Option T)) → EndsLast (bs ++ cs) → EndsLast bs
  before_end [] cs h = tt
  before_end (Some x ∷ bs) cs h = before_end bs cs h
  before_end (None ∷ []) cs h = refl
  before_end (None ∷ (b ∷ bs)) cs h = absurd (let q : b ∷ (bs ++ cs) ≡ [] = h in cc)

  put_ends : (xs : List T) (b : List (Option T)) → EndsLast b → EndsLast (map Some xs ++ b)
  put_ends [] b h = h
  put_ends (x ∷ xs) b h = put_ends xs b h

  end_ends : (s : Sent T) (b : Bool) → EndsLast {T = T} (if b then None ∷ [] else [])
  end_ends s true = refl
  end_ends s false = tt

  pub whole_ends : (s : Sent T) → EndsLast (bodies_of s)
  whole_ends s = put_ends s.put (if s.ended then None ∷ [] else []) (end_ends s s.ended)

  -- ---- end marks among letters
  abbrev weight : Option T → ℕ
  weight b = ends (b ∷ [])

  ends_cons : (b : Option T) (bs : List (Option T)) → ends (b ∷ bs) ≡ weight b + ends bs
  ends_cons None bs = grind (arith, common_steps)
  ends_cons (Some x) bs = sym (zero-add (ends bs))

  marks_cons : (l : Letter T) (ls : List (Letter T)) (b : Option T) → l.body ≡ b → marks_of (l ∷ ls) ≡ weight b + marks_of ls
  marks_cons l ls None e = rw e (grind (arith, common_steps))
  marks_cons l ls (Some x) e = rw e (sym (zero-add (marks_of ls)))

  pub of_here : (l : Letter T) (ls : List (Letter T)) → bodies_from l.from (l ∷ ls) ≡ l.body ∷ bodies_from l.from ls
  of_here l ls = grind (arith, common_steps)

  pub of_else : (p : ℕ) (l : Letter T) (ls : List (Letter T)) → l.from ≢ p → bodies_from p (l ∷ ls) ≡ bodies_from p ls
  of_else p l ls ne = grind (arith, common_steps)

  ends_of_cons : (p : ℕ) (l : Letter T) (ls : List (Letter T)) → ends (bodies_from p (l ∷ ls)) ≡ at_only l.from (weight l.body) p + ends (bodies_from p ls)
  ends_of_cons p l ls = dite (ℕ_discrete l.from p)
      (λ (e : l.from ≡ p). subst (λ (q : ℕ). ends (bodies_from q (l ∷ ls)) ≡ at_only l.from (weight l.body) q + ends (bodies_from q ls)) e
      (ap ends (of_here l ls) ∙ (ends_cons l.body (bodies_from l.from ls) ∙ ap (λ (k : ℕ). k + ends (bodies_from l.from ls)) (sym (at_here l.from (weight l.body))))))
      (λ (ne : l.from ≢ p). let e : ends (bodies_from p (l ∷ ls)) ≡ ends (bodies_from p ls) = ap ends (of_else p l ls ne) in let z = at_other l.from (weight l.body) p ne in omega arith)

  made_from : (l : Letter T) (ls : List (Letter T)) (n : ℕ) → ((p : ℕ) → n ≤ p → bodies_from p (l ∷ ls) ≡ []) → l.from < n
  made_from l ls n none = dite (dec_le n l.from) (λ (le : n ≤ l.from). absurd (let e : l.body ∷ bodies_from l.from ls ≡ [] = sym (of_here l ls) ∙ none l.from le in cc)) (λ no. omega arith)

  marks_by_number : (ls : List (Letter T)) (n : ℕ) → ((p : ℕ) → n ≤ p → bodies_from p ls ≡ []) → marks_of ls ≡ upto (λ p. ends (bodies_from p ls)) n
  marks_by_number [] n none = sym (zeros n) where
    zeros : (n : ℕ) → upto (λ p. 0) n ≡ 0
    zeros zero = refl
    zeros (suc n) = let r = zeros n in omega arith
  marks_by_number (l ∷ ls) n none =
      let below = made_from l ls n none in
      let rest : (p : ℕ) → n ≤ p → bodies_from p ls ≡ [] = λ p le. sym (of_else p l ls (λ e. omega arith)) ∙ none p le in
      let one = marks_cons l ls l.body refl in
      let r = marks_by_number ls n rest in
      let s = upto_same (λ p. ends (bodies_from p (l ∷ ls))) (λ p. at_only l.from (weight l.body) p + ends (bodies_from p ls)) n (λ p _. ends_of_cons p l ls) in
      let a = upto_add (λ p. ends (bodies_from p ls)) l.from (weight l.body) n below in
      omega arith

  front_none : (p : ℕ) (xs ys : List (Letter T)) → bodies_from p (xs ++ ys) ≡ [] → bodies_from p xs ≡ []
  front_none p xs ys e = front (bodies_from p xs) (bodies_from p ys) (sym (filter_map-append (body_from p) xs ys) ∙ e) where
    front : (bs cs : List (Option T)) → bs ++ cs ≡ [] → bs ≡ []
    front [] cs e = refl
    front (b ∷ bs) cs e = absurd (let q : b ∷ (bs ++ cs) ≡ [] = e in cc)

  pub all_taken : (got items : List (Letter T)) (n : ℕ) → ((p : ℕ) → n ≤ p → bodies_from p (got ++ items) ≡ []) → ((p : ℕ) → EndsLast (bodies_from p (got ++ items))) → marks_of got ≡ n → items ≡ []
  all_taken got [] n none last marks = refl
  all_taken got (l ∷ ls) n none last marks =
      let P : ℕ → Type 0 = λ p. EndsLast (bodies_from p got ++ bodies_from p (l ∷ ls)) in
      let cut : (p : ℕ) → EndsLast (bodies_from p got ++ bodies_from p (l ∷ ls)) = λ p. subst (λ (z : List (Option T)). EndsLast z) (filter_map-append (body_from p) got (l ∷ ls)) (last p) in
      let low : (p : ℕ) → ends (bodies_from p got) ≤ 1 = λ p. one_end (bodies_from p got) (before_end (bodies_from p got) (bodies_from p (l ∷ ls)) (cut p)) in
      let sums : upto (λ p. ends (bodies_from p got)) n ≡ n = sym (marks_by_number got n (λ p le. front_none p got (l ∷ ls) (none p le))) ∙ marks in
      let below : l.from < n = dite (dec_le n l.from)
      (λ (le : n ≤ l.from). absurd (let e : bodies_from l.from got ++ bodies_from l.from (l ∷ ls) ≡ [] = sym (filter_map-append (body_from l.from) got (l ∷ ls)) ∙ none l.from le in
      let e' : length (bodies_from l.from got) + length (bodies_from l.from (l ∷ ls)) ≡ 0 = sym (length-append (bodies_from l.from got) (bodies_from l.from (l ∷ ls))) ∙ ap length e in
      let e'' : length (bodies_from l.from (l ∷ ls)) ≡ suc (length (bodies_from l.from ls)) = ap length (of_here l ls) in omega arith))
      (λ no. omega arith) in
      let one : ends (bodies_from l.from got) ≡ 1 = (upto_all (λ p. ends (bodies_from p got)) n low).1 sums l.from below in
      absurd (let e : l.body ∷ bodies_from l.from ls ≡ [] = sym (of_here l ls) ∙ behind_end (bodies_from l.from got) (bodies_from l.from (l ∷ ls)) (cut l.from) one in cc)
