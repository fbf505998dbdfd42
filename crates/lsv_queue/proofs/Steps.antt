-- Each kind of step keeps the rule.
use Rattle.std.proofs.Common.{◌≡◌, ◌≢◌, ℕ, zero, suc, ◌+◌, ◌≤◌, false, List, [], ◌∷◌, ◌++◌, length, set, Option, Some, None, sym, refl, ap, ◌∙◌, subst, ◌⊎◌, inl, inr, ⊎_elim, append_assoc, arith}
use Rattle.std.proofs.lemmas.Grind.{common_steps}
use Rattle.std.proofs.lemmas.List.{map-append, append-nil}
use Rattle.std.proofs.lemmas.List.Elements.{filter_map-append}
use mathlib.Core.Option.{some, some-injective, some-ne-none}
use lib.ListN.{get_elem?}
use Rattle.crossbeam_queue.specs.Fifo.{Pushes, Pops, Forks, Merges, Learns}
use Rattle.crossbeam_queue.proofs.Lists.{at_set, at_snoc}
use mathlib.Core.Logic.{dite}
use native.Mathlib.Decide.{ℕ_discrete}
use Rattle.lsv_queue.proofs.Ends.{whole_ends, all_taken}
use Rattle.lsv_queue.specs.declared.view.Letter.{Letter}
use Rattle.lsv_queue.specs.declared.view.Sent.{Sent}
use Rattle.lsv_queue.specs.declared.view.Taken.{Taken}
use Rattle.lsv_queue.specs.declared.view.View.{View}
use Rattle.lsv_queue.specs.Order.{EndsLast, body_from, bodies_from, bodies_of, sent, taken, IsListOf, HasList, HasTaken, IsInOrder, opening, as_sender, as_receiver, spent, one_more, map_option, with_one_more, made_in, newcomer, after_body, with_letter, after_taking, with_taken, after_joining, with_joined, Knows, TakesLetter, HoldsRest}

changed_some : {A : Type 0} (f : A → A) (o : Option A) (a b : A) → o ≡ Some a → map_option f o ≡ Some b → f a ≡ b
changed_some f o a b p q = let e : Some (f a) ≡ Some b = ap (map_option f) (sym p) ∙ q in cc

same_some : {A : Type 0} (o : Option A) (a b : A) → o ≡ Some a → o ≡ Some b → a ≡ b
same_some o a b p q = cc

module _ {A : Type 0} where
  set_there : (l : List A) (i : ℕ) (a b : A) → get_elem? l i ≡ some a → get_elem? (set l i b) i ≡ some b
  set_there [] i a b e = absurd (some-ne-none a (sym e))
  set_there (x ∷ xs) zero a b e = refl
  set_there (x ∷ xs) (suc i) a b e = set_there xs i a b e

  at_more : (l : List A) (a b : A) (j : ℕ) → get_elem? (l ++ a ∷ []) j ≡ some b → (get_elem? l j ≡ some b) ⊎ ((j ≡ length l) × (a ≡ b))
  at_more [] a b zero e = inr (refl, some-injective a b e)
  at_more [] a b (suc j) e = absurd (some-ne-none b (sym e))
  at_more (x ∷ xs) a b zero e = inl e
  at_more (x ∷ xs) a b (suc j) e = ⊎_elim (λ (y : get_elem? xs j ≡ some b). inl y) (λ (y : (j ≡ length xs) × (a ≡ b)). inr (ap suc y.0, y.1)) (at_more xs a b j e)

  only : (a b : A) (j : ℕ) → get_elem? (a ∷ []) j ≡ some b → (j ≡ 0) × (a ≡ b)
  only a b zero e = (refl, some-injective a b e)
  only a b (suc j) e = absurd (some-ne-none b (sym e))

module _ {T : Type 0} where
  -- ---- lists of letters
  body_mine : (p : ℕ) (l : Letter T) → l.from ≡ p → body_from p l ≡ Some l.body
  body_mine p l e = grind (arith, common_steps)

  body_other : (p : ℕ) (l : Letter T) → l.from ≢ p → body_from p l ≡ None
  body_other p l e = grind (arith, common_steps)

  of_mine : (p : ℕ) (all : List (Letter T)) (l : Letter T) → l.from ≡ p → bodies_from p (all ++ l ∷ []) ≡ bodies_from p all ++ l.body ∷ []
  of_mine p all l e = let b = body_mine p l e in rw (filter_map-append, b) refl

  of_other : (p : ℕ) (all : List (Letter T)) (l : Letter T) → l.from ≢ p → bodies_from p (all ++ l ∷ []) ≡ bodies_from p all
  of_other p all l e = let b = body_other p l e in rw (filter_map-append, b) (append-nil (bodies_from p all))

  whole_after : (b : Option T) (s : Sent T) → s.ended ≡ false → bodies_of (after_body b s) ≡ bodies_of s ++ b ∷ []
  whole_after None s e = rw (e, append-nil) refl
  whole_after (Some x) s e = rw (e, append-nil, append-nil, map-append) refl

  -- ---- lookups after a write
  list_set : (views : List (View T)) (port j : ℕ) (w : View T) (t : Sent T) → HasList (set views port w) j t → ((j ≡ port) × (w.list ≡ Some t)) ⊎ ((j ≢ port) × HasList views j t)
  list_set views port j w t h = ⊎_elim (λ (x : (j ≡ port) × (w ≡ h.0)). inl (x.0, ap (λ (y : View T). y.list) x.1 ∙ h.2))
      (λ (x : (j ≢ port) × (get_elem? views j ≡ some h.0)). inr (x.0, (h.0, x.1, h.2))) (at_set views port j w h.0 h.1)

  taken_set : (views : List (View T)) (port j : ℕ) (w : View T) (t : Taken T) → HasTaken (set views port w) j t → ((j ≡ port) × (w.taken ≡ Some t)) ⊎ ((j ≢ port) × HasTaken views j t)
  taken_set views port j w t h = ⊎_elim (λ (x : (j ≡ port) × (w ≡ h.0)). inl (x.0, ap (λ (y : View T). y.taken) x.1 ∙ h.2))
      (λ (x : (j ≢ port) × (get_elem? views j ≡ some h.0)). inr (x.0, (h.0, x.1, h.2))) (at_set views port j w h.0 h.1)

  list_same : (views : List (View T)) (port j : ℕ) (v w : View T) (t : Sent T) → get_elem? views port ≡ some v → w.list ≡ v.list → HasList (set views port w) j t → HasList views j t
  list_same views port j v w t at e h = ⊎_elim (λ (x : (j ≡ port) × (w.list ≡ Some t)). (v, ap (get_elem? views) x.0 ∙ at, sym e ∙ x.1)) (λ (x : (j ≢ port) × HasList views j t). x.1) (list_set views port j w t h)

  taken_same : (views : List (View T)) (port j : ℕ) (v w : View T) (t : Taken T) → get_elem? views port ≡ some v → w.taken ≡ v.taken → HasTaken (set views port w) j t → HasTaken views j t
  taken_same views port j v w t at e h = ⊎_elim (λ (x : (j ≡ port) × (w.taken ≡ Some t)). (v, ap (get_elem? views) x.0 ∙ at, sym e ∙ x.1)) (λ (x : (j ≢ port) × HasTaken views j t). x.1) (taken_set views port j w t h)

  -- ---- a letter more
  stands_mine : (all : List (Letter T)) (made : ℕ) (s : Sent T) (l : Letter T) → s.ended ≡ false → l.from ≡ s.number → IsListOf all made s → (b : Option T) → l.body ≡ b → IsListOf (all ++ l ∷ []) made (after_body b s)
  stands_mine all made s l going from h None is = record { is_whole = of_mine s.number all l from ∙ (ap (λ w. w ++ l.body ∷ []) h.is_whole ∙ (ap (λ b. bodies_of s ++ b ∷ []) is ∙ sym (whole_after None s going))); is_made = h.is_made; knows_made = h.knows_made }
  stands_mine all made s l going from h (Some x) is = record { is_whole = of_mine s.number all l from ∙ (ap (λ w. w ++ l.body ∷ []) h.is_whole ∙ (ap (λ b. bodies_of s ++ b ∷ []) is ∙ sym (whole_after (Some x) s going))); is_made = h.is_made; knows_made = h.knows_made }

  stands_other : (all : List (Letter T)) (made : ℕ) (s : Sent T) (l : Letter T) → l.from ≢ s.number → IsListOf all made s → IsListOf (all ++ l ∷ []) made s
  stands_other all made s l from h = record { is_whole = of_other s.number all l from ∙ h.is_whole; is_made = h.is_made; knows_made = h.knows_made }

  number_after : (b : Option T) (s : Sent T) → (after_body b s).number ≡ s.number
  number_after None s = refl
  number_after (Some x) s = refl

  pub puts : (n port : ℕ) (v : View T) (s : Sent T) (l : Letter T) → v.list ≡ Some s → s.ended ≡ false → l.from ≡ s.number → Pushes IsInOrder n port v l (λ w. w ≡ with_letter v l)
  puts n port v s l has going from items views room h at =
      let w : View T = with_letter v l in
      let s' : Sent T = after_body l.body s in
      let all : List (Letter T) = h.got ++ items in
      let more : all ++ l ∷ [] ≡ h.got ++ (items ++ l ∷ []) = append_assoc h.got items (l ∷ []) in
      let mine : HasList views port s = (v, at, has) in
      let here : (t : Sent T) → w.list ≡ Some t → s' ≡ t = λ t e. changed_some (after_body l.body) v.list s t has e in
      let number : (t : Sent T) → w.list ≡ Some t → s.number ≡ t.number = λ t e. sym (number_after l.body s) ∙ ap (λ (y : Sent T). y.number) (here t e) in
      let F : List (Letter T) → Sent T → Type 0 = λ a t. IsListOf a h.made t in
      let stood : (t : Sent T) → s.number ≢ t.number → IsListOf all h.made t → IsListOf (h.got ++ (items ++ l ∷ [])) h.made t = λ t ne st. subst (λ (a : List (Letter T)). IsListOf a h.made t) more (stands_other all h.made t l (λ e. ne (sym from ∙ e)) st) in (
        w,
        record {
          reader = h.reader;
          made = h.made;
          got = h.got;
          lists = λ j t a. ⊎_elim
              (λ (x : (j ≡ port) × (w.list ≡ Some t)). subst (λ (y : List (Letter T) × Sent T). IsListOf y.0 h.made y.1) (λ i. (more i, here t x.1 i)) (stands_mine all h.made s l going from (h.lists port s mine) l.body refl))
              (λ (x : (j ≢ port) × HasList views j t). stood t (λ e. x.0 (h.numbers_differ j port t s x.1 mine (sym e))) (h.lists j t x.1))
              (list_set views port j w t a);
          joined = λ j t k u a b. let a' = taken_same views port j v w t at refl a in
              stood u (h.joined_differ port j s t k u mine a' b) (h.joined j t k u a' b);
          numbers_differ = λ a b t u ha hb e. ⊎_elim
              (λ (x : (a ≡ port) × (w.list ≡ Some t)). ⊎_elim
              (λ (y : (b ≡ port) × (w.list ≡ Some u)). x.0 ∙ sym y.0)
              (λ (y : (b ≢ port) × HasList views b u). x.0 ∙ h.numbers_differ port b s u mine y.1 (number t x.1 ∙ e))
              (list_set views port b w u hb))
              (λ (x : (a ≢ port) × HasList views a t). ⊎_elim
              (λ (y : (b ≡ port) × (w.list ≡ Some u)). h.numbers_differ a port t s x.1 mine (e ∙ sym (number u y.1)) ∙ sym y.0)
              (λ (y : (b ≢ port) × HasList views b u). h.numbers_differ a b t u x.1 y.1 e)
              (list_set views port b w u hb))
              (list_set views port a w t ha);
          joined_differ = λ a b t u k z ha hb e. let hb' = taken_same views port b v w u at refl hb in ⊎_elim
              (λ (x : (a ≡ port) × (w.list ≡ Some t)). λ ne. h.joined_differ port b s u k z mine hb' e (number t x.1 ∙ ne))
              (λ (x : (a ≢ port) × HasList views a t). h.joined_differ a b t u k z x.1 hb' e)
              (list_set views port a w t ha);
          one_reader = λ j t a. h.one_reader j t (taken_same views port j v w t at refl a);
          none_unmade = λ p le. let below = (h.lists port s mine).is_made in
              ap (bodies_from p) (sym more) ∙ (of_other p all l (λ e. let e' : s.number ≡ p = sym from ∙ e in omega arith) ∙ h.none_unmade p le);
          ends_last = λ p. dite (ℕ_discrete s.number p)
              (λ (e : s.number ≡ p). subst (λ (z : List (Option T)). EndsLast z) (sym (ap (λ (q : ℕ). bodies_from q (h.got ++ (items ++ l ∷ []))) (sym e) ∙ (ap (bodies_from s.number) (sym more) ∙ (of_mine s.number all l from ∙ (ap (λ z. z ++ l.body ∷ []) (h.lists port s mine).is_whole ∙ sym (whole_after l.body s going)))))) (whole_ends (after_body l.body s)))
              (λ (ne : s.number ≢ p). subst (λ (z : List (Option T)). EndsLast z) (sym (ap (bodies_from p) (sym more) ∙ of_other p all l (λ e. ne (sym from ∙ e)))) (h.ends_last p));
        },
        refl,
      )

  pub waits : (port : ℕ) (v : View T) → Learns IsInOrder port v (HoldsRest v)
  waits port v items views h at s has = (h.got, (h.lists port s (v, at, has)).is_whole)

  pub knows : (port : ℕ) (v : View T) → Learns IsInOrder port v (Knows v)
  knows port v items views h at t has k s e =
      let mine : HasTaken views port t = (v, at, has) in
      let st = h.joined port t k s mine e in
      let got : h.got ++ items ≡ t.got ++ items = ap (λ g. g ++ items) (sym (h.one_reader port t mine).1) in
      let none : s.number ≡ 0 → (p : ℕ) → s.made ≤ p → bodies_from p (t.got ++ items) ≡ [] = λ first p le. ap (bodies_from p) (sym got) ∙ h.none_unmade p (subst (λ (m : ℕ). m ≤ p) (st.knows_made first) le) in
      record {
        is_whole = ap (bodies_from s.number) (sym got) ∙ st.is_whole;
        none_unmade = none;
        none_left = λ first marks. all_taken t.got items s.made (none first) (λ p. subst (λ (z : List (Letter T)). EndsLast (bodies_from p z)) got (h.ends_last p)) marks;
      }

  pub takes : (port : ℕ) (v : View T) (t : Taken T) → v.taken ≡ Some t → Pops IsInOrder port v (TakesLetter v)
  takes port v t has l items views h at =
      let w : View T = with_taken v l in
      let t' : Taken T = after_taking l t in
      let got' : List (Letter T) = h.got ++ l ∷ [] in
      let more : h.got ++ (l ∷ items) ≡ got' ++ items = sym (append_assoc h.got (l ∷ []) items) in
      let mine : HasTaken views port t = (v, at, has) in
      let here : (u : Taken T) → w.taken ≡ Some u → t' ≡ u = λ u e. changed_some (after_taking l) v.taken t u has e in
      let stood : (s : Sent T) → IsListOf (h.got ++ (l ∷ items)) h.made s → IsListOf (got' ++ items) h.made s = λ s st. subst (λ (a : List (Letter T)). IsListOf a h.made s) more st in
      let before : (j : ℕ) (u : Taken T) → HasTaken (set views port w) j u → (j ≡ port) × (w.taken ≡ Some u) = λ j u a. ⊎_elim (λ x. x)
      (λ (x : (j ≢ port) × HasTaken views j u). absurd (x.0 ((h.one_reader j u x.1).0 ∙ sym (h.one_reader port t mine).0))) (taken_set views port j w u a) in
      let joined_was : (u : Taken T) → w.taken ≡ Some u → t.joined ≡ u.joined = λ u e. ap (λ (y : Taken T). y.joined) (here u e) in
      let kept : IsInOrder items (set views port w) = record {
        reader = h.reader;
        made = h.made;
        got = got';
        lists = λ j s a. stood s (h.lists j s (list_same views port j v w s at refl a));
        joined = λ j u k s a b. let e = (before j u a).1 in stood s (h.joined port t k s mine (ap (λ (q : List (Sent T)). get_elem? q k) (joined_was u e) ∙ b));
        numbers_differ = λ a b s u ha hb e. h.numbers_differ a b s u (list_same views port a v w s at refl ha) (list_same views port b v w u at refl hb) e;
        joined_differ = λ a b s u k z ha hb e. let q = (before b u hb).1 in h.joined_differ a port s t k z (list_same views port a v w s at refl ha) mine (ap (λ (y : List (Sent T)). get_elem? y k) (joined_was u q) ∙ e);
        one_reader = λ j u a. let e = before j u a in (e.0 ∙ (h.one_reader port t mine).0, ap (λ (y : Taken T). y.got) (sym (here u e.1)) ∙ ap (λ g. g ++ l ∷ []) (h.one_reader port t mine).1);
        none_unmade = λ p le. ap (bodies_from p) (sym more) ∙ h.none_unmade p le;
        ends_last = λ p. subst (λ (z : List (Letter T)). EndsLast (bodies_from p z)) more (h.ends_last p);
      } in
      (w, kept, (refl, (items, knows port v (l ∷ items) views h at, knows port w items (set views port w) kept (set_there views port v w at))))

  -- ---- the beginning
  pub begins : IsInOrder {T = T} [] (opening ∷ [])
  begins =
      let first : (j : ℕ) (s : Sent T) → HasList (opening ∷ []) j s → (j ≡ 0) × (sent 0 1 [] false ≡ s) = λ j s a. let o = only opening a.0 j a.1 in
      let e : Some (sent 0 1 [] false) ≡ Some s = ap (λ (v : View T). v.list) o.1 ∙ a.2 in (o.0, cc) in
      let reads : (j : ℕ) (t : Taken T) → HasTaken (opening ∷ []) j t → (j ≡ 0) × (taken [] [] ≡ t) = λ j t a. let o = only opening a.0 j a.1 in
      let e : Some (taken [] []) ≡ Some t = ap (λ (v : View T). v.taken) o.1 ∙ a.2 in (o.0, cc) in
      record {
        reader = 0;
        made = 1;
        got = [];
        lists = λ j s a. subst (λ (u : Sent T). IsListOf [] 1 u) (first j s a).1 (record { is_whole = refl; is_made = omega arith; knows_made = λ _. refl });
        joined = λ j t k s a b. absurd (some-ne-none s (sym (ap (λ (u : Taken T). get_elem? u.joined k) (reads j t a).1 ∙ b)));
        numbers_differ = λ a b s t ha hb e. (first a s ha).0 ∙ sym (first b t hb).0;
        joined_differ = λ a b s t k u ha hb e. absurd (some-ne-none u (sym (ap (λ (y : Taken T). get_elem? y.joined k) (reads b t hb).1 ∙ e)));
        one_reader = λ j t a. ((reads j t a).0, ap (λ (u : Taken T). u.got) (sym (reads j t a).1));
        none_unmade = λ p le. refl;
        ends_last = λ p. tt;
      }

  -- ---- passes are made
  more_list : (vs : List (View T)) (r : View T) (j : ℕ) (s : Sent T) → HasList (vs ++ r ∷ []) j s → HasList vs j s ⊎ ((j ≡ length vs) × (r.list ≡ Some s))
  more_list vs r j s a = ⊎_elim (λ (x : get_elem? vs j ≡ some a.0). inl (a.0, x, a.2)) (λ (x : (j ≡ length vs) × (r ≡ a.0)). inr (x.0, ap (λ (y : View T). y.list) x.1 ∙ a.2)) (at_more vs r a.0 j a.1)

  more_taken : (vs : List (View T)) (r : View T) (j : ℕ) (t : Taken T) → HasTaken (vs ++ r ∷ []) j t → HasTaken vs j t ⊎ ((j ≡ length vs) × (r.taken ≡ Some t))
  more_taken vs r j t a = ⊎_elim (λ (x : get_elem? vs j ≡ some a.0). inl (a.0, x, a.2)) (λ (x : (j ≡ length vs) × (r ≡ a.0)). inr (x.0, ap (λ (y : View T). y.taken) x.1 ∙ a.2)) (at_more vs r a.0 j a.1)

  pub parts : (port : ℕ) (v : View T) (t : Taken T) → v.taken ≡ Some t → Forks IsInOrder port v (as_sender v) (as_receiver v)
  parts port v t has items views h at =
      let l : View T = as_sender v in
      let r : View T = as_receiver v in
      let vs : List (View T) = set views port l in
      let mine : HasTaken views port t = (v, at, has) in
      let lists : (j : ℕ) (s : Sent T) → HasList (vs ++ r ∷ []) j s → HasList views j s = λ j s a. ⊎_elim (λ (x : HasList vs j s). list_same views port j v l s at refl x)
      (λ (x : (j ≡ length vs) × (r.list ≡ Some s)). absurd (let e : None ≡ Some s = x.1 in cc)) (more_list vs r j s a) in
      let reads : (j : ℕ) (u : Taken T) → HasTaken (vs ++ r ∷ []) j u → (j ≡ length vs) × HasTaken views port u = λ j u a. ⊎_elim
      (λ (x : HasTaken vs j u). ⊎_elim (λ (y : (j ≡ port) × (l.taken ≡ Some u)). absurd (let e : None ≡ Some u = y.1 in cc))
      (λ (y : (j ≢ port) × HasTaken views j u). absurd (y.0 ((h.one_reader j u y.1).0 ∙ sym (h.one_reader port t mine).0))) (taken_set views port j l u x))
      (λ (x : (j ≡ length vs) × (r.taken ≡ Some u)). (x.0, (v, at, x.1))) (more_taken vs r j u a) in
      record {
        reader = length vs;
        made = h.made;
        got = h.got;
        lists = λ j s a. h.lists j s (lists j s a);
        joined = λ j u k s a b. h.joined port u k s (reads j u a).1 b;
        numbers_differ = λ a b s u ha hb e. h.numbers_differ a b s u (lists a s ha) (lists b u hb) e;
        joined_differ = λ a b s u k z ha hb e. h.joined_differ a port s u k z (lists a s ha) (reads b u hb).1 e;
        one_reader = λ j u a. ((reads j u a).0, (h.one_reader port u (reads j u a).1).1);
        none_unmade = h.none_unmade;
        ends_last = h.ends_last;
      }

  stands_later : (all : List (Letter T)) (made : ℕ) (s : Sent T) → s.number ≢ 0 → IsListOf all made s → IsListOf all (made + 1) s
  stands_later all made s ne h = let b = h.is_made in record { is_whole = h.is_whole; is_made = omega arith; knows_made = λ e. absurd (ne e) }

  pub makes : (port : ℕ) (v : View T) (s : Sent T) → v.list ≡ Some s → s.number ≡ 0 → Forks IsInOrder port v (with_one_more v) (newcomer v)
  makes port v s has first items views h at =
      let l : View T = with_one_more v in
      let r : View T = newcomer v in
      let vs : List (View T) = set views port l in
      let all : List (Letter T) = h.got ++ items in
      let mine : HasList views port s = (v, at, has) in
      let st = h.lists port s mine in
      let new : Sent T = sent h.made 0 [] false in
      let made_is : made_in v.list ≡ h.made = ap made_in has ∙ st.knows_made first in
      let here : (t : Sent T) → l.list ≡ Some t → one_more s ≡ t = λ t e. changed_some one_more v.list s t has e in
      let there : (t : Sent T) → r.list ≡ Some t → new ≡ t = λ t e. let e' : Some (sent (made_in v.list) 0 [] false) ≡ Some t = e in let m : sent (made_in v.list) 0 [] false ≡ t = cc in ap (λ (n : ℕ). sent n 0 [] false) (sym made_is) ∙ m in
      let apart : (j : ℕ) (t : Sent T) → j ≢ port → HasList views j t → t.number ≢ 0 = λ j t ne a e. ne (h.numbers_differ j port t s a mine (e ∙ sym first)) in
      let origin : (j : ℕ) (t : Sent T) → HasList (vs ++ r ∷ []) j t → ((u : Sent T) × HasList views j u × (u.number ≡ t.number)) ⊎ ((j ≡ length vs) × (h.made ≡ t.number)) = λ j t a. ⊎_elim
      (λ (x : HasList vs j t). ⊎_elim
      (λ (y : (j ≡ port) × (l.list ≡ Some t)). inl (s, (v, ap (get_elem? views) y.0 ∙ at, has), ap (λ (z : Sent T). z.number) (here t y.1)))
      (λ (y : (j ≢ port) × HasList views j t). inl (t, y.1, refl))
      (list_set views port j l t x))
      (λ (x : (j ≡ length vs) × (r.list ≡ Some t)). inr (x.0, ap (λ (z : Sent T). z.number) (there t x.1)))
      (more_list vs r j t a) in
      let reads : (j : ℕ) (u : Taken T) → HasTaken (vs ++ r ∷ []) j u → HasTaken views j u = λ j u a. ⊎_elim
      (λ (x : HasTaken vs j u). taken_same views port j v l u at refl x)
      (λ (x : (j ≡ length vs) × (r.taken ≡ Some u)). absurd (let e : None ≡ Some u = x.1 in cc))
      (more_taken vs r j u a) in
      record {
        reader = h.reader;
        made = h.made + 1;
        got = h.got;
        lists = λ j t a. ⊎_elim
            (λ (x : HasList vs j t). ⊎_elim
            (λ (y : (j ≡ port) × (l.list ≡ Some t)). subst (λ (z : Sent T). IsListOf all (h.made + 1) z) (here t y.1)
            (let b = st.is_made in record { is_whole = st.is_whole; is_made = omega arith; knows_made = λ e. ap (λ (n : ℕ). n + 1) (st.knows_made e) }))
            (λ (y : (j ≢ port) × HasList views j t). stands_later all h.made t (apart j t y.0 y.1) (h.lists j t y.1))
            (list_set views port j l t x))
            (λ (x : (j ≡ length vs) × (r.list ≡ Some t)). subst (λ (z : Sent T). IsListOf all (h.made + 1) z) (there t x.1)
            (let b = st.is_made in record { is_whole = h.none_unmade h.made (omega arith); is_made = omega arith; knows_made = λ e. absurd (omega arith) }))
            (more_list vs r j t a);
        joined = λ j u k t a b. stands_later all h.made t (λ e. h.joined_differ port j s u k t mine (reads j u a) b (first ∙ sym e)) (h.joined j u k t (reads j u a) b);
        numbers_differ = λ a b t u ha hb e. ⊎_elim
            (λ (x : (z : Sent T) × HasList views a z × (z.number ≡ t.number)). ⊎_elim
            (λ (y : (z : Sent T) × HasList views b z × (z.number ≡ u.number)). h.numbers_differ a b x.0 y.0 x.1 y.1 (x.2 ∙ (e ∙ sym y.2)))
            (λ (y : (b ≡ length vs) × (h.made ≡ u.number)). absurd (let q = (h.lists a x.0 x.1).is_made in let q' : x.0.number ≡ h.made = x.2 ∙ (e ∙ sym y.1) in omega arith))
            (origin b u hb))
            (λ (x : (a ≡ length vs) × (h.made ≡ t.number)). ⊎_elim
            (λ (y : (z : Sent T) × HasList views b z × (z.number ≡ u.number)). absurd (let q = (h.lists b y.0 y.1).is_made in let q' : y.0.number ≡ h.made = y.2 ∙ (sym e ∙ sym x.1) in omega arith))
            (λ (y : (b ≡ length vs) × (h.made ≡ u.number)). x.0 ∙ sym y.0)
            (origin b u hb))
            (origin a t ha);
        joined_differ = λ a b t u k z ha hb e ne. ⊎_elim
            (λ (x : (y : Sent T) × HasList views a y × (y.number ≡ t.number)). h.joined_differ a b x.0 u k z x.1 (reads b u hb) e (x.2 ∙ ne))
            (λ (x : (a ≡ length vs) × (h.made ≡ t.number)). let q = (h.joined b u k z (reads b u hb) e).is_made in let q' : h.made ≡ z.number = x.1 ∙ ne in omega arith)
            (origin a t ha);
        one_reader = λ j u a. h.one_reader j u (reads j u a);
        none_unmade = λ p le. h.none_unmade p (omega arith);
        ends_last = h.ends_last;
      }

  -- ---- passes are joined
  pub joins : (port : ℕ) (v : View T) (t : Taken T) (other : ℕ) (u : View T) (s : Sent T) → v.taken ≡ Some t → u.list ≡ Some s → Merges IsInOrder port v other u (with_joined v u) spent
  joins port v t other u s has owns items views h at two at' =
      let both : View T = with_joined v u in
      let vs : List (View T) = set views port both in
      let end : List (View T) = set vs other spent in
      let mine : HasTaken views port t = (v, at, has) in
      let was : get_elem? views other ≡ some u = ⊎_elim (λ (x : (other ≡ port) × (both ≡ u)). absurd (two x.0)) (λ (x : (other ≢ port) × (get_elem? views other ≡ some u)). x.1) (at_set views port other both u at') in
      let theirs : HasList views other s = (u, was, owns) in
      let lists : (j : ℕ) (q : Sent T) → HasList end j q → (j ≢ other) × HasList views j q = λ j q a. ⊎_elim
      (λ (x : (j ≡ other) × (None ≡ Some q)). absurd (let e : None ≡ Some q = x.1 in cc))
      (λ (x : (j ≢ other) × HasList vs j q). (x.0, list_same views port j v both q at refl x.1))
      (list_set vs other j spent q a) in
      let joined' : List (Sent T) = t.joined ++ s ∷ [] in
      let here : (y : Taken T) → both.taken ≡ Some y → taken t.got joined' ≡ y = λ y e. ap (λ (o : Option (Sent T)). after_joining o t) (sym owns) ∙ changed_some (after_joining u.list) v.taken t y has e in
      let reads : (j : ℕ) (y : Taken T) → HasTaken end j y → (j ≡ port) × (taken t.got joined' ≡ y) = λ j y a. ⊎_elim
      (λ (x : (j ≡ other) × (None ≡ Some y)). absurd (let e : None ≡ Some y = x.1 in cc))
      (λ (x : (j ≢ other) × HasTaken vs j y). ⊎_elim
      (λ (z : (j ≡ port) × (both.taken ≡ Some y)). (z.0, here y z.1))
      (λ (z : (j ≢ port) × HasTaken views j y). absurd (z.0 ((h.one_reader j y z.1).0 ∙ sym (h.one_reader port t mine).0)))
      (taken_set views port j both y x.1))
      (taken_set vs other j spent y a) in
      let at_joined : (j : ℕ) (y : Taken T) (k : ℕ) (z : Sent T) → HasTaken end j y → get_elem? y.joined k ≡ some z → (get_elem? t.joined k ≡ some z) ⊎ (s ≡ z) = λ j y k z a b.
      at_snoc t.joined s z k (ap (λ (x : Taken T). get_elem? x.joined k) (reads j y a).1 ∙ b) in
      record {
        reader = h.reader;
        made = h.made;
        got = h.got;
        lists = λ j q a. h.lists j q (lists j q a).1;
        joined = λ j y k z a b. ⊎_elim (λ (x : get_elem? t.joined k ≡ some z). h.joined port t k z mine x) (λ (x : s ≡ z). subst (λ (c : Sent T). IsListOf (h.got ++ items) h.made c) x (h.lists other s theirs)) (at_joined j y k z a b);
        numbers_differ = λ a b q r ha hb e. h.numbers_differ a b q r (lists a q ha).1 (lists b r hb).1 e;
        joined_differ = λ a b q y k z ha hb e ne. ⊎_elim (λ (x : get_elem? t.joined k ≡ some z). h.joined_differ a port q t k z (lists a q ha).1 mine x ne)
            (λ (x : s ≡ z). (lists a q ha).0 (h.numbers_differ a other q s (lists a q ha).1 theirs (ne ∙ ap (λ (c : Sent T). c.number) (sym x)))) (at_joined b y k z hb e);
        one_reader = λ j y a. ((reads j y a).0 ∙ (h.one_reader port t mine).0, ap (λ (x : Taken T). x.got) (sym (reads j y a).1) ∙ (h.one_reader port t mine).1);
        none_unmade = h.none_unmade;
        ends_last = h.ends_last;
      }
