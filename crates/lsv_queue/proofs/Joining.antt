-- Passes are joined.
use Rattle.std.proofs.Common.{◌≡◌, ◌≢◌, ℕ, zero, suc, ◌+◌, ◌<◌, ◌≤◌, Bool, true, false, Some, None, Option, List, [], ◌∷◌, ◌++◌, set, get_or, map, length, refl, sym, ap, ◌∙◌, subst, append-nil, append_assoc, arith}
use Rattle.std.specs.Prelude.{slice_get}
use Rattle.std.proofs.lemmas.List.{length-append, length-set}
use Rattle.std.proofs.lemmas.Option.{slice_get-get_or, slice_get_past, slice_get_within}
use mathlib.Core.Option.{some}
use lib.ListN.{get_elem?}
use mathlib.Core.Logic.{dite}
use native.Mathlib.Decide.{ℕ_discrete}
use Rattle.lsv_queue.specs.declared.queue.InPass.{InPass}
use Rattle.lsv_queue.specs.declared.queue.OutPass.{OutPass}
use Rattle.lsv_queue.specs.declared.queue.Queue.{Queue}
use Rattle.lsv_queue.specs.declared.view.Letter.{Letter}
use Rattle.lsv_queue.specs.declared.view.Sent.{Sent}
use Rattle.lsv_queue.specs.declared.view.Taken.{Taken}
use Rattle.lsv_queue.specs.Order.{IsClosed, KnowsAll, after_joining, marks_of, bodies_from, taken, bodies_of}
use Rattle.lsv_queue.proofs.Places.{one_there, set_at, set_off, there}
use Rattle.lsv_queue.specs.Settled.{AreJoined, AreKnown, AreSame, AreClosed, AreReady, AreRow, AreRows, AreSettled, AreReceivers, IsJoined, list_in, lists_at}

pub snoc_here : {A : Type 0} (xs : List A) (x : A) → slice_get (xs ++ x ∷ []) (length xs) ≡ Some x
snoc_here [] x = refl
snoc_here (y ∷ ys) x = snoc_here ys x

pub snoc_off : {A : Type 0} (xs : List A) (x : A) (k : ℕ) → k ≢ length xs → slice_get (xs ++ x ∷ []) k ≡ slice_get xs k
snoc_off [] x zero ne = absurd (ne refl)
snoc_off [] x (suc k) ne = refl
snoc_off (y ∷ ys) x zero ne = refl
snoc_off (y ∷ ys) x (suc k) ne = snoc_off ys x k (λ e. ne (ap suc e))

abbrev pub map_there : {A B : Type 0} → (A → B) → Option A → Option B
map_there f None = None
map_there f (Some a) = Some (f a)

pub map_get : {A B : Type 0} (f : A → B) (xs : List A) (k : ℕ) (x : A) → slice_get xs k ≡ Some x → slice_get (map f xs) k ≡ Some (f x)
map_get f [] k x e = absurd (let l = slice_get_within [] k x e in omega arith)
map_get {A} f (y ∷ ys) zero x e = ap (λ (o : Option A). map_there f o) e
map_get f (y ∷ ys) (suc k) x e = map_get f ys k x e

pub mid_here : {A : Type 0} (xs ys : List A) (x : A) → slice_get (xs ++ x ∷ ys) (length xs) ≡ Some x
mid_here [] ys x = refl
mid_here (z ∷ zs) ys x = mid_here zs ys x

pub mid_low : {A : Type 0} (n : ℕ) (xs ys all : List A) (x : A) → xs ++ x ∷ ys ≡ all → n ≡ length xs → n < length all
mid_low n xs ys all x e is = let l = slice_get_within (xs ++ x ∷ ys) (length xs) x (mid_here xs ys x) in let f = ap length e in omega arith

pub snoc_length : {A : Type 0} (n : ℕ) (xs : List A) (x : A) → n ≡ length xs → n + 1 ≡ length (xs ++ x ∷ [])
snoc_length n xs x is = let e = length-append xs (x ∷ []) in omega arith

module _ {T : Type 0} where
  -- the receivers' passes, of which one knows one list more
  module _ (queues : List (Queue T)) (old now : List (OutPass T)) (row : List (InPass T)) (place : ℕ) (t u : OutPass T) (p : InPass T)
      (at : place ≡ length row) (here : slice_get now place ≡ Some t) (queue : u.queue ≡ t.queue) (more : u.taken ≡ after_joining (Some p.list) t.taken) where
    low : place < length now
    low = slice_get_within now place t here

    is_u : (k : ℕ) (y : OutPass T) → k ≡ place → slice_get (set now place u) k ≡ Some y → y ≡ u
    is_u k y e b = one_there (set now place u) place y u (subst (λ (n : ℕ). slice_get (set now place u) n ≡ Some y) e b) (set_at now place u low)

    pub receivers_join : AreReceivers queues now → AreReceivers queues (set now place u)
    receivers_join are = record {
      size = length-set now place u ∙ are.size;
      each = λ k q y a b. dite (ℕ_discrete k place)
          (λ (e : k ≡ place). ap (λ (z : OutPass T). z.queue) (is_u k y e b) ∙ (queue ∙ are.each place q t (subst (λ (n : ℕ). slice_get queues n ≡ Some q) e a) here))
          (λ (ne : k ≢ place). are.each k q y a (sym (set_off now place k u ne) ∙ b));
    }

    none_yet : slice_get row place ≡ None
    none_yet = slice_get_past row place (omega (arith, at))

    now_there : slice_get (row ++ p ∷ []) place ≡ Some p
    now_there = subst (λ (n : ℕ). slice_get (row ++ p ∷ []) n ≡ Some p) (sym at) (snoc_here row p)

    pub row_push : IsJoined old now row → IsJoined old (set now place u) (row ++ p ∷ [])
    row_push are = record {
      size = length-set now place u ∙ are.size;
      each = λ k x y a b. dite (ℕ_discrete k place)
          (λ (e : k ≡ place).
          let x_at : slice_get old place ≡ Some x = subst (λ (n : ℕ). slice_get old n ≡ Some x) e a in
          let was = are.each place x t x_at here in
          let same : t.taken ≡ taken x.taken.got (x.taken.joined ++ []) = was.1 ∙ ap (λ o. taken x.taken.got (x.taken.joined ++ (list_in o ++ []))) none_yet in
          let after : u.taken ≡ taken x.taken.got ((x.taken.joined ++ []) ++ p.list ∷ []) = more ∙ ap (λ (z : Taken T). after_joining (Some p.list) z) same in
          let got : y.taken ≡ taken x.taken.got (x.taken.joined ++ lists_at place ((row ++ p ∷ []) ∷ [])) =
          ap (λ (z : OutPass T). z.taken) (is_u k y e b) ∙ (after ∙ (ap (λ l. taken x.taken.got (l ++ p.list ∷ [])) (append-nil x.taken.joined) ∙ sym (ap (λ o. taken x.taken.got (x.taken.joined ++ (list_in o ++ []))) now_there))) in
          (ap (λ (z : OutPass T). z.queue) (is_u k y e b) ∙ (queue ∙ was.0), subst (λ (n : ℕ). y.taken ≡ taken x.taken.got (x.taken.joined ++ lists_at n ((row ++ p ∷ []) ∷ []))) (sym e) got))
          (λ (ne : k ≢ place).
          let was = are.each k x y a (sym (set_off now place k u ne) ∙ b) in
          (was.0, was.1 ∙ ap (λ o. taken x.taken.got (x.taken.joined ++ (list_in o ++ []))) (sym (snoc_off row p k (λ e. ne (e ∙ sym at))))));
    }

  -- ---- Rows, one after the other

  pub lists_snoc : (k : ℕ) (rows : List (List (InPass T))) (row : List (InPass T)) → lists_at k (rows ++ row ∷ []) ≡ lists_at k rows ++ lists_at k (row ∷ [])
  lists_snoc k [] row = refl
  lists_snoc k (r ∷ rows) row = ap (λ l. list_in (slice_get r k) ++ l) (lists_snoc k rows row) ∙ sym (append_assoc (list_in (slice_get r k)) (lists_at k rows) (lists_at k (row ∷ [])))

  pub joined_then : (a b c : List (OutPass T)) (rows : List (List (InPass T))) (row : List (InPass T)) → AreJoined a b rows → IsJoined b c row → AreJoined a c (rows ++ row ∷ [])
  joined_then a b c rows row f g = record {
    size = g.size ∙ f.size;
    each = λ k x z at now.
        let less : k < length b = let l = slice_get_within a k x at in let e = f.size in omega arith in
        let y = slice_get-get_or b k z less in
        let first = f.each k x (get_or b k z) at y in
        let next = g.each k (get_or b k z) z y now in
        (next.0 ∙ first.0, next.1 ∙ (ap (λ (t : Taken T). taken t.got (t.joined ++ lists_at k (row ∷ []))) first.1 ∙ ap (λ l. taken x.taken.got l) (append_assoc x.taken.joined (lists_at k rows) (lists_at k (row ∷ [])) ∙ ap (λ l. x.taken.joined ++ l) (sym (lists_snoc k rows row)))));
  }

  pub joined_none : (a : List (OutPass T)) → AreJoined a a []
  joined_none a = record {
    size = refl;
    each = λ k x y at now. let e = one_there a k y x now at in (ap (λ (z : OutPass T). z.queue) e, ap (λ (z : OutPass T). z.taken) e ∙ ap (λ l. taken x.taken.got l) (sym (append-nil x.taken.joined)));
  }

  pub row_none : (a : List (OutPass T)) → IsJoined a a []
  row_none a = record {
    size = refl;
    each = λ k x y at now. let e = one_there a k y x now at in (ap (λ (z : OutPass T). z.queue) e, ap (λ (z : OutPass T). z.taken) e ∙ ap (λ l. taken x.taken.got l) (sym (append-nil x.taken.joined)));
  }

  -- ---- What is known in the end

  pub like_here : (a : List (OutPass T)) → AreSame a a
  like_here a = record { size = refl; each = λ k x y at now. let e = one_there a k y x now at in (ap (λ (z : OutPass T). z.queue) e, ap (λ (z : OutPass T). z.taken) e) }

  pub like_set : (a now : List (OutPass T)) (place : ℕ) (t u : OutPass T) → slice_get now place ≡ Some t → u.queue ≡ t.queue → u.taken ≡ t.taken → AreSame a now → AreSame a (set now place u)
  like_set a now place t u here queue same like = record {
    size = length-set now place u ∙ like.size;
    each = λ k x y at b. dite (ℕ_discrete k place)
        (λ (e : k ≡ place).
        let is : y ≡ u = one_there (set now place u) place y u (subst (λ (n : ℕ). slice_get (set now place u) n ≡ Some y) e b) (set_at now place u (slice_get_within now place t here)) in
        let was = like.each place x t (subst (λ (n : ℕ). slice_get a n ≡ Some x) e at) here in
        (ap (λ (z : OutPass T). z.queue) is ∙ (queue ∙ was.0), ap (λ (z : OutPass T). z.taken) is ∙ (same ∙ was.1)))
        (λ (ne : k ≢ place). like.each k x y at (sym (set_off now place k u ne) ∙ b));
  }

  pub known_more : (a : List (OutPass T)) (n : ℕ) → AreKnown a n → ((t : OutPass T) → slice_get a n ≡ Some t → KnowsAll t.taken []) → AreKnown a (n + 1)
  known_more a n known here k t less at = dite (ℕ_discrete k n)
      (λ (e : k ≡ n). here t (subst (λ (m : ℕ). slice_get a m ≡ Some t) e at))
      (λ (ne : k ≢ n). known k t (omega (arith, ne)) at)

  -- ---- The list of a sender among those at a queue

  pub list_there : (rows : List (List (InPass T))) (n k s : ℕ) (row : List (InPass T)) (p : InPass T) → ((i : ℕ) (r : List (InPass T)) → slice_get rows i ≡ Some r → k < length r) → slice_get rows s ≡ Some row → slice_get row k ≡ Some p → get_elem? (lists_at k rows) s ≡ some p.list
  list_there [] n k s row p full at here = absurd (let l = slice_get_within [] s row at in omega arith)
  list_there (r ∷ rows) n k zero row p full at here =
      let e : r ≡ row = one_there (r ∷ rows) 0 r row refl at in
      subst (λ (o : Option (InPass T)). get_elem? (list_in o ++ lists_at k rows) 0 ≡ some p.list) (sym (ap (λ (l : List (InPass T)). slice_get l k) e ∙ here)) refl
  list_there (r ∷ rows) n k (suc s) row p full at here =
      let x = slice_get-get_or r k p (full 0 r refl) in
      subst (λ (o : Option (InPass T)). get_elem? (list_in o ++ lists_at k rows) (suc s) ≡ some p.list) (sym x) (list_there rows n k s row p (λ i z e. full (suc i) z e) at here)

  some_pass : (k : ℕ) (row : List (InPass T)) → k < length row → (p : InPass T) × (slice_get row k ≡ Some p)
  some_pass k [] low = absurd (omega arith)
  some_pass k (x ∷ xs) low = (get_or (x ∷ xs) k x, slice_get-get_or (x ∷ xs) k x low)

  pub closed_at : (queues : List (Queue T)) (old new : List (OutPass T)) (rows : List (List (InPass T))) → AreRows queues rows → AreReceivers queues old → AreReady old rows → AreJoined old new rows → AreClosed new
  closed_at queues old new rows are receivers ready joined k u at =
      let less : k < length old = let l = slice_get_within new k u at in let e = joined.size in omega arith in
      let t : OutPass T = get_or old k u in
      let t_at : slice_get old k ≡ Some t = slice_get-get_or old k u less in
      let row : List (InPass T) = get_or rows 0 [] in
      let row_at : slice_get rows 0 ≡ Some row = slice_get-get_or rows 0 [] (let s = ready.some in omega arith) in
      let full : (i : ℕ) (r : List (InPass T)) → slice_get rows i ≡ Some r → k < length r = λ i r e. let a = (are i r e).size in let b = receivers.size in omega arith in
      let p = some_pass k row (full 0 row row_at) in
      let is : u.taken ≡ taken t.taken.got (lists_at k rows) = (joined.each k t u t_at at).1 ∙ ap (λ l. taken t.taken.got (l ++ lists_at k rows)) (ready.marks k t t_at).1 in
      subst (λ (z : Taken T). IsClosed z) (sym is)
      (0, p.0.list, list_there rows 0 k 0 row p.0 full row_at p.1, ready.numbers 0 k row p.0 row_at p.1, (ready.marks k t t_at).0 ∙ sym (ready.made k row p.0 row_at p.1))

  pub settled_at : (queues : List (Queue T)) (old new : List (OutPass T)) (rows : List (List (InPass T))) → AreRows queues rows → AreReceivers queues old → AreReady old rows → AreJoined old new rows → AreKnown new (length new) → AreSettled old rows
  settled_at queues old new rows are receivers ready joined known = record {
    whole_of = λ k s t row p t_at row_at here.
        let less : k < length new = let l = slice_get_within old k t t_at in let e = joined.size in omega arith in
        let u : OutPass T = get_or new k t in
        let u_at : slice_get new k ≡ Some u = slice_get-get_or new k t less in
        let is : u.taken ≡ taken t.taken.got (lists_at k rows) = (joined.each k t u t_at u_at).1 ∙ ap (λ l. taken t.taken.got (l ++ lists_at k rows)) (ready.marks k t t_at).1 in
        let all : KnowsAll (taken t.taken.got (lists_at k rows)) [] = subst (λ (z : Taken T). KnowsAll z []) is (known k u less u_at) in
        let full : (i : ℕ) (r : List (InPass T)) → slice_get rows i ≡ Some r → k < length r = λ i r e. let a = (are i r e).size in let b = receivers.size in let l = slice_get_within old k t t_at in omega arith in
        let w : bodies_from p.list.number (t.taken.got ++ []) ≡ bodies_of p.list = (all s p.list (list_there rows 0 k s row p full row_at here)).is_whole in
        ap (bodies_from s) (sym (append-nil t.taken.got)) ∙ (ap (λ n. bodies_from n (t.taken.got ++ [])) (sym (ready.numbers s k row p row_at here)) ∙ w);
    none_of = λ k s t t_at past.
        let less : k < length new = let l = slice_get_within old k t t_at in let e = joined.size in omega arith in
        let u : OutPass T = get_or new k t in
        let u_at : slice_get new k ≡ Some u = slice_get-get_or new k t less in
        let is : u.taken ≡ taken t.taken.got (lists_at k rows) = (joined.each k t u t_at u_at).1 ∙ ap (λ l. taken t.taken.got (l ++ lists_at k rows)) (ready.marks k t t_at).1 in
        let all : KnowsAll (taken t.taken.got (lists_at k rows)) [] = subst (λ (z : Taken T). KnowsAll z []) is (known k u less u_at) in
        let full : (i : ℕ) (r : List (InPass T)) → slice_get rows i ≡ Some r → k < length r = λ i r e. let a = (are i r e).size in let b = receivers.size in let l = slice_get_within old k t t_at in omega arith in
        let row : List (InPass T) = get_or rows 0 [] in
        let row_at : slice_get rows 0 ≡ Some row = slice_get-get_or rows 0 [] (let n = ready.some in omega arith) in
        let p = some_pass k row (full 0 row row_at) in
        let made : p.0.list.made ≡ length rows = ready.made k row p.0 row_at p.1 in
        ap (bodies_from s) (sym (append-nil t.taken.got)) ∙ (all 0 p.0.list (list_there rows 0 k 0 row p.0 full row_at p.1)).none_unmade (ready.numbers 0 k row p.0 row_at p.1) s (omega arith);
  }

  pub receivers_like : (queues : List (Queue T)) (a now : List (OutPass T)) → AreReceivers queues a → AreSame a now → (k : ℕ) (q : Queue T) (t : OutPass T) → slice_get queues k ≡ Some q → slice_get now k ≡ Some t → t.queue ≡ q.name
  receivers_like queues a now are like k q t at here =
      let less : k < length a = let l = slice_get_within now k t here in let e = like.size in omega arith in
      let x_at = slice_get-get_or a k t less in
      (like.each k (get_or a k t) t x_at here).0 ∙ are.each k q (get_or a k t) at x_at

  pub closed_like : (a now : List (OutPass T)) → AreClosed a → AreSame a now → (k : ℕ) (t : OutPass T) → slice_get now k ≡ Some t → IsClosed t.taken
  closed_like a now over like k t here =
      let less : k < length a = let l = slice_get_within now k t here in let e = like.size in omega arith in
      let x_at = slice_get-get_or a k t less in
      subst (λ (z : Taken T). IsClosed z) (sym (like.each k (get_or a k t) t x_at here).1) (over k (get_or a k t) x_at)

  pub known_like : (a now : List (OutPass T)) (n : ℕ) (t : OutPass T) → AreSame a now → slice_get now n ≡ Some t → KnowsAll t.taken [] → (x : OutPass T) → slice_get a n ≡ Some x → KnowsAll x.taken []
  known_like a now n t like here known x at = subst (λ (z : Taken T). KnowsAll z []) ((like.each n x t at here).1) known
