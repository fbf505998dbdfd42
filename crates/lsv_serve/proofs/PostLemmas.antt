-- Endpoints of ports, and one more; and the ports of endpoints.
use Rattle.std.proofs.Common.{◌≡◌, ◌≢◌, ◌<◌, ◌+◌, ◌++◌, ◌∷◌, [], List, ℕ, Bool, true, false, Some, inl, inr, map, length, refl, sym, ap, subst, ◌∙◌, arith, append_assoc, append-nil}
use Rattle.std.specs.Prelude.{◌==◌, drop, slice_get, take}
use Rattle.std.proofs.Math.ListN.{get_or}
use Rattle.std.proofs.Math.Seq.{get_or-append_seam, take-append_seam}
use Rattle.std.proofs.lemmas.Bool.{eqb-true}
use Rattle.std.proofs.lemmas.Bool.Decides.{nat_tests}
use Rattle.std.proofs.lemmas.List.{get_or_append_left, length-append, map-append}
use Rattle.std.proofs.lemmas.Option.{get_or_from_slice_get, slice_get-get_or, slice_get_within}
use Rattle.lsv_session.specs.declared.job.Job.{Job}
use Rattle.lsv_session.specs.declared.reply.Reply.{Reply}
use Rattle.lsv_links.specs.Views.{PortView}
use Rattle.lsv_serve.specs.InnerServe.{ArePosts, IsSeated, nothing, port_at}

-- one of a list with one more is that one, or one of the list
data OneOf {A : Type 0} (xs : List A) (v : A) (i : ℕ) (x : A) : Type 0 where
  last : i ≡ length xs → x ≡ v → OneOf xs v i x
  earlier : i < length xs → slice_get xs i ≡ Some x → OneOf xs v i x

one_of : {A : Type 0} (xs : List A) (v : A) (i : ℕ) (x : A) → slice_get (xs ++ v ∷ []) i ≡ Some x → OneOf xs v i x
one_of {A} xs v i x e = go (i == length xs) refl
  where
    go : (b : Bool) → (i == length xs) ≡ b → OneOf xs v i x
    go true t =
        let same : i ≡ length xs = grind (arith, nat_tests) in
        last same (sym (get_or_from_slice_get (xs ++ v ∷ []) i x v e) ∙ (ap (λ (k : ℕ). get_or (xs ++ v ∷ []) k v) same ∙ get_or-append_seam xs v [] v))
    go false t =
        let within : i < length (xs ++ v ∷ []) = slice_get_within (xs ++ v ∷ []) i x e in
        let all : length (xs ++ v ∷ []) ≡ length xs + 1 = length-append xs (v ∷ []) in
        let apart : i ≢ length xs = grind (arith, nat_tests) in
        let less : i < length xs = omega (arith, within, all, apart) in
        earlier less (slice_get-get_or xs i x less ∙ ap Some (sym (get_or_append_left xs (v ∷ []) x i less) ∙ get_or_from_slice_get (xs ++ v ∷ []) i x x e))

module _ {T : Type 0} (number lanes : T → ℕ) (made_by : PortView → T → (ℕ → List Job) → List Reply → Type 0) (view : T → PortView) (many : ℕ) where
  pub posts_none : ArePosts number lanes made_by view many [] []
  posts_none = record { count = refl; numbered = λ i post e. absurd (no_one i post e); laned = λ i post e. absurd (no_one i post e); made = λ i post e. absurd (no_one i post e); views = refl }
    where
      no_one : (i : ℕ) (post : T) → slice_get [] i ≡ Some post → ⊥
      no_one i post e = let less : i < 0 = slice_get_within [] i post e in omega (arith, less)

  pub posts_more : (ports : List PortView) (posts : List T) (port : PortView) (post : T) → number post ≡ length posts → lanes post ≡ many → made_by port post (λ lane. []) [] → view post ≡ port → ArePosts number lanes made_by view many ports posts → ArePosts number lanes made_by view many (ports ++ port ∷ []) (posts ++ post ∷ [])
  posts_more ports posts port post numbered laned made seen are = record {
    count = length-append posts (post ∷ []) ∙ (ap (λ (n : ℕ). n + 1) are.count ∙ sym (length-append ports (port ∷ [])));
    numbered = λ i x e. elim (one_of posts post i x e) [
      | last same is ↦ ap number is ∙ (numbered ∙ sym same)
      | earlier less at ↦ are.numbered i x at
    ];
    laned = λ i x e. elim (one_of posts post i x e) [
      | last same is ↦ ap lanes is ∙ laned
      | earlier less at ↦ are.laned i x at
    ];
    made = λ i x e. elim (one_of posts post i x e) [
      | last same is ↦
          let here : i ≡ length ports = same ∙ are.count in
          let here_is : port_at (ports ++ port ∷ []) i ≡ port = ap (λ (k : ℕ). get_or (ports ++ port ∷ []) k nothing) here ∙ get_or-append_seam ports port [] nothing in
          subst (λ (p : PortView). made_by p x (λ lane. []) []) (sym here_is) (subst (λ (y : T). made_by port y (λ lane. []) []) (sym is) made)
      | earlier less at ↦
          let within : i < length ports = subst (λ (n : ℕ). i < n) are.count less in
          subst (λ (p : PortView). made_by p x (λ lane. []) []) (sym (get_or_append_left ports (port ∷ []) nothing i within)) (are.made i x at)
    ];
    views = map-append view posts (post ∷ []) ∙ (ap (λ (l : List PortView). l ++ view post ∷ []) are.views ∙ ap (λ (p : PortView). ports ++ p ∷ []) seen);
  }

pub nothing_left : {A : Type 0} (xs : List A) → length xs ≡ 0 → xs ≡ []
nothing_left [] none = refl
nothing_left (x ∷ xs) none = absurd (omega arith)

-- what stands between two parts of a list
pub stands_there : {A : Type 0} (xs : List A) (x : A) (ys : List A) → slice_get (xs ++ x ∷ ys) (length xs) ≡ Some x
stands_there xs x ys = slice_get-get_or (xs ++ x ∷ ys) (length xs) x (omega (arith, length-append xs (x ∷ ys))) ∙ ap Some (get_or-append_seam xs x ys x)

-- what is written back into a vector of as many
pub written_back : {A : Type 0} (n : ℕ) (olds news : List A) → length news ≡ n → length olds ≡ n → take n (news ++ drop (length news) olds) ≡ news
written_back n olds news size held = ap (λ (k : ℕ). take k (news ++ drop (length news) olds)) (sym size) ∙ take-append_seam news (drop (length news) olds)

-- a port more was seated
pub record SeatedMore {T P : Type 0} (number lanes : T → ℕ) (made_by : PortView → T → (ℕ → List Job) → List Reply → Type 0) (view : T → PortView) (port_view : P → PortView) (many : ℕ) (yielded : List P) (posts : List T) (left : List P) : Type 0 where
  pub size : length posts + length left ≡ length yielded
  pub views : map view posts ++ map port_view left ≡ map port_view yielded
  pub all : left ≡ [] → ArePosts number lanes made_by view many (map port_view yielded) posts

pub seated_more : {T P : Type 0} (number lanes : T → ℕ) (made_by : PortView → T → (ℕ → List Job) → List Reply → Type 0) (view : T → PortView) (port_view : P → PortView) (many : ℕ) (yielded : List P) (n : ℕ) (port : P) (posts posts' : List T) (left left' : List P)
    → n ≡ length yielded → length posts + length left ≡ length yielded → map view posts ++ map port_view left ≡ map port_view yielded → (left ≡ [] → ArePosts number lanes made_by view many (map port_view yielded) posts)
    → IsSeated number lanes made_by view port_view n many port posts posts' left left' → SeatedMore number lanes made_by view port_view many (yielded ++ port ∷ []) posts' left'
seated_more number lanes made_by view port_view many yielded n port posts posts' left left' is_number size views are (inl b) =
    let none : length left ≡ 0 = ap length b.none in
    let was : map view posts ≡ map port_view yielded = sym (append-nil (map view posts)) ∙ (ap (λ (l : _). map view posts ++ map port_view l) (sym b.none) ∙ views) in
    let more : ArePosts number lanes made_by view many (map port_view (yielded ++ port ∷ [])) posts' =
    subst (λ (ps : List PortView). ArePosts number lanes made_by view many ps posts') (sym (map-append port_view yielded (port ∷ [])))
    (subst (λ (l : List _). ArePosts number lanes made_by view many (map port_view yielded ++ port_view port ∷ []) l) (sym b.last)
    (posts_more number lanes made_by view many (map port_view yielded) posts (port_view port) b.post (b.numbered ∙ (let h : n ≡ length posts = omega (arith, is_number, size, none) in h)) b.laned b.made b.seen (are b.none))) in
    record {
      size = let a = ap length b.last in let e = length-append posts (b.post ∷ []) in let f = length-append yielded (port ∷ []) in let z = ap length b.still in omega (arith, a, e, f, z, size, none);
      views = ap (λ (l : List _). map view posts' ++ map port_view l) b.still ∙ (append-nil (map view posts') ∙ more.views);
      all = λ still. more;
    }
seated_more number lanes made_by view port_view many yielded n port posts posts' left left' is_number size views are (inr (same, more)) = record {
  size = let a = ap length same in let b = ap length more in let e = length-append left (port ∷ []) in let f = length-append yielded (port ∷ []) in omega (arith, a, b, e, f, size);
  views =
      ap (λ (l : List _). map view l ++ map port_view left') same ∙ ap (λ (l : List _). map view posts ++ map port_view l) more
      ∙ ap (λ (l : List PortView). map view posts ++ l) (map-append port_view left (port ∷ []))
      ∙ sym (append_assoc (map view posts) (map port_view left) (port_view port ∷ []))
      ∙ ap (λ (l : List PortView). l ++ port_view port ∷ []) views ∙ sym (map-append port_view yielded (port ∷ []));
  all = λ none. absurd (let a = ap length none in let b = ap length more in let e = length-append left (port ∷ []) in omega (arith, a, b, e));
}

-- a list that counts none
pub no_items : {A : Type 0} (n : ℕ) (xs : List A) → n ≡ length xs → true ≡ (n == 0) → xs ≡ []
no_items n xs is e = nothing_left xs (sym is ∙ eqb-true n 0 (sym e))
