-- Where the first separator stands, and the pieces between separators.
use Rattle.std.proofs.Common.{◌≡◌, ◌∙◌, ℕ, zero, suc, ◌+◌, ◌-◌, ◌<◌, ◌==◌, Bool, true, false, List, [], ◌∷◌, Option, Some, None, length, take, drop, get_or, ap, refl, sym, arith, add-one, Bor, option_map, map, append_assoc, ◌++◌}
use Rattle.std.proofs.lemmas.List.{take_rest}
use Rattle.lsv_replay_args.specs.Texts.{before, behind, onto, pieces}

-- the first place at which a separator stands
pub cut_at : (c : ℕ) (bytes : List ℕ) (k : ℕ) → k < length bytes → (get_or bytes k 0 == c) ≡ true → ((i : ℕ) → i < k → (get_or bytes i 0 == c) ≡ false) → (before c bytes ≡ take k bytes) × (behind c bytes ≡ Some (drop (suc k) bytes))
cut_at c [] k lt here none = absurd (omega arith)
cut_at c (b ∷ bytes) zero lt here none = (rw here refl, rw here refl)
cut_at c (b ∷ bytes) (suc k) lt here none =
    let first : (b == c) ≡ false = none 0 (omega arith) in
    let rest = cut_at c bytes k (omega arith) here (λ i l. none (suc i) (omega arith)) in
    (rw first (ap (λ more. b ∷ more) rest.0), rw first rest.1)

-- no separator
pub cut_none : (c : ℕ) (bytes : List ℕ) → ((i : ℕ) → i < length bytes → (get_or bytes i 0 == c) ≡ false) → (before c bytes ≡ bytes) × (behind c bytes ≡ None)
cut_none c [] none = (refl, refl)
cut_none c (b ∷ bytes) none =
    let first : (b == c) ≡ false = none 0 (omega arith) in
    let rest = cut_none c bytes (λ i l. none (suc i) (omega arith)) in
    (rw first (ap (λ more. b ∷ more) rest.0), rw first rest.1)

some_is : {A : Type 0} {x y : A} → Some x ≡ Some y → x ≡ y
some_is e = cc

pub not_true : (t : Bool) → (t ≡ true → ⊥) → t ≡ false
not_true true h = absurd (h refl)
not_true false h = refl

-- all that stands after a place
pub rest_of : (bytes : List ℕ) (k : ℕ) → take (length bytes - (k + 1)) (drop (k + 1) bytes) ≡ drop (suc k) bytes
rest_of bytes k = take_rest bytes (k + 1) ∙ ap (λ n. drop n bytes) (add-one k)

-- the pieces of what stands after the first separator
abbrev pub pieces_behind : ℕ → Option (List ℕ) → List (List ℕ)
pieces_behind c None = []
pieces_behind c (Some bytes) = pieces c bytes

cut_first : (c b : ℕ) (bytes : List ℕ) (t : Bool) → (b == c) ≡ t → pieces c bytes ≡ before c bytes ∷ pieces_behind c (behind c bytes) → pieces c (b ∷ bytes) ≡ before c (b ∷ bytes) ∷ pieces_behind c (behind c (b ∷ bytes))
cut_first c b bytes true e rest = rw e refl
cut_first c b bytes false e rest = rw e (ap (onto b) rest)

-- the first piece, and those after it
pub pieces_cut : (c : ℕ) (bytes : List ℕ) → pieces c bytes ≡ before c bytes ∷ pieces_behind c (behind c bytes)
pieces_cut c [] = refl
pieces_cut c (b ∷ bytes) = cut_first c b bytes (b == c) refl (pieces_cut c bytes)

shorter_first : (c b : ℕ) (bytes rest : List ℕ) (t : Bool) → (b == c) ≡ t → behind c (b ∷ bytes) ≡ Some rest → (behind c bytes ≡ Some rest → length rest < length bytes) → length rest < length (b ∷ bytes)
shorter_first c b bytes rest true is e more = let same : bytes ≡ rest = some_is (rw is at e) in rw (← same) (omega arith)
shorter_first c b bytes rest false is e more = let less : length rest < length bytes = more (rw is at e) in omega arith

-- what stands after a separator is shorter
pub behind_shorter : (c : ℕ) (bytes rest : List ℕ) → behind c bytes ≡ Some rest → length rest < length bytes
behind_shorter c [] rest e = absurd (cc)
behind_shorter c (b ∷ bytes) rest e = shorter_first c b bytes rest (b == c) refl e (behind_shorter c bytes rest)

-- the pieces of what a reference is left with, and a measure of it
abbrev pub pieces_left : ℕ → Option (Bor (List ℕ)) → List (List ℕ)
pieces_left c None = []
pieces_left c (Some bytes) = pieces c bytes.now

abbrev pub left_of : Option (Bor (List ℕ)) → ℕ
left_of None = 0
left_of (Some bytes) = length bytes.now + 1

same_left : (c : ℕ) (more : Option (Bor (List ℕ))) → pieces_behind c (option_map (λ rest. rest.now) more) ≡ pieces_left c more
same_left c None = refl
same_left c (Some rest) = refl

-- the pieces, if the bytes are cut
pub left_cut : (c : ℕ) (bytes : List ℕ) (more : Option (Bor (List ℕ))) → option_map (λ rest. rest.now) more ≡ behind c bytes → pieces c bytes ≡ before c bytes ∷ pieces_left c more
left_cut c bytes more e = pieces_cut c bytes ∙ ap (λ rest. before c bytes ∷ pieces_behind c rest) (sym e) ∙ ap (λ rest. before c bytes ∷ rest) (same_left c more)

-- a cut leaves less
pub left_less : (c : ℕ) (bytes : List ℕ) (more : Option (Bor (List ℕ))) → option_map (λ rest. rest.now) more ≡ behind c bytes → left_of more < length bytes + 1
left_less c bytes None e = omega arith
left_less c bytes (Some rest) e = let less = behind_shorter c bytes rest.now (sym e) in omega arith

-- a list of what is made of the pieces so far, with one more
pub made_more : (f : List ℕ → List ℕ) (c : ℕ) (all items new : List (List ℕ)) (text : List ℕ) (rest more : Option (Bor (List ℕ))) (at : Bor (List ℕ))
    → rest ≡ Some at → all ≡ items ++ map f (pieces_left c rest) → pieces c at.now ≡ before c at.now ∷ pieces_left c more → text ≡ f (before c at.now) → new ≡ items ++ text ∷ []
    → all ≡ new ++ map f (pieces_left c more)
made_more f c all items new text rest more at is h cut made pushed =
    h ∙ ap (λ r. items ++ map f (pieces_left c r)) is ∙ ap (λ ps. items ++ map f ps) cut
    ∙ ap (λ t. items ++ (t ∷ map f (pieces_left c more))) (sym made)
    ∙ sym (append_assoc items (text ∷ []) (map f (pieces_left c more)))
    ∙ ap (λ xs. xs ++ map f (pieces_left c more)) (sym pushed)
