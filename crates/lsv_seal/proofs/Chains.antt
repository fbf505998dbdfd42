-- A value fixes what it seals.
use Rattle.std.proofs.Common.{◌≡◌, ◌≢◌, ◌∙◌, ◌⊎◌, ◌++◌, ℕ, inl, inr, Bool, true, false, List, [], ◌∷◌, length, length-append, arith, refl, sym, ap}
use Rattle.std.specs.List.{All, Contains, fold}
use Rattle.std.specs.Str.{bytes_eq}
use Rattle.std.proofs.lemmas.List.Elements.{All-cons, All-head, All-nil, All-tail, Contains-append_cases, Contains-append_left, Contains-append_right}
use Rattle.std.proofs.lemmas.Slice.Eq.{bytes_eq-Decides}
use Rattle.lsv_base.specs.LogNo.{digits_of, number_of}
use Rattle.lsv_base.proofs.Digits.{number_of-digits_of}
use Rattle.lsv_seal.specs.Chain.{Collides, IsSealed, Sealed, chain, first, next, shown, text_after, texts, texts_from}

-- ---- two texts of three parts

-- equal texts whose first parts are as long have equal parts
pub parts : (xs ys us vs : List ℕ) → length xs ≡ length ys → xs ++ us ≡ ys ++ vs → (xs ≡ ys) × (us ≡ vs)
parts [] [] us vs long same = (refl, same)
parts [] (y ∷ ys) us vs long same = absurd (omega (arith, long))
parts (x ∷ xs) [] us vs long same = absurd (omega (arith, long))
parts (x ∷ xs) (y ∷ ys) us vs long same =
    let head : x ≡ y = cc in
    let tail : xs ++ us ≡ ys ++ vs = cc in
    let rest = parts xs ys us vs (omega (arith, long)) tail in
    (let more = rest.0 in cc, rest.1)

-- equal texts whose last parts are as long have equal parts
ends : (xs ys us vs : List ℕ) → length us ≡ length vs → xs ++ us ≡ ys ++ vs → (xs ≡ ys) × (us ≡ vs)
ends xs ys us vs long same =
    parts xs ys us vs (omega (arith, long, length-append xs us, length-append ys vs, ap length same)) same

-- one log is another, by its number and its digest
one_log : (s t : Sealed) → IsSealed s → IsSealed t → digits_of s.number ≡ digits_of t.number → s.digest ≡ t.digest → s ≡ t
one_log s t is_s is_t digits digest =
    let number : s.number ≡ t.number = sym (number_of-digits_of s.number is_s.last) ∙ ap number_of digits ∙ number_of-digits_of t.number is_t.last in
    sealed s.number t.number s.digest t.digest number digest
  where
    sealed : (n m : ℕ) (d e : List ℕ) → n ≡ m → d ≡ e → (let x : Sealed = record { number = n; digest = d } in x) ≡ record { number = m; digest = e }
    sealed n m d e number digest = cc

-- ---- a seal, the last log first

abbrev back : List Sealed → List Sealed → List Sealed
back [] after = after
back (s ∷ more) after = back more (s ∷ after)

abbrev value : List Sealed → List ℕ
value [] = first
value (s ∷ older) = next (value older) s

abbrev text : List Sealed → List ℕ
text [] = []
text (s ∷ older) = text_after (value older) s

abbrev texts_of : List Sealed → List (List ℕ)
texts_of [] = [] ∷ []
texts_of (s ∷ older) = text_after (value older) s ∷ texts_of older

-- a seal's last text is among its texts
has_text : (a : List Sealed) → Contains (texts_of a) (text a)
has_text [] = (0, omega arith, refl)
has_text (s ∷ older) = (0, omega arith, refl)

value_shown : (a : List Sealed) → value a ≡ shown (text a)
value_shown [] = refl
value_shown (s ∷ older) = refl

record Collision (a b : List Sealed) : Type 0 where
  one : List ℕ
  other : List ℕ
  of_a : Contains (texts_of a) one
  of_b : Contains (texts_of b) other
  differ : one ≢ other
  same : shown one ≡ shown other

-- the last texts differ
apart : (a b : List Sealed) → value a ≡ value b → text a ≢ text b → Collision a b
apart a b same differ = record {
  one = text a;
  other = text b;
  of_a = has_text a;
  of_b = has_text b;
  differ = differ;
  same = sym (value_shown a) ∙ same ∙ value_shown b;
}

-- the texts of a log have more than none
some_text : (before : List ℕ) (s : Sealed) → text_after before s ≢ []
some_text before s none =
    let long = ap length none in
    absurd (omega (arith, long, length-append before (digits_of s.number ++ s.digest), length-append (digits_of s.number) s.digest))

-- a collision of older logs is one of all
older_collide : (s t : Sealed) (a b : List Sealed) → Collision a b → Collision (s ∷ a) (t ∷ b)
older_collide s t a b c = record {
  one = c.one;
  other = c.other;
  of_a = Contains-append_right (text_after (value a) s ∷ []) (texts_of a) c.one c.of_a;
  of_b = Contains-append_right (text_after (value b) t ∷ []) (texts_of b) c.other c.of_b;
  differ = c.differ;
  same = c.same;
}

cons_same : (s t : Sealed) (a b : List Sealed) → s ≡ t → a ≡ b → s ∷ a ≡ t ∷ b
cons_same s t a b head tail = cc

-- of one text: one log after seals with one value
same_text : (s t : Sealed) (a b : List Sealed) → IsSealed s → IsSealed t → text (s ∷ a) ≡ text (t ∷ b) → (value a ≡ value b) × (s ≡ t)
same_text s t a b is_s is_t same =
    let long : length (digits_of s.number ++ s.digest) ≡ length (digits_of t.number ++ t.digest)
    = omega (arith, is_s.long, is_t.long, length-append (digits_of s.number) s.digest, length-append (digits_of t.number) t.digest) in
    let first_parts = ends (value a) (value b) (digits_of s.number ++ s.digest) (digits_of t.number ++ t.digest) long same in
    let last_parts = parts (digits_of s.number) (digits_of t.number) s.digest t.digest refl first_parts.1 in
    (first_parts.0, one_log s t is_s is_t last_parts.0 last_parts.1)

fixed : (a b : List Sealed) → All IsSealed a → All IsSealed b → value a ≡ value b → (a ≡ b) ⊎ Collision a b
fixed [] [] is_a is_b same = inl refl
fixed [] (t ∷ b) is_a is_b same = inr (apart [] (t ∷ b) same (λ e. some_text (value b) t (sym e)))
fixed (s ∷ a) [] is_a is_b same = inr (apart (s ∷ a) [] same (some_text (value a) s))
fixed (s ∷ a) (t ∷ b) is_a is_b same = by_text (bytes_eq (text (s ∷ a)) (text (t ∷ b))) refl (λ one. fixed a b (All-tail IsSealed s a is_a) (All-tail IsSealed t b is_b) one)
  where
    grown : s ≡ t → (a ≡ b) ⊎ Collision a b → (s ∷ a ≡ t ∷ b) ⊎ Collision (s ∷ a) (t ∷ b)
    grown head (inl tail) = inl (cons_same s t a b head tail)
    grown head (inr c) = inr (older_collide s t a b c)

    by_text : (r : Bool) → bytes_eq (text (s ∷ a)) (text (t ∷ b)) ≡ r → (value a ≡ value b → (a ≡ b) ⊎ Collision a b) → (s ∷ a ≡ t ∷ b) ⊎ Collision (s ∷ a) (t ∷ b)
    by_text true is older =
        let one = same_text s t a b (All-head IsSealed s a is_a) (All-head IsSealed t b is_b) ((bytes_eq-Decides (text (s ∷ a)) (text (t ∷ b))).0 is) in
        grown one.1 (older one.0)
    by_text false is older = inr (apart (s ∷ a) (t ∷ b) same (λ e. absurd (let yes = (bytes_eq-Decides (text (s ∷ a)) (text (t ∷ b))).1 e in cc)))

-- ---- the first log first

back_twice : (a after : List Sealed) → back (back a after) [] ≡ back after a
back_twice [] after = refl
back_twice (s ∷ a) after = back_twice a (s ∷ after)

all_back : (a after : List Sealed) → All IsSealed a → All IsSealed after → All IsSealed (back a after)
all_back [] after is more = more
all_back (s ∷ a) after is more = all_back a (s ∷ after) (All-tail IsSealed s a is) (All-cons IsSealed s after (All-head IsSealed s a is) more)

value_back : (a after : List Sealed) → fold next (value after) a ≡ value (back a after)
value_back [] after = refl
value_back (s ∷ a) after = value_back a (s ∷ after)

-- a text of a seal is one of those before, or of those after
text_back : (a after : List Sealed) (x : List ℕ) → Contains (texts_of (back a after)) x → Contains (texts_of after) x ⊎ Contains (texts_from (value after) a) x
text_back [] after x in_it = inl in_it
text_back (s ∷ a) after x in_it = now (text_back a (s ∷ after) x in_it)
  where
    this : List (List ℕ)
    this = text_after (value after) s ∷ []

    last : Contains this x ⊎ Contains (texts_of after) x → Contains (texts_of after) x ⊎ Contains (this ++ texts_from (next (value after) s) a) x
    last (inl here) = inr (Contains-append_left this (texts_from (next (value after) s) a) x here)
    last (inr older) = inl older

    now : Contains (this ++ texts_of after) x ⊎ Contains (texts_from (next (value after) s) a) x → Contains (texts_of after) x ⊎ Contains (this ++ texts_from (next (value after) s) a) x
    now (inl before) = last (Contains-append_cases this (texts_of after) x before)
    now (inr more) = inr (Contains-append_right this (texts_from (next (value after) s) a) x more)

in_texts : (a : List Sealed) (x : List ℕ) → Contains (texts_of (back a [])) x → Contains (texts a) x
in_texts a x in_it = either (text_back a [] x in_it)
  where
    either : Contains ([] ∷ []) x ⊎ Contains (texts_from first a) x → Contains (texts a) x
    either (inl here) = Contains-append_left ([] ∷ []) (texts_from first a) x here
    either (inr more) = Contains-append_right ([] ∷ []) (texts_from first a) x more

pub fixes : (a b : List Sealed) → All IsSealed a → All IsSealed b → chain a ≡ chain b → (a ≡ b) ⊎ Collides a b
fixes a b is_a is_b same =
    turned (fixed (back a []) (back b []) (all_back a [] is_a (All-nil IsSealed)) (all_back b [] is_b (All-nil IsSealed)) (sym (value_back a []) ∙ same ∙ value_back b []))
  where
    turned : (back a [] ≡ back b []) ⊎ Collision (back a []) (back b []) → (a ≡ b) ⊎ Collides a b
    turned (inl one) = inl (sym (back_twice a []) ∙ ap (λ l. back l []) one ∙ back_twice b [])
    turned (inr c) = inr (record { one = c.one; other = c.other; of_a = in_texts a c.one c.of_a; of_b = in_texts b c.other c.of_b; differ = c.differ; same = c.same })
