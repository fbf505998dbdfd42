-- A text without controls, byte by byte; and that none is left.
use Rattle.std.proofs.Common.{◌≡◌, ℕ, zero, suc, ◌+◌, ◌/◌, ◌%◌, ◌<◌, ◌≤◌, ◌⊎◌, inl, inr, List, [], ◌∷◌, ◌++◌, Bool, true, false, length, drop, slice_index_or, refl, sym, ap, ap₂, ◌∙◌, arith, cond, append_assoc, codes}
use Rattle.std.specs.Prelude.{if◌then◌else◌, nat_le, nat_lt, not, ◌&&◌, ◌||◌, ◌==◌}
use Rattle.std.specs.Char.{digit_char}
use Rattle.std.specs.Str.Lossy.{utf8_lossy}
use Rattle.std.proofs.lemmas.Bool.{and_parts, leb-true, eqb-true, le-ltb, ltb-true}
use Rattle.std.proofs.lemmas.List.{drop_all, append-nil}
use Rattle.lsv_send.specs.Lines.{id_line}
use Rattle.lsv_send.specs.Visible.{byte_after, is_control, is_lead, is_second, is_visible, lead_before, numbered, visible}

-- ---- Byte by byte

-- the byte at a place is put, and the text after it is left
next : (text : List ℕ) (i before : ℕ) → i < length text
    → visible before (drop i text) ≡ lead_before before (slice_index_or text i 0) ++ byte_after before (slice_index_or text i 0) ++ visible (slice_index_or text i 0) (drop (suc i) text)
unfolding visible
next [] i before within = absurd (omega (arith, within))
next (byte ∷ text) zero before within = refl
next (byte ∷ text) (suc i) before within = next text i before (omega (arith, within))

pub step : (text out new whole : List ℕ) (i before : ℕ) → i < length text
    → out ++ visible before (drop i text) ≡ whole
    → new ≡ out ++ lead_before before (slice_index_or text i 0) ++ byte_after before (slice_index_or text i 0)
    → new ++ visible (slice_index_or text i 0) (drop (i + 1) text) ≡ whole
step text out new whole i before within so_far is =
    let byte = slice_index_or text i 0 in
    let lead = lead_before before byte in
    let its = byte_after before byte in
    let rest = visible byte (drop (suc i) text) in
    let later : i + 1 ≡ suc i = omega arith in
    rw (later, is) (append_assoc (out ++ lead) its rest ∙ append_assoc out lead (its ++ rest) ∙ ap (λ (xs : List ℕ). out ++ xs) (sym (append_assoc lead its rest) ∙ sym (next text i before within)) ∙ so_far)

nothing : (before : ℕ) (b : Bool) → is_lead before ≡ b → visible before [] ≡ (if b then 194 ∷ [] else [])
unfolding visible
nothing before b is = ap (λ (b : Bool). if b then 194 ∷ [] else []) is

-- at the end 0xC2 is put if it came last
pub ended : (text out whole : List ℕ) (i before : ℕ) (b : Bool) → length text ≤ i → out ++ visible before (drop i text) ≡ whole → is_lead before ≡ b
    → out ++ (if b then 194 ∷ [] else []) ≡ whole
ended text out whole i before b over so_far is =
    ap (λ (xs : List ℕ). out ++ xs) (sym (nothing before b is) ∙ ap (visible before) (sym (drop_all i text over))) ∙ so_far

-- ---- None is left

and_false : (b : Bool) → (b && false) ≡ false
and_false true = refl
and_false false = refl

less : (x n : ℕ) → x < n → (x == n) ≡ false
less x n below = go (x == n) refl
  where
    go : (b : Bool) → (x == n) ≡ b → b ≡ false
    go false e = refl
    go true e = absurd (omega (arith, eqb-true x n e, below))

-- neither a space nor what is between it and DEL is a control
plain : (byte : ℕ) → 32 ≤ byte → byte < 127 → is_control byte ≡ false
plain byte low high = ap₂ (λ (a b : Bool). a || b) (le-ltb byte 32 low) (less byte 127 high)

control_small : (byte : ℕ) → is_control byte ≡ true → byte ≤ 159
control_small byte e = go (nat_lt byte 32) (byte == 127) refl refl e
  where
    go : (b d : Bool) → nat_lt byte 32 ≡ b → (byte == 127) ≡ d → (b || d) ≡ true → byte ≤ 159
    go true d eb ed either = omega (arith, ltb-true byte 32 eb)
    go false true eb ed either = omega (arith, eqb-true byte 127 ed)
    go false false eb ed either = absurd (let no : false ≡ true = either in cc)

-- a byte that is neither a control nor the second of one
one : (p byte : ℕ) (text : List ℕ) → is_control byte ≡ false → (is_lead p && is_second byte) ≡ false → is_visible byte text ≡ true → is_visible p (byte ∷ text) ≡ true
one p byte text no_control no_c1 rest = ap₂ (λ (a b : Bool). not a && b) (ap₂ (λ (a b : Bool). a || b) no_control no_c1) rest

digit_low : (d : ℕ) → 32 ≤ digit_char d
digit_low d = go (nat_lt d 10)
  where
    go : (b : Bool) → 32 ≤ cond b (48 + d) (87 + d)
    go true = omega arith
    go false = omega arith

digit_small : (d : ℕ) → d < 16 → digit_char d < 127
digit_small d few = go (nat_lt d 10)
  where
    go : (b : Bool) → cond b (48 + d) (87 + d) < 127
    go true = omega (arith, few)
    go false = omega (arith, few)

no_lead : (d : ℕ) → d < 16 → is_lead (digit_char d) ≡ false
no_lead d few = let small = digit_small d few in less (digit_char d) 194 (omega (arith, small))

by_number : (p code : ℕ) (text : List ℕ) → code ≤ 159 → is_visible (digit_char (code % 16)) text ≡ true → is_visible p (numbered code ++ text) ≡ true
by_number p code text few rest =
    let high = code / 16 in
    let low = code % 16 in
    let high_few : high < 16 = omega (arith, few) in
    let low_few : low < 16 = omega arith in
    let d = digit_char high in
    let e = digit_char low in
    one p 92 (120 ∷ d ∷ e ∷ text) refl (and_false (is_lead p))
    (one 92 120 (d ∷ e ∷ text) refl refl
    (one 120 d (e ∷ text) (plain d (digit_low high) (digit_small high high_few)) refl
    (one d e text (plain e (digit_low low) (digit_small low low_few)) (ap (λ (b : Bool). b && is_second e) (no_lead high high_few)) rest)))

second_few : (byte : ℕ) → is_second byte ≡ true → byte ≤ 159
second_few byte e = leb-true byte 159 (and_parts (nat_le 128 byte) (nat_le byte 159) e).1

-- what a byte adds leaves a text that is visible after it visible
stays : (p before byte : ℕ) (rest : List ℕ) → (is_lead p ≡ false) ⊎ (is_lead before ≡ true) → ((q : ℕ) → (is_lead q ≡ false) ⊎ (is_lead byte ≡ true) → is_visible q rest ≡ true)
    → is_visible p (lead_before before byte ++ (byte_after before byte ++ rest)) ≡ true
stays p before byte rest h quiet = go (is_lead before) (is_second byte) (is_lead byte) (is_control byte) refl refl refl refl h
  where
    shown : (q : ℕ) → byte ≤ 159 → is_visible q (numbered byte ++ rest) ≡ true
    shown q few = by_number q byte rest few (quiet (digit_char (byte % 16)) (inl (no_lead (byte % 16) (omega arith))))

    as_is : (q : ℕ) → is_control byte ≡ false → (is_lead q && is_second byte) ≡ false → is_lead byte ≡ false → is_visible q (byte ∷ rest) ≡ true
    as_is q d c m = one q byte rest d c (quiet byte (inl m))

    lead : (text : List ℕ) → is_visible 194 text ≡ true → is_visible p (194 ∷ text) ≡ true
    lead text its = one p 194 text refl (and_false (is_lead p)) its

    go : (l s m d : Bool) → is_lead before ≡ l → is_second byte ≡ s → is_lead byte ≡ m → is_control byte ≡ d → (is_lead p ≡ false) ⊎ (is_lead before ≡ true)
        → is_visible p ((if l && not s then 194 ∷ [] else []) ++ ((if m then [] else (if d || (l && s) then numbered byte else byte ∷ [])) ++ rest)) ≡ true
    go true false true d el es em ed h = lead rest (quiet 194 (inr em))
    go true true true d el es em ed h = quiet p (inr em)
    go false s true d el es em ed h = quiet p (inr em)
    go true true false true el es em ed h = shown p (second_few byte es)
    go true true false false el es em ed h = shown p (second_few byte es)
    go true false false true el es em ed h = lead (numbered byte ++ rest) (shown 194 (control_small byte ed))
    go true false false false el es em ed h = lead (byte ∷ rest) (as_is 194 ed es em)
    go false s false true el es em ed h = shown p (control_small byte ed)
    go false s false false el es em ed (inl e) = as_is p ed (ap (λ (b : Bool). b && is_second byte) e) em
    go false s false false el es em ed (inr e) = absurd (let no : true ≡ false = sym e ∙ el in cc)

quiet : (text : List ℕ) (p before : ℕ) → (is_lead p ≡ false) ⊎ (is_lead before ≡ true) → is_visible p (visible before text) ≡ true
unfolding visible
quiet [] p before h = go (is_lead before)
  where
    go : (b : Bool) → is_visible p (if b then 194 ∷ [] else []) ≡ true
    go true = one p 194 [] refl (and_false (is_lead p)) refl
    go false = refl
quiet (byte ∷ text) p before h =
    rw (append_assoc (lead_before before byte) (byte_after before byte) (visible byte text))
    (stays p before byte (visible byte text) h (λ q. quiet text q byte))

-- the line of an identifier is one line, and no control stands in it
pub id_is_visible : (id : List ℕ) → (text : List ℕ) × (id_line id ≡ text ++ 10 ∷ []) × (is_visible 0 text ≡ true)
id_is_visible id = (
  codes "id " ++ visible 0 (utf8_lossy id),
  refl,
  one 0 105 (100 ∷ 32 ∷ visible 0 (utf8_lossy id)) refl refl
      (one 105 100 (32 ∷ visible 0 (utf8_lossy id)) refl refl
      (one 100 32 (visible 0 (utf8_lossy id)) refl refl
      (quiet (utf8_lossy id) 32 0 (inl refl)))),
)
