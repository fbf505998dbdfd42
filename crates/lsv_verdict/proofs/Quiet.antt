-- No DEL and no C1 control is left in a line of JSON, as lsv_event has it.
use Rattle.std.proofs.Common.{◌≡◌, ℕ, zero, suc, ◌+◌, ◌/◌, ◌%◌, ◌<◌, ◌≤◌, ◌⊎◌, inl, inr, List, [], ◌∷◌, ◌++◌, Bool, true, false, refl, sym, ap, ap₂, ◌∙◌, arith, cond, append_assoc}
use Rattle.std.specs.Prelude.{if◌then◌else◌, nat_le, nat_lt, not, ◌&&◌, ◌||◌, ◌==◌}
use Rattle.std.specs.Char.{digit_char}
use Rattle.std.proofs.lemmas.Bool.{and_parts, leb-true, eqb-true}
use Rattle.serde_json.specs.Written.{compact_text}
use Rattle.lsv_event.specs.Controls.{byte_after, is_lead, is_second, is_uncontrolled, lead_before, numbered, uncontrolled}
use Rattle.serde_json.specs.Data.{Data}

and_false : (b : Bool) → (b && false) ≡ false
and_false true = refl
and_false false = refl

less : (x n : ℕ) → x < n → (x == n) ≡ false
less x n below = go (x == n) refl
  where
    go : (b : Bool) → (x == n) ≡ b → b ≡ false
    go false e = refl
    go true e = absurd (omega (arith, eqb-true x n e, below))

-- a byte that is neither DEL nor the second of a C1 control
one : (p byte : ℕ) (text : List ℕ) → (byte == 127) ≡ false → (is_lead p && is_second byte) ≡ false → is_uncontrolled byte text ≡ true → is_uncontrolled p (byte ∷ text) ≡ true
one p byte text no_del no_c1 rest = ap₂ (λ (a b : Bool). not a && b) (ap₂ (λ (a b : Bool). a || b) no_del no_c1) rest

digit_small : (d : ℕ) → d < 16 → digit_char d < 127
digit_small d few = go (nat_lt d 10)
  where
    go : (b : Bool) → cond b (48 + d) (87 + d) < 127
    go true = omega (arith, few)
    go false = omega (arith, few)

no_lead : (d : ℕ) → d < 16 → is_lead (digit_char d) ≡ false
no_lead d few = let small = digit_small d few in less (digit_char d) 194 (omega (arith, small))

by_number : (p code : ℕ) (text : List ℕ) → code ≤ 159 → is_uncontrolled (digit_char (code % 16)) text ≡ true → is_uncontrolled p (numbered code ++ text) ≡ true
by_number p code text few rest =
    let high = code / 16 in
    let low = code % 16 in
    let high_few : high < 16 = omega (arith, few) in
    let low_few : low < 16 = omega arith in
    let d = digit_char high in
    let e = digit_char low in
    one p 92 (117 ∷ 48 ∷ 48 ∷ d ∷ e ∷ text) refl (and_false (is_lead p))
    (one 92 117 (48 ∷ 48 ∷ d ∷ e ∷ text) refl refl
    (one 117 48 (48 ∷ d ∷ e ∷ text) refl refl
    (one 48 48 (d ∷ e ∷ text) refl refl
    (one 48 d (e ∷ text) (less d 127 (digit_small high high_few)) refl
    (one d e text (less e 127 (digit_small low low_few)) (ap (λ (b : Bool). b && is_second e) (no_lead high high_few)) rest)))))

second_few : (byte : ℕ) → is_second byte ≡ true → byte ≤ 159
second_few byte e = leb-true byte 159 (and_parts (nat_le 128 byte) (nat_le byte 159) e).1

-- what a byte adds leaves a text that is quiet after it quiet
stays : (p before byte : ℕ) (rest : List ℕ) → (is_lead p ≡ false) ⊎ (is_lead before ≡ true) → ((q : ℕ) → (is_lead q ≡ false) ⊎ (is_lead byte ≡ true) → is_uncontrolled q rest ≡ true)
    → is_uncontrolled p (lead_before before byte ++ (byte_after before byte ++ rest)) ≡ true
stays p before byte rest h quiet = go (is_lead before) (is_second byte) (is_lead byte) (byte == 127) refl refl refl refl h
  where
    shown : (q : ℕ) → byte ≤ 159 → is_uncontrolled q (numbered byte ++ rest) ≡ true
    shown q few = by_number q byte rest few (quiet (digit_char (byte % 16)) (inl (no_lead (byte % 16) (omega arith))))

    del : (byte == 127) ≡ true → byte ≤ 159
    del d = omega (arith, eqb-true byte 127 d)

    as_is : (q : ℕ) → (byte == 127) ≡ false → (is_lead q && is_second byte) ≡ false → is_lead byte ≡ false → is_uncontrolled q (byte ∷ rest) ≡ true
    as_is q d c m = one q byte rest d c (quiet byte (inl m))

    lead : (text : List ℕ) → is_uncontrolled 194 text ≡ true → is_uncontrolled p (194 ∷ text) ≡ true
    lead text its = one p 194 text refl (and_false (is_lead p)) its

    go : (l s m d : Bool) → is_lead before ≡ l → is_second byte ≡ s → is_lead byte ≡ m → (byte == 127) ≡ d → (is_lead p ≡ false) ⊎ (is_lead before ≡ true)
        → is_uncontrolled p ((if l && not s then 194 ∷ [] else []) ++ ((if m then [] else (if d || (l && s) then numbered byte else byte ∷ [])) ++ rest)) ≡ true
    go true false true d el es em ed h = lead rest (quiet 194 (inr em))
    go true true true d el es em ed h = quiet p (inr em)
    go false s true d el es em ed h = quiet p (inr em)
    go true true false true el es em ed h = shown p (second_few byte es)
    go true true false false el es em ed h = shown p (second_few byte es)
    go true false false true el es em ed h = lead (numbered byte ++ rest) (shown 194 (del ed))
    go true false false false el es em ed h = lead (byte ∷ rest) (as_is 194 ed es em)
    go false s false true el es em ed h = shown p (del ed)
    go false s false false el es em ed (inl e) = as_is p ed (ap (λ (b : Bool). b && is_second byte) e) em
    go false s false false el es em ed (inr e) = absurd (let no : true ≡ false = sym e ∙ el in cc)

quiet : (text : List ℕ) (p before : ℕ) → (is_lead p ≡ false) ⊎ (is_lead before ≡ true) → is_uncontrolled p (uncontrolled before text ++ 10 ∷ []) ≡ true
unfolding uncontrolled
quiet [] p before h = go (is_lead before)
  where
    go : (b : Bool) → is_uncontrolled p ((if b then 194 ∷ [] else []) ++ 10 ∷ []) ≡ true
    go true = one p 194 (10 ∷ []) refl (and_false (is_lead p)) refl
    go false = one p 10 [] refl (and_false (is_lead p)) refl
quiet (byte ∷ text) p before h =
    rw (append_assoc (lead_before before byte ++ byte_after before byte) (uncontrolled byte text) (10 ∷ []), append_assoc (lead_before before byte) (byte_after before byte) (uncontrolled byte text ++ 10 ∷ []))
    (stays p before byte (uncontrolled byte text ++ 10 ∷ []) h (λ q. quiet text q byte))

pub json_quiet : (json : Data) → is_uncontrolled 0 (uncontrolled 0 (compact_text json) ++ 10 ∷ []) ≡ true
json_quiet json = quiet (compact_text json) 0 0 (inl refl)
