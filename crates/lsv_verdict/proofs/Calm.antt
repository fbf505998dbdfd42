-- Texts without control bytes: decimal digits, and JSON, as lsv_event has them.
use Rattle.std.proofs.Common.{◌≡◌, ℕ, zero, suc, ◌+◌, ◌/◌, ◌%◌, ◌<◌, ◌≤◌, ◌⊎◌, inl, inr, ℤ, pos, negsuc, List, [], ◌∷◌, ◌++◌, Bool, true, false, refl, ap, ◌∙◌, arith, codes, cond}
use Rattle.std.specs.Prelude.{if◌then◌else◌, nat_le, nat_lt, ◌&&◌, ◌||◌, ◌==◌, not, decimal, All}
use Rattle.std.specs.Fmt.{signed_decimal, digits, digits_onto, digit_glyph}
use Rattle.std.specs.Char.{digit_char}
use Rattle.std.specs.List.{flat_map, list_all}
use Rattle.std.proofs.lemmas.Bool.{and_parts, le-leb, lt-ltb, leb-true, ltb-false, or_cases, eqb-true}
use Rattle.std.proofs.lemmas.List.Elements.{All-cons, All-nil}
use Rattle.std.proofs.lemmas.List.Folds.{list_all-append}
use Rattle.json.specs.Print.{escape_byte, escape_letter, quoted}
use Rattle.serde_json.specs.Data.{unsigned, negative, float, Data, null, boolean, number, string, array, object, Items, no_items, item, Members, no_members, member}
use Rattle.serde_json.specs.Written.{compact_text, items_text, members_text, comma_if}
use Rattle.lsv_event.specs.Events.{IsOneLine}
use Rattle.lsv_event.specs.Controls.{byte_after, is_lead, is_second, lead_before, numbered, uncontrolled}

-- a visible byte or a space
abbrev pub clean : ℕ → Bool
clean byte = nat_le 32 byte && nat_le byte 126

-- no control byte of ASCII
abbrev calm : ℕ → Bool
calm byte = nat_le 32 byte

-- each byte is so
pub record Each (p : ℕ → Bool) (text : List ℕ) : Type 0 where
  pub holds : list_all p text ≡ true

pub both : {x y : Bool} → x ≡ true → y ≡ true → (x && y) ≡ true
both {x} {y} e f = ap (λ (b : Bool). b && y) e ∙ f

pub join : {p : ℕ → Bool} {a b : List ℕ} → Each p a → Each p b → Each p (a ++ b)
join {p} {a} {b} e f = record { holds = list_all-append p a b ∙ both e.holds f.holds }

pub then_each : {p : ℕ → Bool} {x : ℕ} {text : List ℕ} → p x ≡ true → Each p text → Each p (x ∷ text)
then_each e f = record { holds = both e f.holds }

pub each_of : (p : ℕ → Bool) (f : ℕ → List ℕ) → ((x : ℕ) → Each p (f x)) → (xs : List ℕ) → Each p (flat_map f xs)
each_of p f e [] = record { holds = refl }
each_of p f e (x ∷ xs) = join (e x) (each_of p f e xs)

-- ---- digits

pub digit_clean : (d : ℕ) → d ≤ 9 → clean (48 + d) ≡ true
digit_clean d few = both (le-leb 32 (48 + d) (omega arith)) (le-leb (48 + d) 126 (omega arith))

glyph_is : (d : ℕ) → d < 10 → digit_glyph false d ≡ 48 + d
glyph_is d few = ap (λ (b : Bool). if b then 48 + d else (87 + d)) (lt-ltb d 10 few)

glyph_clean : (n : ℕ) → clean (digit_glyph false (n % 10)) ≡ true
glyph_clean n = ap clean (glyph_is (n % 10) (omega arith)) ∙ digit_clean (n % 10) (omega arith)

onto_clean : (k n : ℕ) (acc : List ℕ) → Each clean acc → Each clean (digits_onto k 10 false n acc)
onto_clean zero n acc e = e
onto_clean (suc k) n acc e = go (n / 10 == 0) (then_each (glyph_clean n) e) (onto_clean k (n / 10) (digit_glyph false (n % 10) ∷ acc) (then_each (glyph_clean n) e))
  where
    go : (b : Bool) → Each clean (digit_glyph false (n % 10) ∷ acc) → Each clean (digits_onto k 10 false (n / 10) (digit_glyph false (n % 10) ∷ acc))
        → Each clean (if b then digit_glyph false (n % 10) ∷ acc else digits_onto k 10 false (n / 10) (digit_glyph false (n % 10) ∷ acc))
    go true e f = e
    go false e f = f

pub decimal_clean : (n : ℕ) → Each clean (decimal n)
unfolding digits
decimal_clean n = onto_clean 64 n [] (record { holds = refl })

pub every : (p : ℕ → Bool) (P : ℕ → Type 0) → ((x : ℕ) → p x ≡ true → P x) → (text : List ℕ) → list_all p text ≡ true → All P text
every p P e [] h = All-nil P
every p P e (x ∷ text) h =
    let at = and_parts (p x) (list_all p text) h in
    All-cons P x text (e x at.0) (every p P e text at.1)

pub visible : (x : ℕ) → clean x ≡ true → (32 ≤ x) × (x ≤ 126)
visible x e =
    let at = and_parts (nat_le 32 x) (nat_le x 126) e in
    (leb-true 32 x at.0, leb-true x 126 at.1)

-- ---- lines of JSON

calmer : (text : List ℕ) → list_all clean text ≡ true → list_all calm text ≡ true
calmer [] e = refl
calmer (x ∷ text) e =
    let at = and_parts (clean x) (list_all clean text) e in
    both (and_parts (nat_le 32 x) (nat_le x 126) at.0).0 (calmer text at.1)

decimal_calm : (n : ℕ) → Each calm (decimal n)
decimal_calm n = record { holds = calmer (decimal n) (decimal_clean n).holds }

signed_calm : (z : ℤ) → Each calm (signed_decimal z)
signed_calm (pos n) = decimal_calm n
signed_calm (negsuc n) = then_each refl (decimal_calm (suc n))

letter_of : (x : ℕ) (is_plain form back feed return tab : Bool) → (is_plain ≡ true → 32 ≤ x)
    → (cond is_plain x (cond back 98 (cond form 102 (cond feed 110 (cond return 114 (cond tab 116 0))))) ≡ 0) ⊎ (32 ≤ cond is_plain x (cond back 98 (cond form 102 (cond feed 110 (cond return 114 (cond tab 116 0))))))
letter_of x true form back feed return tab h = inr (h refl)
letter_of x false form true feed return tab h = inr (omega arith)
letter_of x false true false feed return tab h = inr (omega arith)
letter_of x false false false true return tab h = inr (omega arith)
letter_of x false false false false true tab h = inr (omega arith)
letter_of x false false false false false true h = inr (omega arith)
letter_of x false false false false false false h = inl refl

letter_is : (x : ℕ) → (escape_letter x ≡ 0) ⊎ (32 ≤ escape_letter x)
letter_is x = letter_of x ((x == 34) || (x == 92)) (x == 12) (x == 8) (x == 10) (x == 13) (x == 9) (λ e. large (or_cases (x == 34) (x == 92) e))
  where
    large : ((x == 34) ≡ true) ⊎ ((x == 92) ≡ true) → 32 ≤ x
    large (inl e) = omega (arith, eqb-true x 34 e)
    large (inr e) = omega (arith, eqb-true x 92 e)

char_calm : (d : ℕ) → calm (digit_char d) ≡ true
char_calm d = go (nat_lt d 10)
  where
    go : (b : Bool) → calm (cond b (48 + d) (87 + d)) ≡ true
    go true = le-leb 32 (48 + d) (omega arith)
    go false = le-leb 32 (87 + d) (omega arith)

control_calm : (x : ℕ) → Each calm (cond (nat_lt x 32) (92 ∷ 117 ∷ 48 ∷ 48 ∷ digit_char (x / 16) ∷ digit_char (x % 16) ∷ []) (x ∷ []))
control_calm x = go (nat_lt x 32) refl
  where
    go : (b : Bool) → nat_lt x 32 ≡ b → Each calm (cond b (92 ∷ 117 ∷ 48 ∷ 48 ∷ digit_char (x / 16) ∷ digit_char (x % 16) ∷ []) (x ∷ []))
    go true e = record { holds = both (char_calm (x / 16)) (both (char_calm (x % 16)) refl) }
    go false e = record { holds = both (le-leb 32 x (ltb-false x 32 e)) refl }

by_letter : (x letter : ℕ) → (letter ≡ 0) ⊎ (32 ≤ letter) → Each calm (cond (nat_lt 0 letter) (92 ∷ letter ∷ []) (cond (nat_lt x 32) (92 ∷ 117 ∷ 48 ∷ 48 ∷ digit_char (x / 16) ∷ digit_char (x % 16) ∷ []) (x ∷ [])))
by_letter x letter (inl e) = rw e (control_calm x)
by_letter x letter (inr some) = rw (lt-ltb 0 letter (omega arith)) (record { holds = both (le-leb 32 letter some) refl })

escape_calm : (x : ℕ) → Each calm (escape_byte x)
unfolding escape_byte
escape_calm x = by_letter x (escape_letter x) (letter_is x)

quoted_calm : (text : List ℕ) → Each calm (quoted text)
quoted_calm text = then_each refl (join (each_of calm escape_byte escape_calm text) (record { holds = refl }))

comma_calm : (later : Bool) → Each calm (comma_if later)
comma_calm true = record { holds = refl }
comma_calm false = record { holds = refl }

mutual
  text_calm : (json : Data) → Each calm (compact_text json)
  text_calm null = record { holds = refl }
  text_calm (boolean true) = record { holds = refl }
  text_calm (boolean false) = record { holds = refl }
  text_calm (number (unsigned n)) = decimal_calm n
  text_calm (number (negative z)) = signed_calm z
  text_calm (number (float x)) = record { holds = refl }
  text_calm (string s) = quoted_calm s
  text_calm (array ds) = then_each refl (items_calm false ds)
  text_calm (object ms) = then_each refl (members_calm false ms)

  items_calm : (later : Bool) (ds : Items) → Each calm (items_text later ds)
  items_calm later no_items = record { holds = refl }
  items_calm later (item d ds) = join (comma_calm later) (join (text_calm d) (items_calm true ds))

  members_calm : (later : Bool) (ms : Members) → Each calm (members_text later ms)
  members_calm later no_members = record { holds = refl }
  members_calm later (member k d ms) = join (comma_calm later) (join (quoted_calm k) (then_each refl (join (text_calm d) (members_calm true ms))))

numbered_calm : (code : ℕ) → Each calm (numbered code)
numbered_calm code = record { holds = both (char_calm (code / 16)) (both (char_calm (code % 16)) refl) }

lead_calm : (before byte : ℕ) → Each calm (lead_before before byte)
lead_calm before byte = go (is_lead before && not (is_second byte))
  where
    go : (b : Bool) → Each calm (if b then 194 ∷ [] else [])
    go true = record { holds = refl }
    go false = record { holds = refl }

after_calm : (before byte : ℕ) → calm byte ≡ true → Each calm (byte_after before byte)
after_calm before byte e = go (is_lead byte) (byte == 127 || (is_lead before && is_second byte))
  where
    go : (a b : Bool) → Each calm (if a then [] else (if b then numbered byte else byte ∷ []))
    go true b = record { holds = refl }
    go false true = numbered_calm byte
    go false false = record { holds = both e refl }

uncontrolled_calm : (before : ℕ) (text : List ℕ) → list_all calm text ≡ true → Each calm (uncontrolled before text)
unfolding uncontrolled
uncontrolled_calm before [] e = go (is_lead before)
  where
    go : (b : Bool) → Each calm (if b then 194 ∷ [] else [])
    go true = record { holds = refl }
    go false = record { holds = refl }
uncontrolled_calm before (byte ∷ text) e =
    let at = and_parts (calm byte) (list_all calm text) e in
    join (join (lead_calm before byte) (after_calm before byte at.0)) (uncontrolled_calm byte text at.1)

-- a value as JSON is one line
pub json_one : (json : Data) → IsOneLine (uncontrolled 0 (compact_text json) ++ 10 ∷ [])
json_one json =
    let plain = compact_text json in
    (uncontrolled 0 plain, refl, every calm (λ byte. 32 ≤ byte) (λ x e. leb-true 32 x e) (uncontrolled 0 plain) (uncontrolled_calm 0 plain (text_calm json).holds).holds)
