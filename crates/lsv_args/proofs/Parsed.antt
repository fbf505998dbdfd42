-- What `parse` makes of a value, and words that are text.
use Rattle.std.proofs.Common.{◌≡◌, ◌∙◌, ◌<◌, ◌^◌, ◌&&◌, ◌+◌, ◌++◌, ℕ, Bool, true, false, cond, List, [], ◌∷◌, Option, Some, None, Result, Ok, Err, Bor, length, map, take, get_or, nat_lt, option_map, unwrap_or, refl, sym, ap, arith}
use borrow.Author.Tests.{ltb-true}
use Rattle.std.specs.Char.{digit_value}
use Rattle.std.specs.List.{list_all}
use Rattle.std.specs.Result.{result_ok}
use Rattle.std.specs.Str.{IsUtf8, is_utf8}
use Rattle.std.specs.Str.Parse.{AllDigits, IsNumeral, ParsesUnsigned, digits_value, without_leading_plus}
use Rattle.std.proofs.lemmas.Bool.Decides.{nat_tests}
use Rattle.std.proofs.lemmas.List.{map-append, take_more}
use Rattle.std.proofs.lemmas.List.Sums.{AllPass-from_list_all}
use Rattle.std.proofs.lemmas.Str.{IsUtf8-from_is_utf8}
use Rattle.clap.specs.ValueTests.{is_numeral}
use Rattle.lsv_args.specs.Reading.{Options, number_in}

and_one : (a b : Bool) → (a && b) ≡ true → a ≡ true
and_one true b e = refl
and_one false b e = e

and_two : (a b : Bool) → (a && b) ≡ true → b ≡ true
and_two true b e = e
and_two false b e = absurd (cc)

both : (a b : Bool) → a ≡ true → b ≡ true → (a && b) ≡ true
both a b p q = rw (p, q) refl

below : (m n : ℕ) → m < n → nat_lt m n ≡ true
below m n h = grind (arith, nat_tests)

digits_all : (ds : List ℕ) → AllDigits 10 ds → list_all (λ d. nat_lt (digit_value d) 10) ds ≡ true
digits_all [] h = refl
digits_all (d ∷ ds) h = both (nat_lt (digit_value d) 10) (list_all (λ x. nat_lt (digit_value x) 10) ds) (below (digit_value d) 10 h.0) (digits_all ds h.1)

all_digits : (ds : List ℕ) → list_all (λ d. nat_lt (digit_value d) 10) ds ≡ true → AllDigits 10 ds
all_digits [] e = tt
all_digits (d ∷ ds) e = (ltb-true (digit_value d) 10 (and_one _ (list_all (λ x. nat_lt (digit_value x) 10) ds) e), all_digits ds (and_two (nat_lt (digit_value d) 10) _ e))

numeral_fits : (ds : List ℕ) → IsNumeral 10 ds → digits_value 10 ds < 2 ^ 32 → (is_numeral ds && nat_lt (digits_value 10 ds) (2 ^ 32)) ≡ true
numeral_fits ds h small = both (is_numeral ds) (nat_lt (digits_value 10 ds) (2 ^ 32)) (both (nat_lt 0 (length ds)) (list_all (λ x. nat_lt (digit_value x) 10) ds) (below 0 (length ds) h.0) (digits_all ds h.1)) (below (digits_value 10 ds) (2 ^ 32) small)

fits_numeral : (ds : List ℕ) → (is_numeral ds && nat_lt (digits_value 10 ds) (2 ^ 32)) ≡ true → IsNumeral 10 ds × (digits_value 10 ds < 2 ^ 32)
fits_numeral ds e =
    let numeral = and_one (is_numeral ds) (nat_lt (digits_value 10 ds) (2 ^ 32)) e in (
      (ltb-true 0 (length ds) (and_one (nat_lt 0 (length ds)) (list_all (λ x. nat_lt (digit_value x) 10) ds) numeral), all_digits ds (and_two (nat_lt 0 (length ds)) (list_all (λ x. nat_lt (digit_value x) 10) ds) numeral)),
      ltb-true (digits_value 10 ds) (2 ^ 32) (and_two (is_numeral ds) (nat_lt (digits_value 10 ds) (2 ^ 32)) e),
    )

unread : (ds : List ℕ) (t : Bool) → (is_numeral ds && nat_lt (digits_value 10 ds) (2 ^ 32)) ≡ t → (IsNumeral 10 ds × (digits_value 10 ds < 2 ^ 32) → ⊥) → None ≡ cond (is_numeral ds && nat_lt (digits_value 10 ds) (2 ^ 32)) (Some (digits_value 10 ds)) None
unread ds true e bad = absurd (bad (fits_numeral ds e))
unread ds false e bad = ap (λ t. cond t (Some (digits_value 10 ds)) None) (sym e)

pub number_parsed : {E : Type 0} (text : List ℕ) (r : Result ℕ E) → ParsesUnsigned 32 10 text r → result_ok r ≡ number_in text
number_parsed {E} text (Ok n) h =
    let ds = without_leading_plus text in
    ap (λ k. Some k) h.1 ∙ ap (λ t. cond t (Some (digits_value 10 ds)) None) (sym (numeral_fits ds h.0.0 h.0.1))
number_parsed {E} text (Err e) h = unread (without_leading_plus text) (is_numeral (without_leading_plus text) && nat_lt (digits_value 10 (without_leading_plus text)) (2 ^ 32)) refl h

-- a text or another, after references
pub unwrapped : (o : Option (Bor (List ℕ))) (d : Bor (List ℕ)) → (unwrap_or o d).now ≡ unwrap_or (option_map (λ s. s.now) o) d.now
unwrapped None d = refl
unwrapped (Some s) d = refl

pub word_is_text : (words : List (List ℕ)) (k : ℕ) (d : List ℕ) → list_all is_utf8 words ≡ true → k < length words → IsUtf8 (get_or words k d)
word_is_text words k d e lt = IsUtf8-from_is_utf8 (get_or words k d) (AllPass-from_list_all is_utf8 words e k d lt)

-- the texts so far and one more are the words so far and one more
pub texts_more : (texts : List (Bor (List ℕ))) (words : List (List ℕ)) (k : ℕ) (text : Bor (List ℕ)) (word : List ℕ) → k < length words → map (λ t. t.now) texts ≡ take k words → text.now ≡ word → word ≡ get_or words k word → map (λ t. t.now) (texts ++ text ∷ []) ≡ take (k + 1) words
texts_more texts words k text word lt so_far is at =
    map-append (λ t. t.now) texts (text ∷ []) ∙ ap (λ ws. ws ++ text.now ∷ []) so_far ∙ ap (λ w. take k words ++ w ∷ []) (is ∙ at) ∙ sym (take_more words k word lt)

abbrev pub options : List ℕ → ℕ → ℕ → Option ℕ → Options
options c l w s = record { conf = c; lanes = l; workers = w; stop_after = s }

pub options_same : (c d : List ℕ) (l m w v : ℕ) (s t : Option ℕ) → c ≡ d → l ≡ m → w ≡ v → s ≡ t → options c l w s ≡ options d m v t
options_same c d l m w v s t p q x r = rw (p, q, x, r) refl
