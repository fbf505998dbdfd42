-- The parts of a line's text.
use Rattle.std.proofs.Common.{◌≡◌, ◌∙◌, ◌++◌, ◌≤◌, ◌==◌, ◌&&◌, ℕ, suc, Bool, true, false, List, [], ◌∷◌, Some, length, codes, arith, refl, sym, ap}
use Rattle.std.specs.List.{list_all}
use Rattle.std.proofs.lemmas.Bool.{and_parts, eqb-true}
use Rattle.lsv_base.specs.LogNo.{IsLogText, digits_of, log_no_in, number_of}
use Rattle.lsv_base.proofs.LogNumbers.{computed_only, digits_computed}
use Rattle.lsv_base.proofs.Digits.{digits_of-number_of}
use Rattle.lsv_seal.specs.Line.{IsLine, fits, is_digest, is_hex, is_moment, line_of}
use Rattle.lsv_seal.specs.declared.line.Line.{Line}
use Rattle.lsv_seal.proofs.Chains.{parts}

-- a text in a form is as long
length-fits : (form text : List ℕ) → fits form text ≡ true → length text ≡ length form
length-fits [] [] is = refl
length-fits [] (b ∷ text) is = absurd (cc)
length-fits (f ∷ form) [] is = absurd (cc)
length-fits (f ∷ form) (b ∷ text) is = ap suc (length-fits form text ((and_parts _ (fits form text) is).1))

-- a text that ends before its form
pub ends_before : (form text : List ℕ) → 1 ≤ length form → length text ≡ 0 → false ≡ fits form text
ends_before [] text some none = absurd (omega (arith, some))
ends_before (f ∷ form) [] some none = refl
ends_before (f ∷ form) (b ∷ text) some none = absurd (omega (arith, none))

pub moment_long : (text : List ℕ) → is_moment text ≡ true → length text ≡ 20
moment_long text is = length-fits (codes "0000-00-00T00:00:00Z") text is

pub digest_long : (text : List ℕ) → is_digest text ≡ true → length text ≡ 64
digest_long text is = eqb-true (length text) 64 ((and_parts (length text == 64) (list_all is_hex text) is).0)

-- two cuts of one text at one length are one cut
pub one_cut : (a b r s : List ℕ) (e : ℕ) → length a ≡ length b → a ++ e ∷ r ≡ b ++ e ∷ s → (a ≡ b) × (r ≡ s)
one_cut a b r s e long same =
    let both = parts a b (e ∷ r) (e ∷ s) long same in
    let rest : e ∷ r ≡ e ∷ s = both.1 in
    (both.0, cc)

all_true : (a b c : Bool) → a ≡ true → b ≡ true → c ≡ true → (a && b && c) ≡ true
all_true a b c e f g = rw (e, f, g) refl

-- one of the tests fails, and none can
pub no_test : (r t : Bool) → r ≡ t → r ≡ false → t ≡ true → ⊥
no_test r t is failed passed = absurd (cc)

-- ---- a text that is cut, beside a line's

module _ (l : Line) (is : IsLine l) (text : List ℕ) (same : text ≡ line_of l) where
  abbrev after_value : List ℕ
  after_value = l.value ++ 10 ∷ []

  abbrev after_digest : List ℕ
  after_digest = l.digest ++ 32 ∷ after_value

  abbrev after_time : List ℕ
  after_time = l.time ++ 32 ∷ after_digest

  pub is_cut : text ≡ digits_of l.number ++ 32 ∷ after_time
  is_cut = same

  -- after the number
  pub first_cut : (digits rest : List ℕ) → length digits ≡ 6 → text ≡ digits ++ 32 ∷ rest → (digits ≡ digits_of l.number) × (rest ≡ after_time)
  first_cut digits rest long at = one_cut digits (digits_of l.number) rest after_time 32 long (sym at ∙ same)

  -- after the time
  pub second_cut : (rest time more : List ℕ) → rest ≡ after_time → length time ≡ 20 → rest ≡ time ++ 32 ∷ more → (time ≡ l.time) × (more ≡ after_digest)
  second_cut rest time more is_rest long at = one_cut time l.time more after_digest 32 (long ∙ sym (moment_long l.time is.time)) (sym at ∙ is_rest)

  -- after the digest
  pub third_cut : (rest digest more : List ℕ) → rest ≡ after_digest → length digest ≡ 64 → rest ≡ digest ++ 32 ∷ more → (digest ≡ l.digest) × (more ≡ after_value)
  third_cut rest digest more is_rest long at = one_cut digest l.digest more after_value 32 (long ∙ sym (digest_long l.digest is.digest)) (sym at ∙ is_rest)

  -- after the value
  pub fourth_cut : (rest value more : List ℕ) → rest ≡ after_value → length value ≡ 64 → rest ≡ value ++ 10 ∷ more → (value ≡ l.value) × (more ≡ [])
  fourth_cut rest value more is_rest long at = one_cut value l.value more [] 10 (long ∙ sym (digest_long l.value is.value)) (sym at ∙ is_rest)

  -- the parts are in their forms
  pub in_form : (time digest value : List ℕ) → time ≡ l.time → digest ≡ l.digest → value ≡ l.value → (is_moment time && is_digest digest && is_digest value) ≡ true
  in_form time digest value at_time at_digest at_value =
      all_true (is_moment time) (is_digest digest) (is_digest value) (ap is_moment at_time ∙ is.time) (ap is_digest at_digest ∙ is.digest) (ap is_digest at_value ∙ is.value)

  -- the digits are a number's
  pub number_read : (digits : List ℕ) → digits ≡ digits_of l.number → log_no_in digits ≡ Some l.number
  number_read digits at = ap log_no_in at ∙ digits_computed l.number is.first is.last

-- ---- a text whose parts are in their forms

-- digits that are read as a number are its digits
digits_read : (digits : List ℕ) (number : ℕ) → number ≡ number_of digits → IsLogText digits → digits ≡ digits_of number
digits_read digits number is text = sym ((digits_of-number_of digits text).0) ∙ ap digits_of (sym is)

module _ (number : ℕ) (digits time digest value text r1 r2 r3 r4 : List ℕ) (read : Some number ≡ log_no_in digits) where
  only : IsLogText digits × (number ≡ number_of digits)
  only = computed_only digits number (sym read)

  pub text_made : text ≡ digits ++ 32 ∷ r1 → r1 ≡ time ++ 32 ∷ r2 → r2 ≡ digest ++ 32 ∷ r3 → r3 ≡ value ++ 10 ∷ r4 → r4 ≡ []
      → text ≡ digits_of number ++ (32 ∷ (time ++ (32 ∷ (digest ++ (32 ∷ (value ++ 10 ∷ []))))))
  text_made e e1 e2 e3 e4 =
      let d = digits_read digits number only.1 only.0 in
      e ∙ ap (λ x. digits ++ 32 ∷ x) (e1 ∙ ap (λ x. time ++ 32 ∷ x) (e2 ∙ ap (λ x. digest ++ 32 ∷ x) (e3 ∙ ap (λ x. value ++ 10 ∷ x) e4)))
      ∙ ap (λ x. x ++ (32 ∷ (time ++ (32 ∷ (digest ++ (32 ∷ (value ++ 10 ∷ []))))))) d

  pub line_made : (is_moment time && is_digest digest && is_digest value) ≡ true → IsLine (record { number = number; time = time; digest = digest; value = value })
  line_made all =
      let two = and_parts (is_moment time && is_digest digest) (is_digest value) all in
      let one = and_parts (is_moment time) (is_digest digest) two.0 in
      record {
        first = rw only.1 only.0.counted;
        last = rw only.1 ((digits_of-number_of digits only.0).1);
        time = one.0;
        digest = one.1;
        value = two.1;
      }
