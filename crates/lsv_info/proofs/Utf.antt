-- What stands for bytes in text is UTF-8.
use Rattle.std.proofs.Common.{◌≡◌, ℕ, zero, suc, ◌+◌, ◌<◌, ◌≤◌, ◌==◌, nat_lt, Bool, true, false, cond, List, [], ◌∷◌, ◌++◌, length, take, drop, slice_index, IsUtf8, Option, Some, None, refl, subst, arith, take_all, length-drop}
use Rattle.std.specs.Option.{unwrap_or}
use Rattle.std.specs.Int.{is_in_range}
use Rattle.std.specs.Str.{is_utf8, chars}
use Rattle.std.specs.Str.Lossy.{valid_len_up_to, utf8_valid_len, second_byte_min, second_byte_max, error_len_after_two, error_len_after_one, error_len_of_some, utf8_error_len, utf8_invalid_len, after_first_chunk, replacement_bytes, utf8_lossy_within, utf8_lossy}
use lib.Utf8.{encode}
use Rattle.std.proofs.lemmas.Bool.{eqb-true, eqb-false}
use Rattle.std.proofs.lemmas.Str.{IsUtf8-append, IsUtf8-nil, IsUtf8-from_is_utf8, utf8_valid_len_le}

-- ---- the text at the front

front_at : (bytes : List ℕ) (n : ℕ) (b : Bool) → is_utf8 (take (suc n) bytes) ≡ b → IsUtf8 (take (valid_len_up_to bytes n) bytes) → IsUtf8 (take (cond b (suc n) (valid_len_up_to bytes n)) bytes)
front_at bytes n true is shorter = IsUtf8-from_is_utf8 _ is
front_at bytes n false is shorter = shorter

valid_front_up_to : (bytes : List ℕ) (n : ℕ) → IsUtf8 (take (valid_len_up_to bytes n) bytes)
valid_front_up_to bytes zero = IsUtf8-nil
valid_front_up_to bytes (suc n) = front_at bytes n _ refl (valid_front_up_to bytes n)

valid_front : (bytes : List ℕ) → IsUtf8 (take (utf8_valid_len bytes) bytes)
unfolding utf8_valid_len
valid_front bytes = valid_front_up_to bytes (length bytes)

replaced : IsUtf8 replacement_bytes
unfolding is_utf8 chars encode
replaced = IsUtf8-from_is_utf8 replacement_bytes refl

-- ---- what is no text has a byte at least

module _ (n : ℕ) where
  abbrev Takes : Option ℕ → Type 0
  Takes o = 0 < unwrap_or o n

  either : (b : Bool) (x y : Option ℕ) → Takes x → Takes y → Takes (cond b x y)
  either true x y p q = p
  either false x y p q = q

invalid_takes : (bytes : List ℕ) → 0 < length bytes → 0 < utf8_invalid_len bytes
unfolding utf8_error_len
invalid_takes bytes some =
    let n = length bytes in
    let first = slice_index bytes 0 in
    let one : 0 < 1 = omega arith in
    let two : 0 < 2 = omega arith in
    let three : 0 < 3 = omega arith in
    let fourth = either n (nat_lt n 4) None (Some 3) some three in
    let third = either n (nat_lt n 3) None _ some (either n (is_in_range 0x80 0xBF (slice_index bytes 2)) _ (Some 2) fourth two) in
    let second = either n (nat_lt n 2) None _ some (either n (is_in_range (second_byte_min first) (second_byte_max first) (slice_index bytes 1)) (error_len_after_two bytes) (Some 1) third one) in
    either n (n == 0) None (error_len_of_some bytes) some (either n (is_in_range 0xC2 0xF4 first) (error_len_after_one bytes) (Some 1) second one)

-- ---- the whole

lossy_at : (k : ℕ) (bytes : List ℕ) (b : Bool) → (utf8_valid_len bytes == length bytes) ≡ b → (b ≡ true → IsUtf8 bytes) → (b ≡ false → IsUtf8 (utf8_lossy_within k (after_first_chunk bytes)))
    → IsUtf8 (cond b bytes (take (utf8_valid_len bytes) bytes ++ (replacement_bytes ++ utf8_lossy_within k (after_first_chunk bytes))))
lossy_at k bytes true is whole rest = whole refl
lossy_at k bytes false is whole rest = IsUtf8-append _ _ (valid_front bytes) (IsUtf8-append _ _ replaced (rest refl))

lossy_text_within : (k : ℕ) (bytes : List ℕ) → length bytes ≤ k → IsUtf8 (utf8_lossy_within k bytes)
lossy_text_within zero [] short = IsUtf8-nil
lossy_text_within zero (x ∷ xs) short = absurd (omega arith)
lossy_text_within (suc k) bytes short =
    let n = utf8_valid_len bytes in
    let within = utf8_valid_len_le bytes in
    lossy_at k bytes (n == length bytes) refl
    (λ e. let is : n ≡ length bytes = eqb-true _ _ e in subst IsUtf8 (take_all n bytes (omega arith)) (valid_front bytes))
    (λ e.
    let faulty : n ≡ length bytes → ⊥ = eqb-false _ _ e in
    let takes = invalid_takes (drop n bytes) (omega (arith, length-drop n bytes)) in
    lossy_text_within k (after_first_chunk bytes) (omega (arith, length-drop (n + utf8_invalid_len (drop n bytes)) bytes)))

-- what is shown is UTF-8
pub lossy_text : (bytes : List ℕ) → IsUtf8 (utf8_lossy bytes)
unfolding utf8_lossy
lossy_text bytes = lossy_text_within (length bytes) bytes (omega arith)
