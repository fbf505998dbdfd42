-- What a field that was read says of its places and its number.
use Rattle.std.proofs.Common.{◌≡◌, ℕ, ◌+◌, ◌/◌, ◌%◌, ◌<◌, ◌≤◌, Bool, true, false, cond, ltb, leb, eqb, List, length, take, drop, Option, Some, None, Result, Ok, Err, refl, subst, arith, inl, inr}
use Rattle.std.specs.Prelude.{◌||◌}
use Rattle.std.specs.Int.{Width, w32, w64, byte_len, from_le_bytes}
use Rattle.std.proofs.lemmas.Bool.{ltb-false, le-leb, lt-leb}
use Rattle.lsv_wire.specs.declared.field.Field.{Field}
use Rattle.lsv_wire.specs.declared.field.FieldValue.{FieldValue}
use Rattle.lsv_wire.specs.declared.field.FieldValue.TheVariants.{Varint, Eight, Range, Four}
use Rattle.lsv_wire.specs.declared.field.WireFault.{WireFault}
use Rattle.lsv_wire.specs.declared.field.WireFault.TheVariants.{Truncated, BadKey}
use Rattle.lsv_wire.specs.declared.field.TheConstants.{LAST_FIELD_NUMBER}
use Rattle.lsv_wire.specs.Fields.{◌>>=◌, varint_at, fixed_at, after_bytes, value_at, field_at, next_field, IsWithin}
use Rattle.lsv_wire.proofs.Outcomes.{bound, guarded, chosen, ok_is, some_is}
use Rattle.lsv_wire.proofs.Varints.{varint_at-forward}

pub fixed_at-forward : (w : Width) (bytes : List ℕ) (key at : ℕ) (n : ℕ × ℕ) → fixed_at w bytes key at ≡ Ok n → (at ≤ n.1) × (n.1 ≤ length bytes)
unfolding fixed_at
fixed_at-forward w bytes key at n e =
    let found : ℕ × ℕ = (from_le_bytes w (take (byte_len w) (drop at bytes)), at + byte_len w) in
    let g = guarded (ltb (length bytes) (at + byte_len w)) (Truncated key) (Ok found) n e in
    let there : at + byte_len w ≤ length bytes = ltb-false _ _ g.0 in
    subst (λ (m : ℕ × ℕ). (at ≤ m.1) × (m.1 ≤ length bytes)) (ok_is found n g.1) (omega arith, there)

pub after_bytes-forward : (n : ℕ) (bytes : List ℕ) (key at end : ℕ) → after_bytes n bytes key at ≡ Ok end → (at ≤ end) × (end ≤ length bytes)
unfolding after_bytes
after_bytes-forward n bytes key at end e =
    let g = guarded (ltb (length bytes) (at + n)) (Truncated key) (Ok (at + n)) end e in
    let there : at + n ≤ length bytes = ltb-false _ _ g.0 in
    subst (λ (m : ℕ). (at ≤ m) × (m ≤ length bytes)) (ok_is (at + n) end g.1) (omega arith, there)

-- a value ends after its place, within the text
pub record Ends (bytes : List ℕ) (at : ℕ) (v : FieldValue × ℕ) : Type 0 where
  pub forward : at ≤ v.1
  pub there : v.1 ≤ length bytes
  pub within : IsWithin (length bytes) v.0

number_ends : (bytes : List ℕ) (key at : ℕ) (v : FieldValue × ℕ) → (varint_at bytes key at >>= λ n. Ok (Varint n.0, n.1)) ≡ Ok v → Ends bytes at v
number_ends bytes key at v e =
    let n = bound (varint_at bytes key at) (λ n. Ok (Varint n.0, n.1)) v e in
    let f = varint_at-forward bytes key at n.0 n.1 in
    subst (Ends bytes at) (ok_is (Varint n.0.0, n.0.1) v n.2) (record { forward = omega arith; there = f.1; within = tt })

eight_ends : (bytes : List ℕ) (key at : ℕ) (v : FieldValue × ℕ) → (fixed_at w64 bytes key at >>= λ n. Ok (Eight n.0, n.1)) ≡ Ok v → Ends bytes at v
eight_ends bytes key at v e =
    let n = bound (fixed_at w64 bytes key at) (λ n. Ok (Eight n.0, n.1)) v e in
    let f = fixed_at-forward w64 bytes key at n.0 n.1 in
    subst (Ends bytes at) (ok_is (Eight n.0.0, n.0.1) v n.2) (record { forward = f.0; there = f.1; within = tt })

four_ends : (bytes : List ℕ) (key at : ℕ) (v : FieldValue × ℕ) → (fixed_at w32 bytes key at >>= λ n. Ok (Four n.0, n.1)) ≡ Ok v → Ends bytes at v
four_ends bytes key at v e =
    let n = bound (fixed_at w32 bytes key at) (λ n. Ok (Four n.0, n.1)) v e in
    let f = fixed_at-forward w32 bytes key at n.0 n.1 in
    subst (Ends bytes at) (ok_is (Four n.0.0, n.0.1) v n.2) (record { forward = f.0; there = f.1; within = tt })

range_ends : (bytes : List ℕ) (key at : ℕ) (v : FieldValue × ℕ) → (varint_at bytes key at >>= λ n. after_bytes n.0 bytes key n.1 >>= λ end. Ok (Range n.1 end, end)) ≡ Ok v → Ends bytes at v
range_ends bytes key at v e =
    let n = bound (varint_at bytes key at) (λ n. after_bytes n.0 bytes key n.1 >>= λ end. Ok (Range n.1 end, end)) v e in
    let f = varint_at-forward bytes key at n.0 n.1 in
    let m = bound (after_bytes n.0.0 bytes key n.0.1) (λ end. Ok (Range n.0.1 end, end)) v n.2 in
    let g = after_bytes-forward n.0.0 bytes key n.0.1 m.0 m.1 in
    subst (Ends bytes at) (ok_is (Range n.0.1 m.0, m.0) v m.2) (record { forward = omega arith; there = g.1; within = g })

pub value_at-ends : (type : ℕ) (bytes : List ℕ) (key at : ℕ) (v : FieldValue × ℕ) → value_at type bytes key at ≡ Ok v → Ends bytes at v
unfolding value_at
value_at-ends type bytes key at v e =
    let r0 : Result (FieldValue × ℕ) WireFault = varint_at bytes key at >>= λ n. Ok (Varint n.0, n.1) in
    let r1 : Result (FieldValue × ℕ) WireFault = fixed_at w64 bytes key at >>= λ n. Ok (Eight n.0, n.1) in
    let r2 : Result (FieldValue × ℕ) WireFault = varint_at bytes key at >>= λ n. after_bytes n.0 bytes key n.1 >>= λ end. Ok (Range n.1 end, end) in
    let r5 : Result (FieldValue × ℕ) WireFault = fixed_at w32 bytes key at >>= λ n. Ok (Four n.0, n.1) in
    let bad : Result (FieldValue × ℕ) WireFault = Err (BadKey key) in
    elim (chosen (eqb type 0) r0 (cond (eqb type 1) r1 (cond (eqb type 2) r2 (cond (eqb type 5) r5 bad))) (Ok v) e) [
      | inl a ↦ number_ends bytes key at v a.1
      | inr a ↦ elim (chosen (eqb type 1) r1 (cond (eqb type 2) r2 (cond (eqb type 5) r5 bad)) (Ok v) a.1) [
        | inl b ↦ eight_ends bytes key at v b.1
        | inr b ↦ elim (chosen (eqb type 2) r2 (cond (eqb type 5) r5 bad) (Ok v) b.1) [
          | inl c ↦ range_ends bytes key at v c.1
          | inr c ↦ elim (chosen (eqb type 5) r5 bad (Ok v) c.1) [
            | inl d ↦ four_ends bytes key at v d.1
            | inr d ↦ absurd (let no = d.1 in cc)
          ]
        ]
      ]
    ]

-- a field ends after its place, within the text, and its number is one that a field may have
pub record Steps (bytes : List ℕ) (at : ℕ) (f : Field × ℕ) : Type 0 where
  pub forward : at < f.1
  pub there : f.1 ≤ length bytes
  pub first : 1 ≤ f.0.number
  pub last : f.0.number ≤ LAST_FIELD_NUMBER
  pub within : IsWithin (length bytes) f.0.value

or_false : (b c : Bool) → (b || c) ≡ false → (b ≡ false) × (c ≡ false)
or_false true c e = absurd cc
or_false false c e = (refl, e)

pub field_at-steps : (bytes : List ℕ) (at : ℕ) (f : Field × ℕ) → field_at bytes at ≡ Ok f → Steps bytes at f
unfolding field_at
field_at-steps bytes at f e =
    let made : ℕ × ℕ → FieldValue × ℕ → Field × ℕ = λ key value. (record { number = key.0 / 8; value = value.0 }, value.1) in
    let bad : ℕ → Bool = λ n. eqb n 0 || ltb LAST_FIELD_NUMBER n in
    let key = bound (varint_at bytes at at) (λ key. cond (bad (key.0 / 8)) (Err (BadKey at)) (value_at (key.0 % 8) bytes at key.1 >>= λ value. Ok (made key value))) f e in
    let g = guarded (bad (key.0.0 / 8)) (BadKey at) (value_at (key.0.0 % 8) bytes at key.0.1 >>= λ value. Ok (made key.0 value)) f key.2 in
    let value = bound (value_at (key.0.0 % 8) bytes at key.0.1) (λ value. Ok (made key.0 value)) f g.1 in
    let k = varint_at-forward bytes at at key.0 key.1 in
    let v = value_at-ends (key.0.0 % 8) bytes at key.0.1 value.0 value.1 in
    let tests = or_false (eqb (key.0.0 / 8) 0) (ltb LAST_FIELD_NUMBER (key.0.0 / 8)) g.0 in
    let some : 0 < key.0.0 / 8 = grind (arith, tests.0) in
    let low : key.0.0 / 8 ≤ LAST_FIELD_NUMBER = ltb-false _ _ tests.1 in
    subst (Steps bytes at) {x = made key.0 value.0} (ok_is (made key.0 value.0) f value.2) (record { forward = omega arith; there = v.there; first = omega arith; last = low; within = v.within })

pub next_field-steps : (bytes : List ℕ) (at : ℕ) (f : Field × ℕ) → next_field bytes at ≡ Ok (Some f) → Steps bytes at f
unfolding next_field
next_field-steps bytes at f e =
    let none : Result (Option (Field × ℕ)) WireFault = Ok None in
    elim (chosen (leb (length bytes) at) none (field_at bytes at >>= λ f. Ok (Some f)) (Ok (Some f)) e) [
      | inl a ↦ absurd (let no = a.1 in cc)
      | inr a ↦ let b = bound (field_at bytes at) (λ f. Ok (Some f)) (Some f) a.1 in subst (Steps bytes at) (some_is b.0 f b.2) (field_at-steps bytes at b.0 b.1)
    ]

pub next_field-end : (bytes : List ℕ) (at : ℕ) → length bytes ≤ at → next_field bytes at ≡ Ok None
unfolding next_field
next_field-end bytes at le = rw (le-leb (length bytes) at le) refl

pub next_field-not_end : (bytes : List ℕ) (at : ℕ) → at < length bytes → next_field bytes at ≡ Ok None → ⊥
unfolding next_field
next_field-not_end bytes at lt e =
    let some : (field_at bytes at >>= λ f. Ok (Some f)) ≡ Ok None = rw (lt-leb (length bytes) at lt) at e in
    let b = bound (field_at bytes at) (λ f. Ok (Some f)) None some in
    let no = b.2 in cc
