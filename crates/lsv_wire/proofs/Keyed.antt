-- A field whose key is a known byte.
use Rattle.std.proofs.Common.{◌≡◌, ℕ, ◌+◌, ◌/◌, ◌%◌, ◌<◌, ◌≤◌, List, length, get_or, Option, Result, Ok, Err, is_err, IsErr, refl, sym, ap, subst, ◌∙◌, arith}
use Rattle.lsv_wire.specs.declared.field.Field.{Field}
use Rattle.lsv_wire.specs.declared.field.FieldValue.{FieldValue}
use Rattle.lsv_wire.specs.declared.field.FieldValue.TheVariants.{Varint, Range}
use Rattle.lsv_wire.specs.declared.field.WireFault.{WireFault}
use Rattle.lsv_wire.specs.declared.field.WireFault.TheVariants.{Truncated}
use Rattle.lsv_wire.specs.Fields.{Reading, varint_at, value_at, next_field, with_field, step_within, fields_from}
use Rattle.lsv_wire.proofs.Lists.{fields_from-step}
use Rattle.lsv_wire.proofs.Varints.{one_byte}
use Rattle.lsv_wire.proofs.FieldsBack.{IsKey, read_typed, read_refused, value_at-bytes, value_at-number, value_at-no_number, value_at-no_length, value_at-cut_off}

module _ (bytes : List ℕ) (at key type : ℕ) (lt : at < length bytes) (is : get_or bytes at 0 ≡ key) (some : 8 ≤ key) (small : key < 128) (typed : key % 8 ≡ type) where
  key_read : varint_at bytes at at ≡ Ok (key, at + 1)
  key_read = sym (one_byte bytes at at lt (subst (λ (k : ℕ). k < 128) (sym is) small)) ∙ ap (λ (k : ℕ). let r : Reading ℕ = Ok (k, at + 1) in r) is

  named : IsKey key (key / 8) type
  named = record { number_is = refl; type_is = typed; first = omega (arith, some); last = omega (arith, small) }

  -- no field stands here whose value can't be read
  refused : (fault : WireFault) → value_at type bytes at (at + 1) ≡ Err fault → IsErr (next_field bytes at)
  refused fault v = ap (λ (r : Result (Option (Field × ℕ)) WireFault). is_err r) (read_refused bytes at key (key / 8) type (at + 1) fault lt named key_read v)

  keyed : (value : FieldValue × ℕ) → value_at type bytes at (at + 1) ≡ Ok value → fields_from bytes at ≡ with_field (record { number = key / 8; value = value.0 }) (fields_from bytes value.1)
  keyed value v = fields_from-step bytes at ∙ ap (step_within (fields_from bytes)) (read_typed bytes at key (key / 8) type (at + 1) value named key_read v).next

pub keyed_bytes : (bytes : List ℕ) (at key n from : ℕ) → at < length bytes → get_or bytes at 0 ≡ key → 8 ≤ key → key < 128 → key % 8 ≡ 2 → Ok (n, from) ≡ varint_at bytes at (at + 1) → from + n ≤ length bytes
    → fields_from bytes at ≡ with_field (record { number = key / 8; value = Range from (from + n) }) (fields_from bytes (from + n))
keyed_bytes bytes at key n from lt is some small typed v there = keyed bytes at key 2 lt is some small typed (Range from (from + n), from + n) (value_at-bytes bytes at (at + 1) n from (sym v) there)

pub keyed_number : (bytes : List ℕ) (at key n next : ℕ) → at < length bytes → get_or bytes at 0 ≡ key → 8 ≤ key → key < 128 → key % 8 ≡ 0 → Ok (n, next) ≡ varint_at bytes at (at + 1)
    → fields_from bytes at ≡ with_field (record { number = key / 8; value = Varint n }) (fields_from bytes next)
keyed_number bytes at key n next lt is some small typed v = keyed bytes at key 0 lt is some small typed (Varint n, next) (value_at-number bytes at (at + 1) n next (sym v))

pub no_length : (bytes : List ℕ) (at key : ℕ) (fault : WireFault) → at < length bytes → 8 ≤ key → key < 128 → key % 8 ≡ 2 → Err fault ≡ varint_at bytes at (at + 1) → get_or bytes at 0 ≡ key → IsErr (next_field bytes at)
no_length bytes at key fault lt some small typed v is = refused bytes at key 2 lt is some small typed fault (value_at-no_length bytes at (at + 1) fault (sym v))

pub past_the_end : (bytes : List ℕ) (at key n from : ℕ) → at < length bytes → 8 ≤ key → key < 128 → key % 8 ≡ 2 → Ok (n, from) ≡ varint_at bytes at (at + 1) → length bytes < from + n → get_or bytes at 0 ≡ key → IsErr (next_field bytes at)
past_the_end bytes at key n from lt some small typed v past is = refused bytes at key 2 lt is some small typed (Truncated at) (value_at-cut_off bytes at (at + 1) n from (sym v) past)

pub no_number : (bytes : List ℕ) (at key : ℕ) (fault : WireFault) → at < length bytes → 8 ≤ key → key < 128 → key % 8 ≡ 0 → Err fault ≡ varint_at bytes at (at + 1) → get_or bytes at 0 ≡ key → IsErr (next_field bytes at)
no_number bytes at key fault lt some small typed v is = refused bytes at key 0 lt is some small typed fault (value_at-no_number bytes at (at + 1) fault (sym v))
