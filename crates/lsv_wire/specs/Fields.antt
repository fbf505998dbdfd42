-- Fields of the protobuf encoding: a key, which is a varint of the number times 8 plus the type, and a value by its type.
use Rattle.std.specs.Prelude.{◌≡◌, ℕ, zero, suc, ◌+◌, ◌≤◌, ◌*◌, ◌/◌, ◌%◌, ◌^◌, List, [], ◌∷◌, ◌++◌, length, take, drop, Option, Some, None, Result, Ok, Err, ◌||◌, ◌==◌, nat_lt, nat_le, if◌then◌else◌}
use Rattle.std.specs.Int.{Width, w32, w64, byte_len, from_le_bytes}
use Rattle.lsv_wire.specs.declared.field.Field.{Field}
use Rattle.lsv_wire.specs.declared.field.FieldValue.{FieldValue}
use Rattle.lsv_wire.specs.declared.field.FieldValue.TheVariants.{Varint, Eight, Range, Four}
use Rattle.lsv_wire.specs.declared.field.WireFault.{WireFault}
use Rattle.lsv_wire.specs.declared.field.WireFault.TheVariants.{Truncated, LongVarint, BadKey}
use Rattle.lsv_wire.specs.declared.field.TheConstants.{LAST_FIELD_NUMBER}
use Rattle.lsv_wire.specs.Varint.{continued, grouped, varint}

-- what stands at a place, and the place after it, or the fault of the field whose key is at this place
abbrev pub Reading : Type 0 → Type 0
Reading T = Result (T × ℕ) WireFault

infixl 10 ◌>>=◌
abbrev pub ◌>>=◌ : {A B : Type 0} → Result A WireFault → (A → Result B WireFault) → Result B WireFault
(Ok x) >>= f = f x
(Err e) >>= f = Err e

-- a varint has one to ten bytes, and its value is taken modulo 2 ^ 64
unfoldable pub varint_at : List ℕ → ℕ → ℕ → Reading ℕ
varint_at bytes key at =
    let text = drop at bytes in
    if nat_lt 9 (continued text) then Err (LongVarint key)
    else if nat_le (length text) (continued text) then Err (Truncated key)
    else Ok (grouped (take (continued text + 1) text) % 2 ^ 64, at + (continued text + 1))

-- a number of this width, the least significant byte first
unfoldable pub fixed_at : Width → List ℕ → ℕ → ℕ → Reading ℕ
fixed_at w bytes key at =
    if nat_lt (length bytes) (at + byte_len w) then Err (Truncated key)
    else Ok (from_le_bytes w (take (byte_len w) (drop at bytes)), at + byte_len w)

-- the place after this many bytes
unfoldable pub after_bytes : ℕ → List ℕ → ℕ → ℕ → Result ℕ WireFault
after_bytes n bytes key at = if nat_lt (length bytes) (at + n) then Err (Truncated key) else Ok (at + n)

-- the value of a field of this type
unfoldable pub value_at : ℕ → List ℕ → ℕ → ℕ → Reading FieldValue
value_at type bytes key at =
    if type == 0 then (varint_at bytes key at >>= λ n. Ok (Varint n.0, n.1))
    else if type == 1 then (fixed_at w64 bytes key at >>= λ n. Ok (Eight n.0, n.1))
    else if type == 2 then (varint_at bytes key at >>= λ n. after_bytes n.0 bytes key n.1 >>= λ end. Ok (Range n.1 end, end))
    else if type == 5 then (fixed_at w32 bytes key at >>= λ n. Ok (Four n.0, n.1))
    else Err (BadKey key)

-- the places of a value lie in order within a text of this length
abbrev pub IsWithin : ℕ → FieldValue → Type 0
IsWithin last (Range from end) = (from ≤ end) × (end ≤ last)
IsWithin last (Varint n) = Unit {0}
IsWithin last (Eight n) = Unit {0}
IsWithin last (Four n) = Unit {0}

-- the field at a place
unfoldable pub field_at : List ℕ → ℕ → Reading Field
field_at bytes at = varint_at bytes at at >>= λ key.
    if (key.0 / 8 == 0) || nat_lt LAST_FIELD_NUMBER (key.0 / 8) then Err (BadKey at)
    else (value_at (key.0 % 8) bytes at key.1 >>= λ value. Ok (record { number = key.0 / 8; value = value.0 }, value.1))

-- the field at a place, and none at the end
unfoldable pub next_field : List ℕ → ℕ → Result (Option (Field × ℕ)) WireFault
next_field bytes at = if nat_le (length bytes) at then Ok None else (field_at bytes at >>= λ f. Ok (Some f))

-- the fields of a text, and then a fault, or its end
pub record FieldList : Type 0 where
  pub fields : List Field
  pub fault : Option WireFault

-- From this place on stand these fields, one after another, and then this fault or the end.
abbrev pub AreFields : List ℕ → ℕ → List Field → Option WireFault → Type 0
AreFields bytes at [] None = next_field bytes at ≡ Ok None
AreFields bytes at [] (Some fault) = next_field bytes at ≡ Err fault
AreFields bytes at (f ∷ fs) fault = (next : ℕ) × (next_field bytes at ≡ Ok (Some (f, next))) × AreFields bytes next fs fault

-- one field more in front
abbrev pub with_field : Field → FieldList → FieldList
with_field f list = record { fields = f ∷ list.fields; fault = list.fault }

-- one step of a reading of at most this many fields
abbrev pub step_within : (ℕ → FieldList) → Result (Option (Field × ℕ)) WireFault → FieldList
step_within others (Ok None) = record { fields = []; fault = None }
step_within others (Ok (Some f)) = with_field f.0 (others f.1)
step_within others (Err fault) = record { fields = []; fault = Some fault }

-- at most this many fields from a place on
abbrev pub fields_within : ℕ → List ℕ → ℕ → FieldList
fields_within zero bytes at = record { fields = []; fault = None }
fields_within (suc n) bytes at = step_within (fields_within n bytes) (next_field bytes at)

-- the longest list of fields from a place on, and then a fault or none: it has fewer fields than there are bytes
unfoldable pub fields_from : List ℕ → ℕ → FieldList
fields_from bytes at = fields_within (length bytes + 1) bytes at

-- the fields of a whole text
abbrev pub fields_of : List ℕ → FieldList
fields_of bytes = fields_from bytes 0

-- the bytes of a field whose value is a number: none is left out
abbrev pub number_field : ℕ → ℕ → List ℕ
number_field number n = varint (number * 8) ++ varint n

-- the bytes of a field whose value is bytes
abbrev pub bytes_field : ℕ → List ℕ → List ℕ
bytes_field number bytes = varint (number * 8 + 2) ++ varint (length bytes) ++ bytes
