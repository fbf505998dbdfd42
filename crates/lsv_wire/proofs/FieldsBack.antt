-- A field that is written is read back, whatever follows it.
use Rattle.std.proofs.Common.{◌≡◌, ℕ, ◌+◌, ◌-◌, ◌*◌, ◌/◌, ◌%◌, ◌^◌, ◌<◌, ◌≤◌, false, ltb, eqb, List, [], ◌++◌, length, take, drop, Some, None, Result, Ok, Err, refl, sym, ap, subst, ◌∙◌, append_assoc, arith}
use Rattle.std.proofs.lemmas.Bool.{le-ltb, lt-ltb, lt-leb, ne_eqb}
use Rattle.std.proofs.lemmas.List.{take_at, drop_at, length-append, length-drop, drop-drop}
use Rattle.lsv_wire.specs.declared.field.Field.{Field}
use Rattle.lsv_wire.specs.declared.field.FieldValue.{FieldValue}
use Rattle.lsv_wire.specs.declared.field.FieldValue.TheVariants.{Varint, Range}
use Rattle.lsv_wire.specs.declared.field.WireFault.{WireFault}
use Rattle.lsv_wire.specs.declared.field.WireFault.TheVariants.{Truncated}
use Rattle.lsv_wire.specs.declared.field.TheConstants.{LAST_FIELD_NUMBER}
use Rattle.lsv_wire.specs.Varint.{varint}
use Rattle.lsv_wire.specs.Fields.{◌>>=◌, varint_at, after_bytes, value_at, field_at, next_field, with_field, step_within, fields_from, number_field, bytes_field}
use Rattle.lsv_wire.proofs.Lists.{fields_from-step}
use Rattle.lsv_defs.specs.Pieces.{piece}
use Rattle.lsv_wire.proofs.Steps.{next_field-end}
use Rattle.lsv_wire.proofs.Varints.{varint_at-forward}
use Rattle.lsv_wire.proofs.ReadBack.{varint_at-varint}

-- a key names its number and its type
pub record IsKey (key number type : ℕ) : Type 0 where
  pub number_is : key / 8 ≡ number
  pub type_is : key % 8 ≡ type
  pub first : 1 ≤ number
  pub last : number ≤ LAST_FIELD_NUMBER

key_of : (key number type : ℕ) → key ≡ number * 8 + type → 1 ≤ number → number ≤ LAST_FIELD_NUMBER → type < 8 → IsKey key number type
key_of key number type is first last small = record { number_is = omega arith; type_is = omega arith; first = first; last = last }

abbrev with_number : ℕ → FieldValue × ℕ → Result (Field × ℕ) WireFault
with_number number value = Ok (record { number = number; value = value.0 }, value.1)

field_at-typed : (bytes : List ℕ) (at key number type after : ℕ) → IsKey key number type → varint_at bytes at at ≡ Ok (key, after)
    → field_at bytes at ≡ (value_at type bytes at after >>= with_number number)
unfolding field_at
field_at-typed bytes at key number type after is e =
    let some : eqb number 0 ≡ false = ne_eqb number 0 (λ none. let first = is.first in omega arith) in
    let low : ltb LAST_FIELD_NUMBER number ≡ false = le-ltb LAST_FIELD_NUMBER number is.last in
    rw (e, is.number_is, is.type_is, some, low) refl

next_field-there : (bytes : List ℕ) (at : ℕ) (f : Field × ℕ) → at < length bytes → field_at bytes at ≡ Ok f → next_field bytes at ≡ Ok (Some f)
unfolding next_field
next_field-there bytes at f lt e = rw (lt-leb (length bytes) at lt, e) refl

-- a value that can't be read is no field
pub read_refused : (bytes : List ℕ) (at key number type after : ℕ) (fault : WireFault) → at < length bytes → IsKey key number type → varint_at bytes at at ≡ Ok (key, after) → value_at type bytes at after ≡ Err fault
    → next_field bytes at ≡ Err fault
unfolding next_field
read_refused bytes at key number type after fault lt is e v =
    let f : field_at bytes at ≡ Err fault = field_at-typed bytes at key number type after is e ∙ ap (λ (r : Result (FieldValue × ℕ) WireFault). r >>= with_number number) v in
    rw (lt-leb (length bytes) at lt, f) refl

-- what stands after a part
pub behind_part : (bytes part rest : List ℕ) (at : ℕ) → drop at bytes ≡ part ++ rest → drop (at + length part) bytes ≡ rest
behind_part bytes part rest at is = sym (drop-drop (length part) at bytes) ∙ ap (drop (length part)) is ∙ drop_at part rest (length part) refl

-- the value of a field at a place
pub record IsField (bytes : List ℕ) (at number : ℕ) (value : FieldValue × ℕ) : Type 0 where
  pub next : next_field bytes at ≡ Ok (Some (record { number = number; value = value.0 }, value.1))

pub read_typed : (bytes : List ℕ) (at key number type after : ℕ) (value : FieldValue × ℕ) → IsKey key number type → varint_at bytes at at ≡ Ok (key, after) → value_at type bytes at after ≡ Ok value → IsField bytes at number value
read_typed bytes at key number type after value is e v =
    let f : field_at bytes at ≡ Ok (record { number = number; value = value.0 }, value.1) = field_at-typed bytes at key number type after is e ∙ ap (λ (r : Result (FieldValue × ℕ) WireFault). r >>= with_number number) v in
    let k = varint_at-forward bytes at at (key, after) e in
    record { next = next_field-there bytes at (record { number = number; value = value.0 }, value.1) (omega arith) f }

pub value_at-number : (bytes : List ℕ) (key at n next : ℕ) → varint_at bytes key at ≡ Ok (n, next) → value_at 0 bytes key at ≡ Ok (Varint n, next)
unfolding value_at
value_at-number bytes key at n next e = rw e refl

pub value_at-no_number : (bytes : List ℕ) (key at : ℕ) (fault : WireFault) → varint_at bytes key at ≡ Err fault → value_at 0 bytes key at ≡ Err fault
unfolding value_at
value_at-no_number bytes key at fault e = rw e refl

pub value_at-no_length : (bytes : List ℕ) (key at : ℕ) (fault : WireFault) → varint_at bytes key at ≡ Err fault → value_at 2 bytes key at ≡ Err fault
unfolding value_at
value_at-no_length bytes key at fault e = rw e refl

pub value_at-cut_off : (bytes : List ℕ) (key at n start : ℕ) → varint_at bytes key at ≡ Ok (n, start) → length bytes < start + n → value_at 2 bytes key at ≡ Err (Truncated key)
unfolding value_at after_bytes
value_at-cut_off bytes key at n start e past = rw (e, lt-ltb (length bytes) (start + n) past) refl

pub value_at-bytes : (bytes : List ℕ) (key at n start : ℕ) → varint_at bytes key at ≡ Ok (n, start) → start + n ≤ length bytes → value_at 2 bytes key at ≡ Ok (Range start (start + n), start + n)
unfolding value_at after_bytes
value_at-bytes bytes key at n start e there = rw (e, le-ltb (length bytes) (start + n) there) refl

number_back : (bytes rest : List ℕ) (at number n : ℕ) → 1 ≤ number → number ≤ LAST_FIELD_NUMBER → n < 2 ^ 64 → drop at bytes ≡ number_field number n ++ rest
    → IsField bytes at number (Varint n, at + length (number_field number n))
number_back bytes rest at number n first last small is =
    let key : ℕ = number * 8 in
    let text : drop at bytes ≡ varint key ++ (varint n ++ rest) = is ∙ append_assoc (varint key) (varint n) rest in
    let after : ℕ = at + length (varint key) in
    let k : varint_at bytes at at ≡ Ok (key, after) = varint_at-varint bytes (varint n ++ rest) at at key (omega arith) text in
    let v : varint_at bytes at after ≡ Ok (n, after + length (varint n)) = varint_at-varint bytes rest at after n small (behind_part bytes (varint key) (varint n ++ rest) at text) in
    let place : after + length (varint n) ≡ at + length (number_field number n) = omega (arith, length-append (varint key) (varint n)) in
    let named : IsKey key number 0 = key_of key number 0 (omega arith) first last (omega arith) in
    subst (λ (p : ℕ). IsField bytes at number (Varint n, p)) place (read_typed bytes at key number 0 after (Varint n, after + length (varint n)) named k (value_at-number bytes at after n (after + length (varint n)) v))

bytes_back : (bytes rest b : List ℕ) (at number : ℕ) → 1 ≤ number → number ≤ LAST_FIELD_NUMBER → length b < 2 ^ 64 → drop at bytes ≡ bytes_field number b ++ rest
    → (start : ℕ) × (start + length b ≡ at + length (bytes_field number b)) × (drop start bytes ≡ b ++ rest) × IsField bytes at number (Range start (start + length b), start + length b)
bytes_back bytes rest b at number first last small is =
    let key : ℕ = number * 8 + 2 in
    let n : ℕ = length b in
    let text : drop at bytes ≡ varint key ++ (varint n ++ (b ++ rest)) =
    is ∙ append_assoc (varint key ++ varint n) b rest ∙ append_assoc (varint key) (varint n) (b ++ rest) in
    let after : ℕ = at + length (varint key) in
    let start : ℕ = after + length (varint n) in
    let k : varint_at bytes at at ≡ Ok (key, after) = varint_at-varint bytes (varint n ++ (b ++ rest)) at at key (omega arith) text in
    let e : drop after bytes ≡ varint n ++ (b ++ rest) = behind_part bytes (varint key) (varint n ++ (b ++ rest)) at text in
    let v : varint_at bytes at after ≡ Ok (n, start) = varint_at-varint bytes (b ++ rest) at after n small e in
    let body : drop start bytes ≡ b ++ rest = behind_part bytes (varint n) (b ++ rest) after e in
    let len : length (drop start bytes) ≡ n + length rest = ap length body ∙ length-append b rest in
    let forward = varint_at-forward bytes at after (n, start) v in
    let there : start + n ≤ length bytes = omega (arith, length-drop start bytes) in
    let place : start + n ≡ at + length (bytes_field number b) = omega (arith, length-append (varint key ++ varint n) b, length-append (varint key) (varint n)) in
    let named : IsKey key number 2 = key_of key number 2 refl first last (omega arith) in
    (start, place, body, read_typed bytes at key number 2 after (Range start (start + n), start + n) named k (value_at-bytes bytes at after n start v there))

-- the same as steps of the fields of a text
pub fields_from-number : (bytes rest : List ℕ) (at number n : ℕ) → 1 ≤ number → number ≤ LAST_FIELD_NUMBER → n < 2 ^ 64 → drop at bytes ≡ number_field number n ++ rest
    → (next : ℕ) × (next_field bytes at ≡ Ok (Some (record { number = number; value = Varint n }, next)))
    × (fields_from bytes at ≡ with_field (record { number = number; value = Varint n }) (fields_from bytes next)) × (drop next bytes ≡ rest)
fields_from-number bytes rest at number n first last small is =
    let f = number_back bytes rest at number n first last small is in
    (at + length (number_field number n), f.next, fields_from-step bytes at ∙ ap (step_within (fields_from bytes)) f.next, behind_part bytes (number_field number n) rest at is)

pub fields_from-bytes : (bytes rest b : List ℕ) (at number : ℕ) → 1 ≤ number → number ≤ LAST_FIELD_NUMBER → length b < 2 ^ 64 → drop at bytes ≡ bytes_field number b ++ rest
    → (start : ℕ) × (next : ℕ) × (next_field bytes at ≡ Ok (Some (record { number = number; value = Range start next }, next)))
    × (fields_from bytes at ≡ with_field (record { number = number; value = Range start next }) (fields_from bytes next)) × (piece bytes start (next - start) ≡ b) × (drop next bytes ≡ rest)
fields_from-bytes bytes rest b at number first last small is =
    let f = bytes_back bytes rest b at number first last small is in
    let start : ℕ = f.0 in
    let size : start + length b - start ≡ length b = omega arith in
    let inside : piece bytes start (start + length b - start) ≡ b = ap (piece bytes start) size ∙ ap (take (length b)) f.2 ∙ take_at b rest (length b) refl in
    (start, start + length b, f.3.next, fields_from-step bytes at ∙ ap (step_within (fields_from bytes)) f.3.next, inside, behind_part bytes b rest start f.2)

pub fields_from-end : (bytes : List ℕ) (at : ℕ) → length bytes ≤ at → fields_from bytes at ≡ record { fields = []; fault = None }
fields_from-end bytes at le = fields_from-step bytes at ∙ ap (step_within (fields_from bytes)) (next_field-end bytes at le)
