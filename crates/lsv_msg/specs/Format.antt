-- How a message of the protobuf encoding is read from its fields and written: what a table of fields means, both ways.
use Rattle.std.specs.Prelude.{ℕ, zero, suc, ℤ, pos, negsuc, ◌≡◌, ◌%◌, ◌^◌, List, [], ◌∷◌, ◌++◌, length, Option, Some, None, option_map, Result, Ok, Err, Bool, false, not, ◌==◌, nat_le, slice_range, if◌then◌else◌}
use Rattle.std.specs.List.{flat_map}
use Rattle.std.specs.Int.{w32, w64, cast_signed, cast_unsigned}
use Rattle.lsv_wire.specs.Varint.{varint}
use Rattle.lsv_wire.specs.Fields.{varint_at, next_field, fields_of, number_field, bytes_field}
use Rattle.lsv_wire.specs.declared.field.Field.{Field}
use Rattle.lsv_wire.specs.declared.field.FieldValue.TheVariants.{Varint, Eight, Range, Four}
use Rattle.lsv_wire.specs.declared.field.WireFault.{WireFault}
use Rattle.lsv_msg.specs.declared.fault.MsgFault.{MsgFault}
use Rattle.lsv_msg.specs.declared.fault.MsgFault.TheVariants.{Wire, Untyped, Twice, WrongType, NoMem}

infixl 10 ◌>>=◌
abbrev pub ◌>>=◌ : {A B : Type 0} → Result A MsgFault → (A → Result B MsgFault) → Result B MsgFault
(Ok a) >>= f = f a
(Err e) >>= f = Err e

-- a fault of the encoding, as a fault of the message
abbrev pub of_wire : {A : Type 0} → Result A WireFault → Result A MsgFault
of_wire (Ok a) = Ok a
of_wire (Err fault) = Err (Wire fault)

-- What a call returned, seen by view, is what a reading gives, unless it is out of memory.
abbrev pub Fails : {B : Type 0} → MsgFault → Result B MsgFault → Type 0
Fails NoMem reading = Unit {0}
Fails (Wire fault) reading = reading ≡ Err (Wire fault)
Fails Untyped reading = reading ≡ Err Untyped
Fails (Twice number) reading = reading ≡ Err (Twice number)
Fails (WrongType number) reading = reading ≡ Err (WrongType number)

abbrev pub Gives : {A B : Type 0} → (A → B) → Result A MsgFault → Result B MsgFault → Type 0
Gives view (Ok a) reading = reading ≡ Ok (view a)
Gives view (Err e) reading = Fails e reading

-- ---- One value

-- a number, where the field has type 0
abbrev pub number_in : Field → Result ℕ MsgFault
number_in f = elim f.value [ Varint n ↦ Ok n | Range from to ↦ Err (WrongType f.number) | Eight n ↦ Err (WrongType f.number) | Four n ↦ Err (WrongType f.number) ]

-- bytes, where the field has type 2
abbrev pub bytes_in : List ℕ → Field → Result (List ℕ) MsgFault
bytes_in text f = elim f.value [ Range from to ↦ Ok (slice_range text from to) | Varint n ↦ Err (WrongType f.number) | Eight n ↦ Err (WrongType f.number) | Four n ↦ Err (WrongType f.number) ]

-- a kind of value: how it is read from a field of these bytes, and the field of a number that has it
pub record Kind (A : Type 0) : Type 0 where
  pub read : List ℕ → Field → Result A MsgFault
  pub write : ℕ → A → List ℕ

-- a kind of value that stands for itself where there is no field: then it is this one
pub record Scalar (A : Type 0) : Type 0 where
  pub kind : Kind A
  pub default : A
  pub is_default : A → Bool

-- the number 0
abbrev pub is_zero : ℤ → Bool
is_zero (pos n) = n == 0
is_zero (negsuc n) = false

-- a number is written as the varint of its 64 bits in two's complement
abbrev pub signed_field : ℕ → ℤ → List ℕ
signed_field number n = number_field number (cast_unsigned w64 n)

-- int64: the 64 bits of the varint in two's complement
abbrev pub int64 : Scalar ℤ
int64 = record { kind = record { read = λ text f. number_in f >>= λ n. Ok (cast_signed w64 n); write = signed_field }; default = pos 0; is_default = is_zero }

-- int32: its low 32 bits in two's complement
abbrev pub int32 : Scalar ℤ
int32 = record { kind = record { read = λ text f. number_in f >>= λ n. Ok (cast_signed w32 (n % 2 ^ 32)); write = signed_field }; default = pos 0; is_default = is_zero }

-- bool: true for every number but 0, and written as 1
abbrev pub flag : Scalar Bool
flag = record { kind = record { read = λ text f. number_in f >>= λ n. Ok (not (n == 0)); write = λ number b. number_field number (if b then 1 else 0) }; default = false; is_default = not }

-- string and bytes: neither has to be UTF-8
abbrev pub text : Scalar (List ℕ)
text = record { kind = record { read = bytes_in; write = bytes_field }; default = []; is_default = λ b. length b == 0 }

-- ---- A message

-- A table of fields: what is known before the first field, what one more field makes of that (the bytes, the place of the
-- field's key, and the field), the message that is known at the end, and its bytes in the order of the table.
pub record Format (S A : Type 0) : Type 0 where
  pub start : S
  pub take : List ℕ → ℕ → S → Field → Result S MsgFault
  pub whole : S → A
  pub write : A → List ℕ

-- the place after the field at this place
abbrev pub place_after : List ℕ → ℕ → ℕ
place_after bytes at = elim (next_field bytes at) [ Ok (Some f) ↦ f.1 | Ok None ↦ at | Err fault ↦ at ]

-- Fields are judged from front to back, and then the fault that ends their list.
abbrev pub judged : {S : Type 0} → (ℕ → S → Field → Result S MsgFault) → List ℕ → ℕ → S → List Field → Option WireFault → Result S MsgFault
judged take bytes at s [] None = Ok s
judged take bytes at s [] (Some fault) = Err (Wire fault)
judged take bytes at s (f ∷ fs) fault = take at s f >>= λ s. judged take bytes (place_after bytes at) s fs fault

-- the message that these bytes are, or why they are none
unfoldable pub read : {S A : Type 0} → Format S A → List ℕ → Result A MsgFault
read m bytes = judged (m.take bytes) bytes 0 m.start (fields_of bytes).fields (fields_of bytes).fault >>= λ s. Ok (m.whole s)

-- the canonical bytes of a message
unfoldable pub canon : {S A : Type 0} → Format S A → A → List ℕ
canon m a = m.write a

-- a message inside a field
abbrev pub message : {S A : Type 0} → Format S A → Kind A
message m = record { read = λ bytes f. bytes_in bytes f >>= read m; write = λ number a. bytes_field number (canon m a) }

-- a message of a oneof has one of its members
abbrev pub typed : {A : Type 0} → Result (Option A) MsgFault → Result A MsgFault
typed (Ok (Some a)) = Ok a
typed (Ok None) = Err Untyped
typed (Err e) = Err e

-- ---- The rows of a table

-- a first value is read, and a second one is a fault before its type is looked at
abbrev pub once : {A : Type 0} → Option A → ℕ → Result A MsgFault → Result (Option A) MsgFault
once None number reading = reading >>= λ a. Ok (Some a)
once (Some a) number reading = Err (Twice number)

-- the value, or this one
abbrev pub value_or : {A : Type 0} → A → Option A → A
value_or a None = a
value_or a (Some b) = b

-- a singular field whose default isn't written
abbrev pub single : {A : Type 0} → ℕ → Scalar A → Format (Option A) A
single number scalar = record {
  start = None;
  take = λ bytes key s f. if f.number == number then once s number (scalar.kind.read bytes f) else Ok s;
  whole = value_or scalar.default;
  write = λ a. if scalar.is_default a then [] else scalar.kind.write number a;
}

-- the field of a value, where there is one
abbrev pub optional : {A : Type 0} → (A → List ℕ) → Option A → List ℕ
optional write None = []
optional write (Some a) = write a

-- a singular message, which is there or not
abbrev pub part : {S A : Type 0} → ℕ → Format S A → Format (Option A) (Option A)
part number m = record {
  start = None;
  take = λ bytes key s f. if f.number == number then once s number ((message m).read bytes f) else Ok s;
  whole = λ s. s;
  write = optional ((message m).write number);
}

-- one more item at the end
abbrev pub pushed : {A : Type 0} → List A → Result A MsgFault → Result (List A) MsgFault
pushed items reading = reading >>= λ a. Ok (items ++ a ∷ [])

-- these items at the end
abbrev pub extended : {A : Type 0} → List A → Result (List A) MsgFault → Result (List A) MsgFault
extended items reading = reading >>= λ more. Ok (items ++ more)

-- a repeated field that isn't packed
abbrev pub repeated : {A : Type 0} → ℕ → Kind A → Format (List A) (List A)
repeated number kind = record {
  start = [];
  take = λ bytes key s f. if f.number == number then pushed s (kind.read bytes f) else Ok s;
  whole = λ s. s;
  write = flat_map (kind.write number);
}

-- a list of what is there
abbrev pub listed : {A : Type 0} → Option A → List A
listed None = []
listed (Some a) = a ∷ []

-- an item that may say nothing
abbrev pub pushed_said : {A : Type 0} → List A → Result (Option A) MsgFault → Result (List A) MsgFault
pushed_said items reading = reading >>= λ a. Ok (items ++ listed a)

-- a repeated message that may say nothing, and is then no item
abbrev pub repeated_said : {S A : Type 0} → ℕ → Format S (Option A) → Format (List A) (List A)
repeated_said number m = record {
  start = [];
  take = λ bytes key s f. if f.number == number then pushed_said s ((message m).read bytes f) else Ok s;
  whole = λ s. s;
  write = flat_map (λ a. (message m).write number (Some a));
}

-- at most this many varints from a place up to the end
abbrev pub packed_within : ℕ → List ℕ → ℕ → ℕ → Result (List ℤ) MsgFault
packed_within zero bytes key at = Ok []
packed_within (suc more) bytes key at =
    if nat_le (length bytes) at then Ok []
    else (of_wire (varint_at bytes key at) >>= λ n. packed_within more bytes key n.1 >>= λ ns. Ok (cast_signed w64 n.0 ∷ ns))

-- the numbers that stand as varints from a place up to the end
unfoldable pub packed_from : List ℕ → ℕ → ℕ → Result (List ℤ) MsgFault
packed_from bytes key at = packed_within (length bytes) bytes key at

-- the numbers of a field, packed or not; a fault inside a packed list has the place of the field's key
abbrev pub numbers_in : List ℕ → ℕ → Field → Result (List ℤ) MsgFault
numbers_in bytes key f = elim f.value [
  | Varint n ↦ Ok (cast_signed w64 n ∷ [])
  | Range from to ↦ packed_from (slice_range bytes from to) key 0
  | Eight n ↦ Err (WrongType f.number)
  | Four n ↦ Err (WrongType f.number)
]

-- the packed field of these numbers, where there are any
abbrev pub packed_field : ℕ → List ℤ → List ℕ
packed_field number [] = []
packed_field number (n ∷ ns) = bytes_field number (flat_map (λ n. varint (cast_unsigned w64 n)) (n ∷ ns))

-- repeated int64, which is written packed
abbrev pub repeated_int64 : ℕ → Format (List ℤ) (List ℤ)
repeated_int64 number = record {
  start = [];
  take = λ bytes key s f. if f.number == number then extended s (numbers_in bytes key f) else Ok s;
  whole = λ s. s;
  write = packed_field number;
}

-- a member of a oneof: its number, how it is read, and its field where it is the one that is set
pub record Member (M : Type 0) : Type 0 where
  pub number : ℕ
  pub read : List ℕ → Field → Result M MsgFault
  pub write : M → Option (List ℕ)

-- a member that is made of a value, and has it
abbrev pub member : {A M : Type 0} → ℕ → Kind A → (A → M) → (M → Option A) → Member M
member number kind made has = record {
  number = number;
  read = λ bytes f. kind.read bytes f >>= λ a. Ok (made a);
  write = λ m. option_map (kind.write number) (has m);
}

-- the member of a field's number is read, and where a member is set another one is a fault
abbrev pub chosen : {M : Type 0} → List (Member M) → List ℕ → Option M → Field → Result (Option M) MsgFault
chosen [] bytes s f = Ok s
chosen (m ∷ ms) bytes s f = if f.number == m.number then once s m.number (m.read bytes f) else chosen ms bytes s f

-- the field of the member that is set
abbrev pub member_field : {M : Type 0} → List (Member M) → M → List ℕ
member_field [] m = []
member_field (x ∷ xs) m = value_or (member_field xs m) (x.write m)

-- at most one of these members, which is written also where it is zero or empty
abbrev pub oneof : {M : Type 0} → List (Member M) → Format (Option M) (Option M)
oneof members = record {
  start = None;
  take = λ bytes key s f. chosen members bytes s f;
  whole = λ s. s;
  write = optional (member_field members);
}

infixr 20 ◌⊗◌
-- both rows see each field; a row passes over the fields of other numbers
abbrev pub ◌⊗◌ : {S T A B : Type 0} → Format S A → Format T B → Format (S × T) (A × B)
a ⊗ b = record {
  start = (a.start, b.start);
  take = λ bytes key s f. a.take bytes key s.0 f >>= λ x. b.take bytes key s.1 f >>= λ y. Ok (x, y);
  whole = λ s. (a.whole s.0, b.whole s.1);
  write = λ p. a.write p.0 ++ b.write p.1;
}

-- a table of which the values are named
abbrev pub named : {S A B : Type 0} → (A → B) → (B → A) → Format S A → Format S B
named made parts m = record { start = m.start; take = m.take; whole = λ s. made (m.whole s); write = λ b. m.write (parts b) }
