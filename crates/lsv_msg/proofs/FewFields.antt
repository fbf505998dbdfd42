-- What a message of one field or two is read as.
use Rattle.std.proofs.Common.{◌≡◌, ◌≤◌, ℕ, ℤ, pos, ◌%◌, ◌^◌, List, [], ◌∷◌, length, Some, None, Result, Ok, Err, refl, ap, sym, subst, inl, inr, ◌∙◌, arith}
use Rattle.std.proofs.lemmas.Bool.{cases_eq}
use Rattle.std.specs.Prelude.{slice_range}
use Rattle.std.specs.Int.{w32, w64, cast_signed}
use Rattle.lsv_base.specs.declared.time.TimeSpec.{TimeSpec}
use Rattle.lsv_wire.specs.Fields.{fields_from, fields_of, with_field}
use Rattle.lsv_wire.specs.declared.field.Field.{Field}
use Rattle.lsv_wire.specs.declared.field.FieldValue.TheVariants.{Varint, Range}
use Rattle.lsv_wire.proofs.FieldsBack.{fields_from-end}
use Rattle.lsv_msg.specs.declared.fault.MsgFault.{MsgFault}
use Rattle.lsv_msg.specs.Format.{◌>>=◌, Format, judged, read}
use Rattle.lsv_msg.specs.declared.messages.IoBuffer.{IoBuffer}
use Rattle.lsv_msg.specs.Messages.{time_spec, io_buffer, client_message, client_in, data_message}

pub none_at_end : (bytes : List ℕ) (at : ℕ) → at ≡ length bytes → fields_from bytes at ≡ record { fields = []; fault = None }
none_at_end bytes at e = fields_from-end bytes at (omega (arith, e))

read_is : {S A : Type 0} (m : Format S A) (bytes : List ℕ) → read m bytes ≡ (judged (m.take bytes) bytes 0 m.start (fields_of bytes).fields (fields_of bytes).fault >>= λ s. Ok (m.whole s))
unfolding read
read_is m bytes = refl

pub nanos_alone : (bytes : List ℕ) (n : ℕ) (z : ℤ) → fields_from bytes 0 ≡ record { fields = record { number = 2; value = Varint n } ∷ []; fault = None }
    → z ≡ cast_signed w32 (n % 2 ^ 32) → read time_spec bytes ≡ Ok (record { sec = pos 0; nsec = z })
nanos_alone bytes n z e nsec = rw (read_is time_spec bytes, e, nsec) refl

pub seconds_and_nanos : (bytes : List ℕ) (next s n : ℕ) (y z : ℤ) → fields_from bytes 0 ≡ with_field (record { number = 1; value = Varint s }) (fields_from bytes next)
    → fields_from bytes next ≡ record { fields = record { number = 2; value = Varint n } ∷ []; fault = None }
    → y ≡ cast_signed w64 s → z ≡ cast_signed w32 (n % 2 ^ 32) → read time_spec bytes ≡ Ok (record { sec = y; nsec = z })
seconds_and_nanos bytes next s n y z first rest sec nsec =
    let e : fields_of bytes ≡ record { fields = record { number = 1; value = Varint s } ∷ record { number = 2; value = Varint n } ∷ []; fault = None } = first ∙ ap (with_field (record { number = 1; value = Varint s })) rest in
    rw (read_is time_spec bytes, e, sec, nsec) refl

pub delay_and_data : (bytes : List ℕ) (from to start end : ℕ) (t : TimeSpec) → fields_from bytes 0 ≡ with_field (record { number = 1; value = Range from to }) (fields_from bytes to)
    → fields_from bytes to ≡ with_field (record { number = 2; value = Range start end }) (fields_from bytes end) → fields_from bytes end ≡ record { fields = []; fault = None }
    → read time_spec (slice_range bytes from to) ≡ Ok t → read io_buffer bytes ≡ Ok (record { delay = Some t; bytes = slice_range bytes start end })
delay_and_data bytes from to start end t first second ends delay =
    let e : fields_of bytes ≡ record { fields = record { number = 1; value = Range from to } ∷ record { number = 2; value = Range start end } ∷ []; fault = None } =
    first ∙ ap (with_field (record { number = 1; value = Range from to })) (second ∙ ap (with_field (record { number = 2; value = Range start end })) ends) in
    rw (read_is io_buffer bytes, e, delay) refl

ended : {S : Type 0} (r : Result S MsgFault) → (r >>= λ s. Ok s) >>= (λ s. Ok s) ≡ r
ended (Ok s) = refl
ended (Err fault) = refl

pub one_member : (bytes : List ℕ) (f : Field) → fields_of bytes ≡ record { fields = f ∷ []; fault = None } → read client_message bytes ≡ client_message.take bytes 0 None f
one_member bytes f e = rw (read_is client_message bytes, e) (ended (client_message.take bytes 0 None f))

pub one_part : (bytes : List ℕ) (number from to : ℕ) → fields_from bytes 0 ≡ with_field (record { number = number; value = Range from to }) (fields_from bytes to) → fields_from bytes to ≡ record { fields = []; fault = None }
    → fields_of bytes ≡ record { fields = record { number = number; value = Range from to } ∷ []; fault = None }
one_part bytes number from to first ends = first ∙ ap (with_field (record { number = number; value = Range from to })) ends

-- a message that is one field, which holds the data of a record
abbrev IsData : List ℕ → ℕ → ℕ → ℕ → Type 0
IsData bytes from to number = fields_of bytes ≡ record { fields = record { number = number; value = Range from to } ∷ []; fault = None }

-- it is the message of that number
abbrev IsThat : List ℕ → IoBuffer → ℕ → Type 0
IsThat bytes buffer number = client_in bytes ≡ Ok (data_message number buffer)

module _ (bytes : List ℕ) (from to : ℕ) (buffer : IoBuffer) (is : read io_buffer (slice_range bytes from to) ≡ Ok buffer) where
  ttyin : IsData bytes from to 6 → IsThat bytes buffer 6
  ttyin e = rw (one_member bytes (record { number = 6; value = Range from to }) e, is) refl

  ttyout : IsData bytes from to 7 → IsThat bytes buffer 7
  ttyout e = rw (one_member bytes (record { number = 7; value = Range from to }) e, is) refl

  stdin : IsData bytes from to 8 → IsThat bytes buffer 8
  stdin e = rw (one_member bytes (record { number = 8; value = Range from to }) e, is) refl

  stdout : IsData bytes from to 9 → IsThat bytes buffer 9
  stdout e = rw (one_member bytes (record { number = 9; value = Range from to }) e, is) refl

  stderr : IsData bytes from to 10 → IsThat bytes buffer 10
  stderr e = rw (one_member bytes (record { number = 10; value = Range from to }) e, is) refl

  renumbered : (known number : ℕ) → (IsData bytes from to known → IsThat bytes buffer known) → number ≡ known → IsData bytes from to number → IsThat bytes buffer number
  renumbered known number holds e data_is = subst (IsThat bytes buffer) (sym e) (holds (subst (IsData bytes from to) e data_is))

-- one field with a number from 6 to 10 that holds a record's data is that message
pub plain_member : (bytes : List ℕ) (number from to : ℕ) (buffer : IoBuffer) → 6 ≤ number → number ≤ 10 → fields_of bytes ≡ record { fields = record { number = number; value = Range from to } ∷ []; fault = None }
    → read io_buffer (slice_range bytes from to) ≡ Ok buffer → client_in bytes ≡ Ok (data_message number buffer)
plain_member bytes number from to buffer least most e is =
    elim (cases_eq number 6) [
      | inl same ↦ renumbered bytes from to buffer is 6 number (ttyin bytes from to buffer is) same e
      | inr not_6 ↦
          elim (cases_eq number 7) [
            | inl same ↦ renumbered bytes from to buffer is 7 number (ttyout bytes from to buffer is) same e
            | inr not_7 ↦
                elim (cases_eq number 8) [
                  | inl same ↦ renumbered bytes from to buffer is 8 number (stdin bytes from to buffer is) same e
                  | inr not_8 ↦
                      elim (cases_eq number 9) [
                        | inl same ↦ renumbered bytes from to buffer is 9 number (stdout bytes from to buffer is) same e
                        | inr not_9 ↦
                            renumbered bytes from to buffer is 10 number (stderr bytes from to buffer is) (omega (arith, least, most, not_6, not_7, not_8, not_9)) e
                      ]
                ]
          ]
    ]
