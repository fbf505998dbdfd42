-- Repeated fields are read back, one item after another, and packed numbers.
use Rattle.std.proofs.Common.{◌≡◌, ℕ, ℤ, ◌+◌, ◌-◌, ◌^◌, ◌<◌, ◌≤◌, Bool, true, false, cond, ltb, List, [], ◌∷◌, ◌++◌, length, drop, take, Option, Some, Result, Ok, refl, sym, ap, ◌∙◌, append_assoc, arith, length-append, length-drop}
use Rattle.std.specs.Prelude.{FitsSigned}
use Rattle.std.specs.List.{flat_map, AllByRecursion}
use Rattle.std.specs.Int.{w64, cast_signed, cast_unsigned}
use Rattle.std.proofs.lemmas.Int.{to_z-of_z}
use Rattle.std.proofs.lemmas.List.{append-nil, drop_at, drop-drop}
use Rattle.std.proofs.Math.Facts.{Fits-of_z}
use Rattle.lsv_wire.specs.Varint.{varint}
use Rattle.lsv_wire.specs.Fields.{varint_at}
use Rattle.lsv_wire.specs.declared.field.Field.{Field}
use Rattle.lsv_wire.specs.declared.field.FieldValue.TheVariants.{Range}
use Rattle.lsv_wire.specs.declared.field.WireFault.{WireFault}
use Rattle.lsv_msg.specs.declared.fault.MsgFault.{MsgFault}
use Rattle.lsv_msg.specs.Format.{◌>>=◌, Format, Kind, message, repeated, repeated_said, packed_from, packed_field, repeated_int64}
use Rattle.lsv_msg.proofs.Varints.{after_one, packed_from-step, packed_from-end}
use Rattle.lsv_msg.proofs.Back.{WrittenIsRead, Stands, IsNumber, KindBack, Acts, Found, Lawful, judged_from, one_field, same_number, other_number, ended, inside_short}

-- one item stands at a place, and is put at the end of what is known
pub record Item {A : Type 0} (take_one : ℕ → List A → Field → Result (List A) MsgFault) (number : ℕ) (text : List ℕ) (at : ℕ) (a : A) (rest : List ℕ) : Type 0 where
  pub field : Field
  pub next : ℕ
  pub stands : Stands text at field next rest
  pub numbered : field.number ≡ number
  pub takes : (s : List A) → take_one at s field ≡ Ok (s ++ a ∷ [])

record Items {A U : Type 0} (larger : ℕ → U → Field → Result U MsgFault) (put : List A → U) (text rest : List ℕ) (at : ℕ) (s items : List A) : Type 0 where
  next : ℕ
  behind : drop next text ≡ rest
  same : judged_from larger text at (put s) ≡ judged_from larger text next (put (s ++ items))

items_back : {A U : Type 0} (write : A → List ℕ) (Fits : A → Type 0) (take_one : ℕ → List A → Field → Result (List A) MsgFault) (number : ℕ) (text : List ℕ)
    → ((rest : List ℕ) (at : ℕ) (a : A) → Fits a → drop at text ≡ write a ++ rest → Item take_one number text at a rest)
    → (larger : ℕ → U → Field → Result U MsgFault) (put : List A → U) → Acts take_one number number larger put
    → (rest : List ℕ) (at : ℕ) (s items : List A) → AllByRecursion Fits items → drop at text ≡ flat_map write items ++ rest → Items larger put text rest at s items
items_back write Fits take_one number text one larger put acts rest at s [] fits is =
    record { next = at; behind = is; same = ap (λ known. judged_from larger text at (put known)) (sym (append-nil s)) }
items_back write Fits take_one number text one larger put acts rest at s (a ∷ items) fits is =
    let i = one (flat_map write items ++ rest) at a fits.0 (is ∙ append_assoc (write a) (flat_map write items) rest) in
    let low : number ≤ i.field.number = omega (arith, i.numbered) in
    let high : i.field.number ≤ number = omega (arith, i.numbered) in
    let first = one_field larger text at (put s) (put (s ++ a ∷ [])) i.field i.next (flat_map write items ++ rest) i.stands (acts at s (s ++ a ∷ []) i.field low high (i.takes s)) in
    let others = items_back write Fits take_one number text one larger put acts rest i.next (s ++ a ∷ []) items fits.1 i.stands.behind in
    record {
      next = others.next;
      behind = others.behind;
      same = first ∙ others.same ∙ ap (λ known. judged_from larger text others.next (put known)) (append_assoc s (a ∷ []) items);
    }

repeated_item : {A : Type 0} (kind : Kind A) (Fits : A → Type 0) → KindBack kind Fits → (number : ℕ) → IsNumber number → (text : List ℕ) → length text < 2 ^ 64
    → (rest : List ℕ) (at : ℕ) (a : A) → Fits a → drop at text ≡ kind.write number a ++ rest → Item ((repeated number kind).take text) number text at a rest
repeated_item kind Fits back number n text small rest at a fits is =
    let h = back text rest at number a fits n small is in
    record { field = record { number = number; value = h.value }; next = h.next; stands = h.stands; numbered = refl; takes = λ s. rw (same_number number, h.reads) refl }

pub repeated_lawful : {A : Type 0} (kind : Kind A) (Fits : A → Type 0) → KindBack kind Fits → (number : ℕ) → IsNumber number → Lawful (repeated number kind) number number (AllByRecursion Fits)
repeated_lawful kind Fits back number n = record {
  back = λ larger put text rest at items fits small acts is.
      let all = items_back (kind.write number) Fits ((repeated number kind).take text) number text (repeated_item kind Fits back number n text small) larger put acts rest at [] items fits is in
      record { state = items; next = all.next; behind = all.behind; whole = refl; same = all.same };
  passes = λ text key s f other. rw (other_number f.number number other) refl;
}

said_item : {S A : Type 0} (m : Format S (Option A)) (Fits : A → Type 0) (FitsSome : Option A → Type 0) → KindBack (message m) FitsSome → ((a : A) → Fits a → FitsSome (Some a))
    → (number : ℕ) → IsNumber number → (text : List ℕ) → length text < 2 ^ 64
    → (rest : List ℕ) (at : ℕ) (a : A) → Fits a → drop at text ≡ (message m).write number (Some a) ++ rest → Item ((repeated_said number m).take text) number text at a rest
said_item m Fits FitsSome back some number n text small rest at a fits is =
    let h = back text rest at number (Some a) (some a fits) n small is in
    record { field = record { number = number; value = h.value }; next = h.next; stands = h.stands; numbered = refl; takes = λ s. rw (same_number number, h.reads) refl }

pub said_lawful : {S A : Type 0} (m : Format S (Option A)) (Fits : A → Type 0) (FitsSome : Option A → Type 0) → KindBack (message m) FitsSome → ((a : A) → Fits a → FitsSome (Some a))
    → (number : ℕ) → IsNumber number → Lawful (repeated_said number m) number number (AllByRecursion Fits)
said_lawful m Fits FitsSome back some number n = record {
  back = λ larger put text rest at items fits small acts is.
      let all = items_back (λ a. (message m).write number (Some a)) Fits ((repeated_said number m).take text) number text (said_item m Fits FitsSome back some number n text small) larger put acts rest at [] items fits is in
      record { state = items; next = all.next; behind = all.behind; whole = refl; same = all.same };
  passes = λ text key s f other. rw (other_number f.number number other) refl;
}

-- ---- Packed numbers

abbrev varints : List ℤ → List ℕ
varints numbers = flat_map (λ n. varint (cast_unsigned w64 n)) numbers

long_enough : (b : Bool) (x y : ℕ) (ys : List ℕ) → 1 ≤ length (cond b (x ∷ []) (y ∷ ys))
long_enough true x y ys = omega arith
long_enough false x y ys = omega arith

varint_long : (n : ℕ) → 1 ≤ length (varint n)
unfolding varint
varint_long n = long_enough (ltb n 128) n _ _

packed_back : WrittenIsRead → (text : List ℕ) (key at : ℕ) (numbers : List ℤ) → AllByRecursion (FitsSigned w64) numbers → drop at text ≡ varints numbers → packed_from text key at ≡ Ok numbers
packed_back w text key at [] fits is = packed_from-end text key at (ended at text is)
packed_back w text key at (n ∷ numbers) fits is =
    let bits : ℕ = cast_unsigned w64 n in
    let below : bits < 2 ^ 64 = (Fits-of_z {w = w64} {z = n} fits.0).fits in
    let read : varint_at text key at ≡ Ok (bits, at + length (varint bits)) = w.varint text (varints numbers) key at bits below is in
    let there : at < length text = omega (arith, length-drop at text, ap length is, length-append (varint bits) (varints numbers), varint_long bits) in
    let behind : drop (at + length (varint bits)) text ≡ varints numbers = sym (drop-drop (length (varint bits)) at text) ∙ ap (drop (length (varint bits))) is ∙ drop_at (varint bits) (varints numbers) (length (varint bits)) refl in
    packed_from-step text key at there
    ∙ ap (λ (r : Result (ℕ × ℕ) WireFault). after_one (packed_from text key) r) read
    ∙ ap (λ (r : Result (List ℤ) MsgFault). r >>= λ ns. Ok (cast_signed w64 bits ∷ ns)) (packed_back w text key (at + length (varint bits)) numbers fits.1 behind)
    ∙ ap (λ (m : ℤ). Ok (m ∷ numbers)) (to_z-of_z w64 n fits.0)

numbers_back : {U : Type 0} → WrittenIsRead → (number : ℕ) → IsNumber number → (larger : ℕ → U → Field → Result U MsgFault) (put : List ℤ → U) (text rest : List ℕ) (at : ℕ) (numbers : List ℤ)
    → AllByRecursion (FitsSigned w64) numbers → length text < 2 ^ 64 → Acts ((repeated_int64 number).take text) number number larger put → drop at text ≡ packed_field number numbers ++ rest
    → Found (repeated_int64 number) larger put text rest at numbers
numbers_back w number n larger put text rest at [] fits small acts is = record { state = []; next = at; behind = is; whole = refl; same = refl }
numbers_back w number n larger put text rest at (m ∷ ms) fits small acts is =
    let list : List ℕ = varints (m ∷ ms) in
    let f = w.bytes text rest list at number n.first n.last (inside_short number text list rest at small is) is in
    let field : Field = record { number = number; value = Range f.0 f.1 } in
    let inside : packed_from (take (f.1 - f.0) (drop f.0 text)) at 0 ≡ Ok (m ∷ ms) = ap (λ t. packed_from t at 0) f.4 ∙ packed_back w list at 0 (m ∷ ms) fits refl in
    let takes : (repeated_int64 number).take text at [] field ≡ Ok (m ∷ ms) = rw (same_number number, inside) refl in
    record {
      state = m ∷ ms;
      next = f.1;
      behind = f.5;
      whole = refl;
      same = one_field larger text at (put []) (put (m ∷ ms)) field f.1 rest (record { is = f.2; fields = f.3; behind = f.5 }) (acts at [] (m ∷ ms) field (omega arith) (omega arith) takes);
    }

pub numbers_lawful : WrittenIsRead → (number : ℕ) → IsNumber number → Lawful (repeated_int64 number) number number (AllByRecursion (FitsSigned w64))
numbers_lawful w number n = record {
  back = numbers_back w number n;
  passes = λ text key s f other. rw (other_number f.number number other) refl;
}
