-- What the canonical bytes of a table hold is read back: a row at a time, in whatever table the row stands.
use Rattle.std.proofs.Common.{◌≡◌, ℕ, ◌+◌, ◌-◌, ◌*◌, ◌^◌, ◌<◌, ◌≤◌, Bool, true, false, cond, eqb, List, [], ◌++◌, length, drop, take, Option, Some, None, Result, Ok, refl, sym, ap, ◌∙◌, append_assoc, arith, inl, inr, eq-eqb, length-append, length-drop}
use Rattle.std.specs.Prelude.{◌⊎◌, IfSome}
use Rattle.std.proofs.lemmas.Bool.{ne_eqb}
use Rattle.std.proofs.lemmas.List.{append-nil}
use Rattle.lsv_defs.specs.Pieces.{piece}
use Rattle.lsv_wire.specs.Varint.{varint}
use Rattle.lsv_wire.specs.Fields.{varint_at, next_field, fields_from, with_field, number_field, bytes_field}
use Rattle.lsv_wire.specs.declared.field.Field.{Field}
use Rattle.lsv_wire.specs.declared.field.FieldValue.{FieldValue}
use Rattle.lsv_wire.specs.declared.field.FieldValue.TheVariants.{Varint, Range}
use Rattle.lsv_wire.specs.declared.field.TheConstants.{LAST_FIELD_NUMBER}
use Rattle.lsv_msg.specs.declared.fault.MsgFault.{MsgFault}
use Rattle.lsv_msg.specs.Format.{◌>>=◌, Format, Kind, Scalar, judged, place_after, read, canon, message, single, part, ◌⊗◌, named}

-- what the wire's law says of fields that are written
pub record WrittenIsRead : Type 0 where
  pub varint : (bytes rest : List ℕ) (key at n : ℕ) → n < 2 ^ 64 → drop at bytes ≡ varint n ++ rest → varint_at bytes key at ≡ Ok (n, at + length (varint n))
  pub number : (bytes rest : List ℕ) (at number n : ℕ) → 1 ≤ number → number ≤ LAST_FIELD_NUMBER → n < 2 ^ 64 → drop at bytes ≡ number_field number n ++ rest
      → (next : ℕ) × (next_field bytes at ≡ Ok (Some (record { number = number; value = Varint n }, next)))
      × (fields_from bytes at ≡ with_field (record { number = number; value = Varint n }) (fields_from bytes next)) × (drop next bytes ≡ rest)
  pub bytes : (bytes rest text : List ℕ) (at number : ℕ) → 1 ≤ number → number ≤ LAST_FIELD_NUMBER → length text < 2 ^ 64 → drop at bytes ≡ bytes_field number text ++ rest
      → (start : ℕ) × (next : ℕ) × (next_field bytes at ≡ Ok (Some (record { number = number; value = Range start next }, next)))
      × (fields_from bytes at ≡ with_field (record { number = number; value = Range start next }) (fields_from bytes next))
      × (piece bytes start (next - start) ≡ text) × (drop next bytes ≡ rest)
  pub end : (bytes : List ℕ) (at : ℕ) → length bytes ≤ at → fields_from bytes at ≡ record { fields = []; fault = None }

-- ---- One field

-- a field stands at a place, and this rest after it
pub record Stands (text : List ℕ) (at : ℕ) (f : Field) (next : ℕ) (rest : List ℕ) : Type 0 where
  pub is : next_field text at ≡ Ok (Some (f, next))
  pub fields : fields_from text at ≡ with_field f (fields_from text next)
  pub behind : drop next text ≡ rest

-- the field of this number at a place has this value of the kind
pub record Holds {A : Type 0} (kind : Kind A) (text : List ℕ) (at number : ℕ) (a : A) (rest : List ℕ) : Type 0 where
  pub value : FieldValue
  pub next : ℕ
  pub stands : Stands text at (record { number = number; value = value }) next rest
  pub reads : kind.read text (record { number = number; value = value }) ≡ Ok a

pub record IsNumber (number : ℕ) : Type 0 where
  pub first : 1 ≤ number
  pub last : number ≤ LAST_FIELD_NUMBER

-- values of the kind that fit are read back
abbrev pub KindBack : {A : Type 0} → Kind A → (A → Type 0) → Type 0
KindBack {A} kind Fits = (text rest : List ℕ) (at number : ℕ) (a : A) → Fits a → IsNumber number → length text < 2 ^ 64 → drop at text ≡ kind.write number a ++ rest → Holds kind text at number a rest

-- ---- Many fields

-- the fields from a place on, after what is known by then
abbrev pub judged_from : {U : Type 0} → (ℕ → U → Field → Result U MsgFault) → List ℕ → ℕ → U → Result U MsgFault
judged_from take text at u = judged take text at u (fields_from text at).fields (fields_from text at).fault

pub one_field : {U : Type 0} (larger : ℕ → U → Field → Result U MsgFault) (text : List ℕ) (at : ℕ) (u v : U) (f : Field) (next : ℕ) (rest : List ℕ)
    → Stands text at f next rest → larger at u f ≡ Ok v → judged_from larger text at u ≡ judged_from larger text next v
one_field larger text at u v f next rest s e = rw (s.fields, e, place s.is) refl
  where
    place : next_field text at ≡ Ok (Some (f, next)) → place_after text at ≡ next
    place is = rw (is, place_after) refl

-- a larger table takes the fields of these numbers as this one does, in a part of what it knows
abbrev pub Acts : {S U : Type 0} → (ℕ → S → Field → Result S MsgFault) → ℕ → ℕ → (ℕ → U → Field → Result U MsgFault) → (S → U) → Type 0
Acts {S} take lo hi larger put = (key : ℕ) (s t : S) (f : Field) → lo ≤ f.number → f.number ≤ hi → take key s f ≡ Ok t → larger key (put s) f ≡ Ok (put t)

-- the larger table reads this message at this place, and goes on after it
pub record Found {S A U : Type 0} (m : Format S A) (larger : ℕ → U → Field → Result U MsgFault) (put : S → U) (text rest : List ℕ) (at : ℕ) (a : A) : Type 0 where
  pub state : S
  pub next : ℕ
  pub behind : drop next text ≡ rest
  pub whole : m.whole state ≡ a
  pub same : judged_from larger text at (put m.start) ≡ judged_from larger text next (put state)

-- The fields of a table have numbers from lo to hi, it passes over others, and reads back what it writes.
pub record Lawful {S A : Type 0} (m : Format S A) (lo hi : ℕ) (Fits : A → Type 0) : Type 1 where
  pub back : {U : Type 0} (larger : ℕ → U → Field → Result U MsgFault) (put : S → U) (text rest : List ℕ) (at : ℕ) (a : A)
      → Fits a → length text < 2 ^ 64 → Acts (m.take text) lo hi larger put → drop at text ≡ m.write a ++ rest → Found m larger put text rest at a
  pub passes : (text : List ℕ) (key : ℕ) (s : S) (f : Field) → (f.number < lo) ⊎ (hi < f.number) → m.take text key s f ≡ Ok s

-- ---- A whole message

pub ended : (n : ℕ) (text : List ℕ) → drop n text ≡ [] → length text ≤ n
ended n text e = omega (arith, length-drop n text, ap length e)

pub read_back : {S A : Type 0} (w : WrittenIsRead) (m : Format S A) (lo hi : ℕ) (Fits : A → Type 0) → Lawful m lo hi Fits → (a : A) → Fits a → length (canon m a) < 2 ^ 64 → read m (canon m a) ≡ Ok a
unfolding read canon
read_back w m lo hi Fits lawful a fits small =
    let text : List ℕ = m.write a in
    let found = lawful.back (m.take text) (λ s. s) text [] 0 a fits small (λ key s t f low high e. e) (sym (append-nil text)) in
    let end : judged_from (m.take text) text found.next found.state ≡ Ok found.state = rw (w.end text found.next (ended found.next text found.behind)) refl in
    ap (λ r. r >>= λ s. Ok (m.whole s)) (found.same ∙ end) ∙ ap (λ b. Ok b) found.whole

pub inside_short : (number : ℕ) (text inner rest : List ℕ) (at : ℕ) → length text < 2 ^ 64 → drop at text ≡ bytes_field number inner ++ rest → length inner < 2 ^ 64
inside_short number text inner rest at small is =
    omega (arith, length-drop at text, ap length is, length-append (bytes_field number inner) rest, length-append (varint (number * 8 + 2) ++ varint (length inner)) inner)

pub message_back : {S A : Type 0} (w : WrittenIsRead) (m : Format S A) (lo hi : ℕ) (Fits : A → Type 0) → Lawful m lo hi Fits → KindBack (message m) Fits
message_back w m lo hi Fits lawful text rest at number a fits n small is =
    let short : length (canon m a) < 2 ^ 64 = inside_short number text (canon m a) rest at small is in
    let f = w.bytes text rest (canon m a) at number n.first n.last short is in
    let reads : read m (piece text f.0 (f.1 - f.0)) ≡ Ok a = ap (read m) f.4 ∙ read_back w m lo hi Fits lawful a fits short in
    record { value = Range f.0 f.1; next = f.1; stands = record { is = f.2; fields = f.3; behind = f.5 }; reads = reads }

-- ---- The rows

pub same_number : (n : ℕ) → eqb n n ≡ true
same_number n = eq-eqb n n refl

pub other_number : (n m : ℕ) → (n < m) ⊎ (m < n) → eqb n m ≡ false
other_number n m (inl lt) = ne_eqb n m (λ e. omega arith)
other_number n m (inr lt) = ne_eqb n m (λ e. omega arith)

-- a kind of value whose default stands for itself
pub record ScalarBack {A : Type 0} (scalar : Scalar A) (Fits : A → Type 0) : Type 0 where
  pub kind : KindBack scalar.kind Fits
  pub default : (a : A) → scalar.is_default a ≡ true → scalar.default ≡ a

single_back : {A U : Type 0} (scalar : Scalar A) (Fits : A → Type 0) → ScalarBack scalar Fits → (number : ℕ) → IsNumber number
    → (larger : ℕ → U → Field → Result U MsgFault) (put : Option A → U) (text rest : List ℕ) (at : ℕ) (a : A) → Fits a → length text < 2 ^ 64
    → Acts ((single number scalar).take text) number number larger put → (d : Bool) → scalar.is_default a ≡ d → drop at text ≡ cond d [] (scalar.kind.write number a) ++ rest
    → Found (single number scalar) larger put text rest at a
single_back scalar Fits s number n larger put text rest at a fits small acts true e is =
    record { state = None; next = at; behind = is; whole = s.default a e; same = refl }
single_back scalar Fits s number n larger put text rest at a fits small acts false e is =
    let h = s.kind text rest at number a fits n small is in
    let f : Field = record { number = number; value = h.value } in
    let takes : (single number scalar).take text at None f ≡ Ok (Some a) = rw (same_number number, h.reads) refl in
    record {
      state = Some a;
      next = h.next;
      behind = h.stands.behind;
      whole = refl;
      same = one_field larger text at (put None) (put (Some a)) f h.next rest h.stands (acts at None (Some a) f (omega arith) (omega arith) takes);
    }

pub single_lawful : {A : Type 0} (scalar : Scalar A) (Fits : A → Type 0) → ScalarBack scalar Fits → (number : ℕ) → IsNumber number → Lawful (single number scalar) number number Fits
single_lawful scalar Fits s number n = record {
  back = λ larger put text rest at a fits small acts is. single_back scalar Fits s number n larger put text rest at a fits small acts (scalar.is_default a) refl is;
  passes = λ text key o f other. rw (other_number f.number number other) refl;
}

part_back : {S A U : Type 0} (m : Format S A) (Fits : A → Type 0) → KindBack (message m) Fits → (number : ℕ) → IsNumber number
    → (larger : ℕ → U → Field → Result U MsgFault) (put : Option A → U) (text rest : List ℕ) (at : ℕ) (o : Option A) → IfSome o Fits → length text < 2 ^ 64
    → Acts ((part number m).take text) number number larger put → drop at text ≡ (part number m).write o ++ rest
    → Found (part number m) larger put text rest at o
part_back m Fits kind number n larger put text rest at None fits small acts is = record { state = None; next = at; behind = is; whole = refl; same = refl }
part_back m Fits kind number n larger put text rest at (Some a) fits small acts is =
    let h = kind text rest at number a fits n small is in
    let f : Field = record { number = number; value = h.value } in
    let takes : (part number m).take text at None f ≡ Ok (Some a) = rw (same_number number, h.reads) refl in
    record {
      state = Some a;
      next = h.next;
      behind = h.stands.behind;
      whole = refl;
      same = one_field larger text at (put None) (put (Some a)) f h.next rest h.stands (acts at None (Some a) f (omega arith) (omega arith) takes);
    }

pub part_lawful : {S A : Type 0} (m : Format S A) (Fits : A → Type 0) → KindBack (message m) Fits → (number : ℕ) → IsNumber number → Lawful (part number m) number number (λ o. IfSome o Fits)
part_lawful m Fits kind number n = record {
  back = part_back m Fits kind number n;
  passes = λ text key o f other. rw (other_number f.number number other) refl;
}

-- ---- Tables

pub both_lawful : {S T A B : Type 0} (a : Format S A) (b : Format T B) (lo mid later hi : ℕ) (FitsA : A → Type 0) (FitsB : B → Type 0)
    → Lawful a lo mid FitsA → Lawful b later hi FitsB → lo ≤ mid → mid < later → later ≤ hi → Lawful (a ⊗ b) lo hi (λ p. FitsA p.0 × FitsB p.1)
both_lawful a b lo mid later hi FitsA FitsB la lb order apart ends = record {
  back = λ larger put text rest at p fits small acts is.
      let first = la.back larger (λ s. put (s, b.start)) text (b.write p.1 ++ rest) at p.0 fits.0 small
      (λ key s t f low high e. acts key (s, b.start) (t, b.start) f low (omega arith) (rw (e, lb.passes text key b.start f (inl (omega arith))) refl))
      (is ∙ append_assoc (a.write p.0) (b.write p.1) rest) in
      let second = lb.back larger (λ t. put (first.state, t)) text rest first.next p.1 fits.1 small
      (λ key s t f low high e. acts key (first.state, s) (first.state, t) f (omega arith) high (rw (la.passes text key first.state f (inr (omega arith)), e) refl))
      first.behind in
      record {
        state = (first.state, second.state);
        next = second.next;
        behind = second.behind;
        whole = ap (λ x. (x, b.whole second.state)) first.whole ∙ ap (λ y. (p.0, y)) second.whole;
        same = first.same ∙ second.same;
      };
  passes = λ text key s f other. elim other [
    | inl lt ↦ rw (la.passes text key s.0 f (inl lt), lb.passes text key s.1 f (inl (omega arith))) refl
    | inr lt ↦ rw (la.passes text key s.0 f (inr (omega arith)), lb.passes text key s.1 f (inr lt)) refl
  ];
}

pub named_lawful : {S A B : Type 0} (made : A → B) (parts : B → A) (m : Format S A) (lo hi : ℕ) (Fits : A → Type 0) (FitsB : B → Type 0)
    → Lawful m lo hi Fits → ((b : B) → made (parts b) ≡ b) → ((b : B) → FitsB b → Fits (parts b)) → Lawful (named made parts m) lo hi FitsB
named_lawful made parts m lo hi Fits FitsB lawful again implied = record {
  back = λ larger put text rest at b fits small acts is.
      let found = lawful.back larger put text rest at (parts b) (implied b fits) small acts is in
      record { state = found.state; next = found.next; behind = found.behind; whole = ap made found.whole ∙ again b; same = found.same };
  passes = lawful.passes;
}
