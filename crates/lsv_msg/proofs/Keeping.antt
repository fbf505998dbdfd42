-- What holds of each field that is read holds of the message: a row at a time, and for a table of rows.
use Rattle.std.proofs.Common.{◌≡◌, ℕ, ℤ, zero, suc, ◌-◌, ◌%◌, ◌^◌, ◌≤◌, Bool, true, false, cond, eqb, leb, ltb, List, [], ◌∷◌, ◌++◌, length, drop, Option, Some, None, Result, Ok, Err, refl, ap, subst, arith, length-take, length-drop}
use Rattle.std.specs.Prelude.{IfSome, FitsSigned, slice_range}
use Rattle.std.specs.List.{AllByRecursion}
use Rattle.std.specs.Int.{w32, w64, cast_signed}
use Rattle.std.proofs.lemmas.Bool.{ltb-true, ltb-false}
use Rattle.lsv_wire.specs.Fields.{varint_at, fields_of}
use Rattle.lsv_wire.specs.declared.field.Field.{Field}
use Rattle.lsv_wire.specs.declared.field.FieldValue.{FieldValue}
use Rattle.lsv_wire.specs.declared.field.FieldValue.TheVariants.{Varint, Eight, Range, Four}
use Rattle.lsv_wire.specs.declared.field.WireFault.{WireFault}
use Rattle.lsv_msg.specs.declared.fault.MsgFault.{MsgFault}
use Rattle.lsv_msg.specs.Format.{◌>>=◌, of_wire, bytes_in, number_in, Kind, Scalar, Format, judged, place_after, read, message, once, value_or, single, part, pushed, repeated, listed, pushed_said, repeated_said, extended, packed_within, packed_from, numbers_in, repeated_int64, Member, member, chosen, oneof, ◌⊗◌, named, int64, int32, text}

-- ---- What was read without a fault

abbrev pub done : {A : Type 0} → A → Result A MsgFault
done a = Ok a

pub ok_is : {A : Type 0} (a b : A) → done a ≡ done b → a ≡ b
ok_is a b e = cc

-- both steps of what was read gave something
pub record Bound {A B : Type 0} (r : Result A MsgFault) (f : A → Result B MsgFault) (b : B) : Type 0 where
  pub value : A
  pub first : r ≡ Ok value
  pub then : f value ≡ Ok b

pub bound : {A B : Type 0} (r : Result A MsgFault) (f : A → Result B MsgFault) (b : B) → (r >>= f) ≡ Ok b → Bound r f b
bound (Ok a) f b e = record { value = a; first = refl; then = e }
bound (Err fault) f b e = absurd cc

-- ---- One field

-- what a kind of value gives is good for the text that it stands in
abbrev pub KindGood : {A : Type 0} → Kind A → (ℕ → A → Type 0) → Type 0
KindGood {A} kind Good = (bytes : List ℕ) (f : Field) (a : A) → kind.read bytes f ≡ Ok a → Good (length bytes) a

-- what is good for a text is good for a longer one
abbrev pub Rises : {A : Type 0} → (ℕ → A → Type 0) → Type 0
Rises {A} Good = (n m : ℕ) (a : A) → n ≤ m → Good n a → Good m a

short_value : (bytes : List ℕ) (number : ℕ) (v : FieldValue) (b : List ℕ) → bytes_in bytes (record { number = number; value = v }) ≡ Ok b → length b ≤ length bytes
short_value bytes number (Range from to) b e =
    let is : slice_range bytes from to ≡ b = ok_is (slice_range bytes from to) b e in
    omega (arith, ap length is, length-take (to - from) (drop from bytes), length-drop from bytes)
short_value bytes number (Varint n) b e = absurd cc
short_value bytes number (Eight n) b e = absurd cc
short_value bytes number (Four n) b e = absurd cc

bytes_short : (bytes : List ℕ) (f : Field) (b : List ℕ) → bytes_in bytes f ≡ Ok b → length b ≤ length bytes
bytes_short bytes f b e = short_value bytes f.number f.value b e

pub text_good : KindGood text.kind (λ n b. length b ≤ n)
text_good bytes f b e = bytes_short bytes f b e

pub fits64 : (n : ℕ) → FitsSigned w64 (cast_signed w64 n)
fits64 n = go (ltb n (2 ^ 63)) refl
  where
    go : (b : Bool) → ltb n (2 ^ 63) ≡ b → FitsSigned w64 (cast_signed w64 n)
    go true e = let low = ltb-true n (2 ^ 63) e in rw e (record { sfits = omega (arith, low) })
    go false e = let high = ltb-false n (2 ^ 63) e in rw e (record { sfits = omega (arith, high) })

pub fits32 : (n : ℕ) → FitsSigned w32 (cast_signed w32 n)
fits32 n = go (ltb n (2 ^ 31)) refl
  where
    go : (b : Bool) → ltb n (2 ^ 31) ≡ b → FitsSigned w32 (cast_signed w32 n)
    go true e = let low = ltb-true n (2 ^ 31) e in rw e (record { sfits = omega (arith, low) })
    go false e = let high = ltb-false n (2 ^ 31) e in rw e (record { sfits = omega (arith, high) })

pub int64_good : KindGood int64.kind (λ n z. FitsSigned w64 z)
int64_good bytes f z e =
    let b = bound (number_in f) (λ n. Ok (cast_signed w64 n)) z e in
    subst (FitsSigned w64) (ok_is (cast_signed w64 b.value) z b.then) (fits64 b.value)

pub int32_good : KindGood int32.kind (λ n z. FitsSigned w32 z)
int32_good bytes f z e =
    let b = bound (number_in f) (λ n. Ok (cast_signed w32 (n % 2 ^ 32))) z e in
    subst (FitsSigned w32) (ok_is (cast_signed w32 (b.value % 2 ^ 32)) z b.then) (fits32 (b.value % 2 ^ 32))

-- ---- A table

-- Something is known of what was read so far, and with each field that is taken; at the end the message is good.
pub record Keeps {S A : Type 0} (m : Format S A) (Good : ℕ → A → Type 0) : Type 1 where
  pub Known : ℕ → S → Type 0
  pub start : (n : ℕ) → Known n m.start
  pub take : (bytes : List ℕ) (key : ℕ) (s t : S) (f : Field) → Known (length bytes) s → m.take bytes key s f ≡ Ok t → Known (length bytes) t
  pub whole : (n : ℕ) (s : S) → Known n s → Good n (m.whole s)

judged_keeps : {S : Type 0} (take_one : ℕ → S → Field → Result S MsgFault) (bytes : List ℕ) (Known : S → Type 0)
    → ((key : ℕ) (s t : S) (f : Field) → Known s → take_one key s f ≡ Ok t → Known t)
    → (at : ℕ) (s t : S) (fs : List Field) (fault : Option WireFault) → Known s → judged take_one bytes at s fs fault ≡ Ok t → Known t
judged_keeps take_one bytes Known step at s t [] None known e = subst Known (ok_is s t e) known
judged_keeps take_one bytes Known step at s t [] (Some fault) known e = absurd cc
judged_keeps take_one bytes Known step at s t (f ∷ fs) fault known e =
    let b = bound (take_one at s f) (λ s. judged take_one bytes (place_after bytes at) s fs fault) t e in
    judged_keeps take_one bytes Known step (place_after bytes at) b.value t fs fault (step at s b.value f known b.first) b.then

pub read_keeps : {S A : Type 0} (m : Format S A) (Good : ℕ → A → Type 0) → Keeps m Good → (bytes : List ℕ) (a : A) → read m bytes ≡ Ok a → Good (length bytes) a
unfolding read
read_keeps m Good k bytes a e =
    let b = bound (judged (m.take bytes) bytes 0 m.start (fields_of bytes).fields (fields_of bytes).fault) (λ s. Ok (m.whole s)) a e in
    let known = judged_keeps (m.take bytes) bytes (k.Known (length bytes)) (λ key s t f. k.take bytes key s t f) 0 m.start b.value (fields_of bytes).fields (fields_of bytes).fault (k.start (length bytes)) b.first in
    subst (Good (length bytes)) (ok_is (m.whole b.value) a b.then) (k.whole (length bytes) b.value known)

-- a message inside a field is as good for the text that the field stands in
pub message_good : {S A : Type 0} (m : Format S A) (Good : ℕ → A → Type 0) → Keeps m Good → Rises Good → KindGood (message m) Good
message_good m Good k rises bytes f a e =
    let b = bound (bytes_in bytes f) (read m) a e in
    rises (length b.value) (length bytes) a (bytes_short bytes f b.value b.first) (read_keeps m Good k b.value a b.then)

-- ---- The rows

-- a row takes the fields of its number
row_keeps : {S : Type 0} (Known : S → Type 0) (b : Bool) (taken : Result S MsgFault) (s t : S) → Known s → (taken ≡ Ok t → Known t) → cond b taken (Ok s) ≡ Ok t → Known t
row_keeps Known true taken s t known keeps e = keeps e
row_keeps Known false taken s t known keeps e = subst Known (ok_is s t e) known

once_keeps : {A : Type 0} (Good : A → Type 0) (s : Option A) (number : ℕ) (reading : Result A MsgFault) (t : Option A) → ((a : A) → reading ≡ Ok a → Good a) → once s number reading ≡ Ok t → IfSome t Good
once_keeps Good None number reading t good e =
    let b = bound reading (λ a. Ok (Some a)) t e in
    subst (λ o. IfSome o Good) (ok_is (Some b.value) t b.then) (good b.value b.first)
once_keeps Good (Some a) number reading t good e = absurd cc

value_good : {A : Type 0} (Good : A → Type 0) (a : A) (o : Option A) → Good a → IfSome o Good → Good (value_or a o)
value_good Good a None default known = default
value_good Good a (Some b) default known = known

pub single_keeps : {A : Type 0} (number : ℕ) (scalar : Scalar A) (Good : ℕ → A → Type 0) → KindGood scalar.kind Good → ((n : ℕ) → Good n scalar.default) → Keeps (single number scalar) Good
single_keeps number scalar Good good default = record {
  Known = λ n o. IfSome o (Good n);
  start = λ n. tt;
  take = λ bytes key s t f known e.
      row_keeps (λ o. IfSome o (Good (length bytes))) (eqb f.number number) (once s number (scalar.kind.read bytes f)) s t known
      (once_keeps (Good (length bytes)) s number (scalar.kind.read bytes f) t (good bytes f)) e;
  whole = λ n s known. value_good (Good n) scalar.default s (default n) known;
}

pub part_keeps : {S A : Type 0} (number : ℕ) (m : Format S A) (Good : ℕ → A → Type 0) → KindGood (message m) Good → Keeps (part number m) (λ n o. IfSome o (Good n))
part_keeps number m Good good = record {
  Known = λ n o. IfSome o (Good n);
  start = λ n. tt;
  take = λ bytes key s t f known e.
      row_keeps (λ o. IfSome o (Good (length bytes))) (eqb f.number number) (once s number ((message m).read bytes f)) s t known
      (once_keeps (Good (length bytes)) s number ((message m).read bytes f) t (good bytes f)) e;
  whole = λ n s known. known;
}

pub all_weaker : {A : Type 0} (P Q : A → Type 0) → ((a : A) → P a → Q a) → (xs : List A) → AllByRecursion P xs → AllByRecursion Q xs
all_weaker P Q then [] all = tt
all_weaker P Q then (x ∷ xs) all = (then x all.0, all_weaker P Q then xs all.1)

all_append : {A : Type 0} (P : A → Type 0) (xs ys : List A) → AllByRecursion P xs → AllByRecursion P ys → AllByRecursion P (xs ++ ys)
all_append P [] ys first then = then
all_append P (x ∷ xs) ys first then = (first.0, all_append P xs ys first.1 then)

extended_keeps : {A : Type 0} (P : A → Type 0) (items : List A) (reading : Result (List A) MsgFault) (t : List A) → AllByRecursion P items → ((more : List A) → reading ≡ Ok more → AllByRecursion P more)
    → extended items reading ≡ Ok t → AllByRecursion P t
extended_keeps P items reading t known good e =
    let b = bound reading (λ more. Ok (items ++ more)) t e in
    subst (AllByRecursion P) (ok_is (items ++ b.value) t b.then) (all_append P items b.value known (good b.value b.first))

pushed_keeps : {A : Type 0} (P : A → Type 0) (items : List A) (reading : Result A MsgFault) (t : List A) → AllByRecursion P items → ((a : A) → reading ≡ Ok a → P a)
    → pushed items reading ≡ Ok t → AllByRecursion P t
pushed_keeps P items reading t known good e =
    let b = bound reading (λ a. Ok (items ++ a ∷ [])) t e in
    subst (AllByRecursion P) (ok_is (items ++ b.value ∷ []) t b.then) (all_append P items (b.value ∷ []) known (good b.value b.first, tt))

listed_good : {A : Type 0} (P : A → Type 0) (o : Option A) → IfSome o P → AllByRecursion P (listed o)
listed_good P None good = tt
listed_good P (Some a) good = (good, tt)

said_keeps : {A : Type 0} (P : A → Type 0) (items : List A) (reading : Result (Option A) MsgFault) (t : List A) → AllByRecursion P items → ((o : Option A) → reading ≡ Ok o → IfSome o P)
    → pushed_said items reading ≡ Ok t → AllByRecursion P t
said_keeps P items reading t known good e =
    let b = bound reading (λ o. Ok (items ++ listed o)) t e in
    subst (AllByRecursion P) (ok_is (items ++ listed b.value) t b.then) (all_append P items (listed b.value) known (listed_good P b.value (good b.value b.first)))

pub repeated_keeps : {A : Type 0} (number : ℕ) (kind : Kind A) (Good : ℕ → A → Type 0) → KindGood kind Good → Keeps (repeated number kind) (λ n items. AllByRecursion (Good n) items)
repeated_keeps number kind Good good = record {
  Known = λ n items. AllByRecursion (Good n) items;
  start = λ n. tt;
  take = λ bytes key s t f known e.
      row_keeps (AllByRecursion (Good (length bytes))) (eqb f.number number) (pushed s (kind.read bytes f)) s t known
      (pushed_keeps (Good (length bytes)) s (kind.read bytes f) t known (good bytes f)) e;
  whole = λ n s known. known;
}

pub repeated_said_keeps : {S A : Type 0} (number : ℕ) (m : Format S (Option A)) (Good : ℕ → A → Type 0) → KindGood (message m) (λ n o. IfSome o (Good n)) → Keeps (repeated_said number m) (λ n items. AllByRecursion (Good n) items)
repeated_said_keeps number m Good good = record {
  Known = λ n items. AllByRecursion (Good n) items;
  start = λ n. tt;
  take = λ bytes key s t f known e.
      row_keeps (AllByRecursion (Good (length bytes))) (eqb f.number number) (pushed_said s ((message m).read bytes f)) s t known
      (said_keeps (Good (length bytes)) s ((message m).read bytes f) t known (good bytes f)) e;
  whole = λ n s known. known;
}

cond_keeps : {A : Type 0} (P : A → Type 0) (b : Bool) (x y : Result A MsgFault) (a : A) → (x ≡ Ok a → P a) → (y ≡ Ok a → P a) → cond b x y ≡ Ok a → P a
cond_keeps P true x y a first second e = first e
cond_keeps P false x y a first second e = second e

abbrev pub AllFit : List ℤ → Type 0
AllFit numbers = AllByRecursion (FitsSigned w64) numbers

-- a number and those that follow it
abbrev after : (ℕ → Result (List ℤ) MsgFault) → ℕ × ℕ → Result (List ℤ) MsgFault
after others n = others n.1 >>= λ ns. Ok (cast_signed w64 n.0 ∷ ns)

after_good : (first : Result (ℕ × ℕ) MsgFault) (others : ℕ → Result (List ℤ) MsgFault) (numbers : List ℤ) → ((at : ℕ) (ns : List ℤ) → others at ≡ Ok ns → AllFit ns) → (first >>= after others) ≡ Ok numbers → AllFit numbers
after_good first others numbers good e =
    let n = bound first (after others) numbers e in
    let ns = bound (others n.value.1) (λ ns. Ok (cast_signed w64 n.value.0 ∷ ns)) numbers n.then in
    subst AllFit (ok_is (cast_signed w64 n.value.0 ∷ ns.value) numbers ns.then) (fits64 n.value.0, good n.value.1 ns.value ns.first)

packed_good : (more : ℕ) (bytes : List ℕ) (key at : ℕ) (numbers : List ℤ) → packed_within more bytes key at ≡ Ok numbers → AllFit numbers
packed_good zero bytes key at numbers e = subst AllFit (ok_is [] numbers e) tt
packed_good (suc more) bytes key at numbers e =
    cond_keeps AllFit (leb (length bytes) at) (Ok []) (of_wire (varint_at bytes key at) >>= after (packed_within more bytes key)) numbers (λ e. subst AllFit (ok_is [] numbers e) tt)
    (after_good (of_wire (varint_at bytes key at)) (packed_within more bytes key) numbers (λ next ns e. packed_good more bytes key next ns e)) e

packed_from-good : (bytes : List ℕ) (key at : ℕ) (numbers : List ℤ) → packed_from bytes key at ≡ Ok numbers → AllFit numbers
unfolding packed_from
packed_from-good bytes key at numbers e = packed_good (length bytes) bytes key at numbers e

numbers_of : (bytes : List ℕ) (key number : ℕ) (v : FieldValue) (numbers : List ℤ) → numbers_in bytes key (record { number = number; value = v }) ≡ Ok numbers → AllFit numbers
numbers_of bytes key number (Varint n) numbers e = subst AllFit (ok_is (cast_signed w64 n ∷ []) numbers e) (fits64 n, tt)
numbers_of bytes key number (Range from to) numbers e = packed_from-good (slice_range bytes from to) key 0 numbers e
numbers_of bytes key number (Eight n) numbers e = absurd cc
numbers_of bytes key number (Four n) numbers e = absurd cc

pub numbers_keeps : (number : ℕ) → Keeps (repeated_int64 number) (λ n numbers. AllFit numbers)
numbers_keeps number = record {
  Known = λ n numbers. AllFit numbers;
  start = λ n. tt;
  take = λ bytes key s t f known e.
      row_keeps AllFit (eqb f.number number) (extended s (numbers_in bytes key f)) s t known
      (extended_keeps (FitsSigned w64) s (numbers_in bytes key f) t known (numbers_of bytes key f.number f.value)) e;
  whole = λ n s known. known;
}

-- ---- Members of a oneof

-- what a member reads is good for the text that it stands in
abbrev pub MemberGood : {M : Type 0} → (ℕ → M → Type 0) → Member M → Type 0
MemberGood {M} Good x = (bytes : List ℕ) (f : Field) (m : M) → x.read bytes f ≡ Ok m → Good (length bytes) m

pub member_good : {A M : Type 0} (number : ℕ) (kind : Kind A) (made : A → M) (has : M → Option A) (Good : ℕ → A → Type 0) (GoodM : ℕ → M → Type 0) → KindGood kind Good
    → ((n : ℕ) (a : A) → Good n a → GoodM n (made a)) → MemberGood GoodM (member number kind made has)
member_good number kind made has Good GoodM good implied bytes f m e =
    let b = bound (kind.read bytes f) (λ a. Ok (made a)) m e in
    subst (GoodM (length bytes)) (ok_is (made b.value) m b.then) (implied (length bytes) b.value (good bytes f b.value b.first))

chosen_keeps : {M : Type 0} (members : List (Member M)) (Good : ℕ → M → Type 0) → AllByRecursion (MemberGood Good) members → (bytes : List ℕ) (s t : Option M) (f : Field)
    → IfSome s (Good (length bytes)) → chosen members bytes s f ≡ Ok t → IfSome t (Good (length bytes))
chosen_keeps [] Good good bytes s t f known e = subst (λ o. IfSome o (Good (length bytes))) (ok_is s t e) known
chosen_keeps (x ∷ xs) Good good bytes s t f known e =
    cond_keeps (λ o. IfSome o (Good (length bytes))) (eqb f.number x.number) (once s x.number (x.read bytes f)) (chosen xs bytes s f) t
    (once_keeps (Good (length bytes)) s x.number (x.read bytes f) t (good.0 bytes f)) (chosen_keeps xs Good good.1 bytes s t f known) e

pub oneof_keeps : {M : Type 0} (members : List (Member M)) (Good : ℕ → M → Type 0) → AllByRecursion (MemberGood Good) members → Keeps (oneof members) (λ n o. IfSome o (Good n))
oneof_keeps members Good good = record {
  Known = λ n o. IfSome o (Good n);
  start = λ n. tt;
  take = λ bytes key s t f known e. chosen_keeps members Good good bytes s t f known e;
  whole = λ n s known. known;
}

-- ---- Tables of rows

abbrev pub Both : {A B : Type 0} → (ℕ → A → Type 0) → (ℕ → B → Type 0) → ℕ → A × B → Type 0
Both GoodA GoodB n p = GoodA n p.0 × GoodB n p.1

pub both_keeps : {S T A B : Type 0} (a : Format S A) (b : Format T B) (GoodA : ℕ → A → Type 0) (GoodB : ℕ → B → Type 0) → Keeps a GoodA → Keeps b GoodB → Keeps (a ⊗ b) (Both GoodA GoodB)
both_keeps a b GoodA GoodB ka kb = record {
  Known = λ n s. ka.Known n s.0 × kb.Known n s.1;
  start = λ n. (ka.start n, kb.start n);
  take = λ bytes key s t f known e.
      let x = bound (a.take bytes key s.0 f) (λ x. b.take bytes key s.1 f >>= λ y. Ok (x, y)) t e in
      let y = bound (b.take bytes key s.1 f) (λ y. Ok (x.value, y)) t x.then in
      subst (λ u. ka.Known (length bytes) u.0 × kb.Known (length bytes) u.1) (ok_is (x.value, y.value) t y.then)
      (ka.take bytes key s.0 x.value f known.0 x.first, kb.take bytes key s.1 y.value f known.1 y.first);
  whole = λ n s known. (ka.whole n s.0 known.0, kb.whole n s.1 known.1);
}

pub named_keeps : {S A B : Type 0} (made : A → B) (parts : B → A) (m : Format S A) (Good : ℕ → A → Type 0) (GoodB : ℕ → B → Type 0) → Keeps m Good → ((n : ℕ) (a : A) → Good n a → GoodB n (made a)) → Keeps (named made parts m) GoodB
named_keeps made parts m Good GoodB k implied = record {
  Known = k.Known;
  start = k.start;
  take = k.take;
  whole = λ n s known. implied n (m.whole s) (k.whole n s known);
}
