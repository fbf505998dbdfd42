-- The members of an object while entries are put in, and that no float is among them.
use Rattle.std.proofs.Common.{◌≡◌, ℕ, zero, suc, ◌+◌, ◌<◌, ℤ, pos, negsuc, List, [], ◌∷◌, length, take, fold, map, get_or, String, Global, string_bytes, string_cmp, false, Ordering, Less, Equal, Greater, refl, sym, ap, ◌∙◌, arith}
use Rattle.std.proofs.lemmas.Bool.{or_parts}
use Rattle.std.specs.Ordering.{match_ordering, nat_cmp}
use Rattle.std.specs.Cmp.Lexicographic.{slice_cmp}
use Rattle.std.specs.Str.Lossy.{utf8_lossy}
use Rattle.serde_json.specs.Data.{Data, Members, no_members, member, put}
use Rattle.serde_json.specs.View.{items_of, view, members_view}
use Rattle.serde_json.specs.declared.value.Value.{Value as Json}
use Rattle.serde_json.specs.Written.{has_float, items_have_float, members_have_float}
use Rattle.serde_json.proofs.Views.{Entry as Member, members_view-insert_entry}
use Rattle.std.specs.BTreeMap.{insert_entry}
use Rattle.lsv_info.specs.declared.info.Entry.{Entry}
use Rattle.lsv_info.specs.declared.info.Value.{Value}
use Rattle.lsv_info.specs.declared.info.Value.TheVariants.{Num, Text, Texts, Nums}
use Rattle.lsv_info.specs.declared.times.Head.{Head}
use Rattle.std.specs.Prelude.{codes}
use Rattle.lsv_base.specs.declared.time.TimeSpec.{TimeSpec}
use Rattle.lsv_info.specs.declared.times.Exit.{Exit}
use Rattle.lsv_info.specs.Layout.{shown_text, shown_number, shown_value, with_entry, info_members, time_value, unless_empty, exit_members, head_value}

-- ---- one entry more

fold_next : {A B : Type 0} (f : B → A → B) (b : B) (xs : List A) (i : ℕ) (x : A) → i < length xs → fold f b (take (suc i) xs) ≡ f (fold f b (take i xs)) (get_or xs i x)
fold_next f b [] i x within = absurd (omega arith)
fold_next f b (y ∷ ys) zero x within = refl
fold_next f b (y ∷ ys) (suc i) x within = fold_next f (f b y) ys i x (omega arith)

pub info_next : (entries : List Entry) (i : ℕ) (entry : Entry) (ms : Members) → i < length entries → entry ≡ get_or entries i entry → ms ≡ info_members (take i entries)
    → with_entry ms entry ≡ info_members (take (i + 1) entries)
info_next entries i entry ms within is before =
    let later : i + 1 ≡ suc i = omega arith in
    rw (before, later) (ap (with_entry (info_members (take i entries))) is ∙ sym (fold_next with_entry no_members entries i entry within))

pub entry_put : (old new : List Member) (key : String Global) (value : Json) (entry : Entry) → new ≡ insert_entry string_cmp old key value
    → string_bytes key ≡ utf8_lossy entry.key → view value ≡ shown_value entry.value → members_view new ≡ with_entry (members_view old) entry
entry_put old new key value entry is named shown = ap members_view is ∙ members_view-insert_entry old key value ∙ rw (named, shown) refl

-- ---- no float

pub fold_keeps : {A B : Type 0} (P : B → Type 0) (f : B → A → B) → ((b : B) (x : A) → P b → P (f b x)) → (b : B) (xs : List A) → P b → P (fold f b xs)
fold_keeps P f keeps b [] holds = holds
fold_keeps P f keeps b (x ∷ xs) holds = fold_keeps P f keeps (f b x) xs (keeps b x holds)

number_plain : (n : ℤ) → has_float (shown_number n) ≡ false
number_plain (pos n) = refl
number_plain (negsuc n) = refl

texts_plain : (texts : List (List ℕ)) → items_have_float (items_of (map shown_text texts)) ≡ false
texts_plain [] = refl
texts_plain (t ∷ ts) = texts_plain ts

numbers_plain : (numbers : List ℤ) → items_have_float (items_of (map shown_number numbers)) ≡ false
numbers_plain [] = refl
numbers_plain (n ∷ ns) = rw (number_plain n) (numbers_plain ns)

value_plain : (value : Value) → has_float (shown_value value) ≡ false
value_plain (Num n) = number_plain n
value_plain (Text bytes) = refl
value_plain (Texts texts) = texts_plain texts
value_plain (Nums numbers) = numbers_plain numbers

ordering_plain : (o : Ordering) (a b c : Members) → members_have_float a ≡ false → members_have_float b ≡ false → members_have_float c ≡ false → members_have_float (match_ordering o a b c) ≡ false
ordering_plain Less a b c p q r = p
ordering_plain Equal a b c p q r = q
ordering_plain Greater a b c p q r = r

put_plain : (key : List ℕ) (json : Data) (members : Members) → has_float json ≡ false → members_have_float members ≡ false → members_have_float (put key json members) ≡ false
put_plain key json no_members plain rest = rw plain refl
put_plain key json (member k d ms) plain rest =
    let parts = or_parts (has_float d) _ rest in
    ordering_plain (slice_cmp nat_cmp key k) (member key json (member k d ms)) (member k json ms) (member k d (put key json ms)) (rw plain rest) (rw plain parts.1) (rw parts.0 (put_plain key json ms plain parts.1))

pub info_plain : (entries : List Entry) → members_have_float (info_members entries) ≡ false
info_plain entries = fold_keeps (λ ms. members_have_float ms ≡ false) with_entry (λ ms e plain. put_plain (utf8_lossy e.key) (shown_value e.value) ms (value_plain e.value) plain) no_members entries refl

pub head_plain : (head : Head) (json : Data) → json ≡ head_value head → has_float json ≡ false
head_plain head json is = rw (is, info_plain head.info.entries, number_plain head.submit.sec, number_plain head.submit.nsec) refl

pub time_plain : (time : TimeSpec) → has_float (time_value time) ≡ false
time_plain time = rw (number_plain time.nsec, number_plain time.sec) refl

text_plain : (key bytes : List ℕ) (later : Members) → members_have_float later ≡ false → members_have_float (unless_empty key bytes later) ≡ false
text_plain key [] later plain = plain
text_plain key (b ∷ bytes) later plain = plain

pub exit_plain : (exit : Exit) → members_have_float (exit_members exit) ≡ false
exit_plain exit =
    let signal = text_plain (codes "signal") exit.signal no_members refl in
    let later : members_have_float (member (codes "exit_value") (shown_number exit.value) (member (codes "run_time") (time_value exit.run) (unless_empty (codes "signal") exit.signal no_members))) ≡ false =
    rw (number_plain exit.value, number_plain exit.run.nsec, number_plain exit.run.sec) signal in
    text_plain (codes "error") exit.error _ later
