-- A value whose numbers fit, whose strings are UTF-8 and whose keys are in order is read of its own text.
use Rattle.std.proofs.Common.{◌≡◌, suc, ◌<◌, ◌≤◌, ◌^◌, pos, negsuc, [], ◌∷◌, ◌++◌, Bool, true, false, IsUtf8, Some, option_map, option_and_then, refl, sym, ap, ◌∙◌, arith, append-nil}
use Rattle.std.specs.Prelude.{⊤}
use Rattle.std.proofs.lemmas.Fmt.{IsAscii-decimal}
use Rattle.std.proofs.lemmas.Str.{IsUtf8-append, IsUtf8-from_ascii}
use Rattle.json.specs.Lex.{tokens}
use Rattle.json.specs.Print.{IsNumber}
use Rattle.json.specs.Json as json
use Rattle.json.specs.Tree as tree
use Rattle.json.proofs.Printed.Decimals.{IsNumber-signed_decimal}
use Rattle.json.proofs.Printed.Trees.{value-json_tokens, ArePrintable-json_tokens}
use Rattle.json.proofs.Printed.Utf8.{IsUtf8-are_ascii, IsUtf8-quoted, IsUtf8-boolean}
use Rattle.serde_json.specs.Data.{Num, unsigned, negative, float, Data, null, boolean, number, string, array, object, Items, no_items, item, Members, no_members, member, depth, items_depth, members_depth}
use Rattle.serde_json.specs.Read.{number_of, of_json, of_items, of_members, max_depth}
use Rattle.serde_json.specs.Written.{number_text, outline, items_outline, members_outline, compact_text, items_text, members_text, comma_if}
use Rattle.serde_json.proofs.Numbers.{number_of-decimal, number_of-negative}
use Rattle.serde_json.proofs.Texts.{print-outline}
use Rattle.lsv_info.specs.Reading.{json_in}
use Rattle.lsv_info.proofs.Reading.{json_found}
use Rattle.lsv_info.proofs.Sorted.{IsSorted, AreBefore, and_then_members, put_last, none_later, joined, all_before}
use Rattle.lsv_info.proofs.Tail.{tokens_of_line}

-- an integer of 64 bits
abbrev pub IsInteger : Num → Type 0
IsInteger (unsigned n) = n < 2 ^ 63
IsInteger (negative (pos n)) = ⊥
IsInteger (negative (negsuc n)) = n < 2 ^ 63
IsInteger (float x) = ⊥

abbrev mutual
  pub IsGood : Data → Type 0
  IsGood null = ⊤
  IsGood (boolean b) = ⊤
  IsGood (number n) = IsInteger n
  IsGood (string s) = IsUtf8 s
  IsGood (array ds) = AreGood ds
  IsGood (object ms) = IsSorted ms × HaveGood ms

  pub AreGood : Items → Type 0
  AreGood no_items = ⊤
  AreGood (item d ds) = IsGood d × AreGood ds

  pub HaveGood : Members → Type 0
  HaveGood no_members = ⊤
  HaveGood (member k d ms) = IsUtf8 k × IsGood d × HaveGood ms

-- ---- numbers

number_again : (n : Num) → IsInteger n → number_of (number_text n) ≡ Some n
number_again (unsigned n) h = number_of-decimal n (omega arith)
number_again (negative (pos n)) h = absurd h
number_again (negative (negsuc n)) h = number_of-negative n h
number_again (float x) h = absurd h

number_is : (n : Num) → IsInteger n → IsNumber (number_text n)
number_is (unsigned n) h = IsNumber-signed_decimal (pos n) h
number_is (negative (pos n)) h = absurd h
number_is (negative (negsuc n)) h = IsNumber-signed_decimal (negsuc n) h
number_is (float x) h = absurd h

number_utf8 : (n : Num) → IsInteger n → IsUtf8 (number_text n)
number_utf8 (unsigned n) h = IsUtf8-from_ascii _ (IsAscii-decimal n (omega arith))
number_utf8 (negative (pos n)) h = absurd h
number_utf8 (negative (negsuc n)) h = IsUtf8-append (45 ∷ []) _ (IsUtf8-are_ascii (45 ∷ []) refl) (IsUtf8-from_ascii _ (IsAscii-decimal (suc n) (omega arith)))
number_utf8 (float x) h = absurd h

-- ---- the text is UTF-8

comma_utf8 : (later : Bool) → IsUtf8 (comma_if later)
comma_utf8 true = IsUtf8-are_ascii (44 ∷ []) refl
comma_utf8 false = IsUtf8-are_ascii [] refl

mutual
  value_utf8 : (d : Data) → IsGood d → IsUtf8 (compact_text d)
  value_utf8 null h = IsUtf8-are_ascii _ refl
  value_utf8 (boolean b) h = IsUtf8-boolean b
  value_utf8 (number n) h = number_utf8 n h
  value_utf8 (string s) h = IsUtf8-quoted s h
  value_utf8 (array ds) h = IsUtf8-append (91 ∷ []) _ (IsUtf8-are_ascii (91 ∷ []) refl) (items_utf8 false ds h)
  value_utf8 (object ms) h = IsUtf8-append (123 ∷ []) _ (IsUtf8-are_ascii (123 ∷ []) refl) (members_utf8 false ms h.1)

  items_utf8 : (later : Bool) (ds : Items) → AreGood ds → IsUtf8 (items_text later ds)
  items_utf8 later no_items h = IsUtf8-are_ascii (93 ∷ []) refl
  items_utf8 later (item d ds) h = IsUtf8-append _ _ (comma_utf8 later) (IsUtf8-append _ _ (value_utf8 d h.0) (items_utf8 true ds h.1))

  members_utf8 : (later : Bool) (ms : Members) → HaveGood ms → IsUtf8 (members_text later ms)
  members_utf8 later no_members h = IsUtf8-are_ascii (125 ∷ []) refl
  members_utf8 later (member k d ms) h =
      IsUtf8-append _ _ (comma_utf8 later) (IsUtf8-append _ _ (IsUtf8-quoted k h.0) (IsUtf8-append (58 ∷ []) _ (IsUtf8-are_ascii (58 ∷ []) refl) (IsUtf8-append _ _ (value_utf8 d h.1) (members_utf8 true ms h.2))))

-- ---- its numbers are numbers of JSON

mutual
  value_numbers : (d : Data) → IsGood d → tree.HasNumbers (outline d)
  value_numbers null h = tt
  value_numbers (boolean b) h = tt
  value_numbers (number n) h = number_is n h
  value_numbers (string s) h = tt
  value_numbers (array ds) h = items_numbers ds h
  value_numbers (object ms) h = members_numbers ms h.1

  items_numbers : (ds : Items) → AreGood ds → tree.ItemsHaveNumbers (items_outline ds)
  items_numbers no_items h = tt
  items_numbers (item d ds) h = (value_numbers d h.0, items_numbers ds h.1)

  members_numbers : (ms : Members) → HaveGood ms → tree.MembersHaveNumbers (members_outline ms)
  members_numbers no_members h = tt
  members_numbers (member k d ms) h = (value_numbers d h.1, members_numbers ms h.2)

-- ---- it nests as deep

mutual
  value_deep : (d : Data) → tree.depth (outline d) ≡ depth d
  value_deep null = refl
  value_deep (boolean b) = refl
  value_deep (number n) = refl
  value_deep (string s) = refl
  value_deep (array ds) = ap suc (items_deep ds)
  value_deep (object ms) = ap suc (members_deep ms)

  items_deep : (ds : Items) → tree.items_depth (items_outline ds) ≡ items_depth ds
  items_deep no_items = refl
  items_deep (item d ds) = rw (value_deep d, items_deep ds) refl

  members_deep : (ms : Members) → tree.members_depth (members_outline ms) ≡ members_depth ms
  members_deep no_members = refl
  members_deep (member k d ms) = rw (value_deep d, members_deep ms) refl

-- ---- it is read back

mutual
  value_again : (d : Data) → IsGood d → of_json (outline d) ≡ Some d
  value_again null h = refl
  value_again (boolean b) h = refl
  value_again (number n) h = ap (option_map number) (number_again n h)
  value_again (string s) h = refl
  value_again (array ds) h = ap (option_map array) (items_again ds h)
  value_again (object ms) h = ap (option_map object) (members_again ms no_members h.0 h.1 tt)

  items_again : (ds : Items) → AreGood ds → of_items (items_outline ds) ≡ Some ds
  items_again no_items h = refl
  items_again (item d ds) h = rw (value_again d h.0, items_again ds h.1) refl

  members_again : (ms found : Members) → IsSorted ms → HaveGood ms → AreBefore found ms → of_members (members_outline ms) found ≡ Some (and_then_members found ms)
  members_again no_members found sorted h first = ap Some (sym (none_later found))
  members_again (member k d ms) found sorted h first =
      rw (value_again d h.1, put_last k d found ms first) (members_again ms (and_then_members found (member k d no_members)) sorted.1 h.2 (all_before found k d ms first sorted.0) ∙ ap Some (joined found k d ms))

pub read_again : (d : Data) → IsGood d → depth d ≤ max_depth → json_in (compact_text d ++ 10 ∷ []) ≡ Some d
read_again d h shallow =
    let ts = tree.json_tokens (outline d) in
    let same = ap (λ t. tokens (t ++ 10 ∷ [])) (sym (print-outline d)) ∙ tokens_of_line ts (ArePrintable-json_tokens (outline d) (value_numbers d h)) in
    let whole = ap (json.value max_depth) (same ∙ sym (append-nil ts)) ∙ value-json_tokens (outline d) max_depth [] (omega (arith, value_deep d)) in
    json_found _ d (IsUtf8-append _ _ (value_utf8 d h) (IsUtf8-are_ascii (10 ∷ []) refl))
    (ap (λ o. option_and_then of_json (option_and_then (λ p. json.if_last p.0 p.1) o)) whole ∙ value_again d h)
