-- What is read of JSON, a step at a time.
use Rattle.std.proofs.Common.{◌≡◌, ℕ, List, [], ◌∷◌, ◌++◌, Bool, true, false, IsUtf8, Option, Some, None, Result, Ok, Err, refl, sym, ap, ◌∙◌, append_assoc, cond}
use Rattle.std.specs.Str.{is_utf8}
use Rattle.std.proofs.lemmas.Str.{IsUtf8-from_is_utf8, is_utf8-from_IsUtf8}
use Rattle.serde_json.specs.Data.{Data, Members, member}
use Rattle.serde_json.specs.Read.{read}
use Rattle.lsv_info.specs.declared.fault.InfoFault.{InfoFault}
use Rattle.lsv_info.specs.declared.info.Entry.{Entry}
use Rattle.lsv_info.specs.declared.info.Value.{Value}
use Rattle.lsv_info.specs.Reading.{json_in, value_in, needed, and_then, entries_in}

pub json_found : (bytes : List ℕ) (json : Data) → IsUtf8 bytes → read bytes ≡ Some json → json_in bytes ≡ Some json
json_found bytes json utf8 is = rw (is_utf8-from_IsUtf8 bytes utf8) is

refused_at : (bytes : List ℕ) (b : Bool) → is_utf8 bytes ≡ b → (IsUtf8 bytes → read bytes ≡ None) → cond b (read bytes) None ≡ None
refused_at bytes true utf8 none = none (IsUtf8-from_is_utf8 bytes utf8)
refused_at bytes false utf8 none = refl

pub json_refused : (bytes : List ℕ) → (IsUtf8 bytes → read bytes ≡ None) → json_in bytes ≡ None
json_refused bytes none = refused_at bytes (is_utf8 bytes) refl none

found : {A : Type 0} (key : List ℕ) (o : Option A) (a : A) → needed key o ≡ Ok a → o ≡ Some a
found key (Some b) a is = cc
found key None a is = absurd (cc)

behind : (entry : Entry) (done : List Entry) (left : Result (List Entry) InfoFault)
    → and_then (and_then left (λ entries. Ok (entry ∷ entries))) (λ more. Ok (done ++ more)) ≡ and_then left (λ more. Ok ((done ++ entry ∷ []) ++ more))
behind entry done (Ok entries) = ap Ok (sym (append_assoc done (entry ∷ []) entries))
behind entry done (Err fault) = refl

-- one entry more was read
pub entry_read : (all : Result (List Entry) InfoFault) (done : List Entry) (key name : List ℕ) (json : Data) (value : Value) (o : Option Value) (left : Members)
    → all ≡ and_then (entries_in (member key json left)) (λ more. Ok (done ++ more)) → needed name o ≡ Ok value → o ≡ value_in json
    → all ≡ and_then (entries_in left) (λ more. Ok ((done ++ record { key = key; value = value } ∷ []) ++ more))
entry_read all done key name json value o left before is read =
    let here : value_in json ≡ Some value = sym read ∙ found name o value is in
    before ∙ rw here (behind (record { key = key; value = value }) done (entries_in left))
