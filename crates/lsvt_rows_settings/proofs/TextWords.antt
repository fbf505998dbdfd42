-- Words that are text.
use Rattle.std.proofs.Common.{◌≡◌, ◌∙◌, ◌++◌, ◌∷◌, ◌&&◌, ℕ, Bool, true, false, List, [], ap}
use Rattle.std.specs.List.{list_all}
use Rattle.std.specs.Str.{IsUtf8, is_utf8}
use Rattle.std.proofs.lemmas.Str.{is_utf8-from_IsUtf8}

both : (a b c : Bool) → (a && b) ≡ true → (b ≡ true → c ≡ true) → (a && c) ≡ true
both true b c e more = more e
both false b c e more = absurd (cc)

-- one text more
pub texts_push : (words : List (List ℕ)) (word : List ℕ) → list_all is_utf8 words ≡ true → IsUtf8 word → list_all is_utf8 (words ++ word ∷ []) ≡ true
texts_push [] word e u = ap (λ t. t && true) (is_utf8-from_IsUtf8 word u)
texts_push (w ∷ words) word e u = both (is_utf8 w) (list_all is_utf8 words) (list_all is_utf8 (words ++ word ∷ [])) e (λ rest. texts_push words word rest u)
