-- Looking for the only name that begins with a word.
use Rattle.std.proofs.Common.{◌≡◌, ◌∙◌, ◌<◌, ℕ, suc, Bool, true, cond, List, [], ◌∷◌, ◌++◌, ◌≤◌, length, take, drop, get_or, Option, Some, None, is_some, refl, sym, ap}
use Rattle.std.proofs.Math.Seq.{drop-cons}
use Rattle.std.proofs.lemmas.List.{take-append-drop, take_all}
use Rattle.std.proofs.lemmas.List.Elements.{filter-append}
use Rattle.std.specs.Prelude.{filter}
use Rattle.lsv_search.specs.declared.name.Name.{Name}
use Rattle.lsv_search.specs.Names.{only}

-- the names that were found so far
abbrev pub listed : Option Name → List Name
listed None = []
listed (Some name) = name ∷ []

-- two that pass are too many
pub too_many : (p : Name → Bool) (names : List Name) (i : ℕ) (first name : Name) → i < length names → filter p (take i names) ≡ first ∷ [] → p (get_or names i name) ≡ true
    → only (filter p names) ≡ None
too_many p names i first name lt one passes =
    let there : drop i names ≡ get_or names i name ∷ drop (suc i) names = drop-cons names i name lt in
    let behind : filter p (drop i names) ≡ get_or names i name ∷ filter p (drop (suc i) names) =
    ap (filter p) there ∙ ap (λ b. cond b (get_or names i name ∷ filter p (drop (suc i) names)) (filter p (drop (suc i) names))) passes in
    let all : filter p names ≡ (first ∷ []) ++ (get_or names i name ∷ filter p (drop (suc i) names)) =
    ap (filter p) (sym (take-append-drop i names)) ∙ (filter-append p (take i names) (drop i names) ∙ (ap (λ (xs : List Name). xs ++ filter p (drop i names)) one ∙ ap (λ (xs : List Name). (first ∷ []) ++ xs) behind)) in
    ap only all

pub only_listed : (found : Option Name) → only (listed found) ≡ found
only_listed None = refl
only_listed (Some name) = refl

-- a second one that begins with the word
pub refused : (p : Name → Bool) (names : List Name) (i : ℕ) (found : Option Name) (name : Name) → i < length names → is_some found ≡ true → filter p (take i names) ≡ listed found → p (get_or names i name) ≡ true
    → None ≡ only (filter p names)
refused p names i None name lt some so_far passes = absurd (cc)
refused p names i (Some first) name lt some so_far passes = sym (too_many p names i first name lt so_far passes)

pub ended : (p : Name → Bool) (names : List Name) (i : ℕ) (found : Option Name) → length names ≤ i → filter p (take i names) ≡ listed found → found ≡ only (filter p names)
ended p names i found end so_far = sym (ap only (ap (filter p) (sym (take_all i names end)) ∙ so_far) ∙ only_listed found)
