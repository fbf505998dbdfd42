-- The first bad word of what is read, after what was taken.
use Rattle.std.proofs.Common.{◌≡◌, ◌∙◌, ◌⊎◌, inl, inr, ◌+◌, ◌<◌, ◌≤◌, ℕ, zero, suc, List, [], ◌∷◌, ◌++◌, length, drop, get_or, Option, Some, None, option_map, refl, sym, ap, subst, arith}
use Rattle.std.specs.Prelude.{slice_get}
use Rattle.std.proofs.lemmas.Option.{slice_get_cases, slice_get_within, slice_get-get_or}
use Rattle.std.proofs.lemmas.List.{drop_all}
use Rattle.std.proofs.Math.Seq.{drop-cons}
use Rattle.lsv_search.specs.declared.read.Reader.{Reader}
use Rattle.lsv_search.specs.declared.step.Step.{Step}
use Rattle.lsv_search.specs.declared.token.Token.{Token}
use Rattle.lsv_search.specs.Places.{Due, IsUnfinished, Refuses, Takes, FailsAt, token_of}
use Rattle.lsv_search.specs.Reading.{HasRead, FailsFrom}
use Rattle.lsv_search.proofs.Walking.{Walks, walks_fails}

-- after words that were read and are taken
pub fails_behind : (old new : Reader) (words : List (List ℕ)) (more : List Step) (first due : Due) (at : ℕ) → HasRead old new words more → Walks first words due → FailsFrom due new at → FailsFrom first old at
fails_behind old new words more first due at read walks (n, is, bad) =
    let here : FailsAt due (drop new.at old.words.now) n = subst (λ (ws : List (List ℕ)). FailsAt due (drop new.at ws) n) read.same bad in
    let all : FailsAt first (words ++ drop new.at old.words.now) (length words + n) = walks_fails first due words (drop new.at old.words.now) n walks here in
    (length words + n, omega (arith, read.at), subst (λ (ws : List (List ℕ)). FailsAt first ws (length words + n)) (sym read.text) all)

-- the words from a place on begin with the one that stands there
pub drop_at : {A : Type 0} (xs : List A) (i : ℕ) (x : A) → slice_get xs i ≡ Some x → drop i xs ≡ x ∷ drop (suc i) xs
drop_at xs i x is =
    let lt : i < length xs = slice_get_within xs i x is in
    let same : Some x ≡ Some (get_or xs i x) = sym is ∙ slice_get-get_or xs i x lt in
    let there : get_or xs i x ≡ x = cc in
    drop-cons xs i x lt ∙ ap (λ y. y ∷ drop (suc i) xs) there

pub drop_past : {A : Type 0} (xs : List A) (i : ℕ) → slice_get xs i ≡ None → drop i xs ≡ []
drop_past {A} xs i none = go (slice_get_cases xs i).1
  where
    go : ((x : A) × (i < length xs) × (slice_get xs i ≡ Some x) × (get_or xs i x ≡ x)) ⊎ ((length xs ≤ i) × (slice_get xs i ≡ None)) → drop i xs ≡ []
    go (inl (x, lt, is, there)) = absurd (let no : Some x ≡ None = sym is ∙ none in cc)
    go (inr (past, is)) = drop_all i xs past

-- a word that is taken
pub fails_after : (old new : Reader) (word : List ℕ) (due next : Due) (at : ℕ) → slice_get old.words.now old.at ≡ Some word → new.words.now ≡ old.words.now → new.at ≡ old.at + 1 → Takes due word next → FailsFrom next new at → FailsFrom due old at
fails_after old new word due next at there same one takes (n, is, bad) =
    let place : new.at ≡ suc old.at = omega arith in
    let here : FailsAt next (drop (suc old.at) old.words.now) n = subst (λ (ws : List (List ℕ)). FailsAt next (drop (suc old.at) ws) n) same (subst (λ k. FailsAt next (drop k new.words.now) n) place bad) in
    (suc n, omega arith, subst (λ (ws : List (List ℕ)). FailsAt due ws (suc n)) (sym (drop_at old.words.now old.at word there)) (next, takes, here))

-- a word that isn't taken
pub fails_here : (r : Reader) (word : List ℕ) (due : Due) → slice_get r.words.now r.at ≡ Some word → Refuses due word → FailsFrom due r r.at
fails_here r word due there refused = (zero, omega arith, subst (λ (ws : List (List ℕ)). FailsAt due ws zero) (sym (drop_at r.words.now r.at word there)) refused)

-- a word that is missing
pub fails_end : (r : Reader) (due : Due) → slice_get r.words.now r.at ≡ None → IsUnfinished due → FailsFrom due r r.at
fails_end r due none unfinished = (zero, omega arith, subst (λ (ws : List (List ℕ)). FailsAt due ws zero) (sym (drop_past r.words.now r.at none)) unfinished)

-- the word that a token is of
pub token_word : (o : Option (List ℕ)) (t : Token) → option_map token_of o ≡ Some t → (word : List ℕ) × (o ≡ Some word) × (token_of word ≡ t)
token_word None t is = absurd (cc)
token_word (Some word) t is = let same : token_of word ≡ t = cc in (word, refl, same)

-- where there is no token there is no word
pub no_word : (o : Option (List ℕ)) → option_map token_of o ≡ None → o ≡ None
no_word None is = refl
no_word (Some word) is = absurd (cc)
