-- The order in which files are made has each part as often as it was given.
use Rattle.std.proofs.Common.{◌≡◌, ◌<◌, ◌++◌, ℕ, List, [], ◌∷◌, length, get_or, sym, subst}
use Rattle.std.specs.List.{insert, remove}
use Rattle.std.specs.List.Sorted.{IsPermutation}
use Rattle.std.proofs.lemmas.List.Sorted.{IsPermutation-trans, IsPermutation-remove, IsPermutation-insert}

-- an element that is taken out and put in elsewhere
pub moved_permutes : {X : Type 0} (xs rest ys : List X) (i j : ℕ) (x : X) → i < length xs → x ≡ get_or xs i x → rest ≡ remove xs i → ys ≡ insert rest j x → IsPermutation xs ys
moved_permutes xs rest ys i j x inside at taken put =
    let out : IsPermutation xs (x ∷ rest) = subst (λ r. IsPermutation xs (x ∷ r)) (sym taken) (IsPermutation-remove xs i x inside at) in
    let back : IsPermutation (x ∷ rest) ys = subst (λ z. IsPermutation (x ∷ rest) z) (sym put) (IsPermutation-insert rest j x) in
    IsPermutation-trans xs (x ∷ rest) ys out back

-- a list that was filled, turned round, and put into an order
pub order_permutes : {X : Type 0} (empty filled parts turned order : List X) → empty ≡ [] → filled ≡ empty ++ parts → IsPermutation filled turned → IsPermutation turned order → IsPermutation parts order
order_permutes empty filled parts turned order none added turn moved =
    let whole : filled ≡ parts = subst (λ e. filled ≡ e ++ parts) none added in
    IsPermutation-trans parts turned order (subst (λ l. IsPermutation l turned) whole turn) moved
