-- Logs that wait, and connections that left a line.
use Rattle.std.proofs.Common.{◌≡◌, ℕ, List, [], ◌∷◌, refl, ap}
use Rattle.std.specs.Prelude.{◌==◌, Bool, true, false, not, if◌then◌else◌, filter}
use Rattle.lsv_session.specs.declared.connection.ConnId.{ConnId}
use Rattle.lsv_machine.specs.Machine.{same, without, without_conn}

pub without_filters : (n : ℕ) (xs : List ℕ) → filter (λ i. not (n == i)) xs ≡ without n xs
without_filters n [] = refl
without_filters n (i ∷ xs) = go (n == i) (without_filters n xs)
  where
    go : (t : Bool) → filter (λ j. not (n == j)) xs ≡ without n xs
        → (if not t then i ∷ filter (λ j. not (n == j)) xs else filter (λ j. not (n == j)) xs) ≡ (if t then without n xs else i ∷ without n xs)
    go true ih = ih
    go false ih = ap (λ ys. i ∷ ys) ih

pub without_conn_filters : (k : ConnId) (xs : List ConnId) → filter (λ j. not (same j k)) xs ≡ without_conn k xs
without_conn_filters k [] = refl
without_conn_filters k (i ∷ xs) = go (same i k) (without_conn_filters k xs)
  where
    go : (t : Bool) → filter (λ j. not (same j k)) xs ≡ without_conn k xs
        → (if not t then i ∷ filter (λ j. not (same j k)) xs else filter (λ j. not (same j k)) xs) ≡ (if t then without_conn k xs else i ∷ without_conn k xs)
    go true ih = ih
    go false ih = ap (λ ys. i ∷ ys) ih
