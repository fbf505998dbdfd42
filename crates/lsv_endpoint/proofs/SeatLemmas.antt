-- Which connection a link is: the last one that has it.
use Rattle.std.proofs.Common.{◌≡◌, ◌≢◌, ℕ, zero, suc, ◌<◌, ◌≤◌, ◌==◌, Bool, true, false, Option, Some, None, refl, sym, ap, subst, ◌∙◌, ⊎_elim, arith}
use Rattle.std.proofs.lemmas.Bool.{cases_eq}
use Rattle.std.proofs.lemmas.Bool.Decides.{nat_tests}

-- this one, where it is, or else what was found below it
abbrev pub pick : Bool → ℕ → Option ℕ → Option ℕ
pick true k below = Some k
pick false k below = below

-- the greatest number from 1 on and below this one whose link is l
abbrev pub seat_below : (number : ℕ → ℕ) (l : ℕ) → ℕ → Option ℕ
seat_below number l zero = None
seat_below number l (suc zero) = None
seat_below number l (suc (suc k)) = pick (number (suc k) == l) (suc k) (seat_below number l (suc k))

-- what such a search finds
pub data SeatOf (number : ℕ → ℕ) (l n : ℕ) : Option ℕ → Type 0 where
  taken : (k : ℕ) → 1 ≤ k → k < n → number k ≡ l → SeatOf number l n (Some k)
  free : ((k : ℕ) → 1 ≤ k → k < n → number k ≢ l) → SeatOf number l n None

tested : (a b : ℕ) → (a == b) ≡ true → a ≡ b
tested a b t = grind (arith, nat_tests)

differs : (a b : ℕ) → (a == b) ≡ false → a ≢ b
differs a b t = grind (arith, nat_tests)

none_more : (number : ℕ → ℕ) (l k : ℕ) → number (suc k) ≢ l → ((j : ℕ) → 1 ≤ j → j < suc k → number j ≢ l) → (j : ℕ) → 1 ≤ j → j < suc (suc k) → number j ≢ l
none_more number l k ne none j first below e =
    ⊎_elim (λ is. ne (subst (λ (i : ℕ). number i ≡ l) is e)) (λ not. none j first (omega arith) e) (cases_eq j (suc k))

picked : (number : ℕ → ℕ) (l k : ℕ) (b : Bool) → (number (suc k) == l) ≡ b → {o : Option ℕ} → SeatOf number l (suc k) o → SeatOf number l (suc (suc k)) (pick b (suc k) o)
picked number l k true t s = taken (suc k) (omega arith) (omega arith) (tested (number (suc k)) l t)
picked number l k false t (taken j first below is) = taken j first (omega arith) is
picked number l k false t (free none) = free (none_more number l k (differs (number (suc k)) l t) none)

pub seat_of : (number : ℕ → ℕ) (l n : ℕ) → SeatOf number l n (seat_below number l n)
seat_of number l zero = free (λ k first below e. omega arith)
seat_of number l (suc zero) = free (λ k first below e. omega arith)
seat_of number l (suc (suc k)) = picked number l k (number (suc k) == l) refl (seat_of number l (suc k))

-- different connections have different links
abbrev pub AreApart : (number : ℕ → ℕ) → ℕ → Type 0
AreApart number n = (i j : ℕ) → 1 ≤ i → i < n → 1 ≤ j → j < n → i ≢ j → number i ≢ number j

same_seat : (number : ℕ → ℕ) (n k : ℕ) → AreApart number n → 1 ≤ k → k < n → {o : Option ℕ} → SeatOf number (number k) n o → o ≡ Some k
same_seat number n k apart first below (taken j low high is) = ⊎_elim (λ e. ap (λ (i : ℕ). Some i) e) (λ ne. absurd (apart j k low high first below ne is)) (cases_eq j k)
same_seat number n k apart first below (free none) = absurd (none k first below refl)

-- a connection's link is that connection
pub seat_is : (number : ℕ → ℕ) (n k : ℕ) → AreApart number n → 1 ≤ k → k < n → seat_below number (number k) n ≡ Some k
seat_is number n k apart first below = same_seat number n k apart first below (seat_of number (number k) n)

-- a connection that was found is one, and has this link
pub record IsSeat (number : ℕ → ℕ) (l n k : ℕ) : Type 0 where
  pub first : 1 ≤ k
  pub below : k < n
  pub is : number k ≡ l

seat_at : (number : ℕ → ℕ) (l n k : ℕ) {o : Option ℕ} → SeatOf number l n o → o ≡ Some k → IsSeat number l n k
seat_at number l n k (taken j low high is) e = let same : j ≡ k = cc in subst (IsSeat number l n) same (record { first = low; below = high; is = is })
seat_at number l n k (free none) e = absurd (cc)

pub seat_found : (number : ℕ → ℕ) (l n k : ℕ) → seat_below number l n ≡ Some k → IsSeat number l n k
seat_found number l n k e = seat_at number l n k (seat_of number l n) e

-- different links are different connections
pub seats_apart : (number : ℕ → ℕ) (n l m k : ℕ) → seat_below number l n ≡ Some k → seat_below number m n ≡ Some k → l ≡ m
seats_apart number n l m k e f = sym (seat_found number l n k e).is ∙ (seat_found number m n k f).is

none_if : (number : ℕ → ℕ) (l n : ℕ) {o : Option ℕ} → SeatOf number l n o → ((k : ℕ) → 1 ≤ k → k < n → number k ≡ l → ⊥) → o ≡ None
none_if number l n (taken k first below is) never = absurd (never k first below is)
none_if number l n (free none) never = refl

-- a link that no connection has is none
pub seat_none : (number : ℕ → ℕ) (l n : ℕ) → ((k : ℕ) → 1 ≤ k → k < n → number k ≡ l → ⊥) → seat_below number l n ≡ None
seat_none number l n never = none_if number l n (seat_of number l n) never
