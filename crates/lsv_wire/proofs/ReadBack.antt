-- What is written is read back, whatever follows it.
use Rattle.std.proofs.Common.{◌≡◌, ℕ, zero, suc, ◌+◌, ◌*◌, ◌/◌, ◌%◌, ◌^◌, ◌<◌, ◌≤◌, List, [], ◌∷◌, ◌++◌, length, take, drop, Ok, refl, sym, ap, subst, ◌∙◌, arith, inl, inr}
use Rattle.std.proofs.lemmas.Bool.{cases_lt, lt-ltb, le-ltb}
use Rattle.std.proofs.lemmas.List.{take_at, length-append}
use Rattle.std.proofs.lemmas.Nat.{div_below}
use Rattle.std.proofs.Math.Nat.{mul_comm, pow-succ'}
use Rattle.lsv_wire.specs.Varint.{continued, grouped, spelled_within, varint}
use Rattle.lsv_wire.specs.Fields.{varint_at}
use Rattle.lsv_wire.proofs.Writing.{spelled_within-last, spelled_within-more}
use Rattle.lsv_wire.proofs.Varints.{varint_at-whole}

-- the rest of a number has a byte less to be spelled in
rest_fits : (more n : ℕ) → n < 128 * 128 ^ suc more → n / 128 < 128 * 128 ^ more
rest_fits more n lt =
    let turned : 128 * 128 ^ suc more ≡ 128 * 128 ^ more * 128 = ap (λ (k : ℕ). 128 * k) (pow-succ' 128 more) ∙ mul_comm 128 (128 * 128 ^ more) in
    div_below n 128 (128 * 128 ^ more) (omega arith) (subst (λ (k : ℕ). n < k) turned lt)

-- one spelling of a number, and how many of its bytes say that another follows
pub record Spells (text rest : List ℕ) (n : ℕ) : Type 0 where
  pub stops : continued (text ++ rest) + 1 ≡ length text
  pub stands_for : grouped text ≡ n

Spells-last : (n : ℕ) (rest : List ℕ) → n < 128 → Spells (n ∷ []) rest n
Spells-last n rest lt = record { stops = rw (lt-ltb n 128 lt) (omega arith); stands_for = omega arith }

Spells-more : (n : ℕ) (text rest : List ℕ) → Spells text rest (n / 128) → Spells ((n % 128 + 128) ∷ text) rest n
Spells-more n text rest s =
    let high : 128 ≤ n % 128 + 128 = omega arith in
    record { stops = rw (le-ltb (n % 128 + 128) 128 high) (omega (arith, s.stops)); stands_for = omega (arith, s.stands_for) }

spells : (more n : ℕ) (rest : List ℕ) → n < 128 * 128 ^ more → Spells (spelled_within more n) rest n
spells zero n rest lt = Spells-last n rest (omega arith)
spells (suc more) n rest lt =
    elim (cases_lt n 128) [
      | inl small ↦ subst (λ (t : List ℕ). Spells t rest n) (sym (spelled_within-last (suc more) n small)) (Spells-last n rest small)
      | inr big ↦ subst (λ (t : List ℕ). Spells t rest n) (sym (spelled_within-more more n big)) (Spells-more n (spelled_within more (n / 128)) rest (spells more (n / 128) rest (rest_fits more n lt)))
    ]

length-spelled_within : (more n : ℕ) → length (spelled_within more n) ≤ more + 1
length-spelled_within zero n = omega arith
length-spelled_within (suc more) n =
    elim (cases_lt n 128) [
      | inl small ↦ rw (lt-ltb n 128 small) (omega arith)
      | inr big ↦ rw (le-ltb n 128 big) (omega (arith, length-spelled_within more (n / 128)))
    ]

pub varint_at-varint : (bytes rest : List ℕ) (key at n : ℕ) → n < 2 ^ 64 → drop at bytes ≡ varint n ++ rest → varint_at bytes key at ≡ Ok (n, at + length (varint n))
unfolding varint
varint_at-varint bytes rest key at n small is =
    let text : List ℕ = spelled_within 9 n in
    let s : Spells text rest n = spells 9 n rest (omega arith) in
    let stops : continued (drop at bytes) + 1 ≡ length text = ap (λ (t : List ℕ). continued t + 1) is ∙ s.stops in
    let i : ℕ = continued (drop at bytes) in
    let len : length (drop at bytes) ≡ length text + length rest = ap length is ∙ length-append text rest in
    let short : i < 10 = omega (arith, length-spelled_within 9 n) in
    let there : i < length (drop at bytes) = omega arith in
    let taken : take (suc i) (drop at bytes) ≡ text = ap (take (suc i)) is ∙ take_at text rest (suc i) (omega arith) in
    let value : n ≡ grouped (take (suc i) (drop at bytes)) % 2 ^ 64 = sym (ap (λ (t : List ℕ). grouped t % 2 ^ 64) taken ∙ ap (λ (k : ℕ). k % 2 ^ 64) s.stands_for ∙ whole n small) in
    let place : at + i + 1 ≡ at + length text = omega arith in
    sym (varint_at-whole bytes key at i n short there refl value) ∙ ap (λ (k : ℕ). Ok (n, k)) place
  where
    whole : (n : ℕ) → n < 2 ^ 64 → n % 2 ^ 64 ≡ n
    whole n lt = omega arith
