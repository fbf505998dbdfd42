-- A varint that is written byte by byte.
use Rattle.std.proofs.Common.{◌≡◌, ℕ, zero, suc, ◌+◌, ◌-◌, ◌*◌, ◌/◌, ◌%◌, ◌^◌, ◌<◌, ◌≤◌, List, [], ◌∷◌, ◌++◌, length, take, set, refl, sym, ap, subst, ◌∙◌, append_assoc, arith, inl, inr}
use Rattle.std.proofs.lemmas.Bool.{cases_lt, lt-ltb, le-ltb}
use Rattle.std.proofs.lemmas.List.{take_more_set}
use Rattle.std.proofs.Math.Nat.{pow-succ', mul_assoc, mul-le-mul_right, div-mul-le_self}
use Rattle.lsv_wire.specs.Varint.{spelled_within, varint}

-- the bytes so far and the spelling of the rest are what is to be written
pub record IsWriting (old : List ℕ) (at v : ℕ) (bytes : List ℕ) (end rest : ℕ) : Type 0 where
  pub from : at ≤ end
  pub room : end ≤ at + 9
  pub falls : rest * 128 ^ (end - at) ≤ v
  pub spelled : take end bytes ++ spelled_within (at + 9 - end) rest ≡ take at old ++ spelled_within 9 v

pub spelled_within-last : (more n : ℕ) → n < 128 → spelled_within more n ≡ n ∷ []
spelled_within-last zero n lt = refl
spelled_within-last (suc more) n lt = rw (lt-ltb n 128 lt) refl

pub spelled_within-more : (more n : ℕ) → 128 ≤ n → spelled_within (suc more) n ≡ (n % 128 + 128) ∷ spelled_within more (n / 128)
spelled_within-more more n le = rw (le-ltb n 128 le) refl

-- a tenth byte of a number below 2 ^ 64 is the last
not_full : (k v rest : ℕ) → k ≤ 9 → v < 2 ^ 64 → 128 ≤ rest → rest * 128 ^ k ≤ v → k < 9
not_full k v rest le small big falls =
    elim (cases_lt k 9) [
      | inl lt ↦ lt
      | inr past ↦ absurd (let nine : rest * 128 ^ 9 ≤ v = subst (λ (n : ℕ). rest * 128 ^ n ≤ v) (the_ninth k le past) falls in omega arith)
    ]
  where
    the_ninth : (k : ℕ) → k ≤ 9 → 9 ≤ k → k ≡ 9
    the_ninth k a b = omega arith

falls_on : (k v rest : ℕ) → rest * 128 ^ k ≤ v → rest / 128 * 128 ^ suc k ≤ v
falls_on k v rest le =
    let same : rest / 128 * 128 ^ suc k ≡ rest / 128 * 128 * 128 ^ k = ap (λ (n : ℕ). rest / 128 * n) (pow-succ' 128 k) ∙ sym (mul_assoc (rest / 128) 128 (128 ^ k)) in
    let less : rest / 128 * 128 * 128 ^ k ≤ rest * 128 ^ k = mul-le-mul_right (128 ^ k) (div-mul-le_self rest 128) in
    omega arith

pub IsWriting-more : (old : List ℕ) (at v : ℕ) (bytes : List ℕ) (end rest : ℕ) → IsWriting old at v bytes end rest → v < 2 ^ 64 → at + 10 ≤ length bytes → 128 ≤ rest
    → IsWriting old at v (set bytes end (rest % 128 + 128)) (end + 1) (rest / 128)
IsWriting-more old at v bytes end rest so_far small long big =
    let from = so_far.from in
    let room = so_far.room in
    let byte : ℕ = rest % 128 + 128 in
    let k : ℕ = end - at in
    let more : ℕ = at + 9 - (end + 1) in
    let lt : k < 9 = not_full k v rest (omega arith) small big so_far.falls in
    let next : end + 1 - at ≡ suc k = omega arith in
    let fuel : at + 9 - end ≡ suc more = omega arith in
    let put : take (end + 1) (set bytes end byte) ≡ take end bytes ++ byte ∷ [] = take_more_set bytes end byte (omega arith) in
    let step : take end bytes ++ spelled_within (at + 9 - end) rest ≡ take end bytes ++ (byte ∷ spelled_within more (rest / 128)) =
    ap (λ (n : ℕ). take end bytes ++ spelled_within n rest) fuel ∙ ap (λ (t : List ℕ). take end bytes ++ t) (spelled_within-more more rest big) in
    record {
      from = omega arith;
      room = omega arith;
      falls = subst (λ (n : ℕ). rest / 128 * 128 ^ n ≤ v) (sym next) (falls_on k v rest so_far.falls);
      spelled = ap (λ (t : List ℕ). t ++ spelled_within more (rest / 128)) put ∙ append_assoc (take end bytes) (byte ∷ []) (spelled_within more (rest / 128)) ∙ sym step ∙ so_far.spelled;
    }

pub IsWriting-end : (old : List ℕ) (at v : ℕ) (bytes : List ℕ) (end rest : ℕ) → IsWriting old at v bytes end rest → at + 10 ≤ length bytes → rest < 128
    → take (end + 1) (set bytes end rest) ≡ take at old ++ varint v
unfolding varint
IsWriting-end old at v bytes end rest so_far long small =
    let room = so_far.room in
    take_more_set bytes end rest (omega arith) ∙ ap (λ (t : List ℕ). take end bytes ++ t) (sym (spelled_within-last (at + 9 - end) rest small)) ∙ so_far.spelled
