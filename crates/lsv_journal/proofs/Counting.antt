-- How many entries a file has, by its gates.
use Rattle.std.proofs.Common.{zero-add, ◌≡◌, ◌≢◌, ◌⊎◌, inl, inr, ℕ, zero, suc, ◌+◌, ◌<◌, ◌≤◌, ◌==◌, true, false, List, length, take, drop, get_or, nat_lt, Some, None, refl, sym, ◌∙◌, ap, subst, arith}
use Rattle.std.specs.List.{range_with_len, prefix_len}
use Rattle.std.proofs.lemmas.List.{get_or-take, get_or-drop, length-take, length-drop, take-take, drop-take}
use Rattle.std.proofs.lemmas.List.Sums.{prefix_len-le-length, prefix_len_is, prefix_len_passes, prefix_len_stops}
use Rattle.std.proofs.lemmas.List.FromFn.{length-range_with_len, get_or-range_with_len}
use Rattle.std.proofs.lemmas.Bool.{and_parts, and_from, eqb-true, ltb-true, eq-eqb, ne_eqb, lt-ltb, le-ltb, cases_lt, both_ways, and_left, and_right}
use Rattle.std.proofs.Math.Nat.{mul-le-mul_right}
use Rattle.lsv_defs.specs.Pieces.{piece}
use Rattle.lsv_journal.specs.Gates.{place, gate, is_whole, count, last_of}

-- an earlier entry ends before a later one begins
pub place_le : (n i m : ℕ) → i ≤ m → place n i ≤ place n m
place_le n i m le = mul-le-mul_right (n + 1) le

pub place_next : (n i : ℕ) → place n (i + 1) ≡ place n i + (n + 1)
place_next n i = omega arith

pub place_before : (n i m : ℕ) → i < m → place n i + (n + 1) ≤ place n m
place_before n i m lt = let le = place_le n (i + 1) m (omega arith) in omega (arith, le, place_next n i)

-- each entry takes a byte at least
pub entry_le_place : (n i : ℕ) → i ≤ place n i
entry_le_place n i = omega arith

pub gate_of_whole : (n : ℕ) (bytes : List ℕ) (i : ℕ) → is_whole n bytes i ≡ true → gate n bytes i ≡ 1
gate_of_whole n bytes i whole = eqb-true (gate n bytes i) 1 ((and_parts (gate n bytes i == 1) (nat_lt (place n (i + 1)) (length bytes)) whole).0)

pub end_of_whole : (n : ℕ) (bytes : List ℕ) (i : ℕ) → is_whole n bytes i ≡ true → place n (i + 1) < length bytes
end_of_whole n bytes i whole = ltb-true (place n (i + 1)) (length bytes) ((and_parts (gate n bytes i == 1) (nat_lt (place n (i + 1)) (length bytes)) whole).1)

pub is_whole_by : (n : ℕ) (bytes : List ℕ) (i : ℕ) → gate n bytes i ≡ 1 → place n (i + 1) < length bytes → is_whole n bytes i ≡ true
is_whole_by n bytes i open_gate end = and_from (gate n bytes i == 1) (nat_lt (place n (i + 1)) (length bytes)) (eq-eqb (gate n bytes i) 1 open_gate) (lt-ltb (place n (i + 1)) (length bytes) end)

pub not_whole_closed : (n : ℕ) (bytes : List ℕ) (i : ℕ) → gate n bytes i ≢ 1 → is_whole n bytes i ≡ false
not_whole_closed n bytes i closed = and_left (gate n bytes i == 1) (nat_lt (place n (i + 1)) (length bytes)) (ne_eqb (gate n bytes i) 1 closed)

pub not_whole_short : (n : ℕ) (bytes : List ℕ) (i : ℕ) → length bytes ≤ place n (i + 1) → is_whole n bytes i ≡ false
not_whole_short n bytes i short = and_right (gate n bytes i == 1) (nat_lt (place n (i + 1)) (length bytes)) (le-ltb (place n (i + 1)) (length bytes) short)

-- the numbers from 0 on
number : (k i : ℕ) → i < k → get_or (range_with_len 0 k) i 0 ≡ i
number k i lt = get_or-range_with_len 0 k i 0 lt ∙ zero-add i

-- the entries before the count are whole, and the one at it isn't
pub count_passes : (n : ℕ) (bytes : List ℕ) (i : ℕ) → i < count n bytes → is_whole n bytes i ≡ true
unfolding count
count_passes n bytes i lt =
    let numbers = range_with_len 0 (length bytes) in
    let within : i < length bytes = omega (arith, prefix_len-le-length (is_whole n bytes) numbers, length-range_with_len 0 (length bytes)) in
    ap (is_whole n bytes) (sym (number (length bytes) i within)) ∙ prefix_len_passes (is_whole n bytes) numbers i 0 lt

pub count_stops : (n : ℕ) (bytes : List ℕ) → is_whole n bytes (count n bytes) ≡ false
unfolding count
count_stops n bytes =
    let numbers = range_with_len 0 (length bytes) in
    let m : ℕ = prefix_len (is_whole n bytes) numbers in
    let long = length-range_with_len 0 (length bytes) in
    elim (cases_lt m (length bytes)) [
      | inl within ↦ ap (is_whole n bytes) (sym (number (length bytes) m within)) ∙ prefix_len_stops (is_whole n bytes) numbers 0 (omega (arith, long, within))
      | inr past ↦ not_whole_short n bytes m (omega (arith, past, entry_le_place n (m + 1)))
    ]

-- and that fixes it
pub count_is : (n : ℕ) (bytes : List ℕ) (m : ℕ) → ((i : ℕ) → i < m → is_whole n bytes i ≡ true) → is_whole n bytes m ≡ false → count n bytes ≡ m
unfolding count
count_is n bytes zero whole stops =
    prefix_len_is (is_whole n bytes) (range_with_len 0 (length bytes)) 0 0 (omega arith) (λ k lt. absurd (let no : ⊥ = omega (arith, lt) in no))
    (λ within. ap (is_whole n bytes) (number (length bytes) 0 (omega (arith, within, length-range_with_len 0 (length bytes)))) ∙ stops)
count_is n bytes (suc before) whole stops =
    let long = length-range_with_len 0 (length bytes) in
    let end = end_of_whole n bytes before (whole before (omega arith)) in
    let within : suc before ≤ length bytes = omega (arith, end, entry_le_place n (before + 1)) in
    prefix_len_is (is_whole n bytes) (range_with_len 0 (length bytes)) (suc before) 0 (omega (arith, long, within))
    (λ k lt. ap (is_whole n bytes) (number (length bytes) k (omega (arith, lt, within))) ∙ whole k lt)
    (λ lt. ap (is_whole n bytes) (number (length bytes) (suc before) (omega (arith, lt, long))) ∙ stops)

-- where all these are whole, they are among those that count
pub count_at_least : (n : ℕ) (bytes : List ℕ) (m : ℕ) → ((i : ℕ) → i < m → is_whole n bytes i ≡ true) → m ≤ count n bytes
count_at_least n bytes m whole = elim (cases_lt (count n bytes) m) [
  | inl less ↦ absurd (both_ways (is_whole n bytes (count n bytes)) (count_stops n bytes) (whole (count n bytes) less))
  | inr enough ↦ enough
]

-- the entries lie within the file
pub count_within : (n : ℕ) (bytes : List ℕ) → place n (count n bytes) ≤ length bytes
count_within n bytes = within (count n bytes) (λ i lt. count_passes n bytes i lt) where
  within : (m : ℕ) → ((i : ℕ) → i < m → is_whole n bytes i ≡ true) → place n m ≤ length bytes
  within zero whole = omega arith
  within (suc before) whole = let end = end_of_whole n bytes before (whole before (omega arith)) in omega (arith, end)

-- a file too short for a body and two gates has no entry
pub count_short : (n : ℕ) (bytes : List ℕ) → length bytes ≤ n + 1 → count n bytes ≡ 0
count_short n bytes short = count_is n bytes 0 (λ i lt. absurd (let no : ⊥ = omega (arith, lt) in no)) (not_whole_short n bytes 0 (omega (arith, short)))

-- no entry counts where the first gate isn't open
pub count_closed : (n : ℕ) (bytes : List ℕ) → gate n bytes 0 ≢ 1 → count n bytes ≡ 0
count_closed n bytes closed = count_is n bytes 0 (λ i lt. absurd (let no : ⊥ = omega (arith, lt) in no)) (not_whole_closed n bytes 0 closed)

-- a file without an entry has its first gate closed, or lacks bytes that an entry needs
pub short_or_closed : (n : ℕ) (bytes : List ℕ) → count n bytes ≡ 0 → gate n bytes 0 ≡ 1 → length bytes ≤ n + 1
short_or_closed n bytes none open_gate = elim (cases_lt (n + 1) (length bytes)) [
  | inl long ↦ absurd (both_ways (is_whole n bytes 0) (subst (λ (m : ℕ). is_whole n bytes m ≡ false) none (count_stops n bytes)) (is_whole_by n bytes 0 open_gate (omega (arith, long))))
  | inr short ↦ short
]

-- what the first bytes agree on
pub same_at : (p : ℕ) (old new : List ℕ) → take p new ≡ take p old → (k : ℕ) → k < p → get_or new k 0 ≡ get_or old k 0
same_at p old new front k lt = sym (get_or-take p new k 0 lt) ∙ ap (λ (bytes : List ℕ). get_or bytes k 0) front ∙ get_or-take p old k 0 lt

-- entries that lie within bytes that are the same are whole again
pub whole_again : (n m : ℕ) (old new : List ℕ) → ((i : ℕ) → i < m → is_whole n old i ≡ true) → take (place n m) new ≡ take (place n m) old → place n m < length new → (i : ℕ) → i < m → is_whole n new i ≡ true
whole_again n m old new whole front end i lt =
    let before = place_before n i m lt in
    is_whole_by n new i
    (same_at (place n m) old new front (place n i) (omega (arith, before)) ∙ gate_of_whole n old i (whole i lt))
    (omega (arith, before, place_next n i, end))

-- a part of what is the same
pub piece_again : (p at n : ℕ) (old new : List ℕ) → take p new ≡ take p old → at + n ≤ p → piece new at n ≡ piece old at n
piece_again p at n old new front le =
    sym (drop-take at n new) ∙ ap (drop at) (sym (take-take (at + n) p new le) ∙ ap (take (at + n)) front ∙ take-take (at + n) p old le) ∙ drop-take at n old

-- and the last of them has the same body
pub last_again : (n m : ℕ) (old new : List ℕ) → take (place n m) new ≡ take (place n m) old → last_of n new m ≡ last_of n old m
last_again n zero old new front = refl
last_again n (suc before) old new front =
    let le = place_before n before (suc before) (omega arith) in
    ap (λ (b : List ℕ). Some b) (piece_again (place n (suc before)) (place n before + 1) n old new front (omega (arith, le)))

-- the entries of a file from the end of its first ones on
pub gate_dropped : (n k i : ℕ) (bytes : List ℕ) → gate n (drop (place n k) bytes) i ≡ gate n bytes (k + i)
gate_dropped n k i bytes =
    let e : place n k + place n i ≡ place n (k + i) = omega arith in
    get_or-drop (place n k) bytes (place n i) 0 ∙ ap (λ (at : ℕ). get_or bytes at 0) e

pub whole_dropped : (n k i : ℕ) (bytes : List ℕ) → is_whole n bytes (k + i) ≡ true → is_whole n (drop (place n k) bytes) i ≡ true
whole_dropped n k i bytes whole =
    let end = end_of_whole n bytes (k + i) whole in
    let e : place n k + place n (i + 1) ≡ place n (k + i + 1) = omega arith in
    is_whole_by n (drop (place n k) bytes) i (gate_dropped n k i bytes ∙ gate_of_whole n bytes (k + i) whole) (omega (arith, end, e, length-drop (place n k) bytes))

pub whole_before : (n k i : ℕ) (bytes : List ℕ) → is_whole n (drop (place n k) bytes) i ≡ true → is_whole n bytes (k + i) ≡ true
whole_before n k i bytes whole =
    let end = end_of_whole n (drop (place n k) bytes) i whole in
    let e : place n k + place n (i + 1) ≡ place n (k + i + 1) = omega arith in
    is_whole_by n bytes (k + i) (sym (gate_dropped n k i bytes) ∙ gate_of_whole n (drop (place n k) bytes) i whole) (omega (arith, end, e, length-drop (place n k) bytes))

-- entries that are whole in a part of a file
pub whole_of_part : (n r i : ℕ) (bytes : List ℕ) → is_whole n (take r bytes) i ≡ true → is_whole n bytes i ≡ true
whole_of_part n r i bytes whole =
    let end = end_of_whole n (take r bytes) i whole in
    let long = length-take r bytes in
    is_whole_by n bytes i
    (sym (get_or-take r bytes (place n i) 0 (omega (arith, end, long, place_next n i))) ∙ gate_of_whole n (take r bytes) i whole)
    (omega (arith, end, long))

-- a part that holds a body and two gates, or all that is left, has an entry where the whole has one
pub first_in_part : (n r : ℕ) (bytes : List ℕ) → n + 1 < r ⊎ length bytes ≤ r → is_whole n bytes 0 ≡ true → is_whole n (take r bytes) 0 ≡ true
first_in_part n r bytes enough whole =
    let end = end_of_whole n bytes 0 whole in
    let long = length-take r bytes in
    let one : place n (0 + 1) ≡ n + 1 = omega arith in
    let room : n + 1 < r = elim enough [ inl wide ↦ wide | inr all ↦ omega (arith, end, all, one) ] in
    is_whole_by n (take r bytes) 0 (get_or-take r bytes (place n 0) 0 (omega (arith, room)) ∙ gate_of_whole n bytes 0 whole) (omega (arith, end, long, room, one))

-- after an entry there is a gate
pub gate_behind : (n : ℕ) (bytes : List ℕ) → last_of n bytes (count n bytes) ≢ None → place n (count n bytes) < length bytes
gate_behind n bytes some = behind (count n bytes) some (λ i lt. count_passes n bytes i lt) where
  behind : (m : ℕ) → last_of n bytes m ≢ None → ((i : ℕ) → i < m → is_whole n bytes i ≡ true) → place n m < length bytes
  behind zero none whole = absurd (none refl)
  behind (suc before) there whole = let end = end_of_whole n bytes before (whole before (omega arith)) in omega (arith, end)
