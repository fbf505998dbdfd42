-- The entry of a file of slots, by its bytes.
use Rattle.std.proofs.Common.{◌≡◌, ◌≢◌, ◌⊎◌, inl, inr, ℕ, ◌+◌, ◌<◌, ◌≤◌, ◌==◌, nat_le, Bool, true, false, List, length, get_or, Option, Some, None, if◌then◌else◌, sym, ◌∙◌, ap, arith}
use Rattle.std.proofs.lemmas.Bool.{and_parts, and_from, and_left, and_right, eqb-true, eq-eqb, ne_eqb, leb-true, le-leb, lt-leb, cases_lt, cases_eq}
use Rattle.lsv_defs.specs.Pieces.{piece}
use Rattle.lsv_journal.specs.Slots.{selected, has_entry, entry_of}

-- the slot that the selector chooses
pub selected_second : (n : ℕ) (bytes : List ℕ) → get_or bytes 1 0 ≡ 1 → selected n bytes ≡ n + 2
selected_second n bytes is = ap (λ (b : Bool). if b then n + 2 else 2) (eq-eqb (get_or bytes 1 0) 1 is)

pub selected_first : (n : ℕ) (bytes : List ℕ) → get_or bytes 1 0 ≢ 1 → selected n bytes ≡ 2
selected_first n bytes other = ap (λ (b : Bool). if b then n + 2 else 2) (ne_eqb (get_or bytes 1 0) 1 other)

pub selected_either : (n : ℕ) (bytes : List ℕ) → (selected n bytes ≡ 2) ⊎ (selected n bytes ≡ n + 2)
selected_either n bytes = elim (cases_eq (get_or bytes 1 0) 1) [ inl second ↦ inr (selected_second n bytes second) | inr other ↦ inl (selected_first n bytes other) ]

pub selected_same : (n : ℕ) (old new : List ℕ) → get_or new 1 0 ≡ get_or old 1 0 → selected n new ≡ selected n old
selected_same n old new same = ap (λ (b : ℕ). if b == 1 then n + 2 else 2) same

-- there is an entry where the gate is open and the slot lies within
pub has_by : (n : ℕ) (bytes : List ℕ) → get_or bytes 0 0 ≡ 1 → selected n bytes + n ≤ length bytes → has_entry n bytes ≡ true
has_by n bytes open_gate room = and_from (get_or bytes 0 0 == 1) (nat_le (selected n bytes + n) (length bytes)) (eq-eqb (get_or bytes 0 0) 1 open_gate) (le-leb (selected n bytes + n) (length bytes) room)

pub gate_of : (n : ℕ) (bytes : List ℕ) → has_entry n bytes ≡ true → get_or bytes 0 0 ≡ 1
gate_of n bytes has = eqb-true (get_or bytes 0 0) 1 ((and_parts (get_or bytes 0 0 == 1) (nat_le (selected n bytes + n) (length bytes)) has).0)

pub room_of : (n : ℕ) (bytes : List ℕ) → has_entry n bytes ≡ true → selected n bytes + n ≤ length bytes
room_of n bytes has = leb-true (selected n bytes + n) (length bytes) ((and_parts (get_or bytes 0 0 == 1) (nat_le (selected n bytes + n) (length bytes)) has).1)

-- what is said of the entry by a test of whether there is one
abbrev by_test : ℕ → List ℕ → Bool → Option (List ℕ)
by_test n bytes there = if there then Some (piece bytes (selected n bytes) n) else None

pub entry_by : (n : ℕ) (bytes : List ℕ) → has_entry n bytes ≡ true → entry_of n bytes ≡ Some (piece bytes (selected n bytes) n)
entry_by n bytes has = ap (by_test n bytes) has

pub none_by : (n : ℕ) (bytes : List ℕ) → has_entry n bytes ≡ false → entry_of n bytes ≡ None
none_by n bytes lacks = ap (by_test n bytes) lacks

pub closed_none : (n : ℕ) (bytes : List ℕ) → get_or bytes 0 0 ≢ 1 → entry_of n bytes ≡ None
closed_none n bytes closed = none_by n bytes (and_left (get_or bytes 0 0 == 1) (nat_le (selected n bytes + n) (length bytes)) (ne_eqb (get_or bytes 0 0) 1 closed))

pub short_none : (n : ℕ) (bytes : List ℕ) → length bytes < selected n bytes + n → entry_of n bytes ≡ None
short_none n bytes short = none_by n bytes (and_right (get_or bytes 0 0 == 1) (nat_le (selected n bytes + n) (length bytes)) (lt-leb (selected n bytes + n) (length bytes) short))

-- a file with no entry whose gate is open ends before the end of the selected slot
pub short_or_closed : (n : ℕ) (bytes : List ℕ) → entry_of n bytes ≡ None → get_or bytes 0 0 ≡ 1 → length bytes < selected n bytes + n
short_or_closed n bytes none open_gate = elim (cases_lt (length bytes) (selected n bytes + n)) [
  | inl short ↦ short
  | inr room ↦ absurd (let there : None ≡ Some (piece bytes (selected n bytes) n) = sym none ∙ entry_by n bytes (has_by n bytes open_gate room) in let no : ⊥ = cc in no)
]

-- it has no byte, or ends at the first slot at most
pub empty_none : (n : ℕ) (bytes : List ℕ) → length bytes ≤ 1 → entry_of n bytes ≡ None
empty_none n bytes short = elim (selected_either n bytes) [
  | inl first ↦ short_none n bytes (omega (arith, first, short))
  | inr second ↦ short_none n bytes (omega (arith, second, short))
]
