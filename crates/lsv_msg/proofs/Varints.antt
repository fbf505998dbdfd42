-- The numbers of a packed list, one at a time: more fuel than there are bytes is enough.
use Rattle.std.proofs.Common.{◌≡◌, ℕ, ℤ, zero, suc, ◌+◌, ◌-◌, ◌%◌, ◌^◌, ◌<◌, ◌≤◌, Bool, true, false, cond, ltb, leb, List, [], ◌∷◌, ◌++◌, length, take, drop, Result, Ok, Err, refl, sym, ap, ◌∙◌, append_assoc, arith, subst}
use Rattle.std.specs.Int.{w64, cast_signed}
use Rattle.std.proofs.lemmas.Bool.{le-leb, lt-leb}
use Rattle.std.proofs.lemmas.List.{append-nil}
use Rattle.lsv_wire.specs.Varint.{continued, grouped}
use Rattle.lsv_wire.specs.Fields.{varint_at}
use Rattle.lsv_wire.specs.declared.field.WireFault.{WireFault}
use Rattle.lsv_wire.specs.declared.field.WireFault.TheVariants.{Truncated, LongVarint}
use Rattle.lsv_msg.specs.declared.fault.MsgFault.{MsgFault}
use Rattle.lsv_msg.specs.declared.fault.MsgFault.TheVariants.{Wire}
use Rattle.lsv_msg.specs.Format.{◌>>=◌, of_wire, extended, packed_within, packed_from}

-- a test that did not fail
guarded : {A : Type 0} (b : Bool) (d : WireFault) (r : Result A WireFault) (y : A) → cond b (Err d) r ≡ Ok y → r ≡ Ok y
guarded true d r y e = absurd cc
guarded false d r y e = e

abbrev done : ℕ × ℕ → Result (ℕ × ℕ) WireFault
done n = Ok n

ok_is : (m n : ℕ × ℕ) → done m ≡ done n → m ≡ n
ok_is m n e = cc

varint_at-ahead : (bytes : List ℕ) (key at : ℕ) (n : ℕ × ℕ) → varint_at bytes key at ≡ Ok n → at < n.1
unfolding varint_at
varint_at-ahead bytes key at n e =
    let c : ℕ = continued (drop at bytes) in
    let found : ℕ × ℕ = (grouped (take (c + 1) (drop at bytes)) % 2 ^ 64, at + (c + 1)) in
    let first = guarded (ltb 9 c) (LongVarint key) (cond (leb (length (drop at bytes)) c) (Err (Truncated key)) (Ok found)) n e in
    let second = guarded (leb (length (drop at bytes)) c) (Truncated key) (Ok found) n first in
    subst (λ (m : ℕ × ℕ). at < m.1) (ok_is found n second) (omega arith)

-- the number of a varint, and those that follow it
abbrev pub after_one : (ℕ → Result (List ℤ) MsgFault) → Result (ℕ × ℕ) WireFault → Result (List ℤ) MsgFault
after_one others r = of_wire r >>= λ n. others n.1 >>= λ ns. Ok (cast_signed w64 n.0 ∷ ns)

agree : (bytes : List ℕ) (key at : ℕ) (f g : ℕ → Result (List ℤ) MsgFault) (r : Result (ℕ × ℕ) WireFault) → varint_at bytes key at ≡ r
    → ((next : ℕ) → at < next → f next ≡ g next) → after_one f r ≡ after_one g r
agree bytes key at f g (Err d) e same = refl
agree bytes key at f g (Ok n) e same = ap (λ (r : Result (List ℤ) MsgFault). r >>= λ ns. Ok (cast_signed w64 n.0 ∷ ns)) (same n.1 (varint_at-ahead bytes key at n e))

chosen_alike : {A : Type 0} (b : Bool) (x y z : A) → y ≡ z → cond b x y ≡ cond b x z
chosen_alike true x y z e = refl
chosen_alike false x y z e = e

at_end : (more : ℕ) (bytes : List ℕ) (key at : ℕ) → length bytes ≤ at → packed_within more bytes key at ≡ Ok []
at_end zero bytes key at le = refl
at_end (suc more) bytes key at le = rw (le-leb (length bytes) at le) refl

enough : (m n : ℕ) (bytes : List ℕ) (key at : ℕ) → length bytes - at ≤ m → length bytes - at ≤ n → packed_within m bytes key at ≡ packed_within n bytes key at
enough zero n bytes key at le le' = sym (at_end n bytes key at (omega arith))
enough (suc m) zero bytes key at le le' = at_end (suc m) bytes key at (omega arith)
enough (suc m) (suc n) bytes key at le le' =
    chosen_alike (leb (length bytes) at) (Ok []) (after_one (packed_within m bytes key) (varint_at bytes key at)) (after_one (packed_within n bytes key) (varint_at bytes key at))
    (agree bytes key at (packed_within m bytes key) (packed_within n bytes key) (varint_at bytes key at) refl (λ next ahead. enough m n bytes key next (omega arith) (omega arith)))

pub packed_from-end : (bytes : List ℕ) (key at : ℕ) → length bytes ≤ at → packed_from bytes key at ≡ Ok []
unfolding packed_from
packed_from-end bytes key at le = at_end (length bytes) bytes key at le

step_within : (n : ℕ) (bytes : List ℕ) (key at : ℕ) → at < length bytes → length bytes - at ≤ n → packed_within n bytes key at ≡ after_one (packed_within (length bytes) bytes key) (varint_at bytes key at)
step_within zero bytes key at lt le = absurd (omega arith)
step_within (suc n) bytes key at lt le =
    rw (lt-leb (length bytes) at lt)
    (agree bytes key at (packed_within n bytes key) (packed_within (length bytes) bytes key) (varint_at bytes key at) refl (λ next ahead. enough n (length bytes) bytes key next (omega arith) (omega arith)))

pub packed_from-step : (bytes : List ℕ) (key at : ℕ) → at < length bytes → packed_from bytes key at ≡ after_one (packed_from bytes key) (varint_at bytes key at)
unfolding packed_from
packed_from-step bytes key at lt = step_within (length bytes) bytes key at lt (omega arith)

regrouped : (numbers : List ℤ) (n : ℤ) (reading : Result (List ℤ) MsgFault) → extended numbers (reading >>= λ ns. Ok (n ∷ ns)) ≡ extended (numbers ++ n ∷ []) reading
regrouped numbers n (Ok ns) = ap (λ (ms : List ℤ). Ok ms) (sym (append_assoc numbers (n ∷ []) ns))
regrouped numbers n (Err e) = refl

-- the three exits of the loop
pub goes_on : (bytes : List ℕ) (key at bits next : ℕ) (numbers : List ℤ) (all : Result (List ℤ) MsgFault) → at < length bytes → Ok (bits, next) ≡ varint_at bytes key at
    → extended numbers (packed_from bytes key at) ≡ all → extended (numbers ++ cast_signed w64 bits ∷ []) (packed_from bytes key next) ≡ all
goes_on bytes key at bits next numbers all lt e so_far =
    sym (regrouped numbers (cast_signed w64 bits) (packed_from bytes key next))
    ∙ ap (λ (r : Result (ℕ × ℕ) WireFault). extended numbers (after_one (packed_from bytes key) r)) e
    ∙ sym (ap (extended numbers) (packed_from-step bytes key at lt)) ∙ so_far

pub fails : (bytes : List ℕ) (key at : ℕ) (fault : WireFault) (numbers : List ℤ) (all : Result (List ℤ) MsgFault) → at < length bytes → Err fault ≡ varint_at bytes key at
    → extended numbers (packed_from bytes key at) ≡ all → all ≡ Err (Wire fault)
fails bytes key at fault numbers all lt e so_far =
    sym so_far ∙ ap (extended numbers) (packed_from-step bytes key at lt)
    ∙ sym (ap (λ (r : Result (ℕ × ℕ) WireFault). extended numbers (after_one (packed_from bytes key) r)) e)

pub ends : (bytes : List ℕ) (key at : ℕ) (numbers : List ℤ) (all : Result (List ℤ) MsgFault) → length bytes ≤ at
    → extended numbers (packed_from bytes key at) ≡ all → all ≡ Ok numbers
ends bytes key at numbers all le so_far = sym so_far ∙ ap (extended numbers) (packed_from-end bytes key at le) ∙ ap (λ (ms : List ℤ). Ok ms) (append-nil numbers)
