-- The law of a port, for one in memory.
use Rattle.std.specs.Prelude.{◌≡◌, ◌⊎◌, ℕ, ◌==◌, ◌||◌, Bool, true, false, List, [], ◌∷◌, None, refl}
use Rattle.std.specs.List.{Contains}
use Rattle.std.proofs.Common.{inl, inr, sym, ap, ◌∙◌, arith, suc, cond, nat_eq}
use Rattle.std.proofs.lemmas.Bool.Decides.{nat_tests}
use Rattle.lsv_port.specs.Port.{IsOpen}
use Rattle.lsv_port.specs.Memory.Numbers.{has}
use Rattle.lsv_port.specs.Memory.Links.{told_of}
use Rattle.lsv_port.specs.Memory.Value.{PortValue, port_state, link_map}

true_or_false : (b : Bool) → (b ≡ true) ⊎ (b ≡ false)
true_or_false true = inl refl
true_or_false false = inr refl

one_number : (m n : ℕ) → nat_eq m n ≡ true → m ≡ n
one_number m n e = grind (arith, nat_tests)

contains_next : (x m : ℕ) (xs : List ℕ) → Contains xs m → Contains (x ∷ xs) m
contains_next x m xs h = (suc h.0, omega (arith, h.1), h.2)

-- a number that is one of these stands among them
pub has_then : (xs : List ℕ) (m : ℕ) → has xs m ≡ true → Contains xs m
has_then [] m e = absurd cc
has_then (x ∷ xs) m e = elim (true_or_false (x == m)) [
  | inl same ↦ (0, omega arith, one_number x m same)
  | inr other ↦ contains_next x m xs (has_then xs m (sym (ap (λ (b : Bool). b || has xs m) other) ∙ e))
]

-- a link that is open was opened
pub opened_where_open : (p : PortValue) (l : ℕ) → IsOpen (port_state p) l → Contains (port_state p).opened l
opened_where_open p l here = elim (true_or_false (has p.opened l)) [
  | inl is ↦ has_then p.opened l is
  | inr not_one ↦ absurd (let f : false ≡ true = sym (ap (λ (b : Bool). (told_of (cond b (link_map p l) None)).is_open) not_one) ∙ here in cc)
]
