-- A link on which something was put got a connection.
use Rattle.std.proofs.Common.{◌≡◌, ◌≢◌, ◌≤◌, ◌+◌, ◌⊎◌, inl, inr, ℕ, suc, Bool, true, false, List, [], ◌∷◌, ◌++◌, length, Option, None, refl, sym, ◌∙◌, ap, subst, arith}
use Rattle.std.specs.Prelude.{◌==◌, ◌||◌, Contains}
use Rattle.std.proofs.lemmas.Bool.Decides.{nat_tests}
use Rattle.std.proofs.lemmas.Bool.{cases_eq}
use Rattle.lsv_port.specs.Memory.Numbers.{has}
use Rattle.lsv_port.specs.Memory.Value.{PortValue, port_state}
use Rattle.lsv_links.specs.Lanes.{one_lane}
use Rattle.lsv_links.specs.Links as links
use Rattle.lsv_turn.specs.Turns.{LaneTurn, jobs_in, replies_in}
use Rattle.lsv_load.specs.Runs.{ServesOne, view_of}

one_number : (m n : ℕ) → (m == n) ≡ true → m ≡ n
one_number m n e = grind (arith, nat_tests)

contains_next : (x m : ℕ) (xs : List ℕ) → Contains xs m → Contains (x ∷ xs) m
contains_next x m xs h = (suc h.0, omega (arith, h.1), h.2)

has_then : (xs : List ℕ) (m : ℕ) → has xs m ≡ true → Contains xs m
has_then [] m e = absurd (cc)
has_then (x ∷ xs) m e = go (x == m) refl (has_then xs m)
  where
    go : (b : Bool) → (x == m) ≡ b → (has xs m ≡ true → Contains xs m) → Contains (x ∷ xs) m
    go true same rest = (0, omega arith, one_number x m same)
    go false other rest = contains_next x m xs (rest (sym (ap (λ (b : Bool). b || has xs m) other) ∙ e))

true_or_not : (b : Bool) → (b ≡ true) ⊎ (b ≡ false)
true_or_not true = inl refl
true_or_not false = inr refl

-- on a link that wasn't opened nothing was put
unopened_output : (port : PortValue) (l : ℕ) → has port.opened l ≡ false → ((port_state port).link l).output ≡ []
unopened_output port l e = rw e refl

-- no link without a connection has something put on it
unseated : (lane_tells : Type 0) (turns : List LaneTurn) (old new : PortValue) (begun : (port_state old).opened ≡ []) (one : ServesOne lane_tells turns (view_of old) (view_of new)) (l : ℕ) → one.served.seats.seat l ≡ None → ((port_state new).link l).output ≡ []
unseated lane_tells turns old new begun one l e = elim (true_or_not (has new.opened l)) [
  | inl here ↦
      let among : (port_state new).opened ≡ one.served.seats.opened = one.served.seats.are ∙ ap (λ (ls : List ℕ). ls ++ one.served.seats.opened) begun in
      let opened : Contains one.served.seats.opened l = subst (λ (ls : List ℕ). Contains ls l) among (has_then new.opened l here) in
      let away : links.IsTurnedAway (port_state new) l =
      subst (λ (o : Option ℕ). links.IsServed (λ lane. lane_tells) 1 0 l o (λ lane. jobs_in (one_lane lane turns)) (λ lane. replies_in (one_lane lane turns)) (view_of old) (view_of new)) e (one.served.served l opened) in
      away.output
  | inr gone ↦ unopened_output new l gone
]

-- each link on which something was put has a connection
pub all_seated : (lane_tells : Type 0) (turns : List LaneTurn) (old new : PortValue) (count : ℕ) (begun : (port_state old).opened ≡ []) (one : ServesOne lane_tells turns (view_of old) (view_of new)) → ((i : ℕ) → 1 ≤ i → i ≤ count → ((port_state new).link i).output ≢ [])
    → (i : ℕ) → 1 ≤ i → i ≤ count → one.served.seats.seat i ≢ None
all_seated lane_tells turns old new count begun one put i first last e = put i first last (unseated lane_tells turns old new begun one i e)

-- ---- The links below one, and that one

pub no_bytes : (n : ℕ) (bytes : List ℕ) → n ≡ length bytes → (n == 0) ≡ false → bytes ≢ []
no_bytes n bytes is e none = let zero_is : n ≡ 0 = is ∙ ap length none in let yes : (n == 0) ≡ true = grind (arith, nat_tests, zero_is) in cc

pub greeted_more : (P : ℕ → Type 0) (n : ℕ) → ((i : ℕ) → 1 ≤ i → i ≤ n → P i) → P (n + 1) → (i : ℕ) → 1 ≤ i → i ≤ n + 1 → P i
greeted_more P n below at i first last = elim (cases_eq i (n + 1)) [ inl e ↦ subst P (sym e) at | inr ne ↦ below i first (omega (arith, last, ne)) ]
