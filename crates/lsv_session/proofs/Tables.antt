-- What a table says, point by point.
use Rattle.std.proofs.Common.{◌≡◌, ℕ, Bool, true, false, ◌==◌, ◌&&◌, cond, nat_eq, not, Option, Some, None, refl, ap, ◌∙◌}
use Rattle.std.specs.Option.{unwrap_or}
use Rattle.std.proofs.lemmas.Cmp.{nat_eq_equiv}
use Rattle.std.proofs.lemmas.Map.Entries.{option_filter}
use Rattle.lsv_session.specs.Connections.{same}
use Rattle.lsv_session.specs.Table.{Sessions, unless}
use Rattle.lsv_session.specs.declared.connection.ConnId.{ConnId}
use Rattle.lsv_session.specs.declared.connection.ConnState.{ConnState}
use Rattle.lsv_session.specs.declared.connection.ConnState.TheVariants.{Fresh}

-- two tables that answer alike say the same
pub same_sessions : (a b : Sessions) → ((c : ConnId) → a.states c ≡ b.states c) → ((n : ℕ) → a.owner n ≡ b.owner n) → a ≡ b
same_sessions a b states owners i = record { states = λ c. states c i; owner = λ n. owners n i }

-- the order of two connections doesn't matter
pub same-flip : (a b : ConnId) → same a b ≡ same b a
same-flip a b = ap (λ x. x && (a.seq == b.seq)) (nat_eq_equiv.symm a.worker b.worker) ∙ ap (λ y. (b.worker == a.worker) && y) (nat_eq_equiv.symm a.seq b.seq)

unwrap_or-cond : {X : Type 0} (b : Bool) (s d : X) (o : Option X) → unwrap_or (cond b (Some s) o) d ≡ cond b s (unwrap_or o d)
unwrap_or-cond true s d o = refl
unwrap_or-cond false s d o = refl

unwrap_or-none : {X : Type 0} (b : Bool) (d : X) (o : Option X) → unwrap_or (cond b None o) d ≡ cond b d (unwrap_or o d)
unwrap_or-none true d o = refl
unwrap_or-none false d o = refl

-- the states where they stayed
pub states_kept : (f g : ConnId → Option ConnState) → ((q : ConnId) → g q ≡ f q) → (k : ConnId) → unwrap_or (g k) Fresh ≡ unwrap_or (f k) Fresh
states_kept f g e k = ap (λ o. unwrap_or o Fresh) (e k)

-- the states where one connection has another state
pub states_put : (f g : ConnId → Option ConnState) (c : ConnId) (s : ConnState) → ((q : ConnId) → g q ≡ cond (same c q) (Some s) (f q))
    → (k : ConnId) → unwrap_or (g k) Fresh ≡ cond (same k c) s (unwrap_or (f k) Fresh)
states_put f g c s e k = ap (λ o. unwrap_or o Fresh) (e k) ∙ unwrap_or-cond (same c k) s Fresh (f k) ∙ ap (λ b. cond b s (unwrap_or (f k) Fresh)) (same-flip c k)

-- the states where one connection isn't known any more
pub states_gone : (f g : ConnId → Option ConnState) (c : ConnId) → ((q : ConnId) → g q ≡ cond (same c q) None (f q))
    → (k : ConnId) → unwrap_or (g k) Fresh ≡ cond (same k c) Fresh (unwrap_or (f k) Fresh)
states_gone f g c e k = ap (λ o. unwrap_or o Fresh) (e k) ∙ unwrap_or-none (same c k) Fresh (f k) ∙ ap (λ b. cond b Fresh (unwrap_or (f k) Fresh)) (same-flip c k)

-- the owners where one log has another owner or none
pub owners_put : (f g : ℕ → Option ConnId) (key log : ℕ) (o : Option ConnId) → key ≡ log → ((q : ℕ) → g q ≡ cond (nat_eq key q) o (f q))
    → (k : ℕ) → g k ≡ cond (nat_eq k log) o (f k)
owners_put f g key log o is e k = e k ∙ ap (λ b. cond b o (f k)) (nat_eq_equiv.symm key k) ∙ ap (λ n. cond (nat_eq k n) o (f k)) is

flipped : (b : Bool) (k : ConnId) → cond (not b) (Some k) None ≡ cond b None (Some k)
flipped true k = refl
flipped false k = refl

-- what is filtered away is what this connection owns
pub unless-filter : (c : ConnId) (o : Option ConnId) → option_filter (λ k. not (same k c)) o ≡ unless c o
unless-filter c None = refl
unless-filter c (Some k) = flipped (same k c) k
