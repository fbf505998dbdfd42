-- A connection that comes to write a log: its table, and what the keeper then stands for.
use Rattle.std.proofs.Common.{◌≡◌, ℕ, refl, ◌∙◌, ap, Some}
use Rattle.std.specs.Prelude.{◌==◌, if◌then◌else◌, true, false, Result, Ok, Err, IsOk, OnOk, IsErrOf}
use Rattle.lsv_session.specs.Table.{Sessions}
use Rattle.lsv_session.specs.declared.connection.ConnId.{ConnId}
use Rattle.lsv_session.specs.declared.connection.ConnState.TheVariants.{Running}
use Rattle.lsv_session.specs.declared.table.ClaimFault.{ClaimFault}
use Rattle.lsv_session.specs.declared.table.ClaimFault.TheVariants as faults
use Rattle.lsv_machine.specs.Machine.{same}

-- a log that nobody owns is claimed where there is room
pub claimed : {A : Type 0} (P : Type 0) (r : Result A ClaimFault) → OnOk r P → ((k : ConnId) → IsErrOf r (faults.InUse k) → ⊥) → (IsErrOf r faults.NoMem → ⊥) → P
claimed P (Ok a) is free room = is
claimed P (Err (faults.InUse k)) is free room = absurd (free k refl)
claimed P (Err faults.NoMem) is free room = absurd (room refl)

-- a table in which a connection came to own a log, and then to run with it
pub owned_sessions : (s0 s1 s2 : Sessions) (k : ConnId) (n : ℕ) → s1 ≡ record s0 { owner = λ i. if i == n then Some k else s0.owner i } → s2 ≡ record s1 { states = λ j. if same j k then Running (Some n) else s1.states j }
    → s2 ≡ record { states = λ j. if same j k then Running (Some n) else s0.states j; owner = λ i. if i == n then Some k else s0.owner i }
owned_sessions s0 s1 s2 k n owner states = states ∙ ap (λ (s : Sessions). record s { states = λ j. if same j k then Running (Some n) else s.states j }) owner

-- what holds on Ok of a result that is Ok
pub on_ok : {A E : Type 0} (P : Type 0) (r : Result A E) → IsOk r → OnOk r P → P
on_ok P (Ok a) ok is = is
on_ok P (Err e) ok is = absurd (let f : false ≡ true = ok in cc)
