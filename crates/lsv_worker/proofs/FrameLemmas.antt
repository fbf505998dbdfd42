-- Calls that keep their port and their inbox, one after another.
use Rattle.std.proofs.Common.{◌≡◌, ℕ, refl, ◌∙◌, arith}
use Rattle.lsv_port.specs.Ledger.{Continues, PortLedger}
use Rattle.lsv_port.specs.Port.{Changes, LinkState, PortState, closed, is_over}
use Rattle.lsv_worker.specs.Frames.{BothKeep, InboxKeeps, PortKeeps}
use Rattle.lsv_worker.proofs.Ports.{blame_kept, blame_same, blame_then, continues_here, continues_then}

-- ---- the port

pub port_here : {P : Type 0} (tells : Type 0) (state : P → PortState) (ledger : P → PortLedger) (a : P) → PortKeeps tells state ledger a a
port_here tells state ledger a = record { continues = continues_here (ledger a); blame = λ told. blame_same (state a) (state a) (ledger a) (ledger a) (λ l. refl) refl }

pub port_then : {P : Type 0} {tells : Type 0} {state : P → PortState} {ledger : P → PortLedger} {a b c : P} → PortKeeps tells state ledger a b → PortKeeps tells state ledger b c → PortKeeps tells state ledger a c
port_then {P} {tells} {state} {ledger} {a} {b} {c} x y = record {
  continues = continues_then (ledger a) (ledger b) (ledger c) x.continues y.continues;
  blame = λ told. blame_then (state a) (state b) (state c) (ledger a) (ledger b) (ledger c) x.continues y.continues (x.blame told) (y.blame told);
}

-- one link changed, and it failed no more than before
pub port_changed : {P : Type 0} (tells : Type 0) (state : P → PortState) (ledger : P → PortLedger) (a b : P) (l : ℕ) (now : LinkState) → Continues (ledger a) (ledger b) → (tells → Changes l now (state a) (state b)) → now.failed ≡ ((state a).link l).failed → PortKeeps tells state ledger a b
port_changed tells state ledger a b l now continues change same = record { continues = continues; blame = λ told. blame_kept l now (state a) (state b) (ledger a) (ledger b) (change told) same }

-- a link was closed
pub port_closed : {P : Type 0} (tells : Type 0) (state : P → PortState) (ledger : P → PortLedger) (a b : P) (l : ℕ) → Continues (ledger a) (ledger b) → (tells → Changes l (closed (is_over (state a)) ((state a).link l)) (state a) (state b)) → PortKeeps tells state ledger a b
port_closed tells state ledger a b l continues change = port_changed tells state ledger a b l (closed (is_over (state a)) ((state a).link l)) continues change refl

-- ---- the inbox

pub inbox_here : {I : Type 0} (lanes : I → ℕ) (refused : I → ℕ → ℕ) (is_same : I → I → Type 0) (a : I) → is_same a a → InboxKeeps lanes refused is_same a a
inbox_here lanes refused is_same a same = record { lanes_stay = refl; counts = λ m. omega arith; same = same }

pub inbox_then : {I : Type 0} {lanes : I → ℕ} {refused : I → ℕ → ℕ} {is_same : I → I → Type 0} {a b c : I} → ((i j k : I) → is_same i j → is_same j k → is_same i k) → InboxKeeps lanes refused is_same a b → InboxKeeps lanes refused is_same b c → InboxKeeps lanes refused is_same a c
inbox_then {I} {lanes} {refused} {is_same} {a} {b} {c} through x y = record {
  lanes_stay = y.lanes_stay ∙ x.lanes_stay;
  counts = λ m. omega (arith, x.counts m, y.counts m);
  same = through a b c x.same y.same;
}

-- ---- both

pub both_then : {P I : Type 0} {tells : Type 0} {state : P → PortState} {ledger : P → PortLedger} {a b c : P} {lanes : I → ℕ} {refused : I → ℕ → ℕ} {is_same : I → I → Type 0} {i j k : I} → ((i j k : I) → is_same i j → is_same j k → is_same i k)
    → BothKeep tells state ledger a b lanes refused is_same i j → BothKeep tells state ledger b c lanes refused is_same j k → BothKeep tells state ledger a c lanes refused is_same i k
both_then through x y = record { port = port_then x.port y.port; inbox = inbox_then through x.inbox y.inbox }
