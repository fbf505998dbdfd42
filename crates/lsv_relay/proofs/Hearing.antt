-- A message is taken: what was heard and said goes on.
use Rattle.std.proofs.Common.{◌≡◌, ◌∙◌, ◌++◌, ◌∷◌, ℕ, List, [], Bool, true, false, Result, Ok, Err, IfErr, OnOk, OnErr, refl, sym, ap, subst}
use Rattle.std.specs.Prelude.{◌&&◌, is_some, not}
use Rattle.lsv_dialogue.specs.Events.{Event, Event.Heard, Event.Late, text_of}
use Rattle.lsv_disk.specs.Throughout.{Throughout}
use Rattle.lsv_disk.specs.View.{DiskView}
use Rattle.lsv_kept.specs.Kept.{IsOfRelay}
use Rattle.lsv_kept.specs.Value as keeping
use Rattle.lsv_kept.specs.Value.{is_done, keeps_id}
use Rattle.lsv_kept.specs.declared.state.State.{State}
use Rattle.lsv_msg.specs.declared.messages.ServerMessage.{ServerMessage}
use Rattle.lsv_msg.specs.declared.messages.ServerMessage.TheVariants as server
use Rattle.lsv_transcript.specs.Transcript.{is_id}
use Rattle.lsv_relay.specs.Faults.{IsKeepFault, IsStateFault, IsStepFault}
use Rattle.lsv_relay.specs.Inner.{HasTaken, IsSamePlace}
use Rattle.lsv_relay.specs.Talk.{Talk, goes, hears, hears_error}
use Rattle.lsv_relay.specs.Talks.{IsDurable, KeepsOneOf, KeptThrough, Stands, Talks, unended}
use Rattle.lsv_relay.specs.Value.{IsStarted, RelayView, aim_of, is_broken, state_of, talk_of}
use Rattle.lsv_relay.specs.declared.fault.RelayFault.{RelayFault}
use Rattle.lsv_relay.specs.declared.fault.RelayFault.TheVariants as faults
use Rattle.lsv_relay.proofs.Causes.{state_step_fault}
use Rattle.lsv_relay.proofs.Running.{on_ok_both, on_ok_map, on_ok_told, started_open}
use Rattle.lsv_relay.proofs.Stepping.{Hearing, Hearing.in_time, Hearing.too_late, heard_talks}
use Rattle.lsv_relay.proofs.Talking.{goes_undone}

pub apart : (b : Bool) → b ≡ true → b ≡ false → ⊥
apart true one two = cc (two)
apart false one two = cc (one)

-- an error or an abort leaves it open whether the other server has all
error_whole : (talk : Talk) (b : Bool) → (talk.asked && keeps_id talk.state) ≡ b → (hears_error talk).whole ≡ talk.whole
error_whole talk true e = rw e refl
error_whole talk false e = rw e refl

pub last_whole : (total : ℕ) (m : ServerMessage) (talk : Talk) → is_some (text_of m) ≡ true → (hears total m talk).whole ≡ talk.whole
last_whole total (server.Hello x) talk is = refl
last_whole total (server.LogId id) talk is = absurd (cc (is))
last_whole total (server.CommitPoint time) talk is = absurd (cc (is))
last_whole total (server.Error text) talk is = error_whole talk (talk.asked && keeps_id talk.state) refl
last_whole total (server.Abort text) talk is = refl

keep_of : (e : RelayFault) → IsStateFault e → IsKeepFault e
keep_of faults.Incomplete is = absurd is
keep_of (faults.Log fault) is = absurd is
keep_of (faults.State fault) is = tt
keep_of faults.NoMem is = tt

-- a message that is taken
module _ {T : Type 0} (r : Result T RelayFault) (w r0 r2 : RelayView) (d0 d2 : DiskView) (m : ServerMessage) (e : Event) (same0 : r0 ≡ w) (hearing : Hearing m e)
    (taken : OnOk r (HasTaken r0 r2 (goes (aim_of r0).total e (talk_of r0)) (r0.meter.waits && not (is_id m)))) (same : IsSamePlace r0 r2) (fails : OnErr r (is_broken r2 ≡ true)) where
  pub hear_talks : {D : Type 0} (view : D → DiskView) → Throughout (IsOfRelay r0.number) (KeepsOneOf r0.number (aim_of r0) (state_of r0) (goes (aim_of r0).total e (talk_of r0)).state d0) d0 d2 → OnOk r (keeping.Stands r2.keeping d2)
      → (IsDurable r0.number (aim_of r0) (state_of r0) d0 → OnOk r (IsDurable r0.number (aim_of r0) (state_of r2) d2)) → IsStarted w.at
      → OnOk r ((began : D) (state : State) (events : List Event) → Talks (view began) state w d0 events → Talks (view began) state r2 d2 (events ++ e ∷ []))
  hear_talks view run stands durable started =
      on_ok_both r _ _ _
      (λ has (rest : keeping.Stands r2.keeping d2 × (IsDurable r0.number (aim_of r0) (state_of r0) d0 → IsDurable r0.number (aim_of r0) (state_of r2) d2)) began state events talks.
      let t = subst (λ (x : RelayView). Talks (view began) state x d0 events) (sym same0) talks in
      let begun = subst (λ (x : RelayView). IsStarted x.at) (sym same0) started in
      heard_talks (view began) state r0 r2 d0 d2 events m e hearing has.talk_is has.waits_is same run t.durable begun t
      (record { kept = rest.0; log = started_open r2.number r2.at d2 (subst IsStarted (sym same.at) begun) }) has.whole (rest.1 t.durable))
      taken (on_ok_both r _ _ _ (λ s d. (s, d)) stands (on_ok_told r _ _ durable))

  pub hear_undone : OnOk r ((is_broken r2 ≡ false) × (is_done (state_of w) ≡ false → is_done (state_of r2) ≡ false))
  hear_undone = on_ok_map r _ _ (λ has. (
    has.whole,
    λ undone. ap (λ (t : Talk). is_done t.state) has.talk_is ∙ goes_undone (aim_of r0).total (talk_of r0) (e ∷ []) (ap (λ (x : RelayView). is_done (state_of x)) same0 ∙ undone),
  )) taken

  left : is_broken r2 ≡ false → state_of r2 ≡ (goes (aim_of r0).total e (talk_of r0)).state
  left whole = by r taken fails
    where
      by : (x : Result T RelayFault) → OnOk x (HasTaken r0 r2 (goes (aim_of r0).total e (talk_of r0)) (r0.meter.waits && not (is_id m))) → OnErr x (is_broken r2 ≡ true) → state_of r2 ≡ (goes (aim_of r0).total e (talk_of r0)).state
      by (Ok v) has bad = ap (λ (t : Talk). t.state) has.talk_is
      by (Err f) has bad = absurd (apart (is_broken r2) bad whole)

  pub hear_stands : OnOk r (keeping.Stands r2.keeping d2) → IsStarted w.at → is_broken r2 ≡ false → Stands r2 d2
  hear_stands stands started whole = by r stands fails
    where
      by : (x : Result T RelayFault) → OnOk x (keeping.Stands r2.keeping d2) → OnErr x (is_broken r2 ≡ true) → Stands r2 d2
      by (Ok v) has bad = record { kept = has; log = started_open r2.number r2.at d2 (subst IsStarted (sym same.at) (subst (λ (x : RelayView). IsStarted x.at) (sym same0) started)) }
      by (Err f) has bad = absurd (apart (is_broken r2) bad whole)

  pub hear_same : (r2.number ≡ w.number) × (aim_of r2 ≡ aim_of w) × (r2.at ≡ w.at)
  hear_same = (same.number ∙ ap (λ (x : RelayView). x.number) same0, same.aim ∙ ap aim_of same0, same.at ∙ ap (λ (x : RelayView). x.at) same0)

  pub hear_faults : IfErr r IsStateFault → (taker : RelayView) → IfErr r (λ fault. IsStepFault taker r2 fault × IsKeepFault fault)
  hear_faults word taker = by r word fails
    where
      by : (x : Result T RelayFault) → IfErr x IsStateFault → OnErr x (is_broken r2 ≡ true) → IfErr x (λ fault. IsStepFault taker r2 fault × IsKeepFault fault)
      by (Ok v) is bad = tt
      by (Err f) is bad = (state_step_fault taker r2 f is bad, keep_of f is)

-- in time
pub hear_through : {T : Type 0} (r : Result T RelayFault) (w r0 r2 : RelayView) (d0 d2 : DiskView) (m : ServerMessage) → r0 ≡ w → OnOk r (HasTaken r0 r2 (hears (aim_of r0).total m (talk_of r0)) (r0.meter.waits && not (is_id m))) → IsSamePlace r0 r2 → OnErr r (is_broken r2 ≡ true)
    → Throughout (IsOfRelay r0.number) (KeepsOneOf r0.number (aim_of r0) (state_of r0) (hears (aim_of r0).total m (talk_of r0)).state d0) d0 d2 → KeptThrough w r2 m d0 d2
hear_through r w r0 r2 d0 d2 m same0 taken same fails run =
    subst (λ (x : RelayView). KeptThrough x r2 m d0 d2) same0 (record { run = run; left = left r w r0 r2 d0 d2 m (Heard m) same0 in_time taken same fails })

-- too late
pub late_through : {T : Type 0} (r : Result T RelayFault) (w r0 r2 : RelayView) (d0 d2 : DiskView) (m : ServerMessage) → r0 ≡ w → OnOk r (HasTaken r0 r2 (hears (aim_of r0).total m (talk_of (unended r0))) (r0.meter.waits && not (is_id m))) → IsSamePlace r0 r2 → OnErr r (is_broken r2 ≡ true)
    → Throughout (IsOfRelay r0.number) (KeepsOneOf r0.number (aim_of r0) (state_of r0) (hears (aim_of r0).total m (talk_of (unended r0))).state d0) d0 d2 → KeptThrough (unended w) r2 m d0 d2
late_through r w r0 r2 d0 d2 m same0 taken same fails run =
    subst (λ (x : RelayView). KeptThrough (unended x) r2 m d0 d2) same0 (record { run = run; left = left r w r0 r2 d0 d2 m (Late m) same0 too_late taken same fails })
