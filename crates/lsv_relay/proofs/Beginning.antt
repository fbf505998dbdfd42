-- A connection begins: what the relay's own call says of it.
use Rattle.std.proofs.Common.{◌≡◌, ◌≢◌, ◌≤◌, ◌∙◌, ◌++◌, ℕ, Bool, List, [], length, false, Result, Ok, Err, IfOk, IfErr, OnOk, sym, ap, subst}
use Rattle.lsv_dialogue.specs.Events.{Event, all_said}
use Rattle.lsv_disk.specs.Throughout.{OnlyReads}
use Rattle.lsv_disk.specs.View.{DiskView}
use Rattle.lsv_kept.specs.declared.state.State.{State}
use Rattle.lsv_msg.specs.declared.messages.ClientMessage.{ClientMessage}
use Rattle.lsv_relay.specs.Faults.{IsCauseAt, IsLogCause, IsLogFault, IsReadCause}
use Rattle.lsv_relay.specs.Inner.{Answers, HasStarted, IsLogOf, IsRelay, IsSending}
use Rattle.lsv_relay.specs.Talks.{HasLog, IsOpened, IsPiece, Talks}
use Rattle.lsv_relay.specs.Value.{IsStarted, IsUnbegun, RelayView, aim_of, is_broken}
use Rattle.lsv_relay.specs.declared.fault.RelayFault.{RelayFault}
use Rattle.lsv_relay.specs.declared.relay.Place.{Place}
use Rattle.lsv_relay.specs.declared.relay.Place.TheVariants as places
use Rattle.lsv_iolog.specs.Reading.{ViewState}
use Rattle.lsv_record.specs.declared.records.Record.{Record}
use Rattle.lsv_relay.proofs.Causes.{begins_cause, sends_cause}
use Rattle.lsv_relay.proofs.Invariant.{sending_open}
use Rattle.lsv_relay.proofs.Running.{read_stands, started_open}
use Rattle.lsv_relay.proofs.Starting.{begins_talks}
use Rattle.lsv_relay.proofs.Stepping.{said_piece, said_talks}

pub sending_started : (p : Place) → IsSending p → IsStarted p
sending_started places.Idle is = is
sending_started (places.Starts view) is = is
sending_started (places.Sends view) is = tt
sending_started places.Over is = tt

pub begin_says : {D : Type 0} (view : D → DiskView) (r : Result (List ClientMessage) RelayFault) (w r0 r2 : RelayView) (d0 d2 : DiskView) → r0 ≡ w → IsUnbegun w.at → r2.number ≡ r0.number → r2.keeping ≡ r0.keeping
    → OnlyReads d0 d2 → OnOk r (IsSending r2.at × (r2.meter.whole ≡ false)) → (IsOpened r0.number r0.at d0 → IfOk r (λ opening. HasStarted r0 r2 opening d2))
    → IfOk r (λ messages. (began : D) (state : State) → Talks (view began) state w d0 [] → Talks (view began) state r2 d2 (all_said messages))
begin_says view (Err e) w r0 r2 d0 d2 same unbegun number keeping reads sends started = tt
begin_says view (Ok messages) w r0 r2 d0 d2 same unbegun number keeping reads sends started = λ began state talks.
    let t = subst (λ (x : RelayView). Talks (view began) state x d0 []) (sym same) talks in
    begins_talks (view began) state r0 r2 d0 d2 messages (subst (λ (x : RelayView). IsUnbegun x.at) (sym same) unbegun) t (started t.stands.log) number keeping reads
    (read_stands r0 r2 d0 d2 keeping (started_open r2.number r2.at d2 (sending_started r2.at sends.0)) reads t.stands)

pub begun_open : (r : Result (List ClientMessage) RelayFault) (r2 : RelayView) → IfOk r (λ opening. (length opening ≤ 2) × (opening ≢ [])) → OnOk r (IsSending r2.at × (r2.meter.whole ≡ false)) → IfOk r (λ messages. (length messages ≤ 2) × (messages ≢ []) × IsStarted r2.at)
begun_open (Err e) r2 few sends = tt
begun_open (Ok messages) r2 few sends = (few.0, few.1, sending_started r2.at sends.0)

pub begun_few : (r : Result (List ClientMessage) RelayFault) (r2 : RelayView) → OnOk r (IsSending r2.at × (r2.meter.whole ≡ false)) → OnOk r (r2.meter.whole ≡ false)
begun_few (Err e) r2 sends = tt
begun_few (Ok messages) r2 sends = sends.1

pub begin_why : {D : Type 0} (view : D → DiskView) (r : Result (List ClientMessage) RelayFault) (w r0 : RelayView) (d0 : DiskView) → r0 ≡ w → IsUnbegun w.at → (IsOpened r0.number r0.at d0 → IfErr r (IsLogCause r0.number d0))
    → IfErr r (λ fault. (began : D) (state : State) → Talks (view began) state w d0 [] → IsCauseAt w.number w.at d0 fault)
begin_why view (Ok messages) w r0 d0 same unbegun why = tt
begin_why view (Err e) w r0 d0 same unbegun why = λ began state talks.
    begins_cause w.number w.at d0 e unbegun (subst (λ (x : RelayView). IsOpened x.number x.at d0 → IsLogCause x.number d0 e) same why talks.stands.log)

-- ---- A step

pub step_says : {D : Type 0} (view : D → DiskView) (r : Result (List ClientMessage) RelayFault) (w r0 r2 : RelayView) (d0 d2 : DiskView) → r0 ≡ w → IsStarted w.at → r2.number ≡ r0.number → r2.keeping ≡ r0.keeping → IsStarted r2.at
    → OnlyReads d0 d2 → IfOk r (Answers r0 r2 d0 d2)
    → IfOk r (λ messages. (began : D) (state : State) (events : List Event) → Talks (view began) state w d0 events → Talks (view began) state r2 d2 (events ++ all_said messages))
step_says view (Err e) w r0 r2 d0 d2 same started number keeping after reads answers = tt
step_says view (Ok messages) w r0 r2 d0 d2 same started number keeping after reads answers = λ began state events talks.
    let t = subst (λ (x : RelayView). Talks (view began) state x d0 events) (sym same) talks in
    said_talks (view began) state r0 r2 d0 d2 events messages t.durable number keeping reads (subst (λ (x : RelayView). IsStarted x.at) (sym same) started) t answers
    (read_stands r0 r2 d0 d2 keeping (started_open r2.number r2.at d2 after) reads t.stands)

pub step_pieces : {D : Type 0} (view : D → DiskView) (r : Result (List ClientMessage) RelayFault) (w r0 r2 : RelayView) (d0 d2 : DiskView) → r0 ≡ w → IsStarted w.at → r2.number ≡ r0.number → r2.keeping ≡ r0.keeping
    → OnlyReads d0 d2 → IfOk r (Answers r0 r2 d0 d2)
    → IfOk r (λ messages. (began : D) (state : State) (events : List Event) → Talks (view began) state w d0 events → IsPiece messages)
step_pieces view (Err e) w r0 r2 d0 d2 same started number keeping reads answers = tt
step_pieces view (Ok messages) w r0 r2 d0 d2 same started number keeping reads answers = λ began state events talks.
    let t = subst (λ (x : RelayView). Talks (view began) state x d0 events) (sym same) talks in
    said_piece (view began) state r0 r2 d0 d2 events messages t.durable number keeping reads (subst (λ (x : RelayView). IsStarted x.at) (sym same) started) t answers

pub step_why : (r : Result (List ClientMessage) RelayFault) (w r0 : RelayView) (d0 : DiskView) → r0 ≡ w → IfErr r (λ fault. (view : ViewState) (records : List Record) → r0.at ≡ places.Sends view → HasLog r0.number view records d0 → IsReadCause r0.number view records d0 fault)
    → IfErr r (λ fault. IsLogFault fault × IsSending r0.at) → IfErr r (IsCauseAt w.number w.at d0)
step_why (Ok messages) w r0 d0 same why sends = tt
step_why (Err e) w r0 d0 same why sends = subst (λ (x : RelayView). IsCauseAt x.number x.at d0 e) same (sends_cause r0.number r0.at d0 e why sends.1)

sending_unended : (n total : ℕ) (ended : Bool) (p : Place) → IsSending p → IsLogOf n total ended p → ended ≡ false
sending_unended n total ended places.Idle is log = absurd is
sending_unended n total ended (places.Starts view) is log = absurd is
sending_unended n total ended (places.Sends view) is log = log.1
sending_unended n total ended places.Over is log = absurd is

-- what says something doesn't find that the other server has all
pub step_unwhole : (r : Result (List ClientMessage) RelayFault) (w r0 r2 : RelayView) → r0 ≡ w → IsRelay r0 → IfOk r (λ messages. messages ≢ [] → IsSending r0.at × (r2.meter.whole ≡ r0.meter.whole)) → is_broken w ≡ false → IfOk r (λ messages. messages ≢ [] → r2.meter.whole ≡ false)
step_unwhole (Err e) w r0 r2 same sound busy whole = tt
step_unwhole (Ok messages) w r0 r2 same sound busy whole = λ some.
    let b = busy some in
    b.1 ∙ sending_open r0 sound (ap is_broken same ∙ whole) (sending_unended r0.number (aim_of r0).total r0.meter.ended r0.at b.0 sound.log)
