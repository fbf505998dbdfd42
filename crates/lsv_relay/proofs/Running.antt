-- One connection: how it begins, goes on and breaks off, and what is answered of it.
use Rattle.std.proofs.Common.{◌≡◌, ◌≢◌, ◌∙◌, ◌↔◌, ◌≤◌, ◌⊎◌, inl, inr, ◌++◌, ◌∷◌, ◌+◌, ℕ, Bool, true, false, List, [], Option, Some, None, Result, Ok, Err, IfOk, IfErr, OnOk, OnErr, IsErrAnd, IsErrOf, refl, sym, ap, subst, arith}
use Rattle.std.specs.Prelude.{if◌then◌else◌}
use Rattle.lsv_bundle.specs.declared.fault.BundleFault.{BundleFault}
use Rattle.lsv_bundle.specs.declared.fault.BundleFault.TheVariants as bundles
use Rattle.lsv_dialogue.specs.Ends.{Broke, Conversation, Ended, HasCome, HasCome.AtEnd, HasCome.AtOnce, HasCome.InSilence, Ran}
use Rattle.lsv_dialogue.specs.Events.{Event, all_said, said}
use Rattle.lsv_dialogue.specs.declared.ends.End.{End}
use Rattle.lsv_dialogue.specs.declared.ends.End.TheVariants as ends
use Rattle.lsv_dialogue.specs.declared.ends.TalkFault.{TalkFault}
use Rattle.lsv_dialogue.specs.declared.ends.TalkFault.TheVariants as talks
use Rattle.lsv_dialogue.specs.declared.ends.Wants.TheVariants as wants
use Rattle.lsv_disk.specs.Throughout.{OnlyReads, Throughout}
use Rattle.lsv_disk.specs.View.{DiskView, HasOwnCause, Image, IsCrashImage}
use Rattle.lsv_disk.specs.declared.file.FileId.{FileId}
use Rattle.lsv_defs.specs.Causes.{HasRisen}
use Rattle.lsv_disk.proofs.Composition.{OnlyNow, cause_second, cause_widened, followed, risen_first, risen_second, started, unchanged_throughout, widened}
use Rattle.lsv_iolog.specs.Recovered.{IsOfLog}
use Rattle.lsv_iolog.specs.declared.fault.ViewFault.TheVariants as logs
use Rattle.lsv_kept.specs.Aim.{AimView}
use Rattle.lsv_kept.specs.Faults.{IsCommitFault}
use Rattle.lsv_kept.specs.Kept.{Changes, IsChanged, IsMarkedAt, IsOfRelay, Keeps, LeavesLast}
use Rattle.lsv_kept.specs.Value as keeping
use Rattle.lsv_kept.specs.Value.{KeepingView, is_done}
use Rattle.lsv_kept.specs.declared.state.State.{State}
use Rattle.lsv_kept.specs.declared.state.State.TheVariants as states
use Rattle.lsv_kept.proofs.Staying.{stands_read}
use Rattle.lsv_link.specs.declared.connection.Connection.{Connection}
use Rattle.lsv_link.specs.Link.{Continues, LinkCounts, LinkState}
use Rattle.lsv_msg.specs.declared.messages.ServerMessage.{ServerMessage}
use Rattle.lsv_relay.specs.Ends.{BreaksOff, Closes, IsLastCall, IsPlain, KeptBy, Marks, Spoke, Talked, Went, manner_of}
use Rattle.lsv_msg.specs.declared.messages.ClientMessage.{ClientMessage}
use Rattle.lsv_relay.specs.Faults.{IsCauseAt, IsKeepFault, IsLogFault, IsStepFault, LeavesWhole, of_state}
use Rattle.lsv_relay.specs.Inner.{IsLogOf, IsRelay, IsSending}
use Rattle.lsv_relay.specs.Talks.{IsDurable, IsOpened, IsUnsaid, KeptThrough, Stands, Talks, TalksAt}
use Rattle.lsv_relay.specs.Value.{IsStarted, IsUnbegun, RelayView, aim_of, is_broken, state_of, wants_of}
use Rattle.lsv_relay.specs.declared.fault.RelayFault.{RelayFault}
use Rattle.lsv_relay.specs.declared.fault.RelayFault.TheVariants as faults
use Rattle.lsv_relay.specs.declared.relay.Place.{Place}
use Rattle.lsv_relay.specs.declared.relay.Place.TheVariants as places
use Rattle.lsv_relay.specs.declared.run.RelayEnd.{RelayEnd}
use Rattle.lsv_relay.specs.declared.run.RelayEnd.TheVariants as relays
use Rattle.lsv_relay.proofs.Causes.{log_step_fault, no_state_disk, state_cause}
use Rattle.lsv_relay.proofs.Invariant.{sending_open}
use Rattle.lsv_relay.proofs.Saying.{said_all}

-- ---- Answers by cases

pub if_ok_map : {T E : Type 0} (r : Result T E) (P Q : T → Type 0) → ((x : T) → P x → Q x) → IfOk r P → IfOk r Q
if_ok_map (Ok x) P Q step p = step x p
if_ok_map (Err e) P Q step p = tt

pub if_ok_both : {T E : Type 0} (r : Result T E) (P Q S : T → Type 0) → ((x : T) → P x → Q x → S x) → IfOk r P → IfOk r Q → IfOk r S
if_ok_both (Ok x) P Q S step p q = step x p q
if_ok_both (Err e) P Q S step p q = tt

pub on_ok_both : {T E : Type 0} (r : Result T E) (P Q S : Type 0) → (P → Q → S) → OnOk r P → OnOk r Q → OnOk r S
on_ok_both (Ok x) P Q S step p q = step p q
on_ok_both (Err e) P Q S step p q = tt

pub if_err_map : {T E : Type 0} (r : Result T E) (P Q : E → Type 0) → ((x : E) → P x → Q x) → IfErr r P → IfErr r Q
if_err_map (Ok x) P Q step p = tt
if_err_map (Err e) P Q step p = step e p

pub if_ok_told : {T E : Type 0} (r : Result T E) (tells : Type 0) (P : T → Type 0) → (tells → IfOk r P) → IfOk r (λ x. tells → P x)
if_ok_told (Ok x) tells P p = p
if_ok_told (Err e) tells P p = tt

pub on_ok_told : {T E : Type 0} (r : Result T E) (tells P : Type 0) → (tells → OnOk r P) → OnOk r (tells → P)
on_ok_told (Ok x) tells P p = p
on_ok_told (Err e) tells P p = tt

-- ---- The beginning

pub begun_busy : (p : Place) → IsUnbegun p → p ≢ places.Idle
begun_busy p is at = subst IsUnbegun at is

pub started_busy : (p : Place) → IsStarted p → p ≢ places.Idle
started_busy p is at = subst IsStarted at is

pub started_open : (n : ℕ) (p : Place) (disk : DiskView) → IsStarted p → IsOpened n p disk
started_open n places.Idle disk is = tt
started_open n (places.Starts view) disk is = absurd is
started_open n (places.Sends view) disk is = tt
started_open n places.Over disk is = tt

unsaid_talks : (began : DiskView) (state : State) (relay : RelayView) (disk : DiskView) (p : Place) → IsUnbegun p → IsUnsaid began state relay disk [] → TalksAt began state relay disk [] p
unsaid_talks began state relay disk places.Idle is at = absurd is
unsaid_talks began state relay disk (places.Starts view) is at = at
unsaid_talks began state relay disk (places.Sends view) is at = absurd is
unsaid_talks began state relay disk places.Over is at = absurd is

-- a relay that stands on a disk, on which nothing was said of it
pub opened_talks : (relay : RelayView) (disk : DiskView) → IsUnbegun relay.at → is_broken relay ≡ false → relay.keeping.number ≡ relay.number → OnlyNow disk → Stands relay disk
    → ((image : Image) → IsCrashImage disk image → Keeps relay.keeping.number (aim_of relay) image (state_of relay)) → Talks disk (state_of relay) relay disk []
opened_talks relay disk unbegun whole own now stands kept =
    let durable : IsDurable relay.number (aim_of relay) (state_of relay) disk = λ image is. subst (λ (n : ℕ). Keeps n (aim_of relay) image (state_of relay)) own (kept image is) in
    record {
      whole = whole;
      stands = stands;
      durable = durable;
      at = unsaid_talks disk (state_of relay) relay disk relay.at unbegun (record { none = refl; same = refl; moments = started (IsOfRelay relay.number) (λ image. Keeps relay.number (aim_of relay) image (state_of relay)) disk now durable });
    }

pub spoke_begins : {D : Type 0} (tells : Type 0) (view : D → DiskView) (disk : D) (relay : RelayView) → IsUnbegun relay.at → is_broken relay ≡ false → relay.keeping.number ≡ relay.number → (tells → OnlyNow (view disk)) → (tells → Stands relay (view disk))
    → (tells → (image : Image) → IsCrashImage (view disk) image → Keeps relay.keeping.number (aim_of relay) image (state_of relay)) → Spoke tells view disk relay relay disk []
spoke_begins tells view disk relay unbegun whole own now stands kept = (
  record { at = begun_busy relay.at unbegun; number = refl; aim = refl; whole = whole; undone = λ undone. undone; unbegun = λ _. unbegun; monotone = λ file. omega arith },
  λ told. opened_talks relay (view disk) unbegun whole own (now told) (stands told) (kept told),
)

-- what a crash leaves of what a relay keeps
abbrev pub Leaves : RelayView → DiskView → Type 0
Leaves relay disk = is_broken relay ≡ false → state_of relay ≢ states.Done → Stands relay disk → (image : Image) → IsCrashImage disk image → Keeps relay.keeping.number (aim_of relay) image (state_of relay)

abbrev pub LeavesBy : KeepingView → DiskView → Type 0
LeavesBy k disk = k.broken ≡ false → k.state ≢ states.Done → keeping.Stands k disk → (image : Image) → IsCrashImage disk image → Keeps k.number k.aim image k.state

pub leaves_at : (k : KeepingView) (relay : RelayView) (disk : DiskView) → k ≡ relay.keeping → LeavesBy k disk → Leaves relay disk
leaves_at k relay disk same leaves whole undone stands = subst (λ (l : KeepingView). LeavesBy l disk) same leaves whole undone stands.kept

pub not_done_at : (relay : RelayView) → is_done (state_of relay) ≡ false → state_of relay ≢ states.Done
not_done_at relay undone is = let e : is_done (state_of relay) ≡ true = ap is_done is in cc

-- ---- A call

-- what stands, and is only read, stands
pub read_stands : (old new : RelayView) (found disk : DiskView) → new.keeping ≡ old.keeping → IsOpened new.number new.at disk → OnlyReads found disk → Stands old found → Stands new disk
read_stands old new found disk same opened reads stands = record { kept = subst (λ (k : KeepingView). keeping.Stands k disk) (sym same) (stands_read old.keeping found disk reads stands.kept); log = opened }

module _ {D : Type 0} (tells : Type 0) (view : D → DiskView) (began : D) (from old new : RelayView) (found disk : D) (number : new.number ≡ old.number) (aim : aim_of new ≡ aim_of old) where
  pub spoke_on : (events after : List Event) → (tells → (b : D) (s : State) → Talks (view b) s old (view found) events → Talks (view b) s new (view disk) after) → new.at ≢ places.Idle → is_broken new ≡ false
      → (is_done (state_of old) ≡ false → is_done (state_of new) ≡ false) → (after ≡ [] → ⊥) → ((file : FileId) → (view found).faults file ≤ (view disk).faults file)
      → Spoke tells view began from old found events → Spoke tells view began from new disk after
  spoke_on events after step at whole undone none up spoke = (
    record {
      at = at;
      number = number ∙ spoke.0.number;
      aim = aim ∙ spoke.0.aim;
      whole = whole;
      undone = λ is. undone (spoke.0.undone is);
      unbegun = λ is. absurd (none is);
      monotone = λ file. omega (arith, spoke.0.monotone file, up file);
    },
    λ told. step told began (state_of from) (spoke.1 told),
  )

  pub breaks_off : (events after : List Event) (got : Option ServerMessage) (taker : RelayView) (fault : RelayFault) → IsLastCall old got after events taker → (tells → is_broken old ≡ false → KeptBy taker new got (view found) (view disk))
      → (tells → Stands old (view found) → is_broken new ≡ false → Stands new (view disk)) → HasOwnCause (IsOfLog old.number) (fault ≡ faults.Log logs.Disk) (view found) (view disk) → HasOwnCause (IsOfRelay old.number) (fault ≡ faults.State bundles.Disk) (view found) (view disk)
      → IsStepFault taker new fault → (tells → (b : D) (s : State) → Talks (view b) s old (view found) events → IsCauseAt old.number old.at (view found) fault)
      → Spoke tells view began from old found events → BreaksOff tells view began from new disk after fault
  breaks_off events after got taker fault last kept stands log state_cause leaves why spoke = record {
    before = old;
    found = found;
    earlier = events;
    got = got;
    spoke = spoke;
    old = taker;
    last = last;
    kept = λ told. kept told spoke.0.whole;
    number = number ∙ spoke.0.number;
    aim = aim ∙ spoke.0.aim;
    stands = λ told. stands told (spoke.1 told).stands;
    causes = record {
      log = cause_second (IsOfLog from.number) (fault ≡ faults.Log logs.Disk) (view began) (view found) (view disk) spoke.0.monotone (subst (λ (k : ℕ). HasOwnCause (IsOfLog k) (fault ≡ faults.Log logs.Disk) (view found) (view disk)) spoke.0.number log);
      state = cause_second (IsOfRelay from.number) (fault ≡ faults.State bundles.Disk) (view began) (view found) (view disk) spoke.0.monotone (subst (λ (k : ℕ). HasOwnCause (IsOfRelay k) (fault ≡ faults.State bundles.Disk) (view found) (view disk)) spoke.0.number state_cause);
    };
    leaves = leaves;
    why = λ told. subst (λ (k : ℕ). IsCauseAt k old.at (view found) fault) spoke.0.number (why told began (state_of from) (spoke.1 told));
  }

pub err_of : {T : Type 0} (fault other : RelayFault) → fault ≡ other → IsErrOf {T = T} (Err fault) other
err_of {T} fault other is = ap (λ (x : RelayFault). let y : Result T RelayFault = Err x in y) is

pub cause_of_err : {T : Type 0} (Own : FileId → Type 0) (fault other : RelayFault) (old new : DiskView) → HasOwnCause Own (IsErrOf {T = T} (Err fault) other) old new → HasOwnCause Own (fault ≡ other) old new
cause_of_err {T} Own fault other old new cause = cause_widened Own Own (IsErrOf {T = T} (Err fault) other) (fault ≡ other) old new (λ g own. own) (λ e. err_of {T = T} fault other e) cause

-- a call that fails breaks off
pub call_fails : {D T : Type 0} (tells : Type 0) (view : D → DiskView) (r : Result T RelayFault) (old new taker : RelayView) (found disk : D) (got : Option ServerMessage) (after : List Event → List Event) → new.number ≡ old.number → aim_of new ≡ aim_of old
    → ((events : List Event) → IsLastCall old got (after events) events taker)
    → (tells → is_broken old ≡ false → KeptBy taker new got (view found) (view disk)) → (tells → IfErr r (λ fault. Stands old (view found) → is_broken new ≡ false → Stands new (view disk)))
    → HasOwnCause (IsOfLog old.number) (IsErrOf r (faults.Log logs.Disk)) (view found) (view disk) → HasOwnCause (IsOfRelay old.number) (IsErrOf r (faults.State bundles.Disk)) (view found) (view disk)
    → IfErr r (IsStepFault taker new) → (tells → IfErr r (λ fault. (b : D) (s : State) (events : List Event) → Talks (view b) s old (view found) events → IsCauseAt old.number old.at (view found) fault))
    → IfErr r (λ fault. (start : D × RelayView) (events : List Event) → Spoke tells view start.0 start.1 old found events → BreaksOff tells view start.0 start.1 new disk (after events) fault)
call_fails tells view (Ok x) old new taker found disk got after number aim last kept stands log state leaves why = tt
call_fails {D} {T} tells view (Err fault) old new taker found disk got after number aim last kept stands log state leaves why = λ start events spoke.
    breaks_off tells view start.0 start.1 old new found disk number aim events (after events) got taker fault (last events) kept stands
    (cause_of_err {T = T} (IsOfLog old.number) fault (faults.Log logs.Disk) (view found) (view disk) log) (cause_of_err {T = T} (IsOfRelay old.number) fault (faults.State bundles.Disk) (view found) (view disk) state) leaves
    (λ told b s talks. why told b s events talks) spoke

-- ---- What the speaker's calls say

pub on_ok_of : {T E : Type 0} (r : Result T E) (P : T → Type 0) (Q : Type 0) → ((x : T) → P x → Q) → IfOk r P → OnOk r Q
on_ok_of (Ok x) P Q step p = step x p
on_ok_of (Err e) P Q step p = tt

pub wants_more : (whole : Bool) → whole ≡ false → (if whole then wants.End else wants.More) ≡ wants.More
wants_more true is = absurd (cc (is))
wants_more false is = refl

-- what is heard is some event
pub some_heard : (events : List Event) (e : Event) → events ++ e ∷ [] ≡ [] → ⊥
some_heard [] e is = cc (is)
some_heard (x ∷ events) e is = cc (is)

front_none : (events more : List Event) → events ++ more ≡ [] → events ≡ []
front_none [] more is = refl
front_none (x ∷ events) more is = absurd (cc (is))

unbegun_unstarted : (p : Place) → IsUnbegun p → IsStarted p → ⊥
unbegun_unstarted places.Idle one two = one
unbegun_unstarted (places.Starts view) one two = two
unbegun_unstarted (places.Sends view) one two = one
unbegun_unstarted places.Over one two = one

pub unbegun_before : (p : Place) → IsUnbegun p → p ≢ places.Over
unbegun_before p is at = subst IsUnbegun at is

-- once the opening was handed out, something was said
pub some_said : {D : Type 0} (tells : Type 0) (view : D → DiskView) (began : D) (from old : RelayView) (found : D) (events more : List Event) → Spoke tells view began from old found events → IsStarted old.at → events ++ more ≡ [] → ⊥
some_said tells view began from old found events more spoke started is = unbegun_unstarted old.at (spoke.0.unbegun (front_none events more is)) started

-- the opening was said
pub opening_spoke : {D : Type 0} (tells : Type 0) (view : D → DiskView) (began : D) (from old new : RelayView) (found disk : D) (messages : List ClientMessage) → new.number ≡ old.number → new.keeping ≡ old.keeping
    → (tells → (b : D) (s : State) → Talks (view b) s old (view found) [] → Talks (view b) s new (view disk) (all_said messages)) → IsStarted new.at → (messages ≡ [] → ⊥) → ((file : FileId) → (view found).faults file ≤ (view disk).faults file)
    → Spoke tells view began from old found [] → Spoke tells view began from new disk (all_said messages)
opening_spoke tells view began from old new found disk messages number keeping talks started some up spoke =
    spoke_on tells view began from old new found disk number (ap (λ (k : KeepingView). k.aim) keeping) [] (all_said messages) talks (started_busy new.at started) (ap (λ (k : KeepingView). k.broken) keeping ∙ spoke.0.whole)
    (λ is. ap (λ (k : KeepingView). is_done k.state) keeping ∙ is) (λ is. some (sym (said_all messages) ∙ ap said is)) up spoke

-- messages were said
pub step_spoke : {D : Type 0} (tells : Type 0) (view : D → DiskView) (began : D) (from old new : RelayView) (found disk : D) (events : List Event) (messages : List ClientMessage) → new.number ≡ old.number → new.keeping ≡ old.keeping
    → (tells → (b : D) (s : State) (es : List Event) → Talks (view b) s old (view found) es → Talks (view b) s new (view disk) (es ++ all_said messages)) → IsStarted old.at → IsStarted new.at → ((file : FileId) → (view found).faults file ≤ (view disk).faults file)
    → Spoke tells view began from old found events → Spoke tells view began from new disk (events ++ all_said messages)
step_spoke tells view began from old new found disk events messages number keeping talks before started up spoke =
    spoke_on tells view began from old new found disk number (ap (λ (k : KeepingView). k.aim) keeping) events (events ++ all_said messages) (λ told b s. talks told b s events) (started_busy new.at started) (ap (λ (k : KeepingView). k.broken) keeping ∙ spoke.0.whole)
    (λ is. ap (λ (k : KeepingView). is_done k.state) keeping ∙ is) (some_said tells view began from old found events (all_said messages) spoke before) up spoke

-- a message was heard
pub heard_spoke : {D : Type 0} (tells : Type 0) (view : D → DiskView) (began : D) (from old new : RelayView) (found disk : D) (events : List Event) (e : Event) → (new.number ≡ old.number) × (aim_of new ≡ aim_of old) × (new.at ≡ old.at)
    → (tells → (b : D) (s : State) (es : List Event) → Talks (view b) s old (view found) es → Talks (view b) s new (view disk) (es ++ e ∷ [])) → (is_broken new ≡ false) × (is_done (state_of old) ≡ false → is_done (state_of new) ≡ false) → ((file : FileId) → (view found).faults file ≤ (view disk).faults file)
    → Spoke tells view began from old found events → Spoke tells view began from new disk (events ++ e ∷ [])
heard_spoke tells view began from old new found disk events e same talks whole up spoke =
    spoke_on tells view began from old new found disk same.0 same.1 events (events ++ e ∷ []) (λ told b s. talks told b s events) (λ idle. spoke.0.at (sym same.2 ∙ idle)) whole.0 whole.1 (some_heard events e) up spoke

-- the log alone failed
pub no_state_own : {T : Type 0} (n : ℕ) (r : Result T RelayFault) (old new : DiskView) → IfErr r IsLogFault → ((file : FileId) → old.faults file ≤ new.faults file) → HasOwnCause (IsOfRelay n) (IsErrOf r (faults.State bundles.Disk)) old new
no_state_own n (Ok x) old new word up = record { monotone = up; risen = λ is. absurd (cc (is)) }
no_state_own {T} n (Err e) old new word up = record { monotone = up; risen = λ is. absurd (no_state_disk e word (let h : e ≡ faults.State bundles.Disk = cc (is) in h)) }

-- what is kept alone failed
pub no_log_keep : {T : Type 0} (n : ℕ) (r : Result T RelayFault) (old new : DiskView) → IfErr r IsKeepFault → ((file : FileId) → old.faults file ≤ new.faults file) → HasOwnCause (IsOfLog n) (IsErrOf r (faults.Log logs.Disk)) old new
no_log_keep n (Ok x) old new word up = record { monotone = up; risen = λ is. absurd (cc (is)) }
no_log_keep {T} n (Err e) old new word up = record { monotone = up; risen = λ is. absurd (subst IsKeepFault (let h : e ≡ faults.Log logs.Disk = cc (is) in h) word) }

-- a call that read the log, and failed
pub reading_fails : {D T : Type 0} (tells : Type 0) (view : D → DiskView) (r : Result T RelayFault) (old new : RelayView) (found disk : D) → new.number ≡ old.number → new.keeping ≡ old.keeping → is_broken old ≡ false → IfErr r (λ e. old.at ≢ places.Over)
    → (tells → OnlyReads (view found) (view disk)) → IfErr r (λ e. tells → IsOpened new.number new.at (view disk)) → HasOwnCause (IsOfLog old.number) (IsErrOf r (faults.Log logs.Disk)) (view found) (view disk) → IfErr r IsLogFault
    → (tells → IfErr r (λ fault. (b : D) (s : State) (events : List Event) → Talks (view b) s old (view found) events → IsCauseAt old.number old.at (view found) fault))
    → IfErr r (λ fault. (start : D × RelayView) (events : List Event) → Spoke tells view start.0 start.1 old found events → BreaksOff tells view start.0 start.1 new disk events fault)
reading_fails tells view (Ok x) old new found disk number keeping whole before reads opened log word why = tt
reading_fails {D} {T} tells view (Err e) old new found disk number keeping whole before reads opened log word why =
    call_fails {D = D} {T = T} tells view (Err e) old new old found disk None (λ events. events) number (ap (λ (k : KeepingView). k.aim) keeping) (λ events. (refl, refl)) (λ told _. reads told)
    (λ told stands _. read_stands old new (view found) (view disk) keeping (opened told) (reads told) stands) log (no_state_own {T = T} old.number (Err e) (view found) (view disk) word log.monotone)
    (log_step_fault old new e word (record { whole = ap (λ (k : KeepingView). k.broken) keeping ∙ whole; same = ap (λ (k : KeepingView). k.state) keeping; before = before })) why

-- a call that kept something, and failed
pub keeping_fails : {D T : Type 0} (tells : Type 0) (view : D → DiskView) (r : Result T RelayFault) (old new taker : RelayView) (found disk : D) (m : ServerMessage) (e : Event) → (new.number ≡ old.number) × (aim_of new ≡ aim_of old) × (new.at ≡ old.at) → IsStarted old.at
    → ((events : List Event) → IsLastCall old (Some m) (events ++ e ∷ []) events taker) → (tells → is_broken old ≡ false → KeptThrough taker new m (view found) (view disk)) → (tells → is_broken new ≡ false → Stands new (view disk))
    → HasOwnCause (IsOfRelay old.number) (IsErrOf r (faults.State bundles.Disk)) (view found) (view disk) → IfErr r (λ fault. IsStepFault taker new fault × IsKeepFault fault)
    → IfErr r (λ fault. (start : D × RelayView) (events : List Event) → Spoke tells view start.0 start.1 old found events → BreaksOff tells view start.0 start.1 new disk (events ++ e ∷ []) fault)
keeping_fails tells view (Ok x) old new taker found disk m e same started last kept stands cause word = tt
keeping_fails {D} {T} tells view (Err f) old new taker found disk m e same started last kept stands cause word =
    call_fails {D = D} {T = T} tells view (Err f) old new taker found disk (Some m) (λ events. events ++ e ∷ []) same.0 same.1 last kept (λ told _ whole. stands told whole)
    (no_log_keep {T = T} old.number (Err f) (view found) (view disk) word.1 cause.monotone) cause word.0 (λ told b s events talks. state_cause old.number old.at (view found) f started word.1)

-- the opening failed
pub open_fails : {D T : Type 0} (tells : Type 0) (view : D → DiskView) (r : Result T RelayFault) (old new : RelayView) (found disk : D) → new.number ≡ old.number → new.keeping ≡ old.keeping → is_broken old ≡ false → IsUnbegun old.at
    → (tells → OnlyReads (view found) (view disk)) → OnErr r (new.at ≡ places.Idle) → HasOwnCause (IsOfLog old.number) (IsErrOf r (faults.Log logs.Disk)) (view found) (view disk) → IfErr r IsLogFault
    → (tells → IfErr r (λ fault. (b : D) (s : State) → Talks (view b) s old (view found) [] → IsCauseAt old.number old.at (view found) fault))
    → IfErr r (λ fault. (start : D × RelayView) → Spoke tells view start.0 start.1 old found [] → BreaksOff tells view start.0 start.1 new disk [] fault)
open_fails tells view (Ok x) old new found disk number keeping whole unbegun reads idle log word why = tt
open_fails {D} {T} tells view (Err e) old new found disk number keeping whole unbegun reads idle log word why = λ start spoke.
    breaks_off tells view start.0 start.1 old new found disk number (ap (λ (k : KeepingView). k.aim) keeping) [] [] None old e (refl, refl) (λ told _. reads told)
    (λ told stands _. read_stands old new (view found) (view disk) keeping (subst (λ (p : Place). IsOpened new.number p (view disk)) (sym idle) tt) (reads told) stands)
    (cause_of_err {T = T} (IsOfLog old.number) e (faults.Log logs.Disk) (view found) (view disk) log) (cause_of_err {T = T} (IsOfRelay old.number) e (faults.State bundles.Disk) (view found) (view disk) (no_state_own {T = T} old.number (Err e) (view found) (view disk) word log.monotone))
    (log_step_fault old new e word (record { whole = ap (λ (k : KeepingView). k.broken) keeping ∙ whole; same = ap (λ (k : KeepingView). k.state) keeping; before = unbegun_before old.at unbegun })) why spoke

sending_before : (p : Place) → IsSending p → p ≢ places.Over
sending_before p is at = subst IsSending at is

-- a step failed
pub sending_fails : {D T : Type 0} (tells : Type 0) (view : D → DiskView) (r : Result T RelayFault) (old new : RelayView) (found disk : D) → new.number ≡ old.number → new.keeping ≡ old.keeping → is_broken old ≡ false → IsStarted new.at
    → (tells → OnlyReads (view found) (view disk)) → HasOwnCause (IsOfLog old.number) (IsErrOf r (faults.Log logs.Disk)) (view found) (view disk) → IfErr r (λ fault. IsLogFault fault × IsSending old.at)
    → (tells → IfErr r (IsCauseAt old.number old.at (view found)))
    → IfErr r (λ fault. (start : D × RelayView) (events : List Event) → Spoke tells view start.0 start.1 old found events → BreaksOff tells view start.0 start.1 new disk events fault)
sending_fails tells view (Ok x) old new found disk number keeping whole started reads log word why = tt
sending_fails {D} {T} tells view (Err e) old new found disk number keeping whole started reads log word why =
    reading_fails {D = D} {T = T} tells view (Err e) old new found disk number keeping whole (sending_before old.at word.1) reads (λ told. started_open new.number new.at (view disk) started) log word.0 (λ told b s events talks. why told)

pub on_ok_always : {T E : Type 0} (r : Result T E) (P : Type 0) → P → OnOk r P
on_ok_always (Ok x) P p = p
on_ok_always (Err e) P p = tt

pub on_ok_map : {T E : Type 0} (r : Result T E) (P Q : Type 0) → (P → Q) → OnOk r P → OnOk r Q
on_ok_map (Ok x) P Q step p = step p
on_ok_map (Err e) P Q step p = tt

-- ---- Files of the relaying alone

abbrev Touches : ℕ → DiskView → DiskView → Type 0
Touches n old new = Throughout (IsOfRelay n) (λ image. Unit {0}) old new

bare : (n : ℕ) (P : Image → Type 0) (old new : DiskView) → Throughout (IsOfRelay n) P old new → Touches n old new
bare n P old new run = widened (IsOfRelay n) (IsOfRelay n) P (λ image. Unit {0}) old new (λ g t. t) (λ image p beside. tt) run

reads_touch : (n : ℕ) (old new : DiskView) → OnlyReads old new → Touches n old new
reads_touch n old new reads = unchanged_throughout (IsOfRelay n) (λ image. Unit {0}) old new (λ image is. tt) reads.unchanged

talks_touch : (began : DiskView) (state : State) (relay : RelayView) (disk : DiskView) (events : List Event) → Talks began state relay disk events → Touches relay.number began disk
talks_touch began state relay disk events t = at relay.at t.at where
  at : (p : Place) → TalksAt began state relay disk events p → Touches relay.number began disk
  at places.Idle is = absurd is
  at (places.Starts view) is = bare relay.number (λ image. Keeps relay.number (aim_of relay) image state) began disk is.moments
  at (places.Sends view) is = is.moments.frame
  at places.Over is = is.is.moments.frame

-- the relay that took the last message is of the same log
last_same : (before : RelayView) (got : Option ServerMessage) (events earlier : List Event) (old : RelayView) → IsLastCall before got events earlier old
    → (old.number ≡ before.number) × (is_broken old ≡ is_broken before) × (state_of old ≡ state_of before)
last_same before None events earlier old is = (ap (λ (r : RelayView). r.number) is.1, ap is_broken is.1, ap state_of is.1)
last_same before (Some m) events earlier old (inl is) = (ap (λ (r : RelayView). r.number) is.1, ap is_broken is.1, ap state_of is.1)
last_same before (Some m) events earlier old (inr is) = (ap (λ (r : RelayView). r.number) is.1, ap is_broken is.1, ap state_of is.1)

kept_touches : (old new : RelayView) (got : Option ServerMessage) (before after : DiskView) → KeptBy old new got before after → Touches old.number before after
kept_touches old new None before after kept = reads_touch old.number before after kept
kept_touches old new (Some m) before after kept = bare old.number _ before after kept.run

-- a fault that is plain leaves the relay whole, and keeps what it kept
plain_leaves : (old new : RelayView) (fault : RelayFault) → is_broken old ≡ false → IsPlain fault → IsStepFault old new fault → LeavesWhole old new
plain_leaves old new faults.Incomplete whole plain leaves = leaves
plain_leaves old new (faults.Log fault) whole plain leaves = leaves.1
plain_leaves old new (faults.State bundles.Disk) whole plain leaves = absurd (plain.2 refl)
plain_leaves old new (faults.State bundles.Broken) whole plain leaves = absurd (let h : true ≡ false = sym leaves ∙ whole in cc (h))
plain_leaves old new (faults.State (bundles.Damaged part)) whole plain leaves = absurd leaves
plain_leaves old new (faults.State (bundles.Full part)) whole plain leaves = absurd leaves
plain_leaves old new (faults.State bundles.NoMem) whole plain leaves = absurd leaves
plain_leaves old new faults.NoMem whole plain leaves = absurd (plain.0 refl)

is_done_state : (state : State) → is_done state ≡ true → state ≡ states.Done
is_done_state states.Nothing e = absurd (cc)
is_done_state (states.Kept kept) e = absurd (cc)
is_done_state states.Done e = refl

wants_end : (whole : Bool) → (if whole then wants.End else wants.More) ≡ wants.End → whole ≡ true
wants_end true is = refl
wants_end false is = absurd (cc (is))

wants_some : (whole : Bool) → (if whole then wants.End else wants.More) ≡ wants.Nothing → ⊥
wants_some true is = cc (is)
wants_some false is = cc (is)

-- ---- A conversation, and what became of the log

module _ {D : Type 0} (tells links : Type 0) (view : D → DiskView) (began : D) (from : RelayView) (talked : RelayView) (found : D) (before after : LinkCounts) where
  -- what holds however it ended
  pub record HasTalked : Type 0 where
    pub number : talked.number ≡ from.number
    pub aim : aim_of talked ≡ aim_of from
    pub touches : tells → Touches from.number (view began) (view found)
    pub monotone : (file : FileId) → (view began).faults file ≤ (view found).faults file
    pub continues : Continues before after

  spoke_talked : (events : List Event) → Spoke tells view began from talked found events → Continues before after → HasTalked
  spoke_talked events spoke goes = record {
    number = spoke.0.number;
    aim = spoke.0.aim;
    touches = λ told. subst (λ (k : ℕ). Touches k (view began) (view found)) spoke.0.number (talks_touch (view began) (state_of from) talked (view found) events (spoke.1 told));
    monotone = spoke.0.monotone;
    continues = goes;
  }

  broke_talked : (events : List Event) (fault : RelayFault) → BreaksOff tells view began from talked found events fault → Continues before after → HasTalked
  broke_talked events fault b goes = record {
    number = b.number;
    aim = b.aim;
    touches = λ told. followed (IsOfRelay from.number) (λ image. Unit {0}) (view began) (view b.found) (view found)
        (subst (λ (k : ℕ). Touches k (view began) (view b.found)) b.spoke.0.number (talks_touch (view began) (state_of from) b.before (view b.found) b.earlier (b.spoke.1 told)))
        (subst (λ (k : ℕ). Touches k (view b.found) (view found)) ((last_same b.before b.got events b.earlier b.old b.last).0 ∙ b.spoke.0.number) (kept_touches b.old talked b.got (view b.found) (view found) (b.kept told)));
    monotone = b.causes.log.monotone;
    continues = goes;
  }

  pub has_talked : (end : Result End (TalkFault RelayFault)) (conn : Connection) → Talked tells links view began from end talked found before after conn → HasTalked
  has_talked (Ok e) conn t = spoke_talked t.events t.talks t.matches.continues
  has_talked (Err talks.NoMem) conn t = spoke_talked t.events t.fails t.matches.continues
  has_talked (Err (talks.Speaker fault)) conn t = broke_talked t.events fault t.fails t.matches.continues

  -- at its end the other server has all
  pub over_whole : (conn : Connection) → Talked tells links view began from (Ok ends.Over) talked found before after conn → (is_broken talked ≡ false) × (talked.meter.whole ≡ true)
  over_whole conn t = (t.talks.0.whole, come t.cause.has)
    where
      come : {c : Conversation} → HasCome (wants_of talked) links c → talked.meter.whole ≡ true
      come (AtOnce is none) = absurd (wants_some talked.meter.whole is)
      come (AtEnd is ended rest none) = wants_end talked.meter.whole is
      come (InSilence is silence rest waited) = wants_end talked.meter.whole is

  pub over_stands : (conn : Connection) → Talked tells links view began from (Ok ends.Over) talked found before after conn → tells → Stands talked (view found)
  over_stands conn t told = (t.talks.1 told).stands

-- what the loop says of it
pub talked_run : {D : Type 0} (tells links : Type 0) (view : D → DiskView) (began : D) (from talked : RelayView) (found : D) (before after : LinkCounts) (host : List ℕ) (link later : LinkState) (end : Result End (TalkFault RelayFault))
    → IfOk end (λ e. (start : D × RelayView) → Spoke tells view start.0 start.1 from began [] → Ran links host link later (λ conn. Ended (manner_of tells view start) links talked found before after conn e))
    → IfErr end (λ f. (start : D × RelayView) → Spoke tells view start.0 start.1 from began [] → Ran links host link later (λ conn. Broke (manner_of tells view start) links talked found before after conn f))
    → Spoke tells view began from from began [] → Ran links host link later (λ conn. Talked tells links view began from end talked found before after conn)
talked_run tells links view began from talked found before after host link later (Ok e) ended broke begins = ended (began, from) begins
talked_run tells links view began from talked found before after host link later (Err f) ended broke begins = broke (began, from) begins

starts_unended : (n total : ℕ) (ended : Bool) (p : Place) → IsUnbegun p → IsLogOf n total ended p → ended ≡ false
starts_unended n total ended places.Idle is log = absurd is
starts_unended n total ended (places.Starts view) is log = log.2
starts_unended n total ended (places.Sends view) is log = absurd is
starts_unended n total ended places.Over is log = absurd is

-- a relay that didn't begin wants to
pub unbegun_wants : (relay : RelayView) → IsRelay relay → IsUnbegun relay.at → is_broken relay ≡ false → wants_of relay ≡ wants.More
unbegun_wants relay sound unbegun whole = wants_more relay.meter.whole (sending_open relay sound whole (starts_unended relay.number (aim_of relay).total relay.meter.ended relay.at unbegun sound.log))

-- what is answered, once the log was marked or not
module _ {D : Type 0} (tells links : Type 0) (view : D → DiskView) (began : D) (from : RelayView) (talked : RelayView) (found : D) (before after : LinkCounts) (conn : Connection) (relay : RelayView) (disk : D)
    (end : Result End (TalkFault RelayFault)) (answer : Result RelayEnd RelayFault) (talk : Talked tells links view began from end talked found before after conn)
    (closed : Closes tells view talked.number end talked found answer relay disk)
    (cause : HasOwnCause (IsOfRelay talked.number) (IsErrOf answer (faults.State bundles.Disk) × (end ≡ Ok ends.Over)) (view found) (view disk))
    (undone : is_done (state_of from) ≡ false) (only : tells → OnlyNow (view found)) where
  has : HasTalked tells links view began from talked found before after
  has = has_talked tells links view began from talked found before after end conn talk

  pub went : Went tells links view began from answer relay disk before after conn
  went = record {
    end = end;
    talked = talked;
    found = found;
    talk = talk;
    closed = subst (λ (n : ℕ). Closes tells view n end talked found answer relay disk) has.number closed;
  }

  -- Done exactly if the log is relayed
  ends_done : (e : Result End (TalkFault RelayFault)) → Talked tells links view began from e talked found before after conn → Closes tells view talked.number e talked found answer relay disk → IfOk answer (λ a. (a ≡ relays.Done) ↔ (is_done (state_of relay) ≡ true))
  ends_done (Ok ends.Over) t c = elim c.said [
    | inl is ↦ subst (λ (r : Result RelayEnd RelayFault). IfOk r (λ a. (a ≡ relays.Done) ↔ (is_done (state_of relay) ≡ true))) (sym is) (λ _. ap is_done (c.done is), λ _. refl)
    | inr (inl is) ↦ subst (λ (r : Result RelayEnd RelayFault). IfOk r (λ a. (a ≡ relays.Done) ↔ (is_done (state_of relay) ≡ true))) (sym is) tt
    | inr (inr is) ↦ subst (λ (r : Result RelayEnd RelayFault). IfOk r (λ a. (a ≡ relays.Done) ↔ (is_done (state_of relay) ≡ true))) (sym is) tt
  ]
  ends_done (Ok (ends.Stopped why)) t c =
      let not_ : is_done (state_of relay) ≡ false = ap (λ (r : RelayView). is_done (state_of r)) c.same.0 ∙ t.talks.0.undone undone in
      subst (λ (r : Result RelayEnd RelayFault). IfOk r (λ a. (a ≡ relays.Done) ↔ (is_done (state_of relay) ≡ true))) (sym c.said)
      (λ x. absurd (cc (x)), λ x. absurd (let h : true ≡ false = sym x ∙ not_ in cc (h)))
  ends_done (Err fault) t c = subst (λ (r : Result RelayEnd RelayFault). IfOk r (λ a. (a ≡ relays.Done) ↔ (is_done (state_of relay) ≡ true))) (sym c.said) tt

  pub is_answered : IfOk answer (λ a. (a ≡ relays.Done) ↔ (is_done (state_of relay) ≡ true))
  is_answered = ends_done end talk closed

  -- the log's and its relaying's files alone are touched, and those of the relaying alone are written
  closes_touch : (e : Result End (TalkFault RelayFault)) → Closes tells view talked.number e talked found answer relay disk → tells → Touches talked.number (view found) (view disk)
  closes_touch (Ok ends.Over) c told = bare talked.number _ (view found) (view disk) (c.changes told).moments
  closes_touch (Ok (ends.Stopped why)) c told = subst (λ (d : D). Touches talked.number (view found) (view d)) (sym c.same.1) (started (IsOfRelay talked.number) (λ image. Unit {0}) (view found) (only told) (λ image is. tt))
  closes_touch (Err fault) c told = subst (λ (d : D). Touches talked.number (view found) (view d)) (sym c.same.1) (started (IsOfRelay talked.number) (λ image. Unit {0}) (view found) (only told) (λ image is. tt))

  pub touches : tells → Touches from.number (view began) (view disk)
  touches told = followed (IsOfRelay from.number) (λ image. Unit {0}) (view began) (view found) (view disk) (has.touches told) (subst (λ (n : ℕ). Touches n (view found) (view disk)) has.number (closes_touch end closed told))

  -- the log alone is at fault where it failed
  no_log : (e : Result End (TalkFault RelayFault)) → Talked tells links view began from e talked found before after conn → Closes tells view talked.number e talked found answer relay disk
      → IsErrOf answer (faults.Log logs.Disk) → (file : FileId) × IsOfLog from.number file × HasRisen ((view began).faults file) ((view found).faults file)
  no_log (Ok ends.Over) t c is = elim c.said [
    | inl ok ↦ absurd (let x : Ok relays.Done ≡ Err (faults.Log logs.Disk) = sym ok ∙ is in cc (x))
    | inr (inl err) ↦ absurd (let x : Err faults.NoMem ≡ Err (faults.Log logs.Disk) = sym err ∙ is in cc (x))
    | inr (inr err) ↦ absurd (let x : Err (faults.State bundles.Disk) ≡ Err (faults.Log logs.Disk) = sym err ∙ is in cc (x))
  ]
  no_log (Ok (ends.Stopped why)) t c is = absurd (let x : Ok (relays.Pending why) ≡ Err (faults.Log logs.Disk) = sym c.said ∙ is in cc (x))
  no_log (Err talks.NoMem) t c is = absurd (let x : Err faults.NoMem ≡ Err (faults.Log logs.Disk) = sym c.said ∙ is in cc (x))
  no_log (Err (talks.Speaker fault)) t c is = t.fails.causes.log.risen (let x : Err fault ≡ Err (faults.Log logs.Disk) = sym c.said ∙ is in cc (x))

  pub log : HasOwnCause (IsOfLog from.number) (IsErrOf answer (faults.Log logs.Disk)) (view began) (view disk)
  log = record {
    monotone = λ file. omega (arith, has.monotone file, cause.monotone file);
    risen = λ is. let r = no_log end talk closed is in (r.0, r.1, risen_first ((view began).faults r.0) ((view found).faults r.0) ((view disk).faults r.0) r.2 (cause.monotone r.0));
  }

  -- and its relaying where that failed
  state_by : (e : Result End (TalkFault RelayFault)) → e ≡ end → Talked tells links view began from e talked found before after conn → Closes tells view talked.number e talked found answer relay disk
      → IsErrOf answer (faults.State bundles.Disk) → (file : FileId) × IsOfRelay from.number file × HasRisen ((view began).faults file) ((view disk).faults file)
  state_by (Ok ends.Over) same t c is =
      let r = cause.risen (is, sym same) in (r.0, subst (λ (n : ℕ). IsOfRelay n r.0) has.number r.1, risen_second ((view began).faults r.0) ((view found).faults r.0) ((view disk).faults r.0) (has.monotone r.0) r.2)
  state_by (Ok (ends.Stopped why)) same t c is = absurd (let x : Ok (relays.Pending why) ≡ Err (faults.State bundles.Disk) = sym c.said ∙ is in cc (x))
  state_by (Err talks.NoMem) same t c is = absurd (let x : Err faults.NoMem ≡ Err (faults.State bundles.Disk) = sym c.said ∙ is in cc (x))
  state_by (Err (talks.Speaker fault)) same t c is =
      let r = t.fails.causes.state.risen (let x : Err fault ≡ Err (faults.State bundles.Disk) = sym c.said ∙ is in cc (x)) in
      (r.0, r.1, risen_first ((view began).faults r.0) ((view found).faults r.0) ((view disk).faults r.0) r.2 (cause.monotone r.0))

  pub state : HasOwnCause (IsOfRelay from.number) (IsErrOf answer (faults.State bundles.Disk)) (view began) (view disk)
  state = record {
    monotone = λ file. omega (arith, has.monotone file, cause.monotone file);
    risen = λ is. state_by end refl talk closed is;
  }

  pub continues : Continues before after
  continues = has.continues

  -- ---- whether the log is marked

  module _ (once : (n : ℕ) (aim : AimView) (image : Image) (one two : State) → Keeps n aim image one → Keeps n aim image two → one ≡ two) (marked : (n : ℕ) (aim : AimView) (image : Image) → IsMarkedAt n aim.total image ↔ Keeps n aim image states.Done)
      (now : tells → IsCrashImage (view disk) (view disk).reads) (own : talked.keeping.number ≡ talked.number) (left : tells → Leaves talked (view found)) where
    abbrev Marked : Type 0
    Marked = IsMarkedAt from.number (aim_of from).total (view disk).reads

    -- what it keeps that isn't relayed is no mark
    unmarked_by : (s : State) → is_done s ≡ false → Keeps from.number (aim_of from) (view disk).reads s → Marked → ⊥
    unmarked_by s not_ keeps is =
        let one : s ≡ states.Done = once from.number (aim_of from) (view disk).reads s states.Done keeps ((marked from.number (aim_of from) (view disk).reads).0 is) in
        let e : is_done s ≡ true = ap is_done one in cc (e, not_)

    at_from : (s : State) (image : Image) → Keeps talked.number (aim_of talked) image s → Keeps from.number (aim_of from) image s
    at_from s image keeps = subst (λ (n : ℕ). Keeps n (aim_of from) image s) has.number (subst (λ (a : AimView). Keeps talked.number a image s) has.aim keeps)

    marked_end : (e : Result End (TalkFault RelayFault)) → Talked tells links view began from e talked found before after conn → Closes tells view talked.number e talked found answer relay disk → tells → IfOk answer (λ a. (a ≡ relays.Done) ↔ Marked)
    marked_end (Ok ends.Over) t c told = elim c.said [
      | inl is ↦ subst (λ (r : Result RelayEnd RelayFault). IfOk r (λ a. (a ≡ relays.Done) ↔ Marked)) (sym is)
          (λ _. (marked from.number (aim_of from) (view disk).reads).1 (at_from states.Done (view disk).reads (c.durable told is (view disk).reads (now told))), λ _. refl)
      | inr (inl is) ↦ subst (λ (r : Result RelayEnd RelayFault). IfOk r (λ a. (a ≡ relays.Done) ↔ Marked)) (sym is) tt
      | inr (inr is) ↦ subst (λ (r : Result RelayEnd RelayFault). IfOk r (λ a. (a ≡ relays.Done) ↔ Marked)) (sym is) tt
    ]
    marked_end (Ok (ends.Stopped why)) t c told =
        let keeps : Keeps from.number (aim_of from) (view disk).reads (state_of talked) = at_from (state_of talked) (view disk).reads ((t.talks.1 told).durable (view disk).reads (subst (λ (d : D). IsCrashImage (view d) (view disk).reads) c.same.1 (now told))) in
        subst (λ (r : Result RelayEnd RelayFault). IfOk r (λ a. (a ≡ relays.Done) ↔ Marked)) (sym c.said)
        (λ x. absurd (cc (x)), λ x. absurd (unmarked_by (state_of talked) (t.talks.0.undone undone) keeps x))
    marked_end (Err fault) t c told = subst (λ (r : Result RelayEnd RelayFault). IfOk r (λ a. (a ≡ relays.Done) ↔ Marked)) (sym c.said) tt

    pub marks : tells → IfOk answer (λ a. (a ≡ relays.Done) ↔ Marked)
    marks told = marked_end end talk closed told

    not_done : (s : State) → is_done s ≡ false → s ≢ states.Done
    not_done s not_ is = let e : is_done s ≡ true = ap is_done is in cc (e, not_)

    -- a call that failed by the log left it unmarked
    broke_unmarked : (events : List Event) (fault : RelayFault) → BreaksOff tells view began from talked found events fault → disk ≡ found → tells → IsPlain fault → Marked → ⊥
    broke_unmarked events fault b same told plain is =
        let last = last_same b.before b.got events b.earlier b.old b.last in
        let leaves = plain_leaves b.old talked fault (last.1 ∙ b.spoke.0.whole) plain b.leaves in
        let not_ : is_done (state_of talked) ≡ false = ap is_done (leaves.same ∙ last.2) ∙ b.spoke.0.undone undone in
        let keeps : Keeps talked.keeping.number (aim_of talked) (view disk).reads (state_of talked) =
        left told leaves.whole (not_done (state_of talked) not_) (b.stands told leaves.whole) (view disk).reads (subst (λ (d : D). IsCrashImage (view d) (view disk).reads) same (now told)) in
        unmarked_by (state_of talked) not_ (at_from (state_of talked) (view disk).reads (subst (λ (n : ℕ). Keeps n (aim_of talked) (view disk).reads (state_of talked)) own keeps)) is

    unmarked_end : (e : Result End (TalkFault RelayFault)) → Talked tells links view began from e talked found before after conn → Closes tells view talked.number e talked found answer relay disk → tells → IfErr answer (λ a. IsPlain a → Marked → ⊥)
    unmarked_end (Ok ends.Over) t c told = elim c.said [
      | inl is ↦ subst (λ (r : Result RelayEnd RelayFault). IfErr r (λ a. IsPlain a → Marked → ⊥)) (sym is) tt
      | inr (inl is) ↦ subst (λ (r : Result RelayEnd RelayFault). IfErr r (λ a. IsPlain a → Marked → ⊥)) (sym is) (λ plain at. plain.0 refl)
      | inr (inr is) ↦ subst (λ (r : Result RelayEnd RelayFault). IfErr r (λ a. IsPlain a → Marked → ⊥)) (sym is) (λ plain at. plain.2 refl)
    ]
    unmarked_end (Ok (ends.Stopped why)) t c told = subst (λ (r : Result RelayEnd RelayFault). IfErr r (λ a. IsPlain a → Marked → ⊥)) (sym c.said) tt
    unmarked_end (Err talks.NoMem) t c told = subst (λ (r : Result RelayEnd RelayFault). IfErr r (λ a. IsPlain a → Marked → ⊥)) (sym c.said) (λ plain at. plain.0 refl)
    unmarked_end (Err (talks.Speaker fault)) t c told = subst (λ (r : Result RelayEnd RelayFault). IfErr r (λ a. IsPlain a → Marked → ⊥)) (sym c.said) (broke_unmarked t.events fault t.fails c.same.1 told)

    pub leaves_unmarked : tells → IfErr answer (λ a. IsPlain a → Marked → ⊥)
    leaves_unmarked told = unmarked_end end talk closed told

-- ---- The mark

err_eq : {T : Type 0} (r : Result T RelayFault) (e : RelayFault) → IsErrAnd r (λ x. x ≡ e) → r ≡ Err e
err_eq (Ok x) e is = absurd is
err_eq {T} (Err y) e is = ap (λ (x : RelayFault). let r : Result T RelayFault = Err x in r) is

pub marks_ok : {D : Type 0} (tells : Type 0) (view : D → DiskView) (n m : ℕ) (ok : Type 0) (talked relay : RelayView) (found disk : D) → m ≡ n → relay.number ≡ talked.number → aim_of relay ≡ aim_of talked → state_of relay ≡ states.Done → ok
    → (tells → Changes ok m (aim_of talked) (state_of talked) 3 ((aim_of talked).total + 1) states.Done (view found) (view disk)) → (tells → (image : Image) → IsCrashImage (view disk) image → Keeps m (aim_of talked) image (state_of relay))
    → Marks tells view n talked found (Ok relays.Done) relay disk
marks_ok tells view n m ok talked relay found disk same number aim state yes_ changes left = record {
  said = inl refl;
  number = number;
  aim = aim;
  done = λ _. state;
  broken = λ no_. absurd (no_ refl);
  changes = λ told. let c = changes told in record {
    moments = subst (λ (k : ℕ). Throughout (IsOfRelay k) (IsChanged k (aim_of talked) (state_of talked) 3 ((aim_of talked).total + 1) states.Done) (view found) (view disk)) same c.moments;
    left = λ _. subst (λ (k : ℕ). LeavesLast k 3 ((aim_of talked).total + 1) (view disk)) same (c.left yes_);
  };
  durable = λ told _ image is. subst (λ (k : ℕ). Keeps k (aim_of talked) image states.Done) same (subst (λ (s : State). Keeps m (aim_of talked) image s) state (left told image is));
}

-- or it fails
mark_said : (e : BundleFault) (answer : Result RelayEnd RelayFault) → IsCommitFault e → (e ≡ bundles.Broken → ⊥) → answer ≡ Err (of_state e) → (answer ≡ Ok relays.Done) ⊎ (answer ≡ Err faults.NoMem) ⊎ (answer ≡ Err (faults.State bundles.Disk))
mark_said bundles.Disk answer word whole is = inr (inr is)
mark_said bundles.Broken answer word whole is = absurd (whole refl)
mark_said (bundles.Damaged part) answer word whole is = absurd word
mark_said (bundles.Full part) answer word whole is = absurd word
mark_said bundles.NoMem answer word whole is = inr (inl is)

pub marks_err : {D : Type 0} (tells : Type 0) (view : D → DiskView) (n m : ℕ) (ok : Type 0) (e : BundleFault) (answer : Result RelayEnd RelayFault) (talked relay : RelayView) (found disk : D) → IsErrAnd answer (λ x. x ≡ of_state e) → IsCommitFault e → (e ≡ bundles.Broken → ⊥)
    → m ≡ n → relay.number ≡ talked.number → aim_of relay ≡ aim_of talked → is_broken relay ≡ true
    → (tells → Changes ok m (aim_of talked) (state_of talked) 3 ((aim_of talked).total + 1) states.Done (view found) (view disk))
    → Marks tells view n talked found answer relay disk
marks_err tells view n m ok e answer talked relay found disk is word whole same number aim broken changes =
    let err : answer ≡ Err (of_state e) = err_eq answer (of_state e) is in
    let never = (λ (done : answer ≡ Ok relays.Done). let x : Ok relays.Done ≡ Err (of_state e) = sym done ∙ err in let f : ⊥ = cc (x) in f) in
    record {
      said = mark_said e answer word whole err;
      number = number;
      aim = aim;
      done = λ done. absurd (never done);
      broken = λ _. broken;
      changes = λ told. let c = changes told in record {
        moments = subst (λ (k : ℕ). Throughout (IsOfRelay k) (IsChanged k (aim_of talked) (state_of talked) 3 ((aim_of talked).total + 1) states.Done) (view found) (view disk)) same c.moments;
        left = λ done. absurd (never done);
      };
      durable = λ told done image left. absurd (never done);
    }
