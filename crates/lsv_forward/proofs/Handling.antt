-- What becomes of one log.
use Rattle.std.proofs.Common.{◌≡◌, ◌≢◌, ◌∙◌, ◌⊎◌, ◌↔◌, inl, inr, ℕ, ◌≤◌, Bool, true, false, Some, None, IsSome, Result, Ok, Err, IfOk, IfErr, IsErrOf, List, [], ◌∷◌, ◌++◌, refl, sym, ap, subst, arith}
use Rattle.std.specs.Prelude.{MatchBool}
use Rattle.lsv_disk.specs.declared.file.FileId.{FileId}
use Rattle.lsv_disk.specs.declared.file.Owner.TheVariants as owners
use Rattle.lsv_disk.specs.Throughout.{OnlyReads, Throughout}
use Rattle.lsv_disk.specs.View.{DiskView, HasOwnCause, Image}
use Rattle.lsv_disk.specs.declared.file.Part.{Part}
use Rattle.lsv_bundle.specs.declared.fault.BundleFault.TheVariants as bundles
use Rattle.lsv_dialogue.specs.Ends.{Ran}
use Rattle.lsv_dialogue.specs.declared.ends.End.{End}
use Rattle.lsv_dialogue.specs.declared.ends.End.TheVariants as ends_of
use Rattle.lsv_dialogue.specs.declared.ends.TalkFault.{TalkFault}
use Rattle.lsv_dialogue.specs.declared.ends.TalkFault.TheVariants as talks
use Rattle.lsv_iolog.specs.Damage.{IsViewDamage}
use Rattle.lsv_iolog.specs.Recovered.{IsOfLog, Replays, SameFiles}
use Rattle.lsv_iolog.specs.declared.fault.ViewFault.TheVariants as logs
use Rattle.lsv_kept.specs.Aim.{AimView}
use Rattle.lsv_kept.specs.Kept.{IsAsBefore, IsMarked, IsMarkedAt, IsOfRelay, IsStateDamage, Keeps}
use Rattle.lsv_kept.specs.Value.{is_done}
use Rattle.lsv_kept.specs.declared.state.State.{State}
use Rattle.lsv_kept.specs.declared.state.State.TheVariants as states
use Rattle.lsv_link.specs.declared.connection.Connection.{Connection}
use Rattle.lsv_dialogue.specs.Events.{Event}
use Rattle.lsv_disk.proofs.Composition.{OnlyNow, cause_second, cause_widened, followed, widened}
use Rattle.lsv_bundle.specs.Body.{encoded}
use Rattle.lsv_bundle.specs.declared.body.Body.{Body}
use Rattle.lsv_bundle.proofs.Laws.{one_body}
use Rattle.lsv_link.specs.Link.{Continues, LinkCounts, LinkState, after_miss, all_of}
use Rattle.lsv_relay.specs.Complete.{IsComplete, IsIncomplete, IsRelayed, IsTimed}
use Rattle.lsv_relay.specs.Ends.{Closes, IsPlain, Spoke, Talked}
use Rattle.lsv_relay.specs.Faults.{IsLogFault, IsOpenCause, IsOpenFault}
use Rattle.lsv_relay.specs.Talks.{IsDurable, Stands}
use Rattle.lsv_relay.specs.Value.{RelayView, aim_of, is_broken, state_of}
use Rattle.lsv_relay.specs.declared.fault.RelayFault.{RelayFault}
use Rattle.lsv_relay.specs.declared.fault.RelayFault.TheVariants as relays
use Rattle.lsv_relay.specs.declared.run.RelayEnd.{RelayEnd}
use Rattle.lsv_relay.specs.declared.run.RelayEnd.TheVariants as ends
use Rattle.lsv_forward.specs.Carried.{Carriage, Carries, InTurn, IsEnded, IsOutOfMemory, IsSure, Went, is_memory}
use Rattle.lsv_forward.specs.Inner.{Handles, HandlesNext, HandlesPart, IsUnopened, Judges, is_passed}
use Rattle.lsv_forward.specs.Logs.{HasShutCause, IsAs, IsAt, IsLeft, IsSendable, IsShut, IsUnjudged, IsUnmarked, WasAs, is_device, is_kept_damage}
use Rattle.lsv_forward.specs.Run.{IsClosed}
use Rattle.lsv_forward.specs.declared.outcome.Outcome.{Outcome}
use Rattle.lsv_forward.specs.declared.outcome.Outcome.TheVariants.{Marked, Untried}
use Rattle.lsv_forward.proofs.Apart.{SameOf, complete_alone, timed_alone}
use Rattle.lsv_relay.proofs.Opening.{relayed_of, unrelayed_of}
use Rattle.lsv_forward.proofs.Drawing.{same_image}
use Rattle.lsv_forward.proofs.Moments.{turn_one}

log_no_relay : (n m : ℕ) → owners.Log n ≡ owners.Relay m → ⊥
log_no_relay n m e = cc

-- calls on files of the relaying leave the log's own files
pub same_log : (n : ℕ) (old new : DiskView) → Throughout (IsOfRelay n) (λ image. Unit {0}) old new → SameOf (owners.Log n) old.reads new.reads
same_log n old new run file own = run.elsewhere.same file (λ t. log_no_relay n n (sym own ∙ t))

pub complete_after : (n : ℕ) (old new : DiskView) → Throughout (IsOfRelay n) (λ image. Unit {0}) old new → IsComplete n old.reads → IsComplete n new.reads
complete_after n old new run is = complete_alone n old.reads new.reads (same_log n old new run) is

pub complete_before : (n : ℕ) (old new : DiskView) → Throughout (IsOfRelay n) (λ image. Unit {0}) old new → IsComplete n new.reads → IsComplete n old.reads
complete_before n old new run is = complete_alone n new.reads old.reads (λ file own. sym (same_log n old new run file own)) is

-- calls that kept something of the relaying at each moment touched its files alone
pub bare : (n : ℕ) (P : Image → Type 0) (old new : DiskView) → Throughout (IsOfRelay n) P old new → Throughout (IsOfRelay n) (λ image. Unit {0}) old new
bare n P old new run = widened (IsOfRelay n) (IsOfRelay n) P (λ image. Unit {0}) old new (λ g t. t) (λ image p beside. tt) run

-- ---- By faults

by_device : (fault : RelayFault) (tells : Type 0) (n : ℕ) (old new : DiskView) → (is_device fault ≡ true → IsUnjudged n old new) → (is_device fault ≡ false → tells → IsUnmarked n new.reads) → IsAt tells n fault old new
by_device fault tells n old new device plain = pick (is_device fault) refl where
  pick : (b : Bool) → is_device fault ≡ b → MatchBool b (IsUnjudged n old new) (tells → IsUnmarked n new.reads)
  pick true e = device e
  pick false e = plain e

shut_by : (fault : RelayFault) (tells : Type 0) (n : ℕ) (old new : DiskView) → (is_device fault ≡ true → IsUnjudged n old new) → (is_device fault ≡ false → tells → IsLeft n fault new.reads) → IsShut tells n fault old new
shut_by fault tells n old new device plain = pick (is_device fault) refl where
  pick : (b : Bool) → is_device fault ≡ b → MatchBool b (IsUnjudged n old new) (tells → IsLeft n fault new.reads)
  pick true e = device e
  pick false e = plain e

-- a device fault raised a count of a file of the log or of its relaying
pub unjudged_of : (fault : RelayFault) (n : ℕ) (old new : DiskView)
    → HasOwnCause (IsOfLog n) (fault ≡ relays.Log logs.Disk) old new → HasOwnCause (IsOfRelay n) (fault ≡ relays.State bundles.Disk) old new → is_device fault ≡ true → IsUnjudged n old new
unjudged_of relays.Incomplete n old new log state is = absurd (cc)
unjudged_of (relays.Log logs.Absent) n old new log state is = absurd (cc)
unjudged_of (relays.Log (logs.Damaged part)) n old new log state is = absurd (cc)
unjudged_of (relays.Log logs.Disk) n old new log state is = let rise = log.risen refl in (rise.0, inl rise.1, rise.2)
unjudged_of (relays.Log logs.NoMem) n old new log state is = absurd (cc)
unjudged_of (relays.State bundles.Disk) n old new log state is = let rise = state.risen refl in (rise.0, inr rise.1, rise.2)
unjudged_of (relays.State bundles.Broken) n old new log state is = absurd (cc)
unjudged_of (relays.State (bundles.Damaged part)) n old new log state is = absurd (cc)
unjudged_of (relays.State (bundles.Full part)) n old new log state is = absurd (cc)
unjudged_of (relays.State bundles.NoMem) n old new log state is = absurd (cc)
unjudged_of relays.NoMem n old new log state is = absurd (cc)

-- a fault that is neither of a failed call nor of memory is plain
pub plain_step : (fault : RelayFault) → is_device fault ≡ false → is_memory fault ≡ false → IsPlain fault
plain_step fault device memory = (
  λ e. let x : true ≡ false = sym (ap is_memory e) ∙ memory in cc,
  λ e. let x : true ≡ false = sym (ap is_device e) ∙ device in cc,
  λ e. let x : true ≡ false = sym (ap is_device e) ∙ device in cc,
)

some_bytes : (a b : List ℕ) → Some a ≡ Some b → a ≡ b
some_bytes a b e = cc

incomplete_not : (n : ℕ) (image : Image) → IsIncomplete n image → IsComplete n image → ⊥
incomplete_not n image one two =
    let same : one.body ≡ two.body = one_body one.body two.body one.entry.is_body two.entry.is_body (some_bytes (encoded one.body) (encoded two.body) (sym one.entry.last ∙ two.entry.last)) in
    one.kind (ap (λ (b : Body). b.kind) same ∙ two.kind)

absent_not : (n : ℕ) (image : Image) → Replays image n None → IsComplete n image → ⊥
absent_not n image none two = let e : None ≡ Some (encoded two.body) = sym none ∙ two.entry.last in cc

-- what an opening says of a log that it didn't open
pub record Shuts (tells : Type 0) (n : ℕ) (fault : RelayFault) (old new : DiskView) : Type 0 where
  pub word : IsOpenFault fault
  pub why : tells → IsOpenCause n old.reads fault
  pub reads : tells → IsLogFault fault → fault ≢ relays.NoMem → OnlyReads old new
  pub touches : tells → Throughout (IsOfRelay n) (λ image. Unit {0}) old new
  pub log : HasOwnCause (IsOfLog n) (fault ≡ relays.Log logs.Disk) old new
  pub state : HasOwnCause (IsOfRelay n) (fault ≡ relays.State bundles.Disk) old new

passed_by : (tells : Type 0) (n : ℕ) (fault : RelayFault) (old new : DiskView) → Shuts tells n fault old new → tells → is_passed fault ≡ true → IsComplete n old.reads → ⊥
passed_by tells n relays.Incomplete old new s told passed = incomplete_not n old.reads (s.why told)
passed_by tells n (relays.Log logs.Absent) old new s told passed = absent_not n old.reads (s.why told)
passed_by tells n (relays.Log (logs.Damaged part)) old new s told passed = absurd (cc)
passed_by tells n (relays.Log logs.Disk) old new s told passed = absurd (cc)
passed_by tells n (relays.Log logs.NoMem) old new s told passed = absurd (cc)
passed_by tells n (relays.State fault) old new s told passed = absurd (cc)
passed_by tells n relays.NoMem old new s told passed = absurd (cc)

-- a fault of the log, when nothing but it was read
log_fault : (fault : RelayFault) → IsOpenFault fault → is_device fault ≡ false → is_kept_damage fault ≡ false → IsLogFault fault
log_fault relays.Incomplete word device kept = tt
log_fault (relays.Log fault) word device kept = word
log_fault (relays.State bundles.Disk) word device kept = absurd (cc)
log_fault (relays.State bundles.Broken) word device kept = absurd word
log_fault (relays.State (bundles.Damaged part)) word device kept = absurd (cc)
log_fault (relays.State (bundles.Full part)) word device kept = absurd word
log_fault (relays.State bundles.NoMem) word device kept = absurd word
log_fault relays.NoMem word device kept = tt

no_memory : (fault : RelayFault) → is_memory fault ≡ false → fault ≢ relays.NoMem
no_memory fault memory e = let x : true ≡ false = sym (ap is_memory e) ∙ memory in cc

-- a mark that reads was there before
marked_before : (tells : Type 0) (n : ℕ) (fault : RelayFault) (old new : DiskView) → Shuts tells n fault old new → tells → is_device fault ≡ false → is_memory fault ≡ false → is_kept_damage fault ≡ false → IsRelayed n new.reads → IsRelayed n old.reads
marked_before tells n fault old new s told device memory kept marked =
    subst (λ (image : Image). IsRelayed n image) (same_image old new (s.reads told (log_fault fault s.word device kept) (no_memory fault memory))) marked

module _ (undamaged : (n : ℕ) (image : Image) (part : Part) → IsStateDamage n part image → IsMarked n image → ⊥) where
  shut_unmarked : (tells : Type 0) (n : ℕ) (fault : RelayFault) (old new : DiskView) → Shuts tells n fault old new → tells → is_device fault ≡ false → is_memory fault ≡ false → is_passed fault ≡ false → IsUnmarked n old.reads
  shut_unmarked tells n relays.Incomplete old new s told device memory passed = absurd (cc)
  shut_unmarked tells n (relays.Log logs.Absent) old new s told device memory passed = absurd (cc)
  shut_unmarked tells n (relays.Log (logs.Damaged part)) old new s told device memory passed = let d = s.why told in record { complete = d.complete; unmarked = d.unmarked }
  shut_unmarked tells n (relays.Log logs.Disk) old new s told device memory passed = absurd (cc)
  shut_unmarked tells n (relays.Log logs.NoMem) old new s told device memory passed = absurd s.word
  shut_unmarked tells n (relays.State bundles.Disk) old new s told device memory passed = absurd (cc)
  shut_unmarked tells n (relays.State bundles.Broken) old new s told device memory passed = absurd s.word
  shut_unmarked tells n (relays.State (bundles.Damaged part)) old new s told device memory passed = let d = s.why told in record { complete = d.0; unmarked = λ relayed. undamaged n old.reads part d.1 relayed.mark.mark }
  shut_unmarked tells n (relays.State (bundles.Full part)) old new s told device memory passed = absurd s.word
  shut_unmarked tells n (relays.State bundles.NoMem) old new s told device memory passed = absurd s.word
  shut_unmarked tells n relays.NoMem old new s told device memory passed = absurd (cc)

  shut_cause : (tells : Type 0) (n : ℕ) (fault : RelayFault) (old new : DiskView) → Shuts tells n fault old new → is_memory fault ≡ false → is_passed fault ≡ false → HasShutCause tells n fault old.reads
  shut_cause tells n relays.Incomplete old new s memory passed = absurd (cc)
  shut_cause tells n (relays.Log logs.Absent) old new s memory passed = absurd (cc)
  shut_cause tells n (relays.Log (logs.Damaged part)) old new s memory passed = λ told. s.why told
  shut_cause tells n (relays.Log logs.Disk) old new s memory passed = tt
  shut_cause tells n (relays.Log logs.NoMem) old new s memory passed = absurd s.word
  shut_cause tells n (relays.State bundles.Disk) old new s memory passed = tt
  shut_cause tells n (relays.State bundles.Broken) old new s memory passed = absurd s.word
  shut_cause tells n (relays.State (bundles.Damaged part)) old new s memory passed = λ told. let d = s.why told in (record { complete = d.0; unmarked = λ relayed. undamaged n old.reads part d.1 relayed.mark.mark }, d.1)
  shut_cause tells n (relays.State (bundles.Full part)) old new s memory passed = absurd s.word
  shut_cause tells n (relays.State bundles.NoMem) old new s memory passed = absurd s.word
  shut_cause tells n relays.NoMem old new s memory passed = absurd (cc)

  -- it is left
  shut_left : (tells : Type 0) (n : ℕ) (fault : RelayFault) (old new : DiskView) → Shuts tells n fault old new → tells → is_device fault ≡ false → is_memory fault ≡ false → is_passed fault ≡ false → IsLeft n fault new.reads
  shut_left tells n fault old new s told device memory passed = let was = shut_unmarked tells n fault old new s told device memory passed in record {
    complete = complete_after n old new (s.touches told) was.complete;
    unmarked = λ kept marked. was.unmarked (marked_before tells n fault old new s told device memory kept marked);
  }

  -- ---- A log that isn't opened

  pub judges_unopened : (tells : Type 0) (n : ℕ) (fault : RelayFault) (outcome : Outcome) (old new : DiskView) → (tells → Throughout (IsOfRelay n) (IsAsBefore n old) old new) → Shuts tells n fault old new → IsUnopened fault outcome → Judges tells n outcome old new
  judges_unopened tells n fault outcome old new opened s (whole, inl (passed, is)) = record {
    was = subst (λ (o : Outcome). WasAs tells n o None old.reads) (sym is) (refl, λ told. passed_by tells n fault old new s told passed);
    is = subst (λ (o : Outcome). IsAs tells n o old new) (sym is) (λ told complete. passed_by tells n fault old new s told passed (complete_before n old new (s.touches told) complete));
    rests = λ told. (opened told).each;
  }
  judges_unopened tells n fault outcome old new opened s (whole, inr (passed, is)) = record {
    was = subst (λ (o : Outcome). WasAs tells n o None old.reads) (sym is) (refl, shut_cause tells n fault old new s whole passed);
    is = subst (λ (o : Outcome). IsAs tells n o old new) (sym is)
        (shut_by fault tells n old new (unjudged_of fault n old new s.log s.state) (λ device told. shut_left tells n fault old new s told device whole passed));
    rests = λ told. (opened told).each;
  }

-- and nobody was connected to
pub handles_judged : {D : Type 0} (view : D → DiskView) (host : List ℕ) (tells links : Type 0) (n : ℕ) (outcome : Outcome) (old new : DiskView) (link : LinkState) (counts : LinkCounts) → Judges tells n outcome old new → Handles view host tells links n outcome old new link link counts counts
handles_judged view host tells links n outcome old new link counts j = record { conn = None; host_is = λ told. tt; was = j.was; is = j.is; conns = λ told. refl; went = j.rests }

nobody : IsSome {T = Connection} None → ⊥
nobody some = absurd (cc)

-- once a connection couldn't be made
pub next_judged : {D : Type 0} (view : D → DiskView) (host : List ℕ) (tells links : Type 0) (n : ℕ) (reached : Bool) (outcome : Outcome) (old new : DiskView) (link : LinkState) (counts : LinkCounts) → reached ≡ false → Judges tells n outcome old new
    → HandlesNext view host tells links n reached outcome old new link link counts counts
next_judged view host tells links n reached outcome old new link counts not j = record {
  one = record { conn = None; host_is = λ told. tt; was = j.was; is = j.is; conns = λ told. refl; went = j.rests };
  tried = λ some. absurd (nobody some);
  untried = λ un. not;
}

-- before that
pub next_handled : {D : Type 0} (view : D → DiskView) (host : List ℕ) (tells links : Type 0) (n : ℕ) (reached : Bool) (outcome : Outcome) (old new : DiskView) (link link' : LinkState) (counts counts' : LinkCounts) → reached ≡ true → outcome ≢ Untried
    → Handles view host tells links n outcome old new link link' counts counts' → HandlesNext view host tells links n reached outcome old new link link' counts counts'
next_handled view host tells links n reached outcome old new link link' counts counts' is tried one = record { one = one; tried = λ some. is; untried = λ un. absurd (tried un) }

pub if_ok_both : {T E : Type 0} (r : Result T E) (P Q R : T → Type 0) → ((x : T) → P x → Q x → R x) → IfOk r P → IfOk r Q → IfOk r R
if_ok_both (Ok x) P Q R step p q = step x p q
if_ok_both (Err e) P Q R step p q = tt

-- ---- A log that is marked

pub handles_marked : {D : Type 0} (view : D → DiskView) (host : List ℕ) (tells links : Type 0) (n : ℕ) (outcome : Outcome) (old new : DiskView) (link : LinkState) (counts : LinkCounts)
    → (tells → Throughout (IsOfRelay n) (IsAsBefore n old) old new) → (tells → IsRelayed n old.reads) → (tells → IsRelayed n new.reads)
    → outcome ≡ Marked → Handles view host tells links n outcome old new link link counts counts
handles_marked view host tells links n outcome old new link counts opened was now is = record {
  conn = None;
  host_is = λ told. tt;
  was = subst (λ (o : Outcome). WasAs tells n o None old.reads) (sym is) (refl, was);
  is = subst (λ (o : Outcome). IsAs tells n o old new) (sym is) now;
  conns = λ told. refl;
  went = λ told. (opened told).each;
}

-- ---- A log of a time

pub timed_after : (n total : ℕ) (old new : DiskView) → Throughout (IsOfRelay n) (λ image. Unit {0}) old new → IsTimed n total old.reads → IsTimed n total new.reads
timed_after n total old new run is = timed_alone n total old.reads new.reads (same_log n old new run) is

-- ---- A log that was connected to

some_conn : (conn : Connection) → IsSome (Some conn)
some_conn conn = refl

same_counts : (counts : LinkCounts) → Continues counts counts
same_counts counts = record { faults = omega arith; full = omega arith; waits = omega arith }

pub closed_after : (tells : Type 0) (host : List ℕ) (link link' : LinkState) (Went : Connection → Type 0) → Ran tells host link link' Went → tells → IsClosed link'
closed_after tells host link link' Went ran told = at (ran.added told).added where
  at : (link' ≡ record link { past = all_of link ++ ran.conn ∷ []; now = None }) ⊎ ((ran.conn.connected ≡ false) × (link' ≡ after_miss link)) → IsClosed link'
  at (inl is) = ap (λ (s : LinkState). s.now) is
  at (inr (refused, is)) = ap (λ (s : LinkState). s.now) is

-- a crash leaves what a whole relay keeps, if it stands on the disk and the log isn't relayed
abbrev pub Stood : {D : Type 0} → (D → DiskView) → Carriage D → Type 0
Stood view c = is_broken c.relay ≡ false → is_done (state_of c.relay) ≡ false → Stands c.relay (view c.disk) → IsDurable c.relay.number (aim_of c.relay) (state_of c.relay) (view c.disk)

-- what is said of the connection that was made for the log
pub record RanOne {D : Type 0} (view : D → DiskView) (host : List ℕ) (tells links : Type 0) (n : ℕ) (mid new : DiskView) (link link' : LinkState) (c : Carriage D) (end : Result RelayEnd RelayFault) : Type 0 where
  pub ran : Ran links host link link' (λ conn. Went tells links view c end conn)
  pub marked : tells → IfOk end (λ e. (e ≡ ends.Done) ↔ IsMarkedAt n (aim_of c.from).total new.reads)
  pub unmarked : tells → IfErr end (λ fault. IsPlain fault → IsMarkedAt n (aim_of c.from).total new.reads → ⊥)
  pub touches : tells → Throughout (IsOfRelay n) (λ image. Unit {0}) mid new
  pub log : HasOwnCause (IsOfLog n) (IsErrOf end (relays.Log logs.Disk)) mid new
  pub state : HasOwnCause (IsOfRelay n) (IsErrOf end (relays.State bundles.Disk)) mid new
  pub now : tells → OnlyNow new
  pub stood : Stood view c

broken_apart : (b : Bool) → b ≡ true → b ≡ false → ⊥
broken_apart b one two = let h : true ≡ false = sym one ∙ two in cc (h)

-- what the relay keeps at the end of the connection stands on the disk
module _ {D : Type 0} (tells links : Type 0) (view : D → DiskView) (c : Carriage D) (stood : Stood view c) where
  -- as the relay of the log's beginning
  at_from : (relay : RelayView) (disk : DiskView) (state : State) → relay.number ≡ c.from.number → aim_of relay ≡ aim_of c.from → IsDurable relay.number (aim_of relay) state disk → IsDurable c.from.number (aim_of c.from) state disk
  at_from relay disk state number aim kept = subst (λ (k : ℕ). IsDurable k (aim_of c.from) state disk) number (subst (λ (a : AimView). IsDurable relay.number a state disk) aim kept)

  spoke_durable : (talked : RelayView) (found : D) (events : List Event) → Spoke tells view c.began c.from talked found events → c.relay ≡ talked → c.disk ≡ found → tells → IsDurable c.from.number (aim_of c.from) (state_of c.relay) (view c.disk)
  spoke_durable talked found events spoke relay disk told =
      subst (λ (d : D). IsDurable c.from.number (aim_of c.from) (state_of c.relay) (view d)) (sym disk) (subst (λ (r : RelayView). IsDurable c.from.number (aim_of c.from) (state_of r) (view found)) (sym relay)
      (at_from talked (view found) (state_of talked) spoke.0.number spoke.0.aim (spoke.1 told).durable))

  by_end : (end : Result End (TalkFault RelayFault)) (answer : Result RelayEnd RelayFault) (talked : RelayView) (found : D) (conn : Connection) → Talked tells links view c.began c.from end talked found c.before c.after conn
      → Closes tells view c.from.number end talked found answer c.relay c.disk → tells → IsSure answer c.relay → IsDurable c.from.number (aim_of c.from) (state_of c.relay) (view c.disk)
  by_end (Ok ends_of.Over) answer talked found conn talk closed told sure = go closed.said
    where
      -- it was marked
      go : (answer ≡ Ok ends.Done) ⊎ (answer ≡ Err relays.NoMem) ⊎ (answer ≡ Err (relays.State bundles.Disk)) → IsDurable c.from.number (aim_of c.from) (state_of c.relay) (view c.disk)
      go (inl is) = λ image left. subst (λ (s : State). Keeps c.from.number (aim_of c.from) image s) (sym (closed.done is)) (subst (λ (a : AimView). Keeps c.from.number a image states.Done) talk.talks.0.aim (closed.durable told is image left))
      go (inr (inl is)) = absurd (broken_apart (is_broken c.relay) (closed.broken (λ ok. let x : Ok ends.Done ≡ Err relays.NoMem = sym ok ∙ is in cc (x))) (subst (λ (r : Result RelayEnd RelayFault). IsSure r c.relay) is sure).0)
      go (inr (inr is)) = absurd (broken_apart (is_broken c.relay) (closed.broken (λ ok. let x : Ok ends.Done ≡ Err (relays.State bundles.Disk) = sym ok ∙ is in cc (x))) (subst (λ (r : Result RelayEnd RelayFault). IsSure r c.relay) is sure).0)
  by_end (Ok (ends_of.Stopped cause)) answer talked found conn talk closed told sure = spoke_durable talked found talk.events talk.talks closed.same.0 closed.same.1 told
  by_end (Err talks.NoMem) answer talked found conn talk closed told sure = spoke_durable talked found talk.events talk.fails closed.same.0 closed.same.1 told
  by_end (Err (talks.Speaker fault)) answer talked found conn talk closed told sure =
      let whole = subst (λ (r : Result RelayEnd RelayFault). IsSure r c.relay) closed.said sure in
      let stands : Stands c.relay (view c.disk) = subst (λ (d : D). Stands c.relay (view d)) (sym closed.same.1) (subst (λ (r : RelayView). Stands r (view found)) (sym closed.same.0) (talk.fails.stands told (ap is_broken (sym closed.same.0) ∙ whole.0))) in
      at_from c.relay (view c.disk) (state_of c.relay) (ap (λ (r : RelayView). r.number) closed.same.0 ∙ talk.fails.number) (ap aim_of closed.same.0 ∙ talk.fails.aim) (stood whole.0 whole.1 stands)

  durable_end : (answer : Result RelayEnd RelayFault) (conn : Connection) → Went tells links view c answer conn → tells → IsSure answer c.relay → IsDurable c.from.number (aim_of c.from) (state_of c.relay) (view c.disk)
  durable_end answer conn went told sure = by_end went.end answer went.talked went.found conn went.talk went.closed told sure

module _ {D : Type 0} (view : D → DiskView) (host : List ℕ) (tells links : Type 0) (n : ℕ) (old mid new : DiskView) (link link' : LinkState) (c : Carriage D) (of_log : c.from.number ≡ n) (aimed : (aim_of c.from).host ≡ host) (began : view c.began ≡ mid) (ended : view c.disk ≡ new) (kept : tells → Keeps n (aim_of c.from) old.reads (state_of c.from))
    (opened : tells → Throughout (IsOfRelay n) (IsAsBefore n old) old mid) (up : (file : FileId) → old.faults file ≤ mid.faults file)
    (timed : tells → IsTimed n (aim_of c.from).total old.reads) (unmarked : tells → IsMarkedAt n (aim_of c.from).total old.reads → ⊥) (sound : tells → (part : Part) → IsViewDamage n part old.reads → ⊥) where
  first : tells → Throughout (IsOfRelay n) (λ image. Unit {0}) old mid
  first told = bare n (IsAsBefore n old) old mid (opened told)

  timed_now : (tells → Throughout (IsOfRelay n) (λ image. Unit {0}) mid new) → tells → IsTimed n (aim_of c.from).total new.reads
  timed_now second told = timed_after n (aim_of c.from).total mid new (second told) (timed_after n (aim_of c.from).total old mid (first told) (timed told))

  done_now : (tells → Throughout (IsOfRelay n) (λ image. Unit {0}) mid new) → tells → IsMarkedAt n (aim_of c.from).total new.reads → IsRelayed n new.reads
  done_now second told marked = relayed_of n (aim_of c.from).total new.reads (timed_now second told) marked

  unmarked_now : (tells → Throughout (IsOfRelay n) (λ image. Unit {0}) mid new) → tells → (IsMarkedAt n (aim_of c.from).total new.reads → ⊥) → IsUnmarked n new.reads
  unmarked_now second told not = let t = timed_now second told in record { complete = t.complete; unmarked = unrelayed_of n (aim_of c.from).total new.reads t not }

  was_sendable : tells → IsSendable n old.reads
  was_sendable told = record { unmarked = record { complete = (timed told).complete; unmarked = unrelayed_of n (aim_of c.from).total old.reads (timed told) (unmarked told) }; sound = sound told }

  -- its connection
  carried : {end : Result RelayEnd RelayFault} (one : RanOne view host tells links n mid new link link' c end) (Answers : Result RelayEnd RelayFault → Type 0) → Answers end → Carries tells links view c.before c.after old new n Answers one.ran.conn
  carried {end} one Answers is = record {
    carriage = c;
    number = of_log;
    host_is = λ told. aimed ∙ sym (one.ran.added told).is;
    timed = timed;
    kept = kept;
    same_began = λ told. subst (λ (d : DiskView). SameFiles n old.reads d.reads) (sym began) (same_log n old mid (first told));
    same_ended = λ told. subst (λ (d : DiskView). SameFiles n old.reads d.reads) (sym ended) (λ file own. same_log n mid new (one.touches told) file own ∙ same_log n old mid (first told) file own);
    earlier = same_counts c.before;
    later = same_counts c.after;
    answer = end;
    is = is;
    went = one.ran.went;
    turn = λ told. subst (λ (d : DiskView). InTurn n old d (view c.disk) new) (sym began) (subst (λ (d : DiskView). InTurn n old mid d new) (sym ended) (turn_one n old mid new (opened told) (one.touches told) (one.now told)));
    left = λ told sure. subst (λ (k : ℕ). IsDurable k (aim_of c.from) (state_of c.relay) new) of_log (subst (λ (d : DiskView). IsDurable c.from.number (aim_of c.from) (state_of c.relay) d) ended (durable_end tells links view c one.stood end one.ran.conn one.ran.went told sure));
  }

  pub handles_ended : (end : Result RelayEnd RelayFault) (outcome : Outcome) → RanOne view host tells links n mid new link link' c end → IsEnded end outcome → Handles view host tells links n outcome old new link link' c.before c.after
  handles_ended end outcome one is = record {
    conn = Some one.ran.conn;
    was = was end outcome is;
    is = now end outcome is one.marked one.unmarked one.log one.state;
    host_is = λ told. (one.ran.added told).is;
    conns = λ told. (one.ran.added told).added;
    went = carried one (λ answer. IsEnded answer outcome) is;
  }
    where
      was : (e : Result RelayEnd RelayFault) (o : Outcome) → IsEnded e o → WasAs tells n o (Some one.ran.conn) old.reads
      was (Ok ends.Done) o ended = subst (λ (x : Outcome). WasAs tells n x (Some one.ran.conn) old.reads) (sym ended) (some_conn one.ran.conn, was_sendable)
      was (Ok (ends.Pending cause)) o ended = subst (λ (x : Outcome). WasAs tells n x (Some one.ran.conn) old.reads) (sym ended) (some_conn one.ran.conn, was_sendable)
      was (Err fault) o ended = subst (λ (x : Outcome). WasAs tells n x (Some one.ran.conn) old.reads) (sym ended.1) (some_conn one.ran.conn, was_sendable)

      risen_log : (fault : RelayFault) → HasOwnCause (IsOfLog n) (IsErrOf {T = RelayEnd} (Err fault) (relays.Log logs.Disk)) mid new → HasOwnCause (IsOfLog n) (fault ≡ relays.Log logs.Disk) old new
      risen_log fault cause = cause_second (IsOfLog n) (fault ≡ relays.Log logs.Disk) old mid new up (cause_widened (IsOfLog n) (IsOfLog n) (IsErrOf {T = RelayEnd} (Err fault) (relays.Log logs.Disk)) (fault ≡ relays.Log logs.Disk) mid new (λ g own. own) (λ e. ap (λ (f : RelayFault). let y : Result RelayEnd RelayFault = Err f in y) e) cause)

      risen_state : (fault : RelayFault) → HasOwnCause (IsOfRelay n) (IsErrOf {T = RelayEnd} (Err fault) (relays.State bundles.Disk)) mid new → HasOwnCause (IsOfRelay n) (fault ≡ relays.State bundles.Disk) old new
      risen_state fault cause = cause_second (IsOfRelay n) (fault ≡ relays.State bundles.Disk) old mid new up (cause_widened (IsOfRelay n) (IsOfRelay n) (IsErrOf {T = RelayEnd} (Err fault) (relays.State bundles.Disk)) (fault ≡ relays.State bundles.Disk) mid new (λ g own. own) (λ e. ap (λ (f : RelayFault). let y : Result RelayEnd RelayFault = Err f in y) e) cause)

      now : (e : Result RelayEnd RelayFault) (o : Outcome) → IsEnded e o → (tells → IfOk e (λ x. (x ≡ ends.Done) ↔ IsMarkedAt n (aim_of c.from).total new.reads)) → (tells → IfErr e (λ fault. IsPlain fault → IsMarkedAt n (aim_of c.from).total new.reads → ⊥))
          → HasOwnCause (IsOfLog n) (IsErrOf e (relays.Log logs.Disk)) mid new → HasOwnCause (IsOfRelay n) (IsErrOf e (relays.State bundles.Disk)) mid new → IsAs tells n o old new
      now (Ok ends.Done) o ended marked plain log state = subst (λ (x : Outcome). IsAs tells n x old new) (sym ended) (λ told. done_now one.touches told ((marked told).0 refl))
      now (Ok (ends.Pending cause)) o ended marked plain log state =
          subst (λ (x : Outcome). IsAs tells n x old new) (sym ended) (λ told. unmarked_now one.touches told (λ is. let e : ends.Pending cause ≡ ends.Done = (marked told).1 is in cc))
      now (Err fault) o ended marked plain log state =
          subst (λ (x : Outcome). IsAs tells n x old new) (sym ended.1)
          (by_device fault tells n old new
          (unjudged_of fault n old new (risen_log fault log) (risen_state fault state))
          (λ device told. unmarked_now one.touches told (plain told (plain_step fault device ended.0))))

  -- memory ran out
  pub part_ended : (end : Result RelayEnd RelayFault) → RanOne view host tells links n mid new link link' c end → IsOutOfMemory end → HandlesPart view host tells links n old new link link' c.before c.after
  part_ended end one is = record {
    conn = Some one.ran.conn;
    host_is = λ told. (one.ran.added told).is;
    conns = λ told. (one.ran.added told).added;
    went = carried one IsOutOfMemory is;
  }

pub part_unopened : {D : Type 0} (view : D → DiskView) (host : List ℕ) (tells links : Type 0) (n : ℕ) (old new : DiskView) (link : LinkState) (counts : LinkCounts) → (tells → Throughout (IsOfRelay n) (IsAsBefore n old) old new) → HandlesPart view host tells links n old new link link counts counts
part_unopened view host tells links n old new link counts opened = record { conn = None; host_is = λ told. tt; conns = λ told. refl; went = λ told. (opened told).each }

pub if_err_map : {T E : Type 0} (r : Result T E) (P Q : E → Type 0) → ((x : E) → P x → Q x) → IfErr r P → IfErr r Q
if_err_map (Ok x) P Q step p = tt
if_err_map (Err e) P Q step p = step e p

pub any_err : {T E : Type 0} (r : Result T E) (Q : Type 0) → Q → IfErr r (λ e. Q)
any_err (Ok x) Q q = tt
any_err (Err e) Q q = q

-- ---- As the calls say it

pub err_of : {T : Type 0} (fault other : RelayFault) → fault ≡ other → IsErrOf {T = T} (Err fault) other
err_of {T} fault other is = ap (λ (x : RelayFault). let y : Result T RelayFault = Err x in y) is

pub cause_of_err : {T : Type 0} (Own : FileId → Type 0) (fault other : RelayFault) (old new : DiskView) → HasOwnCause Own (IsErrOf {T = T} (Err fault) other) old new → HasOwnCause Own (fault ≡ other) old new
cause_of_err {T} Own fault other old new cause = cause_widened Own Own (IsErrOf {T = T} (Err fault) other) (fault ≡ other) old new (λ g own. own) (λ e. err_of {T = T} fault other e) cause

pub one_at : {D : Type 0} (view : D → DiskView) (host : List ℕ) (tells links : Type 0) (n m : ℕ) (mid new : DiskView) (link link' : LinkState) (c : Carriage D) (end : Result RelayEnd RelayFault) → m ≡ n → RanOne view host tells links m mid new link link' c end
    → RanOne view host tells links n mid new link link' c end
one_at view host tells links n m mid new link link' c end is one = subst (λ (k : ℕ). RanOne view host tells links k mid new link link' c end) is one

done_is : (state : State) → is_done state ≡ true → state ≡ states.Done
done_is states.Nothing e = absurd (cc)
done_is (states.Kept kept) e = absurd (cc)
done_is states.Done e = refl

-- what is kept of a log that is relayed is its mark
module _ (once : (n : ℕ) (aim : AimView) (image : Image) (one two : State) → Keeps n aim image one → Keeps n aim image two → one ≡ two) (marked : (n : ℕ) (aim : AimView) (image : Image) → IsMarkedAt n aim.total image ↔ Keeps n aim image states.Done) where
  pub mark_kept : (n : ℕ) (aim : AimView) (image : Image) (state : State) → is_done state ≡ true → Keeps n aim image state → IsMarkedAt n aim.total image
  mark_kept n aim image state done keeps = (marked n aim image).1 (subst (λ (s : State). Keeps n aim image s) (done_is state done) keeps)

  pub no_mark_kept : (n : ℕ) (aim : AimView) (image : Image) (state : State) → is_done state ≡ false → Keeps n aim image state → IsMarkedAt n aim.total image → ⊥
  no_mark_kept n aim image state undone keeps is = let e : is_done state ≡ true = ap is_done (once n aim image state states.Done keeps ((marked n aim image).0 is)) in cc

-- ---- A log that is judged alone

pub judges_relayed : (tells : Type 0) (n : ℕ) (outcome : Outcome) (old new : DiskView) → (tells → Throughout (IsOfRelay n) (IsAsBefore n old) old new) → (tells → new.reads ≡ old.reads) → (tells → IsRelayed n old.reads) → outcome ≡ Marked → Judges tells n outcome old new
judges_relayed tells n outcome old new run same was is = record {
  was = subst (λ (o : Outcome). WasAs tells n o None old.reads) (sym is) (refl, was);
  is = subst (λ (o : Outcome). IsAs tells n o old new) (sym is) (λ told. subst (IsRelayed n) (sym (same told)) (was told));
  rests = λ told. (run told).each;
}

pub judges_untried : (tells : Type 0) (n : ℕ) (outcome : Outcome) (old new : DiskView) → (tells → Throughout (IsOfRelay n) (IsAsBefore n old) old new) → (tells → new.reads ≡ old.reads) → (tells → IsComplete n old.reads × (IsRelayed n old.reads → ⊥)) → outcome ≡ Untried → Judges tells n outcome old new
judges_untried tells n outcome old new run same was is = record {
  was = subst (λ (o : Outcome). WasAs tells n o None old.reads) (sym is) (refl, λ told. record { complete = (was told).0; unmarked = (was told).1 });
  is = subst (λ (o : Outcome). IsAs tells n o old new) (sym is) (λ told. subst (IsUnmarked n) (sym (same told)) (record { complete = (was told).0; unmarked = (was told).1 }));
  rests = λ told. (run told).each;
}

-- and so did both calls together
pub touches_both : (n m : ℕ) (P : Image → Type 0) (old mid new : DiskView) → m ≡ n → Throughout (IsOfRelay n) P old mid → Throughout (IsOfRelay m) (λ image. Unit {0}) mid new → Throughout (IsOfRelay n) (λ image. Unit {0}) old new
touches_both n m P old mid new is first second = followed (IsOfRelay n) (λ image. Unit {0}) old mid new (bare n P old mid first) (subst (λ (k : ℕ). Throughout (IsOfRelay k) (λ image. Unit {0}) mid new) is second)
