-- A run over the logs of a store, log by log.
use Rattle.std.proofs.Common.{◌≡◌, ◌∙◌, ℕ, zero, suc, ◌+◌, ◌-◌, ◌≤◌, ◌<◌, List, [], ◌∷◌, length, Option, Some, None, Result, Err, Bool, true, false, if◌then◌else◌, refl, sym, ap, subst, arith}
use Rattle.std.specs.Prelude.{MatchBool, IsSome, not, ◌&&◌}
use Rattle.lsv_disk.specs.declared.file.FileId.{FileId}
use Rattle.lsv_disk.specs.declared.file.Owner.{Owner}
use Rattle.lsv_disk.specs.declared.file.Owner.TheVariants as owners
use Rattle.lsv_disk.specs.Throughout.{Throughout}
use Rattle.lsv_disk.specs.View.{DiskView, Image, IsCrashImage}
use Rattle.lsv_disk.proofs.Composition.{OnlyNow, followed, risen_first, risen_second, started, widened}
use Rattle.lsv_bundle.specs.declared.fault.BundleFault.TheVariants as bundles
use Rattle.lsv_iolog.specs.declared.fault.ViewFault.TheVariants as logs
use Rattle.lsv_link.specs.declared.connection.Connection.{Connection}
use Rattle.lsv_link.specs.Link.{Continues, LinkCounts, LinkState, after_close, joined}
use Rattle.lsv_relay.specs.declared.fault.RelayFault.{RelayFault}
use Rattle.lsv_relay.specs.declared.fault.RelayFault.TheVariants as relays
use Rattle.lsv_relay.specs.declared.run.RelayEnd.{RelayEnd}
use Rattle.lsv_forward.specs.Logs.{AreAs, AreJoined, AreTo, AreTried, Handled, HasShutCause, IsAs, IsAt, IsLeft, IsSendable, IsShut, IsUnjudged, IsUnmarked, WasAs, WereAs, is_device, is_left, is_unreached, are_reached, left_in}
use Rattle.lsv_kept.specs.Kept.{IsAsBefore, IsOfRelay}
use Rattle.lsv_kept.proofs.Unique.{keeps_alone}
use Rattle.lsv_relay.specs.Complete.{IsComplete, IsRelayed}
use Rattle.lsv_relay.specs.Value.{aim_of, state_of}
use Rattle.lsv_seq.specs.Drawn.{entry_at, viewed}
use Rattle.lsv_seq.specs.declared.fault.SeqFault.TheVariants.{Damaged}
use Rattle.lsv_forward.specs.Numbers.{HasLaneCause, HasNumbersCause, IsLane, lane_of, last_number}
use Rattle.lsv_forward.specs.declared.fault.NumbersFault.{NumbersFault}
use Rattle.lsv_forward.specs.declared.fault.NumbersFault.TheVariants as numbers
use Rattle.lsv_forward.specs.Carried.{AreCarried, AtEach, Carries, InTurn, IsCarried, IsEnded, IsOutOfMemory}
use Rattle.lsv_forward.specs.Inner.{Handles, HandlesPart}
use Rattle.lsv_forward.specs.Run.{Forwards, IsClosed, IsOfRelays, Stops, TouchesRelays}
use Rattle.lsv_forward.specs.declared.outcome.Outcome.{Outcome}
use Rattle.lsv_forward.specs.declared.outcome.Outcome.TheVariants.{Passed, Marked, Relayed, Pending, Untried, Unopened, Failed}
use Rattle.lsv_forward.proofs.Apart.{SameOf, complete_alone, relayed_alone, state_damage_alone, timed_alone, view_damage_alone}
use Rattle.lsv_forward.proofs.Moments.{Laws, SameStart, as_before_files, before_later, durable_later, since_before, start_before, turn_later, turn_since, turn_start}

-- ---- Counts

pub continues_trans : (old mid new : LinkCounts) → Continues old mid → Continues mid new → Continues old new
continues_trans old mid new first second = record {
  faults = omega (arith, first.faults, second.faults);
  full = omega (arith, first.full, second.full);
  waits = omega (arith, first.waits, second.waits);
}

pub continues_same : (old new : LinkCounts) → new ≡ old → Continues old new
continues_same old new same = record {
  faults = let e : new.faults ≡ old.faults = ap (λ (c : LinkCounts). c.faults) same in omega arith;
  full = let e : new.full ≡ old.full = ap (λ (c : LinkCounts). c.full) same in omega arith;
  waits = let e : new.waits ≡ old.waits = ap (λ (c : LinkCounts). c.waits) same in omega arith;
}

-- ---- Images with the same files of a log and of its relaying

pub record SameAt (n : ℕ) (image other : Image) : Type 0 where
  pub log : SameOf (owners.Log n) image other
  pub relay : SameOf (owners.Relay n) image other

same_back : (owner : Owner) (image other : Image) → SameOf owner image other → SameOf owner other image
same_back owner image other same file own = sym (same file own)

same_at : (n : ℕ) (image other : Image) → other ≡ image → SameAt n image other
same_at n image other is = record { log = λ file own. ap (λ (i : Image). i file) is; relay = λ file own. ap (λ (i : Image). i file) is }

module _ (n : ℕ) (image other : Image) (same : SameAt n image other) where
  incomplete_same : (IsComplete n image → ⊥) → IsComplete n other → ⊥
  incomplete_same not is = not (complete_alone n other image (same_back (owners.Log n) image other same.log) is)

  done_same : IsRelayed n image → IsRelayed n other
  done_same is = relayed_alone n image other same.log same.relay is

  -- and a mark on the other is one here
  done_back : IsRelayed n other → IsRelayed n image
  done_back is = relayed_alone n other image (same_back (owners.Log n) image other same.log) (same_back (owners.Relay n) image other same.relay) is

  unmarked_same : IsUnmarked n image → IsUnmarked n other
  unmarked_same is = record {
    complete = complete_alone n image other same.log is.complete;
    unmarked = λ marked. is.unmarked (done_back marked);
  }

  sendable_same : IsSendable n image → IsSendable n other
  sendable_same is = record {
    unmarked = unmarked_same is.unmarked;
    sound = λ part damage. is.sound part (view_damage_alone n part other image (same_back (owners.Log n) image other same.log) damage);
  }

  left_same : (fault : RelayFault) → IsLeft n fault image → IsLeft n fault other
  left_same fault is = record {
    complete = complete_alone n image other same.log is.complete;
    unmarked = λ kept marked. is.unmarked kept (done_back marked);
  }

-- if the disk tells its content, both images have the same files of a log and of its relaying
module _ (tells : Type 0) (n : ℕ) (image other : Image) (same : tells → SameAt n image other) where
  shut_cause_same : (fault : RelayFault) → HasShutCause tells n fault image → HasShutCause tells n fault other
  shut_cause_same relays.Incomplete cause = cause
  shut_cause_same (relays.Log logs.Absent) cause = cause
  shut_cause_same (relays.Log (logs.Damaged part)) cause = λ told. let s = same told in let c = cause told in record {
    complete = complete_alone n image other s.log c.complete;
    unmarked = λ marked. c.unmarked (done_back n image other s marked);
    damage = view_damage_alone n part image other s.log c.damage;
  }
  shut_cause_same (relays.Log logs.Disk) cause = cause
  shut_cause_same (relays.Log logs.NoMem) cause = cause
  shut_cause_same (relays.State bundles.Disk) cause = cause
  shut_cause_same (relays.State bundles.Broken) cause = cause
  shut_cause_same (relays.State (bundles.Damaged part)) cause = λ told. (unmarked_same n image other (same told) (cause told).0, state_damage_alone n part image other (same told).relay (cause told).1)
  shut_cause_same (relays.State (bundles.Full part)) cause = cause
  shut_cause_same (relays.State bundles.NoMem) cause = cause
  shut_cause_same relays.NoMem cause = cause

  was_same : (outcome : Outcome) (conn : Option Connection) → WasAs tells n outcome conn image → WasAs tells n outcome conn other
  was_same Passed conn w = (w.0, λ told. incomplete_same n image other (same told) (w.1 told))
  was_same Marked conn w = (w.0, λ told. done_same n image other (same told) (w.1 told))
  was_same Relayed conn w = (w.0, λ told. sendable_same n image other (same told) (w.1 told))
  was_same (Pending cause) conn w = (w.0, λ told. sendable_same n image other (same told) (w.1 told))
  was_same Untried conn w = (w.0, λ told. unmarked_same n image other (same told) (w.1 told))
  was_same (Unopened fault) conn w = (w.0, shut_cause_same fault w.1)
  was_same (Failed fault) conn w = (w.0, λ told. sendable_same n image other (same told) (w.1 told))

-- ---- What went over the connections, later and from earlier on

module _ {D : Type 0} (tells links : Type 0) (view : D → DiskView) (n : ℕ) (Answers : Result RelayEnd RelayFault → Type 0) where
  -- the calls after it leave its files alone
  carried_later : (from mid to : LinkCounts) (old now later : DiskView) (Touched : FileId → Type 0) (conn : Option Connection) → (tells → Laws now) → ((file : FileId) → IsOfRelay n file → Touched file → ⊥) → (tells → old.moment ≤ now.moment)
      → (tells → Throughout Touched (λ image. Unit {0}) now later) → Continues mid to → IsCarried tells links view from mid old now n Answers conn → IsCarried tells links view from to old later n Answers conn
  carried_later from mid to old now later Touched None laws apart time run up carried = λ told. before_later n Touched old now later (laws told) apart (time told) (run told) (carried told)
  carried_later from mid to old now later Touched (Some conn) laws apart time run up c = record {
    carriage = c.carriage;
    number = c.number;
    host_is = c.host_is;
    timed = c.timed;
    kept = c.kept;
    same_began = c.same_began;
    same_ended = c.same_ended;
    earlier = c.earlier;
    later = continues_trans c.carriage.after mid to c.later up;
    answer = c.answer;
    is = c.is;
    went = c.went;
    turn = λ told. turn_later n Touched (view c.carriage.began) (view c.carriage.disk) old now later (laws told) apart (run told) (c.turn told);
    left = λ told sure. durable_later n Touched (aim_of c.carriage.from) (state_of c.carriage.relay) now later (laws told) apart (run told) (c.left told sure);
  }

  -- the disk and the link were as they were before some calls
  moved : (from mid to : LinkCounts) (old now later : DiskView) (conn : Connection) → (tells → SameAt n now.reads old.reads) → Continues from mid
      → ((began disk : DiskView) → tells → InTurn n now began disk later → InTurn n old began disk later)
      → Carries tells links view mid to now later n Answers conn → Carries tells links view from to old later n Answers conn
  moved from mid to old now later conn same up shift c = record {
    carriage = c.carriage;
    number = c.number;
    host_is = c.host_is;
    timed = λ told. timed_alone n (aim_of c.carriage.from).total now.reads old.reads (same told).log (c.timed told);
    kept = λ told. keeps_alone n (aim_of c.carriage.from) now.reads old.reads (state_of c.carriage.from) (same told).relay (c.kept told);
    same_began = λ told file own. c.same_began told file own ∙ sym ((same told).log file own);
    same_ended = λ told file own. c.same_ended told file own ∙ sym ((same told).log file own);
    earlier = continues_trans from mid c.carriage.before up c.earlier;
    later = c.later;
    answer = c.answer;
    is = c.is;
    went = c.went;
    turn = λ told. shift (view c.carriage.began) (view c.carriage.disk) told (c.turn told);
    left = c.left;
  }

  -- the calls before it left its files alone
  carried_since : (from mid to : LinkCounts) (old now later : DiskView) (Touched Own : FileId → Type 0) (conn : Option Connection) → (tells → IsCrashImage old old.reads) → ((file : FileId) → IsOfRelay n file → Touched file → ⊥)
      → (tells → Throughout Touched (λ image. Unit {0}) old now) → (tells → Throughout Own (λ image. Unit {0}) now later) → (tells → SameAt n now.reads old.reads) → Continues from mid
      → IsCarried tells links view mid to now later n Answers conn → IsCarried tells links view from to old later n Answers conn
  carried_since from mid to old now later Touched Own None itself apart first second same up carried = λ told. since_before n Touched Own old now later (itself told) apart (first told) (second told) (carried told)
  carried_since from mid to old now later Touched Own (Some conn) itself apart first second same up c =
      moved from mid to old now later conn same up (λ began disk told turn. turn_since n Touched Own began disk old now later (itself told) apart (first told) (second told) turn) c

  -- the calls before it changed nothing
  carried_start : (from mid to : LinkCounts) (old now later : DiskView) (Own : FileId → Type 0) (conn : Option Connection) → (tells → SameStart old now) → (tells → Throughout Own (λ image. Unit {0}) now later) → Continues from mid
      → IsCarried tells links view mid to now later n Answers conn → IsCarried tells links view from to old later n Answers conn
  carried_start from mid to old now later Own None start second up carried = λ told. start_before n Own old now later (start told) (second told) (carried told)
  carried_start from mid to old now later Own (Some conn) start second up c =
      moved from mid to old now later conn (λ told. same_at n now.reads old.reads (sym (start told).reads)) up (λ began disk told turn. turn_start n Own began disk old now later (start told) (second told) turn) c

are_carried_later : {D : Type 0} (tells links : Type 0) (view : D → DiskView) (from mid to : LinkCounts) (old now later : DiskView) (Touched : FileId → Type 0) (logs : List Handled) → (tells → Laws now) → ((k : ℕ) → k ≤ length logs → (file : FileId) → IsOfRelay k file → Touched file → ⊥) → (tells → old.moment ≤ now.moment)
    → (tells → Throughout Touched (λ image. Unit {0}) now later) → Continues mid to → AreCarried tells links view from mid old now logs → AreCarried tells links view from to old later logs
are_carried_later tells links view from mid to old now later Touched [] laws apart time run up are = tt
are_carried_later tells links view from mid to old now later Touched (log ∷ before) laws apart time run up are = (
  carried_later tells links view (suc (length before)) (λ answer. IsEnded answer log.outcome) from mid to old now later Touched log.conn laws (apart (suc (length before)) (omega arith)) time run up are.0,
  are_carried_later tells links view from mid to old now later Touched before laws (λ k less. apart k (omega arith)) time run up are.1,
)

are_carried_start : {D : Type 0} (tells links : Type 0) (view : D → DiskView) (from mid to : LinkCounts) (old now later : DiskView) (Own : FileId → Type 0) (logs : List Handled) → (tells → SameStart old now) → (tells → Throughout Own (λ image. Unit {0}) now later) → Continues from mid
    → AreCarried tells links view mid to now later logs → AreCarried tells links view from to old later logs
are_carried_start tells links view from mid to old now later Own [] start second up are = tt
are_carried_start tells links view from mid to old now later Own (log ∷ before) start second up are = (
  carried_start tells links view (suc (length before)) (λ answer. IsEnded answer log.outcome) from mid to old now later Own log.conn start second up are.0,
  are_carried_start tells links view from mid to old now later Own before start second up are.1,
)

-- ---- An outcome, later and from earlier on

-- a count that has risen has so by a later moment
unjudged_later : (n : ℕ) (old now later : DiskView) → ((file : FileId) → now.faults file ≤ later.faults file) → IsUnjudged n old now → IsUnjudged n old later
unjudged_later n old now later up (file, own, rise) = (file, own, risen_first (old.faults file) (now.faults file) (later.faults file) rise (up file))

unjudged_since : (n : ℕ) (old now later : DiskView) → ((file : FileId) → old.faults file ≤ now.faults file) → IsUnjudged n now later → IsUnjudged n old later
unjudged_since n old now later up (file, own, rise) = (file, own, risen_second (old.faults file) (now.faults file) (later.faults file) (up file) rise)

match_map : (b : Bool) (P Q R S : Type 0) → (P → R) → (Q → S) → MatchBool b P Q → MatchBool b R S
match_map true P Q R S f g m = f m
match_map false P Q R S f g m = g m

module _ (tells : Type 0) (n : ℕ) (old now later : DiskView) (same : tells → SameAt n now.reads later.reads) (up : (file : FileId) → now.faults file ≤ later.faults file) where
  at_later : (fault : RelayFault) → IsAt tells n fault old now → IsAt tells n fault old later
  at_later fault = match_map (is_device fault) (IsUnjudged n old now) (tells → IsUnmarked n now.reads) (IsUnjudged n old later) (tells → IsUnmarked n later.reads) (unjudged_later n old now later up) (λ is told. unmarked_same n now.reads later.reads (same told) (is told))

  shut_later : (fault : RelayFault) → IsShut tells n fault old now → IsShut tells n fault old later
  shut_later fault = match_map (is_device fault) (IsUnjudged n old now) (tells → IsLeft n fault now.reads) (IsUnjudged n old later) (tells → IsLeft n fault later.reads) (unjudged_later n old now later up) (λ is told. left_same n now.reads later.reads (same told) fault (is told))

  as_later : (outcome : Outcome) → IsAs tells n outcome old now → IsAs tells n outcome old later
  as_later Passed is = λ told. incomplete_same n now.reads later.reads (same told) (is told)
  as_later Marked is = λ told. done_same n now.reads later.reads (same told) (is told)
  as_later Relayed is = λ told. done_same n now.reads later.reads (same told) (is told)
  as_later (Pending cause) is = λ told. unmarked_same n now.reads later.reads (same told) (is told)
  as_later Untried is = λ told. unmarked_same n now.reads later.reads (same told) (is told)
  as_later (Unopened fault) is = shut_later fault is
  as_later (Failed fault) is = at_later fault is

module _ (tells : Type 0) (n : ℕ) (old now later : DiskView) (up : (file : FileId) → old.faults file ≤ now.faults file) where
  at_since : (fault : RelayFault) → IsAt tells n fault now later → IsAt tells n fault old later
  at_since fault = match_map (is_device fault) (IsUnjudged n now later) (tells → IsUnmarked n later.reads) (IsUnjudged n old later) (tells → IsUnmarked n later.reads) (unjudged_since n old now later up) (λ m. m)

  as_since : (outcome : Outcome) → IsAs tells n outcome now later → IsAs tells n outcome old later
  as_since Passed is = is
  as_since Marked is = is
  as_since Relayed is = is
  as_since (Pending cause) is = is
  as_since Untried is = is
  as_since (Unopened fault) is = match_map (is_device fault) (IsUnjudged n now later) (tells → IsLeft n fault later.reads) (IsUnjudged n old later) (tells → IsLeft n fault later.reads) (unjudged_since n old now later up) (λ m. m) is
  as_since (Failed fault) is = at_since fault is

are_later : (tells : Type 0) (logs : List Handled) (old now later : DiskView) → (tells → (k : ℕ) → k ≤ length logs → SameAt k now.reads later.reads) → ((file : FileId) → now.faults file ≤ later.faults file) → AreAs tells logs old now → AreAs tells logs old later
are_later tells [] old now later same up are = tt
are_later tells (log ∷ before) old now later same up are = (
  as_later tells (suc (length before)) old now later (λ told. same told (suc (length before)) (omega arith)) up log.outcome are.0,
  are_later tells before old now later (λ told k less. same told k (omega arith)) up are.1,
)

-- ---- The files of relaying

-- the file is one of what is kept of the relaying of a log up to n
abbrev pub IsUpTo : ℕ → FileId → Type 0
IsUpTo n file = (m : ℕ) × (m ≤ n) × IsOfRelay m file

relay_number : (m n : ℕ) → owners.Relay m ≡ owners.Relay n → m ≡ n
relay_number m n e = cc

log_no_relay : (m n : ℕ) → owners.Log m ≡ owners.Relay n → ⊥
log_no_relay m n e = cc

-- calls on files of relaying up to n left the log n + 1 and its relaying alone
same_above : (n k : ℕ) (old now : DiskView) → n < k → Throughout (IsUpTo n) (λ image. Unit {0}) old now → SameAt k old.reads now.reads
same_above n k old now above run = record {
  log = λ file own. run.elsewhere.same file (λ t. log_no_relay k t.0 (sym own ∙ t.2));
  relay = λ file own. run.elsewhere.same file (λ t. let same : t.0 ≡ k = relay_number t.0 k (sym t.2 ∙ own) in let few : t.0 ≤ n = t.1 in absurd (let f : ⊥ = omega arith in f));
}

-- calls on files of the relaying of n left each other log and its relaying alone
same_but : (n k : ℕ) (now later : DiskView) → k < n → Throughout (IsOfRelay n) (λ image. Unit {0}) now later → SameAt k now.reads later.reads
same_but n k now later below run = record {
  log = λ file own. run.elsewhere.same file (λ t. log_no_relay k n (sym own ∙ t));
  relay = λ file own. run.elsewhere.same file (λ t. let same : k ≡ n = relay_number k n (sym own ∙ t) in absurd (let f : ⊥ = omega arith in f));
}

up_to_more : (n : ℕ) (old now later : DiskView) → Throughout (IsUpTo n) (λ image. Unit {0}) old now → Throughout (IsOfRelay (n + 1)) (λ image. Unit {0}) now later → Throughout (IsUpTo (n + 1)) (λ image. Unit {0}) old later
up_to_more n old now later first second =
    followed (IsUpTo (n + 1)) (λ image. Unit {0}) old now later
    (widened (IsUpTo n) (IsUpTo (n + 1)) (λ image. Unit {0}) (λ image. Unit {0}) old now (λ g t. (t.0, (let few : t.0 ≤ n = t.1 in omega arith), t.2)) (λ image p beside. tt) first)
    (widened (IsOfRelay (n + 1)) (IsUpTo (n + 1)) (λ image. Unit {0}) (λ image. Unit {0}) now later (λ g t. (n + 1, omega arith, t)) (λ image p beside. tt) second)

-- a crash leaves of a log that wasn't reached what one left before
untouched_above : (n k : ℕ) (old now : DiskView) → IsCrashImage old old.reads → n < k → Throughout (IsUpTo n) (λ image. Unit {0}) old now → AtEach (IsAsBefore k old) old now
untouched_above n k old now itself above run j image from to left =
    as_before_files k old image itself (λ file own. run.beside j image from to left file (λ t. let same : t.0 ≡ k = relay_number t.0 k (sym t.2 ∙ own) in let few : t.0 ≤ n = t.1 in let f : ⊥ = omega arith in f))

pub touches_relays : (n : ℕ) (old now : DiskView) → Throughout (IsUpTo n) (λ image. Unit {0}) old now → TouchesRelays old now
touches_relays n old now run = widened (IsUpTo n) IsOfRelays (λ image. Unit {0}) (λ image. Unit {0}) old now (λ g t. (t.0, t.2)) (λ image p beside. tt) run

-- ---- The loop

-- the logs up to n were handled
pub record IsGoing {D : Type 0} (view : D → DiskView) (host : List ℕ) (tells links : Type 0) (n left : ℕ) (reached : Bool) (old now : DiskView) (link link' : LinkState) (counts counts' : LinkCounts) : Type 0 where
  pub logs : List Handled
  pub count : length logs ≡ n
  pub left_is : left ≡ left_in logs
  pub few : left ≤ n
  pub reach : reached ≡ are_reached logs
  pub tried : AreTried logs
  pub were : WereAs tells logs old.reads
  pub are : AreAs tells logs old now
  pub hosts : links → AreTo host logs
  pub conns : links → AreJoined logs (after_close link) link'
  pub went : AreCarried tells links view counts counts' old now logs
  pub closed : links → IsClosed link'
  pub files : tells → Throughout (IsUpTo n) (λ image. Unit {0}) old now
  pub monotone : (file : FileId) → old.faults file ≤ now.faults file
  pub continues : Continues counts counts'

-- and no further number than the last
pub record IsRunning {D : Type 0} (view : D → DiskView) (host : List ℕ) (tells links : Type 0) (last n left : ℕ) (reached : Bool) (old now : DiskView) (link link' : LinkState) (counts counts' : LinkCounts) : Type 0 where
  pub within : n ≤ last
  pub going : IsGoing view host tells links n left reached old now link link' counts counts'

-- a link without an open connection is as after a close
closed_same : (link : LinkState) → IsClosed link → link ≡ after_close link
closed_same link closed =
    ap (λ (o : Option Connection). let s : LinkState = record link { now = o } in s) closed
    ∙ sym (ap (λ (o : Option Connection). let s : LinkState = record link { past = joined link.past o; now = None } in s) closed)

pub going_starts : {D : Type 0} (view : D → DiskView) (host : List ℕ) (tells links : Type 0) (disk : DiskView) (link : LinkState) (counts : LinkCounts) → (tells → OnlyNow disk) → (links → IsClosed link) → IsGoing view host tells links 0 0 true disk disk link link counts counts
going_starts view host tells links disk link counts now closed = record {
  logs = [];
  count = refl;
  left_is = refl;
  few = omega arith;
  reach = refl;
  tried = tt;
  were = tt;
  are = tt;
  hosts = λ told. tt;
  conns = λ told. closed_same link (closed told);
  went = tt;
  closed = closed;
  files = λ told. started (IsUpTo 0) (λ image. Unit {0}) disk (now told) (λ image is. tt);
  monotone = λ file. omega arith;
  continues = record { faults = omega arith; full = omega arith; waits = omega arith };
}

pub at_most_one : (b : Bool) → (if b then 1 else 0) ≤ 1
at_most_one true = omega arith
at_most_one false = omega arith

abbrev pub more_left : Outcome → ℕ
more_left outcome = if is_left outcome then 1 else 0

-- nothing of the relaying of n + 1 is of a relaying up to n
apart_above : (n k : ℕ) → n < k → (file : FileId) → IsOfRelay k file → IsUpTo n file → ⊥
apart_above n k above file own t = let same : t.0 ≡ k = relay_number t.0 k (sym t.2 ∙ own) in let few : t.0 ≤ n = t.1 in let f : ⊥ = omega arith in f

apart_below : (n k : ℕ) → k < n → (file : FileId) → IsOfRelay k file → IsOfRelay n file → ⊥
apart_below n k below file own t = let same : k ≡ n = relay_number k n (sym own ∙ t) in let f : ⊥ = omega arith in f

and_true : (b : Bool) → b ≡ (b && true)
and_true true = refl
and_true false = refl

nobody : IsSome {T = Connection} None → ⊥
nobody some = absurd (cc)

passed_untried : Passed ≡ Untried → ⊥
passed_untried is = absurd (cc)

module _ {D : Type 0} (view : D → DiskView) (host : List ℕ) (tells links : Type 0) (n left : ℕ) (reached : Bool) (old now later : DiskView) (link link' link'' : LinkState) (counts counts' counts'' : LinkCounts)
    (going : IsGoing view host tells links n left reached old now link link' counts counts') (itself : tells → IsCrashImage old old.reads) (laws : tells → Laws now)
    (files : tells → Throughout (IsOfRelay (n + 1)) (λ image. Unit {0}) now later) (up : (file : FileId) → now.faults file ≤ later.faults file) (on : Continues counts' counts'') where
  next : n + 1 ≡ suc (length going.logs)
  next = let c = going.count in omega arith

  as_before : tells → SameAt (n + 1) now.reads old.reads
  as_before told = back (same_above n (n + 1) old now (omega arith) (going.files told))
    where
      back : SameAt (n + 1) old.reads now.reads → SameAt (n + 1) now.reads old.reads
      back same = record { log = same_back (owners.Log (n + 1)) old.reads now.reads same.log; relay = same_back (owners.Relay (n + 1)) old.reads now.reads same.relay }

  -- the log at hand, from the start on
  part_since : (Answers : Result RelayEnd RelayFault → Type 0) (conn : Option Connection) → IsCarried tells links view counts' counts'' now later (n + 1) Answers conn → IsCarried tells links view counts counts'' old later (suc (length going.logs)) Answers conn
  part_since Answers conn part = subst (λ (k : ℕ). IsCarried tells links view counts counts'' old later k Answers conn) next
      (carried_since tells links view (n + 1) Answers counts counts' counts'' old now later (IsUpTo n) (IsOfRelay (n + 1)) conn itself (apart_above n (n + 1) (omega arith)) going.files files as_before going.continues part)

  -- the logs before it, to its end
  were_carried : AreCarried tells links view counts counts'' old later going.logs
  were_carried = are_carried_later tells links view counts counts' counts'' old now later (IsOfRelay (n + 1)) going.logs laws (λ k less. apart_below (n + 1) k (let c = going.count in omega arith)) (λ told. (going.files told).later) files on going.went

  were_as : AreAs tells going.logs old later
  were_as = are_later tells going.logs old now later (λ told k less. same_but (n + 1) k now later (let c = going.count in omega arith) (files told)) up going.are

  pub going_goes_on : (left' : ℕ) (reached' : Bool) (outcome : Outcome) → reached' ≡ (reached && not (is_unreached outcome)) → (one : Handles view host tells links (n + 1) outcome now later link' link'' counts' counts'') → (IsSome one.conn → reached ≡ true) → (outcome ≡ Untried → reached ≡ false) → (links → IsClosed link'') → left' ≡ left + more_left outcome → left' ≤ n + 1
      → IsGoing view host tells links (n + 1) left' reached' old later link link'' counts counts''
  going_goes_on left' reached' outcome reach one tried untried closed left_more few = record {
    logs = record { outcome = outcome; conn = one.conn } ∷ going.logs;
    count = let c = going.count in omega arith;
    left_is = left_more ∙ ap (λ (k : ℕ). k + more_left outcome) going.left_is;
    few = few;
    reach = reach ∙ ap (λ (b : Bool). b && not (is_unreached outcome)) going.reach;
    tried = (λ some. sym going.reach ∙ tried some, λ un. sym going.reach ∙ untried un, going.tried);
    were = (was, going.were);
    are = (is, were_as);
    hosts = λ told. (one.host_is told, going.hosts told);
    conns = λ told. (link', going.conns told, one.conns told);
    went = (part_since (λ answer. IsEnded answer outcome) one.conn one.went, were_carried);
    closed = closed;
    files = λ told. up_to_more n old now later (going.files told) (files told);
    monotone = λ file. omega (arith, going.monotone file, up file);
    continues = continues_trans counts counts' counts'' going.continues on;
  }
    where
      was : WasAs tells (suc (length going.logs)) outcome one.conn old.reads
      was = subst (λ (k : ℕ). WasAs tells k outcome one.conn old.reads) next (was_same tells (n + 1) now.reads old.reads as_before outcome one.conn one.was)

      is : IsAs tells (suc (length going.logs)) outcome old later
      is = subst (λ (k : ℕ). IsAs tells k outcome old later) next (as_since tells (n + 1) old now later going.monotone outcome one.is)

  -- memory ran out at the log at hand
  pub going_stops : HandlesPart view host tells links (n + 1) now later link' link'' counts' counts'' → Stops view host tells links old later link link'' counts counts''
  going_stops part = record {
    logs = going.logs;
    were = going.were;
    are = were_as;
    tried = going.tried;
    went = were_carried;
    conn = part.conn;
    part = part_since IsOutOfMemory part.conn part.went;
    hosts = λ told. (going.hosts told, part.host_is told);
    conns = λ told. (link', going.conns told, part.conns told);
    above = λ told k above. untouched_above (n + 1) k old later (itself told) (let c = going.count in omega arith) (up_to_more n old now later (going.files told) (files told));
  }

-- a number without a complete log is passed over
module _ {D : Type 0} (view : D → DiskView) (host : List ℕ) (tells links : Type 0) (left : ℕ) (reached : Bool) (old now : DiskView) (link link' : LinkState) (counts counts' : LinkCounts) (itself : tells → IsCrashImage old old.reads) (laws : tells → Laws now) (only : tells → OnlyNow now) where
  passes_one : (n : ℕ) → IsGoing view host tells links n left reached old now link link' counts counts' → (tells → IsComplete (n + 1) now.reads → ⊥) → IsGoing view host tells links (n + 1) left reached old now link link' counts counts'
  passes_one n going none =
      going_goes_on view host tells links n left reached old now now link link' link' counts counts' counts' going itself laws
      (λ told. started (IsOfRelay (n + 1)) (λ image. Unit {0}) now (only told) (λ image is. tt)) (λ file. omega arith) (continues_same counts' counts' refl)
      left reached Passed (and_true reached) one (λ some. absurd (nobody some)) (λ un. absurd (passed_untried un)) going.closed (let z : more_left Passed ≡ 0 = refl in omega (arith, z)) (let few : left ≤ n = going.few in omega (arith, few))
    where
      one : Handles view host tells links (n + 1) Passed now now link' link' counts' counts'
      one = record {
        conn = None;
        was = (refl, none);
        is = none;
        host_is = λ told. tt;
        conns = λ told. refl;
        went = λ told. (started (IsOfRelay (n + 1)) (IsAsBefore (n + 1) now) now (only told) (λ image is. as_before_files (n + 1) now image (laws told).reads_itself (λ file own. is file))).each;
      }

  pub passes : (d n : ℕ) → IsGoing view host tells links n left reached old now link link' counts counts' → ((k : ℕ) → n < k → k ≤ n + d → tells → IsComplete k now.reads → ⊥) → IsGoing view host tells links (n + d) left reached old now link link' counts counts'
  passes zero n going none = subst (λ (m : ℕ). IsGoing view host tells links m left reached old now link link' counts counts') (let e : n ≡ n + 0 = omega arith in e) going
  passes (suc d) n going none =
      subst (λ (m : ℕ). IsGoing view host tells links m left reached old now link link' counts counts') (let e : (n + 1) + d ≡ n + suc d = omega arith in e)
      (passes d (n + 1) (passes_one n going (none (n + 1) (omega arith) (omega arith))) (λ k low high. none k (omega (arith, low)) (omega (arith, high))))

-- up to a number
pub going_passes : {D : Type 0} (view : D → DiskView) (host : List ℕ) (tells links : Type 0) (n m left : ℕ) (reached : Bool) (old now : DiskView) (link link' : LinkState) (counts counts' : LinkCounts) → (tells → IsCrashImage old old.reads) → (tells → Laws now) → (tells → OnlyNow now)
    → IsGoing view host tells links n left reached old now link link' counts counts' → n ≤ m → ((k : ℕ) → n < k → k ≤ m → tells → IsComplete k now.reads → ⊥) → IsGoing view host tells links m left reached old now link link' counts counts'
going_passes view host tells links n m left reached old now link link' counts counts' itself laws only going up none =
    subst (λ (k : ℕ). IsGoing view host tells links k left reached old now link link' counts counts') (let e : n + (m - n) ≡ m = omega (arith, up) in e)
    (passes view host tells links left reached old now link link' counts counts' itself laws only (m - n) n going (λ k low high. none k low (let h : n + (m - n) ≡ m = omega (arith, up) in omega (arith, high, h))))

-- memory ran out before any
pub going_ends : {D : Type 0} (view : D → DiskView) (host : List ℕ) (tells links : Type 0) (n left : ℕ) (reached : Bool) (old now : DiskView) (link link' : LinkState) (counts counts' : LinkCounts) → (tells → IsCrashImage old old.reads) → IsGoing view host tells links n left reached old now link link' counts counts'
    → Stops view host tells links old now link link' counts counts'
going_ends view host tells links n left reached old now link link' counts counts' itself going = record {
  logs = going.logs;
  were = going.were;
  are = going.are;
  tried = going.tried;
  went = going.went;
  conn = None;
  part = λ told. untouched_above n (suc (length going.logs)) old now (itself told) (let c = going.count in omega arith) (going.files told);
  hosts = λ told. (going.hosts told, tt);
  conns = λ told. (link', going.conns told, refl);
  above = λ told k above. untouched_above n k old now (itself told) (let c = going.count in omega arith) (going.files told);
}

-- all numbers were gone through
pub going_over : {D : Type 0} (view : D → DiskView) (host : List ℕ) (tells links : Type 0) (last left : ℕ) (reached : Bool) (old now : DiskView) (link link' : LinkState) (counts counts' : LinkCounts) → (tells → IsCrashImage old old.reads)
    → IsGoing view host tells links last left reached old now link link' counts counts' → (tells → last_number old.reads ≡ Some last) → Forwards view host tells links old now link link' counts counts' left
going_over view host tells links last left reached old now link link' counts counts' itself going last_is = record {
  logs = going.logs;
  last = λ told. last_is told ∙ ap (λ (k : ℕ). Some k) (sym going.count);
  were = going.were;
  are = going.are;
  left_is = going.left_is;
  tried = going.tried;
  hosts = going.hosts;
  conns = going.conns;
  went = going.went;
  above = λ told k above. untouched_above last k old now (itself told) (let c = going.count in omega arith) (going.files told);
}

-- ---- From a disk that reads the same

are_since : (tells : Type 0) (logs : List Handled) (old now later : DiskView) → ((file : FileId) → old.faults file ≤ now.faults file) → AreAs tells logs now later → AreAs tells logs old later
are_since tells [] old now later up are = tt
are_since tells (log ∷ before) old now later up are = (as_since tells (suc (length before)) old now later up log.outcome are.0, are_since tells before old now later up are.1)

were_since : (tells : Type 0) (logs : List Handled) (image other : Image) → (tells → other ≡ image) → WereAs tells logs image → WereAs tells logs other
were_since tells [] image other same were = tt
were_since tells (log ∷ before) image other same were =
    (was_same tells (suc (length before)) image other (λ told. same_at (suc (length before)) image other (same told)) log.outcome log.conn were.0, were_since tells before image other same were.1)

pub forwards_since : {D : Type 0} (view : D → DiskView) (host : List ℕ) (tells links : Type 0) (old now later : DiskView) (link link' : LinkState) (from mid to : LinkCounts) (left : ℕ) → (tells → SameStart old now) → (tells → TouchesRelays now later)
    → ((file : FileId) → old.faults file ≤ now.faults file) → Continues from mid → Forwards view host tells links now later link link' mid to left → Forwards view host tells links old later link link' from to left
forwards_since view host tells links old now later link link' from mid to left start run up on f = record {
  logs = f.logs;
  last = λ told. subst (λ (image : Image). last_number image ≡ Some (length f.logs)) (start told).reads (f.last told);
  were = were_since tells f.logs now.reads old.reads (λ told. sym (start told).reads) f.were;
  are = are_since tells f.logs old now later up f.are;
  left_is = f.left_is;
  tried = f.tried;
  hosts = f.hosts;
  conns = f.conns;
  went = are_carried_start tells links view from mid to old now later IsOfRelays f.logs start run on f.went;
  above = λ told k above. start_before k IsOfRelays old now later (start told) (run told) (f.above told k above);
}

pub stops_since : {D : Type 0} (view : D → DiskView) (host : List ℕ) (tells links : Type 0) (old now later : DiskView) (link link' : LinkState) (from mid to : LinkCounts) → (tells → SameStart old now) → (tells → TouchesRelays now later)
    → ((file : FileId) → old.faults file ≤ now.faults file) → Continues from mid → Stops view host tells links now later link link' mid to → Stops view host tells links old later link link' from to
stops_since view host tells links old now later link link' from mid to start run up on s = record {
  logs = s.logs;
  were = were_since tells s.logs now.reads old.reads (λ told. sym (start told).reads) s.were;
  are = are_since tells s.logs old now later up s.are;
  tried = s.tried;
  went = are_carried_start tells links view from mid to old now later IsOfRelays s.logs start run on s.went;
  conn = s.conn;
  part = carried_start tells links view (suc (length s.logs)) IsOutOfMemory from mid to old now later IsOfRelays s.conn start run on s.part;
  hosts = s.hosts;
  conns = s.conns;
  above = λ told k above. start_before k IsOfRelays old now later (start told) (run told) (s.above told k above);
}

pub numbers_since : (tells : Type 0) (old now later : DiskView) (fault : NumbersFault) → (tells → now.reads ≡ old.reads) → ((file : FileId) → old.faults file ≤ now.faults file)
    → HasNumbersCause tells now later fault → HasNumbersCause tells old later fault
numbers_since tells old now later fault same up (cause, of_store) = (lane fault cause, λ told. subst (λ (image : Image). IsLane (lane_of fault) image) (same told) (of_store told)) where
  lane : (f : NumbersFault) → HasLaneCause tells now later f → HasLaneCause tells old later f
  lane (numbers.Disk n) (file, own, rise) = (file, own, risen_second (old.faults file) (now.faults file) (later.faults file) (up file) rise)
  lane (numbers.Damaged n) damaged = λ told. subst (λ (image : Image). viewed n (entry_at n image) ≡ Err Damaged) (same told) (damaged told)

-- the files of one log more
pub touches_more : (n number : ℕ) (old now later : DiskView) → number ≡ n + 1 → Throughout (IsUpTo n) (λ image. Unit {0}) old now → Throughout (IsOfRelay number) (λ image. Unit {0}) now later → TouchesRelays old later
touches_more n number old now later is first second =
    touches_relays (n + 1) old later (up_to_more n old now later first (subst (λ (k : ℕ). Throughout (IsOfRelay k) (λ image. Unit {0}) now later) is second))

module _ {D : Type 0} (view : D → DiskView) (host : List ℕ) (tells links : Type 0) (n number left : ℕ) (reached : Bool) (old now later : DiskView) (link link' link'' : LinkState) (counts counts' counts'' : LinkCounts) (is : number ≡ n + 1)
    (going : IsGoing view host tells links n left reached old now link link' counts counts') (itself : tells → IsCrashImage old old.reads) (laws : tells → Laws now)
    (files : tells → Throughout (IsOfRelay number) (λ image. Unit {0}) now later) (up : (file : FileId) → now.faults file ≤ later.faults file) (on : Continues counts' counts'') where
  of_next : tells → Throughout (IsOfRelay (n + 1)) (λ image. Unit {0}) now later
  of_next told = subst (λ (k : ℕ). Throughout (IsOfRelay k) (λ image. Unit {0}) now later) is (files told)

  pub going_with : (left' : ℕ) (reached' : Bool) (outcome : Outcome) → reached' ≡ (reached && not (is_unreached outcome)) → (one : Handles view host tells links number outcome now later link' link'' counts' counts'') → (IsSome one.conn → reached ≡ true) → (outcome ≡ Untried → reached ≡ false)
      → (links → IsClosed link'') → left' ≡ left + more_left outcome → IsGoing view host tells links (n + 1) left' reached' old later link link'' counts counts''
  going_with left' reached' outcome reach one tried untried closed more =
      let both = subst (λ (k : ℕ). (h : Handles view host tells links k outcome now later link' link'' counts' counts'') × (IsSome h.conn → reached ≡ true)) is (one, tried) in
      going_goes_on view host tells links n left reached old now later link link' link'' counts counts' counts'' going itself laws of_next up on left' reached' outcome reach both.0 both.1 untried closed more
      (let few : left ≤ n = going.few in let least : more_left outcome ≤ 1 = at_most_one (is_left outcome) in omega (arith, more))

  pub stops_with : HandlesPart view host tells links number now later link' link'' counts' counts'' → Stops view host tells links old later link link'' counts counts''
  stops_with part = going_stops view host tells links n left reached old now later link link' link'' counts counts' counts'' going itself laws of_next up on (subst (λ (k : ℕ). HandlesPart view host tells links k now later link' link'' counts' counts'') is part)

-- the connection that was open is among those of before
pub forwards_closed : {D : Type 0} (view : D → DiskView) (host : List ℕ) (tells links : Type 0) (old new : DiskView) (link closed link' : LinkState) (from to : LinkCounts) (left : ℕ) → (links → closed ≡ after_close link) → Forwards view host tells links old new closed link' from to left
    → Forwards view host tells links old new link link' from to left
forwards_closed view host tells links old new link closed link' from to left is f = record {
  logs = f.logs;
  last = f.last;
  were = f.were;
  are = f.are;
  left_is = f.left_is;
  tried = f.tried;
  hosts = f.hosts;
  conns = λ told. subst (λ (before : LinkState). AreJoined f.logs before link') (ap after_close (is told)) (f.conns told);
  went = f.went;
  above = f.above;
}

pub stops_closed : {D : Type 0} (view : D → DiskView) (host : List ℕ) (tells links : Type 0) (old new : DiskView) (link closed link' : LinkState) (from to : LinkCounts) → (links → closed ≡ after_close link) → Stops view host tells links old new closed link' from to
    → Stops view host tells links old new link link' from to
stops_closed view host tells links old new link closed link' from to is s = record {
  logs = s.logs;
  were = s.were;
  are = s.are;
  tried = s.tried;
  went = s.went;
  conn = s.conn;
  part = s.part;
  hosts = s.hosts;
  conns = λ told. let c = s.conns told in (c.0, subst (λ (before : LinkState). AreJoined s.logs before c.0) (ap after_close (is told)) c.1, c.2);
  above = s.above;
}

pub going_at : {D : Type 0} (view : D → DiskView) (host : List ℕ) (tells links : Type 0) (n last left : ℕ) (reached : Bool) (old now : DiskView) (link link' : LinkState) (counts counts' : LinkCounts) → n ≡ last → IsGoing view host tells links n left reached old now link link' counts counts' → IsGoing view host tells links last left reached old now link link' counts counts'
going_at view host tells links n last left reached old now link link' counts counts' is going = subst (λ (k : ℕ). IsGoing view host tells links k left reached old now link link' counts counts') is going
