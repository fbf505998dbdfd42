-- A connection that writes no log any more: its log is flushed, or failed, and let go.
use Rattle.std.proofs.Common.{◌≡◌, ◌≢◌, ◌≤◌, ◌<◌, ◌+◌, ◌*◌, ℕ, List, [], ◌∷◌, length, take, refl, sym, ◌∙◌, ap, subst, inl, inr, arith, Option, Some, None, ◌⊎◌}
use Rattle.std.specs.Prelude.{◌==◌, Bool, true, false, if◌then◌else◌, Contains, Result, Ok, Err, IfErr, IsErrOf, IsOk, OnOk, ◌↔◌}
use Rattle.std.proofs.Math.Seq.{take-append_seam, take-length}
use Rattle.std.proofs.lemmas.List.{length-append}
use Rattle.std.proofs.lemmas.List.Elements.{Contains-push}
use Rattle.lsv_disk.specs.Throughout.{Throughout}
use Rattle.lsv_disk.specs.View.{DiskView, Elsewhere, HasOwnCause, Image, IsCrashImage}
use Rattle.lsv_disk.specs.declared.file.FileId.{FileId}
use Rattle.lsv_disk.specs.declared.file.Owner.{Owner}
use Rattle.lsv_disk.specs.declared.file.Owner.TheVariants as owners
use Rattle.lsv_eventlog.specs.Value.{EventLogView}
use Rattle.lsv_iolog.specs.Moments.{IsEither}
use Rattle.lsv_iolog.specs.Recovered.{IsOfLog, Replays}
use Rattle.lsv_iolog.specs.Represents as logs
use Rattle.lsv_iolog.specs.Value.{IoLogView, LogValue, all_of, bare, flushed}
use Rattle.lsv_iolog.specs.declared.fault.LogFault.{LogFault}
use Rattle.lsv_iolog.specs.declared.fault.LogFault.TheVariants as faults
use Rattle.lsv_iolog.proofs.Representing.{every_image}
use Rattle.lsv_record.specs.Points.{Stored}
use Rattle.lsv_record.specs.declared.records.Record.{Record}
use Rattle.lsv_seq.specs.declared.numbers.Numbers.{Numbers}
use Rattle.lsv_seq.specs.Value.{lane_of, lanes_of, next_of, pending_of}
use Rattle.lsv_seq.specs.Represents as numbers
use Rattle.lsv_session.specs.declared.connection.ConnId.{ConnId}
use Rattle.lsv_session.specs.declared.connection.ConnState.{ConnState}
use Rattle.lsv_session.specs.declared.connection.ConnState.TheVariants.{Fresh, Greeted, Alerted, Running, Dead}
use Rattle.lsv_session.specs.declared.table.Table.{Table}
use Rattle.lsv_session.specs.Table.{Sessions, room_for, sessions, spare}
use Rattle.lsv_machine.specs.Failures.{Closes, LeavesLog}
use Rattle.lsv_machine.specs.Machine.{LogState, LogState.There, Machine, is_log, leaves, log_of, same, with_log, without, without_conn, without_log}
use Rattle.lsv_machine.specs.Stands.{Sound}
use Rattle.lsv_machine.specs.Starts.{ReadsAs}
use Rattle.lsv_machine.specs.Work.{next_number}
use Rattle.lsv_machine.proofs.Changing.{NotAbove, log_sound, owned_not_above}
use Rattle.lsv_machine.proofs.Choices.{EqOr, EqOr.equal, EqOr.unequal, eq_or}
use Rattle.lsv_machine.proofs.Leaving.{leaves_sound}
use Rattle.lsv_keeper.specs.declared.logs.OpenLog.{OpenLog}
use Rattle.lsv_keeper.specs.declared.logs.OpenLogs.{OpenLogs}
use Rattle.lsv_keeper.specs.Logs.{open_logs, with_open}
use Rattle.lsv_keeper.specs.Leaving.{Departs, EndsFlush, SameBeside, TakenOut}
use Rattle.lsv_keeper.specs.Represents.{AllAbove, AllOwned, EventsAre, Free, Held, LogIs, NumbersAre, Represents, Rising, pending_count}
use Rattle.lsv_keeper.specs.Rows.{AllRose, Beside, Closed, ClosedIf, IsPartOf, Left, OwnerRose}
use Rattle.lsv_keeper.specs.Value.{KeeperView, Keeps, log_in, owed, room, settings_of}
use Rattle.lsv_keeper.proofs.Counting.{only, rose_none, rose_one}
use Rattle.lsv_keeper.proofs.Frames.{Laws, beside_none, log_apart}
use Rattle.lsv_keeper.proofs.Numbering.{beside_its, numbers_fit}
use Rattle.lsv_keeper.proofs.Standing.{Changes, ItsLog, events_stay, lane_as, numbers_stay, represents_one}

-- ---- Lists of waiting logs

without_above : (a n : ℕ) (ns : List ℕ) → AllAbove a ns → AllAbove a (without n ns)
without_above a n [] up = tt
without_above a n (x ∷ ns) up = go (without_above a n ns up.1) (eq_or n x)
  where
    go : AllAbove a (without n ns) → EqOr n x → AllAbove a (without n (x ∷ ns))
    go rest (equal e t) = rw t rest
    go rest (unequal e t) = rw t (up.0, rest)

pub without_rising : (n : ℕ) (ns : List ℕ) → Rising ns → Rising (without n ns)
without_rising n [] up = tt
without_rising n (x ∷ ns) up = go (without_rising n ns up.1) (eq_or n x)
  where
    go : Rising (without n ns) → EqOr n x → Rising (without n (x ∷ ns))
    go rest (equal e t) = rw t rest
    go rest (unequal e t) = rw t (without_above x n ns up.0, rest)

pub without_owned : (o p : ℕ → Option ConnId) (n : ℕ) (ns : List ℕ) → ((i : ℕ) → i ≢ n → p i ≡ o i) → AllOwned o ns → AllOwned p (without n ns)
without_owned o p n [] stays all = tt
without_owned o p n (x ∷ ns) stays all = go (without_owned o p n ns stays all.1) (eq_or n x)
  where
    go : AllOwned p (without n ns) → EqOr n x → AllOwned p (without n (x ∷ ns))
    go rest (equal e t) = rw t rest
    go rest (unequal e t) = rw t ((all.0.0, stays x (λ q. e (sym q)) ∙ all.0.1), rest)

pub without_shorter : (n : ℕ) (ns : List ℕ) → length (without n ns) ≤ length ns
without_shorter n [] = omega arith
without_shorter n (x ∷ ns) = go (without_shorter n ns) (eq_or n x)
  where
    go : length (without n ns) ≤ length ns → EqOr n x → length (without n (x ∷ ns)) ≤ length (x ∷ ns)
    go rest (equal e t) = rw t (omega arith)
    go rest (unequal e t) = rw t (omega arith)

pub log_rising : (o : Option ℕ) (ns : List ℕ) → Rising ns → Rising (without_log o ns)
log_rising None ns up = up
log_rising (Some n) ns up = without_rising n ns up

pub log_owned : (o : Option ℕ) (own own' : ℕ → Option ConnId) (ns : List ℕ) → ((i : ℕ) → o ≢ Some i → own' i ≡ own i) → AllOwned own ns → AllOwned own' (without_log o ns)
log_owned None own own' ns stays all = same_owned ns all
  where
    same_owned : (xs : List ℕ) → AllOwned own xs → AllOwned own' xs
    same_owned [] each = tt
    same_owned (x ∷ xs) each = ((each.0.0, stays x (λ e. cc) ∙ each.0.1), same_owned xs each.1)
log_owned (Some n) own own' ns stays all = without_owned own own' n ns (λ i other. stays i (λ e. other (let f : n ≡ i = cc in sym f))) all

pub log_shorter : (o : Option ℕ) (ns : List ℕ) → length (without_log o ns) ≤ length ns
log_shorter None ns = omega arith
log_shorter (Some n) ns = without_shorter n ns

pub its_log : (i : ℕ) → is_log (Some i) i ≡ true
its_log i = elim (eq_or i i) [ equal p t ↦ t | unequal p t ↦ absurd (p refl) ]

pub not_its : (o : Option ℕ) (n : ℕ) → o ≢ Some n → is_log o n ≡ false
not_its None n other = refl
not_its (Some i) n other = elim (eq_or n i) [ equal p t ↦ absurd (other (ap Some (sym p))) | unequal p t ↦ t ]

-- ---- A flush

-- what the clauses of a flush say
pub ends_flush : {T : Type 0} (log after : IoLogView) (value : LogValue) (old new : DiskView) (result : Result T LogFault) → logs.Represents log value old → after.number ≡ log.number
    → OnOk result ((v : LogValue) → logs.Represents log v old → logs.Represents after (bare (flushed v)) new)
    → Throughout (IsOfLog log.number) (IsEither log.number (Some value.stored) (Some (flushed value))) old new
    → IfErr result (λ e. (e ≡ faults.Disk) ⊎ (e ≡ faults.Broken)) → (IsErrOf result faults.Broken ↔ (log.is_broken ≡ true)) → HasOwnCause (IsOfLog log.number) (IsErrOf result faults.Disk) old new
    → EndsFlush log value old new
ends_flush log after value old new (Ok p) at number ok moments fault broken cause = record { moments = moments; monotone = cause.monotone; ends = inl (after, number, ok value at) }
ends_flush log after value old new (Err e) at number ok moments (inl disk) broken cause = record {
  moments = moments;
  monotone = cause.monotone;
  ends = inr (let (file, own, risen) = cause.risen (ap Err disk) in (file, own, risen));
}
ends_flush log after value old new (Err e) at number ok moments (inr is) broken cause = absurd (let b : log.is_broken ≡ true = broken.0 (ap Err is) in let f : false ≡ true = sym at.whole ∙ b in cc)

-- the value of a log that is open
pub value_of : (v : KeeperView) (disk : DiskView) (m : Machine) (n : ℕ) (its : OpenLog) → Represents v disk m → log_in v n ≡ Some its → (value : LogValue) × logs.Represents its.log value disk
value_of v disk m n its at here = go (m.owner n) (at.logs n)
  where
    go : (o : Option ConnId) → LogIs v disk m n o → (value : LogValue) × logs.Represents its.log value disk
    go None free = absurd (let e : None ≡ Some its = sym free.closed ∙ here in cc)
    go (Some k) held =
        let e : Some held.its ≡ Some its = sym held.here ∙ here in
        let f : held.its ≡ its = cc in
        (held.value, subst (λ (x : OpenLog). logs.Represents x.log held.value disk) f held.represents)

-- ---- A log that is let go

pub record LetGo (v : KeeperView) (m : Machine) (i : ℕ) (old new : DiskView) : Type 0 where
  pub failed : List Owner
  pub stored : Stored
  pub promised : ℕ
  pub closes : Closes failed i (m.logs i) (There stored promised)
  pub own : (o : Owner) → Contains failed o → o ≡ owners.Log i
  pub rose : AllRose failed old new
  pub reads : Replays new.reads i (Some stored)
  pub enough : promised ≤ length stored.records
  pub closed : Closed i m old new
  pub beside : Beside v.lane v.lanes (Some i) old new
  pub elsewhere : Elsewhere (IsOfLog i) old new

-- a log that a flush leaves as it says
module _ (v : KeeperView) (old new : DiskView) (m : Machine) (i : ℕ) (k : ConnId) (laws : Laws old) (laws' : Laws new) (at : Represents v old m) (own : m.owner i ≡ Some k)
    (flush : (its : OpenLog) (value : LogValue) → log_in v i ≡ Some its → logs.Represents its.log value old → EndsFlush its.log value old new) where
  held : Held v old m i
  held = subst (LogIs v old m i) own (at.logs i)

  whole : Stored
  whole = flushed held.value

  flushed_as : EndsFlush held.its.log held.value old new
  flushed_as = flush held.its held.value held.here held.represents

  moments : Throughout (IsOfLog i) (IsEither i (Some held.value.stored) (Some (flushed held.value))) old new
  moments = subst (λ (n : ℕ). Throughout (IsOfLog n) (IsEither n (Some held.value.stored) (Some (flushed held.value))) old new) held.number flushed_as.moments

  long : held.promised ≤ length (all_of held.value)
  long = let x = held.enough in let e = length-append held.value.stored.records held.value.staged in omega arith

  part_of : (image : Image) → IsEither i (Some held.value.stored) (Some (flushed held.value)) image → (part : Stored) × Replays image i (Some part) × IsPartOf (flushed held.value) held.promised part
  part_of image (inl reads) = (
    held.value.stored,
    reads,
    record {
      head = refl;
      left = length held.value.stored.records;
      records = sym (take-append_seam held.value.stored.records held.value.staged);
      enough = held.enough;
      going = held.going;
    },
  )
  part_of image (inr reads) = (
    flushed held.value,
    reads,
    record {
      head = refl;
      left = length (all_of held.value);
      records = sym (take-length (all_of held.value));
      enough = long;
      going = held.going;
    },
  )

  now_is : (image : Image) → IsCrashImage new image → IsEither i (Some held.value.stored) (Some (flushed held.value)) image
  now_is image is = moments.each new.moment image moments.later (omega arith) (laws'.is_now image is)

  closed : Closed i m old new
  closed = record {
    whole = flushed held.value;
    promised = held.promised;
    was = held.there;
    moments = record { later = moments.later; past = moments.past; keeps = moments.keeps; each = λ n from to image left. part_of image (moments.each n image from to left) };
    now = λ image is. part_of image (now_is image is);
  }

  beside : Beside v.lane v.lanes (Some i) old new
  beside = beside_its v m i (IsEither i (Some held.value.stored) (Some (flushed held.value))) old new laws laws' at (owned_not_above (settings_of v) m i k at.sound own) moments flushed_as.monotone

  as_it_was : Replays new.reads i (Some (flushed held.value)) → LetGo v m i old new
  as_it_was reads = record {
    failed = [];
    stored = flushed held.value;
    promised = held.promised;
    closes = inl (sym held.there);
    own = λ o c. absurd (let (at', low, found) = c in let e : at' < 0 = low in omega arith);
    rose = rose_none old new;
    reads = reads;
    enough = long;
    closed = closed;
    beside = beside;
    elsewhere = moments.elsewhere;
  }

  only_part : Replays new.reads i (Some held.value.stored) → OwnerRose (owners.Log i) old new → LetGo v m i old new
  only_part reads rose = record {
    failed = owners.Log i ∷ [];
    stored = record (flushed held.value) { records = take (length held.value.stored.records) (all_of held.value) };
    promised = held.promised;
    closes = inr (
      Contains-push [] (owners.Log i),
      record {
        stored = flushed held.value;
        promised = held.promised;
        was = held.there;
        unfinished = held.going;
        left = length held.value.stored.records;
        enough = held.enough;
        now = refl;
      },
    );
    own = λ o c. sym (only (owners.Log i) o c);
    rose = rose_one (owners.Log i) old new rose;
    reads = subst (λ (rs : List Record). Replays new.reads i (Some (record held.value.stored { records = rs }))) (sym front) reads;
    enough = let x = held.enough in subst (λ (rs : List Record). held.promised ≤ length rs) (sym front) x;
    closed = closed;
    beside = beside;
    elsewhere = moments.elsewhere;
  }
    where
      front : take (length held.value.stored.records) (all_of held.value) ≡ held.value.stored.records
      front = take-append_seam held.value.stored.records held.value.staged

  pub let_go : LetGo v m i old new
  let_go = go flushed_as.ends (now_is new.reads laws'.reads_itself)
    where
      go : ((after : IoLogView) × (after.number ≡ held.its.log.number) × logs.Represents after (bare (flushed held.value)) new) ⊎ OwnerRose (owners.Log held.its.log.number) old new
          → IsEither i (Some held.value.stored) (Some (flushed held.value)) new.reads → LetGo v m i old new
      go ends (inr reads) = as_it_was reads
      go (inl (after, number, represents)) (inl reads) =
          as_it_was (subst (λ (n : ℕ). Replays new.reads n (Some (flushed held.value))) (number ∙ held.number) (every_image after (bare (flushed held.value)) new represents new.reads laws'.reads_itself))
      go (inr rose) (inl reads) = only_part reads (subst (λ (n : ℕ). OwnerRose (owners.Log n) old new) held.number rose)

-- ---- Numbers and the event log, where these are as they were

same_next : (a b c a' b' c' p : ℕ) → a ≡ a' → b ≡ b' → c ≡ c' → (if c == 0 then a + 1 else c + b) + p * b ≡ (if c' == 0 then a' + 1 else c' + b') + p * b'
same_next a b c a' b' c' p e f g = λ i. (if g i == 0 then e i + 1 else g i + f i) + p * f i

-- numbers that are as they were, for a machine with the same ones
pub same_numbers : (v v' : KeeperView) (disk : DiskView) (m m' : Machine) → v'.lane ≡ v.lane → v'.lanes ≡ v.lanes → v'.numbers ≡ v.numbers → m'.last ≡ m.last → m'.failed_draws ≡ m.failed_draws
    → NumbersAre v.lane v.lanes v.numbers disk (next_number (settings_of v) m) m.failed_draws → NumbersAre v'.lane v'.lanes v'.numbers disk (next_number (settings_of v') m') m'.failed_draws
same_numbers v v' disk m m' lane lanes drawn last failed is = record {
  lane_is = ap lane_of drawn ∙ is.lane_is ∙ sym lane;
  lanes_is = ap lanes_of drawn ∙ is.lanes_is ∙ sym lanes;
  represents = subst (λ (x : Numbers). numbers.Represents x disk) (sym drawn) is.represents;
  passed = is.passed;
  next_is = ap next_of drawn ∙ is.next_is ∙ same_next v.lane v.lanes m.last v'.lane v'.lanes m'.last is.passed (sym lane) (sym lanes) (sym last);
  few = let x = is.few in let e : pending_count (pending_of v'.numbers) ≡ pending_count (pending_of v.numbers) = ap (λ (x : Numbers). pending_count (pending_of x)) drawn in omega arith;
}

-- so is an event log
pub same_events : (v v' : KeeperView) (disk : DiskView) (m : Machine) → v'.lane ≡ v.lane → v'.events ≡ v.events → EventsAre v.lane v.events disk m → EventsAre v'.lane v'.events disk m
same_events v v' disk m lane events is = subst (λ (x : ℕ). EventsAre x v'.events disk m) (sym lane) (subst (λ (x : EventLogView). EventsAre v.lane x disk m) (sym events) is)

-- ---- What the keeper and its disk then stand for

-- of the machine the logs alone are others
pub record Rested (m left : Machine) : Type 0 where
  pub texts : left.texts ≡ m.texts
  pub states : left.states ≡ m.states
  pub owner : left.owner ≡ m.owner
  pub last : left.last ≡ m.last
  pub failed_draws : left.failed_draws ≡ m.failed_draws
  pub waiting : left.waiting ≡ m.waiting
  pub lines : left.lines ≡ m.lines
  pub fresh : left.fresh ≡ m.fresh
  pub noting : left.noting ≡ m.noting

pub rested : (m : Machine) (i : ℕ) (x : LogState) → Rested m (with_log i x m)
rested m i x = record { texts = refl; states = refl; owner = refl; last = refl; failed_draws = refl; waiting = refl; lines = refl; fresh = refl; noting = refl }

pub rested_same : (m : Machine) → Rested m m
rested_same m = record { texts = refl; states = refl; owner = refl; last = refl; failed_draws = refl; waiting = refl; lines = refl; fresh = refl; noting = refl }

module _ (o : Option ℕ) (k : ConnId) (s : ConnState) (v v' : KeeperView) (old new : DiskView) (m left : Machine) (Touched : FileId → Type 0) (at : Represents v old m) (is : log_of (m.states k) ≡ o)
    (no_log : log_of s ≡ None) (d : Departs o k s v v') (r : Rested m left) where
  writes_it : log_of (left.states k) ≡ o
  writes_it = ap (λ (f : ConnId → ConnState). log_of (f k)) r.states ∙ is

  pub owner_then : (n : ℕ) → (leaves k s left).owner n ≡ (if is_log o n then None else m.owner n)
  owner_then n = ap (λ (x : Option ℕ). if is_log x n then None else left.owner n) writes_it ∙ ap (λ (f : ℕ → Option ConnId). if is_log o n then None else f n) r.owner

  owner_stays : (n : ℕ) → o ≢ Some n → (leaves k s left).owner n ≡ m.owner n
  owner_stays n other = owner_then n ∙ ap (λ (b : Bool). if b then None else m.owner n) (not_its o n other)

  waiting_then : (leaves k s left).waiting ≡ without_log o m.waiting
  waiting_then = ap (λ (x : Option ℕ). without_log x left.waiting) writes_it ∙ ap (without_log o) r.waiting

  pub departs_changes : Sound (settings_of v) left → Elsewhere Touched old new → ((file : FileId) → file.owner ≡ owners.Numbers v.lane → Touched file → ⊥)
      → ((file : FileId) → file.owner ≡ owners.Events v.lane → Touched file → ⊥) → ((n : ℕ) → o ≢ Some n → left.logs n ≡ m.logs n)
      → ((n : ℕ) → log_in v' n ≡ (if is_log o n then None else log_in v n)) → ItsLog o v' new (leaves k s left) → ((n : ℕ) → o ≡ Some n → NotAbove (settings_of v) m.last n)
      → Changes o v v' new m (leaves k s left)
  departs_changes sound elsewhere no_numbers no_events logs_stay open_ones its not_above = record {
    lane = d.beside.lane;
    lanes = d.beside.lanes;
    keeps_texts = d.beside.texts;
    sound = leaves_sound (settings_of v) k s left sound no_log;
    texts = r.texts;
    states = λ j. ap (λ (f : ConnId → ConnState). if same j k then s else f j) r.states ∙ ap (λ (x : ConnState). if same j k then s else x) (at.states j) ∙ sym (d.states j);
    owner = λ n. owner_then n ∙ ap (λ (x : Option ConnId). if is_log o n then None else x) (at.owner n) ∙ sym (d.owner n);
    waiting = waiting_then ∙ ap (without_log o) at.waiting ∙ sym d.waiting;
    noting = r.noting ∙ at.noting ∙ sym d.beside.noting;
    rising = subst Rising (sym waiting_then) (log_rising o m.waiting at.rising);
    waits = subst (AllOwned (leaves k s left).owner) (sym waiting_then) (log_owned o m.owner (leaves k s left).owner m.waiting owner_stays at.waits);
    others = λ n other. (logs_stay n other, owner_stays n other, open_ones n ∙ ap (λ (b : Bool). if b then None else log_in v n) (not_its o n other));
    its = its;
    numbers = same_numbers v v' new m (leaves k s left) d.beside.lane d.beside.lanes d.beside.numbers r.last r.failed_draws
        (numbers_stay v.lane v.lanes v.numbers old new (next_number (settings_of v) m) m.failed_draws Touched elsewhere no_numbers at.numbers);
    later = let e = r.last in omega arith;
    made = λ n e is' above. absurd (not_above n e (lane_as v.lane v.lanes v'.lane v'.lanes n d.beside.lane d.beside.lanes is') (let f = r.last in omega arith));
    events = same_events v v' new (leaves k s left) d.beside.lane d.beside.events
        (events_stay v.lane v.events old new m (leaves k s left) Touched elsewhere no_events r.lines r.fresh (λ e. r.noting ∙ e) at.events);
  }

-- ---- A connection that left

not_numbers : (lane i : ℕ) (file : FileId) → file.owner ≡ owners.Numbers lane → IsOfLog i file → ⊥
not_numbers lane i file own t = let e : owners.Numbers lane ≡ owners.Log i = sym own ∙ t in cc

not_events : (lane i : ℕ) (file : FileId) → file.owner ≡ owners.Events lane → IsOfLog i file → ⊥
not_events lane i file own t = let e : owners.Events lane ≡ owners.Log i = sym own ∙ t in cc

-- its log was flushed, or failed, and let go
pub left_some : (v v' : KeeperView) (old new : DiskView) (m : Machine) (k : ConnId) (s : ConnState) (i : ℕ) → Laws old → Laws new → Represents v old m → log_of (m.states k) ≡ Some i → log_of s ≡ None
    → Departs (Some i) k s v v' → ((n : ℕ) → log_in v' n ≡ (if n == i then None else log_in v n))
    → ((its : OpenLog) (value : LogValue) → log_in v i ≡ Some its → logs.Represents its.log value old → EndsFlush its.log value old new) → Left k s v m v' old new
left_some v v' old new m k s i laws laws' at is no_log d open_ones flush = record {
  failed = gone.failed;
  left = left;
  log = subst (λ (o : Option ℕ). LeavesLog gone.failed o None m left) (sym is) (log, gone.closes, refl);
  own = λ o c. (i, is, gone.own o c);
  rose = gone.rose;
  represents = represents_one (Some i) v v' old new m (leaves k s left) (IsOfLog i) at gone.elsewhere (λ n other. log_apart n i (λ e. other (ap Some (sym e)))) changes;
  beside = subst (λ (o : Option ℕ). Beside v.lane v.lanes o old new) (sym is) gone.beside;
  closed = subst (λ (o : Option ℕ). ClosedIf o m old new) (sym is) gone.closed;
}
  where
    own : m.owner i ≡ Some k
    own = at.sound.owned k i is

    gone : LetGo v m i old new
    gone = let_go v old new m i k laws laws' at own flush

    log : LogState
    log = There gone.stored gone.promised

    left : Machine
    left = with_log i log m

    not_above : NotAbove (settings_of v) m.last i
    not_above = owned_not_above (settings_of v) m i k at.sound own

    sound : Sound (settings_of v) left
    sound = log_sound (settings_of v) i gone.stored gone.promised m not_above at.sound

    unwritten : (leaves k s left).owner i ≡ None
    unwritten = owner_then (Some i) k s v v' old new m left (IsOfLog i) at is no_log d (rested m i log) i ∙ ap (λ (b : Bool). if b then None else m.owner i) (its_log i)

    log_then : (leaves k s left).logs i ≡ There gone.stored gone.promised
    log_then = ap (λ (b : Bool). if b then There gone.stored gone.promised else m.logs i) (its_log i)

    free : Free v' new (leaves k s left) i
    free = record {
      closed = open_ones i ∙ ap (λ (b : Bool). if b then None else log_in v i) (its_log i);
      reads = subst (λ (x : LogState). ReadsAs (Replays new.reads i) x) (sym log_then) gone.reads;
      enough = λ stored promised e.
          let f : There gone.stored gone.promised ≡ There stored promised = sym log_then ∙ e in
          let g : gone.stored ≡ stored = cc in
          let h : gone.promised ≡ promised = cc in
          subst (λ (x : Stored). promised ≤ length x.records) g (subst (λ (p : ℕ). p ≤ length gone.stored.records) h gone.enough);
    }

    logs_stay : (n : ℕ) → Some i ≢ Some n → left.logs n ≡ m.logs n
    logs_stay n other = ap (λ (b : Bool). if b then log else m.logs n) (not_its (Some i) n other)

    changes : Changes (Some i) v v' new m (leaves k s left)
    changes = departs_changes (Some i) k s v v' old new m left (IsOfLog i) at is no_log d (rested m i log) sound gone.elsewhere (not_numbers v.lane i) (not_events v.lane i) logs_stay open_ones
        (subst (λ (o : Option ConnId). LogIs v' new (leaves k s left) i o) (sym unwritten) free)
        (λ n e. subst (λ (x : ℕ). NotAbove (settings_of v) m.last x) (let f : i ≡ n = cc in f) not_above)

-- it wrote none
pub left_none : (v v' : KeeperView) (disk : DiskView) (m : Machine) (k : ConnId) (s : ConnState) → Laws disk → Represents v disk m → log_of (m.states k) ≡ None → log_of s ≡ None
    → Departs None k s v v' → ((n : ℕ) → log_in v' n ≡ log_in v n) → Left k s v m v' disk disk
left_none v v' disk m k s laws at is no_log d open_ones = record {
  failed = [];
  left = m;
  log = subst (λ (o : Option ℕ). LeavesLog [] o None m m) (sym is) refl;
  own = λ o c. absurd (let (at', low, found) = c in let e : at' < 0 = low in omega arith);
  rose = rose_none disk disk;
  represents = represents_one None v v' disk disk m (leaves k s m) (λ file. ⊥) at same (λ n other file own none. none)
      (departs_changes None k s v v' disk disk m m (λ file. ⊥) at is no_log d (rested_same m) at.sound same (λ file own none. none) (λ file own none. none) (λ n other. refl) open_ones tt (λ n e. absurd (cc)));
  beside = subst (λ (o : Option ℕ). Beside v.lane v.lanes o disk disk) (sym is) (beside_none v.lane v.lanes None disk laws (numbers_fit v disk m at));
  closed = subst (λ (o : Option ℕ). ClosedIf o m disk disk) (sym is) tt;
}
  where
    same : Elsewhere (λ file. ⊥) disk disk
    same = record { same = λ file none. refl; crash = λ file none c left. left }

-- ---- What is kept, and what a table says

pub room_one : (a b : ConnState) → room_for a b ≤ 1
room_one Fresh Fresh = omega arith
room_one Fresh Greeted = omega arith
room_one Fresh Alerted = omega arith
room_one Fresh (Running log) = omega arith
room_one Fresh Dead = omega arith
room_one Greeted b = omega arith
room_one Alerted b = omega arith
room_one (Running log) b = omega arith
room_one Dead b = omega arith

pub on_ok : {T E : Type 0} (r : Result T E) (P : Type 0) → OnOk r P → IsOk r → P
on_ok (Ok x) P p ok = p
on_ok (Err e) P p ok = absurd (cc)

pub departs_owed : (o : Option ℕ) (k : ConnId) (s : ConnState) (v v' : KeeperView) → Departs o k s v v' → owed v' ≤ owed v
departs_owed o k s v v' d =
    let x = log_shorter o v.waiting in
    let e : length v'.waiting ≡ length (without_log o v.waiting) = ap (λ (ns : List ℕ). length ns) d.waiting in
    let f : length v'.noting ≡ length v.noting = ap (λ (ks : List ConnId). length ks) d.beside.noting in
    omega arith

pub departs_fewer : (o : Option ℕ) (k : ConnId) (s : ConnState) (v v' : KeeperView) → Departs o k s v v' → length v'.waiting ≤ length v.waiting
departs_fewer o k s v v' d =
    let x = log_shorter o v.waiting in
    let e : length v'.waiting ≡ length (without_log o v.waiting) = ap (λ (ns : List ℕ). length ns) d.waiting in
    omega arith

pub departs_keeps : (o : Option ℕ) (k : ConnId) (s : ConnState) (v v' : KeeperView) → Departs o k s v v' → room v ≤ room v' + 1 → Keeps v v'
departs_keeps o k s v v' d room_is = record {
  lane = d.beside.lane;
  lanes = d.beside.lanes;
  log_exit = d.beside.log_exit;
  kind = d.beside.kind;
  texts = d.beside.texts;
  room_is = room_is;
  owed = let x = departs_owed o k s v v' d in omega arith;
}

-- of a log that is written one is open
pub not_closed : (v : KeeperView) (disk : DiskView) (m : Machine) (i : ℕ) (k : ConnId) → Represents v disk m → m.owner i ≡ Some k → log_in v i ≡ None → ⊥
not_closed v disk m i k at own none = let h : Held v disk m i = subst (LogIs v disk m i) own (at.logs i) in let e : None ≡ Some h.its = sym none ∙ h.here in cc

pub beside_out : (n : ℕ) (its : OpenLog) (a b : KeeperView) (k : ConnId) (s : ConnState) (c : KeeperView) → TakenOut n its a b → Departs (Some n) k s b c → Departs (Some n) k s a c
beside_out n its a b k s c out d = record {
  beside = record {
    lane = d.beside.lane ∙ out.beside.lane;
    lanes = d.beside.lanes ∙ out.beside.lanes;
    log_exit = d.beside.log_exit ∙ out.beside.log_exit;
    kind = d.beside.kind ∙ out.beside.kind;
    texts = d.beside.texts ∙ out.beside.texts;
    numbers = d.beside.numbers ∙ out.beside.numbers;
    events = d.beside.events ∙ out.beside.events;
    noting = d.beside.noting ∙ out.beside.noting;
  };
  states = λ j. d.states j ∙ ap (λ (t : Table). if same j k then s else (sessions t).states j) out.table;
  owner = λ i. d.owner i ∙ ap (λ (t : Table). if i == n then None else (sessions t).owner i) out.table;
  waiting = d.waiting ∙ ap (λ (ns : List ℕ). without_log (Some n) ns) out.waiting;
}

-- the value of a log that was taken out
pub out_value : (n : ℕ) (its : OpenLog) (a b : KeeperView) (disk : DiskView) (m : Machine) → TakenOut n its a b → Represents a disk m → (value : LogValue) × logs.Represents its.log value disk
out_value n its a b disk m out at =
    let (value, is) = value_of a disk m n out.open_one at out.was in
    (value, subst (λ (log : IoLogView). logs.Represents log value disk) out.same is)

-- a log that was taken out is flushed, and its connection leaves
pub out_left : (n : ℕ) (its : OpenLog) (a b c : KeeperView) (old new : DiskView) (m : Machine) (k : ConnId) (s : ConnState) → Laws old → Laws new → Represents a old m → log_of (m.states k) ≡ Some n
    → log_of s ≡ None → TakenOut n its a b → Departs (Some n) k s b c → c.logs ≡ b.logs → ((value : LogValue) → logs.Represents its.log value old → EndsFlush its.log value old new) → Left k s a m c old new
out_left n its a b c old new m k s laws laws' at is no_log out d same_logs flush = left_some a c old new m k s n laws laws' at is no_log (beside_out n its a b k s c out d) open_ones ends
  where
    open_ones : (i : ℕ) → log_in c i ≡ (if i == n then None else log_in a i)
    open_ones i = ap (λ (x : OpenLogs). open_logs x i) same_logs ∙ out.logs i

    ends : (other : OpenLog) (value : LogValue) → log_in a n ≡ Some other → logs.Represents other.log value old → EndsFlush other.log value old new
    ends other value here represents =
        let e : Some out.open_one ≡ Some other = sym out.was ∙ here in
        let f : out.open_one ≡ other = cc in
        let g : its.log ≡ other.log = sym out.same ∙ ap (λ (x : OpenLog). let log : IoLogView = x.log in log) f in
        subst (λ (log : IoLogView). EndsFlush log value old new) g (flush value (subst (λ (log : IoLogView). logs.Represents log value old) (sym g) represents))

-- ---- A connection that is noted no more

pub conn_shorter : (k : ConnId) (ks : List ConnId) → length (without_conn k ks) ≤ length ks
conn_shorter k [] = omega arith
conn_shorter k (j ∷ ks) = go (conn_shorter k ks) (same j k) refl
  where
    go : length (without_conn k ks) ≤ length ks → (b : Bool) → same j k ≡ b → length (without_conn k (j ∷ ks)) ≤ length (j ∷ ks)
    go rest true e = rw e (omega arith)
    go rest false e = rw e (omega arith)

sound_noting : (v : KeeperView) (m : Machine) (noting : List ConnId) → Sound (settings_of v) m → Sound (settings_of v) (record m { noting = noting })
sound_noting v m noting s = record { lane = s.lane; drawn = s.drawn; owns = s.owns; owned = s.owned; there = s.there; none_above = s.none_above }

pub forget_represents : (v : KeeperView) (disk : DiskView) (m : Machine) (k : ConnId) (noting : List ConnId) → noting ≡ without_conn k v.noting → Represents v disk m
    → Represents (record v { noting = noting }) disk (record m { noting = without_conn k m.noting })
forget_represents v disk m k noting is at = represents_one None v (record v { noting = noting }) disk disk m (record m { noting = without_conn k m.noting }) (λ file. ⊥) at same (λ n other file own none. none) (record {
  lane = refl;
  lanes = refl;
  keeps_texts = refl;
  sound = sound_noting v m (without_conn k m.noting) at.sound;
  texts = refl;
  states = at.states;
  owner = at.owner;
  waiting = at.waiting;
  noting = ap (without_conn k) at.noting ∙ sym is;
  rising = at.rising;
  waits = at.waits;
  others = λ n other. (refl, refl, refl);
  its = tt;
  numbers = at.numbers;
  later = omega arith;
  made = λ n e. absurd (cc);
  events = events_stay v.lane v.events disk disk m (record m { noting = without_conn k m.noting }) (λ file. ⊥) same (λ file own none. none) refl refl (λ e. ap (without_conn k) e) at.events;
})
  where
    same : Elsewhere (λ file. ⊥) disk disk
    same = record { same = λ file none. refl; crash = λ file none c left. left }

pub keeps_forget : (v v' : KeeperView) (k : ConnId) (noting : List ConnId) → noting ≡ without_conn k v.noting → Keeps (record v { noting = noting }) v' → Keeps v v'
keeps_forget v v' k noting is s = record {
  lane = s.lane;
  lanes = s.lanes;
  log_exit = s.log_exit;
  kind = s.kind;
  texts = s.texts;
  room_is = s.room_is;
  owed = let x = s.owed in let y = conn_shorter k v.noting in let e : length noting ≡ length (without_conn k v.noting) = ap (λ (ks : List ConnId). length ks) is in omega arith;
}

-- ---- What a table says

-- a log was released, and a state set for which there is room
pub released_departs : {T E : Type 0} (result : Result T E) (v v' : KeeperView) (released : Table) (n : ℕ) (k : ConnId) (s : ConnState) → SameBeside v v' → v'.waiting ≡ without_log (Some n) v.waiting
    → sessions released ≡ record (sessions v.table) { owner = λ i. if i == n then None else (sessions v.table).owner i } → spare released ≡ spare v.table
    → OnOk result (sessions v'.table ≡ record (sessions released) { states = λ j. if same j k then s else (sessions released).states j })
    → (room_for ((sessions released).states k) s ≤ spare released → IsOk result) → room_for ((sessions v.table).states k) s ≤ spare v.table → Departs (Some n) k s v v'
released_departs result v v' released n k s beside waiting free spares set enough room_is =
    let states : (sessions released).states ≡ (sessions v.table).states = ap (λ (x : Sessions). x.states) free in
    let room' : room_for ((sessions released).states k) s ≤ spare released =
    subst (λ (x : ℕ). room_for ((sessions released).states k) s ≤ x) (sym spares) (subst (λ (f : ConnId → ConnState). room_for (f k) s ≤ spare v.table) (sym states) room_is) in
    let then_is : sessions v'.table ≡ record (sessions released) { states = λ j. if same j k then s else (sessions released).states j } =
    on_ok result (sessions v'.table ≡ record (sessions released) { states = λ j. if same j k then s else (sessions released).states j }) set (enough room') in
    record {
      beside = beside;
      states = λ j. ap (λ (x : Sessions). x.states j) then_is ∙ ap (λ (f : ConnId → ConnState). if same j k then s else f j) states;
      owner = λ i. ap (λ (x : Sessions). x.owner i) then_is ∙ ap (λ (x : Sessions). x.owner i) free;
      waiting = waiting;
    }

-- a state was set for which there is room
pub set_departs : {T E : Type 0} (result : Result T E) (v v' : KeeperView) (k : ConnId) (s : ConnState) → SameBeside v v' → v'.waiting ≡ v.waiting
    → OnOk result (sessions v'.table ≡ record (sessions v.table) { states = λ j. if same j k then s else (sessions v.table).states j })
    → (room_for ((sessions v.table).states k) s ≤ spare v.table → IsOk result) → room_for ((sessions v.table).states k) s ≤ spare v.table → Departs None k s v v'
set_departs result v v' k s beside waiting set enough room_is =
    let then_is : sessions v'.table ≡ record (sessions v.table) { states = λ j. if same j k then s else (sessions v.table).states j } =
    on_ok result (sessions v'.table ≡ record (sessions v.table) { states = λ j. if same j k then s else (sessions v.table).states j }) set (enough room_is) in
    record {
      beside = beside;
      states = λ j. ap (λ (x : Sessions). x.states j) then_is;
      owner = λ i. ap (λ (x : Sessions). x.owner i) then_is;
      waiting = waiting;
    }

pub room_fresh : (a : ConnState) → room_for a Fresh ≤ 0
room_fresh Fresh = omega arith
room_fresh Greeted = omega arith
room_fresh Alerted = omega arith
room_fresh (Running log) = omega arith
room_fresh Dead = omega arith

pub set_states : {T E : Type 0} (result : Result T E) (old new : Table) (k : ConnId) (s : ConnState) → OnOk result (sessions new ≡ record (sessions old) { states = λ j. if same j k then s else (sessions old).states j })
    → (room_for ((sessions old).states k) s ≤ spare old → IsOk result) → room_for ((sessions old).states k) s ≤ spare old → (sessions new).states ≡ (λ j. if same j k then s else (sessions old).states j)
set_states result old new k s set enough room_is =
    ap (λ (x : Sessions). x.states) (on_ok result (sessions new ≡ record (sessions old) { states = λ j. if same j k then s else (sessions old).states j }) set (enough room_is))

-- a log was taken out of the open ones
pub took_out : (v v' : KeeperView) (n : ℕ) (its : OpenLog) (result : Option OpenLog) → SameBeside v v' → v'.table ≡ v.table → v'.waiting ≡ v.waiting → result ≡ open_logs v.logs n
    → open_logs v'.logs ≡ with_open n None (open_logs v.logs) → result ≡ Some its → TakenOut n its v v'
took_out v v' n its result beside table waiting taken rest is = record {
  beside = beside;
  table = table;
  waiting = waiting;
  logs = λ i. ap (λ (f : ℕ → Option OpenLog). f i) rest;
  open_one = its;
  was = sym taken ∙ is;
  same = refl;
}

pub keeps_same : (v : KeeperView) → Keeps v v
keeps_same v = record { lane = refl; lanes = refl; log_exit = refl; kind = refl; texts = refl; room_is = omega arith; owed = omega arith }
