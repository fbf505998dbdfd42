-- What the keeper and the disk stand for after an opening, and after each turn.
use Rattle.std.proofs.Common.{◌≡◌, ◌≤◌, ◌++◌, ◌∷◌, [], List, ℕ, Bool, Option, Some, None, refl, sym, ap, subst, ◌∙◌, append_assoc, inl, inr, arith}
use Rattle.std.specs.List.{AllByRecursion}
use Rattle.std.specs.Prelude.{IsSome}
use Rattle.lsv_base.specs.Time.{nanos_of}
use Rattle.lsv_base.specs.declared.time.TimeSpec.{TimeSpec}
use Rattle.lsv_defs.specs.Causes.{HasRisen}
use Rattle.lsv_disk.specs.View.{DiskView, IsCrashImage}
use Rattle.lsv_disk.specs.declared.file.FileId.{FileId}
use Rattle.lsv_disk.proofs.Composition.{risen_first, risen_second}
use Rattle.lsv_iolog.specs.Recovered.{Replays}
use Rattle.lsv_record.specs.Points.{Stored}
use Rattle.lsv_event.specs.declared.event.Kind.{Kind}
use Rattle.lsv_session.specs.Table.{Sessions}
use Rattle.lsv_session.specs.declared.connection.ConnId.{ConnId}
use Rattle.lsv_session.specs.declared.job.Job.{Job}
use Rattle.lsv_session.specs.declared.reply.Reply.{Reply}
use Rattle.lsv_machine.specs.Disks.{NumbersFit}
use Rattle.lsv_machine.specs.InnerSoFar.{with_turn}
use Rattle.lsv_machine.specs.Keeping.{Opened, Turned}
use Rattle.lsv_machine.specs.Machine.{LogState, LogState.Absent, LogState.Damaged, LogState.There, Machine, Settings}
use Rattle.lsv_machine.specs.Stands.{Sound}
use Rattle.lsv_machine.specs.Starts.{ReadsAs}
use Rattle.lsv_machine.proofs.Recovering.{opening_begins, turn_joins}
use Rattle.lsv_keeper.specs.Causes.{AnyBringsLine, AnyIsOf, CountRose, HasFailed, IsDeviceFault, MayAnswerTo, MayFail, Says}
use Rattle.lsv_keeper.specs.Opening.{IsSetTo, OpensAs}
use Rattle.lsv_keeper.specs.Reading.{reading_of}
use Rattle.lsv_keeper.specs.Represents.{LogIs, Represents}
use Rattle.lsv_keeper.specs.Room.{IsRoomier}
use Rattle.lsv_keeper.specs.Tails.{TurnGives}
use Rattle.lsv_keeper.specs.Value.{AreLinked, AreWhole, IsResting, KeeperView, SameSet, event_line, settings_of}
use Rattle.lsv_keeper.specs.Syncing.{NoLogUsed}
use Rattle.lsv_keeper.specs.Syncs.{SparesDamaged}
use Rattle.lsv_keeper.proofs.Causes.{all_as, failed_same}
use Rattle.lsv_keeper.proofs.DamagedLemmas.{turn_damaged}
use Rattle.lsv_keeper.proofs.SparingLemmas.{spares_on}
use Rattle.lsv_turn.specs.Turns.{LaneTurn, TapeTurn, all_taped, taped}
use Rattle.lsv_lane.specs.InnerLane.{IsMade, Standing}
use Rattle.lsv_lane.specs.Store.{AnsweredFrom, AreAnswered, HasAnswerCause, IsAnswered, NoneFell, lane_settings}
use Rattle.lsv_lane.proofs.TurnLists.{all_last, are_turns_last, taped_last}

-- ---- Settings

set_same : (v w : KeeperView) → SameSet v w → settings_of w ≡ settings_of v
set_same v w e = λ i. record { lane = e.lane i; lanes = e.lanes i; log_exit = e.log_exit i; line_of = λ now k asked log. event_line (e.kind i) now k asked log }

set_to : (lane lanes : ℕ) (kind : Kind) (log_exit : Bool) (texts : List (List ℕ)) (v : KeeperView) → IsSetTo lane lanes kind log_exit texts v → settings_of v ≡ lane_settings lane lanes kind log_exit
set_to lane lanes kind log_exit texts v e = λ i. record { lane = e.lane_is i; lanes = e.lanes_is i; log_exit = e.log_exit_is i; line_of = λ now k asked log. event_line (e.kind_is i) now k asked log }

-- ---- Room

-- a keeper with another table is this one
other_table : (v w : KeeperView) → IsRoomier v w → w ≡ record v { table = w.table }
other_table v w r = ap (λ (y : KeeperView). record y { table = w.table }) r.others

roomier_set : (v w : KeeperView) → IsRoomier v w → SameSet v w
roomier_set v w r = record {
  lane = ap (λ (y : KeeperView). y.lane) r.others;
  lanes = ap (λ (y : KeeperView). y.lanes) r.others;
  log_exit = ap (λ (y : KeeperView). y.log_exit) r.others;
  kind = ap (λ (y : KeeperView). y.kind) r.others;
  texts = ap (λ (y : KeeperView). y.texts) r.others;
}

log_is : (v : KeeperView) (t : _) (disk : DiskView) (m : Machine) (n : ℕ) (o : Option ConnId) → LogIs v disk m n o → LogIs (record v { table = t }) disk m n o
log_is v t disk m n None f = record { closed = f.closed; reads = f.reads; enough = f.enough }
log_is v t disk m n (Some k) h = record { its = h.its; here = h.here; value = h.value; represents = h.represents; number = h.number; going = h.going; mask = h.mask; promised = h.promised; there = h.there; enough = h.enough }

pub roomier_stands : (v w : KeeperView) (disk : DiskView) (m : Machine) → IsRoomier v w → Represents v disk m → Represents w disk m
roomier_stands v w disk m r is = subst (λ (y : KeeperView). Represents y disk m) (sym (other_table v w r)) (record {
  sound = is.sound;
  few_lanes = is.few_lanes;
  texts = is.texts;
  states = λ k. is.states k ∙ ap (λ (s : Sessions). s.states k) (sym r.sessions_are);
  owner = λ n. is.owner n ∙ ap (λ (s : Sessions). s.owner n) (sym r.sessions_are);
  waiting = is.waiting;
  noting = is.noting;
  rising = is.rising;
  waits = is.waits;
  logs = λ n. log_is v w.table disk m n (m.owner n) (is.logs n);
  numbers = is.numbers;
  unmade = is.unmade;
  events = is.events;
})

pub roomier_rests : (v w : KeeperView) → IsRoomier v w → IsResting v → IsResting w
roomier_rests v w r rests = record { none_waits = ap (λ (y : KeeperView). y.waiting) r.others ∙ rests.none_waits; nobody_noted = ap (λ (y : KeeperView). y.noting) r.others ∙ rests.nobody_noted; linked = subst AreLinked (sym r.sessions_are) rests.linked; whole = subst AreWhole (sym (ap (λ (y : KeeperView). y.logs) r.others)) rests.whole }

-- what a turn gives from a keeper with more room, it gives from this one
roomier_gives : (v w : KeeperView) (now : TimeSpec) (jobs : List Job) (m : Machine) (said said' : List Reply) (v' : KeeperView) (old new : DiskView) → IsRoomier v w
    → TurnGives w now jobs m said said' v' old new → TurnGives v now jobs m said said' v' old new
roomier_gives v w now jobs m said said' v' old new r g =
    let t : TurnGives (record v { table = w.table }) now jobs m said said' v' old new = subst (λ (y : KeeperView). TurnGives y now jobs m said said' v' old new) (other_table v w r) g in
    record { replies = t.replies; after = t.after; told = t.told; turned = t.turned; no_line = t.no_line; represents = t.represents }

-- ---- After an opening

-- a log of which nothing can be recovered is damaged
damaged_as : (reads : Option Stored → Type 0) (x : LogState) → ReadsAs reads x → ((found : Option Stored) → reads found → ⊥) → x ≡ Damaged
damaged_as reads Absent is nothing = absurd (nothing None is)
damaged_as reads Damaged is nothing = refl
damaged_as reads (There stored promised) is nothing = absurd (nothing (Some stored) is)

standing_open : (lane lanes : ℕ) (kind : Kind) (log_exit : Bool) (texts : List (List ℕ)) (found new : DiskView) (v : KeeperView) → IsSetTo lane lanes kind log_exit texts v → NumbersFit (reading_of lane lanes) lane lanes (IsCrashImage found)
    → OpensAs lane lanes texts found new v → NoLogUsed found new → Standing (lane_settings lane lanes kind log_exit) texts found new v []
standing_open lane lanes kind log_exit texts found new v is fit (m, opened, represents, none) unused =
    let set = lane_settings lane lanes kind log_exit in
    let opens : Opened (reading_of lane lanes) set texts m found new = subst (λ (s : Settings). Opened (reading_of lane lanes) s texts m found new) (set_to lane lanes kind log_exit texts v is) opened in
    record {
      machine = m;
      story = record { opened = new.moment; turns = [] };
      so_far = opening_begins (reading_of lane lanes) set texts m found new fit opens;
      same = tt;
      represents = represents;
      places = opens.store.files.places;
      damaged = λ n nothing. damaged_as (Replays found.reads n) (m.logs n) (opens.reads_as n) nothing;
      spared = λ n nothing file own other. (unused n).writes file own;
    }

pub made_open : (tells taping : Type 0) (lane lanes : ℕ) (kind : Kind) (log_exit : Bool) (texts : List (List ℕ)) (found new : DiskView) (v : KeeperView) (tape : List TapeTurn) → IsSetTo lane lanes kind log_exit texts v → IsResting v
    → (tells → NumbersFit (reading_of lane lanes) lane lanes (IsCrashImage found)) → (tells → NumbersFit (reading_of lane lanes) lane lanes (IsCrashImage found) → OpensAs lane lanes texts found new v)
    → (HasFailed v → ⊥) → ((file : FileId) → found.faults file ≤ new.faults file) → (tells → NoLogUsed found new) → IsMade tells taping (lane_settings lane lanes kind log_exit) texts found new v tape tape []
made_open tells taping lane lanes kind log_exit texts found new v tape is rests fit opens sound later unused = record {
  rests = rests;
  set_is = set_to lane lanes kind log_exit texts v is;
  timed = tt;
  taped = λ told. sym (append_nil_of tape);
  standing = λ told. standing_open lane lanes kind log_exit texts found new v is (fit told) (opens told (fit told)) (unused told);
  opened = new.faults;
  first = later;
  later = λ file. omega arith;
  failed = λ failed. absurd (sound failed);
  answered = λ file. refl;
}
  where
    append_nil_of : (xs : List TapeTurn) → xs ++ [] ≡ xs
    append_nil_of [] = refl
    append_nil_of (x ∷ xs) = ap (λ (ys : List TapeTurn). x ∷ ys) (append_nil_of xs)

-- ---- After a turn

standing_turn : (set : Settings) (texts : List (List ℕ)) (found old new : DiskView) (v v' : KeeperView) (turns : List LaneTurn) (t : LaneTurn) → settings_of v ≡ set → (s : Standing set texts found old v turns)
    → TurnGives v t.now t.jobs s.machine [] t.replies v' old new → SparesDamaged s.machine old new → Standing set texts found new v' (turns ++ t ∷ [])
standing_turn set texts found old new v v' turns t is s g spares =
    let turned : Turned (reading_of set.lane set.lanes) set t.now t.jobs g.replies s.machine g.after old new =
    subst (λ (x : Settings). Turned (reading_of x.lane x.lanes) x t.now t.jobs g.replies s.machine g.after old new) is g.turned in
    record {
      machine = g.after;
      story = with_turn s.story t.now turned.acts turned.tail new.moment g.after.lines;
      so_far = turn_joins (reading_of set.lane set.lanes) set texts found s.story t.now t.jobs g.replies s.machine g.after old new s.so_far turned;
      same = are_turns_last turns s.story.turns t _ s.same (record { now = refl; jobs = turned.jobs_are; replies = turned.replies_are ∙ sym g.told });
      represents = g.represents;
      places = turned.files.places ∙ s.places;
      damaged = λ n nothing. turn_damaged n set turned.acts turned.tail s.machine g.after (subst (λ (x : Settings). Sound x s.machine) is s.represents.sound) turned.run (s.damaged n nothing);
      spared = λ n nothing. spares_on n found old new (s.spared n nothing) (spares n (s.damaged n nothing));
    }

standing_roomier : (set : Settings) (texts : List (List ℕ)) (found old : DiskView) (v w : KeeperView) (turns : List LaneTurn) → IsRoomier v w → Standing set texts found old v turns → Standing set texts found old w turns
standing_roomier set texts found old v w turns r s = record { machine = s.machine; story = s.story; so_far = s.so_far; same = s.same; represents = roomier_stands v w old s.machine r s.represents; places = s.places; damaged = s.damaged; spared = s.spared }

-- a keeper with more room failed only where this one did
roomier_failed : (v w : KeeperView) → IsRoomier v w → HasFailed w → HasFailed v
roomier_failed v w r = failed_same v w (ap (λ (y : KeeperView). y.numbers) r.others) (ap (λ (y : KeeperView). y.events) r.others)

-- a count that rose from equal counts
rose_alike : (a b c : FileId → ℕ) → ((file : FileId) → b file ≡ a file) → CountRose b c → CountRose a c
rose_alike a b c same (file, of, risen) = (file, of, subst (λ (x : ℕ). HasRisen x (c file)) (same file) risen)

rose_into : (a b c : FileId → ℕ) → ((file : FileId) → c file ≡ b file) → CountRose a c → CountRose a b
rose_into a b c same (file, of, risen) = (file, of, subst (λ (x : ℕ). HasRisen (a file) x) (same file) risen)

-- a turn with a cause is so with a wider one
answered_as : (a b : ConnId → Type 0) (t : LaneTurn) → ((k : ConnId) → a k → b k) → IsAnswered a t → IsAnswered b t
answered_as a b t wider is = record { asked = is.asked; cause = all_as (λ r. IsDeviceFault r → a r.conn) (λ r. IsDeviceFault r → b r.conn) t.replies (λ r told fault. wider r.conn (told fault)) is.cause }

cause_alike : (log_exit : Bool) (first a b c : FileId → ℕ) (jobs : List Job) (k : ConnId) → ((file : FileId) → b file ≡ a file) → HasAnswerCause log_exit first b c jobs k → HasAnswerCause log_exit first a c jobs k
cause_alike log_exit first a b c jobs k same (inl rose) = inl (rose_alike a b c same rose)
cause_alike log_exit first a b c jobs k same (inr (rose, brings)) = inr (rose_into first a b same rose, brings)

-- turns with one turn more
answered_last : (log_exit : Bool) (first a b c : FileId → ℕ) (turns : List LaneTurn) (t : LaneTurn) → AnsweredFrom log_exit first a turns b → NoneFell b c → IsAnswered (HasAnswerCause log_exit first b c t.jobs) t → AnsweredFrom log_exit first a (turns ++ t ∷ []) c
answered_last log_exit first a b c [] t same later is = (
  c,
  (λ file. let x = same file in let y = later file in omega arith),
  answered_as (HasAnswerCause log_exit first b c t.jobs) (HasAnswerCause log_exit first a c t.jobs) t (λ k. cause_alike log_exit first a b c t.jobs k same) is,
  λ file. refl,
)
answered_last log_exit first a b c (u ∷ turns) t (mid, fell, one, rest) later is = (mid, fell, one, answered_last log_exit first mid b c turns t rest later is)

-- a run from earlier counts is so answered
pub answered_before : (log_exit : Bool) (found mid left : FileId → ℕ) (turns : List LaneTurn) → NoneFell found mid → AreAnswered log_exit mid left turns → AreAnswered log_exit found left turns
answered_before log_exit found mid left turns fell (opened, more, answered) = (opened, (λ file. let x = fell file in let y = more file in omega arith), answered)

module _ (tells taping : Type 0) (set : Settings) (texts : List (List ℕ)) (found : DiskView) (tape : List TapeTurn) where
  -- with room for a turn
  pub made_roomier : (old : DiskView) (v w : KeeperView) (kept : List TapeTurn) (turns : List LaneTurn) → IsRoomier v w → IsMade tells taping set texts found old v tape kept turns → IsMade tells taping set texts found old w tape kept turns
  made_roomier old v w kept turns r is = record {
    rests = roomier_rests v w r is.rests;
    set_is = set_same v w (roomier_set v w r) ∙ is.set_is;
    timed = is.timed;
    taped = is.taped;
    standing = λ told. standing_roomier set texts found old v w turns r (is.standing told);
    opened = is.opened;
    first = is.first;
    later = is.later;
    failed = λ failed. is.failed (roomier_failed v w r failed);
    answered = is.answered;
  }

  -- with another tape that tells the same
  pub made_taped : (old : DiskView) (v : KeeperView) (kept kept' : List TapeTurn) (turns : List LaneTurn) → (taping → kept' ≡ kept) → IsMade tells taping set texts found old v tape kept turns → IsMade tells taping set texts found old v tape kept' turns
  made_taped old v kept kept' turns same is = record { rests = is.rests; set_is = is.set_is; timed = is.timed; taped = λ told. same told ∙ is.taped told; standing = is.standing; opened = is.opened; first = is.first; later = is.later; failed = is.failed; answered = is.answered }

  -- after a turn, which was kept
  pub made_turn : (old new : DiskView) (v v' : KeeperView) (kept kept' : List TapeTurn) (turns : List LaneTurn) (t : LaneTurn) → IsSome (nanos_of t.now) → (taping → kept' ≡ kept ++ taped t ∷ [])
      → IsResting v' → SameSet v v' → (tells → (m : Machine) → Represents v old m → TurnGives v t.now t.jobs m [] t.replies v' old new)
      → (tells → (m : Machine) → Represents v old m → SparesDamaged m old new) → Says (AnyIsOf t.jobs) (MayAnswerTo v t.jobs old new) [] t.replies → (HasFailed v' → MayFail v old new) → ((file : FileId) → old.faults file ≤ new.faults file) → IsMade tells taping set texts found old v tape kept turns → IsMade tells taping set texts found new v' tape kept' (turns ++ t ∷ [])
  made_turn old new v v' kept kept' turns t valid more rests same gives spares says failed later is = record {
    rests = rests;
    set_is = set_same v v' same ∙ is.set_is;
    timed = all_last (λ (x : LaneTurn). IsSome (nanos_of x.now)) turns t is.timed valid;
    taped = λ told. more told ∙ ap (λ (l : List TapeTurn). l ++ taped t ∷ []) (is.taped told) ∙ append_assoc tape (all_taped turns) (taped t ∷ []) ∙ ap (λ (l : List TapeTurn). tape ++ l) (sym (taped_last turns t));
    standing = λ told. let s = is.standing told in standing_turn set texts found old new v v' turns t is.set_is s (gives told s.machine s.represents) (spares told s.machine s.represents);
    opened = is.opened;
    first = is.first;
    later = λ file. let a = is.later file in let b = later file in omega arith;
    failed = λ fails. rose (failed fails);
    answered = answered_last set.log_exit is.opened is.opened old.faults new.faults turns t is.answered later
        (answered_as (MayAnswerTo v t.jobs old new) (HasAnswerCause set.log_exit is.opened old.faults new.faults t.jobs) t its_cause
        (record { asked = subst (AllByRecursion (λ r. AnyIsOf t.jobs r.conn)) (sym says.behind) says.asked; cause = subst (AllByRecursion (λ r. IsDeviceFault r → MayAnswerTo v t.jobs old new r.conn)) (sym says.behind) says.cause }));
  }
    where
      rose : MayFail v old new → CountRose is.opened new.faults
      rose (inl fails) = let (file, of, risen) = is.failed fails in (file, of, risen_first (is.opened file) (old.faults file) (new.faults file) risen (later file))
      rose (inr (file, of, risen)) = (file, of, risen_second (is.opened file) (old.faults file) (new.faults file) (is.later file) risen)

      its_cause : (k : ConnId) → MayAnswerTo v t.jobs old new k → HasAnswerCause set.log_exit is.opened old.faults new.faults t.jobs k
      its_cause k (inl risen) = inl risen
      its_cause k (inr (failed, brings)) = inr (is.failed failed, subst (λ (b : Bool). AnyBringsLine b t.jobs k) (ap (λ (s : Settings). s.log_exit) is.set_is) brings)

-- what a turn gives, where nothing was said before it
pub gives_first : (v : KeeperView) (now : TimeSpec) (jobs : List Job) (m : Machine) (said said' : List Reply) (v' : KeeperView) (old new : DiskView) → said ≡ [] → TurnGives v now jobs m said said' v' old new → TurnGives v now jobs m [] said' v' old new
gives_first v now jobs m said said' v' old new none g = subst (λ (s : List Reply). TurnGives v now jobs m s said' v' old new) none g
