-- What a keeper and its disk stand for after calls: all that these didn't touch stays.
use Rattle.std.proofs.Common.{◌≡◌, ◌≢◌, ◌≤◌, ◌<◌, ℕ, [], sym, ◌∙◌, ap, subst, inl, inr, arith, Option, Some, None, ◌⊎◌}
use Rattle.lsv_disk.specs.View.{DiskView, Elsewhere, Image}
use Rattle.lsv_disk.specs.declared.file.FileId.{FileId}
use Rattle.lsv_disk.specs.declared.file.Owner.TheVariants as owners
use Rattle.lsv_eventlog.specs.Value.{EventLogView}
use Rattle.lsv_eventlog.proofs.Laws as event_logs
use Rattle.lsv_eventlog.proofs.Laws.{local_text, of_lane}
use Rattle.lsv_iolog.specs.Recovered.{IsUnmade, Replays, SameFiles}
use Rattle.lsv_iolog.proofs.Replaying.{local_replay}
use Rattle.lsv_iolog.proofs.Representing as representing
use Rattle.lsv_seq.proofs.Laws as drawing
use Rattle.lsv_seq.specs.Value.{lane_of}
use Rattle.lsv_seq.specs.declared.numbers.Numbers.{Numbers}
use Rattle.lsv_session.specs.declared.connection.ConnId.{ConnId}
use Rattle.lsv_machine.specs.Machine.{IsOfLane, LogState, LogState.Absent, LogState.Damaged, LogState.There, Machine, Settings}
use Rattle.lsv_machine.specs.Stands.{Sound}
use Rattle.lsv_machine.specs.Starts.{ReadsAs}
use Rattle.lsv_machine.specs.Work.{next_number}
use Rattle.lsv_machine.proofs.Choices.{EqOr.equal, EqOr.unequal, eq_or}
use Rattle.lsv_keeper.specs.Represents.{AllOwned, EventsAre, LogIs, NumbersAre, Represents, Rising}
use Rattle.lsv_keeper.specs.Value.{KeeperView, log_in, sessions_of, settings_of}
use Rattle.lsv_keeper.proofs.Frames.{IsApart, unmade_stays}

-- ---- What isn't touched

reads_same : (a b : Image) (n : ℕ) (x : LogState) → SameFiles n a b → ReadsAs (Replays a n) x → ReadsAs (Replays b n) x
reads_same a b n Absent same is = local_replay a b n None same is
reads_same a b n Damaged same is = λ found at. is found (local_replay b a n found (λ file own. sym (same file own)) at)
reads_same a b n (There stored promised) same is = local_replay a b n (Some stored) same is

-- a log of which no file was touched
pub log_stays : (v v' : KeeperView) (old new : DiskView) (m m' : Machine) (n : ℕ) (o : Option ConnId) (Touched : FileId → Type 0) → Elsewhere Touched old new → IsApart n Touched
    → v'.texts ≡ v.texts → log_in v' n ≡ log_in v n → m'.logs n ≡ m.logs n → LogIs v old m n o → LogIs v' new m' n o
log_stays v v' old new m m' n None Touched elsewhere apart texts here logs is = record {
  closed = here ∙ is.closed;
  reads = subst (λ (x : LogState). ReadsAs (Replays new.reads n) x) (sym logs) (reads_same old.reads new.reads n (m.logs n) (λ file own. elsewhere.same file (apart file own)) is.reads);
  enough = λ stored promised e. is.enough stored promised (sym logs ∙ e);
}
log_stays v v' old new m m' n (Some k) Touched elsewhere apart texts here logs is = record {
  its = is.its;
  here = here ∙ is.here;
  value = is.value;
  represents = representing.log_stays is.its.log is.value Touched old new elsewhere (λ file own. apart file (own ∙ ap owners.Log is.number)) is.represents;
  number = is.number;
  going = is.going;
  mask = rw texts is.mask;
  promised = is.promised;
  there = logs ∙ is.there;
  enough = is.enough;
}

-- numbers of which no file was touched
pub numbers_stay : (lane lanes : ℕ) (drawn : Numbers) (old new : DiskView) (next failed : ℕ) (Touched : FileId → Type 0) → Elsewhere Touched old new
    → ((file : FileId) → file.owner ≡ owners.Numbers lane → Touched file → ⊥) → NumbersAre lane lanes drawn old next failed → NumbersAre lane lanes drawn new next failed
numbers_stay lane lanes drawn old new next failed Touched elsewhere apart is = record {
  lane_is = is.lane_is;
  lanes_is = is.lanes_is;
  represents = drawing.numbers_stay drawn Touched old new is.represents elsewhere (λ file own. apart file (drawing.numbers_owner (lane_of drawn) file own ∙ ap owners.Numbers is.lane_is));
  passed = is.passed;
  next_is = is.next_is;
  few = is.few;
}

-- an event log of which no file was touched, for a machine with the same lines
pub events_stay : (lane : ℕ) (log : EventLogView) (old new : DiskView) (m m' : Machine) (Touched : FileId → Type 0) → Elsewhere Touched old new
    → ((file : FileId) → file.owner ≡ owners.Events lane → Touched file → ⊥) → m'.lines ≡ m.lines → m'.fresh ≡ m.fresh → (m.noting ≡ [] → m'.noting ≡ []) → EventsAre lane log old m → EventsAre lane log new m'
events_stay lane log old new m m' Touched elsewhere apart lines fresh noting is = record {
  lane_is = is.lane_is;
  sound = is.sound;
  reads = rw lines (local_text old.reads new.reads lane m.lines (λ file own. elsewhere.same file (apart file (of_lane lane file own))) is.reads);
  whole = λ whole.
      let its = is.whole whole in
      let stays = event_logs.log_stays log Touched old new is.sound elsewhere (λ file own. apart file (own ∙ ap owners.Events is.lane_is)) its.represents in
      record { represents = stays.0; committed = stays.1 ∙ its.committed ∙ sym lines; added = its.added ∙ sym fresh };
  broken = λ broken. record { none_fresh = fresh ∙ (is.broken broken).none_fresh; nobody_noted = noting (is.broken broken).nobody_noted };
}

-- ---- What a job changes

-- log i is what it is now, if there is one
abbrev pub ItsLog : Option ℕ → KeeperView → DiskView → Machine → Type 0
ItsLog None v disk m = Unit {0}
ItsLog (Some i) v disk m = LogIs v disk m i (m.owner i)

-- what a change of log i, or of none, has to show
pub record Changes (i : Option ℕ) (v v' : KeeperView) (new : DiskView) (m m' : Machine) : Type 0 where
  pub lane : v'.lane ≡ v.lane
  pub lanes : v'.lanes ≡ v.lanes
  pub keeps_texts : v'.texts ≡ v.texts
  pub sound : Sound (settings_of v) m'
  pub texts : m'.texts ≡ m.texts
  pub states : (k : ConnId) → m'.states k ≡ (sessions_of v').states k
  pub owner : (n : ℕ) → m'.owner n ≡ (sessions_of v').owner n
  pub waiting : m'.waiting ≡ v'.waiting
  pub noting : m'.noting ≡ v'.noting
  pub rising : Rising m'.waiting
  pub waits : AllOwned m'.owner m'.waiting
  pub others : (n : ℕ) → i ≢ Some n → (m'.logs n ≡ m.logs n) × (m'.owner n ≡ m.owner n) × (log_in v' n ≡ log_in v n)
  pub its : ItsLog i v' new m'
  pub numbers : NumbersAre v'.lane v'.lanes v'.numbers new (next_number (settings_of v') m') m'.failed_draws
  pub later : m.last ≤ m'.last
  pub made : (n : ℕ) → i ≡ Some n → IsOfLane v'.lane v'.lanes n → m'.last < n → IsUnmade n new
  pub events : EventsAre v'.lane v'.events new m'

-- whether the log that a job is about is n
pub its_or : (i : Option ℕ) (n : ℕ) → (i ≡ Some n) ⊎ (i ≢ Some n)
its_or None n = inr (λ e. cc)
its_or (Some i) n = elim (eq_or i n) [ equal p t ↦ inl (ap Some p) | unequal p t ↦ inr (λ e. p (let f : i ≡ n = cc in f)) ]

pub lane_as : (a b a' b' n : ℕ) → a' ≡ a → b' ≡ b → IsOfLane a' b' n → IsOfLane a b n
lane_as a b a' b' n e f is = subst (λ x. IsOfLane x b n) e (subst (λ x. IsOfLane a' x n) f is)

-- soundness asks of the settings the lanes alone
pub sound_as : (set set' : Settings) (m : Machine) → set'.lane ≡ set.lane → set'.lanes ≡ set.lanes → Sound set m → Sound set' m
sound_as set set' m e f s = record {
  lane = rw (e, f) s.lane;
  drawn = elim s.drawn [ inl zero ↦ inl zero | inr is ↦ inr (lane_as set'.lane set'.lanes set.lane set.lanes m.last (sym e) (sym f) is) ];
  owns = s.owns;
  owned = s.owned;
  there = s.there;
  none_above = λ n is above. s.none_above n (lane_as set.lane set.lanes set'.lane set'.lanes n e f is) above;
}

pub represents_one : (i : Option ℕ) (v v' : KeeperView) (old new : DiskView) (m m' : Machine) (Touched : FileId → Type 0) → Represents v old m
    → Elsewhere Touched old new → ((n : ℕ) → i ≢ Some n → IsApart n Touched) → Changes i v v' new m m' → Represents v' new m'
represents_one i v v' old new m m' Touched at elsewhere apart c = record {
  sound = sound_as (settings_of v) (settings_of v') m' c.lane c.lanes c.sound;
  few_lanes = subst (λ (x : ℕ). x ≤ 8) (sym c.lanes) at.few_lanes;
  texts = c.texts ∙ at.texts ∙ sym c.keeps_texts;
  states = c.states;
  owner = c.owner;
  waiting = c.waiting;
  noting = c.noting;
  rising = c.rising;
  waits = c.waits;
  logs = λ n. elim (its_or i n) [
    | inl e ↦ subst (λ (x : Option ℕ). ItsLog x v' new m') e c.its
    | inr other ↦
        let (logs, own, here) = c.others n other in
        subst (λ (o : Option ConnId). LogIs v' new m' n o) (sym own) (log_stays v v' old new m m' n (m.owner n) Touched elsewhere (apart n other) c.keeps_texts here logs (at.logs n))
  ];
  numbers = c.numbers;
  unmade = λ n is above.
      let is' : IsOfLane v.lane v.lanes n = lane_as v.lane v.lanes v'.lane v'.lanes n c.lane c.lanes is in
      elim (its_or i n) [
        | inl e ↦ c.made n e is above
        | inr other ↦ unmade_stays n Touched old new (apart n other) elsewhere (at.unmade n is' (let x = c.later in omega arith))
      ];
  events = c.events;
}
