-- A keeper with more room, and one of which a connection comes to write a log: what it stands for.
use Rattle.std.proofs.Common.{◌≡◌, ◌≤◌, ◌<◌, ℕ, List, [], ◌∷◌, length, refl, sym, ◌∙◌, ap, subst, arith, Option, Some, None}
use Rattle.std.specs.Prelude.{◌==◌, if◌then◌else◌}
use Rattle.lsv_disk.specs.View.{DiskView, Elsewhere}
use Rattle.lsv_iolog.specs.Represents as logs
use Rattle.lsv_iolog.specs.Value.{LogValue, all_of, flushed}
use Rattle.lsv_session.specs.Table.{Sessions, sessions}
use Rattle.lsv_session.specs.declared.connection.ConnId.{ConnId}
use Rattle.lsv_session.specs.declared.connection.ConnState.TheVariants.{Running}
use Rattle.lsv_session.specs.declared.table.Table.{Table}
use Rattle.lsv_record.specs.Points.{Stored}
use Rattle.lsv_machine.specs.Machine.{IsOfLane, LogState.Absent, LogState.There, Machine, log_of, same, with_owner, with_state}
use Rattle.lsv_machine.specs.Stands.{Sound}
use Rattle.lsv_machine.proofs.Choices.{EqOr.equal, EqOr.unequal, SameOr.alike, SameOr.apart, eq_or, same_or}
use Rattle.lsv_keeper.specs.declared.logs.OpenLog.{OpenLog}
use Rattle.lsv_keeper.specs.declared.logs.OpenLogs.{OpenLogs}
use Rattle.lsv_keeper.specs.Logs.{open_logs}
use Rattle.lsv_keeper.specs.Represents.{AllOwned, LogIs, Masks, Represents}
use Rattle.lsv_keeper.specs.Room.{IsRoomier}
use Rattle.lsv_keeper.specs.Value.{AreLinked, AreWhole, IsReserved, IsResting, Keeps, KeeperView, Owns, log_in, owed, settings_of}
use Rattle.lsv_keeper.proofs.Standing.{events_stay, represents_one}

nowhere : (disk : DiskView) → Elsewhere (λ file. ⊥) disk disk
nowhere disk = record { same = λ file other. refl; crash = λ file other c left. left }

-- ---- More room

pub reserved_keeps : (v v' : KeeperView) → IsReserved v v' → Keeps v v'
reserved_keeps v v' r = record {
  lane = ap (λ (x : KeeperView). x.lane) r.others;
  lanes = ap (λ (x : KeeperView). x.lanes) r.others;
  log_exit = ap (λ (x : KeeperView). x.log_exit) r.others;
  kind = ap (λ (x : KeeperView). x.kind) r.others;
  texts = ap (λ (x : KeeperView). x.texts) r.others;
  room_is = let e = r.room_is in omega arith;
  owed = let e : owed v' ≡ owed v = ap owed r.others in omega arith;
}

-- another table and other open logs that say the same
same_tables : (v : KeeperView) (table : Table) (open_ones : OpenLogs) (disk : DiskView) (m : Machine) → sessions table ≡ sessions v.table → open_logs open_ones ≡ open_logs v.logs → Represents v disk m → Represents (record v { table = table; logs = open_ones }) disk m
same_tables v table open_ones disk m s l at = represents_one None v (record v { table = table; logs = open_ones }) disk disk m m (λ file. ⊥) at (nowhere disk) (λ n other file own t. t) (record {
  lane = refl;
  lanes = refl;
  keeps_texts = refl;
  sound = at.sound;
  texts = refl;
  states = λ k. at.states k ∙ sym (ap (λ (x : Sessions). x.states k) s);
  owner = λ n. at.owner n ∙ sym (ap (λ (x : Sessions). x.owner n) s);
  waiting = at.waiting;
  noting = at.noting;
  rising = at.rising;
  waits = at.waits;
  others = λ n other. (refl, refl, ap (λ (f : ℕ → Option OpenLog). f n) l);
  its = tt;
  numbers = at.numbers;
  later = omega arith;
  made = λ n e. let f : None ≡ Some n = e in absurd (cc);
  events = at.events;
})

pub reserved_represents : (v v' : KeeperView) (disk : DiskView) (m : Machine) → IsReserved v v' → Represents v disk m → Represents v' disk m
reserved_represents v v' disk m r at =
    let e : v' ≡ record v { table = v'.table; logs = v'.logs } = ap (λ (x : KeeperView). record x { table = v'.table; logs = v'.logs }) r.others in
    subst (λ (x : KeeperView). Represents x disk m) (sym e) (same_tables v v'.table v'.logs disk m r.sessions_are r.logs_are at)

-- a keeper with room for more connections
pub roomier_represents : (v v' : KeeperView) (disk : DiskView) (m : Machine) → IsRoomier v v' → Represents v disk m → Represents v' disk m
roomier_represents v v' disk m r at =
    let e : v' ≡ record v { table = v'.table } = ap (λ (x : KeeperView). record x { table = v'.table }) r.others in
    subst (λ (x : KeeperView). Represents x disk m) (sym e) (same_tables v v'.table v.logs disk m r.sessions_are refl at)

pub roomier_rests : (v v' : KeeperView) → IsRoomier v v' → IsResting v → IsResting v'
roomier_rests v v' r rests = record { none_waits = ap (λ (x : KeeperView). x.waiting) r.others ∙ rests.none_waits; nobody_noted = ap (λ (x : KeeperView). x.noting) r.others ∙ rests.nobody_noted; linked = subst AreLinked (sym r.sessions_are) rests.linked; whole = subst AreWhole (sym (ap (λ (x : KeeperView). x.logs) r.others)) rests.whole }

-- ---- A log that a connection comes to write

-- the machine of it is sound
pub begun_sound : (v : KeeperView) (m : Machine) (k : ConnId) (n : ℕ) (promised : ℕ) (value : LogValue) → Sound (settings_of v) m → m.owner n ≡ None → log_of (m.states k) ≡ None → m.logs n ≡ There (flushed value) promised
    → Sound (settings_of v) (with_state k (Running (Some n)) (with_owner n (Some k) m))
begun_sound v m k n promised value s free idle there = record { lane = s.lane; drawn = s.drawn; owns = owns; owned = owned; there = all_there; none_above = above }
  where
    m' : Machine
    m' = with_state k (Running (Some n)) (with_owner n (Some k) m)

    owns : (i : ℕ) (j : ConnId) → (if i == n then Some k else m.owner i) ≡ Some j → log_of (if same j k then Running (Some n) else m.states j) ≡ Some i
    owns i j own = elim (eq_or i n) [
      | equal p t ↦ (let e : Some k ≡ Some j = rw t at own in let q : k ≡ j = cc in elim (same_or j k) [ alike a u ↦ rw u (ap Some (sym p)) | apart a u ↦ absurd (a (sym q)) ])
      | unequal p t ↦ (let e : m.owner i ≡ Some j = rw t at own in elim (same_or j k) [
        | alike a u ↦ absurd (let w : log_of (m.states k) ≡ Some i = subst (λ (x : ConnId). log_of (m.states x) ≡ Some i) a (s.owns i j e) in let x : None ≡ Some i = sym idle ∙ w in cc)
        | apart a u ↦ rw u (s.owns i j e)
      ])
    ]

    owned : (j : ConnId) (i : ℕ) → log_of (if same j k then Running (Some n) else m.states j) ≡ Some i → (if i == n then Some k else m.owner i) ≡ Some j
    owned j i writes = elim (same_or j k) [
      | alike a u ↦ (let e : Some n ≡ Some i = rw u at writes in let q : n ≡ i = cc in elim (eq_or i n) [ equal p t ↦ rw t (ap Some (sym a)) | unequal p t ↦ absurd (p (sym q)) ])
      | apart a u ↦ (let e : log_of (m.states j) ≡ Some i = rw u at writes in let o = s.owned j i e in elim (eq_or i n) [
        | equal p t ↦ absurd (let x : m.owner n ≡ Some j = subst (λ (y : ℕ). m.owner y ≡ Some j) p o in let y : None ≡ Some j = sym free ∙ x in cc)
        | unequal p t ↦ rw t o
      ])
    ]

    all_there : (i : ℕ) (j : ConnId) → m'.owner i ≡ Some j → (stored : Stored) × (promised : ℕ) × (m.logs i ≡ There stored promised)
    all_there i j own = elim (eq_or i n) [
      | equal p t ↦ (flushed value, promised, ap m.logs p ∙ there)
      | unequal p t ↦ s.there i j (rw t at own)
    ]

    above : (i : ℕ) → IsOfLane v.lane v.lanes i → m.last < i → (m.logs i ≡ Absent) × (m'.owner i ≡ None)
    above i of_lane over =
        let none = s.none_above i of_lane over in
        elim (eq_or i n) [
          | equal p t ↦ absurd (let x : m.logs n ≡ Absent = ap m.logs (sym p) ∙ none.0 in let y : Absent ≡ There (flushed value) promised = sym x ∙ there in cc)
          | unequal p t ↦ (none.0, rw t none.1)
        ]

still_owned : (o p : ℕ → Option ConnId) (ns : List ℕ) → ((i : ℕ) (j : ConnId) → o i ≡ Some j → (j' : ConnId) × (p i ≡ Some j')) → AllOwned o ns → AllOwned p ns
still_owned o p [] says all = tt
still_owned o p (i ∷ ns) says all = (says i all.0.0 all.0.1, still_owned o p ns says all.1)

-- a log that nobody writes, and which is open now with nothing staged but what it holds, is written by a connection that wrote none
pub own_represents : (v v' : KeeperView) (disk : DiskView) (m : Machine) (k : ConnId) (n : ℕ) (its : OpenLog) (value : LogValue) (promised : ℕ) → Represents v disk m → m.owner n ≡ None → log_of (m.states k) ≡ None
    → logs.Represents its.log value disk → its.log.number ≡ n → value.stored.exit ≡ None → Masks v.texts its.mask (all_of value) → m.logs n ≡ There (flushed value) promised → promised ≤ length value.stored.records
    → Keeps v v' → Owns k n its v v' → Represents v' disk (with_state k (Running (Some n)) (with_owner n (Some k) m))
own_represents v v' disk m k n its value promised at free idle here number going mask there enough keeps owns =
    let m' = with_state k (Running (Some n)) (with_owner n (Some k) m) in
    let u : KeeperView = record v { table = v'.table; logs = v'.logs } in
    let same_view : v' ≡ u = λ i. record {
      lane = keeps.lane i;
      lanes = keeps.lanes i;
      log_exit = keeps.log_exit i;
      kind = keeps.kind i;
      texts = keeps.texts i;
      table = v'.table;
      logs = v'.logs;
      numbers = owns.numbers i;
      events = owns.events i;
      waiting = owns.waiting i;
      noting = owns.noting i;
    } in
    let its_owner : m'.owner n ≡ Some k = elim (eq_or n n) [ equal p t ↦ rw t refl | unequal p t ↦ absurd (p refl) ] in
    let its_here : log_in u n ≡ Some its = ap (λ (f : ℕ → Option OpenLog). f n) owns.logs_are ∙ elim (eq_or n n) [ equal p t ↦ rw t refl | unequal p t ↦ absurd (p refl) ] in
    subst (λ (x : KeeperView). Represents x disk m') (sym same_view)
    (represents_one (Some n) v u disk disk m m' (λ file. ⊥) at (nowhere disk) (λ i other file own t. t) (record {
      lane = refl;
      lanes = refl;
      keeps_texts = refl;
      sound = begun_sound v m k n promised value at.sound free idle there;
      texts = refl;
      states = λ j. elim (same_or j k) [
        | alike a t ↦ rw t (sym (rw t at (ap (λ (x : Sessions). x.states j) owns.sessions_are)))
        | apart a t ↦ rw t (at.states j ∙ sym (rw t at (ap (λ (x : Sessions). x.states j) owns.sessions_are)))
      ];
      owner = λ i. elim (eq_or i n) [
        | equal p t ↦ rw t (sym (rw t at (ap (λ (x : Sessions). x.owner i) owns.sessions_are)))
        | unequal p t ↦ rw t (at.owner i ∙ sym (rw t at (ap (λ (x : Sessions). x.owner i) owns.sessions_are)))
      ];
      waiting = at.waiting;
      noting = at.noting;
      rising = at.rising;
      waits = still_owned m.owner m'.owner m.waiting (λ i j own. elim (eq_or i n) [ equal p t ↦ (k, rw t refl) | unequal p t ↦ (j, rw t own) ]) at.waits;
      others = λ i other. elim (eq_or i n) [
        | equal p t ↦ absurd (other (ap Some (sym p)))
        | unequal p t ↦ (refl, rw t refl, ap (λ (f : ℕ → Option OpenLog). f i) owns.logs_are ∙ rw t refl)
      ];
      its = subst (LogIs u disk m' n) (sym its_owner) (record {
        its = its;
        here = its_here;
        value = value;
        represents = here;
        number = number;
        going = going;
        mask = mask;
        promised = promised;
        there = there;
        enough = enough;
      });
      numbers = at.numbers;
      later = omega arith;
      made = λ i e of_lane above. absurd (let q : n ≡ i = (let f : Some n ≡ Some i = e in cc) in
          let none = at.sound.none_above i of_lane above in let x : m.logs n ≡ Absent = ap m.logs q ∙ none.0 in let y : Absent ≡ There (flushed value) promised = sym x ∙ there in cc);
      events = events_stay v.lane v.events disk disk m m' (λ file. ⊥) (nowhere disk) (λ file own t. t) refl refl (λ none. none) at.events;
    }))
