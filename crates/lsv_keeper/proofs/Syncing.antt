-- How often calls write and sync the files of logs: counts of calls, of jobs one after another, and of a turn.
use Rattle.std.proofs.Common.{◌≡◌, ◌≢◌, ◌≤◌, ◌<◌, ◌+◌, ℕ, List, [], ◌∷◌, ◌++◌, length, take, drop, slice_index_or, refl, sym, ◌∙◌, ap, subst, inl, inr, arith, Option, Some, None, ◌⊎◌}
use Rattle.std.proofs.lemmas.Grind.{common_steps}
use Rattle.std.proofs.lemmas.List.{take-append-drop}
use Rattle.lsv_disk.specs.View.{DiskView}
use Rattle.lsv_disk.specs.declared.file.FileId.{FileId}
use Rattle.lsv_disk.specs.declared.file.Owner.TheVariants as owners
use Rattle.lsv_disk.specs.Throughout.{CallsAtMost, OnlyReads, WritesOneOf}
use Rattle.lsv_bundle.specs.Calls.{CallsOfFlush}
use Rattle.lsv_bundle.specs.Shape.{journal_of}
use Rattle.lsv_bundle.specs.Value.{BundleView}
use Rattle.lsv_eventlog.specs.Recovered.{IsOfEventLog}
use Rattle.lsv_eventlog.specs.Value.{EventLogView}
use Rattle.lsv_eventlog.proofs.Laws.{of_lane}
use Rattle.lsv_iolog.specs.Moments.{CallsOfLog}
use Rattle.lsv_iolog.specs.Recovered.{IsOfLog, owner_of}
use Rattle.lsv_iolog.specs.Represents as logs
use Rattle.lsv_iolog.specs.Value.{LogValue}
use Rattle.lsv_seq.specs.Drawn.{IsNumbersFile, numbers_file}
use Rattle.lsv_seq.specs.declared.numbers.Numbers.{Numbers}
use Rattle.lsv_seq.specs.Value.{IsSameLane, lane_of, lanes_of, last_of}
use Rattle.lsv_seq.proofs.Laws.{numbers_owner}
use Rattle.lsv_session.specs.Table.{Sessions, sessions}
use Rattle.lsv_session.specs.declared.connection.ConnId.{ConnId}
use Rattle.lsv_session.specs.declared.connection.ConnState.{ConnState}
use Rattle.lsv_session.specs.declared.job.Job.{Job}
use Rattle.lsv_session.specs.declared.reply.Reply.{Reply}
use Rattle.lsv_session.specs.declared.table.Table.{Table}
use Rattle.lsv_machine.specs.Failures.{MayDraw}
use Rattle.lsv_machine.specs.Machine.{IsOfLane, Machine, log_of}
use Rattle.lsv_machine.proofs.Changing.{drawn_is, owned_not_above}
use Rattle.lsv_machine.proofs.Choices.{EqOr.equal, EqOr.unequal, eq_or}
use Rattle.lsv_keeper.specs.declared.logs.OpenLog.{OpenLog}
use Rattle.lsv_keeper.specs.Leaving.{Departs, TakenOut}
use Rattle.lsv_keeper.specs.Logs.{Flushes}
use Rattle.lsv_keeper.specs.Represents.{AllOwned, Held, LogIs, Represents, Rising}
use Rattle.lsv_keeper.specs.Syncing.{IsPast, NoLog, NoLogUsed, Syncs, SyncsIfLeft, SyncsOne, SyncsThese, Unused}
use Rattle.lsv_keeper.specs.Syncs.{AnyRestarts, Restarts, SyncedOnce}
use Rattle.lsv_keeper.specs.Tails.{IsOneOf, none_waits}
use Rattle.lsv_keeper.specs.Value.{IsReserved, KeeperView, Owns, SameSessions, log_in, sessions_of, settings_of}
use Rattle.lsv_keeper.proofs.Departing.{beside_out}
use Rattle.lsv_keeper.proofs.Numbering.{last_at}
use Rattle.lsv_keeper.proofs.TailLoops.{Flushing, drop_next, one_of_last, one_of_left, rising_before, take_next}

-- ---- Counts of one log

pub unused_on : (n : ℕ) (one two three : DiskView) → Unused n one two → Unused n two three → Unused n one three
unused_on n one two three u w = record { writes = λ file own. w.writes file own ∙ u.writes file own; syncs = λ file own. w.syncs file own ∙ u.syncs file own }

-- a disk as it is
pub unused : (n : ℕ) (disk : DiskView) → Unused n disk disk
unused n disk = record { writes = λ file own. refl; syncs = λ file own. refl }

pub unused_once : (n : ℕ) (old new : DiskView) → Unused n old new → SyncedOnce n old new
unused_once n old new u = record {
  files = λ file own not_journal. let e = u.syncs file own in omega arith;
  journal = let e = u.syncs (journal_of (owner_of n)) refl in omega arith;
}

pub once_on : (n : ℕ) (one two three : DiskView) → SyncedOnce n one two → Unused n two three → SyncedOnce n one three
once_on n one two three s u = record {
  files = λ file own not_journal. let e = u.syncs file own in let x = s.files file own not_journal in omega arith;
  journal = let e = u.syncs (journal_of (owner_of n)) refl in let x = s.journal in omega arith;
}

pub then_once : (n : ℕ) (one two three : DiskView) → Unused n one two → SyncedOnce n two three → SyncedOnce n one three
then_once n one two three u s = record {
  files = λ file own not_journal. let e = u.syncs file own in let x = s.files file own not_journal in omega arith;
  journal = let e = u.syncs (journal_of (owner_of n)) refl in let x = s.journal in omega arith;
}

-- ---- Calls

same_log : (n i : ℕ) → owners.Log n ≡ owners.Log i → n ≡ i
same_log n i e = cc

-- a file of one log is none of another
not_its : (n i : ℕ) (file : FileId) → n ≢ i → IsOfLog n file → IsOfLog i file → ⊥
not_its n i file other own its = other (same_log n i (sym own ∙ its))

pub flush_once : (n : ℕ) (old new : DiskView) → CallsOfLog n 1 2 old new → SyncedOnce n old new
flush_once n old new c = record { files = c.syncs.files; journal = c.syncs.journal }

pub others_calls : (n i d j : ℕ) (old new : DiskView) → CallsOfLog i d j old new → n ≢ i → Unused n old new
others_calls n i d j old new c other = record { writes = λ file own. c.writes.others file (not_its n i file other own); syncs = λ file own. c.syncs.others file (not_its n i file other own) }

pub reads_none : (old new : DiskView) → OnlyReads old new → NoLogUsed old new
reads_none old new r n = record { writes = λ file own. r.counts.writes file; syncs = λ file own. r.counts.syncs file }

pub opened_others : (n i a b : ℕ) (old new : DiskView) → WritesOneOf (journal_of (owner_of i)) a b (IsOfLog i) old new → n ≢ i → Unused n old new
opened_others n i a b old new c other = record {
  writes = λ file own. c.writes.others file (λ is. not_its n i file other own (ap (λ (g : FileId). g.owner) is));
  syncs = λ file own. c.syncs.others file (not_its n i file other own);
}

pub cut_others : (n i a b : ℕ) (old new : DiskView) → CallsAtMost a b (λ file. file ≡ journal_of (owner_of i)) old new → n ≢ i → Unused n old new
cut_others n i a b old new c other = record { writes = λ file own. c.writes.others file (apart file own); syncs = λ file own. c.syncs.others file (apart file own) }
  where
    apart : (file : FileId) → IsOfLog n file → file ≡ journal_of (owner_of i) → ⊥
    apart file own is = other (same_log n i (sym own ∙ ap (λ (g : FileId). g.owner) is))

pub lines_opened : (lane a b : ℕ) (old new : DiskView) → WritesOneOf (journal_of (owners.Events lane)) a b (IsOfEventLog lane) old new → NoLogUsed old new
lines_opened lane a b old new c n = record {
  writes = λ file own. c.writes.others file (λ is. apart file own (ap (λ (g : FileId). g.owner) is));
  syncs = λ file own. c.syncs.others file (λ its. apart file own (of_lane lane file its));
}
  where
    apart : (file : FileId) → IsOfLog n file → file.owner ≡ owners.Events lane → ⊥
    apart file own is = let e : owners.Log n ≡ owners.Events lane = sym own ∙ is in cc

pub lines_flushed : (lane : ℕ) (bundle : BundleView) (old new : DiskView) → bundle.owner ≡ owners.Events lane → CallsOfFlush bundle old new → NoLogUsed old new
lines_flushed lane bundle old new is c n = record {
  writes = λ file own. c.writes.others file
      (λ staged. let (part, has, some, named) = staged in apart file own (ap (λ (g : FileId). g.owner) named))
      (λ named. apart file own (ap (λ (g : FileId). g.owner) named));
  syncs = λ file own. c.syncs.others file
      (λ staged. let (part, has, some, named) = staged in apart file own (ap (λ (g : FileId). g.owner) named))
      (λ named. apart file own (ap (λ (g : FileId). g.owner) named));
}
  where
    apart : (file : FileId) → IsOfLog n file → file.owner ≡ bundle.owner → ⊥
    apart file own e = let f : owners.Log n ≡ owners.Events lane = sym own ∙ e ∙ is in cc

pub draw_unused : (lane a b : ℕ) (old new : DiskView) → WritesOneOf (numbers_file lane) a b (IsNumbersFile lane) old new → NoLogUsed old new
draw_unused lane a b old new c n = record {
  writes = λ file own. c.writes.others file (λ is. apart file own (ap (λ (g : FileId). g.owner) is));
  syncs = λ file own. c.syncs.others file (λ its. apart file own (numbers_owner lane file its));
}
  where
    apart : (file : FileId) → IsOfLog n file → file.owner ≡ owners.Numbers lane → ⊥
    apart file own is = let e : owners.Log n ≡ owners.Numbers lane = sym own ∙ is in cc

-- ---- Numbers that were drawn

pub past_on : (old new : Numbers) → IsSameLane old new → last_of old ≤ last_of new → (n : ℕ) → IsPast old n → IsPast new n
past_on old new same up n past lane =
    let was : IsOfLane (lane_of old) (lanes_of old) n = subst (λ (x : ℕ). IsOfLane (lane_of old) x n) same.lanes_is (subst (λ (x : ℕ). IsOfLane x (lanes_of new) n) same.lane_is lane) in
    let low = past was in omega arith

-- a number that is drawn wasn't drawn before
pub drawn_fresh : (v : KeeperView) (disk : DiskView) (m : Machine) (n : ℕ) → Represents v disk m → MayDraw (settings_of v) m n → last_of v.numbers < n → IsPast v.numbers n → ⊥
drawn_fresh v disk m n at may above past =
    let lane = (drawn_is (settings_of v) m n at.sound may).0 in
    let its : IsOfLane (lane_of v.numbers) (lanes_of v.numbers) n = subst (λ (x : ℕ). IsOfLane (lane_of v.numbers) x n) (sym at.numbers.lanes_is) (subst (λ (x : ℕ). IsOfLane x v.lanes n) (sym at.numbers.lane_is) lane) in
    let low = past its in omega arith

-- a log that a connection writes was drawn
pub owned_past : (v : KeeperView) (disk : DiskView) (m : Machine) (n : ℕ) (k : ConnId) → Represents v disk m → m.owner n ≡ Some k → IsPast v.numbers n
owned_past v disk m n k at own lane = elim (le_or n m.last) [
  | inl low ↦ let mine = last_at v disk m at in omega arith
  | inr high ↦ absurd (owned_not_above (settings_of v) m n k at.sound own its high)
]
  where
    its : IsOfLane v.lane v.lanes n
    its = subst (λ (x : ℕ). IsOfLane v.lane x n) at.numbers.lanes_is (subst (λ (x : ℕ). IsOfLane x (lanes_of v.numbers) n) at.numbers.lane_is lane)

    le_or : (a b : ℕ) → (a ≤ b) ⊎ (b < a)
    le_or a b = grind arith

-- ---- What calls sync, one after another

-- no log was synced, and each has the writer that it had
pub quiet : (But : ℕ → Type 0) (v v' : KeeperView) (old new : DiskView) → v'.numbers ≡ v.numbers → ((n : ℕ) → (sessions_of v').owner n ≡ (sessions_of v).owner n) → NoLogUsed old new → Syncs But v v' old new
quiet But v v' old new numbers owner none = record { past = λ n p. subst (λ (x : Numbers). IsPast x n) (sym numbers) p; each = λ n p b. inl (owner n, none n) }

pub nothing : (But : ℕ → Type 0) (v v' : KeeperView) (disk : DiskView) → v'.numbers ≡ v.numbers → v'.table ≡ v.table → Syncs But v v' disk disk
nothing But v v' disk numbers table = quiet But v v' disk disk numbers (λ n. ap (λ (t : Table). (sessions t).owner n) table) (λ n. unused n disk)

-- calls on the files of a log that are none of those that are asked for
pub wider : (A B : ℕ → Type 0) (v v' : KeeperView) (old new : DiskView) → ((n : ℕ) → A n → B n) → Syncs A v v' old new → Syncs B v v' old new
wider A B v v' old new more s = record { past = s.past; each = λ n p b. s.each n p (λ a. b (more n a)) }

pub of_none : (B : ℕ → Type 0) (v v' : KeeperView) (old new : DiskView) → Syncs NoLog v v' old new → Syncs B v v' old new
of_none B v v' old new s = wider NoLog B v v' old new (λ n none. absurd none) s

pub joined : (n : ℕ) (a b c : KeeperView) (one two three : DiskView) → SyncsIfLeft n a b one two → SyncsIfLeft n b c two three → SyncsIfLeft n a c one three
joined n a b c one two three (inl (same, u)) (inl (same', w)) = inl (same' ∙ same, unused_on n one two three u w)
joined n a b c one two three (inl (same, u)) (inr ((k, own), none, once)) = inr ((k, sym same ∙ own), none, then_once n one two three u once)
joined n a b c one two three (inr (own, none, once)) (inl (same, u)) = inr (own, same ∙ none, once_on n one two three once u)
joined n a b c one two three (inr (own, none, once)) (inr ((k, own'), none', once')) = absurd (let e : None ≡ Some k = sym none ∙ own' in cc)

pub followed : (But : ℕ → Type 0) (a b c : KeeperView) (one two three : DiskView) → Syncs But a b one two → Syncs But b c two three → Syncs But a c one three
followed But a b c one two three s t = record {
  past = λ n p. t.past n (s.past n p);
  each = λ n p but. joined n a b c one two three (s.each n p but) (t.each n (s.past n p) but);
}

-- ---- A connection that leaves

pub stays_out : (But : ℕ → Type 0) (v v' : KeeperView) (k : ConnId) (s : ConnState) (disk : DiskView) → Departs None k s v v' → Syncs But v v' disk disk
stays_out But v v' k s disk d = quiet But v v' disk disk d.beside.numbers d.owner (λ n. unused n disk)

-- the open log of a number is that log
pub its_number : (v : KeeperView) (disk : DiskView) (m : Machine) (n : ℕ) (k : ConnId) (its : OpenLog) → Represents v disk m → m.owner n ≡ Some k → log_in v n ≡ Some its → its.log.number ≡ n
its_number v disk m n k its at own here =
    let held : Held v disk m n = subst (LogIs v disk m n) own (at.logs n) in
    let e : Some held.its ≡ Some its = sym held.here ∙ here in
    let f : held.its ≡ its = cc in
    subst (λ (o : OpenLog). o.log.number ≡ n) f held.number

-- the log was flushed once, and nobody writes it any more
pub ended_once : (i : ℕ) (its : OpenLog) (v v' : KeeperView) (old new : DiskView) (m : Machine) (k : ConnId) (s : ConnState) → Represents v old m → log_of (m.states k) ≡ Some i → log_in v i ≡ Some its → Departs (Some i) k s v v'
    → CallsOfLog its.log.number 1 2 old new → Syncs NoLog v v' old new
ended_once i its v v' old new m k s at state here d calls = record {
  past = λ n p. subst (λ (x : Numbers). IsPast x n) (sym d.beside.numbers) p;
  each = λ n p but. elim (eq_or n i) [
    | equal e t ↦ inr ((k, ap (λ (x : ℕ). (sessions_of v).owner x) e ∙ sym (at.owner i) ∙ own), d.owner n ∙ rw t refl, subst (λ (x : ℕ). SyncedOnce x old new) (sym e) (flush_once i old new its_calls))
    | unequal e t ↦ inl (d.owner n ∙ rw t refl, others_calls n i 1 2 old new its_calls e)
  ];
}
  where
    own : m.owner i ≡ Some k
    own = at.sound.owned k i state

    its_calls : CallsOfLog i 1 2 old new
    its_calls = subst (λ (x : ℕ). CallsOfLog x 1 2 old new) (its_number v old m i k its at own here) calls

pub let_go_once : (i : ℕ) (its : OpenLog) (a b c : KeeperView) (old new : DiskView) (m : Machine) (k : ConnId) (s : ConnState) → Represents a old m → log_of (m.states k) ≡ Some i → TakenOut i its a b → Departs (Some i) k s b c
    → CallsOfLog its.log.number 1 2 old new → Syncs NoLog a c old new
let_go_once i its a b c old new m k s at state out d calls =
    ended_once i out.open_one a c old new m k s at state out.was
    (beside_out i its a b k s c out d)
    (subst (λ (x : ℕ). CallsOfLog x 1 2 old new) (ap (λ log. log.number) (sym out.same)) calls)

-- ---- A log that is opened

pub reserved_quiet : (But : ℕ → Type 0) (v v' : KeeperView) (disk : DiskView) → IsReserved v v' → Syncs But v v' disk disk
reserved_quiet But v v' disk r = quiet But v v' disk disk (ap (λ (x : KeeperView). x.numbers) r.others) (λ n. ap (λ (s : Sessions). s.owner n) r.sessions_are) (λ n. unused n disk)

pub drawn_quiet : (But : ℕ → Type 0) (v v' : KeeperView) (old new : DiskView) → v' ≡ record v { numbers = v'.numbers } → ((n : ℕ) → IsPast v.numbers n → IsPast v'.numbers n) → NoLogUsed old new → Syncs But v v' old new
drawn_quiet But v v' old new same past none = record { past = past; each = λ n p but. inl (ap (λ (x : KeeperView). (sessions_of x).owner n) same, none n) }

pub line_quiet : (But : ℕ → Type 0) (v v' : KeeperView) (old new : DiskView) → SameSessions v v' → NoLogUsed old new → Syncs But v v' old new
line_quiet But v v' old new same none = quiet But v v' old new same.numbers (λ n. ap (λ (t : Table). (sessions t).owner n) same.table) none

-- calls on this log alone
pub on_one : (i : ℕ) (v v' : KeeperView) (old new : DiskView) → v'.numbers ≡ v.numbers → ((n : ℕ) → (sessions_of v').owner n ≡ (sessions_of v).owner n) → ((n : ℕ) → n ≢ i → Unused n old new) → Syncs (λ n. n ≡ i) v v' old new
on_one i v v' old new numbers owner others = record { past = λ n p. subst (λ (x : Numbers). IsPast x n) (sym numbers) p; each = λ n p but. inl (owner n, others n but) }

-- a connection comes to write this log
pub owns_one : (i : ℕ) (k : ConnId) (its : OpenLog) (v v' : KeeperView) (disk : DiskView) → Owns k i its v v' → Syncs (λ n. n ≡ i) v v' disk disk
owns_one i k its v v' disk o = record {
  past = λ n p. subst (λ (x : Numbers). IsPast x n) (sym o.numbers) p;
  each = λ n p but. inl (ap (λ (s : Sessions). s.owner n) o.sessions_are ∙ elim (eq_or n i) [ equal e t ↦ absurd (but e) | unequal e t ↦ rw t refl ], unused n disk);
}

-- a log that wasn't drawn before needs no exception
pub fresh_one : (i : ℕ) (v v' : KeeperView) (old new : DiskView) → (IsPast v.numbers i → ⊥) → Syncs (λ n. n ≡ i) v v' old new → Syncs NoLog v v' old new
fresh_one i v v' old new fresh s = record { past = s.past; each = λ n p but. s.each n p (λ e. fresh (subst (IsPast v.numbers) e p)) }

-- how far an accept came that opens a log: room was made, a number drawn, and its files made
pub making : (i : ℕ) (v v1 v2 : KeeperView) (old mid new : DiskView) → IsReserved v v1 → v2 ≡ record v1 { numbers = v2.numbers } → ((n : ℕ) → IsPast v1.numbers n → IsPast v2.numbers n) → NoLogUsed old mid
    → CallsOfLog i 3 4 mid new → Syncs (λ n. n ≡ i) v v2 old new
making i v v1 v2 old mid new reserved same past none calls =
    followed (λ n. n ≡ i) v v2 v2 old mid new
    (followed (λ n. n ≡ i) v v1 v2 old old mid (reserved_quiet (λ n. n ≡ i) v v1 old reserved) (drawn_quiet (λ n. n ≡ i) v1 v2 old mid same past none))
    (on_one i v2 v2 mid new refl (λ n. refl) (λ n other. others_calls n i 3 4 mid new calls other))

pub reserved_fresh : (i : ℕ) (v v1 : KeeperView) → IsReserved v v1 → (IsPast v1.numbers i → ⊥) → IsPast v.numbers i → ⊥
reserved_fresh i v v1 reserved fresh past = fresh (subst (λ (x : Numbers). IsPast x i) (sym (ap (λ (x : KeeperView). x.numbers) reserved.others)) past)

-- a restart: room was made, and the log was opened and cut
pub resumed_one : (i : ℕ) (v v1 : KeeperView) (old new : DiskView) → IsReserved v v1 → ((n : ℕ) → n ≢ i → Unused n old new) → Syncs (λ n. n ≡ i) v v1 old new
resumed_one i v v1 old new r others = on_one i v v1 old new (ap (λ (x : KeeperView). x.numbers) r.others) (λ n. ap (λ (s : Sessions). s.owner n) r.sessions_are) others

-- ---- Other views of the same sessions

pub noted_else : (But : ℕ → Type 0) (v v' : KeeperView) (noting : List ConnId) (old new : DiskView) → Syncs But (record v { noting = noting }) v' old new → Syncs But v v' old new
noted_else But v v' noting old new s = record { past = s.past; each = s.each }

pub events_else : (But : ℕ → Type 0) (v v' : KeeperView) (events : EventLogView) (old new : DiskView) → Syncs But (record v { events = events }) v' old new → Syncs But v v' old new
events_else But v v' events old new s = record { past = s.past; each = s.each }

-- ---- Jobs one after another

pub any_left : (jobs more : List Job) (n : ℕ) → AnyRestarts jobs n → AnyRestarts (jobs ++ more) n
any_left [] more n any = absurd any
any_left (job ∷ jobs) more n (inl one) = inl one
any_left (job ∷ jobs) more n (inr any) = inr (any_left jobs more n any)

pub any_last : (jobs : List Job) (job : Job) (n : ℕ) → Restarts job.body n → AnyRestarts (jobs ++ job ∷ []) n
any_last [] job n one = inl one
any_last (other ∷ jobs) job n one = inr (any_last jobs job n one)

pub jobs_on : (done : List Job) (job : Job) (a b c : KeeperView) (one two three : DiskView) → Syncs (AnyRestarts done) a b one two → Syncs (Restarts job.body) b c two three → Syncs (AnyRestarts (done ++ job ∷ [])) a c one three
jobs_on done job a b c one two three s t =
    followed (AnyRestarts (done ++ job ∷ [])) a b c one two three
    (wider (AnyRestarts done) (AnyRestarts (done ++ job ∷ [])) a b one two (any_left done (job ∷ [])) s)
    (wider (Restarts job.body) (AnyRestarts (done ++ job ∷ [])) b c two three (any_last done job) t)

-- ---- Logs one after another

pub flushes_one : (i : ℕ) (its : OpenLog) (old new : DiskView) → its.log.number ≡ i → CallsOfLog its.log.number 1 2 old new → SyncsOne i old new
flushes_one i its old new is calls =
    let c : CallsOfLog i 1 2 old new = subst (λ (x : ℕ). CallsOfLog x 1 2 old new) is calls in
    record { its = flush_once i old new c; others = λ n other. others_calls n i 1 2 old new c other }

pub these_on : (done : List ℕ) (i : ℕ) (rest : List ℕ) (one two three : DiskView) → Rising (done ++ i ∷ rest) → SyncsThese done one two → SyncsOne i two three → SyncsThese (done ++ i ∷ []) one three
these_on done i rest one two three up these its n = go (these n)
  where
    go : Unused n one two ⊎ (IsOneOf n done × SyncedOnce n one two) → Unused n one three ⊎ (IsOneOf n (done ++ i ∷ []) × SyncedOnce n one three)
    go (inl u) = elim (eq_or n i) [
      | equal e t ↦ inr (subst (λ (x : ℕ). IsOneOf x (done ++ i ∷ [])) (sym e) (one_of_last done i), then_once n one two three u (subst (λ (x : ℕ). SyncedOnce x two three) (sym e) its.its))
      | unequal e t ↦ inl (unused_on n one two three u (its.others n e))
    ]
    go (inr (is, once)) = inr (one_of_left n done (i ∷ []) is, once_on n one two three once (its.others n (λ e. let low = rising_before done i rest up n is in omega arith)))

-- a log that the end of a turn flushes
pub flushed_one : (i : ℕ) (k : ConnId) (v : KeeperView) (point : Option ℕ) (o o' : ℕ → Option OpenLog) (m : Machine) (old new : DiskView) → Represents v old (none_waits m) → m.owner i ≡ Some k
    → ((its : OpenLog) (value : LogValue) → log_in v i ≡ Some its → logs.Represents its.log value old → Flushes i its value point o o' old new) → SyncsOne i old new
flushed_one i k v point o o' m old new at own flush =
    let held : Held v old (none_waits m) i = subst (LogIs v old (none_waits m) i) own (at.logs i) in
    flushes_one i held.its old new held.number (flush held.its held.value held.here held.represents).calls

-- one waiting log more
pub waiting_on : (told : Type 0) (i n : ℕ) (items : List ℕ) (v v' : KeeperView) (was now : ℕ) (said said' : List Reply) (one two three : DiskView) → v.waiting ≡ items → i < length items → n ≡ slice_index_or items i n
    → Flushing told i items v v' was now said said' one two → told → (m : Machine) → Represents v one m → SyncsThese (take i items) one two
    → ((after : Machine) (k : ConnId) → Represents v' two (none_waits after) → after.owner n ≡ Some k → SyncsOne n two three) → SyncsThese (take (i + 1) items) one three
waiting_on told i n items v v' was now said said' one two three waiting low item f t m at these its =
    let d = f.logs t m at in
    let rest : drop i items ≡ n ∷ drop (i + 1) items = drop_next items i n low item in
    let waits : AllOwned d.gives.after.owner (n ∷ drop (i + 1) items) = subst (AllOwned d.gives.after.owner) rest d.waits in
    let up : Rising (take i items ++ n ∷ drop (i + 1) items) = subst (λ (xs : List ℕ). Rising (take i items ++ xs)) rest (subst Rising (at.waiting ∙ waiting ∙ sym (take-append-drop i items)) at.rising) in
    subst (λ (xs : List ℕ). SyncsThese xs one three) (sym (take_next items i n low item))
    (these_on (take i items) n (drop (i + 1) items) one two three up these (its d.gives.after waits.0.0 d.gives.represents waits.0.1))

pub waiting_ends : (items : List ℕ) (v : KeeperView) (m : Machine) (old new : DiskView) (i : ℕ) → i ≡ length items → v.waiting ≡ items → Represents v old m → SyncsThese (take i items) old new → SyncsThese m.waiting old new
waiting_ends items v m old new i end waiting at these =
    subst (λ (xs : List ℕ). SyncsThese xs old new) (ap (λ j. take j items) end ∙ sym (take_all items) ∙ sym waiting ∙ sym at.waiting) these
  where
    take_all : (xs : List ℕ) → xs ≡ take (length xs) xs
    take_all xs = grind (arith, common_steps)

-- ---- A turn

pub owned_one : (owner : ℕ → Option ConnId) (n : ℕ) (ns : List ℕ) → AllOwned owner ns → IsOneOf n ns → (k : ConnId) × (owner n ≡ Some k)
owned_one owner n [] all is = absurd is
owned_one owner n (i ∷ ns) all (inl e) = (all.0.0, ap owner e ∙ all.0.1)
owned_one owner n (i ∷ ns) all (inr is) = owned_one owner n ns all.1 is

-- a log that was written, and that no job restarts: its writer let it go, or it waited for its commit point, or neither
pub turn_once : (jobs : List Job) (n : ℕ) (k : ConnId) (a b c : KeeperView) (one two three four : DiskView) (m last : Machine) → Represents a one m → m.owner n ≡ Some k → (AnyRestarts jobs n → ⊥) → Syncs (AnyRestarts jobs) a b one two
    → Syncs NoLog b c two three → Represents c three last → SyncsThese last.waiting three four → SyncedOnce n one four
turn_once jobs n k a b c one two three four m last at own none s t at' these =
    go ((followed (AnyRestarts jobs) a b c one two three s (of_none (AnyRestarts jobs) b c two three t)).each n (owned_past a one m n k at own) none) (these n)
  where
    go : SyncsIfLeft n a c one three → Unused n three four ⊎ (IsOneOf n last.waiting × SyncedOnce n three four) → SyncedOnce n one four
    go (inl (same, u)) (inl w) = unused_once n one four (unused_on n one three four u w)
    go (inl (same, u)) (inr (is, once)) = then_once n one three four u once
    go (inr (was, gone, once)) (inl w) = once_on n one three four once w
    go (inr (was, gone, once)) (inr (is, again)) =
        let (j, owns) = owned_one last.owner n last.waiting at'.waits is in
        absurd (let e : None ≡ Some j = sym gone ∙ sym (at'.owner n) ∙ owns in cc)
