-- What calls of a turn keep over every disk, also one that tells nothing: whom the turn owes an answer, and why a device fault is told.
use Rattle.std.proofs.Common.{◌≡◌, ◌≢◌, ◌≤◌, ◌<◌, ◌⊎◌, ℕ, zero, suc, List, [], ◌∷◌, ◌++◌, length, map, slice_index_or, refl, sym, ◌∙◌, ap, subst, inl, inr, arith, Option, Some, None}
use Rattle.std.specs.Prelude.{◌==◌, Bool, true, false, if◌then◌else◌, nat_lt, ◌||◌, is_some, Result, Err, IsErrAnd, IsErrOf}
use Rattle.std.specs.List.{AllByRecursion}
use Rattle.lsv_defs.specs.Causes.{HasRisen}
use Rattle.lsv_disk.specs.View.{DiskView, HasOwnCause}
use Rattle.lsv_disk.specs.declared.file.FileId.{FileId}
use Rattle.lsv_disk.specs.declared.file.Part.TheVariants.{Exit, Head}
use Rattle.lsv_disk.proofs.Composition.{risen_first, risen_second}
use Rattle.lsv_eventlog.specs.Value.{EventLogView, is_broken}
use Rattle.lsv_iolog.specs.Recovered.{IsOfLog}
use Rattle.lsv_iolog.specs.Value.{IoLogView}
use Rattle.lsv_iolog.specs.declared.fault.LogFault.{LogFault}
use Rattle.lsv_iolog.specs.declared.fault.LogFault.TheVariants as faults
use Rattle.lsv_record.specs.declared.records.Record.{Record}
use Rattle.lsv_request.specs.declared.refusal.Refusal.{Refusal}
use Rattle.lsv_request.specs.declared.refusal.Refusal.TheVariants.{DeviceFault}
use Rattle.lsv_seq.specs.Value.{pending_of}
use Rattle.lsv_seq.specs.declared.fault.DrawFault.{DrawFault}
use Rattle.lsv_seq.specs.declared.fault.DrawFault.TheVariants as draws
use Rattle.lsv_seq.specs.declared.numbers.Numbers.{Numbers}
use Rattle.lsv_session.specs.Table.{Sessions, sessions}
use Rattle.lsv_session.specs.declared.job.Job.{Job}
use Rattle.lsv_session.specs.declared.table.Table.{Table}
use Rattle.lsv_session.specs.declared.connection.ConnId.{ConnId}
use Rattle.lsv_session.specs.declared.connection.ConnState.{ConnState}
use Rattle.lsv_session.specs.declared.connection.ConnState.TheVariants.{Running}
use Rattle.lsv_machine.specs.Machine.{insert_once, log_of, note, same, without, without_conn}
use Rattle.lsv_machine.proofs.Choices.{EqOr, EqOr.equal, EqOr.unequal, SameOr, SameOr.alike, SameOr.apart, eq_or, same_or, same_refl}
use Rattle.lsv_keeper.specs.Accepting.{create_refusal, draw_refusal}
use Rattle.lsv_keeper.specs.Causes.{AnyBringsLine, AnyIsOf, BringsLine, Does, HasFailed, IsAmong, IsOfStore, IsSteady, IsSteadyBut, LetsGo, LinesDo, MayAnswer, MayFail, StoreRose, IsFaultRefusal, Waits, is_of}
use Rattle.lsv_keeper.specs.Leaving.{Departs}
use Rattle.lsv_keeper.specs.Logs.{IsAppendFault, RefusesRecord, TakesRecord, log_refusal, open_logs, with_open}
use Rattle.lsv_keeper.specs.Resuming.{restart_refusal}
use Rattle.lsv_keeper.specs.Rows.{outcome_of}
use Rattle.lsv_keeper.specs.Value.{AreLinked, AreWhole, IsReserved, IsResting, KeeperView, Owns, SameSessions, log_in, sessions_of}
use Rattle.lsv_keeper.specs.declared.logs.OpenLog.{OpenLog}
use Rattle.lsv_keeper.specs.declared.logs.OpenLogs.{OpenLogs}
use Rattle.lsv_keeper.specs.declared.outcome.Outcome.TheVariants as outcome
use Rattle.lsv_keeper.proofs.Opening.{same_error}

-- ---- Lists

module _ {A : Type 0} where
  pub all_as : (P Q : A → Type 0) (xs : List A) → ((x : A) → P x → Q x) → AllByRecursion P xs → AllByRecursion Q xs
  all_as P Q [] f all = tt
  all_as P Q (x ∷ xs) f all = (f x all.0, all_as P Q xs f all.1)

  pub all_two : (P Q R : A → Type 0) (xs : List A) → ((x : A) → P x → Q x → R x) → AllByRecursion P xs → AllByRecursion Q xs → AllByRecursion R xs
  all_two P Q R [] f all more = tt
  all_two P Q R (x ∷ xs) f all more = (f x all.0 more.0, all_two P Q R xs f all.1 more.1)

  pub all_append : (P : A → Type 0) (xs ys : List A) → AllByRecursion P xs → AllByRecursion P ys → AllByRecursion P (xs ++ ys)
  all_append P [] ys all more = more
  all_append P (x ∷ xs) ys all more = (all.0, all_append P xs ys all.1 more)

module _ (P : ℕ → Type 0) where
  pub all_insert : (n : ℕ) (ns : List ℕ) → P n → AllByRecursion P ns → AllByRecursion P (insert_once n ns)
  all_insert n [] its all = (its, tt)
  all_insert n (x ∷ ns) its all = go (n == x) (nat_lt n x) refl refl (all_insert n ns its all.1)
    where
      go : (a b : Bool) → (n == x) ≡ a → nat_lt n x ≡ b → AllByRecursion P (insert_once n ns) → AllByRecursion P (insert_once n (x ∷ ns))
      go true b e f rest = rw e all
      go false true e f rest = rw e (rw f (its, all))
      go false false e f rest = rw e (rw f (all.0, rest))

  -- each but this one, where it is taken away
  pub all_without : (n : ℕ) (ns : List ℕ) → AllByRecursion (λ i. i ≢ n → P i) ns → AllByRecursion P (without n ns)
  all_without n [] all = tt
  all_without n (x ∷ ns) all = go (all_without n ns all.1) (eq_or n x)
    where
      go : AllByRecursion P (without n ns) → EqOr n x → AllByRecursion P (without n (x ∷ ns))
      go rest (equal e t) = rw t rest
      go rest (unequal e t) = rw t (all.0 (λ q. e (sym q)), rest)

module _ (P : ConnId → Type 0) where
  pub all_note : (k : ConnId) (ks : List ConnId) → P k → AllByRecursion P ks → AllByRecursion P (note k ks)
  all_note k [] its all = (its, tt)
  all_note k (j ∷ ks) its all = go (same j k) refl (all_note k ks its all.1)
    where
      go : (a : Bool) → same j k ≡ a → AllByRecursion P (note k ks) → AllByRecursion P (note k (j ∷ ks))
      go true e rest = rw e all
      go false e rest = rw e (all.0, rest)

  pub all_forget : (k : ConnId) (ks : List ConnId) → AllByRecursion P ks → AllByRecursion P (without_conn k ks)
  all_forget k [] all = tt
  all_forget k (j ∷ ks) all = go (same j k) refl (all_forget k ks all.1)
    where
      go : (a : Bool) → same j k ≡ a → AllByRecursion P (without_conn k ks) → AllByRecursion P (without_conn k (j ∷ ks))
      go true e rest = rw e rest
      go false e rest = rw e (all.0, rest)

-- one of them
module _ {A : Type 0} (P : A → Type 0) where
  pub all_at : (xs : List A) (i : ℕ) (x : A) → i < length xs → x ≡ slice_index_or xs i x → AllByRecursion P xs → P x
  all_at [] i x low is all = absurd (omega (arith, low))
  all_at (y ∷ xs) zero x low is all = subst P (sym is) all.0
  all_at (y ∷ xs) (suc i) x low is all = all_at xs i x (omega (arith, low)) is all.1

pub at_each : (f g : ℕ → Option OpenLog) → f ≡ g → (i : ℕ) → f i ≡ g i
at_each f g e i = ap (λ (l : ℕ → Option OpenLog). l i) e

-- ---- Causes

abbrev pub Later : DiskView → DiskView → Type 0
Later old new = (file : FileId) → old.faults file ≤ new.faults file

pub still : (a : DiskView) → Later a a
still a file = omega arith

pub later_on : (a b c : DiskView) → Later a b → Later b c → Later a c
later_on a b c one two file = let p = one file in let q = two file in omega arith

pub rose_first : (a b c : DiskView) → StoreRose a b → Later b c → StoreRose a c
rose_first a b c (file, of, risen) more = (file, of, risen_first (a.faults file) (b.faults file) (c.faults file) risen (more file))

pub rose_second : (a b c : DiskView) → Later a b → StoreRose b c → StoreRose a c
rose_second a b c more (file, of, risen) = (file, of, risen_second (a.faults file) (b.faults file) (c.faults file) (more file) risen)

pub may_first : (v : KeeperView) (a b c : DiskView) → MayFail v a b → Later b c → MayFail v a c
may_first v a b c (inl failed) more = inl failed
may_first v a b c (inr rose) more = inr (rose_first a b c rose more)

-- what may fail of what a call left
pub may_second : (v w : KeeperView) (a b c : DiskView) → Later a b → Later b c → (HasFailed w → MayFail v a b) → MayFail w b c → MayFail v a c
may_second v w a b c one two was (inl failed) = may_first v a b c (was failed) two
may_second v w a b c one two was (inr rose) = inr (rose_second a b c one rose)

pub answer_first : (n : Type 0) (v : KeeperView) (a b c : DiskView) → MayAnswer n v a b → Later b c → MayAnswer n v a c
answer_first n v a b c (inl rose) more = inl (rose_first a b c rose more)
answer_first n v a b c (inr its) more = inr its

pub answer_second : (n : Type 0) (v w : KeeperView) (a b c : DiskView) → Later a b → Later b c → (HasFailed w → MayFail v a b) → MayAnswer n w b c → MayAnswer n v a c
answer_second n v w a b c one two was (inl rose) = inl (rose_second a b c one rose)
answer_second n v w a b c one two was (inr (failed, needs)) = go (was failed)
  where
    go : MayFail v a b → MayAnswer n v a c
    go (inl before) = inr (before, needs)
    go (inr rose) = inl (rose_first a b c rose two)

-- a number file or an event log is needed, and may have failed before
pub answer_needs : (n : Type 0) (v : KeeperView) (a b : DiskView) → n → MayFail v a b → MayAnswer n v a b
answer_needs n v a b needs (inl failed) = inr (failed, needs)
answer_needs n v a b needs (inr rose) = inl rose

pub answer_as : (n o : Type 0) (v : KeeperView) (a b : DiskView) → (n → o) → MayAnswer n v a b → MayAnswer o v a b
answer_as n o v a b more (inl rose) = inl rose
answer_as n o v a b more (inr (failed, needs)) = inr (failed, more needs)

-- a call that failed only with a count of its own files
pub own_rose : (Own : FileId → Type 0) (failed : Type 0) (old new : DiskView) → ((file : FileId) → Own file → IsOfStore file) → HasOwnCause Own failed old new → failed → StoreRose old new
own_rose Own failed old new of cause is = let (file, own, risen) = cause.risen is in (file, of file own, risen)

-- what failed stays so, where numbers and event log are as they were
pub failed_same : (v w : KeeperView) → w.numbers ≡ v.numbers → w.events ≡ v.events → HasFailed w → HasFailed v
failed_same v w numbers events (inl failed) = inl (λ none. failed (ap pending_of numbers ∙ none))
failed_same v w numbers events (inr broken) = inr (ap is_broken (sym events) ∙ broken)

-- ---- Who is owed an answer

-- a log waits as it did, where its owner and whether it is open are as they were
waits_as : (p : ConnId → Bool) (v w : KeeperView) (n : ℕ) → (sessions_of w).owner n ≡ (sessions_of v).owner n → (log_in w n ≡ None → log_in v n ≡ None) → Waits p v n → Waits p w n
waits_as p v w n owner still it = λ k own. let (mine, some) = it k (sym owner ∙ own) in (mine, λ none. some (still none))

owner_as : (v w : KeeperView) → sessions_of w ≡ sessions_of v → (n : ℕ) → (sessions_of w).owner n ≡ (sessions_of v).owner n
owner_as v w sessions n = ap (λ (x : Sessions). x.owner n) sessions

-- nothing that matters is otherwise
pub steady_same : (p : ConnId → Bool) (v w : KeeperView) → sessions_of w ≡ sessions_of v → ((n : ℕ) → log_in w n ≡ log_in v n) → w.waiting ≡ v.waiting → w.noting ≡ v.noting → IsSteady p v → IsSteady p w
steady_same p v w sessions logs waiting noting s = record {
  linked = subst AreLinked (sym sessions) s.linked;
  waits = subst (AllByRecursion (Waits p w)) (sym waiting) (all_as (Waits p v) (Waits p w) v.waiting (λ n. waits_as p v w n (owner_as v w sessions n) (λ none. sym (logs n) ∙ none)) s.waits);
  notes = subst (AllByRecursion (IsAmong p)) (sym noting) s.notes;
}

-- a connection comes into a state in which it writes no log
linked_set : (s : Sessions) (states : ConnId → ConnState) (k : ConnId) (state : ConnState) → ((j : ConnId) → states j ≡ (if same j k then state else s.states j)) → log_of state ≡ None
    → AreLinked s → (j : ConnId) (n : ℕ) → log_of (states j) ≡ Some n → (j ≢ k) × (log_of (s.states j) ≡ Some n) × (s.owner n ≡ Some j)
linked_set s states k state are none linked j n writes = go (same_or j k)
  where
    go : SameOr j k → (j ≢ k) × (log_of (s.states j) ≡ Some n) × (s.owner n ≡ Some j)
    go (alike e t) = let is : states j ≡ state = are j ∙ rw t refl in let f : log_of (states j) ≡ None = ap log_of is ∙ none in absurd (let q : None ≡ Some n = sym f ∙ writes in cc)
    go (apart e t) = let is : states j ≡ s.states j = are j ∙ rw t refl in let f : log_of (s.states j) ≡ Some n = ap log_of (sym is) ∙ writes in (e, f, linked j n f)

-- the log of a connection that writes it is its own alone
pub linked_only : (s : Sessions) (k : ConnId) (n : ℕ) → AreLinked s → s.owner n ≡ Some k → (j : ConnId) → log_of (s.states j) ≡ Some n → j ≡ k
linked_only s k n linked own j writes = let e : Some j ≡ Some k = sym (linked j n writes) ∙ own in cc

-- a connection lets a log go: nobody owns it and it doesn't wait, and the others are as they were
module _ (n : ℕ) (k : ConnId) (state : ConnState) (v w : KeeperView) (d : Departs (Some n) k state v w) where
  owner_apart : (i : ℕ) → i ≢ n → (sessions_of w).owner i ≡ (sessions_of v).owner i
  owner_apart i other = go (eq_or i n)
    where
      go : EqOr i n → (sessions_of w).owner i ≡ (sessions_of v).owner i
      go (equal e t) = absurd (other e)
      go (unequal e t) = d.owner i ∙ rw t refl

  owner_gone : (sessions_of w).owner n ≡ None
  owner_gone = go (eq_or n n)
    where
      go : EqOr n n → (sessions_of w).owner n ≡ None
      go (equal e t) = d.owner n ∙ rw t refl
      go (unequal e t) = absurd (e refl)

  module _ (none : log_of state ≡ None) (logs : (i : ℕ) → i ≢ n → log_in w i ≡ log_in v i) where
    waits_apart : (p : ConnId → Bool) (i : ℕ) → i ≢ n → Waits p v i → Waits p w i
    waits_apart p i other = waits_as p v w i (owner_apart i other) (λ closed. sym (logs i other) ∙ closed)

    -- each log waits as it did
    pub waits_departs : (p : ConnId → Bool) (i : ℕ) → (i ≢ n → Waits p v i) → Waits p w i
    waits_departs p i it = go (eq_or i n)
      where
        go : EqOr i n → Waits p w i
        go (equal e t) = λ j own. let f : (sessions_of w).owner i ≡ None = ap (λ (x : ℕ). (sessions_of w).owner x) e ∙ owner_gone in absurd (let q : None ≡ Some j = sym f ∙ own in cc)
        go (unequal e t) = waits_apart p i e (it e)

    pub steady_departs : (p : ConnId → Bool) → (AreLinked (sessions_of v) → (sessions_of v).owner n ≡ Some k) → IsSteadyBut n p v → IsSteady p w
    steady_departs p owned s = record {
      linked = λ j i writes. let (e, was, own) = linked_set (sessions_of v) (sessions_of w).states k state d.states none s.linked j i writes in
          owner_apart i (λ is. e (linked_only (sessions_of v) k n s.linked (owned s.linked) j (was ∙ ap (λ (x : ℕ). Some x) is))) ∙ own;
      waits = subst (AllByRecursion (Waits p w)) (sym d.waiting) (all_without (Waits p w) n v.waiting (all_as (λ i. i ≢ n → Waits p v i) (λ i. i ≢ n → Waits p w i) v.waiting (λ i it other. waits_apart p i other (it other)) s.waits));
      notes = subst (AllByRecursion (IsAmong p)) (sym d.beside.noting) s.notes;
    }

-- a connection that writes no log comes into such a state
pub steady_set : (p : ConnId → Bool) (k : ConnId) (state : ConnState) (v w : KeeperView) → log_of state ≡ None → Departs None k state v w → ((n : ℕ) → log_in w n ≡ log_in v n) → IsSteady p v → IsSteady p w
steady_set p k state v w none d logs s = record {
  linked = λ j n writes. let (e, was, own) = linked_set (sessions_of v) (sessions_of w).states k state d.states none s.linked j n writes in d.owner n ∙ own;
  waits = subst (AllByRecursion (Waits p w)) (sym d.waiting) (all_as (Waits p v) (Waits p w) v.waiting (λ n. waits_as p v w n (d.owner n) (λ closed. sym (logs n) ∙ closed)) s.waits);
  notes = subst (AllByRecursion (IsAmong p)) (sym d.beside.noting) s.notes;
}

-- an open log is taken out
pub steady_taken : (p : ConnId → Bool) (n : ℕ) (v w : KeeperView) → sessions_of w ≡ sessions_of v → ((i : ℕ) → log_in w i ≡ (if i == n then None else log_in v i)) → w.waiting ≡ v.waiting → w.noting ≡ v.noting
    → IsSteady p v → IsSteadyBut n p w
steady_taken p n v w sessions logs waiting noting s = record {
  linked = subst AreLinked (sym sessions) s.linked;
  waits = subst (AllByRecursion (λ i. i ≢ n → Waits p w i)) (sym waiting) (all_as (Waits p v) (λ i. i ≢ n → Waits p w i) v.waiting on s.waits);
  notes = subst (AllByRecursion (IsAmong p)) (sym noting) s.notes;
}
  where
    was : (i : ℕ) → i ≢ n → EqOr i n → log_in w i ≡ log_in v i
    was i other (equal e t) = absurd (other e)
    was i other (unequal e t) = logs i ∙ rw t refl

    on : (i : ℕ) → Waits p v i → i ≢ n → Waits p w i
    on i it other = waits_as p v w i (owner_as v w sessions i) (λ none. sym (was i other (eq_or i n)) ∙ none) it

-- all wait as they did, also but for one log
pub steady_but : (p : ConnId → Bool) (n : ℕ) (v : KeeperView) → IsSteady p v → IsSteadyBut n p v
steady_but p n v s = record { linked = s.linked; waits = all_as (Waits p v) (λ i. i ≢ n → Waits p v i) v.waiting (λ i it other. it) s.waits; notes = s.notes }

-- an open log more, or another in its place
open_still : (n : ℕ) (its : OpenLog) (v w : KeeperView) → ((i : ℕ) → log_in w i ≡ (if i == n then Some its else log_in v i)) → (i : ℕ) → log_in w i ≡ None → log_in v i ≡ None
open_still n its v w logs i none = go (eq_or i n)
  where
    go : EqOr i n → log_in v i ≡ None
    go (equal e t) = let f : log_in w i ≡ Some its = logs i ∙ rw t refl in absurd (let q : None ≡ Some its = sym none ∙ f in cc)
    go (unequal e t) = sym (logs i ∙ rw t refl) ∙ none

pub waits_open : (p : ConnId → Bool) (n : ℕ) (its : OpenLog) (v w : KeeperView) → sessions_of w ≡ sessions_of v → ((i : ℕ) → log_in w i ≡ (if i == n then Some its else log_in v i)) → (i : ℕ) → Waits p v i → Waits p w i
waits_open p n its v w sessions logs i = waits_as p v w i (owner_as v w sessions i) (open_still n its v w logs i)

pub steady_open : (p : ConnId → Bool) (n : ℕ) (its : OpenLog) (v w : KeeperView) → sessions_of w ≡ sessions_of v → ((i : ℕ) → log_in w i ≡ (if i == n then Some its else log_in v i)) → w.waiting ≡ v.waiting → w.noting ≡ v.noting
    → IsSteady p v → IsSteady p w
steady_open p n its v w sessions logs waiting noting s = record {
  linked = subst AreLinked (sym sessions) s.linked;
  waits = subst (AllByRecursion (Waits p w)) (sym waiting) (all_as (Waits p v) (Waits p w) v.waiting (waits_open p n its v w sessions logs) s.waits);
  notes = subst (AllByRecursion (IsAmong p)) (sym noting) s.notes;
}

-- a log that is open waits, whose owner is the connection
pub steady_waits : (p : ConnId → Bool) (k : ConnId) (n : ℕ) (its : OpenLog) (v w : KeeperView) → sessions_of w ≡ sessions_of v → ((i : ℕ) → log_in w i ≡ (if i == n then Some its else log_in v i)) → w.waiting ≡ insert_once n v.waiting
    → w.noting ≡ v.noting → IsAmong p k → log_of ((sessions_of v).states k) ≡ Some n → IsSteady p v → IsSteady p w
steady_waits p k n its v w sessions logs waiting noting mine writes s = record {
  linked = subst AreLinked (sym sessions) s.linked;
  waits = subst (AllByRecursion (Waits p w)) (sym waiting) (all_insert (Waits p w) n v.waiting its_own (all_as (Waits p v) (Waits p w) v.waiting (waits_open p n its v w sessions logs) s.waits));
  notes = subst (AllByRecursion (IsAmong p)) (sym noting) s.notes;
}
  where
    some_same : (j : ConnId) → Some k ≡ Some j → k ≡ j
    some_same j e = cc

    there : EqOr n n → log_in w n ≡ Some its
    there (equal e t) = logs n ∙ rw t refl
    there (unequal e t) = absurd (e refl)

    its_own : Waits p w n
    its_own = λ j own. (subst (IsAmong p) (some_same j (sym (s.linked k n writes) ∙ (sym (owner_as v w sessions n) ∙ own))) mine, λ none. let q : None ≡ Some its = sym none ∙ there (eq_or n n) in cc)

-- a connection comes to own a log that nobody owned
pub steady_owns : (p : ConnId → Bool) (k : ConnId) (n : ℕ) (its : OpenLog) (v w : KeeperView) → (sessions_of v).owner n ≡ None → Owns k n its v w → IsAmong p k → IsSteady p v → IsSteady p w
steady_owns p k n its v w free o mine s = record {
  linked = λ j i writes. ap (λ (x : Sessions). x.owner i) o.sessions_are ∙ linked j i (same_or j k) (eq_or i n) (sym (ap (λ (x : Sessions). log_of (x.states j)) o.sessions_are) ∙ writes);
  waits = subst (AllByRecursion (Waits p w)) (sym o.waiting) (all_as (Waits p v) (Waits p w) v.waiting on s.waits);
  notes = subst (AllByRecursion (IsAmong p)) (sym o.noting) s.notes;
}
  where
    linked : (j : ConnId) (i : ℕ) → SameOr j k → EqOr i n → log_of (if same j k then Running (Some n) else (sessions_of v).states j) ≡ Some i → (if i == n then Some k else (sessions_of v).owner i) ≡ Some j
    linked j i (alike e t) (equal f u) writes = rw u (ap (λ (x : ConnId). Some x) (sym e))
    linked j i (alike e t) (unequal f u) writes = let q : Some n ≡ Some i = subst (λ (b : Bool). log_of (if b then Running (Some n) else (sessions_of v).states j) ≡ Some i) t writes in absurd (f (let r : n ≡ i = cc in sym r))
    linked j i (apart e t) (equal f u) writes = let q : log_of ((sessions_of v).states j) ≡ Some i = subst (λ (b : Bool). log_of (if b then Running (Some n) else (sessions_of v).states j) ≡ Some i) t writes in
        absurd (let r : None ≡ Some j = sym free ∙ (ap (λ (x : ℕ). (sessions_of v).owner x) (sym f) ∙ s.linked j i q) in cc)
    linked j i (apart e t) (unequal f u) writes = let q : log_of ((sessions_of v).states j) ≡ Some i = subst (λ (b : Bool). log_of (if b then Running (Some n) else (sessions_of v).states j) ≡ Some i) t writes in rw u (s.linked j i q)

    some_same : (j : ConnId) → Some k ≡ Some j → k ≡ j
    some_same j e = cc

    logs : (i : ℕ) → log_in w i ≡ (if i == n then Some its else log_in v i)
    logs i = ap (λ (l : ℕ → Option OpenLog). l i) o.logs_are

    its_own : (i : ℕ) → Waits p v i → EqOr i n → Waits p w i
    its_own i it (equal e t) = λ j own. (
      subst (IsAmong p) (some_same j (sym (ap (λ (x : Sessions). x.owner i) o.sessions_are ∙ rw t refl) ∙ own)) mine,
      λ none. let q : None ≡ Some its = sym none ∙ (logs i ∙ rw t refl) in cc,
    )
    its_own i it (unequal e t) = waits_as p v w i (ap (λ (x : Sessions). x.owner i) o.sessions_are ∙ rw t refl) (open_still n its v w logs i) it

    on : (i : ℕ) → Waits p v i → Waits p w i
    on i it = its_own i it (eq_or i n)

-- ---- Whole logs

pub whole_same : (a b : OpenLogs) → ((n : ℕ) → open_logs b n ≡ open_logs a n) → AreWhole a → AreWhole b
whole_same a b same all n its is = all n its (sym (same n) ∙ is)

pub whole_taken : (n : ℕ) (a b : OpenLogs) → ((i : ℕ) → open_logs b i ≡ (if i == n then None else open_logs a i)) → AreWhole a → AreWhole b
whole_taken n a b are all i its is = go (eq_or i n)
  where
    go : EqOr i n → its.log.is_broken ≡ false
    go (equal e t) = let f : open_logs b i ≡ None = are i ∙ rw t refl in absurd (cc (f, is))
    go (unequal e t) = all i its (sym (are i ∙ rw t refl) ∙ is)

pub whole_open : (n : ℕ) (one : OpenLog) (a b : OpenLogs) → ((i : ℕ) → open_logs b i ≡ (if i == n then Some one else open_logs a i)) → one.log.is_broken ≡ false → AreWhole a → AreWhole b
whole_open n one a b are whole all i its is = go (eq_or i n)
  where
    go : EqOr i n → its.log.is_broken ≡ false
    go (equal e t) = let f : Some one ≡ Some its = sym (are i ∙ rw t refl) ∙ is in let same : one ≡ its = cc in subst (λ (x : OpenLog). x.log.is_broken ≡ false) same whole
    go (unequal e t) = all i its (sym (are i ∙ rw t refl) ∙ is)

-- ---- What calls do, one after another

module _ {ks : List ConnId} where
  pub does_then : {n : Type 0} {f : Type 0} {g : Type 0} {h : Type 0} {u : KeeperView} {v : KeeperView} {w : KeeperView} {a : DiskView} {b : DiskView} {c : DiskView} → (h → f ⊎ g) → Does ks n f u v a b → Does ks n g v w b c → Does ks n h u w a c
  does_then {n} {f} {g} {h} {u} {v} {w} {a} {b} {c} which one two = record {
    monotone = later_on a b c one.monotone two.monotone;
    failed = λ failed. may_second u v a b c one.monotone two.monotone one.failed (two.failed failed);
    whole = λ all. two.whole (one.whole all);
    steady = λ p mine s. two.steady p mine (one.steady p mine s);
    cause = λ all is. of all (which is);
  }
    where
      of : AreWhole u.logs → f ⊎ g → MayAnswer n u a c
      of all (inl is) = answer_first n u a b c (one.cause all is) two.monotone
      of all (inr is) = answer_second n u v a b c one.monotone two.monotone one.failed (two.cause (one.whole all) is)

  pub does_as : {n : Type 0} {f : Type 0} {g : Type 0} {v : KeeperView} {w : KeeperView} {a : DiskView} {b : DiskView} → (g → f) → Does ks n f v w a b → Does ks n g v w a b
  does_as {n} {f} {g} {v} {w} {a} {b} less d = record { monotone = d.monotone; failed = d.failed; whole = d.whole; steady = d.steady; cause = λ all is. d.cause all (less is) }

  -- it needs no more than this
  pub does_needs : {n : Type 0} {o : Type 0} {f : Type 0} {v : KeeperView} {w : KeeperView} {a : DiskView} {b : DiskView} → (n → o) → Does ks n f v w a b → Does ks o f v w a b
  does_needs {n} {o} {f} {v} {w} {a} {b} more d = record { monotone = d.monotone; failed = d.failed; whole = d.whole; steady = d.steady; cause = λ all is. answer_as n o v a b more (d.cause all is) }

  -- it tells of no fault
  pub does_unfaulted : {n : Type 0} {o : Type 0} {f : Type 0} {v : KeeperView} {w : KeeperView} {a : DiskView} {b : DiskView} → Does ks n f v w a b → Does ks o ⊥ v w a b
  does_unfaulted {n} {o} {f} {v} {w} {a} {b} d = record { monotone = d.monotone; failed = d.failed; whole = d.whole; steady = d.steady; cause = λ all is. absurd is }

  -- it needs nothing
  pub does_free : {n : Type 0} {f : Type 0} {v : KeeperView} {w : KeeperView} {a : DiskView} {b : DiskView} → Does ks ⊥ f v w a b → Does ks n f v w a b
  does_free {n} d = does_needs (λ none. absurd none) d

  -- nothing is done
  pub does_none : {n : Type 0} {f : Type 0} {v : KeeperView} {a : DiskView} → (f → ⊥) → Does ks n f v v a a
  does_none {n} {f} {v} {a} not = record { monotone = λ file. omega arith; failed = λ failed. inl failed; whole = λ all. all; steady = λ p mine s. s; cause = λ all is. absurd (not is) }

  -- nothing that matters is otherwise
  pub does_same : {n : Type 0} {f : Type 0} {v : KeeperView} {w : KeeperView} {a : DiskView} {b : DiskView} → (f → ⊥) → Later a b → w.numbers ≡ v.numbers → w.events ≡ v.events → sessions_of w ≡ sessions_of v → ((n : ℕ) → log_in w n ≡ log_in v n)
      → w.waiting ≡ v.waiting → w.noting ≡ v.noting → Does ks n f v w a b
  does_same {n} {f} {v} {w} {a} {b} not later numbers events sessions logs waiting noting = record {
    monotone = later;
    failed = λ failed. inl (failed_same v w numbers events failed);
    whole = whole_same v.logs w.logs logs;
    steady = λ p mine s. steady_same p v w sessions logs waiting noting s;
    cause = λ all is. absurd (not is);
  }

  pub does_reserved : {n : Type 0} {f : Type 0} {v : KeeperView} {w : KeeperView} {a : DiskView} {b : DiskView} → (f → ⊥) → Later a b → IsReserved v w → Does ks n f v w a b
  does_reserved {n} {f} {v} {w} {a} {b} not later r = does_same not later (ap (λ (x : KeeperView). x.numbers) r.others) (ap (λ (x : KeeperView). x.events) r.others) r.sessions_are (λ n. ap (λ (l : ℕ → Option OpenLog). l n) r.logs_are)
      (ap (λ (x : KeeperView). x.waiting) r.others) (ap (λ (x : KeeperView). x.noting) r.others)

  -- the second call does what none of the first calls do
  pub does_all : {n : Type 0} {f : Type 0} {v : KeeperView} {w : KeeperView} {a : DiskView} {b : DiskView} → Does [] n f v w a b → Does ks n f v w a b
  does_all {n} {f} {v} {w} {a} {b} d = record { monotone = d.monotone; failed = d.failed; whole = d.whole; steady = λ p mine s. d.steady p tt s; cause = d.cause }

  -- the same of a call that needs neither numbers nor an event log
  pub does_any : {n : Type 0} {f : Type 0} {v : KeeperView} {w : KeeperView} {a : DiskView} {b : DiskView} → Does [] ⊥ f v w a b → Does ks n f v w a b
  does_any {n} {f} {v} {w} {a} {b} d = does_free (does_all d)

  -- and then nothing that may fail
  pub then_quiet : {n : Type 0} {f : Type 0} {g : Type 0} {u : KeeperView} {v : KeeperView} {w : KeeperView} {a : DiskView} {b : DiskView} {c : DiskView} → (f → g) → Does ks n g u v a b → Does [] ⊥ ⊥ v w b c → Does ks n f u w a c
  then_quiet {n} {f} {g} {u} {v} {w} {a} {b} {c} less one two = does_then (λ is. inl (less is)) one (does_any two)

  -- at first nothing that may fail
  pub quiet_then : {n : Type 0} {f : Type 0} {g : Type 0} {u : KeeperView} {v : KeeperView} {w : KeeperView} {a : DiskView} {b : DiskView} {c : DiskView} → (f → g) → Does [] ⊥ ⊥ u v a b → Does ks n g v w b c → Does ks n f u w a c
  quiet_then {n} {f} {g} {u} {v} {w} {a} {b} {c} less one two = does_then (λ is. inr (less is)) (does_any one) two

  -- it fails with a cause of its own
  pub does_caused : {n : Type 0} {f : Type 0} {g : Type 0} {v : KeeperView} {w : KeeperView} {a : DiskView} {b : DiskView} → (AreWhole v.logs → f → MayAnswer n v a b) → Does ks n g v w a b → Does ks n f v w a b
  does_caused {n} {f} {g} {v} {w} {a} {b} cause d = record { monotone = d.monotone; failed = d.failed; whole = d.whole; steady = d.steady; cause = cause }

  -- the log that was taken out is let go
  pub taken_then : {o : Type 0} {f : Type 0} (n : ℕ) {v : KeeperView} {w : KeeperView} (left : OpenLogs) {a : DiskView} {b : DiskView} → (AreWhole v.logs → f → MayAnswer o v a b) → ((i : ℕ) → open_logs left i ≡ (if i == n then None else open_logs v.logs i)) → LetsGo n (record v { logs = left }) w a b
      → Does ks o f v w a b
  taken_then {o} {f} n {v} {w} left {a} {b} cause rest goes = record {
    monotone = goes.monotone;
    failed = goes.failed;
    whole = λ all. goes.whole (whole_taken n v.logs left rest all);
    steady = λ p mine s. goes.steady p (steady_taken p n v (record v { logs = left }) refl rest refl refl s);
    cause = cause;
  }

  -- no log was there to be taken
  pub none_taken : {o : Type 0} {f : Type 0} (n : ℕ) {v : KeeperView} {w : KeeperView} (left : OpenLogs) {a : DiskView} {b : DiskView} → open_logs v.logs n ≡ None → open_logs left ≡ with_open n None (open_logs v.logs) → Does ks o f (record v { logs = left }) w a b → Does ks o f v w a b
  none_taken {o} {f} n {v} {w} left {a} {b} none rest d = record {
    monotone = d.monotone;
    failed = d.failed;
    whole = λ all. d.whole (whole_same v.logs left same_logs all);
    steady = λ p mine s. d.steady p mine (steady_same p v (record v { logs = left }) refl same_logs refl refl s);
    cause = λ all is. d.cause (whole_same v.logs left same_logs all) is;
  }
    where
      go : (i : ℕ) → EqOr i n → open_logs left i ≡ open_logs v.logs i
      go i (equal e t) = ap (λ (l : ℕ → Option OpenLog). l i) rest ∙ rw t (sym (ap (open_logs v.logs) e ∙ none))
      go i (unequal e t) = ap (λ (l : ℕ → Option OpenLog). l i) rest ∙ rw t refl

      same_logs : (i : ℕ) → open_logs left i ≡ open_logs v.logs i
      same_logs i = go i (eq_or i n)

  -- a connection comes into a state in which it writes no log, and wrote none
  pub does_set : {n : Type 0} (k : ConnId) (state : ConnState) {v : KeeperView} {w : KeeperView} {a : DiskView} {b : DiskView} → log_of state ≡ None → Departs None k state v w → w.logs ≡ v.logs → Later a b → Does ks n ⊥ v w a b
  does_set {n} k state {v} {w} {a} {b} none d logs later = record {
    monotone = later;
    failed = λ failed. inl (failed_same v w d.beside.numbers d.beside.events failed);
    whole = λ all. subst AreWhole (sym logs) all;
    steady = λ p mine s. steady_set p k state v w none d (λ n. ap (λ (l : OpenLogs). open_logs l n) logs) s;
    cause = λ all is. absurd is;
  }

  -- the connections that had event lines are fewer
  pub forgotten_then : {n : Type 0} {f : Type 0} (k : ConnId) (notes : List ConnId) {v : KeeperView} {w : KeeperView} {a : DiskView} {b : DiskView} → notes ≡ without_conn k v.noting → Does ks n f (record v { noting = notes }) w a b → Does ks n f v w a b
  forgotten_then {n} {f} k notes {v} {w} {a} {b} less d = record {
    monotone = d.monotone;
    failed = d.failed;
    whole = d.whole;
    steady = λ p mine s. d.steady p mine (record { linked = s.linked; waits = s.waits; notes = subst (AllByRecursion (IsAmong p)) (sym less) (all_forget (IsAmong p) k v.noting s.notes) });
    cause = d.cause;
  }

  -- it does what tells of no fault
  pub quiet_told : {n : Type 0} {f : Type 0} {v w : KeeperView} {a b : DiskView} → (f → ⊥) → Does [] ⊥ ⊥ v w a b → Does ks n f v w a b
  quiet_told {n} not d = does_as not (does_any d)

-- what a connection that lets its log go keeps
pub departs_goes : (n : ℕ) (k : ConnId) (state : ConnState) (v w : KeeperView) (a b : DiskView) → log_of state ≡ None → Departs (Some n) k state v w → w.logs ≡ v.logs → (AreLinked (sessions_of v) → (sessions_of v).owner n ≡ Some k) → Later a b
    → LetsGo n v w a b
departs_goes n k state v w a b none d logs owned later = record {
  monotone = later;
  failed = λ failed. inl (failed_same v w d.beside.numbers d.beside.events failed);
  whole = λ all. subst AreWhole (sym logs) all;
  steady = λ p s. steady_departs n k state v w d none (λ i other. ap (λ (l : OpenLogs). open_logs l i) logs) p owned s;
}

-- a line is added for a connection, or isn't
pub line_does : {k : ConnId} {f g : Type 0} {v w : KeeperView} {a b : DiskView} → (f → g) → SameSessions v w → LinesDo g v.events w.events a b → (w.noting ≡ v.noting) ⊎ (w.noting ≡ note k v.noting) → Does (k ∷ []) (Unit {0}) f v w a b
line_does {k} {f} {g} {v} {w} {a} {b} less s lines noting = record {
  monotone = lines.monotone;
  failed = λ failed. of failed;
  whole = λ all. subst AreWhole (sym s.logs) all;
  steady = λ p mine old. record {
    linked = subst AreLinked (sym same_sessions) old.linked;
    waits = subst (AllByRecursion (Waits p w)) (sym s.waiting) (all_as (Waits p v) (Waits p w) v.waiting (λ n. waits_as p v w n (owner_as v w same_sessions n) (λ none. ap (λ (l : OpenLogs). open_logs l n) (sym s.logs) ∙ none)) old.waits);
    notes = its_notes p mine.0 old.notes noting;
  };
  cause = λ all is. answer_needs (Unit {0}) v a b tt (from (lines.cause (less is)));
}
  where
    same_sessions : sessions_of w ≡ sessions_of v
    same_sessions = ap (λ (t : Table). sessions t) s.table

    from : (is_broken v.events ≡ true) ⊎ StoreRose a b → MayFail v a b
    from (inl broken) = inl (inr broken)
    from (inr rose) = inr rose

    of : HasFailed w → MayFail v a b
    of (inl pending) = inl (inl (λ none. pending (ap pending_of s.numbers ∙ none)))
    of (inr broken) = from (lines.failed broken)

    its_notes : (p : ConnId → Bool) → IsAmong p k → AllByRecursion (IsAmong p) v.noting → (w.noting ≡ v.noting) ⊎ (w.noting ≡ note k v.noting) → AllByRecursion (IsAmong p) w.noting
    its_notes p mine all (inl same) = subst (AllByRecursion (IsAmong p)) (sym same) all
    its_notes p mine all (inr more) = subst (AllByRecursion (IsAmong p)) (sym more) (all_note (IsAmong p) k v.noting mine all)

-- a connection comes to write a whole log
pub owns_does : {o : Type 0} {k : ConnId} {n : ℕ} {its : OpenLog} {v w : KeeperView} {a b : DiskView} → (sessions_of v).owner n ≡ None → its.log.is_broken ≡ false → Owns k n its v w → Later a b → Does (k ∷ []) o ⊥ v w a b
owns_does {o} {k} {n} {its} {v} {w} {a} {b} free whole owns later = record {
  monotone = later;
  failed = λ failed. inl (failed_same v w owns.numbers owns.events failed);
  whole = whole_open n its v.logs w.logs (λ i. ap (λ (l : ℕ → Option OpenLog). l i) owns.logs_are) whole;
  steady = λ p mine s. steady_owns p k n its v w free owns mine.0 s;
  cause = λ all is. absurd is;
}

-- a number is drawn, or isn't
pub draw_does : (f : Type 0) (v : KeeperView) (new : Numbers) (a b : DiskView) → Later a b → (pending_of new ≢ None → (pending_of v.numbers ≢ None) ⊎ StoreRose a b) → (f → (pending_of v.numbers ≢ None) ⊎ StoreRose a b) → Does [] (Unit {0}) f v (record v { numbers = new }) a b
draw_does f v new a b later failed cause = record {
  monotone = later;
  failed = λ is. of is;
  whole = λ all. all;
  steady = λ p mine s. record { linked = s.linked; waits = s.waits; notes = s.notes };
  cause = λ all is. answer_needs (Unit {0}) v a b tt (from (cause is));
}
  where
    from : (pending_of v.numbers ≢ None) ⊎ StoreRose a b → MayFail v a b
    from (inl pending) = inl (inl pending)
    from (inr rose) = inr rose

    of : HasFailed (record v { numbers = new }) → MayFail v a b
    of (inl pending) = from (failed pending)
    of (inr broken) = inl (inr broken)

-- ---- What a job is told

pub refused_is : (why : Refusal) → IsFaultRefusal (outcome.Refused why) → why ≡ DeviceFault
refused_is why e = cc

pub told_some : (refused : Option Refusal) → IsFaultRefusal (outcome_of refused) → refused ≡ Some DeviceFault
told_some None e = absurd (cc)
told_some (Some why) e = ap (λ (w : Refusal). Some w) (refused_is why e)

-- a fault of a log that is opened and cut
pub resume_cause : (rose : Type 0) (fault : LogFault) → (fault ≡ faults.Disk → rose) → (fault ≡ faults.Broken → ⊥) → restart_refusal fault ≡ DeviceFault → rose
resume_cause rose faults.Disk disk broken is = disk refl
resume_cause rose faults.Broken disk broken is = absurd (broken refl)
resume_cause rose faults.Absent disk broken is = absurd (cc)
resume_cause rose (faults.Damaged part) disk broken is = absurd (cc)
resume_cause rose faults.Complete disk broken is = absurd (cc)
resume_cause rose (faults.NoPoint point) disk broken is = absurd (cc)
resume_cause rose (faults.Full part) disk broken is = absurd (cc)
resume_cause rose (faults.TooLong point) disk broken is = absurd (cc)
resume_cause rose faults.NoMem disk broken is = absurd (cc)

-- a log that isn't broken refuses a record for another reason
pub append_cause : (log : IoLogView) (r : Record) (fault : LogFault) → IsAppendFault log r fault → log.is_broken ≡ false → log_refusal fault ≡ DeviceFault → ⊥
append_cause log r (faults.TooLong point) why whole is = cc
append_cause log r (faults.Full part) why whole is = cc
append_cause log r faults.NoMem why whole is = cc
append_cause log r faults.Broken why whole is = let q : true ≡ false = sym why ∙ whole in cc
append_cause log r faults.Absent why whole is = why
append_cause log r (faults.Damaged part) why whole is = why
append_cause log r faults.Complete why whole is = why
append_cause log r (faults.NoPoint point) why whole is = why
append_cause log r faults.Disk why whole is = why

-- nor is a log that isn't finished for another reason than its device
pub finish_cause : (fault : LogFault) → (fault ≡ faults.Disk → ⊥) → (fault ≡ faults.Broken → ⊥) → (fault ≡ faults.Disk) ⊎ (fault ≡ faults.Broken) ⊎ (fault ≡ faults.Full Exit) ⊎ (fault ≡ faults.NoMem) → log_refusal fault ≡ DeviceFault → ⊥
finish_cause fault disk broken (inl e) is = disk e
finish_cause fault disk broken (inr (inl e)) is = broken e
finish_cause fault disk broken (inr (inr (inl e))) is = let q : log_refusal (faults.Full Exit) ≡ DeviceFault = ap log_refusal (sym e) ∙ is in cc
finish_cause fault disk broken (inr (inr (inr e))) is = let q : log_refusal faults.NoMem ≡ DeviceFault = ap log_refusal (sym e) ∙ is in cc

-- why a log isn't made, but for its device
pub create_cause : (rose : Type 0) (fault : LogFault) → (fault ≡ faults.Disk → rose) → (fault ≡ faults.Disk) ⊎ (fault ≡ faults.Full Head) ⊎ (fault ≡ faults.NoMem) → create_refusal fault ≡ DeviceFault → rose
create_cause rose fault disk (inl e) is = disk e
create_cause rose fault disk (inr (inl e)) is = absurd (let q : create_refusal (faults.Full Head) ≡ DeviceFault = ap create_refusal (sym e) ∙ is in cc)
create_cause rose fault disk (inr (inr e)) is = absurd (let q : create_refusal faults.NoMem ≡ DeviceFault = ap create_refusal (sym e) ∙ is in cc)

-- why no number is drawn, and whether the numbers failed
pub draw_cause : (was new : Numbers) (rose : Type 0) (f : DrawFault) → (f ≡ draws.Disk → rose) → ((m : ℕ) → f ≡ draws.Spent m → pending_of new ≡ None) → ((kept : _) (now : _) → f ≡ draws.Changed kept now → pending_of was ≢ None)
    → (pending_of new ≢ None → (pending_of was ≢ None) ⊎ rose) × (draw_refusal f ≡ DeviceFault → (pending_of was ≢ None) ⊎ rose)
draw_cause was new rose draws.Disk disk spent changed = ((λ pending. inr (disk refl)), (λ is. inr (disk refl)))
draw_cause was new rose (draws.Spent m) disk spent changed = ((λ pending. absurd (pending (spent m refl))), (λ is. absurd (cc)))
draw_cause was new rose (draws.Changed kept now) disk spent changed = ((λ pending. inl (changed kept now refl)), (λ is. inl (changed kept now refl)))

-- ---- Records

-- a record was staged
pub staged_does : (f : Type 0) (k : ConnId) (n : ℕ) (texts : List (List ℕ)) (r : Record) (its after : OpenLog) (v : KeeperView) (logs : OpenLogs) (waiting : List ℕ) (a : DiskView) → (f → ⊥) → log_of ((sessions_of v).states k) ≡ Some n
    → open_logs v.logs n ≡ Some its → TakesRecord texts its r after → open_logs logs ≡ with_open n (Some after) (open_logs v.logs) → waiting ≡ insert_once n v.waiting → Does (k ∷ []) ⊥ f v (record v { logs = logs; waiting = waiting }) a a
staged_does f k n texts r its after v logs waiting a not writes here took are waits = record {
  monotone = still a;
  failed = λ failed. inl failed;
  whole = λ all. whole_open n after v.logs logs (at_each (open_logs logs) (with_open n (Some after) (open_logs v.logs)) are) (took.stages.is_broken ∙ all n its here) all;
  steady = λ p mine s. steady_waits p k n after v (record v { logs = logs; waiting = waiting }) refl (at_each (open_logs logs) (with_open n (Some after) (open_logs v.logs)) are) waits refl mine.0 writes s;
  cause = λ all is. absurd (not is);
}

-- a record was refused, and the log's mask moved on
pub unstaged_does : (ks : List ConnId) (n : ℕ) (texts : List (List ℕ)) (r : Record) (fault : LogFault) (its left : OpenLog) (v : KeeperView) (logs : OpenLogs) (a : DiskView)
    → open_logs v.logs n ≡ Some its → RefusesRecord texts its r fault left → open_logs logs ≡ with_open n (Some left) (open_logs v.logs) → Does ks ⊥ (log_refusal fault ≡ DeviceFault) v (record v { logs = logs }) a a
unstaged_does ks n texts r fault its left v logs a here no_room are = record {
  monotone = still a;
  failed = λ failed. inl failed;
  whole = λ all. whole_open n left v.logs logs (at_each (open_logs logs) (with_open n (Some left) (open_logs v.logs)) are) (ap (λ (l : IoLogView). l.is_broken) no_room.same ∙ all n its here) all;
  steady = λ p mine s. steady_open p n left v (record v { logs = logs }) refl (at_each (open_logs logs) (with_open n (Some left) (open_logs v.logs)) are) refl refl s;
  cause = λ all is. absurd (append_cause its.log no_room.stored fault no_room.why (all n its here) is);
}

-- ---- The end of a turn

-- no log waits any more
pub unwaiting_then : (f : Type 0) (v v0 w : KeeperView) (a b : DiskView) → v0 ≡ record v { waiting = [] } → Does [] ⊥ f v0 w a b → Does [] ⊥ f v w a b
unwaiting_then f v v0 w a b is d = let e : Does [] ⊥ f (record v { waiting = [] }) w a b = subst (λ (x : KeeperView). Does [] ⊥ f x w a b) is d in record {
  monotone = e.monotone;
  failed = e.failed;
  whole = e.whole;
  steady = λ p mine s. e.steady p mine (record { linked = s.linked; waits = tt; notes = s.notes });
  cause = e.cause;
}

-- event lines were flushed, or that failed; nobody is noted any more
pub flushed_does : (v : KeeperView) (events : EventLogView) (notes : List ConnId) (a b : DiskView) → Later a b → (is_broken events ≡ true → (is_broken v.events ≡ true) ⊎ StoreRose a b) → notes ≡ [] → Does [] ⊥ ⊥ v (record v { events = events; noting = notes }) a b
flushed_does v events notes a b later failed none = record {
  monotone = later;
  failed = λ is. of is;
  whole = λ all. all;
  steady = λ p mine s. record { linked = s.linked; waits = s.waits; notes = subst (AllByRecursion (IsAmong p)) (sym none) tt };
  cause = λ all is. absurd is;
}
  where
    from : (is_broken v.events ≡ true) ⊎ StoreRose a b → MayFail v a b
    from (inl broken) = inl (inr broken)
    from (inr rose) = inr rose

    of : HasFailed (record v { events = events; noting = notes }) → MayFail v a b
    of (inl pending) = inl (inl pending)
    of (inr broken) = from (failed broken)

-- an open log was flushed
pub one_flushed : (n : ℕ) (its : OpenLog) (v : KeeperView) (logs : OpenLogs) (a b : DiskView) → Later a b → its.log.is_broken ≡ false → ((i : ℕ) → open_logs logs i ≡ (if i == n then Some its else open_logs v.logs i)) → Does [] ⊥ ⊥ v (record v { logs = logs }) a b
one_flushed n its v logs a b later whole are = record {
  monotone = later;
  failed = λ failed. inl failed;
  whole = λ all. whole_open n its v.logs logs are whole all;
  steady = λ p mine s. steady_open p n its v (record v { logs = logs }) refl are refl refl s;
  cause = λ all is. absurd is;
}

-- a log that failed waits for nobody, since it was let go
pub waits_failed : (p : ConnId → Bool) (n : ℕ) (k : ConnId) (state : ConnState) (v : KeeperView) (left : OpenLogs) (w : KeeperView) → log_of state ≡ None → Departs (Some n) k state (record v { logs = left }) w → w.logs ≡ left
    → ((i : ℕ) → open_logs left i ≡ (if i == n then None else open_logs v.logs i)) → (i : ℕ) → Waits p v i → Waits p w i
waits_failed p n k state v left w none d same are i it = waits_departs n k state (record v { logs = left }) w d none (λ j other. ap (λ (l : OpenLogs). open_logs l j) same) p i
    (λ other. waits_as p v (record v { logs = left }) i refl (λ gone. sym (was other (eq_or i n)) ∙ gone) it)
  where
    was : i ≢ n → EqOr i n → open_logs left i ≡ open_logs v.logs i
    was other (equal e t) = absurd (other e)
    was other (unequal e t) = are i ∙ rw t refl

-- ---- Jobs, one after another

pub conns_last : (jobs : List Job) (job : Job) → map (λ (x : Job). x.conn) (jobs ++ job ∷ []) ≡ map (λ (x : Job). x.conn) jobs ++ job.conn ∷ []
conns_last [] job = refl
conns_last (x ∷ jobs) job = ap (λ (l : List ConnId). x.conn ∷ l) (conns_last jobs job)

all_front : (p : ConnId → Type 0) (xs ys : List ConnId) → AllByRecursion p (xs ++ ys) → AllByRecursion p xs
all_front p [] ys all = tt
all_front p (x ∷ xs) ys all = (all.0, all_front p xs ys all.1)

all_back : (p : ConnId → Type 0) (xs ys : List ConnId) → AllByRecursion p (xs ++ ys) → AllByRecursion p ys
all_back p [] ys all = all
all_back p (x ∷ xs) ys all = all_back p xs ys all.1

pub does_last : (jobs : List Job) (job : Job) (u v w : KeeperView) (a b c : DiskView) → Does (map (λ (x : Job). x.conn) jobs) ⊥ ⊥ u v a b → Does (job.conn ∷ []) ⊥ ⊥ v w b c → Does (map (λ (x : Job). x.conn) (jobs ++ job ∷ [])) ⊥ ⊥ u w a c
does_last jobs job u v w a b c one two = record {
  monotone = later_on a b c one.monotone two.monotone;
  failed = λ failed. may_second u v a b c one.monotone two.monotone one.failed (two.failed failed);
  whole = λ all. two.whole (one.whole all);
  steady = λ p mine s.
      let both : AllByRecursion (IsAmong p) (map (λ (x : Job). x.conn) jobs ++ job.conn ∷ []) = subst (AllByRecursion (IsAmong p)) (conns_last jobs job) mine in
      two.steady p (all_back (IsAmong p) (map (λ (x : Job). x.conn) jobs) (job.conn ∷ []) both) (one.steady p (all_front (IsAmong p) (map (λ (x : Job). x.conn) jobs) (job.conn ∷ []) both) s);
  cause = λ all is. absurd is;
}

pub any_before : (jobs : List Job) (job : Job) (k : ConnId) → AnyIsOf jobs k → AnyIsOf (jobs ++ job ∷ []) k
any_before [] job k any = absurd any
any_before (x ∷ jobs) job k (inl is) = inl is
any_before (x ∷ jobs) job k (inr any) = inr (any_before jobs job k any)

pub any_last : (jobs : List Job) (job : Job) (k : ConnId) → k ≡ job.conn → AnyIsOf (jobs ++ job ∷ []) k
any_last [] job k is = inl (sym is)
any_last (x ∷ jobs) job k is = inr (any_last jobs job k is)

-- a job that brings an event with a line, among more jobs
pub brings_before : (log_exit : Bool) (jobs : List Job) (job : Job) (k : ConnId) → AnyBringsLine log_exit jobs k → AnyBringsLine log_exit (jobs ++ job ∷ []) k
brings_before log_exit [] job k any = absurd any
brings_before log_exit (x ∷ jobs) job k (inl is) = inl is
brings_before log_exit (x ∷ jobs) job k (inr any) = inr (brings_before log_exit jobs job k any)

pub brings_last : (log_exit : Bool) (jobs : List Job) (job : Job) (k : ConnId) → job.conn ≡ k → BringsLine log_exit job.body → AnyBringsLine log_exit (jobs ++ job ∷ []) k
brings_last log_exit [] job k is brings = inl (is, brings)
brings_last log_exit (x ∷ jobs) job k is brings = inr (brings_last log_exit jobs job k is brings)

is_or : (a b : Bool) → b ≡ true → (a || b) ≡ true
is_or true b e = refl
is_or false b e = e

pub all_own : (jobs : List Job) → AllByRecursion (IsAmong (is_of jobs)) (map (λ (x : Job). x.conn) jobs)
all_own [] = tt
all_own (job ∷ jobs) = (
  rw (same_refl job.conn) refl,
  all_as (IsAmong (is_of jobs)) (IsAmong (is_of (job ∷ jobs))) (map (λ (x : Job). x.conn) jobs) (λ k any. is_or (same job.conn k) (is_of jobs k) any) (all_own jobs),
)

-- a connection that is of one of these jobs
pub any_is : (jobs : List Job) (k : ConnId) → IsAmong (is_of jobs) k → AnyIsOf jobs k
any_is [] k e = absurd (let f : false ≡ true = e in cc)
any_is (job ∷ jobs) k e = go (same_or job.conn k) (any_is jobs k)
  where
    go : SameOr job.conn k → (IsAmong (is_of jobs) k → AnyIsOf jobs k) → AnyIsOf (job ∷ jobs) k
    go (alike is t) rest = inl is
    go (apart is t) rest = inr (rest (subst (λ (b : Bool). (b || is_of jobs k) ≡ true) t e))

-- ---- A keeper at rest

pub rests_steady : (p : ConnId → Bool) (v : KeeperView) → IsResting v → IsSteady p v
rests_steady p v rests = record { linked = rests.linked; waits = subst (AllByRecursion (Waits p v)) (sym rests.none_waits) tt; notes = subst (AllByRecursion (IsAmong p)) (sym rests.nobody_noted) tt }

-- ---- Results and options

pub log_rose : (n : ℕ) (old new : DiskView) → (file : FileId) × IsOfLog n file × HasRisen (old.faults file) (new.faults file) → StoreRose old new
log_rose n old new (file, own, risen) = (file, inl (n, own), risen)

pub none_of : {A : Type 0} (o : Option A) → ((x : A) → o ≡ Some x → ⊥) → o ≡ None
none_of None not = refl
none_of (Some x) not = absurd (not x refl)

pub none_of_some : {A : Type 0} (o : Option A) → is_some o ≡ false → o ≡ None
none_of_some None e = refl
none_of_some (Some x) e = absurd (cc)

-- an error that was passed on
pub same_err : {T U E : Type 0} (r : Result T E) (e d : E) → IsErrAnd r (λ x. x ≡ e) → IsErrOf r d → IsErrOf {T = U} (Err e) d
same_err {T} {U} {E} r e d is same = ap (λ (x : E). let y : Result U E = Err x in y) (same_error r e d is same)
