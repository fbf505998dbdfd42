-- A commit point that is told to a connection that writes the log is the elapsed time of what was shown, which is not nothing, and promises it through its first record there.
use Rattle.std.proofs.Common.{◌≡◌, ◌≤◌, ℕ, List, [], ◌∷◌, ◌++◌, refl, sym, ◌∙◌, ap, subst, inl, inr, arith, Option, Some, None, ◌⊎◌, unwrap_or}
use Rattle.std.specs.Prelude.{◌==◌, ◌||◌, Bool, true, false, if◌then◌else◌, max}
use Rattle.lsv_disk.specs.declared.file.Owner.{Owner}
use Rattle.lsv_record.specs.Points.{first}
use Rattle.lsv_record.specs.Records.{elapsed}
use Rattle.lsv_record.specs.declared.records.Record.{Record}
use Rattle.lsv_session.specs.declared.connection.ConnId.{ConnId}
use Rattle.lsv_session.specs.declared.connection.ConnState.TheVariants.{Dead}
use Rattle.lsv_machine.specs.Answers.{Answer, Saying, Saying.CommitPoint, Saying.Error, Saying.LogId, Saying.Shut, refusal, say}
use Rattle.lsv_machine.specs.History.{Ledger, heard, heard_all, noted, raised_to, writes}
use Rattle.lsv_machine.specs.Machine.{Machine, Settings, leaves, log_of, with_log}
use Rattle.lsv_machine.specs.Stands.{StandsFor, as_list}
use Rattle.lsv_machine.specs.Turns.{Commits, EndOfTurn, FlushesLines, FlushesLog, FlushesLogs, Happened.Tailed, RefusesAll, Tail, raised, with_lines}
use Rattle.lsv_machine.proofs.Choices.{EqOr.equal, EqOr.unequal, eq_or, SameOr.alike, SameOr.apart, same_or}
use Rattle.lsv_machine.proofs.Fits.{fits_of_stands, stands_of_fits, writes_its}
use Rattle.lsv_machine.proofs.JobFits.{Last, Last.by_refusal, Last.by_shut, refused_last}
use Rattle.lsv_machine.proofs.RunFits.{flushed_together, heard_append, lines_together}
use Rattle.lsv_machine.proofs.WorkFits.{holds_there}
use Rattle.lsv_machine.proofs.StepLooks.{leaving_still}
use Rattle.lsv_upstream.specs.Held.{PromisesAtLeast, HasPoint}
use Rattle.lsv_upstream.proofs.Among.{among}
use Rattle.lsv_upstream.proofs.Keeping.{all_less}
use Rattle.lsv_upstream.proofs.Waits.{Grows, grows_like, grows_then, leaves_grows, leaving_grows}

pub tells_append : (k : ConnId) (c : ℕ) (xs ys : List Answer) → HasPoint k c (xs ++ ys) → HasPoint k c xs ⊎ HasPoint k c ys
tells_append k c [] ys t = inr t
tells_append k c (x ∷ xs) ys (inl t) = inl (inl t)
tells_append k c (x ∷ xs) ys (inr t) = elim (tells_append k c xs ys t) [ inl a ↦ inl (inr a) | inr a ↦ inr a ]

-- a refusal tells no commit point
pub last_no : (k j : ConnId) (c : ℕ) (answers : List Answer) → Last j answers → HasPoint k c answers → ⊥
last_no k j c answers (by_refusal why e) t = go (subst (HasPoint k c) e t)
  where
    go : HasPoint k c (refusal j why) → ⊥
    go (inl x) = let y = x.1 in cc
    go (inr (inl x)) = let y = x.1 in cc
    go (inr (inr x)) = x
last_no k j c answers (by_shut e) t = go (subst (HasPoint k c) e t)
  where
    go : HasPoint k c (say j Shut ∷ []) → ⊥
    go (inl x) = let y = x.1 in cc
    go (inr x) = x

-- ---- PromisesAtLeast only rise

raised_from : (p : ℕ) (rs : List Record) (c : ℕ) → p ≤ raised p rs c
raised_from p rs c = go (first rs c)
  where
    go : (o : Option ℕ) → p ≤ max p (unwrap_or o p)
    go None = omega arith
    go (Some x) = omega arith

raised_first : (p f : ℕ) (rs : List Record) (c : ℕ) → first rs c ≡ Some f → f ≤ raised p rs c
raised_first p f rs c e = rw e (omega arith)

raised_told : (t : Option ℕ) (p : ℕ) (rs : List Record) (c : ℕ) → t ≡ Some p → raised_to t rs c ≡ Some (raised p rs c)
raised_told t p rs c e = rw e refl

heard_promises : (k : ConnId) (says : Saying) (l : Ledger) (f : ℕ) → PromisesAtLeast l f → PromisesAtLeast (heard false k says l) f
heard_promises k (LogId i) l f h = h
heard_promises k (Error why) l f h = h
heard_promises k Shut l f h = h
heard_promises k (CommitPoint c) l f (p, e, low) = go (writes l k)
  where
    go : (b : Bool) → PromisesAtLeast (if b then record l { promised = raised_to l.promised l.shown c; finished = l.finished || false } else l) f
    go false = (p, e, low)
    go true = (raised p l.shown c, rw e refl, (let up = raised_from p l.shown c in omega arith))

pub all_promises : (answers : List Answer) (l : Ledger) (f : ℕ) → PromisesAtLeast l f → PromisesAtLeast (heard_all false answers l) f
all_promises [] l f h = h
all_promises (a ∷ answers) l f h = all_promises answers (heard false a.conn a.says l) f (heard_promises a.conn a.says l f h)

-- ---- The logs that are flushed

module _ (set : Settings) (n : ℕ) (k : ConnId) (c : ℕ) where
  -- it is the elapsed time of what was shown, and promises that through its first record there. waits: the logs that are flushed
  pub record Acknowledged (waits : List ℕ) (l after : Ledger) : Type 0 where
    pub waited : among n waits ≡ true
    pub point : c ≡ elapsed l.shown
    pub promises : (f : ℕ) → first l.shown c ≡ Some f → PromisesAtLeast after f

  -- one log: it is the one that the connection writes
  commit_told : (failed : List Owner) (i : ℕ) (answers : List Answer) (m mid : Machine) (l : Ledger) → StandsFor set n m l → log_of (m.states k) ≡ Some n → Commits failed i answers m mid → HasPoint k c answers
      → (i ≡ n) × (c ≡ elapsed l.shown) × ((f : ℕ) → first l.shown c ≡ Some f → PromisesAtLeast (heard_all false answers l) f)
  commit_told failed i answers m mid l s its t told =
      let (who, point) = one (subst (HasPoint k c) t.told told) in
      let owns = s.sound.owns i t.writer t.owned in
      let same_log : i ≡ n = (let a : log_of (m.states t.writer) ≡ Some n = subst (λ j. log_of (m.states j) ≡ Some n) (sym who) its in cc) in
      let own : m.owner n ≡ Some t.writer = ap m.owner (sym same_log) ∙ t.owned in
      let holds = holds_there (Unit {0}) set n m l t.stored t.promised (fits_of_stands set n m l s) (ap m.logs (sym same_log) ∙ t.was) tt in
      let whole : t.stored.records ≡ l.shown = holds.whole t.writer own in
      let c_is : c ≡ elapsed l.shown = point ∙ ap elapsed whole in
      let w : writes l t.writer ≡ true = writes_its l t.writer (s.agrees.writers ∙ ap as_list own) in
      let (p, told_is) = holds.is_told t.writer own in
      let after : heard_all false answers l ≡ record l { promised = raised_to l.promised l.shown (elapsed t.stored.records); finished = l.finished || false } = ap (λ (x : List Answer). heard_all false x l) t.told ∙ rw w refl in (
        same_log,
        c_is,
        λ f at. (
          raised p l.shown (elapsed t.stored.records),
          ap (λ (x : Ledger). x.promised) after ∙ raised_told l.promised p l.shown (elapsed t.stored.records) told_is,
          subst (λ y. f ≤ raised p l.shown y) point (raised_first p f l.shown c at),
        ),
      )
    where
      one : HasPoint k c (say t.writer (CommitPoint (elapsed t.stored.records)) ∷ []) → (t.writer ≡ k) × (c ≡ elapsed t.stored.records)
      one (inl x) = (x.0, (let y = x.1 in cc))
      one (inr x) = absurd x

  -- who has no log is told no commit point
  idle_no : (failed : List Owner) (numbers : List ℕ) (answers : List Answer) (m new : Machine) (l : Ledger) → StandsFor set n m l → log_of (m.states k) ≡ None → FlushesLogs failed numbers answers m new → HasPoint k c answers → ⊥
  idle_no failed [] answers m new l s idle t told = subst (HasPoint k c) t.0 told
  idle_no failed (i ∷ numbers) answers m new l s idle (mid, now, rest, parts, one, more) told = elim (tells_append k c now rest (subst (HasPoint k c) parts told)) [
    | inl here ↦ at_once one here
    | inr there ↦ idle_no failed numbers rest mid new (heard_all false now l) stands_mid (after one) more there
  ]
    where
      stands_mid : StandsFor set n mid (heard_all false now l)
      stands_mid = stands_of_fits set n mid (heard_all false now l) (flushed_together (Unit {0}) set n m l (fits_of_stands set n m l s) failed i now mid one)

      at_once : FlushesLog failed i now m mid → HasPoint k c now → ⊥
      at_once (inr fails) here = last_no k fails.writer c now (refused_last fails.writer now fails.told) here
      at_once (inl commits) here = elim (subst (HasPoint k c) commits.told here) [
        | inl x ↦ let o = s.sound.owns i commits.writer commits.owned in let a : log_of (m.states commits.writer) ≡ None = subst (λ j. log_of (m.states j) ≡ None) (sym x.0) idle in cc
        | inr x ↦ x
      ]

      after : FlushesLog failed i now m mid → log_of (mid.states k) ≡ None
      after (inl commits) = ap (λ (x : Machine). log_of (x.states k)) commits.now ∙ idle
      after (inr fails) = ap (λ (x : Machine). log_of (x.states k)) fails.now ∙ (elim (same_or k fails.writer) [ alike a t ↦ rw t refl | apart a t ↦ rw t idle ])

  flushes_told : (failed : List Owner) (numbers : List ℕ) (answers : List Answer) (m new : Machine) (l : Ledger) → StandsFor set n m l → FlushesLogs failed numbers answers m new → HasPoint k c answers
      → log_of (m.states k) ≡ Some n → Acknowledged numbers l (heard_all false answers l)
  flushes_told failed [] answers m new l s t told its = absurd (subst (HasPoint k c) t.0 told)
  flushes_told failed (i ∷ numbers) answers m new l s (mid, now, rest, parts, one, more) told its = elim (tells_append k c now rest (subst (HasPoint k c) parts told)) [
    | inl here ↦ at_once one here
    | inr there ↦ later one there (λ at. flushes_told failed numbers rest mid new (heard_all false now l) stands_mid more there at)
  ]
    where
      stands_mid : StandsFor set n mid (heard_all false now l)
      stands_mid = stands_of_fits set n mid (heard_all false now l) (flushed_together (Unit {0}) set n m l (fits_of_stands set n m l s) failed i now mid one)

      splits : heard_all false answers l ≡ heard_all false rest (heard_all false now l)
      splits = ap (λ (x : List Answer). heard_all false x l) parts ∙ heard_append false now rest l

      at_once : FlushesLog failed i now m mid → HasPoint k c now → Acknowledged (i ∷ numbers) l (heard_all false answers l)
      at_once (inr fails) here = absurd (last_no k fails.writer c now (refused_last fails.writer now fails.told) here)
      at_once (inl commits) here =
          let (same_log, point, promises) = commit_told failed i now m mid l s its commits here in
          record {
            waited = elim (eq_or n i) [ equal p t ↦ rw t refl | unequal p t ↦ absurd (p (sym same_log)) ];
            point = point;
            promises = λ f at. subst (λ (x : Ledger). PromisesAtLeast x f) (sym splits) (all_promises rest (heard_all false now l) f (promises f at));
          }

      -- the writer of n isn't that of another log
      kept : FlushesLog failed i now m mid → (log_of (mid.states k) ≡ Some n) ⊎ (HasPoint k c rest → ⊥)
      kept (inl commits) = inl (ap (λ (x : Machine). log_of (x.states k)) commits.now ∙ its)
      kept (inr fails) = elim (same_or k fails.writer) [
        | apart p t ↦ inl (ap (λ (x : Machine). log_of (x.states k)) fails.now ∙ rw t its)
        | alike p t ↦ inr (dead_silent p)
      ]
        where
          dead_silent : k ≡ fails.writer → HasPoint k c rest → ⊥
          dead_silent p = idle_no failed numbers rest mid new (heard_all false now l) stands_mid (ap (λ (x : Machine). log_of (x.states k)) fails.now ∙ gone p) more
            where
              gone : k ≡ fails.writer → log_of ((leaves fails.writer Dead (with_log i fails.log m)).states k) ≡ None
              gone q = elim (same_or k fails.writer) [ alike a t ↦ rw t refl | apart a t ↦ absurd (a q) ]

      later : FlushesLog failed i now m mid → HasPoint k c rest → (log_of (mid.states k) ≡ Some n → Acknowledged numbers (heard_all false now l) (heard_all false rest (heard_all false now l))) → Acknowledged (i ∷ numbers) l (heard_all false answers l)
      later o there again = elim (kept o) [
        | inr no_ ↦ absurd (no_ there)
        | inl still_its ↦
            let less = all_less false now l in
            let a = again still_its in
            record {
              waited = right (n == i) (among n numbers) a.waited;
              point = a.point ∙ ap elapsed less.shown;
              promises = λ f at. subst (λ (x : Ledger). PromisesAtLeast x f) (sym splits) (a.promises f (ap (λ (x : List Record). first x c) less.shown ∙ at));
            }
      ]
        where
          right : (a b : Bool) → b ≡ true → (a || b) ≡ true
          right true b e = refl
          right false b e = e

  -- ---- The end of a turn

  -- who is refused is dead; what anybody else is doing stays, and no more logs wait
  pub record Refused (m new : Machine) (answers : List Answer) : Type 0 where
    pub state : (new.states k ≡ m.states k) ⊎ (new.states k ≡ Dead)
    pub grows : Grows m new
    pub no_commit : HasPoint k c answers → ⊥

  refuses_all : (failed : List Owner) (conns : List ConnId) (answers : List Answer) (m new : Machine) → RefusesAll failed conns answers m new → Refused m new answers
  refuses_all failed [] answers m new t = record {
    state = inl (ap (λ (x : Machine). x.states k) t.1);
    grows = grows_like m new (ap (λ (x : Machine). x.waiting) t.1) (ap (λ (x : Machine). x.last) t.1);
    no_commit = λ told. subst (HasPoint k c) t.0 told;
  }
  refuses_all failed (j ∷ conns) answers m new (inl t) = refuses_all failed conns answers m new t.1
  refuses_all failed (j ∷ conns) answers m new (inr (living, (mid, now, rest, parts, one, more))) =
      let r = refuses_all failed conns rest mid new more in
      let still = leaving_still failed (log_of (m.states j)) None m one.left one.log in
      let g : Grows m mid = subst (Grows m) (sym one.now) (leaves_grows j Dead m one.left (leaving_grows j m failed (log_of (m.states j)) None one.left one.log)) in
      let at : (mid.states k ≡ m.states k) ⊎ (mid.states k ≡ Dead) = elim (same_or k j) [
        | alike p u ↦ inr (ap (λ (x : Machine). x.states k) one.now ∙ rw u refl)
        | apart p u ↦ inl (ap (λ (x : Machine). x.states k) one.now ∙ rw u (ap (λ (f : ConnId → _). f k) still.states))
      ] in
      record {
        state = elim r.state [ inr d ↦ inr d | inl e ↦ (elim at [ inl x ↦ inl (e ∙ x) | inr x ↦ inr (e ∙ x) ]) ];
        grows = grows_then m mid new g r.grows;
        no_commit = λ told. elim (tells_append k c now rest (subst (HasPoint k c) parts told)) [ inl a ↦ last_no k j c now (refused_last j now one.told) a | inr a ↦ r.no_commit a ];
      }

  pub lines_refuse : (failed : List Owner) (answers : List Answer) (m new : Machine) → FlushesLines set failed answers m new → Refused m new answers
  lines_refuse failed answers m new (inl t) = record {
    state = inl (ap (λ (x : Machine). x.states k) t.2);
    grows = grows_like m new (ap (λ (x : Machine). x.waiting) t.2) (ap (λ (x : Machine). x.last) t.2);
    no_commit = λ told. subst (HasPoint k c) t.1 told;
  }
  lines_refuse failed answers m new (inr t) =
      let r = refuses_all failed m.noting answers (with_lines t.wrote m) new t.refuses in
      record { state = r.state; grows = grows_then m (with_lines t.wrote m) new (grows_like m (with_lines t.wrote m) refl refl) r.grows; no_commit = r.no_commit }

  pub tail_told : (m new : Machine) (l : Ledger) (tail : Tail) → StandsFor set n m l → EndOfTurn set m tail new → HasPoint k c tail.answers → log_of (m.states k) ≡ Some n → Acknowledged m.waiting l (noted n l (Tailed tail))
  tail_told m new l tail s t told its =
      let r = lines_refuse tail.failed t.of_lines m t.mid t.lines in
      let stands_mid = stands_of_fits set n t.mid (heard_all false t.of_lines l) (lines_together (Unit {0}) set n tail.failed t.of_lines m t.mid l (fits_of_stands set n m l s) t.lines) in
      let in_logs : HasPoint k c t.of_logs = elim (tells_append k c t.of_lines t.of_logs (subst (HasPoint k c) t.answers told)) [ inl a ↦ absurd (r.no_commit a) | inr a ↦ a ] in
      let less = all_less false t.of_lines l in
      let splits : noted n l (Tailed tail) ≡ heard_all false t.of_logs (heard_all false t.of_lines l) = ap (λ (x : List Answer). heard_all false x l) t.answers ∙ heard_append false t.of_lines t.of_logs l in
      elim r.state [
        | inr d ↦ absurd (idle_no tail.failed t.mid.waiting t.of_logs t.mid t.last (heard_all false t.of_lines l) stands_mid (ap log_of d) t.logs in_logs)
        | inl e ↦
            let a = flushes_told tail.failed t.mid.waiting t.of_logs t.mid t.last (heard_all false t.of_lines l) stands_mid t.logs in_logs (ap log_of e ∙ its) in
            record {
              waited = r.grows.waits n a.waited;
              point = a.point ∙ ap elapsed less.shown;
              promises = λ f at. subst (λ (x : Ledger). PromisesAtLeast x f) (sym splits) (a.promises f (ap (λ (x : List Record). first x c) less.shown ∙ at));
            }
      ]

  -- who has no log is told no commit point at the end of a turn
  pub tail_idle : (m new : Machine) (l : Ledger) (tail : Tail) → StandsFor set n m l → EndOfTurn set m tail new → HasPoint k c tail.answers → log_of (m.states k) ≡ None → ⊥
  tail_idle m new l tail s t told none =
      let r = lines_refuse tail.failed t.of_lines m t.mid t.lines in
      let stands_mid = stands_of_fits set n t.mid (heard_all false t.of_lines l) (lines_together (Unit {0}) set n tail.failed t.of_lines m t.mid l (fits_of_stands set n m l s) t.lines) in
      let in_logs : HasPoint k c t.of_logs = elim (tells_append k c t.of_lines t.of_logs (subst (HasPoint k c) t.answers told)) [ inl a ↦ absurd (r.no_commit a) | inr a ↦ a ] in
      elim r.state [
        | inr d ↦ idle_no tail.failed t.mid.waiting t.of_logs t.mid t.last (heard_all false t.of_lines l) stands_mid (ap log_of d) t.logs in_logs
        | inl e ↦ idle_no tail.failed t.mid.waiting t.of_logs t.mid t.last (heard_all false t.of_lines l) stands_mid (ap log_of e ∙ none) t.logs in_logs
      ]
