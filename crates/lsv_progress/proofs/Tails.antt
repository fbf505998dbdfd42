-- Ends of turns in which nothing failed: what they tell one connection, and the same of the connection alone.
use Rattle.std.proofs.Common.{◌≡◌, ◌≢◌, ℕ, List, [], ◌∷◌, ◌++◌, refl, sym, ◌∙◌, ap, subst, inl, inr, Option, Some, None, ◌⊎◌, append-nil}
use Rattle.std.specs.Prelude.{◌==◌, ◌||◌, Bool, true, false}
use Rattle.lsv_disk.specs.declared.file.Owner.{Owner}
use Rattle.lsv_disk.specs.declared.file.Owner.TheVariants.{Log, Events}
use Rattle.lsv_record.specs.Points.{Stored}
use Rattle.lsv_record.specs.Records.{elapsed}
use Rattle.lsv_session.specs.declared.connection.ConnId.{ConnId}
use Rattle.lsv_session.specs.declared.connection.ConnState.{ConnState}
use Rattle.lsv_machine.specs.Answers.{Answer, Saying.CommitPoint, say}
use Rattle.lsv_machine.specs.Machine.{LogState.There, Machine, Settings, with_log}
use Rattle.lsv_machine.specs.Turns.{Commits, EndOfTurn, FlushesLines, FlushesLog, FlushesLogs, Tail, raised, with_lines}
use Rattle.lsv_machine.proofs.Choices.{EqOr.equal, EqOr.unequal, SameOr.alike, SameOr.apart, eq_or, same_or, same_refl}
use Rattle.lsv_machine.proofs.StepLooks.{none_among}
use Rattle.lsv_progress.specs.Among.{answers_to}
use Rattle.lsv_progress.proofs.Alone.{own_tail, to_append}
use Rattle.lsv_progress.proofs.Numbers.{tail_keeps}
use Rattle.lsv_progress.proofs.Twins.{Mirrors, Unfinished}
use Rattle.lsv_progress.proofs.Waiting.{AllAbove, Rising, above_none, among, only}

-- ---- One log, and others

commits : (failed : List Owner) (i : ℕ) (answers : List Answer) (m new : Machine) → failed ≡ [] → FlushesLog failed i answers m new → Commits failed i answers m new
commits failed i answers m new none (inl c) = c
commits failed i answers m new none (inr t) = absurd (none_among (Log i) failed none t.did)

-- a log of another number is as it was
log_beside : (n i : ℕ) (failed : List Owner) (answers : List Answer) (m new : Machine) → n ≢ i → Commits failed i answers m new → new.logs n ≡ m.logs n
log_beside n i failed answers m new ne c = ap (λ (x : Machine). x.logs n) c.now ∙ (elim (eq_or n i) [ equal p t ↦ absurd (ne p) | unequal p t ↦ rw t refl ])

-- a log that nobody writes is as it was
pub unowned_flush : (n : ℕ) (failed : List Owner) (numbers : List ℕ) (answers : List Answer) (m new : Machine) → failed ≡ [] → m.owner n ≡ None → FlushesLogs failed numbers answers m new → new.logs n ≡ m.logs n
unowned_flush n failed [] answers m new none free t = ap (λ (x : Machine). x.logs n) t.1
unowned_flush n failed (i ∷ numbers) answers m new none free (mid, its, rest, parts, one, more) =
    let c = commits failed i its m mid none one in
    let ne : n ≢ i = λ p. let h : m.owner n ≡ Some c.writer = ap m.owner p ∙ c.owned in let g : None ≡ Some c.writer = sym free ∙ h in cc in
    let free' : mid.owner n ≡ None = ap (λ (x : Machine). x.owner n) c.now ∙ free in
    unowned_flush n failed numbers rest mid new none free' more ∙ log_beside n i failed its m mid ne c

pub unowned_tail : (set : Settings) (n : ℕ) (m new : Machine) (tail : Tail) → tail.failed ≡ [] → m.owner n ≡ None → EndOfTurn set m tail new → new.logs n ≡ m.logs n
unowned_tail set n m new tail none free t =
    let mid : t.mid ≡ with_lines true m = of_lines t.lines in
    let free' : t.mid.owner n ≡ None = ap (λ (x : Machine). x.owner n) mid ∙ free in
    ap (λ (x : Machine). x.logs n) t.now ∙ (unowned_flush n tail.failed t.mid.waiting t.of_logs t.mid t.last none free' t.logs ∙ ap (λ (x : Machine). x.logs n) mid)
  where
    of_lines : FlushesLines set tail.failed t.of_lines m t.mid → t.mid ≡ with_lines true m
    of_lines (inl x) = x.2
    of_lines (inr x) = absurd (none_among (Events set.lane) tail.failed none x.did)

-- event lines are as they were
flushes_lines : (failed : List Owner) (numbers : List ℕ) (answers : List Answer) (m new : Machine) → failed ≡ [] → FlushesLogs failed numbers answers m new → (new.lines ≡ m.lines) × (new.fresh ≡ m.fresh)
flushes_lines failed [] answers m new none t = (ap (λ (x : Machine). x.lines) t.1, ap (λ (x : Machine). x.fresh) t.1)
flushes_lines failed (i ∷ numbers) answers m new none (mid, its, rest, parts, one, more) =
    let c = commits failed i its m mid none one in
    let (a, b) = flushes_lines failed numbers rest mid new none more in
    (a ∙ ap (λ (x : Machine). x.lines) c.now, b ∙ ap (λ (x : Machine). x.fresh) c.now)

-- ---- What a connection hears

module _ (n : ℕ) (k : ConnId) where
  -- the connection writes no other log than n
  abbrev pub WritesOnly : Machine → Type 0
  WritesOnly m = (i : ℕ) → m.owner i ≡ Some k → i ≡ n

  -- log n had its commit point, if it waited; of the others the connection hears nothing
  data Flushed (waited : Bool) (answers : List Answer) (m new : Machine) : Type 0 where
    untold : waited ≡ false → answers_to k answers ≡ [] → new.logs n ≡ m.logs n → Flushed waited answers m new
    told : waited ≡ true → (writer : ConnId) → m.owner n ≡ Some writer → (stored : Stored) (promised : ℕ) → m.logs n ≡ There stored promised
        → answers_to k answers ≡ answers_to k (say writer (CommitPoint (elapsed stored.records)) ∷ []) → new.logs n ≡ There stored (raised promised stored.records (elapsed stored.records)) → Flushed waited answers m new

  -- what is told of a log of another is told to another
  other_told : (i : ℕ) (failed : List Owner) (answers : List Answer) (m new : Machine) → n ≢ i → WritesOnly m → Commits failed i answers m new → answers_to k answers ≡ []
  other_told i failed answers m new ne writes c = elim (same_or c.writer k) [
    | alike p t ↦ absurd (ne (sym (writes i (c.owned ∙ ap Some p))))
    | apart p t ↦ let told = c.told in rw (told, t) refl
  ]

  flushed : (failed : List Owner) (numbers : List ℕ) (answers : List Answer) (m new : Machine) → failed ≡ [] → Rising numbers → WritesOnly m → FlushesLogs failed numbers answers m new → Flushed (among n numbers) answers m new
  flushed failed [] answers m new none rising writes t = untold refl (ap (answers_to k) t.0) (ap (λ (x : Machine). x.logs n) t.1)
  flushed failed (i ∷ numbers) answers m new none rising writes (mid, its, rest, parts, one, more) =
      let c = commits failed i its m mid none one in
      let owner : mid.owner ≡ m.owner = ap (λ (x : Machine). x.owner) c.now in
      go c owner (flushed failed numbers rest mid new none rising.1 (λ j e. writes j (ap (λ (f : ℕ → Option ConnId). f j) (sym owner) ∙ e)) more)
    where
      both : answers_to k answers ≡ answers_to k its ++ answers_to k rest
      both = ap (answers_to k) parts ∙ to_append k its rest

      go : (c : Commits failed i its m mid) → mid.owner ≡ m.owner → Flushed (among n numbers) rest mid new → Flushed ((n == i) || among n numbers) answers m new
      go c owner later = elim (eq_or n i) [
        | equal p t ↦ first c p t later
        | unequal p t ↦ beside c owner p t later
      ]
        where
          first : Commits failed i its m mid → n ≡ i → (n == i) ≡ true → Flushed (among n numbers) rest mid new → Flushed ((n == i) || among n numbers) answers m new
          first c p t (told w writer o stored promised at heard log) = absurd (let h : among n numbers ≡ false = above_none n numbers (subst (λ (x : ℕ). AllAbove x numbers) (sym p) rising.0) in cc)
          first c p t (untold w heard log) =
              let at : mid.logs n ≡ There c.stored (raised c.promised c.stored.records (elapsed c.stored.records)) =
              ap (λ (x : Machine). x.logs n) c.now ∙ (rw t refl) in
              told (rw t refl) c.writer (ap m.owner p ∙ c.owned) c.stored c.promised (ap m.logs p ∙ c.was)
              (both ∙ (ap (λ (xs : List Answer). answers_to k its ++ xs) heard ∙ (append-nil (answers_to k its) ∙ ap (answers_to k) c.told)))
              (log ∙ at)

          beside : Commits failed i its m mid → mid.owner ≡ m.owner → n ≢ i → (n == i) ≡ false → Flushed (among n numbers) rest mid new → Flushed ((n == i) || among n numbers) answers m new
          beside c owner p t (untold w heard log) =
              untold (rw t w) (both ∙ (ap (λ (xs : List Answer). xs ++ answers_to k rest) (other_told i failed its m mid p writes c) ∙ heard)) (log ∙ log_beside n i failed its m mid p c)
          beside c owner p t (told w writer o stored promised at heard log) =
              told (rw t w) writer (ap (λ (f : ℕ → Option ConnId). f n) (sym owner) ∙ o) stored promised (sym (log_beside n i failed its m mid p c) ∙ at)
              (both ∙ (ap (λ (xs : List Answer). xs ++ answers_to k rest) (other_told i failed its m mid p writes c) ∙ heard)) log

  -- ---- The same of the connection alone

  module _ (set : Settings) where
    -- a machine in which no log waits
    pub calm_tail : (m' : Machine) (tail : Tail) → answers_to k tail.answers ≡ [] → m'.waiting ≡ [] → EndOfTurn set m' (own_tail k tail) (record (with_lines true m') { waiting = [] })
    calm_tail m' tail hush calm = record {
      mid = with_lines true m';
      last = with_lines true m';
      of_lines = [];
      of_logs = [];
      answers = hush;
      lines = inl (none_among (Events set.lane) [] refl, refl, refl);
      logs = subst (λ (xs : List ℕ). FlushesLogs [] xs [] (with_lines true m') (with_lines true m')) (sym calm) (refl, refl);
      now = refl;
    }

    -- the end of a turn for the connection alone, and how the machines stand after it
    pub record Ended (m m' new : Machine) (tail : Tail) : Type 0 where
      pub new' : Machine
      pub ended : EndOfTurn set m' (own_tail k tail) new'
      pub mirrors : Mirrors n k new new'
      pub unfinished : Unfinished (new'.logs n)
      pub empty : new'.waiting ≡ []
      pub lines : new.lines ≡ m.lines ++ m.fresh
      pub fresh : new.fresh ≡ []
      pub lines' : new'.lines ≡ m'.lines ++ m'.fresh
      pub fresh' : new'.fresh ≡ []
      pub last' : new'.last ≡ m'.last
      pub draws' : new'.failed_draws ≡ m'.failed_draws

    module _ (m m' new : Machine) (tail : Tail) (none : tail.failed ≡ []) (t : EndOfTurn set m tail new) (rising : Rising m.waiting) (writes : WritesOnly m) (owned : (m.owner n ≡ None) ⊎ (m.owner n ≡ Some k))
        (mirrors : Mirrors n k m m') (unfinished : Unfinished (m'.logs n)) where
      no_lines : FlushesLines set tail.failed t.of_lines m t.mid → (t.of_lines ≡ []) × (t.mid ≡ with_lines true m)
      no_lines (inl x) = (x.1, x.2)
      no_lines (inr x) = absurd (none_among (Events set.lane) tail.failed none x.did)

      hush : t.of_lines ≡ []
      hush = (no_lines t.lines).0

      mid_is : t.mid ≡ with_lines true m
      mid_is = (no_lines t.lines).1

      heard : answers_to k tail.answers ≡ answers_to k t.of_logs
      heard = ap (answers_to k) t.answers ∙ ap (λ (xs : List Answer). answers_to k (xs ++ t.of_logs)) hush

      waiting_is : t.mid.waiting ≡ m.waiting
      waiting_is = ap (λ (x : Machine). x.waiting) mid_is

      -- how the two stand, by what became of log n
      standing : (new' : Machine) → EndOfTurn set m' (own_tail k tail) new' → new'.states ≡ m'.states → new'.texts ≡ m'.texts → new'.owner ≡ m'.owner → new'.waiting ≡ [] → new'.lines ≡ m'.lines ++ m'.fresh → new'.fresh ≡ [] → new'.last ≡ m'.last
          → new'.failed_draws ≡ m'.failed_draws → new'.logs n ≡ new.logs n → Unfinished (new'.logs n) → Ended m m' new tail
      standing new' ended states texts owner waiting lines fresh last draws log open_log =
          let keeps = tail_keeps set m new tail none t in
          let logs_lines = flushes_lines tail.failed t.mid.waiting t.of_logs t.mid t.last none t.logs in
          record {
            new' = new';
            ended = ended;
            mirrors = record {
              state = ap (λ (f : ConnId → ConnState). f k) states ∙ (mirrors.state ∙ ap (λ (f : ConnId → ConnState). f k) (sym keeps.states));
              texts = texts ∙ (mirrors.texts ∙ sym keeps.texts);
              log = log;
              owner = ap (λ (f : ℕ → Option ConnId). f n) owner ∙ (mirrors.owner ∙ ap (λ (f : ℕ → Option ConnId). f n) (sym keeps.owner));
              waits = waiting ∙ ap (λ (xs : List ℕ). only n (among n xs)) (sym (ap (λ (x : Machine). x.waiting) t.now));
            };
            unfinished = open_log;
            empty = waiting;
            lines = ap (λ (x : Machine). x.lines) t.now ∙ (logs_lines.0 ∙ ap (λ (x : Machine). x.lines) mid_is);
            fresh = ap (λ (x : Machine). x.fresh) t.now ∙ (logs_lines.1 ∙ ap (λ (x : Machine). x.fresh) mid_is);
            lines' = lines;
            fresh' = fresh;
            last' = last;
            draws' = draws;
          }

      pub tail_ended : Ended m m' new tail
      tail_ended =
          let rising' : Rising t.mid.waiting = subst Rising (sym waiting_is) rising in
          let writes' : WritesOnly t.mid = λ i e. writes i (ap (λ (x : Machine). x.owner i) (sym mid_is) ∙ e) in
          go (flushed tail.failed t.mid.waiting t.of_logs t.mid t.last none rising' writes' t.logs)
        where
          log_now : new.logs n ≡ t.last.logs n
          log_now = ap (λ (x : Machine). x.logs n) t.now

          go : Flushed (among n t.mid.waiting) t.of_logs t.mid t.last → Ended m m' new tail
          go (untold w quiet log) =
              let calm : m'.waiting ≡ [] = mirrors.waits ∙ (ap (λ (xs : List ℕ). only n (among n xs)) (sym waiting_is) ∙ ap (only n) w) in
              let log' : m'.logs n ≡ new.logs n = mirrors.log ∙ sym (log_now ∙ (log ∙ ap (λ (x : Machine). x.logs n) mid_is)) in
              standing (record (with_lines true m') { waiting = [] }) (calm_tail m' tail (heard ∙ quiet) calm) refl refl refl refl refl refl refl refl log' unfinished
          go (told w writer o stored promised at point log) =
              let at_m : m.logs n ≡ There stored promised = ap (λ (x : Machine). x.logs n) (sym mid_is) ∙ at in
              let o_m : m.owner n ≡ Some writer = ap (λ (x : Machine). x.owner n) (sym mid_is) ∙ o in
              let writer_is : writer ≡ k = its_writer o_m owned in
              let own_m : m.owner n ≡ Some k = o_m ∙ ap Some writer_is in
              let waits' : m'.waiting ≡ n ∷ [] = mirrors.waits ∙ (ap (λ (xs : List ℕ). only n (among n xs)) (sym waiting_is) ∙ ap (only n) w) in
              let says : answers_to k tail.answers ≡ say k (CommitPoint (elapsed stored.records)) ∷ [] =
              heard ∙ (point ∙ (ap (λ (j : ConnId). answers_to k (say j (CommitPoint (elapsed stored.records)) ∷ [])) writer_is ∙ (let it = same_refl k in rw it refl))) in
              let one : Commits [] n (say k (CommitPoint (elapsed stored.records)) ∷ []) (with_lines true m') (with_log n (There stored (raised promised stored.records (elapsed stored.records))) (with_lines true m')) = record {
                writer = k;
                owned = mirrors.owner ∙ own_m;
                stored = stored;
                promised = promised;
                was = mirrors.log ∙ at_m;
                sound = none_among (Log n) [] refl;
                told = refl;
                now = refl;
              } in
              let all : FlushesLogs [] (n ∷ []) (say k (CommitPoint (elapsed stored.records)) ∷ []) (with_lines true m') (with_log n (There stored (raised promised stored.records (elapsed stored.records))) (with_lines true m')) = (
                with_log n (There stored (raised promised stored.records (elapsed stored.records))) (with_lines true m'),
                say k (CommitPoint (elapsed stored.records)) ∷ [],
                [],
                refl,
                inl one,
                (refl, refl),
              ) in
              let ended : EndOfTurn set m' (own_tail k tail) (record (with_log n (There stored (raised promised stored.records (elapsed stored.records))) (with_lines true m')) { waiting = [] }) = record {
                mid = with_lines true m';
                last = with_log n (There stored (raised promised stored.records (elapsed stored.records))) (with_lines true m');
                of_lines = [];
                of_logs = say k (CommitPoint (elapsed stored.records)) ∷ [];
                answers = says;
                lines = inl (none_among (Events set.lane) [] refl, refl, refl);
                logs = subst (λ (xs : List ℕ). FlushesLogs [] xs (say k (CommitPoint (elapsed stored.records)) ∷ []) (with_lines true m') (with_log n (There stored (raised promised stored.records (elapsed stored.records))) (with_lines true m'))) (sym waits') all;
                now = refl;
              } in
              let its : (with_log n (There stored (raised promised stored.records (elapsed stored.records))) (with_lines true m')).logs n ≡ There stored (raised promised stored.records (elapsed stored.records)) = itself in
              let open_log : stored.exit ≡ None = let h : Unfinished (There stored promised) = subst Unfinished (mirrors.log ∙ at_m) unfinished in h in
              standing (record (with_log n (There stored (raised promised stored.records (elapsed stored.records))) (with_lines true m')) { waiting = [] }) ended refl refl refl refl refl refl refl refl
              (its ∙ sym (log_now ∙ log)) (subst Unfinished (sym its) open_log)
            where
              its_writer : m.owner n ≡ Some writer → (m.owner n ≡ None) ⊎ (m.owner n ≡ Some k) → writer ≡ k
              its_writer a (inl b) = absurd (let h : None ≡ Some writer = sym b ∙ a in cc)
              its_writer a (inr b) = let h : Some writer ≡ Some k = sym a ∙ b in cc

              itself : (with_log n (There stored (raised promised stored.records (elapsed stored.records))) (with_lines true m')).logs n ≡ There stored (raised promised stored.records (elapsed stored.records))
              itself = elim (eq_or n n) [ equal p q ↦ rw q refl | unequal p q ↦ absurd (p refl) ]
