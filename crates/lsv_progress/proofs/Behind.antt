-- After the exit: nothing comes of the connection any more, and its log stays as it is.
use Rattle.std.proofs.Common.{◌≡◌, ◌≢◌, ◌≤◌, ℕ, List, [], ◌∷◌, refl, sym, ◌∙◌, ap, subst, inl, inr, arith, Option, Some, None, ◌⊎◌}
use Rattle.std.specs.Prelude.{◌&&◌, not, Bool, true, false}
use Rattle.lsv_session.specs.declared.connection.ConnId.{ConnId}
use Rattle.lsv_session.specs.declared.connection.ConnState.{ConnState}
use Rattle.lsv_session.specs.declared.connection.ConnState.TheVariants.{Dead}
use Rattle.lsv_session.specs.declared.job.Body.{Body}
use Rattle.lsv_session.specs.declared.job.Body.TheVariants as body
use Rattle.lsv_machine.specs.Failures.{Act, Plainly, Step}
use Rattle.lsv_machine.specs.History.{is_gone}
use Rattle.lsv_machine.specs.Machine.{LogState, LogState.Absent, LogState.Damaged, LogState.There, Machine, Settings, is_dead, same}
use Rattle.lsv_machine.specs.Silence.{EndsWithGone, NoJobs, NothingTo}
use Rattle.lsv_machine.specs.Turns.{Happened, Happened.Did, Happened.Tailed, Happened.Begins, Run, with_lines}
use Rattle.lsv_machine.specs.Work.{Done, dropped, next_number, plain, silently}
use Rattle.lsv_machine.proofs.Choices.{SameOr.alike, SameOr.apart, same_or}
use Rattle.lsv_machine.proofs.StepLooks.{step_seen}
use Rattle.lsv_progress.specs.Among.{IsHeld, IsHeld.Over, IsLeftAlone, IsUndisturbed, answers_to, speaks}
use Rattle.lsv_progress.proofs.Alone.{Hears, own, to_others}
use Rattle.lsv_progress.proofs.Beside.{step_moves}
use Rattle.lsv_progress.proofs.Numbers.{Steady, next_above, next_may, step_steady, tail_keeps, tail_steady}
use Rattle.lsv_progress.proofs.Tails.{calm_tail, unowned_tail}
use Rattle.lsv_progress.proofs.Twins.{Complete}

module _ (set : Settings) (n : ℕ) (k : ConnId) where
  -- ---- A complete log stays as it is

  pub last_rises : (m mid : Machine) (act : Act) (step : Step set m act mid) → act.failed ≡ [] → Steady set m → m.last ≤ mid.last
  last_rises m mid act step none s = elim (step_moves set 0 m mid act none s.drawn step).drawn [
    | inl x ↦ let e = x.0 in omega arith
    | inr x ↦ let e = x.1 in let above = next_above set m s.sound in omega arith
  ]

  over_now : (m : Machine) (log : LogState) → m.logs n ≡ log → Complete log → m.owner n ≡ None → IsHeld k n m
  over_now m Absent at done free = absurd done
  over_now m Damaged at done free = absurd done
  over_now m (There stored promised) at done free = Over stored promised at done free

  pub stays_complete : (history : List Happened) (m end : Machine) (run : Run set m history end) → IsUndisturbed k history → Steady set m → n ≤ m.last → m.owner n ≡ None → Complete (m.logs n)
      → (end.logs n ≡ m.logs n) × (end.owner n ≡ None) × IsLeftAlone k n set m history end run
  stays_complete [] m end run calm s below free done = (ap (λ (x : Machine). x.logs n) run, ap (λ (x : Machine). x.owner n) run ∙ free, over_now m (m.logs n) refl done free)
  stays_complete (Did act ∷ history) m end (mid, step, run) calm s below free done =
      let moves = step_moves set n m mid act calm.0 s.drawn step in
      let above = next_above set m s.sound in
      let same_log = moves.untouched
      (λ writes. let h : m.owner n ≡ Some act.job.conn = s.sound.owned act.job.conn n writes in let g : None ≡ Some act.job.conn = sym free ∙ h in cc)
      (λ nobody stored promised at. let h : Complete (There stored promised) = subst Complete at done in h)
      (λ p q. let up = above in omega arith) in
      let rises = last_rises m mid act step calm.0 s in
      let rest = stays_complete history mid end run calm.2 (step_steady set m mid act calm.0 s step) (omega arith) (same_log.owner ∙ free) (subst Complete (sym same_log.log) done) in
      (rest.0 ∙ same_log.log, rest.1, (over_now m (m.logs n) refl done free, (λ ne. (same_log.log, same_log.owner)), rest.2))
  stays_complete (Tailed tail ∷ history) m end (mid, ended, run) calm s below free done =
      let keeps = tail_keeps set m mid tail calm.0 ended in
      let log = unowned_tail set n m mid tail calm.0 free ended in
      let last = keeps.last in
      let rest = stays_complete history mid end run calm.1 (tail_steady set m mid tail calm.0 s ended) (omega arith) (ap (λ (f : ℕ → Option ConnId). f n) keeps.owner ∙ free) (subst Complete (sym log) done) in
      (rest.0 ∙ log, rest.1, (over_now m (m.logs n) refl done free, rest.2))
  stays_complete (Begins texts ∷ history) m end run calm s below free done = absurd run

  -- ---- A dead connection alone

  -- the connection is dead up to its Gone, or has no job
  abbrev pub IsOver : Machine → List Happened → Type 0
  IsOver m history = ((m.states k ≡ Dead) × EndsWithGone k history) ⊎ NoJobs k history

  pub record After (m' : Machine) (history : List Happened) : Type 0 where
    pub end' : Machine
    pub run : Run set m' (own k history) end'
    pub hears : Hears k history
    pub log : end'.logs n ≡ m'.logs n

  -- a job of another
  other_after : (m' : Machine) (act : Act) (history : List Happened) → same act.job.conn k ≡ false → answers_to k act.answers ≡ [] → After m' history → After m' (Did act ∷ history)
  other_after m' act history e none a =
      let off : speaks k act ≡ false = rw e refl in
      record {
        end' = a.end';
        run = rw off a.run;
        hears = (rw off none, a.hears);
        log = a.log;
      }

  -- the Gone
  gone_after : (m' : Machine) (act : Act) (history : List Happened) → is_gone act.job.body ≡ true → answers_to k act.answers ≡ [] → After m' history → After m' (Did act ∷ history)
  gone_after m' act history e none a =
      let off : speaks k act ≡ false = silent (same act.job.conn k) (is_gone act.job.body) e in
      record {
        end' = a.end';
        run = rw off a.run;
        hears = (rw off none, a.hears);
        log = a.log;
      }
    where
      silent : (a b : Bool) → b ≡ true → (a && not b) ≡ false
      silent true b e = rw e refl
      silent false b e = refl

  dropped_is : (m : Machine) (conn : ConnId) (b : Body) → is_gone b ≡ false → dropped conn b m ≡ silently m
  dropped_is m conn (body.Msg message) e = refl
  dropped_is m conn (body.Bad fault) e = refl
  dropped_is m conn body.Gone e = absurd (cc)

  pub gone_is : (b : Body) → is_gone b ≡ true → b ≡ body.Gone
  gone_is (body.Msg message) e = absurd (cc)
  gone_is (body.Bad fault) e = absurd (cc)
  gone_is body.Gone e = refl

  plain_dead : (m : Machine) (act : Act) (i : ℕ) → m.states act.job.conn ≡ Dead → is_gone act.job.body ≡ false → plain set act.now act.job i m ≡ silently m
  plain_dead m act i dead stays = let e : is_dead (m.states act.job.conn) ≡ true = ap is_dead dead in rw e (dropped_is m act.job.conn act.job.body stays)

  pub goes_after : (history : List Happened) (m end m' : Machine) → Run set m history end → IsUndisturbed k history → Steady set m → IsOver m history → NothingTo k history → m'.states k ≡ Dead → m'.waiting ≡ [] → After m' history
  goes_after [] m end m' run calm s over nothing dead' empty = record { end' = m'; run = refl; hears = tt; log = refl }
  goes_after (Did act ∷ history) m end m' (mid, step, run) calm s over nothing dead' empty =
      let none = to_others k act.answers nothing.0 in
      let s' = step_steady set m mid act calm.0 s step in
      elim (same_or act.job.conn k) [
        | apart p t ↦ other_after m' act history t none (goes_after history mid end m' run calm.2 s' (others_over p over) nothing.1 dead' empty)
        | alike p t ↦ its p t (is_gone act.job.body) refl over none (λ x. goes_after history mid end m' run calm.2 s' x nothing.1 dead' empty)
      ]
    where
      others_over : act.job.conn ≢ k → IsOver m (Did act ∷ history) → IsOver mid history
      others_over ne (inl x) = inl ((step_seen set m act mid step).leaves_alone.others k (λ p. ne (sym p)) ∙ x.0, x.1.1)
      others_over ne (inr x) = inr x.1

      its : act.job.conn ≡ k → same act.job.conn k ≡ true → (b : Bool) → is_gone act.job.body ≡ b → IsOver m (Did act ∷ history) → answers_to k act.answers ≡ [] → (IsOver mid history → After m' history) → After m' (Did act ∷ history)
      its p t b e (inr x) none rest = absurd (x.0 p)
      its p t true e (inl x) none rest = gone_after m' act history e none (rest (inr (x.1.0 p (gone_is act.job.body e))))
      its p t false e (inl x) none rest = spoke step
        where
          dead : m.states act.job.conn ≡ Dead
          dead = ap m.states p ∙ x.0

          dead_there : m'.states act.job.conn ≡ Dead
          dead_there = ap m'.states p ∙ dead'

          spoke : Step set m act mid → After m' (Did act ∷ history)
          spoke (inr d) = absurd (let a = d.alive in let b : is_dead (m.states act.job.conn) ≡ true = ap is_dead dead in cc)
          spoke (inl q) =
              let does = plain_dead m act q.number dead e in
              let does' = plain_dead m' act (next_number set m') dead_there e in
              let quiet : act.answers ≡ [] = q.answers ∙ ap (λ (d : Done). d.answers) does in
              let now : mid ≡ m = q.now ∙ ap (λ (d : Done). d.machine) does in
              let on : speaks k act ≡ true = rw (t, e) refl in
              let a = rest (inl (ap (λ (y : Machine). y.states k) now ∙ x.0, x.1.1)) in
              let there : Plainly set m' act m' = record {
                number = next_number set m';
                drawn = next_may set m';
                answers = quiet ∙ sym (ap (λ (d : Done). d.answers) does');
                line = q.line ∙ (ap (λ (d : Done). d.line) does ∙ sym (ap (λ (d : Done). d.line) does'));
                sound = q.sound;
                unmarked = q.unmarked;
                now = sym (ap (λ (d : Done). d.machine) does');
              } in
              record {
                end' = a.end';
                run = rw on (m', inl there, a.run);
                hears = (rw on (ap (answers_to k) quiet ∙ sym quiet), a.hears);
                log = a.log;
              }
  goes_after (Tailed tail ∷ history) m end m' (mid, ended, run) calm s over nothing dead' empty =
      let none = to_others k tail.answers nothing.0 in
      let keeps = tail_keeps set m mid tail calm.0 ended in
      let a = goes_after history mid end (record (with_lines true m') { waiting = [] }) run calm.1 (tail_steady set m mid tail calm.0 s ended) (tail_over keeps.states over) nothing.1 dead' refl in
      record {
        end' = a.end';
        run = (record (with_lines true m') { waiting = [] }, calm_tail n k set m' tail none empty, a.run);
        hears = a.hears;
        log = a.log;
      }
    where
      tail_over : mid.states ≡ m.states → IsOver m (Tailed tail ∷ history) → IsOver mid history
      tail_over e (inl x) = inl (ap (λ (f : ConnId → ConnState). f k) e ∙ x.0, x.1)
      tail_over e (inr x) = inr x
  goes_after (Begins texts ∷ history) m end m' run calm s over nothing dead' empty = absurd run
