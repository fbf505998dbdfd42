-- The number that a connection's log gets in a run: at the moment at which it asks for it, the lane's next one.
use Rattle.std.proofs.Common.{◌≡◌, ◌≤◌, ◌<◌, ◌+◌, ◌*◌, ℕ, List, [], ◌∷◌, refl, sym, ◌∙◌, ap, subst, inl, inr, arith, ◌⊎◌}
use Rattle.std.specs.Prelude.{◌==◌, ◌&&◌, Bool, true, false, if◌then◌else◌}
use Rattle.lsv_disk.specs.declared.file.Owner.{Owner}
use Rattle.lsv_disk.specs.declared.file.Owner.TheVariants.{Log, Events}
use Rattle.lsv_session.specs.declared.connection.ConnId.{ConnId}
use Rattle.lsv_machine.specs.Answers.{Answer}
use Rattle.lsv_machine.specs.Failures.{Act, MayDraw, Step}
use Rattle.lsv_machine.specs.History.{request_in}
use Rattle.lsv_machine.specs.Machine.{IsOfLane, Machine, Settings, same}
use Rattle.lsv_machine.specs.Stands.{Sound}
use Rattle.lsv_machine.specs.Turns.{EndOfTurn, FlushesLines, FlushesLog, FlushesLogs, Happened, Happened.Did, Happened.Tailed, Happened.Begins, Run, Tail}
use Rattle.lsv_machine.specs.Work.{next_number}
use Rattle.lsv_machine.proofs.Changing.{drawn_is}
use Rattle.lsv_machine.proofs.Choices.{EqOr.equal, EqOr.unequal, eq_or}
use Rattle.lsv_machine.proofs.Silent.{step_sound, tail_sound}
use Rattle.lsv_machine.proofs.StepLooks.{none_among}
use Rattle.lsv_progress.specs.Among.{IsUndisturbed, MayGet, asked_before, asks_new}
use Rattle.lsv_progress.proofs.Beside.{step_moves}
use Rattle.lsv_progress.proofs.Waiting.{Rising}

-- ---- The next number

pub next_may : (set : Settings) (m : Machine) → MayDraw set m (next_number set m)
next_may set m = record { passed = 0; few = omega arith; next = let zero_is : 0 * set.lanes ≡ 0 = omega arith in omega arith }

pub next_of_lane : (set : Settings) (m : Machine) → Sound set m → IsOfLane set.lane set.lanes (next_number set m)
next_of_lane set m s = (drawn_is set m (next_number set m) s (next_may set m)).0

pub next_above : (set : Settings) (m : Machine) → Sound set m → m.last < next_number set m
next_above set m s = (drawn_is set m (next_number set m) s (next_may set m)).1

-- after a number that was drawn comes the next one
next_again : (set : Settings) (m new : Machine) → Sound set m → new.last ≡ next_number set m → next_number set new ≡ next_number set m + set.lanes
next_again set m new s is = elim (eq_or new.last 0) [
  | equal p t ↦ absurd (let above = next_above set m s in omega arith)
  | unequal p t ↦ rw t (ap (λ (x : ℕ). x + set.lanes) is)
]

pub same_next : (set : Settings) (m new : Machine) → new.last ≡ m.last → next_number set new ≡ next_number set m
same_next set m new is = ap (λ (x : ℕ). if x == 0 then set.lane + 1 else x + set.lanes) is

-- ---- A machine that meets no failure

-- what is sound, where no draw has failed, and the logs that wait rise
pub record Steady (set : Settings) (m : Machine) : Type 0 where
  pub sound : Sound set m
  pub drawn : m.failed_draws ≡ 0
  pub rising : Rising m.waiting

pub step_steady : (set : Settings) (m new : Machine) (act : Act) → act.failed ≡ [] → Steady set m → Step set m act new → Steady set new
step_steady set m new act none s step =
    let moves = step_moves set 0 m new act none s.drawn step in
    record {
      sound = step_sound set m act new s.sound step;
      drawn = elim moves.drawn [ inl x ↦ x.1 ∙ s.drawn | inr x ↦ x.2 ];
      rising = moves.rising s.rising;
    }

-- what stays the same in the end of a turn in which nothing failed: all but logs, event lines and what waits
pub record TailKeeps (m new : Machine) : Type 0 where
  pub states : new.states ≡ m.states
  pub owner : new.owner ≡ m.owner
  pub texts : new.texts ≡ m.texts
  pub last : new.last ≡ m.last
  pub draws : new.failed_draws ≡ m.failed_draws

keeps_on : (a b c : Machine) → TailKeeps a b → TailKeeps b c → TailKeeps a c
keeps_on a b c x y = record { states = y.states ∙ x.states; owner = y.owner ∙ x.owner; texts = y.texts ∙ x.texts; last = y.last ∙ x.last; draws = y.draws ∙ x.draws }

flush_keeps : (failed : List Owner) (n : ℕ) (answers : List Answer) (m new : Machine) → failed ≡ [] → FlushesLog failed n answers m new → TailKeeps m new
flush_keeps failed n answers m new none (inl t) = record {
  states = ap (λ (x : Machine). x.states) t.now;
  owner = ap (λ (x : Machine). x.owner) t.now;
  texts = ap (λ (x : Machine). x.texts) t.now;
  last = ap (λ (x : Machine). x.last) t.now;
  draws = ap (λ (x : Machine). x.failed_draws) t.now;
}
flush_keeps failed n answers m new none (inr t) = absurd (none_among (Log n) failed none t.did)

pub flushes_keep : (failed : List Owner) (numbers : List ℕ) (answers : List Answer) (m new : Machine) → failed ≡ [] → FlushesLogs failed numbers answers m new → TailKeeps m new
flushes_keep failed [] answers m new none t = record {
  states = ap (λ (x : Machine). x.states) t.1;
  owner = ap (λ (x : Machine). x.owner) t.1;
  texts = ap (λ (x : Machine). x.texts) t.1;
  last = ap (λ (x : Machine). x.last) t.1;
  draws = ap (λ (x : Machine). x.failed_draws) t.1;
}
flushes_keep failed (n ∷ numbers) answers m new none (mid, its, rest, parts, one, more) = keeps_on m mid new (flush_keeps failed n its m mid none one) (flushes_keep failed numbers rest mid new none more)

lines_keep : (set : Settings) (failed : List Owner) (answers : List Answer) (m new : Machine) → failed ≡ [] → FlushesLines set failed answers m new → TailKeeps m new
lines_keep set failed answers m new none (inl t) = record {
  states = ap (λ (x : Machine). x.states) t.2;
  owner = ap (λ (x : Machine). x.owner) t.2;
  texts = ap (λ (x : Machine). x.texts) t.2;
  last = ap (λ (x : Machine). x.last) t.2;
  draws = ap (λ (x : Machine). x.failed_draws) t.2;
}
lines_keep set failed answers m new none (inr t) = absurd (none_among (Events set.lane) failed none t.did)

pub tail_keeps : (set : Settings) (m new : Machine) (tail : Tail) → tail.failed ≡ [] → EndOfTurn set m tail new → TailKeeps m new
tail_keeps set m new tail none t =
    let a = lines_keep set tail.failed t.of_lines m t.mid none t.lines in
    let b = flushes_keep tail.failed t.mid.waiting t.of_logs t.mid t.last none t.logs in
    let c : TailKeeps t.last new = record {
      states = ap (λ (x : Machine). x.states) t.now;
      owner = ap (λ (x : Machine). x.owner) t.now;
      texts = ap (λ (x : Machine). x.texts) t.now;
      last = ap (λ (x : Machine). x.last) t.now;
      draws = ap (λ (x : Machine). x.failed_draws) t.now;
    } in
    keeps_on m t.mid new a (keeps_on t.mid t.last new b c)

pub tail_steady : (set : Settings) (m new : Machine) (tail : Tail) → tail.failed ≡ [] → Steady set m → EndOfTurn set m tail new → Steady set new
tail_steady set m new tail none s t = record {
  sound = tail_sound set m tail new s.sound t;
  drawn = (tail_keeps set m new tail none t).draws ∙ s.drawn;
  rising = subst Rising (sym (ap (λ (x : Machine). x.waiting) t.now)) tt;
}

-- ---- The machine at the moment at which a connection asks for a log

module _ (set : Settings) (k : ConnId) where
  -- the machine at the first job by which the connection asks for a log; at the end of the run, if none does
  abbrev pub opens_at : (history : List Happened) (m end : Machine) → Run set m history end → Machine
  opens_at [] m end run = m
  opens_at (Did act ∷ history) m end (mid, step, run) = if same act.job.conn k && asks_new (request_in act.job.body) then m else opens_at history mid end run
  opens_at (Tailed tail ∷ history) m end (mid, ended, run) = opens_at history mid end run
  opens_at (Begins texts ∷ history) m end run = m

  -- what is known of that machine, from an earlier one on
  pub record Opening (m : Machine) (asked : ℕ) (at : Machine) : Type 0 where
    pub sound : Sound set at
    pub later : m.last ≤ at.last
    pub number : MayGet set m asked (next_number set at)

  opening_now : (m : Machine) (asked : ℕ) → Sound set m → Opening m asked m
  opening_now m asked s = record {
    sound = s;
    later = omega arith;
    number = record { passed = 0; few = omega arith; is = let zero_is : 0 * set.lanes ≡ 0 = omega arith in omega arith };
  }

  -- where no number was drawn
  opening_same : (m mid : Machine) (asked more : ℕ) (at : Machine) → asked ≤ more → mid.last ≡ m.last → Opening mid asked at → Opening m more at
  opening_same m mid asked more at le is o =
      let number = o.number in
      let few = number.few in
      let next = same_next set m mid is in
      record {
        sound = o.sound;
        later = let later = o.later in omega arith;
        number = record { passed = number.passed; few = omega arith; is = number.is ∙ ap (λ (x : ℕ). x + number.passed * set.lanes) next };
      }

  -- where another drew one
  opening_drawn : (m mid : Machine) (asked : ℕ) (at : Machine) → Sound set m → mid.last ≡ next_number set m → Opening mid asked at → Opening m (1 + asked) at
  opening_drawn m mid asked at s is o =
      let number = o.number in
      let few = number.few in
      let next = next_again set m mid s is in
      let above = next_above set m s in
      record {
        sound = o.sound;
        later = let later = o.later in omega arith;
        number = record {
          passed = number.passed + 1;
          few = omega arith;
          is = number.is ∙ (ap (λ (x : ℕ). x + number.passed * set.lanes) next ∙ regroup (next_number set m) set.lanes number.passed);
        };
      }
    where
      regroup : (a l p : ℕ) → (a + l) + p * l ≡ a + (p + 1) * l
      regroup a l p = grind arith

  pub opening : (history : List Happened) (m end : Machine) (run : Run set m history end) → IsUndisturbed k history → Steady set m → Opening m (asked_before k history) (opens_at history m end run)
  opening [] m end run calm s = opening_now m 0 s.sound
  opening (Did act ∷ history) m end (mid, step, run) calm s =
      go (same act.job.conn k) refl (asks_new (request_in act.job.body)) refl (step_moves set 0 m mid act calm.0 s.drawn step).drawn (opening history mid end run calm.2 (step_steady set m mid act calm.0 s step))
    where
      go : (a : Bool) → same act.job.conn k ≡ a → (b : Bool) → asks_new (request_in act.job.body) ≡ b
          → ((mid.last ≡ m.last) × (mid.failed_draws ≡ m.failed_draws)) ⊎ ((asks_new (request_in act.job.body) ≡ true) × (mid.last ≡ next_number set m) × (mid.failed_draws ≡ 0))
          → Opening mid (asked_before k history) (opens_at history mid end run)
          → Opening m (asked_before k (Did act ∷ history)) (if same act.job.conn k && asks_new (request_in act.job.body) then m else opens_at history mid end run)
      go true e true f drawn rest = rw (e, f) (opening_now m 0 s.sound)
      go true e false f (inl x) rest = rw (e, f) (opening_same m mid (asked_before k history) (asked_before k history) (opens_at history mid end run) (omega arith) x.0 rest)
      go true e false f (inr x) rest = absurd (let h : true ≡ false = sym x.0 ∙ f in cc)
      go false e true f (inl x) rest = rw (e, f) (opening_same m mid (asked_before k history) (1 + asked_before k history) (opens_at history mid end run) (omega arith) x.0 rest)
      go false e true f (inr x) rest = rw (e, f) (opening_drawn m mid (asked_before k history) (opens_at history mid end run) s.sound x.1 rest)
      go false e false f (inl x) rest = rw (e, f) (opening_same m mid (asked_before k history) (asked_before k history) (opens_at history mid end run) (omega arith) x.0 rest)
      go false e false f (inr x) rest = absurd (let h : true ≡ false = sym x.0 ∙ f in cc)
  opening (Tailed tail ∷ history) m end (mid, ended, run) calm s =
      opening_same m mid (asked_before k history) (asked_before k history) (opens_at history mid end run) (omega arith) (tail_keeps set m mid tail calm.0 ended).last
      (opening history mid end run calm.1 (tail_steady set m mid tail calm.0 s ended))
  opening (Begins texts ∷ history) m end run calm s = absurd run
