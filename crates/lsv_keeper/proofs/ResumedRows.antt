-- The row of a restart that is accepted.
use Rattle.std.proofs.Common.{◌≡◌, ◌≤◌, ◌<◌, ℕ, List, [], ◌∷◌, length, take, append-nil, Option, Some, None, refl, sym, ◌∙◌, ap, subst, inr, arith}
use Rattle.std.specs.Prelude.{◌==◌, false, if◌then◌else◌}
use Rattle.std.proofs.lemmas.Grind.{common_steps}
use Rattle.lsv_base.specs.declared.time.TimeSpec.{TimeSpec}
use Rattle.lsv_disk.specs.View.{DiskView, Image, IsCrashImage}
use Rattle.lsv_disk.specs.declared.file.Owner.TheVariants as owners
use Rattle.lsv_iolog.specs.Later.{cut_log}
use Rattle.lsv_iolog.specs.Recovered.{IsOfLog, Replays}
use Rattle.lsv_iolog.specs.Value.{all_of, bare, flushed}
use Rattle.lsv_iolog.proofs.Representing.{every_image}
use Rattle.lsv_record.specs.Points.{Stored, first}
use Rattle.lsv_record.specs.declared.records.Record.{Record}
use Rattle.lsv_record.proofs.Points.{first_some}
use Rattle.lsv_request.specs.declared.request.Restart.{Restart}
use Rattle.lsv_session.specs.Table.{Sessions}
use Rattle.lsv_session.specs.declared.connection.ConnId.{ConnId}
use Rattle.lsv_session.specs.declared.connection.ConnState.TheVariants.{Running}
use Rattle.lsv_session.specs.declared.job.Job.{Job}
use Rattle.lsv_machine.specs.Durable.{GoodLog}
use Rattle.lsv_machine.specs.Failures.{Act, Step}
use Rattle.lsv_machine.specs.History.{Ledger, noted, resumed_by}
use Rattle.lsv_machine.specs.Machine.{IsOfLane, LogState.There, Machine, same}
use Rattle.lsv_machine.specs.Stands.{StandsFor}
use Rattle.lsv_machine.specs.Turns.{Happened.Did}
use Rattle.lsv_machine.specs.Work.{next_number}
use Rattle.lsv_machine.proofs.Changing.{there_not_above}
use Rattle.lsv_machine.proofs.Choices.{EqOr.equal, EqOr.unequal, SomeOr.just, SomeOr.nothing, eq_or, some_or}
use Rattle.lsv_machine.proofs.Silent.{step_sound}
use Rattle.lsv_keeper.specs.Represents.{AllOwned, Held, Masks, Represents}
use Rattle.lsv_keeper.specs.Resuming.{IsResumed}
use Rattle.lsv_keeper.specs.Rows.{Beside, RowIs}
use Rattle.lsv_keeper.specs.Value.{IsReserved, Keeps, KeeperView, Owns, sessions_of, settings_of}
use Rattle.lsv_keeper.specs.declared.logs.OpenLog.{OpenLog}
use Rattle.lsv_keeper.proofs.Acting.{OwnKeeps, acted, about_some}
use Rattle.lsv_keeper.proofs.Counting.{NoneFell, counts_did, rose_none}
use Rattle.lsv_keeper.proofs.Frames.{Laws, log_apart}
use Rattle.lsv_keeper.proofs.Numbering.{beside_asked}
use Rattle.lsv_keeper.proofs.Reopening.{IsThere, free_log, keeps_cut, made_of, there_of}
use Rattle.lsv_keeper.proofs.RestartRows.{can, concerns_restart}
use Rattle.lsv_keeper.proofs.Restarting.{AsksRestart, asks_now, at_point, cut_good, cut_is, plainly_resumed, restart_act, resumes_at, silent_noted}
use Rattle.lsv_keeper.proofs.Standing.{events_stay, numbers_stay, represents_one}

-- who owned a log owns it, where one more is owned
still_owned : (k : ConnId) (n : ℕ) (owner : ℕ → Option ConnId) (waiting : List ℕ) → AllOwned owner waiting → AllOwned (λ i. if i == n then Some k else owner i) waiting
still_owned k n owner [] all = tt
still_owned k n owner (i ∷ waiting) (one, all) = (elim (eq_or i n) [ equal p t ↦ (k, rw t refl) | unequal p t ↦ (one.0, rw t one.1) ], still_owned k n owner waiting all)

cut_length : (x : ℕ) (rs : List Record) → x ≤ length rs → x ≤ length (take x rs)
cut_length x rs le = grind (arith, common_steps)

module _ (v v1 v' : KeeperView) (old new : DiskView) (m : Machine) (job : Job) (now : TimeSpec) (restart : Restart) (its : OpenLog)
    (laws : Laws old) (laws' : Laws new) (at : Represents v old m) (res : IsReserved v v1) (a : AsksRestart m job restart) (free : m.owner restart.log ≡ None) (up : NoneFell old new)
    (resumed : IsResumed restart.log restart.point v.texts its old new) (owns : Owns job.conn restart.log its v1 v') (keeps : Keeps v1 v') where
  lane_is : v'.lane ≡ v.lane
  lane_is = keeps.lane ∙ ap (λ (u : KeeperView). u.lane) res.others

  lanes_are : v'.lanes ≡ v.lanes
  lanes_are = keeps.lanes ∙ ap (λ (u : KeeperView). u.lanes) res.others

  numbers_are : v'.numbers ≡ v.numbers
  numbers_are = owns.numbers ∙ ap (λ (u : KeeperView). u.numbers) res.others

  there : IsThere restart.log resumed.stored m
  there = there_of v old m restart.log resumed.stored (free_log v old m restart.log at free) resumed.into.was

  holds_now : (image : Image) → IsCrashImage new image → Replays image restart.log (Some (cut_log resumed.stored restart.point))
  holds_now image is = subst (λ (i : ℕ). Replays image i (Some (cut_log resumed.stored restart.point))) resumed.number (every_image its.log (bare (cut_log resumed.stored restart.point)) new resumed.represents image is)

  held : (x : ℕ) → first resumed.stored.records restart.point ≡ Some x → Held v' new (resumes_at job.conn restart.log x resumed.stored m) restart.log
  held x some = record {
    its = its;
    here = ap (λ f. f restart.log) owns.logs_are ∙ (elim (eq_or restart.log restart.log) [ equal p t ↦ rw t refl | unequal p t ↦ absurd (p refl) ]);
    value = bare (cut_log resumed.stored restart.point);
    represents = resumed.represents;
    number = resumed.number;
    going = resumed.into.going;
    mask = masked;
    promised = x;
    there = elim (eq_or restart.log restart.log) [
      | equal p t ↦ rw t (ap (λ (y : Stored). There y x) (sym (cut_is resumed.stored restart.point x some) ∙ bare_flushed (cut_log resumed.stored restart.point)))
      | unequal p t ↦ absurd (p refl)
    ];
    enough = subst (λ (y : Stored). x ≤ length y.records) (sym (cut_is resumed.stored restart.point x some)) (cut_length x resumed.stored.records (first_some resumed.stored.records restart.point x some).within);
  }
    where
      bare_flushed : (y : Stored) → y ≡ flushed (bare y)
      bare_flushed y = λ i. record { head = y.head; records = sym (append-nil y.records) i; exit = y.exit; cuts = y.cuts }

      texts_are : v'.texts ≡ v.texts
      texts_are = keeps.texts ∙ ap (λ (u : KeeperView). u.texts) res.others

      masked : Masks v'.texts its.mask (all_of (bare (cut_log resumed.stored restart.point)))
      masked = subst (λ (t : List (List ℕ)). Masks t its.mask (all_of (bare (cut_log resumed.stored restart.point)))) (sym texts_are)
          (subst (λ (rs : List Record). Masks v.texts its.mask rs) (sym (append-nil (cut_log resumed.stored restart.point).records)) resumed.mask)

  stands_now : (x : ℕ) → first resumed.stored.records restart.point ≡ Some x → (act : Act) → Step (settings_of v) m act (resumes_at job.conn restart.log x resumed.stored m)
      → Represents v' new (resumes_at job.conn restart.log x resumed.stored m)
  stands_now x some act step =
      let after = resumes_at job.conn restart.log x resumed.stored m in
      let elsewhere = resumed.into.run.elsewhere in
      represents_one (Some restart.log) v v' old new m after (IsOfLog restart.log) at elsewhere (λ j other. log_apart j restart.log (λ e. other (ap Some (sym e)))) (record {
        lane = lane_is;
        lanes = lanes_are;
        keeps_texts = keeps.texts ∙ ap (λ (u : KeeperView). u.texts) res.others;
        sound = step_sound (settings_of v) m act after at.sound step;
        texts = refl;
        states = λ j. states_at j ∙ ap (λ (s : Sessions). s.states j) (sym owns.sessions_are);
        owner = λ i. owner_at i ∙ ap (λ (s : Sessions). s.owner i) (sym owns.sessions_are);
        waiting = at.waiting ∙ ap (λ (u : KeeperView). u.waiting) (sym res.others) ∙ sym owns.waiting;
        noting = at.noting ∙ ap (λ (u : KeeperView). u.noting) (sym res.others) ∙ sym owns.noting;
        rising = at.rising;
        waits = still_owned job.conn restart.log m.owner m.waiting at.waits;
        others = λ i other. elim (eq_or i restart.log) [
          | equal p t ↦ absurd (other (ap Some (sym p)))
          | unequal p t ↦ (rw t refl, rw t refl, ap (λ f. f i) owns.logs_are ∙ (rw t refl ∙ ap (λ f. f i) res.logs_are))
        ];
        its = elim (eq_or restart.log restart.log) [ equal p t ↦ rw t (held x some) | unequal p t ↦ absurd (p refl) ];
        numbers = rw (lane_is, lanes_are, numbers_are) (numbers_stay v.lane v.lanes v.numbers old new (next_number (settings_of v) m) m.failed_draws (IsOfLog restart.log) elsewhere
            (λ file own mine. let e : owners.Log restart.log ≡ owners.Numbers v.lane = sym mine ∙ own in cc) at.numbers);
        later = omega arith;
        made = λ i e of_lane over.
            let is : restart.log ≡ i = cc in
            absurd (there_not_above (settings_of v) m restart.log resumed.stored there.promised at.sound there.there
            (subst (λ (j : ℕ). IsOfLane v.lane v.lanes j) (sym is) (subst (λ (l : ℕ). IsOfLane l v.lanes i) lane_is (subst (λ (l : ℕ). IsOfLane v'.lane l i) lanes_are of_lane)))
            (let o : m.last < i = over in omega arith));
        events =
            let e : v'.events ≡ v.events = owns.events ∙ ap (λ (u : KeeperView). u.events) res.others in
            rw (lane_is, e) (events_stay v.lane v.events old new m after (IsOfLog restart.log) elsewhere (λ file own mine. let e : owners.Log restart.log ≡ owners.Events v.lane = sym mine ∙ own in cc) refl refl (λ none. none) at.events);
      })
    where
      states_at : (j : ConnId) → (if same j job.conn then Running (Some restart.log) else m.states j) ≡ (if same j job.conn then Running (Some restart.log) else (sessions_of v1).states j)
      states_at j = ap (λ s. if same j job.conn then Running (Some restart.log) else s) (at.states j ∙ ap (λ (s : Sessions). s.states j) (sym res.sessions_are))

      owner_at : (i : ℕ) → (if i == restart.log then Some job.conn else m.owner i) ≡ (if i == restart.log then Some job.conn else (sessions_of v1).owner i)
      owner_at i = ap (λ o. if i == restart.log then Some job.conn else o) (at.owner i ∙ ap (λ (s : Sessions). s.owner i) (sym res.sessions_are))

  pub resumed_row : RowIs v now job [] m v' old new
  resumed_row = elim (some_or (first resumed.stored.records restart.point)) [
    | nothing e ↦ absurd (resumed.into.ends e)
    | just x e ↦ row x e
  ]
    where
      act : Act
      act = restart_act (settings_of v) now m job restart a [] [] false

      its_step : (x : ℕ) → first resumed.stored.records restart.point ≡ Some x → Step (settings_of v) m act (resumes_at job.conn restart.log x resumed.stored m)
      its_step x e = plainly_resumed (settings_of v) now m job restart a (resumes_at job.conn restart.log x resumed.stored m)
          (at_point job.conn restart.log restart.point x m resumed.stored there.promised free there.there resumed.into.going e (can resumed.stored restart.point x e resumed.into.counted))

      open_yet : (l : Ledger) → StandsFor (settings_of v) restart.log m l → l.shut job.conn ≡ false
      open_yet l stands = stands.agrees.shut job.conn ∙ a.living

      short : (x : ℕ) → first resumed.stored.records restart.point ≡ Some x → (l : Ledger) → StandsFor (settings_of v) restart.log m l → GoodLog l (Some resumed.stored)
          → GoodLog (noted restart.log l (Did act)) (Some (cut_log resumed.stored restart.point))
      short x e l stands good =
          subst (λ (y : Ledger). GoodLog y (Some (cut_log resumed.stored restart.point))) (sym (silent_noted m job restart a l act refl refl (open_yet l stands)))
          (subst (λ (y : Stored). GoodLog (resumed_by job.conn restart.point l) (Some y)) (sym (cut_is resumed.stored restart.point x e)) (cut_good l job.conn resumed.stored restart.point x e resumed.into.going good))

      its_keeps : (x : ℕ) → first resumed.stored.records restart.point ≡ Some x → OwnKeeps v restart.log act m old new
      its_keeps x e = keeps_cut v restart.log act m old new restart.point resumed.stored laws resumed.into (short x e)
          (λ l stands good image is. record { found = Some (cut_log resumed.stored restart.point); is = holds_now image is; good = short x e l stands good })

      its_beside : Beside v.lane v.lanes (Some restart.log) old new
      its_beside = beside_asked v m restart.log _ old new laws laws' at (λ of_lane over. absurd (made_of restart.log resumed.stored old laws resumed.into.was (at.unmade restart.log of_lane over))) resumed.into.run up

      row : (x : ℕ) → first resumed.stored.records restart.point ≡ Some x → RowIs v now job [] m v' old new
      row x e = (
        resumes_at job.conn restart.log x resumed.stored m,
        acted v now job (Some restart.log) act m (resumes_at job.conn restart.log x resumed.stored m) old new laws refl refl (its_step x e)
            (counts_did act old new up (rose_none old new) refl)
            (about_some v.lane v.lanes restart.log m act (inr (inr (restart, asks_now m job restart a, refl))))
            (concerns_restart now m job restart a act refl tt (λ i. refl))
            its_beside (its_keeps x e),
        stands_now x e act (its_step x e),
      )
