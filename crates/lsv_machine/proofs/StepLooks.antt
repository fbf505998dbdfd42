-- What any step looks like from outside: to whom its answers go, who is dead then, and what it leaves alone.
use Rattle.std.proofs.Common.{◌≡◌, ◌≢◌, ◌+◌, ℕ, List, [], ◌++◌, refl, sym, ◌∙◌, ap, subst, inl, inr, arith, Option, Some, None, ◌⊎◌}
use Rattle.std.specs.Prelude.{true, false, Result, Err, Contains}
use Rattle.std.specs.List.{list_any}
use Rattle.lsv_disk.specs.declared.file.Owner.{Owner}
use Rattle.lsv_disk.specs.declared.file.Owner.TheVariants.{Log, Events, Numbers, Relay}
use Rattle.lsv_info.specs.Layout.{exit_text, head_text}
use Rattle.lsv_request.specs.declared.refusal.Refusal.{Refusal}
use Rattle.lsv_request.specs.declared.request.Request.{Request}
use Rattle.lsv_request.specs.declared.request.Request.TheVariants as request
use Rattle.lsv_session.specs.declared.connection.ConnId.{ConnId}
use Rattle.lsv_session.specs.declared.connection.ConnState.{ConnState}
use Rattle.lsv_session.specs.declared.connection.ConnState.TheVariants.{Fresh, Dead}
use Rattle.lsv_session.specs.declared.job.Body.{Body}
use Rattle.lsv_session.specs.declared.job.Body.TheVariants as body
use Rattle.lsv_machine.specs.Answers.{Answer, is_refused}
use Rattle.lsv_machine.specs.Failures.{Act, BreaksOff, Breaks, BrokenOff, FailsAt, FailsCut, HasSet, IsRefused, LeavesLog, LetsGo, LogFails, LosesLine, LosesLog, MeetsFault, Step, WantsMemory, exit_in}
use Rattle.lsv_machine.specs.Judgement.{fault_refusal, judged}
use Rattle.lsv_machine.specs.Machine.{LogState, Machine, Settings, is_dead, leaves, let_go, log_of, same, with_log, without_conn}
use Rattle.lsv_machine.specs.Silence.{AllTo, NoFault, ShutsAreDead}
use Rattle.lsv_machine.specs.Work.{Done, dropped, makes, plain}
use Rattle.lsv_machine.proofs.JobFits.{Last, Last.by_refusal, Last.by_shut, refused_last, wants_last}
use Rattle.lsv_machine.proofs.Shapes.{DeadIfShut, Leaves, Shape, Shape.quiet, Shape.told_log, Shape.told_end, Shape.refusing, Shape.shutting, Shape.parting, its_state, plain_looks, state_leaves, without_itself}

-- ---- Answers by their shape

pub shape_to : (k : ConnId) (answers : List Answer) → Shape k answers → AllTo k answers
shape_to k answers (quiet e) = rw e tt
shape_to k answers (told_log n e) = rw e (refl, tt)
shape_to k answers (told_end c e) = rw e (refl, (refl, tt))
shape_to k answers (refusing why ne e) = rw e (refl, (refl, tt))
shape_to k answers (shutting e) = rw e (refl, tt)
shape_to k answers (parting e) = rw e (refl, tt)

shape_clean : (k : ConnId) (answers : List Answer) → Shape k answers → NoFault answers
shape_clean k answers (quiet e) = rw e tt
shape_clean k answers (told_log n e) = rw e ((λ p. cc), tt)
shape_clean k answers (told_end c e) = rw e ((λ p. cc), ((λ p. cc), tt))
shape_clean k answers (refusing why ne e) = rw e ((λ p. ne (cc)), ((λ p. cc), tt))
shape_clean k answers (shutting e) = rw e ((λ p. cc), tt)
shape_clean k answers (parting e) = rw e ((λ p. cc), tt)

shape_dead : (k : ConnId) (d : Done) → Shape k d.answers → DeadIfShut k d → ShutsAreDead d.machine d.answers
shape_dead k d (quiet e) h = rw e tt
shape_dead k d (told_log n e) h = rw e ((λ p q. absurd (cc)), tt)
shape_dead k d (told_end c e) h = let x = h (inr (inr (c, e))) in rw e ((λ p q. x), ((λ p q. x), tt))
shape_dead k d (refusing why ne e) h = let x = h (inr (inl (why, e))) in rw e ((λ p q. x), ((λ p q. x), tt))
shape_dead k d (shutting e) h = let x = h (inl e) in rw e ((λ p q. x), tt)
shape_dead k d (parting e) h = rw e ((λ p q. absurd (cc)), tt)

last_to : (k : ConnId) (answers : List Answer) → Last k answers → AllTo k answers
last_to k answers (by_refusal why e) = rw e (refl, (refl, tt))
last_to k answers (by_shut e) = rw e (refl, tt)

last_dead : (k : ConnId) (m : Machine) (answers : List Answer) → m.states k ≡ Dead → Last k answers → ShutsAreDead m answers
last_dead k m answers x (by_refusal why e) = rw e ((λ p q. x), ((λ p q. x), tt))
last_dead k m answers x (by_shut e) = rw e ((λ p q. x), tt)

-- ---- What the work leaves alone, however far it came

-- connections, who writes which log, and event lines are as they were
pub record Still (m left : Machine) : Type 0 where
  pub states : left.states ≡ m.states
  pub owner : left.owner ≡ m.owner
  pub texts : left.texts ≡ m.texts
  pub lines : left.lines ≡ m.lines
  pub fresh : left.fresh ≡ m.fresh
  pub noting : left.noting ≡ m.noting

still : (m : Machine) → Still m m
still m = record { states = refl; owner = refl; texts = refl; lines = refl; fresh = refl; noting = refl }

still_is : (m a b : Machine) → b ≡ a → Still m a → Still m b
still_is m a b e s = subst (Still m) (sym e) s

still_log : (m : Machine) (n : ℕ) (log : LogState) → Still m (with_log n log m)
still_log m n log = record { states = refl; owner = refl; texts = refl; lines = refl; fresh = refl; noting = refl }

pub leaving_still : (failed : List Owner) (o : Option ℕ) (exit : Option (List ℕ)) (m left : Machine) → LeavesLog failed o exit m left → Still m left
leaving_still failed None exit m left t = still_is m m left t (still m)
leaving_still failed (Some n) None m left t = still_is m (with_log n t.0 m) left t.2 (still_log m n t.0)
leaving_still failed (Some n) (Some exit) m left t = still_is m (with_log n t.0 m) left t.2 (still_log m n t.0)

making_still : (n draws : ℕ) (log : LogState) (m : Machine) → Still m (with_log n log (record m { last = n; failed_draws = draws }))
making_still n draws log m = record { states = refl; owner = refl; texts = refl; lines = refl; fresh = refl; noting = refl }

pub breaking_still : (set : Settings) (failed : List Owner) (s : ConnState) (w : Result Request Refusal) (m left : Machine) → BreaksOff set failed s w m left → Still m left
breaking_still set failed s w m left (inl t) = leaving_still failed (log_of s) (exit_in w) m left t
breaking_still set failed s w m left (inr (inl t)) = still_is m (record m { failed_draws = m.failed_draws + 1 }) left t.1.now (record { states = refl; owner = refl; texts = refl; lines = refl; fresh = refl; noting = refl })
breaking_still set failed s w m left (inr (inr t)) = still_is m (with_log t.number t.log (record m { last = t.number; failed_draws = 0 })) left t.now (making_still t.number 0 t.log m)

setting_still : (o : Option ℕ) (exit : List ℕ) (m left : Machine) → HasSet o exit m left → Still m left
setting_still None exit m left t = still_is m m left t (still m)
setting_still (Some n) exit m left t = still_is m (with_log n t.0 m) left t.2 (still_log m n t.0)

lining_still : (set : Settings) (failed : List Owner) (s : ConnState) (what : Request) (m left : Machine) → LosesLine set failed s what m left → Still m left
lining_still set failed s (request.Accept accept) m left (inl t) = still_is m (makes t.1.number (head_text accept.head) m) left t.1.now (record { states = refl; owner = refl; texts = refl; lines = refl; fresh = refl; noting = refl })
lining_still set failed s (request.Accept accept) m left (inr t) = leaving_still failed (log_of s) None m left t.1
lining_still set failed s (request.Exit exit) m left t = setting_still (log_of s) (exit_text exit) m left t
lining_still set failed s request.Hello m left t = leaving_still failed (log_of s) None m left t
lining_still set failed s (request.Reject report) m left t = leaving_still failed (log_of s) None m left t
lining_still set failed s (request.Alert report) m left t = leaving_still failed (log_of s) None m left t
lining_still set failed s (request.Restart restart) m left t = leaving_still failed (log_of s) None m left t
lining_still set failed s (request.Record r) m left t = leaving_still failed (log_of s) None m left t

failing_still : (set : Settings) (failed : List Owner) (s : ConnState) (what : Request) (n : ℕ) (m left : Machine) → LogFails set failed s what n m left → Still m left
failing_still set failed s (request.Accept accept) n m left t = still_is m (with_log t.0.number t.0.log (record m { last = t.0.number; failed_draws = 0 })) left t.0.now (making_still t.0.number 0 t.0.log m)
failing_still set failed s (request.Restart restart) n m left t = still_is m m left t.2 (still m)
failing_still set failed s (request.Exit exit) n m left t = leaving_still failed (Some n) (Some (exit_text exit)) m left t.1
failing_still set failed s request.Hello n m left t = absurd t
failing_still set failed s (request.Reject report) n m left t = absurd t
failing_still set failed s (request.Alert report) n m left t = absurd t
failing_still set failed s (request.Record r) n m left t = absurd t

pub at_still : (set : Settings) (failed : List Owner) (s : ConnState) (what : Request) (o : Owner) (m left : Machine) → FailsAt set failed s what o m left → Still m left
at_still set failed s what (Numbers lane) m left t = still_is m (record m { failed_draws = m.failed_draws + 1 }) left t.2.now (record { states = refl; owner = refl; texts = refl; lines = refl; fresh = refl; noting = refl })
at_still set failed s what (Events lane) m left t = lining_still set failed s what m left t.2
at_still set failed s what (Log n) m left t = failing_still set failed s what n m left t
at_still set failed s what (Relay n) m left t = absurd t

-- ---- Any step

-- no owner is among none
pub none_among : (o : Owner) (failed : List Owner) → failed ≡ [] → Contains failed o → ⊥
none_among o failed e c = let P : List Owner → Type 0 = λ ys. Contains ys o in let d : Contains [] o = subst P e c in let low = d.1 in omega arith

pub record Seen (m : Machine) (act : Act) (new : Machine) : Type 0 where
  pub to : AllTo act.job.conn act.answers
  pub dead : ShutsAreDead new act.answers
  pub leaves_alone : Leaves act.job.conn m act.line new
  pub clean : act.failed ≡ [] → NoFault act.answers

-- a connection that died with these answers
died_seen : (k : ConnId) (m left new : Machine) (answers : List Answer) → Still m left → new ≡ leaves k Dead left → Last k answers
    → AllTo k answers × ShutsAreDead new answers × Leaves k m [] new
died_seen k m left new answers s e t =
    let d : new.states k ≡ Dead = ap (λ (x : Machine). x.states k) e ∙ its_state k Dead (let_go (log_of (left.states k)) left) in
    let l : Leaves k m [] (leaves k Dead left) = state_leaves k Dead m (let_go (log_of (left.states k)) left) s.states s.texts s.lines s.fresh s.noting in
    (last_to k answers t, last_dead k new answers d t, subst (Leaves k m []) (sym e) l)

module _ (set : Settings) (m : Machine) (act : Act) (new : Machine) where
  of_died : act.line ≡ [] → (act.failed ≡ [] → NoFault act.answers) → AllTo act.job.conn act.answers × ShutsAreDead new act.answers × Leaves act.job.conn m [] new → Seen m act new
  of_died none clean (to, dead, alone) = record { to = to; dead = dead; leaves_alone = subst (λ (t : List ℕ). Leaves act.job.conn m t new) (sym none) alone; clean = clean }

  wants_clean : WantsMemory act.job.conn act.answers → NoFault act.answers
  wants_clean (inl e) = rw e ((λ p. cc), ((λ p. cc), tt))
  wants_clean (inr e) = rw e ((λ p. cc), tt)

  broken_seen : (w : Result Request Refusal) → act.line ≡ [] → BrokenOff set m act w new → Seen m act new
  broken_seen w none t = go t.why
    where
      go : (WantsMemory act.job.conn act.answers × BreaksOff set act.failed (m.states act.job.conn) w m t.left) ⊎ (IsRefused act.job.conn act.answers × MeetsFault set act.failed (m.states act.job.conn) w m t.left) → Seen m act new
      go (inl x) = of_died none (λ e. wants_clean x.0) (died_seen act.job.conn m t.left new act.answers (breaking_still set act.failed (m.states act.job.conn) w m t.left x.1) t.now (wants_last act.job.conn act.answers x.0))
      go (inr x) = of_died none (λ e. absurd (none_among x.1.owner act.failed e x.1.did))
          (died_seen act.job.conn m t.left new act.answers (at_still set act.failed (m.states act.job.conn) x.1.request x.1.owner m t.left x.1.leaves) t.now (refused_last act.job.conn act.answers x.0))

  breaks_seen : (b : Body) → act.line ≡ [] → Breaks set m act b new → Seen m act new
  breaks_seen (body.Msg message) none t = broken_seen (judged (m.states act.job.conn) message) none t
  breaks_seen (body.Bad fault) none t = broken_seen (Err (fault_refusal fault)) none t
  breaks_seen body.Gone none t = absurd t

  cut_seen : act.line ≡ [] → FailsCut set m act new → Seen m act new
  cut_seen none t = of_died none (λ e. absurd (none_among (Log t.restart.log) act.failed e t.did))
      (died_seen act.job.conn m (with_log t.restart.log t.log m) new act.answers (still_log m t.restart.log t.log) t.now (refused_last act.job.conn act.answers t.answers))

  -- the table's refusal, and its farewell, leave no line
  refused_line : is_dead (m.states act.job.conn) ≡ false → (i : ℕ) → act.answers ≡ (plain set act.now act.job i m).answers → LetsGo act → (plain set act.now act.job i m).line ≡ []
  refused_line living i e (inl (why, r)) =
      let look = plain_looks set act.now act.job i m in
      let q : is_refused (plain set act.now act.job i m).answers ≡ true = ap is_refused (sym e ∙ r) in look.refused_none q
  refused_line living i e (inr gone) = rw (living, gone) refl

  loses_seen : is_dead (m.states act.job.conn) ≡ false → act.line ≡ [] → LosesLog set m act new → Seen m act new
  loses_seen living none t =
      let look = plain_looks set act.now act.job t.number m in
      let d = plain set act.now act.job t.number m in
      let line = refused_line living t.number t.answers t.lets_go in
      let shape : Shape act.job.conn act.answers = subst (Shape act.job.conn) (sym t.answers) look.shape in
      let dead : ShutsAreDead (with_log t.log t.left d.machine) d.answers = shape_dead act.job.conn (record { answers = d.answers; line = d.line; machine = with_log t.log t.left d.machine }) look.shape look.dead in
      let alone : Leaves act.job.conn m d.line d.machine = look.leaves_alone in
      record {
        to = shape_to act.job.conn act.answers shape;
        dead = let a = subst (λ x. ShutsAreDead (with_log t.log t.left d.machine) x) (sym t.answers) dead in subst (λ x. ShutsAreDead x act.answers) (sym t.now) a;
        leaves_alone = subst (Leaves act.job.conn m act.line) (sym t.now) (record {
          others = alone.others;
          texts = alone.texts;
          lines = alone.lines;
          fresh = alone.fresh ∙ ap (λ (x : List ℕ). m.fresh ++ x) (line ∙ sym none);
          noting = alone.noting;
        });
        clean = λ e. shape_clean act.job.conn act.answers shape;
      }

  pub step_seen : Step set m act new → Seen m act new
  step_seen (inl p) =
      let look = plain_looks set act.now act.job p.number m in
      let d = plain set act.now act.job p.number m in
      record {
        to = subst (AllTo act.job.conn) (sym p.answers) (shape_to act.job.conn d.answers look.shape);
        dead = let a = subst (λ x. ShutsAreDead d.machine x) (sym p.answers) (shape_dead act.job.conn d look.shape look.dead) in subst (λ x. ShutsAreDead x act.answers) (sym p.now) a;
        leaves_alone = let a = subst (λ (x : List ℕ). Leaves act.job.conn m x d.machine) (sym p.line) look.leaves_alone in subst (Leaves act.job.conn m act.line) (sym p.now) a;
        clean = λ e. subst NoFault (sym p.answers) (shape_clean act.job.conn d.answers look.shape);
      }
  step_seen (inr d) = go d.how
    where
      go : ((act.in_cut ≡ false) × Breaks set m act act.job.body new) ⊎ ((act.in_cut ≡ false) × LosesLog set m act new) ⊎ ((act.in_cut ≡ true) × FailsCut set m act new) → Seen m act new
      go (inl t) = breaks_seen act.job.body d.no_line t.1
      go (inr (inl t)) = loses_seen d.alive d.no_line t.1
      go (inr (inr t)) = cut_seen d.no_line t.1

  -- a dead connection is told nothing, stays dead, and is forgotten by its Gone
  pub dead_told : Step set m act new → m.states act.job.conn ≡ Dead → act.answers ≡ []
  dead_told (inl p) e = p.answers ∙ go act.job.body refl
    where
      go : (b : Body) → act.job.body ≡ b → (plain set act.now act.job p.number m).answers ≡ []
      go (body.Msg message) u = rw (e, u) refl
      go (body.Bad fault) u = rw (e, u) refl
      go body.Gone u = rw (e, u) refl
  dead_told (inr d) e = absurd (let a = d.alive in let b : is_dead (m.states act.job.conn) ≡ true = ap is_dead e in cc)

  pub dead_after : Step set m act new → m.states act.job.conn ≡ Dead
      → ((act.job.body ≢ body.Gone) × (new.states act.job.conn ≡ Dead)) ⊎ ((act.job.body ≡ body.Gone) × (new.states act.job.conn ≡ Fresh) × (list_any (same act.job.conn) new.noting ≡ false))
  dead_after (inr d) e = absurd (let a = d.alive in let b : is_dead (m.states act.job.conn) ≡ true = ap is_dead e in cc)
  dead_after (inl p) e = go act.job.body refl
    where
      now_is : (b : Body) → act.job.body ≡ b → new ≡ (dropped act.job.conn b m).machine
      now_is b u = p.now ∙ rw (e, u) refl

      go : (b : Body) → act.job.body ≡ b
          → ((act.job.body ≢ body.Gone) × (new.states act.job.conn ≡ Dead)) ⊎ ((act.job.body ≡ body.Gone) × (new.states act.job.conn ≡ Fresh) × (list_any (same act.job.conn) new.noting ≡ false))
      go (body.Msg message) u = inl ((λ q. let x : body.Msg message ≡ body.Gone = sym u ∙ q in cc), ap (λ (x : Machine). x.states act.job.conn) (now_is (body.Msg message) u) ∙ e)
      go (body.Bad fault) u = inl ((λ q. let x : body.Bad fault ≡ body.Gone = sym u ∙ q in cc), ap (λ (x : Machine). x.states act.job.conn) (now_is (body.Bad fault) u) ∙ e)
      go body.Gone u = inr (
        u,
        ap (λ (x : Machine). x.states act.job.conn) (now_is body.Gone u) ∙ its_state act.job.conn Fresh (let_go (log_of (m.states act.job.conn)) (record m { noting = without_conn act.job.conn m.noting })),
        ap (λ (x : Machine). list_any (same act.job.conn) x.noting) (now_is body.Gone u) ∙ without_itself act.job.conn m.noting,
      )
