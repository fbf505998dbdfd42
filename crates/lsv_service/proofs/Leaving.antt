-- A legal conversation whose connection goes before its exit: it wasn't shut before. Its turns up to that moment are those of a run in which it never goes.
use Rattle.std.proofs.Common.{◌≡◌, ◌≢◌, ◌≤◌, ◌+◌, ℕ, List, [], ◌∷◌, ◌++◌, length, map, refl, sym, ◌∙◌, ap, subst, inl, inr, arith, append-nil, append_assoc}
use Rattle.std.specs.Prelude.{◌&&◌, ◌||◌, not, Bool, true, false, if◌then◌else◌, All}
use Rattle.std.specs.List.{flat_map, list_any}
use Rattle.std.proofs.lemmas.List.{map-append}
use Rattle.std.proofs.lemmas.List.Elements.{All-cons, All-head, All-nil, All-tail}
use Rattle.std.proofs.lemmas.Grind.{flat_map-append}
use Rattle.lsv_session.specs.declared.connection.ConnId.{ConnId}
use Rattle.lsv_session.specs.declared.connection.ConnState.{ConnState}
use Rattle.lsv_session.specs.declared.connection.ConnState.TheVariants.{Fresh}
use Rattle.lsv_session.specs.declared.job.Body.{Body}
use Rattle.lsv_session.specs.declared.job.Body.TheVariants as body
use Rattle.lsv_machine.specs.Answers.{Answer, Saying, Saying.CommitPoint, Saying.Error, Saying.LogId, Saying.Shut, body_of, reply_of}
use Rattle.lsv_machine.specs.Failures.{Act, Plainly, Step, WantsMemory}
use Rattle.lsv_machine.specs.History.{request_in}
use Rattle.lsv_machine.specs.Legal.{IsLegal, all_answers, all_lines, behind_all, is_shut, lines_in}
use Rattle.lsv_machine.specs.Machine.{Machine, Settings, is_dead, same}
use Rattle.lsv_machine.specs.Recovery.{AtTheirMoments, Turn, all_turns}
use Rattle.lsv_machine.specs.Silence.{EndsWithGone, NoJobs, NoneTo, NothingTo}
use Rattle.lsv_machine.specs.Starts.{StartsAs}
use Rattle.lsv_machine.specs.Stands.{Sound}
use Rattle.lsv_machine.specs.Turns.{Happened, Happened.Begins, Happened.Did, Happened.Tailed, Run, all_acted, turn_of}
use Rattle.lsv_machine.specs.Work.{plain}
use Rattle.lsv_machine.proofs.Choices.{SameOr.alike, SameOr.apart, same_or}
use Rattle.lsv_machine.proofs.OutcomeLemmas.{plainly_or}
use Rattle.lsv_machine.proofs.RunLaws.{run_append, starts_sound}
use Rattle.lsv_machine.proofs.Silent.{none_append, silence, step_sound}
use Rattle.lsv_progress.specs.Among.{FitsAmong, IsUndisturbed, NeverGone, answers_to, asked_before, asks_new, bodies_of, came_of, lines_before, sends, sent_in, speaks}
use Rattle.lsv_progress.proofs.Served.{isnt_shut_among}
use Rattle.lsv_lane.proofs.Farewells.{IsUnknown, gone_unknown}
use Rattle.lsv_turn.specs.Turns as lane_turns
use Rattle.lsv_service.proofs.Written.{AllWritten, Ends, Written, could_end, run_written}

-- ---- Histories in two parts

run_split : (set : Settings) (g h : List Happened) (a c : Machine) → Run set a (g ++ h) c → (b : Machine) × Run set a g b × Run set b h c
run_split set [] h a c r = (a, refl, r)
run_split set (Did act ∷ g) h a c (mid, step, rest) = let (b, r, s) = run_split set g h mid c rest in (b, (mid, step, r), s)
run_split set (Tailed tail ∷ g) h a c (mid, ended, rest) = let (b, r, s) = run_split set g h mid c rest in (b, (mid, ended, r), s)
run_split set (Begins texts ∷ g) h a c r = absurd r

module _ (k : ConnId) where
  never_append : (g h : List Happened) → NeverGone k g → NeverGone k h → NeverGone k (g ++ h)
  never_append [] h p q = q
  never_append (Did act ∷ g) h p q = (p.0, never_append g h p.1 q)
  never_append (Tailed tail ∷ g) h p q = never_append g h p q
  never_append (Begins texts ∷ g) h p q = never_append g h p q

  calm_append : (g h : List Happened) → IsUndisturbed k g → IsUndisturbed k h → IsUndisturbed k (g ++ h)
  calm_append [] h p q = q
  calm_append (Did act ∷ g) h p q = (p.0, p.1, calm_append g h p.2 q)
  calm_append (Tailed tail ∷ g) h p q = (p.0, calm_append g h p.1 q)
  calm_append (Begins texts ∷ g) h p q = calm_append g h p q

  calm_parts : (g h : List Happened) → IsUndisturbed k (g ++ h) → IsUndisturbed k g × IsUndisturbed k h
  calm_parts [] h p = (tt, p)
  calm_parts (Did act ∷ g) h p = let (a, b) = calm_parts g h p.2 in ((p.0, p.1, a), b)
  calm_parts (Tailed tail ∷ g) h p = let (a, b) = calm_parts g h p.1 in ((p.0, a), b)
  calm_parts (Begins texts ∷ g) h p = calm_parts g h p

  ends_rest : (g h : List Happened) → EndsWithGone k (g ++ h) → EndsWithGone k h
  ends_rest [] h p = p
  ends_rest (Did act ∷ g) h p = ends_rest g h p.1
  ends_rest (Tailed tail ∷ g) h p = ends_rest g h p
  ends_rest (Begins texts ∷ g) h p = ends_rest g h p

  no_jobs_parts : (g h : List Happened) → NoJobs k (g ++ h) → NoJobs k g × NoJobs k h
  no_jobs_parts [] h p = (tt, p)
  no_jobs_parts (Did act ∷ g) h p = let (a, b) = no_jobs_parts g h p.1 in ((p.0, a), b)
  no_jobs_parts (Tailed tail ∷ g) h p = no_jobs_parts g h p
  no_jobs_parts (Begins texts ∷ g) h p = no_jobs_parts g h p

  nothing_parts : (g h : List Happened) → NothingTo k (g ++ h) → NothingTo k g × NothingTo k h
  nothing_parts [] h p = (tt, p)
  nothing_parts (Did act ∷ g) h p = let (a, b) = nothing_parts g h p.1 in ((p.0, a), b)
  nothing_parts (Tailed tail ∷ g) h p = let (a, b) = nothing_parts g h p.1 in ((p.0, a), b)
  nothing_parts (Begins texts ∷ g) h p = nothing_parts g h p

  -- ---- What of a history matters to a conversation, where its second part is another

  asked_less : (g h other : List Happened) → asked_before k h ≤ asked_before k other → asked_before k (g ++ h) ≤ asked_before k (g ++ other)
  asked_less [] h other le = le
  asked_less (Did act ∷ g) h other le = go (asks_new (request_in act.job.body)) (same act.job.conn k) (asked_less g h other le)
    where
      go : (a b : Bool) → asked_before k (g ++ h) ≤ asked_before k (g ++ other)
          → (if a then (if b then 0 else 1 + asked_before k (g ++ h)) else asked_before k (g ++ h)) ≤ (if a then (if b then 0 else 1 + asked_before k (g ++ other)) else asked_before k (g ++ other))
      go true true e = omega arith
      go true false e = omega arith
      go false b e = e
  asked_less (Tailed tail ∷ g) h other le = asked_less g h other le
  asked_less (Begins texts ∷ g) h other le = asked_less g h other le

  same_sends : (g h other : List Happened) → sends k h ≡ sends k other → sends k (g ++ h) ≡ sends k (g ++ other)
  same_sends [] h other e = e
  same_sends (Did act ∷ g) h other e = ap (λ (b : Bool). speaks k act || b) (same_sends g h other e)
  same_sends (Tailed tail ∷ g) h other e = same_sends g h other e
  same_sends (Begins texts ∷ g) h other e = same_sends g h other e

  same_lines : (g h other : List Happened) → sends k h ≡ sends k other → lines_before k h ≡ lines_before k other → lines_before k (g ++ h) ≡ lines_before k (g ++ other)
  same_lines [] h other s e = e
  same_lines (Did act ∷ g) h other s e =
      ap (λ (b : Bool). if b then (if same act.job.conn k then [] else act.line) ++ lines_before k (g ++ h) else []) (same_sends g h other s)
      ∙ ap (λ (l : List ℕ). if sends k (g ++ other) then (if same act.job.conn k then [] else act.line) ++ l else []) (same_lines g h other s e)
  same_lines (Tailed tail ∷ g) h other s e = same_lines g h other s e
  same_lines (Begins texts ∷ g) h other s e = same_lines g h other s e

  no_sends : (h : List Happened) → NoJobs k h → sends k h ≡ false
  no_sends [] none = refl
  no_sends (Did act ∷ h) none = elim (same_or act.job.conn k) [
    | alike p t ↦ absurd (none.0 p)
    | apart p t ↦ rw t (no_sends h none.1)
  ]
  no_sends (Tailed tail ∷ h) none = no_sends h none
  no_sends (Begins texts ∷ h) none = no_sends h none

  sent_append : (xs ys : List Act) → sent_in k (xs ++ ys) ≡ sent_in k xs ++ sent_in k ys
  sent_append [] ys = refl
  sent_append (act ∷ xs) ys = go (speaks k act) (sent_append xs ys)
    where
      go : (b : Bool) → sent_in k (xs ++ ys) ≡ sent_in k xs ++ sent_in k ys
          → (if b then act.job.body ∷ sent_in k (xs ++ ys) else sent_in k (xs ++ ys)) ≡ (if b then act.job.body ∷ sent_in k xs else sent_in k xs) ++ sent_in k ys
      go true e = ap (λ (bs : List Body). act.job.body ∷ bs) e
      go false e = e

  none_sent : (acts : List Act) (h : List Happened) → NoJobs k (all_acted acts ++ h) → sent_in k acts ≡ []
  none_sent [] h none = refl
  none_sent (act ∷ acts) h none = elim (same_or act.job.conn k) [
    | alike p t ↦ absurd (none.0 p)
    | apart p t ↦ rw t (none_sent acts h none.1)
  ]

  -- turns in which it has no job
  record Idle (turns : List Turn) : Type 0 where
    bodies : bodies_of k turns ≡ []
    lines : (set : Settings) (n : ℕ) (s : ConnState) → all_lines set k n s (came_of k turns) ≡ []

  idle : (turns : List Turn) → NoJobs k (all_turns turns) → Idle turns
  idle [] none = record { bodies = refl; lines = λ set n s. refl }
  idle (t ∷ turns) none =
      let (now, later) = no_jobs_parts (turn_of t.acts t.tail) (all_turns turns) none in
      let nothing = none_sent t.acts (Tailed t.tail ∷ []) now in
      let rest = idle turns later in
      record {
        bodies = ap (λ (bs : List Body). bs ++ bodies_of k turns) nothing ∙ rest.bodies;
        lines = λ set n s. ap (λ (bs : List Body). lines_in set t.now k n s bs ++ all_lines set k n (behind_all n s bs) (came_of k turns)) nothing ∙ rest.lines set n s;
      }

  -- ---- Answers

  -- none of these answers shuts the connection, but for that which its Gone itself gets
  abbrev pub Unshut : List Answer → Type 0
  Unshut [] = Unit {0}
  Unshut (a ∷ answers) = (((same a.conn k && lane_turns.is_shut (body_of a.says)) && not a.last) ≡ false) × Unshut answers

  unshut_append : (xs ys : List Answer) → Unshut xs → Unshut ys → Unshut (xs ++ ys)
  unshut_append [] ys p q = q
  unshut_append (x ∷ xs) ys p q = (p.0, unshut_append xs ys p.1 q)

  unshut_parts : (xs ys : List Answer) → Unshut (xs ++ ys) → Unshut xs × Unshut ys
  unshut_parts [] ys p = (tt, p)
  unshut_parts (x ∷ xs) ys p = let (a, b) = unshut_parts xs ys p.1 in ((p.0, a), b)

  unshut_others : (answers : List Answer) → NoneTo k answers → Unshut answers
  unshut_others [] none = tt
  unshut_others (a ∷ answers) none = elim (same_or a.conn k) [
    | alike p t ↦ absurd (none.0 p)
    | apart p t ↦ (rw t refl, unshut_others answers none.1)
  ]

  shut_says : (says : Saying) → lane_turns.is_shut (body_of says) ≡ is_shut says
  shut_says (LogId n) = refl
  shut_says (CommitPoint point) = refl
  shut_says (Error why) = refl
  shut_says Shut = refl

  or_false : (a b : Bool) → (a || b) ≡ false → (a ≡ false) × (b ≡ false)
  or_false true b e = absurd (cc)
  or_false false b e = (refl, e)

  pub unshut_told : (answers : List Answer) → list_any (λ a. is_shut a.says) (answers_to k answers) ≡ false → Unshut answers
  unshut_told [] e = tt
  unshut_told (a ∷ answers) e = elim (same_or a.conn k) [
    | alike p t ↦
        let f : (is_shut a.says || list_any (λ x. is_shut x.says) (answers_to k answers)) ≡ false = rw t at e in
        let (now, later) = or_false (is_shut a.says) (list_any (λ x. is_shut x.says) (answers_to k answers)) f in
        (rw (t, shut_says a.says, now) refl, unshut_told answers later)
    | apart p t ↦ let f : list_any (λ x. is_shut x.says) (answers_to k answers) ≡ false = rw t at e in (rw t refl, unshut_told answers f)
  ]

  pub unshut_replies : (answers : List Answer) → Unshut answers → lane_turns.shuts k (map reply_of answers) ≡ false
  unshut_replies [] u = refl
  unshut_replies (a ∷ answers) u = ap (λ (b : Bool). b || lane_turns.shuts k (map reply_of answers)) u.0 ∙ unshut_replies answers u.1

  nobody_told : (acts : List Act) (h : List Happened) → NothingTo k (all_acted acts ++ h) → NoneTo k (flat_map (λ act. act.answers) acts)
  nobody_told [] h n = tt
  nobody_told (act ∷ acts) h n = none_append k act.answers (flat_map (λ x. x.answers) acts) n.0 (nobody_told acts h n.1)

  none_told : (turns : List Turn) → NothingTo k (all_turns turns) → NoneTo k (all_answers turns)
  none_told [] n = tt
  none_told (t ∷ turns) n =
      let (now, later) = nothing_parts (turn_of t.acts t.tail) (all_turns turns) n in
      let (jobs, tail) = nothing_parts (all_acted t.acts) (Tailed t.tail ∷ []) now in
      none_append k (flat_map (λ act. act.answers) t.acts ++ t.tail.answers) (all_answers turns)
      (none_append k (flat_map (λ act. act.answers) t.acts) t.tail.answers (nobody_told t.acts (Tailed t.tail ∷ []) now) tail.0) (none_told turns later)

  and_false : (b : Bool) → (b && false) ≡ false
  and_false true = refl
  and_false false = refl

  -- what its Gone itself gets
  gone_unshut : (set : Settings) (m new : Machine) (act : Act) → act.job.body ≡ body.Gone → Plainly set m act new → Unshut act.answers
  gone_unshut set m new act e p = subst Unshut (sym p.answers) (go (is_dead (m.states act.job.conn)) refl)
    where
      go : (b : Bool) → is_dead (m.states act.job.conn) ≡ b → Unshut (plain set act.now act.job p.number m).answers
      go true d = rw (d, e) tt
      go false d = rw (d, e) (and_false (same act.job.conn k && true), tt)

  -- ---- Whether it goes among these jobs

  data Goes (acts : List Act) : Type 0 where
    stays : NeverGone k (all_acted acts) → Goes acts
    goes : (one : List Act) (gone : Act) (two : List Act) → acts ≡ one ++ gone ∷ two → NeverGone k (all_acted one) → gone.job.conn ≡ k → gone.job.body ≡ body.Gone → Goes acts

  goes_later : (act : Act) (acts : List Act) → (act.job.conn ≡ k → act.job.body ≢ body.Gone) → Goes acts → Goes (act ∷ acts)
  goes_later act acts still (stays never) = stays (still, never)
  goes_later act acts still (goes one gone two is never conn e) = goes (act ∷ one) gone two (ap (λ (xs : List Act). act ∷ xs) is) (still, never) conn e

  whether : (acts : List Act) → Goes acts
  whether [] = stays tt
  whether (act ∷ acts) = elim (same_or act.job.conn k) [
    | alike p t ↦ go p act.job.body refl (whether acts)
    | apart p t ↦ goes_later act acts (λ q. absurd (p q)) (whether acts)
  ]
    where
      go : act.job.conn ≡ k → (b : Body) → act.job.body ≡ b → Goes acts → Goes (act ∷ acts)
      go p body.Gone e rest = goes [] act acts refl tt p e
      go p (body.Msg message) e rest = goes_later act acts (λ q f. absurd (cc)) rest
      go p (body.Bad fault) e rest = goes_later act acts (λ q f. absurd (cc)) rest

all_first : {A : Type 0} (P : A → Type 0) (xs ys : List A) → All P (xs ++ ys) → All P xs
all_first P [] ys h = All-nil P
all_first P (x ∷ xs) ys h = All-cons P x xs (All-head P x (xs ++ ys) h) (all_first P xs ys (All-tail P x (xs ++ ys) h))

-- ---- The turns up to its Gone, as a run in which it never goes

module _ (set : Settings) (k : ConnId) where
  record Cut (m : Machine) (turns : List Turn) : Type 0 where
    first : List Turn
    end : Machine
    run : Run set m (all_turns first) end
    moments : AtTheirMoments first
    calm : IsUndisturbed k (all_turns first)
    never : NeverGone k (all_turns first)
    bodies : bodies_of k first ≡ bodies_of k turns
    asked : asked_before k (all_turns first) ≤ asked_before k (all_turns turns)
    sends_same : sends k (all_turns first) ≡ sends k (all_turns turns)
    lines : lines_before k (all_turns first) ≡ lines_before k (all_turns turns)
    own : (n : ℕ) (s : ConnState) → all_lines set k n s (came_of k first) ≡ all_lines set k n s (came_of k turns)
    unshut : Unshut k (all_answers first) → Unshut k (all_answers turns)

  nothing_cut : (m : Machine) → Cut m []
  nothing_cut m = record {
    first = [];
    end = m;
    run = refl;
    moments = tt;
    calm = tt;
    never = tt;
    bodies = refl;
    asked = omega arith;
    sends_same = refl;
    lines = refl;
    own = λ n s. refl;
    unshut = λ u. u;
  }

  -- a turn in which it doesn't go
  whole_turn : (t : Turn) (turns : List Turn) (m mid : Machine) → Run set m (turn_of t.acts t.tail) mid → All (λ act. act.now ≡ t.now) t.acts → IsUndisturbed k (turn_of t.acts t.tail) → NeverGone k (all_acted t.acts) → Cut mid turns → Cut m (t ∷ turns)
  whole_turn t turns m mid run now calm never rest =
      let answers : List Answer = flat_map (λ act. act.answers) t.acts ++ t.tail.answers in
      record {
        first = t ∷ rest.first;
        end = rest.end;
        run = run_append set (turn_of t.acts t.tail) (all_turns rest.first) m mid rest.end run rest.run;
        moments = (now, rest.moments);
        calm = calm_append k (turn_of t.acts t.tail) (all_turns rest.first) calm rest.calm;
        never = never_append k (turn_of t.acts t.tail) (all_turns rest.first) (never_append k (all_acted t.acts) (Tailed t.tail ∷ []) never tt) rest.never;
        bodies = ap (λ (bs : List Body). sent_in k t.acts ++ bs) rest.bodies;
        asked = asked_less k (turn_of t.acts t.tail) (all_turns rest.first) (all_turns turns) rest.asked;
        sends_same = same_sends k (turn_of t.acts t.tail) (all_turns rest.first) (all_turns turns) rest.sends_same;
        lines = same_lines k (turn_of t.acts t.tail) (all_turns rest.first) (all_turns turns) rest.sends_same rest.lines;
        own = λ n s. ap (λ (l : List ℕ). lines_in set t.now k n s (sent_in k t.acts) ++ l) (rest.own n (behind_all n s (sent_in k t.acts)));
        unshut = λ u. let (a, b) = unshut_parts k answers (all_answers rest.first) u in unshut_append k answers (all_answers turns) a (rest.unshut b);
      }

  -- the turn in which it goes: its jobs before the Gone, and an end
  module _ (t : Turn) (turns : List Turn) (m end : Machine) (one : List Act) (gone : Act) (two : List Act) (is : t.acts ≡ one ++ gone ∷ two) (never : NeverGone k (all_acted one)) (conn : gone.job.conn ≡ k) (leaves : gone.job.body ≡ body.Gone)
      (run : Run set m (all_turns (t ∷ turns)) end) (now : All (λ act. act.now ≡ t.now) t.acts) (calm : IsUndisturbed k (all_turns (t ∷ turns))) (ends : EndsWithGone k (all_turns (t ∷ turns))) (sound : Sound set m) (written : AllWritten m) where
    abbrev behind : List Happened
    behind = (all_acted two ++ Tailed t.tail ∷ []) ++ all_turns turns

    parts : all_turns (t ∷ turns) ≡ all_acted one ++ Did gone ∷ behind
    parts =
        ap (λ (acts : List Act). (all_acted acts ++ Tailed t.tail ∷ []) ++ all_turns turns) is
        ∙ (ap (λ (h : List Happened). (h ++ Tailed t.tail ∷ []) ++ all_turns turns) (map-append Did one (gone ∷ two))
        ∙ (ap (λ (h : List Happened). h ++ all_turns turns) (append_assoc (all_acted one) (Did gone ∷ all_acted two) (Tailed t.tail ∷ []))
        ∙ append_assoc (all_acted one) (Did gone ∷ (all_acted two ++ Tailed t.tail ∷ [])) (all_turns turns)))

    run_parts : (mid : Machine) × Run set m (all_acted one) mid × Run set mid (Did gone ∷ behind) end
    run_parts = run_split set (all_acted one) (Did gone ∷ behind) m end (subst (λ (h : List Happened). Run set m h end) parts run)

    abbrev mid : Machine
    mid = run_parts.0

    calm_both : IsUndisturbed k (all_acted one) × IsUndisturbed k (Did gone ∷ behind)
    calm_both = calm_parts k (all_acted one) (Did gone ∷ behind) (subst (IsUndisturbed k) parts calm)

    stands : Sound set mid × AllWritten mid
    stands = run_written set k (all_acted one) m mid run_parts.1 calm_both.0 sound written

    stop : Ends set mid
    stop = could_end set mid stands.0 stands.1

    none_behind : NoJobs k behind
    none_behind = (ends_rest k (all_acted one) (Did gone ∷ behind) (subst (EndsWithGone k) parts ends)).0 conn leaves

    none_now : NoJobs k (all_acted two ++ Tailed t.tail ∷ []) × NoJobs k (all_turns turns)
    none_now = no_jobs_parts k (all_acted two ++ Tailed t.tail ∷ []) (all_turns turns) none_behind

    speaks_not : speaks k gone ≡ false
    speaks_not = elim (same_or gone.job.conn k) [ alike p u ↦ rw (u, leaves) refl | apart p u ↦ rw u refl ]

    sent_same : sent_in k t.acts ≡ sent_in k one
    sent_same =
        ap (sent_in k) is ∙ (sent_append k one (gone ∷ two) ∙ (ap (λ (b : Bool). sent_in k one ++ (if b then gone.job.body ∷ sent_in k two else sent_in k two)) speaks_not
        ∙ (ap (λ (bs : List Body). sent_in k one ++ bs) (none_sent k two (Tailed t.tail ∷ []) none_now.0) ∙ append-nil (sent_in k one))))

    abbrev after : Machine
    after = run_parts.2.0

    gone_step : Step set mid gone after
    gone_step = run_parts.2.1

    plainly : Plainly set mid gone after
    plainly = elim (plainly_or set mid after gone gone_step calm_both.1.0) [
      | inl p ↦ p
      | inr w ↦ absurd (calm_both.1.1 conn (subst (λ (j : ConnId). WantsMemory j gone.answers) conn w))
    ]

    unknown : IsUnknown k after
    unknown = subst (λ (j : ConnId). IsUnknown j after) conn (gone_unknown set mid gone after gone_step leaves)

    quiet : NothingTo k behind
    quiet = silence set k behind after end (step_sound set mid gone after stands.0 gone_step) (inr (unknown.state, unknown.noted, none_behind)) run_parts.2.2

    quiet_now : NothingTo k (all_acted two ++ Tailed t.tail ∷ []) × NothingTo k (all_turns turns)
    quiet_now = nothing_parts k (all_acted two ++ Tailed t.tail ∷ []) (all_turns turns) quiet

    abbrev cut_turn : Turn
    cut_turn = record { now = t.now; acts = one; tail = stop.tail; ended = t.ended; text = t.text }

    cut_is : all_turns (cut_turn ∷ []) ≡ all_acted one ++ Tailed stop.tail ∷ []
    cut_is = append-nil (turn_of one stop.tail)

    -- what is told in the turn
    abbrev answers_in : List Act → List Answer
    answers_in acts = flat_map (λ act. act.answers) acts

    unshut_all : Unshut k (all_answers (cut_turn ∷ [])) → Unshut k (all_answers (t ∷ turns))
    unshut_all u =
        let (of_one, rest) = unshut_parts k (answers_in one) stop.tail.answers (unshut_parts k (answers_in one ++ stop.tail.answers) [] u).0 in
        let of_gone = gone_unshut k set mid after gone leaves plainly in
        let of_two = unshut_others k (answers_in two) (nobody_told k two (Tailed t.tail ∷ []) quiet_now.0) in
        let of_tail = unshut_others k t.tail.answers (nothing_parts k (all_acted two) (Tailed t.tail ∷ []) quiet_now.0).1.0 in
        let jobs_are : answers_in t.acts ≡ answers_in one ++ (gone.answers ++ answers_in two) = ap answers_in is ∙ flat_map-append (λ act. act.answers) one (gone ∷ two) in
        let of_jobs : Unshut k (answers_in t.acts) = subst (Unshut k) (sym jobs_are) (unshut_append k (answers_in one) (gone.answers ++ answers_in two) of_one (unshut_append k gone.answers (answers_in two) of_gone of_two)) in
        unshut_append k (answers_in t.acts ++ t.tail.answers) (all_answers turns) (unshut_append k (answers_in t.acts) t.tail.answers of_jobs of_tail) (unshut_others k (all_answers turns) (none_told k turns quiet_now.1))

    last_turn : Cut m (t ∷ turns)
    last_turn =
        let still = idle k turns none_now.1 in
        let sends_now : sends k (Tailed stop.tail ∷ []) ≡ sends k (Did gone ∷ behind) = sym (ap (λ (b : Bool). b || sends k behind) speaks_not ∙ no_sends k behind none_behind) in
        let lines_now : lines_before k (Tailed stop.tail ∷ []) ≡ lines_before k (Did gone ∷ behind) = sym (ap (λ (b : Bool). if b then (if same gone.job.conn k then [] else gone.line) ++ lines_before k behind else []) (no_sends k behind none_behind)) in
        record {
          first = cut_turn ∷ [];
          end = stop.new;
          run = subst (λ (h : List Happened). Run set m h stop.new) (sym cut_is) (run_append set (all_acted one) (Tailed stop.tail ∷ []) m mid stop.new run_parts.1 (stop.new, stop.ended, refl));
          moments = (all_first (λ act. act.now ≡ t.now) one (gone ∷ two) (subst (All (λ act. act.now ≡ t.now)) is now), tt);
          calm = subst (IsUndisturbed k) (sym cut_is) (calm_append k (all_acted one) (Tailed stop.tail ∷ []) calm_both.0 (stop.none, tt));
          never = subst (NeverGone k) (sym cut_is) (never_append k (all_acted one) (Tailed stop.tail ∷ []) never tt);
          bodies = append-nil (sent_in k one) ∙ (sym sent_same ∙ (sym (append-nil (sent_in k t.acts)) ∙ ap (λ (bs : List Body). sent_in k t.acts ++ bs) (sym still.bodies)));
          asked =
              let le : 0 ≤ asked_before k (Did gone ∷ behind) = omega arith in
              subst (λ (h : List Happened). asked_before k h ≤ asked_before k (all_turns (t ∷ turns))) (sym cut_is)
              (subst (λ (h : List Happened). asked_before k (all_acted one ++ Tailed stop.tail ∷ []) ≤ asked_before k h) (sym parts) (asked_less k (all_acted one) (Tailed stop.tail ∷ []) (Did gone ∷ behind) le));
          sends_same = ap (sends k) cut_is ∙ (same_sends k (all_acted one) (Tailed stop.tail ∷ []) (Did gone ∷ behind) sends_now ∙ ap (sends k) (sym parts));
          lines = ap (lines_before k) cut_is ∙ (same_lines k (all_acted one) (Tailed stop.tail ∷ []) (Did gone ∷ behind) sends_now lines_now ∙ ap (lines_before k) (sym parts));
          own = λ n s.
              append-nil (lines_in set t.now k n s (sent_in k one)) ∙ (ap (λ (bs : List Body). lines_in set t.now k n s bs) (sym sent_same)
              ∙ (sym (append-nil (lines_in set t.now k n s (sent_in k t.acts))) ∙ ap (λ (l : List ℕ). lines_in set t.now k n s (sent_in k t.acts) ++ l) (sym (still.lines set n (behind_all n s (sent_in k t.acts))))));
          unshut = unshut_all;
        }

  cut_of : (turns : List Turn) (m end : Machine) → Run set m (all_turns turns) end → AtTheirMoments turns → IsUndisturbed k (all_turns turns) → EndsWithGone k (all_turns turns) → Sound set m → AllWritten m → Cut m turns
  cut_of [] m end run moments calm ends sound written = nothing_cut m
  cut_of (t ∷ turns) m end run moments calm ends sound written = go (whether k t.acts) (λ mid r c e s w. cut_of turns mid end r moments.1 c e s w)
    where
      go : Goes k t.acts → ((mid : Machine) → Run set mid (all_turns turns) end → IsUndisturbed k (all_turns turns) → EndsWithGone k (all_turns turns) → Sound set mid → AllWritten mid → Cut mid turns) → Cut m (t ∷ turns)
      go (goes one gone two is never conn leaves) on = last_turn t turns m end one gone two is never conn leaves run moments.0 calm ends sound written
      go (stays never) on =
          let (mid, first, rest) = run_split set (turn_of t.acts t.tail) (all_turns turns) m end run in
          let (now, later) = calm_parts k (turn_of t.acts t.tail) (all_turns turns) calm in
          let (sound', written') = run_written set k (turn_of t.acts t.tail) m mid first now sound written in
          whole_turn t turns m mid first moments.0 now never (on mid rest later (ends_rest k (turn_of t.acts t.tail) (all_turns turns) ends) sound' written')

fits_cut : (set : Settings) (k : ConnId) (start : Machine) (turns : List Turn) (bodies : List Body) (c : Cut set k start turns) → FitsAmong set k start turns bodies → FitsAmong set k start c.first bodies
fits_cut set k start turns bodies c fits n may =
    let asked = c.asked in
    let few = may.few in
    let f = fits n (record { passed = may.passed; few = omega arith; is = may.is }) in
    let lines : start.lines ++ lines_before k (all_turns c.first) ≡ start.lines ++ lines_before k (all_turns turns) = ap (λ (l : List ℕ). start.lines ++ l) c.lines in
    record {
      number = f.number;
      head = f.head;
      exit = f.exit;
      timing = f.timing;
      streams = f.streams;
      time = f.time;
      events = let events = f.events in let a = ap length lines in let b = ap length (c.own n Fresh) in omega arith;
    }

-- while some of it hasn't come nobody shuts the connection, also where it goes
pub isnt_shut_early : (set : Settings) (texts : List (List ℕ)) (k : ConnId) (start end : Machine) (turns : List Turn) (later : List Body) (number : ℕ) → StartsAs set texts start → Run set start (all_turns turns) end → AtTheirMoments turns
    → IsUndisturbed k (all_turns turns) → EndsWithGone k (all_turns turns) → IsLegal number Fresh (bodies_of k turns ++ later) → (later ≡ [] → ⊥) → FitsAmong set k start turns (bodies_of k turns ++ later) → Unshut k (all_answers turns)
isnt_shut_early set texts k start end turns later number starts run moments calm ends legal some fits =
    let c = cut_of set k turns start end run moments calm ends (starts_sound set texts start starts) (subst (Written start.owner) (sym starts.none_waits) tt) in
    let bodies_are : bodies_of k turns ++ later ≡ bodies_of k c.first ++ later = ap (λ (bs : List Body). bs ++ later) (sym c.bodies) in
    c.unshut (unshut_told k (all_answers c.first) (isnt_shut_among set texts k start c.end c.first later number starts c.run c.moments c.calm c.never (subst (λ (bs : List Body). IsLegal number Fresh bs) bodies_are legal) some
    (subst (λ (bs : List Body). FitsAmong set k start c.first bs) bodies_are (fits_cut set k start turns (bodies_of k turns ++ later) c fits))))
