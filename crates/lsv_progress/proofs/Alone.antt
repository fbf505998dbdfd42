-- What one connection does in a run with others, as turns of its own: its jobs, and what it is told.
use Rattle.std.proofs.Common.{◌≡◌, ℕ, List, [], ◌∷◌, ◌++◌, map, refl, sym, ◌∙◌, ap, subst, append_assoc}
use Rattle.std.specs.Prelude.{◌&&◌, not, Bool, true, false, if◌then◌else◌, All}
use Rattle.std.specs.List.{flat_map}
use Rattle.std.proofs.lemmas.List.Elements.{All-cons, All-head, All-tail}
use Rattle.lsv_base.specs.declared.time.TimeSpec.{TimeSpec}
use Rattle.lsv_session.specs.declared.connection.ConnId.{ConnId}
use Rattle.lsv_session.specs.declared.connection.ConnState.{ConnState}
use Rattle.lsv_session.specs.declared.job.Body.{Body}
use Rattle.lsv_session.specs.declared.job.Job.{Job}
use Rattle.lsv_machine.specs.Answers.{Answer}
use Rattle.lsv_machine.specs.Failures.{Act, WantsMemory}
use Rattle.lsv_machine.specs.History.{is_gone, request_in}
use Rattle.lsv_machine.specs.Legal.{AreSent, AreUndisturbed, all_answers, all_lines, behind, behind_all, line_for, lines_in}
use Rattle.lsv_machine.specs.Machine.{Settings, same}
use Rattle.lsv_machine.specs.Recovery.{AtTheirMoments, Turn, all_turns}
use Rattle.lsv_machine.specs.Silence.{AllTo, NoneTo}
use Rattle.lsv_machine.specs.Turns.{Happened, Happened.Did, Happened.Tailed, Happened.Begins, Tail, all_acted}
use Rattle.lsv_machine.proofs.Choices.{SameOr.alike, SameOr.apart, same_or, same_true}
use Rattle.lsv_progress.specs.Among.{IsUndisturbed, answers_to, bodies_of, came_of, sent_in, speaks}

-- ---- Answers

pub to_append : (k : ConnId) (xs ys : List Answer) → answers_to k (xs ++ ys) ≡ answers_to k xs ++ answers_to k ys
to_append k [] ys = refl
to_append k (x ∷ xs) ys = go (same x.conn k) (to_append k xs ys)
  where
    go : (b : Bool) → answers_to k (xs ++ ys) ≡ answers_to k xs ++ answers_to k ys
        → (if b then x ∷ answers_to k (xs ++ ys) else answers_to k (xs ++ ys)) ≡ (if b then x ∷ answers_to k xs else answers_to k xs) ++ answers_to k ys
    go true e = ap (λ (zs : List Answer). x ∷ zs) e
    go false e = e

pub to_others : (k : ConnId) (answers : List Answer) → NoneTo k answers → answers_to k answers ≡ []
to_others k [] none = refl
to_others k (a ∷ answers) none = elim (same_or a.conn k) [
  | alike p t ↦ absurd (none.0 p)
  | apart p t ↦ rw t (to_others k answers none.1)
]

pub to_itself : (k : ConnId) (answers : List Answer) → AllTo k answers → answers_to k answers ≡ answers
to_itself k [] all = refl
to_itself k (a ∷ answers) all = elim (same_or a.conn k) [
  | alike p t ↦ rw t (ap (λ (zs : List Answer). a ∷ zs) (to_itself k answers all.1))
  | apart p t ↦ absurd (p all.0)
]

-- ---- Its history

module _ (k : ConnId) where
  abbrev pub own_acts : List Act → List Act
  own_acts [] = []
  own_acts (act ∷ acts) = if speaks k act then act ∷ own_acts acts else own_acts acts

  abbrev pub own_tail : Tail → Tail
  own_tail tail = record { answers = answers_to k tail.answers; failed = [] }

  abbrev pub own_turn : Turn → Turn
  own_turn turn = record { now = turn.now; acts = own_acts turn.acts; tail = own_tail turn.tail; ended = turn.ended; text = turn.text }

  -- what happens, of this connection alone
  abbrev pub own : List Happened → List Happened
  own [] = []
  own (Did act ∷ history) = if speaks k act then Did act ∷ own history else own history
  own (Tailed tail ∷ history) = Tailed (own_tail tail) ∷ own history
  own (Begins texts ∷ history) = own history

  -- what it sends
  abbrev pub spoken : List Happened → List Body
  spoken [] = []
  spoken (Did act ∷ history) = if speaks k act then act.job.body ∷ spoken history else spoken history
  spoken (Tailed tail ∷ history) = spoken history
  spoken (Begins texts ∷ history) = spoken history

  own_append : (acts : List Act) (rest : List Happened) → own (all_acted acts ++ rest) ≡ all_acted (own_acts acts) ++ own rest
  own_append [] rest = refl
  own_append (act ∷ acts) rest = go (speaks k act) (own_append acts rest)
    where
      go : (b : Bool) → own (all_acted acts ++ rest) ≡ all_acted (own_acts acts) ++ own rest
          → (if b then Did act ∷ own (all_acted acts ++ rest) else own (all_acted acts ++ rest)) ≡ all_acted (if b then act ∷ own_acts acts else own_acts acts) ++ own rest
      go true e = ap (λ (xs : List Happened). Did act ∷ xs) e
      go false e = e

  pub own_turns : (turns : List Turn) → all_turns (map own_turn turns) ≡ own (all_turns turns)
  own_turns [] = refl
  own_turns (t ∷ turns) =
      append_assoc (all_acted (own_acts t.acts)) (Tailed (own_tail t.tail) ∷ []) (all_turns (map own_turn turns))
      ∙ (ap (λ (xs : List Happened). all_acted (own_acts t.acts) ++ (Tailed (own_tail t.tail) ∷ xs)) (own_turns turns)
      ∙ (sym (own_append t.acts (Tailed t.tail ∷ all_turns turns))
      ∙ ap own (sym (append_assoc (all_acted t.acts) (Tailed t.tail ∷ []) (all_turns turns)))))

  spoken_append : (acts : List Act) (rest : List Happened) → spoken (all_acted acts ++ rest) ≡ sent_in k acts ++ spoken rest
  spoken_append [] rest = refl
  spoken_append (act ∷ acts) rest = go (speaks k act) (spoken_append acts rest)
    where
      go : (b : Bool) → spoken (all_acted acts ++ rest) ≡ sent_in k acts ++ spoken rest
          → (if b then act.job.body ∷ spoken (all_acted acts ++ rest) else spoken (all_acted acts ++ rest)) ≡ (if b then act.job.body ∷ sent_in k acts else sent_in k acts) ++ spoken rest
      go true e = ap (λ (xs : List Body). act.job.body ∷ xs) e
      go false e = e

  pub spoken_turns : (turns : List Turn) → spoken (all_turns turns) ≡ bodies_of k turns
  spoken_turns [] = refl
  spoken_turns (t ∷ turns) =
      ap spoken (append_assoc (all_acted t.acts) (Tailed t.tail ∷ []) (all_turns turns))
      ∙ (spoken_append t.acts (Tailed t.tail ∷ all_turns turns) ∙ ap (λ (xs : List Body). sent_in k t.acts ++ xs) (spoken_turns turns))

  -- ---- Its turns

  jobs_are : (acts : List Act) → map (λ act. act.job) (own_acts acts) ≡ map (λ b. record { conn = k; body = b }) (sent_in k acts)
  jobs_are [] = refl
  jobs_are (act ∷ acts) = go (speaks k act) refl (jobs_are acts)
    where
      its : (a b : Bool) → (a && b) ≡ true → a ≡ true
      its true b e = refl
      its false b e = absurd (cc)

      job_of : Body → Job
      job_of b = record { conn = k; body = b }

      go : (b : Bool) → speaks k act ≡ b → map (λ (x : Act). x.job) (own_acts acts) ≡ map job_of (sent_in k acts)
          → map (λ (x : Act). x.job) (if b then act ∷ own_acts acts else own_acts acts) ≡ map job_of (if b then act.job.body ∷ sent_in k acts else sent_in k acts)
      go true e more =
          let conn : act.job.conn ≡ k = same_true act.job.conn k (its (same act.job.conn k) (not (is_gone act.job.body)) e) in
          let with_body : ConnId → Job = λ c. record { conn = c; body = act.job.body } in
          let job : act.job ≡ job_of act.job.body = ap with_body conn in
          ap (λ (j : Job). j ∷ map (λ (x : Act). x.job) (own_acts acts)) job ∙ ap (λ (js : List Job). job_of act.job.body ∷ js) more
      go false e more = more

  -- what is known of the jobs of a turn, and of what follows
  record Calm (acts : List Act) (tail : Tail) (rest : List Happened) : Type 0 where
    jobs : AreUndisturbed (own_acts acts)
    sound : tail.failed ≡ []
    more : IsUndisturbed k rest

  calm_turn : (acts : List Act) (tail : Tail) (rest : List Happened) → IsUndisturbed k (all_acted acts ++ Tailed tail ∷ rest) → Calm acts tail rest
  calm_turn [] tail rest h = record { jobs = tt; sound = h.0; more = h.1 }
  calm_turn (act ∷ acts) tail rest h =
      let c = calm_turn acts tail rest h.2 in
      record { jobs = go (speaks k act) refl c.jobs; sound = c.sound; more = c.more }
    where
      its : (a b : Bool) → (a && b) ≡ true → a ≡ true
      its true b e = refl
      its false b e = absurd (cc)

      go : (b : Bool) → speaks k act ≡ b → AreUndisturbed (own_acts acts) → AreUndisturbed (if b then act ∷ own_acts acts else own_acts acts)
      go true e more =
          let conn : act.job.conn ≡ k = same_true act.job.conn k (its (same act.job.conn k) (not (is_gone act.job.body)) e) in
          (h.0, (λ w. h.1 conn (subst (λ (j : ConnId). WantsMemory j act.answers) conn w)), more)
      go false e more = more

  pub own_sent : (turns : List Turn) → IsUndisturbed k (all_turns turns) → AreSent k (came_of k turns) (map own_turn turns)
  own_sent [] calm = tt
  own_sent (t ∷ turns) calm =
      let calm' = subst (IsUndisturbed k) (append_assoc (all_acted t.acts) (Tailed t.tail ∷ []) (all_turns turns)) calm in
      let c = calm_turn t.acts t.tail (all_turns turns) calm' in
      (refl, jobs_are t.acts, c.jobs, refl, own_sent turns c.more)

  own_moments : (now : TimeSpec) (acts : List Act) → All (λ (act : Act). act.now ≡ now) acts → All (λ (act : Act). act.now ≡ now) (own_acts acts)
  own_moments now [] all = all
  own_moments now (act ∷ acts) all = go (speaks k act) (own_moments now acts (All-tail (λ (x : Act). x.now ≡ now) act acts all))
    where
      go : (b : Bool) → All (λ (x : Act). x.now ≡ now) (own_acts acts) → All (λ (x : Act). x.now ≡ now) (if b then act ∷ own_acts acts else own_acts acts)
      go true more = All-cons (λ (x : Act). x.now ≡ now) act (own_acts acts) (All-head (λ (x : Act). x.now ≡ now) act acts all) more
      go false more = more

  pub own_at_moments : (turns : List Turn) → AtTheirMoments turns → AtTheirMoments (map own_turn turns)
  own_at_moments [] moments = tt
  own_at_moments (t ∷ turns) moments = (own_moments t.now t.acts moments.0, own_at_moments turns moments.1)

  -- ---- What it is told

  -- of what each job of the connection is answered all goes to it, and of what others are answered nothing
  abbrev pub Hears : List Happened → Type 0
  Hears [] = Unit {0}
  Hears (Did act ∷ history) = (answers_to k act.answers ≡ (if speaks k act then act.answers else [])) × Hears history
  Hears (Tailed tail ∷ history) = Hears history
  Hears (Begins texts ∷ history) = Hears history

  -- the answers of the jobs of a turn
  abbrev told_in : List Act → List Answer
  told_in acts = flat_map (λ act. act.answers) acts

  heard_in : (acts : List Act) (rest : List Happened) → Hears (all_acted acts ++ rest) → (answers_to k (told_in acts) ≡ told_in (own_acts acts)) × Hears rest
  heard_in [] rest h = (refl, h)
  heard_in (act ∷ acts) rest h =
      let (more, on) = heard_in acts rest h.1 in
      (to_append k act.answers (told_in acts) ∙ (ap (λ (xs : List Answer). answers_to k act.answers ++ xs) more ∙ go (speaks k act) refl h.0), on)
    where
      go : (b : Bool) → speaks k act ≡ b → answers_to k act.answers ≡ (if b then act.answers else []) → answers_to k act.answers ++ told_in (own_acts acts) ≡ told_in (if b then act ∷ own_acts acts else own_acts acts)
      go true e is = ap (λ (xs : List Answer). xs ++ told_in (own_acts acts)) is
      go false e is = ap (λ (xs : List Answer). xs ++ told_in (own_acts acts)) is

  pub heard : (turns : List Turn) → Hears (all_turns turns) → answers_to k (all_answers turns) ≡ all_answers (map own_turn turns)
  heard [] h = refl
  heard (t ∷ turns) h =
      let h' = subst Hears (append_assoc (all_acted t.acts) (Tailed t.tail ∷ []) (all_turns turns)) h in
      let (now, on) = heard_in t.acts (Tailed t.tail ∷ all_turns turns) h' in
      to_append k (told_in t.acts ++ t.tail.answers) (all_answers turns)
      ∙ (ap (λ (xs : List Answer). xs ++ answers_to k (all_answers turns)) (to_append k (told_in t.acts) t.tail.answers ∙ ap (λ (xs : List Answer). xs ++ answers_to k t.tail.answers) now)
      ∙ ap (λ (xs : List Answer). (told_in (own_acts t.acts) ++ answers_to k t.tail.answers) ++ xs) (heard turns on))

  -- ---- Its event lines

  module _ (set : Settings) (n : ℕ) where
    -- the event lines of what it sends, from this state on
    abbrev pub own_lines : ConnState → List Happened → List ℕ
    own_lines s [] = []
    own_lines s (Did act ∷ history) =
        if speaks k act then line_for set act.now k s (request_in act.job.body) n ++ own_lines (behind n s (request_in act.job.body)) history else own_lines s history
    own_lines s (Tailed tail ∷ history) = own_lines s history
    own_lines s (Begins texts ∷ history) = own_lines s history

    lines_append : (now : TimeSpec) (s : ConnState) (acts : List Act) (rest : List Happened) → All (λ (act : Act). act.now ≡ now) acts
        → own_lines s (all_acted acts ++ rest) ≡ lines_in set now k n s (sent_in k acts) ++ own_lines (behind_all n s (sent_in k acts)) rest
    lines_append now s [] rest all = refl
    lines_append now s (act ∷ acts) rest all =
        let tail = All-tail (λ (x : Act). x.now ≡ now) act acts all in
        go (speaks k act) (lines_append now s acts rest tail) (lines_append now (behind n s (request_in act.job.body)) acts rest tail)
      where
        at_now : act.now ≡ now
        at_now = All-head (λ (x : Act). x.now ≡ now) act acts all

        line : List ℕ
        line = line_for set now k s (request_in act.job.body) n

        next : ConnState
        next = behind n s (request_in act.job.body)

        go : (b : Bool) → own_lines s (all_acted acts ++ rest) ≡ lines_in set now k n s (sent_in k acts) ++ own_lines (behind_all n s (sent_in k acts)) rest
            → own_lines next (all_acted acts ++ rest) ≡ lines_in set now k n next (sent_in k acts) ++ own_lines (behind_all n next (sent_in k acts)) rest
            → (if b then line_for set act.now k s (request_in act.job.body) n ++ own_lines next (all_acted acts ++ rest) else own_lines s (all_acted acts ++ rest))
            ≡ lines_in set now k n s (if b then act.job.body ∷ sent_in k acts else sent_in k acts) ++ own_lines (behind_all n s (if b then act.job.body ∷ sent_in k acts else sent_in k acts)) rest
        go true other its =
            ap (λ (x : TimeSpec). line_for set x k s (request_in act.job.body) n ++ own_lines next (all_acted acts ++ rest)) at_now
            ∙ (ap (λ (xs : List ℕ). line ++ xs) its ∙ sym (append_assoc line (lines_in set now k n next (sent_in k acts)) (own_lines (behind_all n next (sent_in k acts)) rest)))
        go false other its = other

    pub lines_turns : (s : ConnState) (turns : List Turn) → AtTheirMoments turns → own_lines s (all_turns turns) ≡ all_lines set k n s (came_of k turns)
    lines_turns s [] moments = refl
    lines_turns s (t ∷ turns) moments =
        ap (own_lines s) (append_assoc (all_acted t.acts) (Tailed t.tail ∷ []) (all_turns turns))
        ∙ (lines_append t.now s t.acts (Tailed t.tail ∷ all_turns turns) moments.0
        ∙ ap (λ (xs : List ℕ). lines_in set t.now k n s (sent_in k t.acts) ++ xs) (lines_turns (behind_all n s (sent_in k t.acts)) turns moments.1))
