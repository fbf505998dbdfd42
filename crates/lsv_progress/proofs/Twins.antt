-- One job of a legal conversation in two machines that agree on its connection and its log: the same comes of it in both.
use Rattle.std.proofs.Common.{◌≡◌, ℕ, List, [], ◌∷◌, length, refl, sym, ◌∙◌, ap, subst, Option, Some, None}
use Rattle.std.specs.Prelude.{◌||◌, not, nat_lt, Bool, true, false, if◌then◌else◌, is_some, Ok}
use Rattle.lsv_base.specs.declared.time.TimeSpec.{TimeSpec}
use Rattle.lsv_info.specs.Layout.{head_text, exit_text}
use Rattle.lsv_mask.specs.Masking.{covered}
use Rattle.lsv_record.specs.Points.{Stored}
use Rattle.lsv_record.specs.declared.records.Record.{Record}
use Rattle.lsv_request.specs.declared.refusal.Refusal.{Refusal}
use Rattle.lsv_request.specs.declared.refusal.Refusal.TheVariants as refusals
use Rattle.lsv_request.specs.declared.request.Accept.{Accept}
use Rattle.lsv_request.specs.declared.request.Request.{Request}
use Rattle.lsv_request.specs.declared.request.Request.TheVariants as request
use Rattle.lsv_session.specs.declared.connection.ConnId.{ConnId}
use Rattle.lsv_session.specs.declared.connection.ConnState.{ConnState}
use Rattle.lsv_session.specs.declared.connection.ConnState.TheVariants.{Fresh, Greeted, Alerted, Running, Dead}
use Rattle.lsv_machine.specs.Answers.{is_refused}
use Rattle.lsv_machine.specs.History.{is_exit}
use Rattle.lsv_machine.specs.Legal.{goes_to, has_place}
use Rattle.lsv_machine.specs.Machine.{LogState, LogState.Absent, LogState.Damaged, LogState.There, Machine, Settings, insert_once, is_dead, is_log, is_running, let_go, log_of, with_log, with_owner, with_state, without, without_log}
use Rattle.lsv_machine.specs.Work.{Done, adds_line, draws, empty_log, exited, finished, fits_file, has_line, last_number, line_fits, line_in, lined, makes, opened, opens, recorded, refused, silently, taken, takes, waits, with_exit, with_record, work}
use Rattle.lsv_machine.proofs.Choices.{EqOr.equal, EqOr.unequal, eq_or}
use Rattle.lsv_machine.proofs.Shapes.{its_state}
use Rattle.lsv_progress.proofs.Waiting.{among, insert_itself, its_log_is, only}

-- a log that has no exit, or isn't there
abbrev pub Unfinished : LogState → Type 0
Unfinished Absent = Unit {0}
Unfinished Damaged = Unit {0}
Unfinished (There stored promised) = stored.exit ≡ None

-- a log that has its exit
abbrev pub Complete : LogState → Type 0
Complete Absent = ⊥
Complete Damaged = ⊥
Complete (There stored promised) = is_some stored.exit ≡ true

pub not_running_log : (s : ConnState) → is_running s ≡ false → log_of s ≡ None
not_running_log Fresh e = refl
not_running_log Greeted e = refl
not_running_log Alerted e = refl
not_running_log (Running log) e = absurd (cc)
not_running_log Dead e = refl

pub clash : {A : Type 0} (b : Bool) → b ≡ true → b ≡ false → A
clash {A} b p q = absurd (cc)

its_log : (n : ℕ) (x : LogState) (m : Machine) → (with_log n x m).logs n ≡ x
its_log n x m = elim (eq_or n n) [ equal p t ↦ rw t refl | unequal p t ↦ absurd (p refl) ]

its_owner : (n : ℕ) (o : Option ConnId) (m : Machine) → (with_owner n o m).owner n ≡ o
its_owner n o m = elim (eq_or n n) [ equal p t ↦ rw t refl | unequal p t ↦ absurd (p refl) ]

inserted : (n : ℕ) (b : Bool) → insert_once n (only n b) ≡ n ∷ []
inserted n false = refl
inserted n true = elim (eq_or n n) [ equal p t ↦ rw t refl | unequal p t ↦ absurd (p refl) ]

pub removed : (n : ℕ) (b : Bool) → without n (only n b) ≡ []
removed n false = refl
removed n true = elim (eq_or n n) [ equal p t ↦ rw t refl | unequal p t ↦ absurd (p refl) ]

none_left : (o : Option ℕ) → without_log o [] ≡ []
none_left None = refl
none_left (Some i) = refl

module _ (n : ℕ) (k : ConnId) where
  -- ---- Two machines

  -- they agree on the connection and on log n, and of the second's logs no other waits
  pub record Mirrors (m m' : Machine) : Type 0 where
    pub state : m'.states k ≡ m.states k
    pub texts : m'.texts ≡ m.texts
    pub log : m'.logs n ≡ m.logs n
    pub owner : m'.owner n ≡ m.owner n
    pub waits : m'.waiting ≡ only n (among n m.waiting)

  state_mirrors : (s : ConnState) (m m' : Machine) → Mirrors m m' → Mirrors (with_state k s m) (with_state k s m')
  state_mirrors s m m' h = record { state = its_state k s m' ∙ sym (its_state k s m); texts = h.texts; log = h.log; owner = h.owner; waits = h.waits }

  log_mirrors : (x : LogState) (m m' : Machine) → Mirrors m m' → Mirrors (with_log n x m) (with_log n x m')
  log_mirrors x m m' h = record { state = h.state; texts = h.texts; log = its_log n x m' ∙ sym (its_log n x m); owner = h.owner; waits = h.waits }

  owner_mirrors : (o : Option ConnId) (m m' : Machine) → Mirrors m m' → Mirrors (with_owner n o m) (with_owner n o m')
  owner_mirrors o m m' h = record { state = h.state; texts = h.texts; log = h.log; owner = its_owner n o m' ∙ sym (its_owner n o m); waits = h.waits }

  draws_mirrors : (m m' : Machine) → Mirrors m m' → Mirrors (draws n m) (draws n m')
  draws_mirrors m m' h = record { state = h.state; texts = h.texts; log = h.log; owner = h.owner; waits = h.waits }

  line_mirrors : (line line' : List ℕ) (m m' : Machine) → Mirrors m m' → Mirrors (adds_line k line m) (adds_line k line' m')
  line_mirrors line line' m m' h = record { state = h.state; texts = h.texts; log = h.log; owner = h.owner; waits = h.waits }

  waits_mirrors : (m m' : Machine) → Mirrors m m' → Mirrors (waits n m) (waits n m')
  waits_mirrors m m' h = record {
    state = h.state;
    texts = h.texts;
    log = h.log;
    owner = h.owner;
    waits = ap (insert_once n) h.waits ∙ (inserted n (among n m.waiting) ∙ ap (only n) (sym (insert_itself n m.waiting)));
  }

  -- ---- Where a job comes, and what comes of it

  -- the connection is before its log, or writes it
  pub data Place (s : ConnState) : Type 0 where
    outside : is_running s ≡ false → is_dead s ≡ false → Place s
    inside : s ≡ Running (Some n) → Place s

  -- the two machines before the job
  pub record Pair (s : ConnState) (m m' : Machine) : Type 0 where
    pub state : m.states k ≡ s
    pub place : Place s
    pub mirrors : Mirrors m m'
    pub unfinished : Unfinished (m'.logs n)
    -- no log waits in the second before this one is there
    pub calm : is_running s ≡ false → m'.waiting ≡ []
    pub there : s ≡ Running (Some n) → (stored : Stored) × (promised : ℕ) × (m.logs n ≡ There stored promised)

  -- the conversation goes on, or its connection died, or its log has its exit
  pub data Outcome (s : ConnState) (what : Request) (d d' : Done) : Type 0 where
    goes_on : is_exit (Ok what) ≡ false → is_refused d.answers ≡ false → d.machine.states k ≡ goes_to n s what → Mirrors d.machine d'.machine → Unfinished (d'.machine.logs n)
        → (is_running (goes_to n s what) ≡ false → d'.machine.waiting ≡ []) → Outcome s what d d'
    dies : d.machine.states k ≡ Dead → d'.machine.states k ≡ Dead → Unfinished (d'.machine.logs n) → d'.machine.waiting ≡ [] → Outcome s what d d'
    ends_it : is_exit (Ok what) ≡ true → d.machine.states k ≡ Dead → d'.machine.states k ≡ Dead → d'.machine.logs n ≡ d.machine.logs n → Complete (d.machine.logs n) → d.machine.owner n ≡ None → d'.machine.waiting ≡ [] → Outcome s what d d'

  -- what the work of a job does in both, which leaves no line of its own
  pub record Twin (s : ConnState) (what : Request) (d d' : Done) : Type 0 where
    pub answers : d'.answers ≡ d.answers
    pub none : d.line ≡ []
    pub none' : d'.line ≡ []
    pub outcome : Outcome s what d d'

  module _ (s : ConnState) (m m' : Machine) (pair : Pair s m m') where
    gone_waiting : without_log (log_of (m'.states k)) m'.waiting ≡ []
    gone_waiting = go pair.place
      where
        state' : m'.states k ≡ s
        state' = pair.mirrors.state ∙ pair.state

        go : Place s → without_log (log_of (m'.states k)) m'.waiting ≡ []
        go (outside off alive) = ap (λ (xs : List ℕ). without_log (log_of (m'.states k)) xs) (pair.calm off) ∙ none_left (log_of (m'.states k))
        go (inside on) =
            let o : log_of (m'.states k) ≡ Some n = ap log_of (state' ∙ on) in
            ap (λ (x : Option ℕ). without_log x m'.waiting) o ∙ (ap (without n) pair.mirrors.waits ∙ removed n (among n m.waiting))

    -- refused in both
    refused_twin : (what : Request) (why : Refusal) (mid mid' : Machine) → mid'.states ≡ m'.states → mid'.logs ≡ m'.logs → mid'.waiting ≡ m'.waiting → Twin s what (refused k why mid) (refused k why mid')
    refused_twin what why mid mid' states logs waiting = record {
      answers = refl;
      none = refl;
      none' = refl;
      outcome = dies (its_state k Dead (let_go (log_of (mid.states k)) mid)) (its_state k Dead (let_go (log_of (mid'.states k)) mid'))
          (subst (λ (f : ℕ → LogState). Unfinished (f n)) (sym logs) pair.unfinished)
          (ap (λ (f : ConnId → ConnState). without_log (log_of (f k)) mid'.waiting) states ∙ (ap (λ (xs : List ℕ). without_log (log_of (m'.states k)) xs) waiting ∙ gone_waiting));
    }

    -- nothing is done
    still_twin : (what : Request) → is_exit (Ok what) ≡ false → goes_to n s what ≡ s → Twin s what (silently m) (silently m')
    still_twin what not_exit there = record {
      answers = refl;
      none = refl;
      none' = refl;
      outcome = goes_on not_exit refl (pair.state ∙ sym there) pair.mirrors pair.unfinished (λ off. pair.calm (ap is_running (sym there) ∙ off));
    }

    -- another state before the log
    state_twin : (what : Request) (t : ConnState) → is_running s ≡ false → is_exit (Ok what) ≡ false → goes_to n s what ≡ t → Twin s what (silently (with_state k t m)) (silently (with_state k t m'))
    state_twin what t off not_exit there = record {
      answers = refl;
      none = refl;
      none' = refl;
      outcome = goes_on not_exit refl (its_state k t m ∙ sym there) (state_mirrors t m m' pair.mirrors) pair.unfinished (λ h. pair.calm off);
    }

    -- a log is opened
    opened_twin : (accept : Accept) → is_running s ≡ false → Twin s (request.Accept accept) (opened k (head_text accept.head) n m) (opened k (head_text accept.head) n m')
    opened_twin accept off = go (nat_lt last_number n) refl (fits_file (head_text accept.head)) refl
      where
        there : goes_to n s (request.Accept accept) ≡ Running (Some n)
        there = rw off refl

        both : Mirrors (with_state k (Running (Some n)) (with_owner n (Some k) (makes n (head_text accept.head) m))) (with_state k (Running (Some n)) (with_owner n (Some k) (makes n (head_text accept.head) m')))
        both = state_mirrors (Running (Some n)) (with_owner n (Some k) (makes n (head_text accept.head) m)) (with_owner n (Some k) (makes n (head_text accept.head) m'))
            (owner_mirrors (Some k) (makes n (head_text accept.head) m) (makes n (head_text accept.head) m')
            (log_mirrors (There (empty_log (head_text accept.head)) 0) (draws n m) (draws n m') (draws_mirrors m m' pair.mirrors)))

        go : (a : Bool) → nat_lt last_number n ≡ a → (b : Bool) → fits_file (head_text accept.head) ≡ b
            → Twin s (request.Accept accept) (opened k (head_text accept.head) n m) (opened k (head_text accept.head) n m')
        go true e b f = rw e (refused_twin (request.Accept accept) refusals.NumbersSpent m m' refl refl refl)
        go false e false f = rw (e, f) (refused_twin (request.Accept accept) refusals.LogFull (draws n m) (draws n m') refl refl refl)
        go false e true f = rw (e, f) (record {
          answers = refl;
          none = refl;
          none' = refl;
          outcome = goes_on refl refl (its_state k (Running (Some n)) (with_owner n (Some k) (makes n (head_text accept.head) m)) ∙ sym there) both
              (subst Unfinished (sym (its_log n (There (empty_log (head_text accept.head)) 0) (draws n m'))) refl)
              (λ h. let g : is_running (goes_to n s (request.Accept accept)) ≡ true = ap is_running there in clash (is_running (goes_to n s (request.Accept accept))) g h);
        })

    module _ (on : s ≡ Running (Some n)) (stored : Stored) (promised : ℕ) (at : m.logs n ≡ There stored promised) where
      at' : m'.logs n ≡ There stored promised
      at' = pair.mirrors.log ∙ at

      no_exit : stored.exit ≡ None
      no_exit = let h : Unfinished (There stored promised) = subst Unfinished at' pair.unfinished in h

      -- a record
      taken_twin : (r : Record) → Twin s (request.Record r) (taken k n r (There stored promised) m) (taken k n r (There stored promised) m')
      taken_twin r = go (takes stored r) refl
        where
          more : List (List ℕ) → LogState
          more texts = There (with_record (covered texts stored.records r) stored) promised

          same_log : more m'.texts ≡ more m.texts
          same_log = ap (λ (t : List (List ℕ)). There (with_record (covered t stored.records r) stored) promised) pair.mirrors.texts

          both : Mirrors (waits n (with_log n (There (with_record (covered m.texts stored.records r) stored) promised) m)) (waits n (with_log n (There (with_record (covered m'.texts stored.records r) stored) promised) m'))
          both = waits_mirrors (with_log n (There (with_record (covered m.texts stored.records r) stored) promised) m) (with_log n (There (with_record (covered m'.texts stored.records r) stored) promised) m')
              (subst (λ (x : LogState). Mirrors (with_log n (There (with_record (covered m.texts stored.records r) stored) promised) m) (with_log n x m')) (sym same_log)
              (log_mirrors (There (with_record (covered m.texts stored.records r) stored) promised) m m' pair.mirrors))

          go : (b : Bool) → takes stored r ≡ b → Twin s (request.Record r) (taken k n r (There stored promised) m) (taken k n r (There stored promised) m')
          go false e = rw e (refused_twin (request.Record r) refusals.LogFull m m' refl refl refl)
          go true e = rw e (record {
            answers = refl;
            none = refl;
            none' = refl;
            outcome = goes_on refl refl pair.state both
                (subst Unfinished (sym (its_log n (There (with_record (covered m'.texts stored.records r) stored) promised) m')) no_exit)
                (λ h. let g : is_running s ≡ true = ap is_running on in clash (is_running s) g h);
          })

      -- the exit
      finished_twin : (what : Request) (exit : List ℕ) → is_exit (Ok what) ≡ true → Twin s what (finished k n exit (There stored promised) m) (finished k n exit (There stored promised) m')
      finished_twin what exit is_it = go (fits_file exit) refl
        where
          go : (b : Bool) → fits_file exit ≡ b → Twin s what (finished k n exit (There stored promised) m) (finished k n exit (There stored promised) m')
          go false e = rw e (refused_twin what refusals.LogFull m m' refl refl refl)
          go true e =
              let mid : Machine = with_log n (There (with_exit exit stored) (length stored.records)) m in
              let mid' : Machine = with_log n (There (with_exit exit stored) (length stored.records)) m' in
              let its : is_log (log_of (m.states k)) n ≡ true = ap (λ (x : ConnState). is_log (log_of x) n) (pair.state ∙ on) ∙ its_log_is n in
              rw e (record {
                answers = refl;
                none = refl;
                none' = refl;
                outcome = ends_it is_it (its_state k Dead (let_go (log_of (mid.states k)) mid)) (its_state k Dead (let_go (log_of (mid'.states k)) mid'))
                    (its_log n (There (with_exit exit stored) (length stored.records)) m' ∙ sym (its_log n (There (with_exit exit stored) (length stored.records)) m))
                    (subst Complete (sym (its_log n (There (with_exit exit stored) (length stored.records)) m)) refl)
                    (ap (λ (b : Bool). if b then None else m.owner n) its)
                    gone_waiting;
              })

    recorded_twin : (r : Record) → s ≡ Running (Some n) → Twin s (request.Record r) (work k s (request.Record r) n m) (work k s (request.Record r) n m')
    recorded_twin r on =
        let (stored, promised, at) = pair.there on in
        let at_m : recorded k (log_of s) r m ≡ taken k n r (There stored promised) m = ap (λ (x : ConnState). recorded k (log_of x) r m) on ∙ ap (λ (x : LogState). taken k n r x m) at in
        let at_m' : recorded k (log_of s) r m' ≡ taken k n r (There stored promised) m' = ap (λ (x : ConnState). recorded k (log_of x) r m') on ∙ ap (λ (x : LogState). taken k n r x m') (pair.mirrors.log ∙ at) in
        subst (λ (d : Done). Twin s (request.Record r) d (recorded k (log_of s) r m')) (sym at_m)
        (subst (λ (d : Done). Twin s (request.Record r) (taken k n r (There stored promised) m) d) (sym at_m') (taken_twin on stored promised at r))

    pub work_twin : (what : Request) → has_place s what ≡ true → (i i' : ℕ) → (opens s what ≡ true → (i ≡ n) × (i' ≡ n)) → Twin s what (work k s what i m) (work k s what i' m')
    work_twin request.Hello place i i' number = state_twin request.Hello Greeted (off (is_running s) place) refl refl
      where
        off : (b : Bool) → not b ≡ true → b ≡ false
        off false e = refl
        off true e = absurd (cc)
    work_twin (request.Accept accept) place i i' number = go pair.place
      where
        go : Place s → Twin s (request.Accept accept) (work k s (request.Accept accept) i m) (work k s (request.Accept accept) i' m')
        go (inside on) =
            let runs : is_running s ≡ true = ap is_running on in
            rw runs (still_twin (request.Accept accept) refl (rw runs refl))
        go (outside off alive) =
            let wants : accept.expect_iobufs ≡ true = let h : (false || accept.expect_iobufs) ≡ true = subst (λ (b : Bool). (b || accept.expect_iobufs) ≡ true) off place in h in
            let opening : opens s (request.Accept accept) ≡ true = rw (off, wants) refl in
            let (p, q) = number opening in
            let is : work k s (request.Accept accept) i m ≡ opened k (head_text accept.head) n m = (rw (off, wants) refl) ∙ ap (λ (x : ℕ). opened k (head_text accept.head) x m) p in
            let is' : work k s (request.Accept accept) i' m' ≡ opened k (head_text accept.head) n m' = (rw (off, wants) refl) ∙ ap (λ (x : ℕ). opened k (head_text accept.head) x m') q in
            subst (λ (d : Done). Twin s (request.Accept accept) d (work k s (request.Accept accept) i' m')) (sym is)
            (subst (λ (d : Done). Twin s (request.Accept accept) (opened k (head_text accept.head) n m) d) (sym is') (opened_twin accept off))
    work_twin (request.Reject report) place i i' number = rw place (still_twin (request.Reject report) refl refl)
    work_twin (request.Alert report) place i i' number = go pair.place
      where
        go : Place s → Twin s (request.Alert report) (work k s (request.Alert report) i m) (work k s (request.Alert report) i' m')
        go (inside on) =
            let runs : is_running s ≡ true = ap is_running on in
            rw runs (still_twin (request.Alert report) refl (rw runs refl))
        go (outside off alive) = rw off (state_twin (request.Alert report) Alerted off refl (rw off refl))
    work_twin (request.Restart restart) place i i' number = absurd (cc)
    work_twin (request.Record r) place i i' number = go pair.place
      where
        go : Place s → Twin s (request.Record r) (work k s (request.Record r) i m) (work k s (request.Record r) i' m')
        go (inside on) = recorded_twin r on
        go (outside off alive) = clash (is_running s) place off
    work_twin (request.Exit exit) place i i' number = go pair.place
      where
        go : Place s → Twin s (request.Exit exit) (work k s (request.Exit exit) i m) (work k s (request.Exit exit) i' m')
        go (outside off alive) = clash (is_running s) place off
        go (inside on) =
            let (stored, promised, at) = pair.there on in
            let at_m : exited k (log_of s) (exit_text exit) m ≡ finished k n (exit_text exit) (There stored promised) m =
            ap (λ (x : ConnState). exited k (log_of x) (exit_text exit) m) on ∙ ap (λ (x : LogState). finished k n (exit_text exit) x m) at in
            let at_m' : exited k (log_of s) (exit_text exit) m' ≡ finished k n (exit_text exit) (There stored promised) m' =
            ap (λ (x : ConnState). exited k (log_of x) (exit_text exit) m') on ∙ ap (λ (x : LogState). finished k n (exit_text exit) x m') (pair.mirrors.log ∙ at) in
            subst (λ (d : Done). Twin s (request.Exit exit) d (exited k (log_of s) (exit_text exit) m')) (sym at_m)
            (subst (λ (d : Done). Twin s (request.Exit exit) (finished k n (exit_text exit) (There stored promised) m) d) (sym at_m') (finished_twin on stored promised at (request.Exit exit) (exit_text exit) refl))

    -- ---- With its event line

    -- what a job does in both, with its line: the one that the table says, unless it was refused
    pub record Lined (what : Request) (line : List ℕ) (d d' : Done) : Type 0 where
      pub answers : d'.answers ≡ d.answers
      pub line_same : d'.line ≡ d.line
      pub line_is : is_refused d.answers ≡ false → d.line ≡ line
      pub outcome : Outcome s what d d'

    line_outcome : (what : Request) (line line' : List ℕ) (d d' : Done) → Outcome s what d d'
        → Outcome s what (record { answers = d.answers; line = line; machine = adds_line k line d.machine }) (record { answers = d'.answers; line = line'; machine = adds_line k line' d'.machine })
    line_outcome what line line' d d' (goes_on a b c e f g) = goes_on a b c (line_mirrors line line' d.machine d'.machine e) f g
    line_outcome what line line' d d' (dies a b c e) = dies a b c e
    line_outcome what line line' d d' (ends_it a b c e f g h) = ends_it a b c e f g h

    pub lined_twin : (set : Settings) (now : TimeSpec) (what : Request) (i i' : ℕ) (d d' : Done) → Twin s what d d' → line_in set now k s what i' ≡ line_in set now k s what i
        → (has_line set what ≡ true → (line_fits (line_in set now k s what i) m ≡ true) × (line_fits (line_in set now k s what i') m' ≡ true))
        → Lined what (if has_line set what then line_in set now k s what i else []) (lined set now k s what i m d) (lined set now k s what i' m' d')
    lined_twin set now what i i' d d' twin alike fits = go (has_line set what) refl (is_refused d.answers) refl
      where
        refused' : (b : Bool) → is_refused d.answers ≡ b → is_refused d'.answers ≡ b
        refused' b e = ap is_refused twin.answers ∙ e

        go : (a : Bool) → has_line set what ≡ a → (b : Bool) → is_refused d.answers ≡ b
            → Lined what (if has_line set what then line_in set now k s what i else []) (lined set now k s what i m d) (lined set now k s what i' m' d')
        go false e b f = rw e (record { answers = twin.answers; line_same = twin.none' ∙ sym twin.none; line_is = λ h. twin.none; outcome = twin.outcome })
        go true e true f =
            let f' = refused' true f in
            rw (e, f, f') (record { answers = twin.answers; line_same = twin.none' ∙ sym twin.none; line_is = λ h. clash (is_refused d.answers) f h; outcome = twin.outcome })
        go true e false f =
            let f' = refused' false f in
            let (p, q) = fits e in
            rw (e, f, f', p, q) (record {
              answers = twin.answers;
              line_same = alike;
              line_is = λ h. refl;
              outcome = line_outcome what (line_in set now k s what i) (line_in set now k s what i') d d' twin.outcome;
            })
