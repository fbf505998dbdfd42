-- One job of a legal conversation: what it does where nothing is in the way.
use Rattle.std.proofs.Common.{◌≡◌, ◌≤◌, ◌<◌, ◌+◌, ◌^◌, ℕ, List, [], ◌∷◌, ◌++◌, length, refl, sym, ◌∙◌, ap, arith, Some, None, ◌⊎◌, length-append}
use Rattle.std.specs.Prelude.{◌==◌, ◌||◌, nat_lt, Bool, true, false, if◌then◌else◌}
use Rattle.std.proofs.lemmas.Bool.Decides.{nat_tests}
use Rattle.lsv_base.specs.declared.time.TimeSpec.{TimeSpec}
use Rattle.lsv_mask.specs.Masking.{covered, mask}
use Rattle.lsv_mask.proofs.Covers.{covered_masked, more_masked}
use Rattle.lsv_record.specs.Points.{Stored}
use Rattle.lsv_record.specs.Records.{elapsed}
use Rattle.lsv_record.specs.declared.records.Record.{Record}
use Rattle.lsv_request.specs.declared.request.Request.{Request}
use Rattle.lsv_request.specs.declared.request.Request.TheVariants as request
use Rattle.lsv_session.specs.declared.connection.ConnId.{ConnId}
use Rattle.lsv_session.specs.declared.connection.ConnState.{ConnState}
use Rattle.lsv_session.specs.declared.connection.ConnState.TheVariants.{Running, Dead}
use Rattle.lsv_session.specs.declared.job.Body.{Body}
use Rattle.lsv_session.specs.declared.job.Body.TheVariants as body
use Rattle.lsv_machine.specs.Answers.{Saying.CommitPoint, Saying.LogId, Saying.Shut, is_refused, say}
use Rattle.lsv_machine.specs.Failures.{AsksFor}
use Rattle.lsv_machine.specs.Machine.{LogState, LogState.There, Machine, Settings, insert_once, is_dead, is_running, leaves, let_go, log_of, with_log, with_owner, with_state}
use Rattle.lsv_machine.specs.Work.{Done, adds_line, ends, exited, fits_file, has_line, last_number, line_fits, line_in, lined, makes, next_number, opened, plain, recorded, silently, takes, waits, with_exit, with_record, work}
use Rattle.lsv_machine.proofs.Choices.{EqOr.equal, EqOr.unequal, eq_or}
use Rattle.lsv_machine.proofs.Shapes.{its_state}

-- ---- What is known of the machine

-- the connection is there, its log isn't opened yet, and the next number is n
pub record Opens (set : Settings) (texts : List (List ℕ)) (k : ConnId) (n : ℕ) (s : ConnState) (m : Machine) : Type 0 where
  pub state : m.states k ≡ s
  pub texts_are : m.texts ≡ texts
  pub closed : is_running s ≡ false
  pub alive : is_dead s ≡ false
  pub drawn : m.failed_draws ≡ 0
  pub next : next_number set m ≡ n
  pub none_waits : m.waiting ≡ []

-- a log with these records sent
abbrev pub log_with : (texts : List (List ℕ)) (head : List ℕ) → List Record → Stored
log_with texts head sent = record { head = head; records = mask texts sent; exit = None; cuts = 0 }

-- the connection writes log n, which waits for a commit point or not
pub record Writes (texts : List (List ℕ)) (k : ConnId) (n : ℕ) (head : List ℕ) (sent : List Record) (wait : Bool) (m : Machine) : Type 0 where
  pub state : m.states k ≡ Running (Some n)
  pub texts_are : m.texts ≡ texts
  pub promised : ℕ
  pub log : m.logs n ≡ There (log_with texts head sent) promised
  pub owned : m.owner n ≡ Some k
  pub waits_are : m.waiting ≡ (if wait then n ∷ [] else [])

-- the log has its exit
pub record Rests (k : ConnId) (n : ℕ) (log : LogState) (m : Machine) : Type 0 where
  pub state : m.states k ≡ Dead
  pub log_is : m.logs n ≡ log
  pub free : m.owner n ≡ None
  pub none_waits : m.waiting ≡ []

-- ---- What is asked

pub asked_does : (set : Settings) (now : TimeSpec) (k : ConnId) (b : Body) (i : ℕ) (m : Machine) (s : ConnState) (asked : Request) → m.states k ≡ s → is_dead s ≡ false → AsksFor s b asked
    → plain set now (record { conn = k; body = b }) i m ≡ lined set now k s asked i m (work k s asked i m)
asked_does set now k (body.Msg message) i m s asked at living asks =
    let dead : is_dead (m.states k) ≡ false = ap is_dead at ∙ living in
    rw (dead, at, asks) refl
asked_does set now k (body.Bad fault) i m s asked at living asks = absurd asks
asked_does set now k body.Gone i m s asked at living asks = absurd asks

-- what a line adds to what was done: no refusal
pub data Lined (set : Settings) (now : TimeSpec) (k : ConnId) (s : ConnState) (asked : Request) (n : ℕ) (m : Machine) (d : Done) : Type 0 where
  unlined : has_line set asked ≡ false → lined set now k s asked n m d ≡ d → Lined set now k s asked n m d
  with_line : has_line set asked ≡ true → lined set now k s asked n m d ≡ record { answers = d.answers; line = line_in set now k s asked n; machine = adds_line k (line_in set now k s asked n) d.machine } → Lined set now k s asked n m d

pub lined_is : (set : Settings) (now : TimeSpec) (k : ConnId) (s : ConnState) (asked : Request) (n : ℕ) (m : Machine) (d : Done) → is_refused d.answers ≡ false
    → (has_line set asked ≡ true → line_fits (line_in set now k s asked n) m ≡ true) → Lined set now k s asked n m d
lined_is set now k s asked n m d kept fits = go (has_line set asked) refl
  where
    go : (b : Bool) → has_line set asked ≡ b → Lined set now k s asked n m d
    go false e = unlined e (rw e refl)
    go true e = let f = fits e in with_line e (rw (e, kept, f) refl)

-- ---- Outside of a session

module _ (set : Settings) (texts : List (List ℕ)) (k : ConnId) (n : ℕ) (s : ConnState) (m : Machine) (o : Opens set texts k n s m) where
  pub greets : (t : ConnState) → is_running t ≡ false → is_dead t ≡ false → Opens set texts k n t (with_state k t m)
  greets t closed alive = record { state = its_state k t m; texts_are = o.texts_are; closed = closed; alive = alive; drawn = o.drawn; next = o.next; none_waits = o.none_waits }

  -- the machine whose log was opened
  abbrev pub has_opened : List ℕ → Machine
  has_opened head = with_state k (Running (Some n)) (with_owner n (Some k) (makes n head m))

  pub opened_is : (head : List ℕ) → n ≤ last_number → fits_file head ≡ true → opened k head n m ≡ record { answers = say k (LogId n) ∷ []; line = []; machine = has_opened head }
  opened_is head few fits = let e : nat_lt last_number n ≡ false = not_more last_number n few in rw (e, fits) refl
    where
      not_more : (a b : ℕ) → b ≤ a → nat_lt a b ≡ false
      not_more a b h = grind (arith, nat_tests)

  pub opens_now : (head : List ℕ) → Writes texts k n head [] false (has_opened head)
  opens_now head = record {
    state = its_state k (Running (Some n)) (with_owner n (Some k) (makes n head m));
    texts_are = o.texts_are;
    promised = 0;
    log = elim (eq_or n n) [ equal p t ↦ rw t refl | unequal p t ↦ absurd (p refl) ];
    owned = elim (eq_or n n) [ equal p t ↦ rw t refl | unequal p t ↦ absurd (p refl) ];
    waits_are = o.none_waits;
  }

  pub opens_lined : (line : List ℕ) → Opens set texts k n s (adds_line k line m)
  opens_lined line = record { state = o.state; texts_are = o.texts_are; closed = o.closed; alive = o.alive; drawn = o.drawn; next = o.next; none_waits = o.none_waits }

-- ---- In a session

module _ (texts : List (List ℕ)) (k : ConnId) (n : ℕ) (head : List ℕ) (sent : List Record) (wait : Bool) (m : Machine) (w : Writes texts k n head sent wait m) where
  pub writes_lined : (line : List ℕ) → Writes texts k n head sent wait (adds_line k line m)
  writes_lined line = record { state = w.state; texts_are = w.texts_are; promised = w.promised; log = w.log; owned = w.owned; waits_are = w.waits_are }

  -- ---- A record

  -- the machine whose log has one record more
  abbrev pub has_taken : Record → Machine
  has_taken r = waits n (with_log n (There (with_record (covered m.texts (log_with texts head sent).records r) (log_with texts head sent)) w.promised) m)

  pub record_taken : (r : Record) → takes (log_with texts head sent) r ≡ true → recorded k (Some n) r m ≡ silently (has_taken r)
  record_taken r takes_it = let at = w.log in rw (at, takes_it) refl

  pub takes_now : (r : Record) → Writes texts k n head (sent ++ r ∷ []) true (has_taken r)
  takes_now r = record {
    state = w.state;
    texts_are = w.texts_are;
    promised = w.promised;
    log = at_n ∙ ap (λ (rs : List Record). There (record { head = head; records = rs; exit = None; cuts = 0 }) w.promised) more;
    owned = w.owned;
    waits_are = waiting wait w.waits_are;
  }
    where
      at_n : (has_taken r).logs n ≡ There (with_record (covered m.texts (mask texts sent) r) (log_with texts head sent)) w.promised
      at_n = elim (eq_or n n) [ equal p t ↦ rw t refl | unequal p t ↦ absurd (p refl) ]

      more : mask texts sent ++ covered m.texts (mask texts sent) r ∷ [] ≡ mask texts (sent ++ r ∷ [])
      more =
          let a : covered m.texts (mask texts sent) r ≡ covered texts sent r = ap (λ (t : List (List ℕ)). covered t (mask texts sent) r) w.texts_are ∙ covered_masked texts sent r in
          ap (λ (q : Record). mask texts sent ++ q ∷ []) a ∙ sym (more_masked texts sent r)

      waiting : (b : Bool) → m.waiting ≡ (if b then n ∷ [] else []) → insert_once n m.waiting ≡ n ∷ []
      waiting false e = rw e refl
      waiting true e = elim (eq_or n n) [ equal p t ↦ rw (e, t) refl | unequal p t ↦ absurd (p refl) ]

  -- ---- An exit

  -- the log with its exit
  abbrev pub log_ended : List ℕ → LogState
  log_ended exit = There (with_exit exit (log_with texts head sent)) (length (mask texts sent))

  pub exit_set : (exit : List ℕ) → fits_file exit ≡ true
      → exited k (Some n) exit m ≡ ends k (say k (CommitPoint (elapsed (mask texts sent))) ∷ say k Shut ∷ []) (with_log n (log_ended exit) m)
  exit_set exit fits = let at = w.log in rw (at, fits) refl

  pub ends_now : (exit : List ℕ) → Rests k n (log_ended exit) (leaves k Dead (with_log n (log_ended exit) m))
  ends_now exit = record {
    state = its_state k Dead (let_go (log_of (m.states k)) (with_log n (log_ended exit) m));
    log_is = elim (eq_or n n) [ equal p t ↦ rw t refl | unequal p t ↦ absurd (p refl) ];
    free = elim (eq_or n n) [ equal p t ↦ let at = w.state in rw (at, t) refl | unequal p t ↦ absurd (p refl) ];
    none_waits = waiting wait w.waits_are;
  }
    where
      waiting : (b : Bool) → m.waiting ≡ (if b then n ∷ [] else []) → (let_go (log_of (m.states k)) (with_log n (log_ended exit) m)).waiting ≡ []
      waiting false e = let at = w.state in rw (at, e) refl
      waiting true e = let at = w.state in elim (eq_or n n) [ equal p t ↦ rw (at, e, t) refl | unequal p t ↦ absurd (p refl) ]

pub rests_lined : (k : ConnId) (n : ℕ) (log : LogState) (m : Machine) (line : List ℕ) → Rests k n log m → Rests k n log (adds_line k line m)
rests_lined k n log m line r = record { state = r.state; log_is = r.log_is; free = r.free; none_waits = r.none_waits }
