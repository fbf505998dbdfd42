-- What is promised of a log stays promised until somebody asks to go on with it.
use Rattle.std.proofs.Common.{◌≡◌, ◌≢◌, ◌≤◌, ℕ, List, [], ◌∷◌, ◌++◌, length, refl, sym, ◌∙◌, subst, arith, Option, Some, None}
use Rattle.std.specs.Prelude.{◌&&◌, ◌||◌, Bool, true, false, if◌then◌else◌, Result, Ok, Err, unwrap_or, max}
use Rattle.std.proofs.lemmas.Grind.{common_steps}
use Rattle.lsv_info.specs.Layout.{exit_text}
use Rattle.lsv_mask.specs.Masking.{covered}
use Rattle.lsv_record.specs.Points.{first}
use Rattle.lsv_record.specs.declared.records.Record.{Record}
use Rattle.lsv_request.specs.declared.refusal.Refusal.{Refusal}
use Rattle.lsv_request.specs.declared.request.Request.{Request}
use Rattle.lsv_request.specs.declared.request.Request.TheVariants as request
use Rattle.lsv_request.specs.declared.request.Restart.{Restart}
use Rattle.lsv_session.specs.declared.connection.ConnId.{ConnId}
use Rattle.lsv_machine.specs.Answers.{Answer, Saying, Saying.CommitPoint, Saying.Error, Saying.LogId, Saying.Shut, is_silent}
use Rattle.lsv_machine.specs.History.{Ledger, asked, becomes, blank, heard, heard_all, is_exit, is_gone, ledger, raised_to, reopened, request_in, sent_one, tells_log, writes}
use Rattle.lsv_machine.specs.Machine.{Machine, Settings}
use Rattle.lsv_machine.specs.Stands.{StandsFor}
use Rattle.lsv_machine.specs.Turns.{Happened, Happened.Did, Happened.Tailed, Happened.Begins, Run, raised}
use Rattle.lsv_machine.proofs.Choices.{EqOr.equal, EqOr.unequal, eq_or}
use Rattle.lsv_machine.proofs.Promises.{promised_within}
use Rattle.lsv_machine.proofs.RunLaws.{ledger_append}
use Rattle.lsv_upstream.specs.Held.{NoRestart, PromisesAtLeast}
use Rattle.lsv_upstream.proofs.Once.{told_first}
use Rattle.lsv_upstream.proofs.Told.{all_promises}

-- at least f records are promised, and that many are shown
record Keeps (f : ℕ) (l : Ledger) : Type 0 where
  promises : PromisesAtLeast l f
  shown : f ≤ length l.shown

some_longer : (rs : List Record) (r : Record) (f : ℕ) → f ≤ length rs → f ≤ length (rs ++ r ∷ [])
some_longer rs r f low = grind (arith, common_steps)

not_both : (p : ℕ) → Some p ≡ None → ⊥
not_both p e = cc

raised_low : (p : ℕ) (rs : List Record) (c : ℕ) → p ≤ raised p rs c
raised_low p rs c = go (first rs c)
  where
    go : (o : Option ℕ) → p ≤ max p (unwrap_or o p)
    go None = omega arith
    go (Some x) = omega arith

-- a request that isn't to go on with the log, and isn't answered by its number
asked_keeps : (n f : ℕ) (k : ConnId) (w : Result Request Refusal) (answers : List Answer) (in_cut : Bool) (l : Ledger) → ((restart : Restart) → w ≡ Ok (request.Restart restart) → restart.log ≢ n) → tells_log n answers ≡ false
    → Keeps f l → Keeps f (asked n k w answers in_cut l)
asked_keeps n f k (Ok request.Hello) answers in_cut l alone mute keeps = keeps
asked_keeps n f k (Ok (request.Accept accept)) answers in_cut l alone mute keeps = rw mute keeps
asked_keeps n f k (Ok (request.Reject report)) answers in_cut l alone mute keeps = keeps
asked_keeps n f k (Ok (request.Alert report)) answers in_cut l alone mute keeps = keeps
asked_keeps n f k (Ok (request.Restart restart)) answers in_cut l alone mute keeps = elim (eq_or restart.log n) [ equal p t ↦ absurd (alone restart refl p) | unequal p t ↦ rw t keeps ]
asked_keeps n f k (Ok (request.Record r)) answers in_cut l alone mute keeps = go (is_silent answers && writes l k)
  where
    go : (b : Bool) → Keeps f (if b then sent_one r l else l)
    go true = record { promises = keeps.promises; shown = some_longer l.shown (covered l.texts l.shown r) f keeps.shown }
    go false = keeps
asked_keeps n f k (Ok (request.Exit exit)) answers in_cut l alone mute keeps = go (writes l k)
  where
    go : (b : Bool) → Keeps f (if b then record l { exit = Some (exit_text exit) } else l)
    go true = record { promises = keeps.promises; shown = keeps.shown }
    go false = keeps
asked_keeps n f k (Err why) answers in_cut l alone mute keeps = keeps

-- answers only raise it
heard_keeps : (f : ℕ) (exits : Bool) (k : ConnId) (says : Saying) (l : Ledger) → Keeps f l → Keeps f (heard exits k says l)
heard_keeps f exits k (LogId i) l keeps = keeps
heard_keeps f exits k (Error why) l keeps = keeps
heard_keeps f exits k Shut l keeps = record { promises = keeps.promises; shown = keeps.shown }
heard_keeps f exits k (CommitPoint c) l keeps = go (writes l k)
  where
    both : (b : Bool) → (t : Option ℕ) → ((p : ℕ) × (t ≡ Some p) × (f ≤ p)) → (p : ℕ) × ((if b then becomes t (length l.shown) else raised_to t l.shown c) ≡ Some p) × (f ≤ p)
    both b None (p, e, low) = absurd (cc)
    both true (Some q) (p, e, low) = (length l.shown, refl, keeps.shown)
    both false (Some q) (p, e, low) = (raised q l.shown c, refl, (let same_ : q ≡ p = cc in let up = raised_low q l.shown c in omega (arith, same_, up, low)))

    go : (b : Bool) → Keeps f (if b then record l { promised = if exits then becomes l.promised (length l.shown) else raised_to l.promised l.shown c; finished = l.finished || exits } else l)
    go true = record { promises = both exits l.promised keeps.promises; shown = keeps.shown }
    go false = keeps

all_keeps : (f : ℕ) (exits : Bool) (answers : List Answer) (l : Ledger) → Keeps f l → Keeps f (heard_all exits answers l)
all_keeps f exits [] l keeps = keeps
all_keeps f exits (a ∷ answers) l keeps = all_keeps f exits answers (heard exits a.conn a.says l) (heard_keeps f exits a.conn a.says l keeps)

reopened_keeps : (f : ℕ) (k : ConnId) (b : Bool) (l : Ledger) → Keeps f l → Keeps f (reopened k b l)
reopened_keeps f k true l keeps = record { promises = keeps.promises; shown = keeps.shown }
reopened_keeps f k false l keeps = keeps

-- one event of a run
pub event_promises : (set : Settings) (n : ℕ) (g : List Happened) (m end : Machine) (x : Happened) (h : List Happened) (f : ℕ) → StandsFor set n m (ledger g n) → Run set m (x ∷ h) end → (more : List Happened) → NoRestart n (x ∷ more)
    → PromisesAtLeast (ledger g n) f → PromisesAtLeast (ledger (g ++ x ∷ []) n) f
event_promises set n g m end (Tailed tail) h f stands runs more alone promises = subst (λ (l : Ledger). PromisesAtLeast l f) (sym (ledger_append n blank g (Tailed tail ∷ []))) (all_promises tail.answers (ledger g n) f promises)
event_promises set n g m end (Begins texts) h f stands runs more alone promises = absurd runs
event_promises set n g m end (Did act) h f stands (mid, step, rest) more alone (p, e, low) =
    subst (λ (l : Ledger). PromisesAtLeast l f) (sym (ledger_append n blank g (Did act ∷ []))) (reopened_keeps f act.job.conn (is_gone act.job.body) (heard_all (is_exit (request_in act.job.body)) act.answers a) (all_keeps f (is_exit (request_in act.job.body)) act.answers a now)).promises
  where
    l : Ledger
    l = ledger g n

    a : Ledger
    a = asked n act.job.conn (request_in act.job.body) act.answers act.in_cut l

    within : f ≤ length l.shown
    within = let w = promised_within g n p e in omega (arith, w, low)

    mute : (b : Bool) → tells_log n act.answers ≡ b → tells_log n act.answers ≡ false
    mute false t = t
    mute true t = absurd (not_both p (sym e ∙ told_first set n l m mid act stands step t))

    now : Keeps f a
    now = asked_keeps n f act.job.conn (request_in act.job.body) act.answers act.in_cut l (alone.0 refl) (mute (tells_log n act.answers) refl) (record { promises = (p, e, low); shown = within })
