-- What leaves a log's ledger as it was, but for a smaller promise: a history that doesn't settle a log that nobody writes, and a job of a connection that doesn't write it.
use Rattle.std.proofs.Common.{◌≡◌, ℕ, List, [], ◌∷◌, ◌++◌, refl, sym, ◌∙◌, ap, subst, arith, Option, Some, None}
use Rattle.std.specs.Prelude.{◌==◌, ◌&&◌, ◌||◌, not, Bool, true, false, if◌then◌else◌, Result, Ok, Err}
use Rattle.std.specs.List.{list_any}
use Rattle.lsv_disk.specs.View.{Image}
use Rattle.lsv_record.specs.declared.records.Record.{Record}
use Rattle.lsv_request.specs.declared.refusal.Refusal.{Refusal}
use Rattle.lsv_request.specs.declared.request.Request.{Request}
use Rattle.lsv_request.specs.declared.request.Request.TheVariants as request
use Rattle.lsv_session.specs.declared.connection.ConnId.{ConnId}
use Rattle.lsv_machine.specs.Answers.{Answer, Saying, Saying.LogId, Saying.CommitPoint, Saying.Error, Saying.Shut, is_silent}
use Rattle.lsv_machine.specs.Durable.{Good, Reading}
use Rattle.lsv_machine.specs.Failures.{Act}
use Rattle.lsv_machine.specs.History.{Ledger, asked, blank, heard, heard_all, is_exit, is_gone, is_look, ledger, ledger_from, lowered_to, noted, reads_log, reopened, request_in, resumed_by, sent_one, settled, settled_from, settles, tells_log, writes}
use Rattle.lsv_machine.specs.Machine.{same, without_conn}
use Rattle.lsv_machine.specs.Silence.{AllTo}
use Rattle.lsv_machine.specs.Turns.{Happened, Happened.Did, Happened.Tailed, Happened.Begins}
use Rattle.lsv_machine.proofs.Choices.{SameOr.alike, SameOr.apart, same_or}
use Rattle.lsv_machine.proofs.RunLaws.{ledger_append}
use Rattle.lsv_machine.proofs.Weaken.{Lower, Weaker, at_weaker, lower_same, weaker_on, weaker_same}

pub record Untouched (l l' : Ledger) : Type 0 where
  pub writers : l'.writers ≡ l.writers
  pub weaker : Weaker l l'

pub untouched_same : (l : Ledger) → Untouched l l
untouched_same l = record { writers = refl; weaker = weaker_same l }

pub untouched_on : (a b c : Ledger) → Untouched a b → Untouched b c → Untouched a c
untouched_on a b c s t = record { writers = t.writers ∙ s.writers; weaker = weaker_on a b c s.weaker t.weaker }

nobody : (l : Ledger) (k : ConnId) → l.writers ≡ [] → writes l k ≡ false
nobody l k e = rw e refl

still : (k : ConnId) (l l' : Ledger) → Untouched l l' → writes l k ≡ false → writes l' k ≡ false
still k l l' a e = ap (λ (ws : List ConnId). list_any (same k) ws) a.writers ∙ e

without_absent : (k : ConnId) (ws : List ConnId) → list_any (same k) ws ≡ false → without_conn k ws ≡ ws
without_absent k [] e = refl
without_absent k (j ∷ ws) e = elim (same_or k j) [
  | alike p t ↦ absurd (let f : true || list_any (same k) ws ≡ false = rw t at e in cc)
  | apart p t ↦ let f : false || list_any (same k) ws ≡ false = rw t at e in
      elim (same_or j k) [
        | alike q u ↦ absurd (p (sym q))
        | apart q u ↦ rw u (ap (λ (xs : List ConnId). j ∷ xs) (without_absent k ws f))
      ]
]

lowered : (o : Option ℕ) (rs : List Record) (c : ℕ) → Lower (lowered_to o rs c) o
lowered None rs c = tt
lowered (Some p) rs c = omega arith

pub or_false : (a b : Bool) → a || b ≡ false → (a ≡ false) × (b ≡ false)
or_false true b e = absurd (cc)
or_false false b e = (refl, e)

-- ---- Answers

heard_untouched : (exits : Bool) (k : ConnId) (says : Saying) (l : Ledger) → writes l k ≡ false → Untouched l (heard exits k says l)
heard_untouched exits k (CommitPoint c) l e = rw e (untouched_same l)
heard_untouched exits k Shut l e = record { writers = without_absent k l.writers e; weaker = record { head = refl; sent = refl; shown = refl; exit = refl; finished = refl; lower = lower_same l.promised } }
heard_untouched exits k (LogId i) l e = untouched_same l
heard_untouched exits k (Error why) l e = untouched_same l

-- answers to one that doesn't write the log
heard_to : (exits : Bool) (k : ConnId) (answers : List Answer) (l : Ledger) → AllTo k answers → writes l k ≡ false → Untouched l (heard_all exits answers l)
heard_to exits k [] l to e = untouched_same l
heard_to exits k (a ∷ answers) l (it, to) e =
    let e' : writes l a.conn ≡ false = ap (writes l) it ∙ e in
    let s = heard_untouched exits a.conn a.says l e' in
    let next = heard exits a.conn a.says l in
    untouched_on l next (heard_all exits answers next) s (heard_to exits k answers next to (still k l next s e))

-- answers to anybody, where nobody writes the log
pub heard_free : (exits : Bool) (answers : List Answer) (l : Ledger) → l.writers ≡ [] → Untouched l (heard_all exits answers l)
heard_free exits [] l e = untouched_same l
heard_free exits (a ∷ answers) l e =
    let s = heard_untouched exits a.conn a.says l (nobody l a.conn e) in
    let next = heard exits a.conn a.says l in
    untouched_on l next (heard_all exits answers next) s (heard_free exits answers next (s.writers ∙ e))

-- ---- A job

restart_untouched : (l : Ledger) (k : ConnId) (c : ℕ) (it quiet shut look in_cut : Bool) → it && (if quiet then not shut else look) ≡ false
    → Untouched l (if it then (if quiet then (if shut then l else resumed_by k c l) else if in_cut then record l { promised = lowered_to l.promised l.shown c } else l) else l)
restart_untouched l k c false quiet shut look in_cut s = untouched_same l
restart_untouched l k c true true true look in_cut s = untouched_same l
restart_untouched l k c true true false look in_cut s = absurd (cc)
restart_untouched l k c true false shut look true s = record { writers = refl; weaker = record { head = refl; sent = refl; shown = refl; exit = refl; finished = refl; lower = lowered l.promised l.shown c } }
restart_untouched l k c true false shut look false s = untouched_same l

record_untouched : (l : Ledger) (quiet : Bool) (r : Record) → Untouched l (if quiet && false then sent_one r l else l)
record_untouched l true r = untouched_same l
record_untouched l false r = untouched_same l

asked_untouched : (n : ℕ) (k : ConnId) (what : Result Request Refusal) (answers : List Answer) (in_cut : Bool) (l : Ledger) → writes l k ≡ false → tells_log n answers ≡ false
    → reads_log n (l.shut k) what answers ≡ false → Untouched l (asked n k what answers in_cut l)
asked_untouched n k (Ok request.Hello) answers in_cut l e a s = untouched_same l
asked_untouched n k (Ok (request.Accept accept)) answers in_cut l e a s = rw a (untouched_same l)
asked_untouched n k (Ok (request.Reject report)) answers in_cut l e a s = untouched_same l
asked_untouched n k (Ok (request.Alert report)) answers in_cut l e a s = untouched_same l
asked_untouched n k (Ok (request.Restart restart)) answers in_cut l e a s = restart_untouched l k restart.point (restart.log == n) (is_silent answers) (l.shut k) (is_look answers) in_cut s
asked_untouched n k (Ok (request.Record r)) answers in_cut l e a s = rw e (record_untouched l (is_silent answers) r)
asked_untouched n k (Ok (request.Exit exit)) answers in_cut l e a s = rw e (untouched_same l)
asked_untouched n k (Err why) answers in_cut l e a s = untouched_same l

reopened_untouched : (k : ConnId) (b : Bool) (l : Ledger) → Untouched l (reopened k b l)
reopened_untouched k true l = record { writers = refl; weaker = record { head = refl; sent = refl; shown = refl; exit = refl; finished = refl; lower = lower_same l.promised } }
reopened_untouched k false l = untouched_same l

-- a job of a connection that doesn't write the log, and doesn't settle it
pub job_untouched : (n : ℕ) (l : Ledger) (act : Act) → writes l act.job.conn ≡ false → AllTo act.job.conn act.answers → settles n l (Did act) ≡ false → Untouched l (noted n l (Did act))
job_untouched n l act e to s =
    let what = request_in act.job.body in
    let both = or_false (tells_log n act.answers) (reads_log n (l.shut act.job.conn) what act.answers) s in
    let one = asked n act.job.conn what act.answers act.in_cut l in
    let two = heard_all (is_exit what) act.answers one in
    let three = reopened act.job.conn (is_gone act.job.body) two in
    let a = asked_untouched n act.job.conn what act.answers act.in_cut l e both.0 both.1 in
    let b = heard_to (is_exit what) act.job.conn act.answers one to (still act.job.conn l one a e) in
    untouched_on l one three a (untouched_on one two three b (reopened_untouched act.job.conn (is_gone act.job.body) two))

-- ---- A history that doesn't settle a log that nobody writes

noted_untouched : (n : ℕ) (l : Ledger) (x : Happened) → l.writers ≡ [] → settles n l x ≡ false → Untouched l (noted n l x)
noted_untouched n l (Did act) e s =
    let what = request_in act.job.body in
    let both = or_false (tells_log n act.answers) (reads_log n (l.shut act.job.conn) what act.answers) s in
    let one = asked n act.job.conn what act.answers act.in_cut l in
    let two = heard_all (is_exit what) act.answers one in
    let three = reopened act.job.conn (is_gone act.job.body) two in
    let a = asked_untouched n act.job.conn what act.answers act.in_cut l (nobody l act.job.conn e) both.0 both.1 in
    let b = heard_free (is_exit what) act.answers one (a.writers ∙ e) in
    untouched_on l one three a (untouched_on one two three b (reopened_untouched act.job.conn (is_gone act.job.body) two))
noted_untouched n l (Tailed tail) e s = heard_free false tail.answers l e
noted_untouched n l (Begins texts) e s = record { writers = sym e; weaker = record { head = refl; sent = refl; shown = refl; exit = refl; finished = refl; lower = lower_same l.promised } }

pub untouched_from : (n : ℕ) (l : Ledger) (h : List Happened) → l.writers ≡ [] → settled_from n l h ≡ false → Untouched l (ledger_from n l h)
untouched_from n l [] e s = untouched_same l
untouched_from n l (x ∷ h) e s =
    let both = or_false (settles n l x) (settled_from n (noted n l x) h) s in
    let a = noted_untouched n l x e both.0 in
    untouched_on l (noted n l x) (ledger_from n (noted n l x) h) a (untouched_from n (noted n l x) h (a.writers ∙ e) both.1)

pub untouched : (g h : List Happened) (n : ℕ) → (ledger g n).writers ≡ [] → settled n g h ≡ false → Untouched (ledger g n) (ledger (g ++ h) n)
untouched g h n e s = subst (λ (l : Ledger). Untouched (ledger g n) l) (sym (ledger_append n blank g h)) (untouched_from n (ledger g n) h e s)

pub good_untouched : (r : Reading) (g h : List Happened) (image : Image) (n : ℕ) → (ledger g n).writers ≡ [] → settled n g h ≡ false → Good r g image n → Good r (g ++ h) image n
good_untouched r g h image n e s good = at_weaker r (ledger g n) (ledger (g ++ h) n) n image (untouched g h n e s).weaker good
