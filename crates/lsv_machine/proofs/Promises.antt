-- No more is promised than was shown, whatever jobs, answers and failures a history has.
use Rattle.std.proofs.Common.{◌≡◌, ◌≤◌, ℕ, List, [], ◌∷◌, ◌++◌, length, subst, arith, Option, Some, None}
use Rattle.std.specs.Prelude.{◌==◌, ◌&&◌, ◌||◌, Bool, true, false, if◌then◌else◌, Result, Ok, Err}
use Rattle.std.proofs.lemmas.Grind.{common_steps}
use Rattle.lsv_info.specs.Layout.{head_text, exit_text}
use Rattle.lsv_mask.specs.Masking.{covered}
use Rattle.lsv_record.specs.Points.{cut, kept}
use Rattle.lsv_record.specs.declared.records.Record.{Record}
use Rattle.lsv_request.specs.declared.refusal.Refusal.{Refusal}
use Rattle.lsv_request.specs.declared.request.Request.{Request}
use Rattle.lsv_request.specs.declared.request.Request.TheVariants as request
use Rattle.lsv_session.specs.declared.connection.ConnId.{ConnId}
use Rattle.lsv_machine.specs.Answers.{Answer, Saying, Saying.LogId, Saying.CommitPoint, Saying.Error, Saying.Shut, is_silent}
use Rattle.lsv_machine.specs.History.{Ledger, asked, becomes, blank, heard, heard_all, is_exit, is_gone, ledger_from, lowered_to, noted, opened_by, promised, raised_to, reopened, request_in, restarted_by, resumed_by, sent_one, shown, tells_log, writes}
use Rattle.lsv_machine.specs.Turns.{Happened, Happened.Did, Happened.Tailed, Happened.Begins}
use Rattle.lsv_record.proofs.Points.{length_cut}
use Rattle.lsv_machine.proofs.RecordLemmas.{raised_within}

abbrev pub Below : Option ℕ → ℕ → Type 0
Below None n = Unit {0}
Below (Some p) n = p ≤ n

abbrev Bounded : Ledger → Type 0
Bounded l = Below l.promised (length l.shown)

either : (b : Bool) (x y : Ledger) → Bounded x → Bounded y → Bounded (if b then x else y)
either true x y h d = h
either false x y h d = d

becomes_below : (t : Option ℕ) (p n : ℕ) → p ≤ n → Below (becomes t p) n
becomes_below None p n h = tt
becomes_below (Some q) p n h = h

raised_below : (t : Option ℕ) (rs : List Record) (c : ℕ) → Below t (length rs) → Below (raised_to t rs c) (length rs)
raised_below None rs c h = tt
raised_below (Some p) rs c h = raised_within p rs c h

lowered_below : (t : Option ℕ) (rs : List Record) (c n : ℕ) → Below t n → Below (lowered_to t rs c) n
lowered_below None rs c n h = tt
lowered_below (Some p) rs c n h = omega arith

longer_below : (t : Option ℕ) (n m : ℕ) → n ≤ m → Below t n → Below t m
longer_below None n m l h = tt
longer_below (Some p) n m l h = omega arith

restarted_bounded : (k : ConnId) (point : ℕ) (answers : List Answer) (in_cut : Bool) (l : Ledger) → Bounded l → Bounded (restarted_by k point answers in_cut l)
restarted_bounded k point answers in_cut l h =
    either (is_silent answers) (if l.shut k then l else resumed_by k point l) (if in_cut then record l { promised = lowered_to l.promised l.shown point } else l)
    (either (l.shut k) l (resumed_by k point l) h (becomes_below l.promised (kept l.shown point) (length (cut l.shown point)) (let e = length_cut l.shown point in omega arith)))
    (either in_cut (record l { promised = lowered_to l.promised l.shown point }) l (lowered_below l.promised l.shown point (length l.shown) h) h)

asked_bounded : (n : ℕ) (k : ConnId) (what : Result Request Refusal) (answers : List Answer) (in_cut : Bool) (l : Ledger) → Bounded l → Bounded (asked n k what answers in_cut l)
asked_bounded n k (Ok request.Hello) answers in_cut l h = h
asked_bounded n k (Ok (request.Accept accept)) answers in_cut l h = either (tells_log n answers) (opened_by k (head_text accept.head) l) l (omega arith) h
asked_bounded n k (Ok (request.Reject report)) answers in_cut l h = h
asked_bounded n k (Ok (request.Alert report)) answers in_cut l h = h
asked_bounded n k (Ok (request.Restart restart)) answers in_cut l h = either (restart.log == n) (restarted_by k restart.point answers in_cut l) l (restarted_bounded k restart.point answers in_cut l h) h
asked_bounded n k (Ok (request.Record r)) answers in_cut l h =
    either (is_silent answers && writes l k) (sent_one r l) l (longer_below l.promised (length l.shown) (length (l.shown ++ covered l.texts l.shown r ∷ [])) (grind (arith, common_steps)) h) h
asked_bounded n k (Ok (request.Exit exit)) answers in_cut l h = either (writes l k) (record l { exit = Some (exit_text exit) }) l h h
asked_bounded n k (Err why) answers in_cut l h = h

heard_bounded : (exits : Bool) (k : ConnId) (says : Saying) (l : Ledger) → Bounded l → Bounded (heard exits k says l)
heard_bounded true k (CommitPoint c) l h = either (writes l k) (record l { promised = becomes l.promised (length l.shown); finished = l.finished || true }) l (becomes_below l.promised (length l.shown) (length l.shown) (omega arith)) h
heard_bounded false k (CommitPoint c) l h = either (writes l k) (record l { promised = raised_to l.promised l.shown c; finished = l.finished || false }) l (raised_below l.promised l.shown c h) h
heard_bounded exits k Shut l h = h
heard_bounded exits k (LogId i) l h = h
heard_bounded exits k (Error why) l h = h

heard_all_bounded : (exits : Bool) (answers : List Answer) (l : Ledger) → Bounded l → Bounded (heard_all exits answers l)
heard_all_bounded exits [] l h = h
heard_all_bounded exits (a ∷ answers) l h = heard_all_bounded exits answers (heard exits a.conn a.says l) (heard_bounded exits a.conn a.says l h)

reopened_bounded : (k : ConnId) (b : Bool) (l : Ledger) → Bounded l → Bounded (reopened k b l)
reopened_bounded k true l h = h
reopened_bounded k false l h = h

noted_bounded : (n : ℕ) (l : Ledger) (x : Happened) → Bounded l → Bounded (noted n l x)
noted_bounded n l (Did act) h =
    let what = request_in act.job.body in
    reopened_bounded act.job.conn (is_gone act.job.body) (heard_all (is_exit what) act.answers (asked n act.job.conn what act.answers act.in_cut l))
    (heard_all_bounded (is_exit what) act.answers (asked n act.job.conn what act.answers act.in_cut l) (asked_bounded n act.job.conn what act.answers act.in_cut l h))
noted_bounded n l (Tailed tail) h = heard_all_bounded false tail.answers l h
noted_bounded n l (Begins texts) h = h

ledger_bounded : (n : ℕ) (h : List Happened) (l : Ledger) → Bounded l → Bounded (ledger_from n l h)
ledger_bounded n [] l b = b
ledger_bounded n (x ∷ h) l b = ledger_bounded n h (noted n l x) (noted_bounded n l x b)

pub promised_within : (h : List Happened) (n p : ℕ) → promised h n ≡ Some p → p ≤ length (shown h n)
promised_within h n p e = let P : Option ℕ → Type 0 = λ o. Below o (length (shown h n)) in let b : Below (Some p) (length (shown h n)) = subst P e (ledger_bounded n h blank tt) in b
