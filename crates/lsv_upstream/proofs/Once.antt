-- The number of a log is told once.
use Rattle.std.proofs.Common.{◌≡◌, ℕ, List, [], ◌∷◌, refl, length, Option, Some, None}
use Rattle.std.specs.Prelude.{◌==◌, ◌||◌, ◌&&◌, Bool, true, false, if◌then◌else◌, is_some, Result, Ok, Err}
use Rattle.lsv_info.specs.Layout.{exit_text, head_text}
use Rattle.lsv_request.specs.declared.refusal.Refusal.{Refusal}
use Rattle.lsv_request.specs.declared.request.Request.{Request}
use Rattle.lsv_request.specs.declared.request.Request.TheVariants as request
use Rattle.lsv_session.specs.declared.connection.ConnId.{ConnId}
use Rattle.lsv_machine.specs.Answers.{Answer, Saying, Saying.CommitPoint, Saying.Error, Saying.LogId, Saying.Shut, is_silent}
use Rattle.lsv_machine.specs.Failures.{Act, Step}
use Rattle.lsv_machine.specs.History.{Ledger, asked, becomes, heard, heard_all, is_exit, is_gone, ledger_from, lowered_to, noted, opened_by, raised_to, reopened, request_in, resumed_by, sent_one, tells_log, writes}
use Rattle.lsv_machine.specs.Machine.{Machine, Settings}
use Rattle.lsv_machine.specs.Stands.{StandsFor}
use Rattle.lsv_machine.specs.Turns.{Happened, Happened.Did, Happened.Tailed, Happened.Begins}
use Rattle.lsv_upstream.proofs.Answering.{told_above}

-- where it is told, nothing was promised before
pub told_first : (set : Settings) (n : ℕ) (l : Ledger) (m after : Machine) (act : Act) → StandsFor set n m l → Step set m act after → tells_log n act.answers ≡ true → l.promised ≡ None
told_first set n l m after act stands step told = let at = told_above set n m act after stands.sound step told in stands.untold at.0 at.1

abbrev pub IsPromised : Ledger → Type 0
IsPromised l = is_some l.promised ≡ true

either : (b : Bool) (x y : Ledger) → IsPromised x → IsPromised y → IsPromised (if b then x else y)
either true x y h g = h
either false x y h g = g

becomes_is : (t : Option ℕ) (p : ℕ) → is_some t ≡ true → is_some (becomes t p) ≡ true
becomes_is None p e = absurd (cc)
becomes_is (Some q) p e = refl

raised_is : (t : Option ℕ) (rs : List _) (c : ℕ) → is_some t ≡ true → is_some (raised_to t rs c) ≡ true
raised_is None rs c e = absurd (cc)
raised_is (Some q) rs c e = refl

lowered_is : (t : Option ℕ) (rs : List _) (c : ℕ) → is_some t ≡ true → is_some (lowered_to t rs c) ≡ true
lowered_is None rs c e = absurd (cc)
lowered_is (Some q) rs c e = refl

asked_stays : (n : ℕ) (k : ConnId) (what : Result Request Refusal) (answers : List Answer) (in_cut : Bool) (l : Ledger) → IsPromised l → IsPromised (asked n k what answers in_cut l)
asked_stays n k (Ok request.Hello) answers in_cut l h = h
asked_stays n k (Ok (request.Accept accept)) answers in_cut l h = either (tells_log n answers) (opened_by k (head_text accept.head) l) l refl h
asked_stays n k (Ok (request.Reject report)) answers in_cut l h = h
asked_stays n k (Ok (request.Alert report)) answers in_cut l h = h
asked_stays n k (Ok (request.Restart restart)) answers in_cut l h =
    either (restart.log == n)
    (if is_silent answers then (if l.shut k then l else resumed_by k restart.point l) else if in_cut then record l { promised = lowered_to l.promised l.shown restart.point } else l) l
    (either (is_silent answers) (if l.shut k then l else resumed_by k restart.point l) (if in_cut then record l { promised = lowered_to l.promised l.shown restart.point } else l)
    (either (l.shut k) l (resumed_by k restart.point l) h (becomes_is l.promised _ h)) (either in_cut (record l { promised = lowered_to l.promised l.shown restart.point }) l (lowered_is l.promised l.shown restart.point h) h)) h
asked_stays n k (Ok (request.Record r)) answers in_cut l h = either (is_silent answers && writes l k) (sent_one r l) l h h
asked_stays n k (Ok (request.Exit exit)) answers in_cut l h = either (writes l k) (record l { exit = Some (exit_text exit) }) l h h
asked_stays n k (Err why) answers in_cut l h = h

pub heard_stays : (exits : Bool) (answers : List Answer) (l : Ledger) → IsPromised l → IsPromised (heard_all exits answers l)
heard_stays exits [] l h = h
heard_stays exits (a ∷ answers) l h = heard_stays exits answers (heard exits a.conn a.says l) (one a.says)
  where
    one : (says : Saying) → IsPromised (heard exits a.conn says l)
    one (LogId i) = h
    one (Error why) = h
    one Shut = h
    one (CommitPoint c) = either (writes l a.conn) (record l { promised = if exits then becomes l.promised (length l.shown) else raised_to l.promised l.shown c; finished = l.finished || exits }) l (go exits) h
      where
        go : (b : Bool) → is_some (if b then becomes l.promised (length l.shown) else raised_to l.promised l.shown c) ≡ true
        go true = becomes_is l.promised (length l.shown) h
        go false = raised_is l.promised l.shown c h

pub reopened_stays : (k : ConnId) (b : Bool) (l : Ledger) → IsPromised l → IsPromised (reopened k b l)
reopened_stays k true l h = h
reopened_stays k false l h = h

-- once something is promised, something always is
pub promised_stays : (n : ℕ) (h : List Happened) (l : Ledger) → IsPromised l → IsPromised (ledger_from n l h)
promised_stays n [] l is = is
promised_stays n (Did act ∷ h) l is =
    let a = asked n act.job.conn (request_in act.job.body) act.answers act.in_cut l in
    promised_stays n h (noted n l (Did act)) (reopened_stays act.job.conn (is_gone act.job.body) (heard_all (is_exit (request_in act.job.body)) act.answers a)
    (heard_stays (is_exit (request_in act.job.body)) act.answers a (asked_stays n act.job.conn (request_in act.job.body) act.answers act.in_cut l is)))
promised_stays n (Tailed tail ∷ h) l is = promised_stays n h (noted n l (Tailed tail)) (heard_stays false tail.answers l is)
promised_stays n (Begins texts ∷ h) l is = promised_stays n h (noted n l (Begins texts)) is
