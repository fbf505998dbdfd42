-- Histories whose ledgers differ in what is promised stay so, whatever happens; and whether a log is settled hangs on who was shut alone.
use Rattle.std.proofs.Common.{◌≡◌, ◌≤◌, ℕ, List, [], ◌∷◌, refl, sym, ◌∙◌, ap, subst, arith, Option, Some, None, length, unwrap_or}
use Rattle.std.specs.Prelude.{◌==◌, ◌&&◌, ◌||◌, min, max, Bool, true, false, if◌then◌else◌, Result, Ok, Err}
use Rattle.lsv_info.specs.Layout.{exit_text, head_text}
use Rattle.lsv_record.specs.Points.{first, kept}
use Rattle.lsv_record.specs.declared.records.Record.{Record}
use Rattle.lsv_request.specs.declared.refusal.Refusal.{Refusal}
use Rattle.lsv_request.specs.declared.request.Request.{Request}
use Rattle.lsv_request.specs.declared.request.Request.TheVariants as request
use Rattle.lsv_session.specs.declared.connection.ConnId.{ConnId}
use Rattle.lsv_machine.specs.Answers.{Answer, Saying, Saying.LogId, Saying.CommitPoint, Saying.Error, Saying.Shut, is_silent}
use Rattle.lsv_machine.specs.History.{Ledger, asked, becomes, heard, heard_all, is_exit, is_gone, ledger_from, lowered_to, noted, opened_by, raised_to, reads_log, reopened, request_in, restarted_by, resumed_by, sent_one, settled_from, settles, tells_log, writes}
use Rattle.lsv_machine.specs.Machine.{same}
use Rattle.lsv_machine.specs.Turns.{Happened, Happened.Did, Happened.Tailed, Happened.Begins}
use Rattle.lsv_machine.proofs.Weaken.{Lower, Weaker}

-- the same, but that no more is promised
pub record Under (l l' : Ledger) : Type 0 where
  pub alike : l' ≡ record l { promised = l'.promised }
  pub lower : Lower l'.promised l.promised

abbrev low : Option ℕ → Ledger → Ledger
low q l = record l { promised = q }

under_low : (l : Ledger) (q : Option ℕ) → Lower q l.promised → Under l (low q l)
under_low l q h = record { alike = refl; lower = h }

under_if : (b : Bool) (x y x' y' : Ledger) → Under x x' → Under y y' → Under (if b then x else y) (if b then x' else y')
under_if true x y x' y' h k = h
under_if false x y x' y' h k = k

becomes_lower : (q p : Option ℕ) (n : ℕ) → Lower q p → Lower (becomes q n) (becomes p n)
becomes_lower None None n h = tt
becomes_lower None (Some p) n h = absurd h
becomes_lower (Some q) None n h = absurd h
becomes_lower (Some q) (Some p) n h = omega arith

raised_more : (q p : ℕ) (o : Option ℕ) → q ≤ p → max q (unwrap_or o q) ≤ max p (unwrap_or o p)
raised_more q p None h = omega arith
raised_more q p (Some x) h = omega arith

raised_lower : (q p : Option ℕ) (rs : List Record) (c : ℕ) → Lower q p → Lower (raised_to q rs c) (raised_to p rs c)
raised_lower None None rs c h = tt
raised_lower None (Some p) rs c h = absurd h
raised_lower (Some q) None rs c h = absurd h
raised_lower (Some q) (Some p) rs c h = raised_more q p (first rs c) h

lowered_more : (q p : ℕ) (o : Option ℕ) → q ≤ p → min q (unwrap_or o q) ≤ min p (unwrap_or o p)
lowered_more q p None h = omega arith
lowered_more q p (Some x) h = omega arith

lowered_lower : (q p : Option ℕ) (rs : List Record) (c : ℕ) → Lower q p → Lower (lowered_to q rs c) (lowered_to p rs c)
lowered_lower None None rs c h = tt
lowered_lower None (Some p) rs c h = absurd h
lowered_lower (Some q) None rs c h = absurd h
lowered_lower (Some q) (Some p) rs c h = lowered_more q p (first rs c) h

heard_under : (exits : Bool) (k : ConnId) (says : Saying) (l : Ledger) (q : Option ℕ) → Lower q l.promised → Under (heard exits k says l) (heard exits k says (low q l))
heard_under true k (CommitPoint c) l q h = under_if (writes l k) (record l { promised = becomes l.promised (length l.shown); finished = l.finished || true }) l (record l { promised = becomes q (length l.shown); finished = l.finished || true }) (low q l)
    (record { alike = refl; lower = becomes_lower q l.promised (length l.shown) h }) (under_low l q h)
heard_under false k (CommitPoint c) l q h = under_if (writes l k) (record l { promised = raised_to l.promised l.shown c; finished = l.finished || false }) l (record l { promised = raised_to q l.shown c; finished = l.finished || false }) (low q l)
    (record { alike = refl; lower = raised_lower q l.promised l.shown c h }) (under_low l q h)
heard_under exits k Shut l q h = record { alike = refl; lower = h }
heard_under exits k (LogId i) l q h = under_low l q h
heard_under exits k (Error why) l q h = under_low l q h

asked_under : (n : ℕ) (k : ConnId) (what : Result Request Refusal) (answers : List Answer) (in_cut : Bool) (l : Ledger) (q : Option ℕ) → Lower q l.promised → Under (asked n k what answers in_cut l) (asked n k what answers in_cut (low q l))
asked_under n k (Ok request.Hello) answers in_cut l q h = under_low l q h
asked_under n k (Ok (request.Accept accept)) answers in_cut l q h = under_if (tells_log n answers) (opened_by k (head_text accept.head) l) l (opened_by k (head_text accept.head) (low q l)) (low q l)
    (record { alike = refl; lower = omega arith }) (under_low l q h)
asked_under n k (Ok (request.Reject report)) answers in_cut l q h = under_low l q h
asked_under n k (Ok (request.Alert report)) answers in_cut l q h = under_low l q h
asked_under n k (Ok (request.Restart restart)) answers in_cut l q h =
    under_if (restart.log == n) (restarted_by k restart.point answers in_cut l) l (restarted_by k restart.point answers in_cut (low q l)) (low q l)
    (under_if (is_silent answers) (if l.shut k then l else resumed_by k restart.point l) (if in_cut then record l { promised = lowered_to l.promised l.shown restart.point } else l)
    (if l.shut k then low q l else resumed_by k restart.point (low q l)) (if in_cut then record l { promised = lowered_to q l.shown restart.point } else low q l)
    (under_if (l.shut k) l (resumed_by k restart.point l) (low q l) (resumed_by k restart.point (low q l)) (under_low l q h) (record { alike = refl; lower = becomes_lower q l.promised (kept l.shown restart.point) h }))
    (under_if in_cut (record l { promised = lowered_to l.promised l.shown restart.point }) l (record l { promised = lowered_to q l.shown restart.point }) (low q l)
    (record { alike = refl; lower = lowered_lower q l.promised l.shown restart.point h }) (under_low l q h))) (under_low l q h)
asked_under n k (Ok (request.Record r)) answers in_cut l q h = under_if (is_silent answers && writes l k) (sent_one r l) l (sent_one r (low q l)) (low q l) (record { alike = refl; lower = h }) (under_low l q h)
asked_under n k (Ok (request.Exit exit)) answers in_cut l q h = under_if (writes l k) (record l { exit = Some (exit_text exit) }) l (record l { promised = q; exit = Some (exit_text exit) }) (low q l) (record { alike = refl; lower = h }) (under_low l q h)
asked_under n k (Err why) answers in_cut l q h = under_low l q h

reopened_under : (k : ConnId) (b : Bool) (l : Ledger) (q : Option ℕ) → Lower q l.promised → Under (reopened k b l) (reopened k b (low q l))
reopened_under k true l q h = record { alike = refl; lower = h }
reopened_under k false l q h = under_low l q h

-- what is kept by lowering what is promised is kept from one ledger to one that promises less
through : (f : Ledger → Ledger) → ((l : Ledger) (q : Option ℕ) → Lower q l.promised → Under (f l) (f (low q l))) → (l l' : Ledger) → Under l l' → Under (f l) (f l')
through f keeps l l' u = subst (λ (x : Ledger). Under (f l) (f x)) (sym u.alike) (keeps l l'.promised u.lower)

heard_all_under : (exits : Bool) (answers : List Answer) (l l' : Ledger) → Under l l' → Under (heard_all exits answers l) (heard_all exits answers l')
heard_all_under exits [] l l' u = u
heard_all_under exits (a ∷ answers) l l' u = heard_all_under exits answers (heard exits a.conn a.says l) (heard exits a.conn a.says l') (through (heard exits a.conn a.says) (heard_under exits a.conn a.says) l l' u)

noted_under : (n : ℕ) (x : Happened) (l l' : Ledger) → Under l l' → Under (noted n l x) (noted n l' x)
noted_under n (Did act) l l' u =
    let what = request_in act.job.body in
    let one = asked n act.job.conn what act.answers act.in_cut in
    through (reopened act.job.conn (is_gone act.job.body)) (reopened_under act.job.conn (is_gone act.job.body)) (heard_all (is_exit what) act.answers (one l)) (heard_all (is_exit what) act.answers (one l'))
    (heard_all_under (is_exit what) act.answers (one l) (one l') (through one (asked_under n act.job.conn what act.answers act.in_cut) l l' u))
noted_under n (Tailed tail) l l' u = heard_all_under false tail.answers l l' u
noted_under n (Begins texts) l l' u = through (λ z. noted n z (Begins texts)) (λ z q h. record { alike = refl; lower = h }) l l' u

pub ledger_under : (n : ℕ) (h : List Happened) (l l' : Ledger) → Under l l' → Under (ledger_from n l h) (ledger_from n l' h)
ledger_under n [] l l' u = u
ledger_under n (x ∷ h) l l' u = ledger_under n h (noted n l x) (noted n l' x) (noted_under n x l l' u)

pub under_weaker : (l l' : Ledger) → Under l l' → Weaker l l'
under_weaker l l' u = record { head = ap (λ (z : Ledger). z.head) u.alike; sent = ap (λ (z : Ledger). z.sent) u.alike; shown = ap (λ (z : Ledger). z.shown) u.alike; exit = ap (λ (z : Ledger). z.exit) u.alike; finished = ap (λ (z : Ledger). z.finished) u.alike; lower = u.lower }

-- ---- Settling, by who was shut

if_shut : (b : Bool) (x y : Ledger) (s : ConnId → Bool) → x.shut ≡ s → y.shut ≡ s → (if b then x else y).shut ≡ s
if_shut true x y s e d = e
if_shut false x y s e d = d

asked_shut : (n : ℕ) (k : ConnId) (what : Result Request Refusal) (answers : List Answer) (in_cut : Bool) (l : Ledger) → (asked n k what answers in_cut l).shut ≡ l.shut
asked_shut n k (Ok request.Hello) answers in_cut l = refl
asked_shut n k (Ok (request.Accept accept)) answers in_cut l = if_shut (tells_log n answers) (opened_by k (head_text accept.head) l) l l.shut refl refl
asked_shut n k (Ok (request.Reject report)) answers in_cut l = refl
asked_shut n k (Ok (request.Alert report)) answers in_cut l = refl
asked_shut n k (Ok (request.Restart restart)) answers in_cut l =
    if_shut (restart.log == n) (restarted_by k restart.point answers in_cut l) l l.shut
    (if_shut (is_silent answers) (if l.shut k then l else resumed_by k restart.point l) (if in_cut then record l { promised = lowered_to l.promised l.shown restart.point } else l) l.shut
    (if_shut (l.shut k) l (resumed_by k restart.point l) l.shut refl refl) (if_shut in_cut (record l { promised = lowered_to l.promised l.shown restart.point }) l l.shut refl refl)) refl
asked_shut n k (Ok (request.Record r)) answers in_cut l = if_shut (is_silent answers && writes l k) (sent_one r l) l l.shut refl refl
asked_shut n k (Ok (request.Exit exit)) answers in_cut l = if_shut (writes l k) (record l { exit = Some (exit_text exit) }) l l.shut refl refl
asked_shut n k (Err why) answers in_cut l = refl

abbrev shut_by : Saying → ConnId → (ConnId → Bool) → ConnId → Bool
shut_by Shut k s = λ j. if same j k then true else s j
shut_by (LogId i) k s = s
shut_by (CommitPoint c) k s = s
shut_by (Error why) k s = s

heard_shut : (exits : Bool) (k : ConnId) (says : Saying) (l : Ledger) → (heard exits k says l).shut ≡ shut_by says k l.shut
heard_shut exits k Shut l = refl
heard_shut exits k (LogId i) l = refl
heard_shut exits k (Error why) l = refl
heard_shut exits k (CommitPoint c) l = if_shut (writes l k) (record l { promised = if exits then becomes l.promised (length l.shown) else raised_to l.promised l.shown c; finished = l.finished || exits }) l l.shut refl refl

heard_all_shut : (exits : Bool) (answers : List Answer) (l l' : Ledger) → l.shut ≡ l'.shut → (heard_all exits answers l).shut ≡ (heard_all exits answers l').shut
heard_all_shut exits [] l l' e = e
heard_all_shut exits (a ∷ answers) l l' e =
    heard_all_shut exits answers (heard exits a.conn a.says l) (heard exits a.conn a.says l') (heard_shut exits a.conn a.says l ∙ (ap (shut_by a.says a.conn) e ∙ sym (heard_shut exits a.conn a.says l')))

reopened_shut : (k : ConnId) (b : Bool) (l l' : Ledger) → l.shut ≡ l'.shut → (reopened k b l).shut ≡ (reopened k b l').shut
reopened_shut k true l l' e = ap (λ (s : ConnId → Bool). λ (j : ConnId). if same j k then false else s j) e
reopened_shut k false l l' e = e

noted_shut : (n : ℕ) (x : Happened) (l l' : Ledger) → l.shut ≡ l'.shut → (noted n l x).shut ≡ (noted n l' x).shut
noted_shut n (Did act) l l' e =
    let what = request_in act.job.body in
    let one = asked n act.job.conn what act.answers act.in_cut in
    reopened_shut act.job.conn (is_gone act.job.body) (heard_all (is_exit what) act.answers (one l)) (heard_all (is_exit what) act.answers (one l'))
    (heard_all_shut (is_exit what) act.answers (one l) (one l') (asked_shut n act.job.conn what act.answers act.in_cut l ∙ (e ∙ sym (asked_shut n act.job.conn what act.answers act.in_cut l'))))
noted_shut n (Tailed tail) l l' e = heard_all_shut false tail.answers l l' e
noted_shut n (Begins texts) l l' e = refl

settles_shut : (n : ℕ) (x : Happened) (l l' : Ledger) → l.shut ≡ l'.shut → settles n l x ≡ settles n l' x
settles_shut n (Did act) l l' e = ap (λ (s : ConnId → Bool). tells_log n act.answers || reads_log n (s act.job.conn) (request_in act.job.body) act.answers) e
settles_shut n (Tailed tail) l l' e = refl
settles_shut n (Begins texts) l l' e = refl

pub settled_shut : (n : ℕ) (h : List Happened) (l l' : Ledger) → l.shut ≡ l'.shut → settled_from n l h ≡ settled_from n l' h
settled_shut n [] l l' e = refl
settled_shut n (x ∷ h) l l' e = ap (λ (t : Bool). t || settled_from n (noted n l x) h) (settles_shut n x l l' e) ∙ ap (λ (t : Bool). settles n l' x || t) (settled_shut n h (noted n l x) (noted n l' x) (noted_shut n x l l' e))

-- when a run begins only what is promised may differ
pub weaker_begun : (n : ℕ) (texts : List (List ℕ)) (l l' : Ledger) → Weaker l l' → Under (noted n l (Begins texts)) (noted n l' (Begins texts))
weaker_begun n texts l l' w = record {
  alike = λ i. record { texts = texts; shut = λ k. false; writers = []; head = w.head i; sent = w.sent i; shown = w.shown i; promised = l'.promised; exit = w.exit i; finished = w.finished i };
  lower = w.lower;
}
