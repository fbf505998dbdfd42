-- What one connection sends of a log while it writes it is all that was sent since it began.
use Rattle.std.proofs.Common.{◌≡◌, ◌<◌, ◌+◌, ◌-◌, ℕ, List, [], ◌∷◌, ◌++◌, length, refl, sym, ◌∙◌, ap, subst, arith, Some}
use Rattle.std.specs.Prelude.{◌&&◌, Bool, true, false, if◌then◌else◌, Result, Ok, Err}
use Rattle.lsv_info.specs.Layout.{exit_text, head_text}
use Rattle.lsv_record.specs.Points.{cut, first}
use Rattle.lsv_record.specs.Records.{elapsed}
use Rattle.lsv_record.specs.declared.records.Record.{Record}
use Rattle.lsv_record.proofs.Points.{cut_ends, first_delays, first_some}
use Rattle.lsv_request.specs.declared.refusal.Refusal.{Refusal}
use Rattle.lsv_request.specs.declared.request.Request.{Request}
use Rattle.lsv_request.specs.declared.request.Request.TheVariants as request
use Rattle.lsv_request.specs.declared.request.Restart.{Restart}
use Rattle.lsv_session.specs.declared.connection.ConnId.{ConnId}
use Rattle.lsv_session.specs.declared.connection.ConnState.{ConnState}
use Rattle.lsv_session.specs.declared.connection.ConnState.TheVariants as conn_state
use Rattle.lsv_session.specs.declared.job.Body.{Body}
use Rattle.lsv_session.specs.declared.job.Body.TheVariants as body
use Rattle.lsv_machine.specs.Answers.{Answer, is_silent}
use Rattle.lsv_machine.specs.Failures.{Act, Step}
use Rattle.lsv_machine.specs.History.{Ledger, asked, blank, heard_all, is_exit, is_gone, ledger, lowered_to, noted, opened_by, request_in, resumed_by, sent_one, tells_log, writes}
use Rattle.lsv_machine.specs.Machine.{Machine, Settings, is_dead, log_of, same}
use Rattle.lsv_machine.specs.Stands.{StandsFor}
use Rattle.lsv_machine.specs.Turns.{Happened, Happened.Did, Happened.Tailed, Happened.Begins, Run}
use Rattle.lsv_machine.proofs.Choices.{EqOr.equal, EqOr.unequal, SameOr.alike, SameOr.apart, eq_or, same_or}
use Rattle.lsv_machine.proofs.Fits.{fits_of_stands}
use Rattle.lsv_machine.proofs.OutcomeLemmas.{accepted_restart}
use Rattle.lsv_machine.proofs.RecordLemmas.{cut_alike}
use Rattle.lsv_machine.proofs.RunLaws.{job_stands, ledger_append, stands_on, tail_stands}
use Rattle.lsv_machine.proofs.Shown.{ByDelays, shown_delays}
use Rattle.lsv_machine.proofs.StepLooks.{step_seen}
use Rattle.lsv_machine.proofs.WorkFits.{holds_there}
use Rattle.lsv_upstream.specs.Held.{GetsPoint, HoldsThrough, PromisesAtLeast, HasPoint, answers_at, up_to}
use Rattle.lsv_upstream.specs.Passed.{HasSent, HasSent.Nothing, HasSent.Opened, HasSent.Resumed, HoldsAfter, one_more_sent, sent_after, sent_by, sent_in}
use Rattle.lsv_upstream.specs.Runs.{RunsOn, ServerRun, history_at}
use Rattle.lsv_upstream.proofs.Answering.{silent_asks}
use Rattle.lsv_upstream.proofs.Exits.{same_length}
use Rattle.lsv_upstream.proofs.Finishing.{finishes}
use Rattle.lsv_upstream.proofs.Keeping.{Less, all_less, less_then, reopened_less, writer_owner}
use Rattle.lsv_upstream.proofs.Members.{append_nothing, append_three}
use Rattle.lsv_upstream.proofs.Others.{kept_writer}
use Rattle.lsv_upstream.proofs.Points.{elapsed_append, elapsed_delays, first_after}
use Rattle.lsv_upstream.proofs.Relaying.{split_run, tells_to}
use Rattle.lsv_upstream.proofs.Tellers.{ledger_run, start_stands}
use Rattle.lsv_upstream.proofs.Told.{tail_told}

-- what was sent of the log is what this says
abbrev pub SentIs : HasSent → List Record → Type 0
SentIs Nothing all = ⊥
SentIs (Opened rs) all = all ≡ rs
SentIs (Resumed point rs) all = (base : List Record) × (all ≡ base ++ rs) × (elapsed base ≡ point)

-- the same of a connection, if it writes the log
abbrev pub SentBy : ConnId → HasSent → Ledger → Type 0
SentBy k s l = writes l k ≡ true → SentIs s l.sent

silent_is : (answers : List Answer) → is_silent answers ≡ true → answers ≡ []
silent_is [] e = refl
silent_is (a ∷ answers) e = absurd (cc)

and_on : (a b : Bool) → a ≡ true → b ≡ true → (a && b) ≡ true
and_on true b e f = f
and_on false b e f = e

one_more_is : (s : HasSent) (all : List Record) (r : Record) → SentIs s all → SentIs (one_more_sent r s) (all ++ r ∷ [])
one_more_is Nothing all r is = is
one_more_is (Opened rs) all r is = ap (λ (x : List Record). x ++ r ∷ []) is
one_more_is (Resumed point rs) all r (base, is, ends) = (base, ap (λ (x : List Record). x ++ r ∷ []) is ∙ append_three base rs (r ∷ []), ends)

module _ (by : ByDelays) (set : Settings) (n : ℕ) (k : ConnId) (g : List Happened) (m after : Machine) (act : Act) (stands : StandsFor set n m (ledger g n)) (step : Step set m act after) where
  abbrev pub l : Ledger
  l = ledger g n

  noted_less : Less (asked n act.job.conn (request_in act.job.body) act.answers act.in_cut l) (noted n l (Did act))
  noted_less =
      let a = asked n act.job.conn (request_in act.job.body) act.answers act.in_cut l in
      let b = heard_all (is_exit (request_in act.job.body)) act.answers a in
      less_then a b (noted n l (Did act)) (all_less (is_exit (request_in act.job.body)) act.answers a) (reopened_less act.job.conn (is_gone act.job.body) b)

  -- who writes isn't shut
  writes_open : (j : ConnId) → writes l j ≡ true → l.shut j ≡ true → ⊥
  writes_open j on shut =
      let own : m.owner n ≡ Some j = writer_owner n m l j stands.agrees.writers on in
      let its : log_of (m.states j) ≡ Some n = stands.sound.owns n j own in
      let dead : is_dead (m.states j) ≡ true = sym (stands.agrees.shut j) ∙ shut in
      go (m.states j) its dead
    where
      go : (s : ConnState) → log_of s ≡ Some n → is_dead s ≡ true → ⊥
      go conn_state.Fresh a b = absurd (cc)
      go conn_state.Greeted a b = absurd (cc)
      go conn_state.Alerted a b = absurd (cc)
      go (conn_state.Running log) a b = absurd (cc)
      go conn_state.Dead a b = absurd (cc)

  -- a restart that was let through leaves records that end at its point
  resumed_ends : (restart : Restart) → request_in act.job.body ≡ Ok (request.Restart restart) → restart.log ≡ n → act.answers ≡ [] → l.shut act.job.conn ≡ false → elapsed (cut l.sent restart.point) ≡ restart.point
  resumed_ends restart asks p quiet open_ = go act.job.body refl asks
    where
      go : (b : Body) → act.job.body ≡ b → request_in b ≡ Ok (request.Restart restart) → elapsed (cut l.sent restart.point) ≡ restart.point
      go (body.Bad fault) e a = absurd (cc)
      go body.Gone e a = absurd (cc)
      go (body.Msg message) e a =
          let living : is_dead (m.states act.job.conn) ≡ false = sym (stands.agrees.shut act.job.conn) ∙ open_ in
          let resumed = accepted_restart set m after act restart step living (silent_asks set m act after message restart e a living quiet step) quiet in
          let at_n = ap m.logs (sym p) ∙ resumed.could.there in
          let holds = holds_there (Unit {0}) set n m l resumed.could.stored resumed.could.promised (fits_of_stands set n m l stands) at_n tt in
          let shown_first : first l.shown restart.point ≡ Some resumed.could.kept = (cut_alike resumed.could.stored.records l.shown restart.point resumed.could.kept holds.prefix resumed.could.ends).first_is in
          let sent_first : first l.sent restart.point ≡ Some resumed.could.kept = first_delays l.sent l.shown restart.point (shown_delays by g n) ∙ shown_first in
          cut_ends l.sent restart.point resumed.could.kept sent_first

  -- its own request
  asked_sent : (s : HasSent) → SentBy act.job.conn s l → (w : Result Request Refusal) → request_in act.job.body ≡ w → writes (asked n act.job.conn w act.answers act.in_cut l) act.job.conn ≡ true
      → SentIs (sent_by n w act.answers s) (asked n act.job.conn w act.answers act.in_cut l).sent
  asked_sent s is (Ok request.Hello) e on = is on
  asked_sent s is (Ok (request.Reject report)) e on = is on
  asked_sent s is (Ok (request.Alert report)) e on = is on
  asked_sent s is (Err why) e on = is on
  asked_sent s is (Ok (request.Accept accept)) e on = go (tells_log n act.answers) on
    where
      go : (b : Bool) → writes (if b then opened_by act.job.conn (head_text accept.head) l else l) act.job.conn ≡ true
          → SentIs (if b then Opened [] else s) (if b then opened_by act.job.conn (head_text accept.head) l else l).sent
      go true x = refl
      go false x = is x
  asked_sent s is (Ok (request.Record r)) e on = go (is_silent act.answers) (writes l act.job.conn) refl on
    where
      go : (a b : Bool) → writes l act.job.conn ≡ b → writes (if a && b then sent_one r l else l) act.job.conn ≡ true → SentIs (if a then one_more_sent r s else s) (if a && b then sent_one r l else l).sent
      go false b t x = is x
      go true true t x = one_more_is s l.sent r (is t)
      go true false t x = absurd (cc)
  asked_sent s is (Ok (request.Exit exit)) e on = go (writes l act.job.conn) refl on
    where
      go : (b : Bool) → writes l act.job.conn ≡ b → writes (if b then record l { exit = Some (exit_text exit) } else l) act.job.conn ≡ true → SentIs s (if b then record l { exit = Some (exit_text exit) } else l).sent
      go true t x = is t
      go false t x = is x
  asked_sent s is (Ok (request.Restart restart)) e on = elim (eq_or restart.log n) [
    | unequal p t ↦ rw t (is (rw t at on))
    | equal p t ↦ rw t (go p (is_silent act.answers) refl (l.shut act.job.conn) refl act.in_cut (rw t at on))
  ]
    where
      go : restart.log ≡ n → (a : Bool) → is_silent act.answers ≡ a → (b : Bool) → l.shut act.job.conn ≡ b → (c : Bool)
          → writes (if a then (if b then l else resumed_by act.job.conn restart.point l) else if c then record l { promised = lowered_to l.promised l.shown restart.point } else l) act.job.conn ≡ true
          → SentIs (if true && a then Resumed restart.point [] else s) (if a then (if b then l else resumed_by act.job.conn restart.point l) else if c then record l { promised = lowered_to l.promised l.shown restart.point } else l).sent
      go p true quiet true shut c x = absurd (writes_open act.job.conn x shut)
      go p true quiet false open_ c x = (cut l.sent restart.point, sym (append_nothing (cut l.sent restart.point)), resumed_ends restart e p (silent_is act.answers quiet) open_)
      go p false loud b shut true x = is x
      go p false loud b shut false x = is x

  -- a job
  pub job_sent : (s : HasSent) → SentBy k s l → SentBy k (if same act.job.conn k then sent_by n (request_in act.job.body) act.answers s else s) (noted n l (Did act))
  job_sent s is on = elim (same_or act.job.conn k) [
    | apart p t ↦ let (wrote, kept) = kept_writer set n l m after act stands step k (λ q. p (sym q)) on in rw t (subst (SentIs s) (sym kept) (is wrote))
    | alike p t ↦ rw t (its p)
  ]
    where
      its : act.job.conn ≡ k → SentIs (sent_by n (request_in act.job.body) act.answers s) (noted n l (Did act)).sent
      its p =
          let less = noted_less in
          let mine : writes (noted n l (Did act)) act.job.conn ≡ true = subst (λ j. writes (noted n l (Did act)) j ≡ true) (sym p) on in
          let own : SentBy act.job.conn s l = subst (λ j. SentBy j s l) (sym p) is in
          subst (SentIs (sent_by n (request_in act.job.body) act.answers s)) (sym less.sent) (asked_sent s own (request_in act.job.body) refl (less.writers act.job.conn mine))

-- ---- A run

module _ (by : ByDelays) (set : Settings) (n : ℕ) (k : ConnId) where
  pub run_sent : (h g : List Happened) (m end : Machine) (s : HasSent) → StandsFor set n m (ledger g n) → Run set m h end → SentBy k s (ledger g n) → SentBy k (sent_after n k s h) (ledger (g ++ h) n)
  run_sent [] g m end s stands runs is = subst (λ (x : List Happened). SentBy k s (ledger x n)) (sym (append_nothing g)) is
  run_sent (Did act ∷ h) g m end s stands (mid, step, rest) is =
      let one : ledger (g ++ Did act ∷ []) n ≡ noted n (ledger g n) (Did act) = ledger_append n blank g (Did act ∷ []) in
      let s' = if same act.job.conn k then sent_by n (request_in act.job.body) act.answers s else s in
      let now : SentBy k s' (ledger (g ++ Did act ∷ []) n) = subst (SentBy k s') (sym one) (job_sent by set n k g m mid act stands step s is) in
      let stands' : StandsFor set n mid (ledger (g ++ Did act ∷ []) n) = subst (StandsFor set n mid) (sym one) (job_stands set n (ledger g n) act m mid stands step) in
      subst (λ (x : List Happened). SentBy k (sent_after n k s' h) (ledger x n)) (append_three g (Did act ∷ []) h) (run_sent h (g ++ Did act ∷ []) mid end s' stands' rest now)
  run_sent (Tailed tail ∷ h) g m end s stands (mid, ended, rest) is =
      let one : ledger (g ++ Tailed tail ∷ []) n ≡ noted n (ledger g n) (Tailed tail) = ledger_append n blank g (Tailed tail ∷ []) in
      let less = all_less false tail.answers (ledger g n) in
      let now : SentBy k s (ledger (g ++ Tailed tail ∷ []) n) = subst (SentBy k s) (sym one) (λ on. subst (SentIs s) (sym less.sent) (is (less.writers k on))) in
      let stands' : StandsFor set n mid (ledger (g ++ Tailed tail ∷ []) n) = subst (StandsFor set n mid) (sym one) (tail_stands set n (ledger g n) tail m mid stands ended) in
      subst (λ (x : List Happened). SentBy k (sent_after n k s h) (ledger x n)) (append_three g (Tailed tail ∷ []) h) (run_sent h (g ++ Tailed tail ∷ []) mid end s stands' rest now)
  run_sent (Begins texts ∷ h) g m end s stands runs is = absurd runs

  -- a commit point promises what was sent through it
  pub event_point : (g : List Happened) (m end : Machine) (x : Happened) (h : List Happened) (c : ℕ) → StandsFor set n m (ledger g n) → Run set m (x ∷ h) end → writes (ledger g n) k ≡ true → HasPoint k c (answers_at x)
      → ((ledger (g ++ x ∷ []) n).sent ≡ (ledger g n).sent) × (c ≡ elapsed (ledger g n).sent) × ((f : ℕ) → first (ledger g n).sent c ≡ Some f → PromisesAtLeast (ledger (g ++ x ∷ []) n) f)
  event_point g m end (Begins texts) h c stands runs on told = absurd runs
  event_point g m end (Tailed tail) h c stands (mid, ended, rest) on told =
      let l = ledger g n in
      let one : ledger (g ++ Tailed tail ∷ []) n ≡ noted n l (Tailed tail) = ledger_append n blank g (Tailed tail ∷ []) in
      let own : m.owner n ≡ Some k = writer_owner n m l k stands.agrees.writers on in
      let a = tail_told set n k c m mid l tail stands ended told (stands.sound.owns n k own) in
      let less = all_less false tail.answers l in
      (ap (λ (x : Ledger). x.sent) one ∙ less.sent, a.point ∙ sym (elapsed_delays l.sent l.shown (shown_delays by g n)), λ f at. subst (λ (x : Ledger). PromisesAtLeast x f) (sym one) (a.promises f (sym (first_delays l.sent l.shown c (shown_delays by g n)) ∙ at)))
  event_point g m end (Did act) h c stands (mid, step, rest) on told =
      let l = ledger g n in
      let one : ledger (g ++ Did act ∷ []) n ≡ noted n l (Did act) = ledger_append n blank g (Did act ∷ []) in
      let same_ = tells_to act.job.conn k c act.answers (step_seen set m act mid step).to told in
      let f0 = finishes set n l m mid act c stands step (subst (λ j. writes l j ≡ true) (sym same_) on) (subst (λ j. HasPoint j c act.answers) (sym same_) told) in (
        ap (λ (x : Ledger). x.sent) one ∙ f0.sent,
        f0.point ∙ sym (elapsed_delays l.sent l.shown (shown_delays by g n)),
        λ f at. (length l.shown, ap (λ (x : Ledger). x.promised) one ∙ f0.promised, (let w = (first_some l.sent c f at).within in let s = same_length l.sent l.shown (shown_delays by g n) in omega (arith, w, s))),
      )

-- ---- The law

module _ (by : ByDelays) (lane lanes n : ℕ) (before : List Happened) (r : ServerRun) (k : ConnId) (point : ℕ) (on : RunsOn lane lanes n before r) (at : GetsPoint n before r k point) where
  -- what is known at the event
  record Here : Type 0 where
    sent_is : SentIs (sent_in n k at.past) (ledger (history_at before r at.past) n).sent
    stays : (ledger (up_to before r at) n).sent ≡ (ledger (history_at before r at.past) n).sent
    point_is : point ≡ elapsed (ledger (history_at before r at.past) n).sent
    promises : (f : ℕ) → first (ledger (history_at before r at.past) n).sent point ≡ Some f → PromisesAtLeast (ledger (up_to before r at) n) f

  here : Here
  here =
      let (m, ran, rest) = split_run r.set at.past (at.event ∷ at.later) r.start r.end (subst (λ h. Run r.set r.start h r.end) at.is on.runs) in
      let begun = start_stands lane lanes n before r on in
      let l0 : ledger (before ++ Begins r.texts ∷ []) n ≡ noted n (ledger before n) (Begins r.texts) = ledger_append n blank before (Begins r.texts ∷ []) in
      let start : StandsFor r.set n r.start (ledger (before ++ Begins r.texts ∷ []) n) = subst (StandsFor r.set n r.start) (sym l0) begun in
      let none : SentBy k Nothing (ledger (before ++ Begins r.texts ∷ []) n) = subst (SentBy k Nothing) (sym l0) (λ x. absurd (cc)) in
      let join : (before ++ Begins r.texts ∷ []) ++ at.past ≡ history_at before r at.past = append_three before (Begins r.texts ∷ []) at.past in
      let sent_now : SentBy k (sent_in n k at.past) (ledger (history_at before r at.past) n) = subst (λ (x : List Happened). SentBy k (sent_in n k at.past) (ledger x n)) join (run_sent by r.set n k at.past (before ++ Begins r.texts ∷ []) r.start m Nothing start ran none) in
      let stands : StandsFor r.set n m (ledger (history_at before r at.past) n) = subst (StandsFor r.set n m) (sym (ledger_run n before r at.past)) (stands_on r.set n at.past r.start m (noted n (ledger before n) (Begins r.texts)) begun ran) in
      let e = event_point by r.set n k (history_at before r at.past) m r.end at.event at.later point stands rest at.writing at.brings in
      let more : history_at before r at.past ++ at.event ∷ [] ≡ up_to before r at = append_three before (Begins r.texts ∷ at.past) (at.event ∷ []) in
      record {
        sent_is = sent_now at.writing;
        stays = subst (λ (x : List Happened). (ledger x n).sent ≡ (ledger (history_at before r at.past) n).sent) more e.0;
        point_is = e.1;
        promises = λ f q. subst (λ (x : List Happened). PromisesAtLeast (ledger x n) f) more (e.2 f q);
      }

  pub passed_opened : (rs : List Record) → sent_in n k at.past ≡ Opened rs → ((ledger (up_to before r at) n).sent ≡ rs) × (point ≡ elapsed rs) × HoldsThrough rs point (ledger (up_to before r at) n)
  passed_opened rs opened =
      let all : (ledger (history_at before r at.past) n).sent ≡ rs = subst (λ (s : HasSent). SentIs s (ledger (history_at before r at.past) n).sent) opened here.sent_is in
      let now = here.stays ∙ all in
      (now, here.point_is ∙ ap elapsed all, record { prefix = record { rest = []; is = append_nothing (ledger (up_to before r at) n).sent ∙ now }; promises = λ f q. here.promises f (ap (λ (x : List Record). first x point) all ∙ q) })

  pub passed_resumed : (start : ℕ) (rs : List Record) → sent_in n k at.past ≡ Resumed start rs → HoldsAfter start rs point (ledger (up_to before r at) n)
  passed_resumed start rs resumed =
      let (base, all, ends) = subst (λ (s : HasSent). SentIs s (ledger (history_at before r at.past) n).sent) resumed here.sent_is in
      record {
        base = base;
        sent_is = here.stays ∙ all;
        ends = ends;
        reaches = here.point_is ∙ (ap elapsed all ∙ (elapsed_append base rs ∙ ap (λ (x : ℕ). x + elapsed rs) ends));
        promises = λ f above q.
            let low : elapsed base < point = omega (arith, ends, above) in
            let q' : first rs (point - elapsed base) ≡ Some f = ap (λ (x : ℕ). first rs (point - x)) ends ∙ q in
            here.promises (length base + f) (ap (λ (x : List Record). first x point) all ∙ first_after base rs point f low q');
      }
