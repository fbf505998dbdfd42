-- The number of a log is told once in all runs.
use Rattle.std.proofs.Common.{◌≡◌, ◌+◌, ℕ, suc, List, [], ◌∷◌, ◌++◌, length, map, refl, sym, ◌∙◌, ap, subst, inl, inr, arith, Option, Some, None}
use Rattle.std.specs.Prelude.{Bool, true, false, if◌then◌else◌, is_some}
use Rattle.lsv_info.specs.Layout.{head_text}
use Rattle.lsv_session.specs.declared.connection.ConnId.{ConnId}
use Rattle.lsv_machine.specs.Failures.{Act, Step}
use Rattle.lsv_machine.specs.History.{Ledger, asked, blank, heard_all, is_exit, is_gone, ledger, ledger_from, noted, opened_by, request_in, tells_log}
use Rattle.lsv_machine.specs.Machine.{Machine, Settings}
use Rattle.lsv_machine.specs.Stands.{StandsFor}
use Rattle.lsv_machine.specs.Turns.{Happened, Happened.Did, Happened.Tailed, Happened.Begins, Run}
use Rattle.lsv_machine.proofs.RunLaws.{job_stands, ledger_append, starts_stand, tail_stands}
use Rattle.lsv_upstream.specs.Runs.{AllRunOn, RunsOn, ServerRun, history_at}
use Rattle.lsv_upstream.proofs.Answering.{told_by}
use Rattle.lsv_upstream.proofs.Members.{In, in_left, in_right}
use Rattle.lsv_upstream.proofs.Once.{IsPromised, heard_stays, promised_stays, reopened_stays, told_first}

-- whom a run tells the number of log n, in order
abbrev pub tellers : ℕ → List Happened → List ConnId
tellers n [] = []
tellers n (Did act ∷ h) = if tells_log n act.answers then act.job.conn ∷ tellers n h else tellers n h
tellers n (Tailed tail ∷ h) = tellers n h
tellers n (Begins texts ∷ h) = tellers n h

-- a connection of a run, by the run's number
pub record Teller : Type 0 where
  pub run : ℕ
  pub conn : ConnId

abbrev pub in_run : ℕ → ConnId → Teller
in_run i k = record { run = i; conn = k }

-- whom these runs tell it, counted from the first one's number
abbrev pub all_tellers : ℕ → (first : ℕ) → List ServerRun → List Teller
all_tellers n first [] = []
all_tellers n first (r ∷ runs) = map (in_run first) (tellers n r.events) ++ all_tellers n (suc first) runs

-- at most one is told, and only where nothing was promised before; what is promised then stays promised
pub data Once {A : Type 0} (before : Option ℕ) (told : List A) (after : Option ℕ) : Type 0 where
  nobody : told ≡ [] → (is_some before ≡ true → is_some after ≡ true) → Once before told after
  somebody : (t : A) → told ≡ t ∷ [] → before ≡ None → is_some after ≡ true → Once before told after

-- what follows where something is promised already
once_more : {A : Type 0} (p q : Option ℕ) (t : A) (told : List A) → p ≡ None → is_some q ≡ true → (z : Option ℕ) → Once q told z → Once p (t ∷ told) z
once_more p q t told none some z (nobody e on) = somebody t (ap (λ x. t ∷ x) e) none (on some)
once_more p q t told none some z (somebody u e unpromised on) = absurd (let a : is_some q ≡ false = ap is_some unpromised in cc)

-- what comes before, where nobody is told
once_before : {A : Type 0} (p q : Option ℕ) (told : List A) (z : Option ℕ) → (is_some p ≡ true → is_some q ≡ true) → Once q told z → Once p told z
once_before p q told z stays (nobody e on) = nobody e (λ s. on (stays s))
once_before p q told z stays (somebody t e none on) = go p refl
  where
    go : (o : Option ℕ) → p ≡ o → Once p told z
    go None x = somebody t e x on
    go (Some y) x = absurd (let a : is_some q ≡ true = stays (ap is_some x) in let b : is_some q ≡ false = ap is_some none in cc)

-- one after another
pub once_then : {A : Type 0} (p q : Option ℕ) (told later : List A) (z : Option ℕ) → Once p told q → Once q later z → Once p (told ++ later) z
once_then p q told later z (nobody e on) b = subst (λ (x : List _). Once p (x ++ later) z) (sym e) (once_before p q later z on b)
once_then p q told later z (somebody t e none on) b = subst (λ (x : List _). Once p (x ++ later) z) (sym e) (once_more p q t later none on z b)

once_mapped : {A B : Type 0} (f : A → B) (p : Option ℕ) (told : List A) (z : Option ℕ) → Once p told z → Once p (map f told) z
once_mapped f p told z (nobody e on) = nobody (ap (map f) e) on
once_mapped f p told z (somebody t e none on) = somebody (f t) (ap (map f) e) none on

-- two that are told are one
pub same_once : {A : Type 0} (p : Option ℕ) (told : List A) (z : Option ℕ) (a b : A) → Once p told z → In a told → In b told → a ≡ b
same_once p told z a b (nobody e on) i j = absurd (subst (In a) e i)
same_once p told z a b (somebody t e none on) i j = go (subst (In a) e i) (subst (In b) e j)
  where
    go : In a (t ∷ []) → In b (t ∷ []) → a ≡ b
    go (inl x) (inl y) = sym x ∙ y
    go (inl x) (inr y) = absurd y
    go (inr x) y = absurd x

-- ---- One run

-- a job that tells the number promises none of its records, and so something
pub told_promises : (set : Settings) (n : ℕ) (l : Ledger) (m after : Machine) (act : Act) → StandsFor set n m l → Step set m act after → tells_log n act.answers ≡ true → IsPromised (noted n l (Did act))
told_promises set n l m after act stands step told =
    let t = told_by set n m act after stands.sound step told in
    let a = asked n act.job.conn (request_in act.job.body) act.answers act.in_cut l in
    let now : a ≡ opened_by act.job.conn (head_text t.accept.head) l = ap (λ w. asked n act.job.conn w act.answers act.in_cut l) t.asks ∙ rw told refl in
    let some : IsPromised a = subst IsPromised (sym now) refl in
    reopened_stays act.job.conn (is_gone act.job.body) (heard_all (is_exit (request_in act.job.body)) act.answers a) (heard_stays (is_exit (request_in act.job.body)) act.answers a some)

pub run_once : (set : Settings) (n : ℕ) (h : List Happened) (m end : Machine) (l : Ledger) → StandsFor set n m l → Run set m h end → Once l.promised (tellers n h) (ledger_from n l h).promised
run_once set n [] m end l stands runs = nobody refl (λ s. s)
run_once set n (Did act ∷ h) m end l stands (mid, step, rest) = go (run_once set n h mid end (noted n l (Did act)) (job_stands set n l act m mid stands step) rest) (tells_log n act.answers) refl
  where
    l' : Ledger
    l' = noted n l (Did act)

    go : Once l'.promised (tellers n h) (ledger_from n l' h).promised → (b : Bool) → tells_log n act.answers ≡ b → Once l.promised (if b then act.job.conn ∷ tellers n h else tellers n h) (ledger_from n l' h).promised
    go more true e = once_more l.promised l'.promised act.job.conn (tellers n h) (told_first set n l m mid act stands step e) (told_promises set n l m mid act stands step e) (ledger_from n l' h).promised more
    go more false e = once_before l.promised l'.promised (tellers n h) (ledger_from n l' h).promised (λ s. promised_stays n (Did act ∷ []) l s) more
run_once set n (Tailed tail ∷ h) m end l stands (mid, ended, rest) =
    once_before l.promised (noted n l (Tailed tail)).promised (tellers n h) (ledger_from n (noted n l (Tailed tail)) h).promised (λ s. promised_stays n (Tailed tail ∷ []) l s)
    (run_once set n h mid end (noted n l (Tailed tail)) (tail_stands set n l tail m mid stands ended) rest)
run_once set n (Begins texts ∷ h) m end l stands runs = absurd runs

-- ---- All runs

-- what a run makes of the ledger
pub ledger_run : (n : ℕ) (before : List Happened) (r : ServerRun) (past : List Happened) → ledger (history_at before r past) n ≡ ledger_from n (noted n (ledger before n) (Begins r.texts)) past
ledger_run n before r past = ledger_append n blank before (Begins r.texts ∷ past)

pub start_stands : (lane lanes n : ℕ) (before : List Happened) (r : ServerRun) → RunsOn lane lanes n before r → StandsFor r.set n r.start (noted n (ledger before n) (Begins r.texts))
start_stands lane lanes n before r on = starts_stand r.set n r.texts r.start (ledger before n) on.starts on.good

-- what is promised after all of them
abbrev pub promised_after : ℕ → List Happened → List ServerRun → Option ℕ
promised_after n before [] = (ledger before n).promised
promised_after n before (r ∷ runs) = promised_after n (history_at before r r.events) runs

pub all_once : (lane lanes n first : ℕ) (before : List Happened) (runs : List ServerRun) → AllRunOn lane lanes n before runs → Once (ledger before n).promised (all_tellers n first runs) (promised_after n before runs)
all_once lane lanes n first before [] on = nobody refl (λ s. s)
all_once lane lanes n first before (r ∷ runs) (on, more) =
    let mid = (ledger (history_at before r r.events) n).promised in
    let one = run_once r.set n r.events r.start r.end (noted n (ledger before n) (Begins r.texts)) (start_stands lane lanes n before r on) on.runs in
    let one_here : Once (ledger before n).promised (tellers n r.events) mid = subst (λ (l : Ledger). Once (ledger before n).promised (tellers n r.events) l.promised) (sym (ledger_run n before r r.events)) one in
    once_then (ledger before n).promised mid (map (in_run first) (tellers n r.events)) (all_tellers n (suc first) runs) (promised_after n (history_at before r r.events) runs)
    (once_mapped (in_run first) (ledger before n).promised (tellers n r.events) mid one_here)
    (all_once lane lanes n (suc first) (history_at before r r.events) runs more)

-- who is told in a run is among those whom all runs tell
pub in_mapped : (i : ℕ) (k : ConnId) (ks : List ConnId) → In k ks → In (in_run i k) (map (in_run i) ks)
in_mapped i k [] j = absurd j
in_mapped i k (x ∷ ks) (inl e) = inl (ap (in_run i) e)
in_mapped i k (x ∷ ks) (inr j) = inr (in_mapped i k ks j)

pub teller_in : (n first : ℕ) (before : List ServerRun) (r : ServerRun) (after : List ServerRun) (k : ConnId) → In k (tellers n r.events) → In (in_run (first + length before) k) (all_tellers n first (before ++ r ∷ after))
teller_in n first [] r after k j =
    let same : first + 0 ≡ first = omega arith in
    subst (λ i. In (in_run i k) (all_tellers n first (r ∷ after))) (sym same) (in_left (in_run first k) (map (in_run first) (tellers n r.events)) (all_tellers n (suc first) after) (in_mapped first k (tellers n r.events) j))
teller_in n first (x ∷ before) r after k j =
    let same : first + suc (length before) ≡ suc first + length before = omega arith in
    subst (λ i. In (in_run i k) (all_tellers n first (x ∷ (before ++ r ∷ after)))) (sym same)
    (in_right (in_run (suc first + length before) k) (map (in_run first) (tellers n x.events)) (all_tellers n (suc first) (before ++ r ∷ after)) (teller_in n (suc first) before r after k j))
