-- Who writes a log was told its number in this run, or asked to go on with it.
use Rattle.std.proofs.Common.{◌≡◌, ℕ, List, [], ◌∷◌, refl, sym, inl, inr, Some, ◌⊎◌}
use Rattle.std.specs.Prelude.{◌&&◌, Bool, true, false, if◌then◌else◌, Result, Ok, Err}
use Rattle.lsv_info.specs.Layout.{exit_text, head_text}
use Rattle.lsv_request.specs.declared.refusal.Refusal.{Refusal}
use Rattle.lsv_request.specs.declared.request.Request.{Request}
use Rattle.lsv_request.specs.declared.request.Request.TheVariants as request
use Rattle.lsv_request.specs.declared.request.Restart.{Restart}
use Rattle.lsv_session.specs.declared.connection.ConnId.{ConnId}
use Rattle.lsv_machine.specs.Answers.{Answer, is_silent}
use Rattle.lsv_machine.specs.Failures.{Act}
use Rattle.lsv_machine.specs.History.{Ledger, asked, heard_all, is_exit, is_gone, ledger_from, lowered_to, noted, opened_by, request_in, resumed_by, sent_one, tells_log, writes}
use Rattle.lsv_machine.specs.Turns.{Happened, Happened.Did, Happened.Tailed, Happened.Begins}
use Rattle.lsv_machine.proofs.Choices.{EqOr.equal, EqOr.unequal, eq_or}
use Rattle.lsv_upstream.proofs.Keeping.{all_less, less_then, one_of, reopened_less}
use Rattle.lsv_upstream.proofs.Members.{In}
use Rattle.lsv_upstream.proofs.Tellers.{tellers}

-- a request to go on with log n
abbrev pub AsksRestart : ℕ → Result Request Refusal → Type 0
AsksRestart n w = (restart : Restart) × (w ≡ Ok (request.Restart restart)) × (restart.log ≡ n)

-- a connection asks in these events to go on with log n
abbrev pub RestartsIn : ℕ → ConnId → List Happened → Type 0
RestartsIn n k [] = ⊥
RestartsIn n k (Did act ∷ h) = ((act.job.conn ≡ k) × AsksRestart n (request_in act.job.body)) ⊎ RestartsIn n k h
RestartsIn n k (Tailed tail ∷ h) = RestartsIn n k h
RestartsIn n k (Begins texts ∷ h) = RestartsIn n k h

-- a writer after a request wrote before, or began by it
asked_began : (n : ℕ) (j k : ConnId) (w : Result Request Refusal) (answers : List Answer) (in_cut : Bool) (l : Ledger) → writes (asked n j w answers in_cut l) k ≡ true
    → (writes l k ≡ true) ⊎ ((k ≡ j) × ((tells_log n answers ≡ true) ⊎ (AsksRestart n w × (is_silent answers ≡ true))))
asked_began n j k (Ok request.Hello) answers in_cut l on = inl on
asked_began n j k (Ok (request.Accept accept)) answers in_cut l on = go (tells_log n answers) refl on
  where
    opened : (b : Bool) → writes (record l { writers = if b then l.writers else j ∷ l.writers }) k ≡ true → (k ≡ j) ⊎ (writes l k ≡ true)
    opened true x = inr x
    opened false x = one_of k j l.writers x

    go : (b : Bool) → tells_log n answers ≡ b → writes (if b then opened_by j (head_text accept.head) l else l) k ≡ true → (writes l k ≡ true) ⊎ ((k ≡ j) × ((tells_log n answers ≡ true) ⊎ (AsksRestart n (Ok (request.Accept accept)) × (is_silent answers ≡ true))))
    go true e x = elim (opened (l.shut j) x) [ inl same_ ↦ inr (same_, inl e) | inr old ↦ inl old ]
    go false e x = inl x
asked_began n j k (Ok (request.Reject report)) answers in_cut l on = inl on
asked_began n j k (Ok (request.Alert report)) answers in_cut l on = inl on
asked_began n j k (Ok (request.Restart restart)) answers in_cut l on = elim (eq_or restart.log n) [
  | unequal p t ↦ inl (rw t at on)
  | equal p t ↦ go p (is_silent answers) refl (l.shut j) in_cut (rw t at on)
]
  where
    go : restart.log ≡ n → (a : Bool) → is_silent answers ≡ a → (b c : Bool) → writes (if a then (if b then l else resumed_by j restart.point l) else if c then record l { promised = lowered_to l.promised l.shown restart.point } else l) k ≡ true
        → (writes l k ≡ true) ⊎ ((k ≡ j) × ((tells_log n answers ≡ true) ⊎ (AsksRestart n (Ok (request.Restart restart)) × (is_silent answers ≡ true))))
    go p true quiet true c x = inl x
    go p true quiet false c x = elim (one_of k j l.writers x) [ inl same_ ↦ inr (same_, inr ((restart, refl, p), quiet)) | inr old ↦ inl old ]
    go p false loud b true x = inl x
    go p false loud b false x = inl x
asked_began n j k (Ok (request.Record r)) answers in_cut l on = go (is_silent answers && writes l j) on
  where
    go : (b : Bool) → writes (if b then sent_one r l else l) k ≡ true → (writes l k ≡ true) ⊎ ((k ≡ j) × ((tells_log n answers ≡ true) ⊎ (AsksRestart n (Ok (request.Record r)) × (is_silent answers ≡ true))))
    go true x = inl x
    go false x = inl x
asked_began n j k (Ok (request.Exit exit)) answers in_cut l on = go (writes l j) on
  where
    go : (b : Bool) → writes (if b then record l { exit = Some (exit_text exit) } else l) k ≡ true → (writes l k ≡ true) ⊎ ((k ≡ j) × ((tells_log n answers ≡ true) ⊎ (AsksRestart n (Ok (request.Exit exit)) × (is_silent answers ≡ true))))
    go true x = inl x
    go false x = inl x
asked_began n j k (Err why) answers in_cut l on = inl on

-- the same of a job
pub job_began : (n : ℕ) (k : ConnId) (act : Act) (l : Ledger) → writes (noted n l (Did act)) k ≡ true
    → (writes l k ≡ true) ⊎ ((k ≡ act.job.conn) × ((tells_log n act.answers ≡ true) ⊎ (AsksRestart n (request_in act.job.body) × (is_silent act.answers ≡ true))))
job_began n k act l on =
    let a = asked n act.job.conn (request_in act.job.body) act.answers act.in_cut l in
    let b = heard_all (is_exit (request_in act.job.body)) act.answers a in
    let less = less_then a b (noted n l (Did act)) (all_less (is_exit (request_in act.job.body)) act.answers a) (reopened_less act.job.conn (is_gone act.job.body) b) in
    asked_began n act.job.conn k (request_in act.job.body) act.answers act.in_cut l (less.writers k on)

-- in a run, one who writes wrote before it, or began in it
pub run_began : (n : ℕ) (k : ConnId) (h : List Happened) (l : Ledger) → writes (ledger_from n l h) k ≡ true → (writes l k ≡ true) ⊎ (In k (tellers n h) ⊎ RestartsIn n k h)
run_began n k [] l on = inl on
run_began n k (Did act ∷ h) l on = elim (run_began n k h (noted n l (Did act)) on) [
  | inr (inl i) ↦ inr (inl (told_later (tells_log n act.answers) i))
  | inr (inr r) ↦ inr (inr (inr r))
  | inl now ↦ elim (job_began n k act l now) [
    | inl old ↦ inl old
    | inr (same_, inl told) ↦ inr (inl (rw told (inl (sym same_))))
    | inr (same_, inr (asks, quiet)) ↦ inr (inr (inl (sym same_, asks)))
  ]
]
  where
    told_later : (b : Bool) → In k (tellers n h) → In k (if b then act.job.conn ∷ tellers n h else tellers n h)
    told_later true i = inr i
    told_later false i = i
run_began n k (Tailed tail ∷ h) l on = elim (run_began n k h (noted n l (Tailed tail)) on) [
  | inr x ↦ inr x
  | inl now ↦ inl ((all_less false tail.answers l).writers k now)
]
run_began n k (Begins texts ∷ h) l on = elim (run_began n k h (noted n l (Begins texts)) on) [
  | inr x ↦ inr x
  | inl now ↦ absurd (cc)
]
