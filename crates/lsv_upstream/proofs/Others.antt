-- What a job of another connection leaves: who writes the log goes on, and what was sent stays.
use Rattle.std.proofs.Common.{◌≡◌, ◌≢◌, ℕ, List, [], ◌∷◌, refl, sym, ◌∙◌, ap, subst, Some, None}
use Rattle.std.specs.Prelude.{◌&&◌, Bool, true, false, if◌then◌else◌, Result, Ok, Err}
use Rattle.lsv_info.specs.Layout.{exit_text, head_text}
use Rattle.lsv_msg.specs.declared.messages.ClientMessage.{ClientMessage}
use Rattle.lsv_request.specs.Requests.{request_of}
use Rattle.lsv_request.specs.declared.refusal.Refusal.{Refusal}
use Rattle.lsv_request.specs.declared.request.Request.{Request}
use Rattle.lsv_request.specs.declared.request.Request.TheVariants as request
use Rattle.lsv_session.specs.declared.connection.ConnId.{ConnId}
use Rattle.lsv_session.specs.declared.job.Body.{Body}
use Rattle.lsv_session.specs.declared.job.Body.TheVariants as body
use Rattle.lsv_machine.specs.Answers.{Answer, is_silent}
use Rattle.lsv_machine.specs.Failures.{Act, Step}
use Rattle.lsv_machine.specs.History.{Ledger, asked, heard_all, is_exit, is_gone, lowered_to, noted, opened_by, request_in, resumed_by, sent_one, tells_log, writes}
use Rattle.lsv_machine.specs.Machine.{Machine, Settings, is_dead, log_of}
use Rattle.lsv_machine.specs.Stands.{StandsFor}
use Rattle.lsv_machine.specs.Turns.{Happened.Did}
use Rattle.lsv_machine.proofs.Choices.{EqOr.equal, EqOr.unequal, eq_or}
use Rattle.lsv_machine.proofs.Fits.{writes_none}
use Rattle.lsv_machine.proofs.RunLaws.{job_stands}
use Rattle.lsv_machine.proofs.StepLooks.{step_seen}
use Rattle.lsv_machine.proofs.OutcomeLemmas.{accepted_restart}
use Rattle.lsv_upstream.proofs.Answering.{silent_asks, told_above}
use Rattle.lsv_upstream.proofs.Keeping.{Less, all_less, less_then, reopened_less, writer_owner}

silent_is : (answers : List Answer) → is_silent answers ≡ true → answers ≡ []
silent_is [] e = refl
silent_is (a ∷ answers) e = absurd (cc)

and_off : (a b : Bool) → b ≡ false → (a && b) ≡ false
and_off true b e = e
and_off false b e = refl

module _ (set : Settings) (n : ℕ) (l : Ledger) (m after : Machine) (act : Act) (stands : StandsFor set n m l) (step : Step set m act after) where
  abbrev pub k : ConnId
  k = act.job.conn

  abbrev pub now_asked : Result Request Refusal → Ledger
  now_asked what = asked n k what act.answers act.in_cut l

  abbrev pub now_noted : Ledger
  now_noted = noted n l (Did act)

  noted_less : Less (now_asked (request_in act.job.body)) now_noted
  noted_less =
      let a = now_asked (request_in act.job.body) in
      let b = heard_all (is_exit (request_in act.job.body)) act.answers a in
      less_then a b now_noted (all_less (is_exit (request_in act.job.body)) act.answers a) (reopened_less k (is_gone act.job.body) b)

  -- while another writes, it neither begins to write the log nor sends to it
  foreign_same : (j : ConnId) → m.owner n ≡ Some j → k ≢ j → (b : Body) → act.job.body ≡ b → (what : Result Request Refusal) → request_in b ≡ what
      → ((now_asked what).sent ≡ l.sent) × ((i : ConnId) → i ≢ k → writes (now_asked what) i ≡ true → writes l i ≡ true)
  foreign_same j own ne b eb (Err why) e = (refl, λ i x y. y)
  foreign_same j own ne b eb (Ok request.Hello) e = (refl, λ i x y. y)
  foreign_same j own ne b eb (Ok (request.Reject report)) e = (refl, λ i x y. y)
  foreign_same j own ne b eb (Ok (request.Alert report)) e = (refl, λ i x y. y)
  foreign_same j own ne b eb (Ok (request.Accept accept)) e = go (tells_log n act.answers) refl
    where
      go : (t : Bool) → tells_log n act.answers ≡ t → ((if t then opened_by k (head_text accept.head) l else l).sent ≡ l.sent) × ((i : ConnId) → i ≢ k → writes (if t then opened_by k (head_text accept.head) l else l) i ≡ true → writes l i ≡ true)
      go false x = (refl, λ i y z. z)
      go true x = absurd (let (lane, above) = told_above set n m act after stands.sound step x in let free = (stands.sound.none_above n lane above).1 in cc)
  foreign_same j own ne b eb (Ok (request.Record r)) e =
      let off : writes l k ≡ false = foreign_off in
      (ap (λ (t : Bool). (if t then sent_one r l else l).sent) (and_off (is_silent act.answers) (writes l k) off), λ i y z. subst (λ (t : Bool). writes (if t then sent_one r l else l) i ≡ true) (and_off (is_silent act.answers) (writes l k) off) z)
    where
      foreign_off : writes l k ≡ false
      foreign_off = writes_none l k (m.owner n) stands.agrees.writers (λ o. ne (let x : Some j ≡ Some k = sym own ∙ o in cc))
  foreign_same j own ne b eb (Ok (request.Exit exit)) e = go (writes l k)
    where
      go : (t : Bool) → ((if t then record l { exit = Some (exit_text exit) } else l).sent ≡ l.sent) × ((i : ConnId) → i ≢ k → writes (if t then record l { exit = Some (exit_text exit) } else l) i ≡ true → writes l i ≡ true)
      go true = (refl, λ i y z. z)
      go false = (refl, λ i y z. z)
  foreign_same j own ne b eb (Ok (request.Restart restart)) e = elim (eq_or restart.log n) [
    | unequal p t ↦ rw t (refl, λ i y z. z)
    | equal p t ↦ rw t (its p (is_silent act.answers) refl (l.shut k) refl act.in_cut)
  ]
    where
      is_message : (x : Body) → request_in x ≡ Ok (request.Restart restart) → (message : ClientMessage) × (x ≡ body.Msg message) × (request_of message ≡ Ok (request.Restart restart))
      is_message (body.Msg message) q = (message, refl, q)
      is_message (body.Bad fault) q = absurd (cc)
      is_message body.Gone q = absurd (cc)

      its : restart.log ≡ n → (s : Bool) → is_silent act.answers ≡ s → (d : Bool) → l.shut k ≡ d → (c : Bool)
          → ((if s then (if d then l else resumed_by k restart.point l) else if c then record l { promised = lowered_to l.promised l.shown restart.point } else l).sent ≡ l.sent)
          × ((i : ConnId) → i ≢ k → writes (if s then (if d then l else resumed_by k restart.point l) else if c then record l { promised = lowered_to l.promised l.shown restart.point } else l) i ≡ true → writes l i ≡ true)
      its p true quiet true shut c = (refl, λ i y z. z)
      its p false loud d shut true = (refl, λ i y z. z)
      its p false loud d shut false = (refl, λ i y z. z)
      its p true quiet false open_ c = absurd (
          let living : is_dead (m.states k) ≡ false = sym (stands.agrees.shut k) ∙ open_ in
          let (message, is_body, asks) = is_message b e in
          let resumed = accepted_restart set m after act restart step living (silent_asks set m act after message restart (eb ∙ is_body) asks living (silent_is act.answers quiet) step) (silent_is act.answers quiet) in
          let free : m.owner n ≡ None = ap m.owner (sym p) ∙ resumed.could.free in
          cc)

  -- it wrote before
  pub kept_writer : (j : ConnId) → j ≢ k → writes now_noted j ≡ true → (writes l j ≡ true) × (now_noted.sent ≡ l.sent)
  kept_writer j ne on =
      let less = noted_less in
      let f = foreign_same j owned_before (λ p. ne (sym p)) act.job.body refl (request_in act.job.body) refl in
      (f.1 j ne (less.writers j on), less.sent ∙ f.0)
    where
      -- it owned the log before
      owned_before : m.owner n ≡ Some j
      owned_before =
          let s' = job_stands set n l act m after stands step in
          let own : after.owner n ≡ Some j = writer_owner n after now_noted j s'.agrees.writers on in
          let seen = step_seen set m act after step in
          let same_state = seen.leaves_alone.others j ne in
          let before : log_of (m.states j) ≡ Some n = sym (ap log_of same_state) ∙ s'.sound.owns n j own in
          stands.sound.owned j n before
