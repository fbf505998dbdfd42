-- The same of one client among any others.
use Rattle.std.proofs.Common.{◌≡◌, ◌≢◌, ◌≤◌, ◌<◌, ◌+◌, ℕ, List, [], ◌∷◌, ◌++◌, length, take, refl, sym, ◌∙◌, ap, subst, inl, inr, arith, Option, Some, None, ◌⊎◌}
use Rattle.std.specs.Prelude.{◌==◌, ◌&&◌, Bool, true, false, if◌then◌else◌, Result, Ok, Err}
use Rattle.lsv_info.specs.Layout.{exit_text, head_text}
use Rattle.lsv_info.specs.declared.times.Exit.{Exit}
use Rattle.lsv_msg.specs.declared.messages.ClientMessage.{ClientMessage}
use Rattle.lsv_record.specs.Points.{cut, first}
use Rattle.lsv_record.specs.declared.records.Record.{Record}
use Rattle.lsv_record.proofs.Points.{first_some}
use Rattle.lsv_request.specs.Requests.{request_of}
use Rattle.lsv_request.specs.declared.refusal.Refusal.{Refusal}
use Rattle.lsv_request.specs.declared.refusal.Refusal.TheVariants as refusals
use Rattle.lsv_request.specs.declared.request.Request.{Request}
use Rattle.lsv_request.specs.declared.request.Request.TheVariants as request
use Rattle.lsv_request.specs.declared.request.Restart.{Restart}
use Rattle.lsv_session.specs.declared.connection.ConnId.{ConnId}
use Rattle.lsv_session.specs.declared.job.Body.{Body}
use Rattle.lsv_session.specs.declared.job.Body.TheVariants as body
use Rattle.lsv_machine.specs.Answers.{Answer, is_silent}
use Rattle.lsv_machine.specs.Failures.{Act, Step}
use Rattle.lsv_machine.specs.History.{Ledger, asked, heard_all, is_exit, is_gone, lowered_to, noted, opened_by, request_in, resumed_by, sent_one, tells_log, writes}
use Rattle.lsv_machine.specs.Machine.{Machine, Settings, is_dead}
use Rattle.lsv_machine.specs.Resuming.{HasResumed}
use Rattle.lsv_machine.specs.Stands.{StandsFor}
use Rattle.lsv_machine.specs.Turns.{Happened.Did}
use Rattle.lsv_machine.proofs.Choices.{EqOr.equal, EqOr.unequal, eq_or, SameOr.alike, SameOr.apart, same_or, same_refl}
use Rattle.lsv_machine.proofs.JobFits.{Last, Last.by_refusal, Last.by_shut}
use Rattle.lsv_machine.proofs.OutcomeLemmas.{accepted_restart}
use Rattle.lsv_upstream.specs.Playing.{HasBegun, IsNext, PlayedOwn, StillAsks, StillAsks.Over, all_asks_after, asks_after, asks_from, later_asks, with_asks}
use Rattle.lsv_upstream.proofs.Answering.{record_or, silent_asks, told_above}
use Rattle.lsv_upstream.proofs.Asking.{Asked, Asked.exits, Asked.goes_on, Asked.greets, Asked.opens, Asked.plays, Next.a_record, Next.an_exit, asked_is, next_from}
use Rattle.lsv_upstream.proofs.Others.{kept_writer}
use Rattle.lsv_upstream.proofs.Keeping.{Less, all_less, last_writes, less_then, nobody_writes, one_of, reopened_less, reopened_writes, writer_owner}

silent_is : (answers : List Answer) → is_silent answers ≡ true → answers ≡ []
silent_is [] e = refl
silent_is (a ∷ answers) e = absurd (cc)

and_off : (a b : Bool) → b ≡ false → (a && b) ≡ false
and_off true b e = e
and_off false b e = refl

module _ (set : Settings) (n : ℕ) (rs : List Record) (e : Option Exit) (l : Ledger) (m after : Machine) (act : Act) (ours : ConnId → Bool) (coming : ConnId → List Request)
    (stands : StandsFor set n m l) (played : PlayedOwn rs e l (writes l) ours coming) (step : Step set m act after) (begun : ours act.job.conn ≡ true → HasBegun rs n l act) where
  abbrev pub k : ConnId
  k = act.job.conn

  -- the ledger where the job's request is noted, and where its answers are
  abbrev pub now_asked : Result Request Refusal → Ledger
  now_asked what = asked n k what act.answers act.in_cut l

  abbrev pub now_noted : Ledger
  now_noted = noted n l (Did act)

  noted_less : Less (now_asked (request_in act.job.body)) now_noted
  noted_less =
      let a = now_asked (request_in act.job.body) in
      let b = heard_all (is_exit (request_in act.job.body)) act.answers a in
      less_then a b now_noted (all_less (is_exit (request_in act.job.body)) act.answers a) (reopened_less k (is_gone act.job.body) b)

  -- ---- The connection isn't the writer, and nothing of the log changes

  not_it : (j : ConnId) → writes l k ≡ false → writes l j ≡ true → j ≢ k
  not_it j off on p = let a : writes l k ≡ true = subst (λ i. writes l i ≡ true) p on in cc

  module _ (asks : List Request) where
    -- what comes of the others
    at_other : (j : ConnId) → j ≢ k → with_asks k asks coming j ≡ coming j
    at_other j ne = elim (same_or j k) [ alike p t ↦ absurd (ne p) | apart p t ↦ rw t refl ]

    at_itself : with_asks k asks coming k ≡ asks
    at_itself = rw (same_refl k) refl

    shapes_on : (ours k ≡ true → StillAsks rs e asks) → (j : ConnId) → ours j ≡ true → StillAsks rs e (with_asks k asks coming j)
    shapes_on its j o = elim (same_or j k) [
      | alike p t ↦ rw t (its (subst (λ i. ours i ≡ true) p o))
      | apart p t ↦ rw t (played.shapes j o)
    ]

    off_played : (l' : Ledger) (w : ConnId → Bool) → l'.sent ≡ l.sent → ((j : ConnId) → w j ≡ true → writes l j ≡ true) → writes l k ≡ false → (ours k ≡ true → StillAsks rs e asks) → PlayedOwn rs e l' w ours (with_asks k asks coming)
    off_played l' w same_sent less off its = record {
      shapes = shapes_on its;
      writer = λ j on o.
          let (p, low, is, at) = played.writer j (less j on) o in
          let there = at_other j (not_it j off (less j on)) in
          (p, low, same_sent ∙ is, elim at [ inl x ↦ inl (there ∙ x) | inr x ↦ inr (there ∙ x) ]);
    }

    -- a new writer, where nobody wrote
    begun_played : (l' : Ledger) (w : ConnId → Bool) (q : ℕ) → ours k ≡ true → StillAsks rs e asks → q ≤ length rs → l'.sent ≡ take q rs → asks ≡ asks_from rs e q → ((j : ConnId) → writes l j ≡ false)
        → ((j : ConnId) → w j ≡ true → (j ≡ k) ⊎ (writes l j ≡ true)) → PlayedOwn rs e l' w ours (with_asks k asks coming)
    begun_played l' w q o its low is at nobody who = record {
      shapes = shapes_on (λ x. its);
      writer = λ j on oj. elim (who j on) [
        | inl p ↦ subst (λ i. (x : ℕ) × (x ≤ length rs) × (l'.sent ≡ take x rs) × ((with_asks k asks coming i ≡ asks_from rs e x) ⊎ (with_asks k asks coming i ≡ []))) (sym p)
            (q, low, is, inl (at_itself ∙ at))
        | inr x ↦ absurd (let y = nobody j in cc)
      ];
    }

    -- the writer goes on: it has sent so much, or is the writer no more
    went_played : (l' : Ledger) (w : ConnId → Bool) (q : ℕ) → writes l k ≡ true → ours k ≡ true → StillAsks rs e asks → q ≤ length rs → l'.sent ≡ take q rs → (w k ≡ true → (asks ≡ asks_from rs e q) ⊎ (asks ≡ []))
        → ((j : ConnId) → w j ≡ true → writes l j ≡ true) → PlayedOwn rs e l' w ours (with_asks k asks coming)
    went_played l' w q writing o its low is at less = record {
      shapes = shapes_on (λ x. its);
      writer = λ j on oj.
          let mine : m.owner n ≡ Some k = writer_owner n m l k stands.agrees.writers writing in
          let his : m.owner n ≡ Some j = writer_owner n m l j stands.agrees.writers (less j on) in
          let p : j ≡ k = cc in
          subst (λ i. (x : ℕ) × (x ≤ length rs) × (l'.sent ≡ take x rs) × ((with_asks k asks coming i ≡ asks_from rs e x) ⊎ (with_asks k asks coming i ≡ []))) (sym p)
          (q, low, is, elim (at (subst (λ i. w i ≡ true) p on)) [ inl x ↦ inl (at_itself ∙ x) | inr x ↦ inr (at_itself ∙ x) ]);
    }

  -- ---- A job of somebody else

  -- the same of what is noted
  noted_off : (asks : List Request) → now_asked (request_in act.job.body) ≡ l → writes l k ≡ false → (ours k ≡ true → StillAsks rs e asks) → PlayedOwn rs e now_noted (writes now_noted) ours (with_asks k asks coming)
  noted_off asks is off its =
      let less = noted_less in
      off_played asks now_noted (writes now_noted) (less.sent ∙ ap (λ (x : Ledger). x.sent) is) (λ j on. subst (λ (x : Ledger). writes x j ≡ true) is (less.writers j on)) off its

  other_played : ours k ≡ false → (asks : List Request) → PlayedOwn rs e now_noted (writes now_noted) ours (with_asks k asks coming)
  other_played foreign asks = record {
    shapes = shapes_on asks (λ o. absurd (cc));
    writer = λ j on o. go j o (kept_writer set n l m after act stands step j (apart_k j o) on);
  }
    where
      apart_k : (j : ConnId) → ours j ≡ true → j ≢ k
      apart_k j o p = let a : ours k ≡ true = subst (λ i. ours i ≡ true) p o in cc

      go : (j : ConnId) → ours j ≡ true → (writes l j ≡ true) × (now_noted.sent ≡ l.sent) → (x : ℕ) × (x ≤ length rs) × (now_noted.sent ≡ take x rs) × ((with_asks k asks coming j ≡ asks_from rs e x) ⊎ (with_asks k asks coming j ≡ []))
      go j o (wrote, same_sent) =
          let (p, low, is, at) = played.writer j wrote o in
          let there = at_other asks j (apart_k j o) in
          (p, low, same_sent ∙ is, elim at [ inl x ↦ inl (there ∙ x) | inr x ↦ inr (there ∙ x) ])

  -- ---- Bytes that are no message, or the end

  ended_played : ours k ≡ true → (why : Refusal) → request_in act.job.body ≡ Err why → PlayedOwn rs e now_noted (writes now_noted) ours (with_asks k [] coming)
  ended_played o why is = go (writes l k) refl
    where
      same_now : now_asked (request_in act.job.body) ≡ l
      same_now = ap (λ (x : Result Request Refusal). now_asked x) is

      go : (b : Bool) → writes l k ≡ b → PlayedOwn rs e now_noted (writes now_noted) ours (with_asks k [] coming)
      go false off = noted_off [] same_now off (λ x. Over [] refl)
      go true on =
          let less = noted_less in
          let (p, low, sent_is, at) = played.writer k on o in
          went_played [] now_noted (writes now_noted) p on o (Over [] refl) low (less.sent ∙ (ap (λ (y : Ledger). y.sent) same_now ∙ sent_is)) (λ y. inr refl) (λ j y. subst (λ (z : Ledger). writes z j ≡ true) same_now (less.writers j y))

  -- ---- A message of ours

  module _ (message : ClientMessage) (what : Request) (later : List Request) (o : ours k ≡ true) (is_body : act.job.body ≡ body.Msg message) (asks : request_of message ≡ Ok what) (at : coming k ≡ what ∷ later) where
    asked_now : Asked rs e what later × StillAsks rs e later
    asked_now = asked_is rs e (coming k) what later (played.shapes k o) at

    request_is : request_in act.job.body ≡ Ok what
    request_is = ap request_in is_body ∙ asks

    asked_at : now_asked (request_in act.job.body) ≡ now_asked (Ok what)
    asked_at = ap (λ (x : Result Request Refusal). now_asked x) request_is

    -- the writer's next
    writer_played : writes l k ≡ true → PlayedOwn rs e now_noted (writes now_noted) ours (with_asks k later coming)
    writer_played on = go (played.writer k on o)
      where
        less : Less (now_asked (request_in act.job.body)) now_noted
        less = noted_less

        from : (p : ℕ) → p ≤ length rs → l.sent ≡ take p rs → coming k ≡ asks_from rs e p → PlayedOwn rs e now_noted (writes now_noted) ours (with_asks k later coming)
        from p low sent_is here = elim (next_from rs e p what later low (sym here ∙ at)) [
          | a_record r w within takes l_is ↦ took r w within takes l_is (record_or set m act after message r is_body (asks ∙ ap Ok w) step)
          | an_exit x w whole l_is ↦
              let now : now_asked (request_in act.job.body) ≡ record l { exit = Some (exit_text x) } = asked_at ∙ (ap (λ (q : Request). now_asked (Ok q)) w ∙ rw on refl) in
              went_played later now_noted (writes now_noted) p on o asked_now.1 low (less.sent ∙ (ap (λ (y : Ledger). y.sent) now ∙ sent_is)) (λ y. inr l_is)
              (λ j y. subst (λ (z : Ledger). writes z j ≡ true) now (less.writers j y))
        ]
          where
            took : (r : Record) → what ≡ request.Record r → p < length rs → take (p + 1) rs ≡ take p rs ++ r ∷ [] → later ≡ asks_from rs e (p + 1) → (act.answers ≡ []) ⊎ Last k act.answers
                → PlayedOwn rs e now_noted (writes now_noted) ours (with_asks k later coming)
            took r w within takes l_is (inl quiet) =
                let now : now_asked (request_in act.job.body) ≡ sent_one r l = asked_at ∙ (ap (λ (q : Request). now_asked (Ok q)) w ∙ rw (quiet, on) refl) in
                let sent_now : now_noted.sent ≡ take (p + 1) rs = less.sent ∙ (ap (λ (y : Ledger). y.sent) now ∙ (ap (λ (y : List Record). y ++ r ∷ []) sent_is ∙ sym takes)) in
                went_played later now_noted (writes now_noted) (p + 1) on o asked_now.1 (omega arith) sent_now (λ y. inl l_is) (λ j y. subst (λ (z : Ledger). writes z j ≡ true) now (less.writers j y))
            took r w within takes l_is (inr last) =
                let loud : is_silent act.answers ≡ false = last_silent k act.answers last in
                let now : now_asked (request_in act.job.body) ≡ l = asked_at ∙ (ap (λ (q : Request). now_asked (Ok q)) w ∙ rw loud refl) in
                let off : writes now_noted k ≡ false =
                reopened_writes k k (is_gone act.job.body) (heard_all (is_exit (request_in act.job.body)) act.answers (now_asked (request_in act.job.body)))
                ∙ last_writes (is_exit (request_in act.job.body)) k act.answers (now_asked (request_in act.job.body)) last in
                went_played later now_noted (writes now_noted) p on o asked_now.1 low (less.sent ∙ (ap (λ (y : Ledger). y.sent) now ∙ sent_is)) (λ y. absurd (cc)) (λ j y. subst (λ (z : Ledger). writes z j ≡ true) now (less.writers j y))
              where
                last_silent : (j : ConnId) (answers : List Answer) → Last j answers → is_silent answers ≡ false
                last_silent j answers (by_refusal why q) = rw q refl
                last_silent j answers (by_shut q) = rw q refl

        go : (p : ℕ) × (p ≤ length rs) × (l.sent ≡ take p rs) × ((coming k ≡ asks_from rs e p) ⊎ (coming k ≡ [])) → PlayedOwn rs e now_noted (writes now_noted) ours (with_asks k later coming)
        go (p, low, sent_is, inl here) = from p low sent_is here
        go (p, low, sent_is, inr none) = absurd (let a : what ∷ later ≡ [] = sym at ∙ none in cc)

    -- one that doesn't write asks something that leaves the log alone
    idle_played : writes l k ≡ false → now_asked (Ok what) ≡ l → PlayedOwn rs e now_noted (writes now_noted) ours (with_asks k later coming)
    idle_played off is = noted_off later (asked_at ∙ is) off (λ x. asked_now.1)

    nobody : m.owner n ≡ None → (j : ConnId) → writes l j ≡ false
    nobody free j = nobody_writes n m l j stands.agrees.writers free

    -- it opens the log
    opener_played : (accept : _) → what ≡ request.Accept accept → later ≡ asks_from rs e 0 → writes l k ≡ false → (b : Bool) → tells_log n act.answers ≡ b → PlayedOwn rs e now_noted (writes now_noted) ours (with_asks k later coming)
    opener_played accept w l_is off false mute = idle_played off (ap (λ (q : Request). now_asked (Ok q)) w ∙ rw mute refl)
    opener_played accept w l_is off true told =
        let (lane, above) = told_above set n m act after stands.sound step told in
        let free = (stands.sound.none_above n lane above).1 in
        let less = noted_less in
        let now : now_asked (request_in act.job.body) ≡ opened_by k (head_text accept.head) l = asked_at ∙ (ap (λ (q : Request). now_asked (Ok q)) w ∙ rw told refl) in
        begun_played later now_noted (writes now_noted) 0 o asked_now.1 (omega arith) (less.sent ∙ ap (λ (y : Ledger). y.sent) now) l_is (nobody free)
        (λ j y. who j (l.shut k) (subst (λ (z : Ledger). writes z j ≡ true) now (less.writers j y)))
      where
        who : (j : ConnId) → (b : Bool) → writes (record l { writers = if b then l.writers else k ∷ l.writers }) j ≡ true → (j ≡ k) ⊎ (writes l j ≡ true)
        who j true x = inr x
        who j false x = one_of j k l.writers x

    -- it goes on with the log
    resumer_played : (restart : Restart) (kept : ℕ) → first rs restart.point ≡ Some kept → what ≡ request.Restart restart → later ≡ asks_from rs e kept → writes l k ≡ false → PlayedOwn rs e now_noted (writes now_noted) ours (with_asks k later coming)
    resumer_played restart kept there w l_is off = elim (eq_or restart.log n) [
      | unequal p t ↦ idle_played off (ap (λ (q : Request). now_asked (Ok q)) w ∙ rw t refl)
      | equal p t ↦ its p t (is_silent act.answers) refl (l.shut k) refl act.in_cut refl
    ]
      where
        less : Less (now_asked (request_in act.job.body)) now_noted
        less = noted_less

        its : restart.log ≡ n → (restart.log == n) ≡ true → (s : Bool) → is_silent act.answers ≡ s → (d : Bool) → l.shut k ≡ d → (c : Bool) → act.in_cut ≡ c → PlayedOwn rs e now_noted (writes now_noted) ours (with_asks k later coming)
        its p t true quiet true shut c cutting = idle_played off (ap (λ (q : Request). now_asked (Ok q)) w ∙ rw (t, quiet, shut) refl)
        its p t false loud d shut false cutting = idle_played off (ap (λ (q : Request). now_asked (Ok q)) w ∙ rw (t, loud, cutting) refl)
        its p t false loud d shut true cutting =
            let now : now_asked (request_in act.job.body) ≡ record l { promised = lowered_to l.promised l.shown restart.point } = asked_at ∙ (ap (λ (q : Request). now_asked (Ok q)) w ∙ rw (t, loud, cutting) refl) in
            off_played later now_noted (writes now_noted) (less.sent ∙ ap (λ (y : Ledger). y.sent) now) (λ j y. subst (λ (z : Ledger). writes z j ≡ true) now (less.writers j y)) off (λ x. asked_now.1)
        its p t true quiet false open_ c cutting =
            let now : now_asked (request_in act.job.body) ≡ resumed_by k restart.point l = asked_at ∙ (ap (λ (q : Request). now_asked (Ok q)) w ∙ rw (t, quiet, open_) refl) in
            begun_played later now_noted (writes now_noted) kept o asked_now.1 (first_some rs restart.point kept there).within (less.sent ∙ (ap (λ (y : Ledger). y.sent) now ∙ cut_is)) l_is (nobody free)
            (λ j y. one_of j k l.writers (subst (λ (z : Ledger). writes z j ≡ true) now (less.writers j y)))
          where
            living : is_dead (m.states k) ≡ false
            living = sym (stands.agrees.shut k) ∙ open_

            resumed : HasResumed m after restart k
            resumed = accepted_restart set m after act restart step living (silent_asks set m act after message restart is_body (asks ∙ ap Ok w) living (silent_is act.answers quiet) step) (silent_is act.answers quiet)

            free : m.owner n ≡ None
            free = ap m.owner (sym p) ∙ resumed.could.free

            cut_is : cut l.sent restart.point ≡ take kept rs
            cut_is = begun o restart kept (request_is ∙ ap Ok w) p there

    message_played : PlayedOwn rs e now_noted (writes now_noted) ours (with_asks k later coming)
    message_played = go (writes l k) refl
      where
        go : (b : Bool) → writes l k ≡ b → PlayedOwn rs e now_noted (writes now_noted) ours (with_asks k later coming)
        go true on = writer_played on
        go false off = elim asked_now.0 [
          | greets w ↦ idle_played off (ap (λ (q : Request). now_asked (Ok q)) w)
          | opens accept w l_is ↦ opener_played accept w l_is off (tells_log n act.answers) refl
          | goes_on restart kept there w l_is ↦ resumer_played restart kept there w l_is off
          | plays r w ↦ idle_played off (ap (λ (q : Request). now_asked (Ok q)) w ∙ rw (and_off (is_silent act.answers) (writes l k) off) refl)
          | exits x w ↦ idle_played off (ap (λ (q : Request). now_asked (Ok q)) w ∙ rw off refl)
        ]

  pub own_played : (ours k ≡ true → IsNext act.job.body (coming k)) → PlayedOwn rs e now_noted (writes now_noted) ours (all_asks_after act coming)
  own_played next = split (ours k) refl
    where
      split : (b : Bool) → ours k ≡ b → PlayedOwn rs e now_noted (writes now_noted) ours (all_asks_after act coming)
      split false x = other_played x (asks_after act.job.body (coming k))
      split true o = go act.job.body refl (next o)
        where
          go : (b : Body) → act.job.body ≡ b → IsNext b (coming k) → PlayedOwn rs e now_noted (writes now_noted) ours (with_asks k (asks_after b (coming k)) coming)
          go (body.Msg message) is (what, later, at, asks) =
              subst (λ (x : List Request). PlayedOwn rs e now_noted (writes now_noted) ours (with_asks k x coming)) (sym (ap later_asks at)) (message_played message what later o is asks at)
          go (body.Bad fault) is x = ended_played o refusals.MalformedMessage (ap request_in is)
          go body.Gone is x = ended_played o refusals.MalformedMessage (ap request_in is)
