-- A legal conversation, job by job and turn by turn: it is served.
use Rattle.std.proofs.Common.{◌≡◌, ◌≤◌, ◌+◌, ◌^◌, ◌<◌, ℕ, List, [], ◌∷◌, ◌++◌, length, map, refl, sym, ◌∙◌, ap, subst, inl, inr, arith, Some, None, ◌⊎◌, append_assoc, append-nil, length-append}
use Rattle.std.specs.Prelude.{◌||◌, ◌&&◌, not, nat_le, Bool, true, false, if◌then◌else◌, Result, Ok, Err, All}
use Rattle.std.specs.List.{flat_map, list_any}
use Rattle.std.proofs.lemmas.Bool.Decides.{nat_tests}
use Rattle.std.proofs.lemmas.List.Elements.{All-head, All-tail}
use Rattle.lsv_base.specs.declared.time.TimeSpec.{TimeSpec}
use Rattle.lsv_disk.specs.declared.file.Owner.{Owner}
use Rattle.lsv_disk.specs.declared.file.Owner.TheVariants.{Log, Events}
use Rattle.lsv_info.specs.Layout.{head_text}
use Rattle.lsv_mask.specs.Masking.{mask}
use Rattle.lsv_record.specs.Points.{Stored}
use Rattle.lsv_record.specs.Records.{elapsed, stream_of, timing_of}
use Rattle.lsv_record.specs.declared.records.Record.{Record}
use Rattle.lsv_record.specs.declared.records.Stream.{Stream}
use Rattle.lsv_request.specs.Requests.{has_keys, request_of}
use Rattle.lsv_request.specs.declared.refusal.Refusal.{Refusal}
use Rattle.lsv_request.specs.declared.refusal.Refusal.TheVariants as refusals
use Rattle.lsv_request.specs.declared.request.Accept.{Accept}
use Rattle.lsv_request.specs.declared.request.Request.{Request}
use Rattle.lsv_request.specs.declared.request.Request.TheVariants as request
use Rattle.lsv_session.specs.declared.connection.ConnId.{ConnId}
use Rattle.lsv_session.specs.declared.connection.ConnState.{ConnState}
use Rattle.lsv_session.specs.declared.connection.ConnState.TheVariants.{Fresh, Greeted, Alerted, Running, Dead}
use Rattle.lsv_session.specs.declared.job.Body.{Body}
use Rattle.lsv_session.specs.declared.job.Body.TheVariants as body
use Rattle.lsv_session.specs.declared.job.Job.{Job}
use Rattle.lsv_machine.specs.Answers.{Answer, Saying, Saying.CommitPoint, Saying.LogId, Saying.Shut, is_refused, say}
use Rattle.lsv_machine.specs.Failures.{Act, AsksFor, Plainly, Step, WantsMemory}
use Rattle.lsv_machine.specs.History.{is_exit, request_in}
use Rattle.lsv_machine.specs.Judgement.{allows, with_keys}
use Rattle.lsv_machine.specs.Legal.{AreSent, AreUndisturbed, Came, Fits, IsLegal, IsServed, all_answers, all_lines, behind, behind_all, exit_or, exit_sent, first_head, goes_to, has_place, head_or, is_committed, is_shut, line_for, lines_in, points, record_in, records_in, whole_log}
use Rattle.lsv_machine.specs.Machine.{LogState, LogState.There, Machine, Settings, is_dead, is_running, leaves, with_log, with_state}
use Rattle.lsv_machine.specs.Recovery.{AtTheirMoments, Turn, all_turns}
use Rattle.lsv_machine.specs.Starts.{StartsAs}
use Rattle.lsv_machine.specs.Turns.{Commits, EndOfTurn, FlushesLines, FlushesLog, FlushesLogs, Happened, Happened.Did, Happened.Tailed, Run, Tail, all_acted, raised, with_lines}
use Rattle.lsv_machine.specs.Work.{Done, adds_line, exited, fits_file, has_line, last_number, line_fits, line_in, lined, next_number, opened, opens, plain, silently, work}
use Rattle.lsv_machine.proofs.Choices.{EqOr.equal, EqOr.unequal, eq_or}
use Rattle.lsv_machine.proofs.LegalRecords.{log_takes, masked_count, masked_time}
use Rattle.lsv_machine.proofs.LegalWork.{Lined.unlined, Lined.with_line, Opens, Rests, Writes, asked_does, ends_now, exit_set, greets, has_opened, has_taken, lined_is, log_ended, log_with, opened_is, opens_lined, opens_now, record_taken, rests_lined, takes_now, writes_lined}
use Rattle.lsv_machine.proofs.OutcomeLemmas.{number_is, plainly_or}
use Rattle.lsv_machine.proofs.StepLooks.{none_among}

-- ---- What a message asks, whatever the state

keyed : (b : Bool) (w : Result Request Refusal) (asked : Request) → (if b then w else Err refusals.MissingKey) ≡ Ok asked → w ≡ Ok asked
keyed true w asked h = h
keyed false w asked h = absurd (cc)

keys_pass : (s : ConnState) (w : Result Request Refusal) (asked : Request) → with_keys s w ≡ Ok asked → w ≡ Ok asked
keys_pass s (Err why) asked e = absurd (cc)
keys_pass s (Ok (request.Accept accept)) asked e = keyed (is_running s || has_keys accept.head.info) (Ok (request.Accept accept)) asked e
keys_pass s (Ok request.Hello) asked e = e
keys_pass s (Ok (request.Reject report)) asked e = e
keys_pass s (Ok (request.Alert report)) asked e = e
keys_pass s (Ok (request.Restart restart)) asked e = e
keys_pass s (Ok (request.Record r)) asked e = e
keys_pass s (Ok (request.Exit exit)) asked e = e

asked_in : (s : ConnState) (b : Body) (asked : Request) → AsksFor s b asked → request_in b ≡ Ok asked
asked_in s (body.Msg message) asked asks = go (allows message s) asks
  where
    go : (b : Bool) → (if b then with_keys s (request_of message) else Err refusals.UnexpectedMessage) ≡ Ok asked → request_of message ≡ Ok asked
    go true h = keys_pass s (request_of message) asked h
    go false h = absurd (cc)
asked_in s (body.Bad fault) asked asks = absurd asks
asked_in s body.Gone asked asks = absurd asks

running_not : (b : Bool) → not b ≡ true → b ≡ false
running_not false e = refl
running_not true e = absurd (cc)

-- ---- The conversation that is left

module _ (n : ℕ) (head exit : List ℕ) (all : List Record) where
  pub record Left (s : ConnState) (sent : List Record) (rest : List Body) : Type 0 where
    pub legal : IsLegal n s rest
    pub exit_is : exit_sent rest ≡ exit
    pub head_is : is_running s ≡ false → first_head rest ≡ head
    pub records : all ≡ sent ++ records_in rest

  records_next : (sent : List Record) (b : Body) (rest : List Body) (asked : Request) → request_in b ≡ Ok asked → all ≡ sent ++ records_in (b ∷ rest) → all ≡ (sent ++ record_in (Ok asked)) ++ records_in rest
  records_next sent b rest asked e is =
      is ∙ (ap (λ (w : Result Request Refusal). sent ++ (record_in w ++ records_in rest)) e ∙ sym (append_assoc sent (record_in (Ok asked)) (records_in rest)))

  exit_next : (asked : Request) (other : List ℕ) → is_exit (Ok asked) ≡ false → exit_or (Ok asked) other ≡ other
  exit_next request.Hello other e = refl
  exit_next (request.Accept accept) other e = refl
  exit_next (request.Reject report) other e = refl
  exit_next (request.Alert report) other e = refl
  exit_next (request.Restart restart) other e = refl
  exit_next (request.Record r) other e = refl
  exit_next (request.Exit x) other e = absurd (cc)

  clash : {A : Type 0} (b : Bool) → b ≡ true → b ≡ false → A
  clash {A} b p q = absurd (cc)

  head_next : (s : ConnState) (asked : Request) (other : List ℕ) → is_exit (Ok asked) ≡ false → has_place s asked ≡ true → is_running (goes_to n s asked) ≡ false → (is_running s ≡ false) × (head_or (Ok asked) other ≡ other)
  head_next s request.Hello other not_exit place off = (running_not (is_running s) place, refl)
  head_next s (request.Accept accept) other not_exit place off = go (is_running s) refl off
    where
      go : (b : Bool) → is_running s ≡ b → is_running (if b then s else Running (Some n)) ≡ false → (is_running s ≡ false) × (head_or (Ok (request.Accept accept)) other ≡ other)
      go true e h = clash (is_running s) e h
      go false e h = absurd (cc)
  head_next s (request.Reject report) other not_exit place off = clash (is_running s) place off
  head_next s (request.Alert report) other not_exit place off = go (is_running s) refl off
    where
      go : (b : Bool) → is_running s ≡ b → is_running (if b then s else Alerted) ≡ false → (is_running s ≡ false) × (head_or (Ok (request.Alert report)) other ≡ other)
      go true e h = clash (is_running s) e h
      go false e h = (e, refl)
  head_next s (request.Restart restart) other not_exit place off = absurd (cc)
  head_next s (request.Record r) other not_exit place off = clash (is_running s) place off
  head_next s (request.Exit x) other not_exit place off = absurd (cc)

  left_next : (s : ConnState) (sent : List Record) (b : Body) (rest : List Body) (asked : Request) → Left s sent (b ∷ rest) → request_in b ≡ Ok asked → has_place s asked ≡ true → is_exit (Ok asked) ≡ false → IsLegal n (goes_to n s asked) rest
      → Left (goes_to n s asked) (sent ++ record_in (Ok asked)) rest
  left_next s sent b rest asked left is place not_exit legal = record {
    legal = legal;
    exit_is =
        let e : exit_or (request_in b) (exit_sent rest) ≡ exit_sent rest = ap (λ (w : Result Request Refusal). exit_or w (exit_sent rest)) is ∙ exit_next asked (exit_sent rest) not_exit in
        sym e ∙ left.exit_is;
    head_is = λ off.
        let h = head_next s asked (first_head rest) not_exit place off in
        let e : head_or (request_in b) (first_head rest) ≡ first_head rest = ap (λ (w : Result Request Refusal). head_or w (first_head rest)) is ∙ h.1 in
        sym e ∙ left.head_is h.0;
    records = records_next sent b rest asked is left.records;
  }

-- ---- One job

module _ (set : Settings) (texts : List (List ℕ)) (k : ConnId) (n : ℕ) (head exit : List ℕ) (all : List Record) where
  -- the connection is before its log or writes it
  data Next (s : ConnState) (sent : List Record) (wait : Bool) (m : Machine) : Type 0 where
    still : Opens set texts k n s m → sent ≡ [] → wait ≡ false → Next s sent wait m
    writing : s ≡ Running (Some n) → Writes texts k n head sent wait m → Next s sent wait m

  -- the answer that opens the log, where it is opened between two states
  abbrev opened_by : ConnState → ConnState → List Answer
  opened_by s t = if is_running s then [] else if is_running t then say k (LogId n) ∷ [] else []

  next_lined : (s : ConnState) (sent : List Record) (wait : Bool) (m : Machine) (line : List ℕ) → Next s sent wait m → Next s sent wait (adds_line k line m)
  next_lined s sent wait m line (still o e f) = still (opens_lined set texts k n s m o line) e f
  next_lined s sent wait m line (writing e w) = writing e (writes_lined texts k n head sent wait m w line)

  -- a job that was done so, with its line or without one
  data DoneAs (now : TimeSpec) (s : ConnState) (asked : Request) (i : ℕ) (d : Done) (act : Act) (new : Machine) : Type 0 where
    quiet : act.answers ≡ d.answers → new ≡ d.machine → has_line set asked ≡ false → DoneAs now s asked i d act new
    noted : act.answers ≡ d.answers → new ≡ adds_line k (line_in set now k s asked i) d.machine → has_line set asked ≡ true → DoneAs now s asked i d act new

  done_as : (now : TimeSpec) (m new : Machine) (act : Act) (b : Body) (s : ConnState) (asked : Request) (d : Done) (p : Plainly set m act new) → act.now ≡ now → act.job ≡ record { conn = k; body = b } → m.states k ≡ s → is_dead s ≡ false → AsksFor s b asked
      → work k s asked p.number m ≡ d → is_refused d.answers ≡ false → (has_line set asked ≡ true → line_fits (line_in set now k s asked p.number) m ≡ true) → DoneAs now s asked p.number d act new
  done_as now m new act b s asked d p at_now is_job at living asks works kept fits =
      let e : plain set act.now act.job p.number m ≡ lined set now k s asked p.number m d =
      ap (λ (t : TimeSpec). plain set t act.job p.number m) at_now ∙ (ap (λ (j : Job). plain set now j p.number m) is_job
      ∙ (asked_does set now k b p.number m s asked at living asks ∙ ap (λ (x : Done). lined set now k s asked p.number m x) works)) in
      elim (lined_is set now k s asked p.number m d kept fits) [
        | unlined none q ↦ let f = e ∙ q in quiet (p.answers ∙ ap (λ (x : Done). x.answers) f) (p.now ∙ ap (λ (x : Done). x.machine) f) none
        | with_line has q ↦ let f = e ∙ q in noted (p.answers ∙ ap (λ (x : Done). x.answers) f) (p.now ∙ ap (λ (x : Done). x.machine) f) has
      ]

  told_as : (now : TimeSpec) (s : ConnState) (asked : Request) (i : ℕ) (d : Done) (act : Act) (new : Machine) → DoneAs now s asked i d act new → act.answers ≡ d.answers
  told_as now s asked i d act new (quiet a e h) = a
  told_as now s asked i d act new (noted a e h) = a

  next_as : (now : TimeSpec) (s t : ConnState) (asked : Request) (i : ℕ) (d : Done) (act : Act) (new : Machine) (sent : List Record) (wait : Bool) → DoneAs now s asked i d act new → Next t sent wait d.machine → Next t sent wait new
  next_as now s t asked i d act new sent wait (quiet a e h) x = subst (λ (y : Machine). Next t sent wait y) (sym e) x
  next_as now s t asked i d act new sent wait (noted a e h) x = subst (λ (y : Machine). Next t sent wait y) (sym e) (next_lined t sent wait d.machine (line_in set now k s asked i) x)

  rests_as : (now : TimeSpec) (s : ConnState) (asked : Request) (i : ℕ) (d : Done) (act : Act) (new : Machine) (log : LogState) → DoneAs now s asked i d act new → Rests k n log d.machine → Rests k n log new
  rests_as now s asked i d act new log (quiet a e h) x = subst (λ (y : Machine). Rests k n log y) (sym e) x
  rests_as now s asked i d act new log (noted a e h) x = subst (λ (y : Machine). Rests k n log y) (sym e) (rests_lined k n log d.machine (line_in set now k s asked i) x)

  -- ---- Room for event lines

  -- the event log takes this many bytes more
  abbrev Room : Machine → ℕ → Type 0
  Room m more = length m.lines + length m.fresh + more ≤ 2 ^ 40

  line_is : (now : TimeSpec) (s : ConnState) (b : Body) (asked : Request) (i : ℕ) → request_in b ≡ Ok asked → has_line set asked ≡ true → line_for set now k s (request_in b) i ≡ line_in set now k s asked i
  line_is now s b asked i e has = ap (λ (w : Result Request Refusal). line_for set now k s w i) e ∙ rw has refl

  line_none : (now : TimeSpec) (s : ConnState) (b : Body) (asked : Request) (i : ℕ) → request_in b ≡ Ok asked → has_line set asked ≡ false → line_for set now k s (request_in b) i ≡ []
  line_none now s b asked i e has = ap (λ (w : Result Request Refusal). line_for set now k s w i) e ∙ rw has refl

  room_fits : (line : List ℕ) (m : Machine) (more : ℕ) → Room m (length line + more) → line_fits line m ≡ true
  room_fits line m more room = at_most (length m.lines + length m.fresh + length line) (2 ^ 40) (omega arith)
    where
      at_most : (a b : ℕ) → a ≤ b → nat_le a b ≡ true
      at_most a b h = grind (arith, nat_tests)

  room_as : (now : TimeSpec) (s : ConnState) (b : Body) (asked : Request) (d : Done) (act : Act) (m new : Machine) (i more : ℕ) → request_in b ≡ Ok asked → line_in set now k s asked i ≡ line_in set now k s asked n → d.machine.lines ≡ m.lines → d.machine.fresh ≡ m.fresh
      → DoneAs now s asked i d act new → Room m (length (line_for set now k s (request_in b) n) + more) → Room new more
  room_as now s b asked d act m new i more is alike lines fresh (quiet a e h) room =
      let p : length new.lines ≡ length m.lines = ap (λ (x : Machine). length x.lines) e ∙ ap length lines in
      let q : length new.fresh ≡ length m.fresh = ap (λ (x : Machine). length x.fresh) e ∙ ap length fresh in
      omega arith
  room_as now s b asked d act m new i more is alike lines fresh (noted a e h) room =
      let line : List ℕ = line_in set now k s asked i in
      let p : length new.lines ≡ length m.lines = ap (λ (x : Machine). length x.lines) e ∙ ap length lines in
      let q : length new.fresh ≡ length (d.machine.fresh ++ line) = ap (λ (x : Machine). length x.fresh) e in
      let r : length (d.machine.fresh ++ line) ≡ length d.machine.fresh + length line = length-append d.machine.fresh line in
      let t : length d.machine.fresh ≡ length m.fresh = ap length fresh in
      let u : length (line_for set now k s (request_in b) n) ≡ length line = ap length (line_is now s b asked n is h ∙ sym alike) in
      omega arith

  fits_as : (now : TimeSpec) (s : ConnState) (b : Body) (asked : Request) (m : Machine) (i more : ℕ) → request_in b ≡ Ok asked → line_in set now k s asked i ≡ line_in set now k s asked n → Room m (length (line_for set now k s (request_in b) n) + more)
      → has_line set asked ≡ true → line_fits (line_in set now k s asked i) m ≡ true
  fits_as now s b asked m i more is alike room has =
      let e : line_for set now k s (request_in b) n ≡ line_in set now k s asked i = line_is now s b asked n is has ∙ sym alike in
      room_fits (line_in set now k s asked i) m more (subst (λ (l : List ℕ). Room m (length l + more)) e room)

  -- ---- A job that goes on

  record Goes (s : ConnState) (asked : Request) (sent : List Record) (wait : Bool) (more : ℕ) (act : Act) (new : Machine) : Type 0 where
    answers : act.answers ≡ opened_by s (goes_to n s asked)
    next : Next (goes_to n s asked) (sent ++ record_in (Ok asked)) (wait || is_committed (Ok asked)) new
    room : Room new more

  module _ (few : n ≤ last_number) (head_fits : fits_file head ≡ true) (exit_fits : fits_file exit ≡ true) (timing_fits : fits_file (timing_of all) ≡ true)
      (streams_fit : (stream : Stream) → fits_file (stream_of stream all) ≡ true) (time_fits : elapsed all < 2 ^ 63) where
    module _ (now : TimeSpec) (m new : Machine) (act : Act) (b : Body) (p : Plainly set m act new) (at_now : act.now ≡ now) (is_job : act.job ≡ record { conn = k; body = b }) (more : ℕ) where
      -- before the log is opened
      module _ (s : ConnState) (o : Opens set texts k n s m) where
        number : p.number ≡ n
        number = number_is set m p.number o.drawn p.drawn ∙ o.next

        alike : (asked : Request) → line_in set now k s asked p.number ≡ line_in set now k s asked n
        alike asked = ap (λ (i : ℕ). line_in set now k s asked i) number

        module _ (asked : Request) (asks : AsksFor s b asked) (is : request_in b ≡ Ok asked) (room : Room m (length (line_for set now k s (request_in b) n) + more)) where
          opens_as : (d : Done) → work k s asked p.number m ≡ d → is_refused d.answers ≡ false → DoneAs now s asked p.number d act new
          opens_as d works kept = done_as now m new act b s asked d p at_now is_job o.state o.alive asks works kept (fits_as now s b asked m p.number more is (alike asked) room)

          opens_room : (d : Done) → DoneAs now s asked p.number d act new → d.machine.lines ≡ m.lines → d.machine.fresh ≡ m.fresh → Room new more
          opens_room d done lines fresh = room_as now s b asked d act m new p.number more is (alike asked) lines fresh done room

        off : opened_by s Greeted ≡ []
        off = let e = o.closed in rw e refl

        off_alerted : opened_by s Alerted ≡ []
        off_alerted = let e = o.closed in rw e refl

        opens_job : (asked : Request) → AsksFor s b asked → request_in b ≡ Ok asked → has_place s asked ≡ true → is_exit (Ok asked) ≡ false → (head_or (Ok asked) head ≡ head) → Room m (length (line_for set now k s (request_in b) n) + more) → Goes s asked [] false more act new
        opens_job request.Hello asks is place ex same_head room =
            let d : Done = silently (with_state k Greeted m) in
            let done = opens_as request.Hello asks is room d refl refl in
            record {
              answers = told_as now s request.Hello p.number d act new done ∙ sym off;
              next = next_as now s Greeted request.Hello p.number d act new [] false done (still (greets set texts k n s m o Greeted refl refl) refl refl);
              room = opens_room request.Hello asks is room d done refl refl;
            }
        opens_job (request.Accept accept) asks is place ex same_head room =
            let closed = o.closed in
            let wants : accept.expect_iobufs ≡ true = let h : (false || accept.expect_iobufs) ≡ true = subst (λ (x : Bool). (x || accept.expect_iobufs) ≡ true) closed place in h in
            let d : Done = record { answers = say k (LogId n) ∷ []; line = []; machine = has_opened set texts k n s m o head } in
            let works : work k s (request.Accept accept) p.number m ≡ d =
            (rw (closed, wants) refl) ∙ (ap (λ (i : ℕ). opened_at i accept) number ∙ (ap (λ (h : List ℕ). opened_with h) same_head ∙ opened_is set texts k n s m o head few head_fits)) in
            let done = opens_as (request.Accept accept) asks is room d works refl in
            let there : goes_to n s (request.Accept accept) ≡ Running (Some n) = rw closed refl in
            record {
              answers = told_as now s (request.Accept accept) p.number d act new done ∙ (rw closed refl);
              next = subst (λ (t : ConnState). Next t [] false new) (sym there) (next_as now s (Running (Some n)) (request.Accept accept) p.number d act new [] false done (writing refl (opens_now set texts k n s m o head)));
              room = opens_room (request.Accept accept) asks is room d done refl refl;
            }
          where
            opened_at : ℕ → Accept → Done
            opened_at i a = opened k (head_text a.head) i m

            opened_with : List ℕ → Done
            opened_with h = opened k h n m
        opens_job (request.Reject report) asks is place ex same_head room = let closed = o.closed in absurd (cc)
        opens_job (request.Alert report) asks is place ex same_head room =
            let closed = o.closed in
            let d : Done = silently (with_state k Alerted m) in
            let done = opens_as (request.Alert report) asks is room d (rw closed refl) refl in
            let there : goes_to n s (request.Alert report) ≡ Alerted = rw closed refl in
            record {
              answers = told_as now s (request.Alert report) p.number d act new done ∙ (rw closed refl);
              next = subst (λ (t : ConnState). Next t [] false new) (sym there) (next_as now s Alerted (request.Alert report) p.number d act new [] false done (still (greets set texts k n s m o Alerted refl refl) refl refl));
              room = opens_room (request.Alert report) asks is room d done refl refl;
            }
        opens_job (request.Restart restart) asks is place ex same_head room = absurd (cc)
        opens_job (request.Record r) asks is place ex same_head room = let closed = o.closed in absurd (cc)
        opens_job (request.Exit x) asks is place ex same_head room = absurd (cc)

      -- while the log is written
      module _ (sent : List Record) (wait : Bool) (w : Writes texts k n head sent wait m) where
        in_log : ConnState
        in_log = Running (Some n)

        same_line : (asked : Request) → line_in set now k (Running (Some n)) asked p.number ≡ line_in set now k (Running (Some n)) asked n
        same_line request.Hello = refl
        same_line (request.Accept accept) = refl
        same_line (request.Reject report) = refl
        same_line (request.Alert report) = refl
        same_line (request.Restart restart) = refl
        same_line (request.Record r) = refl
        same_line (request.Exit x) = refl

        module _ (asked : Request) (asks : AsksFor (Running (Some n)) b asked) (is : request_in b ≡ Ok asked) (room : Room m (length (line_for set now k (Running (Some n)) (request_in b) n) + more)) where
          writes_as : (d : Done) → work k (Running (Some n)) asked p.number m ≡ d → is_refused d.answers ≡ false → DoneAs now (Running (Some n)) asked p.number d act new
          writes_as d works kept = done_as now m new act b (Running (Some n)) asked d p at_now is_job w.state refl asks works kept (fits_as now (Running (Some n)) b asked m p.number more is (same_line asked) room)

          writes_room : (d : Done) → DoneAs now (Running (Some n)) asked p.number d act new → d.machine.lines ≡ m.lines → d.machine.fresh ≡ m.fresh → Room new more
          writes_room d done lines fresh = room_as now (Running (Some n)) b asked d act m new p.number more is (same_line asked) lines fresh done room

          -- nothing is done
          stays : work k (Running (Some n)) asked p.number m ≡ silently m → goes_to n (Running (Some n)) asked ≡ Running (Some n) → record_in (Ok asked) ≡ [] → is_committed (Ok asked) ≡ false → Goes (Running (Some n)) asked sent wait more act new
          stays works there none uncommitted =
              let d : Done = silently m in
              let done = writes_as d works refl in
              record {
                answers = told_as now (Running (Some n)) asked p.number d act new done;
                next = subst (λ (t : ConnState). Next t (sent ++ record_in (Ok asked)) (wait || is_committed (Ok asked)) new) (sym there)
                    (subst (λ (rs : List Record). Next (Running (Some n)) (sent ++ rs) (wait || is_committed (Ok asked)) new) (sym none)
                    (subst (λ (rs : List Record). Next (Running (Some n)) rs (wait || is_committed (Ok asked)) new) (sym (append-nil sent))
                    (subst (λ (c : Bool). Next (Running (Some n)) sent (wait || c) new) (sym uncommitted)
                    (subst (λ (c : Bool). Next (Running (Some n)) sent c new) (sym (or_false wait)) (next_as now (Running (Some n)) (Running (Some n)) asked p.number d act new sent wait done (writing refl w))))));
                room = writes_room d done refl refl;
              }
            where
              or_false : (c : Bool) → (c || false) ≡ c
              or_false true = refl
              or_false false = refl

        writes_job : (asked : Request) → AsksFor (Running (Some n)) b asked → request_in b ≡ Ok asked → has_place (Running (Some n)) asked ≡ true → is_exit (Ok asked) ≡ false → (rest : List Body) → all ≡ (sent ++ record_in (Ok asked)) ++ records_in rest
            → Room m (length (line_for set now k (Running (Some n)) (request_in b) n) + more) → Goes (Running (Some n)) asked sent wait more act new
        writes_job request.Hello asks is place ex rest whole room = absurd (cc)
        writes_job (request.Accept accept) asks is place ex rest whole room = stays (request.Accept accept) asks is room refl refl refl refl
        writes_job (request.Reject report) asks is place ex rest whole room = stays (request.Reject report) asks is room refl refl refl refl
        writes_job (request.Alert report) asks is place ex rest whole room = stays (request.Alert report) asks is room refl refl refl refl
        writes_job (request.Restart restart) asks is place ex rest whole room = absurd (cc)
        writes_job (request.Record r) asks is place ex rest whole room =
            let apart : all ≡ sent ++ r ∷ records_in rest = whole ∙ append_assoc sent (r ∷ []) (records_in rest) in
            let takes_it = log_takes texts all sent r (records_in rest) apart (log_with texts head sent) refl time_fits timing_fits streams_fit in
            let d : Done = silently (has_taken texts k n head sent wait m w r) in
            let done = writes_as (request.Record r) asks is room d (record_taken texts k n head sent wait m w r takes_it) refl in
            record {
              answers = told_as now (Running (Some n)) (request.Record r) p.number d act new done;
              next = subst (λ (c : Bool). Next (Running (Some n)) (sent ++ r ∷ []) c new) (sym (or_true wait))
                  (next_as now (Running (Some n)) (Running (Some n)) (request.Record r) p.number d act new (sent ++ r ∷ []) true done (writing refl (takes_now texts k n head sent wait m w r)));
              room = writes_room (request.Record r) asks is room d done refl refl;
            }
          where
            or_true : (c : Bool) → (c || true) ≡ true
            or_true true = refl
            or_true false = refl
        writes_job (request.Exit x) asks is place ex rest whole room = absurd (cc)

        -- the log as it is at the end
        abbrev ended_log : LogState
        ended_log = log_ended texts k n head sent wait m w exit

        -- the exit
        exit_job : (asked : Request) → AsksFor (Running (Some n)) b asked → request_in b ≡ Ok asked → is_exit (Ok asked) ≡ true → exit_or (Ok asked) [] ≡ exit → Room m (length (line_for set now k (Running (Some n)) (request_in b) n) + more)
            → (act.answers ≡ say k (CommitPoint (elapsed sent)) ∷ say k Shut ∷ []) × Rests k n ended_log new
        exit_job (request.Exit x) asks is ex same_exit room =
            let d : Done = record { answers = say k (CommitPoint (elapsed (mask texts sent))) ∷ say k Shut ∷ []; line = []; machine = leaves k Dead (with_log n ended_log m) } in
            let works : work k (Running (Some n)) (request.Exit x) p.number m ≡ d =
            ap (λ (t : List ℕ). exited k (Some n) t m) same_exit ∙ exit_set texts k n head sent wait m w exit exit_fits in
            let done = writes_as (request.Exit x) asks is room d works refl in (
              told_as now (Running (Some n)) (request.Exit x) p.number d act new done ∙ ap (λ (t : ℕ). say k (CommitPoint t) ∷ say k Shut ∷ []) (masked_time texts sent),
              rests_as now (Running (Some n)) (request.Exit x) p.number d act new ended_log done (ends_now texts k n head sent wait m w exit),
            )
        exit_job request.Hello asks is ex same_exit room = absurd (cc)
        exit_job (request.Accept accept) asks is ex same_exit room = absurd (cc)
        exit_job (request.Reject report) asks is ex same_exit room = absurd (cc)
        exit_job (request.Alert report) asks is ex same_exit room = absurd (cc)
        exit_job (request.Restart restart) asks is ex same_exit room = absurd (cc)
        exit_job (request.Record r) asks is ex same_exit room = absurd (cc)

    -- ---- The jobs of a turn

    -- the jobs of a turn were done: the conversation goes on, or it came to its exit. more: the bytes of event lines to come
    data Went (s : ConnState) (sent : List Record) (wait : Bool) (bodies later : List Body) (more : ℕ) (answers : List Answer) (mid : Machine) : Type 0 where
      goes_on : (t : ConnState) → (is_running s ≡ true → is_running t ≡ true) → answers ≡ opened_by s t → behind_all n s bodies ≡ t → Next t (sent ++ records_in bodies) (wait || list_any (λ b. is_committed (request_in b)) bodies) mid
          → Left n head exit all t (sent ++ records_in bodies) later → Room mid more → Went s sent wait bodies later more answers mid
      came_to_exit : (promised : ℕ) → answers ≡ opened_by s (Running (Some n)) ++ say k (CommitPoint (elapsed (sent ++ records_in bodies))) ∷ say k Shut ∷ [] → list_any (λ b. is_committed (request_in b)) bodies ≡ true → later ≡ []
          → all ≡ sent ++ records_in bodies → promised ≡ length all → Rests k n (There (record { head = head; records = mask texts all; exit = Some exit; cuts = 0 }) promised) mid → Went s sent wait bodies later more answers mid

    -- a job that goes on, by the state
    job_goes : (now : TimeSpec) (m new : Machine) (act : Act) (b : Body) (p : Plainly set m act new) → act.now ≡ now → act.job ≡ record { conn = k; body = b } → (more : ℕ) (s : ConnState) (sent : List Record) (wait : Bool) → Next s sent wait m
        → (rest : List Body) → Left n head exit all s sent (b ∷ rest) → (asked : Request) → AsksFor s b asked → has_place s asked ≡ true → is_exit (Ok asked) ≡ false → Room m (length (line_for set now k s (request_in b) n) + more) → Goes s asked sent wait more act new
    job_goes now m new act b p at_now is_job more s sent wait (still o none calm) rest left asked asks place not_exit room =
        let is = asked_in s b asked asks in
        let same_head : head_or (Ok asked) head ≡ head = head_again asked (ap (λ (w : Result Request Refusal). head_or w (first_head rest)) (sym is) ∙ left.head_is o.closed) in
        subst (λ (c : Bool). Goes s asked sent c more act new) (sym calm)
        (subst (λ (rs : List Record). Goes s asked rs false more act new) (sym none) (opens_job now m new act b p at_now is_job more s o asked asks is place not_exit same_head room))
      where
        head_again : (what : Request) → head_or (Ok what) (first_head rest) ≡ head → head_or (Ok what) head ≡ head
        head_again (request.Accept accept) e = e
        head_again request.Hello e = refl
        head_again (request.Reject report) e = refl
        head_again (request.Alert report) e = refl
        head_again (request.Restart restart) e = refl
        head_again (request.Record r) e = refl
        head_again (request.Exit x) e = refl
    job_goes now m new act b p at_now is_job more s sent wait (writing in_log w) rest left asked asks place not_exit room =
        let is = asked_in s b asked asks in
        let whole = records_next n head exit all sent b rest asked is left.records in
        let asks' : AsksFor (Running (Some n)) b asked = subst (λ (t : ConnState). AsksFor t b asked) in_log asks in
        let place' : has_place (Running (Some n)) asked ≡ true = subst (λ (t : ConnState). has_place t asked ≡ true) in_log place in
        let room' : Room m (length (line_for set now k (Running (Some n)) (request_in b) n) + more) = subst (λ (t : ConnState). Room m (length (line_for set now k t (request_in b) n) + more)) in_log room in
        subst (λ (t : ConnState). Goes t asked sent wait more act new) (sym in_log) (writes_job now m new act b p at_now is_job more sent wait w asked asks' is place' not_exit rest whole room')

    -- the log is opened once
    opened_once : (s t u : ConnState) → (is_running s ≡ true → is_running t ≡ true) → (is_running t ≡ true → is_running u ≡ true) → opened_by s t ++ opened_by t u ≡ opened_by s u
    opened_once s t u up up' = go (is_running s) (is_running t) (is_running u) refl refl refl
      where
        go : (a b d : Bool) → is_running s ≡ a → is_running t ≡ b → is_running u ≡ d → opened_by s t ++ opened_by t u ≡ opened_by s u
        go true true d p q r = rw (p, q) refl
        go true false d p q r = absurd (let h : is_running t ≡ true = up p in cc)
        go false true true p q r = rw (p, q, r) refl
        go false true false p q r = absurd (let h : is_running u ≡ true = up' q in cc)
        go false false true p q r = rw (p, q, r) refl
        go false false false p q r = rw (p, q, r) refl

    running_on : (s : ConnState) (asked : Request) → is_exit (Ok asked) ≡ false → has_place s asked ≡ true → is_running s ≡ true → is_running (goes_to n s asked) ≡ true
    running_on s request.Hello ex place e = absurd (cc)
    running_on s (request.Accept accept) ex place e = rw (e, e) refl
    running_on s (request.Reject report) ex place e = e
    running_on s (request.Alert report) ex place e = rw (e, e) refl
    running_on s (request.Restart restart) ex place e = e
    running_on s (request.Record r) ex place e = e
    running_on s (request.Exit x) ex place e = absurd (cc)

    -- what is told at the exit
    abbrev last_told : List Record → List Answer
    last_told rs = say k (CommitPoint (elapsed rs)) ∷ say k Shut ∷ []

    -- one job more in front of those that were done
    went_on : (s : ConnState) (sent : List Record) (wait : Bool) (b : Body) (bodies later : List Body) (more : ℕ) (asked : Request) (of_one answers : List Answer) (mid : Machine) → request_in b ≡ Ok asked → is_exit (Ok asked) ≡ false → has_place s asked ≡ true
        → of_one ≡ opened_by s (goes_to n s asked) → Went (goes_to n s asked) (sent ++ record_in (Ok asked)) (wait || is_committed (Ok asked)) bodies later more answers mid → Went s sent wait (b ∷ bodies) later more (of_one ++ answers) mid
    went_on s sent wait b bodies later more asked of_one answers mid is not_exit place one went = go went
      where
        up : is_running s ≡ true → is_running (goes_to n s asked) ≡ true
        up = running_on s asked not_exit place

        sent_is : (sent ++ record_in (Ok asked)) ++ records_in bodies ≡ sent ++ records_in (b ∷ bodies)
        sent_is = append_assoc sent (record_in (Ok asked)) (records_in bodies) ∙ ap (λ (w : Result Request Refusal). sent ++ (record_in w ++ records_in bodies)) (sym is)

        or_or : (x y z : Bool) → ((x || y) || z) ≡ (x || (y || z))
        or_or true y z = refl
        or_or false y z = refl

        waits_is : ((wait || is_committed (Ok asked)) || list_any (λ c. is_committed (request_in c)) bodies) ≡ (wait || list_any (λ c. is_committed (request_in c)) (b ∷ bodies))
        waits_is = or_or wait (is_committed (Ok asked)) (list_any (λ c. is_committed (request_in c)) bodies)
            ∙ ap (λ (w : Result Request Refusal). wait || (is_committed w || list_any (λ c. is_committed (request_in c)) bodies)) (sym is)

        behind_is : behind_all n s (b ∷ bodies) ≡ behind_all n (goes_to n s asked) bodies
        behind_is = ap (λ (w : Result Request Refusal). behind_all n (behind n s w) bodies) is

        or_committed : (x y : Bool) → y ≡ true → (x || y) ≡ true
        or_committed true y e = refl
        or_committed false y e = e

        go : Went (goes_to n s asked) (sent ++ record_in (Ok asked)) (wait || is_committed (Ok asked)) bodies later more answers mid → Went s sent wait (b ∷ bodies) later more (of_one ++ answers) mid
        go (goes_on t up' told state next left room) = goes_on t (λ h. up' (up h))
            (ap (λ (xs : List Answer). xs ++ answers) one ∙ (ap (λ (xs : List Answer). opened_by s (goes_to n s asked) ++ xs) told ∙ opened_once s (goes_to n s asked) t up up'))
            (behind_is ∙ state)
            (subst (λ (rs : List Record). Next t rs (wait || list_any (λ c. is_committed (request_in c)) (b ∷ bodies)) mid) sent_is (subst (λ (w : Bool). Next t ((sent ++ record_in (Ok asked)) ++ records_in bodies) w mid) waits_is next))
            (subst (λ (rs : List Record). Left n head exit all t rs later) sent_is left)
            room
        go (came_to_exit promised told committed none whole held rests) = came_to_exit promised
            (ap (λ (xs : List Answer). xs ++ answers) one
            ∙ (ap (λ (xs : List Answer). opened_by s (goes_to n s asked) ++ xs) told
            ∙ (sym (append_assoc (opened_by s (goes_to n s asked)) (opened_by (goes_to n s asked) (Running (Some n))) (last_told ((sent ++ record_in (Ok asked)) ++ records_in bodies)))
            ∙ (ap (λ (xs : List Answer). xs ++ last_told ((sent ++ record_in (Ok asked)) ++ records_in bodies)) (opened_once s (goes_to n s asked) (Running (Some n)) up (λ h. refl))
            ∙ ap (λ (rs : List Record). opened_by s (Running (Some n)) ++ last_told rs) sent_is))))
            (or_committed (is_committed (request_in b)) (list_any (λ c. is_committed (request_in c)) bodies) committed)
            none
            (whole ∙ sent_is)
            held
            rests

    abbrev AreJobs : List Act → List Body → Type 0
    AreJobs acts bodies = map (λ (act : Act). act.job) acts ≡ map (λ (b : Body). record { conn = k; body = b }) bodies

    no_bodies : (acts : List Act) (bodies : List Body) → AreJobs acts bodies → acts ≡ [] → bodies ≡ []
    no_bodies [] [] e f = refl
    no_bodies [] (b ∷ bodies) e f = absurd (cc)
    no_bodies (a ∷ acts) bodies e f = absurd (cc)

    no_acts : (acts : List Act) (bodies : List Body) → AreJobs acts bodies → bodies ≡ [] → acts ≡ []
    no_acts [] bodies e f = refl
    no_acts (a ∷ acts) [] e f = absurd (cc)
    no_acts (a ∷ acts) (b ∷ bodies) e f = absurd (cc)

    no_front : (xs ys : List Body) → xs ++ ys ≡ [] → (xs ≡ []) × (ys ≡ [])
    no_front [] ys e = (refl, e)
    no_front (x ∷ xs) ys e = absurd (cc)

    plainly : (m mid : Machine) (act : Act) → Step set m act mid → act.failed ≡ [] → (WantsMemory act.job.conn act.answers → ⊥) → Plainly set m act mid
    plainly m mid act step none ample = elim (plainly_or set m mid act step none) [ inl p ↦ p | inr wants ↦ absurd (ample wants) ]

    -- the exit comes
    exits : (now : TimeSpec) (m new : Machine) (act : Act) (b : Body) (p : Plainly set m act new) → act.now ≡ now → act.job ≡ record { conn = k; body = b } → (more : ℕ) (s : ConnState) (sent : List Record) (wait : Bool) → Next s sent wait m
        → (later : List Body) → later ≡ [] → Left n head exit all s sent (b ∷ later) → (asked : Request) → AsksFor s b asked → has_place s asked ≡ true → is_exit (Ok asked) ≡ true → Room m (length (line_for set now k s (request_in b) n) + more)
        → Went s sent wait (b ∷ []) later more (act.answers ++ []) new
    exits now m new act b p at_now is_job more s sent wait (still o none calm) later ended left asked asks place is_it room = absurd (never asked place is_it)
      where
        never : (what : Request) → has_place s what ≡ true → is_exit (Ok what) ≡ true → ⊥
        never (request.Exit x) e f = let h : is_running s ≡ true = e in let off = o.closed in cc
        never request.Hello e f = cc
        never (request.Accept accept) e f = cc
        never (request.Reject report) e f = cc
        never (request.Alert report) e f = cc
        never (request.Restart restart) e f = cc
        never (request.Record r) e f = cc
    exits now m new act b p at_now is_job more s sent wait (writing in_log w) later ended left asked asks place is_it room =
        let is = asked_in s b asked asks in
        let asks' : AsksFor (Running (Some n)) b asked = subst (λ (t : ConnState). AsksFor t b asked) in_log asks in
        let room' : Room m (length (line_for set now k (Running (Some n)) (request_in b) n) + more) = subst (λ (t : ConnState). Room m (length (line_for set now k t (request_in b) n) + more)) in_log room in
        let same_exit : exit_or (Ok asked) [] ≡ exit = ap (λ (w : Result Request Refusal). exit_or w []) (sym is) ∙ (ap (λ (bs : List Body). exit_or (request_in b) (exit_sent bs)) (sym ended) ∙ left.exit_is) in
        let done = exit_job now m new act b p at_now is_job more sent wait w asked asks' is is_it same_exit room' in
        let no_record : record_in (request_in b) ≡ [] = ap record_in is ∙ none_in asked is_it in
        let sent_is : sent ++ records_in (b ∷ []) ≡ sent = ap (λ (rs : List Record). sent ++ (rs ++ [])) no_record ∙ append-nil sent in
        let whole : all ≡ sent ++ records_in (b ∷ []) = left.records ∙ ap (λ (bs : List Body). sent ++ records_in (b ∷ bs)) ended in
        let all_is : all ≡ sent = whole ∙ sent_is in
        came_to_exit (length (mask texts sent))
        (append-nil act.answers ∙ (done.0 ∙ (ap (λ (rs : List Record). say k (CommitPoint (elapsed rs)) ∷ say k Shut ∷ []) (sym sent_is)
        ∙ ap (λ (xs : List Answer). xs ++ say k (CommitPoint (elapsed (sent ++ records_in (b ∷ [])))) ∷ say k Shut ∷ []) (opened_in s in_log))))
        (ap (λ (w : Result Request Refusal). is_committed w || false) is ∙ committed_in asked is_it)
        ended
        whole
        (masked_count texts sent ∙ ap length (sym all_is))
        (subst (λ (rs : List Record). Rests k n (There (record { head = head; records = mask texts rs; exit = Some exit; cuts = 0 }) (length (mask texts sent))) new) (sym all_is) done.1)
      where
        none_in : (what : Request) → is_exit (Ok what) ≡ true → record_in (Ok what) ≡ []
        none_in (request.Exit x) f = refl
        none_in request.Hello f = absurd (cc)
        none_in (request.Accept accept) f = absurd (cc)
        none_in (request.Reject report) f = absurd (cc)
        none_in (request.Alert report) f = absurd (cc)
        none_in (request.Restart restart) f = absurd (cc)
        none_in (request.Record r) f = absurd (cc)

        committed_in : (what : Request) → is_exit (Ok what) ≡ true → (is_committed (Ok what) || false) ≡ true
        committed_in (request.Exit x) f = refl
        committed_in request.Hello f = absurd (cc)
        committed_in (request.Accept accept) f = absurd (cc)
        committed_in (request.Reject report) f = absurd (cc)
        committed_in (request.Alert report) f = absurd (cc)
        committed_in (request.Restart restart) f = absurd (cc)
        committed_in (request.Record r) f = absurd (cc)

        opened_in : (t : ConnState) → t ≡ Running (Some n) → [] ≡ opened_by t (Running (Some n))
        opened_in t e = ap (λ (u : ConnState). opened_by u (Running (Some n))) (sym e)

    -- the jobs of a turn are done
    acts_go : (now : TimeSpec) (acts : List Act) (bodies later : List Body) (more : ℕ) (m : Machine) (s : ConnState) (sent : List Record) (wait : Bool) (tail : Tail) (rest : List Happened) (end : Machine) → AreJobs acts bodies → All (λ act. act.now ≡ now) acts
        → AreUndisturbed acts → Next s sent wait m → Left n head exit all s sent (bodies ++ later) → Room m (length (lines_in set now k n s bodies) + more) → Run set m ((all_acted acts ++ Tailed tail ∷ []) ++ rest) end
        → (mid : Machine) × Run set mid (Tailed tail ∷ rest) end × Went s sent wait bodies later more (flat_map (λ act. act.answers) acts) mid
    acts_go now [] [] later more m s sent wait tail rest end jobs moments calm next left room run = (
      m,
      run,
      goes_on s (λ h. h) (nothing_opened (is_running s) refl) refl
          (subst (λ (c : Bool). Next s (sent ++ []) c m) (sym (or_false wait)) (subst (λ (rs : List Record). Next s rs wait m) (sym (append-nil sent)) next))
          (subst (λ (rs : List Record). Left n head exit all s rs later) (sym (append-nil sent)) left)
          (omega arith),
    )
      where
        or_false : (c : Bool) → (c || false) ≡ c
        or_false true = refl
        or_false false = refl

        nothing_opened : (c : Bool) → is_running s ≡ c → [] ≡ opened_by s s
        nothing_opened true e = rw e refl
        nothing_opened false e = rw e refl
    acts_go now [] (b ∷ bodies) later more m s sent wait tail rest end jobs moments calm next left room run = absurd (cc)
    acts_go now (a ∷ acts) [] later more m s sent wait tail rest end jobs moments calm next left room run = absurd (cc)
    acts_go now (a ∷ acts) (b ∷ bodies) later more m s sent wait tail rest end jobs moments calm next left room (mid, step, run) =
        go left.legal (λ t rs c next' left' room'. acts_go now acts bodies later more mid t rs c tail rest end jobs_on (All-tail (λ (act : Act). act.now ≡ now) a acts moments) calm.2 next' left' room' run)
      where
        is_job : a.job ≡ record { conn = k; body = b }
        is_job = cc

        jobs_on : AreJobs acts bodies
        jobs_on = cc

        at_now : a.now ≡ now
        at_now = All-head (λ (act : Act). act.now ≡ now) a acts moments

        p : Plainly set m a mid
        p = plainly m mid a step calm.0 calm.1

        split : length (lines_in set now k n s (b ∷ bodies)) ≡ length (line_for set now k s (request_in b) n) + length (lines_in set now k n (behind n s (request_in b)) bodies)
        split = length-append (line_for set now k s (request_in b) n) (lines_in set now k n (behind n s (request_in b)) bodies)

        room_on : Room m (length (line_for set now k s (request_in b) n) + (length (lines_in set now k n (behind n s (request_in b)) bodies) + more))
        room_on = let e = split in omega arith

        go : IsLegal n s (b ∷ (bodies ++ later))
            → ((t : ConnState) (rs : List Record) (c : Bool) → Next t rs c mid → Left n head exit all t rs (bodies ++ later) → Room mid (length (lines_in set now k n t bodies) + more)
            → (mid' : Machine) × Run set mid' (Tailed tail ∷ rest) end × Went t rs c bodies later more (flat_map (λ act. act.answers) acts) mid')
            → (mid' : Machine) × Run set mid' (Tailed tail ∷ rest) end × Went s sent wait (b ∷ bodies) later more (a.answers ++ flat_map (λ act. act.answers) acts) mid'
        go (asked, asks, place, inl (is_it, none)) on =
            let ends = no_front bodies later none in
            let last = no_acts acts bodies jobs_on ends.0 in
            let left' : Left n head exit all s sent (b ∷ later) = subst (λ (bs : List Body). Left n head exit all s sent (b ∷ (bs ++ later))) ends.0 left in
            let room' : Room m (length (line_for set now k s (request_in b) n) + more) = let e = room_on in omega arith in
            let went = exits now m mid a b p at_now is_job more s sent wait next later ends.1 left' asked asks place is_it room' in (
              mid,
              subst (λ (xs : List Act). Run set mid ((all_acted xs ++ Tailed tail ∷ []) ++ rest) end) last run,
              subst (λ (bs : List Body). Went s sent wait (b ∷ bs) later more (a.answers ++ flat_map (λ act. act.answers) acts) mid) (sym ends.0)
                  (subst (λ (xs : List Act). Went s sent wait (b ∷ []) later more (a.answers ++ flat_map (λ act. act.answers) xs) mid) (sym last) went),
            )
        go (asked, asks, place, inr (not_exit, legal)) on =
            let is = asked_in s b asked asks in
            let done = job_goes now m mid a b p at_now is_job (length (lines_in set now k n (behind n s (request_in b)) bodies) + more) s sent wait next (bodies ++ later) left asked asks place not_exit room_on in
            let left' = left_next n head exit all s sent b (bodies ++ later) asked left is place not_exit legal in
            let there : behind n s (request_in b) ≡ goes_to n s asked = ap (behind n s) is in
            let room' : Room mid (length (lines_in set now k n (goes_to n s asked) bodies) + more) = subst (λ (t : ConnState). Room mid (length (lines_in set now k n t bodies) + more)) there done.room in
            let (mid', run', went) = on (goes_to n s asked) (sent ++ record_in (Ok asked)) (wait || is_committed (Ok asked)) done.next left' room' in
            (mid', run', went_on s sent wait b bodies later more asked a.answers (flat_map (λ act. act.answers) acts) mid' is not_exit place done.answers went)

    -- ---- The end of a turn

    -- the event lines are flushed
    lines_done : (old mid : Machine) (failed : List Owner) (answers : List Answer) → failed ≡ [] → FlushesLines set failed answers old mid → (answers ≡ []) × (mid ≡ with_lines true old)
    lines_done old mid failed answers none (inl (sound, told, is)) = (told, is)
    lines_done old mid failed answers none (inr lost) = absurd (none_among (Events set.lane) failed none lost.did)

    -- what the end of a turn leaves where the conversation goes on
    record TailGoes (t : ConnState) (sent : List Record) (wait : Bool) (more : ℕ) (tail : Tail) (new : Machine) : Type 0 where
      answers : tail.answers ≡ (if wait then say k (CommitPoint (elapsed sent)) ∷ [] else [])
      next : Next t sent false new
      room : Room new more

    -- no log waits
    none_flushed : (old new : Machine) (failed : List Owner) (answers : List Answer) (numbers : List ℕ) → numbers ≡ [] → FlushesLogs failed numbers answers old new → (answers ≡ []) × (new ≡ old)
    none_flushed old new failed answers [] e f = f
    none_flushed old new failed answers (i ∷ numbers) e f = absurd (cc)

    -- the log n waits alone
    one_flushed : (old new : Machine) (failed : List Owner) (answers : List Answer) (numbers : List ℕ) → numbers ≡ n ∷ [] → failed ≡ [] → FlushesLogs failed numbers answers old new → Commits failed n answers old new
    one_flushed old new failed answers [] e none f = absurd (cc)
    one_flushed old new failed answers (i ∷ j ∷ numbers) e none f = absurd (let h : j ∷ numbers ≡ [] = cc in cc)
    one_flushed old new failed answers (i ∷ []) e none (mid, its, rest, parts, one, (told, is)) =
        let same : i ≡ n = cc in
        let whole : answers ≡ its = parts ∙ (ap (λ (xs : List Answer). its ++ xs) told ∙ append-nil its) in
        let one' : FlushesLog failed n its old mid = subst (λ (x : ℕ). FlushesLog failed x its old mid) same one in
        let commits : Commits failed n its old mid = elim one' [ inl x ↦ x | inr x ↦ absurd (none_among (Log n) failed none x.did) ] in
        subst (λ (xs : List Answer). Commits failed n xs old new) (sym whole) (subst (λ (x : Machine). Commits failed n its old x) (sym is) commits)

    -- a log that is written has its commit point
    commits_now : (sent : List Record) (wait : Bool) (failed : List Owner) (answers : List Answer) (old new : Machine) → Writes texts k n head sent wait old → Commits failed n answers old new
        → (answers ≡ say k (CommitPoint (elapsed sent)) ∷ []) × Writes texts k n head sent false (record new { waiting = [] })
    commits_now sent wait failed answers old new w c = (
      told,
      record {
        state = ap (λ (x : Machine). x.states k) c.now ∙ w.state;
        texts_are = ap (λ (x : Machine). x.texts) c.now ∙ w.texts_are;
        promised = raised c.promised c.stored.records (elapsed c.stored.records);
        log = ap (λ (x : Machine). x.logs n) c.now ∙ (at_n ∙ ap (λ (x : Stored). There x (raised c.promised c.stored.records (elapsed c.stored.records))) same);
        owned = ap (λ (x : Machine). x.owner n) c.now ∙ w.owned;
        waits_are = refl;
      },
    )
      where
        same : c.stored ≡ log_with texts head sent
        same = let e : There c.stored c.promised ≡ There (log_with texts head sent) w.promised = sym c.was ∙ w.log in cc

        writer : c.writer ≡ k
        writer = let e : Some c.writer ≡ Some k = sym c.owned ∙ w.owned in cc

        told : answers ≡ say k (CommitPoint (elapsed sent)) ∷ []
        told = c.told ∙ (ap (λ (j : ConnId). say j (CommitPoint (elapsed c.stored.records)) ∷ []) writer
            ∙ (ap (λ (x : Stored). say k (CommitPoint (elapsed x.records)) ∷ []) same ∙ ap (λ (t : ℕ). say k (CommitPoint t) ∷ []) (masked_time texts sent)))

        at_n : (with_log n (There c.stored (raised c.promised c.stored.records (elapsed c.stored.records))) old).logs n ≡ There c.stored (raised c.promised c.stored.records (elapsed c.stored.records))
        at_n = elim (eq_or n n) [ equal p t ↦ rw t refl | unequal p t ↦ absurd (p refl) ]

    writes_with_lines : (sent : List Record) (wait : Bool) (m : Machine) → Writes texts k n head sent wait m → Writes texts k n head sent wait (with_lines true m)
    writes_with_lines sent wait m w = record { state = w.state; texts_are = w.texts_are; promised = w.promised; log = w.log; owned = w.owned; waits_are = w.waits_are }

    opens_with_lines : (s : ConnState) (m : Machine) → Opens set texts k n s m → Opens set texts k n s (record (with_lines true m) { waiting = [] })
    opens_with_lines s m o = record { state = o.state; texts_are = o.texts_are; closed = o.closed; alive = o.alive; drawn = o.drawn; next = o.next; none_waits = refl }

    rests_with_lines : (log : LogState) (m : Machine) → Rests k n log m → Rests k n log (record (with_lines true m) { waiting = [] })
    rests_with_lines log m r = record { state = r.state; log_is = r.log_is; free = r.free; none_waits = refl }

    -- a log that is written, and doesn't wait
    writes_calm : (sent : List Record) (m : Machine) → Writes texts k n head sent false m → Writes texts k n head sent false (record (with_lines true m) { waiting = [] })
    writes_calm sent m w = record { state = w.state; texts_are = w.texts_are; promised = w.promised; log = w.log; owned = w.owned; waits_are = refl }

    room_with_lines : (m : Machine) (more : ℕ) → Room m more → Room (record (with_lines true m) { waiting = [] }) more
    room_with_lines m more room = let e : length (m.lines ++ m.fresh) ≡ length m.lines + length m.fresh = length-append m.lines m.fresh in omega arith

    -- the end of a turn in which no log waits
    calm_tail : (m new : Machine) (tail : Tail) → tail.failed ≡ [] → m.waiting ≡ [] → EndOfTurn set m tail new → (tail.answers ≡ []) × (new ≡ record (with_lines true m) { waiting = [] })
    calm_tail m new tail none calm t =
        let (told, is) = lines_done m t.mid tail.failed t.of_lines none t.lines in
        let waits : t.mid.waiting ≡ [] = ap (λ (x : Machine). x.waiting) is ∙ calm in
        let (hush, same) = none_flushed t.mid t.last tail.failed t.of_logs t.mid.waiting waits t.logs in (
          t.answers ∙ (ap (λ (xs : List Answer). xs ++ t.of_logs) told ∙ hush),
          t.now ∙ ap (λ (x : Machine). record x { waiting = [] }) (same ∙ is),
        )

    tail_goes : (m new : Machine) (tail : Tail) (t : ConnState) (sent : List Record) (wait : Bool) (more : ℕ) → tail.failed ≡ [] → Next t sent wait m → Room m more → EndOfTurn set m tail new → TailGoes t sent wait more tail new
    tail_goes m new tail t sent wait more none (still o empty calm) room e =
        let (told, is) = calm_tail m new tail none o.none_waits e in
        record {
          answers = told ∙ ap (λ (c : Bool). if c then say k (CommitPoint (elapsed sent)) ∷ [] else []) (sym calm);
          next = subst (λ (x : Machine). Next t sent false x) (sym is) (still (opens_with_lines t m o) empty refl);
          room = subst (λ (x : Machine). Room x more) (sym is) (room_with_lines m more room);
        }
    tail_goes m new tail t sent false more none (writing in_log w) room e =
        let (told, is) = calm_tail m new tail none w.waits_are e in
        record {
          answers = told;
          next = subst (λ (x : Machine). Next t sent false x) (sym is) (writing in_log (writes_calm sent m w));
          room = subst (λ (x : Machine). Room x more) (sym is) (room_with_lines m more room);
        }
    tail_goes m new tail t sent true more none (writing in_log w) room e =
        let (told, is) = lines_done m e.mid tail.failed e.of_lines none e.lines in
        let waits : e.mid.waiting ≡ n ∷ [] = ap (λ (x : Machine). x.waiting) is ∙ w.waits_are in
        let commits = one_flushed e.mid e.last tail.failed e.of_logs e.mid.waiting waits none e.logs in
        let w' : Writes texts k n head sent true e.mid = subst (λ (x : Machine). Writes texts k n head sent true x) (sym is) (writes_with_lines sent true m w) in
        let (point, on) = commits_now sent true tail.failed e.of_logs e.mid e.last w' commits in
        let lines_are : length e.last.lines ≡ length (m.lines ++ m.fresh) = ap (λ (x : Machine). length x.lines) commits.now ∙ ap (λ (x : Machine). length x.lines) is in
        let fresh_is : length e.last.fresh ≡ 0 = ap (λ (x : Machine). length x.fresh) commits.now ∙ ap (λ (x : Machine). length x.fresh) is in
        let sum : length (m.lines ++ m.fresh) ≡ length m.lines + length m.fresh = length-append m.lines m.fresh in
        record {
          answers = e.answers ∙ (ap (λ (xs : List Answer). xs ++ e.of_logs) told ∙ point);
          next = subst (λ (x : Machine). Next t sent false x) (sym e.now) (writing in_log on);
          room = subst (λ (x : Machine). Room x more) (sym e.now) (omega arith);
        }

    -- ---- Turns

    -- after the exit nothing comes
    over_goes : (came : List Came) (turns : List Turn) (m end : Machine) (log : LogState) → AreSent k came turns → flat_map (λ c. c.bodies) came ≡ [] → Rests k n log m → Run set m (all_turns turns) end → (all_answers turns ≡ []) × Rests k n log end
    over_goes [] [] m end log sent none r run = (refl, subst (λ (x : Machine). Rests k n log x) (sym run) r)
    over_goes [] (turn ∷ turns) m end log sent none r run = absurd sent
    over_goes (c ∷ came) [] m end log sent none r run = absurd sent
    over_goes (c ∷ came) (turn ∷ turns) m end log (now, jobs, calm, sound, sent) none r run =
        let apart = no_front c.bodies (flat_map (λ x. x.bodies) came) none in
        let idle = no_acts turn.acts c.bodies jobs apart.0 in
        let run' : Run set m ((all_acted [] ++ Tailed turn.tail ∷ []) ++ all_turns turns) end = subst (λ (xs : List Act). Run set m ((all_acted xs ++ Tailed turn.tail ∷ []) ++ all_turns turns) end) idle run in
        let (mid, tail, on) = run' in
        let (told, is) = calm_tail m mid turn.tail sound r.none_waits tail in
        let rest = over_goes came turns mid end log sent apart.1 (subst (λ (x : Machine). Rests k n log x) (sym is) (rests_with_lines log m r)) on in (
          ap (λ (xs : List Act). (flat_map (λ act. act.answers) xs ++ turn.tail.answers) ++ all_answers turns) idle
              ∙ (ap (λ (xs : List Answer). xs ++ all_answers turns) told ∙ rest.0),
          rest.1,
        )

    no_points : (rs : List Record) (came : List Came) → flat_map (λ c. c.bodies) came ≡ [] → points rs (map (λ c. c.bodies) came) ≡ []
    no_points rs [] none = refl
    no_points rs (c ∷ came) none =
        let apart = no_front c.bodies (flat_map (λ x. x.bodies) came) none in
        ap (λ (bs : List Body). (if list_any (λ b. is_committed (request_in b)) bs then elapsed (rs ++ records_in bs) ∷ [] else []) ++ points (rs ++ records_in bs) (map (λ x. x.bodies) came)) apart.0 ∙ no_points (rs ++ []) came apart.1

    -- the log's number, where it isn't told yet
    abbrev opened_says : ConnState → List Saying
    opened_says s = if is_running s then [] else LogId n ∷ []

    -- what is told from this state on
    abbrev from_here : ConnState → List ℕ → List Answer
    from_here s times = map (λ says. say k says) (opened_says s ++ map (λ point. CommitPoint point) times) ++ say k Shut ∷ []

    -- what one turn tells, and what is told after it
    turn_told : (s t : ConnState) (any : Bool) (point : ℕ) (times : List ℕ) (of_jobs of_tail rest : List Answer) → (is_running s ≡ true → is_running t ≡ true) → (is_running t ≡ false → any ≡ false)
        → of_jobs ≡ opened_by s t → of_tail ≡ (if any then say k (CommitPoint point) ∷ [] else []) → rest ≡ from_here t times
        → (of_jobs ++ of_tail) ++ rest ≡ from_here s ((if any then point ∷ [] else []) ++ times)
    turn_told s t any point times of_jobs of_tail rest up calm p q r = ap (λ (xs : List Answer). (xs ++ of_tail) ++ rest) p ∙ (ap (λ (xs : List Answer). (opened_by s t ++ xs) ++ rest) q
        ∙ (ap (λ (xs : List Answer). (opened_by s t ++ (if any then say k (CommitPoint point) ∷ [] else [])) ++ xs) r ∙ go (is_running s) (is_running t) any refl refl refl))
      where
        go : (a b c : Bool) → is_running s ≡ a → is_running t ≡ b → any ≡ c → (opened_by s t ++ (if any then say k (CommitPoint point) ∷ [] else [])) ++ from_here t times ≡ from_here s ((if any then point ∷ [] else []) ++ times)
        go true true true x y z = rw (x, y, z) refl
        go true true false x y z = rw (x, y, z) refl
        go true false c x y z = absurd (let h : is_running t ≡ true = up x in cc)
        go false true true x y z = rw (x, y, z) refl
        go false true false x y z = rw (x, y, z) refl
        go false false true x y z = absurd (let h : any ≡ false = calm y in cc)
        go false false false x y z = rw (x, y, z) refl

    -- the turn with the exit
    exit_told : (s : ConnState) (any : Bool) (point : ℕ) (times : List ℕ) (of_jobs of_tail rest : List Answer) → any ≡ true → of_jobs ≡ opened_by s (Running (Some n)) ++ say k (CommitPoint point) ∷ say k Shut ∷ [] → of_tail ≡ [] → rest ≡ [] → times ≡ []
        → (of_jobs ++ of_tail) ++ rest ≡ from_here s ((if any then point ∷ [] else []) ++ times)
    exit_told s any point times of_jobs of_tail rest is p q r e =
        ap (λ (xs : List Answer). (of_jobs ++ of_tail) ++ xs) r ∙ (append-nil (of_jobs ++ of_tail) ∙ (ap (λ (xs : List Answer). of_jobs ++ xs) q ∙ (append-nil of_jobs ∙ (p ∙ go (is_running s) refl))))
      where
        go : (a : Bool) → is_running s ≡ a → opened_by s (Running (Some n)) ++ say k (CommitPoint point) ∷ say k Shut ∷ [] ≡ from_here s ((if any then point ∷ [] else []) ++ times)
        go true x = rw (x, is, e) refl
        go false x = rw (x, is, e) refl

    record AllDone (s : ConnState) (sent : List Record) (came : List Came) (turns : List Turn) (end : Machine) : Type 0 where
      told : all_answers turns ≡ from_here s (points sent (map (λ c. c.bodies) came))
      log : end.logs n ≡ There (record { head = head; records = mask texts all; exit = Some exit; cuts = 0 }) (length all)
      free : end.owner n ≡ None

    calm_next : (t : ConnState) (rs : List Record) (c : Bool) (m : Machine) → Next t rs c m → is_running t ≡ false → c ≡ false
    calm_next t rs c m (still o empty calm) off = calm
    calm_next t rs c m (writing in_log w) off = absurd (let h : is_running t ≡ true = ap is_running in_log in cc)

    -- the conversation came to its exit, or some of it hasn't come yet and nobody was shut
    data TurnsDone (s : ConnState) (sent : List Record) (came : List Came) (unread : List Body) (turns : List Turn) (end : Machine) : Type 0 where
      whole : unread ≡ [] → AllDone s sent came turns end → TurnsDone s sent came unread turns end
      part : (unread ≡ [] → ⊥) → list_any (λ a. is_shut a.says) (all_answers turns) ≡ false → TurnsDone s sent came unread turns end

    unshut_append : (xs ys : List Answer) → list_any (λ a. is_shut a.says) xs ≡ false → list_any (λ a. is_shut a.says) ys ≡ false → list_any (λ a. is_shut a.says) (xs ++ ys) ≡ false
    unshut_append [] ys p q = q
    unshut_append (x ∷ xs) ys p q = go (is_shut x.says) refl p (λ f. unshut_append xs ys f q)
      where
        go : (b : Bool) → is_shut x.says ≡ b → (is_shut x.says || list_any (λ a. is_shut a.says) xs) ≡ false → (list_any (λ a. is_shut a.says) xs ≡ false → list_any (λ a. is_shut a.says) (xs ++ ys) ≡ false)
            → (is_shut x.says || list_any (λ a. is_shut a.says) (xs ++ ys)) ≡ false
        go true e f on = absurd (let h : (true || list_any (λ a. is_shut a.says) xs) ≡ false = subst (λ (c : Bool). (c || list_any (λ a. is_shut a.says) xs) ≡ false) e f in cc)
        go false e f on = let h : list_any (λ a. is_shut a.says) xs ≡ false = subst (λ (c : Bool). (c || list_any (λ a. is_shut a.says) xs) ≡ false) e f in rw e (on h)

    unshut_opened : (s t : ConnState) → list_any (λ a. is_shut a.says) (opened_by s t) ≡ false
    unshut_opened s t = go (is_running s) (is_running t) refl refl
      where
        go : (a b : Bool) → is_running s ≡ a → is_running t ≡ b → list_any (λ a. is_shut a.says) (opened_by s t) ≡ false
        go true b p q = rw p refl
        go false true p q = rw (p, q) refl
        go false false p q = rw (p, q) refl

    unshut_point : (c : Bool) (point : ℕ) → list_any (λ a. is_shut a.says) (if c then say k (CommitPoint point) ∷ [] else []) ≡ false
    unshut_point true point = refl
    unshut_point false point = refl

    turns_go : (came : List Came) (unread : List Body) (turns : List Turn) (m end : Machine) (s : ConnState) (sent : List Record) → AreSent k came turns → AtTheirMoments turns → Next s sent false m
        → Left n head exit all s sent (flat_map (λ c. c.bodies) came ++ unread) → Room m (length (all_lines set k n s came)) → Run set m (all_turns turns) end → TurnsDone s sent came unread turns end
    turns_go [] unread [] m end s sent is moments next left room run = part (λ none. let l : IsLegal n s [] = subst (λ (bs : List Body). IsLegal n s bs) none left.legal in l) refl
    turns_go [] unread (turn ∷ turns) m end s sent is moments next left room run = absurd is
    turns_go (c ∷ came) unread [] m end s sent is moments next left room run = absurd is
    turns_go (c ∷ came) unread (turn ∷ turns) m end s sent (now, jobs, calm, sound, is) moments next left room run =
        let more : ℕ = length (all_lines set k n (behind_all n s c.bodies) came) in
        let lines = length-append (lines_in set c.now k n s c.bodies) (all_lines set k n (behind_all n s c.bodies) came) in
        let at_now : All (λ (act : Act). act.now ≡ c.now) turn.acts = subst (λ (x : TimeSpec). All (λ (act : Act). act.now ≡ x) turn.acts) now moments.0 in
        let left' : Left n head exit all s sent (c.bodies ++ (flat_map (λ x. x.bodies) came ++ unread)) = subst (λ (bs : List Body). Left n head exit all s sent bs) (append_assoc c.bodies (flat_map (λ x. x.bodies) came) unread) left in
        let (mid, (new, tail, on), went) = acts_go c.now turn.acts c.bodies (flat_map (λ x. x.bodies) came ++ unread) more m s sent false turn.tail (all_turns turns) end jobs at_now calm next left' (omega arith) run in
        go mid new tail on went (λ t rs next'' left'' room'. turns_go came unread turns new end t rs is moments.1 next'' left'' room' on)
      where
        of_jobs : List Answer
        of_jobs = flat_map (λ act. act.answers) turn.acts

        go : (mid new : Machine) → EndOfTurn set mid turn.tail new → Run set new (all_turns turns) end
            → Went s sent false c.bodies (flat_map (λ x. x.bodies) came ++ unread) (length (all_lines set k n (behind_all n s c.bodies) came)) of_jobs mid
            → ((t : ConnState) (rs : List Record) → Next t rs false new → Left n head exit all t rs (flat_map (λ x. x.bodies) came ++ unread) → Room new (length (all_lines set k n t came)) → TurnsDone t rs came unread turns end)
            → TurnsDone s sent (c ∷ came) unread (turn ∷ turns) end
        go mid new tail on (goes_on t up told state next' left' room') later =
            let gains : Bool = list_any (λ b. is_committed (request_in b)) c.bodies in
            let ended = tail_goes mid new turn.tail t (sent ++ records_in c.bodies) gains (length (all_lines set k n (behind_all n s c.bodies) came)) sound next' room' tail in
            elim (later t (sent ++ records_in c.bodies) ended.next left' (subst (λ (x : ConnState). Room new (length (all_lines set k n x came))) state ended.room)) [
              | whole none rest ↦ whole none (record {
                told = turn_told s t gains (elapsed (sent ++ records_in c.bodies)) (points (sent ++ records_in c.bodies) (map (λ x. x.bodies) came)) of_jobs turn.tail.answers (all_answers turns) up
                    (calm_next t (sent ++ records_in c.bodies) gains mid next') told ended.answers rest.told;
                log = rest.log;
                free = rest.free;
              })
              | part some unshut ↦ part some
                  (unshut_append (of_jobs ++ turn.tail.answers) (all_answers turns)
                  (unshut_append of_jobs turn.tail.answers (ap (λ (xs : List Answer). list_any (λ a. is_shut a.says) xs) told ∙ unshut_opened s t)
                  (ap (λ (xs : List Answer). list_any (λ a. is_shut a.says) xs) ended.answers ∙ unshut_point gains (elapsed (sent ++ records_in c.bodies))))
                  unshut)
            ]
        go mid new tail on (came_to_exit promised told committed none held_all held rests) later =
            let log : LogState = There (record { head = head; records = mask texts all; exit = Some exit; cuts = 0 }) promised in
            let (hush, same) = calm_tail mid new turn.tail sound rests.none_waits tail in
            let apart = no_front (flat_map (λ x. x.bodies) came) unread none in
            let over = over_goes came turns new end log is apart.0 (subst (λ (x : Machine). Rests k n log x) (sym same) (rests_with_lines log mid rests)) on in
            whole apart.1 (record {
              told = exit_told s (list_any (λ b. is_committed (request_in b)) c.bodies) (elapsed (sent ++ records_in c.bodies)) (points (sent ++ records_in c.bodies) (map (λ x. x.bodies) came)) of_jobs turn.tail.answers (all_answers turns)
                  committed told hush over.0 (no_points (sent ++ records_in c.bodies) came apart.0);
              log = over.1.log_is ∙ ap (λ (x : ℕ). There (record { head = head; records = mask texts all; exit = Some exit; cuts = 0 }) x) held;
              free = over.1.free;
            })

-- what came of a legal conversation that comes alone
module _ (set : Settings) (texts : List (List ℕ)) (k : ConnId) (start end : Machine) (came : List Came) (turns : List Turn) (later : List Body) (starts : StartsAs set texts start) (run : Run set start (all_turns turns) end)
    (moments : AtTheirMoments turns) (sent : AreSent k came turns) where
  abbrev all_sent : List Body
  all_sent = flat_map (λ c. c.bodies) came ++ later

  came_through : IsLegal (next_number set start) Fresh all_sent → (fits : Fits set k (next_number set start) Fresh start.lines came all_sent)
      → TurnsDone set texts k (next_number set start) (first_head all_sent) (exit_sent all_sent) (records_in all_sent) fits.number fits.head fits.exit fits.timing fits.streams fits.time Fresh [] came later turns end
  came_through legal fits =
      let opens : Opens set texts k (next_number set start) Fresh start = record { state = starts.unknown k; texts_are = starts.texts_are; closed = refl; alive = refl; drawn = starts.no_failed_draw; next = refl; none_waits = starts.none_waits } in
      let fresh : length start.fresh ≡ 0 = ap length starts.no_line in
      let events = fits.events in
      turns_go set texts k (next_number set start) (first_head all_sent) (exit_sent all_sent) (records_in all_sent) fits.number fits.head fits.exit fits.timing fits.streams fits.time came later turns start end Fresh [] sent moments
      (still opens refl refl) (record { legal = legal; exit_is = refl; head_is = λ off. refl; records = refl }) (omega arith) run

  pub none_is_shut : IsLegal (next_number set start) Fresh all_sent → (later ≡ [] → ⊥) → Fits set k (next_number set start) Fresh start.lines came all_sent → list_any (λ a. is_shut a.says) (all_answers turns) ≡ false
  none_is_shut legal some fits = elim (came_through legal fits) [
    | whole none done ↦ absurd (some none)
    | part more unshut ↦ unshut
  ]

-- a legal conversation that comes alone is served
pub legal_served : (set : Settings) (texts : List (List ℕ)) (k : ConnId) (start end : Machine) (came : List Came) (turns : List Turn) → StartsAs set texts start → Run set start (all_turns turns) end → AtTheirMoments turns → AreSent k came turns
    → IsLegal (next_number set start) Fresh (flat_map (λ c. c.bodies) came) → Fits set k (next_number set start) Fresh start.lines came (flat_map (λ c. c.bodies) came) → IsServed k (next_number set start) texts came turns end
legal_served set texts k start end came turns starts run moments sent legal fits =
    let bodies : List Body = flat_map (λ c. c.bodies) came in
    let e : bodies ≡ bodies ++ [] = sym (append-nil bodies) in
    let legal' = subst (λ (bs : List Body). IsLegal (next_number set start) Fresh bs) e legal in
    let fits' = subst (λ (bs : List Body). Fits set k (next_number set start) Fresh start.lines came bs) e fits in
    elim (came_through set texts k start end came turns [] starts run moments sent legal' fits') [
      | whole none done ↦ record {
        told = done.told;
        log = subst (λ (bs : List Body). end.logs (next_number set start) ≡ There (whole_log texts bs) (length (records_in bs))) (sym e) done.log;
        free = done.free;
      }
      | part some unshut ↦ absurd (some refl)
    ]
