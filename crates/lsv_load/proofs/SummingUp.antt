-- A load sums up the logs of all its conversations, where nothing was in their way.
use Rattle.std.proofs.Common.{◌≡◌, ◌≤◌, ◌<◌, ◌+◌, ◌⊎◌, inl, inr, ℕ, zero, suc, Bool, true, false, List, [], ◌∷◌, ◌++◌, length, cond, Option, Some, None, unwrap_or, refl, sym, ◌∙◌, ap, subst, arith, one-add, sum_by}
use Rattle.std.specs.Prelude.{◌==◌, ◌||◌, nat_lt, Contains, is_some}
use Rattle.std.specs.List.{slice_index_or}
use Rattle.std.proofs.lemmas.Bool.Decides.{nat_tests}
use Rattle.std.proofs.lemmas.List.Sums.{sum_by-cons}
use Rattle.lsv_base.proofs.LogNumbers.{digits_computed}
use Rattle.lsv_disk.specs.View.{DiskView, Image}
use Rattle.lsv_gen.specs.Load.{conversation}
use Rattle.lsv_gen.specs.Summary.{data_length, lines_of, summary, told, totals_of}
use Rattle.lsv_iolog.specs.Recovered.{Replays}
use Rattle.lsv_iolog.proofs.Replaying.{one_replay}
use Rattle.lsv_port.specs.Memory.Numbers.{has}
use Rattle.lsv_port.specs.Memory.Script.{Sent, sent_by, unsent}
use Rattle.lsv_port.specs.Memory.Value.{port_state}
use Rattle.lsv_port.specs.Port.{PortState}
use Rattle.lsv_record.specs.Points.{Stored}
use Rattle.lsv_record.specs.Records.{elapsed}
use Rattle.lsv_session.specs.Transcript.{AreJobs, said_to}
use Rattle.lsv_session.specs.declared.connection.ConnId.{ConnId}
use Rattle.lsv_session.specs.declared.connection.ConnState.TheVariants.{Fresh}
use Rattle.lsv_session.specs.declared.job.Job.{Job}
use Rattle.lsv_session.specs.declared.reply.Reply.{Reply}
use Rattle.lsv_machine.specs.Legal.{IsLegal, whole_log}
use Rattle.lsv_machine.specs.Machine.{Settings}
use Rattle.lsv_machine.proofs.Choices.{same_true}
use Rattle.lsv_turn.specs.Turns.{LaneTurn, jobs_in, replies_in}
use Rattle.lsv_lane.specs.Store.{KeepsStore}
use Rattle.lsv_links.specs.Links.{Seats, conn_of}
use Rattle.lsv_links.specs.Views.{LinkFailed}
use Rattle.lsv_service.specs.Complete.{Completes, IsServedBy, came_by}
use Rattle.lsv_load.specs.Load.{load_script, whole_sent}
use Rattle.lsv_load.specs.Logs.{bodies_of, log_at, logs_of}
use Rattle.lsv_load.specs.Numbers.{numbers_told}
use Rattle.lsv_load.specs.Replayed.{AreReplayed}
use Rattle.lsv_load.specs.Runs.{ServesLoad, view_of}
use Rattle.lsv_load.specs.Whole.{IsUnhindered}
use Rattle.lsv_load.proofs.Counting.{AreOf, TellsOne, same_sums, up_to}
use Rattle.lsv_load.proofs.Replying.{is_to, none_unasked, numbers_in, tells, to_links, told_is, told_one}

-- ---- Totals

abbrev one_each : Stored → ℕ
one_each log = 1

length_is : (logs : List Stored) → length logs ≡ sum_by one_each logs
length_is [] = refl
length_is (log ∷ logs) = ap suc (length_is logs) ∙ sym (sum_by-cons one_each log logs ∙ one-add (sum_by one_each logs))

-- where all sums are the same, so are the totals
same_totals : (xs ys : List Stored) → ((f : Stored → ℕ) → sum_by f xs ≡ sum_by f ys) → totals_of xs ≡ totals_of ys
same_totals xs ys same =
    let count = length_is xs ∙ (same one_each ∙ sym (length_is ys)) in
    let records = same (λ log. length log.records) in
    let bytes = same (λ log. sum_by data_length log.records) in
    let time = same (λ log. elapsed log.records) in
    let complete = same (λ log. cond (is_some log.exit) 1 0) in
    λ i. record { logs = told (count i); records = told (records i + 0); bytes = told (bytes i + 0); elapsed = told (time i + 0); complete = told (complete i) }

logs_up_to : (n : ℕ) → up_to log_at n ≡ logs_of n
logs_up_to zero = refl
logs_up_to (suc n) = ap (λ (logs : List Stored). logs ++ log_at (suc n) ∷ []) (logs_up_to n)

are_of : (image : Image) (numbers : List ℕ) (logs : List Stored) → AreReplayed image numbers logs → AreOf (λ n log. Replays image n (Some log)) numbers logs
are_of image [] [] are = tt
are_of image [] (log ∷ logs) are = absurd are
are_of image (n ∷ numbers) [] are = absurd are
are_of image (n ∷ numbers) (log ∷ logs) are = (are.0, are_of image numbers logs are.1)

one_stored : (a b : Stored) → Some a ≡ Some b → a ≡ b
one_stored a b e = cc

-- ---- Numbers among numbers

one_number : (m n : ℕ) → (m == n) ≡ true → m ≡ n
one_number m n e = grind (arith, nat_tests)

same_number : (m n : ℕ) → m ≡ n → (m == n) ≡ true
same_number m n e = grind (arith, nat_tests)

contains_next : (x m : ℕ) (xs : List ℕ) → Contains xs m → Contains (x ∷ xs) m
contains_next x m xs h = (suc h.0, omega (arith, h.1), h.2)

has_then : (xs : List ℕ) (m : ℕ) → has xs m ≡ true → Contains xs m
has_then [] m e = absurd (cc)
has_then (x ∷ xs) m e = go (x == m) refl (has_then xs m)
  where
    go : (b : Bool) → (x == m) ≡ b → (has xs m ≡ true → Contains xs m) → Contains (x ∷ xs) m
    go true same rest = (0, omega arith, one_number x m same)
    go false other rest = contains_next x m xs (rest (sym (ap (λ (b : Bool). b || has xs m) other) ∙ e))

or_true : (b : Bool) → (b || true) ≡ true
or_true true = refl
or_true false = refl

then_has : (xs : List ℕ) (m k : ℕ) → k < length xs → slice_index_or xs k m ≡ m → has xs m ≡ true
then_has [] m k less e = absurd (let no_ : ⊥ = omega (arith, less) in no_)
then_has (x ∷ xs) m zero less e = ap (λ (b : Bool). b || has xs m) (same_number x m e)
then_has (x ∷ xs) m (suc k) less e = ap (λ (b : Bool). (x == m) || b) (then_has xs m k (omega (arith, less)) e) ∙ or_true (x == m)

at_most_or_above : (a b : ℕ) → (a ≤ b) ⊎ (b < a)
at_most_or_above a b = go (nat_lt b a) refl
  where
    go : (t : Bool) → nat_lt b a ≡ t → (a ≤ b) ⊎ (b < a)
    go true e = inr (grind (arith, nat_tests))
    go false e = inl (grind (arith, nat_tests))

-- ---- The law

module _ (disk_tells : Type 0) (set : Settings) (texts : List (List ℕ)) (count : ℕ) (small : count ≤ 10000) (found served : DiskView) (turns : List LaneTurn) (keeps : KeepsStore (Unit {0}) set texts (record { found = found; left = served }) turns)
    (load : ServesLoad disk_tells count turns) (completes : Completes set texts found served turns keeps 0 (view_of load.old) (view_of load.new) load.served.served)
    (jobs : (i : ℕ) → i ≤ 10000 → AreJobs (conversation i) (bodies_of i)) (legal : (i n : ℕ) → i ≤ 10000 → IsLegal n Fresh (bodies_of i)) (log_is : (i : ℕ) → i ≤ 10000 → whole_log texts (bodies_of i) ≡ log_at i)
    (sends : (l : ℕ) → 1 ≤ l → l ≤ count → sent_by l (load_script count) ≡ whole_sent l) (others : (l : ℕ) → (l ≡ 0) ⊎ (count < l) → sent_by l (load_script count) ≡ unsent)
    (free : IsUnhindered set count found served turns load.served.served.seats.seat (keeps.conforms tt).ran.start keeps.story) where
  abbrev port : PortState
  port = port_state load.new

  abbrev seats : Seats (port_state load.old) (port_state load.new)
  seats = load.served.served.seats

  opened_are : port.opened ≡ seats.opened
  opened_are = seats.are ∙ ap (λ (ls : List ℕ). ls ++ seats.opened) load.begun.opened

  -- the link of each conversation was opened
  is_opened : (l : ℕ) → 1 ≤ l → l ≤ count → Contains seats.opened l
  is_opened l first last =
      subst (λ (ls : List ℕ). Contains ls l) opened_are (has_then port.opened l (load.all.opened l ∙ ap (λ (s : Sent). s.opened) (sends l first last)))

  unopened : (l : ℕ) → has port.opened l ≡ true → (l ≡ 0) ⊎ (count < l) → ⊥
  unopened l is other = let f : true ≡ false = sym is ∙ (load.all.opened l ∙ ap (λ (s : Sent). s.opened) (others l other)) in cc

  -- and no other
  is_theirs : (l : ℕ) → Contains seats.opened l → (1 ≤ l) × (l ≤ count)
  is_theirs l here = go l (at_most_or_above l count) (let c = subst (λ (ls : List ℕ). Contains ls l) (sym opened_are) here in then_has port.opened l c.0 c.1 c.2)
    where
      go : (l : ℕ) → (l ≤ count) ⊎ (count < l) → has port.opened l ≡ true → (1 ≤ l) × (l ≤ count)
      go zero which is = absurd (unopened zero is (inl refl))
      go (suc l) (inl last) is = (omega arith, last)
      go (suc l) (inr above) is = absurd (unopened (suc l) is (inr above))

  -- each is that of a connection
  seat_of : (l : ℕ) → 1 ≤ l → l ≤ count → (seq : ℕ) × (seats.seat l ≡ Some seq)
  seat_of l first last = go (seats.seat l) refl
    where
      go : (o : Option ℕ) → seats.seat l ≡ o → (seq : ℕ) × (seats.seat l ≡ Some seq)
      go (Some seq) e = (seq, e)
      go None e = absurd (load.seated l first last e)

  abbrev conn_at : ℕ → ConnId
  conn_at l = conn_of 0 (unwrap_or (seats.seat l) 0)

  conn_is : (l seq : ℕ) → seats.seat l ≡ Some seq → conn_at l ≡ conn_of 0 seq
  conn_is l seq e = ap (λ (o : Option ℕ). conn_of 0 (unwrap_or o 0)) e

  known : (job : Job) → Contains (jobs_in turns) job → (l : ℕ) × (1 ≤ l) × (l ≤ count) × (job.conn ≡ conn_at l)
  known job here =
      let of_zero = load.served.only job here in
      let (l, opened, seat) = load.served.served.known 0 job here of_zero in
      let (first, last) = is_theirs l opened in
      (l, first, last, ap (λ (w : ℕ). conn_of w job.conn.seq) of_zero ∙ sym (conn_is l job.conn.seq seat))

  -- what came of link l
  link_served : (l : ℕ) → 1 ≤ l → l ≤ count → (seq : ℕ) → seats.seat l ≡ Some seq
      → (n : ℕ) × IsServedBy set texts found served (conn_of 0 seq) (port.link l) (LinkFailed l (view_of load.old) (view_of load.new)) turns (bodies_of l) n
  link_served l first last seq seat = completes l seq (bodies_of l) (is_opened l first last) seat (record {
    sent = subst (λ (bytes : List ℕ). AreJobs bytes (bodies_of l)) (sym (load.read l first last)) (jobs l (omega (arith, small, last)));
    number = 1;
    legal = legal l 1 (omega (arith, small, last));
    fits = free.fits l seq first last seat;
    no_call_failed = free.no_call_failed;
    had_memory = free.had_memory l seq first last seat;
    ample = free.ample l seq first last seat;
  })

  -- its replies tell of one number, that of its log
  tells_one : (l : ℕ) → 1 ≤ l → l ≤ count → TellsOne tells (is_to conn_at) (λ n log. Replays served.reads n (Some log)) log_at (replies_in turns) l
  tells_one l first last =
      let (seq, seat) = seat_of l first last in
      let (n, its) = link_served l first last seq seat in
      let above = its.above (keeps.conforms tt).ran.start.last (keeps.conforms tt).ran.drawn in
      let number = digits_computed n (omega (arith, above)) (let within = its.within in omega (arith, within)) in
      record {
        number = n;
        told = told_is conn_at l (replies_in turns)
            ∙ (ap (λ (k : ConnId). numbers_in (said_to k (replies_in turns))) (conn_is l seq seat) ∙ (ap numbers_in its.said ∙ told_one n (came_by (conn_of 0 seq) turns) number));
        log = λ log is. one_stored log (whole_log texts (bodies_of l)) (one_replay served.reads n (Some log) (Some (whole_log texts (bodies_of l))) is its.log) ∙ log_is l (omega (arith, small, last));
      }

  -- different links are different connections
  apart : (l m : ℕ) (r : Reply) → 1 ≤ l → l ≤ count → 1 ≤ m → m ≤ count → is_to conn_at l r ≡ true → is_to conn_at m r ≡ true → l ≡ m
  apart l m r first last first' last' to_l to_m =
      let (s, p) = seat_of l first last in
      let (t, q) = seat_of m first' last' in
      let one : conn_of 0 s ≡ conn_of 0 t = sym (conn_is l s p) ∙ (sym (same_true r.conn (conn_at l) to_l) ∙ (same_true r.conn (conn_at m) to_m ∙ conn_is m t q)) in
      seats.apart l m s p (q ∙ ap (λ (k : ConnId). Some k.seq) (sym one))

  -- the summary of the logs of which the replies tell is that of the conversations
  pub summary_is : (logs : List Stored) → AreReplayed served.reads (numbers_told (replies_in turns)) logs → summary logs ≡ summary (logs_of count)
  summary_is logs are =
      let to_ = to_links count conn_at (jobs_in turns) known (replies_in turns) (none_unasked set texts found served turns keeps) in
      let sums : (f : Stored → ℕ) → sum_by f logs ≡ sum_by f (logs_of count) = λ f.
      same_sums tells (is_to conn_at) (λ n log. Replays served.reads n (Some log)) log_at f count (replies_in turns) logs apart to_ tells_one (are_of served.reads (numbers_told (replies_in turns)) logs are)
      ∙ ap (sum_by f) (logs_up_to count) in
      ap lines_of (same_totals logs (logs_of count) sums)
