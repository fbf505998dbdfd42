-- A generated conversation is legal and opens a log, which is all that it sends.
use Rattle.std.proofs.Common.{◌≡◌, ◌≤◌, ◌<◌, ◌+◌, ◌*◌, ◌%◌, ◌^◌, inl, inr, ℕ, zero, suc, pos, Bool, true, List, [], ◌∷◌, ◌++◌, map, length, cond, Some, Result, Ok, Err, refl, sym, ◌∙◌, ap, subst, arith, replicate, append_assoc}
use Rattle.std.specs.Prelude.{nat_le, nat_lt}
use Rattle.std.proofs.lemmas.Bool.Decides.{nat_tests}
use Rattle.std.proofs.lemmas.List.{map-append}
use Rattle.lsv_base.specs.Time.{nanos_of, time_of}
use Rattle.lsv_base.proofs.Nanoseconds.{value_told}
use Rattle.lsv_info.specs.Layout.{exit_text, head_text}
use Rattle.lsv_mask.specs.Masking.{covered, mask, mask_behind}
use Rattle.lsv_msg.specs.Fitting.{FitsClient, FitsTime}
use Rattle.lsv_msg.specs.Messages.{client_bytes, client_in}
use Rattle.lsv_msg.specs.declared.messages.ClientMessage.{ClientMessage}
use Rattle.lsv_record.specs.declared.records.Record.{Record}
use Rattle.lsv_request.specs.Requests.{has_keys, request_of}
use Rattle.lsv_request.specs.declared.request.Accept.{Accept}
use Rattle.lsv_request.specs.declared.request.Request.{Request}
use Rattle.lsv_request.specs.declared.request.Request.TheVariants as request
use Rattle.lsv_request.specs.declared.refusal.Refusal.{Refusal}
use Rattle.lsv_request.specs.declared.refusal.Refusal.TheVariants.{MissingKey}
use Rattle.lsv_session.specs.Transcript.{AreJobs, AreJobs.Message, AreJobs.Rest}
use Rattle.lsv_session.specs.declared.connection.ConnState.TheVariants.{Fresh, Greeted, Running}
use Rattle.lsv_session.specs.declared.job.Body.{Body}
use Rattle.lsv_session.specs.declared.job.Body.TheVariants.{Msg}
use Rattle.lsv_machine.specs.Judgement.{judged, with_keys}
use Rattle.lsv_machine.specs.Legal.{IsLegal, exit_or, exit_sent, first_head, head_or, record_in, records_in, whole_log}
use Rattle.lsv_gen.specs.Load.{accept, conversation, duration, exit, frames, hello, info, messages, output, outputs}
use Rattle.lsv_gen.proofs.Short.{accept_short, exit_short, hello_short, output_short}
use Rattle.lsv_gen.proofs.Sums.{duration_short}
use Rattle.lsv_load.specs.Logs.{bodies_of, exit_at, head_at, log_at, record_at, records_of}

-- ---- Times

-- a time of this many nanoseconds fits its fields
time_fits : (n : ℕ) → n < 2 ^ 63 → FitsTime (time_of n)
time_fits n small = (record { sfits = omega (arith, small) }, record { sfits = omega (arith, small) })

-- the milliseconds of an output, and of an exit
output_time : (j : ℕ) → j ≤ 50 → j * 1000000 < 2 ^ 63
output_time j few = omega (arith, few)

exit_time : (i : ℕ) → duration (i % 50 + 1) * 1000000 < 2 ^ 63
exit_time i = let short = duration_short (i % 50 + 1) (omega arith) in omega (arith, short)

submit_valid : (i : ℕ) → i ≤ 10000 → nanos_of (record { sec = pos (1700000000 + i); nsec = pos 0 }) ≡ Some ((1700000000 + i) * 1000000000 + 0)
submit_valid i few = let t : nat_lt ((1700000000 + i) * 1000000000 + 0) (2 ^ 63) ≡ true = grind (arith, nat_tests) in rw t refl

-- ---- The bytes

-- the messages are read back of their bytes, and each fits a frame
abbrev AreReadBack : List ClientMessage → Type 0
AreReadBack [] = Unit {0}
AreReadBack (m ∷ ms) = (length (client_bytes m) ≤ 2097152) × (client_in (client_bytes m) ≡ Ok m) × AreReadBack ms

-- frames of such messages are these jobs
jobs_are : (ms : List ClientMessage) → AreReadBack ms → AreJobs (frames ms) (map (λ m. Msg m) ms)
jobs_are [] all = Rest [] (inl (omega arith))
jobs_are (m ∷ ms) all = Message (frames (m ∷ ms)) (client_bytes m) (frames ms) m (map (λ x. Msg x) ms) (record { is_message = all.0; whole = refl }) all.1 (jobs_are ms all.2)

module _ (back : (m : ClientMessage) → FitsClient m → length (client_bytes m) < 2 ^ 64 → client_in (client_bytes m) ≡ Ok m) where
  read_back : (m : ClientMessage) (ms : List ClientMessage) → FitsClient m → length (client_bytes m) ≤ 2097152 → AreReadBack ms → AreReadBack (m ∷ ms)
  read_back m ms fits short rest = (short, back m fits (omega (arith, short)), rest)

  all_back : (xs ys : List ClientMessage) → AreReadBack xs → AreReadBack ys → AreReadBack (xs ++ ys)
  all_back [] ys a b = b
  all_back (x ∷ xs) ys a b = (a.0, a.1, all_back xs ys a.2 b)

  outputs_back : (n : ℕ) → n ≤ 50 → AreReadBack (outputs n)
  outputs_back zero few = tt
  outputs_back (suc n) few =
      all_back (outputs n) (output (suc n) ∷ []) (outputs_back n (omega (arith, few))) (read_back (output (suc n)) [] (time_fits (suc n * 1000000) (output_time (suc n) few)) (output_short (suc n)) tt)

  exit_fits : (i : ℕ) → FitsClient (exit i)
  exit_fits i = (time_fits (duration (i % 50 + 1) * 1000000) (exit_time i), record { sfits = omega arith })

  accept_fits : (i : ℕ) → i ≤ 10000 → FitsClient (accept i)
  accept_fits i few = ((record { sfits = omega (arith, few) }, record { sfits = omega arith }), (tt, (tt, (tt, (tt, tt)))))

  pub conversation_jobs : (i : ℕ) → i ≤ 10000 → AreJobs (conversation i) (bodies_of i)
  conversation_jobs i few =
      jobs_are (messages i) (all_back (hello ∷ accept i ∷ outputs (i % 50 + 1)) (exit i ∷ [])
      (read_back hello (accept i ∷ outputs (i % 50 + 1)) tt hello_short (read_back (accept i) (outputs (i % 50 + 1)) (accept_fits i few) (accept_short i) (outputs_back (i % 50 + 1) (omega arith))))
      (read_back (exit i) [] (exit_fits i) (exit_short i) tt))

-- ---- What is asked

abbrev outputs_sent : ℕ → List Body
outputs_sent n = map (λ m. Msg m) (outputs n)

-- in the order of its messages
bodies_are : (i : ℕ) → bodies_of i ≡ Msg hello ∷ Msg (accept i) ∷ outputs_sent (i % 50 + 1) ++ Msg (exit i) ∷ []
bodies_are i = ap (λ (bs : List Body). Msg hello ∷ Msg (accept i) ∷ bs) (map-append (λ (m : ClientMessage). Msg m) (outputs (i % 50 + 1)) (exit i ∷ []))

replicate_length : (n x : ℕ) → length (replicate n x) ≡ n
replicate_length zero x = refl
replicate_length (suc n) x = omega (arith, replicate_length n x)

-- an output is asked to be kept as its record
output_asks : (j : ℕ) → j ≤ 50 → request_of (output j) ≡ Ok (request.Record (record_at j))
output_asks j few =
    let nanos = value_told (j * 1000000) (output_time j few) in
    let long = replicate_length (j % 80 + 1) (97 + j % 26) in
    let little : nat_le (length (replicate (j % 80 + 1) (97 + j % 26))) 2097152 ≡ true = grind (arith, nat_tests, long) in
    rw (nanos, little) refl

exit_asks : (i : ℕ) → request_of (exit i) ≡ Ok (request.Exit (exit_at i))
exit_asks i = let nanos = value_told (duration (i % 50 + 1) * 1000000) (exit_time i) in rw nanos refl

accept_asks : (i : ℕ) → i ≤ 10000 → request_of (accept i) ≡ Ok (request.Accept (record { head = head_at i; expect_iobufs = true }))
accept_asks i few = let nanos = submit_valid i few in rw nanos refl

-- ---- It is legal

outputs_more : (k : ℕ) (later : List Body) → outputs_sent (suc k) ++ later ≡ outputs_sent k ++ Msg (output (suc k)) ∷ later
outputs_more k later =
    ap (λ (bs : List Body). bs ++ later) (map-append (λ (m : ClientMessage). Msg m) (outputs k) (output (suc k) ∷ [])) ∙ append_assoc (outputs_sent k) (Msg (output (suc k)) ∷ []) later

-- outputs before what is legal
outputs_legal : (n k : ℕ) → k ≤ 50 → (later : List Body) → IsLegal n (Running (Some n)) later → IsLegal n (Running (Some n)) (outputs_sent k ++ later)
outputs_legal n zero few later legal = legal
outputs_legal n (suc k) few later legal =
    subst (λ (bs : List Body). IsLegal n (Running (Some n)) bs) (sym (outputs_more k later)) (outputs_legal n k (omega (arith, few)) (Msg (output (suc k)) ∷ later) (
      request.Record (record_at (suc k)),
      ap (λ (r : Result Request Refusal). with_keys (Running (Some n)) r) (output_asks (suc k) few),
      refl,
      inr (refl, legal),
    ))

keys_there : (i : ℕ) → has_keys (info i) ≡ true
keys_there i = refl

abbrev accepted : ℕ → Accept
accepted i = record { head = head_at i; expect_iobufs = true }

accept_judged : (i : ℕ) → i ≤ 10000 → judged Greeted (accept i) ≡ Ok (request.Accept (accepted i))
accept_judged i few =
    ap (λ (r : Result Request Refusal). with_keys Greeted r) (accept_asks i few) ∙ ap (λ (b : Bool). cond b (Ok (request.Accept (accepted i))) (Err MissingKey)) (keys_there i)

pub conversation_legal : (i n : ℕ) → i ≤ 10000 → IsLegal n Fresh (bodies_of i)
conversation_legal i n few =
    let ends : IsLegal n (Running (Some n)) (Msg (exit i) ∷ []) = (request.Exit (exit_at i), ap (λ (r : Result Request Refusal). with_keys (Running (Some n)) r) (exit_asks i), refl, inl (refl, refl)) in
    let rest = outputs_legal n (i % 50 + 1) (omega arith) (Msg (exit i) ∷ []) ends in
    subst (λ (bs : List Body). IsLegal n Fresh bs) (sym (bodies_are i)) (request.Hello, refl, refl, inr (refl, (request.Accept (accepted i), accept_judged i few, refl, inr (refl, rest))))

-- ---- Its log

outputs_kept : (k : ℕ) → k ≤ 50 → (later : List Body) → records_in (outputs_sent k ++ later) ≡ records_of k ++ records_in later
outputs_kept zero few later = refl
outputs_kept (suc k) few later =
    ap records_in (outputs_more k later)
    ∙ (outputs_kept k (omega (arith, few)) (Msg (output (suc k)) ∷ later)
    ∙ (ap (λ (r : Result Request Refusal). records_of k ++ (record_in r ++ records_in later)) (output_asks (suc k) few) ∙ sym (append_assoc (records_of k) (record_at (suc k) ∷ []) (records_in later))))

outputs_no_exit : (k : ℕ) → k ≤ 50 → (later : List Body) → exit_sent (outputs_sent k ++ later) ≡ exit_sent later
outputs_no_exit zero few later = refl
outputs_no_exit (suc k) few later =
    ap exit_sent (outputs_more k later)
    ∙ (outputs_no_exit k (omega (arith, few)) (Msg (output (suc k)) ∷ later) ∙ ap (λ (r : Result Request Refusal). exit_or r (exit_sent later)) (output_asks (suc k) few))

-- a mask covers none of these
abbrev AreShown : List Record → Type 0
AreShown [] = Unit {0}
AreShown (r ∷ records) = ((texts : List (List ℕ)) (before : List Record) → covered texts before r ≡ r) × AreShown records

all_shown : (xs ys : List Record) → AreShown xs → AreShown ys → AreShown (xs ++ ys)
all_shown [] ys a b = b
all_shown (x ∷ xs) ys a b = (a.0, all_shown xs ys a.1 b)

records_shown : (k : ℕ) → AreShown (records_of k)
records_shown zero = tt
records_shown (suc k) = all_shown (records_of k) (record_at (suc k) ∷ []) (records_shown k) ((λ texts before. refl), tt)

shown_behind : (texts : List (List ℕ)) (before records : List Record) → AreShown records → mask_behind texts before records ≡ records
shown_behind texts before [] shown = refl
shown_behind texts before (r ∷ records) shown =
    ap (λ (x : Record). x ∷ mask_behind texts (before ++ r ∷ []) records) (shown.0 texts before) ∙ ap (λ (xs : List Record). r ∷ xs) (shown_behind texts (before ++ r ∷ []) records shown.1)

no_more : (records : List Record) → records ++ [] ≡ records
no_more [] = refl
no_more (r ∷ records) = ap (λ (xs : List Record). r ∷ xs) (no_more records)

-- what of a conversation with this accept becomes its log
module _ (i : ℕ) (few : i ≤ 10000) where
  abbrev later : List Body
  later = outputs_sent (i % 50 + 1) ++ Msg (exit i) ∷ []

  head_is : first_head (bodies_of i) ≡ head_text (head_at i)
  head_is = ap first_head (bodies_are i) ∙ ap (λ (r : Result Request Refusal). head_or r (first_head later)) (accept_asks i few)

  records_are : records_in (bodies_of i) ≡ records_of (i % 50 + 1)
  records_are =
      ap records_in (bodies_are i)
      ∙ (ap (λ (r : Result Request Refusal). record_in r ++ records_in later) (accept_asks i few)
      ∙ (outputs_kept (i % 50 + 1) (omega arith) (Msg (exit i) ∷ [])
      ∙ (ap (λ (r : Result Request Refusal). records_of (i % 50 + 1) ++ (record_in r ++ [])) (exit_asks i) ∙ no_more (records_of (i % 50 + 1)))))

  exit_is : exit_sent (bodies_of i) ≡ exit_text (exit_at i)
  exit_is =
      ap exit_sent (bodies_are i)
      ∙ (ap (λ (r : Result Request Refusal). exit_or r (exit_sent later)) (accept_asks i few)
      ∙ (outputs_no_exit (i % 50 + 1) (omega arith) (Msg (exit i) ∷ []) ∙ ap (λ (r : Result Request Refusal). exit_or r []) (exit_asks i)))

  pub conversation_log : (texts : List (List ℕ)) → whole_log texts (bodies_of i) ≡ log_at i
  conversation_log texts =
      let records = ap (mask texts) records_are ∙ shown_behind texts [] (records_of (i % 50 + 1)) (records_shown (i % 50 + 1)) in
      λ j. record { head = head_is j; records = records j; exit = Some (exit_is j); cuts = 0 }
