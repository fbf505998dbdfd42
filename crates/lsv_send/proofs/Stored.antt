-- A log that the disk holds is sent as it is.
use Rattle.std.proofs.Common.{◌≡◌, ◌∙◌, ◌++◌, ◌∷◌, ◌<◌, ◌≤◌, ◌⊎◌, inl, inr, ℕ, zero, suc, Bool, true, false, cond, List, [], length, length-append, take, drop, map, refl, sym, ap, subst, append-nil, append_assoc, arith, Option, Some, None}
use Rattle.std.specs.Prelude.{◌-◌, max, nat_lt, option_map, if◌then◌else◌, ◌&&◌, ◌||◌, not}
use Rattle.std.specs.List.{list_any}
use Rattle.std.proofs.lemmas.Bool.Decides.{nat_tests}
use Rattle.std.proofs.lemmas.List.{map-append}
use Rattle.lsv_bundle.specs.declared.body.Body.{Body}
use Rattle.lsv_dialogue.specs.Events.{Event, heard, said}
use Rattle.lsv_disk.specs.View.{Image}
use Rattle.lsv_info.specs.declared.times.Exit.{Exit}
use Rattle.lsv_info.specs.declared.times.Head.{Head}
use Rattle.lsv_iolog.specs.Recovered.{Replays}
use Rattle.lsv_msg.specs.declared.messages.ClientMessage.{ClientMessage}
use Rattle.lsv_msg.specs.declared.messages.ServerMessage.{ServerMessage}
use Rattle.lsv_play.specs.Playing.{IsOpened, laid_at}
use Rattle.lsv_play.proofs.Stored.{begins_log, is_layout, some_of_all}
use Rattle.lsv_record.specs.Layout.{Begins, IsLayout}
use Rattle.lsv_record.specs.Points.{Stored, first}
use Rattle.lsv_record.specs.Records.{delay_of, elapsed}
use Rattle.lsv_record.specs.declared.laid.Laid.{Laid}
use Rattle.lsv_record.specs.declared.records.Record.{Record}
use Rattle.lsv_record.proofs.Once.{one_begins, one_layout}
use Rattle.lsv_record.proofs.Points.{first_append, take_append}
use Rattle.lsv_request.specs.Stored.{record_message}
use Rattle.lsv_send_args.specs.Request.{Accept, Goes, Reject, Sending}
use Rattle.lsv_send_args.specs.Request as asked
use Rattle.lsv_transcript.specs.Transcript.{Transcript, ending, is_id, may_say}
use Rattle.lsv_send.specs.Handing.{AreTaken, Far, HandsOut, HasWaited, IsExitBy, IsLone, IsSaid, IsWithin, SaysAt, Source, has_rest, is_there, rest_of, said_at}
use Rattle.lsv_send.specs.Opening.{Skips, begins_of, opening_of, stop_of}
use Rattle.lsv_send.specs.Judging.{is_done, is_silent}
use Rattle.lsv_transcript.specs.Plan.{Plan, exit_by, reached, through}
use Rattle.lsv_send.specs.Plan.{IsCommitted, IsFirstOf, is_some_message, plan_of}
use Rattle.lsv_send.specs.Reached.{reached_by}
use Rattle.lsv_send.specs.declared.sender.Place.{Place}
use Rattle.lsv_send.specs.declared.sender.Place.TheVariants.{Opening, Waiting, Records, Closing, Over}

-- ---- the records up to a stop

-- records that end by the stop are among them
least_step : (t : Bool) (n k stop d : ℕ) → nat_lt stop d ≡ t → d ≤ stop → n ≤ k → suc n ≤ cond t 0 (suc k)
least_step true n k stop d e le more = absurd (grind (arith, nat_tests))
least_step false n k stop d e le more = omega (arith, more)

pub through_least : (xs ys : List Record) (stop : ℕ) → elapsed xs ≤ stop → length xs ≤ through (xs ++ ys) stop
through_least [] ys stop h = omega arith
through_least (r ∷ xs) ys stop h =
    least_step (nat_lt stop (delay_of r)) (length xs) (through (xs ++ ys) (stop - delay_of r)) stop (delay_of r) refl (omega (arith, h)) (through_least xs ys (stop - delay_of r) (omega (arith, h)))

-- a record that ends after the stop isn't
none_step : (t : Bool) (k stop d : ℕ) → nat_lt stop d ≡ t → stop < d → cond t 0 (suc k) ≤ 0
none_step true k stop d e h = omega arith
none_step false k stop d e h = absurd (grind (arith, nat_tests))

most_step : (t : Bool) (n k stop d : ℕ) → nat_lt stop d ≡ t → (d ≤ stop → k ≤ n) → cond t 0 (suc k) ≤ suc n
most_step true n k stop d e more = omega arith
most_step false n k stop d e more = let m = more (grind (arith, nat_tests)) in omega (arith, m)

through_most : (xs : List Record) (r : Record) (ys : List Record) (stop : ℕ) → stop < elapsed (xs ++ r ∷ []) → through (xs ++ r ∷ ys) stop ≤ length xs
through_most [] r ys stop h = none_step (nat_lt stop (delay_of r)) (through ys (stop - delay_of r)) stop (delay_of r) refl (omega (arith, h))
through_most (x ∷ xs) r ys stop h =
    most_step (nat_lt stop (delay_of x)) (length xs) (through (xs ++ r ∷ ys) (stop - delay_of x)) stop (delay_of x) refl (λ le. through_most xs r ys (stop - delay_of x) (omega (arith, h, le)))

pub take_past : (xs ys : List Record) (m : ℕ) → length xs ≤ m → take m (xs ++ ys) ≡ xs ++ take (m - length xs) ys
take_past [] ys m h = ap (λ (k : ℕ). take k ys) (let e : m ≡ m - 0 = omega arith in e)
take_past (x ∷ xs) ys zero h = absurd (omega (arith, h))
take_past (x ∷ xs) ys (suc m) h = ap (λ (zs : List Record). x ∷ zs) (take_past xs ys m (omega (arith, h)) ∙ ap (λ (k : ℕ). xs ++ take k ys) (let e : m - length xs ≡ suc m - suc (length xs) = omega arith in e))

pub take_whole : (xs : List Record) (m : ℕ) → length xs ≤ m → take m xs ≡ xs
take_whole [] m h = none m
  where
    none : (k : ℕ) → take {A = Record} k [] ≡ []
    none zero = refl
    none (suc k) = refl
take_whole (x ∷ xs) zero h = absurd (omega (arith, h))
take_whole (x ∷ xs) (suc m) h = ap (λ (zs : List Record). x ∷ zs) (take_whole xs m (omega (arith, h)))

pub drop_front : (xs ys : List Record) → drop (length xs) (xs ++ ys) ≡ ys
drop_front [] ys = refl
drop_front (x ∷ xs) ys = drop_front xs ys

-- records that were said are the first of those that are to be sent
part_of : (stop : Option ℕ) (skipped more later : List Record) → IsWithin stop skipped more
    → (tail : List Record) × (drop (length skipped) (reached ((skipped ++ more) ++ later) stop (length skipped)) ≡ more ++ tail)
part_of None skipped more later within = (later, ap (drop (length skipped)) (append_assoc skipped more later) ∙ drop_front skipped (more ++ later))
part_of (Some stop) skipped more later (inl none) =
    let rest = drop (length skipped) (take (max (length skipped) (through ((skipped ++ more) ++ later) stop)) ((skipped ++ more) ++ later)) in
    (rest, ap (λ (xs : List Record). xs ++ rest) (sym none))
part_of (Some stop) skipped more later (inr by_stop) =
    let m = max (length skipped) (through ((skipped ++ more) ++ later) stop) in
    let least = through_least (skipped ++ more) later stop by_stop in
    let tail = take (m - length (skipped ++ more)) later in (
      tail,
      ap (drop (length skipped)) (take_past (skipped ++ more) later m (omega (arith, least)) ∙ append_assoc skipped more tail) ∙ drop_front skipped (more ++ tail),
    )

-- with a stop, as many are to be sent as were said or passed over
most_of : (skipped more : List Record) (stop k : ℕ) → (more ≡ []) ⊎ (elapsed (skipped ++ more) ≤ stop) → (elapsed (skipped ++ more) ≤ stop → length (skipped ++ more) ≤ k) → length (skipped ++ more) ≤ max (length skipped) k
most_of skipped more stop k (inl none) least =
    let same : length (skipped ++ more) ≡ length skipped = ap (λ (xs : List Record). length (skipped ++ xs)) none ∙ ap length (append-nil skipped) in omega (arith, same)
most_of skipped more stop k (inr by_stop) least = let h = least by_stop in omega (arith, h)

all_of : (l : Laid) (body : Body) (stop : Option ℕ) (skipped more all : List Record) → IsLayout l all → Begins l all → IsWithin stop skipped more → AreTaken l body stop (skipped ++ more) → reached all stop (length skipped) ≡ skipped ++ more
all_of l body None skipped more all laid begins within (inl whole) = sym (one_layout l (skipped ++ more) all whole.begins.valid begins.valid whole.layout laid)
all_of l body None skipped more all laid begins within (inr (r, begun, past)) = absurd past
all_of l body (Some stop) skipped more all laid begins within (inl whole) =
    let same : skipped ++ more ≡ all = one_layout l (skipped ++ more) all whole.begins.valid begins.valid whole.layout laid in
    let least = most_of skipped more stop (through all stop) within (λ h. let k = through_least (skipped ++ more) [] stop h in let e : (skipped ++ more) ++ [] ≡ all = append-nil (skipped ++ more) ∙ same in subst (λ (xs : List Record). length (skipped ++ more) ≤ through xs stop) e k) in
    take_whole all (max (length skipped) (through all stop)) (subst (λ (xs : List Record). length xs ≤ max (length skipped) (through all stop)) same least) ∙ sym same
all_of l body (Some stop) skipped more all laid begins within (inr (r, begun, past)) =
    let xs = skipped ++ more in
    let rest = some_of_all l all (xs ++ r ∷ []) laid begins begun (one_begins l (xs ++ r ∷ []) all begun begins) in
    let same : all ≡ xs ++ (r ∷ rest.0) = rest.1 ∙ append_assoc xs (r ∷ []) rest.0 in
    let m = max (length skipped) (through all stop) in
    let least = most_of skipped more stop (through all stop) within (λ h. subst (λ (ys : List Record). length xs ≤ through ys stop) (sym same) (through_least xs (r ∷ rest.0) stop h)) in
    let most : through all stop ≤ length xs = subst (λ (ys : List Record). through ys stop ≤ length xs) (sym same) (through_most xs r rest.0 stop past) in
    let few = length-append skipped more in
    let is : m ≡ length xs = omega (arith, least, most, few) in
    ap (λ (k : ℕ). take k all) is ∙ ap (take (length xs)) same ∙ take_append (length xs) xs (r ∷ rest.0) (omega arith) ∙ take_whole xs (length xs) (omega arith)

-- ---- the plan

-- whether records wait for an identifier
abbrev pub waits_of : Sending → Bool
waits_of (asked.Records None stop) = true
waits_of (asked.Records (Some goes) stop) = false
waits_of Accept = false
waits_of (Reject reason) = false

-- what follows the opening
abbrev pub follows : Sending → (skipped records : List Record) → Option Exit → List ClientMessage
follows (asked.Records goes stop) skipped records exit = map record_message (drop (length skipped) (reached records stop (length skipped))) ++ ending (exit_by stop exit)
follows Accept skipped records exit = []
follows (Reject reason) skipped records exit = []

abbrev pub aim_of : Sending → (skipped records : List Record) → ℕ
aim_of (asked.Records goes stop) skipped records = elapsed (reached records stop (length skipped))
aim_of Accept skipped records = 0
aim_of (Reject reason) skipped records = 0

-- the plan of a log
pub record IsPlanned (what : Sending) (skipped records : List Record) (head : Head) (exit : Option Exit) : Type 0 where
  pub plan : Plan
  pub is : plan_of what records head exit ≡ Some plan
  pub opening : plan.transcript.opening ≡ opening_of what head
  pub waits : plan.transcript.waits ≡ waits_of what
  pub rest : plan.transcript.rest ≡ follows what skipped records exit
  pub aim : plan.aim ≡ aim_of what skipped records

planned : (what : Sending) (skipped later records : List Record) (head : Head) (exit : Option Exit) → Skips what skipped → records ≡ skipped ++ later → IsPlanned what skipped records head exit
planned (asked.Records None stop) skipped later records head exit skips all = record {
  plan = _;
  is = refl;
  opening = refl;
  waits = refl;
  rest = ap (λ (xs : List Record). map record_message (drop (length xs) (reached records stop (length xs))) ++ ending (exit_by stop exit)) (sym skips);
  aim = ap (λ (xs : List Record). elapsed (reached records stop (length xs))) (sym skips);
}
planned (asked.Records (Some goes) stop) skipped later records head exit skips all = record {
  plan = _;
  is = ap (option_map _) (ap (λ (xs : List Record). first xs goes.point) all ∙ first_append skipped later goes.point (length skipped) skips);
  opening = refl;
  waits = refl;
  rest = refl;
  aim = refl;
}
planned Accept skipped later records head exit skips all = record { plan = _; is = refl; opening = refl; waits = refl; rest = refl; aim = refl }
planned (Reject reason) skipped later records head exit skips all = record { plan = _; is = refl; opening = refl; waits = refl; rest = refl; aim = refl }

-- the exit that was said is the one that is to be said
exit_once : (stop : Option ℕ) (n : ℕ) (body : Body) (image : Image) (said_one log_one : Option Exit) → IsExitBy stop n body image said_one → IsExitBy None n body image log_one → said_one ≡ exit_by stop log_one
exit_once None n body image None None a b = refl
exit_once None n body image None (Some e) a b = absurd (a b.0)
exit_once None n body image (Some e) None a b = absurd (b a.0)
exit_once None n body image (Some e) (Some f) a b = ap Some (let x = a.1 in let y = b.1 in cc)
exit_once (Some stop) n body image said_one log_one a b = a

-- ---- what was said is a first part of the plan

-- when a place that waits for an identifier is passed, one came
heard_there : (what : Sending) (messages : List ServerMessage) → (begins_of what ≡ Waiting → list_any is_id messages ≡ true) → (waits_of what ≡ false) ⊎ (list_any is_id messages ≡ true)
heard_there (asked.Records None stop) messages waited = inr (waited refl)
heard_there (asked.Records (Some goes) stop) messages waited = inl refl
heard_there Accept messages waited = inl refl
heard_there (Reject reason) messages waited = inl refl

may_both : (b : Bool) (opening rest : List ClientMessage) → opening ++ (if b then rest else rest) ≡ opening ++ rest
may_both true opening rest = refl
may_both false opening rest = refl

-- then all of a transcript may be said
may_all : (t : Transcript) (messages : List ServerMessage) → (t.waits ≡ false) ⊎ (list_any is_id messages ≡ true) → may_say t messages ≡ t.opening ++ t.rest
may_all t messages (inl not_) = ap (λ (b : Bool). t.opening ++ (if b then (if list_any is_id messages then t.rest else []) else t.rest)) not_
may_all t messages (inr known) = ap (λ (b : Bool). t.opening ++ (if t.waits then (if b then t.rest else []) else t.rest)) known ∙ may_both t.waits t.opening t.rest

waits_plan : (what : Sending) (skipped records : List Record) (head : Head) (exit : Option Exit) (messages : List ServerMessage) (p : IsPlanned what skipped records head exit) → (begins_of what ≡ Waiting → list_any is_id messages ≡ true)
    → (p.plan.transcript.waits ≡ false) ⊎ (list_any is_id messages ≡ true)
waits_plan what skipped records head exit messages p waited = by (heard_there what messages waited)
  where
    by : (waits_of what ≡ false) ⊎ (list_any is_id messages ≡ true) → (p.plan.transcript.waits ≡ false) ⊎ (list_any is_id messages ≡ true)
    by (inl not_) = inl (p.waits ∙ not_)
    by (inr known) = inr known

-- of a plan the opening alone was said
opening_part : (what : Sending) (skipped records : List Record) (head : Head) (exit : Option Exit) (messages : List ServerMessage) (ms : List ClientMessage) (p : IsPlanned what skipped records head exit) → ms ≡ opening_of what head ++ rest_of [] None
    → IsFirstOf ms (may_say p.plan.transcript messages)
opening_part what skipped records head exit messages ms p is =
    let t = p.plan.transcript in
    let more = if t.waits then (if list_any is_id messages then t.rest else []) else t.rest in
    (more, ap (λ (o : List ClientMessage). o ++ more) (p.opening ∙ sym (append-nil (opening_of what head)) ∙ sym is))

-- or records of it too, and maybe the exit
rest_part : (what : Sending) (skipped records : List Record) (head : Head) (exit : Option Exit) (messages : List ServerMessage) (ms said_rest tail : List ClientMessage) (p : IsPlanned what skipped records head exit)
    → (begins_of what ≡ Waiting → list_any is_id messages ≡ true) → ms ≡ opening_of what head ++ said_rest → follows what skipped records exit ≡ said_rest ++ tail → IsFirstOf ms (may_say p.plan.transcript messages)
rest_part what skipped records head exit messages ms said_rest tail p waited is rest = (
  tail,
  may_all p.plan.transcript messages (waits_plan what skipped records head exit messages p waited) ∙ ap (λ (o : List ClientMessage). o ++ p.plan.transcript.rest) p.opening
      ∙ ap (λ (r : List ClientMessage). opening_of what head ++ r) (p.rest ∙ rest) ∙ sym (append_assoc (opening_of what head) said_rest tail) ∙ ap (λ (o : List ClientMessage). o ++ tail) (sym is),
)

-- what follows the opening begins with records that were said
follows_part : (what : Sending) (skipped more later : List Record) (exit : Option Exit) → (begins_of what ≡ Closing → ⊥) → IsWithin (stop_of what) skipped more
    → (tail : List ClientMessage) × (follows what skipped ((skipped ++ more) ++ later) exit ≡ rest_of more None ++ tail)
follows_part (asked.Records goes stop) skipped more later exit lone within =
    let part = part_of stop skipped more later within in
    let e = ending (exit_by stop exit) in (
      map record_message part.0 ++ e,
      ap (λ (xs : List Record). map record_message xs ++ e) part.1 ∙ ap (λ (xs : List ClientMessage). xs ++ e) (map-append record_message more part.0)
          ∙ append_assoc (map record_message more) (map record_message part.0) e ∙ ap (λ (xs : List ClientMessage). xs ++ (map record_message part.0 ++ e)) (sym (append-nil (map record_message more))),
    )
follows_part Accept skipped more later exit lone within = absurd (lone refl)
follows_part (Reject reason) skipped more later exit lone within = absurd (lone refl)

-- and when all of them were said it is they and the exit
follows_all : (what : Sending) (n : ℕ) (body : Body) (image : Image) (skipped more records : List Record) (said_exit exit : Option Exit) → (begins_of what ≡ Closing → ⊥) → IsLayout (laid_at n body image) records → Begins (laid_at n body image) records
    → IsWithin (stop_of what) skipped more → AreTaken (laid_at n body image) body (stop_of what) (skipped ++ more) → IsExitBy (stop_of what) n body image said_exit → IsExitBy None n body image exit
    → follows what skipped records exit ≡ rest_of more said_exit
follows_all (asked.Records goes stop) n body image skipped more records said_exit exit lone laid begins within taken one log_one =
    let all = all_of (laid_at n body image) body stop skipped more records laid begins within taken in
    ap (λ (xs : List Record). map record_message (drop (length skipped) xs) ++ ending (exit_by stop exit)) all ∙ ap (λ (xs : List Record). map record_message xs ++ ending (exit_by stop exit)) (drop_front skipped more)
    ∙ ap (λ (e : Option Exit). map record_message more ++ ending e) (sym (exit_once stop n body image said_exit exit one log_one))
follows_all Accept n body image skipped more records said_exit exit lone laid begins within taken one log_one = absurd (lone refl)
follows_all (Reject reason) n body image skipped more records said_exit exit lone laid begins within taken one log_one = absurd (lone refl)

lone_follows : (what : Sending) (skipped records : List Record) (exit : Option Exit) → begins_of what ≡ Closing → follows what skipped records exit ≡ []
lone_follows (asked.Records None stop) skipped records exit is = absurd (let no : Waiting ≡ Closing = is in cc)
lone_follows (asked.Records (Some goes) stop) skipped records exit is = absurd (let no : Records ≡ Closing = is in cc)
lone_follows Accept skipped records exit is = refl
lone_follows (Reject reason) skipped records exit is = refl

-- ---- at each place

pub record Facts (source : Source) (image : Image) (records : List Record) (exit : Option Exit) : Type 0 where
  pub laid : IsLayout (laid_at source.number source.body image) records
  pub begins : Begins (laid_at source.number source.body image) records
  pub exit_is : IsExitBy None source.number source.body image exit
  pub p : IsPlanned source.what source.skipped records source.head exit

pub ended_rest : (source : Source) (image : Image) (records more : List Record) (ex exit : Option Exit) → Facts source image records exit → IsWithin (stop_of source.what) source.skipped more → IsLone source more ex ⊎ IsSaid source image more ex
    → follows source.what source.skipped records exit ≡ rest_of more ex
ended_rest source image records more ex exit f within (inl lone) =
    lone_follows source.what source.skipped records exit lone.begins ∙ ap (λ (e : Option Exit). rest_of [] e) (sym lone.exit_is) ∙ ap (λ (xs : List Record). rest_of xs ex) (sym lone.more_is)
ended_rest source image records more ex exit f within (inr all) =
    follows_all source.what source.number source.body image source.skipped more records ex exit all.begins f.laid f.begins within all.taken all.exit_is f.exit_is

said_none : (what : Sending) (head : Head) (more : List Record) (ex : Option Exit) (ms : List ClientMessage) → more ≡ [] → ex ≡ None → ms ≡ opening_of what head ++ rest_of more ex → ms ≡ opening_of what head ++ rest_of [] None
said_none what head more ex ms no_more no_exit is = is ∙ ap (λ (xs : List Record). opening_of what head ++ rest_of xs ex) no_more ∙ ap (λ (e : Option Exit). opening_of what head ++ rest_of [] e) no_exit

part_at : (place : Place) (source : Source) (image : Image) (records more later : List Record) (ex exit : Option Exit) (messages : List ServerMessage) (ms : List ClientMessage) (f : Facts source image records exit) → records ≡ (source.skipped ++ more) ++ later
    → IsWithin (stop_of source.what) source.skipped more → SaysAt place source image more ex → HasWaited place (begins_of source.what) messages → ms ≡ said_at place (opening_of source.what source.head) more ex → IsFirstOf ms (may_say f.p.plan.transcript messages)
part_at Opening source image records more later ex exit messages ms f split within says waited is = (may_say f.p.plan.transcript messages, ap (λ (xs : List ClientMessage). xs ++ may_say f.p.plan.transcript messages) (sym is))
part_at Waiting source image records more later ex exit messages ms f split within says waited is =
    opening_part source.what source.skipped records source.head exit messages ms f.p (said_none source.what source.head more ex ms says.more_is says.exit_is is)
part_at Records source image records more later ex exit messages ms f split within says waited is =
    let part = follows_part source.what source.skipped more later exit says.begins within in
    rest_part source.what source.skipped records source.head exit messages ms (rest_of more None) part.0 f.p waited (is ∙ ap (λ (e : Option Exit). opening_of source.what source.head ++ rest_of more e) says.exit_is)
    (ap (λ (rs : List Record). follows source.what source.skipped rs exit) split ∙ part.1)
part_at Closing source image records more later ex exit messages ms f split within says waited is =
    rest_part source.what source.skipped records source.head exit messages ms (rest_of more ex) [] f.p waited is (ended_rest source image records more ex exit f within says ∙ sym (append-nil (rest_of more ex)))
part_at Over source image records more later ex exit messages ms f split within says waited is =
    rest_part source.what source.skipped records source.head exit messages ms (rest_of more ex) [] f.p waited is (ended_rest source image records more ex exit f within says ∙ sym (append-nil (rest_of more ex)))

-- ---- the law

pub facts : (source : Source) (image : Image) (far : Far) (events : List Event) (log : Stored) (exit : Option Exit) → IsOpened source.number source.body source.head image → Skips source.what source.skipped → Replays image source.number (Some log)
    → IsExitBy None source.number source.body image exit → (h : HandsOut source image far events) → (later : List Record) × (log.records ≡ (source.skipped ++ h.more) ++ later) × Facts source image log.records exit
facts source image far events log exit opened skips holds exit_is h =
    let laid = is_layout source.number source.body source.head image log opened holds in
    let begins = begins_log source.number source.body source.head image log opened holds in
    let l = laid_at source.number source.body image in
    let split = some_of_all l log.records (source.skipped ++ h.more) laid begins h.begins (one_begins l (source.skipped ++ h.more) log.records h.begins begins) in (
      split.0,
      split.1,
      record { laid = laid; begins = begins; exit_is = exit_is; p = planned source.what source.skipped (h.more ++ split.0) log.records source.head exit skips (split.1 ∙ append_assoc source.skipped h.more split.0) },
    )

pub stored_part : (source : Source) (image : Image) (far : Far) (events : List Event) (log : Stored) (exit : Option Exit) → IsOpened source.number source.body source.head image → Skips source.what source.skipped → Replays image source.number (Some log)
    → IsExitBy None source.number source.body image exit → HandsOut source image far events → (plan : Plan) × (plan_of source.what log.records source.head exit ≡ Some plan) × IsFirstOf (said events) (may_say plan.transcript (heard events))
stored_part source image far events log exit opened skips holds exit_is h =
    let f = facts source image far events log exit opened skips holds exit_is h in (
      f.2.p.plan,
      f.2.p.is,
      part_at far.place source image log.records h.more f.0 h.exit exit (heard events) (said events) f.2 f.1 h.within h.says h.waited h.said_is,
    )

-- ---- all that may be said was said

pub waits_there : (what : Sending) → begins_of what ≡ Waiting → waits_of what ≡ true
waits_there (asked.Records None stop) b = refl
waits_there (asked.Records (Some goes) stop) b = absurd (let no_ : Records ≡ Waiting = b in cc)
waits_there Accept b = absurd (let no_ : Closing ≡ Waiting = b in cc)
waits_there (Reject reason) b = absurd (let no_ : Closing ≡ Waiting = b in cc)

not_true : (b : Bool) → not b ≡ true → b ≡ false
not_true true e = absurd (let no_ : false ≡ true = e in cc)
not_true false e = refl

-- the opening alone may be said before an identifier
may_opening : (t : Transcript) (messages : List ServerMessage) → t.waits ≡ true → list_any is_id messages ≡ false → may_say t messages ≡ t.opening
may_opening t messages waits none =
    ap (λ (b : Bool). t.opening ++ (if b then (if list_any is_id messages then t.rest else []) else t.rest)) waits ∙ ap (λ (b : Bool). t.opening ++ (if b then t.rest else [])) none ∙ append-nil t.opening

whole_at : (place : Place) (known : Bool) (source : Source) (image : Image) (records more : List Record) (ex exit : Option Exit) (messages : List ServerMessage) (ms : List ClientMessage) (f : Facts source image records exit) → IsWithin (stop_of source.what) source.skipped more
    → SaysAt place source image more ex → HasWaited place (begins_of source.what) messages → ms ≡ said_at place (opening_of source.what source.head) more ex → known ≡ list_any is_id messages → is_silent place known ≡ true → ms ≡ may_say f.p.plan.transcript messages
whole_at Opening known source image records more ex exit messages ms f within says waited is known_is silent = absurd (let no_ : false ≡ true = silent in cc)
whole_at Waiting known source image records more ex exit messages ms f within says waited is known_is silent =
    said_none source.what source.head more ex ms says.more_is says.exit_is is ∙ append-nil (opening_of source.what source.head) ∙ sym f.p.opening
    ∙ sym (may_opening f.p.plan.transcript messages (f.p.waits ∙ waits_there source.what waited) (sym known_is ∙ not_true known silent))
whole_at Records known source image records more ex exit messages ms f within says waited is known_is silent = absurd (let no_ : false ≡ true = silent in cc)
whole_at Closing known source image records more ex exit messages ms f within says waited is known_is silent = absurd (let no_ : false ≡ true = silent in cc)
whole_at Over known source image records more ex exit messages ms f within says waited is known_is silent =
    is ∙ ap (λ (r : List ClientMessage). opening_of source.what source.head ++ r) (sym (f.p.rest ∙ ended_rest source image records more ex exit f within says)) ∙ ap (λ (o : List ClientMessage). o ++ f.p.plan.transcript.rest) (sym f.p.opening)
    ∙ sym (may_all f.p.plan.transcript messages (waits_plan source.what source.skipped records source.head exit messages f.p waited))

pub stored_whole : (source : Source) (image : Image) (far : Far) (events : List Event) (log : Stored) (exit : Option Exit) → IsOpened source.number source.body source.head image → Skips source.what source.skipped → Replays image source.number (Some log)
    → IsExitBy None source.number source.body image exit → HandsOut source image far events → is_silent far.place far.known ≡ true → (plan : Plan) × (plan_of source.what log.records source.head exit ≡ Some plan) × (said events ≡ may_say plan.transcript (heard events))
stored_whole source image far events log exit opened skips holds exit_is h silent =
    let f = facts source image far events log exit opened skips holds exit_is h in
    (f.2.p.plan, f.2.p.is, whole_at far.place far.known source image log.records h.more h.exit exit (heard events) (said events) f.2 h.within h.says h.waited h.said_is h.known silent)

-- ---- all of it was sent

both_true : (a b : Bool) → (a && b) ≡ true → (a ≡ true) × (b ≡ true)
both_true true b e = (refl, e)
both_true false b e = absurd (let no_ : false ≡ true = e in cc)

done_is : (place : Place) → is_done place ≡ true → place ≡ Over
done_is Opening e = absurd (let no_ : false ≡ true = e in cc)
done_is Waiting e = absurd (let no_ : false ≡ true = e in cc)
done_is Records e = absurd (let no_ : false ≡ true = e in cc)
done_is Closing e = absurd (let no_ : false ≡ true = e in cc)
done_is Over e = refl

reached_is : (rest reached_ : Bool) → (not rest || reached_) ≡ true → rest ≡ true → reached_ ≡ true
reached_is true b e is = e
reached_is false b e is = absurd (let no_ : false ≡ true = is in cc)

pub rest_is : (more : List Record) (ex : Option Exit) → is_some_message (rest_of more ex) ≡ has_rest more ex
rest_is [] None = refl
rest_is [] (Some exit) = refl
rest_is (r ∷ more) ex = refl

pub waits_begin : (what : Sending) → waits_of what ≡ true → begins_of what ≡ Waiting
waits_begin (asked.Records None stop) e = refl
waits_begin (asked.Records (Some goes) stop) e = absurd (let no_ : false ≡ true = e in cc)
waits_begin Accept e = absurd (let no_ : false ≡ true = e in cc)
waits_begin (Reject reason) e = absurd (let no_ : false ≡ true = e in cc)

aim_is : (what : Sending) (l : Laid) (body : Body) (skipped more records : List Record) → (begins_of what ≡ Closing → ⊥) → IsLayout l records → Begins l records → IsWithin (stop_of what) skipped more → AreTaken l body (stop_of what) (skipped ++ more)
    → aim_of what skipped records ≡ elapsed (skipped ++ more)
aim_is (asked.Records goes stop) l body skipped more records lone laid begins within taken = ap elapsed (all_of l body stop skipped more records laid begins within taken)
aim_is Accept l body skipped more records lone laid begins within taken = absurd (lone refl)
aim_is (Reject reason) l body skipped more records lone laid begins within taken = absurd (lone refl)

-- the aim is the elapsed time of what was said or passed over, if a record or an exit was said
pub aim_there : (source : Source) (image : Image) (records more : List Record) (ex exit : Option Exit) (f : Facts source image records exit) → IsWithin (stop_of source.what) source.skipped more → IsLone source more ex ⊎ IsSaid source image more ex → has_rest more ex ≡ true
    → aim_of source.what source.skipped records ≡ elapsed (source.skipped ++ more)
aim_there source image records more ex exit f within (inl lone) some =
    let none : has_rest more ex ≡ false = ap (λ (xs : List Record). has_rest xs ex) lone.more_is ∙ ap (has_rest []) lone.exit_is in absurd (let no_ : true ≡ false = sym some ∙ none in cc)
aim_there source image records more ex exit f within (inr all) some = aim_is source.what (laid_at source.number source.body image) source.body source.skipped more records all.begins f.laid f.begins within all.taken

sent_at : (source : Source) (image : Image) (far : Far) (events : List Event) (records : List Record) (exit : Option Exit) (h : HandsOut source image far events) (f : Facts source image records exit) → far.place ≡ Over → (not far.rest || far.reached) ≡ true → IsCommitted f.p.plan events
sent_at source image far events records exit h f over there =
    let says : IsLone source h.more h.exit ⊎ IsSaid source image h.more h.exit = subst (λ (q : Place). SaysAt q source image h.more h.exit) over h.says in
    let waited : begins_of source.what ≡ Waiting → list_any is_id (heard events) ≡ true = subst (λ (q : Place). HasWaited q (begins_of source.what) (heard events)) over h.waited in
    let rest : f.p.plan.transcript.rest ≡ rest_of h.more h.exit = f.p.rest ∙ ended_rest source image records h.more h.exit exit f h.within says in
    let some : is_some_message f.p.plan.transcript.rest ≡ has_rest h.more h.exit = ap is_some_message rest ∙ rest_is h.more h.exit in record {
      said_is = h.said_is ∙ ap (λ (q : Place). said_at q (opening_of source.what source.head) h.more h.exit) over ∙ ap (λ (o : List ClientMessage). o ++ rest_of h.more h.exit) (sym f.p.opening)
          ∙ ap (λ (r : List ClientMessage). f.p.plan.transcript.opening ++ r) (sym rest);
      aim = λ is. ap (λ (time : ℕ). reached_by time false events) (f.p.aim ∙ aim_there source image records h.more h.exit exit f h.within says (sym some ∙ is) ∙ sym h.sent) ∙ sym h.reached
          ∙ reached_is far.rest far.reached there (h.rest ∙ sym some ∙ is);
      id = λ none waits. waited (waits_begin source.what (sym f.p.waits ∙ waits));
    }

pub stored_sent : (source : Source) (image : Image) (far : Far) (events : List Event) (log : Stored) (exit : Option Exit) → IsOpened source.number source.body source.head image → Skips source.what source.skipped → Replays image source.number (Some log)
    → IsExitBy None source.number source.body image exit → HandsOut source image far events → is_there far ≡ true → (plan : Plan) × (plan_of source.what log.records source.head exit ≡ Some plan) × IsCommitted plan events
stored_sent source image far events log exit opened skips holds exit_is h there =
    let f = facts source image far events log exit opened skips holds exit_is h in
    let parts = both_true (is_done far.place) (not far.rest || far.reached) there in
    (f.2.p.plan, f.2.p.is, sent_at source image far events log.records exit h f.2 (done_is far.place parts.0) parts.1)
