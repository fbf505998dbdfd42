-- A sender that wants to go on: something that is waited for hasn't come.
use Rattle.std.proofs.Common.{◌≡◌, ◌∙◌, ◌++◌, ◌∷◌, ◌≤◌, ◌⊎◌, inl, inr, ℕ, Bool, true, false, List, [], length, length-append, take, drop, map, refl, sym, ap, subst, append-nil, append_assoc, arith, Option, Some, None}
use Rattle.std.specs.Prelude.{◌-◌, max, ◌&&◌, ◌||◌, not, if◌then◌else◌}
use Rattle.std.specs.List.{list_any}
use Rattle.std.proofs.lemmas.List.{length-map}
use Rattle.lsv_dialogue.specs.Events.{Event, HasPaused, heard, said}
use Rattle.lsv_dialogue.specs.declared.ends.Wants.TheVariants as wants
use Rattle.lsv_disk.specs.View.{Image}
use Rattle.lsv_info.specs.declared.times.Exit.{Exit}
use Rattle.lsv_info.specs.declared.times.Head.{Head}
use Rattle.lsv_iolog.specs.Recovered.{Replays}
use Rattle.lsv_msg.specs.declared.messages.ClientMessage.{ClientMessage}
use Rattle.lsv_play.specs.Playing.{IsOpened, laid_at}
use Rattle.lsv_play.proofs.Stored.{some_of_all}
use Rattle.lsv_record.specs.Points.{Stored}
use Rattle.lsv_record.specs.Records.{elapsed}
use Rattle.lsv_record.specs.declared.records.Record.{Record}
use Rattle.lsv_record.proofs.Once.{one_begins}
use Rattle.lsv_request.specs.Stored.{record_message}
use Rattle.lsv_send_args.specs.Request.{Accept, Goes, Reject, Sending}
use Rattle.lsv_send_args.specs.Request as asked
use Rattle.lsv_transcript.specs.Transcript.{ending, is_id}
use Rattle.lsv_send.specs.Handing.{Far, HandsOut, HasWaited, IsExitBy, IsLone, IsPartly, IsQuiet, IsSaid, IsUnsaid, IsWithin, SaysAt, Source, has_rest, is_there, rest_of, said_at, wants_at}
use Rattle.lsv_send.specs.Judging.{is_done, is_silent}
use Rattle.lsv_send.specs.Opening.{Skips, begins_of, opening_of, stop_of}
use Rattle.lsv_transcript.specs.Plan.{Plan, exit_by, reached, through}
use Rattle.lsv_send.specs.Plan.{IsCommitted, is_some_message, plan_of}
use Rattle.lsv_send.specs.Reached.{reached_by}
use Rattle.lsv_send.specs.declared.sender.Place.{Place}
use Rattle.lsv_send.specs.declared.sender.Place.TheVariants.{Opening, Waiting, Records, Closing, Over}
use Rattle.lsv_send.proofs.Events.{paused_by}
use Rattle.lsv_send.proofs.Stored.{Facts, aim_of, aim_there, drop_front, facts, follows, rest_is, take_past, through_least, waits_there}
use Rattle.lsv_send.proofs.Telling.{first_of}

-- ---- the opening alone

two_of : (what : Sending) (head : Head) → length (opening_of what head) ≡ 2
two_of (asked.Records None stop) head = refl
two_of (asked.Records (Some goes) stop) head = refl
two_of Accept head = refl
two_of (Reject reason) head = refl

rest_none : (more : List Record) (exit : Option Exit) → has_rest more exit ≡ false → rest_of more exit ≡ []
rest_none [] None none = refl
rest_none [] (Some exit) none = absurd (let no_ : true ≡ false = none in cc)
rest_none (r ∷ more) exit none = absurd (let no_ : true ≡ false = none in cc)

-- fewer than 16 messages were said then
few_said : (what : Sending) (head : Head) (messages rest : List ClientMessage) → messages ≡ opening_of what head ++ rest → rest ≡ [] → 16 ≤ length messages → ⊥
few_said what head messages rest is none many =
    let all : messages ≡ opening_of what head = is ∙ ap (λ (ms : List ClientMessage). opening_of what head ++ ms) none ∙ append-nil (opening_of what head) in
    let count = ap length all in
    let two = two_of what head in
    omega (arith, many, count, two)

-- all after the same opening
append_left : (front xs ys : List ClientMessage) → front ++ xs ≡ front ++ ys → xs ≡ ys
append_left [] xs ys e = e
append_left (m ∷ front) xs ys e = append_left front xs ys (let h : front ++ xs ≡ front ++ ys = cc in h)

-- ---- the records that are sent or passed over

reach_of : (stop : Option ℕ) (skipped more later : List Record) → IsWithin stop skipped more → (tail : List Record) × (reached ((skipped ++ more) ++ later) stop (length skipped) ≡ (skipped ++ more) ++ tail)
reach_of None skipped more later within = (later, refl)
reach_of (Some stop) skipped more later (inl none) =
    let m = max (length skipped) (through ((skipped ++ more) ++ later) stop) in
    let tail = take (m - length skipped) later in
    let same : (skipped ++ more) ++ later ≡ skipped ++ later = ap (λ (xs : List Record). (skipped ++ xs) ++ later) none ∙ ap (λ (xs : List Record). xs ++ later) (append-nil skipped) in
    let all : skipped ≡ skipped ++ more = sym (append-nil skipped) ∙ ap (λ (xs : List Record). skipped ++ xs) (sym none) in
    (tail, ap (take m) same ∙ take_past skipped later m (omega arith) ∙ ap (λ (xs : List Record). xs ++ tail) all)
reach_of (Some stop) skipped more later (inr by_stop) =
    let m = max (length skipped) (through ((skipped ++ more) ++ later) stop) in
    let least = through_least (skipped ++ more) later stop by_stop in
    (take (m - length (skipped ++ more)) later, take_past (skipped ++ more) later m (omega (arith, least)))

none_after : (more tail : List Record) (e : List ClientMessage) → map record_message (more ++ tail) ++ e ≡ map record_message more ++ [] → tail ≡ []
none_after more [] e is = refl
none_after more (r ∷ tail) e is = absurd
    (let count = ap length is in
    omega (arith, count, length-append (map record_message (more ++ r ∷ tail)) e, length-append (map record_message more) [], length-map (more ++ r ∷ tail) record_message, length-map more record_message, length-append more (r ∷ tail)))

-- when all that follows the opening was said, the aim is the elapsed time of the records that were said or passed over
aim_all : (what : Sending) (skipped more later : List Record) (exit : Option Exit) → (begins_of what ≡ Closing → ⊥) → IsWithin (stop_of what) skipped more → follows what skipped ((skipped ++ more) ++ later) exit ≡ rest_of more None
    → aim_of what skipped ((skipped ++ more) ++ later) ≡ elapsed (skipped ++ more)
aim_all (asked.Records goes stop) skipped more later exit lone within all =
    let r = reach_of stop skipped more later within in
    let e = ending (exit_by stop exit) in
    let rest : drop (length skipped) (reached ((skipped ++ more) ++ later) stop (length skipped)) ≡ more ++ r.0 = ap (drop (length skipped)) (r.1 ∙ append_assoc skipped more r.0) ∙ drop_front skipped (more ++ r.0) in
    let none : r.0 ≡ [] = none_after more r.0 e (ap (λ (xs : List Record). map record_message xs ++ e) (sym rest) ∙ all) in
    ap elapsed (r.1 ∙ ap (λ (xs : List Record). (skipped ++ more) ++ xs) none ∙ append-nil (skipped ++ more))
aim_all Accept skipped more later exit lone within all = absurd (lone refl)
aim_all (Reject reason) skipped more later exit lone within all = absurd (lone refl)

-- ---- at each place

not_there_by : (far : Far) → wants_at far ≡ wants.More → is_there far ≡ false
not_there_by far more = go (is_there far) refl
  where
    ended : (b : Bool) → (if b then wants.End else wants.Nothing) ≡ wants.More → ⊥
    ended true e = cc
    ended false e = cc

    go : (b : Bool) → is_there far ≡ b → b ≡ false
    go false e = refl
    go true e = absurd (ended far.exited (ap (λ (b : Bool). if b then (if far.exited then wants.End else wants.Nothing) else wants.More) (sym e) ∙ more))

either : (b : Bool) → (b ≡ true) ⊎ (b ≡ false)
either true = inl refl
either false = inr refl

unmet : (rest came : Bool) → (not rest || came) ≡ false → (rest ≡ true) × (came ≡ false)
unmet true b e = (refl, e)
unmet false b e = absurd (let no_ : true ≡ false = e in cc)

module _ (source : Source) (image : Image) (records : List Record) (exit : Option Exit) (f : Facts source image records exit) (events : List Event) (far : Far) (h : HandsOut source image far events) (c : IsCommitted f.p.plan events) where
  -- what follows the opening in the plan is what was said after it
  same_rest : (rest : List ClientMessage) → said events ≡ opening_of source.what source.head ++ rest → f.p.plan.transcript.rest ≡ rest
  same_rest rest is = sym
      (append_left (opening_of source.what source.head) rest f.p.plan.transcript.rest
      (sym is ∙ c.said_is ∙ ap (λ (o : List ClientMessage). o ++ f.p.plan.transcript.rest) f.p.opening))

  -- a commit point came, if a record or an exit was said
  point_came : (rest : List ClientMessage) → said events ≡ opening_of source.what source.head ++ rest → is_some_message rest ≡ true → aim_of source.what source.skipped records ≡ elapsed (source.skipped ++ h.more) → far.reached ≡ true
  point_came rest is some aim =
      h.reached ∙ ap (λ (time : ℕ). reached_by time false events) (h.sent ∙ sym (f.p.aim ∙ aim)) ∙ c.aim (ap is_some_message (same_rest rest is) ∙ some)

  -- more may be said there
  still_speaks : {rest : List ClientMessage} → said events ≡ opening_of source.what source.head ++ rest → rest ≡ [] → is_silent far.place far.known ≡ false → IsQuiet far ⊎ ((16 ≤ length (said events)) × (reached_by far.sent false events ≡ false)) → ⊥
  still_speaks {rest} is none speaks (inl silent) = let no_ : true ≡ false = sym silent ∙ speaks in cc
  still_speaks {rest} is none speaks (inr many) = few_said source.what source.head (said events) rest is none many.0

  -- and no commit point came after what was said last
  no_point : is_silent far.place far.known ≡ false → IsQuiet far ⊎ ((16 ≤ length (said events)) × (reached_by far.sent false events ≡ false)) → far.reached ≡ false
  no_point speaks (inl silent) = absurd (let no_ : true ≡ false = sym silent ∙ speaks in cc)
  no_point speaks (inr many) = h.reached ∙ many.1

  not_opening : far.place ≡ Opening → ⊥
  not_opening e =
      let none : said events ≡ [] = h.said_is ∙ ap (λ (q : Place). said_at q (opening_of source.what source.head) h.more h.exit) e in
      let first = first_of source.what source.head in
      let all : [] ≡ (first.0 ∷ first.1) ++ f.p.plan.transcript.rest = sym none ∙ c.said_is ∙ ap (λ (o : List ClientMessage). o ++ f.p.plan.transcript.rest) (f.p.opening ∙ first.2) in
      cc

  not_waiting : far.place ≡ Waiting → IsQuiet far ⊎ ((16 ≤ length (said events)) × (reached_by far.sent false events ≡ false)) → ⊥
  not_waiting e spoke =
      let says : IsUnsaid h.more h.exit = subst (λ (q : Place). SaysAt q source image h.more h.exit) e h.says in
      let begins : begins_of source.what ≡ Waiting = subst (λ (q : Place). HasWaited q (begins_of source.what) (heard events)) e h.waited in
      let is : said events ≡ opening_of source.what source.head ++ rest_of h.more h.exit = h.said_is ∙ ap (λ (q : Place). said_at q (opening_of source.what source.head) h.more h.exit) e in
      let none : rest_of h.more h.exit ≡ [] = ap (λ (xs : List Record). rest_of xs h.exit) says.more_is ∙ ap (rest_of []) says.exit_is in
      let known : far.known ≡ true = h.known ∙ c.id (ap is_some_message (same_rest (rest_of h.more h.exit) is ∙ none)) (f.p.waits ∙ waits_there source.what begins) in
      elim spoke [ inl silent ↦ (let no_ : false ≡ true = ap not (sym known) ∙ ap (λ (q : Place). is_silent q far.known) (sym e) ∙ silent in cc) | inr many ↦ few_said source.what source.head (said events) (rest_of h.more h.exit) is none many.0 ]

  not_records : (later : List Record) → records ≡ (source.skipped ++ h.more) ++ later → far.place ≡ Records → IsQuiet far ⊎ ((16 ≤ length (said events)) × (reached_by far.sent false events ≡ false)) → ⊥
  not_records later split e spoke =
      let says : IsPartly source h.exit = subst (λ (q : Place). SaysAt q source image h.more h.exit) e h.says in
      let is : said events ≡ opening_of source.what source.head ++ rest_of h.more None =
      h.said_is ∙ ap (λ (q : Place). said_at q (opening_of source.what source.head) h.more h.exit) e ∙ ap (λ (x : Option Exit). opening_of source.what source.head ++ rest_of h.more x) says.exit_is in
      let not_reached : far.reached ≡ false = no_point (ap (λ (q : Place). is_silent q far.known) e) spoke in
      let all : follows source.what source.skipped ((source.skipped ++ h.more) ++ later) exit ≡ rest_of h.more None = ap (λ (rs : List Record). follows source.what source.skipped rs exit) (sym split) ∙ sym f.p.rest ∙ same_rest (rest_of h.more None) is in
      let aim : aim_of source.what source.skipped records ≡ elapsed (source.skipped ++ h.more) = ap (aim_of source.what source.skipped) split ∙ aim_all source.what source.skipped h.more later exit says.begins h.within all in
      elim (either (has_rest h.more None)) [
        | inl some ↦ (let came = point_came (rest_of h.more None) is (rest_is h.more None ∙ some) aim in let no_ : true ≡ false = sym came ∙ not_reached in cc)
        | inr none ↦ still_speaks is (rest_none h.more None none) (ap (λ (q : Place). is_silent q far.known) e) spoke
      ]

  not_closing : far.place ≡ Closing → IsQuiet far ⊎ ((16 ≤ length (said events)) × (reached_by far.sent false events ≡ false)) → ⊥
  not_closing e spoke =
      let says : IsLone source h.more h.exit ⊎ IsSaid source image h.more h.exit = subst (λ (q : Place). SaysAt q source image h.more h.exit) e h.says in
      let is : said events ≡ opening_of source.what source.head ++ rest_of h.more h.exit = h.said_is ∙ ap (λ (q : Place). said_at q (opening_of source.what source.head) h.more h.exit) e in
      let not_reached : far.reached ≡ false = no_point (ap (λ (q : Place). is_silent q far.known) e) spoke in
      elim (either (has_rest h.more h.exit)) [
        | inl some ↦ (let came = point_came (rest_of h.more h.exit) is (rest_is h.more h.exit ∙ some) (aim_there source image records h.more h.exit exit f h.within says some) in let no_ : true ≡ false = sym came ∙ not_reached in cc)
        | inr none ↦ still_speaks is (rest_none h.more h.exit none) (ap (λ (q : Place). is_silent q far.known) e) spoke
      ]

  not_over : far.place ≡ Over → wants_at far ≡ wants.More → ⊥
  not_over e more =
      let not_there : is_there far ≡ false = not_there_by far more in
      let says : IsLone source h.more h.exit ⊎ IsSaid source image h.more h.exit = subst (λ (q : Place). SaysAt q source image h.more h.exit) e h.says in
      let is : said events ≡ opening_of source.what source.head ++ rest_of h.more h.exit = h.said_is ∙ ap (λ (q : Place). said_at q (opening_of source.what source.head) h.more h.exit) e in
      let waits : (not far.rest || far.reached) ≡ false = ap (λ (q : Place). is_done q && (not far.rest || far.reached)) (sym e) ∙ not_there in
      let parts = unmet far.rest far.reached waits in
      let some : has_rest h.more h.exit ≡ true = sym h.rest ∙ parts.0 in
      let came = point_came (rest_of h.more h.exit) is (rest_is h.more h.exit ∙ some) (aim_there source image records h.more h.exit exit f h.within says some) in
      let no_ : true ≡ false = sym came ∙ parts.1 in
      cc

-- then not all that is waited for had come
wanting_not : (source : Source) (image : Image) (records later : List Record) (exit : Option Exit) (f : Facts source image records exit) (events : List Event) (far : Far) (h : HandsOut source image far events) → records ≡ (source.skipped ++ h.more) ++ later
    → IsQuiet far ⊎ ((16 ≤ length (said events)) × (reached_by far.sent false events ≡ false)) → wants_at far ≡ wants.More → IsCommitted f.p.plan events → ⊥
wanting_not source image records later exit f events far h split spoke more c = go far.place refl
  where
    go : (p : Place) → far.place ≡ p → ⊥
    go Opening e = not_opening source image records exit f events far h c e
    go Waiting e = not_waiting source image records exit f events far h c e spoke
    go Records e = not_records source image records exit f events far h c later split e spoke
    go Closing e = not_closing source image records exit f events far h c e spoke
    go Over e = not_over source image records exit f events far h c e more

pub stored_unsent : (source : Source) (image : Image) (far : Far) (events : List Event) (log : Stored) (exit : Option Exit) → IsOpened source.number source.body source.head image → Skips source.what source.skipped → Replays image source.number (Some log)
    → IsExitBy None source.number source.body image exit → HandsOut source image far events → HasPaused (IsQuiet far) events → wants_at far ≡ wants.More
    → (plan : Plan) × (plan_of source.what log.records source.head exit ≡ Some plan) × (IsCommitted plan events → ⊥)
stored_unsent source image far events log exit opened skips holds exit_is h paused more =
    let f = facts source image far events log exit opened skips holds exit_is h in
    (f.2.p.plan, f.2.p.is, wanting_not source image log.records f.0 exit f.2 events far h f.1 (paused_by (IsQuiet far) far.sent events paused) more)
