-- What a relaying comes to by what is heard and said.
use Rattle.std.proofs.Common.{◌≡◌, ◌++◌, ◌∷◌, ◌≤◌, ◌<◌, List, [], ℕ, zero, suc, length, refl, sym, ◌∙◌, ap, subst, inl, inr, ◌⊎◌, Option, Some, None, arith}
use Rattle.std.specs.Prelude.{◌==◌, ◌&&◌, ◌||◌, not, nat_lt, if◌then◌else◌, Bool, true, false, Result, Ok, Err}
use Rattle.std.specs.List.{list_any}
use Rattle.std.proofs.lemmas.Bool.Decides.{nat_tests}
use Rattle.lsv_base.specs.Time.{nanos_of}
use Rattle.lsv_base.specs.declared.time.TimeSpec.{TimeSpec}
use Rattle.lsv_dialogue.specs.Events.{Event, Event.Heard, Event.Late, Event.Said, said}
use Rattle.lsv_kept.specs.Value.{is_done, keeps_id, with_point}
use Rattle.lsv_kept.specs.declared.state.Kept.{Kept}
use Rattle.lsv_kept.specs.declared.state.State.{State}
use Rattle.lsv_kept.specs.declared.state.State.TheVariants as states
use Rattle.lsv_msg.specs.declared.messages.ClientMessage.{ClientMessage}
use Rattle.lsv_msg.specs.declared.messages.ServerMessage.{ServerMessage}
use Rattle.lsv_msg.specs.declared.messages.ServerMessage.TheVariants as server
use Rattle.lsv_request.specs.Requests.{request_of}
use Rattle.lsv_request.specs.declared.refusal.Refusal.{Refusal}
use Rattle.lsv_request.specs.declared.request.Request.{Request}
use Rattle.lsv_request.specs.declared.request.Request.TheVariants as request
use Rattle.lsv_relay.specs.Talk.{Hears, Talk, goes, goes_on, hears, hears_error, hears_id, hears_late, hears_point, is_exit, is_strange, longest_id, says, says_asked}

-- what one message makes of the state
pub data OneHeard (total : ℕ) (m : ServerMessage) (talk : Talk) : Type 0 where
  heard_none : (hears total m talk).state ≡ talk.state → OneHeard total m talk
  heard_name : (id : List ℕ) → m ≡ server.LogId id → length id ≤ 4096 → (hears total m talk).state ≡ states.Kept (record { id = id; point = None }) → OneHeard total m talk
  heard_time : (time : TimeSpec) (c : ℕ) (kept : Kept) → m ≡ server.CommitPoint time → nanos_of time ≡ Some c → (c ≤ talk.sent) × (0 < c) → talk.state ≡ states.Kept kept
      → (hears total m talk).state ≡ states.Kept (record { id = kept.id; point = Some c }) → OneHeard total m talk
  heard_drop : (hears total m talk).state ≡ states.Nothing → OneHeard total m talk

-- what one event makes of the state
pub data OneStep (total : ℕ) (e : Event) (talk : Talk) : Type 0 where
  same : (goes total e talk).state ≡ talk.state → OneStep total e talk
  keeps : (id : List ℕ) → Hears (server.LogId id) e → length id ≤ 4096 → (goes total e talk).state ≡ states.Kept (record { id = id; point = None }) → OneStep total e talk
  points : (time : TimeSpec) (c : ℕ) (kept : Kept) → Hears (server.CommitPoint time) e → nanos_of time ≡ Some c → (c ≤ talk.sent) × (0 < c) → talk.state ≡ states.Kept kept
      → (goes total e talk).state ≡ states.Kept (record { id = kept.id; point = Some c }) → OneStep total e talk
  drops_it : (goes total e talk).state ≡ states.Nothing → OneStep total e talk

said_same : (w : Result Request Refusal) (talk : Talk) → (says_asked w talk).state ≡ talk.state
said_same (Ok request.Hello) talk = refl
said_same (Ok (request.Accept a)) talk = refl
said_same (Ok (request.Reject a)) talk = refl
said_same (Ok (request.Alert a)) talk = refl
said_same (Ok (request.Restart a)) talk = refl
said_same (Ok (request.Record r)) talk = refl
said_same (Ok (request.Exit x)) talk = refl
said_same (Err why) talk = refl

-- what is said changes no state
pub says_same : (m : ClientMessage) (talk : Talk) → (says m talk).state ≡ talk.state
says_same m talk = go (is_exit m) refl
  where
    go : (b : Bool) → is_exit m ≡ b → (says m talk).state ≡ talk.state
    go true e = rw e refl
    go false e = rw e (said_same (request_of m) talk)

either : (b : Bool) → (b ≡ true) ⊎ (b ≡ false)
either true = inl refl
either false = inr refl

not_long : (n : ℕ) → nat_lt longest_id n ≡ false → n ≤ 4096
not_long n is = grind (arith, nat_tests)

-- of two that are neither, the first isn't
either_false : (a b : Bool) → (a || b) ≡ false → a ≡ false
either_false false b e = refl
either_false true b e = absurd (cc)

or_none : (a b c : Bool) → (a || b || c) ≡ false → (a ≡ false) × (b ≡ false) × (c ≡ false)
or_none false false false e = (refl, refl, refl)
or_none true b c e = absurd (cc)
or_none false true c e = absurd (cc)
or_none false false true e = absurd (cc)

opened : (b : Bool) → not b ≡ false → b ≡ true
opened true e = refl
opened false e = absurd (cc)

of_and : (a b : Bool) → (a && b) ≡ true → (a ≡ true) × (b ≡ true)
of_and true true e = (refl, refl)
of_and true false e = absurd (cc)
of_and false b e = absurd (cc)

same_number : (a b : ℕ) → (a == b) ≡ true → a ≡ b
same_number a b is = grind (arith, nat_tests)

not_above : (a b : ℕ) → nat_lt a b ≡ false → b ≤ a
not_above a b is = grind (arith, nat_tests)

is_kept : (state : State) → keeps_id state ≡ true → (kept : Kept) × (state ≡ states.Kept kept)
is_kept states.Nothing e = absurd (cc)
is_kept (states.Kept kept) e = (kept, refl)
is_kept states.Done e = absurd (cc)

id_step : (total : ℕ) (id : List ℕ) (talk : Talk) (b : Bool) → (talk.known || nat_lt longest_id (length id) || is_done talk.state) ≡ b → OneHeard total (server.LogId id) talk
id_step total id talk true e = heard_none (rw e refl)
id_step total id talk false e = heard_name id refl (not_long (length id) (or_none talk.known (nat_lt longest_id (length id)) (is_done talk.state) e).1) (rw e refl)

error_step : (total : ℕ) (text : List ℕ) (talk : Talk) (b : Bool) → (talk.asked && keeps_id talk.state) ≡ b → OneHeard total (server.Error text) talk
error_step total text talk true e = heard_drop (rw e refl)
error_step total text talk false e = heard_none (rw e refl)

point_step : (total : ℕ) (time : TimeSpec) (talk : Talk) (o : Option ℕ) → nanos_of time ≡ o → OneHeard total (server.CommitPoint time) talk
point_step total time talk None e = heard_none (ap (λ (x : Option ℕ). (hears_point total x talk).state) e)
point_step total time talk (Some c) e = at (nat_lt talk.sent c || not talk.known || not (keeps_id talk.state) || talk.whole) refl
  where
    at : (b : Bool) → (nat_lt talk.sent c || not talk.known || not (keeps_id talk.state) || talk.whole) ≡ b → OneHeard total (server.CommitPoint time) talk
    at true p = heard_none (ap (λ (x : Option ℕ). (hears_point total x talk).state) e ∙ rw p refl)
    at false p = ends c e p refl
      where
        parts : (nat_lt talk.sent c ≡ false) × (not talk.known ≡ false) × (not (keeps_id talk.state) ≡ false)
        parts = or_none (nat_lt talk.sent c) (not talk.known) (not (keeps_id talk.state)) (either_false (nat_lt talk.sent c || not talk.known || not (keeps_id talk.state)) talk.whole p)

        kept : (k : Kept) × (talk.state ≡ states.Kept k)
        kept = is_kept talk.state (opened (keeps_id talk.state) parts.2)

        ends : (d : ℕ) → nanos_of time ≡ Some d → (nat_lt talk.sent d || not talk.known || not (keeps_id talk.state) || talk.whole) ≡ false → c ≡ d → OneHeard total (server.CommitPoint time) talk
        ends zero at_ q same_ = heard_none (ap (λ (x : Option ℕ). (hears_point total x talk).state) at_ ∙ rw q refl)
        ends (suc d) at_ q same_ = heard_time time (suc d) kept.0 refl at_ (not_above talk.sent (suc d) (or_none (nat_lt talk.sent (suc d)) (not talk.known) (not (keeps_id talk.state)) (either_false (nat_lt talk.sent (suc d) || not talk.known || not (keeps_id talk.state)) talk.whole q)).0, let h : 0 < suc d = omega arith in h) kept.1
            (ap (λ (x : Option ℕ). (hears_point total x talk).state) at_ ∙ (rw q (ap (with_point (suc d)) kept.1)))

one_heard : (total : ℕ) (m : ServerMessage) (talk : Talk) → OneHeard total m talk
one_heard total (server.Hello m) talk = heard_none refl
one_heard total (server.LogId id) talk = id_step total id talk _ refl
one_heard total (server.CommitPoint time) talk = point_step total time talk _ refl
one_heard total (server.Error text) talk = error_step total text talk _ refl
one_heard total (server.Abort text) talk = heard_none refl

in_time : (total : ℕ) (m : ServerMessage) (talk : Talk) → OneHeard total m talk → OneStep total (Heard m) talk
in_time total m talk (heard_none is) = same is
in_time total m talk (heard_name id is short state) = keeps id (inl (ap Heard is)) short state
in_time total m talk (heard_time time c kept is at sent was state) = points time c kept (inl (ap Heard is)) at sent was state
in_time total m talk (heard_drop is) = drops_it is

-- the connection as if the exit hadn't been said
abbrev pub unsaid : Talk → Talk
unsaid talk = record talk { ended = false; whole = false }

too_late : (total : ℕ) (m : ServerMessage) (talk : Talk) → OneHeard total m (unsaid talk) → OneStep total (Late m) talk
too_late total m talk (heard_none is) = same is
too_late total m talk (heard_name id is short state) = keeps id (inr (ap Late is)) short state
too_late total m talk (heard_time time c kept is at sent was state) = points time c kept (inr (ap Late is)) at sent was state
too_late total m talk (heard_drop is) = drops_it is

one_step : (total : ℕ) (e : Event) (talk : Talk) → OneStep total e talk
one_step total (Said m) talk = same (says_same m talk)
one_step total (Heard m) talk = in_time total m talk (one_heard total m talk)
one_step total (Late m) talk = too_late total m talk (one_heard total m (unsaid talk))

not_done : (s : State) (b : State) → s ≡ b → is_done b ≡ false → is_done s ≡ false
not_done s b is none = ap is_done is ∙ none

-- ---- the whole time

-- the commit point at the log's whole time
abbrev pub WholeBy : ℕ → Talk → List Event → Type 0
WholeBy total talk events = (before after : List Event) × (time : TimeSpec) × (events ≡ before ++ Heard (server.CommitPoint time) ∷ after) × (nanos_of time ≡ Some total) × ((goes_on total before talk).ended ≡ true) × ((goes_on total before talk).known ≡ true)

-- one event by which the other server has the whole time
abbrev WholeNow : ℕ → Event → Talk → Type 0
WholeNow total e talk = (time : TimeSpec) × (e ≡ Heard (server.CommitPoint time)) × (nanos_of time ≡ Some total) × (talk.ended ≡ true) × (talk.known ≡ true)

whole_point : (total : ℕ) (time : TimeSpec) (talk : Talk) (o : Option ℕ) → nanos_of time ≡ o → (hears_point total o talk).whole ≡ true → (talk.whole ≡ true) ⊎ ((nanos_of time ≡ Some total) × (talk.ended ≡ true) × (talk.known ≡ true))
whole_point total time talk None e is = inl is
whole_point total time talk (Some c) e is = at (nat_lt talk.sent c || not talk.known || not (keeps_id talk.state) || talk.whole) refl
  where
    at : (b : Bool) → (nat_lt talk.sent c || not talk.known || not (keeps_id talk.state) || talk.whole) ≡ b → (talk.whole ≡ true) ⊎ ((nanos_of time ≡ Some total) × (talk.ended ≡ true) × (talk.known ≡ true))
    at true p = inl (let h : hears_point total (Some c) talk ≡ talk = rw p refl in sym (ap (λ (t : Talk). t.whole) h) ∙ is)
    at false p =
        let h : (hears_point total (Some c) talk).whole ≡ (talk.ended && c == total) = rw p refl in
        let two = of_and talk.ended (c == total) (sym h ∙ is) in
        inr (e ∙ ap Some (same_number c total two.1), two.0, opened talk.known (or_none (nat_lt talk.sent c) (not talk.known) (not (keeps_id talk.state)) (either_false (nat_lt talk.sent c || not talk.known || not (keeps_id talk.state)) talk.whole p)).1)

id_whole : (id : List ℕ) (talk : Talk) → (hears_id id talk).whole ≡ talk.whole
id_whole id talk = go (talk.known || nat_lt longest_id (length id) || is_done talk.state) refl
  where
    go : (b : Bool) → (talk.known || nat_lt longest_id (length id) || is_done talk.state) ≡ b → (hears_id id talk).whole ≡ talk.whole
    go true e = rw e refl
    go false e = rw e refl

error_whole : (talk : Talk) → (hears_error talk).whole ≡ talk.whole
error_whole talk = go (talk.asked && keeps_id talk.state) refl
  where
    go : (b : Bool) → (talk.asked && keeps_id talk.state) ≡ b → (hears_error talk).whole ≡ talk.whole
    go true e = rw e refl
    go false e = rw e refl

whole_heard : (total : ℕ) (m : ServerMessage) (talk : Talk) → (hears total m talk).whole ≡ true → (talk.whole ≡ true) ⊎ ((time : TimeSpec) × (m ≡ server.CommitPoint time) × (nanos_of time ≡ Some total) × (talk.ended ≡ true) × (talk.known ≡ true))
whole_heard total (server.Hello m) talk is = inl is
whole_heard total (server.LogId id) talk is = inl (sym (id_whole id talk) ∙ is)
whole_heard total (server.CommitPoint time) talk is = elim (whole_point total time talk (nanos_of time) refl is) [ inl was ↦ inl was | inr now ↦ inr (time, refl, now.0, now.1, now.2) ]
whole_heard total (server.Error text) talk is = inl (sym (error_whole talk) ∙ is)
whole_heard total (server.Abort text) talk is = inl is

asked_whole : (w : Result Request Refusal) (talk : Talk) → (says_asked w talk).whole ≡ talk.whole
asked_whole (Ok request.Hello) talk = refl
asked_whole (Ok (request.Accept a)) talk = refl
asked_whole (Ok (request.Reject a)) talk = refl
asked_whole (Ok (request.Alert a)) talk = refl
asked_whole (Ok (request.Restart a)) talk = refl
asked_whole (Ok (request.Record r)) talk = refl
asked_whole (Ok (request.Exit x)) talk = refl
asked_whole (Err why) talk = refl

pub said_whole : (m : ClientMessage) (talk : Talk) → (says m talk).whole ≡ talk.whole
said_whole m talk = go (is_exit m) refl
  where
    go : (b : Bool) → is_exit m ≡ b → (says m talk).whole ≡ talk.whole
    go true e = rw e refl
    go false e = rw e (asked_whole (request_of m) talk)

not_yet : (b : Bool) → b ≡ false → b ≡ true → ⊥
not_yet true no_ yes_ = cc (no_)
not_yet false no_ yes_ = cc (yes_)

-- what comes too late isn't the whole time
pub late_whole : (total : ℕ) (m : ServerMessage) (talk : Talk) → (hears_late total m talk).whole ≡ false
late_whole total m talk = go ((hears_late total m talk).whole) refl
  where
    go : (b : Bool) → (hears_late total m talk).whole ≡ b → (hears_late total m talk).whole ≡ false
    go false e = e
    go true e = absurd (elim (whole_heard total m (unsaid talk) e) [ inl was ↦ cc (was) | inr now ↦ cc (now.3) ])

whole_now : (total : ℕ) (e : Event) (talk : Talk) → (goes total e talk).whole ≡ true → (talk.whole ≡ true) ⊎ WholeNow total e talk
whole_now total (Said m) talk is = inl (sym (said_whole m talk) ∙ is)
whole_now total (Heard m) talk is = elim (whole_heard total m talk is) [ inl was ↦ inl was | inr now ↦ inr (now.0, ap Heard now.1, now.2, now.3, now.4) ]
whole_now total (Late m) talk is = absurd (not_yet _ (late_whole total m talk) is)

pub whole_by : (total : ℕ) (talk : Talk) (events : List Event) → talk.whole ≡ false → (goes_on total events talk).whole ≡ true → WholeBy total talk events
whole_by total talk [] none whole = absurd (not_yet talk.whole none whole)
whole_by total talk (e ∷ events) none whole = go (goes total e talk).whole refl (λ is. whole_by total (goes total e talk) events is whole)
  where
    go : (b : Bool) → (goes total e talk).whole ≡ b → ((goes total e talk).whole ≡ false → WholeBy total (goes total e talk) events) → WholeBy total talk (e ∷ events)
    go false is more = let later = more is in (e ∷ later.0, later.1, later.2, ap (λ (x : List Event). e ∷ x) later.3, later.4, later.5, later.6)
    go true is more = elim (whole_now total e talk is) [
      | inl was ↦ absurd (not_yet talk.whole none was)
      | inr now ↦ ([], events, now.0, ap (λ (x : Event). x ∷ events) now.1, now.2, now.3, now.4)
    ]

-- ---- no message says that the log is relayed

step_undone : (total : ℕ) (e : Event) (talk : Talk) → is_done talk.state ≡ false → OneStep total e talk → is_done (goes total e talk).state ≡ false
step_undone total e talk undone (same is) = not_done _ talk.state is undone
step_undone total e talk undone (keeps id is short state) = not_done _ _ state refl
step_undone total e talk undone (points time c kept is at sent was state) = not_done _ _ state refl
step_undone total e talk undone (drops_it state) = not_done _ _ state refl

pub goes_undone : (total : ℕ) (talk : Talk) (events : List Event) → is_done talk.state ≡ false → is_done (goes_on total events talk).state ≡ false
goes_undone total talk [] undone = undone
goes_undone total talk (e ∷ events) undone = goes_undone total (goes total e talk) events (step_undone total e talk undone (one_step total e talk))

-- ---- what is kept

same_kept : (a b : Kept) → states.Kept a ≡ states.Kept b → a ≡ b
same_kept a b e = cc

kept_apart : (k : Kept) (s : State) → keeps_id s ≡ false → s ≡ states.Kept k → ⊥
kept_apart k s none is = let h : keeps_id s ≡ true = ap keeps_id is in cc (h, none)

abbrev pub IdBy : ℕ → Talk → List Event → List ℕ → Type 0
IdBy total talk events id = ((before : Option ℕ) × (talk.state ≡ states.Kept (record { id = id; point = before }))) ⊎ ((before after : List Event) × (e : Event) × (events ≡ before ++ e ∷ after) × Hears (server.LogId id) e × (length id ≤ 4096))

pub id_by : (total : ℕ) (talk : Talk) (events : List Event) (id : List ℕ) (point : Option ℕ) → (goes_on total events talk).state ≡ states.Kept (record { id = id; point = point }) → IdBy total talk events id
id_by total talk [] id point is = inl (point, is)
id_by total talk (e ∷ events) id point is = after (id_by total (goes total e talk) events id point is)
  where
    first : (p : Option ℕ) → (goes total e talk).state ≡ states.Kept (record { id = id; point = p }) → OneStep total e talk → IdBy total talk (e ∷ events) id
    first p now (same it) = inl (p, sym it ∙ now)
    first p now (keeps other it short state) = let k = same_kept (record { id = other; point = None }) (record { id = id; point = p }) (sym state ∙ now) in
        let one : other ≡ id = ap (λ (x : Kept). x.id) k in
        inr ([], events, e, refl, subst (λ (x : List ℕ). Hears (server.LogId x) e) one it, subst (λ (x : List ℕ). length x ≤ 4096) one short)
    first p now (points time c kept it at sent was state) = let k = same_kept (record { id = kept.id; point = Some c }) (record { id = id; point = p }) (sym state ∙ now) in
        inl (kept.point, was ∙ ap (λ (x : List ℕ). states.Kept (record { id = x; point = kept.point })) (ap (λ (x : Kept). x.id) k))
    first p now (drops_it state) = absurd (kept_apart _ _ (ap keeps_id state) now)

    after : IdBy total (goes total e talk) events id → IdBy total talk (e ∷ events) id
    after (inl (p, now)) = first p now (one_step total e talk)
    after (inr (before, behind, other, split, is, short)) = inr (e ∷ before, behind, other, ap (λ (x : List Event). e ∷ x) split, is, short)

abbrev pub PointBy : ℕ → Talk → List Event → List ℕ → ℕ → Type 0
PointBy total talk events id c = (talk.state ≡ states.Kept (record { id = id; point = Some c }))
    ⊎ ((before after : List Event) × (e : Event) × (time : TimeSpec) × (point : Option ℕ) × (events ≡ before ++ e ∷ after) × Hears (server.CommitPoint time) e × (nanos_of time ≡ Some c)
    × ((goes_on total before talk).state ≡ states.Kept (record { id = id; point = point })) × (c ≤ (goes_on total before talk).sent) × (0 < c))

pub point_by : (total : ℕ) (talk : Talk) (events : List Event) (id : List ℕ) (c : ℕ) → (goes_on total events talk).state ≡ states.Kept (record { id = id; point = Some c }) → PointBy total talk events id c
point_by total talk [] id c is = inl is
point_by total talk (e ∷ events) id c is = after (point_by total (goes total e talk) events id c is)
  where
    first : (goes total e talk).state ≡ states.Kept (record { id = id; point = Some c }) → OneStep total e talk → PointBy total talk (e ∷ events) id c
    first now (same it) = inl (sym it ∙ now)
    first now (keeps other it short state) = let k = same_kept (record { id = other; point = None }) (record { id = id; point = Some c }) (sym state ∙ now) in
        absurd (let h : None ≡ Some c = ap (λ (x : Kept). x.point) k in cc (h))
    first now (points time d kept it at sent was state) = let k = same_kept (record { id = kept.id; point = Some d }) (record { id = id; point = Some c }) (sym state ∙ now) in
        let point : Some d ≡ Some c = ap (λ (x : Kept). x.point) k in
        let same_point : d ≡ c = cc (point) in
        inr ([], events, e, time, kept.point, refl, it, at ∙ point, was ∙ ap (λ (x : List ℕ). states.Kept (record { id = x; point = kept.point })) (ap (λ (x : Kept). x.id) k), subst (λ (x : ℕ). x ≤ talk.sent) same_point sent.0, subst (λ (x : ℕ). 0 < x) same_point sent.1)
    first now (drops_it state) = absurd (kept_apart _ _ (ap keeps_id state) now)

    after : PointBy total (goes total e talk) events id c → PointBy total talk (e ∷ events) id c
    after (inl now) = first now (one_step total e talk)
    after (inr (before, behind, other, time, p, split, is, at, was, sent, above)) = inr (e ∷ before, behind, other, time, p, ap (λ (x : List Event). e ∷ x) split, is, at, was, sent, above)

-- ---- what changes nothing

pub strange_same : (total : ℕ) (talk : Talk) (point : Option ℕ) → is_strange talk.sent point ≡ true → hears_point total point talk ≡ talk
strange_same total talk None is = refl
strange_same total talk (Some c) is = rw is refl

pub long_same : (talk : Talk) (id : List ℕ) → 4096 < length id → hears_id id talk ≡ talk
long_same talk id long = rw (ap (λ (b : Bool). talk.known || b || is_done talk.state) (let h : nat_lt longest_id (length id) ≡ true = grind (arith, nat_tests) in h) ∙ middle talk.known (is_done talk.state)) refl
  where
    middle : (a b : Bool) → (a || true || b) ≡ true
    middle true b = refl
    middle false b = refl

pub drops : (talk : Talk) → talk.asked ≡ true → keeps_id talk.state ≡ true → (hears_error talk).state ≡ states.Nothing
drops talk asked has = rw (asked, has) refl

-- ---- the exit

-- what is heard doesn't say the exit
hears_ended : (total : ℕ) (m : ServerMessage) (talk : Talk) → (hears total m talk).ended ≡ talk.ended
hears_ended total (server.Hello m) talk = refl
hears_ended total (server.LogId id) talk = one_of (talk.known || nat_lt longest_id (length id) || is_done talk.state) talk _ refl
  where
    one_of : (b : Bool) (a c : Talk) → c.ended ≡ a.ended → (if b then a else c).ended ≡ a.ended
    one_of true a c e = refl
    one_of false a c e = e
hears_ended total (server.CommitPoint time) talk = go (nanos_of time)
  where
    one_of : (b : Bool) (a c : Talk) → c.ended ≡ a.ended → (if b then a else c).ended ≡ a.ended
    one_of true a c e = refl
    one_of false a c e = e

    go : (o : Option ℕ) → (hears_point total o talk).ended ≡ talk.ended
    go None = refl
    go (Some c) = one_of (nat_lt talk.sent c || not talk.known || not (keeps_id talk.state) || talk.whole) talk _ refl
hears_ended total (server.Error text) talk = one_of (talk.asked && keeps_id talk.state) talk _ refl
  where
    one_of : (b : Bool) (a c : Talk) → c.ended ≡ a.ended → (if b then c else a).ended ≡ a.ended
    one_of true a c e = e
    one_of false a c e = refl
hears_ended total (server.Abort text) talk = refl

asked_ended : (w : Result Request Refusal) (talk : Talk) → (says_asked w talk).ended ≡ talk.ended
asked_ended (Ok request.Hello) talk = refl
asked_ended (Ok (request.Accept a)) talk = refl
asked_ended (Ok (request.Reject a)) talk = refl
asked_ended (Ok (request.Alert a)) talk = refl
asked_ended (Ok (request.Restart a)) talk = refl
asked_ended (Ok (request.Record r)) talk = refl
asked_ended (Ok (request.Exit x)) talk = refl
asked_ended (Err why) talk = refl

unended_said : (m : ClientMessage) (talk : Talk) → is_exit m ≡ false → talk.ended ≡ false → (says m talk).ended ≡ false
unended_said m talk e unended = rw e (asked_ended (request_of m) talk ∙ unended)

one_of_two : (b rest : Bool) → (b ≡ false → rest ≡ true) → (b || rest) ≡ true
one_of_two true rest f = refl
one_of_two false rest f = f refl

-- the exit counts as said only if it is among what was said
pub exit_by : (total : ℕ) (talk : Talk) (events : List Event) → talk.ended ≡ false → (goes_on total events talk).ended ≡ true → list_any is_exit (said events) ≡ true
exit_by total talk [] unended ended = absurd (not_yet talk.ended unended ended)
exit_by total talk (Heard m ∷ events) unended ended = exit_by total (hears total m talk) events (hears_ended total m talk ∙ unended) ended
exit_by total talk (Late m ∷ events) unended ended = exit_by total (hears_late total m talk) events (hears_ended total m (unsaid talk)) ended
exit_by total talk (Said m ∷ events) unended ended = one_of_two (is_exit m) (list_any is_exit (said events)) (λ e. exit_by total (says m talk) events (unended_said m talk e unended) ended)
