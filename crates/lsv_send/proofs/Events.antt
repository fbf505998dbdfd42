-- What was heard and said, piece by piece.
use Rattle.std.proofs.Common.{◌≡◌, ◌∙◌, ◌++◌, ◌∷◌, ◌||◌, ◌+◌, ◌<◌, ◌≤◌, ◌⊎◌, inl, inr, ℕ, Bool, true, false, List, [], length, refl, ap, append-nil, arith, Option, Some, None}
use Rattle.std.specs.List.{list_any}
use Rattle.lsv_dialogue.specs.Events.{Event, Event.Heard, Event.Late, Event.Said, HasPaused, all_said, as_late, heard, said, said_since}
use Rattle.lsv_info.specs.declared.times.Exit.{Exit}
use Rattle.lsv_msg.specs.declared.messages.ClientMessage.{ClientMessage}
use Rattle.lsv_msg.specs.declared.messages.ServerMessage.{ServerMessage}
use Rattle.lsv_record.specs.declared.records.Record.{Record}
use Rattle.lsv_transcript.specs.Transcript.{is_id}
use Rattle.lsv_send.specs.Handing.{HasWaited, has_rest}
use Rattle.lsv_send.specs.Reached.{commits, reached_by}
use Rattle.lsv_send.specs.declared.sender.Place.{Place}
use Rattle.lsv_send.specs.declared.sender.Place.TheVariants.{Opening, Waiting, Records, Closing, Over}

-- ---- Appended

said_append : (xs ys : List Event) → said (xs ++ ys) ≡ said xs ++ said ys
said_append [] ys = refl
said_append (Heard m ∷ xs) ys = said_append xs ys
said_append (Said m ∷ xs) ys = ap (λ (ms : List ClientMessage). m ∷ ms) (said_append xs ys)
said_append (Late m ∷ xs) ys = said_append xs ys

heard_append : (xs ys : List Event) → heard (xs ++ ys) ≡ heard xs ++ heard ys
heard_append [] ys = refl
heard_append (Heard m ∷ xs) ys = ap (λ (ms : List ServerMessage). m ∷ ms) (heard_append xs ys)
heard_append (Said m ∷ xs) ys = heard_append xs ys
heard_append (Late m ∷ xs) ys = ap (λ (ms : List ServerMessage). m ∷ ms) (heard_append xs ys)

said_all : (ms : List ClientMessage) → said (all_said ms) ≡ ms
said_all [] = refl
said_all (m ∷ ms) = ap (λ (xs : List ClientMessage). m ∷ xs) (said_all ms)

heard_none : (ms : List ClientMessage) → heard (all_said ms) ≡ []
heard_none [] = refl
heard_none (m ∷ ms) = heard_none ms

pub or_false : (b : Bool) → (b || false) ≡ b
or_false true = refl
or_false false = refl

or_assoc : (a b c : Bool) → (a || (b || c)) ≡ ((a || b) || c)
or_assoc true b c = refl
or_assoc false b c = refl

pub any_snoc : (p : ServerMessage → Bool) (xs : List ServerMessage) (m : ServerMessage) → list_any p (xs ++ m ∷ []) ≡ (list_any p xs || p m)
any_snoc p [] m = or_false (p m)
any_snoc p (x ∷ xs) m = ap (λ (b : Bool). p x || b) (any_snoc p xs m) ∙ or_assoc (p x) (list_any p xs) (p m)

any_step : (t a b : Bool) → (a ≡ true → b ≡ true) → (t || a) ≡ true → (t || b) ≡ true
any_step true a b more is = refl
any_step false a b more is = more is

pub any_more : (p : ServerMessage → Bool) (xs ys : List ServerMessage) → list_any p xs ≡ true → list_any p (xs ++ ys) ≡ true
any_more p [] ys is = absurd (let no : false ≡ true = is in cc)
any_more p (x ∷ xs) ys is = any_step (p x) (list_any p xs) (list_any p (xs ++ ys)) (any_more p xs ys) is

pub waited_more : (place begins : Place) (xs ys : List ServerMessage) → HasWaited place begins xs → HasWaited place begins (xs ++ ys)
waited_more Opening begins xs ys h = tt
waited_more Waiting begins xs ys h = h
waited_more Records begins xs ys h = λ is. any_more is_id xs ys (h is)
waited_more Closing begins xs ys h = λ is. any_more is_id xs ys (h is)
waited_more Over begins xs ys h = λ is. any_more is_id xs ys (h is)

pub reached_append : (time : ℕ) (b : Bool) (xs ys : List Event) → reached_by time b (xs ++ ys) ≡ reached_by time (reached_by time b xs) ys
reached_append time b [] ys = refl
reached_append time b (Said m ∷ xs) ys = reached_append time false xs ys
reached_append time b (Heard m ∷ xs) ys = reached_append time (b || commits time m) xs ys
reached_append time b (Late m ∷ xs) ys = reached_append time b xs ys

pub reached_heard : (time : ℕ) (events : List Event) (m : ServerMessage) → reached_by time false (events ++ Heard m ∷ []) ≡ (reached_by time false events || commits time m)
reached_heard time events m = reached_append time false events (Heard m ∷ [])

-- a message that came too late is no such commit point
pub reached_late : (time : ℕ) (events : List Event) (m : ServerMessage) → reached_by time false (events ++ as_late m) ≡ reached_by time false events
reached_late time events m = reached_append time false events (as_late m)

reached_none : (time : ℕ) (ms : List ClientMessage) → reached_by time false (all_said ms) ≡ false
reached_none time [] = refl
reached_none time (m ∷ ms) = reached_none time ms

-- a message that is said is after each commit point
pub reached_said : (time : ℕ) (events : List Event) (m : ClientMessage) (ms : List ClientMessage) → reached_by time false (events ++ all_said (m ∷ ms)) ≡ false
reached_said time events m ms = reached_append time false events (all_said (m ∷ ms)) ∙ reached_none time ms

pub said_more : (events : List Event) (ms : List ClientMessage) → said (events ++ all_said ms) ≡ said events ++ ms
said_more events ms = said_append events (all_said ms) ∙ ap (λ (xs : List ClientMessage). said events ++ xs) (said_all ms)

pub heard_same : (events : List Event) (ms : List ClientMessage) → heard (events ++ all_said ms) ≡ heard events
heard_same events ms = heard_append events (all_said ms) ∙ ap (λ (xs : List ServerMessage). heard events ++ xs) (heard_none ms) ∙ append-nil (heard events)

pub said_one : (events : List Event) (m : ServerMessage) → said (events ++ Heard m ∷ []) ≡ said events
said_one events m = said_append events (Heard m ∷ []) ∙ append-nil (said events)

pub heard_one : (events : List Event) (m : ServerMessage) → heard (events ++ Heard m ∷ []) ≡ heard events ++ m ∷ []
heard_one events m = heard_append events (Heard m ∷ [])

pub said_late : (events : List Event) (m : ServerMessage) → said (events ++ as_late m) ≡ said events
said_late events m = said_append events (as_late m) ∙ append-nil (said events)

pub heard_late : (events : List Event) (m : ServerMessage) → heard (events ++ as_late m) ≡ heard events ++ m ∷ []
heard_late events m = heard_append events (as_late m)

-- ---- After the last one that was heard

since_few : (many : ℕ) (events : List Event) → said_since many events ≤ many + length (said events)
since_few many [] = omega arith
since_few many (Heard m ∷ events) = let rest = since_few 0 events in omega (arith, rest)
since_few many (Said m ∷ events) = let rest = since_few (many + 1) events in omega (arith, rest)
since_few many (Late m ∷ events) = let rest = since_few 0 events in omega (arith, rest)

-- where something was said since, no such commit point came after it
since_none : (time many : ℕ) (b : Bool) (events : List Event) → (0 < many → b ≡ false) → 0 < said_since many events → reached_by time b events ≡ false
since_none time many b [] was some = was some
since_none time many b (Heard m ∷ events) was some = since_none time 0 (b || commits time m) events (λ no. absurd (omega (arith, no))) some
since_none time many b (Said m ∷ events) was some = since_none time (many + 1) false events (λ more. refl) some
since_none time many b (Late m ∷ events) was some = since_none time 0 b events (λ no. absurd (omega (arith, no))) some

-- nothing more may be said; or many messages were said, and no commit point came after the last one
pub paused_by : (quiet : Type 0) (time : ℕ) (events : List Event) → HasPaused quiet events → quiet ⊎ ((16 ≤ length (said events)) × (reached_by time false events ≡ false))
paused_by quiet time events (inl is) = inl is
paused_by quiet time events (inr many) = let few = since_few 0 events in inr (omega (arith, many, few), since_none time 0 false events (λ no. refl) (omega (arith, many)))

-- ---- What follows the opening

pub rest_some : (xs : List Record) (r : Record) (ys : List Record) (exit : Option Exit) → true ≡ has_rest (xs ++ r ∷ ys) exit
rest_some [] r ys exit = refl
rest_some (x ∷ xs) r ys exit = refl

pub rest_exit : (xs : List Record) (exit : Exit) → true ≡ has_rest xs (Some exit)
rest_exit [] exit = refl
rest_exit (x ∷ xs) exit = refl
