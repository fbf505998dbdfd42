-- What was heard and said, piece by piece.
use Rattle.std.proofs.Common.{◌≡◌, ◌≢◌, ◌≤◌, ◌+◌, ◌++◌, ◌∷◌, List, [], ℕ, length, refl, sym, ◌∙◌, ap, subst, append_assoc, append-nil, length-append, arith, ◌⊎◌, inl, inr}
use Rattle.std.specs.List.{AllByRecursion}
use Rattle.lsv_msg.specs.declared.messages.ClientMessage.{ClientMessage}
use Rattle.lsv_msg.specs.declared.messages.ServerMessage.{ServerMessage}
use Rattle.lsv_dialogue.specs.Events.{Event, Event.Heard, Event.Said, Event.Late, AreInTime, AreLate, AtEach, HasPaused, IsLateLast, all_said, as_heard, as_late, heard, said, said_since}
use Rattle.lsv_dialogue.specs.declared.ends.TheConstants.{MOST_PUT}

pub said_append : (xs ys : List Event) → said (xs ++ ys) ≡ said xs ++ said ys
said_append [] ys = refl
said_append (Heard m ∷ xs) ys = said_append xs ys
said_append (Said m ∷ xs) ys = ap (λ (l : List ClientMessage). m ∷ l) (said_append xs ys)
said_append (Late m ∷ xs) ys = said_append xs ys

pub heard_append : (xs ys : List Event) → heard (xs ++ ys) ≡ heard xs ++ heard ys
heard_append [] ys = refl
heard_append (Heard m ∷ xs) ys = ap (λ (l : List ServerMessage). m ∷ l) (heard_append xs ys)
heard_append (Said m ∷ xs) ys = heard_append xs ys
heard_append (Late m ∷ xs) ys = ap (λ (l : List ServerMessage). m ∷ l) (heard_append xs ys)

pub said_all : (ms : List ClientMessage) → said (all_said ms) ≡ ms
said_all [] = refl
said_all (m ∷ ms) = ap (λ (l : List ClientMessage). m ∷ l) (said_all ms)

heard_none : (ms : List ClientMessage) → heard (all_said ms) ≡ []
heard_none [] = refl
heard_none (m ∷ ms) = heard_none ms

-- messages were said
pub said_said : (events : List Event) (ms : List ClientMessage) → said (events ++ all_said ms) ≡ said events ++ ms
said_said events ms = said_append events (all_said ms) ∙ ap (λ (x : List ClientMessage). said events ++ x) (said_all ms)

pub heard_said : (events : List Event) (ms : List ClientMessage) → heard (events ++ all_said ms) ≡ heard events
heard_said events ms = heard_append events (all_said ms) ∙ (ap (λ (x : List ServerMessage). heard events ++ x) (heard_none ms) ∙ append-nil (heard events))

-- a message was heard in time
pub said_heard : (events : List Event) (m : ServerMessage) → said (events ++ as_heard m) ≡ said events
said_heard events m = said_append events (as_heard m) ∙ append-nil (said events)

pub heard_heard : (events : List Event) (m : ServerMessage) → heard (events ++ as_heard m) ≡ heard events ++ m ∷ []
heard_heard events m = heard_append events (as_heard m)

-- a message was late
pub said_late : (events : List Event) (m : ServerMessage) → said (events ++ as_late m) ≡ said events
said_late events m = said_append events (as_late m) ∙ append-nil (said events)

pub heard_late : (events : List Event) (m : ServerMessage) → heard (events ++ as_late m) ≡ heard events ++ m ∷ []
heard_late events m = heard_append events (as_late m)

pub all_append : {A : Type 0} (P : A → Type 0) (xs ys : List A) → AllByRecursion P xs → AllByRecursion P ys → AllByRecursion P (xs ++ ys)
all_append P [] ys a b = b
all_append P (x ∷ xs) ys a b = (a.0, all_append P xs ys a.1 b)

-- ---- When a message was heard

module _ (A B : List Event → ServerMessage → Type 0) where
  pub at_each_append : (before xs ys : List Event) → AtEach A B before xs → AtEach A B (before ++ xs) ys → AtEach A B before (xs ++ ys)
  at_each_append before [] ys a b = subst (λ (l : List Event). AtEach A B l ys) (append-nil before) b
  at_each_append before (Heard m ∷ xs) ys a b = (a.0, at_each_append (before ++ Heard m ∷ []) xs ys a.1 (subst (λ (l : List Event). AtEach A B l ys) (sym (append_assoc before (Heard m ∷ []) xs)) b))
  at_each_append before (Said m ∷ xs) ys a b = at_each_append (before ++ Said m ∷ []) xs ys a (subst (λ (l : List Event). AtEach A B l ys) (sym (append_assoc before (Said m ∷ []) xs)) b)
  at_each_append before (Late m ∷ xs) ys a b = (a.0, at_each_append (before ++ Late m ∷ []) xs ys a.1 (subst (λ (l : List Event). AtEach A B l ys) (sym (append_assoc before (Late m ∷ []) xs)) b))

  at_each_all : (before : List Event) (ms : List ClientMessage) → AtEach A B before (all_said ms)
  at_each_all before [] = tt
  at_each_all before (m ∷ ms) = at_each_all (before ++ Said m ∷ []) ms

  -- after messages were said, one was heard, and one was late
  pub at_each_said : (events : List Event) (ms : List ClientMessage) → AtEach A B [] events → AtEach A B [] (events ++ all_said ms)
  at_each_said events ms a = at_each_append [] events (all_said ms) a (at_each_all events ms)

  pub at_each_heard : (events : List Event) (m : ServerMessage) → AtEach A B [] events → A events m → AtEach A B [] (events ++ as_heard m)
  at_each_heard events m a h = at_each_append [] events (as_heard m) a (h, tt)

  pub at_each_late : (events : List Event) (m : ServerMessage) → AtEach A B [] events → B events m → AtEach A B [] (events ++ as_late m)
  at_each_late events m a h = at_each_append [] events (as_late m) a (h, tt)

-- each fact gives another, and one of a further kind, which was there before
pub at_each_with : (A C A' B : List Event → ServerMessage → Type 0) → ((before : List Event) (m : ServerMessage) → A before m → C before m → A' before m) → (before events : List Event) → AtEach A B before events → AtEach C B before events → AtEach A' B before events
at_each_with A C A' B f before [] a c = tt
at_each_with A C A' B f before (Heard m ∷ events) a c = (f before m a.0 c.0, at_each_with A C A' B f (before ++ Heard m ∷ []) events a.1 c.1)
at_each_with A C A' B f before (Said m ∷ events) a c = at_each_with A C A' B f (before ++ Said m ∷ []) events a c
at_each_with A C A' B f before (Late m ∷ events) a c = (a.0, at_each_with A C A' B f (before ++ Late m ∷ []) events a.1 c.1)

pub at_each_map : (A A' B B' : List Event → ServerMessage → Type 0) → ((before : List Event) (m : ServerMessage) → A before m → A' before m) → ((before : List Event) (m : ServerMessage) → B before m → B' before m) → (before events : List Event) → AtEach A B before events → AtEach A' B' before events
at_each_map A A' B B' f g before [] a = tt
at_each_map A A' B B' f g before (Heard m ∷ events) a = (f before m a.0, at_each_map A A' B B' f g (before ++ Heard m ∷ []) events a.1)
at_each_map A A' B B' f g before (Said m ∷ events) a = at_each_map A A' B B' f g (before ++ Said m ∷ []) events a
at_each_map A A' B B' f g before (Late m ∷ events) a = (g before m a.0, at_each_map A A' B B' f g (before ++ Late m ∷ []) events a.1)

-- the number of messages that were heard before each is below the number of all
pub at_each_few : (k : ℕ) (before events : List Event) → length (heard before) + length (heard events) ≤ k → AtEach (λ l m. length (heard l) + 1 ≤ k) (λ l m. Unit {0}) before events
at_each_few k before [] le = tt
at_each_few k before (Heard m ∷ events) le = (omega (arith, le), at_each_few k (before ++ Heard m ∷ []) events (let e = ap length (heard_append before (Heard m ∷ [])) in omega (arith, le, e, length-append (heard before) (m ∷ []))))
at_each_few k before (Said m ∷ events) le = at_each_few k (before ++ Said m ∷ []) events (let e = ap length (heard_append before (Said m ∷ [])) in omega (arith, le, e, length-append (heard before) (let l : List ServerMessage = [] in l)))
at_each_few k before (Late m ∷ events) le = (tt, at_each_few k (before ++ Late m ∷ []) events (let e = ap length (heard_append before (Late m ∷ [])) in omega (arith, le, e, length-append (heard before) (m ∷ []))))

in_time_append : (xs ys : List Event) → AreInTime xs → AreInTime ys → AreInTime (xs ++ ys)
in_time_append [] ys a b = b
in_time_append (Heard m ∷ xs) ys a b = in_time_append xs ys a b
in_time_append (Said m ∷ xs) ys a b = in_time_append xs ys a b
in_time_append (Late m ∷ xs) ys a b = absurd a

in_time_all : (ms : List ClientMessage) → AreInTime (all_said ms)
in_time_all [] = tt
in_time_all (m ∷ ms) = in_time_all ms

pub in_time_said : (events : List Event) (ms : List ClientMessage) → AreInTime events → AreInTime (events ++ all_said ms)
in_time_said events ms a = in_time_append events (all_said ms) a (in_time_all ms)

pub in_time_heard : (events : List Event) (m : ServerMessage) → AreInTime events → AreInTime (events ++ as_heard m)
in_time_heard events m a = in_time_append events (as_heard m) a tt

-- where no message was late, and where one more is
pub late_none : (events : List Event) → AreInTime events → IsLateLast events
late_none [] t = tt
late_none (Heard m ∷ events) t = late_none events t
late_none (Said m ∷ events) t = late_none events t
late_none (Late m ∷ events) t = absurd t

late_push : (events : List Event) (m : ServerMessage) → AreLate events → AreLate (events ++ as_late m)
late_push [] m a = tt
late_push (Heard x ∷ events) m a = absurd a
late_push (Said x ∷ events) m a = absurd a
late_push (Late x ∷ events) m a = late_push events m a

pub late_more : (events : List Event) (m : ServerMessage) → IsLateLast events → IsLateLast (events ++ as_late m)
late_more [] m a = tt
late_more (Heard x ∷ events) m a = late_more events m a
late_more (Said x ∷ events) m a = late_more events m a
late_more (Late x ∷ events) m a = late_push events m a

-- ---- How many were said since

since_append : (many : ℕ) (xs ys : List Event) → said_since many (xs ++ ys) ≡ said_since (said_since many xs) ys
since_append many [] ys = refl
since_append many (Heard m ∷ xs) ys = since_append 0 xs ys
since_append many (Said m ∷ xs) ys = since_append (many + 1) xs ys
since_append many (Late m ∷ xs) ys = since_append 0 xs ys

since_all : (many : ℕ) (ms : List ClientMessage) → said_since many (all_said ms) ≡ many + length ms
since_all many [] = let e : many ≡ many + 0 = omega arith in e
since_all many (m ∷ ms) = since_all (many + 1) ms ∙ (let e : many + 1 + length ms ≡ many + length (m ∷ ms) = omega arith in e)

-- the count after messages were said
pub since_said : (events : List Event) (ms : List ClientMessage) (put : ℕ) → put ≤ said_since 0 events → put + length ms ≤ said_since 0 (events ++ all_said ms)
since_said events ms put le = let e = since_append 0 events (all_said ms) ∙ since_all (said_since 0 events) ms in omega (arith, e, le)

since_most : (many : ℕ) (events : List Event) → said_since many events ≤ many + length (said events)
since_most many [] = omega arith
since_most many (Heard m ∷ events) = let h = since_most 0 events in omega (arith, h)
since_most many (Said m ∷ events) = let h = since_most (many + 1) events in omega (arith, h)
since_most many (Late m ∷ events) = let h = since_most 0 events in omega (arith, h)

-- a speaker that paused is quiet, or sixteen messages were said
pub paused_said : (quiet : Type 0) (events : List Event) → HasPaused quiet events → quiet ⊎ (MOST_PUT ≤ length (said events))
paused_said quiet events (inl still) = inl still
paused_said quiet events (inr many) = inr (let most = since_most 0 events in omega (arith, most, many))

pub some_more : {A : Type 0} (xs ys : List A) → ys ≢ [] → xs ++ ys ≢ []
some_more [] ys some e = some e
some_more (x ∷ xs) ys some e = absurd (cc)
