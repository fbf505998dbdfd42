-- A step of a conversation: a message is heard, or messages are said; or a call fails.
use Rattle.std.proofs.Common.{◌≡◌, ◌≢◌, ◌∙◌, ◌++◌, ◌∷◌, ◌≤◌, ◌⊎◌, inl, inr, ℕ, Bool, true, false, List, [], length, Option, Some, None, Result, Ok, Err, refl, sym, ap, subst, append-nil, append_assoc, arith}
use Rattle.lsv_dialogue.specs.Events.{Event, Event.Heard, all_said, as_heard, as_late, heard, text_of}
use Rattle.lsv_dialogue.specs.declared.ends.Wants.TheVariants as wants
use Rattle.lsv_disk.specs.Throughout.{OnlyReads}
use Rattle.lsv_disk.specs.View.{DiskView, HasOwnCause, Image}
use Rattle.std.specs.Prelude.{if◌then◌else◌, is_some, ◌&&◌, ◌||◌, not}
use Rattle.lsv_disk.specs.declared.file.FileId.{FileId}
use Rattle.lsv_disk.proofs.Composition.{reads_trans}
use Rattle.lsv_iolog.specs.Recovered.{IsOfLog}
use Rattle.lsv_iolog.specs.declared.fault.ViewFault.{ViewFault}
use Rattle.lsv_iolog.specs.declared.fault.ViewFault.TheVariants as views
use Rattle.lsv_msg.specs.declared.messages.ClientMessage.{ClientMessage}
use Rattle.lsv_msg.specs.declared.messages.ServerMessage.{ServerMessage}
use Rattle.lsv_msg.specs.declared.messages.ServerMessage.TheVariants as server
use Rattle.lsv_defs.specs.Causes.{HasRisen}
use Rattle.lsv_defs.specs.Pieces.{IsPrefix}
use Rattle.lsv_record.specs.declared.records.Record.{Record}
use Rattle.lsv_send.specs.Handing.{CanRecord, Far, HandsOut, Source, is_there, wants_at}
use Rattle.lsv_send.specs.Faults.{HandsUntil, IsCaused, IsStuck}
use Rattle.lsv_send.specs.Judging.{hears, hears_late, is_done}
use Rattle.lsv_send.specs.Lines.{line_of, lines_of}
use Rattle.lsv_send.specs.Print.{IsPrintFault, PrintsSome}
use Rattle.lsv_send.specs.Reached.{commits}
use Rattle.lsv_send.specs.Talks.{Begins, Fails, IsOf, KeepsStart, PrintsAt, Start, Talks, Told, far_of, start_at, told_start}
use Rattle.lsv_send.specs.declared.fault.SendFault.{SendFault}
use Rattle.lsv_send.specs.declared.fault.SendFault.TheVariants as faults
use Rattle.lsv_send.specs.declared.sender.Place.{Place}
use Rattle.lsv_send.specs.declared.sender.Place.TheVariants.{Opening, Waiting, Records, Closing, Over}
use Rattle.lsv_send.specs.declared.sender.Sender.{Sender}
use Rattle.lsv_send.proofs.Batches.{told_opened}
use Rattle.lsv_send.proofs.Events.{heard_late, heard_one, heard_same, or_false}
use Rattle.lsv_send.proofs.Telling.{hands_heard, hands_late, told_heard, told_late}

pub lines_one : (xs : List ServerMessage) (m : ServerMessage) → lines_of (xs ++ m ∷ []) ≡ lines_of xs ++ line_of m
lines_one [] m = append-nil (line_of m)
lines_one (x ∷ xs) m = ap (λ (b : List ℕ). line_of x ++ b) (lines_one xs m) ∙ sym (append_assoc (line_of x) (lines_of xs) (line_of m))

lines_heard : (events : List Event) (m : ServerMessage) → lines_of (heard (events ++ Heard m ∷ [])) ≡ lines_of (heard events) ++ line_of m
lines_heard events m = ap lines_of (heard_one events m) ∙ lines_one (heard events) m

lines_late : (events : List Event) (m : ServerMessage) → lines_of (heard (events ++ as_late m)) ≡ lines_of (heard events) ++ line_of m
lines_late events m = ap lines_of (heard_late events m) ∙ lines_one (heard events) m

-- the line of a message was printed after those before
prints_on : (old lines line printed new all : List ℕ) → printed ≡ old ++ lines → new ≡ printed ++ line → all ≡ lines ++ line → new ≡ old ++ all
prints_on old lines line printed new all before put is = put ∙ ap (λ (b : List ℕ). b ++ line) before ∙ append_assoc old lines line ∙ ap (λ (b : List ℕ). old ++ b) (sym is)

-- ---- Whether there is an event

front_none : (events more : List Event) → events ++ more ≡ [] → events ≡ []
front_none [] more none = refl
front_none (e ∷ events) more none = absurd (let count = ap length none in omega (arith, count))

not_none : (events : List Event) (m : ServerMessage) (more : List Event) → events ++ Heard m ∷ more ≡ [] → ⊥
not_none [] m more none = let count = ap length none in omega (arith, count)
not_none (e ∷ events) m more none = let count = ap length none in omega (arith, count)

not_late : (events : List Event) (m : ServerMessage) → events ++ as_late m ≡ [] → ⊥
not_late [] m none = let count = ap length none in omega (arith, count)
not_late (e ∷ events) m none = let count = ap length none in omega (arith, count)

some_said : (s : Sender) (ms : List ClientMessage) → ms ≡ s.opening → length s.opening ≡ 2 → all_said ms ≡ [] → ⊥
some_said s [] said two none = let count = ap length said in omega (arith, count, two)
some_said s (m ∷ ms) said two none = let count = ap length none in omega (arith, count)

-- ---- A message is heard

pub talks_heard : (dt st same : Type 0) (start : Begins dt) (s new : Sender) (disk : DiskView) (printed printed' : List ℕ) (count count' : ℕ) (events : List Event) (m : ServerMessage) → new ≡ hears m s → (st → printed' ≡ printed ++ line_of m) → count ≤ count'
    → Talks dt st start s disk printed count same events → Talks dt st start new disk printed' count' same (events ++ as_heard m)
talks_heard dt st same start s new disk printed printed' count count' events m is put mono t = subst (λ (n : Sender). Talks dt st start n disk printed' count' same (events ++ as_heard m)) (sym is) (record {
  number = t.number;
  begins = t.begins;
  goes_on = t.goes_on;
  starts = λ none. absurd (not_none events m [] none);
  two = t.two;
  is = λ d. let is = t.is d in record { begins = is.begins; stop = is.stop; number = is.number; body = is.body };
  told = λ d. told_heard (told_start start d) s disk events m (t.told d);
  prints = λ k. prints_on start.printed (lines_of (heard events)) (line_of m) printed printed' (lines_of (heard (events ++ as_heard m))) (t.prints k) (put k) (lines_heard events m);
  sink = omega (arith, mono, t.sink);
  counts = t.counts;
  keeps = t.keeps;
})

pub talks_late : (dt st same : Type 0) (start : Begins dt) (s new : Sender) (disk : DiskView) (printed printed' : List ℕ) (count count' : ℕ) (events : List Event) (m : ServerMessage) → new ≡ hears_late m s → (st → printed' ≡ printed ++ line_of m) → count ≤ count'
    → Talks dt st start s disk printed count same events → Talks dt st start new disk printed' count' same (events ++ as_late m)
talks_late dt st same start s new disk printed printed' count count' events m is put mono t = subst (λ (n : Sender). Talks dt st start n disk printed' count' same (events ++ as_late m)) (sym is) (record {
  number = t.number;
  begins = t.begins;
  goes_on = t.goes_on;
  starts = λ none. absurd (not_late events m none);
  two = t.two;
  is = λ d. let is = t.is d in record { begins = is.begins; stop = is.stop; number = is.number; body = is.body };
  told = λ d. told_late (told_start start d) s disk events m (t.told d);
  prints = λ k. prints_on start.printed (lines_of (heard events)) (line_of m) printed printed' (lines_of (heard (events ++ as_late m))) (t.prints k) (put k) (lines_late events m);
  sink = omega (arith, mono, t.sink);
  counts = t.counts;
  keeps = t.keeps;
})

-- ---- Messages are said

-- what was printed doesn't matter there
abbrev pub told_at : (start : Start) (s : Sender) (disk : DiskView) (events : List Event) → Told start s disk events → Told (start_at start.source start.disk) s disk events
told_at start s disk events t = record { hands = t.hands; stands = t.stands; opening = t.opening; cuts = t.cuts; reads = t.reads }

pub told_back : (start : Start) (s : Sender) (disk : DiskView) (events : List Event) → Told (start_at start.source start.disk) s disk events → Told start s disk events
told_back start s disk events t = record { hands = t.hands; stands = t.stands; opening = t.opening; cuts = t.cuts; reads = t.reads }

-- the opening is said, at the beginning
pub talks_opened : (dt st same : Type 0) (start : Begins dt) (s new : Sender) (disk : DiskView) (printed : List ℕ) (count : ℕ) (ms : List ClientMessage) → ms ≡ s.opening → new ≡ record s { opening = []; place = s.begins; reached = false }
    → Talks dt st start s disk printed count same [] → Talks dt st start new disk printed count same (all_said ms)
talks_opened dt st same start s new disk printed count ms said is t = let at = t.starts refl in record {
  number = ap (λ (n : Sender). n.log.number) is ∙ t.number;
  begins = λ e. t.begins (ap (λ (n : Sender). n.begins) (sym is) ∙ e);
  goes_on = ap (λ (n : Sender). is_done n.begins) is ∙ t.goes_on;
  starts = λ none. absurd (some_said s ms said (t.two at) none);
  two = λ e. absurd (t.begins (ap (λ (n : Sender). n.place) (sym is) ∙ e));
  is = λ d. let of = t.is d in subst (IsOf (start.source d)) (sym is) (record { begins = of.begins; stop = of.stop; number = of.number; body = of.body });
  told = λ d. told_opened (told_start start d) s new disk [] ms (t.is d) at said is (t.told d);
  prints = λ k. t.prints k ∙ ap (λ (xs : List ServerMessage). start.printed ++ lines_of xs) (sym (heard_same [] ms));
  sink = t.sink;
  counts = t.counts;
  keeps = t.keeps;
}

pub talks_said : (dt st same : Type 0) (start : Begins dt) (s new : Sender) (disk later : DiskView) (printed : List ℕ) (count : ℕ) (events : List Event) (ms : List ClientMessage) → KeepsStart s new → s.place ≢ Opening → new.place ≢ Opening
    → ((d : dt) → IsOf (start.source d) s → Told (start_at (start.source d) start.disk) s disk events → Told (start_at (start.source d) start.disk) new later (events ++ all_said ms)) → ((f : FileId) → disk.faults f ≤ later.faults f)
    → Talks dt st start s disk printed count same events → Talks dt st start new later printed count same (events ++ all_said ms)
talks_said dt st same start s new disk later printed count events ms keeps opened opens told mono t = record {
  number = keeps.number ∙ t.number;
  begins = λ e. t.begins (sym keeps.begins ∙ e);
  goes_on = ap is_done keeps.begins ∙ t.goes_on;
  starts = λ none. absurd (opened (t.starts (front_none events (all_said ms) none)));
  two = λ e. absurd (opens e);
  is = λ d. let is = t.is d in record { begins = keeps.begins ∙ is.begins; stop = keeps.stop ∙ is.stop; number = keeps.number ∙ is.number; body = keeps.body ∙ is.body };
  told = λ d. told_back (told_start start d) new later (events ++ all_said ms) (told d (t.is d) (told_at (told_start start d) s disk events (t.told d)));
  prints = λ k. t.prints k ∙ ap (λ (xs : List ServerMessage). start.printed ++ lines_of xs) (sym (heard_same events ms));
  sink = t.sink;
  counts = λ f. omega (arith, mono f, t.counts f);
  keeps = t.keeps;
}

-- ---- A call fails

-- a first part of the lines, and of the next one
prints_front : (old lines front line new printed all : List ℕ) → printed ≡ old ++ lines → IsPrefix front line → new ≡ printed ++ front → all ≡ lines ++ line → (part : List ℕ) × IsPrefix part all × (new ≡ old ++ part)
prints_front old lines front line new printed all before (more, is) put all_is = (
  lines ++ front,
  (more, all_is ∙ ap (λ (b : List ℕ). lines ++ b) is ∙ sym (append_assoc lines front more)),
  put ∙ ap (λ (b : List ℕ). b ++ front) before ∙ append_assoc old lines front,
)

prints_at : (fault : SendFault) (old lines line new printed all : List ℕ) → IsPrintFault fault → printed ≡ old ++ lines → PrintsSome line printed new → all ≡ lines ++ line → PrintsAt fault all old new
prints_at faults.Sink old lines line new printed all is before some all_is = prints_front old lines some.0 line new printed all before some.1 some.2 all_is
prints_at faults.NoMem old lines line new printed all is before some all_is = prints_front old lines some.0 line new printed all before some.1 some.2 all_is
prints_at (faults.Log f) old lines line new printed all is before some all_is = absurd is

printed_cause : (fault : SendFault) (source : Source) (image : Image) (far : Far) (records : List Record) → IsPrintFault fault → IsCaused source image far records fault
printed_cause faults.Sink source image far records is = tt
printed_cause faults.NoMem source image far records is = tt
printed_cause (faults.Log f) source image far records is = absurd is

not_log : (fault : SendFault) → IsPrintFault fault → fault ≡ faults.Log views.Disk → ⊥
not_log faults.Sink is e = cc
not_log faults.NoMem is e = cc
not_log (faults.Log f) is e = is

-- a message was heard, or came late, and its line wasn't printed
fails_by : (dt st same : Type 0) (start : Begins dt) (s : Sender) (disk : DiskView) (printed printed' : List ℕ) (count count' : ℕ) (events after : List Event) (m : ServerMessage) (fault : SendFault) → lines_of (heard after) ≡ lines_of (heard events) ++ line_of m
    → ((d : dt) → (far : Far) × HandsOut (start.source d) start.disk.reads far after) → IsPrintFault fault → (st → PrintsSome (line_of m) printed printed') → count ≤ count' → (fault ≡ faults.Sink → HasRisen count count')
    → Talks dt st start s disk printed count same events → Fails dt st start disk printed' count' same after fault
fails_by dt st same start s disk printed printed' count count' events after m fault lines hands is some mono risen t = record {
  told = λ d. let h = hands d in record { far = h.0; hands = h.1; cause = printed_cause fault (start.source d) start.disk.reads h.0 ((start.source d).skipped ++ h.1.more) is };
  reads = λ d. (t.told d).reads;
  prints = λ k. prints_at fault start.printed (lines_of (heard events)) (line_of m) printed' printed (lines_of (heard after)) is (t.prints k) (some k) lines;
  sink = omega (arith, mono, t.sink);
  sink_cause = λ e small. let r = risen e small in omega (arith, r, t.sink);
  cause = record { monotone = t.counts; risen = λ e. absurd (not_log fault is e) };
  keeps = t.keeps;
}

pub fails_hearing : (dt st same : Type 0) (start : Begins dt) (s : Sender) (disk : DiskView) (printed printed' : List ℕ) (count count' : ℕ) (events : List Event) (m : ServerMessage) (fault : SendFault) → IsPrintFault fault
    → (st → PrintsSome (line_of m) printed printed') → count ≤ count' → (fault ≡ faults.Sink → HasRisen count count') → Talks dt st start s disk printed count same events → Fails dt st start disk printed' count' same (events ++ as_heard m) fault
fails_hearing dt st same start s disk printed printed' count count' events m fault is some mono risen t =
    fails_by dt st same start s disk printed printed' count count' events (events ++ as_heard m) m fault (lines_heard events m) (λ d. (_, hands_heard (start.source d) start.disk.reads (far_of s) events m (t.told d).hands)) is some mono risen t

pub fails_late : (dt st same : Type 0) (start : Begins dt) (s : Sender) (disk : DiskView) (printed printed' : List ℕ) (count count' : ℕ) (events : List Event) (m : ServerMessage) (fault : SendFault) → IsPrintFault fault
    → (st → PrintsSome (line_of m) printed printed') → count ≤ count' → (fault ≡ faults.Sink → HasRisen count count') → Talks dt st start s disk printed count same events → Fails dt st start disk printed' count' same (events ++ as_late m) fault
fails_late dt st same start s disk printed printed' count count' events m fault is some mono risen t =
    fails_by dt st same start s disk printed printed' count count' events (events ++ as_late m) m fault (lines_late events m) (λ d. (_, hands_late (start.source d) start.disk.reads (far_of s) events m (t.told d).hands)) is some mono risen t

log_disk : (fault : ViewFault) → (let f : SendFault = faults.Log fault in f) ≡ faults.Log views.Disk → fault ≡ views.Disk
log_disk fault e = cc

log_sink : (fault : ViewFault) → (let f : SendFault = faults.Log fault in f) ≡ faults.Sink → ⊥
log_sink fault e = cc

-- where records may be said, not all that is waited for came
can_more : (far : Far) → CanRecord far.place far.known → wants_at far ≡ wants.More
can_more far can = ap (λ (b : Bool). if b && (not far.rest || far.reached) then (if far.exited then wants.End else wants.Nothing) else wants.More) (not_done far.place far.known can)
  where
    not_done : (p : Place) (known : Bool) → CanRecord p known → is_done p ≡ false
    not_done Opening known can = refl
    not_done Waiting known can = refl
    not_done Records known can = refl
    not_done Closing known can = refl
    not_done Over known can = absurd can

-- nothing more was said, since the log wasn't read on
pub fails_saying : (dt st same : Type 0) (start : Begins dt) (s : Sender) (disk later : DiskView) (printed : List ℕ) (count : ℕ) (events : List Event) (fault : ViewFault) → (dt → OnlyReads disk later) → HasOwnCause (IsOfLog s.log.number) (fault ≡ views.Disk) disk later
    → ((d : dt) → IsOf (start.source d) s → (t : Told (start_at (start.source d) start.disk) s disk events) → IsStuck (start.source d) start.disk.reads ((start.source d).skipped ++ t.hands.more) fault) → CanRecord s.place s.known
    → Talks dt st start s disk printed count same events → Fails dt st start later printed count same events (faults.Log fault)
fails_saying dt st same start s disk later printed count events fault reads cause stuck going t = record {
  told = λ d. record {
    far = far_of s;
    hands = (t.told d).hands;
    cause = record { stuck = stuck d (t.is d) (told_at (told_start start d) s disk events (t.told d)); going = going; wanting = can_more (far_of s) going };
  };
  reads = λ d. reads_trans start.disk disk later (t.told d).reads (reads d);
  prints = λ k. t.prints k;
  sink = t.sink;
  sink_cause = λ e. absurd (log_sink fault e);
  cause = record {
    monotone = λ f. omega (arith, t.counts f, cause.monotone f);
    risen = λ e. let one = cause.risen (log_disk fault e) in (one.0, subst (λ (n : ℕ). IsOfLog n one.0) t.number one.1, λ small. let r = one.2 small in omega (arith, r, t.counts one.0));
  };
  keeps = t.keeps;
}

-- the cause of a call is that of its fault
pub own_cause : {T : Type 0} (r : Result T ViewFault) (x : ViewFault) (Own : FileId → Type 0) (disk later : DiskView) → r ≡ Err x → HasOwnCause Own (r ≡ Err views.Disk) disk later → HasOwnCause Own (x ≡ views.Disk) disk later
own_cause r x Own disk later is cause = record { monotone = cause.monotone; risen = λ e. cause.risen (is ∙ ap (λ (f : ViewFault). Err f) e) }

-- ---- What is wanted

-- where more is to be said, not all that is waited for came
pub wants_more : (s : Sender) → is_done s.place ≡ false → wants_at (far_of s) ≡ wants.More
wants_more s e = ap (λ (b : Bool). if b && (not s.more || s.reached) then (if s.exited then wants.End else wants.Nothing) else wants.More) e

-- an error or an abort changes nothing of it
pub same_wants : (s new : Sender) (m : ServerMessage) → new ≡ hears m s → is_some (text_of m) ≡ true → wants_at (far_of new) ≡ wants_at (far_of s)
same_wants s new m is error = ap (λ (n : Sender). wants_at (far_of n)) is
    ∙ ap (λ (b : Bool). if is_done s.place && (not s.more || b) then (if s.exited then wants.End else wants.Nothing) else wants.More) (ap (λ (b : Bool). s.reached || b) (no_point m error) ∙ or_false s.reached)
  where
    no_point : (m : ServerMessage) → is_some (text_of m) ≡ true → commits s.sent m ≡ false
    no_point (server.Hello h) e = refl
    no_point (server.CommitPoint t) e = absurd (let no : false ≡ true = e in cc)
    no_point (server.LogId id) e = refl
    no_point (server.Error text) e = refl
    no_point (server.Abort text) e = refl
