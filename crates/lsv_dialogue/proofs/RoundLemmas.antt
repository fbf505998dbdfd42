-- The rounds of a conversation, piece by piece.
use Rattle.std.proofs.Common.{◌≡◌, ◌≤◌, ◌+◌, ◌++◌, ◌∷◌, ◌||◌, List, [], ℕ, zero, suc, length, refl, sym, ◌∙◌, ap, subst, append_assoc, append-nil, length-append, arith, Bool, true, false}
use Rattle.lsv_link.specs.declared.connection.Connection.{Connection}
use Rattle.lsv_link.specs.declared.connection.Look.{Look}
use Rattle.lsv_link.specs.Link.{look_of}
use Rattle.lsv_msg.specs.declared.messages.ClientMessage.{ClientMessage}
use Rattle.lsv_msg.specs.declared.messages.ServerMessage.{ServerMessage}
use Rattle.lsv_dialogue.specs.Events.{Event, all_said, as_heard, as_late, frames_of, said}
use Rattle.lsv_dialogue.specs.Manner.{Manner}
use Rattle.lsv_dialogue.specs.Progress.{Reach, is_progress, no_reach, one_if, progress, reach_after, reach_of}
use Rattle.lsv_dialogue.specs.Puts.{PutsWhole}
use Rattle.lsv_dialogue.specs.Rounds.{AreBrief, AreLooks, AreRounds, GoesInRounds, IsLook, IsPaused, IsRound, IsUnput, Round, events_of, renewals}
use Rattle.lsv_dialogue.specs.Stands.{AddsLook, InRound, KeepsLooks, Paused, noted}
use Rattle.lsv_dialogue.specs.declared.ends.TheConstants.{MOST_PUT}
use Rattle.lsv_dialogue.specs.declared.talk.Talk.{Talk}
use Rattle.lsv_dialogue.proofs.EventLemmas.{said_heard, said_late, said_said}
use Rattle.lsv_dialogue.proofs.ProgressLemmas.{one_or, progress_heard, progress_late, progress_said, reach_append, reach_heard, reach_said}

events_push : (rounds : List Round) (r : Round) → events_of (rounds ++ r ∷ []) ≡ events_of rounds ++ r.events
events_push [] r = append-nil r.events
events_push (q ∷ rounds) r = ap (λ (x : List Event). q.events ++ x) (events_push rounds r) ∙ sym (append_assoc q.events (events_of rounds) r.events)

renewals_push : (looks : List Look) (look : Look) → renewals (looks ++ look ∷ []) ≡ renewals looks + look.renewed
renewals_push [] look = let e : look.renewed + 0 ≡ 0 + look.renewed = omega arith in e
renewals_push (l ∷ looks) look = let h = renewals_push looks look in omega (arith, h)

brief_push : (looks : List Look) (look : Look) → AreBrief looks → look.waited ≡ false → AreBrief (looks ++ look ∷ [])
brief_push [] look a is = (is, tt)
brief_push (l ∷ looks) look a is = (a.0, brief_push looks look a.1 is)

looks_push : (before : List Event) (rounds : List Round) (looks : List Look) (r : Round) (look : Look) → AreLooks before rounds looks → IsLook (before ++ events_of rounds) r look → AreLooks before (rounds ++ r ∷ []) (looks ++ look ∷ [])
looks_push before [] looks r look a is = subst (λ (x : List Look). AreLooks before (r ∷ []) (x ++ look ∷ [])) (sym a) (subst (λ (x : List Event). IsLook x r look) (append-nil before) is, refl)
looks_push before (q ∷ rounds) [] r look a is = absurd a
looks_push before (q ∷ rounds) (l ∷ looks) r look a is = (a.0, looks_push (before ++ q.events) rounds looks r look a.1 (subst (λ (x : List Event). IsLook x r look) (sym (append_assoc before q.events (events_of rounds))) is))

module _ {S W F : Type 0} (manner : Manner S W F) where
  rounds_push : (before : List Event) (rounds : List Round) (r : Round) → AreRounds manner before rounds → IsRound manner (before ++ events_of rounds) r → AreRounds manner before (rounds ++ r ∷ [])
  rounds_push before [] r a is = (subst (λ (x : List Event). IsRound manner x r) (append-nil before) is, tt)
  rounds_push before (q ∷ rounds) r a is = (a.0, rounds_push (before ++ q.events) rounds r a.1 (subst (λ (x : List Event). IsRound manner x r) (sym (append_assoc before q.events (events_of rounds))) is))

-- ---- One conversation

-- something was progress before, or messages were said
renewed_some : (p n old new came : ℕ) → (1 ≤ p → 1 ≤ old + came) → (1 ≤ n → 1 ≤ new) → (n ≡ 0 → old ≤ new) → 1 ≤ p + n → 1 ≤ new + came
renewed_some p zero old new came f g le one = let h = f (omega (arith, one)) in let k = le refl in omega (arith, h, k)
renewed_some p (suc n) old new came f g le one = let h = g (omega arith) in omega (arith, h)

-- something was progress before, or what was heard is
heard_some : (p renewed : ℕ) (came is : Bool) → (1 ≤ p → 1 ≤ renewed + one_if came) → 1 ≤ p + one_if is → 1 ≤ renewed + one_if (came || is)
heard_some p renewed true is f one = omega arith
heard_some zero renewed false true f one = omega arith
heard_some zero renewed false false f one = absurd (omega (arith, one))
heard_some (suc p) renewed false is f one = let h = f (omega arith) in omega (arith, h)

module _ {S W F : Type 0} (manner : Manner S W F) (tells : Type 0) where
  -- messages were said
  pub rounds_said : (a b : Connection) (events : List Event) (ms : List ClientMessage) (put : ℕ) (talk : Talk) (goes : GoesInRounds manner tells a events) → InRound manner tells a events goes put talk
      → put + length ms ≤ MOST_PUT → (tells → b.looks ≡ a.looks) → (tells → b.renewed ≤ a.renewed + length ms)
      → (g : GoesInRounds manner tells b (events ++ all_said ms)) × ((tells → 1 ≤ length ms → 1 ≤ b.renewed) → (tells → length ms ≡ 0 → a.renewed ≤ b.renewed) → InRound manner tells b (events ++ all_said ms) g (put + length ms) talk)
  rounds_said a b events ms put talk goes r few looks renewed =
      let count = ap length (said_said goes.last ms) in
      let put_is = r.put_is in
      let more = progress_said (reach_of no_reach (events_of goes.rounds)) goes.last ms in
      let reach = reach_said no_reach events ms in (
        record {
          rounds = goes.rounds;
          last = goes.last ++ all_said ms;
          are = ap (λ (x : List Event). x ++ all_said ms) goes.are ∙ append_assoc (events_of goes.rounds) goes.last (all_said ms);
          each = goes.each;
          few = omega (arith, few, count, put_is, length-append (said goes.last) ms);
          looks = goes.looks;
          late = goes.late;
          looked = λ t. looks t ∙ goes.looked t;
          timely = goes.timely;
          brief = goes.brief;
          unput = λ some. absurd (some r.on_time);
          renewed = λ t. let old = goes.renewed t in let new = renewed t in omega (arith, old, new, more);
        },
        λ some older. record {
          put_is = omega (arith, count, put_is, length-append (said goes.last) ms);
          known = r.known ∙ sym (ap (λ (x : Reach). x.known) reach);
          top = r.top ∙ sym (ap (λ (x : Reach). x.top) reach);
          on_time = r.on_time;
          spare = λ t. record {
            few = let old = (r.spare t).few in let new = renewed t in omega (arith, old, new, more);
            some = λ one. renewed_some (progress (reach_of no_reach (events_of goes.rounds)) goes.last) (length ms) a.renewed b.renewed (one_if talk.came) (r.spare t).some (some t) (older t) (omega (arith, one, more));
          };
        },
      )

  -- a message was heard in time
  pub rounds_heard : (a : Connection) (events : List Event) (m : ServerMessage) (put : ℕ) (talk : Talk) (goes : GoesInRounds manner tells a events) → InRound manner tells a events goes put talk
      → (g : GoesInRounds manner tells a (events ++ as_heard m)) × InRound manner tells a (events ++ as_heard m) g put (noted m talk)
  rounds_heard a events m put talk goes r =
      let same = said_heard goes.last m in
      let count = ap length same in
      let put_is = r.put_is in
      let begins = reach_of no_reach (events_of goes.rounds) in
      let more = progress_heard begins goes.last m in
      let reach = reach_heard no_reach events m in
      let now : record { known = talk.known; top = talk.top } ≡ reach_of no_reach events = ap (λ (k : Bool). let x : Reach = record { known = k; top = talk.top } in x) r.known ∙ ap (λ (n : ℕ). let x : Reach = record { known = (reach_of no_reach events).known; top = n } in x) r.top in
      let after : reach_of no_reach events ≡ reach_of begins goes.last = ap (λ (x : List Event). reach_of no_reach x) goes.are ∙ reach_append no_reach (events_of goes.rounds) goes.last in
      let new = one_or talk.came (is_progress (record { known = talk.known; top = talk.top }) m) in
      let is = ap (λ (x : Reach). one_if (is_progress x m)) (now ∙ after) in (
        record {
          rounds = goes.rounds;
          last = goes.last ++ as_heard m;
          are = ap (λ (x : List Event). x ++ as_heard m) goes.are ∙ append_assoc (events_of goes.rounds) goes.last (as_heard m);
          each = goes.each;
          few = let f = goes.few in omega (arith, count, f);
          looks = goes.looks;
          late = goes.late;
          looked = goes.looked;
          timely = goes.timely;
          brief = goes.brief;
          unput = λ some. absurd (some r.on_time);
          renewed = λ t. let old = goes.renewed t in omega (arith, old, more);
        },
        record {
          put_is = omega (arith, count, put_is);
          known = ap (λ (x : Reach). (reach_after m x).known) now ∙ sym (ap (λ (x : Reach). x.known) reach);
          top = ap (λ (x : Reach). (reach_after m x).top) now ∙ sym (ap (λ (x : Reach). x.top) reach);
          on_time = r.on_time;
          spare = λ t. record {
            few = let old = (r.spare t).few in omega (arith, old, more, new, is);
            some = λ one. heard_some (progress begins goes.last) a.renewed talk.came (is_progress (record { known = talk.known; top = talk.top }) m) (r.spare t).some (omega (arith, one, more, is));
          };
        },
      )

  -- a message was late
  pub rounds_late : (a : Connection) (events : List Event) (m : ServerMessage) → GoesInRounds manner tells a events → GoesInRounds manner tells a (events ++ as_late m)
  rounds_late a events m goes =
      let count = ap length (said_late goes.last m) in
      let more = progress_late (reach_of no_reach (events_of goes.rounds)) goes.last m in
      record {
        rounds = goes.rounds;
        last = goes.last ++ as_late m;
        are = ap (λ (x : List Event). x ++ as_late m) goes.are ∙ append_assoc (events_of goes.rounds) goes.last (as_late m);
        each = goes.each;
        few = let f = goes.few in omega (arith, count, f);
        looks = goes.looks;
        late = goes.late;
        looked = goes.looked;
        timely = goes.timely;
        brief = goes.brief;
        unput = λ some. subst (λ (x : List ClientMessage). IsUnput tells a.output x) (sym (said_late events m)) (goes.unput some);
        renewed = λ t. let old = goes.renewed t in omega (arith, old, more);
      }

  -- the connection was renewed, for progress that came
  pub rounds_renewed : (a b : Connection) (events : List Event) (put : ℕ) (talk talk' : Talk) (goes : GoesInRounds manner tells a events) → InRound manner tells a events goes put talk
      → talk.came ≡ true → talk' ≡ record talk { came = false } → (tells → b.looks ≡ a.looks) → (tells → b.renewed ≤ a.renewed + 1) → (tells → 1 ≤ b.renewed)
      → (g : GoesInRounds manner tells b events) × InRound manner tells b events g put talk'
  rounds_renewed a b events put talk talk' goes r came is looks renewed some =
      let one = ap one_if came in
      let none = ap (λ (x : Talk). one_if x.came) is in
      let empty = ap renewals r.on_time in (
        record {
          rounds = goes.rounds;
          last = goes.last;
          are = goes.are;
          each = goes.each;
          few = goes.few;
          looks = goes.looks;
          late = goes.late;
          looked = λ t. looks t ∙ goes.looked t;
          timely = goes.timely;
          brief = goes.brief;
          unput = λ late. absurd (late r.on_time);
          renewed = λ t. let old = (r.spare t).few in let new = renewed t in omega (arith, old, new, one, empty);
        },
        record {
          put_is = r.put_is;
          known = ap (λ (x : Talk). x.known) is ∙ r.known;
          top = ap (λ (x : Talk). x.top) is ∙ r.top;
          on_time = r.on_time;
          spare = λ t. record {
            few = let old = (r.spare t).few in let new = renewed t in omega (arith, old, new, one, none);
            some = λ p. let new = some t in omega (arith, new);
          };
        },
      )

  paused_round : (quiet : Bool) (put : ℕ) (round : List Event) (s : S) → Paused manner quiet put s → put ≡ length (said round) → IsPaused manner (record { events = round; waits = quiet }) s
  paused_round quiet put round s p is = record { wanting = p.wanting; still = p.still; full = λ e. let most = (p.full e).0 in omega (arith, most, is) }

  -- a read closed the round
  pub rounds_looked : (a b : Connection) (events : List Event) (n put : ℕ) (quiet : Bool) (talk talk' : Talk) (s : S) (w : W) (goes : GoesInRounds manner tells a events) → InRound manner tells a events goes put talk
      → manner.talks s w events → Paused manner quiet put s → PutsWhole tells a.output (said events) → (tells → AddsLook quiet n a b) → talk.came ≡ false → talk'.known ≡ talk.known → talk'.top ≡ talk.top → talk'.came ≡ false
      → (g : GoesInRounds manner tells b events) × InRound manner tells b events g 0 talk'
  rounds_looked a b events n put quiet talk talk' s w goes r talks paused whole adds old known top came =
      let all : events ≡ events_of goes.rounds ++ goes.last = goes.are in
      let round : Round = record { events = goes.last; waits = quiet } in
      let none = ap one_if came in
      let before = ap one_if old in
      let only : (tells → a.looks ≡ goes.looks) = λ t. goes.looked t ∙ (ap (λ (x : List Look). goes.looks ++ x) r.on_time ∙ append-nil goes.looks) in (
        record {
          rounds = goes.rounds ++ round ∷ [];
          last = [];
          are = all ∙ (sym (events_push goes.rounds round) ∙ sym (append-nil (events_of (goes.rounds ++ round ∷ []))));
          each = rounds_push manner [] goes.rounds round goes.each (record { few = goes.few; paused = record { speaker = s; world = w; talks = subst (λ (x : List Event). manner.talks s w x) all talks; is = paused_round quiet put goes.last s paused r.put_is } });
          few = omega arith;
          looks = goes.looks ++ look_of quiet n a ∷ [];
          late = [];
          looked = λ t. (adds t).looks ∙ (ap (λ (x : List Look). x ++ look_of quiet n a ∷ []) (only t) ∙ sym (append-nil (goes.looks ++ look_of quiet n a ∷ [])));
          timely = λ t. looks_push [] goes.rounds goes.looks round (look_of quiet n a) (goes.timely t) (record {
            put = ap length (whole.bytes t) ∙ ap (λ (x : List Event). length (frames_of (said x))) all;
            waited = refl;
            renewed = record {
              few = let f = (r.spare t).few in omega (arith, f, before);
              some = λ one. let g = (r.spare t).some one in omega (arith, g, before);
            };
          });
          brief = λ t. tt;
          unput = λ some. absurd (some refl);
          renewed = λ t. let e = (adds t).renewed in omega (arith, e);
        },
        record {
          put_is = refl;
          known = known ∙ r.known;
          top = top ∙ r.top;
          on_time = refl;
          spare = λ t. record { few = let e = (adds t).renewed in omega (arith, e, none); some = λ one. absurd (omega (arith, one)) };
        },
      )

  -- a read failed: it is no look
  pub rounds_kept : (a b : Connection) (events : List Event) → GoesInRounds manner tells a events → (tells → b.output ≡ a.output) → (tells → KeepsLooks a b) → GoesInRounds manner tells b events
  rounds_kept a b events goes output keeps = record {
    rounds = goes.rounds;
    last = goes.last;
    are = goes.are;
    each = goes.each;
    few = goes.few;
    looks = goes.looks;
    late = goes.late;
    looked = λ t. (keeps t).looks ∙ goes.looked t;
    timely = goes.timely;
    brief = goes.brief;
    unput = λ some t. let less = goes.unput some t in let same = ap length (output t) in omega (arith, less, same);
    renewed = λ t. let old = goes.renewed t in let same = (keeps t).renewed in omega (arith, old, same);
  }

  -- a read after a write that stopped
  pub rounds_late_look : (a b : Connection) (events : List Event) (n : ℕ) → GoesInRounds manner tells a events → IsUnput tells b.output (said events) → (tells → AddsLook false n a b) → GoesInRounds manner tells b events
  rounds_late_look a b events n goes unput adds = record {
    rounds = goes.rounds;
    last = goes.last;
    are = goes.are;
    each = goes.each;
    few = goes.few;
    looks = goes.looks;
    late = goes.late ++ look_of false n a ∷ [];
    looked = λ t. (adds t).looks ∙ (ap (λ (x : List Look). x ++ look_of false n a ∷ []) (goes.looked t) ∙ append_assoc goes.looks goes.late (look_of false n a ∷ []));
    timely = goes.timely;
    brief = λ t. brief_push goes.late (look_of false n a) (goes.brief t) refl;
    unput = λ some. unput;
    renewed = λ t. let old = goes.renewed t in let none = (adds t).renewed in let sum = renewals_push goes.late (look_of false n a) in omega (arith, old, none, sum);
  }

  -- nothing was read or written
  unfoldable pub rounds_begin : (a : Connection) → (tells → a.looks ≡ []) → (tells → a.renewed ≡ 0) → GoesInRounds manner tells a []
  rounds_begin a looks renewed = record {
    rounds = [];
    last = [];
    are = refl;
    each = tt;
    few = omega arith;
    looks = [];
    late = [];
    looked = looks;
    timely = λ t. refl;
    brief = λ t. tt;
    unput = λ some. absurd (some refl);
    renewed = λ t. let none = renewed t in omega (arith, none);
  }
