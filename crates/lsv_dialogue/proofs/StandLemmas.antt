-- How a conversation stands after each piece.
use Rattle.std.proofs.Common.{◌≡◌, ◌≢◌, ◌≤◌, ◌<◌, ◌+◌, ◌++◌, ◌∷◌, List, [], ℕ, length, refl, sym, ◌∙◌, ap, subst, append-nil, length-append, arith, Bool, true, false, Option, Some, None, unwrap_or, ◌⊎◌, inl, inr}
use Rattle.lsv_defs.specs.Pieces.{IsPrefix}
use Rattle.lsv_wire.specs.Frame.{IsPartial}
use Rattle.lsv_msg.specs.declared.messages.ClientMessage.{ClientMessage}
use Rattle.lsv_msg.specs.declared.messages.ServerMessage.{ServerMessage}
use Rattle.lsv_link.specs.declared.connection.Connection.{Connection}
use Rattle.lsv_link.specs.declared.connection.Look.{Look}
use Rattle.lsv_link.specs.Link.{Continues, LinkCounts, LinkState, open_of, unused}
use Rattle.lsv_dialogue.specs.Events.{Event, AreGood, AreInTime, all_said, as_heard, as_late, heard, said, text_of}
use Rattle.lsv_dialogue.specs.Hears.{AreInOrder, Hears, came_in_all}
use Rattle.lsv_dialogue.specs.Progress.{one_if}
use Rattle.lsv_dialogue.specs.Manner.{Manner}
use Rattle.lsv_dialogue.specs.Puts.{ArePutFirst, PutsWhole}
use Rattle.lsv_dialogue.specs.Rounds.{GoesInRounds, IsUnput}
use Rattle.lsv_dialogue.specs.Taken.{Comes, Takes}
use Rattle.lsv_dialogue.specs.Ends.{IsFresh, StaysOpen}
use Rattle.lsv_dialogue.specs.Stands.{BeginsWith, HasLooked, HasRead, Holds, IsNew, Paused, PutsBy, Renews, Sends, Speaks, Stands, Stopped, Unheard, View, noted}
use Rattle.lsv_dialogue.specs.declared.ends.TheConstants.{MOST_HEARD, MOST_PUT}
use Rattle.lsv_dialogue.specs.declared.ends.Judged.TheVariants as judged
use Rattle.lsv_dialogue.specs.declared.ends.Wants.TheVariants as wants
use Rattle.lsv_dialogue.specs.declared.talk.TheConstants.{BUFFER}
use Rattle.lsv_dialogue.specs.declared.talk.Halt.{Halt}
use Rattle.lsv_dialogue.specs.declared.talk.Halt.TheVariants as halts
use Rattle.lsv_dialogue.specs.declared.talk.Spoken.TheVariants as spoken
use Rattle.lsv_dialogue.specs.declared.talk.Talk.{Talk}
use Rattle.lsv_dialogue.proofs.EventLemmas.{all_append, at_each_heard, at_each_late, at_each_map, at_each_said, heard_heard, heard_late, heard_said, in_time_heard, in_time_said, late_more, late_none, said_heard, said_late, said_said, since_said}
use Rattle.lsv_dialogue.proofs.HearLemmas.{hears_heard, hears_late, hears_looked, hears_next, hears_said, hears_same, unheard_heard, unheard_looked, unheard_next, unheard_partial, unheard_same}
use Rattle.lsv_dialogue.proofs.LinkLemmas.{continues_same, continues_then, halted_before, halted_later, stays_same, stays_then}
use Rattle.lsv_dialogue.proofs.PutLemmas.{first_later, first_whole, joined, joined_less, less_same, puts_same}
use Rattle.lsv_dialogue.proofs.RoundLemmas.{rounds_begin, rounds_heard, rounds_kept, rounds_late, rounds_late_look, rounds_looked, rounds_renewed, rounds_said}

-- what was written first stays so when more is written
pub firsts_later : (tells : Type 0) (output output' : List ℕ) (events : List Event) → (tells → IsPrefix output output') → ArePutFirst tells output events → ArePutFirst tells output' events
firsts_later tells output output' events more a = at_each_map _ _ _ _ (λ before m p. first_later tells output output' (said before) more p) (λ before m p. tt) [] events a

no_more : (output output' : List ℕ) → output' ≡ output → IsPrefix output output'
no_more output output' e = ([], e ∙ sym (append-nil output))

same_kept : (talk talk' : Talk) → talk' ≡ record talk { framer = talk'.framer; buffer = talk'.buffer } → (talk'.heard ≡ talk.heard) × (talk'.known ≡ talk.known) × (talk'.top ≡ talk.top) × (talk'.came ≡ talk.came)
same_kept talk talk' is = (ap (λ (x : Talk). x.heard) is, ap (λ (x : Talk). x.known) is, ap (λ (x : Talk). x.top) is, ap (λ (x : Talk). x.came) is)

-- ---- In all states

module _ {S W F : Type 0} (manner : Manner S W F) (tells : Type 0) (begun : View) where
  -- the message is one that the speaker takes
  pub takes_one : (m : ServerMessage) (s : S) (w : W) (events : List Event) → manner.talks s w events → manner.wants s ≢ wants.Nothing → manner.judges s m ≡ judged.Takes → Comes manner events (Takes manner m)
  takes_one m s w events talks wanting takes = record { speaker = s; world = w; talks = talks; is = record { wanting = wanting; takes = takes } }

  pub at_most : (pending : List ServerMessage) (talk : Talk) (s : S) (w : W) (now : View) → (h : Holds manner tells begun pending talk s w now) → length (heard h.events) ≤ MOST_HEARD
  at_most pending talk s w now h = let f = h.few in omega (arith, f, length-append (heard h.events) pending)

  -- messages were said
  holds_said : (ms : List ClientMessage) (talk : Talk) (s s' : S) (w w' : W) (a b : View) → (h : Holds manner tells begun [] talk s w a) → manner.talks s' w' (h.events ++ all_said ms)
      → (tells → IsPrefix (open_of a.1).output (open_of b.1).output) → (tells → StaysOpen a.1 b.1) → (tells → (open_of b.1).input ≡ (open_of a.1).input) → (tells → (open_of b.1).looks ≡ (open_of a.1).looks) → Continues a.0 b.0
      → GoesInRounds manner tells (open_of b.1) (h.events ++ all_said ms) → AreInTime h.events → Holds manner tells begun [] talk s' w' b
  holds_said ms talk s s' w w' a b h talks written stays input looks continues rounds timely = record {
    events = h.events ++ all_said ms;
    talks = talks;
    taken = at_each_said _ _ h.events ms h.taken;
    first = at_each_said _ _ h.events ms (firsts_later tells (open_of a.1).output (open_of b.1).output h.events written h.first);
    good = subst AreGood (sym (heard_said h.events ms)) h.good;
    count = let c = h.count in let k = ap length (heard_said h.events ms) in omega (arith, c, k);
    few = subst (λ (x : List ServerMessage). length (x ++ []) ≤ MOST_HEARD) (sym (heard_said h.events ms)) h.few;
    hears = λ t. hears_said (open_of b.1) h.events ms [] talk.framer (hears_same (open_of a.1) (open_of b.1) h.events [] talk.framer (h.hears t) (input t) (looks t) (written t));
    rounds = rounds;
    late_last = late_none (h.events ++ all_said ms) (in_time_said h.events ms timely);
    stays = λ t. stays_then begun.1 a.1 b.1 (h.stays t) (stays t);
    made = λ t. (stays t).connected ∙ h.made t;
    room = h.room;
    continues = continues_then begun.0 a.0 b.0 h.continues continues;
  }

  -- the next message is pending
  holds_next : (m : ServerMessage) (talk talk' : Talk) (s : S) (w : W) (a : View) → Holds manner tells begun [] talk s w a → BeginsWith m talk.framer talk'.framer → talk' ≡ record talk { framer = talk'.framer } → talk.heard < MOST_HEARD → Holds manner tells begun (m ∷ []) talk' s w a
  holds_next m talk talk' s w a h next is more = record {
    events = h.events;
    talks = h.talks;
    taken = h.taken;
    first = h.first;
    good = h.good;
    count = ap (λ (x : Talk). x.heard) is ∙ h.count;
    few = let c = h.count in omega (arith, c, more, length-append (heard h.events) (m ∷ []));
    hears = λ t. hears_next (open_of a.1) h.events m talk.framer talk'.framer (h.hears t) next;
    rounds = h.rounds;
    late_last = h.late_last;
    stays = h.stays;
    made = h.made;
    room = ap (λ (x : Talk). length x.buffer.items) is ∙ h.room;
    continues = h.continues;
  }

  -- a read gave something or nothing
  holds_read : (kept failed : Type 0) (wait : Bool) (talk talk' : Talk) (s : S) (w : W) (a b : View) → (h : Holds manner tells begun [] talk s w a) → kept → (read : HasRead tells kept failed wait talk.framer talk'.framer a.1 b.1) → ((failed → ⊥) ⊎ failed) → talk' ≡ record talk { framer = talk'.framer; buffer = talk'.buffer }
      → length talk'.buffer.items ≡ BUFFER → Continues a.0 b.0 → GoesInRounds manner tells (open_of b.1) h.events → Holds manner tells begun [] talk' s w b
  holds_read kept failed wait talk talk' s w a b h k read which is room continues rounds = record {
    events = h.events;
    talks = h.talks;
    taken = h.taken;
    first = firsts_later tells (open_of a.1).output (open_of b.1).output h.events (λ t. no_more (open_of a.1).output (open_of b.1).output (read.output t)) h.first;
    good = h.good;
    count = (same_kept talk talk' is).0 ∙ h.count;
    few = h.few;
    hears = λ t. elim which [
      | inl not ↦ hears_looked tells t (open_of a.1) (open_of b.1) h.events talk.framer talk'.framer read.more wait (h.hears t) h.first (read.looked t not) (read.input t) (read.output t) (read.framer k)
      | inr failed ↦ subst (λ (r : List ℕ). Hears (open_of b.1) h.events [] r) (sym (read.framer k ∙ (ap (λ (x : List ℕ). talk.framer ++ x) (read.none t failed).0 ∙ append-nil talk.framer)))
          (hears_same (open_of a.1) (open_of b.1) h.events [] talk.framer (h.hears t) (read.input t ∙ (ap (λ (x : List ℕ). (open_of a.1).input ++ x) (read.none t failed).0 ∙ append-nil (open_of a.1).input)) (read.none t failed).1.looks (no_more (open_of a.1).output (open_of b.1).output (read.output t)))
    ];
    rounds = rounds;
    late_last = h.late_last;
    stays = λ t. stays_then begun.1 a.1 b.1 (h.stays t) (read.stays t);
    made = λ t. (read.stays t).connected ∙ h.made t;
    room = room;
    continues = continues_then begun.0 a.0 b.0 h.continues continues;
  }

  -- ---- While writing hasn't stopped

  -- nothing was said or heard
  unfoldable pub begins : (talk : Talk) (s : S) (w : W) → manner.talks s w [] → (tells → IsFresh begun.1) → IsNew talk → Stands manner tells begun [] 0 talk s w begun
  unfolding rounds_begin
  begins talk s w talks fresh new =
      let rounds = rounds_begin manner tells (open_of begun.1) (λ t. ap (λ (o : Option Connection). (unwrap_or o (unused [] false)).looks) (fresh t).is_open) (λ t. ap (λ (o : Option Connection). (unwrap_or o (unused [] false)).renewed) (fresh t).is_open) in
      let unread : (tells → (open_of begun.1).input ≡ []) = λ t. ap (λ (o : Option Connection). (unwrap_or o (unused [] false)).input) (fresh t).is_open in
      record {
        holds = record {
          events = [];
          talks = talks;
          taken = tt;
          first = tt;
          good = tt;
          count = new.heard;
          few = omega arith;
          hears = λ t. record {
            sum = let looks = ap (λ (o : Option Connection). came_in_all (unwrap_or o (unused [] false)).looks) (fresh t).is_open in let none = ap length (unread t) in omega (arith, looks, none);
            order = subst (λ (x : List Look). AreInOrder 0 (length (open_of begun.1).output) x) (sym (ap (λ (o : Option Connection). (unwrap_or o (unused [] false)).looks) (fresh t).is_open)) (omega arith);
            has = record { frames = []; whole = unread t ∙ sym new.framer; each = tt; are = refl };
            after = tt;
          };
          rounds = rounds;
          late_last = tt;
          stays = λ t. let f = fresh t in stays_same begun.1 (record { conn = unused f.host true; is_open = f.is_open });
          made = λ t. ap (λ (o : Option Connection). (unwrap_or o (unused [] false)).connected) (fresh t).is_open;
          room = new.room;
          continues = continues_same begun.0;
        };
        timely = tt;
        puts = record { sendable = tt; bytes = λ t. ap (λ (o : Option Connection). (unwrap_or o (unused [] false)).output) (fresh t).is_open };
        faults = refl;
        full = refl;
        waits = refl;
        unheard = λ t. unheard_partial (open_of begun.1) talk.framer (inl (let e = ap length new.framer in omega (arith, e)));
        since = omega arith;
        round = record { put_is = refl; known = new.known; top = new.top; on_time = refl; spare = λ t. record { few = let came = ap one_if new.came in let renewed = ap (λ (o : Option Connection). (unwrap_or o (unused [] false)).renewed) (fresh t).is_open in omega (arith, came, renewed); some = λ one. absurd (omega (arith, one)) } };
      }

  -- messages were said, and all of them put
  pub after_said : (ms : List ClientMessage) (put n : ℕ) (talk : Talk) (s s' : S) (w w' : W) (a b : View) → (st : Stands manner tells begun [] put talk s w a) → manner.talks s' w' (st.holds.events ++ all_said ms) → put + length ms ≤ MOST_PUT
      → Sends put (spoken.Said n) tells ms a b → IsPartial talk.framer → Stands manner tells begun [] n talk s' w' b
  unfolding holds_said
  after_said ms put n talk s s' w w' a b st talks few sends partial =
      let h = st.holds in
      let both = rounds_said manner tells (open_of a.1) (open_of b.1) h.events ms put talk h.rounds st.round few sends.looks sends.renewed in
      subst (λ (k : ℕ). Stands manner tells begun [] k talk s' w' b) (sym (sends.count n refl)) (record {
        holds = holds_said ms talk s s' w w' a b h talks (λ t. (sends.bytes, sends.output t)) sends.stays sends.input sends.looks sends.counts.continues both.0 st.timely;
        timely = in_time_said h.events ms st.timely;
        puts = subst (λ (x : List ClientMessage). PutsWhole tells (open_of b.1).output x) (sym (said_said h.events ms)) (joined None tells (open_of a.1).output sends.bytes (open_of b.1).output (said h.events) ms st.puts sends.output sends.puts);
        faults = sends.counts.faults (λ e. cc) ∙ st.faults;
        full = sends.counts.full (λ e. cc) ∙ st.full;
        waits = sends.counts.waits ∙ st.waits;
        unheard = λ t. unheard_partial (open_of b.1) talk.framer partial;
        since = since_said h.events ms put st.since;
        round = both.1 (sends.some n refl) (sends.older n refl);
      })

  -- messages were said, and not all of them put
  pub after_halt : (ms : List ClientMessage) (put : ℕ) (halt : Halt) (talk : Talk) (s s' : S) (w w' : W) (a b : View) → (st : Stands manner tells begun [] put talk s w a) → manner.talks s' w' (st.holds.events ++ all_said ms) → put + length ms ≤ MOST_PUT
      → Sends put (spoken.Halted halt) tells ms a b → manner.wants s' ≡ wants.More → manner.opened s' → Stopped manner tells begun [] halt talk s' w' b
  unfolding holds_said
  after_halt ms put halt talk s s' w w' a b st talks few sends wanting opened =
      let h = st.holds in
      let both = rounds_said manner tells (open_of a.1) (open_of b.1) h.events ms put talk h.rounds st.round few sends.looks sends.renewed in record {
        holds = holds_said ms talk s s' w w' a b h talks (λ t. (sends.bytes, sends.output t)) sends.stays sends.input sends.looks sends.counts.continues both.0 st.timely;
        puts = subst (λ (x : List ClientMessage). PutsBy (Some halt) tells (open_of b.1).output x) (sym (said_said h.events ms)) (joined (Some halt) tells (open_of a.1).output sends.bytes (open_of b.1).output (said h.events) ms st.puts sends.output sends.puts);
        less = subst (λ (x : List ClientMessage). IsUnput tells (open_of b.1).output x) (sym (said_said h.events ms)) (joined_less tells (open_of a.1).output sends.bytes (open_of b.1).output (said h.events) ms st.puts sends.output (sends.less halt refl));
        why = halted_later begun.0 a.0 b.0 halt h.continues (sends.why halt refl);
        full = λ other. sends.counts.full (λ e. other (let k : halt ≡ halts.NotYet = cc in k)) ∙ st.full;
        waits = sends.counts.waits ∙ st.waits;
        wanting = wanting;
        opened = opened;
      }

  -- the next message is pending
  pub after_next : (put : ℕ) (m : ServerMessage) (talk talk' : Talk) (s : S) (w : W) (a : View) → Stands manner tells begun [] put talk s w a → BeginsWith m talk.framer talk'.framer → talk' ≡ record talk { framer = talk'.framer } → talk.heard < MOST_HEARD → Stands manner tells begun (m ∷ []) put talk' s w a
  unfolding holds_next
  after_next put m talk talk' s w a st next is more = record {
    holds = holds_next m talk talk' s w a st.holds next is more;
    timely = st.timely;
    puts = st.puts;
    faults = st.faults;
    full = st.full;
    waits = st.waits;
    unheard = λ t. unheard_next (open_of a.1) m talk.framer talk'.framer (st.unheard t) next;
    since = st.since;
    round = record {
      put_is = st.round.put_is;
      known = ap (λ (x : Talk). x.known) is ∙ st.round.known;
      top = ap (λ (x : Talk). x.top) is ∙ st.round.top;
      on_time = st.round.on_time;
      spare = λ t. let same = ap (λ (x : Talk). one_if x.came) is in record { few = let old = (st.round.spare t).few in omega (arith, old, same); some = λ one. let old = (st.round.spare t).some one in omega (arith, old, same) };
    };
  }

  -- it was heard
  pub after_heard : (m : ServerMessage) (talk talk' : Talk) (s s' : S) (w w' : W) (now : View) → (st : Stands manner tells begun (m ∷ []) 0 talk s w now) → manner.wants s ≢ wants.Nothing → manner.judges s m ≡ judged.Takes → manner.talks s' w' (st.holds.events ++ as_heard m) → text_of m ≡ None → talk' ≡ noted m talk
      → Stands manner tells begun [] 0 talk' s' w' now
  after_heard m talk talk' s s' w w' now st wanting takes talks good is =
      subst (λ (x : Talk). Stands manner tells begun [] 0 x s' w' now) (sym is) (
      let h = st.holds in
      let e = heard_heard h.events m in
      let both = rounds_heard manner tells (open_of now.1) h.events m 0 talk h.rounds st.round in record {
        holds = record {
          events = h.events ++ as_heard m;
          talks = talks;
          taken = at_each_heard _ _ h.events m h.taken (takes_one m s w h.events h.talks wanting takes);
          first = at_each_heard _ _ h.events m h.first (first_whole tells (open_of now.1).output (said h.events) st.puts);
          good = subst AreGood (sym e) (all_append (λ x. text_of x ≡ None) (heard h.events) (m ∷ []) h.good (good, tt));
          count = let c = h.count in let k = ap length e in omega (arith, c, k, length-append (heard h.events) (m ∷ []));
          few = subst (λ (x : List ServerMessage). length x ≤ MOST_HEARD) (sym (append-nil (heard (h.events ++ as_heard m)) ∙ e)) h.few;
          hears = λ t. hears_heard (open_of now.1) h.events m talk.framer (h.hears t) (sym (ap length (st.puts.bytes t))) (st.unheard t);
          rounds = both.0;
          late_last = late_none (h.events ++ as_heard m) (in_time_heard h.events m st.timely);
          stays = h.stays;
          made = h.made;
          room = h.room;
          continues = h.continues;
        };
        timely = in_time_heard h.events m st.timely;
        puts = subst (λ (x : List ClientMessage). PutsWhole tells (open_of now.1).output x) (sym (said_heard h.events m)) st.puts;
        faults = st.faults;
        full = st.full;
        waits = st.waits;
        unheard = λ t. unheard_heard (open_of now.1) m talk.framer (st.unheard t);
        since = omega arith;
        round = both.1;
      })

  -- it was looked what came: a round ends
  pub after_look : (kept failed here : Type 0) (put : ℕ) (quiet : Bool) (talk talk' : Talk) (s : S) (w : W) (a b : View) → (st : Stands manner tells begun [] put talk s w a) → Paused manner quiet put s → IsPartial talk.framer → talk.came ≡ false → kept → (read : HasRead tells kept failed quiet talk.framer talk'.framer a.1 b.1)
      → (failed → ⊥) → talk' ≡ record talk { framer = talk'.framer; buffer = talk'.buffer } → length talk'.buffer.items ≡ BUFFER → HasLooked failed here a.0 b.0 → here → Stands manner tells begun [] 0 talk' s w b
  unfolding holds_read
  after_look kept failed here put quiet talk talk' s w a b st paused partial came k read not is room counts so =
      let h = st.holds in
      let same = same_kept talk talk' is in
      let both = rounds_looked manner tells (open_of a.1) (open_of b.1) h.events (length read.more) put quiet talk talk' s w h.rounds st.round h.talks paused st.puts (λ t. read.looked t not) came same.1 same.2 (same.3 ∙ came) in record {
        holds = holds_read kept failed quiet talk talk' s w a b h k read (inl not) is room counts.continues both.0;
        timely = st.timely;
        puts = puts_same None tells (open_of a.1).output (open_of b.1).output (said h.events) read.output st.puts;
        faults = counts.faults not ∙ st.faults;
        full = counts.full ∙ st.full;
        waits = counts.waits so ∙ st.waits;
        unheard = λ t. unheard_looked (open_of a.1) (open_of b.1) talk.framer talk'.framer read.more quiet partial (h.hears t).sum (read.looked t not) (read.input t) (read.output t) (read.framer k);
        since = omega arith;
        round = both.1;
      }

  -- the connection was renewed
  pub after_renewal : (put : ℕ) (talk talk' : Talk) (s : S) (w : W) (a b : View) → (st : Stands manner tells begun [] put talk s w a) → talk.came ≡ true → talk' ≡ record talk { came = false } → (tells → Renews a.1 b.1) → b.0 ≡ a.0 → Stands manner tells begun [] put talk' s w b
  after_renewal put talk talk' s w a b st came is renews counts =
      let h = st.holds in
      let both = rounds_renewed manner tells (open_of a.1) (open_of b.1) h.events put talk talk' h.rounds st.round came is (λ t. (renews t).looks) (λ t. (renews t).renewed) (λ t. (renews t).some) in record {
        holds = record {
          events = h.events;
          talks = h.talks;
          taken = h.taken;
          first = firsts_later tells (open_of a.1).output (open_of b.1).output h.events (λ t. no_more (open_of a.1).output (open_of b.1).output (renews t).output) h.first;
          good = h.good;
          count = ap (λ (x : Talk). x.heard) is ∙ h.count;
          few = h.few;
          hears = λ t. subst (λ (r : List ℕ). Hears (open_of b.1) h.events [] r) (sym (ap (λ (x : Talk). x.framer) is)) (hears_same (open_of a.1) (open_of b.1) h.events [] talk.framer (h.hears t) (renews t).input (renews t).looks (no_more (open_of a.1).output (open_of b.1).output (renews t).output));
          rounds = both.0;
          late_last = h.late_last;
          stays = λ t. stays_then begun.1 a.1 b.1 (h.stays t) (renews t).stays;
          made = λ t. (renews t).stays.connected ∙ h.made t;
          room = ap (λ (x : Talk). length x.buffer.items) is ∙ h.room;
          continues = subst (λ (x : LinkCounts). Continues begun.0 x) (sym counts) h.continues;
        };
        timely = st.timely;
        puts = puts_same None tells (open_of a.1).output (open_of b.1).output (said h.events) (λ t. (renews t).output) st.puts;
        faults = ap (λ (x : LinkCounts). x.faults) counts ∙ st.faults;
        full = ap (λ (x : LinkCounts). x.full) counts ∙ st.full;
        waits = ap (λ (x : LinkCounts). x.waits) counts ∙ st.waits;
        unheard = λ t. subst (λ (r : List ℕ). Unheard (open_of b.1) [] r) (sym (ap (λ (x : Talk). x.framer) is)) (unheard_same (open_of a.1) (open_of b.1) [] talk.framer (st.unheard t) (renews t).looks (renews t).input (renews t).output);
        since = st.since;
        round = both.1;
      }

  -- the connection was renewed, if that was due
  pub after_refresh : (put : ℕ) (fresh : Bool) (talk talk' : Talk) (s : S) (w : W) (a b : View) → Stands manner tells begun [] put talk s w a → fresh ≡ talk.came → talk' ≡ record talk { came = false } → (fresh ≡ true → tells → Renews a.1 b.1) → (fresh ≡ false → b.1 ≡ a.1) → b.0 ≡ a.0 → Stands manner tells begun [] put talk' s w b
  after_refresh put true talk talk' s w a b st came is renews same counts = after_renewal put talk talk' s w a b st (sym came) is (renews refl) counts
  after_refresh put false talk talk' s w a b st came is renews same counts =
      subst (λ (x : Talk). Stands manner tells begun [] put x s w b) (sym (is ∙ ap (λ (c : Bool). let t : Talk = record talk { came = c } in t) came))
      (subst (λ (x : LinkCounts). Stands manner tells begun [] put talk s w (x, b.1)) (sym counts) (subst (λ (x : LinkState). Stands manner tells begun [] put talk s w (a.0, x)) (sym (same refl)) st))

  -- ---- After writing has stopped

  -- the talk is the same
  pub same_stopped : (halt : Halt) (talk talk' : Talk) (s : S) (w : W) (a : View) → talk' ≡ talk → Stopped manner tells begun [] halt talk s w a → Stopped manner tells begun [] halt talk' s w a
  same_stopped halt talk talk' s w a e st = subst (λ (t : Talk). Stopped manner tells begun [] halt t s w a) (sym e) st

  pub same_speaks : (put : ℕ) (talk talk' : Talk) (s : S) (w : W) (a : View) → talk' ≡ talk → Speaks manner tells begun [] put talk s w a → Speaks manner tells begun [] put talk' s w a
  same_speaks put talk talk' s w a e sp = subst (λ (t : Talk). Speaks manner tells begun [] put t s w a) (sym e) sp

  pub stopped_next : (halt : Halt) (m : ServerMessage) (talk talk' : Talk) (s : S) (w : W) (a : View) → Stopped manner tells begun [] halt talk s w a → BeginsWith m talk.framer talk'.framer → talk' ≡ record talk { framer = talk'.framer } → talk.heard < MOST_HEARD → Stopped manner tells begun (m ∷ []) halt talk' s w a
  unfolding holds_next
  stopped_next halt m talk talk' s w a st next is more = record {
    holds = holds_next m talk talk' s w a st.holds next is more;
    puts = st.puts;
    less = st.less;
    why = st.why;
    full = st.full;
    waits = st.waits;
    wanting = st.wanting;
    opened = st.opened;
  }

  -- a message was late
  pub stopped_late : (halt : Halt) (m : ServerMessage) (talk talk' : Talk) (s s' : S) (w w' : W) (now : View) → (st : Stopped manner tells begun (m ∷ []) halt talk s w now) → manner.judges s m ≡ judged.Takes → manner.talks s' w' (st.holds.events ++ as_late m) → text_of m ≡ None → manner.wants s' ≡ wants.More → manner.opened s'
      → talk' ≡ record talk { heard = talk.heard + 1 } → Stopped manner tells begun [] halt talk' s' w' now
  stopped_late halt m talk talk' s s' w w' now st takes talks good wanting opened is =
      subst (λ (x : Talk). Stopped manner tells begun [] halt x s' w' now) (sym is) (
      let h = st.holds in
      let e = heard_late h.events m in
      let k = said_late h.events m in record {
        holds = record {
          events = h.events ++ as_late m;
          talks = talks;
          taken = at_each_late _ _ h.events m h.taken (takes_one m s w h.events h.talks (λ none. cc) takes);
          first = at_each_late _ _ h.events m h.first tt;
          good = subst AreGood (sym e) (all_append (λ x. text_of x ≡ None) (heard h.events) (m ∷ []) h.good (good, tt));
          count = let c = h.count in let l = ap length e in omega (arith, c, l, length-append (heard h.events) (m ∷ []));
          few = subst (λ (x : List ServerMessage). length x ≤ MOST_HEARD) (sym (append-nil (heard (h.events ++ as_late m)) ∙ e)) h.few;
          hears = λ t. hears_late (open_of now.1) h.events m talk.framer (h.hears t);
          rounds = rounds_late manner tells (open_of now.1) h.events m h.rounds;
          late_last = late_more h.events m h.late_last;
          stays = h.stays;
          made = h.made;
          room = h.room;
          continues = h.continues;
        };
        puts = subst (λ (x : List ClientMessage). PutsBy (Some halt) tells (open_of now.1).output x) (sym k) st.puts;
        less = subst (λ (x : List ClientMessage). IsUnput tells (open_of now.1).output x) (sym k) st.less;
        why = st.why;
        full = st.full;
        waits = st.waits;
        wanting = wanting;
        opened = opened;
      })

  -- a read, well or not
  pub stopped_read : (halt : Halt) (kept failed here : Type 0) (talk talk' : Talk) (s : S) (w : W) (a b : View) → (st : Stopped manner tells begun [] halt talk s w a) → kept → (read : HasRead tells kept failed false talk.framer talk'.framer a.1 b.1) → ((failed → ⊥) ⊎ failed) → talk' ≡ record talk { framer = talk'.framer; buffer = talk'.buffer }
      → length talk'.buffer.items ≡ BUFFER → HasLooked failed here a.0 b.0 → here → Stopped manner tells begun [] halt talk' s w b
  unfolding holds_read
  stopped_read halt kept failed here talk talk' s w a b st k read which is room counts so =
      let h = st.holds in
      let less : IsUnput tells (open_of b.1).output (said h.events) = less_same tells (open_of a.1).output (open_of b.1).output (said h.events) read.output st.less in
      let rounds : GoesInRounds manner tells (open_of b.1) h.events = elim which [
        | inl not ↦ rounds_late_look manner tells (open_of a.1) (open_of b.1) h.events (length read.more) h.rounds less (λ t. read.looked t not)
        | inr failed ↦ rounds_kept manner tells (open_of a.1) (open_of b.1) h.events h.rounds read.output (λ t. (read.none t failed).1)
      ] in record {
        holds = holds_read kept failed false talk talk' s w a b h k read which is room counts.continues rounds;
        puts = puts_same (Some halt) tells (open_of a.1).output (open_of b.1).output (said h.events) read.output st.puts;
        less = less;
        why = halted_before begun.0 a.0 b.0 halt st.why counts.continues;
        full = λ other. counts.full ∙ st.full other;
        waits = counts.waits so ∙ st.waits;
        wanting = st.wanting;
        opened = st.opened;
      }

  -- ---- A read that ends it

  -- it was looked what came, in vain or not, or the read failed
  pub looked_holds : (kept failed here : Type 0) (put : ℕ) (quiet : Bool) (talk talk' : Talk) (s : S) (w : W) (a b : View) → (st : Stands manner tells begun [] put talk s w a) → Paused manner quiet put s → talk.came ≡ false → kept → (read : HasRead tells kept failed quiet talk.framer talk'.framer a.1 b.1) → ((failed → ⊥) ⊎ failed)
      → talk' ≡ record talk { framer = talk'.framer; buffer = talk'.buffer } → length talk'.buffer.items ≡ BUFFER → HasLooked failed here a.0 b.0 → (h : Holds manner tells begun [] talk' s w b) × (h.events ≡ st.holds.events)
  unfolding holds_read
  looked_holds kept failed here put quiet talk talk' s w a b st paused came k read which is room counts =
      let h = st.holds in
      let same = same_kept talk talk' is in
      let rounds : GoesInRounds manner tells (open_of b.1) h.events = elim which [
        | inl not ↦ (rounds_looked manner tells (open_of a.1) (open_of b.1) h.events (length read.more) put quiet talk talk' s w h.rounds st.round h.talks paused st.puts (λ t. read.looked t not) came same.1 same.2 (same.3 ∙ came)).0
        | inr failed ↦ rounds_kept manner tells (open_of a.1) (open_of b.1) h.events h.rounds read.output (λ t. (read.none t failed).1)
      ] in (holds_read kept failed quiet talk talk' s w a b h k read which is room counts.continues rounds, refl)
