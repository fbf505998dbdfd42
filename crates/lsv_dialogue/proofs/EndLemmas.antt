-- How a conversation ends, from how it stood.
use Rattle.std.proofs.Common.{◌≡◌, ◌≢◌, ◌≤◌, ◌<◌, ◌+◌, ◌++◌, ◌∷◌, List, [], ℕ, length, refl, sym, ◌∙◌, ap, subst, append-nil, length-append, arith, Bool, true, false, Some, None, ◌⊎◌, inl, inr}
use Rattle.lsv_defs.specs.Causes.{HasRisen}
use Rattle.lsv_wire.specs.Frame.{IsPartial, IsTooLong}
use Rattle.lsv_msg.specs.declared.fault.MsgFault.{MsgFault}
use Rattle.lsv_msg.specs.declared.messages.ClientMessage.{ClientMessage}
use Rattle.lsv_msg.specs.declared.messages.ServerMessage.{ServerMessage}
use Rattle.lsv_link.specs.Link.{LinkCounts, LinkState, open_of}
use Rattle.lsv_dialogue.specs.Events.{Event, Event.Heard, Event.Said, Event.Late, AreInTime, HasPaused, all_said, as_heard, as_late, heard, said, text_of}
use Rattle.lsv_dialogue.specs.Manner.{Manner}
use Rattle.lsv_dialogue.specs.Puts.{PutsPart, PutsWhole}
use Rattle.lsv_dialogue.specs.Rounds.{IsUnput}
use Rattle.lsv_dialogue.specs.Ends.{AreTimely, BeginsBad, EndsBy, HasCome.AtOnce, HasCome.AtEnd, HasCome.InSilence, HasHalted, IsDrained, IsDrained.Empty, IsIdle, Matches, IsSilence, IsUnsaid, NoneWaited, Refuses}
use Rattle.lsv_dialogue.specs.Stands.{Breaks, EndsSo, Finishes, HasLooked, HasRead, Holds, IsHaltedBy, Paused, PutsBy, Stands, Stopped, View, cause_of}
use Rattle.lsv_dialogue.specs.declared.ends.TheConstants.{MOST_HEARD, MOST_PUT}
use Rattle.lsv_dialogue.specs.declared.ends.Judged.{Judged}
use Rattle.lsv_dialogue.specs.declared.ends.Judged.TheVariants as judged
use Rattle.lsv_dialogue.specs.declared.ends.Wants.{Wants}
use Rattle.lsv_dialogue.specs.declared.ends.Wants.TheVariants as wants
use Rattle.lsv_dialogue.specs.declared.ends.Cause.TheVariants as causes
use Rattle.lsv_dialogue.specs.declared.ends.End.{End}
use Rattle.lsv_dialogue.specs.declared.ends.End.TheVariants as ends
use Rattle.lsv_dialogue.specs.declared.ends.TalkFault.TheVariants as faults
use Rattle.lsv_dialogue.specs.declared.talk.Halt.{Halt}
use Rattle.lsv_dialogue.specs.declared.talk.Halt.TheVariants as halts
use Rattle.lsv_dialogue.specs.declared.talk.Talk.{Talk}
use Rattle.lsv_dialogue.proofs.EventLemmas.{at_each_heard, at_each_late, at_each_said, heard_heard, heard_late, heard_said, in_time_heard, in_time_said, late_more, late_none, said_heard, said_late, said_said}
use Rattle.lsv_dialogue.proofs.HearLemmas.{hears_heard, hears_late, hears_looked, hears_said}
use Rattle.lsv_dialogue.proofs.LinkLemmas.{continues_then, halted_before, risen_later, stays_then}
use Rattle.lsv_dialogue.proofs.PutLemmas.{by_part, first_whole, less_same, part_more, puts_same, whole_part}
use Rattle.lsv_dialogue.proofs.ReadLemmas.{empty_of}
use Rattle.lsv_dialogue.proofs.RoundLemmas.{rounds_heard, rounds_late, rounds_late_look, rounds_looked, rounds_said}
use Rattle.lsv_dialogue.proofs.StandLemmas.{at_most, firsts_later, takes_one}

not_in_time : (events : List Event) (m : ServerMessage) → AreInTime (events ++ as_late m) → ⊥
not_in_time [] m t = t
not_in_time (Heard x ∷ events) m t = not_in_time events m t
not_in_time (Said x ∷ events) m t = not_in_time events m t
not_in_time (Late x ∷ events) m t = t

module _ {S W F : Type 0} (manner : Manner S W F) (tells : Type 0) (begun : View) where
  -- ---- What is said at every end

  -- what was heard and said so far is what was read and written
  matches_of : (pending : List ServerMessage) (talk : Talk) (s : S) (w : W) (now : View) → (h : Holds manner tells begun pending talk s w now) → PutsPart tells (open_of now.1).output (said h.events)
      → AreTimely tells (record { events = h.events; refused = pending; rest = talk.framer; conn = open_of now.1; before = begun.0; after = now.0 })
      → Matches manner tells (record { events = h.events; refused = pending; rest = talk.framer; conn = open_of now.1; before = begun.0; after = now.0 })
  matches_of pending talk s w now h puts timely = record {
    hears = h.hears;
    puts = puts;
    first = h.first;
    late = timely;
    late_last = h.late_last;
    rounds = h.rounds;
    made = λ t. inl (h.made t);
    few = at_most manner tells begun pending talk s w now h;
    continues = h.continues;
  }

  finished : (pending : List ServerMessage) (talk : Talk) (s : S) (w : W) (now : View) (end : End) → (h : Holds manner tells begun pending talk s w now) → PutsPart tells (open_of now.1).output (said h.events)
      → AreTimely tells (record { events = h.events; refused = pending; rest = talk.framer; conn = open_of now.1; before = begun.0; after = now.0 })
      → EndsBy manner s tells end (record { events = h.events; refused = pending; rest = talk.framer; conn = open_of now.1; before = begun.0; after = now.0 }) → IsUnsaid end h.events h.rounds.last → Finishes manner tells begun s w now end
  unfolding matches_of
  finished pending talk s w now end h puts timely cause unsaid = record {
    stays = h.stays;
    ended = record {
      events = h.events;
      talks = h.talks;
      taken = h.taken;
      refused = pending;
      rest = talk.framer;
      matches = matches_of pending talk s w now h puts timely;
      cause = cause;
      unsaid = unsaid;
    };
  }

  -- ---- While writing hasn't stopped

  awaited : (pending : List ServerMessage) (put : ℕ) (talk : Talk) (s : S) (w : W) (now : View) → Stands manner tells begun pending put talk s w now → NoneWaited begun.0 now.0
  awaited pending put talk s w now st = record { full = st.full; waits = st.waits }

  -- nothing was said in this round
  unsaid_here : (pending : List ServerMessage) (talk : Talk) (s : S) (w : W) (now : View) → (st : Stands manner tells begun pending 0 talk s w now) → said st.holds.rounds.last ≡ []
  unsaid_here pending talk s w now st = empty_of (said st.holds.rounds.last) (sym st.round.put_is)

  -- the speaker wants nothing more
  pub end_over : (put : ℕ) (talk : Talk) (s : S) (w : W) (now : View) → Stands manner tells begun [] put talk s w now → manner.wants s ≡ wants.Nothing → Finishes manner tells begun s w now ends.Over
  end_over put talk s w now st nothing =
      finished [] talk s w now ends.Over st.holds (whole_part tells (open_of now.1).output (said st.holds.events) st.puts) (inl st.timely)
      (record {
        has = AtOnce nothing (awaited [] put talk s w now st);
        unfailed = st.faults;
        more = λ e. absurd (let k : wants.Nothing ≡ wants.End = sym nothing ∙ e in cc);
        said_all = λ e. absurd (let k : wants.Nothing ≡ wants.End = sym nothing ∙ e in cc);
        puts = st.puts;
        good = st.holds.good;
        left = refl;
        timely = st.timely;
        made = st.holds.made;
      }) tt

  pub end_chatter : (talk : Talk) (s : S) (w : W) (now : View) → Stands manner tells begun [] 0 talk s w now → manner.wants s ≢ wants.Nothing → MOST_HEARD ≤ talk.heard → Finishes manner tells begun s w now (ends.Stopped causes.Chatter)
  end_chatter talk s w now st wanting most =
      finished [] talk s w now (ends.Stopped causes.Chatter) st.holds (whole_part tells (open_of now.1).output (said st.holds.events) st.puts) (inl st.timely)
      (record {
        caused = let f = at_most manner tells begun [] talk s w now st.holds in let c = st.holds.count in omega (arith, f, c, most);
        good = st.holds.good;
        left = refl;
        timely = st.timely;
        waited = awaited [] 0 talk s w now st;
        unfailed = st.faults;
        wanting = wanting;
        made = st.holds.made;
      }) (unsaid_here [] talk s w now st)

  pub end_malformed : (fault : MsgFault) (talk : Talk) (s : S) (w : W) (now : View) → Stands manner tells begun [] 0 talk s w now → manner.wants s ≢ wants.Nothing → BeginsBad fault talk.framer → talk.heard < MOST_HEARD → Finishes manner tells begun s w now (ends.Stopped (causes.Malformed fault))
  end_malformed fault talk s w now st wanting bad more =
      finished [] talk s w now (ends.Stopped (causes.Malformed fault)) st.holds (whole_part tells (open_of now.1).output (said st.holds.events) st.puts) (inl st.timely)
      (record {
        caused = (bad, let c = st.holds.count in omega (arith, c, more));
        good = st.holds.good;
        left = refl;
        timely = st.timely;
        waited = awaited [] 0 talk s w now st;
        unfailed = st.faults;
        wanting = wanting;
        made = st.holds.made;
      }) (unsaid_here [] talk s w now st)

  pub end_large : (n : ℕ) (talk : Talk) (s : S) (w : W) (now : View) → Stands manner tells begun [] 0 talk s w now → manner.wants s ≢ wants.Nothing → IsTooLong talk.framer n → talk.heard < MOST_HEARD → Finishes manner tells begun s w now (ends.Stopped (causes.TooLarge n))
  end_large n talk s w now st wanting large more =
      finished [] talk s w now (ends.Stopped (causes.TooLarge n)) st.holds (whole_part tells (open_of now.1).output (said st.holds.events) st.puts) (inl st.timely)
      (record {
        caused = (large, let c = st.holds.count in omega (arith, c, more));
        good = st.holds.good;
        left = refl;
        timely = st.timely;
        waited = awaited [] 0 talk s w now st;
        unfailed = st.faults;
        wanting = wanting;
        made = st.holds.made;
      }) (unsaid_here [] talk s w now st)

  refuses : (m : ServerMessage) (why : Judged) (talk : Talk) (s : S) (w : W) (now : View) → (st : Stands manner tells begun (m ∷ []) 0 talk s w now) → manner.judges s m ≡ why → Refuses (manner.judges s) why (record { events = st.holds.events; refused = m ∷ []; rest = talk.framer; conn = open_of now.1; before = begun.0; after = now.0 })
  refuses m why talk s w now st is = record { message = m; is = refl; judged = is; more = let f = st.holds.few in omega (arith, f, length-append (heard st.holds.events) (m ∷ [])) }

  pub end_strange : (m : ServerMessage) (point : _) (talk : Talk) (s : S) (w : W) (now : View) → Stands manner tells begun (m ∷ []) 0 talk s w now → manner.wants s ≢ wants.Nothing → manner.judges s m ≡ judged.Strange point → Finishes manner tells begun s w now (ends.Stopped (causes.Strange point))
  end_strange m point talk s w now st wanting is =
      finished (m ∷ []) talk s w now (ends.Stopped (causes.Strange point)) st.holds (whole_part tells (open_of now.1).output (said st.holds.events) st.puts) (inl st.timely)
      (record {
        caused = refuses m (judged.Strange point) talk s w now st is;
        good = st.holds.good;
        left = tt;
        timely = st.timely;
        waited = awaited (m ∷ []) 0 talk s w now st;
        unfailed = st.faults;
        wanting = wanting;
        made = st.holds.made;
      }) (unsaid_here (m ∷ []) talk s w now st)

  pub end_long_id : (m : ServerMessage) (n : ℕ) (talk : Talk) (s : S) (w : W) (now : View) → Stands manner tells begun (m ∷ []) 0 talk s w now → manner.wants s ≢ wants.Nothing → manner.judges s m ≡ judged.LongId n → Finishes manner tells begun s w now (ends.Stopped (causes.LongId n))
  end_long_id m n talk s w now st wanting is =
      finished (m ∷ []) talk s w now (ends.Stopped (causes.LongId n)) st.holds (whole_part tells (open_of now.1).output (said st.holds.events) st.puts) (inl st.timely)
      (record {
        caused = refuses m (judged.LongId n) talk s w now st is;
        good = st.holds.good;
        left = tt;
        timely = st.timely;
        waited = awaited (m ∷ []) 0 talk s w now st;
        unfailed = st.faults;
        wanting = wanting;
        made = st.holds.made;
      }) (unsaid_here (m ∷ []) talk s w now st)

  -- an error or an abort was heard
  pub end_said : (m : ServerMessage) (text : List ℕ) (talk : Talk) (s s' : S) (w w' : W) (now : View) → (st : Stands manner tells begun (m ∷ []) 0 talk s w now) → manner.wants s ≢ wants.Nothing → manner.judges s m ≡ judged.Takes → manner.talks s' w' (st.holds.events ++ as_heard m) → text_of m ≡ Some text → manner.wants s' ≢ wants.Nothing
      → Finishes manner tells begun s' w' now (ends.Stopped (causes.Said text))
  end_said m text talk s s' w w' now st wanting takes talks says wanting' =
      let h = st.holds in
      let e = heard_heard h.events m in
      let k = said_heard h.events m in
      let both = rounds_heard manner tells (open_of now.1) h.events m 0 talk h.rounds st.round in
      let puts : PutsWhole tells (open_of now.1).output (said (h.events ++ as_heard m)) = subst (λ (x : List ClientMessage). PutsWhole tells (open_of now.1).output x) (sym k) st.puts in
      record {
        stays = h.stays;
        ended = record {
          events = h.events ++ as_heard m;
          talks = talks;
          taken = at_each_heard _ _ h.events m h.taken (takes_one manner tells begun m s w h.events h.talks wanting takes);
          refused = [];
          rest = talk.framer;
          matches = record {
            hears = λ t. hears_heard (open_of now.1) h.events m talk.framer (h.hears t) (sym (ap length (st.puts.bytes t))) (st.unheard t);
            puts = whole_part tells (open_of now.1).output (said (h.events ++ as_heard m)) puts;
            first = at_each_heard _ _ h.events m h.first (first_whole tells (open_of now.1).output (said h.events) st.puts);
            late = inl (in_time_heard h.events m st.timely);
            late_last = late_none (h.events ++ as_heard m) (in_time_heard h.events m st.timely);
            rounds = both.0;
            made = λ t. inl (h.made t);
            few = subst (λ (x : List ServerMessage). length x ≤ MOST_HEARD) (sym e) h.few;
            continues = h.continues;
          };
          unsaid = λ t. empty_of (said both.0.last) (sym both.1.put_is);
          cause = record {
            caused = record { front = heard h.events; last = m; is = e; says = says; good = h.good };
            good = tt;
            left = refl;
            timely = tt;
            waited = st.waits;
            unfailed = tt;
            wanting = wanting';
            made = h.made;
          };
        };
      }

  -- ---- After a read that ends it

  idle : (put : ℕ) (talk talk' : Talk) (s : S) (w : W) (a b : View) → (st : Stands manner tells begun [] put talk s w a) → (h : Holds manner tells begun [] talk' s w b) → h.events ≡ st.holds.events → (tells → (open_of b.1).output ≡ (open_of a.1).output) → IsPartial talk'.framer → talk'.heard < MOST_HEARD
      → IsIdle tells (record { events = h.events; refused = []; rest = talk'.framer; conn = open_of b.1; before = begun.0; after = b.0 })
  idle put talk talk' s w a b st h same output partial more = record {
    puts = subst (λ (x : List Event). PutsWhole tells (open_of b.1).output (said x)) (sym same) (puts_same None tells (open_of a.1).output (open_of b.1).output (said st.holds.events) output st.puts);
    left = refl;
    partial = partial;
    more = let c = h.count in omega (arith, c, more);
  }

  in_time : (events events' : List Event) → events' ≡ events → AreInTime events → AreInTime events'
  in_time events events' e t = subst AreInTime (sym e) t

  -- the input ended, or it was waited in vain for all of the time, and the speaker wanted that
  pub end_at_end : (put : ℕ) (talk talk' : Talk) (s : S) (w : W) (a b : View) → (st : Stands manner tells begun [] put talk s w a) → (h : Holds manner tells begun [] talk' s w b) → h.events ≡ st.holds.events → (tells → (open_of b.1).output ≡ (open_of a.1).output) → talk'.framer ≡ [] → talk'.heard < MOST_HEARD
      → manner.wants s ≡ wants.End → manner.quiet s → b.0.faults ≡ a.0.faults → b.0.full ≡ a.0.full → ((tells → (open_of b.1).ended ≡ true) × (b.0.waits ≡ a.0.waits)) ⊎ ((tells → IsSilence (open_of b.1)) × HasRisen a.0.waits b.0.waits) → Finishes manner tells begun s w b ends.Over
  end_at_end put talk talk' s w a b st h same output none more wanting quiet faults full why =
      let i = idle put talk talk' s w a b st h same output (inl (let e = ap length none in omega (arith, e))) more in
      let t = in_time st.holds.events h.events same st.timely in
      finished [] talk' s w b ends.Over h (whole_part tells (open_of b.1).output (said h.events) i.puts) (inl t)
      (record {
        has = elim why [
          | inl ended ↦ AtEnd wanting ended.0 none (record { full = full ∙ st.full; waits = ended.1 ∙ st.waits })
          | inr silent ↦ InSilence wanting silent.0 none (record { full = full ∙ st.full; waits = risen_later begun.0.waits a.0.waits b.0.waits st.holds.continues.waits silent.1 })
        ];
        unfailed = faults ∙ st.faults;
        more = λ e. i.more;
        said_all = λ e. quiet;
        puts = i.puts;
        good = h.good;
        left = refl;
        timely = t;
        made = h.made;
      }) tt

  pub end_ended : (put : ℕ) (talk talk' : Talk) (s : S) (w : W) (a b : View) → (st : Stands manner tells begun [] put talk s w a) → (h : Holds manner tells begun [] talk' s w b) → h.events ≡ st.holds.events → (tells → (open_of b.1).output ≡ (open_of a.1).output) → IsPartial talk'.framer → talk'.heard < MOST_HEARD
      → (manner.wants s ≡ wants.More) ⊎ ((manner.wants s ≡ wants.End) × (talk'.framer ≢ [])) → HasPaused (manner.quiet s) st.holds.events → b.0.faults ≡ a.0.faults → b.0.full ≡ a.0.full → b.0.waits ≡ a.0.waits → (tells → (open_of b.1).ended ≡ true) → Finishes manner tells begun s w b (ends.Stopped causes.Ended)
  end_ended put talk talk' s w a b st h same output partial more wanting paused faults full waits ended =
      let i = idle put talk talk' s w a b st h same output partial more in
      let t = in_time st.holds.events h.events same st.timely in
      finished [] talk' s w b (ends.Stopped causes.Ended) h (whole_part tells (open_of b.1).output (said h.events) i.puts) (inl t)
      (record {
        caused = record { ended = ended; paused = subst (λ (x : List Event). HasPaused (manner.quiet s) x) (sym same) paused; idle = i };
        good = h.good;
        left = refl;
        timely = t;
        waited = record { full = full ∙ st.full; waits = waits ∙ st.waits };
        unfailed = faults ∙ st.faults;
        wanting = wanting;
        made = h.made;
      }) tt

  pub end_silent : (put : ℕ) (talk talk' : Talk) (s : S) (w : W) (a b : View) → (st : Stands manner tells begun [] put talk s w a) → (h : Holds manner tells begun [] talk' s w b) → h.events ≡ st.holds.events → (tells → (open_of b.1).output ≡ (open_of a.1).output) → IsPartial talk'.framer → talk'.heard < MOST_HEARD
      → manner.wants s ≢ wants.Nothing → manner.quiet s → b.0.faults ≡ a.0.faults → b.0.full ≡ a.0.full → HasRisen a.0.waits b.0.waits → Finishes manner tells begun s w b (ends.Stopped causes.NotYet)
  end_silent put talk talk' s w a b st h same output partial more wanting quiet faults full risen =
      let i = idle put talk talk' s w a b st h same output partial more in
      let t = in_time st.holds.events h.events same st.timely in
      finished [] talk' s w b (ends.Stopped causes.NotYet) h (whole_part tells (open_of b.1).output (said h.events) i.puts) (inl t)
      (record {
        caused = inr (record { waited = record { full = full ∙ st.full; waits = risen_later begun.0.waits a.0.waits b.0.waits st.holds.continues.waits risen }; unfailed = faults ∙ st.faults; said_all = quiet; idle = i; timely = t });
        good = h.good;
        left = tt;
        timely = tt;
        waited = tt;
        unfailed = tt;
        wanting = wanting;
        made = h.made;
      }) tt

  pub end_failed : (put : ℕ) (talk talk' : Talk) (s : S) (w : W) (a b : View) → (st : Stands manner tells begun [] put talk s w a) → (h : Holds manner tells begun [] talk' s w b) → h.events ≡ st.holds.events → (tells → (open_of b.1).output ≡ (open_of a.1).output) → IsPartial talk'.framer → (tells → (open_of b.1).dry ≡ true)
      → manner.wants s ≢ wants.Nothing → b.0.full ≡ a.0.full → b.0.waits ≡ a.0.waits → HasRisen a.0.faults b.0.faults → Finishes manner tells begun s w b (ends.Stopped causes.Failed)
  end_failed put talk talk' s w a b st h same output partial dry wanting full waits risen =
      let t = in_time st.holds.events h.events same st.timely in
      let puts : PutsWhole tells (open_of b.1).output (said h.events) = subst (λ (x : List Event). PutsWhole tells (open_of b.1).output (said x)) (sym same) (puts_same None tells (open_of a.1).output (open_of b.1).output (said st.holds.events) output st.puts) in
      finished [] talk' s w b (ends.Stopped causes.Failed) h (whole_part tells (open_of b.1).output (said h.events) puts) (inl t)
      (record {
        caused = (risen_later begun.0.faults a.0.faults b.0.faults st.holds.continues.faults risen, Empty refl partial (λ t made. dry t));
        good = h.good;
        left = tt;
        timely = tt;
        waited = record { full = full ∙ st.full; waits = waits ∙ st.waits };
        unfailed = tt;
        wanting = wanting;
        made = h.made;
      }) tt

  -- what the speaker wants, if it isn't nothing
  wants_by : (wanted : Wants) (rest : List ℕ) → wanted ≢ wants.Nothing → (wanted ≡ wants.End → rest ≢ []) → (wanted ≡ wants.More) ⊎ ((wanted ≡ wants.End) × (rest ≢ []))
  wants_by wants.More rest some torn = inl refl
  wants_by wants.End rest some torn = inr (refl, torn refl)
  wants_by wants.Nothing rest some torn = absurd (some refl)

  -- the input ended
  pub ends_ended : (put : ℕ) (quiet : Bool) (talk talk' : Talk) (s : S) (w : W) (a b : View) (end : End) → (st : Stands manner tells begun [] put talk s w a) → (h : Holds manner tells begun [] talk' s w b) → h.events ≡ st.holds.events → (tells → (open_of b.1).output ≡ (open_of a.1).output) → IsPartial talk'.framer → talk'.heard < MOST_HEARD
      → Paused manner quiet put s → b.0.faults ≡ a.0.faults → b.0.full ≡ a.0.full → b.0.waits ≡ a.0.waits → (tells → (open_of b.1).ended ≡ true) → EndsSo (manner.wants s) true causes.Ended talk'.framer end → Finishes manner tells begun s w b end
  ends_ended put quiet talk talk' s w a b end st h same output partial more paused faults full waits ended (inl over) =
      subst (λ (x : End). Finishes manner tells begun s w b x) (sym over.0) (end_at_end put talk talk' s w a b st h same output over.3 more over.1 (still quiet paused over.1) faults full (inl (ended, waits)))
    where
      still : (q : Bool) → Paused manner q put s → manner.wants s ≡ wants.End → manner.quiet s
      still true p e = p.still refl
      still false p e = absurd (let k : wants.More ≡ wants.End = sym (p.full refl).1 ∙ e in cc)
  ends_ended put quiet talk talk' s w a b end st h same output partial more paused faults full waits ended (inr stopped) =
      subst (λ (x : End). Finishes manner tells begun s w b x) (sym stopped.0) (end_ended put talk talk' s w a b st h same output partial more (wants_by (manner.wants s) talk'.framer paused.wanting (λ e. stopped.1 e refl)) (has_paused quiet paused) faults full waits ended)
    where
      has_paused : (q : Bool) → Paused manner q put s → HasPaused (manner.quiet s) st.holds.events
      has_paused true p = inl (p.still refl)
      has_paused false p = inr (let most = (p.full refl).0 in let since = st.since in omega (arith, most, since))

  -- it was waited in vain
  pub ends_silent : (put : ℕ) (fresh : Bool) (talk talk' : Talk) (s : S) (w : W) (a b : View) (end : End) → (st : Stands manner tells begun [] put talk s w a) → (h : Holds manner tells begun [] talk' s w b) → h.events ≡ st.holds.events → (tells → (open_of b.1).output ≡ (open_of a.1).output) → IsPartial talk'.framer → talk'.heard < MOST_HEARD
      → Paused manner true put s → b.0.faults ≡ a.0.faults → b.0.full ≡ a.0.full → HasRisen a.0.waits b.0.waits → (fresh ≡ true → tells → IsSilence (open_of b.1)) → EndsSo (manner.wants s) fresh causes.NotYet talk'.framer end → Finishes manner tells begun s w b end
  ends_silent put fresh talk talk' s w a b end st h same output partial more paused faults full risen silence (inl over) =
      subst (λ (x : End). Finishes manner tells begun s w b x) (sym over.0) (end_at_end put talk talk' s w a b st h same output over.3 more over.1 (paused.still refl) faults full (inr (silence over.2, risen)))
  ends_silent put fresh talk talk' s w a b end st h same output partial more paused faults full risen silence (inr stopped) =
      subst (λ (x : End). Finishes manner tells begun s w b x) (sym stopped.0) (end_silent put talk talk' s w a b st h same output partial more paused.wanting (paused.still refl) faults full risen)

  -- ---- After writing has stopped

  -- a write stopped so
  halted_so : (halt : Halt) (pending : List ServerMessage) (rest : List ℕ) (now : View) (events : List Event) → IsHaltedBy begun.0 now.0 halt → PutsBy (Some halt) tells (open_of now.1).output (said events) → HasHalted tells (record { events = events; refused = pending; rest = rest; conn = open_of now.1; before = begun.0; after = now.0 })
  halted_so halts.NotYet pending rest now events why puts = inr (inl why)
  halted_so halts.Failed pending rest now events why puts = inl why
  halted_so (halts.TooLong n) pending rest now events why puts = inr (inr (n, puts))

  pub end_halted : (halt : Halt) (pending : List ServerMessage) (talk : Talk) (s : S) (w : W) (now : View) → (st : Stopped manner tells begun pending halt talk s w now)
      → IsDrained (manner.judges s) tells (record { events = st.holds.events; refused = pending; rest = talk.framer; conn = open_of now.1; before = begun.0; after = now.0 }) → Finishes manner tells begun s w now (ends.Stopped (cause_of halt))
  end_halted halts.NotYet pending talk s w now st drained =
      finished pending talk s w now (ends.Stopped causes.NotYet) st.holds (by_part (Some halts.NotYet) tells (open_of now.1).output (said st.holds.events) st.puts) (inr (halted_so halts.NotYet pending talk.framer now st.holds.events st.why st.puts, st.less))
      (record { caused = inl (record { full = st.why; waits = st.waits; drained = drained }); good = st.holds.good; left = tt; timely = tt; waited = tt; unfailed = tt; wanting = λ e. absurd (let k : wants.More ≡ wants.Nothing = sym st.wanting ∙ e in cc); made = st.holds.made }) tt
  end_halted halts.Failed pending talk s w now st drained =
      finished pending talk s w now (ends.Stopped causes.Failed) st.holds (by_part (Some halts.Failed) tells (open_of now.1).output (said st.holds.events) st.puts) (inr (halted_so halts.Failed pending talk.framer now st.holds.events st.why st.puts, st.less))
      (record { caused = (st.why, drained); good = st.holds.good; left = tt; timely = tt; waited = record { full = st.full (λ e. cc); waits = st.waits }; unfailed = tt; wanting = λ e. absurd (let k : wants.More ≡ wants.Nothing = sym st.wanting ∙ e in cc); made = st.holds.made }) tt
  end_halted (halts.TooLong n) pending talk s w now st drained =
      finished pending talk s w now (ends.Stopped (causes.TooLong n)) st.holds (by_part (Some (halts.TooLong n)) tells (open_of now.1).output (said st.holds.events) st.puts) (inr (halted_so (halts.TooLong n) pending talk.framer now st.holds.events st.why st.puts, st.less))
      (record { caused = (st.puts, drained); good = st.holds.good; left = tt; timely = tt; waited = record { full = st.full (λ e. cc); waits = st.waits }; unfailed = tt; wanting = st.wanting; made = st.holds.made }) tt

  -- an error or an abort was heard late
  pub end_said_late : (halt : Halt) (m : ServerMessage) (text : List ℕ) (talk : Talk) (s s' : S) (w w' : W) (now : View) → (st : Stopped manner tells begun (m ∷ []) halt talk s w now) → manner.judges s m ≡ judged.Takes → manner.talks s' w' (st.holds.events ++ as_late m) → text_of m ≡ Some text → manner.wants s' ≡ wants.More
      → Finishes manner tells begun s' w' now (ends.Stopped (causes.Said text))
  end_said_late halt m text talk s s' w w' now st takes talks says wanting' =
      let h = st.holds in
      let e = heard_late h.events m in
      let k = said_late h.events m in
      let puts : PutsBy (Some halt) tells (open_of now.1).output (said (h.events ++ as_late m)) = subst (λ (x : List ClientMessage). PutsBy (Some halt) tells (open_of now.1).output x) (sym k) st.puts in
      record {
        stays = h.stays;
        ended = record {
          events = h.events ++ as_late m;
          talks = talks;
          taken = at_each_late _ _ h.events m h.taken (takes_one manner tells begun m s w h.events h.talks (λ none. absurd (let x : wants.More ≡ wants.Nothing = sym st.wanting ∙ none in cc)) takes);
          refused = [];
          rest = talk.framer;
          matches = record {
            hears = λ t. hears_late (open_of now.1) h.events m talk.framer (h.hears t);
            puts = by_part (Some halt) tells (open_of now.1).output (said (h.events ++ as_late m)) puts;
            first = at_each_late _ _ h.events m h.first tt;
            late = inr (halted_so halt [] talk.framer now (h.events ++ as_late m) st.why puts, subst (λ (x : List ClientMessage). IsUnput tells (open_of now.1).output x) (sym k) st.less);
            late_last = late_more h.events m h.late_last;
            rounds = rounds_late manner tells (open_of now.1) h.events m h.rounds;
            made = λ t. inl (h.made t);
            few = subst (λ (x : List ServerMessage). length x ≤ MOST_HEARD) (sym e) h.few;
            continues = h.continues;
          };
          unsaid = λ t. absurd (not_in_time h.events m t);
          cause = record {
            caused = record { front = heard h.events; last = m; is = e; says = says; good = h.good };
            good = tt;
            left = refl;
            timely = tt;
            waited = st.waits;
            unfailed = tt;
            wanting = λ none. absurd (let x : wants.More ≡ wants.Nothing = sym wanting' ∙ none in cc);
            made = h.made;
          };
        };
      }

  -- ---- Faults

  -- memory ran out
  pub broken : (put : ℕ) (talk : Talk) (s : S) (w : W) (now : View) → Stands manner tells begun [] put talk s w now → Breaks manner tells begun s w now faults.NoMem
  broken put talk s w now st = record {
    stays = st.holds.stays;
    broke = record {
      events = st.holds.events;
      fails = st.holds.talks;
      taken = st.holds.taken;
      rest = talk.framer;
      matches = matches_of [] talk s w now st.holds (whole_part tells (open_of now.1).output (said st.holds.events) st.puts) (inl st.timely);
      waited = st.waits;
      made = st.holds.made;
    };
  }

  pub stopped_broken : (halt : Halt) (talk : Talk) (s : S) (w : W) (now : View) → Stopped manner tells begun [] halt talk s w now → Breaks manner tells begun s w now faults.NoMem
  stopped_broken halt talk s w now st = record {
    stays = st.holds.stays;
    broke = record {
      events = st.holds.events;
      fails = st.holds.talks;
      taken = st.holds.taken;
      rest = talk.framer;
      matches = matches_of [] talk s w now st.holds (by_part (Some halt) tells (open_of now.1).output (said st.holds.events) st.puts) (inr (halted_so halt [] talk.framer now st.holds.events st.why st.puts, st.less));
      waited = st.waits;
      made = st.holds.made;
    };
  }

  -- a step failed
  pub step_failed : (put : ℕ) (talk : Talk) (s s' : S) (w w' : W) (now : View) (fault : F) → (st : Stands manner tells begun [] put talk s w now) → manner.fails s' w' st.holds.events fault → Breaks manner tells begun s' w' now (faults.Speaker fault)
  step_failed put talk s s' w w' now fault st fails = record {
    stays = st.holds.stays;
    broke = record {
      events = st.holds.events;
      fails = fails;
      taken = st.holds.taken;
      rest = talk.framer;
      matches = matches_of [] talk s w now st.holds (whole_part tells (open_of now.1).output (said st.holds.events) st.puts) (inl st.timely);
      waited = st.waits;
      made = st.holds.made;
    };
  }

  -- a message wasn't heard, since the speaker failed
  pub hear_failed : (m : ServerMessage) (talk : Talk) (s s' : S) (w w' : W) (now : View) (fault : F) → (st : Stands manner tells begun (m ∷ []) 0 talk s w now) → manner.wants s ≢ wants.Nothing → manner.judges s m ≡ judged.Takes → manner.fails s' w' (st.holds.events ++ as_heard m) fault → Breaks manner tells begun s' w' now (faults.Speaker fault)
  hear_failed m talk s s' w w' now fault st wanting takes fails =
      let h = st.holds in
      let e = heard_heard h.events m in
      record {
        stays = h.stays;
        broke = record {
          events = h.events ++ as_heard m;
          fails = fails;
          taken = at_each_heard _ _ h.events m h.taken (takes_one manner tells begun m s w h.events h.talks wanting takes);
          rest = talk.framer;
          matches = record {
            hears = λ t. hears_heard (open_of now.1) h.events m talk.framer (h.hears t) (sym (ap length (st.puts.bytes t))) (st.unheard t);
            puts = whole_part tells (open_of now.1).output (said (h.events ++ as_heard m)) (subst (λ (x : List ClientMessage). PutsWhole tells (open_of now.1).output x) (sym (said_heard h.events m)) st.puts);
            first = at_each_heard _ _ h.events m h.first (first_whole tells (open_of now.1).output (said h.events) st.puts);
            late = inl (in_time_heard h.events m st.timely);
            late_last = late_none (h.events ++ as_heard m) (in_time_heard h.events m st.timely);
            rounds = (rounds_heard manner tells (open_of now.1) h.events m 0 talk h.rounds st.round).0;
            made = λ t. inl (h.made t);
            few = subst (λ (x : List ServerMessage). length x ≤ MOST_HEARD) (sym e) h.few;
            continues = h.continues;
          };
          waited = st.waits;
          made = h.made;
        };
      }

  -- a late message wasn't heard, since the speaker failed
  pub late_failed : (halt : Halt) (m : ServerMessage) (talk : Talk) (s s' : S) (w w' : W) (now : View) (fault : F) → (st : Stopped manner tells begun (m ∷ []) halt talk s w now) → manner.judges s m ≡ judged.Takes → manner.fails s' w' (st.holds.events ++ as_late m) fault → Breaks manner tells begun s' w' now (faults.Speaker fault)
  late_failed halt m talk s s' w w' now fault st takes fails =
      let h = st.holds in
      let e = heard_late h.events m in
      let k = said_late h.events m in
      let puts : PutsBy (Some halt) tells (open_of now.1).output (said (h.events ++ as_late m)) = subst (λ (x : List ClientMessage). PutsBy (Some halt) tells (open_of now.1).output x) (sym k) st.puts in
      record {
        stays = h.stays;
        broke = record {
          events = h.events ++ as_late m;
          fails = fails;
          taken = at_each_late _ _ h.events m h.taken (takes_one manner tells begun m s w h.events h.talks (λ none. absurd (let x : wants.More ≡ wants.Nothing = sym st.wanting ∙ none in cc)) takes);
          rest = talk.framer;
          matches = record {
            hears = λ t. hears_late (open_of now.1) h.events m talk.framer (h.hears t);
            puts = by_part (Some halt) tells (open_of now.1).output (said (h.events ++ as_late m)) puts;
            first = at_each_late _ _ h.events m h.first tt;
            late = inr (halted_so halt [] talk.framer now (h.events ++ as_late m) st.why puts, subst (λ (x : List ClientMessage). IsUnput tells (open_of now.1).output x) (sym k) st.less);
            late_last = late_more h.events m h.late_last;
            rounds = rounds_late manner tells (open_of now.1) h.events m h.rounds;
            made = λ t. inl (h.made t);
            few = subst (λ (x : List ServerMessage). length x ≤ MOST_HEARD) (sym e) h.few;
            continues = h.continues;
          };
          waited = st.waits;
          made = h.made;
        };
      }

  -- memory ran out after messages were said, before anything of them was put
  pub unput_broken : (ms : List ClientMessage) (put : ℕ) (talk : Talk) (s s' : S) (w w' : W) (a b : View) → (st : Stands manner tells begun [] put talk s w a) → manner.talks s' w' (st.holds.events ++ all_said ms) → put + length ms ≤ MOST_PUT → b.1 ≡ a.1 → b.0 ≡ a.0 → Breaks manner tells begun s' w' b faults.NoMem
  unput_broken ms put talk s s' w w' a b st talks few link counts =
      subst (λ (x : LinkCounts). Breaks manner tells begun s' w' (x, b.1) faults.NoMem) (sym counts) (subst (λ (x : LinkState). Breaks manner tells begun s' w' (a.0, x) faults.NoMem) (sym link) (
      let h = st.holds in
      record {
        stays = h.stays;
        broke = record {
          events = h.events ++ all_said ms;
          fails = talks;
          taken = at_each_said _ _ h.events ms h.taken;
          rest = talk.framer;
          matches = record {
            hears = λ t. hears_said (open_of a.1) h.events ms [] talk.framer (h.hears t);
            puts = subst (λ (x : List ClientMessage). PutsPart tells (open_of a.1).output x) (sym (said_said h.events ms)) (part_more tells (open_of a.1).output (said h.events) ms (whole_part tells (open_of a.1).output (said h.events) st.puts));
            first = at_each_said _ _ h.events ms h.first;
            late = inl (in_time_said h.events ms st.timely);
            late_last = late_none (h.events ++ all_said ms) (in_time_said h.events ms st.timely);
            rounds = (rounds_said manner tells (open_of a.1) (open_of a.1) h.events ms put talk h.rounds st.round few (λ t. refl) (λ t. omega arith)).0;
            made = λ t. inl (h.made t);
            few = subst (λ (x : List ServerMessage). length x ≤ MOST_HEARD) (sym (heard_said h.events ms)) (at_most manner tells begun [] talk s w a h);
            continues = h.continues;
          };
          waited = st.waits;
          made = h.made;
        };
      }))

  -- memory ran out for what was read
  pub read_broken : (kept failed here : Type 0) (put : ℕ) (quiet : Bool) (talk talk' : Talk) (s : S) (w : W) (a b : View) → (st : Stands manner tells begun [] put talk s w a) → Paused manner quiet put s → (read : HasRead tells kept failed quiet talk.framer talk'.framer a.1 b.1) → (failed → ⊥) → talk.came ≡ false → HasLooked failed here a.0 b.0 → here → Breaks manner tells begun s w b faults.NoMem
  read_broken kept failed here put quiet talk talk' s w a b st paused read not came counts so =
      let h = st.holds in
      record {
        stays = λ t. stays_then begun.1 a.1 b.1 (h.stays t) (read.stays t);
        broke = record {
          events = h.events;
          fails = h.talks;
          taken = h.taken;
          rest = talk.framer ++ read.more;
          matches = record {
            hears = λ t. hears_looked tells t (open_of a.1) (open_of b.1) h.events talk.framer (talk.framer ++ read.more) read.more quiet (h.hears t) h.first (read.looked t not) (read.input t) (read.output t) refl;
            puts = whole_part tells (open_of b.1).output (said h.events) (puts_same None tells (open_of a.1).output (open_of b.1).output (said h.events) read.output st.puts);
            first = firsts_later tells (open_of a.1).output (open_of b.1).output h.events (λ t. ([], read.output t ∙ sym (append-nil (open_of a.1).output))) h.first;
            late = inl st.timely;
            late_last = h.late_last;
            rounds = (rounds_looked manner tells (open_of a.1) (open_of b.1) h.events (length read.more) put quiet talk talk s w h.rounds st.round h.talks paused st.puts (λ t. read.looked t not) came refl refl came).0;
            made = λ t. inl ((read.stays t).connected ∙ h.made t);
            few = at_most manner tells begun [] talk s w a h;
            continues = continues_then begun.0 a.0 b.0 h.continues counts.continues;
          };
          waited = counts.waits so ∙ st.waits;
          made = λ t. (read.stays t).connected ∙ h.made t;
        };
      }

  -- memory ran out for what was read after writing had stopped
  pub stopped_read_broken : (kept failed here : Type 0) (halt : Halt) (talk talk' : Talk) (s : S) (w : W) (a b : View) → (st : Stopped manner tells begun [] halt talk s w a) → (read : HasRead tells kept failed false talk.framer talk'.framer a.1 b.1) → (failed → ⊥) → HasLooked failed here a.0 b.0 → here → Breaks manner tells begun s w b faults.NoMem
  stopped_read_broken kept failed here halt talk talk' s w a b st read not counts so =
      let h = st.holds in
      let puts : PutsBy (Some halt) tells (open_of b.1).output (said h.events) = puts_same (Some halt) tells (open_of a.1).output (open_of b.1).output (said h.events) read.output st.puts in
      let less : IsUnput tells (open_of b.1).output (said h.events) = less_same tells (open_of a.1).output (open_of b.1).output (said h.events) read.output st.less in
      record {
        stays = λ t. stays_then begun.1 a.1 b.1 (h.stays t) (read.stays t);
        broke = record {
          events = h.events;
          fails = h.talks;
          taken = h.taken;
          rest = talk.framer ++ read.more;
          matches = record {
            hears = λ t. hears_looked tells t (open_of a.1) (open_of b.1) h.events talk.framer (talk.framer ++ read.more) read.more false (h.hears t) h.first (read.looked t not) (read.input t) (read.output t) refl;
            puts = by_part (Some halt) tells (open_of b.1).output (said h.events) puts;
            first = firsts_later tells (open_of a.1).output (open_of b.1).output h.events (λ t. ([], read.output t ∙ sym (append-nil (open_of a.1).output))) h.first;
            late = inr (halted_so halt [] (talk.framer ++ read.more) b h.events (halted_before begun.0 a.0 b.0 halt st.why counts.continues) puts, less);
            late_last = h.late_last;
            rounds = rounds_late_look manner tells (open_of a.1) (open_of b.1) h.events (length read.more) h.rounds less (λ t. read.looked t not);
            made = λ t. inl ((read.stays t).connected ∙ h.made t);
            few = at_most manner tells begun [] talk s w a h;
            continues = continues_then begun.0 a.0 b.0 h.continues counts.continues;
          };
          waited = counts.waits so ∙ st.waits;
          made = λ t. (read.stays t).connected ∙ h.made t;
        };
      }
