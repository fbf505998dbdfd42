-- What a pair relays follows from what it keeps.
use Rattle.std.proofs.Common.{◌≡◌, ◌≢◌, ◌⊎◌, inl, inr, ⊎_elim, ℕ, ◌≤◌, Bool, true, false, List, [], ◌∷◌, ◌++◌, Option, Some, None, refl, sym, ap, subst, ◌∙◌, arith}
use Rattle.std.specs.Prelude.{Ok, Err, nat_lt, if◌then◌else◌}
use Rattle.std.proofs.lemmas.Bool.Decides.{nat_tests}
use Rattle.std.proofs.lemmas.List.{append-nil}
use Rattle.lsv_base.specs.Time.{nanos_of}
use Rattle.lsv_base.specs.declared.time.TimeSpec.{TimeSpec}
use Rattle.lsv_msg.specs.Messages.{server_in}
use Rattle.lsv_msg.specs.declared.messages.ServerMessage.TheVariants as server
use Rattle.lsv_port.specs.Port.{Changes, LinkState, PortState, closed, is_over}
use Rattle.lsv_live.specs.declared.live.Down.{Down}
use Rattle.lsv_live.specs.declared.meter.Meter.{Meter}
use Rattle.lsv_live.specs.declared.pair.Pair.{Pair}
use Rattle.lsv_live.specs.declared.trouble.Trouble.{Trouble}
use Rattle.lsv_live.specs.declared.trouble.Trouble.TheVariants.{Refused, TooLarge, RelayLost, BadUpstream, Told, NoMem}
use Rattle.lsv_live.specs.Meter.{answer, answer_of, pointed, put, start}
use Rattle.lsv_live.specs.declared.fault.LiveFault.TheVariants.{Strange}
use Rattle.lsv_live.specs.Story.{Exchange, Heard, IsLawful, after, frames, heard, next, puts, up}
use Rattle.lsv_live.specs.Ends.{EndStands, IsOver}
use Rattle.lsv_live.specs.Pairs.{AllTaken, AreSentOn, CauseOf, IsHearing, IsNoticed, PairStands, RefusesClient, RefusesUpstream, UpStands, lost_by, words}
use Rattle.lsv_live.specs.Relays.{ClosedFor, HasCause, IsUp, Relays}
use Rattle.lsv_live.proofs.EndLemmas.{prefix_less}

is_false : (b : Bool) → (b ≡ true → ⊥) → b ≡ false
is_false true un = absurd (un refl)
is_false false un = refl

is_true : (b : Bool) → (b ≡ false → ⊥) → b ≡ true
is_true true un = refl
is_true false un = absurd (un refl)

both : (b : Bool) → b ≡ true → b ≡ false → ⊥
both b x y = let bad : true ≡ false = sym x ∙ y in absurd cc

-- the link to the other server, which was dialled
up_of : (p : Pair) (c u : LinkState) (h : PairStands p c u) → p.is_dialled ≡ true → EndStands p.upstream u (frames (heard h.story)) (up h.story)
up_of p c u h d = subst (λ (b : Bool). UpStands b p u h.story) d h.upstream

-- none was dialled
none_of : (p : Pair) (c u : LinkState) (h : PairStands p c u) → p.is_dialled ≡ false → UpStands false p u h.story
none_of p c u h d = subst (λ (b : Bool). UpStands b p u h.story) d h.upstream

-- the other server is lost
is_lost : (p : Pair) (c u : LinkState) (h : PairStands p c u) → (p.is_dialled ≡ false) ⊎ IsOver u → p.upstream.is_over ≡ true
is_lost p c u h why = ⊎_elim (λ no. (none_of p c u h no).2) (λ is. by_dialled p.is_dialled refl is) why
  where
    by_dialled : (b : Bool) → p.is_dialled ≡ b → IsOver u → p.upstream.is_over ≡ true
    by_dialled true d is = (up_of p c u h d).known is
    by_dialled false d is = (none_of p c u h d).2

-- a pair without a link to the other server has a trouble
has_trouble : (p : Pair) (c u : LinkState) (h : PairStands p c u) → IsHearing p → p.is_leaving ≡ true → p.is_dialled ≡ false → (p.trouble ≡ None) → ⊥
has_trouble p c u h k leaving d none =
    let n = none_of p c u h d in
    let live : p.live ≡ start = h.meter ∙ ap (after start) n.3 in
    ⊎_elim (λ e. let bad : None ≡ Some NoMem = sym none ∙ e in absurd cc)
    (λ e. let bad : None ≡ Some RelayLost = sym none ∙ e ∙ ap (λ (m : Meter). lost_by m.has_left) live in absurd cc)
    (k.told leaving n.2)

-- why a link was closed, by why the pair leaves
why_closed : (p : Pair) (c u link : LinkState) (h : PairStands p c u) → IsHearing p → p.is_leaving ≡ true → ClosedFor link p.trouble c u
why_closed p c u link h k leaving = ⊎_elim (λ t. inl t) (λ over. ⊎_elim (λ o. inr (inl (h.client.over o))) (λ o. by_dialled p.is_dialled refl o) over) (k.why leaving)
  where
    by_dialled : (b : Bool) → p.is_dialled ≡ b → p.upstream.is_over ≡ true → ClosedFor link p.trouble c u
    by_dialled true d o = inr (inr (inl ((up_of p c u h d).over o)))
    by_dialled false d o = inl (has_trouble p c u h k leaving d)

-- all that the client sent was put to the other server
goes_up : (p : Pair) (c u : LinkState) (h : PairStands p c u) → IsHearing p → AllTaken p → AreSentOn p c u → p.is_dialled ≡ true → p.trouble ≡ None → (IsOver u → ⊥) → u.full ≡ false → (b : Bool) → p.is_leaving ≡ b → IsUp c.input h.story × (u.output ≡ up h.story)
goes_up p c u h k t sent d none alive room false going =
    let e = up_of p c u h d in
    let over : p.upstream.is_over ≡ false = is_false p.upstream.is_over (λ x. alive (e.over x)) in
    let here : p.upstream.is_open ≡ true = is_true p.upstream.is_open (λ x. ⊎_elim (λ l. both p.is_leaving l going) (λ o. both p.upstream.is_over o over) (k.upstream_closed x)) in
    let cut : p.upstream.is_cut ≡ false = is_false p.upstream.is_cut (λ x. ⊎_elim (λ shut. both p.upstream.is_open here shut) (λ n. let bad : None ≡ Some NoMem = sym none ∙ n in absurd cc) (k.upstream_cut x)) in (
      record { rest = p.client.rest; whole = h.client.all_heard (k.client_whole going); partial = t.client going },
      sym (ap (λ (x : List ℕ). u.output ++ x) (sent.upstream here room) ∙ append-nil u.output) ∙ e.all_put cut,
    )
goes_up p c u h k t sent d none alive room true leaving =
    let e = up_of p c u h d in
    let over : p.upstream.is_over ≡ false = is_false p.upstream.is_over (λ x. alive (e.over x)) in
    let f = k.finished leaving none over in (
      record { rest = p.client.rest; whole = h.client.all_heard f.missing; partial = f.partial },
      sym (ap (λ (x : List ℕ). u.output ++ x) f.unsent ∙ append-nil u.output) ∙ e.all_put f.cut,
    )

-- all that is to be put to the client was put
goes_down : (p : Pair) (c u : LinkState) (h : PairStands p c u) → IsHearing p → AreSentOn p c u → p.trouble ≢ Some NoMem → c.failed ≡ false → c.full ≡ false → c.output ≡ puts start h.story ++ words p.trouble
goes_down p c u h k sent ok well room =
    let broken : p.client.is_broken ≡ false = is_false p.client.is_broken (λ x. both c.failed (h.client.fails x) well) in
    let cut : p.client.is_cut ≡ false = is_false p.client.is_cut (λ x. ⊎_elim (λ b. both p.client.is_broken b broken) (λ n. ok n) (k.client_cut x)) in
    sym (ap (λ (x : List ℕ). c.output ++ x) (by_open p.client.is_open refl) ∙ append-nil c.output) ∙ h.client.all_put cut
  where
    by_open : (b : Bool) → p.client.is_open ≡ b → p.client.unsent ≡ []
    by_open true here = sent.client here room
    by_open false shut = h.client.sent shut

-- the cause of a trouble, by the links
has_cause : (t : Option Trouble) (p : Pair) (c u : LinkState) (h : PairStands p c u) → CauseOf t p u → HasCause t p.is_dialled h.story c u
has_cause None p c u h why = tt
has_cause (Some (Refused fault)) p c u h why = (p.client.rest, h.client.heard, subst (λ (m : Meter). RefusesClient m fault p.client.rest) h.meter why)
has_cause (Some TooLarge) p c u h why = (p.client.rest, h.client.heard, why)
has_cause (Some RelayLost) p c u h why = (sym (ap (λ (m : Meter). m.has_left) h.meter) ∙ why.0, why.1)
has_cause (Some BadUpstream) p c u h why = λ d. (p.upstream.rest, (up_of p c u h d).heard, subst (λ (m : Meter). RefusesUpstream m p.upstream.rest) h.meter why)
has_cause (Some Told) p c u h why = sym (ap (λ (m : Meter). m.has_ended) h.meter) ∙ why
has_cause (Some NoMem) p c u h why = tt

-- what a pair relays
pub pair_relays : (p : Pair) (c u : LinkState) → PairStands p c u → IsHearing p → AllTaken p → IsNoticed p → AreSentOn p c u → Relays p.is_dialled c u
pair_relays p c u h k t noticed sent = record {
  story = h.story;
  trouble = p.trouble;
  lawful = h.lawful;
  none = λ d. (none_of p c u h d).3;
  up_first = prefix_less (up h.story) p.client.rest c.input h.client.heard;
  up_put = λ d. prefix_less u.output p.upstream.unsent (up h.story) (up_of p c u h d).put;
  up_whole = λ d none alive room. goes_up p c u h k t sent d none alive room p.is_leaving refl;
  down_first = λ d ok. record { rest = p.upstream.rest; whole = (up_of p c u h d).all_heard (is_false p.upstream.is_missing (λ x. ok (k.upstream_whole x))); partial = t.upstream };
  down_put = prefix_less c.output p.client.unsent (puts start h.story ++ words p.trouble) h.client.put;
  down_whole = λ ok well room. goes_down p c u h k sent ok well room;
  cause = has_cause p.trouble p c u h h.cause;
  lost = λ why.
      let over : p.upstream.is_over ≡ true = is_lost p c u h why in
      let leaving : p.is_leaving ≡ true = is_true p.is_leaving (λ x. both p.upstream.is_over over (noticed x)) in
      ⊎_elim (λ n. inl n) (λ e. inr (e ∙ ap (λ (m : Meter). lost_by m.has_left) h.meter)) (k.told leaving over);
  closed_client = λ shut. ⊎_elim (λ leaving. why_closed p c u c h k leaving) (λ b. inr (inl (inr (h.client.fails b)))) (k.client_closed (sym h.client.is_open ∙ shut));
  closed_upstream = λ d shut. ⊎_elim (λ leaving. why_closed p c u u h k leaving) (λ o. inr (inr (inl ((up_of p c u h d).over o)))) (k.upstream_closed (sym (up_of p c u h d).is_open ∙ shut));
}

-- a port that has told Stop, or has failed, closes the client's link
pub relays_shut_client : (d : Bool) (c u : LinkState) → Relays d c u → Relays d (closed true c) u
relays_shut_client d c u r = record {
  story = r.story;
  trouble = r.trouble;
  lawful = r.lawful;
  none = r.none;
  up_first = r.up_first;
  up_put = r.up_put;
  up_whole = r.up_whole;
  down_first = r.down_first;
  down_put = r.down_put;
  down_whole = r.down_whole;
  cause = cause_same r.trouble r.cause;
  lost = r.lost;
  closed_client = λ x. inr (inr (inr refl));
  closed_upstream = r.closed_upstream;
}
  where
    cause_same : (t : Option Trouble) → HasCause t d r.story c u → HasCause t d r.story (closed true c) u
    cause_same None h = h
    cause_same (Some (Refused fault)) h = h
    cause_same (Some TooLarge) h = h
    cause_same (Some RelayLost) h = h
    cause_same (Some BadUpstream) h = h
    cause_same (Some Told) h = h
    cause_same (Some NoMem) h = h

-- and the link to the other server
pub relays_shut_upstream : (d : Bool) (c u : LinkState) → Relays d c u → Relays d c (closed true u)
relays_shut_upstream d c u r = record {
  story = r.story;
  trouble = r.trouble;
  lawful = r.lawful;
  none = r.none;
  up_first = r.up_first;
  up_put = r.up_put;
  up_whole = r.up_whole;
  down_first = r.down_first;
  down_put = r.down_put;
  down_whole = r.down_whole;
  cause = cause_same r.trouble r.cause;
  lost = r.lost;
  closed_client = r.closed_client;
  closed_upstream = λ d x. inr (inr (inr refl));
}
  where
    cause_same : (t : Option Trouble) → HasCause t d r.story c u → HasCause t d r.story c (closed true u)
    cause_same None h = h
    cause_same (Some (Refused fault)) h = h
    cause_same (Some TooLarge) h = h
    cause_same (Some RelayLost) h = h
    cause_same (Some BadUpstream) h = h
    cause_same (Some Told) h = h
    cause_same (Some NoMem) h = h

-- a pair without a link to the other server doesn't look at one
relays_any : (c u v : LinkState) → Relays false c u → Relays false c v
relays_any c u v r = record {
  story = r.story;
  trouble = r.trouble;
  lawful = r.lawful;
  none = r.none;
  up_first = r.up_first;
  up_put = λ d. absurd cc;
  up_whole = λ d. absurd cc;
  down_first = λ d. absurd cc;
  down_put = r.down_put;
  down_whole = r.down_whole;
  cause = cause_same r.trouble r.cause;
  lost = λ x. r.lost (inl refl);
  closed_client = λ shut. inl some;
  closed_upstream = λ d. absurd cc;
}
  where
    cause_same : (t : Option Trouble) → HasCause t false r.story c u → HasCause t false r.story c v
    cause_same None h = h
    cause_same (Some (Refused fault)) h = h
    cause_same (Some TooLarge) h = h
    cause_same (Some RelayLost) h = (h.0, inl refl)
    cause_same (Some BadUpstream) h = λ d. absurd cc
    cause_same (Some Told) h = h
    cause_same (Some NoMem) h = h

    some : r.trouble ≢ None
    some none = ⊎_elim (λ e. let bad : None ≡ Some NoMem = sym none ∙ e in absurd cc)
        (λ e. let bad : None ≡ Some RelayLost = sym none ∙ e ∙ ap (λ (m : Meter). lost_by m.has_left) (ap (after start) (r.none refl)) in absurd cc)
        (r.lost (inl refl))

-- the client's link is closed after the port had told Stop, or had failed
pub relays_closed_client : (d : Bool) (c u : ℕ) (s t : PortState) → Changes c (closed (is_over s) (s.link c)) s t → is_over s ≡ true → (d ≡ true → c ≢ u) → Relays d (s.link c) (s.link u) → Relays d (t.link c) (t.link u)
relays_closed_client d c u s t change over apart r =
    subst (λ (x : LinkState). Relays d x (t.link u)) (sym (change.this ∙ ap (λ (o : Bool). closed o (s.link c)) over)) (by_dialled d apart (relays_shut_client d (s.link c) (s.link u) r))
  where
    by_dialled : (d : Bool) → (d ≡ true → c ≢ u) → Relays d (closed true (s.link c)) (s.link u) → Relays d (closed true (s.link c)) (t.link u)
    by_dialled true apart r = subst (Relays true (closed true (s.link c))) (sym (change.others u (λ e. apart refl (sym e)))) r
    by_dialled false apart r = relays_any (closed true (s.link c)) (s.link u) (t.link u) r

-- and the link to the other server, which was dialled
pub relays_closed_upstream : (d : Bool) (c u : ℕ) (s t : PortState) → d ≡ true → Changes u (closed (is_over s) (s.link u)) s t → is_over s ≡ true → (d ≡ true → c ≢ u) → Relays d (s.link c) (s.link u) → Relays d (t.link c) (t.link u)
relays_closed_upstream d c u s t dialled change over apart r =
    subst (λ (x : LinkState). Relays d (t.link c) x) (sym (change.this ∙ ap (λ (o : Bool). closed o (s.link u)) over))
    (subst (λ (x : LinkState). Relays d x (closed true (s.link u))) (sym (change.others c (apart dialled))) (relays_shut_upstream d (s.link c) (s.link u) r))

-- ---- Commit points

-- a commit point that is let through is within the client's elapsed time
within_by : (m : Meter) (time : TimeSpec) (point : ℕ) (down : Down) (b : Bool) → nat_lt m.elapsed point ≡ b → (if b then Err (Strange point) else put (server.CommitPoint time)) ≡ Ok down → point ≤ m.elapsed
within_by m time point down true test h = absurd cc
within_by m time point down false test h = grind (arith, nat_tests)

bounded_by : (m : Meter) (time : TimeSpec) (down : Down) (o : Option ℕ) → pointed m time o ≡ Ok down → (point : ℕ) × (o ≡ Some point) × (point ≤ m.elapsed)
bounded_by m time down None h = absurd cc
bounded_by m time down (Some point) h = (point, refl, within_by m time point down (nat_lt m.elapsed point) refl h)

bounded_here : (m : Meter) (body : List ℕ) (time : TimeSpec) (down : Down) → server_in body ≡ Ok (server.CommitPoint time) → answer m body ≡ Ok down → (point : ℕ) × (nanos_of time ≡ Some point) × (point ≤ m.elapsed)
bounded_here m body time down is answered = bounded_by m time down (nanos_of time) (sym (ap (answer_of m) is) ∙ answered)

-- each commit point that a client gets is within the elapsed time of its messages that were passed on before
pub commit_points_are_bounded : (m : Meter) (past later : List Exchange) (body : List ℕ) (time : TimeSpec) → IsLawful m (past ++ Heard body ∷ later) → server_in body ≡ Ok (server.CommitPoint time) → (point : ℕ) × (nanos_of time ≡ Some point) × (point ≤ (after m past).elapsed)
commit_points_are_bounded m [] later body time h is = bounded_here m body time h.0.1.0 is h.0.1.1
commit_points_are_bounded m (x ∷ past) later body time h is = commit_points_are_bounded (next m x) past later body time h.1 is
