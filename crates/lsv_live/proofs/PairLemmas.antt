-- A pair over its links.
use Rattle.std.proofs.Common.{◌≡◌, ◌⊎◌, inl, inr, ⊎_elim, ℕ, ◌+◌, Bool, true, false, List, [], ◌∷◌, ◌++◌, length, take, Option, Some, None, refl, sym, ap, subst, ◌∙◌}
use Rattle.std.specs.Prelude.{Ok}
use Rattle.std.proofs.lemmas.List.{append-nil}
use Rattle.lsv_wire.specs.Frame.{IsMessage, frame_of}
use Rattle.lsv_port.specs.Port.{Changes, LinkState, PortState, closed, is_over}
use Rattle.lsv_live.specs.declared.end.End.{End}
use Rattle.lsv_live.specs.declared.live.Down.{Down}
use Rattle.lsv_live.specs.declared.meter.Meter.{Meter}
use Rattle.lsv_live.specs.declared.pair.Pair.{Pair}
use Rattle.lsv_live.specs.declared.trouble.Trouble.{Trouble}
use Rattle.lsv_live.specs.declared.trouble.Trouble.TheVariants.{Refused, TooLarge, RelayLost, BadUpstream, Told, NoMem}
use Rattle.lsv_live.specs.Meter.{start, judge, answer, heard_by}
use Rattle.lsv_live.specs.Story.{Exchange, Handed, Heard, after, bytes_of, frames, handed, heard, or_same, puts, up}
use Rattle.lsv_live.specs.Ends.{EndStands, EndStep, IsClosed, IsOver}
use Rattle.lsv_live.specs.Pairs.{CauseOf, IsHearing, IsNew, PairAt, PairStands, RefusesClient, RefusesUpstream, SameLinks, StatesTooMuch, Touches, UpStands, words}
use Rattle.lsv_live.proofs.EndLemmas.{end_closed}
use Rattle.lsv_live.proofs.Stories.{after_append, frames_append, frames_one, handed_append, heard_append, lawful_append, puts_append, take_frame}

-- the same of what is taken and said, told otherwise
pub ends_ext : (e : End) (s : LinkState) (taken said taken2 said2 : List ℕ) → taken ≡ taken2 → said ≡ said2 → EndStands e s taken said → EndStands e s taken2 said2
ends_ext e s taken said taken2 said2 t d h = subst (λ (x : List ℕ). EndStands e s x said2) t (subst (EndStands e s taken) d h)

-- nothing more is heard of it
pub ends_deaf : (e : End) (s : LinkState) (taken said : List ℕ) → EndStands e s taken said → EndStands (record e { is_deaf = true }) s taken said
ends_deaf e s taken said h = record { is_open = h.is_open; owed = h.owed; late = h.late; paid = h.paid; broken = h.broken; heard = h.heard; all_heard = h.all_heard; put = h.put; all_put = h.all_put; sent = h.sent; over = h.over; known = h.known; fails = h.fails }

-- a new link, of which nothing was taken and on which nothing was said
pub ends_new : (e : End) (s : LinkState) → e.is_open ≡ true → e.is_owed ≡ true → e.is_over ≡ false → e.is_broken ≡ false → e.rest ≡ [] → e.unsent ≡ [] → IsNew s → EndStands e s [] []
ends_new e s here owed over broken rest unsent n = record {
  is_open = n.is_open ∙ sym here;
  owed = n.owed ∙ sym owed;
  late = λ x. n.late;
  paid = λ x. absurd (let bad : true ≡ false = sym x ∙ n.ended in cc);
  broken = λ x. absurd (let bad : true ≡ false = sym x ∙ n.failed in cc);
  heard = ([], n.input ∙ sym (append-nil e.rest ∙ rest));
  all_heard = λ x. n.input ∙ sym rest;
  put = ([], sym (append-nil (s.output ++ e.unsent) ∙ ap (λ (x : List ℕ). x ++ e.unsent) n.output ∙ unsent));
  all_put = λ x. ap (λ (x : List ℕ). x ++ e.unsent) n.output ∙ unsent;
  sent = λ x. unsent;
  over = λ x. absurd (let bad : true ≡ false = sym x ∙ over in cc);
  known = λ x. absurd (⊎_elim (λ y. let bad : true ≡ false = sym y ∙ n.ended in cc) (λ y. let bad : true ≡ false = sym y ∙ n.failed in cc) x);
  fails = λ x. absurd (let bad : true ≡ false = sym x ∙ broken in cc);
}

-- ---- Without the port

up_deaf : (b : Bool) (p : Pair) (u : LinkState) (story : List Exchange) → UpStands b p u story → UpStands b (record p { client = record p.client { is_deaf = true }; is_leaving = true }) u story
up_deaf true p u story h = h
up_deaf false p u story h = h

cause_deaf : (t : Option Trouble) (p : Pair) (u : LinkState) → CauseOf t p u → CauseOf t (record p { client = record p.client { is_deaf = true }; is_leaving = true }) u
cause_deaf None p u h = h
cause_deaf (Some (Refused fault)) p u h = h
cause_deaf (Some TooLarge) p u h = h
cause_deaf (Some RelayLost) p u h = h
cause_deaf (Some BadUpstream) p u h = h
cause_deaf (Some Told) p u h = h
cause_deaf (Some NoMem) p u h = h

-- nothing more is passed on
pub pair_deaf : (p : Pair) (c u : LinkState) → PairStands p c u → PairStands (record p { client = record p.client { is_deaf = true }; is_leaving = true }) c u
pair_deaf p c u h = record {
  story = h.story;
  lawful = h.lawful;
  meter = h.meter;
  client = ends_deaf p.client c (up h.story) (puts start h.story ++ words p.trouble) h.client;
  upstream = up_deaf p.is_dialled p u h.story h.upstream;
  going = λ no. absurd cc;
  dialled = λ no. absurd cc;
  cause = cause_deaf p.trouble p u h.cause;
}

-- the cause of a trouble that arises is the same
pub cause_left : (t : Trouble) (p : Pair) (u : LinkState) → CauseOf (Some t) p u → CauseOf (Some t) (record p { client = record p.client { is_deaf = true }; is_leaving = true }) u
cause_left t p u h = cause_deaf (Some t) p u h

up_told : (b : Bool) (p : Pair) (x : End) (t : Option Trouble) (u : LinkState) (story : List Exchange) → UpStands b p u story → UpStands b (record p { client = x; trouble = t }) u story
up_told true p x t u story h = h
up_told false p x t u story h = h

cause_told : (t : Trouble) (p : Pair) (x : End) (u : LinkState) → x.rest ≡ p.client.rest → CauseOf (Some t) p u → CauseOf (Some t) (record p { client = x; trouble = Some t }) u
cause_told (Refused fault) p x u e h = subst (RefusesClient p.live fault) (sym e) h
cause_told TooLarge p x u e h = subst StatesTooMuch (sym e) h
cause_told RelayLost p x u e h = h
cause_told BadUpstream p x u e h = h
cause_told Told p x u e h = h
cause_told NoMem p x u e h = h

-- the client of a pair that leaves is told of a trouble
pub pair_told : (p : Pair) (client : End) (t : Trouble) (c u : LinkState) → p.trouble ≡ None → p.is_leaving ≡ true → client.rest ≡ p.client.rest
    → ((s : LinkState) (taken said : List ℕ) → EndStands p.client s taken said → EndStands client s taken (said ++ words (Some t)))
    → PairStands p c u → CauseOf (Some t) p u → PairStands (record p { client = client; trouble = Some t }) c u
pair_told p client t c u none leaving rest said h why =
    let before : EndStands p.client c (up h.story) (puts start h.story) =
    ends_ext p.client c (up h.story) (puts start h.story ++ words p.trouble) (up h.story) (puts start h.story) refl
    (ap (λ (t : Option Trouble). puts start h.story ++ words t) none ∙ append-nil (puts start h.story)) h.client in
    record {
      story = h.story;
      lawful = h.lawful;
      meter = h.meter;
      client = said c (up h.story) (puts start h.story) before;
      upstream = up_told p.is_dialled p client (Some t) u h.story h.upstream;
      going = λ no. absurd (let bad : true ≡ false = sym leaving ∙ no in cc);
      dialled = λ no. absurd (let bad : true ≡ false = sym leaving ∙ no in cc);
      cause = cause_told t p client u rest why;
    }

-- the client's next message is passed on
pub pair_handed : (p : Pair) (client upstream : End) (now : Meter) (body rest : List ℕ) (n : ℕ) (c u : LinkState) → p.is_leaving ≡ false → IsMessage body → length body ≡ n → p.client.rest ≡ frame_of body ++ rest → judge p.live body ≡ Ok now
    → ((s : LinkState) (taken said : List ℕ) → EndStands p.upstream s taken said → EndStands upstream s taken (said ++ take (4 + n) p.client.rest))
    → ((s : LinkState) (taken said : List ℕ) → EndStands p.client s taken said → EndStands client s (taken ++ take (4 + n) p.client.rest) said)
    → PairStands p c u → PairStands (record p { client = client; upstream = upstream; live = now }) c u
pair_handed p client upstream now body rest n c u going small size front judged put down h =
    let more : List Exchange = Handed body ∷ [] in
    let frame : take (4 + n) p.client.rest ≡ frame_of body = ap (take (4 + n)) front ∙ take_frame body rest n size in
    let lets : judge (after start h.story) body ≡ Ok now = ap (λ (m : Meter). judge m body) (sym h.meter) ∙ judged in
    let dialled : p.is_dialled ≡ true = h.dialled going in
    let taken : up h.story ++ take (4 + n) p.client.rest ≡ up (h.story ++ more) =
    ap (λ (x : List ℕ). up h.story ++ x) (frame ∙ sym (frames_one body)) ∙ sym (frames_append (handed h.story) (body ∷ [])) ∙ ap frames (sym (handed_append h.story more)) in
    let same : puts start h.story ≡ puts start (h.story ++ more) = sym (puts_append start h.story more ∙ append-nil (puts start h.story)) in
    let upward : EndStands p.upstream u (frames (heard h.story)) (up h.story) = subst (λ (b : Bool). UpStands b p u h.story) dialled h.upstream in
    let up_now : EndStands upstream u (frames (heard (h.story ++ more))) (up (h.story ++ more)) =
    ends_ext upstream u (frames (heard h.story)) (up h.story ++ take (4 + n) p.client.rest) (frames (heard (h.story ++ more))) (up (h.story ++ more))
    (ap frames (sym (heard_append h.story more ∙ append-nil (heard h.story)))) taken (put u (frames (heard h.story)) (up h.story) upward) in
    record {
      story = h.story ++ more;
      lawful = lawful_append start h.story more h.lawful ((small, (now, lets)), tt);
      meter = sym (after_append start h.story more ∙ ap (or_same (after start h.story)) lets);
      client = ends_ext client c (up h.story ++ take (4 + n) p.client.rest) (puts start h.story ++ words p.trouble) (up (h.story ++ more)) (puts start (h.story ++ more) ++ words p.trouble)
          taken (ap (λ (x : List ℕ). x ++ words p.trouble) same) (down c (up h.story) (puts start h.story ++ words p.trouble) h.client);
      upstream = subst (λ (b : Bool). UpStands b (record p { client = client; upstream = upstream; live = now }) u (h.story ++ more)) (sym dialled) up_now;
      going = h.going;
      dialled = h.dialled;
      cause = subst (λ (t : Option Trouble). CauseOf t (record p { client = client; upstream = upstream; live = now }) u) (sym (h.going going)) tt;
    }

-- the other server's next message is taken
pub pair_heard : (p : Pair) (client upstream : End) (down : Down) (bytes body rest : List ℕ) (n : ℕ) (c u : LinkState) → p.is_leaving ≡ false → IsMessage body → length body ≡ n → p.upstream.rest ≡ frame_of body ++ rest → answer p.live body ≡ Ok down → bytes ≡ bytes_of (Ok down)
    → ((s : LinkState) (taken said : List ℕ) → EndStands p.client s taken said → EndStands client s taken (said ++ bytes))
    → ((s : LinkState) (taken said : List ℕ) → EndStands p.upstream s taken said → EndStands upstream s (taken ++ take (4 + n) p.upstream.rest) said)
    → PairStands p c u → PairStands (record p { client = client; upstream = upstream; live = heard_by p.live body }) c u
pair_heard p client upstream down bytes body rest n c u going small size front answered put down_is up_is h =
    let more : List Exchange = Heard body ∷ [] in
    let m : Meter = after start h.story in
    let frame : take (4 + n) p.upstream.rest ≡ frame_of body = ap (take (4 + n)) front ∙ take_frame body rest n size in
    let lets : answer m body ≡ Ok down = ap (λ (m : Meter). answer m body) (sym h.meter) ∙ answered in
    let dialled : p.is_dialled ≡ true = h.dialled going in
    let none : words p.trouble ≡ [] = ap words (h.going going) in
    let same : up h.story ≡ up (h.story ++ more) = ap frames (sym (handed_append h.story more ∙ append-nil (handed h.story))) in
    let taken : frames (heard h.story) ++ take (4 + n) p.upstream.rest ≡ frames (heard (h.story ++ more)) =
    ap (λ (x : List ℕ). frames (heard h.story) ++ x) (frame ∙ sym (frames_one body)) ∙ sym (frames_append (heard h.story) (body ∷ [])) ∙ ap frames (sym (heard_append h.story more)) in
    let piece : bytes ≡ bytes_of (answer m body) = put ∙ ap bytes_of (sym lets) in
    let puts_now : puts start h.story ++ bytes_of (answer m body) ≡ puts start (h.story ++ more) =
    ap (λ (x : List ℕ). puts start h.story ++ x) (sym (append-nil (bytes_of (answer m body)))) ∙ sym (puts_append start h.story more) in
    let said : (puts start h.story ++ words p.trouble) ++ bytes ≡ puts start (h.story ++ more) ++ words p.trouble =
    ap (λ (x : List ℕ). (puts start h.story ++ x) ++ bytes) none
    ∙ ap (λ (x : List ℕ). x ++ bytes) (append-nil (puts start h.story))
    ∙ ap (λ (x : List ℕ). puts start h.story ++ x) piece
    ∙ puts_now
    ∙ sym (ap (λ (x : List ℕ). puts start (h.story ++ more) ++ x) none ∙ append-nil (puts start (h.story ++ more))) in
    let upward : EndStands p.upstream u (frames (heard h.story)) (up h.story) = subst (λ (b : Bool). UpStands b p u h.story) dialled h.upstream in
    let up_now : EndStands upstream u (frames (heard (h.story ++ more))) (up (h.story ++ more)) =
    ends_ext upstream u (frames (heard h.story) ++ take (4 + n) p.upstream.rest) (up h.story) (frames (heard (h.story ++ more))) (up (h.story ++ more)) taken same
    (up_is u (frames (heard h.story)) (up h.story) upward) in
    let q : Pair = record p { client = client; upstream = upstream; live = heard_by p.live body } in
    record {
      story = h.story ++ more;
      lawful = lawful_append start h.story more h.lawful ((small, (down, lets)), tt);
      meter = ap (λ (m : Meter). heard_by m body) h.meter ∙ sym (after_append start h.story more);
      client = ends_ext client c (up h.story) ((puts start h.story ++ words p.trouble) ++ bytes) (up (h.story ++ more)) (puts start (h.story ++ more) ++ words p.trouble)
          same said (down_is c (up h.story) (puts start h.story ++ words p.trouble) h.client);
      upstream = subst (λ (b : Bool). UpStands b q u (h.story ++ more)) (sym dialled) up_now;
      going = h.going;
      dialled = h.dialled;
      cause = subst (λ (t : Option Trouble). CauseOf t q u) (sym (h.going going)) tt;
    }

-- a pair of two new links
pub pair_new : (p : Pair) (c u : LinkState) → EndStands p.client c [] [] → EndStands p.upstream u [] [] → p.live ≡ start → p.is_dialled ≡ true → p.is_leaving ≡ false → p.trouble ≡ None → PairStands p c u
pair_new p c u client upstream live dialled going none = record {
  story = [];
  lawful = tt;
  meter = live;
  client = subst (λ (t : Option Trouble). EndStands p.client c [] (words t)) (sym none) client;
  upstream = subst (λ (b : Bool). UpStands b p u []) (sym dialled) upstream;
  going = λ is. none;
  dialled = λ is. dialled;
  cause = subst (λ (t : Option Trouble). CauseOf t p u) (sym none) tt;
}

-- a new link of a client for which none was dialled
pub pair_alone : (p : Pair) (c u : LinkState) → EndStands p.client c [] [] → p.upstream.is_open ≡ false → p.upstream.unsent ≡ [] → p.upstream.is_over ≡ true → p.live ≡ start → p.is_dialled ≡ false → p.is_leaving ≡ true → p.trouble ≡ None → PairStands p c u
pair_alone p c u client shut unsent over live dialled leaving none = record {
  story = [];
  lawful = tt;
  meter = live;
  client = subst (λ (t : Option Trouble). EndStands p.client c [] (words t)) (sym none) client;
  upstream = subst (λ (b : Bool). UpStands b p u []) (sym dialled) (shut, unsent, over, refl);
  going = λ is. none;
  dialled = λ is. absurd (let bad : true ≡ false = sym leaving ∙ is in cc);
  cause = subst (λ (t : Option Trouble). CauseOf t p u) (sym none) tt;
}

-- ---- Over the port

-- if there is no link to the other server, its state is of no matter
pub up_other : (b : Bool) (p : Pair) (u v : LinkState) (story : List Exchange) → (b ≡ true → v ≡ u) → UpStands b p u story → UpStands b p v story
up_other true p u v story same h = subst (λ (x : LinkState). UpStands true p x story) (sym (same refl)) h
up_other false p u v story same h = h

pub cause_other : (t : Option Trouble) (p : Pair) (u v : LinkState) → (p.is_dialled ≡ true → v ≡ u) → CauseOf t p u → CauseOf t p v
cause_other None p u v same h = h
cause_other (Some (Refused fault)) p u v same h = h
cause_other (Some TooLarge) p u v same h = h
cause_other (Some RelayLost) p u v same h = (h.0, ⊎_elim (λ none. inl none) (λ is. dialled_or p.is_dialled refl is) h.1)
  where
    dialled_or : (b : Bool) → p.is_dialled ≡ b → IsOver u → (p.is_dialled ≡ false) ⊎ IsOver v
    dialled_or true e is = inr (subst IsOver (sym (same e)) is)
    dialled_or false e is = inl e
cause_other (Some BadUpstream) p u v same h = h
cause_other (Some Told) p u v same h = h
cause_other (Some NoMem) p u v same h = h

up_client : (b : Bool) (p : Pair) (e : End) (u : LinkState) (story : List Exchange) → UpStands b p u story → UpStands b (record p { client = e }) u story
up_client true p e u story h = h
up_client false p e u story h = h

cause_client : (t : Option Trouble) (p : Pair) (e : End) (u : LinkState) → (t ≡ None) ⊎ (e.rest ≡ p.client.rest) → CauseOf t p u → CauseOf t (record p { client = e }) u
cause_client None p e u same h = h
cause_client (Some (Refused fault)) p e u same h = ⊎_elim (λ no. absurd cc) (λ rest. subst (RefusesClient p.live fault) (sym rest) h) same
cause_client (Some TooLarge) p e u same h = ⊎_elim (λ no. absurd cc) (λ rest. subst StatesTooMuch (sym rest) h) same
cause_client (Some RelayLost) p e u same h = h
cause_client (Some BadUpstream) p e u same h = h
cause_client (Some Told) p e u same h = h
cause_client (Some NoMem) p e u same h = h

-- a step of the client's end
pub pair_client : (p : Pair) (e : End) (s t : PortState) → EndStep p.client e s t → (p.trouble ≡ None) ⊎ (e.rest ≡ p.client.rest) → PairAt p s → PairAt (record p { client = e }) t
pair_client p e s t step rest h =
    let c : LinkState = s.link p.client.number in
    let u : LinkState = s.link p.upstream.number in
    let v : LinkState = t.link p.upstream.number in
    let same : p.is_dialled ≡ true → v ≡ u = λ d. step.alone.others p.upstream.number (λ is. h.apart d (sym is)) in
    let k : PairStands p c u = h.stands in
    let now : EndStands e (t.link p.client.number) (up k.story) (puts start k.story ++ words p.trouble) = step.goes (up k.story) (puts start k.story ++ words p.trouble) k.client in
    record {
      apart = λ d is. h.apart d (sym step.number ∙ is);
      stands = subst (λ (n : ℕ). PairStands (record p { client = e }) (t.link n) v) (sym step.number) (record {
        story = k.story;
        lawful = k.lawful;
        meter = k.meter;
        client = now;
        upstream = up_other p.is_dialled (record p { client = e }) u v k.story same (up_client p.is_dialled p e u k.story k.upstream);
        going = k.going;
        dialled = k.dialled;
        cause = cause_other p.trouble (record p { client = e }) u v same (cause_client p.trouble p e u rest k.cause);
      });
    }

-- a step of the link to the other server, which was dialled
pub pair_upstream : (p : Pair) (e : End) (s t : PortState) → p.is_dialled ≡ true → EndStep p.upstream e s t → CauseOf p.trouble (record p { upstream = e }) (t.link p.upstream.number) → PairAt p s → PairAt (record p { upstream = e }) t
pair_upstream p e s t dialled step cause h =
    let c : LinkState = s.link p.client.number in
    let u : LinkState = s.link p.upstream.number in
    let k : PairStands p c u = h.stands in
    let same : t.link p.client.number ≡ c = step.alone.others p.client.number (h.apart dialled) in
    let was : EndStands p.upstream u (frames (heard k.story)) (up k.story) = subst (λ (b : Bool). UpStands b p u k.story) dialled k.upstream in
    let now : EndStands e (t.link p.upstream.number) (frames (heard k.story)) (up k.story) = step.goes (frames (heard k.story)) (up k.story) was in
    record {
      apart = λ d is. h.apart d (is ∙ step.number);
      stands = subst (λ (n : ℕ). PairStands (record p { upstream = e }) (t.link p.client.number) (t.link n)) (sym step.number) (subst (λ (x : LinkState). PairStands (record p { upstream = e }) x (t.link p.upstream.number)) (sym same) (record {
        story = k.story;
        lawful = k.lawful;
        meter = k.meter;
        client = k.client;
        upstream = subst (λ (b : Bool). UpStands b (record p { upstream = e }) (t.link p.upstream.number) k.story) (sym dialled) now;
        going = k.going;
        dialled = k.dialled;
        cause = cause;
      }));
    }

-- an open link to the other server was dialled
dialled_when : (b : Bool) (p : Pair) (u : LinkState) (story : List Exchange) → p.upstream.is_open ≡ true → UpStands b p u story → b ≡ true
dialled_when true p u story here h = refl
dialled_when false p u story here h = absurd (let no : true ≡ false = sym here ∙ h.0 in cc)

pub dialled_open : (p : Pair) (s : PortState) → PairAt p s → p.upstream.is_open ≡ true → p.is_dialled ≡ true
dialled_open p s h here = dialled_when p.is_dialled p (s.link p.upstream.number) h.stands.story here h.stands.upstream

cause_closed : (t : Option Trouble) (p : Pair) (e : End) (late : Bool) (u : LinkState) → e.rest ≡ p.upstream.rest → CauseOf t p u → CauseOf t (record p { upstream = e }) (closed late u)
cause_closed None p e late u rest h = h
cause_closed (Some (Refused fault)) p e late u rest h = h
cause_closed (Some TooLarge) p e late u rest h = h
cause_closed (Some RelayLost) p e late u rest h = h
cause_closed (Some BadUpstream) p e late u rest h = subst (RefusesUpstream p.live) (sym rest) h
cause_closed (Some Told) p e late u rest h = h
cause_closed (Some NoMem) p e late u rest h = h

-- the link to the other server is closed
pub pair_up_closed : (p : Pair) (e : End) (s t : PortState) → p.upstream.is_open ≡ true → IsClosed p.upstream e → Changes p.upstream.number (closed (is_over s) (s.link p.upstream.number)) s t → PairAt p s → PairAt (record p { upstream = e }) t
pair_up_closed p e s t here c change h =
    pair_upstream p e s t (dialled_open p s h here) (end_closed p.upstream e s t here c change)
    (subst (CauseOf p.trouble (record p { upstream = e })) (sym change.this) (cause_closed p.trouble p e (is_over s) (s.link p.upstream.number) c.rest h.stands.cause)) h

-- a step of the link to the other server before the pair leaves
pub pair_going : (p : Pair) (e : End) (s t : PortState) → p.is_leaving ≡ false → EndStep p.upstream e s t → PairAt p s → PairAt (record p { upstream = e }) t
pair_going p e s t going step h =
    pair_upstream p e s t (h.stands.dialled going) step (subst (λ (x : Option Trouble). CauseOf x (record p { upstream = e }) (t.link p.upstream.number)) (sym (h.stands.going going)) tt) h

pub touches_here : (p : Pair) (s : PortState) → Touches p p s s
touches_here p s = record { client = refl; upstream = refl; dialled = refl; others = λ m a b. refl; opened = refl; stopped = refl; failed = refl }

pub touches_then : (p q r : Pair) (s t u : PortState) → Touches p q s t → Touches q r t u → Touches p r s u
touches_then p q r s t u x y = record {
  client = y.client ∙ x.client;
  upstream = y.upstream ∙ x.upstream;
  dialled = y.dialled ∙ x.dialled;
  others = λ m a b. y.others m (λ e. a (e ∙ x.client)) (λ e. b (e ∙ x.upstream)) ∙ x.others m a b;
  opened = y.opened ∙ x.opened;
  stopped = y.stopped ∙ x.stopped;
  failed = y.failed ∙ x.failed;
}

-- what is done without the port
pub pair_goes : (p q : Pair) (s : PortState) → SameLinks p q → ((c u : LinkState) → PairStands p c u → PairStands q c u) → PairAt p s → PairAt q s
pair_goes p q s same goes h = record {
  apart = λ d e. h.apart (sym same.dialled ∙ d) (sym same.client ∙ e ∙ same.upstream);
  stands = subst (λ (n : ℕ). PairStands q (s.link n) (s.link q.upstream.number)) (sym same.client) (subst (λ (n : ℕ). PairStands q (s.link p.client.number) (s.link n)) (sym same.upstream) (goes (s.link p.client.number) (s.link p.upstream.number) h.stands));
}

-- a step of the client's end, of which nothing is taken after the pair leaves
pub pair_read : (p : Pair) (e : End) (s t : PortState) → EndStep p.client e s t → (p.is_leaving ≡ true → e.rest ≡ p.client.rest) → PairAt p s → PairAt (record p { client = e }) t
pair_read p e s t step rest h = pair_client p e s t step (by_leaving p.is_leaving refl) h
  where
    by_leaving : (b : Bool) → p.is_leaving ≡ b → (p.trouble ≡ None) ⊎ (e.rest ≡ p.client.rest)
    by_leaving true is = inr (rest is)
    by_leaving false is = inl (h.stands.going is)

-- what the pair hears stays what it was after a step of the link to the other server, before the pair leaves
pub hearing_up : (p : Pair) (e : End) → p.is_leaving ≡ false → IsHearing p → e.is_deaf ≡ p.upstream.is_deaf → e.is_missing ≡ p.upstream.is_missing
    → ((e.is_cut ≡ p.upstream.is_cut) × (e.is_open ≡ p.upstream.is_open)) ⊎ ((e.is_open ≡ false) × (e.is_over ≡ true)) → (p.upstream.is_over ≡ true → e.is_over ≡ true) → IsHearing (record p { upstream = e })
hearing_up p e going k deaf missing lost stays = record {
  client = k.client;
  upstream = λ x. deaf ∙ k.upstream x;
  client_whole = k.client_whole;
  upstream_whole = λ x. k.upstream_whole (sym missing ∙ x);
  deaf = k.deaf;
  going = k.going;
  why = λ x. leaves x;
  client_closed = k.client_closed;
  upstream_closed = λ x. ⊎_elim (λ same. ⊎_elim (λ l. inl l) (λ o. inr (stays o)) (k.upstream_closed (sym same.1 ∙ x))) (λ shut. inr shut.1) lost;
  client_cut = k.client_cut;
  upstream_cut = λ x. ⊎_elim (λ same. ⊎_elim (λ s. inl (same.1 ∙ s)) (λ n. inr n) (k.upstream_cut (sym same.0 ∙ x))) (λ shut. inl shut.0) lost;
  quiet = k.quiet;
  told = λ x. leaves x;
  finished = λ x. leaves x;
}
  where
    leaves : {A : Type 0} → p.is_leaving ≡ true → A
    leaves x = absurd (let bad : true ≡ false = sym x ∙ going in cc)
