-- How a connection that has ended stands.
use Rattle.std.proofs.Common.{◌≡◌, ◌⊎◌, ℕ, suc, ◌<◌, Bool, true, false, Option, Some, List, [], ◌∷◌, ◌++◌, length, get_or, refl, sym, ap, subst, ◌∙◌, append_assoc, ⊎_elim, inl, inr, arith}
use Rattle.std.specs.Prelude.{◌&&◌, ◌%◌, not}
use Rattle.std.proofs.lemmas.List.{append-nil}
use Rattle.lsv_port.specs.Port.{LinkState, PortState}
use Rattle.lsv_session.specs.Transcript.{answers, bodies_of}
use Rattle.lsv_session.specs.declared.connection.ConnId.{ConnId}
use Rattle.lsv_session.specs.declared.job.Body.{Body}
use Rattle.lsv_session.specs.declared.job.Body.TheVariants.{Gone}
use Rattle.lsv_session.specs.declared.job.Job.{Job}
use Rattle.lsv_session.specs.declared.reply.Reply.{Reply}
use Rattle.lsv_worker.specs.Incoming.{AreBodies, IsHomed, IsWhole, Marks, has_left, may_receive, last_words, pending, tail, was_shut}
use Rattle.lsv_links.specs.Lanes.{lane_of, share}
use Rattle.lsv_worker.specs.Lanes.{Routed, Routing, lane_on}
use Rattle.lsv_worker.specs.Links.{IsAtHome, LinkStands, is_done}
use Rattle.lsv_worker.specs.Outgoing.{HasEarlyShut, kept_up}
use Rattle.lsv_worker.specs.Tells.{Ends, IsCauseOf, HasNoInput}
use Rattle.lsv_worker.specs.Worker.{AreLast, HaveLeft, IsIn, IsMade, Setting, Stands, conn_at}
use Rattle.lsv_worker.specs.declared.incoming.Stage.{Stage}
use Rattle.lsv_worker.specs.declared.incoming.Stage.TheVariants.{Open, Draining, OutOfMemory, Closing, Closed}
use Rattle.lsv_worker.specs.declared.incoming.Why.{Why}
use Rattle.lsv_worker.specs.declared.incoming.Why.TheVariants.{Ended, Refused, Shut, NoMemory}
use Rattle.lsv_worker.specs.declared.link.Link.{Link}
use Rattle.lsv_worker.specs.declared.link.Phase.{Phase}
use Rattle.lsv_worker.proofs.Routes.{routed_decided}
use Rattle.lsv_worker.proofs.Speaking.{speaks_prefix}

why_of : (stage : Stage) → has_left stage ≡ true → (why : Why) × (stage ≡ Closed why)
why_of Open e = absurd cc
why_of Draining e = absurd cc
why_of OutOfMemory e = absurd cc
why_of (Closing why) e = absurd cc
why_of (Closed why) e = (why, refl)

cause_of : (why : Why) (phase : Phase) (c : ConnId) (s : LinkState) (replies : List Reply) → (may_receive (Closed why) ≡ false → HasNoInput phase c s replies) → (was_shut (Closed why) ≡ true → HasEarlyShut c replies) → IsCauseOf why phase c s replies
cause_of Ended phase c s replies over shut = over refl
cause_of Refused phase c s replies over shut = tt
cause_of Shut phase c s replies over shut = shut refl
cause_of NoMemory phase c s replies over shut = tt

-- a list that ends with a Gone decides the lane
whole_routed : (link : Link) (put : ℕ → List Body) (said heard last : List Body) → said ≡ heard ++ (last ++ Gone ∷ []) → Routed link.incoming.route put said [] → (n : ℕ) × (link.incoming.route.lane ≡ Some n)
whole_routed link put said heard last whole h =
    routed_decided link.incoming.route (λ m. share link.incoming.route.lane m []) [] (heard ++ last) Gone [] refl
    (record {
      to_lane = λ m. refl;
      undecided = λ e. refl;
      lane = h.lane ∙ ap (λ (l : List Body). lane_on link.incoming.route l) (append-nil said ∙ whole ∙ sym (append_assoc heard last (Gone ∷ [])));
    })

-- the lane of a connection is that of its number's home lane
decided_lane : (route : Routing) (marks : Marks) (n : ℕ) (c : ConnId) (said : List Body) → IsHomed route marks → IsAtHome n c marks → lane_on route said ≡ lane_of n (c.seq % n) said
decided_lane route marks n c said homed home =
    ap (λ (l : ℕ). lane_of l route.home said) (homed.lanes ∙ home.lanes) ∙ ap (λ (x : ℕ). lane_of n x said) (homed.home ∙ home.home)

-- no more bytes of a link come
heard_out : (n : ℕ) (phase : Phase) (link : Link) (s : LinkState) (put : ℕ → List Body) (replies : List Reply) → (h : LinkStands n phase link s put replies) → h.marks.over ≡ true → HasNoInput phase link.conn s replies
heard_out n phase link s put replies h over = record {
  may_end = h.may_end over;
  own_cause = λ dead early. ⊎_elim (λ e. inl e) (λ k. inr (⊎_elim (λ f. inl f) (λ r. inr (⊎_elim (λ m. inl (h.told m)) (λ p. inr p) r)) k)) (h.own_cause over dead early);
}

pub link_ends : (n : ℕ) (phase : Phase) (link : Link) (s : LinkState) (jobs : ℕ → List Job) (replies : List Reply) → link.shut ≡ true → has_left link.incoming.stage ≡ true → LinkStands n phase link s (λ m. bodies_of link.conn (jobs m)) replies → Ends n phase link.conn s jobs replies
link_ends n phase link s jobs replies shut left h =
    let why : (w : Why) × (link.incoming.stage ≡ Closed w) = why_of link.incoming.stage left in
    let none : pending link.incoming ≡ [] = ap (λ (r : List Body). r ++ tail link.incoming.stage) (h.inward.left left) ∙ ap tail why.1 in
    let all : IsWhole why.0 s.input h.inward.said = subst (IsWhole why.0 s.input) (ap (λ (p : List Body). h.inward.said ++ p) none ∙ append-nil h.inward.said)
    (subst (λ (g : Stage). AreBodies g s.input link.incoming.rest (h.inward.said ++ pending link.incoming)) why.1 h.inward.bodies) in
    let routed : Routed link.incoming.route (λ m. bodies_of link.conn (jobs m)) h.inward.said [] = subst (Routed link.incoming.route (λ m. bodies_of link.conn (jobs m)) h.inward.said) none h.inward.routed in
    let lane : (k : ℕ) × (link.incoming.route.lane ≡ Some k) = whole_routed link (λ m. bodies_of link.conn (jobs m)) h.inward.said all.heard (last_words why.0) all.whole routed in
    record {
      why = why.0;
      said = h.inward.said;
      whole = all;
      cause = cause_of why.0 phase link.conn s replies (λ e. heard_out n phase link s (λ m. bodies_of link.conn (jobs m)) replies h (h.inward.over (ap may_receive why.1 ∙ e))) (λ e. h.told (h.inward.shut (ap was_shut why.1 ∙ e)));
      lane = lane.0;
      decided = sym (decided_lane link.incoming.route h.marks n link.conn h.inward.said h.inward.homed h.home) ∙ sym (ap (λ (l : List Body). lane_on link.incoming.route l) (append-nil h.inward.said)) ∙ sym routed.lane ∙ lane.1;
      put = λ m. h.inward.routed.to_lane m ∙ ap (λ (l : Option ℕ). share l m h.inward.said) lane.1;
      output = speaks_prefix link.outgoing s.output (answers link.conn replies) h.outward;
      shut = h.shut shut;
    }

done_left : (live shut left kept : Bool) → ((not live && (shut && left)) && kept) ≡ true → (shut ≡ true) × (left ≡ true)
done_left true shut left kept e = absurd cc
done_left false true true kept e = (refl, refl)
done_left false true false kept e = absurd cc
done_left false false left kept e = absurd cc

table_left : (last : ℕ → Link) (s : Setting) (k : ℕ) (links : List Link) → AreLast last s links → ((i : ℕ) (d : Link) → i < length links → ((get_or links i d).shut ≡ true) × (has_left (get_or links i d).incoming.stage ≡ true)) → IsIn k links → ((last k).shut ≡ true) × (has_left (last k).incoming.stage ≡ true)
table_left last s k [] t h within = absurd within
table_left last s k (x ∷ links) t h within =
    ⊎_elim (λ e. subst (λ (l : Link). (l.shut ≡ true) × (has_left l.incoming.stage ≡ true)) (sym (ap last (sym e) ∙ t.1)) (h 0 x (omega arith)))
    (λ r. table_left last s k links t.3 (λ i d low. h (suc i) d (omega arith)) r) within

done_or_not : (b : Bool) → (b ≡ true) ⊎ (b ≡ false)
done_or_not true = inl refl
done_or_not false = inr refl

pub each_ends : (s : Setting) (links : List Link) (port : PortState) (jobs : ℕ → List Job) (replies : List Reply) → HaveLeft links → (h : Stands s links port jobs replies) → (k : ℕ) → IsMade s k → Ends s.lanes s.phase (conn_at s k) (port.link (h.last k).number) jobs replies
each_ends s links port jobs replies left h k made =
    let is : ((h.last k).shut ≡ true) × (has_left (h.last k).incoming.stage ≡ true) =
    ⊎_elim (λ done. done_left (h.last k).live (h.last k).shut (has_left (h.last k).incoming.stage) (kept_up (h.last k).outgoing.sending) done) (λ undone. table_left h.last s k links h.table left (h.complete k made undone)) (done_or_not (is_done (h.last k))) in
    subst (λ (c : ConnId). Ends s.lanes s.phase c (port.link (h.last k).number) jobs replies) (h.conn k made) (link_ends s.lanes s.phase (h.last k) (port.link (h.last k).number) jobs replies is.0 is.1 (h.each k made))
