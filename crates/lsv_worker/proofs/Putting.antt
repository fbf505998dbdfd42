-- Jobs that are put to a lane.
use Rattle.std.proofs.Common.{◌≡◌, ◌≢◌, ◌⊎◌, ℕ, ◌==◌, Bool, true, false, Option, Some, None, List, [], ◌∷◌, ◌++◌, map, refl, sym, ap, subst, ◌∙◌, append_assoc, inl, inr, ⊎_elim, arith}
use Rattle.std.specs.Prelude.{if◌then◌else◌, ◌&&◌}
use Rattle.std.specs.Option.{unwrap_or}
use Rattle.std.proofs.lemmas.Bool.{cases_order}
use Rattle.std.proofs.lemmas.Bool.Decides.{nat_tests}
use Rattle.std.proofs.lemmas.List.{append-nil, map-append}
use Rattle.lsv_session.specs.Connections.{same}
use Rattle.lsv_session.specs.declared.connection.ConnId.{ConnId}
use Rattle.lsv_session.specs.declared.job.Body.{Body}
use Rattle.lsv_session.specs.declared.job.Body.TheVariants.{Bad, Gone}
use Rattle.lsv_session.specs.declared.job.Fault.TheVariants.{NoMem}
use Rattle.lsv_session.specs.declared.job.Job.{Job}
use Rattle.lsv_links.specs.Lanes.{lane_of, share}
use Rattle.lsv_worker.specs.Lanes.{Routed, Routing, job_of, lane_or_home}
use Rattle.lsv_worker.specs.Incoming.{AreBodies, Receives, IsHomed, Marks, Puts, SameWay, has_left, may_receive, kept, pending, ready, tail, was_shut}
use Rattle.lsv_worker.specs.declared.incoming.Incoming.{Incoming}
use Rattle.lsv_worker.specs.declared.incoming.Stage.{Stage}
use Rattle.lsv_worker.specs.declared.incoming.Stage.TheVariants.{OutOfMemory, Closing, Closed}
use Rattle.lsv_worker.specs.declared.incoming.Why.{Why}
use Rattle.lsv_worker.specs.declared.incoming.Why.TheVariants.{NoMemory}
use Rattle.lsv_worker.proofs.Routes.{routed_decided, share_add}

pub same_or_not : (j i : ℕ) → (j ≡ i) ⊎ (j ≢ i)
same_or_not j i = ⊎_elim (λ e. inl e) (λ h. inr (⊎_elim (λ lt. λ e. omega arith) (λ gt. λ e. omega arith) h)) (cases_order j i)

own : (k : ℕ) → (k == k) ≡ true
own k = grind (arith, nat_tests)

other : (k m : ℕ) → k ≢ m → (k == m) ≡ false
other k m ne = grind (arith, nat_tests)

pub same_self : (c : ConnId) → same c c ≡ true
same_self c = ap (λ (b : Bool). b && (c.seq == c.seq)) (own c.worker) ∙ own c.seq

pub hears_ext : (link : Incoming) (read : List ℕ) (p q : ℕ → List Body) (marks : Marks) → ((lane : ℕ) → p lane ≡ q lane) → Receives link read q marks → Receives link read p marks
hears_ext link read p q marks same h = record {
  said = h.said;
  homed = h.homed;
  routed = record { to_lane = λ lane. same lane ∙ h.routed.to_lane lane; undecided = h.routed.undecided; lane = h.routed.lane };
  quiet = h.quiet;
  bodies = h.bodies;
  left = h.left;
  shut = h.shut;
  over = h.over;
}

put_routed : (route : Routing) (past : ℕ → List Body) (said coming : List Body) (x : Body) (n : ℕ) → route.lane ≡ Some n → Routed route past said (x ∷ coming) → Routed route (λ m. past m ++ share (Some n) m (x ∷ [])) (said ++ x ∷ []) coming
put_routed route past said coming x n e h = record {
  to_lane = λ m. ap (λ (p : List Body). p ++ share (Some n) m (x ∷ [])) (h.to_lane m ∙ ap (λ (l : Option ℕ). share l m said) e) ∙ share_add n m said x ∙ ap (λ (l : Option ℕ). share l m (said ++ x ∷ [])) (sym e);
  undecided = λ no. let some : route.lane ≡ Some n = e in absurd cc;
  lane = h.lane ∙ ap (lane_of route.lanes route.home) (sym (append_assoc said (x ∷ []) coming));
}

-- the first of the pending jobs is put
pub put_one : (old new : Incoming) (x : Body) (n : ℕ) → pending old ≡ x ∷ pending new → new.route ≡ old.route
    → ((read : List ℕ) (b : List Body) → AreBodies old.stage read old.rest b → AreBodies new.stage read new.rest b)
    → ((has_left old.stage ≡ true → ready old ≡ []) → has_left new.stage ≡ true → ready new ≡ []) → (was_shut new.stage ≡ true → was_shut old.stage ≡ true) → (may_receive new.stage ≡ false → may_receive old.stage ≡ false)
    → (read : List ℕ) (past : ℕ → List Body) (marks : Marks) → old.route.lane ≡ Some n → Receives old read past marks → Receives new read (λ m. past m ++ share (Some n) m (x ∷ [])) marks
put_one old new x n known route bodies left shut over read past marks e h = record {
  said = h.said ++ x ∷ [];
  homed = subst (λ (r : Routing). IsHomed r marks) (sym route) h.homed;
  routed = subst (λ (r : Routing). Routed r (λ m. past m ++ share (Some n) m (x ∷ [])) (h.said ++ x ∷ []) (pending new)) (sym route)
      (put_routed old.route past h.said (pending new) x n e (subst (Routed old.route past h.said) known h.routed));
  quiet = λ no. let none : old.route.lane ≡ None = ap (λ (r : Routing). r.lane) (sym route) ∙ no in absurd cc;
  bodies = bodies read ((h.said ++ x ∷ []) ++ pending new) (subst (AreBodies old.stage read old.rest) (ap (λ (p : List Body). h.said ++ p) known ∙ sym (append_assoc h.said (x ∷ []) (pending new))) h.bodies);
  left = left h.left;
  shut = λ s. h.shut (shut s);
  over = λ o. h.over (over o);
}

pub lane_is : (route : Routing) (n : ℕ) → route.lane ≡ Some n → route.lane ≡ Some (lane_or_home route)
lane_is route n e = e ∙ sym (ap (λ (l : Option ℕ). Some (unwrap_or l route.home)) e)

pub some_lane : (l : Option ℕ) → l ≢ None → (n : ℕ) × (l ≡ Some n)
some_lane None not = absurd (not refl)
some_lane (Some n) not = (n, refl)

-- ---- what an inbox does

lane_put : (c : ConnId) (n m : ℕ) (x : Body) (before after : ℕ → List Job) → (m ≡ n) ⊎ (m ≢ n) → after n ≡ before n ++ job_of c x ∷ [] → ((m : ℕ) → m ≢ n → after m ≡ before m) → after m ≡ before m ++ map (job_of c) (share (Some n) m (x ∷ []))
lane_put c n m x before after (inl e) this others =
    subst (λ (k : ℕ). after k ≡ before k ++ map (job_of c) (share (Some n) k (x ∷ []))) (sym e)
    (this ∙ sym (ap (λ (b : Bool). before n ++ map (job_of c) (if b then x ∷ [] else [])) (own n)))
lane_put c n m x before after (inr ne) this others =
    others m ne ∙ sym (append-nil (before m)) ∙ sym (ap (λ (b : Bool). before m ++ map (job_of c) (if b then x ∷ [] else [])) (other m n ne))

pub puts_one : (c : ConnId) (old new : Incoming) (n : ℕ) (x : Body) (before after : ℕ → List Job) → after n ≡ before n ++ job_of c x ∷ [] → ((m : ℕ) → m ≢ n → after m ≡ before m)
    → ((read : List ℕ) (past : ℕ → List Body) (marks : Marks) → Receives old read past marks → Receives new read (λ m. past m ++ share (Some n) m (x ∷ [])) marks) → Puts c old new before after
puts_one c old new n x before after this others goes = record {
  added = λ m. share (Some n) m (x ∷ []);
  put = λ m. lane_put c n m x before after (same_or_not m n) this others;
  goes = goes;
}

pub unput : (n : ℕ) (before after : ℕ → List Job) → after n ≡ before n → ((m : ℕ) → m ≢ n → after m ≡ before m) → (m : ℕ) → after m ≡ before m
unput n before after this others m = ⊎_elim (λ e. subst (λ (k : ℕ). after k ≡ before k) (sym e) this) (λ ne. others m ne) (same_or_not m n)

pub puts_none : (c : ConnId) (old new : Incoming) (before after : ℕ → List Job) → ((m : ℕ) → after m ≡ before m) → SameWay old new → Puts c old new before after
puts_none c old new before after same goes = record {
  added = λ m. [];
  put = λ m. same m ∙ sym (append-nil (before m));
  goes = λ read past marks h. hears_ext new read (λ m. past m ++ []) past marks (λ m. append-nil (past m)) (goes read past marks h);
}

pub puts_then : (c : ConnId) (a b d : Incoming) (p q r : ℕ → List Job) → Puts c a b p q → Puts c b d q r → Puts c a d p r
puts_then c a b d p q r s t = record {
  added = λ m. s.added m ++ t.added m;
  put = λ m. t.put m ∙ ap (λ (l : List Job). l ++ map (job_of c) (t.added m)) (s.put m) ∙ append_assoc (p m) (map (job_of c) (s.added m)) (map (job_of c) (t.added m))
      ∙ ap (λ (l : List Job). p m ++ l) (sym (map-append (job_of c) (s.added m) (t.added m)));
  goes = λ read past marks h. hears_ext d read (λ m. past m ++ (s.added m ++ t.added m)) (λ m. (past m ++ s.added m) ++ t.added m) marks (λ m. sym (append_assoc (past m) (s.added m) (t.added m)))
      (t.goes read (λ m. past m ++ s.added m) marks (s.goes read past marks h));
}

-- ---- the jobs that wait

first_head : (link : Incoming) (x : Body) → link.first ≡ Some x → pending link ≡ x ∷ pending (record link { first = None })
first_head link x e = ap (λ (f : Option Body). (kept f ++ kept link.waiting) ++ tail link.stage) e

waiting_head : (link : Incoming) (x : Body) → link.first ≡ None → link.waiting ≡ Some x → pending link ≡ x ∷ pending (record link { waiting = None })
waiting_head link x none e =
    ap (λ (f : Option Body). (kept f ++ kept link.waiting) ++ tail link.stage) none ∙ ap (λ (w : Option Body). kept w ++ tail link.stage) e
    ∙ sym (ap (λ (f : Option Body). x ∷ ((kept f ++ []) ++ tail link.stage)) none)

ready_none : (link : Incoming) → link.first ≡ None → link.waiting ≡ None → ready link ≡ []
ready_none link none empty = ap (λ (f : Option Body). kept f ++ kept link.waiting) none ∙ ap kept empty

first_waits : (link : Incoming) (x : Body) → link.first ≡ Some x → ready link ≡ [] → ⊥
first_waits link x e none =
    let some : x ∷ kept link.waiting ≡ [] = sym (ap (λ (f : Option Body). kept f ++ kept link.waiting) e) ∙ none in cc

job_waits : (link : Incoming) (x : Body) → link.first ≡ None → link.waiting ≡ Some x → ready link ≡ [] → ⊥
job_waits link x first e none =
    let some : x ∷ [] ≡ [] = sym (ap (λ (f : Option Body). kept f ++ kept link.waiting) first ∙ ap kept e) ∙ none in cc

-- if a job waits, its lane is decided
quiet_lane : (l : Option ℕ) (w : Option Body) (x : Body) → w ≡ Some x → (l ≡ None → w ≡ None) → (n : ℕ) × (l ≡ Some n)
quiet_lane None w x e quiet = absurd (let none : w ≡ None = quiet refl in cc)
quiet_lane (Some n) w x e quiet = (n, refl)

pub offers_first : (link : Incoming) (x : Body) → link.first ≡ Some x → link.route.lane ≢ None → (read : List ℕ) (past : ℕ → List Body) (marks : Marks) → Receives link read past marks
    → Receives (record link { first = None }) read (λ m. past m ++ share (Some (lane_or_home link.route)) m (x ∷ [])) marks
offers_first link x e decided read past marks h =
    let lane : (n : ℕ) × (link.route.lane ≡ Some n) = some_lane link.route.lane decided in
    put_one link (record link { first = None }) x (lane_or_home link.route) (first_head link x e) refl (λ read b a. a) (λ was l. absurd (first_waits link x e (was l))) (λ s. s) (λ o. o) read past marks (lane_is link.route lane.0 lane.1) h

pub offers : (link : Incoming) (x : Body) → link.waiting ≡ Some x → ((n : ℕ) → link.route.lane ≡ Some n → link.first ≡ None) → (read : List ℕ) (past : ℕ → List Body) (marks : Marks) → Receives link read past marks
    → Receives (record link { waiting = None }) read (λ m. past m ++ share (Some (lane_or_home link.route)) m (x ∷ [])) marks
offers link x e first read past marks h =
    let lane : (n : ℕ) × (link.route.lane ≡ Some n) = quiet_lane link.route.lane link.waiting x e h.quiet in
    put_one link (record link { waiting = None }) x (lane_or_home link.route) (waiting_head link x (first lane.0 lane.1) e) refl (λ read b a. a) (λ was l. absurd (job_waits link x (first lane.0 lane.1) e (was l))) (λ s. s) (λ o. o) read past marks (lane_is link.route lane.0 lane.1) h

tail_head : (link : Incoming) (stage : Stage) (x : Body) → link.first ≡ None → link.waiting ≡ None → tail link.stage ≡ x ∷ tail stage → pending link ≡ x ∷ pending (record link { stage = stage })
tail_head link stage x none empty e =
    let quiet : ready link ≡ [] = ready_none link none empty in
    ap (λ (r : List Body). r ++ tail link.stage) quiet ∙ e ∙ sym (ap (λ (r : List Body). x ∷ (r ++ tail stage)) quiet)

starved_bodies : (old : Stage) (read rest : List ℕ) (b : List Body) → old ≡ OutOfMemory → AreBodies old read rest b → AreBodies (Closing NoMemory) read rest b
starved_bodies old read rest b e h = subst (λ (s : Stage). AreBodies s read rest b) e h

left_bodies : (old : Stage) (why : Why) (read rest : List ℕ) (b : List Body) → old ≡ Closing why → AreBodies old read rest b → AreBodies (Closed why) read rest b
left_bodies old why read rest b e h = let l : AreBodies (Closing why) read rest b = subst (λ (s : Stage). AreBodies s read rest b) e h in l

pub tells_starved : (link : Incoming) → link.stage ≡ OutOfMemory → link.waiting ≡ None → ((n : ℕ) → link.route.lane ≡ Some n → link.first ≡ None) → (read : List ℕ) (past : ℕ → List Body) (marks : Marks) → Receives link read past marks
    → Receives (record link { stage = Closing NoMemory }) read (λ m. past m ++ share (Some (lane_or_home link.route)) m (Bad NoMem ∷ [])) marks
tells_starved link stage empty first read past marks h =
    let lane : (n : ℕ) × (link.route.lane ≡ Some n) = routed_decided link.route past h.said (ready link) (Bad NoMem) (Gone ∷ []) refl (subst (λ (s : Stage). Routed link.route past h.said (ready link ++ tail s)) stage h.routed) in
    put_one link (record link { stage = Closing NoMemory }) (Bad NoMem) (lane_or_home link.route) (tail_head link (Closing NoMemory) (Bad NoMem) (first lane.0 lane.1) empty (ap tail stage)) refl
    (λ read b a. starved_bodies link.stage read link.rest b stage a) (λ was l. absurd cc) (λ s. absurd cc) (λ o. absurd cc) read past marks (lane_is link.route lane.0 lane.1) h

pub leaves_now : (link : Incoming) (why : Why) → link.stage ≡ Closing why → link.waiting ≡ None → ((n : ℕ) → link.route.lane ≡ Some n → link.first ≡ None) → (read : List ℕ) (past : ℕ → List Body) (marks : Marks) → Receives link read past marks
    → Receives (record link { stage = Closed why }) read (λ m. past m ++ share (Some (lane_or_home link.route)) m (Gone ∷ [])) marks
leaves_now link why stage empty first read past marks h =
    let lane : (n : ℕ) × (link.route.lane ≡ Some n) = routed_decided link.route past h.said (ready link) Gone [] refl (subst (λ (s : Stage). Routed link.route past h.said (ready link ++ tail s)) stage h.routed) in
    put_one link (record link { stage = Closed why }) Gone (lane_or_home link.route) (tail_head link (Closed why) Gone (first lane.0 lane.1) empty (ap tail stage)) refl
    (λ read b a. left_bodies link.stage why read link.rest b stage a) (λ was l. ready_none link (first lane.0 lane.1) empty) (λ s. ap was_shut stage ∙ s) (λ o. ap may_receive stage ∙ o) read past marks (lane_is link.route lane.0 lane.1) h

-- a job that was returned waits again
pub first_back : (link : Incoming) (f : Option Body) → f ≡ link.first → SameWay link (record link { first = f })
first_back link f e read put marks h = subst (λ (v : Option Body). Receives (record link { first = v }) read put marks) (sym e) h

pub waiting_back : (link : Incoming) (w : Option Body) → w ≡ link.waiting → SameWay link (record link { waiting = w })
waiting_back link w e read put marks h = subst (λ (v : Option Body). Receives (record link { waiting = v }) read put marks) (sym e) h
