-- From bytes to jobs that wait.
use Rattle.std.proofs.Common.{◌≡◌, ℕ, Bool, true, false, Ok, Option, Some, None, List, [], ◌∷◌, ◌++◌, refl, sym, ap, subst, ◌∙◌, append_assoc, length, ◌≤◌}
use Rattle.std.proofs.Math.ListN.{drop_of_length-le}
use Rattle.std.proofs.Math.Seq.{drop-nil}
use Rattle.std.proofs.lemmas.List.{append-nil}
use Rattle.lsv_wire.specs.Frame.{IsPartial}
use Rattle.lsv_msg.specs.Messages.{client_in}
use Rattle.lsv_msg.specs.declared.messages.ClientMessage.{ClientMessage}
use Rattle.lsv_session.specs.Transcript.{AreJobs, AreAllJobs, HasCut, InFront}
use Rattle.lsv_session.specs.declared.job.Body.{Body}
use Rattle.lsv_session.specs.declared.job.Body.TheVariants.{Msg, Bad, Gone}
use Rattle.lsv_session.specs.declared.job.Fault.{Fault}
use Rattle.lsv_session.specs.declared.job.Fault.TheVariants.{NoMem}
use Rattle.lsv_session.proofs.Jobs.{cut_piece, cut_message, cut_rest, longer, one_list}
use Rattle.lsv_cut.specs.Cuts.{unread}
use Rattle.lsv_worker.specs.Lanes.{Routed, Routing}
use Rattle.lsv_worker.specs.Incoming.{AreBodies, Begins, Heard, Receives, IsHomed, IsWhole, Marks, SameWay, cuts, drops, has_left, may_receive, kept, last_words, pending, ready, tail, was_shut, with_piece}
use Rattle.lsv_worker.specs.declared.incoming.Incoming.{Incoming}
use Rattle.lsv_worker.specs.declared.incoming.Stage.{Stage}
use Rattle.lsv_worker.specs.declared.incoming.Stage.TheVariants.{Open, Draining, OutOfMemory, Closing, Closed}
use Rattle.lsv_worker.specs.declared.incoming.Why.{Why}
use Rattle.lsv_worker.specs.declared.incoming.Why.TheVariants.{Ended, Refused, Shut, NoMemory}
use Rattle.lsv_worker.proofs.Routes.{homed_on, homed_settle, routed_settle, routed_decided, routed_more, routed_swap}

cut_tail : (stage : Stage) → cuts stage ≡ true → tail stage ≡ []
cut_tail Open e = refl
cut_tail Draining e = refl
cut_tail OutOfMemory e = absurd cc
cut_tail (Closing why) e = absurd cc
cut_tail (Closed why) e = absurd cc

cut_bodies : (stage : Stage) (read rest : List ℕ) (b : List Body) → cuts stage ≡ true → AreBodies stage read rest b → HasCut read b rest
cut_bodies Open read rest b e h = h
cut_bodies Draining read rest b e h = h
cut_bodies OutOfMemory read rest b e h = absurd cc
cut_bodies (Closing why) read rest b e h = absurd cc
cut_bodies (Closed why) read rest b e h = absurd cc

bodies_cut : (stage : Stage) (read rest : List ℕ) (b : List Body) → cuts stage ≡ true → HasCut read b rest → AreBodies stage read rest b
bodies_cut Open read rest b e h = h
bodies_cut Draining read rest b e h = h
bodies_cut OutOfMemory read rest b e h = absurd cc
bodies_cut (Closing why) read rest b e h = absurd cc
bodies_cut (Closed why) read rest b e h = absurd cc

cut_unshut : (stage : Stage) → cuts stage ≡ true → was_shut stage ≡ false
cut_unshut Open e = refl
cut_unshut Draining e = refl
cut_unshut OutOfMemory e = absurd cc
cut_unshut (Closing why) e = absurd cc
cut_unshut (Closed why) e = absurd cc

cut_stays : (stage : Stage) → cuts stage ≡ true → has_left stage ≡ false
cut_stays Open e = refl
cut_stays Draining e = refl
cut_stays OutOfMemory e = absurd cc
cut_stays (Closing why) e = absurd cc
cut_stays (Closed why) e = absurd cc

-- while messages are cut, only the ready jobs are known to come
bare : (link : Incoming) → cuts link.stage ≡ true → pending link ≡ ready link
bare link cutting = ap (λ (t : List Body). ready link ++ t) (cut_tail link.stage cutting) ∙ append-nil (ready link)

pub cut_routed : (link : Incoming) (read : List ℕ) (put : ℕ → List Body) (marks : Marks) → cuts link.stage ≡ true → (h : Receives link read put marks) → Routed link.route put h.said (ready link)
cut_routed link read put marks cutting h = subst (Routed link.route put h.said) (bare link cutting) h.routed

pub cut_has : (link : Incoming) (read : List ℕ) (put : ℕ → List Body) (marks : Marks) → cuts link.stage ≡ true → (h : Receives link read put marks) → HasCut read (h.said ++ ready link) link.rest
cut_has link read put marks cutting h = subst (λ (p : List Body). HasCut read (h.said ++ p) link.rest) (bare link cutting) (cut_bodies link.stage read link.rest (h.said ++ pending link) cutting h.bodies)

pub cut_again : (link : Incoming) (read : List ℕ) (put : ℕ → List Body) (marks : Marks) (said : List Body) → cuts link.stage ≡ true → IsHomed link.route marks → Routed link.route put said (ready link) → (link.route.lane ≡ None → link.waiting ≡ None)
    → HasCut read (said ++ ready link) link.rest → (may_receive link.stage ≡ false → marks.over ≡ true) → Receives link read put marks
cut_again link read put marks said cutting homed routed quiet has over = record {
  said = said;
  homed = homed;
  routed = subst (Routed link.route put said) (sym (bare link cutting)) routed;
  quiet = quiet;
  bodies = bodies_cut link.stage read link.rest (said ++ pending link) cutting (subst (λ (p : List Body). HasCut read (said ++ p) link.rest) (sym (bare link cutting)) has);
  left = λ e. let no : has_left link.stage ≡ false = cut_stays link.stage cutting in absurd cc;
  shut = λ e. let no : was_shut link.stage ≡ false = cut_unshut link.stage cutting in absurd cc;
  over = over;
}

pub begins : (read rest : List ℕ) (b : List Body) → HasCut read b rest → Begins read b
begins read rest b h more jobs j = let first = h.began more jobs j in (first.0, first.1)

-- memory ran out while messages are cut
pub stage_out_of_memory : (link : Incoming) (route : Routing) → (link.route.lane ≡ None → route ≡ record link.route { lane = Some link.route.home }) → ((n : ℕ) → link.route.lane ≡ Some n → route ≡ link.route)
    → cuts link.stage ≡ true → SameWay link (record link { route = route; stage = OutOfMemory })
stage_out_of_memory link route none some cutting read put marks h =
    let routed : Routed route put h.said (ready link ++ Bad NoMem ∷ Gone ∷ []) = routed_settle link.route route put h.said (ready link) (Bad NoMem) (Gone ∷ []) none some refl refl (cut_routed link read put marks cutting h) in
    let lane : (n : ℕ) × (route.lane ≡ Some n) = routed_decided route put h.said (ready link) (Bad NoMem) (Gone ∷ []) refl routed in
    record {
      said = h.said;
      homed = homed_settle link.route route marks none some h.homed;
      routed = routed;
      quiet = λ no. let some : route.lane ≡ Some lane.0 = lane.1 in absurd cc;
      bodies = record { heard = h.said ++ ready link; are = begins read link.rest (h.said ++ ready link) (cut_has link read put marks cutting h); whole = sym (append_assoc h.said (ready link) (Bad NoMem ∷ Gone ∷ [])) };
      left = λ e. absurd cc;
      shut = λ e. absurd cc;
      over = λ e. absurd cc;
    }

-- its end comes next, for this cause
leaves : (why : Why) (link : Incoming) (route : Routing) (read : List ℕ) (put : ℕ → List Body) (marks now : Marks) → now.lanes ≡ marks.lanes → now.home ≡ marks.home → (link.route.lane ≡ None → route ≡ record link.route { lane = Some link.route.home }) → ((n : ℕ) → link.route.lane ≡ Some n → route ≡ link.route)
    → cuts link.stage ≡ true → last_words why ≡ [] → (h : Receives link read put marks) → Heard why read (h.said ++ ready link) → (was_shut (Closing why) ≡ true → now.shut ≡ true) → (may_receive (Closing why) ≡ false → now.over ≡ true)
    → Receives (record link { route = route; stage = Closing why }) read put now
leaves why link route read put marks now lanes home none some cutting last h are shut over =
    let routed : Routed route put h.said (ready link ++ Gone ∷ []) = routed_settle link.route route put h.said (ready link) Gone [] none some refl refl (cut_routed link read put marks cutting h) in
    let lane : (n : ℕ) × (route.lane ≡ Some n) = routed_decided route put h.said (ready link) Gone [] refl routed in
    let homed = homed_settle link.route route marks none some h.homed in
    record {
      said = h.said;
      homed = record { lanes = homed.lanes ∙ sym lanes; home = homed.home ∙ sym home };
      routed = routed;
      quiet = λ no. let some : route.lane ≡ Some lane.0 = lane.1 in absurd cc;
      bodies = record { heard = h.said ++ ready link; are = are; whole = sym (append_assoc h.said (ready link) (Gone ∷ [])) ∙ ap (λ (w : List Body). (h.said ++ ready link) ++ (w ++ Gone ∷ [])) (sym last) };
      left = λ e. absurd cc;
      shut = shut;
      over = over;
    }

pub shuts : (link : Incoming) (route : Routing) → (link.route.lane ≡ None → route ≡ record link.route { lane = Some link.route.home }) → ((n : ℕ) → link.route.lane ≡ Some n → route ≡ link.route)
    → cuts link.stage ≡ true → (read : List ℕ) (put : ℕ → List Body) (marks : Marks) → Receives link read put marks → Receives (record link { route = route; stage = Closing Shut }) read put (record marks { shut = true })
shuts link route none some cutting read put marks h =
    leaves Shut link route read put marks (record marks { shut = true }) refl refl none some cutting refl h (begins read link.rest (h.said ++ ready link) (cut_has link read put marks cutting h)) (λ e. refl) (λ e. absurd cc)

pub ends : (link : Incoming) (route : Routing) → (link.route.lane ≡ None → route ≡ record link.route { lane = Some link.route.home }) → ((n : ℕ) → link.route.lane ≡ Some n → route ≡ link.route)
    → link.stage ≡ Draining → IsPartial link.rest → SameWay link (record link { route = route; stage = Closing Ended })
ends link route none some stage short read put marks h =
    leaves Ended link route read put marks marks refl refl none some (ap cuts stage) refl h (cut_rest read link.rest (h.said ++ ready link) (cut_has link read put marks (ap cuts stage) h) short) (λ e. absurd cc) (λ e. h.over (ap may_receive stage))

-- no more bytes come
pub closes : (link : Incoming) → link.stage ≡ Open → (read : List ℕ) (put : ℕ → List Body) (marks : Marks) → Receives link read put marks → Receives (record link { stage = Draining }) read put (record marks { over = true })
closes link stage read put marks h =
    let cutting : cuts link.stage ≡ true = ap cuts stage in
    cut_again (record link { stage = Draining }) read put (record marks { over = true }) h.said refl (record { lanes = h.homed.lanes; home = h.homed.home }) (cut_routed link read put marks cutting h) h.quiet (cut_has link read put marks cutting h) (λ e. refl)

snoc_same : (xs ys : List Body) (x : Body) → xs ++ x ∷ [] ≡ ys ++ x ∷ [] → xs ≡ ys
snoc_same [] [] x e = refl
snoc_same [] (y ∷ []) x e = absurd (let b : x ∷ [] ≡ y ∷ x ∷ [] = e in cc)
snoc_same [] (y ∷ z ∷ ys) x e = absurd (let b : x ∷ [] ≡ y ∷ z ∷ (ys ++ x ∷ []) = e in cc)
snoc_same (y ∷ []) [] x e = absurd (let b : y ∷ x ∷ [] ≡ x ∷ [] = e in cc)
snoc_same (y ∷ z ∷ xs) [] x e = absurd (let b : y ∷ z ∷ (xs ++ x ∷ []) ≡ x ∷ [] = e in cc)
snoc_same (y ∷ xs) (z ∷ ys) x e =
    let head : y ≡ z = cc in
    let rest : xs ++ x ∷ [] ≡ ys ++ x ∷ [] = cc in
    ap (λ (h : Body). h ∷ xs) head ∙ ap (λ (t : List Body). z ∷ t) (snoc_same xs ys x rest)

begins_ended : (read : List ℕ) (heard : List Body) → AreJobs read heard → Begins read heard
begins_ended read heard h more jobs j = longer more h j

begins_all : (read : List ℕ) (heard : List Body) → AreAllJobs read heard → Begins read heard
begins_all read heard h more jobs j = ([], one_list j (h more) ∙ sym (append-nil heard))

-- memory ran out before the end was put
wants_at : (why : Why) (link : Incoming) (read : List ℕ) (put : ℕ → List Body) (marks : Marks) → last_words why ≡ [] → ((heard : List Body) → Heard why read heard → Begins read heard) → link.stage ≡ Closing why
    → Receives link read put marks → Receives (record link { stage = OutOfMemory }) read put marks
wants_at why link read put marks last begin stage h =
    let known : pending link ≡ ready link ++ Gone ∷ [] = ap (λ (s : Stage). ready link ++ tail s) stage in
    let routed : Routed link.route put h.said (ready link ++ Gone ∷ []) = subst (Routed link.route put h.said) known h.routed in
    let all : IsWhole why read (h.said ++ (ready link ++ Gone ∷ [])) = subst (λ (p : List Body). IsWhole why read (h.said ++ p)) known (subst (λ (s : Stage). AreBodies s read link.rest (h.said ++ pending link)) stage h.bodies) in
    let same : all.heard ≡ h.said ++ ready link = snoc_same all.heard (h.said ++ ready link) Gone (sym (all.whole ∙ ap (λ (w : List Body). all.heard ++ (w ++ Gone ∷ [])) last) ∙ sym (append_assoc h.said (ready link) (Gone ∷ []))) in
    record {
      said = h.said;
      homed = h.homed;
      routed = routed_swap link.route put h.said (ready link) routed;
      quiet = h.quiet;
      bodies = record { heard = h.said ++ ready link; are = subst (Begins read) same (begin all.heard all.are); whole = sym (append_assoc h.said (ready link) (Bad NoMem ∷ Gone ∷ [])) };
      left = λ e. absurd cc;
      shut = λ e. absurd cc;
      over = λ e. absurd cc;
    }

pub wants_ended : (link : Incoming) → link.stage ≡ Closing Ended → SameWay link (record link { stage = OutOfMemory })
wants_ended link stage read put marks h = wants_at Ended link read put marks refl (begins_ended read) stage h

pub wants_refused : (link : Incoming) → link.stage ≡ Closing Refused → SameWay link (record link { stage = OutOfMemory })
wants_refused link stage read put marks h = wants_at Refused link read put marks refl (begins_all read) stage h

pub wants_shut : (link : Incoming) → link.stage ≡ Closing Shut → SameWay link (record link { stage = OutOfMemory })
wants_shut link stage read put marks h = wants_at Shut link read put marks refl (λ heard begin. begin) stage h

-- ---- bytes come

pub hears_on : (link new : Incoming) (piece : List ℕ) → cuts link.stage ≡ true → new ≡ record link { rest = new.rest } → new.rest ≡ link.rest ++ piece
    → (read : List ℕ) (put : ℕ → List Body) (marks : Marks) → Receives link read put marks → Receives new (read ++ piece) put marks
hears_on link new piece cutting same rest read put marks h =
    subst (λ (l : Incoming). Receives l (read ++ piece) put marks) (sym same)
    (cut_again (record link { rest = new.rest }) (read ++ piece) put marks h.said cutting h.homed (cut_routed link read put marks cutting h) h.quiet
    (subst (HasCut (read ++ piece) (h.said ++ ready link)) (sym rest) (cut_piece read link.rest piece (h.said ++ ready link) (cut_has link read put marks cutting h))) h.over)

begins_more : (read piece : List ℕ) (heard : List Body) → Begins read heard → Begins (read ++ piece) heard
begins_more read piece heard h more jobs j = h (piece ++ more) jobs (subst (λ (b : List ℕ). AreJobs b jobs) (append_assoc read piece more) j)

heard_more : (why : Why) (read piece : List ℕ) (heard : List Body) → drops why ≡ true → Heard why read heard → Heard why (read ++ piece) heard
heard_more Ended read piece heard drop h = absurd cc
heard_more Refused read piece heard drop h = λ more. subst (λ (b : List ℕ). AreJobs b heard) (sym (append_assoc read piece more)) (h (piece ++ more))
heard_more Shut read piece heard drop h = begins_more read piece heard h
heard_more NoMemory read piece heard drop h = begins_more read piece heard h

whole_more : (why : Why) (read piece : List ℕ) (b : List Body) → drops why ≡ true → IsWhole why read b → IsWhole why (read ++ piece) b
whole_more why read piece b drop h = record { heard = h.heard; are = heard_more why read piece h.heard drop h.are; whole = h.whole }

bodies_drop : (stage : Stage) (read piece rest : List ℕ) (b : List Body) → cuts stage ≡ false → may_receive stage ≡ true → AreBodies stage read rest b → AreBodies stage (read ++ piece) rest b
bodies_drop Open read piece rest b not hear h = absurd cc
bodies_drop Draining read piece rest b not hear h = absurd cc
bodies_drop OutOfMemory read piece rest b not hear h = whole_more NoMemory read piece b refl h
bodies_drop (Closing why) read piece rest b not hear h = whole_more why read piece b hear h
bodies_drop (Closed why) read piece rest b not hear h = whole_more why read piece b hear h

-- a connection that cuts no more drops what comes
pub drops_on : (link : Incoming) (piece : List ℕ) → cuts link.stage ≡ false → may_receive link.stage ≡ true → (read : List ℕ) (put : ℕ → List Body) (marks : Marks) → Receives link read put marks → Receives link (read ++ piece) put marks
drops_on link piece not hear read put marks h = record {
  said = h.said;
  homed = h.homed;
  routed = h.routed;
  quiet = h.quiet;
  bodies = bodies_drop link.stage read piece link.rest (h.said ++ pending link) not hear h.bodies;
  left = h.left;
  shut = h.shut;
  over = h.over;
}

bodies_free : (stage : Stage) (read rest other : List ℕ) (b : List Body) → cuts stage ≡ false → AreBodies stage read rest b → AreBodies stage read other b
bodies_free Open read rest other b not h = absurd cc
bodies_free Draining read rest other b not h = absurd cc
bodies_free OutOfMemory read rest other b not h = h
bodies_free (Closing why) read rest other b not h = h
bodies_free (Closed why) read rest other b not h = h

-- if a connection cuts no more, its kept bytes don't matter
pub rest_free : (link : Incoming) (rest : List ℕ) → cuts link.stage ≡ false → SameWay link (record link { rest = rest })
rest_free link rest not read put marks h = record {
  said = h.said;
  homed = h.homed;
  routed = h.routed;
  quiet = h.quiet;
  bodies = bodies_free link.stage read link.rest rest (h.said ++ pending link) not h.bodies;
  left = h.left;
  shut = h.shut;
  over = h.over;
}

piece_by : (link : Incoming) (piece : List ℕ) (cutting : Bool) → cuts link.stage ≡ cutting → may_receive link.stage ≡ true → (read : List ℕ) (put : ℕ → List Body) (marks : Marks) → Receives link read put marks → Receives (with_piece link piece 0) (read ++ piece) put marks
piece_by link piece true cutting hear read put marks h = hears_on link (with_piece link piece 0) piece cutting refl refl read put marks h
piece_by link piece false not hear read put marks h = rest_free link (unread link.rest piece 0) not (read ++ piece) put marks (drops_on link piece not hear read put marks h)

-- a piece came
pub hears_piece : (link : Incoming) (piece : List ℕ) → may_receive link.stage ≡ true → (read : List ℕ) (put : ℕ → List Body) (marks : Marks) → Receives link read put marks → Receives (with_piece link piece 0) (read ++ piece) put marks
hears_piece link piece hear read put marks h = piece_by link piece (cuts link.stage) refl hear read put marks h

-- a link without a piece
pub no_piece : (link : Incoming) (n : ℕ) → with_piece link [] n ≡ link
no_piece link n = ap (λ (r : List ℕ). record link { rest = r }) (ap (λ (l : List ℕ). link.rest ++ l) (drop-nil n) ∙ append-nil link.rest)

-- a piece all of which is kept
pub piece_over : (link : Incoming) (piece : List ℕ) (n : ℕ) → length piece ≤ n → with_piece link piece n ≡ link
piece_over link piece n past = ap (λ (r : List ℕ). record link { rest = r }) (ap (λ (l : List ℕ). link.rest ++ l) (drop_of_length-le piece past) ∙ append-nil link.rest)

-- ---- a job was cut

-- if nothing waits but a first hello
pub alone : (link : Incoming) → link.waiting ≡ None → ready link ≡ kept link.first
alone link empty = ap (λ (w : Option Body). kept link.first ++ kept w) empty ∙ append-nil (kept link.first)

pub receives : (link new : Incoming) (body : Body) (rest : List ℕ) → link.waiting ≡ None → cuts link.stage ≡ true → new.stage ≡ link.stage → ready new ≡ kept link.first ++ body ∷ [] → (new.route.lane ≡ None → new.waiting ≡ None)
    → ((put : ℕ → List Body) (said : List Body) → Routed link.route put said (kept link.first) → Routed new.route put said (kept link.first ++ body ∷ [])) → new.route.lanes ≡ link.route.lanes → new.route.home ≡ link.route.home
    → (read : List ℕ) (put : ℕ → List Body) (marks : Marks) (h : Receives link read put marks) → HasCut read ((h.said ++ kept link.first) ++ body ∷ []) new.rest → Receives new read put marks
receives link new body rest empty cutting stage is quiet routed lanes home read put marks h has =
    cut_again new read put marks h.said (ap cuts stage ∙ cutting) (homed_on link.route new.route marks lanes home h.homed)
    (subst (Routed new.route put h.said) (sym is) (routed put h.said (subst (Routed link.route put h.said) (alone link empty) (cut_routed link read put marks cutting h))))
    quiet
    (subst (λ (r : List Body). HasCut read (h.said ++ r) new.rest) (sym is) (subst (λ (b : List Body). HasCut read b new.rest) (append_assoc h.said (kept link.first) (body ∷ [])) has))
    (λ e. h.over (sym (ap may_receive stage) ∙ e))

pub refuses : (link mid : Incoming) (fault : Fault) → link.waiting ≡ None → cuts link.stage ≡ true → ready mid ≡ kept link.first ++ Bad fault ∷ []
    → ((put : ℕ → List Body) (said : List Body) → Routed link.route put said (kept link.first) → Routed mid.route put said (kept link.first ++ Bad fault ∷ [])) → mid.route.lanes ≡ link.route.lanes → mid.route.home ≡ link.route.home
    → (read : List ℕ) (put : ℕ → List Body) (marks : Marks) (h : Receives link read put marks) → AreAllJobs read ((h.said ++ kept link.first) ++ Bad fault ∷ []) → Receives (record mid { stage = Closing Refused }) read put marks
refuses link mid fault empty cutting is routed lanes home read put marks h all =
    let to : Routed mid.route put h.said (kept link.first ++ Bad fault ∷ []) = routed put h.said (subst (Routed link.route put h.said) (alone link empty) (cut_routed link read put marks cutting h)) in
    let lane : (n : ℕ) × (mid.route.lane ≡ Some n) = routed_decided mid.route put h.said (kept link.first) (Bad fault) [] refl to in
    record {
      said = h.said;
      homed = homed_on link.route mid.route marks lanes home h.homed;
      routed = subst (λ (r : List Body). Routed mid.route put h.said (r ++ Gone ∷ [])) (sym is) (routed_more mid.route put h.said (kept link.first ++ Bad fault ∷ []) (Gone ∷ []) lane.0 lane.1 to);
      quiet = λ no. let some : mid.route.lane ≡ Some lane.0 = lane.1 in absurd cc;
      bodies = record {
        heard = h.said ++ ready mid;
        are = subst (AreAllJobs read) (append_assoc h.said (kept link.first) (Bad fault ∷ []) ∙ ap (λ (r : List Body). h.said ++ r) (sym is)) all;
        whole = sym (append_assoc h.said (ready mid) (Gone ∷ []));
      };
      left = λ e. absurd cc;
      shut = λ e. absurd cc;
      over = λ e. absurd cc;
    }

pub has_first : (link : Incoming) (read : List ℕ) (put : ℕ → List Body) (marks : Marks) → link.waiting ≡ None → cuts link.stage ≡ true → (h : Receives link read put marks) → HasCut read (h.said ++ kept link.first) link.rest
has_first link read put marks empty cutting h = subst (λ (r : List Body). HasCut read (h.said ++ r) link.rest) (alone link empty) (cut_has link read put marks cutting h)

pub cuts_message : (link new : Incoming) (message behind : List ℕ) (m : ClientMessage) → link.waiting ≡ None → cuts link.stage ≡ true → InFront message behind link.rest → client_in message ≡ Ok m → new.rest ≡ behind
    → new.stage ≡ link.stage → ready new ≡ kept link.first ++ Msg m ∷ [] → (new.route.lane ≡ None → new.waiting ≡ None)
    → ((put : ℕ → List Body) (said : List Body) → Routed link.route put said (kept link.first) → Routed new.route put said (kept link.first ++ Msg m ∷ [])) → new.route.lanes ≡ link.route.lanes → new.route.home ≡ link.route.home → SameWay link new
cuts_message link new message behind m empty cutting front is rest stage ready quiet routed lanes home read put marks h =
    receives link new (Msg m) behind empty cutting stage ready quiet routed lanes home read put marks h
    (subst (HasCut read ((h.said ++ kept link.first) ++ Msg m ∷ [])) (sym rest) (cut_message read link.rest message behind (h.said ++ kept link.first) m (has_first link read put marks empty cutting h) front is))
