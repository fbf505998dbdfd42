-- The lane of a connection, as its jobs come.
use Rattle.std.proofs.Common.{◌≡◌, ℕ, ◌==◌, Bool, true, false, Option, Some, None, List, [], ◌∷◌, ◌++◌, refl, sym, ap, subst, ◌∙◌, append_assoc}
use Rattle.std.specs.Prelude.{if◌then◌else◌}
use Rattle.lsv_session.specs.declared.job.Body.{Body}
use Rattle.lsv_session.specs.declared.job.Body.TheVariants.{Bad, Gone}
use Rattle.lsv_session.specs.declared.job.Fault.TheVariants.{NoMem}
use Rattle.lsv_links.specs.Lanes.{is_hello, lane_by, lane_of, share}
use Rattle.lsv_worker.specs.Lanes.{Routed, Routing}
use Rattle.lsv_worker.specs.Incoming.{IsHomed, Marks, kept}

first_more : (h : Bool) (l m n : ℕ) → (if h then None else Some l) ≡ Some n → Some (if h then m else l) ≡ Some n
first_more true l m n e = absurd cc
first_more false l m n e = e

-- once decided, the lane stays
pub lane_more : (lanes home n : ℕ) (xs ys : List Body) → lane_of lanes home xs ≡ Some n → lane_of lanes home (xs ++ ys) ≡ Some n
lane_more lanes home n [] ys e = absurd cc
lane_more lanes home n (x ∷ []) [] e = e
lane_more lanes home n (x ∷ []) (y ∷ ys) e = first_more (is_hello x) (lane_by lanes home x) (lane_by lanes home y) n e
lane_more lanes home n (x ∷ z ∷ xs) ys e = e

abbrev nothing : List Body
nothing = []

empty_if : (b : Bool) → (if b then nothing else nothing) ≡ nothing
empty_if true = refl
empty_if false = refl

pub share_none : (n lane : ℕ) → share (Some n) lane [] ≡ []
share_none n lane = empty_if (lane == n)

add_if : (b : Bool) (said : List Body) (x : Body) → (if b then said else nothing) ++ (if b then x ∷ [] else nothing) ≡ (if b then said ++ x ∷ [] else nothing)
add_if true said x = refl
add_if false said x = refl

pub share_add : (n lane : ℕ) (said : List Body) (x : Body) → share (Some n) lane said ++ share (Some n) lane (x ∷ []) ≡ share (Some n) lane (said ++ x ∷ [])
share_add n lane said x = add_if (lane == n) said x

hello_of : (h : Bool) (l : ℕ) → None ≡ (if h then None else Some l) → h ≡ true
hello_of true l e = refl
hello_of false l e = absurd cc

settle_list : (lanes home : ℕ) (xs : List Body) (next : Body) (more : List Body) → None ≡ lane_of lanes home xs → is_hello next ≡ false → lane_by lanes home next ≡ home → Some home ≡ lane_of lanes home (xs ++ next ∷ more)
settle_list lanes home [] next [] e not by = sym (ap (λ (b : Bool). if b then None else Some (lane_by lanes home next)) not ∙ ap (λ (n : ℕ). Some n) by)
settle_list lanes home [] next (m ∷ more) e not by = sym (ap (λ (b : Bool). Some (if b then lane_by lanes home m else lane_by lanes home next)) not ∙ ap (λ (n : ℕ). Some n) by)
settle_list lanes home (f ∷ []) next more e not by =
    let hello : is_hello f ≡ true = hello_of (is_hello f) (lane_by lanes home f) e in
    sym (ap (λ (b : Bool). Some (if b then lane_by lanes home next else lane_by lanes home f)) hello ∙ ap (λ (n : ℕ). Some n) by)
settle_list lanes home (f ∷ g ∷ xs) next more e not by = absurd cc

-- a job that is no hello decides the lane, if it isn't decided yet
lane_ends : (lanes home : ℕ) (xs : List Body) (next : Body) (more : List Body) → is_hello next ≡ false → (n : ℕ) × (lane_of lanes home (xs ++ next ∷ more) ≡ Some n)
lane_ends lanes home [] next [] not = (lane_by lanes home next, ap (λ (b : Bool). if b then None else Some (lane_by lanes home next)) not)
lane_ends lanes home [] next (m ∷ more) not = (_, refl)
lane_ends lanes home (f ∷ []) next more not = (_, refl)
lane_ends lanes home (f ∷ g ∷ xs) next more not = (_, refl)

pub routed_decided : (route : Routing) (put : ℕ → List Body) (said coming : List Body) (next : Body) (more : List Body) → is_hello next ≡ false → Routed route put said (coming ++ next ∷ more) → (n : ℕ) × (route.lane ≡ Some n)
routed_decided route put said coming next more not h =
    let ends : (n : ℕ) × (lane_of route.lanes route.home ((said ++ coming) ++ next ∷ more) ≡ Some n) = lane_ends route.lanes route.home (said ++ coming) next more not in
    (ends.0, h.lane ∙ ap (lane_of route.lanes route.home) (sym (append_assoc said coming (next ∷ more))) ∙ ends.1)

pub routed_more : (route : Routing) (put : ℕ → List Body) (said coming more : List Body) (n : ℕ) → route.lane ≡ Some n → Routed route put said coming → Routed route put said (coming ++ more)
routed_more route put said coming more n e h = record {
  to_lane = h.to_lane;
  undecided = h.undecided;
  lane = e ∙ sym (ap (lane_of route.lanes route.home) (sym (append_assoc said coming more)) ∙ lane_more route.lanes route.home n (said ++ coming) more (sym h.lane ∙ e));
}

-- the lane is decided now, and nothing was put before
decides : (route : Routing) (put : ℕ → List Body) (said coming : List Body) (n : ℕ) (new : List Body) → route.lane ≡ None → Routed route put said coming → Some n ≡ lane_of route.lanes route.home (said ++ new) → Routed (record route { lane = Some n }) put said new
decides route put said coming n new e h is =
    let quiet : said ≡ [] = h.undecided e in
    record {
      to_lane = λ lane. h.to_lane lane ∙ ap (λ (l : Option ℕ). share l lane said) e ∙ sym (ap (share (Some n) lane) quiet ∙ share_none n lane);
      undecided = λ no. let none : Some n ≡ None = no in absurd cc;
      lane = is;
    }

settle_at : (l : Option ℕ) (old new : Routing) (put : ℕ → List Body) (said coming : List Body) (next : Body) (more : List Body) → old.lane ≡ l
    → (old.lane ≡ None → new ≡ record old { lane = Some old.home }) → ((n : ℕ) → old.lane ≡ Some n → new ≡ old)
    → is_hello next ≡ false → lane_by old.lanes old.home next ≡ old.home → Routed old put said coming → Routed new put said (coming ++ next ∷ more)
settle_at None old new put said coming next more e none some not by h =
    subst (λ (r : Routing). Routed r put said (coming ++ next ∷ more)) (sym (none e))
    (decides old put said coming old.home (coming ++ next ∷ more) e h
    (settle_list old.lanes old.home (said ++ coming) next more (sym e ∙ h.lane) not by ∙ ap (lane_of old.lanes old.home) (append_assoc said coming (next ∷ more))))
settle_at (Some n) old new put said coming next more e none some not by h =
    subst (λ (r : Routing). Routed r put said (coming ++ next ∷ more)) (sym (some n e)) (routed_more old put said coming (next ∷ more) n e h)

pub routed_settle : (old new : Routing) (put : ℕ → List Body) (said coming : List Body) (next : Body) (more : List Body)
    → (old.lane ≡ None → new ≡ record old { lane = Some old.home }) → ((n : ℕ) → old.lane ≡ Some n → new ≡ old)
    → is_hello next ≡ false → lane_by old.lanes old.home next ≡ old.home → Routed old put said coming → Routed new put said (coming ++ next ∷ more)
routed_settle old new put said coming next more none some not by h = settle_at old.lane old new put said coming next more refl none some not by h

swap : (lanes home : ℕ) (xs : List Body) → lane_of lanes home (xs ++ Gone ∷ []) ≡ lane_of lanes home (xs ++ Bad NoMem ∷ Gone ∷ [])
swap lanes home [] = refl
swap lanes home (f ∷ []) = refl
swap lanes home (f ∷ g ∷ xs) = refl

-- if memory runs out instead of an end, the lane is the same
pub routed_swap : (route : Routing) (put : ℕ → List Body) (said coming : List Body) → Routed route put said (coming ++ Gone ∷ []) → Routed route put said (coming ++ Bad NoMem ∷ Gone ∷ [])
routed_swap route put said coming h = record {
  to_lane = h.to_lane;
  undecided = h.undecided;
  lane = h.lane ∙ ap (lane_of route.lanes route.home) (sym (append_assoc said coming (Gone ∷ []))) ∙ swap route.lanes route.home (said ++ coming) ∙ ap (lane_of route.lanes route.home) (append_assoc said coming (Bad NoMem ∷ Gone ∷ []));
}

-- ---- the home lane

homed_at : (l : Option ℕ) (old new : Routing) (marks : Marks) → old.lane ≡ l → (old.lane ≡ None → new ≡ record old { lane = Some old.home }) → ((n : ℕ) → old.lane ≡ Some n → new ≡ old) → IsHomed old marks → IsHomed new marks
homed_at None old new marks e none some h = record { lanes = ap (λ (r : Routing). r.lanes) (none e) ∙ h.lanes; home = ap (λ (r : Routing). r.home) (none e) ∙ h.home }
homed_at (Some n) old new marks e none some h = subst (λ (r : Routing). IsHomed r marks) (sym (some n e)) h

-- it stays if a lane is settled
pub homed_settle : (old new : Routing) (marks : Marks) → (old.lane ≡ None → new ≡ record old { lane = Some old.home }) → ((n : ℕ) → old.lane ≡ Some n → new ≡ old) → IsHomed old marks → IsHomed new marks
homed_settle old new marks none some h = homed_at old.lane old new marks refl none some h

-- it stays if its number of lanes and its home lane stay
pub homed_on : (old new : Routing) (marks : Marks) → new.lanes ≡ old.lanes → new.home ≡ old.home → IsHomed old marks → IsHomed new marks
homed_on old new marks lanes home h = record { lanes = lanes ∙ h.lanes; home = home ∙ h.home }

-- ---- a job comes

pub held_hello : (route : Routing) (first : Option Body) (body : Body) (put : ℕ → List Body) (said : List Body) → route.lane ≡ None → first ≡ None → is_hello body ≡ true → Routed route put said (kept first) → Routed route put said (kept first ++ body ∷ [])
held_hello route first body put said e none hello h =
    let quiet : said ≡ [] = h.undecided e in
    subst (λ (f : Option Body). Routed route put said (kept f ++ body ∷ [])) (sym none) (record {
      to_lane = h.to_lane;
      undecided = h.undecided;
      lane = e ∙ sym (ap (λ (s : List Body). lane_of route.lanes route.home (s ++ body ∷ [])) quiet ∙ ap (λ (b : Bool). if b then None else Some (lane_by route.lanes route.home body)) hello);
    })

by_first : (route : Routing) (body : Body) (put : ℕ → List Body) (said : List Body) → route.lane ≡ None → is_hello body ≡ false → Routed route put said [] → Routed (record route { lane = Some (lane_by route.lanes route.home body) }) put said (body ∷ [])
by_first route body put said e not h =
    decides route put said [] (lane_by route.lanes route.home body) (body ∷ []) e h
    (sym (ap (λ (s : List Body). lane_of route.lanes route.home (s ++ body ∷ [])) (h.undecided e) ∙ ap (λ (b : Bool). if b then None else Some (lane_by route.lanes route.home body)) not))

by_second : (route : Routing) (f body : Body) (put : ℕ → List Body) (said : List Body) → route.lane ≡ None → Routed route put said (f ∷ []) → Routed (record route { lane = Some (lane_by route.lanes route.home body) }) put said (f ∷ body ∷ [])
by_second route f body put said e h =
    let quiet : said ≡ [] = h.undecided e in
    let hello : is_hello f ≡ true = hello_of (is_hello f) (lane_by route.lanes route.home f) (sym e ∙ h.lane ∙ ap (λ (s : List Body). lane_of route.lanes route.home (s ++ f ∷ [])) quiet) in
    decides route put said (f ∷ []) (lane_by route.lanes route.home body) (f ∷ body ∷ []) e h
    (sym (ap (λ (s : List Body). lane_of route.lanes route.home (s ++ f ∷ body ∷ [])) quiet ∙ ap (λ (b : Bool). Some (if b then lane_by route.lanes route.home body else lane_by route.lanes route.home f)) hello))

pub decided_now : (route : Routing) (first : Option Body) (body : Body) (put : ℕ → List Body) (said : List Body) → route.lane ≡ None → (first ≡ None → is_hello body ≡ false) → Routed route put said (kept first) → Routed (record route { lane = Some (lane_by route.lanes route.home body) }) put said (kept first ++ body ∷ [])
decided_now route None body put said e not h = by_first route body put said e (not refl) h
decided_now route (Some f) body put said e not h = by_second route f body put said e h
