-- A run of `serve`: its ports as endpoints, its bays, its links, its end, and a run that did nothing.
use Rattle.std.proofs.Common.{◌≡◌, ◌≤◌, ◌<◌, ◌+◌, ◌∷◌, inl, inr, [], List, ℕ, Bool, zero, suc, Option, Some, None, map, length, true, refl, sym, ap, subst, ◌∙◌, append-nil, arith}
use Rattle.std.specs.List.{Contains, insert, remove}
use Rattle.std.specs.Prelude.{option_map, slice_get}
use Rattle.std.proofs.Math.ListN.{get_or, set}
use Rattle.std.proofs.lemmas.List.{length-map}
use Rattle.std.proofs.lemmas.Option.{get_or_from_slice_get, slice_get-get_or, slice_get-map, slice_get_within}
use Rattle.lsv_conf.specs.Lines.{Placed, first_refused}
use Rattle.lsv_conf.specs.Settings as conf
use Rattle.lsv_event.specs.declared.event.Kind.{Kind}
use Rattle.lsv_disk.specs.View.{DiskView, Image, IsCrashImage, IsLeftAlone}
use Rattle.lsv_machine.specs.Disks.{NumbersFit}
use Rattle.lsv_machine.specs.Machine.{Settings}
use Rattle.lsv_turn.specs.Turns.{LaneTurn, TapeTurn, jobs_in, replies_in}
use Rattle.lsv_keeper.specs.Reading.{reading_of}
use Rattle.lsv_keeper.specs.declared.fault.StoreFault.{StoreFault}
use Rattle.lsv_lane.specs.Store.{IsFresh, lane_settings}
use Rattle.lsv_lane.proofs.Conforming.{keeps_less}
use Rattle.lsv_session.specs.declared.job.Job.{Job}
use Rattle.lsv_lanes.specs.Jobs.{ArePut, CameTo}
use Rattle.lsv_lanes.proofs.Jobs.{put_jobs, served_jobs}
use Rattle.lsv_links.specs.Links.{PutsPrefixes, ServesPort, ServesPorts}
use Rattle.lsv_links.specs.Views.{PortFailed, PortView}
use Rattle.lsv_port.specs.Ledger.{Listening, WasAsked}
use Rattle.lsv_reactor.specs.Served.{HasPortsEnd}
use Rattle.lsv_reactor.proofs.Own.{EqOr.equal, EqOr.unequal, eq_or}
use Rattle.lsv_reactor.proofs.Places.{set_here, set_there}
use Rattle.lsv_reactor.specs.declared.endpoint.Endpoint
use Rattle.lsv_reactor.specs.declared.rounds.PortsEnd.{PortsEnd}
use Rattle.lsv_reactor.specs.declared.rounds.PortsEnd.TheVariants.{Stopped, Failed}
use Rattle.lsv_threads.specs.Served.{ServesLanes}
use Rattle.lsv_service.specs.Lanes.{AreFreshBays, BayView, IsUnopened, KeepPlaces, LeavesLinks, OpensSome, RunsLanes, RunsServer}
use Rattle.lsv_service.specs.Runs.{IsUp, ListenAt, ListenFailed, RunsStore}
use Rattle.lsv_service.proofs.CompleteLemmas.{completes_lanes}
use Rattle.lsv_service.proofs.Keeping.{came_none, keep_apart}
use Rattle.lsv_service.proofs.Places.{there_at}
use Rattle.lsv_service.specs.declared.run.End.{End}
use Rattle.lsv_service.specs.declared.run.End.TheVariants as ends
use Rattle.lsv_serve.specs.declared.status.Status.{Status}
use Rattle.lsv_serve.specs.Causes.{HasPlaces, HavePlaces, HavePlacesAt, LaneMayServe, MayServeLanes}
use Rattle.lsv_serve.specs.InnerServe.{nothing, port_at}
use Rattle.lsv_serve.specs.Program.{lines_in, listening_by, prompts_of, set_by}
use Rattle.lsv_serve.specs.Serve.{ArePlaced, ArePortsEnded, CompletesLinks, EndsPorts, HasLaneCause, HasServeCause, KeepLanesApart, RunsAs, RunsServe, RunsTo, ServerWorld, ServesAs, ServesPart, kept_by, machines_of, told}
use Rattle.lsv_serve.proofs.ProgramLemmas.{Unread}
use Rattle.lsv_service.proofs.Idle.{keeps_nothing}
use Rattle.lsv_serve.proofs.StartLemmas.{alone_same, alone_trans, fit_kept, fits_after, fresh_after, store_cause_before}

-- ---- Lists

-- one of a list through a function is that of one of the list
record Through {A B : Type 0} (f : A → B) (xs : List A) (i : ℕ) (y : B) : Type 0 where
  x : A
  at : slice_get xs i ≡ Some x
  is : f x ≡ y

one_of : {A : Type 0} (x y : A) → Some x ≡ Some y → x ≡ y
one_of x y e = cc

through : {A B : Type 0} (f : A → B) (xs : List A) (i : ℕ) (y : B) → slice_get (map f xs) i ≡ Some y → Through f xs i y
through {A} f xs i y e = go (slice_get xs i) refl
  where
    go : (o : Option A) → slice_get xs i ≡ o → Through f xs i y
    go None at = absurd (let h : Some y ≡ None = sym e ∙ (slice_get-map f xs i ∙ ap (option_map f) at) in cc)
    go (Some x) at = record { x = x; at = at; is = one_of (f x) y (sym (slice_get-map f xs i ∙ ap (option_map f) at) ∙ e) }

mapped : {A B : Type 0} (f : A → B) (xs : List A) (i : ℕ) (x : A) → slice_get xs i ≡ Some x → slice_get (map f xs) i ≡ Some (f x)
mapped f xs i x e = slice_get-map f xs i ∙ ap (option_map f) e

-- what stands at one place of a list is one value
pub same_one : {A : Type 0} (xs : List A) (i : ℕ) (x y : A) → slice_get xs i ≡ Some x → slice_get xs i ≡ Some y → x ≡ y
same_one xs i x y e f = one_of x y (sym e ∙ f)

-- a list of as many has one at the same place
there : {A : Type 0} (xs ys : List A) (i : ℕ) (x : A) → length ys ≡ length xs → slice_get xs i ≡ Some x → slice_get ys i ≡ Some (get_or ys i x)
there xs ys i x same e = let within : i < length xs = slice_get_within xs i x e in slice_get-get_or ys i x (omega (arith, within, same))

-- a list with one more at its front; and its front beside the rest
pub inserted : {A : Type 0} (xs : List A) (x : A) → insert xs 0 x ≡ x ∷ xs
inserted [] x = refl
inserted (y ∷ xs) x = refl

pub together : {A : Type 0} (xs ys : List A) (x : A) → 1 ≤ length xs → x ≡ get_or xs 0 x → ys ≡ remove xs 0 → x ∷ ys ≡ xs
together [] ys x some is rest = absurd (omega (arith, some))
together (y ∷ xs) ys x some is rest = ap (λ (a : _). a ∷ ys) is ∙ ap (λ (l : List _). y ∷ l) rest

-- what is said of each of a list and of that at its place in another, where one of the other was written
pub set_pairs : {A : Type 0} (P : ℕ → A → A → Type 0) (olds news : List A) (place : ℕ) (y : A) → place < length news → ((old : A) → slice_get olds place ≡ Some old → P place old y)
    → ((i : ℕ) (old new : A) → slice_get olds i ≡ Some old → slice_get news i ≡ Some new → P i old new) → (i : ℕ) (old new : A) → slice_get olds i ≡ Some old → slice_get (set news place y) i ≡ Some new → P i old new
set_pairs {A} P olds news place y less here all i old new e f = elim (eq_or i place) [
  | equal p t ↦
      let at : slice_get (set news place y) place ≡ Some new = subst (λ (k : ℕ). slice_get (set news place y) k ≡ Some new) p f in
      subst (λ (k : ℕ). P k old new) (sym p) (subst (P place old) (sym (set_here news place y new at less)) (here old (subst (λ (k : ℕ). slice_get olds k ≡ Some old) p e)))
  | unequal ne t ↦ all i old new e (set_there news place i y new ne f)
]

-- and of each below the place and of that
pub set_below : {A : Type 0} (P : A → Type 0) (xs : List A) (place : ℕ) (y : A) → place < length xs → P y → ((i : ℕ) (x : A) → i < place → slice_get xs i ≡ Some x → P x) → (i : ℕ) (x : A) → i < place + 1 → slice_get (set xs place y) i ≡ Some x → P x
set_below {A} P xs place y less here all i x below e = elim (eq_or i place) [
  | equal p t ↦ subst P (sym (set_here xs place y x (subst (λ (k : ℕ). slice_get (set xs place y) k ≡ Some x) p e) less)) here
  | unequal ne t ↦ all i x (omega (arith, below, ne)) (set_there xs place i y x ne e)
]

-- one number beside another
data Beside (l m : ℕ) : Type 0 where
  lower : l < m → Beside l m
  level : l ≡ m → Beside l m
  higher : m < l → Beside l m

beside : (l m : ℕ) → Beside l m
beside zero zero = level refl
beside zero (suc m) = lower (omega arith)
beside (suc l) zero = higher (omega arith)
beside (suc l) (suc m) = elim (beside l m) [ lower h ↦ lower (omega (arith, h)) | level e ↦ level (ap suc e) | higher h ↦ higher (omega (arith, h)) ]

-- ---- The links

-- what endpoints were asked, their ports were asked
ports_listen : {T : Type 0} (view : T → PortView) (asked : Listening) (posts posts' : List T) → ListenAt view asked posts posts' → ListenAt (λ port. port) asked (map view posts) (map view posts')
ports_listen view asked posts posts' at w before after e f =
    let t = through view posts w before e in
    let u = through view posts' w after f in
    subst (λ (p : PortView). WasAsked asked (ListenFailed p after) p.ledger after.ledger) t.is (subst (λ (p : PortView). WasAsked asked (ListenFailed (view t.x) p) (view t.x).ledger p.ledger) u.is (at w t.x u.x t.at u.at))

-- endpoints that served ports, from a world to another. starts: from where they began, which are the ports of the first
module _ {T X : Type 0} (words : Endpoint.Ghosts T) (starts : ℕ → words.Start) (lanes : ℕ) (old new : ServerWorld X) (posts : List T) (turns : ℕ → List LaneTurn) (tells : old.ports_tell → words.tells) (begun : (w : ℕ) → words.begun (starts w) ≡ port_at old.ports w)
    (same : length posts ≡ length old.ports) (is : map words.view posts ≡ new.ports) where
  abbrev Served : ℕ → PortView → PortView → Type 0
  Served w before after = ServesPort (λ l. old.disk_tells) lanes w (λ l. jobs_in (turns l)) (λ l. replies_in (turns l)) before after

  abbrev Put : ℕ → PortView → PortView → Type 0
  Put w before after = PutsPrefixes lanes w (λ l. jobs_in (turns l)) (λ l. replies_in (turns l)) before after

  counted : length new.ports ≡ length old.ports
  counted = ap length (sym is) ∙ length-map posts words.view ∙ same

  -- what is said of each endpoint and of where it began, is said of the ports
  each_port : (Holds : ℕ → PortView → PortView → Type 0) → ((i : ℕ) (post : T) → slice_get posts i ≡ Some post → Holds i (words.begun (starts i)) (words.view post))
      → (w : ℕ) (before after : PortView) → slice_get old.ports w ≡ Some before → slice_get new.ports w ≡ Some after → Holds w before after
  each_port Holds each w before after e f =
      let t : Through words.view posts w after = through words.view posts w after (subst (λ (ports : List PortView). slice_get ports w ≡ Some after) (sym is) f) in
      let at : words.begun (starts w) ≡ before = begun w ∙ get_or_from_slice_get old.ports w before nothing e in
      subst (λ (p : PortView). Holds w before p) t.is (subst (λ (p : PortView). Holds w p (words.view t.x)) at (each w t.x t.at))

  -- each job is of the worker of a port
  of_ports : ((l : ℕ) (job : Job) → Contains (jobs_in (turns l)) job → job.conn.worker < length posts) → (l : ℕ) (job : Job) → Contains (jobs_in (turns l)) job → job.conn.worker < length old.ports
  of_ports within l job c = let less : job.conn.worker < length posts = within l job c in subst (λ (n : ℕ). job.conn.worker < n) same less

  ended_so : (end : PortsEnd) → HasPortsEnd words.tells words.begun words.view starts posts end → ArePortsEnded old.ports_tell old.ports new.ports end
  ended_so Stopped stopped = λ told i port e.
      let t : Through words.view posts i port = through words.view posts i port (subst (λ (ports : List PortView). slice_get ports i ≡ Some port) (sym is) e) in
      subst (λ (p : PortView). p.state.stopped ≡ true) t.is (stopped (tells told) i t.x t.at)
  ended_so Failed (i, (post, at, failed)) =
      let less : i < length old.ports = subst (λ (n : ℕ). i < n) same (slice_get_within posts i post at) in
      let since : PortFailed (port_at old.ports i) (words.view post) = subst (λ (p : PortView). PortFailed p (words.view post)) (begun i) failed in
      (i, (port_at old.ports i, words.view post, slice_get-get_or old.ports i nothing less, subst (λ (ports : List PortView). slice_get ports i ≡ Some (words.view post)) is (mapped words.view posts i post at), since))

  served_ports : (end : PortsEnd) → ServesLanes words old.disk_tells lanes starts posts turns end → old.ports_tell → ServesPorts (λ l. old.disk_tells) lanes turns old.ports new.ports
  served_ports end s told = record { count = counted; each = each_port Served (s.each (tells told)); known = of_ports s.within }

  -- how they leave the ports. before: the endpoints as they were
  module _ (asked : Listening) (before : List T) (was : map words.view before ≡ old.ports) where
    listened : ListenAt words.view asked before posts → ListenAt (λ port. port) asked old.ports new.ports
    listened at =
        subst (λ (ports : List PortView). ListenAt (λ port. port) asked ports new.ports) was
        (subst (λ (ports : List PortView). ListenAt (λ port. port) asked (map words.view before) ports) is (ports_listen words.view asked before posts at))

    untouched : posts ≡ before → new.ports ≡ old.ports
    untouched e = sym is ∙ ap (map words.view) e ∙ was

    pub leaves_ports : (end : End) → LeavesLinks words old.disk_tells lanes starts asked before posts turns end → EndsPorts lanes asked old new turns end
    leaves_ports (ends.Over ports) (at, all) = record { listens = λ told. listened (at (tells told)); served = served_ports ports all; ended = ended_so ports all.ended }
    leaves_ports (ends.Store fault) e = untouched e
    leaves_ports ends.NoMem (inl (none, e)) = inl (record { none = none; ports = untouched e })
    leaves_ports ends.NoMem (inr (at, put)) = inr (record { listens = λ told. listened (at (tells told)); served = λ told. record { count = counted; each = each_port Put (put.each (tells told)); known = of_ports put.within } })

-- ---- The bays

module _ {X : Type 0} (view : X → BayView) where
  pub bays_same : (told : Type 0) (bays : List X) → ArePlaced view told bays bays
  bays_same told bays = record {
    count = refl;
    alone = λ l old new e f. subst (λ (b : X). IsLeftAlone told (view old).disk (view b).disk) (same_one bays l old new e f) (alone_same told (view old).disk);
    tape = λ l old new e f. ap (λ (b : X). (view b).tape) (sym (same_one bays l old new e f));
  }

  placed_trans : (told : Type 0) (olds mids news : List X) → ArePlaced view told olds mids → ArePlaced view told mids news → ArePlaced view told olds news
  placed_trans told olds mids news first second = record {
    count = second.count ∙ first.count;
    alone = λ l old new e f.
        let at = there olds mids l old first.count e in
        let mid : X = get_or mids l old in
        alone_trans told (view old).disk (view mid).disk (view new).disk (first.alone l old mid e at) (second.alone l mid new at f);
    tape = λ l old new e f.
        let at = there olds mids l old first.count e in
        let mid : X = get_or mids l old in
        second.tape l mid new at f ∙ first.tape l old mid e at;
  }

  -- bays whose disks may serve may do so when these have other places
  pub fresh_placed : (told : Type 0) (lanes : ℕ) (olds news : List X) → told → ArePlaced view told olds news → AreFreshBays view lanes olds → AreFreshBays view lanes news
  fresh_placed told lanes olds news tells placed fresh l new below is =
      let at = there news olds l new (sym placed.count) is in
      let old : X = get_or olds l new in
      fresh_after (view old).disk (view new).disk ((placed.alone l old new at is).untouched tells) l lanes (fresh l old below at)

  -- and that of the first of them
  pub first_fresh : (bays : List X) (bay : X) → slice_get bays 0 ≡ Some bay → AreFreshBays view 1 bays → IsFresh 0 1 (view bay).disk
  first_fresh bays bay at fresh = fresh 0 bay (omega arith) at

  -- the bays of a run keep the places that they were given
  pub places_kept : (logs events : List ℕ) (olds news : List X) → length news ≡ length olds → KeepPlaces view olds news → HavePlaces view logs events olds → HavePlaces view logs events news
  places_kept logs events olds news count keep have l new is =
      let at = there news olds l new (sym count) is in
      let old : X = get_or olds l new in
      let kept = keep l old new at is in
      elim (have l old at) [ inl given ↦ inl (kept ∙ given) | inr none ↦ inr (kept ∙ none) ]

  pub places_same : (bays : List X) → KeepPlaces view bays bays
  places_same bays l old new e f = ap (λ (b : X). (view b).disk.places) (sym (same_one bays l old new e f))

-- ---- A run that did nothing

-- a store of any number of lanes that wasn't opened, since nothing was done
pub idle_store : (tells taping : Type 0) (set : Settings) (texts : List (List ℕ)) (disk : DiskView) (tape : List TapeTurn) → (tells → (image : Image) → disk.crash_images_at disk.moment image → IsCrashImage disk image)
    → RunsStore tells taping set texts disk disk tape tape ends.NoMem []
idle_store tells taping set texts disk tape only_now = record {
  some = tt;
  timed = tt;
  answered = λ some. absurd (some refl);
  entry = λ fault e. absurd (cc);
  taped = λ told. sym (append-nil tape);
  keeps = λ told. keeps_less ⊥ (IsUp ends.NoMem []) set texts (record { found = disk; left = disk }) [] (λ up. up refl) (keeps_nothing disk (only_now told) set texts);
}

idle_lanes : {X : Type 0} (view : X → BayView) (tells taping : Type 0) (set : ℕ → Settings) (texts : List (List ℕ)) (lanes : ℕ) (bays : List X) → (tells → (bay : X) (image : Image) → (view bay).disk.crash_images_at (view bay).disk.moment image → IsCrashImage (view bay).disk image)
    → RunsLanes view tells taping set texts lanes bays bays ends.NoMem (λ l. [])
idle_lanes {X} view tells taping set texts lanes bays only_now = record {
  count = refl;
  opened = 0;
  some = omega arith;
  past = λ l beyond. refl;
  idle = λ unopened l. refl;
  taken = λ l. (record { words = 0; slots = 0; views_name = 0; atom = 0; block = 0; offset = 0; slot_names = [] }, tt);
  kept = λ l found left below. absurd (omega (arith, below));
  unopened = λ found left below was is.
      subst (λ (b : X). IsUnopened tells taping (set 0) texts 0 lanes (view found) (view b) ends.NoMem) (same_one bays 0 found left was is)
      (record { run = idle_store tells taping (set 0) texts (view found).disk (view found).tape (λ told. only_now told found); cause = λ fault e. absurd (cc); tape = λ fault e. absurd (cc) });
  beside = λ l found left apart was is. same_one bays l left found is was;
}

-- memory ran out before anything was done, and the ports are as they were
pub idle_run : {X : Type 0} (set : ℕ → Settings) (texts : List (List ℕ)) (lanes : ℕ) (asked : Listening) (old : ServerWorld X) (ports : List PortView) → (old.disk_tells → (bay : X) (image : Image) → (old.view bay).disk.crash_images_at (old.view bay).disk.moment image → IsCrashImage (old.view bay).disk image)
    → ports ≡ old.ports → RunsTo set texts lanes asked old (record old { ports = ports }) ends.NoMem
idle_run set texts lanes asked old ports only_now same = record {
  turns = λ l. [];
  placed = old.bays;
  are_placed = bays_same old.view old.disk_tells old.bays;
  stores = idle_lanes old.view old.disk_tells old.tape_tells set texts lanes old.bays only_now;
  links = inl (record { none = λ l. refl; ports = same });
  order = λ less. same;
}

-- ---- Its end

-- what lsv_service says of a run, is said of the ports and the bays. before, posts: the ports as endpoints, before the run and after it
pub runs_to : {T X : Type 0} {words : Endpoint.Ghosts T} {starts : ℕ → words.Start} (set : ℕ → Settings) (texts : List (List ℕ)) (lanes : ℕ) (asked : Listening) (old new : ServerWorld X) (before posts : List T) (end : End)
    → RunsServer words old.view old.disk_tells old.tape_tells set texts lanes starts asked before posts old.bays new.bays end → (old.ports_tell → words.tells) → ((w : ℕ) → words.begun (starts w) ≡ port_at old.ports w)
    → map words.view before ≡ old.ports → map words.view posts ≡ new.ports → RunsTo set texts lanes asked old new end
runs_to {words = words} {starts = starts} set texts lanes asked old new before posts end r tells begun was is = record {
  turns = r.turns;
  placed = old.bays;
  are_placed = bays_same old.view old.disk_tells old.bays;
  stores = r.stores;
  links = leaves_ports words starts lanes old new posts r.turns tells begun (r.count ∙ (sym (length-map before words.view) ∙ ap length was)) is asked before was end r.links;
  order = λ less. sym is ∙ (ap (map words.view) (r.order less) ∙ was);
}

-- what is said of a run from the bays with their places, is said of it from the bays before
pub run_before : {X : Type 0} (set : ℕ → Settings) (texts : List (List ℕ)) (lanes : ℕ) (asked : Listening) (old new : ServerWorld X) (bays : List X) (end : End) → ArePlaced old.view old.disk_tells old.bays bays → RunsTo set texts lanes asked (record old { bays = bays }) new end → RunsTo set texts lanes asked old new end
run_before set texts lanes asked old new bays end placed r = record {
  turns = r.turns;
  placed = r.placed;
  are_placed = placed_trans old.view old.disk_tells old.bays bays r.placed placed r.are_placed;
  stores = r.stores;
  links = left end r.links;
  order = r.order;
}
  where
    left : (how : End) → EndsPorts lanes asked (record old { bays = bays }) new r.turns how → EndsPorts lanes asked old new r.turns how
    left (ends.Over ports) l = record { listens = l.listens; served = l.served; ended = l.ended }
    left (ends.Store fault) l = l
    left ends.NoMem (inl n) = inl (record { none = n.none; ports = n.ports })
    left ends.NoMem (inr b) = inr (record { listens = b.listens; served = λ told. let s = b.served told in record { count = s.count; each = s.each; known = s.known } })

module _ {X : Type 0} (set : ℕ → Settings) (texts : List (List ℕ)) (lanes : ℕ) (asked : Listening) (old new : ServerWorld X) where
  -- the store of one of the lanes wasn't opened for a cause
  lane_cause : (end : End) → RunsTo set texts lanes asked old new end → (fault : StoreFault) → end ≡ ends.Store fault → HasLaneCause lanes old new fault
  lane_cause (ends.Over ports) r fault e = absurd (cc)
  lane_cause ends.NoMem r fault e = absurd (cc)
  lane_cause (ends.Store other) r fault e = record {
    lane = r.stores.opened;
    is_one = r.stores.some;
    cause = λ found left was is.
        let at = there old.bays r.placed r.stores.opened found r.are_placed.count was in
        let mid : X = get_or r.placed r.stores.opened found in
        store_cause_before old.disk_tells (old.view found).disk (old.view mid).disk (r.are_placed.alone r.stores.opened found mid was at) r.stores.opened lanes (old.view left).disk fault ((r.stores.unopened mid left r.stores.some at is).cause fault e);
  }

  pub complete_links : CompletesLinks set texts lanes asked old new
  complete_links ports run told ports_told worker before after was is =
      completes_lanes old.disk_tells told old.view set texts lanes run.stores.opened run.placed new.bays run.turns (kept_by run told) worker before after ((run.links.served ports_told).each worker before after was is)

  pub runs_as : (end : End) (status : Status) → status ≡ told end → RunsTo set texts lanes asked old new end → KeepLanesApart set texts lanes asked old new → RunsAs set texts lanes asked old new status
  runs_as end status is run apart = record { end = end; is = is; run = run; cause = lane_cause end run; complete = complete_links; apart = apart }

  runs_told : (end : End) → RunsTo set texts lanes asked old new end → RunsServe set texts lanes asked old new (told end)
  runs_told (ends.Over Stopped) r = r
  runs_told (ends.Over Failed) r = r
  runs_told (ends.Store fault) r = r
  runs_told ends.NoMem r = r

-- the jobs of each lane came to it, by how the run ended
module _ {X : Type 0} (lanes : ℕ) (asked : Listening) (old new : ServerWorld X) (turns : ℕ → List LaneTurn) (ports_told : old.ports_tell) where
  of_part : ServesPart lanes old new turns → ArePut lanes (length old.ports) turns
  of_part s = record {
    each = λ w less.
        let (before, was) = there_at old.ports w less in
        let (after, is) = there_at new.ports w (let count = s.count in omega (arith, less, count)) in
        (before, after, s.each w before after was is);
    known = s.known;
  }

  came_ports : (end : End) (opened : ℕ) → OpensSome end lanes opened → (opened < lanes → (l : ℕ) → turns l ≡ []) → EndsPorts lanes asked old new turns end → (l : ℕ) → CameTo l lanes (jobs_in (turns l))
  came_ports (ends.Over ports) opened some idle links = served_jobs (λ l. old.disk_tells) lanes turns old.ports new.ports (links.served ports_told)
  came_ports (ends.Store fault) opened some idle same = came_none lanes turns (idle some)
  came_ports ends.NoMem opened some idle (inl never) = came_none lanes turns never.none
  came_ports ends.NoMem opened some idle (inr broke) = put_jobs lanes (length old.ports) turns (of_part (broke.served ports_told))

-- what is known of the disks of a world: a crash now leaves nothing but what it may leave now
abbrev pub OnlyNow : {X : Type 0} → ServerWorld X → Type 0
OnlyNow {X} old = old.disk_tells → (bay : X) (image : Image) → (old.view bay).disk.crash_images_at (old.view bay).disk.moment image → IsCrashImage (old.view bay).disk image

pub apart_lanes : {X : Type 0} (kind : Kind) (log_exit : Bool) (texts : List (List ℕ)) (lanes : ℕ) (asked : Listening) (old new : ServerWorld X) → OnlyNow old → KeepLanesApart (λ l. lane_settings l lanes kind log_exit) texts lanes asked old new
apart_lanes kind log_exit texts lanes asked old new only_now end run told ports_told =
    keep_apart old.disk_tells old.tape_tells told old.view (only_now told) kind log_exit texts lanes run.placed new.bays end run.turns run.stores
    (came_ports lanes asked old new run.turns ports_told end run.stores.opened run.stores.some run.stores.idle run.links)

cause_told : {X : Type 0} (lines : List Placed) (faults faults' lanes : ℕ) (old new : ServerWorld X) (end : End) → first_refused lines ≡ None → ((fault : StoreFault) → end ≡ ends.Store fault → HasLaneCause lanes old new fault) → HasServeCause lines faults faults' lanes old new (told end)
cause_told lines faults faults' lanes old new (ends.Over Stopped) none c = none
cause_told lines faults faults' lanes old new (ends.Over Failed) none c = none
cause_told lines faults faults' lanes old new (ends.Store fault) none c = (none, c fault refl)
cause_told lines faults faults' lanes old new ends.NoMem none c = tt

pub places_told : {X : Type 0} (view : X → BayView) (logs events : List ℕ) (olds news : List X) (end : End) → HavePlaces view logs events news → HavePlacesAt view logs events olds news (told end)
places_told view logs events olds news (ends.Over Stopped) have l old new was is = have l new is
places_told view logs events olds news (ends.Over Failed) have l old new was is = have l new is
places_told view logs events olds news (ends.Store fault) have l old new was is = have l new is
places_told view logs events olds news ends.NoMem have l old new was is = inl (have l new is)

-- the next run may begin with the disks
module _ {X : Type 0} (kind : Kind) (log_exit : Bool) (texts : List (List ℕ)) (lanes : ℕ) (asked : Listening) (old new : ServerWorld X) (end : End) (tells : old.disk_tells)
    (is_now : (bay : X) (image : Image) → IsCrashImage (old.view bay).disk image → (old.view bay).disk.crash_images_at (old.view bay).disk.moment image) (run : RunsTo (λ l. lane_settings l lanes kind log_exit) texts lanes asked old new end) where
  -- the numbers of a lane fit after the run, by whether its store was opened
  fit_lane : (l : ℕ) (mid left : X) → l < lanes → slice_get run.placed l ≡ Some mid → slice_get new.bays l ≡ Some left → Beside l run.stores.opened
      → NumbersFit (reading_of l lanes) l lanes (IsCrashImage (old.view mid).disk) → NumbersFit (reading_of l lanes) l lanes (IsCrashImage (old.view left).disk)
  fit_lane l mid left below was is (lower less) fit = fit_kept _ (lane_settings l lanes kind log_exit) texts (old.view mid).disk (old.view left).disk (run.turns l) ((run.stores.kept l mid left less was is).keeps tells) (is_now left) fit
  fit_lane l mid left below was is (level e) fit =
      let here : run.stores.opened < lanes = omega (arith, below, e) in
      let was_here : slice_get run.placed run.stores.opened ≡ Some mid = subst (λ (n : ℕ). slice_get run.placed n ≡ Some mid) e was in
      let is_here : slice_get new.bays run.stores.opened ≡ Some left = subst (λ (n : ℕ). slice_get new.bays n ≡ Some left) e is in
      let kept = (run.stores.unopened mid left here was_here is_here).run.keeps tells in
      let moved : NumbersFit (reading_of run.stores.opened lanes) run.stores.opened lanes (IsCrashImage (old.view mid).disk) = subst (λ (n : ℕ). NumbersFit (reading_of n lanes) n lanes (IsCrashImage (old.view mid).disk)) e fit in
      let after : NumbersFit (reading_of run.stores.opened lanes) run.stores.opened lanes (IsCrashImage (old.view left).disk) = fit_kept _ (lane_settings run.stores.opened lanes kind log_exit) texts (old.view mid).disk (old.view left).disk [] kept (is_now left) moved in
      subst (λ (n : ℕ). NumbersFit (reading_of n lanes) n lanes (IsCrashImage (old.view left).disk)) (sym e) after
  fit_lane l mid left below was is (higher more) fit = subst (λ (b : X). NumbersFit (reading_of l lanes) l lanes (IsCrashImage (old.view b).disk)) (sym (run.stores.beside l mid left (inl more) was is)) fit

  pub serves_again : AreFreshBays old.view lanes new.bays → MayServeLanes old.view lanes old.bays new.bays
  serves_again fresh l found left below was is =
      let at = there old.bays run.placed l found run.are_placed.count was in
      let mid : X = get_or run.placed l found in
      record {
        fresh = λ it. fresh l left below is;
        fits = λ fit. fit_lane l mid left below at is (beside l run.stores.opened) (fits_after (old.view found).disk (old.view mid).disk ((run.are_placed.alone l found mid was at).untouched tells) (reading_of l lanes) l lanes fit);
      }

pub may_serve_same : {X : Type 0} (view : X → BayView) (lanes : ℕ) (bays : List X) → MayServeLanes view lanes bays bays
may_serve_same {X} view lanes bays l old new below was is = subst (λ (b : X). LaneMayServe l lanes (view old).disk (view b).disk) (same_one bays l old new was is) (record { fresh = λ it. it; fits = λ fit. fit })

-- what is said of a run by its options, is said of it by the settings that they are of
pub runs_set : {X : Type 0} (set : conf.Settings) (lanes : ℕ) (stop_after : Option ℕ) (old new : ServerWorld X) (status : Status) (form : Kind) (log_exit : Bool) (prompts : List (List ℕ)) (listen : List ℕ) → form ≡ set.format → log_exit ≡ set.log_exit → prompts ≡ prompts_of set → listen ≡ set.listen
    → RunsAs (λ l. lane_settings l lanes form log_exit) prompts lanes (record { address = listen; stop_after = stop_after }) old new status → RunsAs (machines_of set lanes) (prompts_of set) lanes (listening_by set stop_after) old new status
runs_set set lanes stop_after old new status form log_exit prompts listen f e p a r =
    subst (λ (k : Kind). RunsAs (λ (l : ℕ). lane_settings l lanes k set.log_exit) (prompts_of set) lanes (listening_by set stop_after) old new status) f
    (subst (λ (b : Bool). RunsAs (λ (l : ℕ). lane_settings l lanes form b) (prompts_of set) lanes (listening_by set stop_after) old new status) e
    (subst (λ (t : List (List ℕ)). RunsAs (λ (l : ℕ). lane_settings l lanes form log_exit) t lanes (listening_by set stop_after) old new status) p
    (subst (λ (address : List ℕ). RunsAs (λ (l : ℕ). lane_settings l lanes form log_exit) prompts lanes (record { address = address; stop_after = stop_after }) old new status) a r)))

-- a run whose settings were read
pub serves_read : {X : Type 0} (lanes : ℕ) (stop_after : Option ℕ) (found : Option (List ℕ)) (faults faults' : ℕ) (old new : ServerWorld X) (status : Status) → first_refused (lines_in found) ≡ None
    → RunsAs (machines_of (set_by found) lanes) (prompts_of (set_by found)) lanes (listening_by (set_by found) stop_after) old new status → (old.disk_tells → HavePlacesAt old.view (set_by found).iolog_dir (set_by found).path old.bays new.bays status)
    → (old.disk_tells → MayServeLanes old.view lanes old.bays new.bays) → ServesAs lanes stop_after found faults faults' old new status
serves_read lanes stop_after found faults faults' old new status none r places again = record {
  runs = subst (RunsServe (machines_of (set_by found) lanes) (prompts_of (set_by found)) lanes (listening_by (set_by found) stop_after) old new) (sym r.is)
      (runs_told (machines_of (set_by found) lanes) (prompts_of (set_by found)) lanes (listening_by (set_by found) stop_after) old new r.end r.run);
  cause = subst (HasServeCause (lines_in found) faults faults' lanes old new) (sym r.is) (cause_told (lines_in found) faults faults' lanes old new r.end none r.cause);
  complete = r.complete;
  apart = r.apart;
  places = places;
  again = again;
}

-- a run whose settings weren't read
pub serves_unread : {X : Type 0} (lanes : ℕ) (stop_after : Option ℕ) (found : Option (List ℕ)) (faults faults' : ℕ) (old : ServerWorld X) (status : Status)
    → (old.disk_tells → (bay : X) (image : Image) → (old.view bay).disk.crash_images_at (old.view bay).disk.moment image → IsCrashImage (old.view bay).disk image) → Unread (lines_in found) faults faults' status
    → ServesAs lanes stop_after found faults faults' old old status
serves_unread {X} lanes stop_after found faults faults' old status only_now (inl e) = subst (ServesAs lanes stop_after found faults faults' old old) (sym e) (record {
  runs = idle_run (machines_of (set_by found) lanes) (prompts_of (set_by found)) lanes (listening_by (set_by found) stop_after) old old.ports only_now refl;
  cause = tt;
  complete = complete_links (machines_of (set_by found) lanes) (prompts_of (set_by found)) lanes (listening_by (set_by found) stop_after) old old;
  apart = apart_lanes (set_by found).format (set_by found).log_exit (prompts_of (set_by found)) lanes (listening_by (set_by found) stop_after) old old only_now;
  places = λ tells l before after was is. inr (ap (λ (b : X). (old.view b).disk.places) (same_one old.bays l after before is was));
  again = λ tells. may_serve_same old.view lanes old.bays;
})
serves_unread {X} lanes stop_after found faults faults' old status only_now (inr (line, e, c)) = subst (ServesAs lanes stop_after found faults faults' old old) (sym e) (record {
  runs = record { bays = refl; ports = refl };
  cause = c;
  complete = complete_links (machines_of (set_by found) lanes) (prompts_of (set_by found)) lanes (listening_by (set_by found) stop_after) old old;
  apart = apart_lanes (set_by found).format (set_by found).log_exit (prompts_of (set_by found)) lanes (listening_by (set_by found) stop_after) old old only_now;
  places = λ tells l before after was is. ap (λ (b : X). (old.view b).disk.places) (same_one old.bays l after before is was);
  again = λ tells. may_serve_same old.view lanes old.bays;
})
