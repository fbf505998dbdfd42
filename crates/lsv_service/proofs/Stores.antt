-- What a run leaves of the stores of its lanes: of those that were opened, of one that couldn't be, and of the bays beside them.
use Rattle.std.proofs.Common.{◌≡◌, ◌≢◌, ◌≤◌, ◌<◌, ◌+◌, ℕ, suc, List, [], ◌∷◌, ◌++◌, drop, length, Some, None, refl, sym, ap, ◌∙◌, subst, inl, inr, append-nil, append_assoc, arith}
use Rattle.std.specs.Prelude.{Bool, slice_get}
use Rattle.std.proofs.lemmas.List.{length-append}
use Rattle.std.proofs.lemmas.Option.{slice_get_within}
use Rattle.atomic_table.specs.Seated.{TableId}
use Rattle.lsv_disk.specs.View.{DiskView, Image, IsCrashImage}
use Rattle.lsv_disk.specs.declared.disk.Disk
use Rattle.lsv_disk.specs.declared.file.Owner.{Owner}
use Rattle.lsv_event.specs.declared.event.Kind.{Kind}
use Rattle.lsv_keeper.specs.declared.fault.StoreFault.{StoreFault}
use Rattle.lsv_keeper.specs.declared.fault.StoreFault.TheVariants as faults
use Rattle.lsv_keeper.specs.Opening.{IsStoreFault, KeepsEntry}
use Rattle.lsv_machine.specs.Machine.{Settings}
use Rattle.lsv_seq.specs.Drawn.{entry_at}
use Rattle.lsv_turn.specs.Turns.{AreTaken, LaneTurn}
use Rattle.lsv_turn.specs.declared.tape.Tape
use Rattle.lsv_lane.specs.InnerLane.{Begun}
use Rattle.lsv_lane.specs.Store.{HasStoreCause, IsFresh, KeepsStore, OwnerFailed, end_of_fault, lane_settings}
use Rattle.lsv_lane.specs.declared.bay.Bay.{Bay}
use Rattle.lsv_lane.proofs.Conforming.{keeps_less}
use Rattle.lsv_reactor.specs.declared.rounds.PortsEnd.{PortsEnd}
use Rattle.lsv_service.specs.InnerRun.{AreOpened, GiveBays, GivesBay, IsRefused, LeavesBay, LeavesStores, RefusesOne, begin_of}
use Rattle.lsv_service.specs.Lanes.{AreFreshBays, BayView, IsBeside, IsUnopened, OpensSome, bay_by, end_of_open}
use Rattle.lsv_service.specs.Runs.{HasTurns, IsUp, RunsStore}
use Rattle.lsv_service.specs.declared.run.End.{End}
use Rattle.lsv_service.specs.declared.run.End.TheVariants.{Over, Store, NoMem}
use Rattle.lsv_service.proofs.Idle.{keeps_nothing}
use Rattle.lsv_service.proofs.Places.{front_at, low_or, one_there, rest_at, rest_length, seam_at, snoc_or, there_at, zip_at, zip_length}

-- ---- How a run ends

pub no_store : (end : End) (fault : StoreFault) → end_of_open end ≡ Store fault → ⊥
no_store (Over ports) fault e = cc
no_store (Store other) fault e = cc
no_store NoMem fault e = cc

has_turns : (end : End) (turns : List LaneTurn) → ((fault : StoreFault) → end ≡ Store fault → ⊥) → HasTurns end turns
has_turns (Over ports) turns opened = tt
has_turns (Store fault) turns opened = absurd (opened fault refl)
has_turns NoMem turns opened = tt

-- all stores were opened
pub opens_all : (end : End) (lanes : ℕ) → ((fault : StoreFault) → end ≡ Store fault → ⊥) → OpensSome end lanes lanes
opens_all (Over ports) lanes opened = refl
opens_all (Store fault) lanes opened = absurd (opened fault refl)
opens_all NoMem lanes opened = omega arith

-- one wasn't
opens_less : (fault : StoreFault) (lanes opened : ℕ) → opened < lanes → OpensSome (end_of_fault Store NoMem fault) lanes opened
opens_less faults.NoMem lanes opened less = omega (arith, less)
opens_less (faults.Device o) lanes opened less = less
opens_less (faults.Damaged file) lanes opened less = less
opens_less (faults.LanesDiffer kept asked) lanes opened less = less

not_over : (fault : StoreFault) (ports : PortsEnd) → end_of_fault Store NoMem fault ≡ Over ports → ⊥
not_over faults.NoMem ports e = cc
not_over (faults.Device o) ports e = cc
not_over (faults.Damaged file) ports e = cc
not_over (faults.LanesDiffer kept asked) ports e = cc

has_none : (fault : StoreFault) → HasTurns (end_of_fault Store NoMem fault) []
has_none faults.NoMem = tt
has_none (faults.Device o) = refl
has_none (faults.Damaged file) = refl
has_none (faults.LanesDiffer kept asked) = refl

not_up : (fault : StoreFault) → IsUp (end_of_fault Store NoMem fault) [] → ⊥
not_up faults.NoMem up = up refl
not_up (faults.Device o) up = up
not_up (faults.Damaged file) up = up
not_up (faults.LanesDiffer kept asked) up = up

-- no turns are of any queue
pub none_taken : (queue : TableId) × AreTaken queue 0 []
none_taken = (record { words = 0; slots = 0; views_name = 0; atom = 0; block = 0; offset = 0; slot_names = [] }, tt)

store_is : (a b : StoreFault) → Store a ≡ Store b → a ≡ b
store_is a b e = cc

-- why the store wasn't opened, if it was for want of no memory
refused_cause : (tells : Type 0) (lane lanes : ℕ) (found left : DiskView) (fault told : StoreFault) → (tells → IsStoreFault lane lanes found.reads fault) → ((o : Owner) → fault ≡ faults.Device o → OwnerFailed o found left)
    → end_of_fault Store NoMem fault ≡ Store told → HasStoreCause tells lane lanes found left told
refused_cause tells lane lanes found left faults.NoMem told is failed e = absurd (cc)
refused_cause tells lane lanes found left (faults.Device o) told is failed e = subst (HasStoreCause tells lane lanes found left) (store_is (faults.Device o) told e) (record { memory = λ n. cc; is = is; failed = failed })
refused_cause tells lane lanes found left (faults.Damaged file) told is failed e = subst (HasStoreCause tells lane lanes found left) (store_is (faults.Damaged file) told e) (record { memory = λ n. cc; is = is; failed = failed })
refused_cause tells lane lanes found left (faults.LanesDiffer kept asked) told is failed e = subst (HasStoreCause tells lane lanes found left) (store_is (faults.LanesDiffer kept asked) told e) (record { memory = λ n. cc; is = is; failed = failed })

-- ---- A store that wasn't opened

-- what is left of the bay whose store couldn't be opened for this fault
pub refused : (tells taping : Type 0) (set : Settings) (texts : List (List ℕ)) (lane lanes : ℕ) (found left : BayView) (fault : StoreFault) → set.lane ≡ lane
    → (tells → IsStoreFault lane lanes found.disk.reads fault) → ((o : Owner) → fault ≡ faults.Device o → OwnerFailed o found.disk left.disk)
    → (tells → KeepsStore ⊥ set texts (record { found = found.disk; left = left.disk }) []) → (tells → IsFresh lane lanes left.disk)
    → (tells → entry_at lane found.disk.reads ≢ None → KeepsEntry lane found.disk left.disk) → (tells → left.disk.places ≡ found.disk.places) → left.tape ≡ found.tape
    → IsRefused tells taping set texts lane lanes found left fault
refused tells taping set texts lane lanes found left fault own is failed keeps fresh entry places tape = record {
  is = record {
    run = record {
      some = has_none fault;
      timed = tt;
      answered = λ some. absurd (some refl);
      entry = λ told e tell. subst (λ (n : ℕ). entry_at n found.disk.reads ≢ None → KeepsEntry n found.disk left.disk) (sym own) (entry tell);
      taped = λ tell. tape ∙ sym (append-nil found.tape);
      keeps = λ tell. keeps_less ⊥ (IsUp (end_of_fault Store NoMem fault) []) set texts (record { found = found.disk; left = left.disk }) [] (not_up fault) (keeps tell);
    };
    cause = λ told e. refused_cause tells lane lanes found.disk left.disk fault told is failed e;
    tape = λ told e. tape;
  };
  places = places;
  fresh = fresh;
}

-- what is known of a disk that tells: a crash now leaves nothing but what it may leave now
abbrev pub OnlyNow : DiskView → Type 0
OnlyNow disk = (image : Image) → disk.crash_images_at disk.moment image → IsCrashImage disk image

-- memory ran out before anything was done with the store
pub untouched : (tells taping : Type 0) (set : Settings) (texts : List (List ℕ)) (lane lanes : ℕ) (bay : BayView) → (tells → OnlyNow bay.disk) → IsUnopened tells taping set texts lane lanes bay bay NoMem
untouched tells taping set texts lane lanes bay only_now = record {
  run = record {
    some = tt;
    timed = tt;
    answered = λ some. absurd (some refl);
    entry = λ told e. absurd (cc);
    taped = λ tell. sym (append-nil bay.tape);
    keeps = λ tell. keeps_less ⊥ (IsUp NoMem []) set texts (record { found = bay.disk; left = bay.disk }) [] (λ up. up refl) (keeps_nothing bay.disk (only_now tell) set texts);
  };
  cause = λ told e. absurd (cc);
  tape = λ told e. refl;
}

pub refused_untouched : (tells taping : Type 0) (set : Settings) (texts : List (List ℕ)) (lane lanes : ℕ) (bay : BayView) → (tells → OnlyNow bay.disk) → (tells → IsFresh lane lanes bay.disk) → IsRefused tells taping set texts lane lanes bay bay faults.NoMem
refused_untouched tells taping set texts lane lanes bay only_now fresh = record { is = untouched tells taping set texts lane lanes bay only_now; places = λ tell. refl; fresh = fresh }

-- ---- Opening

-- no lane was opened yet
pub opened_none : {D C G L : Type 0} (made_by : Begun D G → L → List LaneTurn → Type 0) (set : ℕ → Settings) (texts : List (List ℕ)) (olds : List (Bay D C G)) → AreOpened made_by set texts olds []
opened_none made_by set texts olds = record { most = omega arith; each = λ l lane bay at. absurd (cc) }

-- one more was
pub opened_more : {D C G L : Type 0} (made_by : Begun D G → L → List LaneTurn → Type 0) (set : ℕ → Settings) (texts : List (List ℕ)) (olds : List (Bay D C G)) (lanes : List L) (lane : L) (bay : Bay D C G) → AreOpened made_by set texts olds lanes
    → slice_get olds (length lanes) ≡ Some bay → made_by (begin_of set texts (length lanes) bay) lane [] → AreOpened made_by set texts olds (lanes ++ lane ∷ [])
opened_more {D} {C} {G} {L} made_by set texts olds lanes lane bay are was made = record {
  most = let n = length-append lanes (lane ∷ []) in let l = slice_get_within olds (length lanes) bay was in omega (arith, n, l);
  each = λ l x found at there. elim (snoc_or lanes lane l x at) [
    | inl p ↦
        let same : bay ≡ found = one_there olds (length lanes) bay found was (subst (λ (m : ℕ). slice_get olds m ≡ Some found) p.0 there) in
        subst (λ (m : ℕ). made_by (begin_of set texts m found) x []) (sym p.0)
        (subst (λ (y : L). made_by (begin_of set texts (length lanes) found) y []) (sym p.1) (subst (λ (b : Bay D C G). made_by (begin_of set texts (length lanes) b) lane []) same made))
    | inr q ↦ are.each l x found q there
  ];
}

-- ---- All bays

-- the settings of each lane
abbrev pub set_of : Kind → Bool → (lanes : ℕ) → ℕ → Settings
set_of kind log_exit lanes l = lane_settings l lanes kind log_exit

module _ {D C G L : Type 0} (disk : Disk.Ghosts D) (tape : Tape.Ghosts G) (made_by : Begun D G → L → List LaneTurn → Type 0) (kind : Kind) (log_exit : Bool) (texts : List (List ℕ)) (lanes : ℕ) where
  abbrev view : Bay D C G → BayView
  view = bay_by disk tape

  -- a lane's run, by what it left of its bay
  lane_ran : (l : ℕ) (found left : Bay D C G) (end : End) (turns : List LaneTurn) → ((fault : StoreFault) → end ≡ Store fault → ⊥) → LeavesBay disk tape (begin_of (set_of kind log_exit lanes) texts l found) (view left) turns
      → RunsStore disk.tells tape.tells (set_of kind log_exit lanes l) texts (disk.view found.disk) (disk.view left.disk) (tape.turns found.tape) (tape.turns left.tape) end turns
  lane_ran l found left end turns opened leaves = record {
    some = has_turns end turns opened;
    timed = leaves.timed;
    answered = λ some. leaves.answered;
    entry = λ fault e. absurd (opened fault e);
    taped = leaves.taped;
    keeps = λ told. keeps_less (Unit {0}) (IsUp end turns) (set_of kind log_exit lanes l) texts (record { found = disk.view found.disk; left = disk.view left.disk }) turns (λ up. tt) (leaves.kept told);
  }

  module _ (olds : List (Bay D C G)) (given : List L) (backs : List (Bay D C G)) (give : GiveBays disk tape made_by given backs) where
    backs_size : length backs ≡ length given
    backs_size = zip_length (GivesBay disk tape made_by) given backs give

    -- what the lane at this place left
    lane_left : (l : ℕ) (left : Bay D C G) (rest : List (Bay D C G)) (start : Begun D G) (turns : List LaneTurn) → l < length given → ((lane : L) → slice_get given l ≡ Some lane → made_by start lane turns)
        → slice_get (backs ++ rest) l ≡ Some left → LeavesBay disk tape start (view left) turns
    lane_left l left rest start turns less made is =
        let low : l < length backs = (let e = backs_size in omega (arith, less, e)) in
        let here : slice_get backs l ≡ Some left = sym (front_at backs rest l low) ∙ is in
        let lane = there_at given l less in
        zip_at (GivesBay disk tape made_by) given backs l lane.0 left give lane.1 here start turns (made lane.0 lane.1)

    -- ---- All stores were opened

    module _ (rest : List (Bay D C G)) (turns : ℕ → List LaneTurn) (end : End) (size : length given ≡ lanes) (most : lanes ≤ length olds) (rest_is : rest ≡ drop lanes olds)
        (made : (l : ℕ) (lane : L) (found : Bay D C G) → slice_get given l ≡ Some lane → slice_get olds l ≡ Some found → made_by (begin_of (set_of kind log_exit lanes) texts l found) lane (turns l))
        (past : (l : ℕ) → lanes ≤ l → turns l ≡ []) (taken : (l : ℕ) → (queue : TableId) × AreTaken queue 0 (turns l)) (opened : (fault : StoreFault) → end ≡ Store fault → ⊥) where
      abbrev news : List (Bay D C G)
      news = backs ++ rest

      whole : news ≡ backs ++ drop (length backs) olds
      whole = ap (λ (ys : List (Bay D C G)). backs ++ ys) (rest_is ∙ ap (λ (n : ℕ). drop n olds) (sym (backs_size ∙ size)))

      ran : (l : ℕ) (found left : Bay D C G) → l < lanes → slice_get olds l ≡ Some found → slice_get news l ≡ Some left → LeavesBay disk tape (begin_of (set_of kind log_exit lanes) texts l found) (view left) (turns l)
      ran l found left less was is = lane_left l left rest (begin_of (set_of kind log_exit lanes) texts l found) (turns l) (omega (arith, less, size)) (λ lane at. made l lane found at was) is

      beside : (l : ℕ) (found left : Bay D C G) → lanes ≤ l → slice_get olds l ≡ Some found → slice_get news l ≡ Some left → left ≡ found
      beside l found left high was is =
          let long : length backs ≤ l = (let e = backs_size in omega (arith, high, e, size)) in
          one_there olds l left found (sym (rest_at backs olds l long) ∙ (sym (ap (λ (xs : List (Bay D C G)). slice_get xs l) whole) ∙ is)) was

      counted : length news ≡ length olds
      counted = ap length whole ∙ rest_length backs olds (let e = backs_size in omega (arith, most, e, size))

      pub leaves_served : LeavesStores view disk.tells tape.tells (set_of kind log_exit lanes) texts lanes olds news end turns
      leaves_served = record {
        runs = record {
          count = counted;
          opened = lanes;
          some = opens_all end lanes opened;
          past = past;
          idle = λ less. absurd (omega (arith, less));
          taken = taken;
          kept = λ l found left less was is. lane_ran l found left (end_of_open end) (turns l) (no_store end) (ran l found left less was is);
          unopened = λ found left less. absurd (omega (arith, less));
          beside = λ l found left far was is. beside l found left (after l far) was is;
        };
        places = λ told l found left was is. elim (low_or l lanes) [
          | inl less ↦ (ran l found left less was is).places told
          | inr high ↦ ap (λ (b : Bay D C G). (disk.view b.disk).places) (beside l found left high was is)
        ];
        fresh = λ told l left less is. let found = there_at olds l (omega (arith, less, most)) in (ran l found.0 left less found.1 is).fresh told;
      }
        where
          after : (l : ℕ) → IsBeside lanes lanes l → lanes ≤ l
          after l (inl more) = omega (arith, more)
          after l (inr high) = high

      -- each store was opened
      pub opened_all : leaves_served.runs.opened ≡ lanes
      unfolding leaves_served
      opened_all = refl

    -- ---- One couldn't be opened

    module _ (left : Bay D C G) (fault : StoreFault) (rest : List (Bay D C G)) (before : AreOpened made_by (set_of kind log_exit lanes) texts olds given) (one : RefusesOne disk tape (set_of kind log_exit lanes) texts lanes olds (length given) left fault rest) (fresh : disk.tells → AreFreshBays view lanes olds) where
      abbrev n : ℕ
      n = length given

      abbrev fronts : List (Bay D C G)
      fronts = backs ++ left ∷ []

      abbrev all : List (Bay D C G)
      all = fronts ++ rest

      fronts_size : length fronts ≡ n + 1
      fronts_size = let e = length-append backs (left ∷ []) in let s = backs_size in omega (arith, e, s)

      next : suc n ≡ length fronts
      next = let e = fronts_size in omega (arith, e)

      refused_whole : all ≡ fronts ++ drop (length fronts) olds
      refused_whole = ap (λ (ys : List (Bay D C G)). fronts ++ ys) (one.rest_is ∙ ap (λ (m : ℕ). drop m olds) next)

      low : n < length olds
      low = slice_get_within olds n one.found one.was

      ran_none : (l : ℕ) (found now : Bay D C G) → l < n → slice_get olds l ≡ Some found → slice_get all l ≡ Some now → LeavesBay disk tape (begin_of (set_of kind log_exit lanes) texts l found) (view now) []
      ran_none l found now less was is =
          lane_left l now ((left ∷ []) ++ rest) (begin_of (set_of kind log_exit lanes) texts l found) [] less (λ lane at. before.each l lane found at was) (subst (λ (xs : List (Bay D C G)). slice_get xs l ≡ Some now) (append_assoc backs (left ∷ []) rest) is)

      here : (found now : Bay D C G) → slice_get olds n ≡ Some found → slice_get all n ≡ Some now → IsRefused disk.tells tape.tells (set_of kind log_exit lanes n) texts n lanes (view found) (view now) fault
      here found now was is =
          let at : slice_get all n ≡ Some left = subst (λ (m : ℕ). slice_get all m ≡ Some left) backs_size (seam_at backs left rest) in
          subst (λ (b : Bay D C G). IsRefused disk.tells tape.tells (set_of kind log_exit lanes n) texts n lanes (view b) (view now) fault) (one_there olds n one.found found one.was was)
          (subst (λ (b : Bay D C G). IsRefused disk.tells tape.tells (set_of kind log_exit lanes n) texts n lanes (view one.found) (view b) fault) (one_there all n left now at is) one.refused)

      after_it : (l : ℕ) (found now : Bay D C G) → n < l → slice_get olds l ≡ Some found → slice_get all l ≡ Some now → now ≡ found
      after_it l found now more was is =
          let long : length fronts ≤ l = (let e = fronts_size in omega (arith, more, e)) in
          one_there olds l now found (sym (rest_at fronts olds l long) ∙ (sym (ap (λ (xs : List (Bay D C G)). slice_get xs l) refused_whole) ∙ is)) was

      refused_counted : length all ≡ length olds
      refused_counted = ap length refused_whole ∙ rest_length fronts olds (let e = fronts_size in let l = low in omega (arith, e, l))

      pub leaves_refused : LeavesStores view disk.tells tape.tells (set_of kind log_exit lanes) texts lanes olds all (end_of_fault Store NoMem fault) (λ l. [])
      leaves_refused = record {
        runs = record {
          count = refused_counted;
          opened = n;
          some = opens_less fault lanes n one.less;
          past = λ l high. refl;
          idle = λ less l. refl;
          taken = λ l. none_taken;
          kept = λ l found now less was is. lane_ran l found now (end_of_open (end_of_fault Store NoMem fault)) [] (no_store (end_of_fault Store NoMem fault)) (ran_none l found now less was is);
          unopened = λ found now less was is. (here found now was is).is;
          beside = λ l found now far was is. after_it l found now (beyond l far) was is;
        };
        places = λ told l found now was is. places_at told l found now was is;
        fresh = λ told l now less is. let found = there_at olds l (let c = refused_counted in let w = slice_get_within all l now is in omega (arith, c, w)) in fresh_at told l found.0 now less found.1 is;
      }
        where
          beyond : (l : ℕ) → IsBeside n lanes l → n < l
          beyond l (inl more) = more
          beyond l (inr high) = let less = one.less in omega (arith, less, high)

          at_n : (l : ℕ) → l < n + 1 → n ≤ l → l ≡ n
          at_n l below above = omega (arith, below, above)

          places_at : disk.tells → (l : ℕ) (x y : Bay D C G) → slice_get olds l ≡ Some x → slice_get all l ≡ Some y → (view y).disk.places ≡ (view x).disk.places
          places_at told l x y at is = elim (low_or l n) [
            | inl less ↦ (ran_none l x y less at is).places told
            | inr high ↦ elim (low_or l (n + 1)) [
              | inl below ↦
                  let e : l ≡ n = at_n l below high in
                  (here x y (subst (λ (m : ℕ). slice_get olds m ≡ Some x) e at) (subst (λ (m : ℕ). slice_get all m ≡ Some y) e is)).places told
              | inr over ↦ ap (λ (b : Bay D C G). (disk.view b.disk).places) (after_it l x y (omega (arith, over)) at is)
            ]
          ]

          fresh_at : disk.tells → (l : ℕ) (x y : Bay D C G) → l < lanes → slice_get olds l ≡ Some x → slice_get all l ≡ Some y → IsFresh l lanes (view y).disk
          fresh_at told l x y less at is = elim (low_or l n) [
            | inl low ↦ (ran_none l x y low at is).fresh told
            | inr high ↦ elim (low_or l (n + 1)) [
              | inl below ↦
                  let e : l ≡ n = at_n l below high in
                  subst (λ (m : ℕ). IsFresh m lanes (view y).disk) (sym e) ((here x y (subst (λ (m : ℕ). slice_get olds m ≡ Some x) e at) (subst (λ (m : ℕ). slice_get all m ≡ Some y) e is)).fresh told)
              | inr over ↦ subst (λ (b : Bay D C G). IsFresh l lanes (disk.view b.disk)) (sym (after_it l x y (omega (arith, over)) at is)) (fresh told l x less at)
            ]
          ]

-- ---- Nothing was done

pub leaves_untouched : {D C G : Type 0} (disk : Disk.Ghosts D) (tape : Tape.Ghosts G) (kind : Kind) (log_exit : Bool) (texts : List (List ℕ)) (lanes : ℕ) (olds : List (Bay D C G)) → 1 ≤ lanes → (disk.tells → (d : D) → OnlyNow (disk.view d)) → (disk.tells → AreFreshBays (bay_by disk tape) lanes olds) → LeavesStores (bay_by disk tape) disk.tells tape.tells (set_of kind log_exit lanes) texts lanes olds olds NoMem (λ l. [])
leaves_untouched {D} {C} {G} disk tape kind log_exit texts lanes olds some only_now fresh = record {
  runs = record {
    count = refl;
    opened = 0;
    some = omega arith;
    past = λ l high. refl;
    idle = λ less l. refl;
    taken = λ l. none_taken;
    kept = λ l found left less. absurd (omega (arith, less));
    unopened = λ found left less was is. subst (λ (b : Bay D C G). IsUnopened disk.tells tape.tells (set_of kind log_exit lanes 0) texts 0 lanes (bay_by disk tape found) (bay_by disk tape b) NoMem) (one_there olds 0 found left was is) (untouched disk.tells tape.tells (set_of kind log_exit lanes 0) texts 0 lanes (bay_by disk tape found) (λ told. only_now told found.disk));
    beside = λ l found left far was is. one_there olds l left found is was;
  };
  places = λ told l found left was is. ap (λ (b : Bay D C G). (disk.view b.disk).places) (one_there olds l left found is was);
  fresh = fresh;
}
