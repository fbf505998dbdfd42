-- What a run makes of its endpoints: each is asked to listen, then they are served.
use Rattle.std.proofs.Common.{◌≡◌, ◌<◌, ◌+◌, [], List, ℕ, Some, length, get_or, refl, sym, subst, ◌∙◌, inl, inr, ⊎_elim, arith}
use Rattle.std.specs.Prelude.{Result, Ok, Err, slice_get}
use Rattle.std.proofs.Math.ListN.{set}
use Rattle.std.proofs.lemmas.Option.{slice_get-get_or, slice_get_within}
use Rattle.lsv_reactor.proofs.Own.{EqOr.equal, EqOr.unequal, eq_or}
use Rattle.lsv_reactor.proofs.Places.{set_here, set_there}
use Rattle.lsv_base.specs.declared.no_mem.NoMem.{NoMem as OutOfMemory}
use Rattle.lsv_defs.specs.Causes.{HasRisen}
use Rattle.lsv_keeper.specs.declared.fault.StoreFault.{StoreFault}
use Rattle.lsv_keeper.specs.declared.fault.StoreFault.TheVariants as faults
use Rattle.lsv_lane.specs.Store.{end_of_fault}
use Rattle.lsv_links.specs.Views.{PortView}
use Rattle.lsv_port.specs.Ledger.{Continues, Listening, WasAsked}
use Rattle.lsv_reactor.specs.Served.{KeepPorts}
use Rattle.lsv_reactor.specs.declared.endpoint.Endpoint
use Rattle.lsv_reactor.specs.declared.rounds.PortsEnd.{PortsEnd}
use Rattle.lsv_threads.specs.Served.{PutsLanes, ServesLanes}
use Rattle.lsv_turn.specs.Turns.{LaneTurn}
use Rattle.lsv_service.specs.InnerRun.{end_of_serving}
use Rattle.lsv_service.specs.Lanes.{LeavesLinks}
use Rattle.lsv_service.specs.Runs.{ListenAt, ListenFailed}
use Rattle.lsv_service.specs.declared.run.End.TheVariants.{Store, NoMem}

-- ---- What ports were asked to listen on

asked_on : (asked : Listening) (old mid new : PortView) → WasAsked asked (ListenFailed old mid) old.ledger mid.ledger → Continues mid.ledger new.ledger → WasAsked asked (ListenFailed old new) old.ledger new.ledger
asked_on asked old mid new was on =
    ⊎_elim (λ e. inl (on.listens ∙ e)) (λ f. inr (on.listens ∙ f.0, subst (λ (count : ℕ). HasRisen old.ledger.deaf count) (sym on.deaf) f.1)) was

mid_at : {T : Type 0} (olds mids : List T) (i : ℕ) (old : T) → length mids ≡ length olds → slice_get olds i ≡ Some old → (mid : T) × (slice_get mids i ≡ Some mid)
mid_at {T} olds mids i old count was =
    let less : i < length olds = slice_get_within olds i old was in
    (get_or mids i old, slice_get-get_or mids i old (omega (arith, less, count)))

-- ---- One endpoint after another begins to listen

some_one : {T : Type 0} (x y : T) → Some x ≡ Some y → x ≡ y
some_one {T} x y e = cc

-- what is said of each endpoint, where one was written
pub set_all : {T : Type 0} (P : ℕ → T → Type 0) (posts : List T) (place : ℕ) (y : T) → place < length posts → P place y → ((i : ℕ) (post : T) → slice_get posts i ≡ Some post → P i post) → (i : ℕ) (post : T) → slice_get (set posts place y) i ≡ Some post → P i post
set_all {T} P posts place y less at all i z e = elim (eq_or i place) [
  | equal p t ↦
      let there : slice_get (set posts place y) place ≡ Some z = subst (λ (k : ℕ). slice_get (set posts place y) k ≡ Some z) p e in
      subst (λ (k : ℕ). P k z) (sym p) (subst (P place) (sym (set_here posts place y z there less)) at)
  | unequal ne t ↦ all i z (set_there posts place i y z ne e)
]

-- the ports below this place were asked
abbrev pub AskedBelow : {T : Type 0} (view : T → PortView) (asked : Listening) (olds news : List T) → ℕ → Type 0
AskedBelow {T} view asked olds news place = (i : ℕ) (old new : T) → i < place → slice_get olds i ≡ Some old → slice_get news i ≡ Some new → WasAsked asked (ListenFailed (view old) (view new)) (view old).ledger (view new).ledger

asked_so : (asked : Listening) (F : Type 0) (old new : PortView) → (F → ListenFailed old new) → WasAsked asked F old.ledger new.ledger → WasAsked asked (ListenFailed old new) old.ledger new.ledger
asked_so asked F old new failed was = ⊎_elim (λ e. inl e) (λ f. inr (f.0, failed f.1)) was

-- and the one at this place
pub asked_more : {T : Type 0} (view : T → PortView) (asked : Listening) (olds posts : List T) (place : ℕ) (x y : T) (F : Type 0) → place < length posts → slice_get olds place ≡ Some x → (F → ListenFailed (view x) (view y)) → WasAsked asked F (view x).ledger (view y).ledger
    → AskedBelow view asked olds posts place → AskedBelow view asked olds (set posts place y) (place + 1)
asked_more {T} view asked olds posts place x y F less at failed was below i old new under before after = elim (eq_or i place) [
  | equal p t ↦
      let there : slice_get (set posts place y) place ≡ Some new = subst (λ (k : ℕ). slice_get (set posts place y) k ≡ Some new) p after in
      let same : x ≡ old = some_one x old (sym at ∙ subst (λ (k : ℕ). slice_get olds k ≡ Some old) p before) in
      subst (λ (o : T). WasAsked asked (ListenFailed (view o) (view new)) (view o).ledger (view new).ledger) same
      (subst (λ (n : T). WasAsked asked (ListenFailed (view x) (view n)) (view x).ledger (view n).ledger) (sym (set_here posts place y new there less)) (asked_so asked F (view x) (view y) failed was))
  | unequal ne t ↦ below i old new (omega (arith, under, ne)) before (set_there posts place i y new ne after)
]

-- they listen, and then serve
pub listen_on : {T : Type 0} (view : T → PortView) (asked : Listening) (olds mids news : List T) → length mids ≡ length olds → ListenAt view asked olds mids → KeepPorts view mids news → ListenAt view asked olds news
listen_on {T} view asked olds mids news count at keep i old new was is =
    let mid = mid_at olds mids i old count was in
    asked_on asked (view old) (view mid.0) (view new) (at i old mid.0 was mid.1) (keep i mid.0 new mid.1 is)

-- ---- How a run leaves its endpoints

-- the stores of all lanes were opened
pub leaves_links : {T : Type 0} (words : Endpoint.Ghosts T) (lane_tells : Type 0) (lanes : ℕ) (starts : ℕ → words.Start) (asked : Listening) (olds news : List T) (turns : ℕ → List LaneTurn) (end : Result PortsEnd OutOfMemory)
    → (words.tells → ListenAt words.view asked olds news) → ((ports : PortsEnd) → end ≡ Ok ports → ServesLanes words lane_tells lanes starts news turns ports) → ((why : OutOfMemory) → end ≡ Err why → PutsLanes words lanes starts news turns)
    → LeavesLinks words lane_tells lanes starts asked olds news turns (end_of_serving end)
leaves_links words lane_tells lanes starts asked olds news turns (Ok ports) at ended broken = (at, ended ports refl)
leaves_links words lane_tells lanes starts asked olds news turns (Err why) at ended broken = inr (at, broken why refl)

-- one wasn't
pub keeps_links : {T : Type 0} (words : Endpoint.Ghosts T) (lane_tells : Type 0) (lanes : ℕ) (starts : ℕ → words.Start) (asked : Listening) (olds : List T) (fault : StoreFault)
    → LeavesLinks words lane_tells lanes starts asked olds olds (λ l. []) (end_of_fault Store NoMem fault)
keeps_links words lane_tells lanes starts asked olds faults.NoMem = inl (λ l. refl, refl)
keeps_links words lane_tells lanes starts asked olds (faults.Device o) = refl
keeps_links words lane_tells lanes starts asked olds (faults.Damaged file) = refl
keeps_links words lane_tells lanes starts asked olds (faults.LanesDiffer kept asked_for) = refl

-- a run whose endpoints were served ended with no fault of a store
pub served_opened : (end : Result PortsEnd OutOfMemory) (fault : StoreFault) → end_of_serving end ≡ Store fault → ⊥
served_opened (Ok ports) fault e = cc
served_opened (Err why) fault e = cc
