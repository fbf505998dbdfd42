-- A run as a whole, by what it did: a store couldn't be opened; or all were, and the endpoints were served.
use Rattle.std.proofs.Common.{◌≡◌, ◌≤◌, ℕ, List, [], ◌++◌, drop, length, get_or, Some, Result, sym, ap, ◌∙◌, subst, arith}
use Rattle.std.specs.Prelude.{Bool, slice_get}
use Rattle.std.proofs.lemmas.Option.{get_or_from_slice_get, slice_get-get_or, slice_get_within}
use Rattle.lsv_base.specs.declared.no_mem.NoMem.{NoMem as OutOfMemory}
use Rattle.lsv_disk.specs.declared.disk.Disk
use Rattle.lsv_event.specs.declared.event.Kind.{Kind}
use Rattle.lsv_keeper.specs.declared.fault.StoreFault.{StoreFault}
use Rattle.lsv_lane.specs.InnerLane.{Begun}
use Rattle.lsv_lane.specs.Store.{end_of_fault}
use Rattle.lsv_lane.specs.declared.bay.Bay.{Bay}
use Rattle.lsv_machine.specs.Machine.{Settings}
use Rattle.lsv_port.specs.Ledger.{Listening}
use Rattle.lsv_reactor.specs.declared.endpoint.Endpoint
use Rattle.lsv_reactor.specs.declared.rounds.PortsEnd.{PortsEnd}
use Rattle.lsv_threads.specs.Run.{AreFreshLanes}
use Rattle.lsv_turn.specs.Turns.{LaneTurn}
use Rattle.lsv_turn.specs.declared.lane.Lane
use Rattle.lsv_turn.specs.declared.tape.Tape
use Rattle.lsv_service.specs.InnerRun.{AreOpened, GiveBays, LeavesStores, ListenAndServe, RunsWhole, begin_of, end_of_serving}
use Rattle.lsv_service.specs.Lanes.{BayView, LeavesLinks, bay_by}
use Rattle.lsv_service.specs.declared.run.End.{End}
use Rattle.lsv_service.specs.declared.run.End.TheVariants.{Store, NoMem}
use Rattle.lsv_service.proofs.Places.{there_at}
use Rattle.lsv_service.proofs.RunLemmas.{keeps_links, leaves_links, served_opened}
use Rattle.lsv_service.proofs.Stores.{leaves_served, opened_all, set_of}

-- a store couldn't be opened
pub refused_whole : {T X : Type 0} (words : Endpoint.Ghosts T) (view : X → BayView) (tells taping : Type 0) (set : ℕ → Settings) (texts : List (List ℕ)) (lanes : ℕ) (starts : ℕ → words.Start) (asked : Listening) (olds news : List T) (bays left : List X) (fault : StoreFault) (end : End)
    → news ≡ olds → end ≡ end_of_fault Store NoMem fault → LeavesStores view tells taping set texts lanes bays left end (λ l. []) → RunsWhole words view tells taping set texts lanes starts asked olds news bays left end
refused_whole {T} words view tells taping set texts lanes starts asked olds news bays left fault end same ended s = record {
  runs = record {
    turns = λ l. [];
    stores = s.runs;
    count = ap length same;
    links = subst (λ (e : End). LeavesLinks words tells lanes starts asked olds news (λ l. []) e) (sym ended) (subst (λ (es : List T). LeavesLinks words tells lanes starts asked olds es (λ l. []) (end_of_fault Store NoMem fault)) (sym same) (keeps_links words tells lanes starts asked olds fault));
    order = λ less. same;
  };
  places = s.places;
  fresh = s.fresh;
}

-- ---- All stores were opened

module _ {T D C G L : Type 0} (words : Endpoint.Ghosts T) (disk : Disk.Ghosts D) (tape : Tape.Ghosts G) (made_by : Begun D G → L → List LaneTurn → Type 0) (kind : Kind) (log_exit : Bool) (texts : List (List ℕ)) (lanes : ℕ)
    (olds : List (Bay D C G)) (opened : List L) (size : length opened ≡ lanes) (some : 1 ≤ lanes) (are : AreOpened made_by (set_of kind log_exit lanes) texts olds opened) where
  -- what is known of the lanes
  abbrev pub lane_words : Lane.Ghosts L
  lane_words = record { tells = disk.tells; Start = Begun D G; made_by = made_by }

  most : lanes ≤ length olds
  most = let m = are.most in omega (arith, m, size)

  first : (bay : Bay D C G) × (slice_get olds 0 ≡ Some bay)
  first = there_at olds 0 (let m = most in omega (arith, m, some))

  -- from what each lane begins
  pub begins : ℕ → Begun D G
  begins l = begin_of (set_of kind log_exit lanes) texts l (get_or olds l first.0)

  pub fresh_lanes : AreFreshLanes lane_words opened begins
  unfolding begins
  fresh_lanes = record {
    begun = λ l lane at. are.each l lane (get_or olds l first.0) at (slice_get-get_or olds l first.0 (let w = slice_get_within opened l lane at in let m = most in omega (arith, w, m, size)));
  }

  pub served_whole : (starts : ℕ → words.Start) (asked : Listening) (before after : List T) (given : List L) (backs rest left : List (Bay D C G)) (served : Result PortsEnd OutOfMemory) (end : End)
      → ListenAndServe words lane_words starts begins asked before after lanes given served → GiveBays disk tape made_by given backs → rest ≡ drop lanes olds → left ≡ backs ++ rest → end ≡ end_of_serving served
      → RunsWhole words (bay_by disk tape) disk.tells tape.tells (set_of kind log_exit lanes) texts lanes starts asked before after olds left end
  unfolding begins
  served_whole starts asked before after given backs rest left served end run give rest_is left_is end_is =
      let s = run.served in
      let made : (l : ℕ) (lane : L) (found : Bay D C G) → slice_get given l ≡ Some lane → slice_get olds l ≡ Some found → made_by (begin_of (set_of kind log_exit lanes) texts l found) lane (s.turns l) =
      (λ l lane found at was. subst (λ (b : Bay D C G). made_by (begin_of (set_of kind log_exit lanes) texts l b) lane (s.turns l)) (get_or_from_slice_get olds l found first.0 was) (s.made l lane at)) in
      let stores = leaves_served disk tape made_by kind log_exit texts lanes olds given backs give rest s.turns (end_of_serving served) s.lanes_size most rest_is made s.past s.are (served_opened served) in
      let all : stores.runs.opened ≡ lanes = opened_all disk tape made_by kind log_exit texts lanes olds given backs give rest s.turns (end_of_serving served) s.lanes_size most rest_is made s.past s.are (served_opened served) in
      subst (λ (e : End). RunsWhole words (bay_by disk tape) disk.tells tape.tells (set_of kind log_exit lanes) texts lanes starts asked before after olds left e) (sym end_is)
      (subst (λ (bays : List (Bay D C G)). RunsWhole words (bay_by disk tape) disk.tells tape.tells (set_of kind log_exit lanes) texts lanes starts asked before after olds bays (end_of_serving served)) (sym left_is)
      (record {
        runs = record { turns = s.turns; stores = stores.runs; count = s.size ∙ run.size; links = leaves_links words disk.tells lanes starts asked before after s.turns served run.listens s.ended s.broken; order = λ less. absurd (omega (arith, less, all)) };
        places = stores.places;
        fresh = stores.fresh;
      }))
