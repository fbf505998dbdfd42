-- The lanes of a run keep apart.
use Rattle.std.proofs.Common.{◌≡◌, ◌<◌, ◌+◌, ℕ, List, [], ◌∷◌, ◌++◌, Some, length, map, refl, sym, ap, ◌∙◌, subst, inl, inr, arith, append_assoc}
use Rattle.std.specs.Prelude.{Bool, slice_get}
use Rattle.lsv_event.specs.declared.event.Kind.{Kind}
use Rattle.lsv_session.specs.declared.job.Job.{Job}
use Rattle.lsv_machine.specs.Failures.{Act}
use Rattle.lsv_machine.specs.Machine.{IsOfLane}
use Rattle.lsv_machine.specs.Recovery.{AnyTurnAsks, Turn, all_turns}
use Rattle.lsv_machine.specs.Turns.{Happened.Tailed, all_acted}
use Rattle.lsv_keeper.specs.Reading.{reading_of}
use Rattle.lsv_turn.specs.Turns.{LaneTurn, jobs_in, replies_in}
use Rattle.lsv_lane.specs.Store.{AreTurns, KeepsStore}
use Rattle.lsv_lanes.specs.Histories.{jobs_of}
use Rattle.lsv_lanes.specs.Jobs.{ArePut, CameTo}
use Rattle.lsv_lanes.proofs.Jobs.{jobs_append, keeps, put_jobs}
use Rattle.lsv_lanes.proofs.Together.{one_in_came, touches_named, touches_ran}
use Rattle.lsv_links.proofs.PrefixLemmas.{served_prefixes}
use Rattle.lsv_machine.specs.Disks.{TouchesStore}
use Rattle.lsv_machine.proofs.Folds.{touches_none}
use Rattle.lsv_port.specs.Ledger.{Listening}
use Rattle.lsv_reactor.specs.declared.endpoint.Endpoint
use Rattle.lsv_reactor.specs.declared.rounds.PortsEnd.{PortsEnd}
use Rattle.lsv_threads.specs.Served.{PutsLanes, ServesLanes}
use Rattle.lsv_service.specs.Apart.{KeepApart}
use Rattle.lsv_service.specs.Lanes.{BayView, LeavesLinks, OpensSome, RunsLanes, end_of_open}
use Rattle.lsv_service.specs.Runs.{IsUp}
use Rattle.lsv_service.specs.declared.run.End.{End}
use Rattle.lsv_service.specs.declared.run.End.TheVariants.{Over, Store, NoMem}
use Rattle.lsv_service.proofs.Places.{low_or, there_at}
use Rattle.lsv_service.proofs.Stores.{OnlyNow, set_of}

jobs_acted : (acts : List Act) → jobs_of (all_acted acts) ≡ map (λ act. act.job) acts
jobs_acted [] = refl
jobs_acted (act ∷ acts) = ap (λ (jobs : List Job). act.job ∷ jobs) (jobs_acted acts)

-- the jobs of the machine's turns are those of the lane's
jobs_turned : (lane : List LaneTurn) (turns : List Turn) → AreTurns lane turns → jobs_of (all_turns turns) ≡ jobs_in lane
jobs_turned [] [] are = refl
jobs_turned [] (turn ∷ turns) are = absurd are
jobs_turned (t ∷ lane) [] are = absurd are
jobs_turned (t ∷ lane) (turn ∷ turns) (is, are) =
    ap jobs_of (append_assoc (all_acted turn.acts) (Tailed turn.tail ∷ []) (all_turns turns))
    ∙ (jobs_append (all_acted turn.acts) (Tailed turn.tail ∷ all_turns turns)
    ∙ (ap (λ (jobs : List Job). jobs ++ jobs_of (all_turns turns)) (jobs_acted turn.acts ∙ is.jobs) ∙ ap (λ (jobs : List Job). t.jobs ++ jobs) (jobs_turned lane turns are)))

-- an opened lane's store is described as such, however the run ended
was_up : (end : End) (turns : List LaneTurn) → IsUp (end_of_open end) turns
was_up (Over ports) turns = tt
was_up (Store fault) turns = tt
was_up NoMem turns = tt

-- nobody asks for a log in no turns
nobody_asks : (turns : List Turn) (n : ℕ) (Any : Type 0) → AreTurns [] turns → AnyTurnAsks turns n → Any
nobody_asks [] n Any are asks = absurd asks
nobody_asks (t ∷ turns) n Any are asks = absurd are

-- a run whose lanes got these jobs
module _ {X : Type 0} (tells taping : Type 0) (told : tells) (view : X → BayView) (only_now : (bay : X) → OnlyNow (view bay).disk) (kind : Kind) (log_exit : Bool) (texts : List (List ℕ)) (lanes : ℕ) (olds news : List X) (end : End) (turns : ℕ → List LaneTurn)
    (runs : RunsLanes view tells taping (set_of kind log_exit lanes) texts lanes olds news end turns) (came : (l : ℕ) → CameTo l lanes (jobs_in (turns l))) where
  -- each opened lane touched its own files
  opened_own : (l : ℕ) (found left : X) → l < runs.opened → slice_get olds l ≡ Some found → slice_get news l ≡ Some left → TouchesStore l lanes (λ n. ⊥) (view found).disk (view left).disk
  opened_own l found left less was is =
      let kept : KeepsStore (IsUp (end_of_open end) (turns l)) (set_of kind log_exit lanes l) texts (record { found = (view found).disk; left = (view left).disk }) (turns l) = (runs.kept l found left less was is).keeps told in
      let conforms = kept.conforms (was_up end (turns l)) in
      let jobs : CameTo l lanes (jobs_of (all_turns kept.story.turns)) = subst (CameTo l lanes) (sym (jobs_turned (turns l) kept.story.turns kept.are)) (came l) in
      touches_ran (reading_of l lanes) (set_of kind log_exit lanes l) texts (record { found = (view found).disk; left = (view left).disk }) conforms.end kept.story conforms.ran (keeps (set_of kind log_exit lanes l) (all_turns kept.story.turns) jobs)

  -- so did one that wasn't opened
  unopened_own : (found left : X) → runs.opened < lanes → slice_get olds runs.opened ≡ Some found → slice_get news runs.opened ≡ Some left → TouchesStore runs.opened lanes (λ n. ⊥) (view found).disk (view left).disk
  unopened_own found left less was is =
      let kept = (runs.unopened found left less was is).run.keeps told in
      touches_named (view found).disk (view left).disk runs.opened lanes kept.story.turns kept.recovers.files (λ n asks. nobody_asks kept.story.turns n (IsOfLane runs.opened lanes n) kept.are asks)

  -- and the bays beside are as they were
  beside_own : (l : ℕ) (found left : X) → runs.opened < l → slice_get olds l ≡ Some found → slice_get news l ≡ Some left → TouchesStore l lanes (λ n. ⊥) (view found).disk (view left).disk
  beside_own l found left more was is =
      subst (λ (b : X). TouchesStore l lanes (λ n. ⊥) (view found).disk (view b).disk) (sym (runs.beside l found left (inl more) was is)) (touches_none l lanes (λ n. ⊥) (view found).disk (only_now found))

  own : (l : ℕ) (found left : X) → l < lanes → slice_get olds l ≡ Some found → slice_get news l ≡ Some left → TouchesStore l lanes (λ n. ⊥) (view found).disk (view left).disk
  own l found left small was is = elim (low_or l runs.opened) [
    | inl less ↦ opened_own l found left less was is
    | inr high ↦ elim (low_or l (runs.opened + 1)) [
      | inl below ↦
          let e : l ≡ runs.opened = omega (arith, high, below) in
          subst (λ (m : ℕ). TouchesStore m lanes (λ n. ⊥) (view found).disk (view left).disk) (sym e)
          (unopened_own found left (omega (arith, small, e)) (subst (λ (m : ℕ). slice_get olds m ≡ Some found) e was) (subst (λ (m : ℕ). slice_get news m ≡ Some left) e is))
      | inr over ↦ beside_own l found left (omega (arith, over)) was is
    ]
  ]

  pub keep_apart : KeepApart view lanes olds news turns
  keep_apart = record { came = came; own = own; one_writer = λ histories made. one_in_came lanes turns histories came made }

-- ---- The jobs of each lane, by how the run ended

-- no turn was made
pub came_none : (lanes : ℕ) (turns : ℕ → List LaneTurn) → ((l : ℕ) → turns l ≡ []) → (l : ℕ) → CameTo l lanes (jobs_in (turns l))
came_none lanes turns none l = subst (λ (ts : List LaneTurn). CameTo l lanes (jobs_in ts)) (sym (none l)) (record { decided = λ k m e. absurd (cc); ends = λ k. tt })

module _ {T : Type 0} (words : Endpoint.Ghosts T) (tell : words.tells) (lane_tells : Type 0) (lanes : ℕ) (starts : ℕ → words.Start) (asked : Listening) (olds news : List T) (turns : ℕ → List LaneTurn) where
  of_served : (ports : PortsEnd) → ServesLanes words lane_tells lanes starts news turns ports → ArePut lanes (length news) turns
  of_served ports s = record {
    each = λ w less. let (e, at) = there_at news w less in
        (words.begun (starts w), words.view e, served_prefixes (λ l. lane_tells) lanes w (λ m. jobs_in (turns m)) (λ m. replies_in (turns m)) (words.begun (starts w)) (words.view e) (s.each tell w e at));
    known = s.within;
  }

  of_put : PutsLanes words lanes starts news turns → ArePut lanes (length news) turns
  of_put s = record {
    each = λ w less. let (e, at) = there_at news w less in (words.begun (starts w), words.view e, s.each tell w e at);
    known = s.within;
  }

  pub came_links : (end : End) (opened : ℕ) → OpensSome end lanes opened → (opened < lanes → (l : ℕ) → turns l ≡ []) → LeavesLinks words lane_tells lanes starts asked olds news turns end → (l : ℕ) → CameTo l lanes (jobs_in (turns l))
  came_links (Over ports) opened some idle (at, s) = put_jobs lanes (length news) turns (of_served ports s)
  came_links (Store fault) opened some idle same = came_none lanes turns (idle some)
  came_links NoMem opened some idle (inl (none, same)) = came_none lanes turns none
  came_links NoMem opened some idle (inr (at, s)) = put_jobs lanes (length news) turns (of_put s)
