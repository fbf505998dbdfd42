-- The first posts have come to their ends, and one more.
use Rattle.std.proofs.Common.{◌≡◌, ◌<◌, ◌≤◌, ◌+◌, [], List, ℕ, Some, length, true, refl, sym, ap, subst, ◌∙◌, arith, ⊎_elim, ◌⊎◌}
use Rattle.std.specs.Prelude.{◌≢◌, slice_get}
use Rattle.std.proofs.lemmas.Option.{slice_get_within}
use Rattle.lsv_session.specs.declared.job.Job.{Job}
use Rattle.lsv_session.specs.declared.reply.Reply.{Reply}
use Rattle.std.specs.List.{Contains}
use Rattle.lsv_port.specs.Ledger.{PortLedger}
use Rattle.lsv_turn.specs.Turns.{AreAsked, LaneTurn, jobs_in, replies_in}
use Rattle.lsv_links.specs.Lanes.{one_lane}
use Rattle.lsv_links.specs.Links.{ServesPort}
use Rattle.lsv_links.specs.Turns.{jobs_of, replies_to}
use Rattle.lsv_links.specs.Views.{PortFailed, PortView}
use Rattle.lsv_reactor.specs.Calls.{calls_in, calls_of, jobs_by}
use Rattle.lsv_reactor.specs.Endpoints.{Serves}
use Rattle.lsv_reactor.specs.InnerLoop.{KeepLedgers, AreMade, AreOver, ArePosts, HasEndBelow, IsLane, worse}
use Rattle.lsv_reactor.specs.Served.{HasPortsEnd, ServesAll}
use Rattle.lsv_reactor.specs.declared.endpoint.EndpointEnd.{EndpointEnd}
use Rattle.lsv_reactor.specs.declared.endpoint.EndpointEnd.TheVariants as its_end
use Rattle.lsv_reactor.specs.declared.rounds.PortsEnd.{PortsEnd}
use Rattle.lsv_reactor.specs.declared.rounds.PortsEnd.TheVariants.{Stopped, Failed}
use Rattle.lsv_reactor.proofs.Own.{EqOr.equal, EqOr.unequal, eq_or, jobs_by_own, jobs_by_turns, within_calls}
use Rattle.lsv_reactor.proofs.Ends.{serves_own}
use Rattle.lsv_reactor.proofs.OneLane.{serves_of_one}

one_of : {A : Type 0} (x y : A) → Some x ≡ Some y → x ≡ y
one_of x y e = cc

module _ {T S : Type 0} (tells : Type 0) (number lanes : T → ℕ) (made_by : S → T → (ℕ → List Job) → List Reply → Type 0) (begun : S → PortView) (view : T → PortView) (starts : ℕ → S) (posts : List T) (gave : ℕ → ℕ → List Job) (took : ℕ → List Reply) where
  pub over_none : AreOver tells number lanes begun view starts posts gave took 0 Stopped
  over_none = record { each = λ told i post less e. absurd (omega (arith, less)); ended = λ told i post less e. absurd (omega (arith, less)) }

  -- a post that served its port
  abbrev pub ServesAt : T → ℕ → Type 0
  ServesAt post i = Serves (lanes post) (number post) (gave i) (took i) (begun (starts i)) (view post)

  each_more : (count : ℕ) (post : T) → slice_get posts count ≡ Some post → (tells → ServesAt post count) → (tells → (i : ℕ) (x : T) → i < count → slice_get posts i ≡ Some x → ServesAt x i)
      → tells → (i : ℕ) (x : T) → i < count + 1 → slice_get posts i ≡ Some x → ServesAt x i
  each_more count post at serves each told i x less e = elim (eq_or i count) [
    | equal p t ↦
        let same : slice_get posts count ≡ Some x = subst (λ (k : ℕ). slice_get posts k ≡ Some x) p e in
        let is : post ≡ x = one_of post x (sym at ∙ same) in
        subst (λ (k : ℕ). ServesAt x k) (sym p) (subst (λ (y : T). ServesAt y count) is (serves told))
    | unequal ne t ↦ each told i x (omega (arith, less, ne)) e
  ]

  stopped_more : (count : ℕ) (post : T) → slice_get posts count ≡ Some post → (tells → (view post).state.stopped ≡ true) → HasEndBelow tells begun view starts posts count Stopped → HasEndBelow tells begun view starts posts (count + 1) Stopped
  stopped_more count post at stopped below told i x less e = elim (eq_or i count) [
    | equal p t ↦
        let same : slice_get posts count ≡ Some x = subst (λ (k : ℕ). slice_get posts k ≡ Some x) p e in
        subst (λ (y : T). (view y).state.stopped ≡ true) (one_of post x (sym at ∙ same)) (stopped told)
    | unequal ne t ↦ below told i x (omega (arith, less, ne)) e
  ]

  ended_more : (count : ℕ) (post : T) (end : PortsEnd) → slice_get posts count ≡ Some post → (tells → (view post).state.stopped ≡ true) → HasEndBelow tells begun view starts posts count end → HasEndBelow tells begun view starts posts (count + 1) end
  ended_more count post Stopped at stopped below = stopped_more count post at stopped below
  ended_more count post Failed at stopped below = below

  pub over_more : (count : ℕ) (post : T) (end : PortsEnd) (its : EndpointEnd) → slice_get posts count ≡ Some post → its ≢ its_end.Lost
      → (tells → its ≡ its_end.Stopped → ServesAt post count × ((view post).state.stopped ≡ true)) → (tells → its ≡ its_end.Failed → ServesAt post count) → (its ≡ its_end.Failed → PortFailed (begun (starts count)) (view post))
      → AreOver tells number lanes begun view starts posts gave took count end → AreOver tells number lanes begun view starts posts gave took (count + 1) (worse end its)
  over_more count post end its_end.Stopped at lost stopped failed cause over = record {
    each = each_more count post at (λ told. (stopped told refl).0) over.each;
    ended = ended_more count post end at (λ told. (stopped told refl).1) over.ended;
  }
  over_more count post end its_end.Failed at lost stopped failed cause over = record { each = each_more count post at (λ told. failed told refl) over.each; ended = (count, (post, at, cause refl)) }
  over_more count post end its_end.Lost at lost stopped failed cause over = absurd (lost refl)

  all_ended : (end : PortsEnd) → HasEndBelow tells begun view starts posts (length posts) end → HasPortsEnd tells begun view starts posts end
  all_ended Stopped below = λ told i post e. below told i post (slice_get_within posts i post e) e
  all_ended Failed below = below

-- what posts have made of the turns of a lane, when all have come to their ends
pub served_all : {T S L M : Type 0} (tells lane_tells : Type 0) (number lanes : T → ℕ) (made_by : S → T → (ℕ → List Job) → List Reply → Type 0) (called : T → List (List Job) → Type 0) (begun : S → PortView) (view : T → PortView) (starts : ℕ → S) (ledgers : ℕ → PortLedger) (posts : List T) (lane_made : M → L → List LaneTurn → Type 0) (start : M) (lane : L) (turns : List LaneTurn) (end : PortsEnd)
    → ArePosts number lanes view made_by called starts ledgers posts (calls_in turns) (replies_in turns) → IsLane lane_tells lane_made start lane turns
    → ((gave : ℕ → ℕ → List Job) (took : ℕ → List Reply) → AreMade made_by starts posts gave took → AreOver tells number lanes begun view starts posts gave took (length posts) end)
    → ServesAll tells lane_tells made_by called begun view starts posts turns end
served_all {T} tells lane_tells number lanes made_by called begun view starts ledgers posts lane_made start lane turns end are is over =
    let o = over (λ i lane. one_lane lane (jobs_by (calls_of i (calls_in turns)))) (λ i. replies_to i (replies_in turns)) (λ i post e. (are.each i post e).made) in
    let mine : (i : ℕ) → jobs_by (calls_of i (calls_in turns)) ≡ jobs_of i (jobs_in turns) = λ i. jobs_by_own (length posts) i (calls_in turns) are.placed ∙ ap (jobs_of i) (jobs_by_turns turns) in
    record {
      each = λ told i post e.
          let p = are.each i post e in
          let jobs : List Job = jobs_by (calls_of i (calls_in turns)) in
          let mine_took : List Reply = replies_to i (replies_in turns) in
          let own : Serves (lanes post) (number post) (λ lane. one_lane lane jobs) mine_took (begun (starts i)) (view post) = o.each told i post (slice_get_within posts i post e) e in
          serves_own lane_tells i turns (begun (starts i)) (view post) is.asked
          (subst (λ (j : List Job). ServesPort (λ lane. AreAsked j mine_took) 1 i (λ lane. one_lane lane j) (λ lane. one_lane lane mine_took) (begun (starts i)) (view post)) (mine i)
          (serves_of_one i jobs mine_took (begun (starts i)) (view post)
          (subst (λ (w : ℕ). Serves 1 w (λ lane. one_lane lane jobs) mine_took (begun (starts i)) (view post)) p.numbered
          (subst (λ (n : ℕ). Serves n (number post) (λ lane. one_lane lane jobs) mine_took (begun (starts i)) (view post)) p.laned own))));
      within = λ job c. within_calls (length posts) (calls_in turns) job are.placed (subst (λ (l : List Job). Contains l job) (sym (jobs_by_turns turns)) c);
      calls = record {
        of_one = are.placed;
        answered = λ i post e. (are.each i post e).answered;
        made = λ i post e. subst (λ (l : List Job). made_by (starts i) post (λ lane. one_lane lane l) (replies_to i (replies_in turns))) (mine i) (are.each i post e).made;
      };
      ended = all_ended tells number lanes made_by begun view starts posts (λ i lane. one_lane lane (jobs_by (calls_of i (calls_in turns)))) (λ i. replies_to i (replies_in turns)) end o.ended;
    }

pub ledgers_kept : {T S : Type 0} (number lanes : T → ℕ) (made_by : S → T → (ℕ → List Job) → List Reply → Type 0) (called : T → List (List Job) → Type 0) (view : T → PortView) (starts : ℕ → S) (ledgers : ℕ → PortLedger) (posts : List T) (calls : List (List Job)) (took : List Reply)
    → ArePosts number lanes view made_by called starts ledgers posts calls took → KeepLedgers view ledgers posts
ledgers_kept {T} number lanes made_by called view starts ledgers posts calls took are i post e = (are.each i post e).continues
