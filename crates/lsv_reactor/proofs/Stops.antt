-- The first posts were stopped, and one more.
use Rattle.std.proofs.Common.{◌≡◌, ◌≢◌, ◌<◌, ◌≤◌, ◌+◌, ◌++◌, [], List, ℕ, Some, length, get_or, sym, ap, subst, ◌∙◌, append-nil, arith}
use Rattle.std.specs.List.{AllByRecursion, Contains}
use Rattle.std.proofs.lemmas.Grind.{flat_map-append}
use Rattle.std.proofs.lemmas.List.{length-set}
use Rattle.std.proofs.lemmas.List.Elements.{Contains-append_left}
use Rattle.std.specs.Prelude.{slice_get}
use Rattle.std.proofs.Math.ListN.{set}
use Rattle.lsv_port.specs.Ledger.{Continues, PortLedger}
use Rattle.lsv_port.proofs.LedgerLemmas.{continues_then}
use Rattle.lsv_session.specs.declared.job.Job.{Job}
use Rattle.lsv_session.specs.declared.reply.Reply.{Reply}
use Rattle.lsv_links.specs.Lanes.{one_lane}
use Rattle.lsv_links.specs.Links.{PutsPrefixes}
use Rattle.lsv_links.specs.Turns.{replies_to}
use Rattle.lsv_links.specs.Views.{PortView}
use Rattle.lsv_turn.specs.Turns.{LaneTurn, jobs_in, replies_in}
use Rattle.lsv_reactor.specs.Calls.{IsOfOne, calls_in, calls_of, jobs_by}
use Rattle.lsv_reactor.specs.InnerLoop.{KeepLedgers, ArePosts, AreStopped, IsPost}
use Rattle.lsv_reactor.specs.Served.{PutsAll}
use Rattle.lsv_reactor.proofs.Own.{EqOr.equal, EqOr.unequal, eq_or, jobs_by_own, jobs_by_turns, within_calls}
use Rattle.lsv_reactor.proofs.Places.{set_here, set_there}
use Rattle.lsv_reactor.proofs.Ends.{puts_own, puts_turns}
use Rattle.lsv_reactor.proofs.OneLane.{puts_of_one}
use Rattle.std.proofs.lemmas.Option.{slice_get_within}

module _ {T S : Type 0} (tells : Type 0) (number lanes : T → ℕ) (made_by : S → T → (ℕ → List Job) → List Reply → Type 0) (called : T → List (List Job) → Type 0) (begun : S → PortView) (view : T → PortView) (starts : ℕ → S) (ledgers : ℕ → PortLedger) where
  pub stopped_none : (posts : List T) (calls : List (List Job)) (took : List Reply) → AllByRecursion (IsOfOne (length posts)) calls → AreStopped tells begun view starts ledgers posts calls took 0
  stopped_none posts calls took placed = record { continues = λ i post less e. absurd (omega (arith, less)); put = λ told i post less e. absurd (omega (arith, less)); placed = placed }

  -- what is said of the post at a place below this
  abbrev IsOf : (ℕ → T → Type 0) → List T → ℕ → Type 0
  IsOf P posts count = (i : ℕ) (post : T) → i < count → slice_get posts i ≡ Some post → P i post

  below_set : (P : ℕ → T → Type 0) (posts : List T) (place : ℕ) (y : T) → place < length posts → P place y → IsOf P posts place → IsOf P (set posts place y) (place + 1)
  below_set P posts place y less at below i z under e = elim (eq_or i place) [
    | equal p t ↦
        let there : slice_get (set posts place y) place ≡ Some z = subst (λ (k : ℕ). slice_get (set posts place y) k ≡ Some z) p e in
        subst (λ (k : ℕ). P k z) (sym p) (subst (P place) (sym (set_here posts place y z there less)) at)
    | unequal ne t ↦ below i z (omega (arith, under, ne)) (set_there posts place i y z ne e)
  ]

  -- the post at the next place is stopped
  pub stopped_more : (olds posts : List T) (place : ℕ) (x y : T) (calls : List (List Job)) (took : List Reply) → place < length posts → slice_get olds place ≡ Some x → Continues (view x).ledger (view y).ledger
      → (tells → (start : S) (gave : ℕ → List Job) (got : List Reply) → made_by start x gave got → PutsPrefixes (lanes x) (number x) gave (λ lane. got) (begun start) (view y))
      → ArePosts number lanes view made_by called starts ledgers olds calls took → AreStopped tells begun view starts ledgers posts calls took place → AreStopped tells begun view starts ledgers (set posts place y) calls took (place + 1)
  stopped_more olds posts place x y calls took less at heard put are below =
      let is : IsPost number lanes view made_by called (starts place) (ledgers place) place x calls took = are.each place x at in
      record {
        continues = below_set (λ i z. Continues (ledgers i) (view z).ledger) posts place y less (continues_then (ledgers place) (view x).ledger (view y).ledger is.continues heard) below.continues;
        put = λ told. below_set (λ i z. PutsPrefixes 1 i (λ lane. one_lane lane (jobs_by calls)) (λ lane. one_lane lane took) (begun (starts i)) (view z)) posts place y less
            (puts_own place (jobs_by calls) took (begun (starts place)) (view y)
            (subst (λ (l : List Job). PutsPrefixes 1 place (λ lane. one_lane lane l) (λ lane. one_lane lane (replies_to place took)) (begun (starts place)) (view y)) (jobs_by_own (length olds) place calls are.placed)
            (puts_of_one place (jobs_by (calls_of place calls)) (replies_to place took) (begun (starts place)) (view y)
            (subst (λ (n : ℕ). PutsPrefixes n place (λ lane. one_lane lane (jobs_by (calls_of place calls))) (λ lane. replies_to place took) (begun (starts place)) (view y)) is.laned
            (subst (λ (n : ℕ). PutsPrefixes (lanes x) n (λ lane. one_lane lane (jobs_by (calls_of place calls))) (λ lane. replies_to place took) (begun (starts place)) (view y)) is.numbered (put told (starts place) (λ lane. one_lane lane (jobs_by (calls_of place calls))) (replies_to place took) is.made))))))
            (below.put told);
        placed = subst (λ (n : ℕ). AllByRecursion (IsOfOne n) calls) (sym (length-set posts place y)) below.placed;
      }

  pub stopped_whole : (posts : List T) (calls : List (List Job)) (took : List Reply) (count : ℕ) → length posts ≤ count → AreStopped tells begun view starts ledgers posts calls took count → AreStopped tells begun view starts ledgers posts calls took (length posts)
  stopped_whole posts calls took count le s = record { continues = λ i post less e. s.continues i post (omega (arith, less, le)) e; put = λ told i post less e. s.put told i post (omega (arith, less, le)) e; placed = s.placed }

  -- where no call waits
  pub none_waits : (posts : List T) (calls : List (List Job)) (took : List Reply) (count : ℕ) → AreStopped tells begun view starts ledgers posts calls took count → AreStopped tells begun view starts ledgers posts (calls ++ []) took count
  none_waits posts calls took count s = subst (λ (l : List (List Job)). AreStopped tells begun view starts ledgers posts l took count) (sym (append-nil calls)) s

  -- and all of them
  pub stopped_all : (posts : List T) (turns : List LaneTurn) (waiting : List (List Job)) → AreStopped tells begun view starts ledgers posts (calls_in turns ++ waiting) (replies_in turns) (length posts) → PutsAll tells begun view starts posts turns
  stopped_all posts turns waiting s =
      let are : jobs_by (calls_in turns ++ waiting) ≡ jobs_in turns ++ jobs_by waiting = flat_map-append (λ (jobs : List Job). jobs) (calls_in turns) waiting ∙ ap (λ (l : List Job). l ++ jobs_by waiting) (jobs_by_turns turns) in
      record {
        each = λ told i post e.
            puts_turns i turns (jobs_by waiting) (begun (starts i)) (view post)
            (subst (λ (l : List Job). PutsPrefixes 1 i (λ lane. one_lane lane l) (λ lane. one_lane lane (replies_in turns)) (begun (starts i)) (view post)) are (s.put told i post (slice_get_within posts i post e) e));
        within = λ job has. within_calls (length posts) (calls_in turns ++ waiting) job s.placed (subst (λ (l : List Job). Contains l job) (sym are) (Contains-append_left (jobs_in turns) (jobs_by waiting) job has));
      }

  pub ledgers_all : (posts : List T) (calls : List (List Job)) (took : List Reply) → AreStopped tells begun view starts ledgers posts calls took (length posts) → KeepLedgers view ledgers posts
  ledgers_all posts calls took s i post e = s.continues i post (slice_get_within posts i post e) e
