-- The lane and the posts after a turn.
use Rattle.std.proofs.Common.{◌≡◌, ◌≤◌, ◌++◌, ◌∷◌, [], List, ℕ, length, sym, ap, subst, ◌∙◌, append-nil, arith, false, Option, Some, None}
use Rattle.std.specs.Prelude.{slice_get}
use Rattle.std.specs.List.{AllByRecursion}
use Rattle.std.proofs.lemmas.Grind.{flat_map-append}
use Rattle.lsv_session.specs.declared.job.Job.{Job}
use Rattle.lsv_session.specs.declared.reply.Reply.{Reply}
use Rattle.lsv_port.specs.Ledger.{Continues, PortLedger}
use Rattle.lsv_port.proofs.LedgerLemmas.{continues_same}
use Rattle.lsv_links.specs.Turns.{most_jobs}
use Rattle.lsv_links.specs.Views.{PortView}
use Rattle.lsv_turn.specs.Turns.{AreAskedIn, LaneTurn, replies_in}
use Rattle.lsv_reactor.specs.Calls.{call_of, calls_in}
use Rattle.lsv_reactor.specs.InnerLoop.{ArePosts, IsLane}
use Rattle.lsv_reactor.proofs.Own.{some_call}
use Rattle.lsv_reactor.proofs.OneLane.{none_of_one}

all_last : {A : Type 0} (P : A → Type 0) (xs : List A) (x : A) → AllByRecursion P xs → P x → AllByRecursion P (xs ++ x ∷ [])
all_last P [] x all is = (is, tt)
all_last P (y ∷ xs) x all is = (all.0, all_last P xs x all.1 is)

-- the calls after one turn more
calls_last : (turns : List LaneTurn) (t : LaneTurn) → 1 ≤ length t.jobs → calls_in (turns ++ t ∷ []) ≡ calls_in turns ++ call_of t.jobs
calls_last [] t some = sym (some_call t.jobs some)
calls_last (u ∷ turns) t some = ap (λ (l : List (List Job)). u.jobs ∷ l) (calls_last turns t some)

pub replies_last : (turns : List LaneTurn) (t : LaneTurn) → replies_in (turns ++ t ∷ []) ≡ replies_in turns ++ t.replies
replies_last turns t = flat_map-append (λ (u : LaneTurn). u.replies) turns (t ∷ []) ∙ ap (λ (l : List Reply). replies_in turns ++ l) (append-nil t.replies)

module _ {L M : Type 0} (tells : Type 0) (made_by : M → L → List LaneTurn → Type 0) (start : M) where
  -- the lane with one turn more
  pub lane_turned : (old new : L) (turns : List LaneTurn) (t : LaneTurn) → 1 ≤ length t.jobs → length t.jobs ≤ most_jobs → t.gap ≡ None
      → (made_by start old turns → made_by start new (turns ++ t ∷ [])) → (tells → made_by start old turns → AreAskedIn (turns ++ t ∷ []))
      → IsLane tells made_by start old turns → IsLane tells made_by start new (turns ++ t ∷ [])
  lane_turned old new turns t some few gap goes asked is = record { made = goes is.made; sized = all_last _ turns t is.sized (some, few, gap); asked = λ told. asked told is.made }

  -- and where it made none
  pub lane_kept : (old new : L) (turns : List LaneTurn) → (made_by start old turns → made_by start new turns) → IsLane tells made_by start old turns → IsLane tells made_by start new turns
  lane_kept old new turns goes is = record { made = goes is.made; sized = is.sized; asked = is.asked }

module _ {T S : Type 0} (number lanes : T → ℕ) (view : T → PortView) (made_by : S → T → (ℕ → List Job) → List Reply → Type 0) (called : T → List (List Job) → Type 0) where
  -- the posts, where the jobs that waited and the replies are those of one turn more
  pub posts_turned : (starts : ℕ → S) (ledgers : ℕ → PortLedger) (posts : List T) (turns : List LaneTurn) (t : LaneTurn) → 1 ≤ length t.jobs → ArePosts number lanes view made_by called starts ledgers posts (calls_in turns ++ call_of t.jobs) (replies_in turns ++ t.replies)
      → ArePosts number lanes view made_by called starts ledgers posts (calls_in (turns ++ t ∷ [])) (replies_in (turns ++ t ∷ []))
  posts_turned starts ledgers posts turns t some is =
      subst (λ (l : List Reply). ArePosts number lanes view made_by called starts ledgers posts (calls_in (turns ++ t ∷ [])) l) (sym (replies_last turns t))
      (subst (λ (l : List (List Job)). ArePosts number lanes view made_by called starts ledgers posts l (replies_in turns ++ t.replies)) (sym (calls_last turns t some)) is)

  -- where no job waits
  pub posts_none : (starts : ℕ → S) (ledgers : ℕ → PortLedger) (posts : List T) (calls : List (List Job)) (waiting : List Job) (replies : List Reply) → waiting ≡ [] → ArePosts number lanes view made_by called starts ledgers posts (calls ++ call_of waiting) replies
      → ArePosts number lanes view made_by called starts ledgers posts calls replies
  posts_none starts ledgers posts calls waiting replies none is = subst (λ (l : List (List Job)). ArePosts number lanes view made_by called starts ledgers posts l replies) (ap (λ (l : List Job). calls ++ call_of l) none ∙ append-nil calls) is

  -- posts that have done nothing
  pub posts_begin : (starts : ℕ → S) (ledgers : ℕ → PortLedger) (posts : List T) → ((start : S) (e : T) → made_by start e (λ lane. []) [] → called e []) → ((i : ℕ) (post : T) → slice_get posts i ≡ Some post → number post ≡ i) → ((i : ℕ) (post : T) → slice_get posts i ≡ Some post → lanes post ≡ 1) → ((i : ℕ) (post : T) → slice_get posts i ≡ Some post → Continues (ledgers i) (view post).ledger)
      → ((i : ℕ) (post : T) → slice_get posts i ≡ Some post → made_by (starts i) post (λ lane. []) []) → ArePosts number lanes view made_by called starts ledgers posts [] []
  posts_begin starts ledgers posts none numbered laned heard made = record {
    each = λ i post e. record {
      numbered = numbered i post e;
      laned = laned i post e;
      continues = heard i post e;
      made = subst (λ (f : ℕ → List Job). made_by (starts i) post f []) (sym none_of_one) (made i post e);
      answered = none (starts i) post (made i post e);
    };
    placed = tt;
  }

-- the ledger of the port of the post at each place
abbrev ledger_at : {T : Type 0} (view : T → PortView) → Option T → PortLedger
ledger_at {T} view None = record { script = []; listens = []; turned = false; deaf = 0; turns = 0; links = λ l. 0 }
ledger_at {T} view (Some post) = (view post).ledger

abbrev pub ledgers_of : {T : Type 0} (view : T → PortView) (posts : List T) → ℕ → PortLedger
ledgers_of {T} view posts i = ledger_at view (slice_get posts i)

pub is_ledger : {T : Type 0} (view : T → PortView) (posts : List T) (i : ℕ) (post : T) → slice_get posts i ≡ Some post → ledgers_of view posts i ≡ (view post).ledger
is_ledger {T} view posts i post e = ap (ledger_at view) e

pub are_ledgers : {T : Type 0} (view : T → PortView) (posts : List T) (i : ℕ) (post : T) → slice_get posts i ≡ Some post → Continues (ledgers_of view posts i) (view post).ledger
are_ledgers {T} view posts i post e = subst (λ (l : PortLedger). Continues l (view post).ledger) (sym (is_ledger view posts i post e)) (continues_same (view post).ledger)

none_are_asked : AreAskedIn []
none_are_asked = record { asked = λ k none. tt; behind = λ k before after r ends are to shut. absurd (no_reply before after r are) }
  where
    no_reply : (before after : List Reply) (r : Reply) → [] ≡ before ++ r ∷ after → ⊥
    no_reply [] after r e = cc
    no_reply (x ∷ before) after r e = cc

-- a lane that has made no turn
pub lane_begins : {L M : Type 0} (tells : Type 0) (made_by : M → L → List LaneTurn → Type 0) (start : M) (lane : L) → made_by start lane [] → IsLane tells made_by start lane []
lane_begins tells made_by start lane made = record { made = made; sized = tt; asked = λ told. none_are_asked }
